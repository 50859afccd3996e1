-- Classes that the test finds the same are equal, and the test is the one that the code has.
use Rattle.std.proofs.Common.{◌≡◌, List, [], ◌∷◌, true, ◌||◌, refl, sym, ◌∙◌, ap, arith, eqb-true}
use Rattle.std.specs.Prelude.{◌==◌}
use Rattle.std.specs.List.{list_any}
use Rattle.mace_lexer.specs.declared.keyword.Keyword.{Keyword}
use Rattle.mace_lexer.specs.declared.sign.Sign.{Sign}
use Rattle.mace_lexer.specs.Codes.{key_code, sign_code}
use Rattle.mace_lexer.specs.Spellings.{keywords, signs}
use Rattle.mace_lexer.specs.Words.{keyword, keyword_bytes, sign, sign_bytes, spelling_at}
use Rattle.mace_lexer.specs.contracts.keyword.KeywordPartialEq.TheImpl as keywords_eq
use Rattle.mace_lexer.specs.contracts.sign.SignPartialEq.TheImpl as signs_eq
use Rattle.mace_lexer.proofs.Tables.{keyword_again, sign_again}
use Rattle.mace_grammar.specs.declared.class.Class.{Class}
use Rattle.mace_grammar.specs.declared.class.Class.TheVariants as class
use Rattle.mace_grammar.specs.contracts.class.ClassPartialEq.TheImpl as classes_eq
use Rattle.mace_grammar.specs.inner.Classes.{class_eq}
use Rattle.mace_grammar.specs.inner.Run.{has}

key_same : (a b : Keyword) → key_code a ≡ key_code b → a ≡ b
unfolding keyword_bytes
key_same a b e = let same = sym (keyword_again a) ∙ ap (λ n. keyword (spelling_at keywords n)) e ∙ keyword_again b in cc

sign_same : (a b : Sign) → sign_code a ≡ sign_code b → a ≡ b
unfolding sign_bytes
sign_same a b e = let same = sym (sign_again a) ∙ ap (λ n. sign (spelling_at signs n)) e ∙ sign_again b in cc

pub class_same : (a b : Class) → class_eq a b ≡ true → a ≡ b
class_same class.Name class.Name e = refl
class_same class.Number class.Number e = refl
class_same class.Text class.Text e = refl
class_same class.Leave class.Leave e = refl
class_same class.Finish class.Finish e = refl
class_same (class.Key a) (class.Key b) e = ap class.Key (key_same a b (eqb-true (key_code a) (key_code b) e))
class_same (class.Sign a) (class.Sign b) e = ap class.Sign (sign_same a b (eqb-true (sign_code a) (sign_code b) e))
class_same _ _ e = cc

same_keys : (a b : Keyword) → keywords_eq.eq-value.it a b ≡ (key_code a == key_code b)
same_keys a b = grind arith

same_signs : (a b : Sign) → signs_eq.eq-value.it a b ≡ (sign_code a == sign_code b)
same_signs a b = grind arith

-- what `==` answers
eq_is : (a b : Class) → classes_eq.eq-value.it a b ≡ class_eq a b
eq_is (class.Key a) (class.Key b) = same_keys a b
eq_is (class.Sign a) (class.Sign b) = same_signs a b
eq_is a b = grind arith

-- what `contains` answers
pub contains_is : (set : List Class) (c : Class) → list_any (λ d. classes_eq.eq-value.it d c) set ≡ has set c
contains_is [] c = refl
contains_is (d ∷ set) c = λ i. eq_is d c i || contains_is set c i
