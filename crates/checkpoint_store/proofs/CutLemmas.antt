-- A text cut at each such byte.
use Rattle.std.proofs.Common.{◌≡◌, ℕ, true, false, if◌then◌else◌, List, [], ◌∷◌, ◌++◌, refl, sym, ap, ◌∙◌, append_assoc, arith}
use Rattle.std.specs.Prelude.{◌==◌}
use Rattle.std.specs.List.{list_all}
use Rattle.std.proofs.lemmas.Bool.{and_parts}
use Rattle.std.proofs.lemmas.Bool.Decides.{nat_tests}
use Rattle.wave_text.specs.Lines.{onto_first}
use Rattle.wave_text.specs.Splits.{is_other, HasNone, IsSplit}
use Rattle.checkpoint_store.specs.Forms.{cut_at}

is_self : (c : ℕ) → (c == c) ≡ true
is_self c = grind (arith, nat_tests)

is_not : (c b : ℕ) → is_other c b ≡ true → (b == c) ≡ false
is_not c b h = grind (arith, nat_tests)

pub cut_none : (c : ℕ) (w : List ℕ) → HasNone c w → cut_at c w ≡ w ∷ []
cut_none c [] h = refl
cut_none c (b ∷ bs) h =
    let k = and_parts (is_other c b) (list_all (is_other c) bs) h in
    ap (λ t. if t then [] ∷ cut_at c bs else onto_first b (cut_at c bs)) (is_not c b k.0) ∙ ap (onto_first b) (cut_none c bs k.1)

pub cut_some : (c : ℕ) (w rest : List ℕ) → HasNone c w → cut_at c (w ++ c ∷ rest) ≡ w ∷ cut_at c rest
cut_some c [] rest h = ap (λ t. if t then [] ∷ cut_at c rest else onto_first c (cut_at c rest)) (is_self c)
cut_some c (b ∷ bs) rest h =
    let k = and_parts (is_other c b) (list_all (is_other c) bs) h in
    ap (λ t. if t then [] ∷ cut_at c (bs ++ c ∷ rest) else onto_first b (cut_at c (bs ++ c ∷ rest))) (is_not c b k.0) ∙ ap (onto_first b) (cut_some c bs rest k.1)

pub cut_split : (c : ℕ) (text w rest : List ℕ) → IsSplit c text w rest → cut_at c text ≡ w ∷ cut_at c rest
cut_split c text w rest p = ap (cut_at c) p.spelled ∙ cut_some c w rest p.first

-- ---- as it is cut

pub word_cut : (c : ℕ) (words more : List (List ℕ)) (text rest word after w : List ℕ) → words ++ cut_at c rest ≡ cut_at c text → IsSplit c rest word after → w ≡ word → more ≡ words ++ w ∷ [] → more ++ cut_at c after ≡ cut_at c text
word_cut c words more text rest word after w h s same added =
    ap (λ ws. ws ++ cut_at c after) (added ∙ ap (λ x. words ++ x ∷ []) same) ∙ append_assoc words (word ∷ []) (cut_at c after) ∙ ap (λ ws. words ++ ws) (sym (cut_split c rest word after s)) ∙ h

pub all_cut : (c : ℕ) (words more : List (List ℕ)) (text rest w : List ℕ) → words ++ cut_at c rest ≡ cut_at c text → HasNone c rest → w ≡ rest → more ≡ words ++ w ∷ [] → more ≡ cut_at c text
all_cut c words more text rest w h none same added = added ∙ ap (λ x. words ++ x ∷ []) same ∙ ap (λ ws. words ++ ws) (sym (cut_none c rest none)) ∙ h
