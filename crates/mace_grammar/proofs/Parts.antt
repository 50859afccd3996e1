-- What a part of the grammar gives, where P holds of each token: an induction over parts, for whoever says something of all that a text spells.
use Rattle.std.proofs.Common.{◌≡◌, inl, inr, ℕ, zero, suc, List, [], ◌∷◌, ◌++◌, unwrap_or, Option, Some, None, sym, subst}
use Rattle.std.specs.List.{AllByRecursion}
use Rattle.mace_lexer.specs.declared.sign.Sign.TheVariants as s
use Rattle.mace_lexer.specs.declared.token.Token.{Token}
use Rattle.mace_grammar.specs.Part.{Part, pure, one, ◌>>=◌, ◌or◌, many, SpellsAll, maybe, nested_part, deep_part}
use Rattle.mace_grammar.specs.Grammar as g
use Rattle.mace_grammar.specs.Words as w

pub none_not : {X : Type 0} {x : X} → None ≡ Some x → ⊥
none_not e = cc

pub some_same : {X : Type 0} (a b : X) → Some a ≡ Some b → a ≡ b
some_same a b e = cc

-- of each item, and of one that may be left out
abbrev pub Each : {A : Type 0} → (A → Type 0) → List A → Type 0
Each S xs = AllByRecursion S xs

abbrev pub IfThere : {A : Type 0} → (A → Type 0) → Option A → Type 0
IfThere S None = Unit {0}
IfThere S (Some a) = S a

pub each_append : {A : Type 0} (S : A → Type 0) (xs ys : List A) → Each S xs → Each S ys → Each S (xs ++ ys)
each_append S [] ys h g = g
each_append S (x ∷ xs) ys h g = (h.0, each_append S xs ys h.1 g)

module _ (P : Token → Type 0) where
  -- of each value that such tokens spell
  pub record Gives {A : Type 0} (S : A → Type 0) (p : Part A) : Type 0 where
    pub so : (a : A) (ts : List Token) → Each P ts → p.Spells a ts → S a

  front : (u v : List Token) → Each P (u ++ v) → Each P u
  front [] v h = tt
  front (t ∷ u) v h = (h.0, front u v h.1)

  behind : (u v : List Token) → Each P (u ++ v) → Each P v
  behind [] v h = h
  behind (t ∷ u) v h = behind u v h.1

module _ {P : Token → Type 0} where
  pub any : {A : Type 0} (p : Part A) → Gives P (λ (a : A). Unit {0}) p
  any p = record { so = λ a ts st sp. tt }

  pub whole : {A : Type 0} {S : A → Type 0} (x : A) → S x → Gives P S (pure x)
  whole {S = S} x h = record { so = λ a ts st sp. subst S (sym sp.0) h }

  pub token : {A : Type 0} {S : A → Type 0} (f : Token → Option A) → ((t : Token) (a : A) → P t → f t ≡ Some a → S a) → Gives P S (one f)
  token f h = record { so = λ a ts st sp. let (t, e, is) = sp in let here = subst (Each P) e st in h t a here.0 is }

  pub next : {A B : Type 0} {S : A → Type 0} {T : B → Type 0} {p : Part A} {q : A → Part B} → Gives P S p → ((a : A) → S a → Gives P T (q a)) → Gives P T (p >>= q)
  next F G = record {
    so = λ b ts st sp. let (a, u, v, e, su, sv) = sp in let both = subst (Each P) e st in (G a (F.so a u (front P u v both) su)).so b v (behind P u v both) sv;
  }

  pub either : {A : Type 0} {S : A → Type 0} {p q : Part A} → Gives P S p → Gives P S q → Gives P S (p or q)
  either F G = record { so = λ a ts st sp. elim sp [ inl x ↦ F.so a ts st x | inr x ↦ G.so a ts st x ] }

  pub each : {A : Type 0} {S : A → Type 0} {p : Part A} → Gives P S p → Gives P (Each S) (many p)
  each {A = A} {S = S} {p = p} F = record { so = go }
    where
      go : (xs : List A) (ts : List Token) → Each P ts → SpellsAll p xs ts → Each S xs
      go [] ts st sp = tt
      go (a ∷ xs) ts st sp = let (u, v, e, su, sv) = sp in let both = subst (Each P) e st in (F.so a u (front P u v both) su, go xs v (behind P u v both) sv)

  pub perhaps : {A : Type 0} {S : A → Type 0} {p : Part A} → Gives P S p → Gives P (IfThere S) (maybe p)
  perhaps {A = A} {S = S} {p = p} F = record { so = go }
    where
      go : (o : Option A) (ts : List Token) → Each P ts → (maybe p).Spells o ts → IfThere S o
      go None ts st sp = tt
      go (Some a) ts st sp = F.so a ts st sp

  pub down : {A : Type 0} {S : A → Type 0} {body : Part A → Part A} → ((p : Part A) → Gives P S p → Gives P S (body p)) → Gives P S (deep_part body)
  down {A = A} {S = S} {body = body} F = record { so = λ a ts st sp. (go sp.0).so a ts st sp.1 }
    where
      go : (n : ℕ) → Gives P S (nested_part body n)
      go zero = record { so = λ a ts st sp. absurd sp }
      go (suc n) = F (nested_part body n) (go n)

  -- ---- lists with commas

  pub listed : {A : Type 0} {S : A → Type 0} (item : Part A) → Gives P S item → Gives P (Each S) (g.comma_list item)
  listed item F = next F (λ first f. next (each (next (any (w.sign s.Comma)) (λ at _. F))) (λ others os. whole (first ∷ others) (f, os)))

  pub in_parens : {A : Type 0} {S : A → Type 0} (item : Part A) → Gives P S item → Gives P (Each S) (g.in_parens item)
  in_parens {A = A} {S = S} item F = next (any (w.sign s.LeftParen)) (λ at _. next (perhaps (listed item F)) (λ found f. next (any (w.sign s.RightParen)) (λ to _. whole (unwrap_or found []) (items found f))))
    where
      items : (o : Option (List A)) → IfThere (Each S) o → Each S (unwrap_or o [])
      items None f = tt
      items (Some xs) f = f
