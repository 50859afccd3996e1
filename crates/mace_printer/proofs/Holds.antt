-- What holds of every value that tokens spell, where each token's word can stand.
use Rattle.std.proofs.Common.{◌≡◌, ℕ, zero, suc, List, [], ◌∷◌, ◌++◌, Option, Some, None, Bool, true, false, refl, ⊎_elim, sym, subst}
use Rattle.std.specs.Prelude.{unwrap_or, ◌&&◌, if◌then◌else◌}
use Rattle.wave_base.specs.declared.span.Span.{Span}
use Rattle.mace_lexer.specs.declared.token.Token.{Token}
use Rattle.mace_lexer.specs.declared.token.Word.{Word}
use Rattle.mace_lexer.specs.declared.token.Word.TheVariants as word
use Rattle.mace_lexer.specs.declared.keyword.Keyword.TheVariants as k
use Rattle.mace_lexer.specs.declared.sign.Sign.TheVariants as s
use Rattle.mace_lexer.specs.Cuts.{Cuts, at_end, gap, spelled}
use Rattle.mace_ast.specs.declared.name.Name.{Name}
use Rattle.mace_grammar.specs.Part.{Part, pure, one, ◌>>=◌, ◌or◌, many, maybe, SpellsAll, SpellsMaybe, nested_part, deep_part}
use Rattle.mace_grammar.specs.Words as w
use Rattle.mace_grammar.specs.Words.{Edition}
use Rattle.mace_grammar.specs.Fits.{Each, IfThere, IsName}
use Rattle.mace_grammar.specs.Grammar as g
use Rattle.mace_printer.specs.Canon.{all_of, further_words, listed_words}
use Rattle.mace_printer.proofs.Standing.{CanStand, Stand, read_stands}

abbrev pub Good : List Token → Type 0
Good [] = Unit {0}
Good (t ∷ ts) = CanStand t.word × Good ts

pub cuts_good : {at : Span} {from : ℕ} {text : List ℕ} {ts : List Token} → Cuts at from text ts → Good ts
cuts_good at_end = tt
cuts_good (gap e c) = cuts_good c
cuts_good (spelled {n = n} {w = w} {text = text} e c) = (read_stands w _ e.piece, cuts_good c)

good_front : (u v : List Token) → Good (u ++ v) → Good u
good_front [] v h = tt
good_front (t ∷ u) v h = (h.0, good_front u v h.1)

good_back : (u v : List Token) → Good (u ++ v) → Good v
good_back [] v h = h
good_back (t ∷ u) v h = good_back u v h.1

pub stand_both : (us vs : List Word) → Stand us → Stand vs → Stand (us ++ vs)
stand_both [] vs h k = k
stand_both (u ∷ us) vs h k = (h.0, stand_both us vs h.1 k)

pub record Holds {A : Type 0} (P : A → Type 0) (p : Part A) : Type 0 where
  pub of : (a : A) (ts : List Token) → Good ts → p.Spells a ts → P a

pub any : {A : Type 0} (p : Part A) → Holds (λ _. Unit {0}) p
any p = record { of = λ a ts h s. tt }

pub pure_holds : {A : Type 0} (P : A → Type 0) (x : A) → P x → Holds P (pure x)
pure_holds P x h = record { of = λ a ts k s. subst P (sym s.0) h }

pub word_holds : {A : Type 0} (P : A → Type 0) (f : Token → Option A) → ((t : Token) (a : A) → CanStand t.word → f t ≡ Some a → P a) → Holds P (one f)
word_holds P f each = record { of = λ a ts h s. let (t, e, k) = s in each t a (subst Good e h).0 k }

pub then_holds : {A B : Type 0} {P : A → Type 0} {Q : B → Type 0} {p : Part A} {q : A → Part B} → Holds P p → ((a : A) → P a → Holds Q (q a)) → Holds Q (p >>= q)
then_holds H K = record { of = λ b ts h s. let (a, u, v, e, su, sv) = s in let both = subst Good e h in (K a (H.of a u (good_front u v both) su)).of b v (good_back u v both) sv }

pub or_holds : {A : Type 0} {P : A → Type 0} {p q : Part A} → Holds P p → Holds P q → Holds P (p or q)
or_holds H K = record { of = λ a ts h s. ⊎_elim (λ k. H.of a ts h k) (λ k. K.of a ts h k) s }

pub many_holds : {A : Type 0} {P : A → Type 0} {p : Part A} → Holds P p → Holds (Each P) (many p)
many_holds {A = A} {P = P} {p = p} H = record { of = go }
  where
    go : (items : List A) (ts : List Token) → Good ts → SpellsAll p items ts → Each P items
    go [] ts h s = tt
    go (a ∷ others) ts h s = let (u, v, e, su, sv) = s in let both = subst Good e h in (H.of a u (good_front u v both) su, go others v (good_back u v both) sv)

pub maybe_holds : {A : Type 0} {P : A → Type 0} {p : Part A} → Holds P p → Holds (IfThere P) (maybe p)
maybe_holds {A = A} {P = P} {p = p} H = record { of = go }
  where
    go : (o : Option A) (ts : List Token) → Good ts → SpellsMaybe p o ts → IfThere P o
    go None ts h s = tt
    go (Some a) ts h s = H.of a ts h s

nested_holds : {A : Type 0} (P : A → Type 0) (body : Part A → Part A) → ((p : Part A) → Holds P p → Holds P (body p)) → (n : ℕ) → Holds P (nested_part body n)
nested_holds P body step zero = record { of = λ a ts h s. absurd s }
nested_holds P body step (suc n) = step (nested_part body n) (nested_holds P body step n)

pub deep_holds : {A : Type 0} (P : A → Type 0) (body : Part A → Part A) → ((p : Part A) → Holds P p → Holds P (body p)) → Holds P (deep_part body)
deep_holds P body step = record { of = λ a ts h s. (nested_holds P body step s.0).of a ts h s.1 }

-- ---- names

abbrev pub Named : Name → Type 0
Named n = CanStand (word.Name n.text)

-- what a test guards
pub guarded : {A : Type 0} (b : Bool) (a : A) (o : A) → (if b then Some a else None) ≡ Some o → (b ≡ true) × (a ≡ o)
guarded true a o e = (refl, cc)
guarded false a o e = cc

module _ (edition : Edition) where
  name_stands : (at : Span) (v : Word) (n : Name) → CanStand v → w.name_word edition at v ≡ Some n → Named n
  name_stands at (word.Name t) n h e = subst Named (guarded (edition.is_name t) (record { at = at; text = t }) n e).1 h
  name_stands at (word.Key j) n h e = cc
  name_stands at (word.Number z) n h e = cc
  name_stands at (word.Text t) n h e = cc
  name_stands at (word.Sign j) n h e = cc

  pub name_holds : Holds Named (w.name edition)
  name_holds = word_holds Named (λ t. w.name_word edition t.span t.word) (λ t n h e. name_stands t.span t.word n h e)

  pub field_holds : Holds Named (g.field edition)
  field_holds = then_holds (any (w.sign s.Dot)) (λ _ _. name_holds)

  -- a name is one of the version
  abbrev pub Own : Name → Type 0
  Own n = IsName edition n.text

  name_own : (at : Span) (v : Word) (n : Name) → w.name_word edition at v ≡ Some n → Own n
  name_own at (word.Name t) n e = let both = guarded (edition.is_name t) (record { at = at; text = t }) n e in subst Own both.1 both.0
  name_own at (word.Key j) n e = cc
  name_own at (word.Number z) n e = cc
  name_own at (word.Text t) n e = cc
  name_own at (word.Sign j) n e = cc

  pub own_name : Holds Own (w.name edition)
  own_name = word_holds Own (λ t. w.name_word edition t.span t.word) (λ t n h e. name_own t.span t.word n e)

  pub own_field : Holds Own (g.field edition)
  own_field = then_holds (any (w.sign s.Dot)) (λ _ _. own_name)

  -- `return` and `finish` as statements are words of version 2 alone, and `return` at the end of a method of version 1
  early_if : (o : Option Span) (at : Span) → (if edition.early then o else None) ≡ Some at → edition.early ≡ true
  early_if o at e = by edition.early e
    where
      by : (b : Bool) → (if b then o else None) ≡ Some at → b ≡ true
      by true e = refl
      by false e = cc

  late_if : (o : Option Span) (at : Span) → (if edition.early then None else o) ≡ Some at → edition.early ≡ false
  late_if o at e = by edition.early e
    where
      by : (b : Bool) → (if b then None else o) ≡ Some at → b ≡ false
      by true e = cc
      by false e = refl

  finish_early : (at at' : Span) (v : Word) → w.finish_word edition at v ≡ Some at' → edition.early ≡ true
  finish_early at at' (word.Name t) e = both edition.early (w.is_finish t) (guarded (edition.early && w.is_finish t) at at' e).0
    where
      both : (a b : Bool) → (a && b) ≡ true → a ≡ true
      both true b e = refl
      both false b e = cc
  finish_early at at' (word.Key j) e = cc
  finish_early at at' (word.Number z) e = cc
  finish_early at at' (word.Text t) e = cc
  finish_early at at' (word.Sign j) e = cc

  pub leave_early : Holds (λ _. edition.early ≡ true) (w.leave edition)
  leave_early = word_holds (λ _. edition.early ≡ true) (λ t. w.leave_word edition t.span t.word) (λ t at h e. early_if (w.key_word k.Return t.span t.word) at e)

  pub finish_holds : Holds (λ _. edition.early ≡ true) (w.finish edition)
  finish_holds = word_holds (λ _. edition.early ≡ true) (λ t. w.finish_word edition t.span t.word) (λ t at h e. finish_early t.span at t.word e)

  pub end_late : Holds (λ _. edition.early ≡ false) (w.end edition)
  end_late = word_holds (λ _. edition.early ≡ false) (λ t. w.end_word edition t.span t.word) (λ t at h e. late_if (w.key_word k.Return t.span t.word) at e)

-- ---- lists

module _ {A : Type 0} {P : A → Type 0} {item : Part A} (H : Holds P item) where
  listed_holds : Holds (Each P) (g.comma_list item)
  listed_holds = then_holds H (λ first hf. then_holds (many_holds (then_holds (any (w.sign s.Comma)) (λ _ _. H))) (λ others ho. pure_holds (Each P) (first ∷ others) (hf, ho)))

  unwrapped : (o : Option (List A)) → IfThere (Each P) o → Each P (unwrap_or o [])
  unwrapped None h = tt
  unwrapped (Some l) h = h

  pub in_parens_hold : Holds (Each P) (g.in_parens item)
  in_parens_hold = then_holds (any (w.sign s.LeftParen)) (λ _ _. then_holds (maybe_holds listed_holds) (λ found hf. then_holds (any (w.sign s.RightParen)) (λ _ _. pure_holds (Each P) (unwrap_or found []) (unwrapped found hf))))

module _ {X : Type 0} (P : X → Type 0) (ws : X → List Word) (stands : (x : X) → P x → Stand (ws x)) where
  pub all_stand : (xs : List X) → Each P xs → Stand (all_of ws xs)
  all_stand [] h = tt
  all_stand (x ∷ xs) h = stand_both (ws x) (all_of ws xs) (stands x h.0) (all_stand xs h.1)

  pub further_stand : (xs : List X) → Each P xs → Stand (further_words ws xs)
  further_stand [] h = tt
  further_stand (x ∷ xs) h = (tt, stand_both (ws x) (further_words ws xs) (stands x h.0) (further_stand xs h.1))

  pub listed_stand : (xs : List X) → Each P xs → Stand (listed_words ws xs)
  listed_stand [] h = tt
  listed_stand (x ∷ xs) h = stand_both (ws x) (further_words ws xs) (stands x h.0) (further_stand xs h.1)
