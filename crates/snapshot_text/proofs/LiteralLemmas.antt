-- The value at the front of a text, as the reader of the form finds it.
use Rattle.std.proofs.Common.{◌≡◌, ◌⊎◌, inl, inr, ℕ, Bool, true, false, List, [], ◌∷◌, ◌++◌, refl, sym, ap, subst, ◌∙◌, append_assoc, arith}
use Rattle.std.specs.Prelude.{◌||◌, ◌==◌, codes, nat_eq}
use Rattle.std.proofs.lemmas.Bool.{and_parts, or_cases, false≢true}
use Rattle.std.proofs.lemmas.Bool.Decides.{nat_tests}
use Rattle.wave_base.specs.Text.{escaped_text}
use Rattle.wave_base.specs.Names.{same_bytes}
use Rattle.wave_text.specs.Quotes.{Quotes}
use Rattle.wave_text.specs.Splits.{IsSplit}
use Rattle.wave_text.proofs.SplitLemmas.{one_split}
use Rattle.snapshot_text.specs.Forms.{Literal, Number, Truth, Text, Map, IsLiteral, literal_text, is_plain, are_pairs, pairs_text}
use Rattle.snapshot_text.specs.inner.Fronts.{BeginsNot, Ends, IsRun, is_bare, IsMapText, HasLiteral, OnlyBehindLiteral, HasNoLiteral}
use Rattle.snapshot_text.proofs.ByteLemmas.{is_number_byte, plain_no_space, plain_first, one_run}
use Rattle.snapshot_text.proofs.PairLemmas.{pairs_no_brace}

-- ---- what a first byte tells

other_first : (b c : ℕ) (xs ys : List ℕ) → b == c ≡ false → b ∷ xs ≡ c ∷ ys → ⊥
other_first b c xs ys h e = (let same : b ≡ c = cc in absurd (grind (arith, nat_tests)))

pub same_rest : (b : ℕ) (xs ys : List ℕ) → b ∷ xs ≡ b ∷ ys → xs ≡ ys
same_rest b xs ys e = cc

number_first : (b : ℕ) (n text left : List ℕ) → is_plain n ≡ true → b ∷ text ≡ n ++ left → is_number_byte b ≡ true
number_first b [] text left h e = absurd (false≢true h)
number_first b (c ∷ cs) text left h e =
    let same : c ≡ b = cc in
    subst (λ x. is_number_byte x ≡ true) same (plain_first c cs h)

-- behind a brace stands a map
braced_by : (text left : List ℕ) (l : Literal) → 123 ∷ text ≡ literal_text l ++ left → IsLiteral l → (ps : List (List ℕ × List ℕ)) × (are_pairs ps ≡ true) × (text ≡ pairs_text ps ++ 125 ∷ left)
braced_by text left (Number n) e f = absurd (false≢true (number_first 123 n text left f e))
braced_by text left (Truth true) e f = absurd (other_first 123 116 text (114 ∷ 117 ∷ 101 ∷ left) refl e)
braced_by text left (Truth false) e f = absurd (other_first 123 102 text (97 ∷ 108 ∷ 115 ∷ 101 ∷ left) refl e)
braced_by text left (Text t) e f = absurd (other_first 123 34 text ((escaped_text t ++ 34 ∷ []) ++ left) refl e)
braced_by text left (Map ps) e f = (ps, f, same_rest 123 text ((pairs_text ps ++ 125 ∷ []) ++ left) e ∙ append_assoc (pairs_text ps) (125 ∷ []) left)

pub brace_only : (text left : List ℕ) → HasLiteral (123 ∷ text) left → (ps : List (List ℕ × List ℕ)) × (are_pairs ps ≡ true) × (text ≡ pairs_text ps ++ 125 ∷ left)
brace_only text left h = braced_by text left h.literal h.spelled h.form

-- ---- a text value

pub quoted_is : (text t rest : List ℕ) → Quotes text t rest → HasLiteral (34 ∷ text) rest
quoted_is text t rest q = record {
  literal = Text t;
  spelled = ap (λ z. 34 ∷ z) (q.spelled ∙ sym (append_assoc (escaped_text t) (34 ∷ []) rest));
  form = q.printable;
}

-- ---- a map

pub map_is : (text pairs rest : List ℕ) → IsSplit 125 text pairs rest → IsMapText pairs → HasLiteral (123 ∷ text) rest
map_is text pairs rest s m = record {
  literal = Map m.0;
  spelled = ap (λ z. 123 ∷ z) (s.spelled ∙ ap (λ z. z ++ 125 ∷ rest) m.1.spelled ∙ sym (append_assoc (pairs_text m.0) (125 ∷ []) rest));
  form = m.1.pairs_are;
}

map_parts : (text pairs rest left : List ℕ) → IsSplit 125 text pairs rest → HasLiteral (123 ∷ text) left → IsMapText pairs × (rest ≡ left)
map_parts text pairs rest left s h =
    let b = brace_only text left h in
    let o = one_split 125 pairs rest (pairs_text b.0) left s.first (pairs_no_brace b.0 b.1) (sym s.spelled ∙ b.2) in
    ((b.0, record { spelled = o.0; pairs_are = b.1 }), o.1)

pub map_only : (text pairs rest : List ℕ) → IsSplit 125 text pairs rest → OnlyBehindLiteral (123 ∷ text) rest
map_only text pairs rest s left h ends = sym (map_parts text pairs rest left s h).1

pub no_map : (text pairs rest : List ℕ) → IsSplit 125 text pairs rest → (IsMapText pairs → ⊥) → HasNoLiteral (123 ∷ text)
no_map text pairs rest s none left h ends = none (map_parts text pairs rest left s h).0

-- ---- a number or a truth value

same_number : (a b : ℕ) → nat_eq a b ≡ true → a ≡ b
same_number a b h = grind (arith, nat_tests)

pub same_text : (t u : List ℕ) → same_bytes t u ≡ true → t ≡ u
same_text [] [] e = refl
same_text [] (y ∷ u) e = cc
same_text (x ∷ t) [] e = cc
same_text (x ∷ t) (y ∷ u) e =
    let k = and_parts (nat_eq x y) (same_bytes t u) e in
    λ i. same_number x y k.0 i ∷ same_text t u k.1 i

module _ (text run rest : List ℕ) (r : IsRun text run rest) where
  bare_by : (l : Literal) → run ≡ literal_text l → IsLiteral l → HasLiteral text rest
  bare_by l e f = record { literal = l; spelled = r.spelled ∙ ap (λ z. z ++ rest) e; form = f }

  pub bare_is : is_bare run ≡ true → HasLiteral text rest
  bare_is h = by_or (or_cases (is_plain run) (same_bytes run (codes "true") || same_bytes run (codes "false")) h)
    where
      by_word : (same_bytes run (codes "true") ≡ true) ⊎ (same_bytes run (codes "false") ≡ true) → HasLiteral text rest
      by_word (inl k) = bare_by (Truth true) (same_text run (codes "true") k) tt
      by_word (inr k) = bare_by (Truth false) (same_text run (codes "false") k) tt

      by_or : (is_plain run ≡ true) ⊎ ((same_bytes run (codes "true") || same_bytes run (codes "false")) ≡ true) → HasLiteral text rest
      by_or (inl k) = bare_by (Number run) refl k
      by_or (inr k) = by_word (or_cases (same_bytes run (codes "true")) (same_bytes run (codes "false")) k)

  -- a value that begins with neither a quote nor a brace is the run
  pub bare_parts : BeginsNot 34 text → BeginsNot 123 text → (left : List ℕ) → HasLiteral text left → Ends left → (is_bare run ≡ true) × (left ≡ rest)
  bare_parts quote brace left h ends = by_literal h.literal h.spelled h.form
    where
      or_true : (b : Bool) → (b || true) ≡ true
      or_true true = refl
      or_true false = refl

      by_literal : (l : Literal) → text ≡ literal_text l ++ left → IsLiteral l → (is_bare run ≡ true) × (left ≡ rest)
      by_literal (Number n) e f =
          let o = one_run text run rest r n left (plain_no_space n f) ends e in
          (ap (λ t. t || (same_bytes run (codes "true") || same_bytes run (codes "false"))) (ap is_plain o.0 ∙ f), sym o.1)
      by_literal (Truth true) e f = (let o = one_run text run rest r (codes "true") left refl ends e in (ap is_bare o.0, sym o.1))
      by_literal (Truth false) e f = (let o = one_run text run rest r (codes "false") left refl ends e in (ap is_bare o.0, sym o.1))
      by_literal (Text t) e f = absurd (quote ((escaped_text t ++ 34 ∷ []) ++ left) e)
      by_literal (Map ps) e f = absurd (brace ((pairs_text ps ++ 125 ∷ []) ++ left) e)
