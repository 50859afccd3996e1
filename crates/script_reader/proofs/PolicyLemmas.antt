-- The forms of policy lines, and what lines of a script with policies say.
use Rattle.std.proofs.Common.{◌≡◌, ◌⊎◌, inl, inr, ℕ, Bool, true, false, List, ◌∷◌, ◌++◌, take, drop, refl, sym, ap, subst, ◌∙◌}
use Rattle.std.specs.Prelude.{◌&&◌, ◌||◌, length, get_or, codes, ◌≤◌, ◌-◌}
use Rattle.std.specs.List.{prefix_len}
use Rattle.std.proofs.lemmas.Bool.{and_parts, false≢true}
use Rattle.std.proofs.lemmas.List.{take-append-drop}
use Rattle.wave_base.specs.Names.{is_digits, same_bytes}
use Rattle.script_reader.specs.declared.piece.Piece.{Piece}
use Rattle.script_reader.specs.declared.piece.Piece.TheVariants.{Run}
use Rattle.script_reader.specs.declared.policy_form.PolicyForm.{PolicyForm}
use Rattle.script_reader.specs.declared.policy_form.PolicyForm.TheVariants.{Balance, Drain}
use Rattle.script_reader.specs.declared.said.Said.{Said}
use Rattle.script_reader.specs.declared.said.Said.TheVariants.{Unknown}
use Rattle.script_reader.specs.declared.worded.Worded.{Worded}
use Rattle.script_reader.specs.declared.worded.Worded.TheVariants as worded
use Rattle.script_reader.specs.Elastics.{IsWorded, IsOnlyWorded}
use Rattle.script_reader.specs.Forms.{is_remark, is_skipped}
use Rattle.script_reader.specs.inner.Begins.{first_run, is_form_word}
use Rattle.script_reader.specs.inner.Parts.{IsNumber, IsMove, IsNoMove}
use Rattle.script_reader.specs.inner.PolicyParts.{is_policy_word, IsBy, AreTwoHosts, AreNoTwoHosts, SpellsPolicy, SpellsOnlyPolicy, SpellsNoPolicy}
use Rattle.script_reader.specs.Pieces.{is_solid, without_blanks, ArePieces, AreOnlyPieces, HasNoPieces}
use Rattle.script_reader.specs.Policies.{policy_word, policy_rest, HasPolicyForm, HasNoPolicyForm}
use Rattle.script_reader.specs.Scripts.{IsOnlySaid}
use Rattle.script_reader.proofs.FormLemmas.{says_no_word, cons_of}
use Rattle.script_reader.proofs.FrontLemmas.{front_run}
use Rattle.script_reader.proofs.LiteralLemmas.{same_text}

-- ---- the rest of a line behind its first word

pub by_there : (rest : List Piece) (piece : Piece) (by digits : List ℕ) → 1 ≤ length rest → piece ≡ get_or rest 0 piece → piece ≡ Run by → by ≡ codes "by" → IsNumber (take (length rest - 1) (drop 1 rest)) digits → IsBy rest digits
by_there rest piece by digits h e p t n = record {
  rest_is = (λ i. Run (sym t i) ∷ n.rest_is i) ∙ ap (λ z. z ∷ take (length rest - 1) (drop 1 rest)) (sym p) ∙ sym (cons_of rest piece h e);
  form_is = n.form_is;
}

pub two_there : (rest : List Piece) (h g : List ℕ) → IsMove rest h g → is_digits h ≡ true → AreTwoHosts rest h g
two_there rest h g m d = record { rest_is = m.rest_is; form_is = (λ i. d i && is_digits g) ∙ m.form_is }

pub not_there : (rest : List Piece) → IsNoMove rest → AreNoTwoHosts rest
not_there rest none h g k = none h g (record { rest_is = k.rest_is; form_is = (and_parts (is_digits h) (is_digits g) k.form_is).1 })

pub not_digits : (rest : List Piece) (h g : List ℕ) → IsMove rest h g → is_digits h ≡ false → AreNoTwoHosts rest
not_digits rest h g m d a b k =
    let same : a ≡ h = cc (k.rest_is ∙ sym m.rest_is) in
    false≢true (sym d ∙ ap is_digits (sym same) ∙ (and_parts (is_digits a) (is_digits b) k.form_is).0)

-- ---- the word that a policy line begins with

pub policy_words : (f : PolicyForm) → is_policy_word (policy_word f) ≡ true
policy_words (Balance n) = refl
policy_words (Drain h g) = refl

policy_word_is : (word : List ℕ) → is_policy_word word ≡ true → (word ≡ codes "balance") ⊎ (word ≡ codes "drain")
policy_word_is word h = by (same_bytes word (codes "balance")) refl h
  where
    by : (b : Bool) → same_bytes word (codes "balance") ≡ b → (b || same_bytes word (codes "drain")) ≡ true → (word ≡ codes "balance") ⊎ (word ≡ codes "drain")
    by true e k = inl (same_text word (codes "balance") e)
    by false e k = inr (same_text word (codes "drain") k)

-- it is the word of no other form
pub no_form_word : (word : List ℕ) → is_policy_word word ≡ true → is_form_word word ≡ false
no_form_word word h = elim (policy_word_is word h) [ inl e ↦ ap is_form_word e | inr e ↦ ap is_form_word e ]

-- and it begins no comment
pub not_skipped : (line word : List ℕ) → word ≡ first_run (without_blanks line) → is_policy_word word ≡ true → is_skipped line ≡ false
not_skipped line word at h = elim (policy_word_is word h) [ inl e ↦ ap is_remark (whole e) | inr e ↦ ap is_remark (whole e) ]
  where
    whole : {w : List ℕ} → word ≡ w → without_blanks line ≡ w ++ drop (prefix_len is_solid (without_blanks line)) (without_blanks line)
    whole e = sym (take-append-drop (prefix_len is_solid (without_blanks line)) (without_blanks line)) ∙ ap (λ z. z ++ drop (prefix_len is_solid (without_blanks line)) (without_blanks line)) (sym at ∙ e)

-- ---- what a line says

-- a policy line alone begins with that word
pub no_policy_word : (line word : List ℕ) → word ≡ first_run (without_blanks line) → is_policy_word word ≡ false → HasNoPolicyForm line
no_policy_word line word at none f k =
    let same : policy_word f ≡ word = front_run (without_blanks line) (policy_word f) k.cut.0 k.cut.1 ∙ sym at in
    let is : is_policy_word word ≡ true = ap is_policy_word (sym same) ∙ policy_words f in
    false≢true (sym none ∙ is)

pub says_plain : (line : List ℕ) (s : Said) → HasNoPolicyForm line → IsOnlySaid line s → IsOnlyWorded line (worded.Plain s)
says_plain line s none o = ((o.0, none), λ other k. by_worded other k)
  where
    by_worded : (other : Worded) → IsWorded line other → other ≡ worded.Plain s
    by_worded (worded.Plain t) k = ap (λ z. worded.Plain z) (o.1 t k.0)
    by_worded (worded.Policy f) k = absurd (none f k)

says_none : (line word : List ℕ) → word ≡ first_run (without_blanks line) → is_policy_word word ≡ true → HasNoPolicyForm line → IsOnlyWorded line (worded.Plain Unknown)
says_none line word at h none = says_plain line Unknown none (says_no_word line word (not_skipped line word at h) at (no_form_word word h))

pub says_no_pieces : (line word : List ℕ) → word ≡ first_run (without_blanks line) → is_policy_word word ≡ true → HasNoPieces line → IsOnlyWorded line (worded.Plain Unknown)
says_no_pieces line word at h none = says_none line word at h (λ f k. none (Run (policy_word f) ∷ policy_rest f) k.cut)

-- the pieces of a line that has a policy's form
spelled : (line : List ℕ) (ps : List Piece) (f : PolicyForm) → AreOnlyPieces line ps → HasPolicyForm line f → SpellsPolicy ps f
spelled line ps f o k = record { pieces_are = o.1 (Run (policy_word f) ∷ policy_rest f) k.cut; form_is = k.form_is }

pub says_no_policy : (line word : List ℕ) (ps : List Piece) → word ≡ first_run (without_blanks line) → is_policy_word word ≡ true → AreOnlyPieces line ps → SpellsNoPolicy ps → IsOnlyWorded line (worded.Plain Unknown)
says_no_policy line word ps at h o none = says_none line word at h (λ f k. none f (spelled line ps f o k))

pub says_policy : (line : List ℕ) (ps : List Piece) (f : PolicyForm) → AreOnlyPieces line ps → SpellsOnlyPolicy ps f → IsOnlyWorded line (worded.Policy f)
says_policy line ps f o s = (has, λ other k. by_worded other k)
  where
    has : HasPolicyForm line f
    has = record { cut = subst (ArePieces line) (sym s.0.pieces_are) o.0; form_is = s.0.form_is }

    by_worded : (other : Worded) → IsWorded line other → other ≡ worded.Policy f
    by_worded (worded.Plain t) k = absurd (k.1 f has)
    by_worded (worded.Policy g) k = ap (λ z. worded.Policy z) (s.1 g (spelled line ps g o k))
