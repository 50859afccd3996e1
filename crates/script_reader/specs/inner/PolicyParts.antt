-- The parts of a policy line, as its reader finds them.
use Rattle.std.specs.Prelude.{◌≡◌, ℕ, Bool, true, ◌||◌, ◌&&◌, List, [], ◌∷◌, codes}
use Rattle.wave_base.specs.Names.{is_digits, same_bytes}
use Rattle.script_reader.specs.declared.piece.Piece.{Piece}
use Rattle.script_reader.specs.declared.piece.Piece.TheVariants.{Run}
use Rattle.script_reader.specs.declared.policy_form.PolicyForm.{PolicyForm}
use Rattle.script_reader.specs.Policies.{policy_word, policy_rest, is_policy_form}

abbrev pub is_policy_word : List ℕ → Bool
is_policy_word word = same_bytes word (codes "balance") || same_bytes word (codes "drain")

-- ---- the rest of a line behind its first word

pub record IsBy (rest : List Piece) (digits : List ℕ) : Type 0 where
  pub rest_is : Run (codes "by") ∷ Run digits ∷ [] ≡ rest
  pub form_is : is_digits digits ≡ true

abbrev pub IsNotBy : List Piece → Type 0
IsNotBy rest = (digits : List ℕ) → IsBy rest digits → ⊥

pub record AreTwoHosts (rest : List Piece) (h g : List ℕ) : Type 0 where
  pub rest_is : Run h ∷ Run (codes "to") ∷ Run g ∷ [] ≡ rest
  pub form_is : (is_digits h && is_digits g) ≡ true

abbrev pub AreNoTwoHosts : List Piece → Type 0
AreNoTwoHosts rest = (h g : List ℕ) → AreTwoHosts rest h g → ⊥

-- the word and these pieces are a policy line of that form
pub record IsPolicyOf (word : List ℕ) (rest : List Piece) (form : PolicyForm) : Type 0 where
  pub word_is : policy_word form ≡ word
  pub rest_is : policy_rest form ≡ rest
  pub form_is : is_policy_form form ≡ true

abbrev pub IsOnlyPolicyOf : List ℕ → List Piece → PolicyForm → Type 0
IsOnlyPolicyOf word rest form = IsPolicyOf word rest form × ((other : PolicyForm) → IsPolicyOf word rest other → other ≡ form)

abbrev pub HasNoPolicyOf : List ℕ → List Piece → Type 0
HasNoPolicyOf word rest = (form : PolicyForm) → IsPolicyOf word rest form → ⊥

-- ---- the whole line

pub record SpellsPolicy (pieces : List Piece) (form : PolicyForm) : Type 0 where
  pub pieces_are : Run (policy_word form) ∷ policy_rest form ≡ pieces
  pub form_is : is_policy_form form ≡ true

abbrev pub SpellsOnlyPolicy : List Piece → PolicyForm → Type 0
SpellsOnlyPolicy pieces form = SpellsPolicy pieces form × ((other : PolicyForm) → SpellsPolicy pieces other → other ≡ form)

abbrev pub SpellsNoPolicy : List Piece → Type 0
SpellsNoPolicy pieces = (form : PolicyForm) → SpellsPolicy pieces form → ⊥
