-- What a context has that nobody changes.
use Rattle.std.specs.Prelude.{◌≡◌, ◌+◌, ℕ, true, List, All, Some}
use Rattle.wave_base.specs.declared.path.Path.{Path}
use Rattle.wave_base.specs.Tree.{children_of}
use Rattle.wave_base.specs.Places.{load_of}
use Rattle.wave_states.specs.Kinds.{Kind}
use Rattle.wave_states.specs.States.{State, Entry, Record, Claim, steps_of}
use Rattle.wave_states.specs.Begins.{Begin}
use Rattle.wave_theory.specs.Always.{fold, AreThere, served_before}

-- only tickets that look hold it, if any
abbrev pub IsFree : {F : Type 0} → Entry F → Type 0
IsFree en = All (λ (c : Claim). c.peek ≡ true) en.holders

module _ {A F R J : Type 0} (kind : Kind A F R J) (b : Begin F) (batches : List (List J)) where
  -- Records. A context that nobody holds but to look, and to which `served` says so many came, has the fields and the children
  -- that it has in the fold kind b batches after any number of jobs of which so many entered it.
  abbrev pub Records : State A F R J → Type 0
  Records s = (p : Path) (host : ℕ) (en : Entry F) (r : Record F) (n : ℕ) → (s.columns p).store host ≡ Some en → IsFree en → en.body ≡ Some r → AreThere kind b batches n →
      en.served ≡ served_before kind b batches p + load_of (fold kind b batches n).entered p → (r.fields ≡ (fold kind b batches n).tree.fields p) × (steps_of r.children ≡ children_of (fold kind b batches n).tree p)
