-- The state that a run begins with.
use Rattle.std.specs.Prelude.{ℕ, ◌-◌, Bool, true, false, not, ◌&&◌, nat_eq, if◌then◌else◌, List, [], ◌∷◌, ◌++◌, map, Some, None}
use Rattle.wave_base.specs.declared.path.Step.{Step}
use Rattle.wave_base.specs.declared.path.Path.{Path}
use Rattle.wave_base.specs.declared.children.Child.{Child}
use Rattle.wave_base.specs.Tree.{Tree, there, bare, children_of}
use Rattle.wave_base.specs.Fold.{first_head}
use Rattle.wave_base.specs.Starts.{start_tree, start_places}
use Rattle.wave_base.specs.declared.shape.Shape.{Shape}
use Rattle.wave_base.specs.declared.start.Start.{Start}
use Rattle.wave_base.specs.declared.value.Value.{Value}
use Rattle.wave_states.specs.States.{Entry, Column, State, set}

-- what a run begins with: a tree, a host for each of its contexts, and how many tickets there were before
pub record Begin (F : Type 0) : Type 0 where
  pub tree : Tree F
  pub places : Tree ℕ
  pub before : ℕ

-- the root alone with its initial fields, on host 0, and no tickets before
abbrev pub first_begin : {F : Type 0} → (Path → F) → Begin F
first_begin initial = record { tree = bare initial; places = bare (λ p. 0); before = 0 }

-- what a Start of the service says
abbrev pub begin_of : Shape → Start → Begin (List Value)
begin_of shape start = record { tree = start_tree shape start; places = start_places start; before = start.next.0 - 1 }

abbrev pub is_root : Path → Bool
is_root [] = true
is_root (s ∷ p) = false

module _ {F : Type 0} (b : Begin F) where
  -- no entry number was given yet for a child, which was born where it is
  abbrev pub child_at_start : Path → Step → Step × Child
  child_at_start p s = (s, record { given = 0; birth = record { 0 = b.places.fields (p ++ s ∷ []) } })

  -- whether the context is the root, and not on host 0: then it counts as moved there from host 0
  abbrev pub has_moved : Path → Bool
  has_moved p = is_root p && not (nat_eq (b.places.fields p) 0)

  -- at the root the tickets before count as served
  abbrev pub entry_at_start : Path → Entry F
  entry_at_start p = record {
    body = Some (record { fields = b.tree.fields p; children = map (child_at_start p) (children_of b.tree p) });
    holders = [];
    served = if is_root p then b.before else 0;
    waiting = λ j. None;
    moves = if has_moved p then 1 else 0;
  }

  abbrev pub column_at_start : Path → Column F
  column_at_start p = record {
    store = if there b.tree p then set nat_eq (λ h. None) (b.places.fields p) (Some (entry_at_start p)) else (λ h. None);
    gone = if has_moved p then set nat_eq (λ h. None) 0 (Some (record { to = b.places.fields p; number = 1 })) else (λ h. None);
  }

  abbrev pub start_state : {A R J : Type 0} → List (List J) → State A F R J
  start_state batches = record {
    before = b.before;
    head = first_head batches;
    admitted = 0;
    cells = λ t. record { event = None; mails = λ k. None; result = None };
    columns = column_at_start;
    hands = λ w. None;
  }
