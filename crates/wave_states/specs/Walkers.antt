-- Walkers: each goes through all contexts and copies them, in path order.
use Rattle.std.specs.Prelude.{◌≡◌, ℕ, zero, suc, ◌+◌, false, if◌then◌else◌, List, [], ◌∷◌, ◌++◌, length, Option, Some, None, is_none}
use Rattle.std.specs.List.{filter}
use Rattle.std.specs.Ordering.{is_lt}
use Rattle.wave_base.specs.declared.path.Step.{Step}
use Rattle.wave_base.specs.declared.path.Path.{Path}
use Rattle.wave_base.specs.Paths.{step_cmp, parent_of}
use Rattle.wave_base.specs.Tree.{Tree, enter, children_of}
use Rattle.wave_states.specs.Actors.{Actors, Left, Down, Back, Over}
use Rattle.wave_states.specs.Kinds.{Kind}

-- where it is; the child that it came back from, which is none at its first visit there; and what it copied
pub record Walker (F : Type 0) : Type 0 where
  pub at : Path
  pub from : Option Step
  pub copied : List (Path × F)

-- the children that are left: those above the one that it came back from, or all at its first visit
abbrev pub steps_left : List Step → Option Step → List Step
steps_left cs None = cs
steps_left cs (Some s) = filter (λ c. is_lt (step_cmp s c)) cs

abbrev pub first_of : List Step → Option Step
first_of [] = None
first_of (s ∷ ss) = Some s

-- the last step of a path; the root has none
abbrev pub last_step : Path → Option Step
last_step [] = None
last_step (s ∷ []) = Some s
last_step (s ∷ t ∷ p) = last_step (t ∷ p)

-- how many segments a visit has: one and then, for each child, its own and one more
abbrev pub with_children : (Path → ℕ) → Path → List Step → ℕ
with_children visit p [] = 1
with_children visit p (s ∷ ss) = suc (visit (p ++ s ∷ []) + with_children visit p ss)

-- no path is longer than all together
abbrev pub depth_of : List Path → ℕ
depth_of [] = 0
depth_of (p ∷ ps) = length p + depth_of ps

module _ {F : Type 0} where
  -- at its first visit the context is copied
  abbrev pub copied_now : Walker F → F → List (Path × F)
  copied_now a f = if is_none a.from then a.copied ++ (a.at, f) ∷ [] else a.copied

  -- back from a child; at the root it is over, and what it copied is the result
  abbrev pub leave : Path → Option Step → F → List (Path × F) → Option Step → Left (Walker F) F (List (Path × F))
  leave p from f copied (Some s) = record { actor = record { at = parent_of p; from = Some s; copied = copied }; fields = f; pause = Back }
  leave p from f copied None = record { actor = record { at = p; from = from; copied = [] }; fields = f; pause = Over copied }

  -- down to the next child that is left, else it leaves
  abbrev pub walk_on : Path → Option Step → F → List (Path × F) → Option Step → Left (Walker F) F (List (Path × F))
  walk_on p from f copied (Some s) = record { actor = record { at = p ++ s ∷ []; from = None; copied = copied }; fields = f; pause = Down s }
  walk_on p from f copied None = leave p from f copied (last_step p)

  abbrev pub walk : Walker F → F → List Step → Left (Walker F) F (List (Path × F))
  walk a f cs = walk_on a.at a.from f (copied_now a f) (first_of (steps_left cs a.from))

  unfoldable pub visit : Tree F → ℕ → Path → ℕ
  visit tree zero p = 1
  visit tree (suc depth) p = with_children (visit tree depth) p (children_of tree p)

  -- the job is the same each time
  abbrev pub walkers : (Path → F) → Actors (Walker F) F (List (Path × F)) (Unit {0})
  walkers initial = record {
    make = λ j t. record { at = []; from = None; copied = [] };
    segment = walk;
    peeks = λ a. false;
    initial = initial;
    created = λ r. [];
    moved = λ r. None;
    enough = λ j t tree. visit (enter tree []) (depth_of (enter tree []).paths) [];
    unended = [];
  }

  -- a walker stands where it says, and as many calls are open as its path has steps
  pub record IsWalker (a : Walker F) (p : Path) (calls : ℕ) : Type 0 where
    pub at : a.at ≡ p
    pub open_calls : calls ≡ length p

  -- walkers, over contexts that may have the fields that fit
  abbrev pub walker_kind : (Path → F) → ℕ → (Path → F → Type 0) → Kind (Walker F) F (List (Path × F)) (Unit {0})
  walker_kind initial hosts fits = record { system = walkers initial; hosts = hosts; fits = fits; is_job = λ j. Unit {0}; may_run = IsWalker }
