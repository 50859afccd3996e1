-- What a machine is known to have while it runs.
use Rattle.std.specs.Prelude.{◌≡◌, ◌≤◌, ◌<◌, ℕ, true, List, [], ◌∷◌, Result, Ok, Err, All}
use Rattle.wave_base.specs.declared.limits.TheConstants.{GENERATION, TICKS}
use Rattle.wave_base.specs.declared.path.Path.{Path}
use Rattle.wave_base.specs.declared.shape.Shape.{Shape}
use Rattle.wave_base.specs.Shapes.{class_of, is_path}
use Rattle.wave_base.specs.Tree.{there}
use Rattle.resolved_service.specs.declared.service.Method.{Method}
use Rattle.resolved_service.specs.Fits.{FitsTree, FitsTrees, FitsStep, FitsSteps, IsMethod, IsChildClass}
use Rattle.resolved_service.specs.Meaning.{Outcome}
use Rattle.service_eval.specs.declared.stop.Stop.{Stop}
use Rattle.service_eval.specs.inner.Items.{End, Branch, Item, Eval, Evals, AndThen, OrElse, Invoke, Child, Block, Begin, Finish, Turns, Check, Counts, Again, Return}
use Rattle.service_eval.specs.inner.Machines.{Mach, Rest, comes_to, path_after}
use Rattle.service_eval.specs.Worlds.{Holds}
use Rattle.service_eval.specs.inner.Traces.{Fails}
use Rattle.service_eval.specs.inner.Weight.{load}

module _ (shape : Shape) (methods : List Method) where
  abbrev pub FitsEnd : ℕ → End → Type 0
  FitsEnd class (Branch body other) = FitsSteps shape methods class body × FitsSteps shape methods class other
  FitsEnd class _ = Unit {0}

  -- an item at a context of a class
  abbrev pub FitsItem : ℕ → Item → Type 0
  FitsItem class (Eval t) = FitsTree shape methods class t
  FitsItem class (Evals ts) = FitsTrees shape methods class ts
  FitsItem class (AndThen right base) = FitsTree shape methods class right
  FitsItem class (OrElse right base) = FitsTree shape methods class right
  FitsItem class (Invoke at method base) = (count : ℕ) × IsMethod methods class method count
  FitsItem class (Child at c method base) = IsChildClass shape class c × ((count : ℕ) × IsMethod methods c method count)
  FitsItem class (Block steps) = FitsSteps shape methods class steps
  FitsItem class (Begin s) = FitsStep shape methods class s
  FitsItem class (Finish at what base) = FitsEnd class what
  FitsItem class (Turns at test body) = FitsTree shape methods class test × FitsSteps shape methods class body
  FitsItem class (Check at test body base) = FitsTree shape methods class test × FitsSteps shape methods class body
  FitsItem class (Counts at counter body) = FitsSteps shape methods class body
  FitsItem class (Again at counter body) = FitsSteps shape methods class body
  FitsItem class _ = Unit {0}

  -- where an item leads to
  abbrev pub path_behind : Item → Path → Path
  path_behind (Return locals values up) p = path_after up p
  path_behind _ p = p

  abbrev pub FitsItems : List Item → Path → Type 0
  FitsItems [] p = Unit {0}
  FitsItems (item ∷ items) p = FitsItem (class_of p) item × FitsItems items (path_behind item p)

pub record Ready (shape : Shape) (methods : List Method) (m : Mach) : Type 0 where
  pub items : FitsItems shape methods m.items m.path
  pub holds : Holds shape m.state.world.tree
  pub path : is_path shape m.path ≡ true
  pub held : All (λ q. there m.state.world.tree q ≡ true) m.state.world.held
  pub here : there m.state.world.tree m.path ≡ true
  pub early : m.state.world.generation ≤ GENERATION
  pub few : m.state.world.ticks ≤ TICKS

-- what comes of it is what the machine comes to, and less than this is left to do
abbrev pub Follows : Shape → List Method → Outcome Rest → ℕ → Result (Unit {0}) Stop → Mach → Type 0
Follows shape methods out limit (Ok _) after = (out ≡ comes_to methods after) × Ready shape methods after × (load methods after < limit)
Follows shape methods out limit (Err e) after = Fails out e after.state.world × Holds shape after.state.world.tree

-- one item was done: the rest comes to the same, and less is left to do
abbrev pub Turned : Shape → List Method → Mach → Result (Unit {0}) Stop → Mach → Type 0
Turned shape methods before result after = Follows shape methods (comes_to methods before) (load methods before) result after
