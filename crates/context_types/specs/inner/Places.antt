-- Where the walk stands, as the rules see it; and what it makes of an expression.
use Rattle.std.specs.Prelude.{◌≡◌, List, Option, Some, Vec}
use Rattle.std.specs.Global.{Global}
use Rattle.wave_base.specs.declared.value.Kind.{Kind}
use Rattle.resolved_service.specs.declared.stmt.Stmt.{Stmt}
use Rattle.resolved_service.specs.Steps.{Step, Steps, Else, step_of, steps_in, else_in}
use Rattle.resolved_service.specs.View.{Tree, tree_of}
use Rattle.type_rules.specs.Here as rules
use Rattle.context_types.specs.declared.here.Here.{Here}
use Rattle.context_types.specs.declared.here.Within.{Within}
use Rattle.context_types.specs.declared.here.Within.TheVariants as within
use Rattle.context_types.specs.declared.exprs.Judged.{Judged}
use Rattle.context_types.specs.declared.calls.Called.{Called}

abbrev pub function_of : Within → rules.Function
function_of (within.Method gives) = rules.OfMethod gives
function_of (within.Event gives) = rules.OfEvent gives

abbrev pub here_of : Here → rules.Here
here_of h = record { known = h.known.now; class = h.class; function = h.function; within = function_of h.within; locals = h.locals.items; slots = h.slots.items }

-- the kind and the tree of an expression
pub record IsJudged (of_kind : Option Kind) (resolved : Tree) (judged : Judged) : Type 0 where
  pub kind : of_kind ≡ Some judged.kind
  pub tree : resolved ≡ tree_of judged.tree

-- the result of a call, if any, and its tree
pub record IsCalled (of_result : Option Kind) (resolved : Tree) (called : Called) : Type 0 where
  pub gives : of_result ≡ called.gives
  pub tree : resolved ≡ tree_of called.tree

-- where the walk stands behind a statement, and the statement with its names resolved
pub record IsStep (behind : rules.Here) (resolved : Step) (place : Here) (made : Stmt) : Type 0 where
  pub here : behind ≡ here_of place
  pub step : resolved ≡ step_of made

-- the same for statements one after the other
pub record AreSteps (behind : rules.Here) (resolved : Steps) (place : Here) (made : List Stmt) : Type 0 where
  pub here : behind ≡ here_of place
  pub steps : resolved ≡ steps_in made

-- the same for what stands behind `else`, if anything
pub record IsOther (behind : rules.Here) (resolved : Else) (place : Here) (made : Option (Vec Stmt Global)) : Type 0 where
  pub here : behind ≡ here_of place
  pub steps : resolved ≡ else_in made
