-- What is still to be done, item by item, as contracts see it: no pointers.
use Rattle.std.specs.Prelude.{ℕ, Bool, true, false, List, [], ◌∷◌, map}
use Rattle.wave_base.specs.declared.span.Span.{Span}
use Rattle.wave_base.specs.declared.value.Value.{Value}
use Rattle.resolved_service.specs.Steps.{Step, Steps, no_steps, Else, no_else, otherwise, steps_in}
use Rattle.resolved_service.specs.View.{Tree, Trees, tree_of, trees_of}
use Rattle.service_eval.specs.declared.work.Caller.{Caller}
use Rattle.service_eval.specs.declared.work.StatementEnd.{StatementEnd}
use Rattle.service_eval.specs.declared.work.ForLoop.{ForLoop}
use Rattle.service_eval.specs.declared.work.WhileLoop.{WhileLoop}
use Rattle.service_eval.specs.declared.work.Variable.TheVariants as variable
use Rattle.service_eval.specs.declared.work.StatementEnd.TheVariants as ending
use Rattle.service_eval.specs.declared.work.Work.{Work}
use Rattle.service_eval.specs.declared.work.Work.TheVariants as work

-- what a statement does with the values of its expressions
pub data End : Type 0 where
  SetLocal SetField PutLocal PutField CutLocal CutField : ℕ → End
  Branch : Steps → Steps → End
  Require : End
  Send : List ℕ → End
  Spawn : ℕ → End
  Drop : End
  Returns Finishes : End

-- `base` is the number of values below those of the item's own
pub data Item : Type 0 where
  Eval : Tree → Item
  Evals : Trees → Item
  Apply : (at : Span) (row base : ℕ) → Item
  AndThen OrElse : (right : Tree) (base : ℕ) → Item
  Invoke : (at : Span) (method base : ℕ) → Item
  Child : (at : Span) (class method base : ℕ) → Item
  Block : Steps → Item
  Begin : Step → Item
  Finish : (at : Span) (what : End) (base : ℕ) → Item
  Turns : (at : Span) (test : Tree) (body : Steps) → Item
  Check : (at : Span) (test : Tree) (body : Steps) (base : ℕ) → Item
  Counts Again : (at : Span) (counter : ℕ) (body : Steps) → Item
  Return : (locals values : List Value) (up : Bool) → Item

abbrev pub end_of : StatementEnd → End
end_of (ending.Set (variable.Local s)) = SetLocal s
end_of (ending.Set (variable.Field f)) = SetField f
end_of (ending.Put (variable.Local s)) = PutLocal s
end_of (ending.Put (variable.Field f)) = PutField f
end_of (ending.Cut (variable.Local s)) = CutLocal s
end_of (ending.Cut (variable.Field f)) = CutField f
end_of (ending.Branch b) = Branch (steps_in b.body.now) (steps_in b.other.now)
end_of ending.Require = Require
end_of (ending.Send label) = Send label.now
end_of (ending.Spawn event) = Spawn event
end_of ending.Drop = Drop
end_of ending.Return = Returns
end_of ending.Finish = Finishes

abbrev pub return_of : Caller → Item
return_of c = Return c.locals.items c.values.items c.up

abbrev pub turns_of : WhileLoop → Item
turns_of w = Turns w.at (tree_of w.test.now) (steps_in w.body.now)

abbrev pub check_of : WhileLoop → ℕ → Item
check_of w base = Check w.at (tree_of w.test.now) (steps_in w.body.now) base

abbrev pub counts_of : ForLoop → Item
counts_of f = Counts f.at f.counter (steps_in f.body.now)

abbrev pub again_of : ForLoop → Item
again_of f = Again f.at f.counter (steps_in f.body.now)

abbrev pub item_of : Work → Item
item_of (work.Eval e) = Eval (tree_of e.now)
item_of (work.Evals es) = Evals (trees_of (map tree_of es.now))
item_of (work.Apply at row base) = Apply at row base
item_of (work.AndThen e base) = AndThen (tree_of e.now) base
item_of (work.OrElse e base) = OrElse (tree_of e.now) base
item_of (work.Invoke at method base) = Invoke at method base
item_of (work.Child at callee base) = Child at callee.class.0 callee.method base
item_of (work.Block body) = Block (steps_in body.now)
item_of (work.Finish at what base) = Finish at (end_of what) base
item_of (work.Turns w) = turns_of w
item_of (work.Check w base) = check_of w base
item_of (work.Counts f false) = counts_of f
item_of (work.Counts f true) = again_of f
item_of (work.Return caller) = return_of caller

-- the statements of an `else`, if there is one
abbrev pub else_steps : Else → Steps
else_steps no_else = no_steps
else_steps (otherwise ss) = ss

-- what is left behind a method that ends early: its return, and all that follows
abbrev pub to_return : List Item → List Item
to_return [] = []
to_return (Return locals values up ∷ items) = Return locals values up ∷ items
to_return (_ ∷ items) = to_return items
