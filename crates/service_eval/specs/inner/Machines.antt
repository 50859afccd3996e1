-- A machine as contracts see it, and what is still to come of it.
use Rattle.std.specs.Prelude.{ℕ, suc, pos, Bool, true, false, List, [], ◌∷◌, ◌++◌, map, reverse, take, drop, get_or, Option, Some, None}
use Rattle.wave_base.specs.declared.limits.TheConstants.{TICKS}
use Rattle.wave_base.specs.declared.path.Path.{Path}
use Rattle.wave_base.specs.declared.span.Span.{Span}
use Rattle.wave_base.specs.declared.value.Value.{Value}
use Rattle.wave_base.specs.declared.value.Value.TheVariants.{Int, Bool as Truth}
use Rattle.wave_base.specs.Paths.{parent_of}
use Rattle.wave_base.specs.Tree.{Tree as Contexts}
use Rattle.value_ops.specs.Operators.{apply_row}
use Rattle.resolved_service.specs.declared.service.Last.{Last}
use Rattle.resolved_service.specs.declared.service.Method.{Method}
use Rattle.resolved_service.specs.Meaning.{State, Returned, Finished, Outcome, Done, Trapped, Left, Act, and_then, ◌>>=◌, ◌>>◌, give, answer, with_world, tick, enter_at, back, choose, get_local, set_local, get_field, put_field, demand, leave, row_add, row_put, row_cut, worth, value, values, while_turns, for_test, for_body, effect, effects, with_blanks, call_act}
use Rattle.resolved_service.specs.Steps.{steps_in}
use Rattle.resolved_service.specs.View.{tree_of}
use Rattle.resolved_service.specs.World.{World, nothing, is_true, child, sending, spawning}
use Rattle.service_eval.specs.declared.machine.Machine.{Machine}
use Rattle.service_eval.specs.declared.work.Caller.{Caller}
use Rattle.service_eval.specs.inner.Items.{End, SetLocal, SetField, PutLocal, PutField, CutLocal, CutField, Branch, Require, Send, Spawn, Drop, Returns, Finishes, Item, Eval, Evals, Apply, AndThen, OrElse, Invoke, Child, Block, Begin, Finish, Turns, Check, Counts, Again, Return, item_of}
use Rattle.service_eval.specs.inner.Traces.{uncounted_outcome, world_of}

-- what is to be done next stands first
pub record Mach : Type 0 where
  pub items : List Item
  pub values : List Value
  pub path : Path
  pub state : State

abbrev pub state_of : Contexts (List Value) → Machine → State
state_of tree m = record { locals = m.locals.items; world = world_of tree m.trace }

abbrev pub items_of : Machine → List Item
items_of m = map item_of (reverse m.work.items)

abbrev pub mach_of : Contexts (List Value) → Machine → Mach
mach_of tree m = record { items = items_of m; values = m.values.items; path = m.path; state = state_of tree m }

-- one thing more to be done, before all others
abbrev pub on_top : Item → Mach → Mach
on_top item m = record m { items = item ∷ m.items }

-- several things more to be done, before all others
abbrev pub before_all : List Item → Mach → Mach
before_all items m = record m { items = items ++ m.items }

-- a value more
abbrev pub with_value : Value → Mach → Mach
with_value v m = record m { values = m.values ++ v ∷ [] }

-- values taken away
abbrev pub cut_to : ℕ → Mach → Mach
cut_to base m = record m { values = take base m.values }

abbrev pub in_state : State → Mach → Mach
in_state st m = record m { state = st }

-- an item's own values
abbrev pub own : ℕ → ℕ → List Value → Value
own i base vs = get_or (drop base vs) i nothing

-- what a statement does with its values
module _ (call : ℕ → Path → List Value → Act (Option Value)) (n : ℕ) (p : Path) (at : Span) (vs : List Value) where
  abbrev pub finish : End → Act (Unit {0})
  finish (SetLocal slot) = set_local slot (get_or vs 0 nothing)
  finish (SetField f) = put_field f p (get_or vs 0 nothing)
  finish (PutLocal slot) = do
    m ← get_local slot
    more ← answer (apply_row row_put (m ∷ get_or vs 0 nothing ∷ get_or vs 1 nothing ∷ [])) at
    set_local slot more
  finish (PutField f) = do
    m ← get_field f p
    more ← answer (apply_row row_put (m ∷ get_or vs 0 nothing ∷ get_or vs 1 nothing ∷ [])) at
    put_field f p more
  finish (CutLocal slot) = do
    m ← get_local slot
    less ← answer (apply_row row_cut (m ∷ get_or vs 0 nothing ∷ [])) at
    set_local slot less
  finish (CutField f) = do
    m ← get_field f p
    less ← answer (apply_row row_cut (m ∷ get_or vs 0 nothing ∷ [])) at
    put_field f p less
  finish (Branch body other) = choose (is_true (get_or vs 0 nothing)) (effects call n p body) (effects call n p other)
  finish Require = demand (is_true (get_or vs 0 nothing)) at
  finish (Send label) = λ st. with_world (sending label (get_or vs 0 nothing) st.world) at st
  finish (Spawn event) = λ st. with_world (spawning event vs st.world) at st
  finish Drop = give tt
  finish Returns = leave Returned (Some (get_or vs 0 nothing))
  finish Finishes = leave Finished (Some (get_or vs 0 nothing))

-- a turn of a loop, where its test has its value
abbrev pub turn_on : Act Value → Act (Unit {0}) → Span → Value → Act (Unit {0})
turn_on test body at t = choose (is_true t) (tick at >> (body >> while_turns TICKS test body at)) (give tt)

-- the counter of a loop over numbers goes on
abbrev pub next : ℕ → Span → Act (Unit {0})
next counter at = do
  j ← get_local counter
  more ← answer (apply_row row_add (j ∷ Int (pos 1) ∷ [])) at
  set_local counter more

-- What an item does, from the values that are there to those that are there then. Calls and turns are bounded by the ticks of a
-- whole event, which no event uses up.
module _ (methods : List Method) (p : Path) where
  abbrev pub act : Item → List Value → Act (List Value)
  act (Eval t) vs = value (call_act methods TICKS) p t >>= (λ v. give (vs ++ v ∷ []))
  act (Evals ts) vs = values (call_act methods TICKS) p ts >>= (λ more. give (vs ++ more))
  act (Apply at row base) vs = answer (apply_row row (drop base vs)) at >>= (λ v. give (take base vs ++ v ∷ []))
  act (AndThen right base) vs = choose (is_true (own 0 base vs)) (value (call_act methods TICKS) p right) (give (Truth false)) >>= (λ v. give (take base vs ++ v ∷ []))
  act (OrElse right base) vs = choose (is_true (own 0 base vs)) (give (Truth true)) (value (call_act methods TICKS) p right) >>= (λ v. give (take base vs ++ v ∷ []))
  act (Invoke at method base) vs = do
    tick at
    result ← call_act methods TICKS method p (drop base vs)
    give (take base vs ++ worth result ∷ [])
  act (Child at class method base) vs = do
    tick at
    enter_at (child p class (own 0 base vs)) at
    result ← call_act methods TICKS method (child p class (own 0 base vs)) (drop (suc base) vs)
    back
    give (take base vs ++ worth result ∷ [])
  act (Block steps) vs = effects (call_act methods TICKS) TICKS p steps >> give vs
  act (Begin s) vs = effect (call_act methods TICKS) TICKS p s >> give vs
  act (Finish at what base) vs = finish (call_act methods TICKS) TICKS p at (drop base vs) what >> give (take base vs)
  act (Turns at test body) vs = while_turns TICKS (value (call_act methods TICKS) p test) (effects (call_act methods TICKS) TICKS p body) at >> give vs
  act (Check at test body base) vs = turn_on (value (call_act methods TICKS) p test) (effects (call_act methods TICKS) TICKS p body) at (own 0 base vs) >> give (take base vs)
  act (Counts at counter body) vs = while_turns TICKS (for_test counter at) (for_body counter at (effects (call_act methods TICKS) TICKS p body)) at >> give vs
  act (Again at counter body) vs = next counter at >> (while_turns TICKS (for_test counter at) (for_body counter at (effects (call_act methods TICKS) TICKS p body)) at >> give vs)
  act (Return locals below up) vs = give vs

abbrev pub path_after : Bool → Path → Path
path_after true p = parent_of p
path_after false p = p

-- the caller has its locals and values again, and the value of the call, which may have returned early
abbrev pub after_return : List Value → List Value → Outcome (List Value) → Outcome (List Value)
after_return locals below (Done vs st) = Done (below ++ get_or vs 0 nothing ∷ []) (record { locals = locals; world = st.world })
after_return locals below (Trapped k at w) = Trapped k at w
after_return locals below (Left (Returned r) st) = Done (below ++ worth r ∷ []) (record { locals = locals; world = st.world })
after_return locals below (Left (Finished r) st) = Left (Finished r) (record { locals = locals; world = st.world })

-- where nothing is left to do: the values that are there, and where
pub record Rest : Type 0 where
  pub values : List Value
  pub path : Path

abbrev pub rest_at : Path → List Value → Rest
rest_at p vs = record { values = vs; path = p }

module _ (methods : List Method) where
  -- all that is to be done, after what was done so far
  abbrev pub resume : List Item → Path → Outcome (List Value) → Outcome Rest
  resume [] p out = and_then out (λ vs. give (rest_at p vs))
  resume (Return locals below up ∷ items) p out = resume items (path_after up p) (after_return locals below out)
  resume (Eval t ∷ items) p out = resume items p (and_then out (act methods p (Eval t)))
  resume (Evals ts ∷ items) p out = resume items p (and_then out (act methods p (Evals ts)))
  resume (Apply at row base ∷ items) p out = resume items p (and_then out (act methods p (Apply at row base)))
  resume (AndThen right base ∷ items) p out = resume items p (and_then out (act methods p (AndThen right base)))
  resume (OrElse right base ∷ items) p out = resume items p (and_then out (act methods p (OrElse right base)))
  resume (Invoke at method base ∷ items) p out = resume items p (and_then out (act methods p (Invoke at method base)))
  resume (Child at class method base ∷ items) p out = resume items p (and_then out (act methods p (Child at class method base)))
  resume (Block steps ∷ items) p out = resume items p (and_then out (act methods p (Block steps)))
  resume (Begin s ∷ items) p out = resume items p (and_then out (act methods p (Begin s)))
  resume (Finish at what base ∷ items) p out = resume items p (and_then out (act methods p (Finish at what base)))
  resume (Turns at test body ∷ items) p out = resume items p (and_then out (act methods p (Turns at test body)))
  resume (Check at test body base ∷ items) p out = resume items p (and_then out (act methods p (Check at test body base)))
  resume (Counts at counter body ∷ items) p out = resume items p (and_then out (act methods p (Counts at counter body)))
  resume (Again at counter body ∷ items) p out = resume items p (and_then out (act methods p (Again at counter body)))

  -- what that comes to, but for how often the event changes its place
  abbrev pub come_of : List Item → Path → Outcome (List Value) → Outcome Rest
  come_of items p out = uncounted_outcome (resume items p out)

  -- what a machine comes to
  abbrev pub comes_to : Mach → Outcome Rest
  comes_to m = come_of m.items m.path (Done m.values m.state)

-- back at the parent
abbrev pub at_parent : Mach → Mach
at_parent m = record m { path = parent_of m.path }

abbrev pub with_last : Option Last → List Item → List Item
with_last None items = items
with_last (Some last) items = Eval (tree_of last.value) ∷ items

-- a method is to run with these arguments, and then to return
abbrev pub method_start : Method → List Value → Bool → Mach → Mach
method_start method given up m = record {
  items = Block (steps_in method.body) ∷ with_last method.last (Return m.state.locals m.values up ∷ m.items);
  values = [];
  path = m.path;
  state = record { locals = with_blanks given method.locals; world = m.state.world };
}

-- the caller goes on with the value of the call
abbrev pub back_to : Caller → Value → Mach → Mach
back_to c v m = record {
  items = m.items;
  values = c.values.items ++ v ∷ [];
  path = path_after c.up m.path;
  state = record { locals = c.locals.items; world = m.state.world };
}

abbrev pub in_world : World → Mach → Mach
in_world w m = record m { state = record { locals = m.state.locals; world = w } }
