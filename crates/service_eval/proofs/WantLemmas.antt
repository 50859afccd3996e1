-- Where memory may be wanting while a value is looked up, and while a variable is changed.
use Rattle.std.proofs.Common.{◌≡◌, ℕ, List, Bor, ◌⊎◌, inl, inr, get_or, Result, Ok, Err, refl, sym, ap, subst}
use Rattle.std.specs.Prelude.{OnErr}
use Rattle.wave_base.specs.declared.limits.TheConstants.{TICKS}
use Rattle.wave_base.specs.declared.span.Span.{Span}
use Rattle.wave_base.specs.declared.value.Value.{Value}
use Rattle.wave_base.specs.declared.value.Value.TheVariants.{Int, Bool as Flag, Str, Map}
use Rattle.wave_base.specs.Values.{TakesMemory}
use Rattle.value_ops.specs.Answers.{MayWantMemory}
use Rattle.value_ops.specs.Kinds.{Answer}
use Rattle.value_ops.specs.Operators.{gives_of, apply_row}
use Rattle.value_ops.proofs.LawLemmas.{row_gives_its_kind}
use Rattle.context_tree.specs.Contexts.{Contexts, tree_of as shown}
use Rattle.resolved_service.specs.declared.expr.Expr.{Expr}
use Rattle.resolved_service.specs.Meaning.{Done, value, call_act}
use Rattle.resolved_service.specs.View.{tree_of}
use Rattle.resolved_service.specs.World.{nothing}
use Rattle.service_eval.specs.declared.assignments.Assignment.TheVariants as assignment
use Rattle.service_eval.specs.declared.code.Code.{Code}
use Rattle.service_eval.specs.declared.machine.Machine.{Machine}
use Rattle.service_eval.specs.declared.stop.Stop.{Stop}
use Rattle.service_eval.specs.declared.stop.Stop.TheVariants as stop
use Rattle.service_eval.specs.declared.work.StatementEnd.TheVariants as ending
use Rattle.service_eval.specs.declared.work.Variable.{Variable}
use Rattle.service_eval.specs.declared.work.Variable.TheVariants as variable
use Rattle.service_eval.specs.inner.Answers.{Gives, made_operand, change_made}
use Rattle.service_eval.specs.inner.Changes.{step_in}
use Rattle.service_eval.specs.inner.Items.{end_of}
use Rattle.service_eval.specs.inner.Machines.{Mach, own, cut_to, state_of}
use Rattle.service_eval.specs.inner.Turns.{mach}
use Rattle.service_eval.specs.inner.Wants.{WhereWanting, MayWantToFind, MayWantAtOnce, MayWantAtEnd, IsNewKey, FindsNewKey, value_of}

-- memory is wanting for what a row gives only where it gives texts or maps
module _ (row : ℕ) (values : List Value) where
  given : (a : Answer Value) → apply_row row values ≡ a → MayWantMemory a → TakesMemory (gives_of row)
  given (Ok (Str t)) e h = subst TakesMemory (row_gives_its_kind row values (Str t) e) tt
  given (Ok (Map m)) e h = subst TakesMemory (row_gives_its_kind row values (Map m) e) tt
  given (Ok (Int n)) e h = absurd h
  given (Ok (Flag b)) e h = absurd h
  given (Err t) e h = absurd h

  pub for_given : {P : Type 0} (at : Span) (r : Result Value Stop) → (TakesMemory (gives_of row) → P) → Gives (apply_row row values) at r → WhereWanting r P
  for_given at (Ok v) f h = tt
  for_given at (Err (stop.OutOfMemory _)) f h = f (given (apply_row row values) refl h)
  for_given at (Err (stop.Trapped t)) f h = tt
  for_given at (Err (stop.Ended r)) f h = tt

  pub for_made : {P : Type 0} (at : Span) (r : Result Value Stop) → (TakesMemory (gives_of row) → P) → Gives (apply_row row values) at r → WhereWanting (made_operand r) P
  for_made at (Ok v) f h = tt
  for_made at (Err (stop.OutOfMemory _)) f h = f (given (apply_row row values) refl h)
  for_made at (Err (stop.Trapped t)) f h = tt
  for_made at (Err (stop.Ended r)) f h = tt

-- where memory was wanting, less is said of a call's answer
pub said_of : {A P Q : Type 0} (r : Result A Stop) → (P → Q) → WhereWanting r P → WhereWanting r Q
said_of (Ok a) f h = tt
said_of (Err (stop.OutOfMemory _)) f h = f h
said_of (Err (stop.Trapped t)) f h = tt
said_of (Err (stop.Ended r)) f h = tt

-- where a call fails for want of memory alone
pub settled : {P Q : Type 0} (r : Result (Unit {0}) Stop) → (P → Q) → OnErr r P → WhereWanting r Q
settled (Ok a) f h = tt
settled (Err (stop.OutOfMemory _)) f h = f h
settled (Err (stop.Trapped t)) f h = tt
settled (Err (stop.Ended r)) f h = tt

-- what holds anyway
pub wanting : {A P : Type 0} (r : Result A Stop) → P → WhereWanting r P
wanting (Ok a) p = tt
wanting (Err (stop.OutOfMemory _)) p = p
wanting (Err (stop.Trapped t)) p = tt
wanting (Err (stop.Ended r)) p = tt

-- the same of a change that is told
pub told_said : {P Q : Type 0} (r : Result (Unit {0}) Stop) → (P → Q) → WhereWanting r P → WhereWanting (change_made r) Q
told_said (Ok a) f h = tt
told_said (Err (stop.OutOfMemory _)) f h = f h
told_said (Err (stop.Trapped t)) f h = tt
told_said (Err (stop.Ended r)) f h = tt

-- a statement that changes a variable wants memory where its expressions do, or for a new key
module _ (code : Code) (contexts : Contexts) (m : Machine) (at : Span) where
  pub set_wants : (v : Variable) (e : Bor Expr) → MayWantToFind code contexts m (tree_of e.now) → MayWantAtOnce code contexts m (step_in at (assignment.Set v e))
  set_wants (variable.Local slot) e h = h
  set_wants (variable.Field f) e h = h

  pub cut_wants : (v : Variable) (k : Bor Expr) → MayWantToFind code contexts m (tree_of k.now) → MayWantAtOnce code contexts m (step_in at (assignment.Cut v k))
  cut_wants (variable.Local slot) k h = h
  cut_wants (variable.Field f) k h = h

  pub put_wants : (v : Variable) (k e : Bor Expr) → MayWantToFind code contexts m (tree_of k.now) ⊎ MayWantToFind code contexts m (tree_of e.now) → MayWantAtOnce code contexts m (step_in at (assignment.Put v k e))
  put_wants (variable.Local slot) k e (inl h) = inl h
  put_wants (variable.Local slot) k e (inr h) = inr (inl h)
  put_wants (variable.Field f) k e (inl h) = inl h
  put_wants (variable.Field f) k e (inr h) = inr (inl h)

  pub put_adds : (v : Variable) (k e : Bor Expr) (key : Value) → value (call_act code.methods.now TICKS) m.path (tree_of k.now) (state_of (shown code.shape.now contexts) m) ≡ Done key (state_of (shown code.shape.now contexts) m) → IsNewKey (value_of code contexts m v) key → MayWantAtOnce code contexts m (step_in at (assignment.Put v k e))
  put_adds (variable.Local slot) k e key is h = inr (inr (subst (FindsNewKey (value_of code contexts m (variable.Local slot))) (sym is) h))
  put_adds (variable.Field f) k e key is h = inr (inr (subst (FindsNewKey (value_of code contexts m (variable.Field f))) (sym is) h))

-- a variable has the same where other values are taken away
pub same_variable : (code : Code) (contexts : Contexts) (m m' : Machine) (base : ℕ) (v : Variable) → mach code contexts m' ≡ cut_to base (mach code contexts m) → value_of code contexts m' v ≡ value_of code contexts m v
same_variable code contexts m m' base (variable.Local slot) e = ap (λ (x : Mach). get_or x.state.locals slot nothing) e
same_variable code contexts m m' base (variable.Field f) e = ap (λ (x : Mach). get_or ((shown code.shape.now contexts).fields x.path) f nothing) e

-- where a statement changes a variable by the values of its expressions
module _ (code : Code) (contexts : Contexts) (m : Machine) (base : ℕ) where
  pub set_ended : (v : Variable) → ⊥ → MayWantAtEnd code contexts m base (end_of (ending.Set v))
  set_ended v h = absurd h

  pub cut_ended : (v : Variable) → ⊥ → MayWantAtEnd code contexts m base (end_of (ending.Cut v))
  cut_ended v h = absurd h

  pub put_ended : (v : Variable) → IsNewKey (value_of code contexts m v) (own 0 base m.values.items) → MayWantAtEnd code contexts m base (end_of (ending.Put v))
  put_ended (variable.Local slot) h = h
  put_ended (variable.Field f) h = h
