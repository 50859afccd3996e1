use Rattle.std.proofs.Common.{Bool, Err, sym, subst}
use Rattle.wave_base.specs.declared.limits.TheConstants.{TICKS}
use Rattle.resolved_service.specs.Meaning.{call_act}
use Rattle.service_eval.specs.declared.assignments.Assignment.TheVariants as assignment
use Rattle.service_eval.specs.declared.edits.Edit.TheVariants as edit
use Rattle.service_eval.specs.inner.Changes.{changing, step_in}
use Rattle.service_eval.specs.inner.Machines.{Mach}
use Rattle.service_eval.specs.inner.Turns.{mach, AtOnce}
use Rattle.resolved_service.specs.View.{tree_of}
use Rattle.service_eval.proofs.ChangeLemmas.{set_means}
use Rattle.service_eval.specs.inner.Wants.{WhereWanting, MayWantAtOnce}
use Rattle.service_eval.proofs.WantLemmas.{said_of, told_said, set_wants}
use Rattle.service_eval.proofs.OnceLemmas.{one_found, one_fails, told_once}
use Rattle.service_eval.proofs.assignments.set.Goals as goal

pub returns-in-Ok-Some-clause-does : goal.returns-in-Ok-Some-clause-does
returns-in-Ok-Some-clause-does c =
    let code = c.args.code in
    let M : Mach = mach code c.args.contexts.now c.args.m.now in
    let k = call_act code.methods.now TICKS in
    let at = c.args.at in
    let v = c.args.variable in
    let found = rw c.in-Ok-Some.field-0-is at c.in-Ok-Some.ensures.finds in
    let x = c.in-Ok-Some.value in
    let step = step_in at (assignment.Set v c.args.e) in
    subst (λ r. AtOnce code c.args.contexts.now c.args.m.now step r c.set_variable.new.contexts c.set_variable.new.m) (sym c.change_made.ensures)
    (told_once code c.args.contexts.now c.set_variable.new.contexts c.args.m.now c.set_variable.new.m step (changing M.path at v (edit.Set x)) c.set_variable.result
    (one_found k TICKS M.path step M.state (tree_of c.args.e.now) (λ x. changing M.path at v (edit.Set x)) (set_means k TICKS M.path at M.state v c.args.e) x found) c.set_variable.ensures.does)

pub returns-in-Err-clause-does : goal.returns-in-Err-clause-does
returns-in-Err-clause-does c =
    let M : Mach = mach c.args.code c.args.contexts.now c.args.m.now in
    let k = call_act c.args.code.methods.now TICKS in
    let at = c.args.at in
    let v = c.args.variable in
    (one_fails k TICKS M.path (step_in at (assignment.Set v c.args.e)) M.state (tree_of c.args.e.now) (λ x. changing M.path at v (edit.Set x)) (set_means k TICKS M.path at M.state v c.args.e) c.in-Err.e M.state.world c.in-Err.ensures.finds, c.requires.holds)

pub returns-in-Ok-Some-clause-memory : goal.returns-in-Ok-Some-clause-memory
returns-in-Ok-Some-clause-memory c =
    let P = MayWantAtOnce c.args.code c.args.contexts.now c.args.m.now (step_in c.args.at (assignment.Set c.args.variable c.args.e)) in
    subst (λ r. WhereWanting r P) (sym c.change_made.ensures) (told_said c.set_variable.result (λ h. absurd h) c.set_variable.ensures.memory)

pub returns-in-Err-clause-memory : goal.returns-in-Err-clause-memory
returns-in-Err-clause-memory c = said_of {A = Bool} (Err c.in-Err.e) (set_wants c.args.code c.args.contexts.now c.args.m.now c.args.at c.args.variable c.args.e) c.in-Err.ensures.memory
