use Rattle.std.proofs.Common.{Bool, Err, sym, subst}
use Rattle.wave_base.specs.declared.limits.TheConstants.{TICKS}
use Rattle.resolved_service.specs.Meaning.{call_act}
use Rattle.service_eval.specs.declared.assignments.Assignment.TheVariants as assignment
use Rattle.service_eval.specs.declared.edits.Edit.TheVariants as edit
use Rattle.service_eval.specs.inner.Changes.{changing, step_in}
use Rattle.service_eval.specs.inner.Machines.{Mach}
use Rattle.service_eval.specs.inner.Turns.{mach, AtOnce}
use Rattle.resolved_service.specs.View.{tree_of}
use Rattle.service_eval.proofs.ChangeLemmas.{cut_means}
use Rattle.service_eval.specs.inner.Wants.{WhereWanting, MayWantAtOnce}
use Rattle.service_eval.proofs.WantLemmas.{said_of, told_said, cut_wants}
use Rattle.service_eval.proofs.OnceLemmas.{one_found, one_fails, told_once}
use Rattle.service_eval.proofs.assignments.cut.Goals as goal

pub returns-in-Ok-Some-clause-does : goal.returns-in-Ok-Some-clause-does
returns-in-Ok-Some-clause-does c =
    let code = c.args.code in
    let M : Mach = mach code c.args.contexts.now c.args.m.now in
    let k = call_act code.methods.now TICKS in
    let at = c.args.at in
    let v = c.args.variable in
    let found = rw c.in-Ok-Some.field-0-is at c.in-Ok-Some.ensures.finds in
    let x = c.in-Ok-Some.key in
    let step = step_in at (assignment.Cut v c.args.key) in
    subst (λ r. AtOnce code c.args.contexts.now c.args.m.now step r c.change.new.contexts c.change.new.m) (sym c.change_made.ensures)
    (told_once code c.args.contexts.now c.change.new.contexts c.args.m.now c.change.new.m step (changing M.path at v (edit.Cut x)) c.change.result
    (one_found k TICKS M.path step M.state (tree_of c.args.key.now) (λ x. changing M.path at v (edit.Cut x)) (cut_means k TICKS M.path at M.state v c.args.key) x found) c.change.ensures.does)

pub returns-in-Err-clause-does : goal.returns-in-Err-clause-does
returns-in-Err-clause-does c =
    let M : Mach = mach c.args.code c.args.contexts.now c.args.m.now in
    let k = call_act c.args.code.methods.now TICKS in
    let at = c.args.at in
    let v = c.args.variable in
    (one_fails k TICKS M.path (step_in at (assignment.Cut v c.args.key)) M.state (tree_of c.args.key.now) (λ x. changing M.path at v (edit.Cut x)) (cut_means k TICKS M.path at M.state v c.args.key) c.in-Err.e M.state.world c.in-Err.ensures.finds, c.requires.holds)

pub returns-in-Ok-Some-clause-memory : goal.returns-in-Ok-Some-clause-memory
returns-in-Ok-Some-clause-memory c =
    let P = MayWantAtOnce c.args.code c.args.contexts.now c.args.m.now (step_in c.args.at (assignment.Cut c.args.variable c.args.key)) in
    subst (λ r. WhereWanting r P) (sym c.change_made.ensures) (told_said c.change.result (λ h. absurd h) c.change.ensures.memory)

pub returns-in-Err-clause-memory : goal.returns-in-Err-clause-memory
returns-in-Err-clause-memory c = said_of {A = Bool} (Err c.in-Err.e) (cut_wants c.args.code c.args.contexts.now c.args.m.now c.args.at c.args.variable c.args.key) c.in-Err.ensures.memory
