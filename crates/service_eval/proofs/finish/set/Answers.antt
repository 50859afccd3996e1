use Rattle.std.proofs.Common.{drop, sym, ap, subst, ◌∙◌}
use Rattle.context_tree.specs.Contexts.{tree_of as shown}
use Rattle.wave_base.specs.declared.limits.TheConstants.{TICKS}
use Rattle.resolved_service.specs.Meaning.{call_act}
use Rattle.service_eval.specs.declared.edits.Edit.TheVariants as edit
use Rattle.service_eval.specs.declared.work.StatementEnd.TheVariants as ending
use Rattle.service_eval.specs.inner.Changes.{changing}
use Rattle.service_eval.specs.inner.Items.{end_of}
use Rattle.service_eval.specs.inner.Machines.{Mach}
use Rattle.service_eval.specs.inner.Ready.{Ready}
use Rattle.service_eval.specs.inner.Turns.{mach, Does}
use Rattle.service_eval.proofs.ChangeLemmas.{set_ends, change_turn}
use Rattle.service_eval.proofs.ReadyLemmas.{ready_with}
use Rattle.service_eval.proofs.finish.set.Goals as goal

pub set_variable-requires : goal.set_variable-requires
set_variable-requires c =
    let T = shown c.args.code.shape.now c.args.contexts.now in
    subst (Ready c.args.code.shape.now c.args.code.methods.now) (sym (c.take-value.ensures.rest T)) (ready_with _ _ _ _ _ c.requires c.requires.items.1)

pub returns-clause-goes : goal.returns-clause-goes
returns-clause-goes c =
    let code = c.args.code in
    let T = shown code.shape.now c.args.contexts.now in
    let M : Mach = mach code c.args.contexts.now c.args.m.now in
    let at = c.args.at in
    let v = c.args.variable in
    let took = c.take-value.ensures.rest T in
    let does : Does code c.args.contexts.now c.take-value.new.self (changing M.path at v (edit.Set c.take-value.result)) c.set_variable.result c.set_variable.new.contexts c.set_variable.new.m =
    subst (λ p. Does code c.args.contexts.now c.take-value.new.self (changing p at v (edit.Set c.take-value.result)) c.set_variable.result c.set_variable.new.contexts c.set_variable.new.m) (ap (λ (x : Mach). x.path) took) c.set_variable.ensures.does in
    change_turn code c.args.contexts.now c.set_variable.new.contexts c.args.m.now c.take-value.new.self c.set_variable.new.m at c.args.base (end_of (ending.Set v)) (changing M.path at v (edit.Set c.take-value.result)) c.set_variable.result took
    (set_ends (call_act code.methods.now TICKS) TICKS M.path at M.state (drop c.args.base M.values) v ∙ ap (λ x. changing M.path at v (edit.Set x) M.state) (sym c.take-value.ensures.value)) does

pub returns-clause-memory : goal.returns-clause-memory
returns-clause-memory c = c.set_variable.ensures.memory
