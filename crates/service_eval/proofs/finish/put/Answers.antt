use Rattle.std.proofs.Common.{drop, sym, ap, subst, ◌∙◌}
use Rattle.context_tree.specs.Contexts.{tree_of as shown}
use Rattle.wave_base.specs.declared.limits.TheConstants.{TICKS}
use Rattle.resolved_service.specs.Meaning.{call_act}
use Rattle.service_eval.specs.declared.edits.Edit.TheVariants as edit
use Rattle.service_eval.specs.declared.work.StatementEnd.TheVariants as ending
use Rattle.service_eval.specs.inner.Changes.{changing}
use Rattle.service_eval.specs.inner.Items.{end_of}
use Rattle.service_eval.specs.inner.Machines.{Mach}
use Rattle.service_eval.specs.inner.Ready.{Ready}
use Rattle.service_eval.specs.inner.Turns.{mach, Does}
use Rattle.service_eval.proofs.ChangeLemmas.{put_ends, change_turn}
use Rattle.service_eval.specs.inner.Wants.{IsNewKey, value_of}
use Rattle.service_eval.proofs.WantLemmas.{said_of, same_variable}
use Rattle.service_eval.proofs.ReadyLemmas.{ready_with}
use Rattle.service_eval.proofs.finish.put.Goals as goal

pub change-requires : goal.change-requires
change-requires c =
    let T = shown c.args.code.shape.now c.args.contexts.now in
    subst (Ready c.args.code.shape.now c.args.code.methods.now) (sym (c.take_two-key.ensures.rest T)) (ready_with _ _ _ _ _ c.requires c.requires.items.1)

pub returns-clause-goes : goal.returns-clause-goes
returns-clause-goes c =
    let code = c.args.code in
    let T = shown code.shape.now c.args.contexts.now in
    let M : Mach = mach code c.args.contexts.now c.args.m.now in
    let at = c.args.at in
    let v = c.args.variable in
    let took = c.take_two-key.ensures.rest T in
    let does : Does code c.args.contexts.now c.take_two-key.new.self (changing M.path at v (edit.Put c.take_two-key.result.0 c.take_two-key.result.1)) c.change.result c.change.new.contexts c.change.new.m =
    subst (λ p. Does code c.args.contexts.now c.take_two-key.new.self (changing p at v (edit.Put c.take_two-key.result.0 c.take_two-key.result.1)) c.change.result c.change.new.contexts c.change.new.m) (ap (λ (x : Mach). x.path) took) c.change.ensures.does in
    change_turn code c.args.contexts.now c.change.new.contexts c.args.m.now c.take_two-key.new.self c.change.new.m at c.args.base (end_of (ending.Put v)) (changing M.path at v (edit.Put c.take_two-key.result.0 c.take_two-key.result.1)) c.change.result took
    (put_ends (call_act code.methods.now TICKS) TICKS M.path at M.state (drop c.args.base M.values) v ∙ (λ i. changing M.path at v (edit.Put (sym c.take_two-key.ensures.first i) (sym c.take_two-key.ensures.second i)) M.state)) does

pub returns-clause-memory : goal.returns-clause-memory
returns-clause-memory c =
    let T = shown c.args.code.shape.now c.args.contexts.now in
    said_of c.change.result
    (λ h. subst (IsNewKey (value_of c.args.code c.args.contexts.now c.args.m.now c.args.variable)) c.take_two-key.ensures.first
    (subst (λ map. IsNewKey map c.take_two-key.result.0) (same_variable c.args.code c.args.contexts.now c.args.m.now c.take_two-key.new.self c.args.base c.args.variable (c.take_two-key.ensures.rest T)) h))
    c.change.ensures.memory
