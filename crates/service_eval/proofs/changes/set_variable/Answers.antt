use Rattle.std.proofs.Common.{Ok, get_or, refl, sym, subst}
use Rattle.resolved_service.specs.World.{nothing}
use Rattle.service_eval.specs.declared.edits.Edit.TheVariants as edit
use Rattle.service_eval.specs.declared.work.Variable.TheVariants as variable
use Rattle.service_eval.specs.inner.Changes.{changing, edited_value}
use Rattle.service_eval.specs.inner.Machines.{Mach}
use Rattle.service_eval.specs.inner.Turns.{mach, Does}
use Rattle.service_eval.proofs.OnceLemmas.{slot_does}
use Rattle.service_eval.proofs.changes.set_variable.Goals as goal

pub returns-in-Local-clause-does : goal.returns-in-Local-clause-does
returns-in-Local-clause-does c =
    let M : Mach = mach c.args.code c.args.contexts.now c.args.m.now in
    let slot = c.in-Local.slot in
    subst (λ v. Does c.args.code c.args.contexts.now c.args.m.now (changing M.path c.args.at v (edit.Set c.args.value)) (Ok tt) c.args.contexts.now c.set_local.new.self) (sym c.in-Local.is)
    (slot_does c.args.code c.args.contexts.now c.args.m.now c.set_local.new.self (changing M.path c.args.at (variable.Local slot) (edit.Set c.args.value)) c.requires c.args.at (edited_value (edit.Set c.args.value) (get_or M.state.locals slot nothing)) slot refl c.args.value (Ok tt) refl (c.set_local.ensures _))
