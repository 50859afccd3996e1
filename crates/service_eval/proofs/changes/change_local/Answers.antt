use Rattle.std.proofs.Common.{get_or, refl, ap}
use Rattle.resolved_service.specs.World.{nothing}
use Rattle.service_eval.specs.declared.work.Variable.TheVariants as variable
use Rattle.service_eval.specs.inner.Changes.{changing, edited_value}
use Rattle.service_eval.specs.inner.Machines.{Mach, in_state}
use Rattle.service_eval.specs.inner.Turns.{mach}
use Rattle.service_eval.proofs.OnceLemmas.{slot_does}
use Rattle.service_eval.proofs.changes.change_local.Goals as goal

pub returns-clause-does : goal.returns-clause-does
returns-clause-does c =
    let M : Mach = mach c.args.code c.args.contexts.now c.args.m.now in
    let slot = c.args.slot in
    let changed = c.apply_at.ensures.revises in
    slot_does c.args.code c.args.contexts.now c.args.m.now (record c.args.m.now { locals = c.apply_at.new.values }) (changing M.path c.args.at (variable.Local slot) c.args.edit.now) c.requires c.args.at (edited_value c.args.edit.now (get_or M.state.locals slot nothing)) slot refl changed.value c.apply_at.result changed.alters
    (ap (λ ls. in_state (record { locals = ls; world = M.state.world }) M) changed.list)

pub returns-clause-memory : goal.returns-clause-memory
returns-clause-memory c = c.apply_at.ensures.memory
