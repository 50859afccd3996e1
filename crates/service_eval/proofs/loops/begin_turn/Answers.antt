use Rattle.std.proofs.Common.{sym, ◌∙◌}
use Rattle.resolved_service.specs.Steps.{steps_in}
use Rattle.service_eval.specs.inner.Turns.{mach}
use Rattle.service_eval.proofs.LighterTurns.{counts_lighter}
use Rattle.service_eval.proofs.FinishLemmas as l
use Rattle.service_eval.proofs.ReadyLemmas.{ready_with}
use Rattle.service_eval.proofs.loops.begin_turn.Goals as goal

pub name_turn-requires-clause-holds : goal.name_turn-requires-clause-holds
name_turn-requires-clause-holds c = sym c.is_true.ensures ∙ c.if-is_true.true

pub returns-else-is_true : goal.returns-else-is_true
returns-else-is_true c = (
  l.counts_false c.args.code.methods.now (mach c.args.code c.args.contexts.now c.args.m.now) c.args.cycle.at c.args.cycle.counter (steps_in c.args.cycle.body.now) c.requires.few c.in-Ok.value c.in-Ok.ensures (sym c.is_true.ensures ∙ c.if-is_true.false),
  ready_with _ _ _ _ _ c.requires c.requires.items.1,
  counts_lighter c.args.code.methods.now (mach c.args.code c.args.contexts.now c.args.m.now) c.args.cycle.at c.args.cycle.counter (steps_in c.args.cycle.body.now),
)

pub returns-in-Err : goal.returns-in-Err
returns-in-Err c = (l.counts_wrong c.args.code.methods.now (mach c.args.code c.args.contexts.now c.args.m.now) c.args.cycle.at c.args.cycle.counter (steps_in c.args.cycle.body.now) c.requires.few c.in-Err.e c.in-Err.ensures, c.requires.holds)
