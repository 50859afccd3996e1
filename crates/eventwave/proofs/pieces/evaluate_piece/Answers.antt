use Rattle.std.proofs.Common.{ap, refl}
use Rattle.service_code.specs.declared.program.Program.{Program}
use Rattle.eventwave.proofs.PieceLemmas.{evaluator_fits}
use Rattle.eventwave.proofs.pieces.evaluate_piece.Goals as goal

pub live_piece-requires-clause-sound : goal.live_piece-requires-clause-sound
live_piece-requires-clause-sound g c = evaluator_fits _ _ _ _ c.requires (ap (λ (p : Program). p.shape) c.program.ensures.program)

pub live_piece-requires-clause-can : goal.live_piece-requires-clause-can
live_piece-requires-clause-can g c = (c.args.service.now, c.args.plan.workers, refl, c.requires)

pub returns-clause-behind : goal.returns-clause-behind
returns-clause-behind g c =
    let e = c.in_ok-stages.ensures in
    record { program = refl; after = e.after; staged = e.staged; trapped = e.trapped }
