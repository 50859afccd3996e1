use Rattle.std.proofs.Common.{refl}
use Rattle.eventwave.proofs.pieces.code_piece.Goals as goal

pub live_piece-requires-clause-sound : goal.live_piece-requires-clause-sound
live_piece-requires-clause-sound g c = c.requires.can.code

pub live_piece-requires-clause-can : goal.live_piece-requires-clause-can
live_piece-requires-clause-can g c = (c.args.service.now, c.args.plan.workers, refl, c.requires)

pub returns-clause-behind : goal.returns-clause-behind
returns-clause-behind g c =
    let e = c.in_ok-stages.ensures in
    record { program = refl; after = e.after; staged = e.staged; trapped = e.trapped }
