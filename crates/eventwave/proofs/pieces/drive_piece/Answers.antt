use Rattle.std.proofs.Common.{subst}
use Rattle.std.specs.Io.KnownBytes.{Appends}
use Rattle.wave_io.specs.Streams.{AppendsFront}
use Rattle.wave_effects.specs.Plans.{plan_of}
use Rattle.listing_out.proofs.SinkLemmas.{on_err}
use Rattle.eventwave.proofs.PieceLemmas.{kept_behind, kept_can, kept_follows, kept_lines, kept_made, kept_staged, nothing_yet}
use Rattle.eventwave.proofs.pieces.drive_piece.Goals as goal

pub returns-in_err-stages-clause-front : goal.returns-in_err-stages-clause-front
returns-in_err-stages-clause-front g c = on_err c.from_residual.result (nothing_yet (g.K.Sink.written c.args.out.now) _)

pub run_alone-requires-clause-can : goal.run_alone-requires-clause-can
run_alone-requires-clause-can g c = kept_can _ _ _ c.requires.can _ c.in_ok-stages.ensures c.start.result.now c.start.ensures

pub returns-in_err-made-clause-front : goal.returns-in_err-made-clause-front
returns-in_err-made-clause-front g c =
    on_err c.from_residual-in_err-made.result (subst (AppendsFront _ _) (kept_lines _ _ _ c.requires.can _ c.in_ok-stages.ensures c.start.result.now c.start.ensures) c.in_err-made.ensures.front)

pub go_on-trapped-requires-clause-made : goal.go_on-trapped-requires-clause-made
go_on-trapped-requires-clause-made g c =
    kept_made _ (plan_of c.args.plan) _ c.requires.can _ c.in_ok-stages.ensures c.start.result.now c.start.ensures c.args.engine c.in_ok-made.made c.requires.workers c.in_ok-made.ensures.made

pub go_on-trapped-requires-clause-staged : goal.go_on-trapped-requires-clause-staged
go_on-trapped-requires-clause-staged g c = kept_staged _ _ _ c.requires.can _ c.in_ok-stages.ensures

pub go_on-trapped-requires-clause-follows : goal.go_on-trapped-requires-clause-follows
go_on-trapped-requires-clause-follows g c = kept_follows _ _ _ c.requires.can _ c.in_ok-stages.ensures

pub returns-clause-behind : goal.returns-clause-behind
returns-clause-behind g c =
    kept_behind _ _ _ c.requires.can _ c.in_ok-stages.ensures c.go_on-trapped.new.stages c.go_on-trapped.result c.go_on-trapped.ensures.after c.go_on-trapped.ensures.staged c.go_on-trapped.ensures.trapped

pub returns-clause-lines : goal.returns-clause-lines
returns-clause-lines g c = subst (Appends _ _) (kept_lines _ _ _ c.requires.can _ c.in_ok-stages.ensures c.start.result.now c.start.ensures) c.in_ok-made.ensures.lines
