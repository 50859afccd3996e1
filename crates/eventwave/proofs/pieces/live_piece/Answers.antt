use Rattle.std.proofs.Common.{ap, subst}
use Rattle.std.specs.Io.KnownBytes.{Appends}
use Rattle.wave_io.specs.Streams.{AppendsFront}
use Rattle.service_code.specs.declared.program.Program.{Program}
use Rattle.script_fold.specs.Runs.{finished_of}
use Rattle.listing_out.proofs.SinkLemmas.{on_err}
use Rattle.eventwave.proofs.PieceLemmas.{live_after, live_few, live_follows, live_lines, live_script, live_start, live_ticket, live_traps, nothing_yet, shots_ordered}
use Rattle.eventwave.proofs.pieces.live_piece.Goals as goal

pub returns-in_err-stages-clause-front : goal.returns-in_err-stages-clause-front
returns-in_err-stages-clause-front g c = on_err c.from_residual.result (nothing_yet (g.K.Sink.written c.args.out.now) _)

pub live-requires-clause-staged : goal.live-requires-clause-staged
live-requires-clause-staged g c = c.requires.can.3.staged

pub live-requires-clause-shots : goal.live-requires-clause-shots
live-requires-clause-shots g c = shots_ordered _ _ _ c.requires.can.3

pub run-requires-clause-script : goal.run-requires-clause-script
run-requires-clause-script g c = live_script c.requires.can.0 _ _ c.requires.can.3 _ c.in_ok-stages.ensures.same (g.R.Runner.shape c.args.runner.now) (g.R.Runner.meaning c.args.runner.now) c.requires.shape c.requires.can.2

pub run-requires-clause-start : goal.run-requires-clause-start
run-requires-clause-start g c = live_start c.requires.can.0 _ _ c.requires.can.3 _ c.in_ok-stages.ensures.same (g.R.Runner.shape c.args.runner.now) (g.R.Runner.meaning c.args.runner.now) c.requires.shape c.requires.can.2

pub run-requires-clause-follows : goal.run-requires-clause-follows
run-requires-clause-follows g c = live_follows c.requires.can.0 _ _ c.requires.can.3 _ c.in_ok-stages.ensures.same (g.R.Runner.shape c.args.runner.now) (g.R.Runner.meaning c.args.runner.now) c.requires.shape c.requires.can.2

pub run-requires-clause-staged : goal.run-requires-clause-staged
run-requires-clause-staged g c = c.in_ok-stages.ensures.staged

pub write_piece-requires-clause-first : goal.write_piece-requires-clause-first
write_piece-requires-clause-first g c = live_ticket _ _ _ c.requires.can.3 _ c.in_ok-stages.ensures.same c.first_ticket-first.result c.first_ticket-first.ensures

pub write_piece-requires-clause-few : goal.write_piece-requires-clause-few
write_piece-requires-clause-few g c = live_few c.requires.can.0 _ _ c.requires.can.3 _ c.in_ok-stages.ensures.same (g.R.Runner.shape c.args.runner.now) (g.R.Runner.meaning c.args.runner.now) c.requires.shape c.requires.can.2 c.in_ok-behind.told.results c.in_ok-behind.ensures.told.results

pub returns-in_err-trapped-clause-front : goal.returns-in_err-trapped-clause-front
returns-in_err-trapped-clause-front g c =
    on_err c.from_residual-in_err-trapped.result
    (subst (AppendsFront _ _) (live_lines c.requires.can.0 _ _ c.requires.can.3 _ c.in_ok-stages.ensures.same (g.R.Runner.shape c.args.runner.now) (g.R.Runner.meaning c.args.runner.now) c.requires.shape c.requires.can.2 c.first_ticket-first.result c.program.result.now.shape c.first_ticket-first.ensures (ap (λ (p : Program). p.shape) c.program.ensures.program))
    (c.in_err-trapped.ensures.front (finished_of (g.R.Runner.meaning c.args.runner.now) (g.R.Runner.shape c.args.runner.now) c.in_ok-stages.stages.start c.args.script) c.in_ok-behind.ensures.told))

pub returns-clause-lines : goal.returns-clause-lines
returns-clause-lines g c =
    subst (Appends _ _) (live_lines c.requires.can.0 _ _ c.requires.can.3 _ c.in_ok-stages.ensures.same (g.R.Runner.shape c.args.runner.now) (g.R.Runner.meaning c.args.runner.now) c.requires.shape c.requires.can.2 c.first_ticket-first.result c.program.result.now.shape c.first_ticket-first.ensures (ap (λ (p : Program). p.shape) c.program.ensures.program))
    (c.in_ok-trapped.ensures.lines (finished_of (g.R.Runner.meaning c.args.runner.now) (g.R.Runner.shape c.args.runner.now) c.in_ok-stages.stages.start c.args.script) c.in_ok-behind.ensures.told)

pub returns-clause-after : goal.returns-clause-after
returns-clause-after g c = live_after c.requires.can.0 _ _ c.requires.can.3 _ c.in_ok-stages.ensures.same (g.R.Runner.shape c.args.runner.now) (g.R.Runner.meaning c.args.runner.now) c.requires.shape c.requires.can.2 c.in_ok-behind.behind c.in_ok-behind.ensures.after

pub returns-clause-trapped : goal.returns-clause-trapped
returns-clause-trapped g c = live_traps c.requires.can.0 _ _ c.requires.can.3 _ c.in_ok-stages.ensures.same (g.R.Runner.shape c.args.runner.now) (g.R.Runner.meaning c.args.runner.now) c.requires.shape c.requires.can.2 _ c.in_ok-behind.told.results c.in_ok-trapped.ensures.trapped c.in_ok-behind.ensures.told.results
