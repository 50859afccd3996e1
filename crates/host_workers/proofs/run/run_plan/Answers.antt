use Rattle.std.proofs.Common.{◌≡◌, ◌∙◌, OnErr, OnOk, ap, subst, sym}
use Rattle.std.specs.Prelude.{IfOk}
use Rattle.std.specs.Io.KnownBytes.{Appends}
use Rattle.wave_base.specs.declared.start.Start.{Start}
use Rattle.wave_base.specs.Starts.{IsStart, first_start}
use Rattle.wave_io.specs.Streams.{AppendsFront}
use Rattle.listing_out.proofs.SinkLemmas.{nothing_written, on_err, written_front}
use Rattle.script_fold.proofs.StartLemmas.{first_fits}
use Rattle.service_code.specs.declared.program.Program.{Program}
use Rattle.host_workers.specs.Lines.{event_lines}
use Rattle.host_workers.specs.Runs.{IsWholeRun}
use Rattle.host_workers.proofs.run.run_plan.Goals as goal

pub returns-in_err-start-clause-front : goal.returns-in_err-start-clause-front
returns-in_err-start-clause-front g c = on_err c.from_residual.result (written_front _ _ _ _ (nothing_written _ _))

pub run_plan_at-requires-clause-begins : goal.run_plan_at-requires-clause-begins
run_plan_at-requires-clause-begins g c κs within =
    let shape = c.args.plan.now.program.shape in
    let start_is : c.in_ok-start.start ≡ first_start shape = c.in_ok-start.ensures ∙ ap (λ (p : Program). first_start p.shape) c.program.ensures.program in
    subst (IsStart shape c.args.plan.now.script.hosts) (sym start_is) (first_fits shape c.args.plan.now.script.hosts (c.trees_that_fit.ensures.first shape c.requires.fit.shape) c.requires.script.some_host)

pub returns-clause-run : goal.returns-clause-run
returns-clause-run g c =
    let start_is : c.in_ok-start.start ≡ first_start c.args.plan.now.program.shape = c.in_ok-start.ensures ∙ ap (λ (p : Program). first_start p.shape) c.program.ensures.program in
    subst (λ (st : Start). IfOk c.run_plan_at.result (λ r. IsWholeRun c.args.plan.now st r)) start_is c.run_plan_at.ensures.run

pub returns-clause-lines : goal.returns-clause-lines
returns-clause-lines g c =
    let start_is : c.in_ok-start.start ≡ first_start c.args.plan.now.program.shape = c.in_ok-start.ensures ∙ ap (λ (p : Program). first_start p.shape) c.program.ensures.program in
    subst (λ (st : Start). OnOk c.run_plan_at.result (Appends (g.K.Sink.written c.args.out.now) (g.K.Sink.written c.run_plan_at.new.out) (event_lines c.args.plan.now st))) start_is c.run_plan_at.ensures.lines

pub returns-clause-front : goal.returns-clause-front
returns-clause-front g c =
    let start_is : c.in_ok-start.start ≡ first_start c.args.plan.now.program.shape = c.in_ok-start.ensures ∙ ap (λ (p : Program). first_start p.shape) c.program.ensures.program in
    subst (λ (st : Start). OnErr c.run_plan_at.result (AppendsFront (g.K.Sink.written c.args.out.now) (g.K.Sink.written c.run_plan_at.new.out) (event_lines c.args.plan.now st))) start_is c.run_plan_at.ensures.front
