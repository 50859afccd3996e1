use Rattle.std.proofs.Common.{◌≡◌, ◌<◌, ◌∷◌, IfSome, length, sym, subst, arith}
use Rattle.wave_base.specs.Scripts.{IsScript}
use Rattle.wave_text.specs.Lines.{lines_of}
use Rattle.script_reader.proofs.FitLemmas.{step_fits, script_fits}
use Rattle.script_reader.proofs.ReadLemmas.{AreReadTo, step_read}
use Rattle.script_reader.proofs.read.read_lines.Goals as goal

pub loop-progress-preserved : goal.loop-progress-preserved
loop-progress-preserved c =
    let now = c.loop-progress.invariant in
    let lines : lines_of c.loop-progress.rest.now ≡ c.first_line.result.0.now ∷ lines_of c.in-Some.after.now =
    subst (λ o. IfSome o (λ rest. lines_of c.loop-progress.rest.now ≡ c.first_line.result.0.now ∷ lines_of rest.now)) c.in-Some.is c.first_line.ensures.more in
    let shorter : length c.in-Some.after.now < length c.loop-progress.rest.now = subst (λ o. IfSome o (λ rest. length rest.now < length c.loop-progress.rest.now)) c.in-Some.is c.first_line.ensures.shorter in
    let step =
    step_read c.args.shape.now c.args.earlier (lines_of c.args.text.now) (lines_of c.in-Some.after.now) now.before c.first_line.result.0.now c.loop-progress.progress c.take_line.new.progress
    (subst (AreReadTo c.args.shape.now c.args.earlier (lines_of c.args.text.now) now.before) lines now.read) now.progress c.in_ok-take_line.ensures.ok in
    record {
      before = step.0 ∷ now.before;
      progress = step.1;
      read = step.2;
      number = omega (arith, now.number);
      short = omega (arith, shorter, now.short);
      fits = step_fits c.args.shape.now c.first_line.result.0.now c.loop-progress.progress c.take_line.new.progress now.fits c.in_ok-take_line.ensures.ok;
    }

pub returns-clause-fits : goal.returns-clause-fits
returns-clause-fits c =
    subst (IsScript c.args.shape.now) (sym c.in_ok-into_script.ensures)
    (script_fits c.args.shape.now c.take_line.new.progress (step_fits c.args.shape.now c.first_line.result.0.now c.loop-progress.progress c.take_line.new.progress c.loop-progress.invariant.fits c.in_ok-take_line.ensures.ok))
