use Rattle.std.proofs.Common.{◌≡◌, ◌+◌, ◌<◌, [], ◌∷◌, Err, IfSome, length, refl, sym, ap, subst, arith, rules}
use Rattle.wave_text.specs.Lines.{lines_of}
use Rattle.script_reader.specs.Elastics.{IsElasticAnswer, IsElastic}
use Rattle.script_reader.proofs.ElasticFitLemmas.{FitsParts, start_fits, elastic_step_fits, elastic_fits}
use Rattle.script_reader.proofs.ElasticReadLemmas.{AreToldTo, step_told, line_stops}
use Rattle.script_reader.proofs.elastics.read_parts.Goals as goal

pub loop-progress-init : goal.loop-progress-init
loop-progress-init c = record {
  before = [];
  progress = c.new-progress.ensures;
  read = record { sound = λ r k. k; whole = λ r k. k };
  number = refl;
  short = omega arith;
  fits = subst (FitsParts c.args.shape.now) (sym c.new-progress.ensures) (start_fits c.args.shape.now);
}

pub returns-in_err-take_worded-clause-answer : goal.returns-in_err-take_worded-clause-answer
returns-in_err-take_worded-clause-answer c =
    let now = c.loop-progress.invariant in
    let result : c.from_residual.result ≡ Err c.in_err-take_worded.field-0.0 = search rules in
    subst (IsElasticAnswer c.args.shape.now c.args.text.now) (sym result)
    (line_stops (λ rest. lines_of rest.now) c.args.shape.now c.args.text.now now.before c.first_line.result.1 c.first_line.result.0.now (lines_of c.loop-progress.rest.now) c.loop-progress.progress (c.loop-progress.number + 1)
    c.in_err-take_worded.field-0.0 now.read c.first_line.ensures.more c.first_line.ensures.last now.progress (ap (λ n. n + 1) now.number) c.in_err-take_worded.ensures.err)

pub loop-progress-preserved : goal.loop-progress-preserved
loop-progress-preserved c =
    let now = c.loop-progress.invariant in
    let lines : lines_of c.loop-progress.rest.now ≡ c.first_line.result.0.now ∷ lines_of c.in-Some.after.now =
    subst (λ o. IfSome o (λ rest. lines_of c.loop-progress.rest.now ≡ c.first_line.result.0.now ∷ lines_of rest.now)) c.in-Some.is c.first_line.ensures.more in
    let shorter : length c.in-Some.after.now < length c.loop-progress.rest.now = subst (λ o. IfSome o (λ rest. length rest.now < length c.loop-progress.rest.now)) c.in-Some.is c.first_line.ensures.shorter in
    let step =
    step_told c.args.shape.now (lines_of c.args.text.now) (lines_of c.in-Some.after.now) now.before c.first_line.result.0.now c.loop-progress.progress c.take_worded.new.progress
    (subst (AreToldTo c.args.shape.now (lines_of c.args.text.now) now.before) lines now.read) now.progress c.in_ok-take_worded.ensures.ok in
    record {
      before = step.0 ∷ now.before;
      progress = step.1;
      read = step.2;
      number = omega (arith, now.number);
      short = omega (arith, shorter, now.short);
      fits = elastic_step_fits c.args.shape.now c.first_line.result.0.now c.loop-progress.progress c.take_worded.new.progress now.fits c.in_ok-take_worded.ensures.ok;
    }

pub returns-clause-fits : goal.returns-clause-fits
returns-clause-fits c =
    subst (IsElastic c.args.shape.now) (sym c.in_ok-into_elastic.ensures)
    (elastic_fits c.args.shape.now c.take_worded.new.progress
    (elastic_step_fits c.args.shape.now c.first_line.result.0.now c.loop-progress.progress c.take_worded.new.progress c.loop-progress.invariant.fits c.in_ok-take_worded.ensures.ok))
