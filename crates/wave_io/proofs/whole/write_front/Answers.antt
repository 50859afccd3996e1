use Rattle.std.proofs.Common.{arith, length-drop}
use Rattle.std.proofs.lemmas.List.{take_rest}
use Rattle.wave_io.proofs.StreamLemmas.{appends_more}
use Rattle.wave_io.proofs.HeldLemmas.{keeps_appends}
use Rattle.wave_io.proofs.whole.write_front.Goals as goal

pub returns-in-Err-clause-err : goal.returns-in-Err-clause-err
returns-in-Err-clause-err g c = keeps_appends _ _ _ _ c.loop-done.invariant.written c.in-Err.ensures.bytes

pub loop-done-preserved : goal.loop-done-preserved
loop-done-preserved g c = record {
  within = omega (arith, c.in-Ok.ensures.bound, length-drop c.loop-done.done c.args.bytes.now);
  written = appends_more _ _ _ c.args.bytes.now c.loop-done.done c.in-Ok.n c.loop-done.invariant.written (rw take_rest at c.in-Ok.ensures.bytes);
  later = omega (arith, c.in-Ok.ensures.cause);
}
