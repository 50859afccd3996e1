use Rattle.std.proofs.Common.{◌≡◌, ◌+◌, ◌≤◌, List, length}
use Rattle.wave_text.specs.Lines.{lines_of}
use Rattle.script_reader.specs.declared.taken.Taken.{Taken}
use Rattle.script_reader.specs.inner.Progressed.{progress_of}
use Rattle.script_reader.proofs.FitLemmas.{Fits}
use Rattle.script_reader.proofs.ReadLemmas.{AreReadTo}
use Rattle.script_reader.proofs.read.read_lines.Given as goal

abbrev pub invariant-loop-progress : goal.invariant-loop-progress
invariant-loop-progress l = record {
  before : List Taken;
  progress : l.progress ≡ progress_of l.fn.earlier before;
  read : AreReadTo l.shape l.fn.earlier (lines_of l.fn.text) before (lines_of l.rest);
  number : l.number ≡ length before;
  short : l.number + length l.rest ≤ length l.fn.text;
  fits : Fits l.shape l.progress;
}

abbrev pub decreases-loop-progress : goal.decreases-loop-progress
decreases-loop-progress l = length l.rest
