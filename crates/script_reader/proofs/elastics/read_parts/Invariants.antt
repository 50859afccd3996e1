use Rattle.std.proofs.Common.{◌≡◌, ◌+◌, ◌≤◌, List, length}
use Rattle.wave_text.specs.Lines.{lines_of}
use Rattle.script_reader.specs.declared.told.Told.{Told}
use Rattle.script_reader.specs.inner.ElasticProgressed.{elastic_progress_of}
use Rattle.script_reader.proofs.ElasticFitLemmas.{FitsParts}
use Rattle.script_reader.proofs.ElasticReadLemmas.{AreToldTo}
use Rattle.script_reader.proofs.elastics.read_parts.Given as goal

abbrev pub invariant-loop-progress : goal.invariant-loop-progress
invariant-loop-progress l = record {
  before : List Told;
  progress : l.progress ≡ elastic_progress_of before;
  read : AreToldTo l.shape (lines_of l.fn.text) before (lines_of l.rest);
  number : l.number ≡ length before;
  short : l.number + length l.rest ≤ length l.fn.text;
  fits : FitsParts l.shape l.progress;
}

abbrev pub decreases-loop-progress : goal.decreases-loop-progress
decreases-loop-progress l = length l.rest
