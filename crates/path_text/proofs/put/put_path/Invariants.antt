use Rattle.std.proofs.Common.{◌≡◌, ◌++◌, drop, take, map, All, FitsSigned, w64}
use Rattle.wave_base.specs.declared.path.Step.{Step}
use Rattle.path_text.specs.PathTexts.{written_step}
use Rattle.path_text.specs.Steps.{steps_text}
use Rattle.path_text.proofs.put.put_path.Given as goal

abbrev pub invariant-loop-i : goal.invariant-loop-i
invariant-loop-i l = record {
  text : l.out.items ++ steps_text (map (written_step l.shape) (drop l.i l.path)) ≡ l.fn.out.items ++ steps_text (map (written_step l.shape) l.path);
  keys : All (λ (s : Step). FitsSigned w64 s.key) (take l.i l.path);
}
