use Rattle.std.proofs.Common.{◌≡◌, ◌++◌, drop, map}
use Rattle.checkpoint_store.specs.CheckpointTexts.{lines_text, class_text}
use Rattle.checkpoint_store.proofs.write.put_classes.Given as goal

abbrev pub invariant-loop-class : goal.invariant-loop-class
invariant-loop-class l = l.out.items ++ lines_text (map (class_text l.shape) (drop l.class-index l.classes)) ≡ l.fn.out.items ++ lines_text (map (class_text l.shape) l.classes)
