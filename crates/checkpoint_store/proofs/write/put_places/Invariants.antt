use Rattle.std.proofs.Common.{◌≡◌, ◌++◌, drop, map}
use Rattle.path_text.specs.PlaceTexts.{place_text}
use Rattle.checkpoint_store.specs.CheckpointTexts.{lines_text}
use Rattle.checkpoint_store.proofs.write.put_places.Given as goal

abbrev pub invariant-loop-place : goal.invariant-loop-place
invariant-loop-place l = l.out.items ++ lines_text (map (place_text l.shape) (drop l.place-index l.places)) ≡ l.fn.out.items ++ lines_text (map (place_text l.shape) l.places)
