-- What is written, part by part.
use Rattle.std.proofs.Common.{◌≡◌, ◌++◌, ◌∷◌, [], ℕ, List, ap, ◌∙◌, append_assoc}
use Rattle.std.specs.Prelude.{codes}
use Rattle.wave_base.specs.declared.shape.Shape.{Shape}
use Rattle.snapshot_text.specs.SnapshotTexts.{IsSnapshotText, snapshot_text}
use Rattle.checkpoint_store.specs.declared.point.Checkpoint.{Checkpoint}
use Rattle.checkpoint_store.specs.CheckpointTexts.{front_text, tail_text, IsCheckpointText}
use Rattle.checkpoint_store.specs.Points.{IsPoint, numbers_of}
use Rattle.checkpoint_store.proofs.TailLemmas.{places_text}

pub all_written : (shape : Shape) (p : Checkpoint) (a b snapshot d e f text : List ℕ) → IsPoint shape p → a ≡ [] → b ≡ a ++ front_text shape (numbers_of p) → IsSnapshotText shape snapshot p.start.shots → d ≡ b ++ snapshot
    → e ≡ d ++ places_text shape p.start.places → f ≡ e ++ (codes "end" ++ 10 ∷ []) → text ≡ f → IsCheckpointText shape text p
all_written shape p a b snapshot d e f text point empty front shots part places last whole = record {
  spelled =
      whole ∙ last ∙ ap (λ t. t ++ (codes "end" ++ 10 ∷ [])) (places ∙ ap (λ t. t ++ places_text shape p.start.places) (part ∙ (λ i. (front ∙ ap (λ t. t ++ front_text shape (numbers_of p)) empty) i ++ shots.spelled i)))
      ∙ append_assoc (front_text shape (numbers_of p) ++ snapshot_text shape p.start.shots) (places_text shape p.start.places) (codes "end" ++ 10 ∷ [])
      ∙ append_assoc (front_text shape (numbers_of p)) (snapshot_text shape p.start.shots) (tail_text shape p.start.places);
  point = point;
  shots = shots.shots_are;
}
