-- What is said of a whole text, as the reader comes to it.
use Rattle.std.proofs.Common.{◌≡◌, ◌≤◌, ◌+◌, inl, inr, ℕ, List, [], length, Ok, Err, sym, ap, subst, ◌∙◌, length-append, arith}
use Rattle.wave_base.specs.Memory.{the_refusal}
use Rattle.wave_base.specs.declared.finished.Place.{Place}
use Rattle.wave_base.specs.declared.shape.Shape.{Shape}
use Rattle.wave_base.specs.declared.shot.Shot.{Shot}
use Rattle.wave_base.specs.Names.{HasNames}
use Rattle.wave_base.specs.Shapes.{IsShape}
use Rattle.snapshot_text.specs.Shots.{paths_of}
use Rattle.snapshot_text.specs.Verdicts.{IsOnlyVerdict as IsOnlySnapshot}
use Rattle.checkpoint_store.specs.declared.error.CheckError.{CheckError}
use Rattle.checkpoint_store.specs.declared.error.CheckError.TheVariants as error
use Rattle.checkpoint_store.specs.declared.numbers.Numbers.{Numbers}
use Rattle.checkpoint_store.specs.declared.point.Checkpoint.{Checkpoint}
use Rattle.checkpoint_store.specs.CheckpointTexts.{front_text}
use Rattle.checkpoint_store.specs.Dues.{front_dues}
use Rattle.checkpoint_store.specs.Points.{AreInRange, IsPoint}
use Rattle.checkpoint_store.specs.Refusals.{error_at}
use Rattle.checkpoint_store.specs.Verdicts.{snapshot_part, behind_part, HasFront, HasTail, IsWrongTail, IsOnlyVerdict}
use Rattle.checkpoint_store.specs.inner.Steps.{refusal_behind, StopsWith, IsTailRefusal, IsShotRefusal}
use Rattle.checkpoint_store.proofs.PartLemmas.{part_short}
use Rattle.checkpoint_store.proofs.PointLemmas.{is_start}
use Rattle.checkpoint_store.proofs.VerdictLemmas.{stops_front, stops_snapshot, stops_tail, is_read}

module _ (shape : Shape) (is : IsShape shape) (names : HasNames shape) (text : List ℕ) where
  abbrev IsSaid : CheckError → Type 0
  IsSaid e = IsOnlyVerdict shape text (Err e)

  wanting : (e : CheckError) → e ≡ error.OutOfMemory the_refusal → IsSaid e
  wanting e w = subst IsSaid (sym w) tt

  pub front_said : (e : CheckError) → StopsWith shape 0 (front_dues shape) text 0 e → IsSaid e
  front_said e (inl w) = wanting e w
  front_said e (inr r) =
      let same : 0 + r.1 ≡ r.1 = omega arith in
      subst IsSaid (sym (r.3 ∙ ap (error_at r.0) same)) (stops_front shape is names text r.0 r.1 r.2)

  module _ (n : Numbers) (rest : List ℕ) (front : HasFront shape n text rest) where
    pub shots_said : (part : List ℕ) → part ≡ snapshot_part rest → (before : ℕ) → before ≡ 3 + length shape.classes → (e : CheckError) → IsShotRefusal shape part before e → IsSaid e
    shots_said part same before at e r =
        subst IsSaid (sym (r.2 ∙ ap (λ b. refusal_behind r.0 b) at)) (stops_snapshot shape is names text n rest front r.0 (subst (λ p. IsOnlySnapshot shape p (Err r.0)) same r.1))

    module _ (part : List ℕ) (part_is : part ≡ snapshot_part rest) (shots : List Shot) (read : IsOnlySnapshot shape part (Ok shots)) (tail : List ℕ) (tail_is : tail ≡ behind_part rest) where
      read_here : IsOnlySnapshot shape (snapshot_part rest) (Ok shots)
      read_here = subst (λ p. IsOnlySnapshot shape p (Ok shots)) part_is read

      pub tail_said : (before : ℕ) → before ≡ 3 + length shape.classes + 1 + length shots → (e : CheckError) → IsTailRefusal shape n.hosts (paths_of shots) tail before e → IsSaid e
      tail_said before at e (inl w) = wanting e w
      tail_said before at e (inr r) =
          subst IsSaid (sym (r.3 ∙ ap (λ b. error_at r.0 (b + r.1)) at))
          (stops_tail shape is names text n rest front shots read_here r.0 r.1 (subst (λ t. IsWrongTail shape n.hosts (paths_of shots) t r.0 r.1) tail_is r.2))

      module _ (places : List Place) (placed : HasTail shape n.hosts (paths_of shots) places tail []) (few : length shots ≤ 1000000000) where
        abbrev point_of : Checkpoint
        point_of = record { hosts = n.hosts; lines = n.lines; start = record { shots = shots; places = places; next = record { 0 = n.next } } }

        pub point_fits : IsPoint shape point_of
        point_fits =
            let range : AreInRange n = front.range in
            let last : n.next ≤ 2000000000 = omega (arith, range.last_next) in
            record {
              numbers = range;
              fits = is_start shape (record { shots = shots; places = places; next = record { 0 = n.next } }) n.hosts read.0.shots_are placed.paths_are placed.below few range.first_next last;
            }

        pub point_said : IsOnlyVerdict shape text (Ok point_of)
        point_said = is_read shape is names text n rest front shots read_here places (subst (λ t. HasTail shape n.hosts (paths_of shots) places t []) tail_is placed) point_fits

-- ---- how much there is

pub part_low : (shape : Shape) (n : Numbers) (text rest part : List ℕ) → HasFront shape n text rest → part ≡ snapshot_part rest → length part ≤ length text
part_low shape n text rest part front same = omega (arith, ap length same, (part_short rest).0, ap length front.spelled, length-append (front_text shape n) rest)

pub moved_tail : (shape : Shape) (hosts : ℕ) (shots others : List Shot) (tail : List ℕ) (before : ℕ) (e : CheckError) → others ≡ shots → IsTailRefusal shape hosts (paths_of others) tail before e → IsTailRefusal shape hosts (paths_of shots) tail before e
moved_tail shape hosts shots others tail before e same r = subst (λ (ss : List Shot). IsTailRefusal shape hosts (paths_of ss) tail before e) same r

pub moved_places : (shape : Shape) (hosts : ℕ) (shots others : List Shot) (places : List Place) (tail : List ℕ) → others ≡ shots → HasTail shape hosts (paths_of others) places tail [] → HasTail shape hosts (paths_of shots) places tail []
moved_places shape hosts shots others places tail same h = subst (λ (ss : List Shot). HasTail shape hosts (paths_of ss) places tail []) same h
