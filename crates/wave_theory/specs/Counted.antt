-- How many labels a run takes.
use Rattle.std.specs.Prelude.{◌≡◌, ◌≤◌, ◌+◌, ◌*◌, ◌&&◌, ℕ, suc, Bool, false, nat_eq, List, [], ◌∷◌, length, None, if◌then◌else◌}
use Rattle.wave_base.specs.declared.path.Path.{Path}
use Rattle.wave_base.specs.Paths.{path_eq}
use Rattle.wave_states.specs.Kinds.{Kind}
use Rattle.wave_states.specs.States.{State, Entry}
use Rattle.wave_states.specs.Labels.{Act, Label, Pass, is_pass}
use Rattle.wave_states.specs.Runs.{Finished}
use Rattle.wave_states.specs.Alone.{job_after}
use Rattle.wave_states.specs.Work.{WorkNumbers, work_after}
use Rattle.wave_states.specs.Begins.{Begin, has_moved}
use Rattle.wave_theory.specs.Numbers.{HasEntry}

-- how many labels are no Passes
abbrev pub taken_count : List Label → ℕ
taken_count [] = 0
taken_count (l ∷ ls) = if is_pass l.act then taken_count ls else suc (taken_count ls)

-- and how many are
abbrev pub pass_count : List Label → ℕ
pass_count [] = 0
pass_count (l ∷ ls) = if is_pass l.act then suc (pass_count ls) else pass_count ls

-- two for each ticket, three for each segment, two for each context that a ticket enters
abbrev pub size : WorkNumbers → ℕ
size x = 2 * x.tickets + 3 * x.segments + 2 * x.entered

module _ {A F R J : Type 0} (kind : Kind A F R J) where
  -- Counted. However the labels are chosen, all but the Passes are at most as many as the work of the whole fold asks for; and in a
  -- finished state exactly as many.
  pub record Counted (workers : ℕ) (b : Begin F) (batches : List (List J)) (labels : List Label) (s : State A F R J) : Type 0 where
    pub within : (n : ℕ) → job_after kind.system b batches n ≡ None → taken_count labels ≤ size (work_after kind.system b batches n)
    pub exactly : Finished kind.system workers s → taken_count labels ≡ size (work_after kind.system b batches s.head.done)

-- how many labels pass on the Enter of the ticket to the context
abbrev pub is_pass_of : ℕ → Path → Act → Bool
is_pass_of t p (Pass u k q to) = nat_eq u t && path_eq q p
is_pass_of t p _ = false

abbrev pub passed_to : ℕ → Path → List Label → ℕ
passed_to t p [] = 0
passed_to t p (l ∷ ls) = if is_pass_of t p l.act then suc (passed_to t p ls) else passed_to t p ls

-- how often a context is sent on at most: as often as the jobs move one, and once more where the root does not begin on host 0
abbrev pub most_moves : {F : Type 0} → Begin F → WorkNumbers → ℕ
most_moves b x = x.moves + (if has_moved b [] then 1 else 0)

module _ {A F R J : Type 0} (kind : Kind A F R J) where
  -- Bounded. However the labels are chosen, an Enter is passed on at most as often as its context was sent on, so there are at most so many
  -- labels; and in a finished state as many as the work asks for, besides the Passes.
  pub record Bounded (workers : ℕ) (b : Begin F) (batches : List (List J)) (labels : List Label) (s : State A F R J) : Type 0 where
    pub each : (t : ℕ) (p : Path) (en : Entry F) → HasEntry s p en → passed_to t p labels ≤ en.moves
    pub few_passed : (n : ℕ) → job_after kind.system b batches n ≡ None → pass_count labels ≤ (work_after kind.system b batches n).entered * most_moves b (work_after kind.system b batches n)
    pub within : (n : ℕ) → job_after kind.system b batches n ≡ None → length labels ≤ size (work_after kind.system b batches n) + (work_after kind.system b batches n).entered * most_moves b (work_after kind.system b batches n)
    pub exactly : Finished kind.system workers s → length labels ≡ size (work_after kind.system b batches s.head.done) + pass_count labels
