-- Drives: the labels that a rule picks, one after the other.
use Rattle.std.specs.Prelude.{◌≡◌, ◌≤◌, ℕ, Bool, List, [], ◌∷◌, length, Some, None}
use Rattle.wave_states.specs.Kinds.{Kind}
use Rattle.wave_states.specs.States.{State}
use Rattle.wave_states.specs.Labels.{Label}
use Rattle.wave_states.specs.Runs.{Rule, run, drive, IsDrive, Finished, seed, oldest, newest, movers, mail_last}
use Rattle.wave_states.specs.Alone.{job_after}
use Rattle.wave_states.specs.Begins.{Begin, start_state}
use Rattle.wave_states.specs.Owes.{IsBegin, IsPlan}
use Rattle.wave_theory.specs.Listed.{IsIn}

-- the rule picks one label of each list that has some
pub record Picks {A F R J : Type 0} (rule : Rule A F R J) : Type 0 where
  pub none : (x : ℕ) (s : State A F R J) → (rule x s []).1 ≡ None
  pub one_of : (x : ℕ) (s : State A F R J) (l : Label) (ls : List Label) → (m : Label) × ((rule x s (l ∷ ls)).1 ≡ Some m) × IsIn (l ∷ ls) m

-- Rules pick. The five rules do.
pub record RulesPick (A F R J : Type 0) : Type 0 where
  pub by_seed : Picks (seed {A = A} {F = F} {R = R} {J = J})
  pub by_oldest : Picks (oldest {A = A} {F = F} {R = R} {J = J})
  pub by_newest : Picks (newest {A = A} {F = F} {R = R} {J = J})
  pub by_movers : (is_move : J → Bool) → Picks (movers {A = A} {F = F} {R = R} {J = J} is_move)
  pub by_mail_last : Picks (mail_last {A = A} {F = F} {R = R} {J = J})

module _ {A F R J : Type 0} (kind : Kind A F R J) where
  -- there is one drive of the rule from this number, and no other; it is a run, after which all is finished; and it is what is
  -- picked as often as it is long, or oftener
  pub record HasDrive (workers : ℕ) (b : Begin F) (batches : List (List J)) (rule : Rule A F R J) (x : ℕ) : Type 0 where
    pub labels : List Label
    pub is_drive : IsDrive kind.system workers kind.hosts rule x (start_state b batches) labels
    pub only : (others : List Label) → IsDrive kind.system workers kind.hosts rule x (start_state b batches) others → others ≡ labels
    pub state : State A F R J
    pub is_run : run kind.system workers (start_state b batches) labels ≡ Some state
    pub finished : Finished kind.system workers state
    pub computed : (n : ℕ) → length labels ≤ n → drive kind.system workers kind.hosts rule n x (start_state b batches) ≡ labels

  -- Driven. Each rule that picks has its drive, where the fold ends.
  abbrev pub Driven : Type 0
  Driven = (workers : ℕ) (b : Begin F) (batches : List (List J)) → IsBegin kind b → IsPlan kind workers batches → (n : ℕ) → job_after kind.system b batches n ≡ None →
      (rule : Rule A F R J) → Picks rule → (x : ℕ) → HasDrive workers b batches rule x
