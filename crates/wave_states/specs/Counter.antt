-- One counter at the root: each event adds one and replies, and may create others.
use Rattle.std.specs.Prelude.{ℕ, zero, suc, false, List, [], ◌∷◌, None}
use Rattle.wave_states.specs.Actors.{Actors, Over}
use Rattle.wave_states.specs.Kinds.{Kind}

-- a job of n creates n jobs of 0
abbrev pub zeros : ℕ → List ℕ
zeros zero = []
zeros (suc n) = 0 ∷ zeros n

abbrev pub counter : Actors ℕ ℕ (ℕ × ℕ) ℕ
counter = record {
  make = λ j t. j;
  segment = λ a f cs. record { actor = a; fields = suc f; pause = Over (suc f, a) };
  peeks = λ a. false;
  initial = λ p. 0;
  created = λ r. zeros r.1;
  moved = λ r. None;
  enough = λ j t tree. 1;
  unended = (0, 0);
}

-- any number, any job, and any actor anywhere
abbrev pub counter_kind : Kind ℕ ℕ (ℕ × ℕ) ℕ
counter_kind = record { system = counter; hosts = 1; fits = λ p f. Unit {0}; is_job = λ j. Unit {0}; may_run = λ a p n. Unit {0} }
