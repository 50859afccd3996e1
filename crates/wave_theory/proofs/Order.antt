-- The order in which tickets go through contexts. Each ticket has a way through the tree that is known beforehand, and the lines
-- at the contexts let tickets in by entry number.
use Rattle.std.proofs.Common.{◌≡◌, ◌≢◌, [], ℕ, zero, suc, ◌≤◌, ◌⊎◌, ◌↔◌, Bool, true, false, nat_eq}
use Rattle.std.specs.Prelude.{if◌then◌else◌}
use Rattle.wave_base.specs.declared.path.Path.{Path}
use Rattle.wave_base.specs.Paths.{path_eq, parent_of}
use Rattle.wave_states.specs.States.{set}

-- where the ticket's k-th segment runs, whether it is entered for it, which segment is the last, what is held and was entered once
-- a segment can begin, and whether the ticket only looks at a context
pub record Way : Type 0 where
  pub place : ℕ → ℕ → Path
  pub fresh : ℕ → ℕ → Bool
  pub last : ℕ → ℕ
  pub held : ℕ → ℕ → Path → Bool
  pub entered : ℕ → ℕ → Path → Bool
  pub looks : ℕ → Path → Bool

-- the tree protocol
pub record IsWay (w : Way) : Type 0 where
  pub first_fresh : (t : ℕ) → w.fresh t 0 ≡ true
  pub first_place : (t : ℕ) → w.place t 0 ≡ []
  pub first_entered : (t : ℕ) (p : Path) → w.entered t 0 p ≡ true → p ≡ []
  pub at_held : (t k : ℕ) → k ≤ w.last t → w.held t k (w.place t k) ≡ true
  pub held_entered : (t k : ℕ) (p : Path) → w.held t k p ≡ true → w.entered t k p ≡ true
  pub kept : (t k : ℕ) (p : Path) → w.entered t k p ≡ true → w.entered t (suc k) p ≡ true
  pub new : (t k : ℕ) (p : Path) → k ≤ w.last t → w.entered t (suc k) p ≡ true → (w.entered t k p ≡ true) ⊎ ((suc k ≤ w.last t) × (w.fresh t (suc k) ≡ true) × (p ≡ w.place t (suc k)))
  pub once : (t k : ℕ) → suc k ≤ w.last t → w.fresh t (suc k) ≡ true → w.entered t k (w.place t (suc k)) ≡ false
  pub below : (t k : ℕ) → suc k ≤ w.last t → w.fresh t (suc k) ≡ true → parent_of (w.place t (suc k)) ≡ w.place t k
  pub not_root : (t k : ℕ) → suc k ≤ w.last t → w.fresh t (suc k) ≡ true → w.place t (suc k) ≢ []
  pub closed : (t k : ℕ) (p : Path) → w.entered t k p ≡ true → p ≢ [] → w.entered t k (parent_of p) ≡ true
  pub still : (t k : ℕ) (p : Path) → k ≤ w.last t → w.held t (suc k) p ≡ true → (w.held t k p ≡ true) ⊎ ((suc k ≤ w.last t) × (w.fresh t (suc k) ≡ true) × (p ≡ w.place t (suc k)))
  pub none : (t : ℕ) (p : Path) → w.held t (suc (w.last t)) p ≡ false
  pub looks_last : (t k : ℕ) → k ≤ w.last t → w.looks t (w.place t k) ≡ true → k ≡ w.last t

-- the ticket enters the context, at some time
abbrev pub visits : Way → ℕ → Path → Bool
visits w t p = w.entered t (suc (w.last t)) p

-- how many tickets up to t enter the context
unfoldable pub rank : Way → Path → ℕ → ℕ
rank w p zero = 0
rank w p (suc t) = if visits w (suc t) p then suc (rank w p t) else rank w p t

-- an Enter under way, in line, a Visit or Back under way, at the context, at the end
pub data Stage : Type 0 where
  Entering Lined Coming There Done : Stage

abbrev pub is_pending : Stage → Bool
is_pending Entering = true
is_pending Lined = true
is_pending _ = false

-- `holds p t`: t has been let in at p, and p was not freed of it yet
pub record Lines : Type 0 where
  pub admitted : ℕ
  pub pos : ℕ → ℕ
  pub stage : ℕ → Stage
  pub served : Path → ℕ
  pub given : Path → ℕ
  pub holds : Path → ℕ → Bool

abbrev pub here : Way → Lines → ℕ → Path
here w s t = w.place t (s.pos t)

-- the Enter of the ticket to the context was sent
pub record Sent (w : Way) (s : Lines) (t : ℕ) (p : Path) : Type 0 where
  pub known : t ≤ s.admitted
  pub entered : w.entered t (s.pos t) p ≡ true

-- and the ticket was let in
pub record Granted (w : Way) (s : Lines) (t : ℕ) (p : Path) : Type 0 where
  pub known : t ≤ s.admitted
  pub entered : w.entered t (s.pos t) p ≡ true
  pub past : is_pending (s.stage t) ≡ true → here w s t ≡ p → ⊥

pub record Good (w : Way) (s : Lines) : Type 0 where
  pub within : (t : ℕ) → t ≤ s.admitted → s.pos t ≤ suc (w.last t)
  pub going : (t : ℕ) → t ≤ s.admitted → s.stage t ≢ Done → s.pos t ≤ w.last t
  pub ended : (t : ℕ) → t ≤ s.admitted → s.stage t ≡ Done → s.pos t ≡ suc (w.last t)
  pub is_fresh : (t : ℕ) → t ≤ s.admitted → is_pending (s.stage t) ≡ true → w.fresh t (s.pos t) ≡ true
  pub sends : (t : ℕ) (p : Path) → 1 ≤ t → visits w t p ≡ true → Sent w s t p ↔ (rank w p t ≤ s.given p)
  pub grants : (t : ℕ) (p : Path) → 1 ≤ t → visits w t p ≡ true → Granted w s t p ↔ (rank w p t ≤ s.served p)
  pub first : (t : ℕ) (p : Path) → s.holds p t ≡ true → 1 ≤ t
  pub let_in : (t : ℕ) (p : Path) → s.holds p t ≡ true → Granted w s t p
  pub keeps : (t : ℕ) (p : Path) → 1 ≤ t → Granted w s t p → w.held t (s.pos t) p ≡ true → s.holds p t ≡ true
  pub alone : (t : ℕ) (p : Path) → s.holds p t ≡ true → w.looks t p ≡ false → (b : ℕ) → s.holds p b ≡ true → b ≡ t
  pub latest : (t : ℕ) (p : Path) → s.holds p t ≡ true → w.looks t p ≡ false → rank w p t ≡ s.served p

-- what a label does to the lines
abbrev pub staged : Lines → ℕ → Stage → Lines
staged s t v = record { admitted = s.admitted; pos = s.pos; stage = set nat_eq s.stage t v; served = s.served; given = s.given; holds = s.holds }

-- the ticket is let in at its context
abbrev pub let_at : Way → Lines → ℕ → Lines
let_at w s t = record {
  admitted = s.admitted;
  pos = s.pos;
  stage = set nat_eq s.stage t There;
  served = set path_eq s.served (here w s t) (suc (s.served (here w s t)));
  given = s.given;
  holds = set path_eq s.holds (here w s t) (set nat_eq (s.holds (here w s t)) t true);
}

-- a context is freed of it
abbrev pub freed : Lines → ℕ → Path → Lines
freed s t p = record { admitted = s.admitted; pos = s.pos; stage = s.stage; served = s.served; given = s.given; holds = set path_eq s.holds p (set nat_eq (s.holds p) t false) }

-- one more ticket is admitted
abbrev pub one_more : Lines → Lines
one_more s = record {
  admitted = suc s.admitted;
  pos = set nat_eq s.pos (suc s.admitted) 0;
  stage = set nat_eq s.stage (suc s.admitted) Entering;
  served = s.served;
  given = set path_eq s.given [] (suc (s.given []));
  holds = s.holds;
}

-- a segment comes to its end, with this stage
abbrev pub gone_on : Lines → ℕ → Stage → Lines
gone_on s t v = record { admitted = s.admitted; pos = set nat_eq s.pos t (suc (s.pos t)); stage = set nat_eq s.stage t v; served = s.served; given = s.given; holds = s.holds }

-- or with an Enter to a new context
abbrev pub gone_in : Way → Lines → ℕ → Lines
gone_in w s t = record {
  admitted = s.admitted;
  pos = set nat_eq s.pos t (suc (s.pos t));
  stage = set nat_eq s.stage t Entering;
  served = s.served;
  given = set path_eq s.given (w.place t (suc (s.pos t))) (suc (s.given (w.place t (suc (s.pos t)))));
  holds = s.holds;
}
