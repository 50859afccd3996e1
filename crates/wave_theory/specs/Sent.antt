-- How large the numbers of a state become.
use Rattle.std.specs.Prelude.{◌≡◌, ◌≤◌, ◌+◌, ℕ, suc, List, Some, None, length}
use Rattle.wave_base.specs.declared.path.Step.{Step}
use Rattle.wave_base.specs.declared.path.Path.{Path}
use Rattle.wave_base.specs.declared.children.Child.{Child}
use Rattle.wave_base.specs.Kids.{child_at}
use Rattle.wave_base.specs.Tree.{Tree}
use Rattle.wave_states.specs.Kinds.{Kind}
use Rattle.wave_states.specs.States.{State, Ask, Claim, Entry, Event, Mail, Mark, Record, Ended, Enter}
use Rattle.wave_states.specs.Alone.{run_alone, segments_of, fold_alone, job_after}
use Rattle.wave_states.specs.Work.{WorkNumbers, work_after}
use Rattle.wave_states.specs.Begins.{Begin}
use Rattle.wave_theory.specs.Numbers.{HasEntry}
use Rattle.wave_theory.specs.Counted.{most_moves}

module _ {A F R J : Type 0} (kind : Kind A F R J) where
  -- so many segments, and so many contexts entered, has the job of the ticket that comes after `index` others
  abbrev pub shares : Begin F → List (List J) → ℕ → J → ℕ
  shares b batches index job =
      let tree : Tree F = (fold_alone kind.system b batches index).tree in
      segments_of kind.system (suc b.before + index) tree job + length (run_alone kind.system (suc b.before + index) tree job).entered

  -- one mail for each segment and one for each context that it enters
  pub record IsSent (b : Begin F) (batches : List (List J)) (index : ℕ) (event : Event A) : Type 0 where
    pub job : J
    pub job_is : job_after kind.system b batches index ≡ Some job
    pub within : event.sent ≤ shares b batches index job
    pub exactly : event.status ≡ Ended → event.sent ≡ shares b batches index job

  -- Sent. An event sent at most as many mails as it has segments and enters contexts, and exactly as many once it has ended.
  abbrev pub Sent : Begin F → List (List J) → State A F R J → Type 0
  Sent b batches s = (index : ℕ) (event : Event A) → (s.cells (suc b.before + index)).event ≡ Some event → IsSent b batches index event

  -- no number of the state is larger than this much work has it
  pub record IsWithin (b : Begin F) (s : State A F R J) (x : WorkNumbers) : Type 0 where
    pub admitted : s.admitted ≤ x.tickets
    pub known : length s.head.known ≤ x.tickets
    pub sent : (t : ℕ) (event : Event A) → (s.cells t).event ≡ Some event → event.sent ≤ x.segments + x.entered
    pub mails : (t k : ℕ) (m : Mail F) → (s.cells t).mails k ≡ Some m → k ≤ x.segments + x.entered
    pub asks : (t k : ℕ) (m : Mail F) (a : Ask) → (s.cells t).mails k ≡ Some m → m.letter ≡ Enter a → (a.number ≤ b.before + x.tickets) × (a.followed ≤ most_moves b x)
    pub served : (p : Path) (en : Entry F) → HasEntry s p en → en.served ≤ b.before + x.tickets
    pub waits : (p : Path) (en : Entry F) (j : ℕ) (c : Claim) → HasEntry s p en → en.waiting j ≡ Some c → j ≤ b.before + x.tickets
    pub given : (p : Path) (en : Entry F) (r : Record F) (st : Step) (c : Child) → HasEntry s p en → en.body ≡ Some r → child_at r.children st ≡ Some c → c.given ≤ x.tickets
    pub moves : (p : Path) (en : Entry F) → HasEntry s p en → en.moves ≤ most_moves b x
    pub marks : (p : Path) (host : ℕ) (m : Mark) → (s.columns p).gone host ≡ Some m → m.number ≤ most_moves b x

  -- Within. All numbers are at most as large as the work of the whole fold has it.
  abbrev pub Within : Begin F → List (List J) → State A F R J → Type 0
  Within b batches s = (n : ℕ) → job_after kind.system b batches n ≡ None → IsWithin b s (work_after kind.system b batches n)
