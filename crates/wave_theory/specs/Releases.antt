-- How the mails of a Stop are numbered.
use Rattle.std.specs.Prelude.{◌≡◌, ◌<◌, ℕ, suc, List, Option, Some}
use Rattle.std.specs.declared.cmp.Ordering.TheVariants.{Less}
use Rattle.wave_base.specs.declared.path.Path.{Path}
use Rattle.wave_base.specs.Paths.{path_cmp}
use Rattle.wave_states.specs.Kinds.{Kind}
use Rattle.wave_states.specs.States.{State, Event, Mail, Release}
use Rattle.wave_states.specs.Labels.{Stop}
use Rattle.wave_states.specs.Steps.{step}
use Rattle.wave_states.specs.Begins.{Begin}

-- behind the numbers that were sent before: one mail first, whatever it is, and then Releases alone; and Releases in path order
pub record InNumber {F : Type 0} (sent : ℕ) (mails : ℕ → Option (Mail F)) : Type 0 where
  pub releases : (k : ℕ) (m : Mail F) → suc sent < k → mails k ≡ Some m → m.letter ≡ Release
  pub rising : (j k : ℕ) (m n : Mail F) → sent < j → j < k → mails j ≡ Some m → mails k ≡ Some n → m.letter ≡ Release → path_cmp m.path n.path ≡ Less

module _ {A F R J : Type 0} (kind : Kind A F R J) where
  -- Releases rise. A Stop numbers its mails with an Enter, Visit, Back or Transfer first, where it sends one, and then its Releases in
  -- path order.
  abbrev pub ReleasesRise : ℕ → Begin F → List (List J) → State A F R J → Type 0
  ReleasesRise workers b batches s = (worker host t : ℕ) (p : Path) (event : Event A) (v : State A F R J) → (s.cells t).event ≡ Some event →
      step kind.system workers s (record { worker = worker; host = host; act = Stop t p }) ≡ Some v → InNumber event.sent (v.cells t).mails
