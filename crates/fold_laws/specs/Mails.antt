-- How many mails an event may send.
use Rattle.std.specs.Prelude.{◌≡◌, ◌<◌, ◌+◌, ◌^◌, ℕ, length, Some}
use Rattle.wave_states.specs.States.{State, Event}

-- of each event the mails that it sent, one for each context that it holds, and one more have numbers of 32 bits
abbrev pub HaveNumbers : {A F R J : Type 0} → State A F R J → Type 0
HaveNumbers {A} s = (t : ℕ) (event : Event A) → (s.cells t).event ≡ Some event → event.sent + length event.held + 1 < 2 ^ 32
