-- Workers that have given back what they got.
use Rattle.std.specs.Prelude.{◌≡◌, ℕ, None}
use Rattle.kept_lock.specs.History.{entries_of}
use Rattle.wave_effects.specs.Machines.{TheState}
use Rattle.wave_board.specs.declared.board.Board.{Board}
use Rattle.wave_board.specs.declared.origin.Origin.{Origin}
use Rattle.wave_board.specs.Boards.{IsAt, history_of, owner_of}
use Rattle.wave_board.specs.Taking.{AreEven}

-- with as many Stops as Starts of a worker there is nothing in its hand
abbrev pub IdleHandsAreEmpty : Type 0
IdleHandsAreEmpty = (b : Board) (o : Origin) (s : TheState) (worker : ℕ) → IsAt b o s → AreEven (entries_of owner_of worker (history_of b)) → s.hands worker ≡ None
