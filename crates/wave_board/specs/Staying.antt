-- What stays from one board to another whose history goes on from its own.
use Rattle.std.specs.Prelude.{◌≡◌, ◌≤◌}
use Rattle.kept_lock.specs.declared.view.Known.{Known}
use Rattle.kept_lock.specs.History.{StartsWith}
use Rattle.kept_lock.specs.Knowing.{Agrees}
use Rattle.wave_effects.specs.Machines.{TheState}
use Rattle.wave_board.specs.declared.board.Board.{Board}
use Rattle.wave_board.specs.declared.origin.Origin.{Origin}
use Rattle.wave_board.specs.declared.trail.Trail.{Trail}
use Rattle.wave_board.specs.Boards.{IsAt, history_of, labels_of, owner_of}
use Rattle.wave_board.specs.Taking.{IsFinished}

-- A pass has seen the history of the first board to its end, and agrees with both. Then what its worker has in its hand at the
-- first board it has at the second too: a segment that was out at one visit can be given back at a later one.
abbrev pub LeasesStay : Type 0
LeasesStay = (o : Origin) (b b' : Board) (s s' : TheState) (pass : Known Trail) → IsAt b o s → IsAt b' o s'
    → pass.seen ≡ history_of b → Agrees owner_of pass (history_of b) → Agrees owner_of pass (history_of b')
    → s'.hands pass.number ≡ s.hands pass.number

-- what was committed is committed
abbrev pub ResultsStay : Type 0
ResultsStay = (o : Origin) (b b' : Board) (s s' : TheState) → IsAt b o s → IsAt b' o s' → StartsWith (history_of b') (history_of b)
    → s.head.done ≤ s'.head.done

-- a finished run goes no further
abbrev pub FinishedStays : Type 0
FinishedStays = (o : Origin) (b b' : Board) (s s' : TheState) → IsAt b o s → IsAt b' o s' → StartsWith (history_of b') (history_of b)
    → IsFinished b s → (labels_of b' ≡ labels_of b) × (s' ≡ s)
