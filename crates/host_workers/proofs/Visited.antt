-- What a pass knows after a visit, where the work says what it made of the board that it was shown.
use Rattle.std.proofs.Common.{◌≡◌, ℕ, Option, Result, sym, subst}
use Rattle.wave_base.specs.declared.memory.OutOfMemory.{OutOfMemory}
use Rattle.wave_base.specs.declared.numbers.Worker.{Worker}
use Rattle.kept_lock.specs.declared.view.Known.{Known}
use Rattle.kept_lock.specs.History.{Adds}
use Rattle.kept_lock.specs.Knowing.{pass_inside, left_at}
use Rattle.kept_lock.specs.Visits.{Meets}
use Rattle.wave_board.specs.declared.board.Board.{Board}
use Rattle.wave_board.specs.declared.origin.Origin.{Origin}
use Rattle.wave_board.specs.declared.trail.StopCause.{StopCause}
use Rattle.wave_board.specs.declared.trail.Trail.{Trail}
use Rattle.wave_board.specs.Boards.{StandsFor, history_of, owner_of}
use Rattle.wave_board.specs.Staying.{LeasesStay}
use Rattle.host_workers.specs.declared.offer.Offer.{Offer}
use Rattle.host_workers.specs.declared.packet.Packet.{Packet}
use Rattle.host_workers.specs.Passes.{GoesOn}
use Rattle.host_workers.specs.inner.Rounds.{Brings, IsCalm}
use Rattle.host_workers.specs.inner.Visits.{HasStopped, HasTurned, MayTurn}
use Rattle.host_workers.specs.inner.Writing.{AreToldOf, Offered}
use Rattle.host_workers.proofs.Giving as giving
use Rattle.host_workers.proofs.Offering as offering
use Rattle.host_workers.proofs.Turning as turning
use Rattle.host_workers.proofs.Visiting.{Finds}

at_both : (P : Board → Board → Type 0) (y z y' z' : Board) → y' ≡ y → z' ≡ z → P y' z' → P y z
at_both P y z y' z' e f p = subst (λ b. P y b) f (subst (λ b. P b z') e p)

at_shown : (P : Board → Type 0) (y y' : Board) → y' ≡ y → P y → P y'
at_shown P y y' e p = subst P (sym e) p

-- the work was shown the board that the visit met, and left the one that the visit left
module _ (o : Origin) (k : Known Trail) (w : Worker) (y y' : Board) (shows : y' ≡ y) (meets : Meets history_of owner_of StandsFor o k y) where
  abbrev pub finds : Finds o k y
  finds = record { stands_for_name = meets.stands_for_name; agrees = meets.agrees }

  module _ (stay : LeasesStay) (packet : Option Packet) (brings : Brings o k w packet) (written : Option ℕ) (there : AreToldOf o k written) where
    pub may_turn : MayTurn y' w packet written
    may_turn = at_shown (λ b. MayTurn b w packet written) y y' shows (turning.may_turn stay o k w y finds packet brings written there)

    module _ (laws : offering.Laws) (z z' : Board) (leaves : z' ≡ z) (r : Result Offer OutOfMemory) (met : HasTurned y' w packet written z' r) where
      turned : HasTurned y w packet written z r
      turned = at_both (λ a b. HasTurned a w packet written b r) y z y' z' shows leaves met

      pub keeps_turned : StandsFor z o × Adds owner_of k.number (history_of y) (history_of z)
      keeps_turned = (turning.stands_turned stay o k w y finds packet brings written there laws z r turned, turning.adds_turned stay o k w y finds packet brings written there laws z r turned)

      pub offered : (k' : Known Trail) → k' ≡ left_at (pass_inside k (history_of y)) (history_of z) → GoesOn k k' × Offered o k' w written r
      offered k' is = turning.offered stay o k w y finds packet brings written there laws z r turned k' is

  module _ (calm : IsCalm o k w) (why : StopCause) (z z' : Board) (leaves : z' ≡ z) (met : HasStopped y' w why z') where
    pub stopped : HasStopped y w why z
    stopped = at_both (λ a b. HasStopped a w why b) y z y' z' shows leaves met

    pub keeps_stopped : StandsFor z o × Adds owner_of k.number (history_of y) (history_of z)
    keeps_stopped = (giving.stands_stopped o k w y finds calm why z stopped, giving.adds_stopped o k w y finds calm why z stopped)

    pub halts : (k' : Known Trail) → k' ≡ left_at (pass_inside k (history_of y)) (history_of z) → giving.Stopped o k w y finds calm why z stopped k'
    halts k' is = giving.halts o k w y finds calm why z stopped k' is
