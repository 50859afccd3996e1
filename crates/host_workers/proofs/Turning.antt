-- What a pass knows after a visit in which its worker gave something back, and then found something.
use Rattle.std.proofs.Common.{◌≡◌, ◌∙◌, inl, inr, ℕ, List, [], ◌∷◌, ◌++◌, ◌<◌, Option, Some, None, Result, refl, sym, ap, subst, append-nil}
use Rattle.std.specs.Prelude.{All}
use Rattle.std.proofs.lemmas.List.Elements.{All-nil}
use Rattle.wave_base.specs.declared.memory.OutOfMemory.{OutOfMemory}
use Rattle.wave_base.specs.declared.numbers.Worker.{Worker}
use Rattle.kept_lock.specs.declared.view.Known.{Known}
use Rattle.kept_lock.specs.History.{Adds, entries_of}
use Rattle.kept_lock.specs.Knowing.{pass_inside, left_at}
use Rattle.kept_lock.proofs.Entries.{starts_whole}
use Rattle.kept_lock.proofs.Unchanged.{adds_twice, left_twice}
use Rattle.plan_actors.specs.Plans.{Plan}
use Rattle.wave_board.specs.declared.board.Board.{Board}
use Rattle.wave_board.specs.declared.origin.Origin.{Origin}
use Rattle.wave_board.specs.declared.trail.Trail.{Trail}
use Rattle.wave_board.specs.declared.trail.Trail.TheVariants.{Step}
use Rattle.wave_board.specs.Boards.{StandsFor, history_of, owner_of}
use Rattle.wave_board.specs.Staying.{LeasesStay}
use Rattle.wave_board.specs.Taking.{AreEven}
use Rattle.wave_board.proofs.Standing.{still}
use Rattle.host_workers.specs.declared.offer.Offer.{Offer}
use Rattle.host_workers.specs.declared.packet.Packet.{Packet}
use Rattle.host_workers.specs.Passes.{GoesOn, IsReady, NoHalts}
use Rattle.host_workers.specs.inner.Rounds.{Brings, IsCalm}
use Rattle.host_workers.specs.inner.Visits.{CanBring, CanTellTo, HasTurned, IsBrought, IsNoted, MayAsk, MayTurn, Turned, TurnedAway}
use Rattle.host_workers.specs.inner.Writing.{AreToldOf, Offered}
use Rattle.host_workers.proofs.Asking as asking
use Rattle.host_workers.proofs.Giving as giving
use Rattle.host_workers.proofs.Offering as offering
use Rattle.host_workers.proofs.Rounding.{is_calm}
use Rattle.host_workers.proofs.Visiting.{Finds, Left, adds_none, goes_on, left, left_owns, left_same, made_same}
use Rattle.host_workers.proofs.Writing.{still_committed}

-- the pass, were it to leave behind what it gave back
abbrev pub at_given : Known Trail → Board → Board → Known Trail
at_given k y given = left_at (pass_inside k (history_of y)) (history_of given)

-- what holds there: it is a pass that finds the board, and has nothing out
pub record Between (o : Origin) (k : Known Trail) (w : Worker) (y given : Board) : Type 0 where
  pub more : List Trail
  pub history : history_of given ≡ history_of y ++ more
  pub own : All (λ e. owner_of e ≡ k.number) more
  pub finds : Finds o (at_given k y given) given
  pub ready : IsReady o (at_given k y given) w
  pub on : GoesOn k (at_given k y given)

-- a board on which others are noted as awake stands for as much
pub noted_stands : (o : Origin) (b b' : Board) → IsNoted b b' → StandsFor b o → StandsFor b' o
noted_stands o b b' noted at = subst (λ x. StandsFor x o) (sym noted.1) (still b (record b { crew = noted.0 }) refl refl (λ h. h) (λ start s stands. stands) o at)

pub noted_history : (b b' : Board) → IsNoted b b' → history_of b' ≡ history_of b
noted_history b b' noted = ap history_of noted.1

module _ (stay : LeasesStay) (o : Origin) (k : Known Trail) (w : Worker) (y : Board) (meets : Finds o k y) where
  between : (given : Board) (more : List Trail) → history_of given ≡ history_of y ++ more → All (λ e. owner_of e ≡ k.number) more → StandsFor given o → IsReady o (at_given k y given) w → Between o k w y given
  between given more history own stands ready =
      let x : Left k (at_given k y given) given more = left k (at_given k y given) y given more refl history meets.agrees.0 in
      record {
        more = more;
        history = history;
        own = own;
        finds = record { stands_for_name = stands; agrees = (starts_whole (history_of given), left_owns k (at_given k y given) y given more x history meets.agrees own) };
        ready = ready;
        on = x.on;
      }

  -- nothing was given back
  between_none : IsReady o k w → Between o k w y y
  between_none ready =
      between y [] (sym (append-nil (history_of y))) (All-nil (λ e. owner_of e ≡ k.number)) meets.stands_for_name
      (asking.ready_still o k w ready y meets y (λ o' at. at) (at_given k y y) refl refl)

  module _ (packet : Option Packet) (brings : Brings o k w packet) (written : Option ℕ) (there : AreToldOf o k written) where
    brought_between : (packet : Option Packet) → Brings o k w packet → (given : Board) → IsBrought y packet given → Between o k w y given
    brought_between None ready given is = subst (Between o k w y) (sym is) (between_none ready)
    brought_between (Some p) paused given h =
        between given (Step h.1.label ∷ []) h.1.history (giving.own_given o k w y meets stay p.reply.lease p.reply.pause paused given h.0 h.1)
        (giving.stands_given o k w y meets stay p.reply.lease p.reply.pause paused given h.0 h.1)
        (giving.ready_given o k w y meets stay p.reply.lease p.reply.pause paused given h.0 h.1 (at_given k y given) refl)

    can_bring : (packet : Option Packet) → Brings o k w packet → CanBring y packet
    can_bring None ready = tt
    can_bring (Some p) paused = giving.can_give o k w y meets stay p.reply.lease p.reply.pause paused

    -- it is calm, with a segment out or without
    calm : (packet : Option Packet) → Brings o k w packet → IsCalm o k w
    calm None ready = is_calm o k w ready
    calm (Some p) paused = paused.out.calm

    told_there : (written : Option ℕ) → AreToldOf o k written → (k' : Known Trail) → GoesOn k k' → AreToldOf o k' written
    told_there None there k' on = tt
    told_there (Some n) there k' on = still_committed o k k' n on there

    can_tell : (written : Option ℕ) (given : Board) (k' : Known Trail) → Finds o k' given → AreToldOf o k' written → CanTellTo given written
    can_tell None given k' finds there = tt
    can_tell (Some n) given k' finds there =
        let at = finds.stands_for_name in
        record { origin = o; state = at.0; at = at.1; committed = there given at.0 at.1 finds.agrees.0 }

    may_ask : (given : Board) → Between o k w y given → MayAsk given w written
    may_ask given b =
        let at = b.finds.stands_for_name in
        let entries : entries_of owner_of w.0 (history_of given) ≡ (at_given k y given).made = ap (λ n. entries_of owner_of n (history_of given)) (sym b.ready.number) ∙ b.finds.agrees.1 in
        record {
          stands = record { origin = o; state = at.0; at = at.1 };
          may = record {
            is_worker = subst (λ (p : Plan). w.0 < p.workers) (sym at.1.plan) b.ready.is_worker;
            gave = subst AreEven (sym entries) b.ready.even;
          };
          can = can_tell written given (at_given k y given) b.finds (told_there written there (at_given k y given) b.on);
        }

    -- it may do what it comes for
    pub may_turn : MayTurn y w packet written
    may_turn = record { brings = can_bring packet brings; then = λ given h. may_ask given (brought_between packet brings given h) }

    module _ (laws : offering.Laws) (z : Board) (r : Result Offer OutOfMemory) where
      module _ (t : Turned y w packet written z r) where
        b : Between o k w y t.given
        b = brought_between packet brings t.given t.brought

        abbrev mid : Known Trail
        mid = at_given k y t.given

        adds_later : Adds owner_of k.number (history_of t.given) (history_of t.left)
        adds_later = offering.adds_found laws o mid w b.ready t.given b.finds t.left t.stands written r t.found

        turned_stands : StandsFor z o
        turned_stands = noted_stands o t.left z t.noted (t.stands o b.finds.stands_for_name)

        turned_adds : Adds owner_of k.number (history_of y) (history_of z)
        turned_adds = subst (λ ts. Adds owner_of k.number (history_of y) ts) (sym (noted_history t.left z t.noted))
            (adds_twice owner_of k.number (history_of y) (history_of t.given) (history_of t.left) (b.more, b.history, b.own) adds_later)

        turned : (k' : Known Trail) → k' ≡ left_at (pass_inside k (history_of y)) (history_of z) → GoesOn k k' × Offered o k' w written r
        turned k' is =
            let late = adds_later in
            let again : k' ≡ left_at (pass_inside mid (history_of t.given)) (history_of t.left) =
            is ∙ ap (λ h. left_at (pass_inside k (history_of y)) h) (noted_history t.left z t.noted) ∙ left_twice k (history_of y) (history_of t.given) (history_of t.left) b.more late.0 b.history late.1 in
            let x = offering.offered laws o mid w b.ready t.given b.finds t.left t.stands k' again written (told_there written there mid b.on) r t.found in
            (goes_on k mid k' b.on x.0, x.1)

      module _ (t : TurnedAway y z r) where
        away : (k' : Known Trail) → k' ≡ left_at (pass_inside k (history_of y)) (history_of z) → GoesOn k k' × Offered o k' w written r
        away k' is =
            let x = left_same k k' y z is t.same meets.agrees.0 in
            let c = calm packet brings in (
              x.on,
              subst (λ q. Offered o k' w written q) (sym t.told_is) (record { number = x.number ∙ c.number; no_halts = subst NoHalts (sym (made_same k k' z x)) c.no_halts }),
            )

      pub stands_turned : HasTurned y w packet written z r → StandsFor z o
      stands_turned (inl t) = turned_stands t
      stands_turned (inr t) = t.stands o meets.stands_for_name

      pub adds_turned : HasTurned y w packet written z r → Adds owner_of k.number (history_of y) (history_of z)
      adds_turned (inl t) = turned_adds t
      adds_turned (inr t) = adds_none k.number (history_of y) (history_of z) t.same

      pub offered : HasTurned y w packet written z r → (k' : Known Trail) → k' ≡ left_at (pass_inside k (history_of y)) (history_of z) → GoesOn k k' × Offered o k' w written r
      offered (inl t) k' is = turned t k' is
      offered (inr t) k' is = away t k' is
