-- What a worker knows when it has given a segment back, or stopped the workers.
use Rattle.std.proofs.Common.{◌≡◌, ◌∙◌, List, [], ◌∷◌, ◌++◌, Option, Some, None, refl, sym, ap, subst, lit<, map}
use Rattle.std.specs.Prelude.{All, Contains, IsSome}
use Rattle.std.proofs.lemmas.List.Elements.{All-nil, All-cons, Contains-append_right}
use Rattle.wave_base.specs.declared.numbers.Worker.{Worker}
use Rattle.wave_base.specs.declared.pause.Pause.{Pause}
use Rattle.kept_lock.specs.declared.view.Known.{Known}
use Rattle.kept_lock.specs.History.{Adds}
use Rattle.kept_lock.specs.Knowing.{pass_inside, left_at}
use Rattle.kept_lock.proofs.Entries.{starts_whole}
use Rattle.wave_states.specs.Labels as theory
use Rattle.plan_actors.specs.Plans.{Plan}
use Rattle.wave_effects.specs.declared.lease.Lease.{Lease}
use Rattle.wave_effects.specs.Running.{IsBack}
use Rattle.wave_board.specs.declared.board.Board.{Board}
use Rattle.wave_board.specs.declared.board.StopWord.{StopWord}
use Rattle.wave_board.specs.declared.origin.Origin.{Origin}
use Rattle.wave_board.specs.declared.trail.StopCause.{StopCause}
use Rattle.wave_board.specs.declared.trail.Trail.{Trail}
use Rattle.wave_board.specs.declared.trail.Trail.TheVariants.{Step, Halt}
use Rattle.wave_board.specs.Boards.{StandsFor, history_of, owner_of}
use Rattle.wave_board.specs.Giving.{CanGive, Gives, IsGiven, MayGive}
use Rattle.wave_board.specs.Staying.{LeasesStay}
use Rattle.wave_board.specs.Taking.{AreEven}
use Rattle.host_workers.specs.Endings.{IsHalted}
use Rattle.host_workers.specs.Passes.{GoesOn, IsReady, NoHalts, OnlyHalts}
use Rattle.host_workers.specs.inner.Rounds.{HasOut, HasPaused, IsCalm}
use Rattle.host_workers.specs.inner.Visits.{HasStopped}
use Rattle.host_workers.proofs.Entries.{even_stop, no_halt_more, only_more, only_none, word_halts}
use Rattle.host_workers.proofs.Visiting.{Finds, adds_none, adds_one, left, left_same}

module _ (o : Origin) (k : Known Trail) (w : Worker) (y : Board) (meets : Finds o k y) where
  module _ (stay : LeasesStay) (lease : Lease) (why : Pause) (paused : HasPaused o k w lease why) where
    abbrev pub out : HasOut o k w
    out = paused.out

    -- what the worker has in its hand is still there
    may_give : MayGive y lease why o meets.stands_for_name.0
    may_give =
        let at = meets.stands_for_name in
        let hands = stay o out.board y out.state at.0 k out.at at.1 out.seen (starts_seen, out.own) meets.agrees in
        let number : k.number ≡ lease.worker.0 = out.calm.number ∙ ap (λ (v : Worker). v.0) (sym paused.worker_is) in
        record {
          at = at.1;
          back = subst (λ (p : Plan). IsBack p.program at.0 lease why) (sym at.1.plan) (record {
            hand = paused.back.hand;
            there = ap at.0.hands (sym number) ∙ hands ∙ ap out.state.hands number ∙ paused.back.there;
            run = paused.back.run;
          });
        }
      where
        starts_seen : (rest : List Trail) × (history_of out.board ≡ k.seen ++ rest)
        starts_seen = subst (λ ts. (rest : List Trail) × (ts ≡ k.seen ++ rest)) out.seen (starts_whole k.seen)

    pub can_give : CanGive y lease why
    can_give = record { origin = o; state = meets.stands_for_name.0; may = may_give }

    module _ (z : Board) (gives : Gives y lease why z) (h : IsGiven y z lease) where
      pub stands_given : StandsFor z o
      stands_given = gives o meets.stands_for_name.0 may_give

      mine : h.label.worker.0 ≡ k.number
      mine = ap (λ (l : theory.Label). l.worker) h.is_stop ∙ ap (λ (v : Worker). v.0) paused.worker_is ∙ sym out.calm.number

      pub own_given : All (λ e. owner_of e ≡ k.number) (Step h.label ∷ [])
      own_given = All-cons (λ e. owner_of e ≡ k.number) (Step h.label) [] mine (All-nil (λ e. owner_of e ≡ k.number))

      -- the worker has given back each segment then
      pub ready_given : (k' : Known Trail) → k' ≡ left_at (pass_inside k (history_of y)) (history_of z) → IsReady o k' w
      ready_given k' is =
          let x = left k k' y z (Step h.label ∷ []) is h.history meets.agrees.0 in
          let act = ap (λ (l : theory.Label). l.act) h.is_stop in
          record {
            number = x.number ∙ out.calm.number;
            is_worker = out.is_worker;
            even = subst AreEven (sym x.made) (even_stop k.made h.label (ap theory.is_start act) (ap theory.is_stop act) out.odd);
            no_halts = subst NoHalts (sym x.made) (no_halt_more k.made h.label out.calm.no_halts);
          }

  module _ (calm : IsCalm o k w) (why : StopCause) (z : Board) (stopped : HasStopped y w why z) where
    pub stands_stopped : StandsFor z o
    stands_stopped = stopped.stands o meets.stands_for_name

    pub adds_stopped : Adds owner_of k.number (history_of y) (history_of z)
    adds_stopped = by_word y.word refl
      where
        by_word : (x : Option StopWord) → y.word ≡ x → Adds owner_of k.number (history_of y) (history_of z)
        by_word None e = adds_one k.number (history_of y) (history_of z) (Halt w why) (stopped.first e) (sym calm.number)
        by_word (Some x) e = adds_none k.number (history_of y) (history_of z) (ap history_of (stopped.again (subst IsSome (sym e) refl)))

    -- the pass has seen a Halt then
    pub record Stopped (k' : Known Trail) : Type 0 where
      pub on : GoesOn k k'
      pub halted : IsHalted k'.seen
      pub own : OnlyHalts k'.made why

    pub halts : (k' : Known Trail) → k' ≡ left_at (pass_inside k (history_of y)) (history_of z) → Stopped k'
    halts k' is = by_word y.word refl
      where
        by_word : (x : Option StopWord) → y.word ≡ x → Stopped k'
        by_word None e =
            let h = stopped.first e in
            let x = left k k' y z (Halt w why ∷ []) is h meets.agrees.0 in
            record {
              on = x.on;
              halted = (w, why, subst (λ ts. Contains ts (Halt w why)) (sym (x.seen ∙ h)) (Contains-append_right (history_of y) (Halt w why ∷ []) (Halt w why) (0, lit< tt, refl)));
              own = subst (λ ts. OnlyHalts ts why) (sym x.made) (only_more k.made w why calm.no_halts);
            }
        by_word (Some s) e =
            let h = ap history_of (stopped.again (subst IsSome (sym e) refl)) in
            let x = left_same k k' y z is h meets.agrees.0 in
            record {
              on = x.on;
              halted = (s.worker, s.why, subst (λ ts. Contains ts (Halt s.worker s.why)) (sym (x.seen ∙ h)) (word_halts y.word s (map Step y.journal.labels) e));
              own = subst (λ ts. OnlyHalts ts why) (sym x.made) (only_none k.made why calm.no_halts);
            }
