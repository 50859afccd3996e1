-- What a worker knows when it has asked for work.
use Rattle.std.proofs.Common.{◌≡◌, ◌∙◌, suc, [], ◌∷◌, ◌++◌, Some, Ok, Err, Result, sym, ap, subst, append_assoc, length, filter, map}
use Rattle.std.specs.Prelude.{All, Contains, option_map}
use Rattle.std.proofs.lemmas.List.Elements.{All-nil, All-cons, All-append}
use Rattle.wave_base.specs.declared.memory.OutOfMemory.{OutOfMemory}
use Rattle.wave_base.specs.declared.numbers.Worker.{Worker}
use Rattle.kept_lock.specs.declared.view.Known.{Known}
use Rattle.kept_lock.specs.Knowing.{pass_inside, left_at}
use Rattle.kept_lock.specs.History.{Adds}
use Rattle.wave_labels.specs.Labels.{act_of}
use Rattle.wave_states.specs.Labels as theory
use Rattle.wave_effects.specs.declared.lease.Lease.{Lease}
use Rattle.wave_effects.specs.Actors.{MayRun}
use Rattle.wave_effects.specs.Machines.{IsFinishedRun, IsReached, TheState}
use Rattle.wave_effects.specs.Plans.{plan_of}
use Rattle.wave_effects.specs.Running.{IsInHand}
use Rattle.plan_actors.specs.Plans.{Plan}
use Rattle.plan_actors.specs.PlanActors.{plan_actors}
use Rattle.wave_states.specs.Runs as runs
use Rattle.wave_board.specs.declared.board.Board.{Board}
use Rattle.wave_board.specs.declared.origin.Origin.{Origin}
use Rattle.wave_board.specs.declared.trail.StopCause.{StopCause}
use Rattle.wave_board.specs.declared.trail.Trail.{Trail}
use Rattle.wave_board.specs.declared.trail.Trail.TheVariants.{Step, Halt}
use Rattle.wave_board.specs.declared.turn.Turn.TheVariants as work
use Rattle.wave_board.specs.Boards.{InEachState, IsAt, IsWord, StandsFor, StandsStill, WordStands, history_of, labels_in, labels_of, owner_of}
use Rattle.wave_board.specs.Taking.{AreEven, IsFinished, Took, begins, ends}
use Rattle.wave_board.proofs.Staying.{labels_are}
use Rattle.host_workers.specs.declared.task.Task.{Task}
use Rattle.host_workers.specs.declared.task.Task.TheVariants.{Segment, Again, Rest, Finished, Stopped}
use Rattle.host_workers.specs.Endings.{IsHaltedBy}
use Rattle.host_workers.specs.Passes.{GoesOn, IsReady, NoHalts}
use Rattle.host_workers.specs.inner.Rounds.{Asked, HasLease}
use Rattle.host_workers.specs.inner.Visits.{HasTaken, Walked}
use Rattle.host_workers.proofs.Entries.{no_halt_more, odd_start, own_contains, word_halts, word_why}
use Rattle.host_workers.proofs.Visiting.{Finds, Left, adds_none, left, left_owns, left_same, made_same}
use Rattle.host_workers.proofs.Rounding.{is_calm}
use Rattle.host_workers.proofs.Walking.{even_steps, no_halt_steps, own_steps}

module _ (o : Origin) (k : Known Trail) (w : Worker) (ready : IsReady o k w) (y : Board) (meets : Finds o k y) where
  module _ (z : Board) (still : StandsStill y z) where
    pub stands_after : StandsFor z o
    stands_after = still o meets.stands_for_name

    -- where a segment came behind some labels, its Start stands behind them
    leased_history : (lease : Lease) (mid : Board) (walked : Walked y w mid) (t : Took mid w z (work.Segment lease)) → history_of z ≡ history_of y ++ (map Step walked.labels ++ Step t.0 ∷ [])
    leased_history lease mid walked t = t.1.history ∙ ap (λ h. h ++ Step t.0 ∷ []) walked.history ∙ append_assoc (history_of y) (map Step walked.labels) (Step t.0 ∷ [])

    leased_own : (lease : Lease) (mid : Board) (walked : Walked y w mid) (t : Took mid w z (work.Segment lease)) → All (λ e. owner_of e ≡ k.number) (map Step walked.labels ++ Step t.0 ∷ [])
    leased_own lease mid walked t =
        All-append (λ e. owner_of e ≡ k.number) (map Step walked.labels) (Step t.0 ∷ []) (own_steps k.number w walked.labels (sym ready.number) walked.own)
        (All-cons (λ e. owner_of e ≡ k.number) (Step t.0) [] (ap (λ (v : Worker). v.0) t.2 ∙ sym ready.number) (All-nil (λ e. owner_of e ≡ k.number)))

    -- what was appended is the worker's
    walks : Walked y w z → Adds owner_of k.number (history_of y) (history_of z)
    walks h = (map Step h.labels, h.history, own_steps k.number w h.labels (sym ready.number) h.own)

    pub adds : (r : Result Task OutOfMemory) → HasTaken y w z r → Adds owner_of k.number (history_of y) (history_of z)
    adds (Ok (Segment lease)) h = (map Step h.1.labels ++ Step h.2.0 ∷ [], leased_history lease h.0 h.1 h.2, leased_own lease h.0 h.1 h.2)
    adds (Ok Again) h = walks h
    adds (Ok Rest) h = walks h
    adds (Ok Finished) h = adds_none k.number (history_of y) (history_of z) h.2
    adds (Ok (Stopped why)) h = adds_none k.number (history_of y) (history_of z) h.1
    adds (Err e) h = adds_none k.number (history_of y) (history_of z) h

    module _ (k' : Known Trail) (is : k' ≡ left_at (pass_inside k (history_of y)) (history_of z)) where
      same : history_of z ≡ history_of y → Left k k' z []
      same h = left_same k k' y z is h meets.agrees.0

      -- it is ready where nothing was added
      pub ready_still : history_of z ≡ history_of y → IsReady o k' w
      ready_still h = record {
        number = (same h).number ∙ ready.number;
        is_worker = ready.is_worker;
        even = subst AreEven (sym (made_same k k' z (same h))) ready.even;
        no_halts = subst NoHalts (sym (made_same k k' z (same h))) ready.no_halts;
      }

      pub goes_still : history_of z ≡ history_of y → GoesOn k k' × IsReady o k' w
      goes_still h = ((same h).on, ready_still h)

      -- what was seen is a finished run
      over : history_of z ≡ history_of y → InEachState y (IsFinished y) → IsFinishedRun (plan_of o.plan.now) o.start.now (labels_in k'.seen)
      over h f =
          let at = meets.stands_for_name in
          let labels : labels_of y ≡ labels_in k'.seen = sym (labels_are y) ∙ ap labels_in (sym ((same h).seen ∙ h)) in
          record {
            state = at.0;
            reached = subst (λ p. IsReached p o.start.now (labels_in k'.seen) at.0) at.1.plan (subst (λ ls. IsReached y.machine.kept.plan o.start.now ls at.0) labels at.1.reached);
            finished = subst (λ (p : Plan). runs.Finished (plan_actors p.program) p.workers at.0) at.1.plan (f o at.0 at.1);
          }

      -- the Halt that was seen is another's
      by_other : (why : StopCause) → history_of z ≡ history_of y → option_map (λ x. x.why) y.word ≡ Some why → IsHaltedBy k'.number why k'.seen
      by_other why h set =
          let x = word_why y.word why set in
          let word : IsWord x.0 (length y.journal.labels) = subst (λ w. WordStands w (length y.journal.labels)) x.1 meets.stands_for_name.1.word in
          let there : Contains (history_of y) (Halt x.0.worker why) = subst (λ c. Contains (history_of y) (Halt x.0.worker c)) x.2 (word_halts y.word x.0 (map Step y.journal.labels) x.1) in
          record {
            who = x.0.worker;
            other = λ mine. ready.no_halts x.0.worker why (subst (λ ts. Contains ts (Halt x.0.worker why)) meets.agrees.1 (own_contains k.number (history_of y) (Halt x.0.worker why) (mine ∙ (same h).number) there));
            writer = λ sink. word.writer (x.2 ∙ sink);
            halted = subst (λ ts. Contains ts (Halt x.0.worker why)) (sym ((same h).seen ∙ h)) there;
          }

      -- a segment is out
      leased : (lease : Lease) (mid : Board) → Walked y w mid → Took mid w z (work.Segment lease) → HasLease o k' w lease
      leased lease mid walked t =
          let l = t.0 in
          let more = map Step walked.labels ++ Step l ∷ [] in
          let x = left k k' y z more is (leased_history lease mid walked t) meets.agrees.0 in
          let made : k'.made ≡ (k.made ++ map Step walked.labels) ++ Step l ∷ [] = x.made ∙ sym (append_assoc k.made (map Step walked.labels) (Step l ∷ [])) in
          let at = stands_after in
          let before = walked.stands o meets.stands_for_name in
          let holds : lease.worker ≡ w = t.3.worker ∙ t.2 in
          let begins_here = odd_start (k.made ++ map Step walked.labels) l (ap (λ a. theory.is_start (act_of a)) t.3.act) (ap (λ a. theory.is_stop (act_of a)) t.3.act) (even_steps walked.labels k.made walked.steps ready.even) in
          record {
            out = record {
              calm = record { number = x.number ∙ ready.number; no_halts = subst NoHalts (sym made) (no_halt_more (k.made ++ map Step walked.labels) l (no_halt_steps walked.labels k.made ready.no_halts)) };
              is_worker = ready.is_worker;
              odd = subst (λ ts. length (filter begins ts) ≡ suc (length (filter ends ts))) (sym made) begins_here;
              board = z;
              state = at.0;
              at = at.1;
              seen = x.seen;
              own = left_owns k k' y z more x (leased_history lease mid walked t) meets.agrees (leased_own lease mid walked t);
            };
            worker_is = holds;
            in_hand = at_plan at.0 at.1 lease holds (t.3.in_hand o before.0 at.0 before.1 at.1);
            may_run = subst (λ (p : Plan). MayRun p.program lease.actor lease.body) at.1.plan t.3.may_run;
          }
        where
          at_plan : (s : TheState) → IsAt z o s → (lease : Lease) → lease.worker ≡ w → IsInHand z.machine.kept.plan.program lease (s.hands lease.worker.0) → IsInHand o.plan.now.program lease (s.hands w.0)
          at_plan s at lease same i = subst (λ (v : Worker). IsInHand o.plan.now.program lease (s.hands v.0)) same (subst (λ (p : Plan). IsInHand p.program lease (s.hands lease.worker.0)) at.plan i)

      -- it is ready where labels were taken
      walked_on : Walked y w z → GoesOn k k' × IsReady o k' w
      walked_on h =
          let x = left k k' y z (map Step h.labels) is h.history meets.agrees.0 in (
            x.on,
            record {
              number = x.number ∙ ready.number;
              is_worker = ready.is_worker;
              even = subst AreEven (sym x.made) (even_steps h.labels k.made h.steps ready.even);
              no_halts = subst NoHalts (sym x.made) (no_halt_steps h.labels k.made ready.no_halts);
            },
          )

      pub asked : (r : Result Task OutOfMemory) → HasTaken y w z r → GoesOn k k' × Asked o k' w r
      asked (Ok (Segment lease)) h = ((left k k' y z (map Step h.1.labels ++ Step h.2.0 ∷ []) is (leased_history lease h.0 h.1 h.2) meets.agrees.0).on, leased lease h.0 h.1 h.2)
      asked (Ok Again) h = walked_on h
      asked (Ok Rest) h = walked_on h
      asked (Ok Finished) h = ((same h.2).on, (ready_still h.2, over h.2 h.1))
      asked (Ok (Stopped why)) h = ((same h.1).on, (ready_still h.1, by_other why h.1 h.0))
      asked (Err e) h = ((same h).on, is_calm o k' w (ready_still h))
