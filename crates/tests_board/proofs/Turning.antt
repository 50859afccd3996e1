-- How a board goes on from what was taken, and from what is given back.
use Rattle.std.proofs.Common.{◌≡◌, ◌∙◌, ◌<◌, ℕ, inl, inr, nat_eq, true, false, [], ◌∷◌, ◌++◌, None, Result, Ok, Err, refl, sym, ap, subst, arith}
use Rattle.std.specs.Prelude.{IfErr, IfOk, IsSome, OnErr, OnOk}
use Rattle.std.proofs.lemmas.List.{append-nil}
use denote.Bor.{Bor}
use Rattle.wave_base.specs.declared.numbers.Worker.{Worker}
use Rattle.wave_base.specs.declared.pause.Pause.{Pause}
use Rattle.wave_base.specs.declared.start.Start.{Start}
use Rattle.wave_base.specs.Starts.{first_start}
use Rattle.wave_labels.specs.declared.label.Label.{Label}
use Rattle.wave_labels.specs.Labels.{act_of}
use Rattle.wave_states.specs.Labels as theory
use Rattle.wave_states.specs.Runs as runs
use Rattle.wave_states.specs.States.{Hand}
use Rattle.wave_theory.specs.Hands.{HandsStayOver}
use Rattle.wave_theory.proofs.Basics.{options}
use Rattle.code_actor.specs.CodeActors.{Fields}
use Rattle.plan_actors.specs.PlanActors as actors
use Rattle.plan_actors.specs.PlanActors.{plan_actors}
use Rattle.plan_actors.specs.Plans.{Plan}
use Rattle.service_verify.specs.Fit.{IsFit}
use Rattle.wave_effects.specs.declared.lease.Lease.{Lease}
use Rattle.wave_effects.specs.declared.plan.Plan as declared
use Rattle.wave_effects.specs.Actors.{MayRun}
use Rattle.wave_effects.specs.Leases as leases
use Rattle.wave_effects.specs.Leases.{StandsFor}
use Rattle.wave_effects.specs.Machines.{TheState}
use Rattle.wave_effects.specs.Plans.{plan_of}
use Rattle.wave_effects.specs.Acts.{is_step}
use Rattle.wave_effects.specs.Running.{IsInHand}
use Rattle.wave_board.specs.declared.board.Board.{Board}
use Rattle.wave_board.specs.declared.origin.Origin.{Origin}
use Rattle.wave_board.specs.declared.trail.StopCause.{StopCause}
use Rattle.wave_board.specs.declared.trail.Trail.TheVariants.{Halt}
use Rattle.wave_board.specs.declared.returned.Returned.{Returned}
use Rattle.wave_board.specs.Boards.{InEachState, IsAt, IsStanding, StandsFor as BoardStandsFor, StandsStill, history_of}
use Rattle.wave_board.specs.Giving.{CanGive, Gives, IsGiven}
use Rattle.wave_board.specs.Replies.{Ran, ran}
use Rattle.wave_board.specs.Taking.{IsAppended, IsFinished, IsLeased, MayTake}
use Rattle.wave_board.proofs.Leased.{in_hand}
use Rattle.wave_board.proofs.Staying.{finished_on, hand_on}
use Rattle.tests_board.specs.inner.Ready.{GaveAllBut, GaveBack, HasRun, IsOf, IsOut, IsReady}
use Rattle.tests_board.proofs.Counting.{gave_halt, gave_start, gave_step, gave_stop}

-- a new board
pub ready_new : {E : Type 0} (r : Result Board E) (plan : Bor declared.Plan) (start : Bor Start) → start.now ≡ first_start plan.now.program.shape
    → IfOk r (λ b. (o : Origin) → o.plan.now ≡ plan.now → o.start.now ≡ first_start plan.now.program.shape → BoardStandsFor b o) → IfOk r (λ b. history_of b ≡ []) → IfOk r (IsReady plan.now)
ready_new (Ok b) plan start first stands empty =
    let o : Origin = record { plan = plan; start = start } in
    let at = stands o refl first in
    record {
      stands = record { origin = o; state = at.0; at = at.1; plan_is = at.1.plan };
      gave = λ w. subst (λ ts. GaveBack w ts) (sym empty) refl;
    }
ready_new (Err e) plan start first stands empty = tt

-- a board of the plan
module _ (plan : declared.Plan) (b : Board) where
  pub standing : IsOf plan b → IsStanding b
  standing here = record { origin = here.origin; state = here.state; at = here.at }

  pub is_fit : IsOf plan b → IsFit plan.program
  is_fit here = subst (λ (p : Plan). IsFit p.program) here.plan_is here.at.fits.fit

  -- who may take something: the first worker, each one of the plan, and one that hasn't the lease
  pub first_may_take : IsReady plan b → (worker : Worker) → worker.0 ≡ 0 → MayTake b worker
  first_may_take ready worker first = record {
    is_worker = omega (arith, first, ready.stands.at.fits.some_worker);
    gave = ready.gave worker.0;
  }

  pub may_take : IsReady plan b → (worker : Worker) → worker.0 < plan.workers → MayTake b worker
  may_take ready worker below = record {
    is_worker = subst (λ (p : Plan). worker.0 < p.workers) (sym ready.stands.plan_is) below;
    gave = ready.gave worker.0;
  }

  pub other_may_take : (lease : Lease) → IsOut plan b lease → (worker : Worker) → nat_eq lease.worker.0 worker.0 ≡ false → worker.0 < plan.workers → MayTake b worker
  other_may_take lease out worker other below = record {
    is_worker = subst (λ (p : Plan). worker.0 < p.workers) (sym out.stands.plan_is) below;
    gave = out.gave.others worker.0 other;
  }

  -- a segment that was run can be given back
  pub has_run : (lease lease' : Lease) (why : Pause) → IsOut plan b lease → lease'.worker ≡ lease.worker
      → ((hand : Hand actors.Actor Fields) → StandsFor plan.program lease hand → leases.HasRun plan.program hand lease' why) → HasRun plan b lease' why
  has_run lease lease' why out same run =
      let x = in_hand b.machine.kept.plan.program lease (out.stands.state.hands lease.worker.0) out.in_hand in
      record {
        stands = out.stands;
        back = record {
          hand = x.hand;
          there = ap (λ (w : Worker). out.stands.state.hands w.0) same ∙ x.there;
          run = subst (λ (p : Plan). leases.HasRun p.program x.hand lease' why) (sym out.stands.plan_is) (run x.hand (subst (λ (p : Plan). StandsFor p.program lease x.hand) out.stands.plan_is x.stands));
        };
        gave = subst (λ (w : Worker). GaveAllBut w.0 (history_of b)) (sym same) out.gave;
      }

  pub can_give : (lease : Lease) (why : Pause) → HasRun plan b lease why → CanGive b lease why
  can_give lease why x = record { origin = x.stands.origin; state = x.stands.state; may = record { at = x.stands.at; back = x.back } }

  -- and is given back
  pub ready_given : (lease : Lease) (why : Pause) (b' : Board) → HasRun plan b lease why → Gives b lease why b' → IsGiven b b' lease → IsReady plan b'
  ready_given lease why b' x gives given =
      let after = gives x.stands.origin x.stands.state (record { at = x.stands.at; back = x.back }) in
      let own : given.label.worker.0 ≡ lease.worker.0 = ap (λ (l : theory.Label). l.worker) given.is_stop in
      let ended : theory.is_start (act_of given.label.act) ≡ false = ap (λ (l : theory.Label). theory.is_start l.act) given.is_stop in
      let stop : theory.is_stop (act_of given.label.act) ≡ true = ap (λ (l : theory.Label). theory.is_stop l.act) given.is_stop in
      record {
        stands = record { origin = x.stands.origin; state = after.0; at = after.1; plan_is = (after.1).plan ∙ sym x.stands.at.plan ∙ x.stands.plan_is };
        gave = λ w. subst (λ ts. GaveBack w ts) (sym given.history) (gave_stop lease.worker.0 (history_of b) x.gave given.label own ended stop w);
      }

-- a board that stands for what another one stood for
module _ (plan : declared.Plan) (b b' : Board) (still : StandsStill b b') where
  abbrev pub goes_on : IsOf plan b → IsOf plan b'
  goes_on here =
      let next = still here.origin (here.state, here.at) in
      record { origin = here.origin; state = next.0; at = next.1; plan_is = (next.1).plan ∙ sym here.at.plan ∙ here.plan_is }

  -- a label was that is neither a Start nor a Stop
  pub ready_step : IsReady plan b → (l : Label) → IsAppended b b' l → is_step l.act ≡ true → IsReady plan b'
  ready_step ready l appended kind = record {
    stands = goes_on ready.stands;
    gave = λ w. subst (λ ts. GaveBack w ts) (sym appended.history) (gave_step (history_of b) ready.gave l kind w);
  }

  -- a Halt was, or the board is as it was
  pub ready_halt : IsReady plan b → (x : Worker) (why : StopCause) → (b.word ≡ None → history_of b' ≡ history_of b ++ Halt x why ∷ []) → (IsSome b.word → b' ≡ b) → IsReady plan b'
  ready_halt ready x why first again = elim (options b.word) [
    | inl none ↦ record {
      stands = goes_on ready.stands;
      gave = λ w. subst (λ ts. GaveBack w ts) (sym (first none)) (gave_halt (history_of b) ready.gave x why w);
    }
    | inr some ↦ subst (IsReady plan) (sym (again (subst IsSome (sym some.1) refl))) ready
  ]

  -- a segment is out
  pub is_out : IsReady plan b → (l : Label) (lease : Lease) → IsAppended b b' l → IsLeased b b' l lease → IsOut plan b' lease
  is_out ready l lease appended leased =
      let here = goes_on ready.stands in
      let start : theory.is_start (act_of l.act) ≡ true = ap (λ a. theory.is_start (act_of a)) leased.act in
      let runs_on : theory.is_stop (act_of l.act) ≡ false = ap (λ a. theory.is_stop (act_of a)) leased.act in
      record {
        stands = here;
        in_hand = leased.in_hand ready.stands.origin ready.stands.state here.state ready.stands.at here.at;
        may_run = subst (λ (p : Plan). MayRun p.program lease.actor lease.body) here.plan_is leased.may_run;
        gave = subst (λ (w : Worker). GaveAllBut w.0 (history_of b')) (sym leased.worker) (subst (GaveAllBut l.worker.0) (sym appended.history) (gave_start (history_of b) ready.gave l start runs_on));
      }

  -- of a finished run
  pub is_finished : IsReady plan b → history_of b' ≡ history_of b → InEachState b (IsFinished b) → (o : Origin) × (s : TheState) × IsAt b' o s × IsFinished b' s
  is_finished ready e done =
      let o = ready.stands.origin in
      let s = ready.stands.state in
      let here = goes_on ready.stands in
      let r = finished_on o b b' s here.state ready.stands.at here.at ([], e ∙ sym (append-nil (history_of b))) (done o s ready.stands.at) in
      let there = subst (λ (z : TheState). IsFinished b z) (sym r.1) (done o s ready.stands.at) in
      (o, here.state, here.at, subst (λ (p : Plan). runs.Finished (plan_actors p.program) p.workers here.state) (ready.stands.at.plan ∙ sym here.at.plan) there)

  same_plan : (here : IsOf plan b) → b.machine.kept.plan ≡ b'.machine.kept.plan
  same_plan here = here.at.plan ∙ sym (goes_on here).at.plan

  -- what is out stays out, where nothing was appended
  module _ (e : history_of b' ≡ history_of b) where
    hand_same : (here : IsOf plan b) → HandsStayOver (plan_actors (plan_of here.origin.plan.now).program) → (w : ℕ) → (goes_on here).state.hands w ≡ here.state.hands w
    hand_same here stay w = hand_on here.origin b b' here.state (goes_on here).state here.at (goes_on here).at ([], e ∙ sym (append-nil (history_of b))) stay w refl

    pub out_same : (lease : Lease) (out : IsOut plan b lease) → HandsStayOver (plan_actors (plan_of out.stands.origin.plan.now).program) → IsOut plan b' lease
    out_same lease out stay =
        let here = out.stands in
        let held = subst (λ h. IsInHand b.machine.kept.plan.program lease h) (sym (hand_same here stay lease.worker.0)) out.in_hand in
        record {
          stands = goes_on here;
          in_hand = subst (λ (p : Plan). IsInHand p.program lease ((goes_on here).state.hands lease.worker.0)) (same_plan here) held;
          may_run = out.may_run;
          gave = subst (GaveAllBut lease.worker.0) (sym e) out.gave;
        }

    pub run_same : (lease : Lease) (why : Pause) (x : HasRun plan b lease why) → HandsStayOver (plan_actors (plan_of x.stands.origin.plan.now).program) → HasRun plan b' lease why
    run_same lease why x stay =
        let here = x.stands in
        record {
          stands = goes_on here;
          back = record {
            hand = x.back.hand;
            there = hand_same here stay lease.worker.0 ∙ x.back.there;
            run = subst (λ (p : Plan). leases.HasRun p.program x.back.hand lease why) (same_plan here) x.back.run;
          };
          gave = subst (GaveAllBut lease.worker.0) (sym e) x.gave;
        }

-- what comes of giving back
module _ (plan : declared.Plan) (b b' : Board) (lease : Lease) (why : Pause) (x : HasRun plan b lease why) where
  pub given_back : (r : Result (Unit {0}) Returned) → OnOk r (Gives b lease why b') → OnOk r (IsGiven b b' lease) → OnOk r (IsReady plan b')
  given_back (Ok u) gives given = ready_given plan b lease why b' x gives given
  given_back (Err e) gives given = tt

  pub refused : HandsStayOver (plan_actors (plan_of x.stands.origin.plan.now).program) → (r : Result (Unit {0}) Returned) → IfErr r (λ e. e.reply ≡ ran lease why) → OnErr r (StandsStill b b') → OnErr r (history_of b' ≡ history_of b)
      → IfErr r (λ e. HasRun plan b' e.reply.lease e.reply.pause)
  refused stay (Ok u) same still e = tt
  refused stay (Err r) same still e = subst (λ (z : Ran). HasRun plan b' z.lease z.pause) (sym same) (run_same plan b b' still e lease why x stay)
