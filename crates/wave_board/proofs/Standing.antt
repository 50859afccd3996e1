-- What a board stands for, before and after its calls.
use Rattle.std.proofs.Common.{◌≡◌, ◌∙◌, ◌≤◌, ◌+◌, ℕ, true, List, [], ◌∷◌, ◌++◌, length, map, take, drop, Option, Some, None, refl, sym, ap, subst, arith}
use Rattle.std.proofs.lemmas.List.{append_assoc, drop-append-le, length-append, length-map, map-append, take-append-le}
use Rattle.wave_base.specs.declared.pause.Pause.{Pause}
use Rattle.wave_base.specs.declared.start.Start.{Start}
use Rattle.wave_labels.specs.declared.label.Act.TheVariants.{Start as Begin}
use Rattle.wave_labels.specs.declared.label.Label.{Label}
use Rattle.wave_labels.specs.Labels.{label_of}
use Rattle.wave_states.specs.Begins.{start_state}
use Rattle.wave_states.specs.Runs.{run}
use Rattle.wave_states.specs.Steps.{step}
use Rattle.wave_theory.proofs.Basics.{some_same}
use Rattle.plan_actors.specs.PlanActors.{plan_actors}
use Rattle.plan_actors.specs.Plans.{Plan, Fits, FitsStart, begin_in}
use Rattle.wave_effects.specs.declared.lease.Lease.{Lease}
use Rattle.wave_effects.specs.declared.plan.Plan as declared
use Rattle.wave_effects.specs.Machines as machines
use Rattle.wave_effects.specs.Machines.{IsReached, Keeps, Kept, Stands, Takes, TheState}
use Rattle.wave_effects.specs.Plans.{plan_of}
use Rattle.wave_effects.specs.Acts.{is_start}
use Rattle.wave_effects.specs.Running.{IsInHand, IsStopping, Leases, Stops, CanStop, stop_of}
use Rattle.wave_effects.proofs.Queueing.{some_is}
use Rattle.wave_effects.proofs.Taking.{run_more}
use Rattle.wave_board.specs.declared.board.Board.{Board}
use Rattle.wave_board.specs.declared.board.StopWord.{StopWord}
use Rattle.wave_board.specs.declared.origin.Origin.{Origin}
use Rattle.wave_board.specs.declared.trail.Trail.{Trail}
use Rattle.wave_board.specs.declared.trail.Trail.TheVariants.{Step, Halt}
use Rattle.wave_board.specs.Boards.{InEachState, IsAt, StandsFor, StandsStill, WordStands, history_of, labels_of, with_halt}
use Rattle.wave_board.specs.Giving.{CanGive, Gives}
use Rattle.wave_board.specs.inner.Doing.{CanAppend, IsEnabled}
use Rattle.wave_board.proofs.Leased.{start_is}

-- its machine stands too
pub stands_of : (b : Board) (o : Origin) (s : TheState) → IsAt b o s → Stands b.machine.kept o.start.now s
stands_of b o s h = record { fits = h.fits; begins = h.begins; labels = labels_of b; reached = h.reached; shows = h.shows }

at_start : (p : Plan) (start : Start) → IsReached p start [] (start_state (begin_in p start) p.script.batches)
unfolding run
at_start p start = refl

-- a new one
pub opens : (b : Board) (p : declared.Plan) (start : Start) → b.machine.kept.plan ≡ plan_of p → b.journal.labels ≡ [] → b.word ≡ None
    → Stands b.machine.kept start (start_state (begin_in (plan_of p) start) p.script.batches)
    → (o : Origin) → o.plan.now ≡ p → o.start.now ≡ start → StandsFor b o
opens b p start plan empty unset h o same begins = (
  start_state (begin_in (plan_of p) start) p.script.batches,
  record {
    plan = plan ∙ ap plan_of (sym same);
    fits = h.fits;
    begins = subst (FitsStart b.machine.kept.plan) (sym begins) h.begins;
    reached = subst (λ x. IsReached b.machine.kept.plan x (labels_of b) (start_state (begin_in (plan_of p) start) p.script.batches)) (sym begins) from_start;
    shows = h.shows;
    word = subst (λ w. WordStands w (length b.journal.labels)) (sym unset) tt;
  },
)
  where
    from_start : IsReached b.machine.kept.plan start (labels_of b) (start_state (begin_in (plan_of p) start) p.script.batches)
    from_start = subst (λ x. IsReached x start (labels_of b) (start_state (begin_in (plan_of p) start) p.script.batches)) (sym plan) (subst (λ js. IsReached (plan_of p) start (map label_of js) (start_state (begin_in (plan_of p) start) p.script.batches)) (sym empty) (at_start (plan_of p) start))

word_on : (w : Option StopWord) (m n : ℕ) → m ≤ n → WordStands w m → WordStands w n
word_on None m n less h = tt
word_on (Some x) m n less h = record { place = (let there = h.place in omega (arith, less, there)); writer = h.writer }

-- one entry more
history_on : (w : Option StopWord) (ts : List Trail) (t : Trail) → WordStands w (length ts) → with_halt w (ts ++ t ∷ []) ≡ with_halt w ts ++ t ∷ []
history_on None ts t h = refl
history_on (Some x) ts t h =
    ap (λ z. z ++ Halt x.worker x.why ∷ drop x.place (ts ++ t ∷ [])) (take-append-le x.place ts (t ∷ []) h.place)
    ∙ ap (λ z. take x.place ts ++ Halt x.worker x.why ∷ z) (drop-append-le x.place ts (t ∷ []) h.place)
    ∙ sym (append_assoc (take x.place ts) (Halt x.worker x.why ∷ drop x.place ts) (t ∷ []))

module _ (b b' : Board) (journal : b'.journal.labels ≡ b.journal.labels) (plan : b'.machine.kept.plan ≡ b.machine.kept.plan) (word : WordStands b.word (length b.journal.labels) → WordStands b'.word (length b.journal.labels)) where
  -- nothing was taken
  pub still : Keeps b.machine.kept b'.machine.kept → StandsStill b b'
  still keeps o at =
      let s = at.0 in let h = at.1 in (
        s,
        record {
          plan = plan ∙ h.plan;
          fits = subst Fits (sym plan) h.fits;
          begins = subst (λ p. FitsStart p o.start.now) (sym plan) h.begins;
          reached = subst (λ p. IsReached p o.start.now (labels_of b') s) (sym plan) (subst (λ js. IsReached b.machine.kept.plan o.start.now (map label_of js) s) (sym journal) h.reached);
          shows = (keeps o.start.now s (stands_of b o s h)).shows;
          word = subst (λ js. WordStands b'.word (length js)) (sym journal) (word h.word);
        },
      )

module _ (b b' : Board) (l : Label) (journal : b'.journal.labels ≡ b.journal.labels ++ l ∷ []) (word : b'.word ≡ b.word) (plan : b'.machine.kept.plan ≡ b.machine.kept.plan) where
  labels : labels_of b' ≡ labels_of b ++ label_of l ∷ []
  labels = ap (map label_of) journal ∙ map-append label_of b.journal.labels (l ∷ [])

  longer : length b.journal.labels ≤ length b'.journal.labels
  longer = (let e : length b'.journal.labels ≡ length b.journal.labels + 1 = ap length journal ∙ length-append b.journal.labels (l ∷ []) in omega (arith, e))

  pub history_more : WordStands b.word (length b.journal.labels) → history_of b' ≡ history_of b ++ Step l ∷ []
  history_more h =
      ap (λ w. with_halt w (map Step b'.journal.labels)) word
      ∙ ap (λ js. with_halt b.word (map Step js)) journal
      ∙ ap (with_halt b.word) (map-append Step b.journal.labels (l ∷ []))
      ∙ history_on b.word (map Step b.journal.labels) (Step l) (subst (WordStands b.word) (sym (length-map b.journal.labels Step)) h)

  -- the label leads there
  leads : (o : Origin) (s s' : TheState) → IsAt b o s → step (plan_actors b.machine.kept.plan.program) b.machine.kept.plan.workers s (label_of l) ≡ Some s' → IsReached b'.machine.kept.plan o.start.now (labels_of b') s'
  leads o s s' h e =
      subst (λ p. IsReached p o.start.now (labels_of b') s') (sym plan)
      (subst (λ ls. IsReached b.machine.kept.plan o.start.now ls s') (sym labels)
      (run_more (plan_actors b.machine.kept.plan.program) b.machine.kept.plan.workers (labels_of b) (start_state (begin_in b.machine.kept.plan o.start.now) b.machine.kept.plan.script.batches) s s' (label_of l) h.reached e))

  -- and so the board stands
  pub goes_on : (o : Origin) (s s' : TheState) → IsAt b o s → step (plan_actors b.machine.kept.plan.program) b.machine.kept.plan.workers s (label_of l) ≡ Some s' → Stands b'.machine.kept o.start.now s' → StandsFor b' o
  goes_on o s s' h e after = (
    s',
    record {
      plan = plan ∙ h.plan;
      fits = subst Fits (sym plan) h.fits;
      begins = subst (λ p. FitsStart p o.start.now) (sym plan) h.begins;
      reached = leads o s s' h e;
      shows = after.shows;
      word = subst (λ w. WordStands w (length b'.journal.labels)) (sym word) (word_on b.word (length b.journal.labels) (length b'.journal.labels) longer h.word);
    },
  )

  module _ (on : InEachState b (IsEnabled b l)) where
    pub taken : Takes b.machine.kept b'.machine.kept (label_of l) → StandsStill b b'
    taken takes o at =
        let s = at.0 in let h = at.1 in
        let next = some_is (step (plan_actors b.machine.kept.plan.program) b.machine.kept.plan.workers s (label_of l)) (on o s h) in
        goes_on o s next.0 h next.1 (takes o.start.now s next.0 (stands_of b o s h) next.1)

    pub leased : (lease : Lease) → lease.worker.0 ≡ l.worker.0 → Leases b.machine.kept (label_of l) lease → (o : Origin) (s s' : TheState) → IsAt b o s → IsAt b' o s' → IsInHand b'.machine.kept.plan.program lease (s'.hands lease.worker.0)
    leased lease worker leases o s s' h h' =
        let next = some_is (step (plan_actors b.machine.kept.plan.program) b.machine.kept.plan.workers s (label_of l)) (on o s h) in
        let same : next.0 ≡ s' = some_same next.0 s' (sym (leads o s next.0 h next.1) ∙ h'.reached) in
        subst (λ p. IsInHand p.program lease (s'.hands lease.worker.0)) (sym plan)
        (subst (λ w. IsInHand b.machine.kept.plan.program lease (s'.hands w)) (sym worker)
        (subst (λ (v : TheState). IsInHand b.machine.kept.plan.program lease (v.hands l.worker.0)) same
        (leases o.start.now s next.0 (stands_of b o s h) next.1)))

  -- the Stop of a lease
  pub given : (lease : Lease) (why : Pause) → label_of l ≡ stop_of lease l.host.0 → CanStop b.machine.kept lease why l.host.0 → Stops b.machine.kept lease why l.host.0 b'.machine.kept → Gives b lease why b'
  given lease why is can stops o s may =
      let stands = stands_of b o s may.at in
      let next = some_is (step (plan_actors b.machine.kept.plan.program) b.machine.kept.plan.workers s (stop_of lease l.host.0)) (can o.start.now s stands may.back) in
      goes_on o s next.0 may.at (subst (λ x. step (plan_actors b.machine.kept.plan.program) b.machine.kept.plan.workers s x ≡ Some next.0) (sym is) next.1) (stops o.start.now s next.0 stands may.back next.1)

-- what its machine asks for
pub enabled_in : (b : Board) (l : Label) → CanAppend b l → machines.IsEnabled b.machine.kept (label_of l)
enabled_in b l can =
    let st = can.standing in
    let next = some_is (step (plan_actors b.machine.kept.plan.program) b.machine.kept.plan.workers st.state (label_of l)) (can.enabled st.origin st.state st.at) in
    record { start = st.origin.start.now; state = st.state; next = next.0; stands = stands_of b st.origin st.state st.at; enabled = next.1 }

pub stopping_in : (b : Board) (lease : Lease) (why : Pause) → CanGive b lease why → IsStopping b.machine.kept lease why
stopping_in b lease why can = record { start = can.origin.start.now; state = can.state; stands = stands_of b can.origin can.state can.may.at; back = can.may.back }

-- a Start for which there is a lease is the lease's
pub leased_start : (b : Board) (l : Label) → CanAppend b l → (lease : Lease) → is_start l.act ≡ true → Leases b.machine.kept (label_of l) lease → l.act ≡ Begin lease.ticket lease.path
leased_start b l can lease kind leases =
    let st = can.standing in
    let p = b.machine.kept.plan in
    let next = some_is (step (plan_actors p.program) p.workers st.state (label_of l)) (can.enabled st.origin st.state st.at) in
    start_is p.program p.workers st.state next.0 l.worker.0 l.host.0 lease (leases st.origin.start.now st.state next.0 (stands_of b st.origin st.state st.at) next.1) l.act kind next.1
