-- What stays from one board to another whose history goes on from its own.
use Rattle.std.proofs.Common.{◌≡◌, ◌≢◌, ◌∙◌, ◌≤◌, ◌+◌, ℕ, suc, nat_eq, Bool, true, false, List, [], ◌∷◌, ◌++◌, map, take, drop, Option, Some, None, refl, sym, ap, subst, arith}
use Rattle.std.specs.Prelude.{option_and_then, if◌then◌else◌, is_none, slice_get, nat_lt, ◌==◌, ◌&&◌}
use Rattle.std.specs.List.{AllByRecursion}
use Rattle.std.proofs.lemmas.List.{append-nil, append_cancel_left, take-append-drop}
use Rattle.std.proofs.lemmas.List.Elements.{filter-append, All-from_recursion}
use Rattle.wave_base.specs.Fold.{with_done}
use Rattle.wave_labels.specs.declared.label.Label as declared
use Rattle.wave_labels.specs.Labels.{label_of}
use Rattle.wave_states.specs.Actors.{Actors}
use Rattle.wave_states.specs.Begins.{start_state}
use Rattle.wave_states.specs.Labels.{Act, Label, Admit, Queue, Grant, Visit, Start, Stop, Free, Pass, Land, Commit, is_local}
use Rattle.wave_states.specs.Runs.{Finished, run}
use Rattle.wave_states.specs.States.{State}
use Rattle.wave_states.specs.Steps.{admit, after_admit, commit, after_commit, next_ticket, only_if, step}
use Rattle.wave_theory.specs.Hands.{HandsStayOver}
use Rattle.wave_theory.proofs.Basics.{clash, if_some, none_not, number_self, only_some, some_same, then_some}
use Rattle.wave_theory.proofs.Folds.{with_done_done}
use Rattle.plan_actors.specs.PlanActors.{plan_actors}
use Rattle.plan_actors.specs.Plans.{Plan, begin_in}
use Rattle.kept_lock.specs.declared.view.Known.{Known}
use Rattle.kept_lock.specs.History.{StartsWith, entries_of}
use Rattle.kept_lock.specs.Knowing.{Agrees}
use Rattle.wave_effects.specs.Machines.{IsReached, TheState}
use Rattle.wave_effects.specs.Plans.{plan_of}
use Rattle.wave_effects.proofs.Opening.{left_by}
use Rattle.wave_board.specs.declared.board.Board.{Board}
use Rattle.wave_board.specs.declared.board.StopWord.{StopWord}
use Rattle.wave_board.specs.declared.origin.Origin.{Origin}
use Rattle.wave_board.specs.declared.trail.Trail.{Trail}
use Rattle.wave_board.specs.declared.trail.Trail.TheVariants.{Step, Halt}
use Rattle.wave_board.specs.Boards.{IsAt, history_of, labels_in, labels_of, owner_of, with_halt}
use Rattle.wave_board.specs.Taking.{IsFinished}

labels_append : (xs ys : List Trail) → labels_in (xs ++ ys) ≡ labels_in xs ++ labels_in ys
labels_append [] ys = refl
labels_append (Step l ∷ xs) ys = ap (λ z. label_of l ∷ z) (labels_append xs ys)
labels_append (Halt w why ∷ xs) ys = labels_append xs ys

labels_of_steps : (js : List declared.Label) → labels_in (map Step js) ≡ map label_of js
labels_of_steps [] = refl
labels_of_steps (j ∷ js) = ap (λ z. label_of j ∷ z) (labels_of_steps js)

labels_kept : (w : Option StopWord) (ts : List Trail) → labels_in (with_halt w ts) ≡ labels_in ts
labels_kept None ts = refl
labels_kept (Some x) ts =
    labels_append (take x.place ts) (Halt x.worker x.why ∷ drop x.place ts)
    ∙ sym (labels_append (take x.place ts) (drop x.place ts))
    ∙ ap labels_in (take-append-drop x.place ts)

-- the labels of the history are those of the journal
pub labels_are : (b : Board) → labels_in (history_of b) ≡ labels_of b
labels_are b = labels_kept b.word (map Step b.journal.labels) ∙ labels_of_steps b.journal.labels

module _ {A F R J : Type 0} (sys : Actors A F R J) (workers : ℕ) where
  -- what follows a run goes on from where it led
  run_on : (xs ys : List Label) (s u v : State A F R J) → run sys workers s xs ≡ Some u → run sys workers s (xs ++ ys) ≡ Some v → run sys workers u ys ≡ Some v
  unfolding run
  run_on [] ys s u v e f = subst (λ z. run sys workers z ys ≡ Some v) (some_same s u e) f
  run_on (l ∷ xs) ys s u v e f =
      let a = then_some (λ z. run sys workers z xs) (step sys workers s l) u e in
      run_on xs ys a.0 u v a.2 (subst (λ o. option_and_then (λ z. run sys workers z (xs ++ ys)) o ≡ Some v) a.1 f)

  kept_by : (s v : State A F R J) (w host : ℕ) (a : Act) → is_local a ≡ true → step sys workers s (record { worker = w; host = host; act = a }) ≡ Some v → s.head.done ≤ v.head.done
  kept_by s v w host a local e =
      let left = left_by sys workers s v (record { worker = w; host = host; act = a }) local e in
      let x : s.head.done ≡ v.head.done = ap (λ (z : State A F R J). z.head.done) left.gives in
      omega (arith, x)

  -- what was committed is committed after a label
  done_grows : (s v : State A F R J) (w host : ℕ) (a : Act) → step sys workers s (record { worker = w; host = host; act = a }) ≡ Some v → s.head.done ≤ v.head.done
  unfolding step
  done_grows s v w host (Admit t) e =
      let i = (if_some (is_none (s.hands w)) (admit sys s host t) v (if_some (nat_lt w workers) _ v e).1).1 in
      let j = then_some (λ j. only_if ((host == 0) && (t == next_ticket s)) (after_admit sys s t j)) (slice_get s.head.known s.admitted) v i in
      let x : s.head.done ≡ v.head.done = ap (λ (z : State A F R J). z.head.done) (only_some _ (after_admit sys s t j.0) v j.2).1 in
      omega (arith, x)
  done_grows s v w host (Commit t) e =
      let i = (if_some (is_none (s.hands w)) (commit sys s host t) v (if_some (nat_lt w workers) _ v e).1).1 in
      let r = then_some (λ r. only_if ((host == 0) && (t == suc (s.before + s.head.done))) (after_commit sys s r)) (s.cells t).result v i in
      let x : (with_done s.head (sys.created r.0)).done ≡ v.head.done = ap (λ (z : State A F R J). z.head.done) (only_some _ (after_commit sys s r.0) v r.2).1 in
      let y : (with_done s.head (sys.created r.0)).done ≡ suc s.head.done = with_done_done s.head (sys.created r.0) in
      omega (arith, x, y)
  done_grows s v w host (Queue t k p) e = kept_by s v w host (Queue t k p) refl e
  done_grows s v w host (Grant t p) e = kept_by s v w host (Grant t p) refl e
  done_grows s v w host (Visit t k p) e = kept_by s v w host (Visit t k p) refl e
  done_grows s v w host (Start t p) e = kept_by s v w host (Start t p) refl e
  done_grows s v w host (Stop t p) e = kept_by s v w host (Stop t p) refl e
  done_grows s v w host (Free t k p) e = kept_by s v w host (Free t k p) refl e
  done_grows s v w host (Pass t k p g) e = kept_by s v w host (Pass t k p g) refl e
  done_grows s v w host (Land t k p) e = kept_by s v w host (Land t k p) refl e

  -- and after many
  done_goes_on : (ls : List Label) (s v : State A F R J) → run sys workers s ls ≡ Some v → s.head.done ≤ v.head.done
  unfolding run
  done_goes_on [] s v e = (let x : s.head.done ≡ v.head.done = ap (λ (z : State A F R J). z.head.done) (some_same s v e) in omega (arith, x))
  done_goes_on (l ∷ ls) s v e =
      let a = then_some (λ z. run sys workers z ls) (step sys workers s l) v e in
      let one = done_grows s a.0 l.worker l.host l.act a.1 in
      let more = done_goes_on ls a.0 v a.2 in
      omega (arith, one, more)

  -- nothing follows a finished state
  pub ends_there : (ls : List Label) (s v : State A F R J) → Finished sys workers s → run sys workers s ls ≡ Some v → (ls ≡ []) × (v ≡ s)
  unfolding run
  ends_there [] s v f e = (refl, sym (some_same s v e))
  ends_there (l ∷ ls) s v f e = absurd (none_not (sym (f.none l) ∙ (then_some (λ z. run sys workers z ls) (step sys workers s l) v e).1))

none_of : {X : Type 0} (b : Bool) (x : X) (xs : List X) → (if b then x ∷ xs else xs) ≡ [] → (b ≡ false) × (xs ≡ [])
none_of true x xs e = absurd (grind arith)
none_of false x xs e = (refl, e)

-- no entry is the worker's, so no label is
of_others : (w : ℕ) (ts : List Trail) → entries_of owner_of w ts ≡ [] → AllByRecursion (λ (l : Label). w ≢ l.worker) (labels_in ts)
of_others w [] e = tt
of_others w (Step l ∷ ts) e =
    let n = none_of (nat_eq l.worker.0 w) (Step l) (entries_of owner_of w ts) e in
    (λ same. clash (nat_eq l.worker.0 w) (subst (λ k. nat_eq k w ≡ true) same (number_self w)) n.0, of_others w ts n.1)
of_others w (Halt x why ∷ ts) e = of_others w ts (none_of (nat_eq x.0 w) (Halt x why) (entries_of owner_of w ts) e).1

-- a board whose history goes on from that of another
module _ (o : Origin) (b b' : Board) (s s' : TheState) (h : IsAt b o s) (h' : IsAt b' o s') (on : StartsWith (history_of b') (history_of b)) where
  abbrev rest : List Trail
  rest = on.0

  labels_on : labels_of b' ≡ labels_of b ++ labels_in rest
  labels_on = sym (labels_are b') ∙ ap labels_in on.1 ∙ labels_append (history_of b) rest ∙ ap (λ z. z ++ labels_in rest) (labels_are b)

  abbrev plan : Plan
  plan = plan_of o.plan.now

  first_run : IsReached plan o.start.now (labels_of b) s
  first_run = subst (λ p. IsReached p o.start.now (labels_of b) s) h.plan h.reached

  whole_run : IsReached plan o.start.now (labels_of b ++ labels_in rest) s'
  whole_run = subst (λ ls. IsReached plan o.start.now ls s') labels_on (subst (λ p. IsReached p o.start.now (labels_of b') s') h'.plan h'.reached)

  -- the labels that follow lead from the one state to the other
  rest_run : run (plan_actors plan.program) plan.workers s (labels_in rest) ≡ Some s'
  rest_run = run_on (plan_actors plan.program) plan.workers (labels_of b) (labels_in rest) (start_state (begin_in plan o.start.now) plan.script.batches) s s' first_run whole_run

  pub results_on : s.head.done ≤ s'.head.done
  results_on = done_goes_on (plan_actors plan.program) plan.workers (labels_in rest) s s' rest_run

  pub finished_on : IsFinished b s → (labels_of b' ≡ labels_of b) × (s' ≡ s)
  finished_on f =
      let done : Finished (plan_actors plan.program) plan.workers s = subst (λ (p : Plan). Finished (plan_actors p.program) p.workers s) h.plan f in
      let e = ends_there (plan_actors plan.program) plan.workers (labels_in rest) s s' done rest_run in
      (labels_on ∙ ap (λ ls. labels_of b ++ ls) e.0 ∙ append-nil (labels_of b), e.1)

  pub hand_on : HandsStayOver (plan_actors plan.program) → (w : ℕ) → entries_of owner_of w rest ≡ [] → s'.hands w ≡ s.hands w
  hand_on stay w none = stay plan.workers s s' (labels_in rest) w rest_run (All-from_recursion (λ (l : Label). w ≢ l.worker) (labels_in rest) (of_others w rest none))

module _ (o : Origin) (b b' : Board) (s s' : TheState) (pass : Known Trail) (h : IsAt b o s) (h' : IsAt b' o s') (seen : pass.seen ≡ history_of b) (own : Agrees owner_of pass (history_of b)) (own' : Agrees owner_of pass (history_of b')) where
  abbrev grown : StartsWith (history_of b') (history_of b)
  grown = (own'.0.0, own'.0.1 ∙ ap (λ z. z ++ own'.0.0) seen)

  none_own : entries_of owner_of pass.number own'.0.0 ≡ []
  none_own = append_cancel_left (entries_of owner_of pass.number (history_of b)) (entries_of owner_of pass.number own'.0.0) []
      (sym (filter-append (λ e. nat_eq (owner_of e) pass.number) (history_of b) own'.0.0) ∙ ap (entries_of owner_of pass.number) (sym grown.1) ∙ own'.1 ∙ sym own.1 ∙ sym (append-nil (entries_of owner_of pass.number (history_of b))))

  pub hand_stays : HandsStayOver (plan_actors (plan_of o.plan.now).program) → s'.hands pass.number ≡ s.hands pass.number
  hand_stays stay = hand_on o b b' s s' h h' grown stay pass.number none_own
