-- What a worker's list has.
use Rattle.std.proofs.Common.{◌≡◌, ◌∙◌, ◌<◌, inl, inr, true, false, List, is_some, Option, Result, Ok, Err, Some, None, refl, sym, ap, subst, arith}
use Rattle.std.specs.Prelude.{IfOk, slice_get}
use Rattle.wave_base.specs.declared.numbers.Worker.{Worker}
use Rattle.wave_base.specs.declared.start.Start.{Start}
use Rattle.wave_labels.specs.declared.label.Act.{Act}
use Rattle.wave_labels.specs.declared.label.Act.TheVariants.{Admit, Queue, Grant, Visit, Start as Begin, Stop, Free, Pass, Land, Commit}
use Rattle.wave_labels.specs.declared.label.Label.{Label}
use Rattle.wave_labels.specs.Labels.{act_of, label_of}
use Rattle.wave_states.specs.Canonical.{enabled_for}
use Rattle.wave_states.specs.Labels as theory
use Rattle.wave_states.specs.Steps.{step}
use Rattle.wave_theory.specs.Listed.{IsIn, ListedFor}
use Rattle.wave_theory.proofs.Basics.{options}
use Rattle.plan_actors.specs.PlanActors.{plan_actors, plan_kind}
use Rattle.plan_actors.specs.Plans.{Plan, Fits, FitsStart, begin_in}
use Rattle.code_actor.specs.CodeActors.{Fields}
use Rattle.plan_actors.specs.PlanActors as actors
use Rattle.wave_states.specs.States.{Hand}
use Rattle.wave_effects.specs.declared.kept.Out.{Out}
use Rattle.wave_effects.specs.Machines.{IsOut, IsReached, Stands, TheState}
use Rattle.wave_machine.specs.Picks.{IsOneOf}
use Rattle.wave_effects.proofs.Ending.{some_at}
use Rattle.wave_effects.specs.Acts.{is_start, is_step}
use Rattle.wave_effects.proofs.Queueing.{some_is}
use Rattle.wave_board.specs.declared.board.Board.{Board}
use Rattle.wave_board.specs.declared.origin.Origin.{Origin}
use Rattle.wave_board.specs.Boards.{IsAt, IsStanding, labels_of}
use Rattle.wave_board.specs.declared.turn.Turn.{Turn}
use Rattle.wave_board.specs.declared.turn.Turn.TheVariants.{Stepped, Segment, Nothing, Finished, Stopped}
use Rattle.wave_board.specs.Taking.{IsAppended, Took}
use Rattle.wave_board.specs.inner.Doing.{Appends, Chooses}
use Rattle.wave_board.proofs.Idle.{no_stop}
use Rattle.wave_board.proofs.Standing.{stands_of}

none_out : (o : Option Out) (h : Option (Hand actors.Actor Fields)) → IsOut o h → h ≡ None → o ≡ None
none_out None h x e = refl
none_out (Some o) None x e = absurd x
none_out (Some o) (Some h) x e = cc

-- what is kept of a worker that has nothing in its hand
pub kept_idle : (b : Board) (worker : Worker) → IsStanding b → worker.0 < b.machine.kept.plan.workers → ((o : Origin) (s : TheState) → IsAt b o s → s.hands worker.0 ≡ None) → slice_get b.machine.kept.hands worker.0 ≡ Some None
kept_idle b worker st within idle =
    let hands = st.at.shows.hands in
    let many = hands.as_many in
    let x = some_at b.machine.kept.hands worker.0 (omega (arith, within, many)) in
    x.1 ∙ ap Some (none_out x.0 (st.state.hands worker.0) (hands.each worker.0 x.0 x.1) (idle st.origin st.state st.at))

neither : (a : Act) → is_start a ≡ false → theory.is_stop (act_of a) ≡ false → is_step a ≡ true
neither (Begin t p) e f = absurd (grind arith)
neither (Stop t p) e f = absurd (grind arith)
neither (Admit t) e f = refl
neither (Queue k p) e f = refl
neither (Grant t p) e f = refl
neither (Visit k p) e f = refl
neither (Free k p) e f = refl
neither (Pass k p g) e f = refl
neither (Land k p) e f = refl
neither (Commit t) e f = refl

-- the law of the list, as it is given
abbrev pub Lists : Type 0
Lists = (plan : Plan) (start : Start) (labels : List theory.Label) (s : TheState) → Fits plan → FitsStart plan start → IsReached plan start labels s → ListedFor (plan_kind plan.program plan.script.hosts) plan.workers (begin_in plan start) plan.script.batches s

module _ (lists : Lists) (b : Board) (worker : Worker) where
  abbrev list : TheState → List theory.Label
  list s = enabled_for (plan_actors b.machine.kept.plan.program) b.machine.kept.plan.workers b.machine.kept.plan.script.hosts s worker.0

  has : (o : Origin) (s : TheState) → IsAt b o s → (l : theory.Label) → IsIn (list s) l → (is_some (step (plan_actors b.machine.kept.plan.program) b.machine.kept.plan.workers s l) ≡ true) × (l.worker ≡ worker.0)
  has o s h l e = ((lists b.machine.kept.plan o.start.now (labels_of b) s h.fits h.begins h.reached).has worker.0 l).0 e

  -- one of the list, or none where it is empty, for a worker with an empty hand
  pub chosen : IsStanding b → ((o : Origin) (s : TheState) → IsAt b o s → s.hands worker.0 ≡ None) → (picked : Option Label) → ((start : Start) (s : TheState) → Stands b.machine.kept start s → IsOneOf (list s) picked) → Chooses b worker picked
  chosen st idle None is = λ o s h l own. elim (options (step (plan_actors b.machine.kept.plan.program) b.machine.kept.plan.workers s l)) [
    | inl none ↦ none
    | inr some ↦ absurd (subst (λ xs. IsIn xs l) (is o.start.now s (stands_of b o s h)) (((lists b.machine.kept.plan o.start.now (labels_of b) s h.fits h.begins h.reached).has worker.0 l).1 (ap is_some some.1, own)))
  ]
  chosen st idle (Some l) is =
      let there = is st.origin.start.now st.state (stands_of b st.origin st.state st.at) in
      let own : l.worker.0 ≡ worker.0 = (has st.origin st.state st.at (label_of l) there).1 in
      let next = some_is (step (plan_actors b.machine.kept.plan.program) b.machine.kept.plan.workers st.state (label_of l)) (has st.origin st.state st.at (label_of l) there).0 in
      record {
        enabled = λ o s h. (has o s h (label_of l) (is o.start.now s (stands_of b o s h))).0;
        own = λ j. record { 0 = own j };
        kind = λ no_start. neither l.act no_start
            (no_stop (plan_actors b.machine.kept.plan.program) b.machine.kept.plan.workers st.state next.0 (label_of l)
            (ap (λ w. (st.state).hands w) own ∙ idle st.origin st.state st.at) next.1);
      }

-- what was appended is what a worker took
took_of : (b b' : Board) (worker : Worker) (l : Label) → l.worker ≡ worker → (work : Turn) → Appends b l b' work → Took b worker b' work
took_of b b' worker l own (Stepped m) h = subst (λ (x : Label). IsAppended b b' x × (x.worker ≡ worker) × (is_step x.act ≡ true)) (sym h.1) (h.0, own, h.2)
took_of b b' worker l own (Segment lease) h = (l, h.0, own, h.1)
took_of b b' worker l own Nothing h = absurd h
took_of b b' worker l own Finished h = absurd h
took_of b b' worker l own (Stopped why) h = absurd h

pub took_by : {E : Type 0} (b b' : Board) (worker : Worker) (l : Label) → l.worker ≡ worker → (r : Result Turn E) → IfOk r (λ work. Appends b l b' work) → IfOk r (λ work. Took b worker b' work)
took_by b b' worker l own (Ok work) h = took_of b b' worker l own work h
took_by b b' worker l own (Err e) h = tt
