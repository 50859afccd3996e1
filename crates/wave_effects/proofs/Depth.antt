-- What is in a hand at the last level of classes has no children, and nobody goes down from there; so the paths and the numbers of children fit.
use Rattle.std.proofs.Common.{◌≡◌, ◌∙◌, ◌⊎◌, inl, inr, ℕ, suc, ◌+◌, ◌<◌, ◌≤◌, ◌^◌, ◌||◌, Bool, true, false, List, [], ◌∷◌, ◌++◌, length, map, is_some, Option, Some, None, refl, sym, ap, subst, cond, arith, length-append}
use Rattle.std.specs.Prelude.{nat_eq, All}
use Rattle.std.specs.List.{list_any}
use Rattle.std.proofs.lemmas.Bool.{cases_lt}
use Rattle.std.proofs.lemmas.List.Elements.{All-head, All-tail}
use Rattle.wave_base.specs.declared.children.Child.{Child}
use Rattle.wave_base.specs.declared.outcome.EventResult.{EventResult}
use Rattle.wave_base.specs.declared.path.Path.{Path}
use Rattle.wave_base.specs.declared.path.Step.{Step}
use Rattle.wave_base.specs.declared.pause.Pause.{Pause as Halt}
use Rattle.wave_base.specs.declared.pause.Pause.TheVariants as halt
use Rattle.wave_base.specs.declared.start.Start.{Start}
use Rattle.wave_base.specs.Kids.{child_at, with_child}
use Rattle.wave_base.specs.Paths.{path_eq}
use Rattle.wave_base.specs.PathLaws.{step_eq_equiv}
use Rattle.wave_base.specs.Shapes.{is_path}
use Rattle.wave_base.specs.Tree.{there, children_of}
use Rattle.service_verify.proofs.Classes.{short_path}
use Rattle.script_fold.specs.Lines.{most_jobs}
use Rattle.script_fold.proofs.LeftLemmas.{most_lines}
use Rattle.code_actor.specs.CodeActors.{Fields, pause_of}
use Rattle.wave_states.specs.Actors.{Pause, Go, Down, Back, Over}
use Rattle.wave_states.specs.Begins.{Begin, child_at_start, column_at_start, entry_at_start, start_state}
use Rattle.wave_states.specs.Labels.{Label}
use Rattle.wave_states.specs.Movers as movers
use Rattle.wave_states.specs.Movers.{Mover, advance_on}
use Rattle.wave_states.specs.Owes.{Owes, Keeps as OwedKeeps}
use Rattle.wave_states.specs.Runs.{run}
use Rattle.service_verify.specs.Standing.{HasFields}
use Rattle.wave_states.specs.Results.{end_of, shots_of}
use Rattle.wave_states.specs.States as theory
use Rattle.wave_states.specs.States.{Column, Entry, Hand, Hold, Mail, hold_at, holds_as_peek, set, steps_of}
use Rattle.wave_states.specs.Desks.{Desk}
use Rattle.wave_states.specs.Steps.{child_or_new, desk_back, into_child, part_of, segment_of, step}
use Rattle.wave_states.specs.Walkers.{Walker, copied_now, first_of, last_step, leave, steps_left, walk_on}
use Rattle.wave_theory.proofs.Basics.{bool_cases, clash, none_not, options, path_is, some_same, then_some}
use Rattle.wave_theory.proofs.Maps.{any_child, child_put, none_any}
use Rattle.wave_theory.proofs.Opened.{stopping}
use Rattle.plan_actors.specs.PlanActors as actors
use Rattle.plan_actors.specs.PlanActors.{plan_actors, plan_kind, same as same_result}
use Rattle.plan_actors.specs.Plans.{Plan, Fits, FitsStart, begin_in}
use Rattle.plan_actors.specs.Renamed.{pause_as}
use Rattle.plan_actors.proofs.Owing.{setting_of}
use Rattle.wave_effects.specs.declared.actor.Actor.{Actor}
use Rattle.wave_effects.specs.declared.actor.Actor.TheVariants.{Service, Mover as Moves, Walker as Walks}
use Rattle.wave_effects.specs.declared.lease.Lease.{Lease}
use Rattle.wave_effects.specs.Actors.{MayRun, actor_of}
use Rattle.wave_effects.specs.Leases as leases
use Rattle.wave_effects.specs.Machines.{TheState, Kept, IsReached, Stands}
use Rattle.wave_effects.specs.Running as running
use Rattle.wave_effects.specs.Running.{IsBack, stop_of}
use Rattle.wave_effects.specs.inner.Leaving.{CanGoOn, IsNear, stopped_by}
use Rattle.wave_effects.proofs.CellParts.{ThePart}
use Rattle.wave_effects.proofs.Flat.{AllStay, FlatColumn, FlatEntry, IsFlat, step_kept}
use Rattle.wave_effects.proofs.Halting.{Segments, can, enabled_here, work_small}
use Rattle.wave_effects.proofs.Leaves.{stopped_is}
use Rattle.wave_effects.proofs.Opening.{left_by as left_after}
use Rattle.wave_effects.proofs.Parts.{set_here_path}
use Rattle.wave_effects.proofs.Starting.{TheHand}
use Rattle.wave_effects.proofs.Stopping.{stop_found}
use Rattle.wave_effects.proofs.StoreParts.{at_host}
use Rattle.wave_effects.proofs.Taking.{Laws, run_more}

or_else : (a b : Bool) → (a || b) ≡ true → (a ≡ true) ⊎ (b ≡ true)
or_else true b e = inl refl
or_else false b e = inr e

-- ---- where the actor of a hand goes

module _ (plan : Plan) (fits : Fits plan) where
  owes : Owes (plan_kind plan.program plan.script.hosts)
  owes = (setting_of plan.program fits.fit fits.verified plan.script.hosts).owed

  -- down a path of the shape
  below : (p : Path) (s : Step) → is_path plan.program.shape (p ++ s ∷ []) ≡ true → length p < 8
  below p s e =
      let short = short_path plan.program.shape fits.fit.shape (p ++ s ∷ []) e in
      let more = length-append p (s ∷ []) in
      omega (arith, short, more)

  -- without children a mover and a walker don't go down
  mover_stays : (m : movers.Move) (f : Fields) (rest : List Step) (s : Step) → (pause_as end_of (advance_on m f [] rest).pause ≡ Go s) ⊎ (pause_as end_of (advance_on m f [] rest).pause ≡ Down s) → ⊥
  mover_stays m f [] s (inl e) = cc
  mover_stays m f [] s (inr e) = cc
  mover_stays m f (t ∷ ts) s (inl e) = cc
  mover_stays m f (t ∷ ts) s (inr e) = cc

  none_left : (from : Option Step) → first_of (steps_left [] from) ≡ None
  none_left None = refl
  none_left (Some s) = refl

  leaves_up : (p : Path) (from : Option Step) (f : Fields) (copied : List (Path × Fields)) (o : Option Step) (s : Step) → (pause_as shots_of (leave p from f copied o).pause ≡ Go s) ⊎ (pause_as shots_of (leave p from f copied o).pause ≡ Down s) → ⊥
  leaves_up p from f copied None s (inl e) = cc
  leaves_up p from f copied None s (inr e) = cc
  leaves_up p from f copied (Some t) s (inl e) = cc
  leaves_up p from f copied (Some t) s (inr e) = cc

  walker_stays : (a : Walker Fields) (f : Fields) (s : Step) → ((actors.segment_of plan.program (actors.Walks a) f []).pause ≡ Go s) ⊎ ((actors.segment_of plan.program (actors.Walks a) f []).pause ≡ Down s) → ⊥
  walker_stays a f s e =
      leaves_up a.at a.from f (copied_now a f) (last_step a.at) s
      (subst (λ o. (pause_as shots_of (walk_on a.at a.from f (copied_now a f) o).pause ≡ Go s) ⊎ (pause_as shots_of (walk_on a.at a.from f (copied_now a f) o).pause ≡ Down s)) (none_left a.from) e)

  goes_down : (a : actors.Actor) (p : Path) (n : ℕ) (f : Fields) (cs : List Step) → actors.IsFine plan.program plan.script.hosts a p n → HasFields plan.program.shape p f → (8 ≤ length p → cs ≡ [])
      → (s : Step) → ((actors.segment_of plan.program a f cs).pause ≡ Go s) ⊎ ((actors.segment_of plan.program a f cs).pause ≡ Down s) → length p < 8
  goes_down (actors.Serves e) p n f cs fine kinds flat s (inl g) =
      let k = subst (OwedKeeps (plan_kind plan.program plan.script.hosts) (actors.segment_of plan.program (actors.Serves e) f cs).actor p n) g (owes.keeps (actors.Serves e) p n f cs fine kinds) in
      below p s k.1.box.is_path
  goes_down (actors.Serves e) p n f cs fine kinds flat s (inr g) =
      let k = subst (OwedKeeps (plan_kind plan.program plan.script.hosts) (actors.segment_of plan.program (actors.Serves e) f cs).actor p n) g (owes.keeps (actors.Serves e) p n f cs fine kinds) in
      below p s k.box.is_path
  goes_down (actors.Moves a) p n f cs fine kinds flat s g = by_depth (cases_lt (length p) 8)
    where
      by_depth : (length p < 8) ⊎ (8 ≤ length p) → length p < 8
      by_depth (inl l) = l
      by_depth (inr deep) = absurd (mover_stays a.move f a.rest s (subst (λ us. ((actors.segment_of plan.program (actors.Moves a) f us).pause ≡ Go s) ⊎ ((actors.segment_of plan.program (actors.Moves a) f us).pause ≡ Down s)) (flat deep) g))
  goes_down (actors.Walks a) p n f cs fine kinds flat s g = by_depth (cases_lt (length p) 8)
    where
      by_depth : (length p < 8) ⊎ (8 ≤ length p) → length p < 8
      by_depth (inl l) = l
      by_depth (inr deep) = absurd (walker_stays a f s (subst (λ us. ((actors.segment_of plan.program (actors.Walks a) f us).pause ≡ Go s) ⊎ ((actors.segment_of plan.program (actors.Walks a) f us).pause ≡ Down s)) (flat deep) g))

  -- ---- the state that a run begins with

  all_paths : (ps : List Path) (q : Path) → All (λ p. is_path plan.program.shape p ≡ true) ps → list_any (path_eq q) ps ≡ true → is_path plan.program.shape q ≡ true
  all_paths [] q all e = absurd (clash false e refl)
  all_paths (p ∷ ps) q all e = elim (or_else (path_eq q p) (list_any (path_eq q) ps) e) [
    | inl t ↦ subst (λ r. is_path plan.program.shape r ≡ true) (sym (path_is q p t)) (All-head (λ r. is_path plan.program.shape r ≡ true) p ps all)
    | inr f ↦ all_paths ps q (All-tail (λ r. is_path plan.program.shape r ≡ true) p ps all) f
  ]

  module _ (start : Start) (begins : FitsStart plan start) where
    abbrev b : Begin Fields
    b = begin_in plan start

    no_kids : (p : Path) → 8 ≤ length p → children_of b.tree p ≡ []
    no_kids p deep = none_any (children_of b.tree p) (λ s. sym (any_child p s b.tree.paths) ∙ not_there s (bool_cases (list_any (path_eq (p ++ s ∷ [])) b.tree.paths)))
      where
        not_there : (s : Step) → (list_any (path_eq (p ++ s ∷ [])) b.tree.paths ≡ true) ⊎ (list_any (path_eq (p ++ s ∷ [])) b.tree.paths ≡ false) → list_any (path_eq (p ++ s ∷ [])) b.tree.paths ≡ false
        not_there s (inl e) = let l = below p s (all_paths b.tree.paths (p ++ s ∷ []) begins.tree.paths e) in absurd (omega (arith, l, deep))
        not_there s (inr e) = e

    first_entry : (p : Path) → FlatEntry p (entry_at_start b p)
    first_entry p r e deep = ap (λ (x : theory.Record Fields). x.children) (sym (some_same _ r e)) ∙ ap (map (child_at_start b p)) (no_kids p deep)

    first_column : (p : Path) → FlatColumn p (column_at_start b p)
    first_column p h en e = by_there (there b.tree p) e
      where
        by_host : (t : Bool) → cond t (Some (entry_at_start b p)) None ≡ Some en → FlatEntry p en
        by_host true f = subst (FlatEntry p) (some_same (entry_at_start b p) en f) (first_entry p)
        by_host false f = absurd (none_not f)

        by_there : (t : Bool) → (cond t (set nat_eq (λ h. None) (b.places.fields p) (Some (entry_at_start b p))) (λ h. None)) h ≡ Some en → FlatEntry p en
        by_there true f = by_host (nat_eq (b.places.fields p) h) f
        by_there false f = absurd (none_not f)

    start_flat : IsFlat (plan_actors plan.program) (start_state b plan.script.batches)
    start_flat = record { mails = λ t k m e. absurd (none_not e); columns = first_column; hands = λ w g e. absurd (none_not e) }

    -- ---- and each that labels lead to

    module _ (segments : Segments) where
      stays : (labels : List Label) (s : TheState) → IsReached plan start labels s → IsFlat (plan_actors plan.program) s → AllStay (plan_actors plan.program) s
      stays labels s reached flat w g e st way =
          let may = (segments plan start labels s fits begins reached).may_run w g e in
          goes_down g.actor g.path may.0.0 g.body.fields (steps_of g.body.children) may.0.1 may.1 (λ deep. ap steps_of (flat.hands w g e deep)) st way

      flat_from : (ls labels : List Label) (v s : TheState) → IsReached plan start labels v → IsFlat (plan_actors plan.program) v → run (plan_actors plan.program) plan.workers v ls ≡ Some s → IsFlat (plan_actors plan.program) s
      unfolding run
      flat_from [] labels v s reached flat e = subst (IsFlat (plan_actors plan.program)) (some_same v s e) flat
      flat_from (l ∷ ls) labels v s reached flat e =
          let u = then_some (λ u. run (plan_actors plan.program) plan.workers u ls) (step (plan_actors plan.program) plan.workers v l) s e in
          flat_from ls (labels ++ l ∷ []) u.0 s (run_more (plan_actors plan.program) plan.workers labels (start_state b plan.script.batches) v u.0 l reached u.1)
          (step_kept (plan_actors plan.program) plan.workers v u.0 flat (stays labels v reached flat) l u.1) u.2

      first_reached : IsReached plan start [] (start_state b plan.script.batches)
      unfolding run
      first_reached = refl

      pub flat : (labels : List Label) (s : TheState) → IsReached plan start labels s → IsFlat (plan_actors plan.program) s
      flat labels s reached = flat_from labels [] (start_state b plan.script.batches) s first_reached start_flat reached

      -- a lease of what is in a hand may run
      pub may_run : (labels : List Label) (s : TheState) → IsReached plan start labels s → (w : ℕ) (g : TheHand) → s.hands w ≡ Some g → (lease : Lease) → leases.StandsFor plan.program lease g → MayRun plan.program lease.actor lease.body
      may_run labels s reached w g e lease is = by_actor lease.actor is.actor.same
        where
          by_actor : (a : Actor) → g.actor ≡ actor_of a → MayRun plan.program a lease.body
          by_actor (Service x) same =
              let may = (segments plan start labels s fits begins reached).may_run w g e in
              (g.path, may.0.0, subst (λ a. actors.IsFine plan.program plan.script.hosts a g.path may.0.0) same may.0.1, subst (λ (r : theory.Record Fields). HasFields plan.program.shape g.path r.fields) is.body may.1)
          by_actor (Moves x) same = tt
          by_actor (Walks x) same = λ deep.
              let may = (segments plan start labels s fits begins reached).may_run w g e in
              let fine = subst (λ a. actors.IsFine plan.program plan.script.hosts a g.path may.0.0) same may.0.1 in
              ap (λ (r : theory.Record Fields). r.children) (sym is.body) ∙ (flat labels s reached).hands w g e (subst (λ q. 8 ≤ length q) fine.at deep)

-- so may one that a label leased out
pub leased_may_run : (segments : Segments) (m : Kept) (start : Start) (s s' : TheState) (l : Label) → Stands m start s → step (plan_actors m.plan.program) m.plan.workers s l ≡ Some s' → (lease : Lease) → running.IsInHand m.plan.program lease (s'.hands l.worker) → MayRun m.plan.program lease.actor lease.body
leased_may_run segments m start s s' l stands taking lease is = by_hand (s'.hands l.worker) refl is
  where
    reached : IsReached m.plan start (stands.labels ++ l ∷ []) s'
    reached = run_more (plan_actors m.plan.program) m.plan.workers stands.labels (start_state (begin_in m.plan start) m.plan.script.batches) s s' l stands.reached taking

    by_hand : (o : Option TheHand) → s'.hands l.worker ≡ o → running.IsInHand m.plan.program lease o → MayRun m.plan.program lease.actor lease.body
    by_hand None e h = absurd h
    by_hand (Some g) e h = may_run m.plan stands.fits start stands.begins segments (stands.labels ++ l ∷ []) s' reached l.worker g e lease h

-- ---- the number of a child

go_is : (u v : Step) → ◌≡◌ {A = Pause EventResult} (Go u) (Go v) → v ≡ u
go_is u v e = cc

down_is : (u v : Step) → ◌≡◌ {A = Pause EventResult} (Down u) (Down v) → v ≡ u
down_is u v e = cc

go_not_down : (u v : Step) → ◌≡◌ {A = Pause EventResult} (Go u) (Down v) → ⊥
go_not_down u v e = cc

go_same : (st u : Step) → (◌≡◌ {A = Pause EventResult} (Go u) (Go st)) ⊎ (◌≡◌ {A = Pause EventResult} (Go u) (Down st)) → st ≡ u
go_same st u (inl e) = go_is u st e
go_same st u (inr e) = absurd (go_not_down u st e)

down_same : (st u : Step) → (◌≡◌ {A = Pause EventResult} (Down u) (Go st)) ⊎ (◌≡◌ {A = Pause EventResult} (Down u) (Down st)) → st ≡ u
down_same st u (inl e) = absurd (go_not_down st u (sym e))
down_same st u (inr e) = down_is u st e

not_back : (st : Step) → (◌≡◌ {A = Pause EventResult} Back (Go st)) ⊎ (◌≡◌ {A = Pause EventResult} Back (Down st)) → ⊥
not_back st (inl e) = cc
not_back st (inr e) = cc

not_over : (st : Step) (r : EventResult) → (◌≡◌ {A = Pause EventResult} (Over r) (Go st)) ⊎ (◌≡◌ {A = Pause EventResult} (Over r) (Down st)) → ⊥
not_over st r (inl e) = cc
not_over st r (inr e) = cc

module _ {A : Type 0} (p : Path) (host : ℕ) (d : Desk A Fields) (en : Entry Fields) (f : Fields) (cs : List (Step × Child)) (s : Step) (c : Child) (there : child_at cs s ≡ Some c) where
  -- the record that comes back has the child, whose number is as before or has risen
  pub record HasRisen (en' : Entry Fields) : Type 0 where
    pub body : theory.Record Fields
    pub body_is : en'.body ≡ Some body
    pub child : Child
    pub child_is : child_at body.children s ≡ Some child
    pub given : c.given ≤ child.given

  risen : (peek : Bool) (o : Option Hold) → HasRisen (into_child p host d en f cs s peek o).1
  risen peek (Some h) = record { body = record { fields = f; children = cs }; body_is = refl; child = c; child_is = there; given = omega arith }
  risen peek None =
      let k : Child = record { given = suc (child_or_new (child_at cs s) host).given; birth = (child_or_new (child_at cs s) host).birth } in
      let same : (child_or_new (child_at cs s) host).given ≡ c.given = ap (λ o. (child_or_new o host).given) there in
      record {
        body = record { fields = f; children = with_child cs s k };
        body_is = refl;
        child = k;
        child_is = child_put cs s s k ∙ ap (λ b. cond b (Some k) (child_at cs s)) (step_eq_equiv.refl s);
        given = omega (arith, same);
      }

module _ (laws : Laws) (segments : Segments) (m : Kept) (lease : Lease) (why : Halt) (start : Start) (s : TheState) (stands : Stands m start s) (back : IsBack m.plan.program s lease why) where
  -- what the Stop leaves where the actor goes into a child
  module _ (s' : TheState) (host : ℕ) (taking : step (plan_actors m.plan.program) m.plan.workers s (stop_of lease host) ≡ Some s') (st : Step) (c : Child) (there : child_at back.hand.body.children st ≡ Some c) where
    abbrev x : ThePart
    x = part_of s lease.ticket.0 lease.path

    child_left : (looks : Bool) (en : Entry Fields) (d : Desk actors.Actor Fields) (y : ThePart) (pause : Pause EventResult) → (pause ≡ Go st) ⊎ (pause ≡ Down st)
        → stopped_by (plan_actors m.plan.program).moved lease.path host x d en (record { fields = (segment_of (plan_actors m.plan.program) back.hand).fields; children = back.hand.body.children }) ((plan_actors m.plan.program).peeks (segment_of (plan_actors m.plan.program) back.hand).actor) pause looks ≡ Some y
        → (en' : Entry Fields) × (y.column.store host ≡ Some en') × HasRisen lease.path host d en (segment_of (plan_actors m.plan.program) back.hand).fields back.hand.body.children st c there en'
    child_left true en d y (Go u) way e = absurd (none_not e)
    child_left true en d y (Down u) way e = absurd (none_not e)
    child_left true en d y Back way e = absurd (not_back st way)
    child_left true en d y (Over r) way e = absurd (not_over st r way)
    child_left false en d y Back way e = absurd (not_back st way)
    child_left false en d y (Over r) way e = absurd (not_over st r way)
    child_left false en d y (Go u) way e =
        let f = (segment_of (plan_actors m.plan.program) back.hand).fields in
        let peek = (plan_actors m.plan.program).peeks (segment_of (plan_actors m.plan.program) back.hand).actor in
        let cs = back.hand.body.children in
        let same : st ≡ u = go_same st u way in
        let z = into_child lease.path host d en f cs u peek (hold_at d.event.held (lease.path ++ u ∷ [])) in (
          z.1,
          ap (λ (q : ThePart). q.column.store host) (sym (some_same _ y e)) ∙ at_host x.column host z.1,
          subst (λ v. HasRisen lease.path host d en f cs st c there (into_child lease.path host d en f cs v peek (hold_at d.event.held (lease.path ++ v ∷ []))).1) same (risen lease.path host d en f cs st c there peek (hold_at d.event.held (lease.path ++ st ∷ []))),
        )
    child_left false en d y (Down u) way e =
        let f = (segment_of (plan_actors m.plan.program) back.hand).fields in
        let cs = back.hand.body.children in
        let same : st ≡ u = down_same st u way in
        let z = into_child lease.path host d en f cs u false (hold_at d.event.held (lease.path ++ u ∷ [])) in (
          z.1,
          ap (λ (q : ThePart). q.column.store host) (sym (some_same _ y e)) ∙ at_host x.column host z.1,
          subst (λ v. HasRisen lease.path host d en f cs st c there (into_child lease.path host d en f cs v false (hold_at d.event.held (lease.path ++ v ∷ []))).1) same (risen lease.path host d en f cs st c there false (hold_at d.event.held (lease.path ++ st ∷ []))),
        )

    -- its number is that of a state that labels lead to
    number : ((segment_of (plan_actors m.plan.program) back.hand).pause ≡ Go st) ⊎ ((segment_of (plan_actors m.plan.program) back.hand).pause ≡ Down st) → c.given + 1 < 2 ^ 64
    number way =
        let sys = plan_actors m.plan.program in
        let l : Label = stop_of lease host in
        let kind = plan_kind m.plan.program m.plan.script.hosts in
        let b = begin_in m.plan start in
        let n = most_jobs m.plan.script.batches in
        let left = left_after sys m.plan.workers s s' l refl taking in
        let halted = stop_found sys host x left.bench lease.ticket.0 lease.path (s.hands lease.worker.0) back.hand back.there left.found in
        let v = stopping sys lease.ticket.0 lease.path host back.hand x left.bench.part halted.found in
        let seg = segment_of sys back.hand in
        let d : Desk actors.Actor Fields = desk_back (s.cells lease.ticket.0) v.event seg.actor in
        let looks = holds_as_peek v.event.held lease.path in
        let r = child_left looks v.entry d left.bench.part seg.pause way (sym (stopped_is sys lease.path host x d v.entry back.hand.body.children seg looks) ∙ v.gives) in
        let stored : (s'.columns lease.path).store host ≡ Some r.0 =
        ap (λ (z : TheState). (z.columns lease.path).store host) (sym left.gives) ∙ ap (λ (z : Column Fields). z.store host) (sym (set_here_path s.columns lease.path left.bench.part.column)) ∙ r.1 in
        let reached : IsReached m.plan start (stands.labels ++ l ∷ []) s' = run_more sys m.plan.workers stands.labels (start_state b m.plan.script.batches) s s' l stands.reached taking in
        let known = segments m.plan start (stands.labels ++ l ∷ []) s' stands.fits stands.begins reached in
        let given = (known.within n known.ends).given lease.path r.0 r.2.body st r.2.child (inl (host, stored)) r.2.body_is r.2.child_is in
        let small = (work_small kind b m.plan.script.batches n).0 in
        let lines = most_lines m.plan.script.batches in
        let few = stands.fits.script.few_lines in
        let risen = r.2.given in
        omega (arith, given, small, lines, few, risen)

  goes : (st : Step) → ((segment_of (plan_actors m.plan.program) back.hand).pause ≡ Go st) ⊎ ((segment_of (plan_actors m.plan.program) back.hand).pause ≡ Down st) → IsNear lease.path lease.body.children st
  goes st way = record {
    short = subst (λ q. length q < 8) back.run.path (stays m.plan stands.fits start stands.begins segments stands.labels s stands.reached (flat m.plan stands.fits start stands.begins segments stands.labels s stands.reached) lease.worker.0 back.hand back.there st way);
    few = λ c e. by_state c (ap (λ cs. child_at cs st) (sym back.run.acted.kept) ∙ e) (options (step (plan_actors m.plan.program) m.plan.workers s (stop_of lease (can laws segments m lease why start s stands back).host)));
  }
    where
      by_state : (c : Child) → child_at back.hand.body.children st ≡ Some c → (step (plan_actors m.plan.program) m.plan.workers s (stop_of lease (can laws segments m lease why start s stands back).host) ≡ None) ⊎ ((s' : TheState) × (step (plan_actors m.plan.program) m.plan.workers s (stop_of lease (can laws segments m lease why start s stands back).host) ≡ Some s')) → c.given + 1 < 2 ^ 64
      by_state c there (inl e) = absurd (clash false (sym (ap is_some e) ∙ enabled_here laws segments m lease why start s stands back) refl)
      by_state c there (inr e) = number e.0 (can laws segments m lease why start s stands back).host e.1 st c there way

  pub near : CanGoOn lease.path lease.body.children why
  near = by_pause why back.run.acted.pause
    where
      by_pause : (w : Halt) → pause_of w ≡ (segment_of (plan_actors m.plan.program) back.hand).pause → CanGoOn lease.path lease.body.children w
      by_pause (halt.Go st) e = goes st (inl (sym e))
      by_pause (halt.Down st) e = goes st (inr (sym e))
      by_pause halt.Back e = tt
      by_pause (halt.Over r) e = tt
