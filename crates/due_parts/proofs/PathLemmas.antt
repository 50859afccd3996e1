-- The contexts that a finished run names are those of the shape: each has an owner from then on, so it is in the last tree.
use Rattle.std.proofs.Common.{◌≡◌, ◌∙◌, inl, inr, ℕ, ◌+◌, true, false, List, [], ◌∷◌, ◌++◌, map, is_some, Some, refl, sym, ap, subst, All}
use Rattle.std.proofs.lemmas.List.Elements.{All-cons, All-nil, recursion_from_All}
use Rattle.wave_base.specs.declared.outcome.EventResult.{EventResult}
use Rattle.wave_base.specs.declared.path.Path.{Path}
use Rattle.wave_base.specs.declared.script.Line.{Line}
use Rattle.wave_base.specs.declared.script.Line.TheVariants.{Request, Move, Snapshot}
use Rattle.wave_base.specs.declared.start.Start.{Start}
use Rattle.wave_base.specs.Fold.{Progress, created_lines, first_progress}
use Rattle.wave_base.specs.Shapes.{is_path}
use Rattle.wave_base.specs.Starts.{start_tree}
use Rattle.wave_base.specs.Tree.{Tree, there}
use Rattle.resolved_service.specs.declared.service.Resolved.{Resolved}
use Rattle.script_fold.specs.Lines.{FitsJob, line_by}
use Rattle.script_fold.specs.Runs.{after_jobs}
use Rattle.script_fold.proofs.LeftLemmas.{All-drop_head}
use Rattle.script_fold.proofs.FoldLemmas.{IsGood, good_after}
use Rattle.wave_meaning.specs.Meaning.{call_ran}
use Rattle.code_runner.specs.Coded.{IsCode, IsJob, IsTree}
use Rattle.code_meaning.specs.inner.Owing.{code_owes}
use Rattle.code_actor.specs.CodeActors.{Fields}
use Rattle.wave_states.specs.Alone.{fold_alone}
use Rattle.wave_states.specs.Begins.{start_state}
use Rattle.wave_states.specs.Labels as theory
use Rattle.wave_states.specs.Labels.{Admit, Queue, Grant, Visit, Start as Begin, Stop, Free, Pass, Land, Commit, is_local, path_of}
use Rattle.wave_states.specs.Owners.{IsOwner}
use Rattle.wave_states.specs.Runs.{run}
use Rattle.wave_states.specs.Steps.{part_of, step}
use Rattle.wave_theory.specs.Complete.{IsComplete}
use Rattle.wave_theory.specs.Owners.{ByOwners, OneOwner}
use Rattle.wave_theory.specs.Trails.{Trails}
use Rattle.wave_theory.proofs.Basics.{clash, none_not, some_same, then_some}
use Rattle.wave_theory.proofs.Opened.{passes}
use Rattle.plan_actors.specs.Calls.{code_ran}
use Rattle.plan_actors.specs.PlanActors.{plan_actors, plan_kind}
use Rattle.plan_actors.specs.Plans.{Plan, Fits, FitsStart, begin_in}
use Rattle.plan_actors.proofs.Folding.{folds_alike}
use Rattle.plan_actors.proofs.Meeting.{folds_meet}
use Rattle.plan_actors.proofs.Order.{at_path}
use Rattle.code_meaning.proofs.Meaning.{calls_same}
use Rattle.journal_text.specs.Fits.{HasPath}
use Rattle.wave_labels.specs.declared.label.Act.{Act}
use Rattle.wave_labels.specs.declared.label.Act.TheVariants as act
use Rattle.wave_labels.specs.declared.label.Label.{Label}
use Rattle.wave_labels.specs.Labels.{act_of, label_of}
use Rattle.wave_effects.specs.Machines.{IsReached, TheState}
use Rattle.wave_effects.proofs.Opening.{left_by, pass_found}
use Rattle.wave_effects.proofs.Taking.{run_more}

module _ (plan : Plan) (service : Resolved) (code : IsCode service plan.program) (fits : Fits plan) (start : Start) (begins : FitsStart plan start) where
  -- ---- the trees of the fold are of the shape

  abbrev Good : Progress Fields EventResult Line → Type 0
  Good w = IsGood plan.program.shape (call_ran service) (IsTree plan.program.shape) (IsJob plan.program) (code_owes service plan.program code) start plan.script w

  good : (n : ℕ) → Good (after_jobs (call_ran service) plan.program.shape start plan.script n)
  good n = good_after plan.program.shape (call_ran service) (IsTree plan.program.shape) (IsJob plan.program) (code_owes service plan.program code) start plan.script fits.script begins n

  alike : (ticket : ℕ) (tree : Tree Fields) → IsTree plan.program.shape tree → (l : Line) → FitsJob (IsJob plan.program) l → line_by (code_ran plan.program) ticket tree l ≡ line_by (call_ran service) ticket tree l
  alike ticket tree is (Request call) job = calls_same service plan.program code tree call is job
  alike ticket tree is (Move p h) job = refl
  alike ticket tree is Snapshot job = refl

  same_fold : (n : ℕ) → after_jobs (code_ran plan.program) plan.program.shape start plan.script n ≡ after_jobs (call_ran service) plan.program.shape start plan.script n
  same_fold n = folds_alike start.next.0 start.next.0 refl (line_by (code_ran plan.program)) (line_by (call_ran service)) created_lines (first_progress (start_tree plan.program.shape start) plan.script.batches) Good good
      (λ w l g e. alike (start.next.0 + w.head.done) w.tree g.tree l (All-drop_head (FitsJob (IsJob plan.program)) w.head.known w.head.done l e g.known)) n

  in_tree : (n : ℕ) (p : Path) → there (fold_alone (plan_actors plan.program) (begin_in plan start) plan.script.batches n).tree p ≡ true → is_path plan.program.shape p ≡ true
  in_tree n p e =
      let same = folds_meet plan fits start begins n ∙ same_fold n in
      let tree = (after_jobs (call_ran service) plan.program.shape start plan.script n).tree in
      at_path (λ q. is_path plan.program.shape q ≡ true) tree.paths (recursion_from_All (λ q. is_path plan.program.shape q ≡ true) tree.paths (good n).tree.0.paths) p
      (subst (λ (w : Progress Fields EventResult Line). there w.tree p ≡ true) same e)

  -- ---- what is known of each state that labels lead to

  pub record Owned (s : TheState) : Type 0 where
    pub one : OneOwner (plan_kind plan.program plan.script.hosts) plan.workers (begin_in plan start) plan.script.batches s
    pub takes : ByOwners (plan_kind plan.program plan.script.hosts) plan.workers (begin_in plan start) plan.script.batches s
    pub trails : Trails (plan_kind plan.program plan.script.hosts) (begin_in plan start) plan.script.batches s

  module _ (owned : (labels : List theory.Label) (s : TheState) → IsReached plan start labels s → Owned s) (last : TheState) (complete : IsComplete (plan_kind plan.program plan.script.hosts) (begin_in plan start) plan.script.batches last) where
    at_end : (p : Path) (h : ℕ) → IsOwner last p h → is_path plan.program.shape p ≡ true
    at_end p h (inl stored) = in_tree last.head.done p (complete.no_others p h stored)
    at_end p h (inr coming) = absurd (none_not (sym (complete.no_mails coming.ticket coming.number) ∙ coming.mail))

    -- a context that has an owner has one at the end
    stays : (ls labels : List theory.Label) (s : TheState) → IsReached plan start labels s → run (plan_actors plan.program) plan.workers s ls ≡ Some last → (p : Path) (h : ℕ) → IsOwner s p h → is_path plan.program.shape p ≡ true
    unfolding run
    stays [] labels s reached e p h o = at_end p h (subst (λ (v : TheState). IsOwner v p h) (some_same s last e) o)
    stays (l ∷ ls) labels s reached e p h o =
        let u = then_some (λ v. run (plan_actors plan.program) plan.workers v ls) (step (plan_actors plan.program) plan.workers s l) last e in
        let more = (owned labels s reached).one.stays l u.0 p h u.1 o in
        stays ls (labels ++ l ∷ []) u.0 (run_more (plan_actors plan.program) plan.workers labels (start_state (begin_in plan start) plan.script.batches) s u.0 l reached u.1) u.2 p more.0 more.1

    -- one to which a mark leads has an owner
    marked : (s : TheState) (p : Path) (h : ℕ) → Owned s → is_some ((s.columns p).gone h) ≡ true → (host : ℕ) × IsOwner s p host
    marked s p h k e = elim (k.trails p) [
      | inl unborn ↦ absurd (clash false (sym (ap is_some (unborn.no_mark h)) ∙ e) refl)
      | inr trail ↦ (trail.0.at trail.0.last, trail.1.owned)
    ]

    abbrev Names : theory.Act → Type 0
    Names a = is_local a ≡ true → is_path plan.program.shape (path_of a) ≡ true

    module _ (ls labels : List theory.Label) (s u : TheState) (w host : ℕ) (reached : IsReached plan start labels s) where
      -- the context of a label has an owner before it, or after it
      named : (a : theory.Act) → step (plan_actors plan.program) plan.workers s (record { worker = w; host = host; act = a }) ≡ Some u
          → run (plan_actors plan.program) plan.workers u ls ≡ Some last → run (plan_actors plan.program) plan.workers s (record { worker = w; host = host; act = a } ∷ ls) ≡ Some last → Names a
      named a taken rest whole = by_act a taken whole
        where
          after : (b : theory.Act) → step (plan_actors plan.program) plan.workers s (record { worker = w; host = host; act = b }) ≡ Some u → (p : Path) → IsOwner u p host → is_path plan.program.shape p ≡ true
          after b e p o = stays ls (labels ++ record { worker = w; host = host; act = b } ∷ []) u (run_more (plan_actors plan.program) plan.workers labels (start_state (begin_in plan start) plan.script.batches) s u (record { worker = w; host = host; act = b }) reached e) rest p host o

          by_act : (b : theory.Act) → step (plan_actors plan.program) plan.workers s (record { worker = w; host = host; act = b }) ≡ Some u → run (plan_actors plan.program) plan.workers s (record { worker = w; host = host; act = b } ∷ ls) ≡ Some last → Names b
          by_act (Admit t) e z = λ local. absurd (clash false local refl)
          by_act (Commit t) e z = λ local. absurd (clash false local refl)
          by_act (Queue t k p) e z = λ local. after (Queue t k p) e p ((owned labels s reached).takes (record { worker = w; host = host; act = Queue t k p }) u e)
          by_act (Grant t p) e z = λ local. after (Grant t p) e p ((owned labels s reached).takes (record { worker = w; host = host; act = Grant t p }) u e)
          by_act (Visit t k p) e z = λ local. after (Visit t k p) e p ((owned labels s reached).takes (record { worker = w; host = host; act = Visit t k p }) u e)
          by_act (Begin t p) e z = λ local. after (Begin t p) e p ((owned labels s reached).takes (record { worker = w; host = host; act = Begin t p }) u e)
          by_act (Free t k p) e z = λ local. after (Free t k p) e p ((owned labels s reached).takes (record { worker = w; host = host; act = Free t k p }) u e)
          by_act (Land t k p) e z = λ local. after (Land t k p) e p ((owned labels s reached).takes (record { worker = w; host = host; act = Land t k p }) u e)
          by_act (Stop t p) e z = λ local. stays (record { worker = w; host = host; act = Stop t p } ∷ ls) labels s reached z p host ((owned labels s reached).takes (record { worker = w; host = host; act = Stop t p }) u e).0
          by_act (Pass t k p g) e z = λ local.
              let sys = plan_actors plan.program in
              let left = left_by sys plan.workers s u (record { worker = w; host = host; act = Pass t k p g }) refl e in
              let found = pass_found sys host (part_of s t p) left.bench t k p g (s.hands w) left.found in
              let o = marked s p host (owned labels s reached) (ap is_some (passes k g p host (part_of s t p) left.bench.part found.part).mark_is) in
              stays (record { worker = w; host = host; act = Pass t k p g } ∷ ls) labels s reached z p o.0 o.1

    path_has : (a : Act) → Names (act_of a) → HasPath plan.program.shape a
    path_has (act.Admit t) e = tt
    path_has (act.Queue m p) e = e refl
    path_has (act.Grant t p) e = e refl
    path_has (act.Visit m p) e = e refl
    path_has (act.Start t p) e = e refl
    path_has (act.Stop t p) e = e refl
    path_has (act.Free m p) e = e refl
    path_has (act.Pass m p g) e = e refl
    path_has (act.Land m p) e = e refl
    path_has (act.Commit t) e = tt

    from_on : (journal : List Label) (labels : List theory.Label) (s : TheState) → IsReached plan start labels s → run (plan_actors plan.program) plan.workers s (map label_of journal) ≡ Some last → All (λ (l : Label). HasPath plan.program.shape l.act) journal
    unfolding run
    from_on [] labels s reached e = All-nil (λ (l : Label). HasPath plan.program.shape l.act)
    from_on (l ∷ ls) labels s reached e =
        let u = then_some (λ v. run (plan_actors plan.program) plan.workers v (map label_of ls)) (step (plan_actors plan.program) plan.workers s (label_of l)) last e in
        All-cons (λ (x : Label). HasPath plan.program.shape x.act) l ls
        (path_has l.act (named (map label_of ls) labels s u.0 l.worker.0 l.host.0 reached (act_of l.act) u.1 u.2 e))
        (from_on ls (labels ++ label_of l ∷ []) u.0 (run_more (plan_actors plan.program) plan.workers labels (start_state (begin_in plan start) plan.script.batches) s u.0 (label_of l) reached u.1) u.2)

    first_reached : IsReached plan start [] (start_state (begin_in plan start) plan.script.batches)
    unfolding run
    first_reached = refl

    -- each context that a run to a complete state names is one of the shape
    pub all_named : (journal : List Label) → IsReached plan start (map label_of journal) last → All (λ (l : Label). HasPath plan.program.shape l.act) journal
    all_named journal reached = from_on journal [] (start_state (begin_in plan start) plan.script.batches) first_reached reached
