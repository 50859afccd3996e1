-- Nothing that is to be done waits for ever.
use Rattle.wave_base.specs.PathLaws.{step_eq_ties}
use Rattle.wave_base.proofs.Trees.{there-enter}
use Rattle.wave_base.specs.declared.children.Child.{Child}
use Rattle.wave_base.specs.Kids.{child_at}
use Rattle.wave_base.specs.Tree.{Tree, there, enter, children_of}
use Rattle.wave_theory.proofs.Paths.{snoc, or_right}
use Rattle.wave_theory.proofs.Maps.{any_child}
use Rattle.wave_theory.proofs.Ranks.{rank_found, rank_pos, rank_up_to}
use Rattle.wave_states.specs.Runs.{Finished}
use Rattle.std.proofs.Common.{◌≡◌, ℕ, zero, suc, ◌+◌, ◌<◌, ◌≤◌, ◌⊎◌, ◌||◌, inl, inr, Bool, true, false, Option, Some, None, List, [], ◌∷◌, ◌++◌, length, refl, sym, ◌∙◌, ap, subst, arith, is_some, ap₂}
use Rattle.std.specs.Prelude.{cond, slice_get}
use Rattle.std.specs.List.{list_any}
use Rattle.wave_base.specs.declared.path.Step.{Step}
use Rattle.wave_base.specs.declared.path.Path.{Path}
use Rattle.wave_base.specs.Paths.{path_eq, step_eq}
use Rattle.wave_states.specs.Actors.{Pause, Go, Down, Over}
use Rattle.wave_states.specs.States.{State, Cell, Claim, Entry, Record, Mail, steps_of, Letter, Enter, Visit, Back, Release, Transfer}
use Rattle.wave_theory.proofs.Basics.{clash, none_not, options, bool_cases, number_self}
use Rattle.wave_theory.proofs.Order.{Way, IsWay, rank, Entering, Lined, Done, is_pending}
use Rattle.wave_theory.proofs.Leaves.{Course}
use Rattle.wave_theory.proofs.Tracks.{owner}
use Rattle.wave_theory.proofs.Found.{found}
use Rattle.wave_theory.proofs.Frames.{option_some}
use Rattle.wave_theory.proofs.Shows
use Rattle.std.specs.Prelude.{All}
use Rattle.wave_base.specs.Fold.{Head, Progress, next_job, with_job}
use Rattle.wave_states.specs.Begins.{Begin}
use Rattle.wave_states.specs.Kinds.{Kind}
use Rattle.wave_states.specs.Owes.{Owes, IsBegin}
use Rattle.wave_states.specs.Owners.{IsOwner}
use Rattle.wave_states.specs.Alone.{places_alone, fold_alone, job_after, run_alone, Alone, into, tree_with, has, next_alone, segment_alone, segment_if, after_segments}
use Rattle.wave_theory.proofs.Courses.{View, view, view_real, done_at, entered_after, leaf_first, view_later, done_or_over}
use Rattle.wave_theory.proofs.Courses
use Rattle.wave_theory.proofs.Folds
use Rattle.wave_theory.proofs.GoodStates.{Heads, Good_state, ResultIs, result_of}
use Rattle.wave_theory.proofs.GoodStates
use Rattle.wave_theory.specs.Complete.{IsComplete}
use Rattle.std.proofs.Common.{nat_lt}
use Rattle.std.proofs.lemmas.Bool.Decides.{nat_tests}
use Rattle.wave_base.specs.Fold.{next_job}
use Rattle.wave_theory.proofs.Order.{Stage, Coming, There}
use Rattle.wave_theory.specs.NeverStuck.{CanTake, NeverStuck}
use Rattle.wave_theory.proofs.Able
use Rattle.wave_theory.proofs.Stuck
use Rattle.wave_theory.proofs.Told
use Rattle.wave_theory.proofs.Stages.{coming_done, entering_done, lined_done, there_done}

pub less_is : (a c : ℕ) → a < c → nat_lt a c ≡ true
less_is a c l = grind (arith, nat_tests)

module _ {A F R J : Type 0} (kind : Kind A F R J) (owes : Owes kind) (b : Begin F) (batches : List (List J)) (begins : IsBegin kind b) (jobs : All (All kind.is_job) batches) where
  abbrev w : Way
  w = Courses.w kind owes b batches begins jobs

  abbrev course : Course kind.system
  course = Courses.course kind owes b batches begins jobs

  abbrev Is_real : ℕ → Type 0
  Is_real = Courses.Real kind owes b batches begins jobs

  law : IsWay w
  law = Courses.law kind owes b batches begins jobs

  abbrev at : ℕ → Progress F R J
  at n = fold_alone kind.system b batches n

  pub done_below : (n : ℕ) → (at n).head.done ≤ n
  done_below zero = subst (λ i. i ≤ 0) (sym (Folds.zero_done kind.system b batches)) (omega arith)
  done_below (suc n) = by (next_job (at n).head) refl (done_below n)
    where
      by : (o : Option J) → next_job (at n).head ≡ o → (at n).head.done ≤ n → (with_job (suc b.before) (run_alone kind.system) kind.system.created (at n) o).head.done ≤ suc n
      by None e l = omega arith
      by (Some j) e l = subst (λ i. i ≤ suc n) (sym (Folds.with_done_done (at n).head _)) (omega arith)

  -- a context that is there stays there
  keeps_enter : (v : Tree F) (p q : Path) → there v p ≡ true → there (enter v q) p ≡ true
  keeps_enter v p q e = there-enter v q p ∙ or_right (path_eq p q) (there v p) e

  keeps_step : (y : Alone A F R) (p : Path) → there y.tree p ≡ true → there (next_alone kind.system y).tree p ≡ true
  keeps_step y p e = by y.result
    where
      into_it : (st : Step) (peek : Bool) (kept : List Path) (i : Bool) → there (into y (segment_alone kind.system y).actor (segment_alone kind.system y).fields (y.at ++ st ∷ []) peek kept i).tree p ≡ true
      into_it st peek kept true = e
      into_it st peek kept false = keeps_enter (tree_with y (segment_alone kind.system y).fields) p (y.at ++ st ∷ []) e

      by_pause : (u : Pause R) → there (Rattle.wave_states.specs.Alone.goes_on kind.system y (segment_alone kind.system y).actor (segment_alone kind.system y).fields u).tree p ≡ true
      by_pause (Go st) = into_it st (kind.system.peeks (segment_alone kind.system y).actor) _ (has y.held (y.at ++ st ∷ []))
      by_pause (Down st) = into_it st false y.held (has y.held (y.at ++ st ∷ []))
      by_pause Pause.Back = e
      by_pause (Over r) = e

      by : (o : Option R) → there (segment_if kind.system y o).tree p ≡ true
      by (Some r) = e
      by None = by_pause (segment_alone kind.system y).pause

  keeps_segments : (n : ℕ) (y : Alone A F R) (p : Path) → there y.tree p ≡ true → there (after_segments kind.system n y).tree p ≡ true
  unfolding after_segments
  keeps_segments zero y p e = e
  keeps_segments (suc n) y p e = keeps_step (after_segments kind.system n y) p (keeps_segments n y p e)

  root_there : (n : ℕ) → there (at n).tree [] ≡ true
  root_there zero = begins.root
  root_there (suc n) = by (next_job (at n).head) (root_there n)
    where
      by : (o : Option J) → there (at n).tree [] ≡ true → there (with_job (suc b.before) (run_alone kind.system) kind.system.created (at n) o).tree [] ≡ true
      by None r = r
      by (Some j) r = keeps_segments _ _ [] (keeps_enter (at n).tree [] [] r)

  -- once there is no next job there is none
  pub over_stays : (d i : ℕ) → next_job (at d).head ≡ None → at (i + d) ≡ at d
  over_stays d zero e = ap at (let z : 0 + d ≡ d = omega arith in z)
  over_stays d (suc i) e = ap at (let z : suc i + d ≡ suc (i + d) = omega arith in z) ∙ Folds.stays kind.system b batches (i + d) (ap (λ (v : Progress F R J). next_job v.head) (over_stays d i e) ∙ e) ∙ over_stays d i e

  over_below : (d n : ℕ) → next_job (at d).head ≡ None → (at n).head.done ≤ d
  over_below d n e = elim (split n d) [
    | inl l ↦ (let z = done_below n in omega (arith, l))
    | inr i ↦ (let z = done_below d in subst (λ m. (at m).head.done ≤ d) (sym i.1) (subst (λ (v : Progress F R J). v.head.done ≤ d) (sym (over_stays d i.0 e)) z))
  ]
    where
      split : (n d : ℕ) → (n ≤ d) ⊎ ((i : ℕ) × (n ≡ i + d))
      split zero d = inl (omega arith)
      split (suc n) d = elim (split n d) [
        | inr i ↦ inr (suc i.0, omega (arith, i.1))
        | inl l ↦ elim (at_or_less n d l) [ inl k ↦ inl k | inr k ↦ inr (1, omega (arith, k)) ]
      ]
        where
          at_or_less : (n d : ℕ) → n ≤ d → (suc n ≤ d) ⊎ (n ≡ d)
          at_or_less n d l = grind arith

  module _ (s : State A F R J) (k : Good_state kind owes b batches begins jobs s) where
    x : Shows.Shows kind.system w course b.before Is_real s k.ghost
    x = k.shows

    pub stage_cases : (u : Stage) → (u ≡ Done) ⊎ (u ≡ Done → ⊥)
    stage_cases Done = inl refl
    stage_cases Entering = inr entering_done
    stage_cases Lined = inr lined_done
    stage_cases Coming = inr coming_done
    stage_cases There = inr there_done

    -- a committed ticket has ended
    pub committed_done : (i : ℕ) → i < s.head.done → (k.ghost).lines.stage (suc b.before + i) ≡ Done
    committed_done i l = elim (stage_cases ((k.ghost).lines.stage (suc b.before + i))) [
      | inl e ↦ e
      | inr n ↦ (let r = option_some (s.cells (suc b.before + i)).result ((k.heads).over i l) in
          let y = result_of kind owes b batches begins jobs s k.ghost x k.heads (suc b.before + i) r.0 r.1 in
          absurd (past ((k.ghost).lines.pos (suc b.before + i)) (w.last (suc b.before + i)) (x.good.going (suc b.before + i) y.admitted n) y.ended))
    ]
      where
        past : (a c : ℕ) → a ≤ c → a ≡ suc c → ⊥
        past a c l e = omega arith

    pub earlier_done : (t : ℕ) → t ≤ b.before + s.head.done → (k.ghost).lines.stage t ≡ Done
    earlier_done t l = elim (old_or_new b.before t s.head.done l) [
      | inl o ↦ (x.idle t (λ a m. absurd (apart b.before t a o))).0
      | inr i ↦ subst (λ u. (k.ghost).lines.stage u ≡ Done) (sym i.2) (committed_done i.0 i.1)
    ]
      where
        apart : (a c : ℕ) → a < c → c ≤ a → ⊥
        apart a c l m = omega arith

        old_or_new : (a t d : ℕ) → t ≤ a + d → (t ≤ a) ⊎ ((i : ℕ) × (i < d) × (t ≡ suc a + i))
        old_or_new a zero d l = inl (omega arith)
        old_or_new zero (suc t) d l = inr (t, omega arith, omega arith)
        old_or_new (suc a) (suc t) d l = elim (old_or_new a t d (omega arith)) [ inl o ↦ inl (omega arith) | inr i ↦ inr (i.0, i.1, omega (arith, i.2)) ]

    pub never_stuck : (workers : ℕ) → NeverStuck kind workers b batches s
    never_stuck workers v n less idle more = elim (at_or_less s.head.done s.admitted (k.heads).few) [
      | inr e ↦ (suc (b.before + s.head.done), omega arith, inl (Able.take_admit kind.system workers s v (less_is v workers less) idle (suc (b.before + s.head.done)) job.0 (ap (slice_get s.head.known) (sym e) ∙ job.1) (ap₂ (λ i j. suc (i + j)) (sym x.before) e)))
      | inl l ↦ (let r = Stuck.goes_on kind.system w law course b.before Is_real (Courses.courses kind owes b batches begins jobs) s k.ghost x k.alive workers v (less_is v workers less) idle
          (suc (b.before + s.head.done)) (omega arith) (omega (arith, l, x.admitted)) (λ c m. earlier_done c (omega (arith, m))) (ap (λ i. suc (i + s.head.done)) (sym x.before)) in (r.0, r.1, r.2))
    ]
      where
        at_or_less : (a c : ℕ) → a ≤ c → (a < c) ⊎ (a ≡ c)
        at_or_less a c l = grind arith

        job : (j : J) × (slice_get s.head.known s.head.done ≡ Some j)
        job = elim (options (next_job s.head)) [
          | inr j ↦ (j.0, j.1)
          | inl e ↦ (let z = over_below s.head.done n (ap next_job (sym (k.heads).head_is) ∙ e) in absurd (past s.head.done (at n).head.done more z))
        ]
          where
            past : (a c : ℕ) → a < c → c ≤ a → ⊥
            past a c l m = omega arith

    -- a finished state
    module _ (workers : ℕ) (some_worker : 0 < workers) (fin : Finished kind.system workers s) where
      abbrev g : Shows.Ghost F
      g = k.ghost

      nothing : (t : ℕ) → CanTake kind.system workers s 0 t → ⊥
      nothing t c = clash _ c.enabled (ap is_some (fin.none (record { worker = 0; host = c.host; act = c.act })))

      pub all_committed : (n : ℕ) → (at n).head.done ≤ s.head.done
      all_committed n = elim (below_or s.head.done (at n).head.done) [
        | inr l ↦ l
        | inl l ↦ (let r = never_stuck workers 0 n some_worker (fin.idle 0) l in absurd (elim r.2 [ inl c ↦ nothing r.0 c | inr o ↦ none_not (sym (fin.idle o.worker) ∙ o.there) ]))
      ]
        where
          below_or : (a c : ℕ) → (a < c) ⊎ (c ≤ a)
          below_or a c = grind arith

      -- all that was admitted is committed
      pub all_done : (t : ℕ) → b.before < t → t ≤ (g).lines.admitted → t ≤ b.before + s.head.done
      all_done t l m = (let r : Courses.Real kind owes b batches begins jobs t = (x.cells t l m).real in
          let d : (at (suc r.index)).head.done ≡ suc r.index = ap (λ (v : Progress F R J). v.head.done) (Told.goes_on kind owes b batches begins jobs r.index r.job r.job_is) ∙ Folds.with_done_done (at r.index).head _ ∙ ap suc (done_at kind owes b batches begins jobs r.index r.job r.job_is) in
          let z : (at (suc r.index)).head.done ≤ s.head.done = all_committed (suc r.index) in
          few_index t r.index r.ticket_is (subst (λ i. i ≤ s.head.done) d z))
        where
          few_index : (t i : ℕ) → t ≡ suc b.before + i → suc i ≤ s.head.done → t ≤ b.before + s.head.done
          few_index t i e l = omega (arith, e)

      pub stage_done : (t : ℕ) → t ≤ (g).lines.admitted → (g).lines.stage t ≡ Done
      stage_done t m = elim (below_or b.before t) [
        | inl l ↦ earlier_done t (all_done t l m)
        | inr l ↦ earlier_done t (omega (arith, l))
      ]
        where
          below_or : (a c : ℕ) → (a < c) ⊎ (c ≤ a)
          below_or a c = grind arith

      -- nobody holds a context
      pub unheld : (p : Path) (t : ℕ) → (g).lines.holds p t ≡ true → ⊥
      unheld p t h = nothing t (Stuck.parting_can kind.system w law course b.before Is_real (Courses.courses kind owes b batches begins jobs) s k.ghost x k.alive workers 0 (less_is 0 workers some_worker) (fin.idle 0) t p h
          (ap (λ i. w.held t i p) (x.good.ended t known (stage_done t known)) ∙ law.none t p))
        where
          known : t ≤ (g).lines.admitted
          known = (x.good.let_in t p h).known

      no_mail : (t i : ℕ) (m : Mail F) → (s.cells t).mails i ≡ Some m → ⊥
      no_mail t i m e = by m.letter ((x.cells t n.0 n.1).mails i m e)
        where
          n : (b.before < t) × (t ≤ (g).lines.admitted)
          n = GoodStates.known kind owes b batches begins jobs s k.ghost x t (λ q. none_not (sym (ap (λ (u : Cell A F R). u.mails i) q) ∙ e))

          by : (l : Letter F) → Shows.MailShows kind.system w course b.before Is_real k.ghost t i m.host m.path l → ⊥
          by (Enter a) y = entering_done (sym y.stage ∙ stage_done t n.1)
          by Visit y = coming_done (sym y.stage ∙ stage_done t n.1)
          by Back y = coming_done (sym y.stage ∙ stage_done t n.1)
          by Release y = unheld m.path t y.0.holds
          by (Transfer en) y = unheld m.path t y.0.holds

      -- as many are served as came
      pub all_served : (p : Path) → rank w p (g).lines.admitted ≡ (g).lines.served p
      all_served p = same _ _ ((k.alive).few p) (λ l. (let f = rank_found w p (g).lines.admitted l in
          subst (λ i. i ≤ (g).lines.served p) f.same ((x.good.grants f.ticket p f.first f.comes).0 (record {
            known = f.last;
            entered = ap (λ i. w.entered f.ticket i p) (x.good.ended f.ticket f.last (stage_done f.ticket f.last)) ∙ f.comes;
            past = λ u. absurd (clash _ u (ap is_pending (stage_done f.ticket f.last)));
          }))))
        where
          same : (r n : ℕ) → n ≤ r → (0 < r → r ≤ n) → r ≡ n
          same r n l h = grind arith

      pub done_is : s.head.done ≡ (at s.head.done).head.done
      done_is = ap (λ (u : Head J). u.done) (k.heads).head_is

      pub admitted_is : (g).lines.admitted ≡ b.before + s.head.done
      admitted_is = elim (above_or s.admitted) [
        | inl e ↦ (let z = (k.heads).few in omega (arith, x.admitted, e, z))
        | inr l ↦ (let z = all_done (g).lines.admitted (omega (arith, x.admitted, l)) (omega arith) in let y = (k.heads).few in omega (arith, x.admitted, z, y))
      ]
        where
          above_or : (a : ℕ) → (a ≡ 0) ⊎ (0 < a)
          above_or a = grind arith

      -- the records are those of the last tree
      like : (p : Path) → Shows.Like kind.system w course b.before Is_real ((g).body p) (Courses.leaf_of (at s.head.done).tree p)
      like p = subst (Shows.Like kind.system w course b.before Is_real ((g).body p)) leaf (x.kept.calm p (b.before + s.head.done) (λ t h. absurd (unheld p t h)) (ap (rank w p) (sym admitted_is) ∙ all_served p) (omega arith))
        where
          leaf : course.leaf (suc (b.before + s.head.done)) 0 p ≡ Courses.leaf_of (at s.head.done).tree p
          leaf = ap (λ t. course.leaf t 0 p) (let z : suc (b.before + s.head.done) ≡ suc b.before + s.head.done = omega arith in z) ∙ ap (λ (v : View A F R). v.leaf 0 p) (view_later kind owes b batches begins jobs s.head.done)
              ∙ leaf_first kind owes b batches begins jobs s.head.done (job_after kind.system b batches s.head.done) p

      child_cons : (c : Step × Child) (cs : List (Step × Child)) (st : Step) → child_at (c ∷ cs) st ≡ cond (step_eq st c.0) (Some c.1) (child_at cs st)
      child_cons c cs st = ap (λ i. cond i (Some c.1) (child_at cs st)) (sym (step_eq_ties st c.0))

      kid_of : (cs : List (Step × Child)) (st : Step) → is_some (child_at cs st) ≡ list_any (step_eq st) (steps_of cs)
      kid_of [] st = refl
      kid_of (c ∷ cs) st = ap is_some (child_cons c cs st) ∙ choose (step_eq st c.0) (child_at cs st) ∙ ap (λ i. step_eq st c.0 || i) (kid_of cs st)
        where
          choose : (i : Bool) (o : Option Child) → is_some (cond i (Some c.1) o) ≡ (i || is_some o)
          choose true o = refl
          choose false o = refl

      kid_there : (q : Path) (st : Step) → is_some (child_at ((g).body q).children st) ≡ there (at s.head.done).tree (q ++ st ∷ [])
      kid_there q st = kid_of ((g).body q).children st ∙ ap (λ us. list_any (step_eq st) us) (like q).steps ∙ sym (any_child q st (at s.head.done).tree.paths)

      -- what has an entry is there
      pub born_there : (p : Path) → (g).born p ≡ there (at s.head.done).tree p
      born_there p = elim (root_or p) [
        | inl e ↦ subst (λ r. (g).born r ≡ there (at s.head.done).tree r) e (x.root ∙ sym (root_there s.head.done))
        | inr e ↦ subst (λ r. (g).born r ≡ there (at s.head.done).tree r) (sym e.2) (child e.0 e.1)
      ]
        where
          root_or : (p : Path) → ([] ≡ p) ⊎ ((q : Path) × (st : Step) × (p ≡ q ++ st ∷ []))
          root_or [] = inl refl
          root_or (u ∷ p) = inr (snoc (u ∷ p) (length p) refl)

          child : (q : Path) (st : Step) → (g).born (q ++ st ∷ []) ≡ there (at s.head.done).tree (q ++ st ∷ [])
          child q st = elim (options (child_at ((g).body q).children st)) [
            | inl n ↦ (x.entries q).strangers st n ∙ ap is_some (sym n) ∙ kid_there q st
            | inr c ↦ born c ∙ ap is_some (sym c.1) ∙ kid_there q st
          ]
            where
              born : (c : Child) × (child_at ((g).body q).children st ≡ Some c) → (g).born (q ++ st ∷ []) ≡ true
              born c = elim ((k.alive).kids q st c.0 c.1) [
                | inl e ↦ e
                | inr m ↦ elim (bool_cases ((g).born (q ++ st ∷ []))) [
                  | inl e ↦ e
                  | inr e ↦ absurd (none_served (rank_pos w (q ++ st ∷ []) m.ticket m.first m.comes) (rank_up_to w (q ++ st ∷ []) m.ticket (g).lines.admitted m.known)
                      (all_served (q ++ st ∷ []) ∙ sym (x.entries (q ++ st ∷ [])).served ∙ ap (λ (u : Entry F). u.served) ((x.entries (q ++ st ∷ [])).unborn e)))
                ]
              ]
                where
                  none_served : {r n : ℕ} → 0 < r → r ≤ n → n ≡ 0 → ⊥
                  none_served l m e = omega (arith, l, m, e)

      pub no_mails_left : (t i : ℕ) → (s.cells t).mails i ≡ None
      no_mails_left t i = elim (options ((s.cells t).mails i)) [ inl e ↦ e | inr m ↦ absurd (no_mail t i m.0 m.1) ]

      pub complete : ((p : Path) (host : ℕ) → IsOwner s p host → host ≡ (places_alone kind.system b batches s.head.done).fields p) → IsComplete kind b batches s
      complete places = record {
        committed = all_committed;
        places = places;
        no_mails = no_mails_left;
        no_holders = λ p h en e. empty_of (found kind.system w course b.before Is_real k.ghost p (s.columns p) h en (x.columns p) e).entry_is en.holders refl;
        no_waits = λ p h en j e. elim (options (en.waiting j)) [
          | inl n ↦ n
          | inr c ↦ (let f = found kind.system w course b.before Is_real k.ghost p (s.columns p) h en (x.columns p) e in let y = (x.entries p).waits j c.0 (ap (λ (u : Entry F). u.waiting j) (sym f.entry_is) ∙ c.1) in
              absurd (lined_done (sym y.stage ∙ stage_done (c.0).ticket y.known)))
        ];
        contexts = λ p e. context p (born_there p ∙ e);
        no_others = λ p h e. let o = option_some ((s.columns p).store h) e in sym (born_there p) ∙ (found kind.system w course b.before Is_real k.ghost p (s.columns p) h o.0 (x.columns p) o.1).born;
      }
        where
          empty_of : {p : Path} {en : Entry F} → en ≡ (g).entry p → (hs : List Claim) → en.holders ≡ hs → en.holders ≡ []
          empty_of f [] e = e
          empty_of {p} {en} f (c ∷ hs) e = absurd (unheld p c.ticket (sym ((x.entries p).holders c.ticket) ∙ ap (λ (u : Entry F). Shows.holds_claim u.holders c.ticket) (sym f) ∙ ap (λ u. Shows.holds_claim u c.ticket) e ∙ ap (λ i. i || Shows.holds_claim hs c.ticket) (number_self c.ticket)))

          context : (p : Path) → (g).born p ≡ true → (host : ℕ) × (en : Entry F) × (r : Record F) × ((s.columns p).store host ≡ Some en) × (en.body ≡ Some r) × (r.fields ≡ (at s.head.done).tree.fields p) × (steps_of r.children ≡ children_of (at s.head.done).tree p)
          context p u = elim (bool_cases ((g).trail p).stored) [
            | inr n ↦ (let aw = (k.alive).away p u n in absurd (unheld p aw.ticket aw.holds))
            | inl st ↦ elim (options ((g).entry p).body) [
              | inl n ↦ (let aw = (x.entries p).away n in absurd (unheld p aw.ticket aw.holds))
              | inr r ↦ (owner ((g).trail p), (g).entry p, r.0, (stays p u).there st, r.1, ap (λ (y : Record F). y.fields) ((x.entries p).body r.0 r.1) ∙ (like p).fields, ap (λ (y : Record F). steps_of y.children) ((x.entries p).body r.0 r.1) ∙ (like p).steps)
            ]
          ]
            where
              stays : (p : Path) → (g).born p ≡ true → Shows.Stays kind.system w course b.before Is_real k.ghost p (s.columns p)
              stays p e = subst (λ i. Shows.ColumnShows kind.system w course b.before Is_real i k.ghost p (s.columns p)) e (x.columns p)
