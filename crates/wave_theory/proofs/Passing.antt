-- How often an Enter can still be passed on, and what a label of its own ticket leaves of that.
use Rattle.std.proofs.Common.{◌≡◌, ℕ, suc, ◌+◌, ◌<◌, ◌≤◌, ◌⊎◌, ◌==◌, ◌&&◌, nat_eq, nat_lt, inl, inr, Bool, true, false, Option, Some, None, List, [], ◌∷◌, ◌++◌, length, refl, sym, ◌∙◌, ap, subst, arith}
use Rattle.std.specs.Prelude.{All, ◌*◌, if◌then◌else◌}
use Rattle.std.proofs.lemmas.Bool.Decides.{nat_tests}
use Rattle.wave_base.specs.declared.path.Path.{Path}
use Rattle.wave_states.specs.States.{State, Cell, Mail, Ask, Enter, set}
use Rattle.wave_states.specs.Labels.{Act, Label, Admit, Queue, Grant, Start, Stop, Free, Pass, Land, Commit, ticket_of, path_of, is_pass}
use Rattle.wave_states.specs.Labels
use Rattle.wave_states.specs.Begins.{Begin}
use Rattle.wave_states.specs.Kinds.{Kind}
use Rattle.wave_states.specs.Owes.{Owes, IsBegin}
use Rattle.wave_states.specs.Alone.{job_after}
use Rattle.wave_states.specs.Steps.{Bench, Part, step_by, act_bench, with_hand, with_bench, part_of, after_admit, after_commit, only_if, next_ticket, route_by, Forward}
use Rattle.wave_states.specs.Steps
use Rattle.wave_theory.proofs.Basics.{clash, none_not, some_same, then_some, map_some, only_some, number_cases, not_same, set_at, set_there}
use Rattle.wave_theory.proofs.Order.{Way, IsWay, Stage, Entering, Lined, Coming, There, Done, is_pending}
use Rattle.wave_theory.proofs.Leaves.{Course}
use Rattle.wave_theory.proofs.Courses
use Rattle.wave_theory.proofs.Opened.{starts, frees, passes, lands}
use Rattle.wave_theory.proofs.Frames.{entered_spot}
use Rattle.wave_theory.proofs.Tallies.{sum_to, sum_more, sum_up}
use Rattle.wave_theory.proofs.Shows
use Rattle.wave_theory.proofs.Deeds.{outline, Deed, done_by}
use Rattle.wave_theory.proofs.Deeds
use Rattle.wave_theory.proofs.Homes
use Rattle.wave_theory.proofs.HomesKept
use Rattle.wave_theory.proofs.Sites
use Rattle.wave_theory.proofs.Sizes
use Rattle.wave_theory.proofs.GoodStates.{Good_state}
use Rattle.wave_theory.proofs.GoodStates
use Rattle.wave_theory.specs.Counted.{pass_count, taken_count}
use Rattle.wave_theory.proofs.Stages.{entering_done}

pub passed_more : (ls : List Label) (l : Label) → pass_count (ls ++ l ∷ []) ≡ pass_count ls + (if is_pass l.act then 1 else 0)
passed_more [] l = by (is_pass l.act)
  where
    by : (i : Bool) → ◌≡◌ {A = ℕ} (if i then 1 else 0) (0 + (if i then 1 else 0))
    by true = refl
    by false = refl
passed_more (m ∷ ls) l = by (is_pass m.act) (passed_more ls l)
  where
    by : (i : Bool) → pass_count (ls ++ l ∷ []) ≡ pass_count ls + (if is_pass l.act then 1 else 0) → (if i then suc (pass_count (ls ++ l ∷ [])) else pass_count (ls ++ l ∷ [])) ≡ (if i then suc (pass_count ls) else pass_count ls) + (if is_pass l.act then 1 else 0)
    by true e = ap suc e ∙ one _ _
      where
        one : (a c : ℕ) → suc (a + c) ≡ suc a + c
        one a c = omega arith
    by false e = e

pub all_labels : (ls : List Label) → length ls ≡ taken_count ls + pass_count ls
all_labels [] = refl
all_labels (l ∷ ls) = by (is_pass l.act) (all_labels ls)
  where
    by : (i : Bool) → length ls ≡ taken_count ls + pass_count ls → suc (length ls) ≡ (if i then taken_count ls else suc (taken_count ls)) + (if i then suc (pass_count ls) else pass_count ls)
    by true e = omega (arith, e)
    by false e = omega (arith, e)

pub times_up : (a c d : ℕ) → c ≤ d → a * c ≤ a * d
times_up a c d l = grind arith

times_suc : (a c : ℕ) → a * suc c ≡ a * c + a
times_suc a c = grind arith

module _ {A F R J : Type 0} (kind : Kind A F R J) (owes : Owes kind) (b : Begin F) (batches : List (List J)) (begins : IsBegin kind b) (jobs : All (All kind.is_job) batches) where
  abbrev pub w : Way
  w = Courses.w kind owes b batches begins jobs

  abbrev pub course : Course kind.system
  course = Courses.course kind owes b batches begins jobs

  law : IsWay w
  law = Courses.law kind owes b batches begins jobs

  abbrev pub Is_real : ℕ → Type 0
  Is_real = Courses.Real kind owes b batches begins jobs

  abbrev pub Good : State A F R J → Type 0
  Good s = Good_state kind owes b batches begins jobs s

  abbrev pub HomesAre : Shows.Ghost F → Type 0
  HomesAre g = Homes.Homes kind owes b batches begins jobs g

  -- how many of the first segments enter a context
  abbrev pub fresh_to : ℕ → ℕ → ℕ
  fresh_to t k = sum_to k (λ i. Sizes.one_if kind.system (w.fresh t i))

  -- no context is sent on more often than `top`
  module _ (top : ℕ) where
    abbrev pub Bound : Stage → ℕ → ℕ → (ℕ → Option (Mail F)) → ℕ → Type 0
    Bound Entering t k mails c = (i : ℕ) (m : Mail F) (a : Ask) → mails i ≡ Some m → m.letter ≡ Enter a → c ≤ top * fresh_to t k + a.followed
    Bound Lined t k mails c = c ≤ top * fresh_to t (suc k)
    Bound Coming t k mails c = c ≤ top * fresh_to t (suc k)
    Bound There t k mails c = c ≤ top * fresh_to t (suc k)
    Bound Done t k mails c = c ≤ top * fresh_to t k

    bound_kept : (v : Stage) (t k : ℕ) (mails mails' : ℕ → Option (Mail F)) (c : ℕ) → ((i : ℕ) (m : Mail F) → mails' i ≡ Some m → mails i ≡ Some m) → Bound v t k mails c → Bound v t k mails' c
    bound_kept Entering t k mails mails' c f h = λ i m a e l. h i m a (f i m e) l
    bound_kept Lined t k mails mails' c f h = h
    bound_kept Coming t k mails mails' c f h = h
    bound_kept There t k mails mails' c f h = h
    bound_kept Done t k mails mails' c f h = h

    pub record Passed (ls : List Label) (s : State A F R J) (k : Good s) : Type 0 where
      pub homes : HomesAre k.ghost
      pub tally : ℕ → ℕ
      pub unused : (t : ℕ) → (k.ghost).lines.admitted < t → tally t ≡ 0
      pub total : pass_count ls ≡ sum_to s.admitted (λ i. tally (suc b.before + i))
      pub bound : (t : ℕ) → b.before < t → t ≤ (k.ghost).lines.admitted → Bound ((k.ghost).lines.stage t) t ((k.ghost).lines.pos t) (s.cells t).mails (tally t)

    -- the cells of other tickets stay
    pub cells_off : (s s' : State A F R J) (v host : ℕ) (a : Act) → step_by kind.system s v host a ≡ Some s' → (u : ℕ) → nat_eq (ticket_of a) u ≡ false → s'.cells u ≡ s.cells u
    cells_off s s' v host (Admit t) e u n =
        let j = then_some (λ j. only_if ((host == 0) && (t == next_ticket s)) (after_admit kind.system s t j)) (Rattle.std.specs.Prelude.slice_get s.head.known s.admitted) s' (GoodStates.idle_of kind owes b batches begins jobs (s.hands v) _ s' e).1 in
        let o = only_some ((host == 0) && (t == next_ticket s)) (after_admit kind.system s t j.0) s' j.2 in
        ap (λ (y : State A F R J). y.cells u) (sym o.1) ∙ set_there nat_eq s.cells t _ u n
    cells_off s s' v host (Commit t) e u n =
        let r = then_some (λ r. only_if ((host == 0) && (t == suc (s.before + s.head.done))) (after_commit kind.system s r)) (s.cells t).result s' (GoodStates.idle_of kind owes b batches begins jobs (s.hands v) _ s' e).1 in
        let o = only_some ((host == 0) && (t == suc (s.before + s.head.done))) (after_commit kind.system s r.0) s' r.2 in
        ap (λ (y : State A F R J). y.cells u) (sym o.1)
    cells_off s s' v host (Queue t k p) e u n = (let y = map_some _ _ s' e in ap (λ (z : State A F R J). z.cells u) y.2 ∙ set_there nat_eq s.cells t _ u n)
    cells_off s s' v host (Grant t p) e u n = (let y = map_some _ _ s' e in ap (λ (z : State A F R J). z.cells u) y.2 ∙ set_there nat_eq s.cells t _ u n)
    cells_off s s' v host (Labels.Visit t k p) e u n = (let y = map_some _ _ s' e in ap (λ (z : State A F R J). z.cells u) y.2 ∙ set_there nat_eq s.cells t _ u n)
    cells_off s s' v host (Start t p) e u n = (let y = map_some _ _ s' e in ap (λ (z : State A F R J). z.cells u) y.2 ∙ set_there nat_eq s.cells t _ u n)
    cells_off s s' v host (Stop t p) e u n = (let y = map_some _ _ s' e in ap (λ (z : State A F R J). z.cells u) y.2 ∙ set_there nat_eq s.cells t _ u n)
    cells_off s s' v host (Free t k p) e u n = (let y = map_some _ _ s' e in ap (λ (z : State A F R J). z.cells u) y.2 ∙ set_there nat_eq s.cells t _ u n)
    cells_off s s' v host (Pass t k p to) e u n = (let y = map_some _ _ s' e in ap (λ (z : State A F R J). z.cells u) y.2 ∙ set_there nat_eq s.cells t _ u n)
    cells_off s s' v host (Land t k p) e u n = (let y = map_some _ _ s' e in ap (λ (z : State A F R J). z.cells u) y.2 ∙ set_there nat_eq s.cells t _ u n)

    cut_kept : (mails : ℕ → Option (Mail F)) (k i : ℕ) (m : Mail F) → set nat_eq mails k None i ≡ Some m → mails i ≡ Some m
    cut_kept mails k i m e = elim (number_cases k i) [
      | inr d ↦ sym (set_there nat_eq mails k None i d) ∙ e
      | inl d ↦ absurd (none_not (sym (subst (λ j. set nat_eq mails k None j ≡ None) d (set_at mails k None)) ∙ e))
    ]

    pub calm_is : (o : Option (Part A F R)) (y : Bench A F R) → with_hand None o ≡ Some y → (z : Part A F R) × (o ≡ Some z) × (y ≡ record { part = z; hand = None })
    calm_is o y e = map_some (λ (z : Part A F R). record { part = z; hand = None }) o y e

    -- what a label that leaves a ticket's Enter does to its mails
    pub mails_kept : (s s' : State A F R J) (v host : ℕ) (a : Act) → step_by kind.system s v host a ≡ Some s' → is_pass a ≡ false → (Deeds.Suits a Deeds.Rests) ⊎ (Deeds.Suits a Deeds.Lands) → (i : ℕ) (m : Mail F) → (s'.cells (ticket_of a)).mails i ≡ Some m → (s.cells (ticket_of a)).mails i ≡ Some m
    mails_kept s s' v host (Commit t) e np r i m f =
        let q = then_some (λ q. only_if ((host == 0) && (t == suc (s.before + s.head.done))) (after_commit kind.system s q)) (s.cells t).result s' (GoodStates.idle_of kind owes b batches begins jobs (s.hands v) _ s' e).1 in
        let o = only_some ((host == 0) && (t == suc (s.before + s.head.done))) (after_commit kind.system s q.0) s' q.2 in
        ap (λ (y : State A F R J). (y.cells t).mails i) o.1 ∙ f
    mails_kept s s' v host (Start t p) e np r i m f = (let y = map_some _ _ s' e in by (s.hands v) y.0 y.1 y.2)
      where
        by : (h : Option (Rattle.wave_states.specs.States.Hand A F)) (y : Bench A F R) → act_bench kind.system (Start t p) host (part_of s t p) h ≡ Some y → s' ≡ with_bench s t p v y → (s.cells t).mails i ≡ Some m
        by (Some h) y e k = absurd (none_not e)
        by None y e k = (let q = starts t p host (part_of s t p) y e in ap (λ (u : Bench A F R). u.part.cell.mails i) q.gives ∙ sym (ap (λ (u : State A F R J). (u.cells t).mails i) k ∙ ap (λ (u : Cell A F R). u.mails i) (set_at s.cells t y.part.cell)) ∙ f)
    mails_kept s s' v host (Free t k p) e np r i m f = (let y = map_some _ _ s' e in by (s.hands v) y.0 y.1 y.2)
      where
        by : (h : Option (Rattle.wave_states.specs.States.Hand A F)) (y : Bench A F R) → act_bench kind.system (Free t k p) host (part_of s t p) h ≡ Some y → s' ≡ with_bench s t p v y → (s.cells t).mails i ≡ Some m
        by (Some h) y e k = absurd (none_not e)
        by None y e d = (let z = calm_is _ y e in let q = frees t k p host (part_of s t p) z.0 z.1 in cut_kept (s.cells t).mails k i m
            (ap (λ (u : Part A F R). u.cell.mails i) q.gives ∙ ap (λ (u : Bench A F R). u.part.cell.mails i) (sym z.2) ∙ sym (ap (λ (u : State A F R J). (u.cells t).mails i) d ∙ ap (λ (u : Cell A F R). u.mails i) (set_at s.cells t y.part.cell)) ∙ f))
    mails_kept s s' v host (Land t k p) e np r i m f = (let y = map_some _ _ s' e in by (s.hands v) y.0 y.1 y.2)
      where
        by : (h : Option (Rattle.wave_states.specs.States.Hand A F)) (y : Bench A F R) → act_bench kind.system (Land t k p) host (part_of s t p) h ≡ Some y → s' ≡ with_bench s t p v y → (s.cells t).mails i ≡ Some m
        by (Some h) y e k = absurd (none_not e)
        by None y e d = (let z = calm_is _ y e in let q = lands k p host (part_of s t p) z.0 z.1 in cut_kept (s.cells t).mails k i m
            (ap (λ (u : Part A F R). u.cell.mails i) q.gives ∙ ap (λ (u : Bench A F R). u.part.cell.mails i) (sym z.2) ∙ sym (ap (λ (u : State A F R J). (u.cells t).mails i) d ∙ ap (λ (u : Cell A F R). u.mails i) (set_at s.cells t y.part.cell)) ∙ f))
    mails_kept s s' v host (Pass t k p to) e np r i m f = absurd (clash true refl np)
    mails_kept s s' v host (Admit t) e np r i m f = elim r [ inl x ↦ absurd x | inr x ↦ absurd x ]
    mails_kept s s' v host (Queue t k p) e np r i m f = elim r [ inl x ↦ absurd x | inr x ↦ absurd x ]
    mails_kept s s' v host (Grant t p) e np r i m f = elim r [ inl x ↦ absurd x | inr x ↦ absurd x ]
    mails_kept s s' v host (Labels.Visit t k p) e np r i m f = elim r [ inl x ↦ absurd x | inr x ↦ absurd x ]
    mails_kept s s' v host (Stop t p) e np r i m f = elim r [ inl x ↦ absurd x | inr x ↦ absurd x ]

    pub pass_form : (a : Act) → is_pass a ≡ true → (t i : ℕ) × (p : Path) × (to : ℕ) × (a ≡ Pass t i p to)
    pass_form (Pass t i p to) e = (t, i, p, to, refl)
    pass_form (Admit t) e = absurd (clash false e refl)
    pass_form (Commit t) e = absurd (clash false e refl)
    pass_form (Queue t k p) e = absurd (clash false e refl)
    pass_form (Grant t p) e = absurd (clash false e refl)
    pass_form (Labels.Visit t k p) e = absurd (clash false e refl)
    pass_form (Start t p) e = absurd (clash false e refl)
    pass_form (Stop t p) e = absurd (clash false e refl)
    pass_form (Free t k p) e = absurd (clash false e refl)
    pass_form (Land t k p) e = absurd (clash false e refl)

    pub enter_same : (a c : Ask) → ◌≡◌ {A = Rattle.wave_states.specs.States.Letter F} (Enter a) (Enter c) → a ≡ c
    enter_same a c e = some_same a c (ap Rattle.wave_states.specs.States.ask_in e)

    -- a mark that is followed has a higher number than was followed
    pub forward_more : (i : Bool) (mark : Rattle.wave_states.specs.States.Mark) (f to : ℕ) → (if i then Steps.Deliver else route_by (Some mark) f) ≡ Forward to → f < mark.number
    forward_more true mark f to e = absurd (deliver_not e)
      where
        deliver_not : Steps.Deliver ≡ Forward to → ⊥
        deliver_not e = grind arith
    forward_more false mark f to e = by (nat_lt f mark.number) refl e
      where
        wait_not : Steps.Wait ≡ Forward to → ⊥
        wait_not e = grind arith

        less : (a c : ℕ) → nat_lt a c ≡ true → a < c
        less a c e = grind (arith, nat_tests)

        by : (i : Bool) → nat_lt f mark.number ≡ i → (if i then Forward mark.to else Steps.Wait) ≡ Forward to → f < mark.number
        by true q e = less f mark.number q
        by false q e = absurd (wait_not e)

    -- how often each context may have been sent on
    module _ (tops : (p : Path) (m i : ℕ) (j : J) → job_after kind.system b batches i ≡ Some j → m ≤ suc i → Sites.shifts kind owes b batches begins jobs p m ≤ top) where
      module _ (s : State A F R J) (k : Good s) (ls : List Label) (h : Passed ls s k) where
        abbrev g : Shows.Ghost F
        g = k.ghost

        -- who is on its way to a context has not been passed on more often than contexts are sent on
        pub entering_full : (t : ℕ) → b.before < t → t ≤ (g).lines.admitted → (g).lines.stage t ≡ Entering → h.tally t ≤ top * fresh_to t (suc ((g).lines.pos t))
        entering_full t lt la e =
            let o = ((k.alive).one t lt la).entering e in
            let y : Shows.EnterShows kind.system w course b.before Is_real (k.ghost) t ((g).main t) (o.mail).host (o.mail).path o.ask = subst (Shows.MailShows kind.system w course b.before Is_real (k.ghost) t ((g).main t) (o.mail).host (o.mail).path) o.letter ((k.shows.cells t lt la).mails ((g).main t) o.mail o.there) in
            let z = HomesKept.sent_so_often kind owes b batches begins jobs s (k.ghost) k.shows h.homes.of (k.alive).few t (o.mail).path lt la (subst (λ r. w.entered t ((g).lines.pos t) r ≡ true) (sym y.place) (entered_spot kind.system w law course b.before Is_real (k.ghost) (k.shows).good t la (λ q. entering_done (sym e ∙ q)))) in
            let u : Bound Entering t ((g).lines.pos t) (s.cells t).mails (h.tally t) = subst (λ v. Bound v t ((g).lines.pos t) (s.cells t).mails (h.tally t)) e (h.bound t lt la) in
            full _ _ _ _ _ _ (u ((g).main t) o.mail o.ask o.there o.letter) y.followed z.5 (tops (o.mail).path z.0 z.1 z.2 z.3 z.4) (sum_more ((g).lines.pos t) (λ i. Sizes.one_if kind.system (w.fresh t i)) ∙ ap (λ i. fresh_to t ((g).lines.pos t) + Sizes.one_if kind.system i) ((k.shows).good.is_fresh t la (ap is_pending e)) ∙ one_more (fresh_to t ((g).lines.pos t)))
          where
            one_more : (a : ℕ) → a + 1 ≡ suc a
            one_more a = omega arith

            full : (c f a l m n : ℕ) → c ≤ top * f + a → a ≤ l → l ≡ m → m ≤ top → n ≡ suc f → c ≤ top * n
            full c f a l m n u v e x y = subst (λ i. c ≤ top * i) (sym y) (let q = times_suc top f in omega (arith, u, v, e, x, q))

        next_few : (t i : ℕ) (c : ℕ) → c ≤ top * fresh_to t i → c ≤ top * fresh_to t (suc i)
        next_few t i c l = (let q = times_up top (fresh_to t i) (fresh_to t (suc i)) (sum_up i (suc i) (λ i. Sizes.one_if kind.system (w.fresh t i)) (omega arith)) in omega (arith, l, q))

        pub own_rest : (s' : State A F R J) (g' : Shows.Ghost F) (v host : ℕ) (a : Act) → step_by kind.system s v host a ≡ Some s' → is_pass a ≡ false → (d : Deed) → Deeds.Suits a d → Deeds.Fits kind.system w course b.before Is_real s k.ghost g' (ticket_of a) (path_of a) d → b.before < ticket_of a → ticket_of a ≤ (done_by w (outline (k.ghost)) (ticket_of a) (path_of a) d).admitted →
            Bound ((done_by w (outline (k.ghost)) (ticket_of a) (path_of a) d).stage (ticket_of a)) (ticket_of a) ((done_by w (outline (k.ghost)) (ticket_of a) (path_of a) d).pos (ticket_of a)) (s'.cells (ticket_of a)).mails (h.tally (ticket_of a))
        own_rest s' g' v host a e np Deeds.Admits q f lt la = subst (λ u. Bound u (ticket_of a) (set nat_eq (g).lines.pos (suc (g).lines.admitted) 0 (ticket_of a)) (s'.cells (ticket_of a)).mails (h.tally (ticket_of a))) (sym (subst (λ u. set nat_eq (g).lines.stage (suc (g).lines.admitted) Entering u ≡ Entering) (sym f.0) (set_at (g).lines.stage (suc (g).lines.admitted) Entering)))
            (λ i m c x y. none _ _ (h.unused (ticket_of a) (subst (λ u. (g).lines.admitted < u) (sym f.0) (above (g).lines.admitted))))
          where
            none : (a c : ℕ) → a ≡ 0 → a ≤ c
            none a c e = omega (arith, e)

            above : (a : ℕ) → a < suc a
            above a = omega arith
        own_rest s' g' v host a e np Deeds.Lines_up q f lt la = subst (λ u. Bound u (ticket_of a) ((g).lines.pos (ticket_of a)) (s'.cells (ticket_of a)).mails (h.tally (ticket_of a))) (sym (set_at (g).lines.stage (ticket_of a) Lined)) (entering_full (ticket_of a) lt la f.stage)
        own_rest s' g' v host a e np Deeds.Lets_in q f lt la = subst (λ u. Bound u (ticket_of a) ((g).lines.pos (ticket_of a)) (s'.cells (ticket_of a)).mails (h.tally (ticket_of a))) (sym (set_at (g).lines.stage (ticket_of a) There)) (subst (λ u. Bound u (ticket_of a) ((g).lines.pos (ticket_of a)) (s.cells (ticket_of a)).mails (h.tally (ticket_of a))) f.stage (h.bound (ticket_of a) lt la))
        own_rest s' g' v host a e np Deeds.Arrives q f lt la = subst (λ u. Bound u (ticket_of a) ((g).lines.pos (ticket_of a)) (s'.cells (ticket_of a)).mails (h.tally (ticket_of a))) (sym (set_at (g).lines.stage (ticket_of a) There)) (subst (λ u. Bound u (ticket_of a) ((g).lines.pos (ticket_of a)) (s.cells (ticket_of a)).mails (h.tally (ticket_of a))) f (h.bound (ticket_of a) lt la))
        own_rest s' g' v host a e np Deeds.Rests q f lt la = bound_kept ((g).lines.stage (ticket_of a)) (ticket_of a) ((g).lines.pos (ticket_of a)) (s.cells (ticket_of a)).mails (s'.cells (ticket_of a)).mails (h.tally (ticket_of a)) (mails_kept s s' v host a e np (inl q)) (h.bound (ticket_of a) lt la)
        own_rest s' g' v host a e np Deeds.Lands q f lt la = bound_kept ((g).lines.stage (ticket_of a)) (ticket_of a) ((g).lines.pos (ticket_of a)) (s.cells (ticket_of a)).mails (s'.cells (ticket_of a)).mails (h.tally (ticket_of a)) (mails_kept s s' v host a e np (inr q)) (h.bound (ticket_of a) lt la)
        own_rest s' g' v host a e np Deeds.Goes_on q f lt la = subst (λ u. Bound u (ticket_of a) (set nat_eq (g).lines.pos (ticket_of a) (suc ((g).lines.pos (ticket_of a))) (ticket_of a)) (s'.cells (ticket_of a)).mails (h.tally (ticket_of a))) (sym (set_at (g).lines.stage (ticket_of a) Coming))
            (subst (λ i. h.tally (ticket_of a) ≤ top * fresh_to (ticket_of a) (suc i)) (sym (set_at (g).lines.pos (ticket_of a) (suc ((g).lines.pos (ticket_of a))))) (next_few (ticket_of a) (suc ((g).lines.pos (ticket_of a))) _ (subst (λ u. Bound u (ticket_of a) ((g).lines.pos (ticket_of a)) (s.cells (ticket_of a)).mails (h.tally (ticket_of a))) f.stopped.stage (h.bound (ticket_of a) lt la))))
        own_rest s' g' v host a e np Deeds.Ends q f lt la = subst (λ u. Bound u (ticket_of a) (set nat_eq (g).lines.pos (ticket_of a) (suc ((g).lines.pos (ticket_of a))) (ticket_of a)) (s'.cells (ticket_of a)).mails (h.tally (ticket_of a))) (sym (set_at (g).lines.stage (ticket_of a) Done))
            (subst (λ i. h.tally (ticket_of a) ≤ top * fresh_to (ticket_of a) i) (sym (set_at (g).lines.pos (ticket_of a) (suc ((g).lines.pos (ticket_of a))))) (subst (λ u. Bound u (ticket_of a) ((g).lines.pos (ticket_of a)) (s.cells (ticket_of a)).mails (h.tally (ticket_of a))) f.stopped.stage (h.bound (ticket_of a) lt la)))
        own_rest s' g' v host a e np (Deeds.Moves to) q f lt la = subst (λ u. Bound u (ticket_of a) (set nat_eq (g).lines.pos (ticket_of a) (suc ((g).lines.pos (ticket_of a))) (ticket_of a)) (s'.cells (ticket_of a)).mails (h.tally (ticket_of a))) (sym (set_at (g).lines.stage (ticket_of a) Done))
            (subst (λ i. h.tally (ticket_of a) ≤ top * fresh_to (ticket_of a) i) (sym (set_at (g).lines.pos (ticket_of a) (suc ((g).lines.pos (ticket_of a))))) (subst (λ u. Bound u (ticket_of a) ((g).lines.pos (ticket_of a)) (s.cells (ticket_of a)).mails (h.tally (ticket_of a))) f.stopped.stage (h.bound (ticket_of a) lt la)))
        own_rest s' g' v host a e np (Deeds.Goes_in st r) q f lt la = subst (λ u. Bound u (ticket_of a) (set nat_eq (g).lines.pos (ticket_of a) (suc ((g).lines.pos (ticket_of a))) (ticket_of a)) (s'.cells (ticket_of a)).mails (h.tally (ticket_of a))) (sym (set_at (g).lines.stage (ticket_of a) Entering))
            (λ i m c x y. subst (λ i. h.tally (ticket_of a) ≤ top * fresh_to (ticket_of a) i + c.followed) (sym (set_at (g).lines.pos (ticket_of a) (suc ((g).lines.pos (ticket_of a))))) (more _ _ c.followed (subst (λ u. Bound u (ticket_of a) ((g).lines.pos (ticket_of a)) (s.cells (ticket_of a)).mails (h.tally (ticket_of a))) f.stopped.stage (h.bound (ticket_of a) lt la))))
          where
            more : (a c d : ℕ) → a ≤ c → a ≤ c + d
            more a c d l = omega (arith, l)

        pub own_pass : (s' : State A F R J) (v host t i : ℕ) (p : Path) (to : ℕ) → step_by kind.system s v host (Pass t i p to) ≡ Some s' → b.before < t → t ≤ (g).lines.admitted → Bound ((g).lines.stage t) t ((g).lines.pos t) (s'.cells t).mails (suc (h.tally t))
        own_pass s' v host t i p to e lt la = (let y = map_some _ _ s' e in by (s.hands v) y.0 y.1 y.2)
          where
            by : (hd : Option (Rattle.wave_states.specs.States.Hand A F)) (y : Bench A F R) → act_bench kind.system (Pass t i p to) host (part_of s t p) hd ≡ Some y → s' ≡ with_bench s t p v y → Bound ((g).lines.stage t) t ((g).lines.pos t) (s'.cells t).mails (suc (h.tally t))
            by (Some hd) y e d = absurd (none_not e)
            by None y e d =
                let z = calm_is _ y e in let q = passes i to p host (part_of s t p) z.0 z.1 in
                let ep : Shows.EnterShows kind.system w course b.before Is_real (k.ghost) t i host p q.ask = Rattle.wave_theory.proofs.Own.shows_letter kind.system w course b.before Is_real (k.ghost) t i host p (Enter q.ask) (s.cells t) (k.shows.cells t lt la) q.letter_at in
                let old : Bound Entering t ((g).lines.pos t) (s.cells t).mails (h.tally t) = subst (λ u. Bound u t ((g).lines.pos t) (s.cells t).mails (h.tally t)) ep.stage (h.bound t lt la) in
                let before = old i q.letter_at.mail q.ask q.letter_at.mail_is q.letter_at.letter_is in
                let less = forward_more (Rattle.std.specs.Prelude.is_some ((s.columns p).store host)) q.mark q.ask.followed to (subst (λ o. (if Rattle.std.specs.Prelude.is_some ((s.columns p).store host) then Steps.Deliver else route_by o q.ask.followed) ≡ Forward to) q.mark_is q.route_is) in
                subst (λ u. Bound u t ((g).lines.pos t) (s'.cells t).mails (suc (h.tally t))) (sym ep.stage) (λ j m c x l.
                at_mail (s.cells t).mails i (record { host = to; path = p; letter = Enter (record { number = q.ask.number; followed = q.mark.number; peek = q.ask.peek }) }) j m (ap (λ (u : Part A F R). u.cell.mails j) q.gives ∙ ap (λ (u : Bench A F R). u.part.cell.mails j) (sym z.2) ∙ sym (ap (λ (u : State A F R J). (u.cells t).mails j) d ∙ ap (λ (u : Cell A F R). u.mails j) (set_at s.cells t y.part.cell)) ∙ x)
                (suc (h.tally t) ≤ top * fresh_to t ((g).lines.pos t) + c.followed)
                (λ n. subst (λ (u : Ask). suc (h.tally t) ≤ top * fresh_to t ((g).lines.pos t) + u.followed) (enter_same (record { number = q.ask.number; followed = q.mark.number; peek = q.ask.peek }) c (ap (λ (u : Mail F). u.letter) n ∙ l)) (higher _ _ _ _ before less))
                (λ n o. absurd (not_same i j n (ep.main ∙ sym (subst (Shows.MailShows kind.system w course b.before Is_real (k.ghost) t j m.host m.path) l ((k.shows.cells t lt la).mails j m o)).main))))
              where
                higher : (c a f n : ℕ) → c ≤ a + f → f < n → suc c ≤ a + n
                higher c a f n l m = omega (arith, l, m)

                at_mail : (mails : ℕ → Option (Mail F)) (i : ℕ) (new : Mail F) (j : ℕ) (m : Mail F) → set nat_eq mails i (Some new) j ≡ Some m → (C : Type 0) → (new ≡ m → C) → (nat_eq i j ≡ false → mails j ≡ Some m → C) → C
                at_mail mails i new j m e C f n = elim (number_cases i j) [
                  | inl d ↦ f (some_same new m (sym (subst (λ u. set nat_eq mails i (Some new) u ≡ Some new) d (set_at mails i (Some new))) ∙ e))
                  | inr d ↦ n d (sym (set_there nat_eq mails i (Some new) j d) ∙ e)
                ]
