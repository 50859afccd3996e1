-- Two finished runs of a plan end in one state: component by component it is what the fold has.
use Rattle.std.proofs.Common.{◌≡◌, ℕ, suc, ◌+◌, ◌<◌, ◌≤◌, ◌⊎◌, ◌||◌, ◌&&◌, inl, inr, not, Bool, true, false, Some, None, List, [], ◌∷◌, ◌++◌, sym, ◌∙◌, ap, subst, arith}
use Rattle.std.specs.Prelude.{All, cond}
use Rattle.std.specs.List.{list_any}
use Rattle.wave_base.specs.declared.path.Step.{Step}
use Rattle.wave_base.specs.declared.path.Path.{Path}
use Rattle.wave_base.specs.declared.children.Child.{Child}
use Rattle.wave_base.specs.Paths.{path_eq, step_eq}
use Rattle.wave_base.specs.PathLaws.{step_eq_ties}
use Rattle.wave_base.specs.Kids.{child_at}
use Rattle.wave_base.specs.Fold.{Progress}
use Rattle.wave_base.specs.Tree.{there, children_of}
use Rattle.wave_states.specs.States.{State, Cell, Column, Entry, Event, Record, Status, Ended, steps_of}
use Rattle.wave_states.specs.Steps.{child_or_new}
use Rattle.wave_states.specs.Runs.{Finished, run}
use Rattle.wave_states.specs.Labels.{Label}
use Rattle.wave_states.specs.Kinds.{Kind}
use Rattle.wave_states.specs.Owes.{Owes, IsBegin}
use Rattle.wave_states.specs.Begins.{Begin, start_state}
use Rattle.wave_states.specs.Alone.{fold_alone, places_alone}
use Rattle.wave_states.proofs.Children.{kids_sorted}
use Rattle.wave_theory.specs.Complete.{IsComplete}
use Rattle.wave_theory.specs.Sent.{Sent, shares}
use Rattle.wave_theory.proofs.Basics.{bool_cases, none_not, some_same}
use Rattle.wave_theory.proofs.Order.{Way, IsWay, Done, Stage, rank, is_pending, here}
use Rattle.wave_theory.proofs.Ranks.{rank_found}
use Rattle.wave_theory.proofs.Leaves.{Course}
use Rattle.wave_theory.proofs.Tracks.{owner, store_at}
use Rattle.wave_theory.proofs.Maps.{any_child}
use Rattle.wave_theory.proofs.Agreed.{done_ended}
use Rattle.wave_theory.proofs.Plans
use Rattle.wave_theory.proofs.Shows
use Rattle.wave_theory.proofs.Courses
use Rattle.wave_theory.proofs.GoodStates.{Good_state}
use Rattle.wave_theory.proofs.Told
use Rattle.wave_theory.proofs.Balances
use Rattle.wave_theory.proofs.Mailed
use Rattle.wave_theory.proofs.Live
use Rattle.wave_theory.proofs.Settled
use Rattle.serial_runs.proofs.Alike.{SameTrail, no_holds, same_children, same_marks, same_stores}
use Rattle.serial_runs.proofs.Sited
use Rattle.serial_runs.proofs.Past

up_to_it : (n r : ℕ) → n ≤ r → (0 < r → r ≤ n) → n ≡ r
up_to_it n r l h = grind arith

below_or : (a c : ℕ) → (a < c) ⊎ (c ≤ a)
below_or a c = grind arith

less_or : (i a : ℕ) → i ≤ a → (i < a) ⊎ (i ≡ a)
less_or i a l = grind arith

past : (a c : ℕ) → a < c → c ≤ a → ⊥
past a c l m = omega (arith, l, m)

-- an event that is over has no segment out
not_out : (st : Status) (v : Stage) (o : Bool) (p : Path) → Shows.StatusShows st v o p → v ≡ Done → o ≡ false
not_out st v o p z d = subst (λ u. Shows.StatusShows u Done o p) (done_ended st v o p z d) (subst (λ u. Shows.StatusShows st u o p) d z)

-- a child has its step among the children
kid_in : (cs : List (Step × Child)) (st : Step) (c : Child) → child_at cs st ≡ Some c → list_any (step_eq st) (steps_of cs) ≡ true
kid_in [] st c e = absurd (none_not e)
kid_in (k ∷ cs) st c e = elim (bool_cases (step_eq st k.0)) [
  | inl z ↦ ap (λ i. i || list_any (step_eq st) (steps_of cs)) z
  | inr z ↦ ap (λ i. i || list_any (step_eq st) (steps_of cs)) z ∙ kid_in cs st c (sym (ap (λ i. cond i (Some k.1) (child_at cs st)) (sym (step_eq_ties st k.0) ∙ z)) ∙ e)
]

same_child : (c d : Child) → c.given ≡ d.given → c.birth.0 ≡ d.birth.0 → c ≡ d
same_child c d e f = λ i. record { given = e i; birth = record { 0 = f i } }

module _ {F : Type 0} where
  same_record : (r r' : Record F) → r.fields ≡ r'.fields → r.children ≡ r'.children → r ≡ r'
  same_record r r' e f = λ i. record { fields = e i; children = f i }

  same_entry : (x y : Entry F) → x.body ≡ y.body → x.holders ≡ y.holders → x.served ≡ y.served → ((j : ℕ) → x.waiting j ≡ y.waiting j) → x.moves ≡ y.moves → x ≡ y
  same_entry x y e f g h k = λ i. record { body = e i; holders = f i; served = g i; waiting = λ j. h j i; moves = k i }

  same_column : (c d : Column F) → ((h : ℕ) → c.store h ≡ d.store h) → ((h : ℕ) → c.gone h ≡ d.gone h) → c ≡ d
  same_column c d e f = λ i. record { store = λ h. e h i; gone = λ h. f h i }

same_event : {A : Type 0} (x y : Event A) → x.actor ≡ y.actor → x.held ≡ y.held → x.sent ≡ y.sent → x.status ≡ y.status → x ≡ y
same_event x y e f g h = λ i. record { actor = e i; held = f i; sent = g i; status = h i }

same_cell : {A F R : Type 0} (c d : Cell A F R) → c.event ≡ d.event → ((k : ℕ) → c.mails k ≡ d.mails k) → c.result ≡ d.result → c ≡ d
same_cell c d e f g = λ i. record { event = e i; mails = λ k. f k i; result = g i }

same_state : {A F R J : Type 0} (s v : State A F R J) → s.before ≡ v.before → s.head ≡ v.head → s.admitted ≡ v.admitted → ((t : ℕ) → s.cells t ≡ v.cells t) → ((p : Path) → s.columns p ≡ v.columns p) → ((u : ℕ) → s.hands u ≡ v.hands u) → s ≡ v
same_state s v e f g h k l = λ i. record { before = e i; head = f i; admitted = g i; cells = λ t. h t i; columns = λ p. k p i; hands = λ u. l u i }

module _ {A F R J : Type 0} (kind : Kind A F R J) (owes : Owes kind) (b : Begin F) (batches : List (List J)) (begins : IsBegin kind b) (jobs : All (All kind.is_job) batches) (some_host : 0 < kind.hosts) where
  abbrev w : Way
  w = Courses.w kind owes b batches begins jobs

  abbrev course : Course kind.system
  course = Courses.course kind owes b batches begins jobs

  law : IsWay w
  law = Courses.law kind owes b batches begins jobs

  abbrev Is_real : ℕ → Type 0
  Is_real = Courses.Real kind owes b batches begins jobs

  abbrev at : ℕ → Progress F R J
  at n = fold_alone kind.system b batches n

  -- a finished state, and what is known of it
  pub record End (s : State A F R J) : Type 0 where
    pub crew : ℕ
    pub some_worker : 0 < crew
    pub finished : Finished kind.system crew s
    pub knows : Past.Knows kind owes b batches begins jobs some_host crew s
    pub sent : Sent kind b batches s

  module _ (s : State A F R J) (e : End s) where
    abbrev k : Good_state kind owes b batches begins jobs s
    k = (e.knows).good

    abbrev g : Shows.Ghost F
    g = (e.knows).good.ghost

    abbrev x : Shows.Shows kind.system w course b.before Is_real s ((e.knows).good.ghost)
    x = (e.knows).good.shows

    -- the words of the theory, of this state
    few_done : (n : ℕ) → (at n).head.done ≤ s.head.done
    few_done n = Live.all_committed kind owes b batches begins jobs s k e.crew e.some_worker e.finished n

    done_is : s.head.done ≡ (at s.head.done).head.done
    done_is = Live.done_is kind owes b batches begins jobs s k e.crew e.some_worker e.finished

    admitted_is : (g).lines.admitted ≡ b.before + s.head.done
    admitted_is = Live.admitted_is kind owes b batches begins jobs s k e.crew e.some_worker e.finished

    admitted_all : s.admitted ≡ s.head.done
    admitted_all = same _ _ _ _ (x).admitted admitted_is
      where
        same : (a c d l : ℕ) → l ≡ c + a → l ≡ c + d → a ≡ d
        same a c d l p q = omega (arith, p, q)

    done : (t : ℕ) → t ≤ (g).lines.admitted → (g).lines.stage t ≡ Done
    done t l = Live.stage_done kind owes b batches begins jobs s k e.crew e.some_worker e.finished t l

    pos_is : (t : ℕ) → t ≤ (g).lines.admitted → (g).lines.pos t ≡ suc (w.last t)
    pos_is t l = (x).good.ended t l (done t l)

    complete : IsComplete kind b batches s
    complete = Live.complete kind owes b batches begins jobs s k e.crew e.some_worker e.finished (Settled.places kind owes b batches begins jobs s k ((e.knows).past.homes) e.crew e.some_worker e.finished)

    born_is : (p : Path) → (g).born p ≡ there (at s.head.done).tree p
    born_is p = Live.born_there kind owes b batches begins jobs s k e.crew e.some_worker e.finished p

    -- as many numbers were given as tickets come
    given_is : (p : Path) → (g).lines.given p ≡ rank w p (g).lines.admitted
    given_is p = up_to_it _ _ ((e.knows).past.few p) (λ l. (let f = rank_found w p (g).lines.admitted l in
        subst (λ n. n ≤ (g).lines.given p) f.same (((x).good.sends f.ticket p f.first f.comes).0 (record { known = f.last; entered = ap (λ n. w.entered f.ticket n p) (pos_is f.ticket f.last) ∙ f.comes }))))

    -- a context that is there
    pub record IsThere (p : Path) : Type 0 where
      pub track : Shows.Stays kind.system w course b.before Is_real g p (s.columns p)
      pub stored : ((g).trail p).stored ≡ true
      pub body : Record F
      pub body_is : ((g).entry p).body ≡ Some body
      pub body_same : body ≡ (g).body p
      pub fields : body.fields ≡ (at s.head.done).tree.fields p
      pub steps : steps_of body.children ≡ children_of (at s.head.done).tree p
      pub no_holders : ((g).entry p).holders ≡ []
      pub no_waits : (j : ℕ) → ((g).entry p).waiting j ≡ None
      pub sits : (owner ((g).trail p) ≡ (places_alone kind.system b batches s.head.done).fields p) × (((g).trail p).last ≡ Sited.shifts kind owes b batches begins jobs p s.head.done)

    there_is : (p : Path) → there (at s.head.done).tree p ≡ true → IsThere p
    there_is p th = by ((complete).contexts p th)
      where
        track : Shows.Stays kind.system w course b.before Is_real g p (s.columns p)
        track = subst (λ i. Shows.ColumnShows kind.system w course b.before Is_real i g p (s.columns p)) (born_is p ∙ th) ((x).columns p)

        by : (host : ℕ) × (en : Entry F) × (r : Record F) × ((s.columns p).store host ≡ Some en) × (en.body ≡ Some r) × (r.fields ≡ (at s.head.done).tree.fields p) × (steps_of r.children ≡ children_of (at s.head.done).tree p) → IsThere p
        by c = (let same : c.1 ≡ (g).entry p = Told.entry_same kind owes b batches begins jobs s k p c.1 (inl (c.0, c.3)) in record {
          track = track;
          stored = (store_at (s.columns p) ((g).trail p) c.0 c.1 track.track c.3).0;
          body = c.2;
          body_is = ap (λ (u : Entry F). u.body) (sym same) ∙ c.4;
          body_same = ((x).entries p).body c.2 (ap (λ (u : Entry F). u.body) (sym same) ∙ c.4);
          fields = c.5;
          steps = c.6;
          no_holders = ap (λ (u : Entry F). u.holders) (sym same) ∙ (complete).no_holders p c.0 c.1 c.3;
          no_waits = λ j. ap (λ (u : Entry F). u.waiting j) (sym same) ∙ (complete).no_waits p c.0 c.1 j c.3;
          sits = Settled.at_last kind owes b batches begins jobs s k ((e.knows).past.homes) e.crew e.some_worker e.finished p (sym (Settled.tree_there kind owes b batches begins jobs s.head.done p) ∙ th);
        })

  module _ (s v : State A F R J) (e : End s) (f : End v) where
    same_done : s.head.done ≡ v.head.done
    same_done = same _ _ (subst (λ n. n ≤ v.head.done) (sym (done_is s e)) (few_done v f s.head.done)) (subst (λ n. n ≤ s.head.done) (sym (done_is v f)) (few_done s e v.head.done))
      where
        same : (a c : ℕ) → a ≤ c → c ≤ a → a ≡ c
        same a c l m = omega (arith, l, m)

    same_known : (g s e).lines.admitted ≡ (g v f).lines.admitted
    same_known = admitted_is s e ∙ ap (λ n. b.before + n) same_done ∙ sym (admitted_is v f)

    same_there : (p : Path) → there (at s.head.done).tree p ≡ there (at v.head.done).tree p
    same_there p = ap (λ n. there (at n).tree p) same_done

    -- the cells
    module _ (t : ℕ) (later : b.before < t) (known : t ≤ (g s e).lines.admitted) where
      known' : t ≤ (g v f).lines.admitted
      known' = subst (λ n. t ≤ n) same_known known

      c : Shows.CellShows kind.system w course b.before Is_real (g s e) t (s.cells t)
      c = (x s e).cells t later known

      d : Shows.CellShows kind.system w course b.before Is_real (g v f) t (v.cells t)
      d = (x v f).cells t later known'

      nothing_held : (u : State A F R J) (i : End u) (l : t ≤ (g u i).lines.admitted) (y : Shows.CellShows kind.system w course b.before Is_real (g u i) t (u.cells t)) → y.event.held ≡ []
      nothing_held u i l y = no_holds y.event.held (λ p. y.held p ∙ ap (λ n. w.held t n p && not (is_pending ((g u i).lines.stage t) && path_eq (here w (g u i).lines t) p)) (pos_is u i t l)
          ∙ ap (λ r. r && not (is_pending ((g u i).lines.stage t) && path_eq (here w (g u i).lines t) p)) (law.none t p))

      actor_is : (u : State A F R J) (i : End u) (l : t ≤ (g u i).lines.admitted) (y : Shows.CellShows kind.system w course b.before Is_real (g u i) t (u.cells t)) → y.event.actor ≡ course.actor t (suc (w.last t))
      actor_is u i l y = y.actor (not_out y.event.status _ _ _ y.status (done u i t l)) ∙ ap (course.actor t) (pos_is u i t l)

      status_is : (u : State A F R J) (i : End u) (l : t ≤ (g u i).lines.admitted) (y : Shows.CellShows kind.system w course b.before Is_real (g u i) t (u.cells t)) → y.event.status ≡ Ended
      status_is u i l y = done_ended y.event.status _ _ _ y.status (done u i t l)

      same_sent : (c).event.sent ≡ (d).event.sent
      same_sent = by (c).real
        where
          by : Is_real t → (c).event.sent ≡ (d).event.sent
          by r = (let m = e.sent r.index (c).event (ap (λ n. (s.cells n).event) (sym r.ticket_is) ∙ (c).event_is) in
              let n = f.sent r.index (d).event (ap (λ n. (v.cells n).event) (sym r.ticket_is) ∙ (d).event_is) in
              m.exactly (status_is s e known c) ∙ ap (shares kind b batches r.index) (some_same m.job n.job (sym m.job_is ∙ n.job_is)) ∙ sym (n.exactly (status_is v f known' d)))

      cell_same : s.cells t ≡ v.cells t
      cell_same = same_cell (s.cells t) (v.cells t)
          ((c).event_is ∙ ap Some (same_event (c).event (d).event (actor_is s e known c ∙ sym (actor_is v f known' d)) (nothing_held s e known c ∙ sym (nothing_held v f known' d)) same_sent (status_is s e known c ∙ sym (status_is v f known' d))) ∙ sym (d).event_is)
          (λ n. (complete s e).no_mails t n ∙ sym ((complete v f).no_mails t n))
          ((c).result ∙ ap (course.result t) (pos_is s e t known ∙ sym (pos_is v f t known')) ∙ sym (d).result)

    same_cells : (t : ℕ) → s.cells t ≡ v.cells t
    same_cells t = elim (below_or b.before t) [
      | inr l ↦ none (λ a m. past _ _ a l)
      | inl l ↦ elim (below_or (g s e).lines.admitted t) [
        | inl m ↦ none (λ a n. past _ _ m n)
        | inr m ↦ cell_same t l m
      ]
    ]
      where
        none : (b.before < t → t ≤ (g s e).lines.admitted → ⊥) → s.cells t ≡ v.cells t
        none n = (x s e).no_cells t n ∙ sym ((x v f).no_cells t (λ a m. n a (subst (λ i. t ≤ i) (sym same_known) m)))

    -- the contexts
    same_trail : (p : Path) → IsThere s e p → IsThere v f p → SameTrail ((g s e).trail p) ((g v f).trail p)
    same_trail p a c = record {
      last = last;
      at = λ i l. elim (less_or i ((g s e).trail p).last l) [
        | inl m ↦ Sited.one_seen kind owes b batches begins jobs _ _ i p ((e.knows).past.seen p i m) ((f.knows).past.seen p i (subst (λ n. i < n) last m))
        | inr q ↦ ap ((g s e).trail p).at q ∙ a.sits.0 ∙ ap (λ n. (places_alone kind.system b batches n).fields p) same_done ∙ sym c.sits.0 ∙ ap ((g v f).trail p).at (sym (q ∙ last))
      ];
    }
      where
        last : ((g s e).trail p).last ≡ ((g v f).trail p).last
        last = a.sits.1 ∙ ap (Sited.shifts kind owes b batches begins jobs p) same_done ∙ sym c.sits.1

    same_body : (p : Path) (a : IsThere s e p) (c : IsThere v f p) → a.body ≡ c.body
    same_body p a c = same_record a.body c.body (a.fields ∙ ap (λ n. (at n).tree.fields p) same_done ∙ sym c.fields)
        (same_children (a.body).children (c.body).children (a.steps ∙ ap (λ n. children_of (at n).tree p) same_done ∙ sym c.steps)
        (subst (λ us. Rattle.std.specs.List.Sorted.IsStrictlySortedBy Rattle.wave_base.specs.Paths.step_cmp us) (sym a.steps) (kids_sorted p (at s.head.done).tree.paths (Plans.holds kind owes b batches begins jobs s.head.done).ordered)) kid)
      where
        kid : (st : Step) (i j : Child) → child_at (a.body).children st ≡ Some i → child_at (c.body).children st ≡ Some j → i ≡ j
        kid st i j y z =
            let y' : child_at ((g s e).body p).children st ≡ Some i = subst (λ (r : Record F). child_at r.children st ≡ Some i) a.body_same y in
            let z' : child_at ((g v f).body p).children st ≡ Some j = subst (λ (r : Record F). child_at r.children st ≡ Some j) c.body_same z in
            let th : there (at s.head.done).tree (p ++ st ∷ []) ≡ true = any_child p st (at s.head.done).tree.paths ∙ ap (λ us. list_any (step_eq st) us) (sym a.steps) ∙ kid_in (a.body).children st i y in
            let same = same_trail (p ++ st ∷ []) (there_is s e (p ++ st ∷ []) th) (there_is v f (p ++ st ∷ []) (sym (same_there (p ++ st ∷ [])) ∙ th)) in
            same_child i j
            (ap (λ o. (child_or_new o 0).given) (sym y') ∙ ((x s e).entries p).given st ∙ given_is s e (p ++ st ∷ []) ∙ ap (rank w (p ++ st ∷ [])) same_known ∙ sym (given_is v f (p ++ st ∷ [])) ∙ sym (((x v f).entries p).given st) ∙ ap (λ o. (child_or_new o 0).given) z')
            (((x s e).entries p).births st i y' ∙ same.at 0 (least _) ∙ sym (((x v f).entries p).births st j z'))
          where
            least : (n : ℕ) → 0 ≤ n
            least n = omega arith

    served_is : (u : State A F R J) (i : End u) (p : Path) → ((g u i).entry p).served ≡ rank w p (g u i).lines.admitted
    served_is u i p = ((x u i).entries p).served ∙ sym (Live.all_served kind owes b batches begins jobs u (k u i) i.crew i.some_worker i.finished p)

    entry_same : (p : Path) (a : IsThere s e p) (c : IsThere v f p) → (g s e).entry p ≡ (g v f).entry p
    entry_same p a c = same_entry ((g s e).entry p) ((g v f).entry p)
        (a.body_is ∙ ap Some (same_body p a c) ∙ sym c.body_is)
        (a.no_holders ∙ sym c.no_holders)
        (served_is s e p ∙ ap (rank w p) same_known ∙ sym (served_is v f p))
        (λ j. a.no_waits j ∙ sym (c.no_waits j))
        (((x s e).entries p).moves ∙ (same_trail p a c).last ∙ sym ((x v f).entries p).moves)

    same_columns : (p : Path) → s.columns p ≡ v.columns p
    same_columns p = elim (bool_cases (there (at s.head.done).tree p)) [
      | inl th ↦ stays (there_is s e p th) (there_is v f p (sym (same_there p) ∙ th))
      | inr off ↦ (let a = unborn s e (born_is s e p ∙ off) in let c = unborn v f (born_is v f p ∙ sym (same_there p) ∙ off) in
          same_column (s.columns p) (v.columns p) (λ h. a.empty.no_entry h ∙ sym (c.empty.no_entry h)) (λ h. a.empty.no_marks h ∙ sym (c.empty.no_marks h)))
    ]
      where
        unborn : (u : State A F R J) (i : End u) → (g u i).born p ≡ false → Shows.Unborn kind.system w course b.before Is_real (g u i) p (u.columns p)
        unborn u i q = subst (λ z. Shows.ColumnShows kind.system w course b.before Is_real z (g u i) p (u.columns p)) q ((x u i).columns p)

        stays : IsThere s e p → IsThere v f p → s.columns p ≡ v.columns p
        stays a c = (let same = same_trail p a c in same_column (s.columns p) (v.columns p)
            (same_stores (s.columns p) (v.columns p) _ _ a.track.track c.track.track same a.stored c.stored (a.track.there a.stored ∙ ap Some (entry_same p a c) ∙ sym (c.track.there c.stored)))
            (same_marks (s.columns p) (v.columns p) _ _ a.track.track c.track.track same a.stored c.stored))

    pub one_end : s ≡ v
    one_end = same_state s v
        ((x s e).before ∙ sym (x v f).before)
        ((k s e).heads.head_is ∙ ap (λ n. (at n).head) same_done ∙ sym (k v f).heads.head_is)
        (admitted_all s e ∙ same_done ∙ sym (admitted_all v f))
        same_cells
        same_columns
        (λ u. (e.finished).idle u ∙ sym ((f.finished).idle u))

  -- what is known of the state to which a finished run leads
  pub ends : (crew : ℕ) → 0 < crew → (labels : List Label) (s : State A F R J) → run kind.system crew (start_state b batches) labels ≡ Some s → Finished kind.system crew s → End s
  ends crew some labels s r fin = (let h = Balances.spending kind owes b batches begins jobs some_host crew labels s r in
      record { crew = crew; some_worker = some; finished = fin; knows = Past.knows kind owes b batches begins jobs some_host crew labels s r; sent = Mailed.sent kind owes b batches begins jobs s h.good h.kept.balance })
