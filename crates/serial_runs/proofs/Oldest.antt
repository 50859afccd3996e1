-- The drive of the oldest rule is serial: a ticket is admitted only once nothing is left of the one before it.
use Rattle.std.proofs.Common.{◌≡◌, ℕ, suc, ◌+◌, ◌<◌, ◌≤◌, ◌⊎◌, inl, inr, nat_lt, Bool, true, false, Some, None, is_some, List, [], ◌∷◌, refl, sym, ◌∙◌, ap, subst, arith}
use Rattle.std.specs.Prelude.{All, if◌then◌else◌, slice_get}
use Rattle.std.specs.List.{AllByRecursion}
use Rattle.std.proofs.lemmas.Bool.Decides.{nat_tests}
use Rattle.wave_base.specs.Fold.{Head, Progress}
use Rattle.wave_states.specs.States.{State, Cell, Event, Hand, Mail, Letter, Enter, Visit, Back, Release, Transfer, Status, Ready, Ended}
use Rattle.wave_states.specs.Labels.{Act, Label, Stop, Free, Land, ticket_of, is_stop}
use Rattle.wave_states.specs.Steps.{step}
use Rattle.wave_states.specs.Canonical.{enabled_labels}
use Rattle.wave_states.specs.Runs.{IsDrive, least, oldest}
use Rattle.wave_states.specs.Kinds.{Kind}
use Rattle.wave_states.specs.Owes.{Owes, IsBegin}
use Rattle.wave_states.specs.Begins.{Begin, start_state}
use Rattle.wave_states.specs.Alone.{fold_alone, job_after}
use Rattle.wave_theory.specs.Doable.{Doable}
use Rattle.wave_theory.specs.Listed.{IsIn, LowerAreOut, Rising}
use Rattle.wave_theory.specs.Reads.{SameElse}
use Rattle.wave_theory.proofs.Basics.{bool_cases, clash, none_not, options, if_some, number_cases, not_same}
use Rattle.wave_theory.proofs.Order.{Way, Done}
use Rattle.wave_theory.proofs.Leaves.{Course}
use Rattle.wave_theory.proofs.Stages.{entering_done, lined_done, coming_done}
use Rattle.wave_theory.proofs.Agreed.{done_ended}
use Rattle.wave_theory.proofs.Shows
use Rattle.wave_theory.proofs.Courses
use Rattle.wave_theory.proofs.Folds
use Rattle.wave_theory.proofs.Told
use Rattle.wave_theory.proofs.Live
use Rattle.wave_theory.proofs.Deeds
use Rattle.wave_theory.proofs.Canon
use Rattle.wave_theory.proofs.InHand
use Rattle.wave_theory.proofs.Doing
use Rattle.wave_theory.proofs.Reading
use Rattle.wave_theory.proofs.Along
use Rattle.wave_theory.proofs.GoodStates.{Good_state}
use Rattle.wave_theory.proofs.GoodStates
use Rattle.serial_runs.proofs.Causes.{Cause, By_mail, By_claim, By_status, By_hand, By_head, By_result, by_crew, cause_of}

below_or : (a c : ℕ) → (a < c) ⊎ (c ≤ a)
below_or a c = grind arith

past : (a c : ℕ) → a < c → c ≤ a → ⊥
past a c l m = omega (arith, l, m)

at_or : (a c : ℕ) → a ≤ c → (a ≡ c) ⊎ (a < c)
at_or a c l = grind arith

ready_ended : (p : _) → Ready p ≡ Ended → ⊥
ready_ended p e = grind arith

outside : (a n : ℕ) → a ≤ n → nat_lt n a ≡ true → ⊥
outside a n l e = grind (arith, nat_tests)

-- the least ticket of a list
least_is : (l : Label) (ls : List Label) → (ticket_of (least l ls).act ≤ ticket_of l.act) × ((m : Label) → IsIn ls m → ticket_of (least l ls).act ≤ ticket_of m.act)
least_is l [] = (omega arith, λ m i. absurd i)
least_is l (n ∷ ls) = by (nat_lt (ticket_of n.act) (ticket_of l.act)) refl (least_is n ls) (least_is l ls)
  where
    down : (a b c : ℕ) → a ≤ b → nat_lt b c ≡ true → a ≤ c
    down a b c l e = grind (arith, nat_tests)

    over : (a b c : ℕ) → a ≤ b → nat_lt c b ≡ false → a ≤ c
    over a b c l e = grind (arith, nat_tests)

    by : (i : Bool) → nat_lt (ticket_of n.act) (ticket_of l.act) ≡ i → (ticket_of (least n ls).act ≤ ticket_of n.act) × ((m : Label) → IsIn ls m → ticket_of (least n ls).act ≤ ticket_of m.act) →
        (ticket_of (least l ls).act ≤ ticket_of l.act) × ((m : Label) → IsIn ls m → ticket_of (least l ls).act ≤ ticket_of m.act) →
        (ticket_of (if i then least n ls else least l ls).act ≤ ticket_of l.act) × ((m : Label) → IsIn (n ∷ ls) m → ticket_of (if i then least n ls else least l ls).act ≤ ticket_of m.act)
    by true e a c = (down _ _ _ a.0 e, λ m i. elim i [ inl z ↦ subst (λ (u : Label). ticket_of (least n ls).act ≤ ticket_of u.act) z a.0 | inr z ↦ a.1 m z ])
    by false e a c = (c.0, λ m i. elim i [ inl z ↦ subst (λ (u : Label). ticket_of (least l ls).act ≤ ticket_of u.act) z (over _ _ _ c.0 e) | inr z ↦ c.1 m z ])

module _ {A F R J : Type 0} (kind : Kind A F R J) (owes : Owes kind) (b : Begin F) (batches : List (List J)) (begins : IsBegin kind b) (jobs : All (All kind.is_job) batches) (some_host : 0 < kind.hosts) (workers : ℕ) (some_worker : 0 < workers) where
  abbrev w : Way
  w = Courses.w kind owes b batches begins jobs

  abbrev course : Course kind.system
  course = Courses.course kind owes b batches begins jobs

  abbrev Is_real : ℕ → Type 0
  Is_real = Courses.Real kind owes b batches begins jobs

  abbrev Good : State A F R J → Type 0
  Good s = Good_state kind owes b batches begins jobs s

  abbrev at : ℕ → Progress F R J
  at n = fold_alone kind.system b batches n

  abbrev list : State A F R J → List Label
  list s = enabled_labels kind.system workers kind.hosts s

  -- nothing is left of the tickets before c, and nothing was begun of those behind it
  record Only (s : State A F R J) (k : Good s) (c : ℕ) : Type 0 where
    later : b.before < c
    last : (k.ghost).lines.admitted ≤ c
    near : c ≤ suc (k.ghost).lines.admitted
    committed : (u : ℕ) → u < c → u ≤ b.before + s.head.done
    no_mails : (u i : ℕ) → u < c → (s.cells u).mails i ≡ None
    out : (v : ℕ) (h : Hand A F) → s.hands v ≡ Some h → h.ticket ≡ c
    idle : (v : ℕ) → workers ≤ v → s.hands v ≡ None

  module _ (s : State A F R J) (k : Good s) (c : ℕ) (o : Only s k c) where
    abbrev g : Shows.Ghost F
    g = k.ghost

    x : Shows.Shows kind.system w course b.before Is_real s k.ghost
    x = k.shows

    next_is : suc (s.before + s.admitted) ≡ suc (g).lines.admitted
    next_is = same _ _ _ _ x.before x.admitted
      where
        same : (a c d l : ℕ) → a ≡ c → l ≡ c + d → suc (a + d) ≡ suc l
        same a c d l e f = omega (arith, e, f)

    -- a label is of ticket c, or of a later one
    not_before : (v t : ℕ) → Cause s v t → c ≤ t
    not_before v t y = elim (below_or t c) [
      | inr l ↦ l
      | inl l ↦ absurd (by l y)
    ]
      where
        over : t < c → (g).lines.stage t ≡ Done
        over l = Live.earlier_done kind owes b batches begins jobs s k t (o.committed t l)

        by : t < c → Cause s v t → ⊥
        by l (By_mail i m e) = none_not (sym (o.no_mails t i l) ∙ e)
        by l (By_claim p host en n e f q) = (let z = (Rattle.wave_theory.proofs.Found.found kind.system w course b.before Is_real k.ghost p (s.columns p) host en (x.columns p) e).entry_is in
            let y = (x.entries p).waits (suc en.served) n (ap (λ (u : Rattle.wave_states.specs.States.Entry F). u.waiting (suc en.served)) (sym z) ∙ f) in lined_done (sym y.stage ∙ ap (g).lines.stage q ∙ over l))
        by l (By_status event p e f) = (let n = GoodStates.known kind owes b batches begins jobs s k.ghost x t (GoodStates.event_there kind owes b batches begins jobs (s.cells t) event e) in
            let d = x.cells t n.0 n.1 in
            ready_ended p (sym (ap (λ (u : Event A). u.status) (Rattle.wave_theory.proofs.Basics.some_same d.event event (sym d.event_is ∙ e)) ∙ f) ∙ done_ended d.event.status _ _ _ d.status (over l)))
        by l (By_hand h e q) = past t c l (same _ _ _ q (o.out v h e))
          where
            same : (a t c : ℕ) → a ≡ t → a ≡ c → c ≤ t
            same a t c e f = omega (arith, e, f)
        by l (By_head j e q) = past t c l (subst (λ n. c ≤ n) (sym (q ∙ next_is)) o.near)
        by l (By_result r e q) = past t (suc (s.before + s.head.done)) (under _ _ _ _ (o.committed t l) x.before) (upto _ _ q)
          where
            under : (t a d c : ℕ) → t ≤ c + d → a ≡ c → t < suc (a + d)
            under t a d c l e = omega (arith, l, e)

            upto : (t n : ℕ) → t ≡ n → n ≤ t
            upto t n e = omega (arith, e)

    -- what is picked has the least ticket of all that can be taken
    module _ (t : ℕ) (leads : (m : Label) → IsIn (list s) m → t ≤ ticket_of m.act) where
      leads_all : (m : Label) → is_some (step kind.system workers s m) ≡ true → (is_stop m.act ≡ false → LowerAreOut s m.worker) → t ≤ ticket_of m.act
      leads_all m e f = leads m ((Canon.listed kind owes b batches begins jobs s k workers m).1 (e, f))

      leads_first : (host : ℕ) (a : Act) → is_some (step kind.system workers s (record { worker = 0; host = host; act = a })) ≡ true → t ≤ ticket_of a
      leads_first host a e = leads_all (record { worker = 0; host = host; act = a }) e (λ n v l. absurd (below_zero v l))
        where
          below_zero : (v : ℕ) → v < 0 → ⊥
          below_zero v l = omega (arith, l)

      -- a later ticket is picked once nothing is left of c: it is the next one
      module _ (l : c < t) where
        none_out : (v : ℕ) → s.hands v ≡ None
        none_out v = elim (options (s.hands v)) [
          | inl e ↦ e
          | inr h ↦ (let y = InHand.can_stop kind owes b batches begins jobs s k v h.0 h.1 workers (InHand.below_workers workers s v h.0 h.1 o.idle) in
              absurd (past c t l (subst (λ n. t ≤ n) (o.out v h.0 h.1) (leads_all (record { worker = v; host = y.host; act = Stop (h.0).ticket (h.0).path }) y.enabled (λ n. absurd (clash true refl n))))))
        ]

        not_there : s.cells t ≡ record { event = None; mails = λ i. None; result = None }
        not_there = x.no_cells t (λ a m. past _ _ (through _ _ _ o.last l) m)
          where
            through : (a c t : ℕ) → a ≤ c → c < t → a < t
            through a c t l m = omega (arith, l, m)

        is_next : (v : ℕ) → Cause s v t → (t ≡ suc (g).lines.admitted) × (j : J) × (slice_get s.head.known s.admitted ≡ Some j)
        is_next v (By_mail i m e) = absurd (GoodStates.mail_there kind owes b batches begins jobs (s.cells t) i m e not_there)
        is_next v (By_claim p host en n e f q) = (let z = (Rattle.wave_theory.proofs.Found.found kind.system w course b.before Is_real k.ghost p (s.columns p) host en (x.columns p) e).entry_is in
            let y = (x.entries p).waits (suc en.served) n (ap (λ (u : Rattle.wave_states.specs.States.Entry F). u.waiting (suc en.served)) (sym z) ∙ f) in
            absurd (past c t l (through _ _ _ (subst (λ i. i ≤ (g).lines.admitted) q y.known) o.last)))
          where
            through : (a d c : ℕ) → a ≤ d → d ≤ c → a ≤ c
            through a d c l m = omega (arith, l, m)
        is_next v (By_status event p e f) = absurd (GoodStates.event_there kind owes b batches begins jobs (s.cells t) event e not_there)
        is_next v (By_hand h e q) = absurd (none_not (sym (none_out v) ∙ e))
        is_next v (By_head j e q) = (q ∙ next_is, j, e)
        is_next v (By_result r e q) = absurd (none_not (sym (ap (λ (u : Cell A F R). u.result) not_there) ∙ e))

        module _ (n : (t ≡ suc (g).lines.admitted) × (j : J) × (slice_get s.head.known s.admitted ≡ Some j)) where
          -- all that were admitted are committed
          all_done : s.admitted ≤ s.head.done
          all_done = elim (Live.never_stuck kind owes b batches begins jobs s k workers 0 (suc s.admitted) some_worker (none_out 0) more).2 [
            | inr out ↦ absurd (none_not (sym (none_out out.worker) ∙ out.there))
            | inl can ↦ few _ _ _ _ _ n.0 x.admitted (Live.never_stuck kind owes b batches begins jobs s k workers 0 (suc s.admitted) some_worker (none_out 0) more).1 (subst (λ i. t ≤ i) can.of_ticket (leads_first can.host can.act can.enabled))
          ]
            where
              kj : ((at s.admitted).head.done ≡ s.admitted) × (job_after kind.system b batches s.admitted ≡ Some n.1)
              kj = Folds.known_job kind.system b batches s.head.done s.admitted n.1 (ap (λ (u : Head J). u.done) (sym (k.heads).head_is)) (ap (λ (u : Head J). slice_get u.known s.admitted) (sym (k.heads).head_is) ∙ n.2) (k.heads).few

              done_next : (at (suc s.admitted)).head.done ≡ suc s.admitted
              done_next = ap (λ (v : Progress F R J). v.head.done) (Told.goes_on kind owes b batches begins jobs s.admitted n.1 kj.1) ∙ Folds.with_done_done (at s.admitted).head _ ∙ ap suc kj.0

              more : s.head.done < (at (suc s.admitted)).head.done
              more = less _ _ _ (k.heads).few done_next
                where
                  less : (d a m : ℕ) → d ≤ a → m ≡ suc a → d < m
                  less d a m l e = omega (arith, l, e)

              few : (t d a z u : ℕ) → t ≡ suc d → d ≡ b.before + a → u ≤ suc (b.before + z) → t ≤ u → a ≤ z
              few t d a z u e f l m = omega (arith, e, f, l, m)

          -- and nothing is under way
          nothing : (i : ℕ) → (s.cells c).mails i ≡ None
          nothing i = elim (options ((s.cells c).mails i)) [
            | inl e ↦ e
            | inr m ↦ absurd (by m.0 m.1 (m.0).letter refl)
          ]
            where
              over : (g).lines.stage c ≡ Done
              over = Live.earlier_done kind owes b batches begins jobs s k c (up _ _ _ _ o.last x.admitted all_done (less _ _ _ l n.0))
                where
                  up : (a c s d : ℕ) → a ≤ c → a ≡ b.before + s → s ≤ d → c ≤ a → c ≤ b.before + d
                  up a c s d l e m q = omega (arith, l, e, m, q)

                  less : (c t a : ℕ) → c < t → t ≡ suc a → c ≤ a
                  less c t a l e = omega (arith, l, e)

              shown : (m : Mail F) → (s.cells c).mails i ≡ Some m → Shows.MailShows kind.system w course b.before Is_real k.ghost c i m.host m.path m.letter
              shown m e = (let z = GoodStates.known kind owes b batches begins jobs s k.ghost x c (GoodStates.mail_there kind owes b batches begins jobs (s.cells c) i m e) in (x.cells c z.0 z.1).mails i m e)

              doable : Doable kind workers b batches s
              doable = Doing.doable kind owes b batches begins jobs s k workers

              by : (m : Mail F) → (s.cells c).mails i ≡ Some m → (r : Letter F) → m.letter ≡ r → ⊥
              by m e (Enter a) q = entering_done (sym (subst (Shows.MailShows kind.system w course b.before Is_real k.ghost c i m.host m.path) q (shown m e)).stage ∙ over)
              by m e Visit q = coming_done (sym (subst (Shows.MailShows kind.system w course b.before Is_real k.ghost c i m.host m.path) q (shown m e)).stage ∙ over)
              by m e Back q = coming_done (sym (subst (Shows.MailShows kind.system w course b.before Is_real k.ghost c i m.host m.path) q (shown m e)).stage ∙ over)
              by m e Release q = past c t l (leads_first m.host (Free c i m.path) (doable.frees c i m e q 0 some_worker (none_out 0)))
              by m e (Transfer en) q = past c t l (leads_first m.host (Land c i m.path) (doable.lands c i m en e q 0 some_worker (none_out 0)))

          on : Only s k t
          on = record {
            later = above _ _ _ o.later l;
            last = under _ _ n.0;
            near = same _ _ n.0;
            committed = λ u m. up _ _ _ _ _ m n.0 x.admitted all_done;
            no_mails = λ u i m. elim (at_or u c (less _ _ _ _ m n.0 o.last)) [
              | inl e ↦ subst (λ a. (s.cells a).mails i ≡ None) (sym e) (nothing i)
              | inr q ↦ o.no_mails u i q
            ];
            out = λ v h e. absurd (none_not (sym (none_out v) ∙ e));
            idle = o.idle;
          }
            where
              above : (a c t : ℕ) → a < c → c < t → a < t
              above a c t l m = omega (arith, l, m)

              under : (t a : ℕ) → t ≡ suc a → a ≤ t
              under t a e = omega (arith, e)

              same : (t a : ℕ) → t ≡ suc a → t ≤ suc a
              same t a e = omega (arith, e)

              up : (u t a s d : ℕ) → u < t → t ≡ suc a → a ≡ b.before + s → s ≤ d → u ≤ b.before + d
              up u t a s d l e f m = omega (arith, l, e, f, m)

              less : (u t a c : ℕ) → u < t → t ≡ suc a → a ≤ c → u ≤ c
              less u t a c l e m = omega (arith, l, e, m)

    -- a label of ticket c leaves it so
    stays : (v : State A F R J) (l : Label) (e : step kind.system workers s l ≡ Some v) → ticket_of l.act ≡ c → Only v (Along.step_follows kind owes b batches begins jobs some_host workers s v k l e).good c
    stays v l e t = record {
      later = o.later;
      last = admitted_next.0;
      near = admitted_next.1;
      committed = λ u m. up _ _ _ (o.committed u m) (cause_of kind.system workers s v l e).1.done;
      no_mails = λ u i m. ap (λ (z : Cell A F R). z.mails i) (else_same.cells u (λ q. apart u c m (q ∙ t))) ∙ o.no_mails u i m;
      out = λ u h f. elim (number_cases u l.worker) [
        | inl q ↦ (cause_of kind.system workers s v l e).1.hand h (ap v.hands (sym q) ∙ f) ∙ t
        | inr q ↦ o.out u h (sym (else_same.hands u (not_same u l.worker q)) ∙ f)
      ];
      idle = λ u m. else_same.hands u (λ q. in_crew u m q) ∙ o.idle u m;
    }
      where
        else_same : SameElse l s v
        else_same = Reading.changes kind.system workers s v l e

        up : (u d z : ℕ) → u ≤ b.before + d → d ≤ z → u ≤ b.before + z
        up u d z l m = omega (arith, l, m)

        apart : (u c : ℕ) → u < c → u ≡ c → ⊥
        apart u c l e = omega (arith, l, e)

        in_crew : (u : ℕ) → workers ≤ u → u ≡ l.worker → ⊥
        in_crew u m q = outside workers l.worker (subst (λ n. workers ≤ n) q m) (by_crew kind.system workers s v l e)

        follows : Along.Follows kind owes b batches begins jobs some_host workers s v k l
        follows = Along.step_follows kind owes b batches begins jobs some_host workers s v k l e

        admitted_next : (((follows.good).ghost).lines.admitted ≤ c) × (c ≤ suc ((follows.good).ghost).lines.admitted)
        admitted_next = (let y = Deeds.how_many kind.system w course b.before Is_real s k.ghost ((follows.good).ghost) (ticket_of l.act) (Rattle.wave_states.specs.Labels.path_of l.act) (follows.turn).deed (follows.turn).fits in
            let z : ((follows.good).ghost).lines.admitted ≡ (Deeds.done_by w (Deeds.outline k.ghost) (ticket_of l.act) (Rattle.wave_states.specs.Labels.path_of l.act) (follows.turn).deed).admitted = ap (λ (u : Deeds.Outline). u.admitted) (follows.turn).is in
            elim y [
              | inl q ↦ subst (λ n. (n ≤ c) × (c ≤ suc n)) (sym (z ∙ q)) (o.last, o.near)
              | inr q ↦ subst (λ n. (n ≤ c) × (c ≤ suc n)) (sym (z ∙ q.0)) (subst (λ n. (n ≤ c) × (c ≤ suc n)) (sym t ∙ q.1) (both c))
            ])
          where
            both : (n : ℕ) → (n ≤ n) × (n ≤ suc n)
            both n = (omega arith, omega arith)

  -- one pick more
  next : (s v : State A F R J) (k : Good s) (c : ℕ) (o : Only s k c) (l : Label) (e : step kind.system workers s l ≡ Some v) → ((m : Label) → IsIn (list s) m → ticket_of l.act ≤ ticket_of m.act) →
      (c ≤ ticket_of l.act) × Only v (Along.step_follows kind owes b batches begins jobs some_host workers s v k l e).good (ticket_of l.act)
  next s v k c o l e leads = (let y = (cause_of kind.system workers s v l e).0 in let z = not_before s k c o l.worker (ticket_of l.act) y in (
    z,
    elim (at_or c (ticket_of l.act) z) [
      | inl q ↦ stays s k (ticket_of l.act) (subst (Only s k) q o) v l e refl
      | inr q ↦ stays s k (ticket_of l.act) (on s k c o (ticket_of l.act) leads q (is_next s k c o (ticket_of l.act) leads q l.worker y)) v l e refl
    ],
  ))

  least_leads : (x : ℕ) (s : State A F R J) (l : Label) (ls : List Label) → (oldest x s ls).1 ≡ Some l → (m : Label) → IsIn ls m → ticket_of l.act ≤ ticket_of m.act
  least_leads x s l [] e m i = absurd i
  least_leads x s l (n ∷ ls) e m i = subst (λ (u : Label). ticket_of u.act ≤ ticket_of m.act) (Rattle.wave_theory.proofs.Basics.some_same (least n ls) l e) (elim i [
    | inl z ↦ subst (λ (u : Label). ticket_of (least n ls).act ≤ ticket_of u.act) z (least_is n ls).0
    | inr z ↦ (least_is n ls).1 m z
  ])

  all_above : (a c : ℕ) (ls : List Label) → a ≤ c → AllByRecursion (λ (m : Label). c ≤ ticket_of m.act) ls → AllByRecursion (λ (m : Label). a ≤ ticket_of m.act) ls
  all_above a c [] l h = tt
  all_above a c (m ∷ ls) l h = (through _ _ _ l h.0, all_above a c ls l h.1)
    where
      through : (a c d : ℕ) → a ≤ c → c ≤ d → a ≤ d
      through a c d l m = omega (arith, l, m)

  rises : (x : ℕ) (s : State A F R J) (k : Good s) (c : ℕ) → Only s k c → (ls : List Label) → IsDrive kind.system workers kind.hosts oldest x s ls →
      AllByRecursion (λ (m : Label). c ≤ ticket_of m.act) ls × Rising (λ (l m : Label). ticket_of l.act ≤ ticket_of m.act) ls
  unfolding IsDrive
  rises x s k c o [] d = (tt, tt)
  rises x s k c o (l ∷ ls) d =
      let n = next s d.1 k c o l d.2 (least_leads x s l (list s) d.0) in
      let r = rises (oldest x s (list s)).0 d.1 (Along.step_follows kind owes b batches begins jobs some_host workers s d.1 k l d.2).good (ticket_of l.act) n.1 ls d.3 in
      ((n.0, all_above c (ticket_of l.act) ls n.0 r.0), (r.0, r.1))

  first_only : Only (start_state b batches) (Along.first kind owes b batches begins jobs some_host workers) (suc b.before)
  first_only = record {
    later = omega arith;
    last = over _ (Along.first kind owes b batches begins jobs some_host workers).shows.admitted;
    near = under _ (Along.first kind owes b batches begins jobs some_host workers).shows.admitted;
    committed = λ u l. early u _ l;
    no_mails = λ u i l. refl;
    out = λ v h e. absurd (none_not e);
    idle = λ v l. refl;
  }
    where
      over : (a : ℕ) → a ≡ b.before + 0 → a ≤ suc b.before
      over a e = omega (arith, e)

      under : (a : ℕ) → a ≡ b.before + 0 → suc b.before ≤ suc a
      under a e = omega (arith, e)

      early : (u d : ℕ) → u < suc b.before → u ≤ b.before + d
      early u d l = omega (arith, l)

  pub serial : (x : ℕ) (labels : List Label) → IsDrive kind.system workers kind.hosts oldest x (start_state b batches) labels → Rising (λ (l m : Label). ticket_of l.act ≤ ticket_of m.act) labels
  serial x labels d = (rises x (start_state b batches) (Along.first kind owes b batches begins jobs some_host workers) (suc b.before) first_only labels d).1
