-- No number of a state is larger than the work of the fold has it.
use Rattle.std.proofs.Common.{◌≡◌, ◌≢◌, ℕ, zero, suc, ◌+◌, ◌<◌, ◌≤◌, ◌⊎◌, inl, inr, Bool, true, false, Option, Some, None, List, [], ◌∷◌, ◌++◌, length, refl, sym, ◌∙◌, ap, ap₂, subst, arith}
use Rattle.std.specs.Prelude.{All, if◌then◌else◌, slice_get}
use Rattle.wave_base.specs.declared.path.Step.{Step}
use Rattle.wave_base.specs.declared.path.Path.{Path}
use Rattle.wave_base.specs.declared.children.Child.{Child}
use Rattle.wave_base.specs.Kids.{child_at}
use Rattle.wave_base.specs.Fold.{Head, Progress, next_job}
use Rattle.wave_states.specs.Kinds.{Kind}
use Rattle.wave_states.specs.States.{State, Ask, Cell, Claim, Entry, Event, Mail, Mark, Record, Enter}
use Rattle.wave_states.specs.Steps.{child_or_new}
use Rattle.wave_states.specs.Labels.{Label}
use Rattle.wave_states.specs.Runs.{run}
use Rattle.wave_states.specs.Alone.{fold_alone, job_after}
use Rattle.wave_states.specs.Work.{WorkNumbers, work_after, work_of_job}
use Rattle.wave_states.specs.Begins.{Begin, start_state, is_root}
use Rattle.wave_states.specs.Owes.{Owes, IsBegin}
use Rattle.wave_theory.proofs.Basics.{none_not, options, bool_cases}
use Rattle.wave_theory.proofs.Order.{Way, visits, rank}
use Rattle.wave_theory.proofs.Leaves.{Course}
use Rattle.wave_theory.proofs.Courses
use Rattle.wave_theory.proofs.Courses.{done_at}
use Rattle.wave_theory.proofs.Beginning
use Rattle.wave_theory.proofs.Shows
use Rattle.wave_theory.proofs.Folds
use Rattle.wave_theory.proofs.Live
use Rattle.wave_theory.proofs.Sizes
use Rattle.wave_theory.proofs.Told
use Rattle.wave_theory.proofs.Arrivals
use Rattle.wave_theory.proofs.Noted
use Rattle.wave_theory.proofs.Few
use Rattle.wave_theory.proofs.Balances
use Rattle.wave_theory.proofs.Mailed
use Rattle.wave_theory.proofs.GoodStates.{Good_state}
use Rattle.wave_theory.proofs.GoodStates
use Rattle.wave_theory.specs.Numbers.{HasEntry}
use Rattle.wave_theory.specs.Counted.{most_moves}
use Rattle.wave_theory.specs.Sent.{Within, shares}

-- a rank is at most the ticket
rank_least : (w : Way) (p : Path) (t : ℕ) → rank w p t ≤ t
unfolding rank
rank_least w p zero = omega arith
rank_least w p (suc t) = by (visits w (suc t) p) (rank_least w p t)
  where
    by : (i : Bool) → rank w p t ≤ t → (if i then suc (rank w p t) else rank w p t) ≤ suc t
    by true l = omega (arith, l)
    by false l = omega (arith, l)

rank_add : (w : Way) (p : Path) (a m : ℕ) → rank w p (m + a) ≤ m + rank w p a
unfolding rank
rank_add w p a zero = subst (λ n. rank w p n ≤ 0 + rank w p a) (let z : a ≡ 0 + a = omega arith in z) (omega arith)
rank_add w p a (suc m) = subst (λ n. rank w p n ≤ suc m + rank w p a) (let z : suc (m + a) ≡ suc m + a = omega arith in z) (by (visits w (suc (m + a)) p) (rank_add w p a m))
  where
    by : (i : Bool) → rank w p (m + a) ≤ m + rank w p a → (if i then suc (rank w p (m + a)) else rank w p (m + a)) ≤ suc m + rank w p a
    by true l = omega (arith, l)
    by false l = omega (arith, l)

-- the last of a list that isn't empty
last_get : (ts : List ℕ) (n : ℕ) → length ts ≡ suc n → (t : ℕ) × (slice_get ts n ≡ Some t)
last_get [] n e = absurd (omega (arith, e))
last_get (t ∷ ts) zero e = (t, refl)
last_get (t ∷ ts) (suc n) e = last_get ts n (omega (arith, e))

module _ {A F R J : Type 0} (kind : Kind A F R J) (owes : Owes kind) (b : Begin F) (batches : List (List J)) (begins : IsBegin kind b) (jobs : All (All kind.is_job) batches) where
  abbrev w : Way
  w = Courses.w kind owes b batches begins jobs

  abbrev course : Course kind.system
  course = Courses.course kind owes b batches begins jobs

  abbrev Is_real : ℕ → Type 0
  Is_real = Courses.Real kind owes b batches begins jobs

  abbrev at : ℕ → Progress F R J
  at n = fold_alone kind.system b batches n

  abbrev work : ℕ → WorkNumbers
  work n = work_after kind.system b batches n

  -- the tickets of the first jobs
  tickets_is : (n : ℕ) → (work n).tickets ≡ (at n).head.done
  tickets_is zero = sym (Folds.zero_done kind.system b batches)
  tickets_is (suc n) = elim (options (job_after kind.system b batches n)) [
    | inl e ↦ ap (λ o. (work_of_job kind.system b batches n (work n) o).tickets) e ∙ tickets_is n ∙ ap (λ (v : Progress F R J). v.head.done) (sym (Folds.stays kind.system b batches n e))
    | inr j ↦ ap (λ o. (work_of_job kind.system b batches n (work n) o).tickets) j.1 ∙ ap suc (tickets_is n) ∙ sym (ap (λ (v : Progress F R J). v.head.done) (Told.goes_on kind owes b batches begins jobs n j.0 j.1) ∙ Folds.with_done_done (at n).head _)
  ]

  -- each job has its share
  shares_in : (n i : ℕ) (j : J) → job_after kind.system b batches i ≡ Some j → suc i ≤ n → shares kind b batches i j ≤ (work n).segments + (work n).entered
  shares_in zero i j e l = absurd (omega (arith, l))
  shares_in (suc n) i j e l = elim (at_or_below i n l) [
    | inl m ↦ (let r = shares_in n i j e m in grows (job_after kind.system b batches n) r)
    | inr m ↦ subst (λ u. shares kind b batches u j ≤ (work (suc n)).segments + (work (suc n)).entered) (sym m) (mine (ap (job_after kind.system b batches) (sym m) ∙ e))
  ]
    where
      at_or_below : (a c : ℕ) → suc a ≤ suc c → (suc a ≤ c) ⊎ (a ≡ c)
      at_or_below a c l = grind arith

      grows : (o : Option J) → shares kind b batches i j ≤ (work n).segments + (work n).entered → shares kind b batches i j ≤ (work_of_job kind.system b batches n (work n) o).segments + (work_of_job kind.system b batches n (work n) o).entered
      grows None r = r
      grows (Some k) r = more _ _ _ _ _ r
        where
          more : (x a c d e : ℕ) → x ≤ a + c → x ≤ (a + d) + (c + e)
          more x a c d e l = omega (arith, l)

      mine : job_after kind.system b batches n ≡ Some j → shares kind b batches n j ≤ (work (suc n)).segments + (work (suc n)).entered
      mine z = subst (λ o. shares kind b batches n j ≤ (work_of_job kind.system b batches n (work n) o).segments + (work_of_job kind.system b batches n (work n) o).entered) (sym z) (add _ _ _ _)
        where
          add : (a c d e : ℕ) → d + e ≤ (a + d) + (c + e)
          add a c d e = omega arith

  module _ (n : ℕ) (over : job_after kind.system b batches n ≡ None) where
    index_below : (i : ℕ) (j : J) → job_after kind.system b batches i ≡ Some j → suc i ≤ n
    index_below i j e = elim (split i n) [
      | inl l ↦ l
      | inr d ↦ absurd (none_not (sym over ∙ sym (ap (λ (v : Progress F R J). next_job v.head) (Live.over_stays kind owes b batches begins jobs n d.0 over)) ∙ ap (job_after kind.system b batches) (sym d.1) ∙ e))
    ]
      where
        split : (i n : ℕ) → (suc i ≤ n) ⊎ ((d : ℕ) × (i ≡ d + n))
        split i zero = inr (i, omega arith)
        split zero (suc n) = inl (omega arith)
        split (suc i) (suc n) = elim (split i n) [ inl l ↦ inl (omega (arith, l)) | inr d ↦ inr (d.0, omega (arith, d.1)) ]

    -- so many jobs there are
    index_few : (i : ℕ) (j : J) → job_after kind.system b batches i ≡ Some j → suc i ≤ (work n).tickets
    index_few i j e = subst (λ m. suc i ≤ m) (sym (tickets_is n)) (subst (λ m. m ≤ (at n).head.done) d (Sizes.all_below kind owes b batches begins jobs n (suc i) over))
      where
        d : (at (suc i)).head.done ≡ suc i
        d = ap (λ (v : Progress F R J). v.head.done) (Told.goes_on kind owes b batches begins jobs i j e) ∙ Folds.with_done_done (at i).head _ ∙ ap suc (done_at kind owes b batches begins jobs i j e)

    known_few : (m : ℕ) (xs : List J) → ((i : ℕ) (j : J) → slice_get xs i ≡ Some j → suc i ≤ m) → length xs ≤ m
    known_few m [] f = omega arith
    known_few m (x ∷ xs) f = by (length xs) (last_of xs (length xs) refl)
      where
        last_of : (ys : List J) (l : ℕ) → length ys ≡ l → (j : J) × (slice_get (x ∷ ys) l ≡ Some j)
        last_of [] l e = (x, subst (λ u. slice_get (x ∷ []) u ≡ Some x) e refl)
        last_of (y ∷ ys) zero e = absurd (omega (arith, e))
        last_of (y ∷ ys) (suc l) e = get ys y l (omega (arith, e))
          where
            get : (ys : List J) (y : J) (l : ℕ) → length ys ≡ l → (j : J) × (slice_get (y ∷ ys) l ≡ Some j)
            get [] y l e = (y, subst (λ u. slice_get (y ∷ []) u ≡ Some y) e refl)
            get (z ∷ ys) y zero e = absurd (omega (arith, e))
            get (z ∷ ys) y (suc l) e = get ys z l (omega (arith, e))

        by : (l : ℕ) → (j : J) × (slice_get (x ∷ xs) l ≡ Some j) → suc l ≤ m
        by l j = f l j.0 j.1

    module _ (s : State A F R J) (k : Good_state kind owes b batches begins jobs s) where
      x : Shows.Shows kind.system w course b.before Is_real s k.ghost
      x = k.shows

      abbrev g : Shows.Ghost F
      g = k.ghost

      real_few : (t : ℕ) → Is_real t → t ≤ b.before + (work n).tickets
      real_few t r = up t b.before r.index (work n).tickets r.ticket_is (index_few r.index r.job r.job_is)
        where
          up : (t a i m : ℕ) → t ≡ suc a + i → suc i ≤ m → t ≤ a + m
          up t a i m e l = omega (arith, e, l)

      admitted_few : s.admitted ≤ (work n).tickets
      admitted_few = by s.admitted refl
        where
          by : (m : ℕ) → s.admitted ≡ m → m ≤ (work n).tickets
          by zero e = omega arith
          by (suc m) e = at_most _ _ _ (real_few (suc b.before + m) (x.cells (suc b.before + m) (omega arith) (within _ _ _ _ x.admitted e)).real)
            where
              within : (a d s m : ℕ) → a ≡ d + s → s ≡ suc m → suc d + m ≤ a
              within a d s m e f = omega (arith, e, f)

              at_most : (a m c : ℕ) → suc a + m ≤ a + c → suc m ≤ c
              at_most a m c l = omega (arith, l)

      tickets_few : (t : ℕ) → t ≤ (g).lines.admitted → t ≤ b.before + (work n).tickets
      tickets_few t l = trans t _ _ _ _ l x.admitted admitted_few
        where
          trans : (t a d s m : ℕ) → t ≤ a → a ≡ d + s → s ≤ m → t ≤ d + m
          trans t a d s m l e q = omega (arith, l, e, q)

      known_few_jobs : length s.head.known ≤ (work n).tickets
      known_few_jobs = known_few (work n).tickets s.head.known (λ i j e. elim (below_or i s.head.done) [
        | inl l ↦ done_few i l
        | inr l ↦ index_few i j (Folds.known_job kind.system b batches s.head.done i j (ap (λ (u : Head J). u.done) (sym (k.heads).head_is)) (ap (λ (u : Head J). slice_get u.known i) (sym (k.heads).head_is) ∙ e) l).1
      ])
        where
          below_or : (a c : ℕ) → (a < c) ⊎ (c ≤ a)
          below_or a c = grind arith

          done_few : (i : ℕ) → i < s.head.done → suc i ≤ (work n).tickets
          done_few i l = trans _ _ _ _ l (k.heads).few admitted_few
            where
              trans : (i d a m : ℕ) → i < d → d ≤ a → a ≤ m → suc i ≤ m
              trans i d a m l q r = omega (arith, l, q, r)

      mail_known : (t i : ℕ) (m : Mail F) → (s.cells t).mails i ≡ Some m → (b.before < t) × (t ≤ (g).lines.admitted)
      mail_known t i m e = GoodStates.known kind owes b batches begins jobs s k.ghost x t (λ q. none_not (sym (ap (λ (u : Cell A F R). u.mails i) q) ∙ e))

      entry_is : (p : Path) (en : Entry F) → HasEntry s p en → en ≡ (g).entry p
      entry_is p en h = Told.entry_same kind owes b batches begins jobs s k p en h

      trans_le : (a c d : ℕ) → a ≤ c → c ≤ d → a ≤ d
      trans_le a c d l m = omega (arith, l, m)

      asks_few : (t i : ℕ) (m : Mail F) (a : Ask) → (s.cells t).mails i ≡ Some m → m.letter ≡ Enter a → a.number ≤ b.before + (work n).tickets
      asks_few t i m a e l = (let q = mail_known t i m e in
          let y : Shows.EnterShows kind.system w course b.before Is_real k.ghost t i m.host m.path a = subst (Shows.MailShows kind.system w course b.before Is_real k.ghost t i m.host m.path) l ((x.cells t q.0 q.1).mails i m e) in
          subst (λ u. u ≤ b.before + (work n).tickets) (sym y.number) (trans_le _ _ _ (rank_least w m.path t) (tickets_few t q.1)))

      served_few : (p : Path) (en : Entry F) → HasEntry s p en → en.served ≤ b.before + (work n).tickets
      served_few p en h = subst (λ (u : Entry F). u.served ≤ b.before + (work n).tickets) (sym (entry_is p en h)) (subst (λ u. u ≤ b.before + (work n).tickets) (sym (x.entries p).served) (trans_le _ _ _ ((k.alive).few p) (trans_le _ _ _ (rank_least w p (g).lines.admitted) (tickets_few (g).lines.admitted (upto _)))))
        where
          upto : (a : ℕ) → a ≤ a
          upto a = omega arith

      waits_few : (p : Path) (en : Entry F) (j : ℕ) (c : Claim) → HasEntry s p en → en.waiting j ≡ Some c → j ≤ b.before + (work n).tickets
      waits_few p en j c h e = (let y = (x.entries p).waits j c (ap (λ (u : Entry F). u.waiting j) (sym (entry_is p en h)) ∙ e) in
          subst (λ u. u ≤ b.before + (work n).tickets) (sym y.number) (trans_le _ _ _ (rank_least w p c.ticket) (tickets_few c.ticket y.known)))

      -- moves
      module _ (moved : (p : Path) → (g).born p ≡ true → ((g).trail p).last ≤ most_moves b (work n)) where
        born_of : (p : Path) (en : Entry F) → HasEntry s p en → (g).born p ≡ true
        born_of p en h = elim (bool_cases ((g).born p)) [ inl u ↦ u | inr u ↦ absurd ((Told.unborn_is kind owes b batches begins jobs s k p u).not_coming (host_of h) (owned h)) ]
          where
            host_of : HasEntry s p en → ℕ
            host_of (inl e) = e.0
            host_of (inr e) = e.2

            owned : (h : HasEntry s p en) → Rattle.wave_states.specs.Owners.IsOwner s p (host_of h)
            owned (inl e) = inl (ap Rattle.std.proofs.Common.is_some e.1)
            owned (inr e) = inr (record { ticket = e.0; number = e.1; entry = en; mail = e.3 })

        moves_few : (p : Path) (en : Entry F) → HasEntry s p en → en.moves ≤ most_moves b (work n)
        moves_few p en h = subst (λ (u : Entry F). u.moves ≤ most_moves b (work n)) (sym (entry_is p en h)) (subst (λ u. u ≤ most_moves b (work n)) (sym (x.entries p).moves) (moved p (born_of p en h)))

        followed_few : (t i : ℕ) (m : Mail F) (a : Ask) → (s.cells t).mails i ≡ Some m → m.letter ≡ Enter a → a.followed ≤ most_moves b (work n)
        followed_few t i m a e l = (let q = mail_known t i m e in
            let y : Shows.EnterShows kind.system w course b.before Is_real k.ghost t i m.host m.path a = subst (Shows.MailShows kind.system w course b.before Is_real k.ghost t i m.host m.path) l ((x.cells t q.0 q.1).mails i m e) in
            elim (bool_cases ((g).born m.path)) [
              | inl u ↦ trans_le _ _ _ y.followed (moved m.path u)
              | inr u ↦ none _ _ _ y.followed (subst (λ o. Shows.ColumnShows kind.system w course b.before Is_real o k.ghost m.path (s.columns m.path)) u (x.columns m.path)).last
            ])
          where
            none : (a c d : ℕ) → a ≤ c → c ≡ 0 → a ≤ d
            none a c d l e = omega (arith, l, e)

        marks_few : (p : Path) (host : ℕ) (m : Mark) → (s.columns p).gone host ≡ Some m → m.number ≤ most_moves b (work n)
        marks_few p host m e = elim (bool_cases ((g).born p)) [
          | inr u ↦ absurd (none_not (sym ((Told.unborn_is kind owes b batches begins jobs s k p u).no_mark host) ∙ e))
          | inl u ↦ (let t = (Told.trail_is kind owes b batches begins jobs s k p u).marks host m e in number_few _ _ _ _ t.3 t.1 (moved p u))
        ]
          where
            number_few : (a i l d : ℕ) → a ≡ suc i → i < l → l ≤ d → a ≤ d
            number_few a i l d e q r = omega (arith, e, q, r)

  module _ (some_host : 0 < kind.hosts) (workers : ℕ) (ls : List Label) (s : State A F R J) (r : run kind.system workers (start_state b batches) ls ≡ Some s) where
    abbrev note : Noted.Note kind owes b batches begins jobs some_host workers ls s
    note = Noted.noting kind owes b batches begins jobs some_host workers ls s r

    abbrev spent : Balances.Spending kind owes b batches begins jobs some_host workers s
    spent = Balances.spending kind owes b batches begins jobs some_host workers ls s r

    abbrev counted : Few.Counting kind owes b batches begins jobs some_host workers s
    counted = Few.counting kind owes b batches begins jobs some_host workers ls s r

    -- the numbers that were given for a child
    given_few : (n : ℕ) → job_after kind.system b batches n ≡ None → (p : Path) (en : Entry F) (d : Record F) (st : Step) (c : Child) → HasEntry s p en → en.body ≡ Some d → child_at d.children st ≡ Some c → c.given ≤ (work n).tickets
    given_few n over p en d st c h e f = subst (λ m. m ≤ (work n).tickets) (sym given_is) (by (length ts) refl)
      where
        q : Path
        q = p ++ st ∷ []

        k : Good_state kind owes b batches begins jobs s
        k = (note).good

        ts : List ℕ
        ts = Rattle.wave_theory.specs.Came.senders_from kind.system workers (p ++ st ∷ []) (Some (start_state b batches)) ls

        sent : Arrivals.Firsts kind owes b batches begins jobs (Rattle.wave_theory.specs.Came.senders_from kind.system workers (p ++ st ∷ []) (Some (start_state b batches)) ls) (((note).good.ghost).lines.given (p ++ st ∷ [])) (p ++ st ∷ [])
        sent = (note).noted.sent (p ++ st ∷ [])

        not_root : (p : Path) → is_root (p ++ st ∷ []) ≡ false
        not_root [] = refl
        not_root (u ∷ p) = refl

        same : d ≡ ((note).good.ghost).body p
        same = ((note).good.shows.entries p).body d (ap (λ (u : Entry F). u.body) (sym (Told.entry_same kind owes b batches begins jobs s (note).good p en h)) ∙ e)

        given_is : c.given ≡ length (ts)
        given_is = ap (λ o. (child_or_new o 0).given) (sym f) ∙ ap (λ (u : Record F). (child_or_new (child_at u.children st) 0).given) same ∙ ((note).good.shows.entries p).given st ∙ (sent).many
            ∙ ap (λ i. (if i then b.before else 0) + length (Rattle.wave_theory.specs.Came.senders_from kind.system workers (p ++ st ∷ []) (Some (start_state b batches)) ls)) (not_root p) ∙ none_before _
          where
            none_before : (a : ℕ) → 0 + a ≡ a
            none_before a = omega arith

        by : (m : ℕ) → length (ts) ≡ m → m ≤ (work n).tickets
        by zero z = omega arith
        by (suc m) z = (let t = last_get ts m z in let y = (sent).each m t.0 t.1 in
            at_most _ _ _ _ _ _ _ y.number (ap (λ i. if i then b.before else 0) (not_root p)) (ap (rank w (p ++ st ∷ [])) (y.real.ticket_is ∙ (let v : suc b.before + y.real.index ≡ suc y.real.index + b.before = omega arith in v)))
            (rank_add w (p ++ st ∷ []) b.before (suc y.real.index)) (Beginning.rank_start kind owes b batches begins jobs (p ++ st ∷ []) ∙ ap (λ i. if i then b.before else 0) (not_root p)) (index_few n over y.real.index y.real.job y.real.job_is))
          where
            at_most : (r e m r' i rb k : ℕ) → r ≡ e + suc m → e ≡ 0 → r ≡ r' → r' ≤ suc i + rb → rb ≡ 0 → suc i ≤ k → suc m ≤ k
            at_most r e m r' i rb k a c d l q u = omega (arith, a, c, d, l, q, u)

    pub within : Within kind b batches s
    within n over = record {
      admitted = admitted_few n over s (counted).good;
      known = known_few_jobs n over s (counted).good;
      sent = sent_few;
      mails = λ t i m e. (let q = GoodStates.known kind owes b batches begins jobs s ((counted).good.ghost) (counted).good.shows t (λ z. none_not (sym (ap (λ (u : Cell A F R). u.mails i) z) ∙ e)) in
          let c = (counted).good.shows.cells t q.0 q.1 in elim (below_or i c.event.sent) [
            | inr l ↦ trans_few _ _ _ l (sent_few t c.event c.event_is)
            | inl l ↦ absurd (none_not (sym (c.unused i l) ∙ e))
          ]);
      asks = λ t i m a e l. (asks_few n over s (counted).good t i m a e l, followed_few n over s (counted).good moved t i m a e l);
      served = served_few n over s (counted).good;
      waits = waits_few n over s (counted).good;
      given = given_few n over;
      moves = moves_few n over s (counted).good moved;
      marks = marks_few n over s (counted).good moved;
    }
      where
        moved : (p : Path) → ((counted).good.ghost).born p ≡ true → (((counted).good.ghost).trail p).last ≤ most_moves b (work n)
        moved = Few.moved_few kind owes b batches begins jobs s (counted).good (counted).homes (counted).few n over

        below_or : (i m : ℕ) → (m < i) ⊎ (i ≤ m)
        below_or i m = grind arith

        trans_few : (a c d : ℕ) → a ≤ c → c ≤ d → a ≤ d
        trans_few a c d l m = omega (arith, l, m)

        index_of : (t : ℕ) → b.before < t → (i : ℕ) × (t ≡ suc b.before + i)
        index_of t l = find b.before t l
          where
            find : (a t : ℕ) → a < t → (i : ℕ) × (t ≡ suc a + i)
            find a zero l = absurd (omega (arith, l))
            find zero (suc t) l = (t, omega arith)
            find (suc a) (suc t) l = (let r = find a t (omega (arith, l)) in (r.0, omega (arith, r.1)))

        sent_few : (t : ℕ) (event : Event A) → (s.cells t).event ≡ Some event → event.sent ≤ (work n).segments + (work n).entered
        sent_few t event e = (let q = GoodStates.known kind owes b batches begins jobs s ((spent).good.ghost) (spent).good.shows t (λ z. none_not (sym (ap (λ (u : Cell A F R). u.event) z) ∙ e)) in
            let i = index_of t q.0 in
            let y = Mailed.sent kind owes b batches begins jobs s (spent).good (spent).kept.balance i.0 event (ap (λ u. (s.cells u).event) (sym i.1) ∙ e) in
            trans_few _ _ _ y.within (shares_in n i.0 y.job y.job_is (index_below n over i.0 y.job y.job_is)))
