-- The laws of every state that a list of labels leads to, read off what it shows.
use Rattle.wave_base.specs.Kids.{child_at}
use Rattle.wave_base.specs.declared.children.Child.{Child}
use Rattle.std.proofs.Common.{◌≡◌, ℕ, zero, suc, ◌+◌, ◌<◌, ◌≤◌, ◌⊎◌, ◌||◌, inl, inr, Bool, true, false, Option, Some, None, List, [], ◌∷◌, ◌++◌, length, refl, sym, ◌∙◌, ap, subst, arith, is_some}
use Rattle.std.specs.Prelude.{if◌then◌else◌, cond, slice_get}
use Rattle.std.specs.List.{list_any, AllByRecursion}
use Rattle.wave_base.specs.declared.path.Step.{Step}
use Rattle.wave_base.specs.declared.path.Path.{Path}
use Rattle.wave_base.specs.Paths.{path_eq}
use Rattle.wave_states.specs.States.{State, Cell, Claim, Entry, Event, Record, Mail, steps_of, Ask}
use Rattle.wave_states.specs.Steps.{free, route, Deliver, Wait, Forward}
use Rattle.wave_theory.proofs.Basics.{clash, some_same, none_not, options, number_cases, bool_cases}
use Rattle.wave_theory.proofs.Order.{Way, IsWay, visits, rank, Done, here}
use Rattle.wave_theory.proofs.NewTickets.{root_number}
use Rattle.wave_theory.proofs.Leaves.{Course}
use Rattle.wave_theory.proofs.Tracks.{owner, Routed, routed}
use Rattle.wave_theory.proofs.Found.{found}
use Rattle.wave_theory.proofs.Frames.{entered_spot, visits_of, option_some}
use Rattle.wave_theory.proofs.Alive
use Rattle.wave_theory.proofs.Shows
use Rattle.std.specs.Prelude.{All}
use Rattle.std.proofs.lemmas.List.Sums.{sum_by-append}
use Rattle.std.proofs.lemmas.List.Elements.{recursion_from_All}
use Rattle.wave_base.specs.Places.{load_of}
use Rattle.wave_base.specs.Fold.{Head, Ran, Progress, next_job, with_result, with_job}
use Rattle.wave_states.specs.Begins.{Begin}
use Rattle.wave_states.specs.Kinds.{Kind}
use Rattle.wave_states.specs.Owes.{Owes, IsBegin}
use Rattle.wave_states.specs.Owners.{IsOwner, IsComing}
use Rattle.wave_states.specs.Alone.{fold_alone, job_after, run_alone}
use Rattle.wave_theory.proofs.Courses.{View, view, view_real, done_at, entered_after, leaf_first, view_later, done_or_over}
use Rattle.wave_theory.proofs.Courses
use Rattle.wave_theory.proofs.Folds
use Rattle.wave_theory.proofs.Beginning.{rank_start}
use Rattle.wave_theory.proofs.GoodStates.{Heads, Good_state, ResultIs, result_of}
use Rattle.wave_theory.proofs.GoodStates
use Rattle.wave_theory.specs.Results.{Results, Tickets}
use Rattle.wave_theory.specs.Numbers.{IsNumber, Numbers, HasEntry}
use Rattle.wave_theory.specs.Records.{Records}
use Rattle.wave_theory.specs.Bounds.{NothingAt}
use Rattle.wave_theory.specs.Always.{served_before}
use Rattle.wave_theory.proofs.Stages.{entering_done, lined_done}

same_mail : {F : Type 0} (m : Mail F) (h : ℕ) (p : Path) (l : Rattle.wave_states.specs.States.Letter F) → m.host ≡ h → m.path ≡ p → m.letter ≡ l → m ≡ record { host = h; path = p; letter = l }
same_mail m h p l e f k = λ i. record { host = e i; path = f i; letter = k i }

load_last : (xs : List (List Path)) (y : List Path) (p : Path) → load_of (xs ++ y ∷ []) p ≡ load_of xs p + (if list_any (path_eq p) y then 1 else 0)
load_last xs y p = sum_by-append (λ x. cond (list_any (path_eq p) x) 1 0) xs (y ∷ []) ∙ one (load_of xs p) (if list_any (path_eq p) y then 1 else 0)
  where
    one : (a c : ℕ) → a + (0 + c) ≡ a + c
    one a c = omega arith

module _ {A F R J : Type 0} (kind : Kind A F R J) (owes : Owes kind) (b : Begin F) (batches : List (List J)) (begins : IsBegin kind b) (jobs : All (All kind.is_job) batches) where
  abbrev w : Way
  w = Courses.w kind owes b batches begins jobs

  abbrev course : Course kind.system
  course = Courses.course kind owes b batches begins jobs

  abbrev Is_real : ℕ → Type 0
  Is_real = Courses.Real kind owes b batches begins jobs

  law : IsWay w
  law = Courses.law kind owes b batches begins jobs

  abbrev at : ℕ → Progress F R J
  at n = fold_alone kind.system b batches n

  abbrev ran : ℕ → J → Ran F R
  ran i j = run_alone kind.system (suc b.before + i) (at i).tree j

  pub goes_on : (i : ℕ) (j : J) → job_after kind.system b batches i ≡ Some j → at (suc i) ≡ with_result (suc b.before) (run_alone kind.system) kind.system.created (at i) (ran i j)
  goes_on i j e = Folds.goes_on kind.system b batches i j e (done_at kind owes b batches begins jobs i j e)

  -- a ticket comes to a context where its run enters it
  pub visits_is : (i : ℕ) (j : J) (p : Path) → job_after kind.system b batches i ≡ Some j → visits w (suc b.before + i) p ≡ list_any (path_eq p) (ran i j).entered
  visits_is i j p e = ap (λ (v : View A F R). v.one.entered (suc v.one.last) p) (view_real kind owes b batches begins jobs i j e) ∙ ap (λ ps. list_any (path_eq p) ps) (sym (entered_after kind owes b batches begins jobs i j e))

  load_next : (i : ℕ) (j : J) (p : Path) → job_after kind.system b batches i ≡ Some j → load_of (at (suc i)).entered p ≡ load_of (at i).entered p + (if visits w (suc b.before + i) p then 1 else 0)
  load_next i j p e = ap (λ (v : Progress F R J). load_of v.entered p) (goes_on i j e) ∙ load_last (at i).entered (ran i j).entered p ∙ ap (λ u. load_of (at i).entered p + (if u then 1 else 0)) (sym (visits_is i j p e))

  done_below : (n : ℕ) → (at n).head.done ≤ n
  done_below zero = subst (λ i. i ≤ 0) (sym (Folds.zero_done kind.system b batches)) (omega arith)
  done_below (suc n) = by (next_job (at n).head) refl (done_below n)
    where
      by : (o : Option J) → next_job (at n).head ≡ o → (at n).head.done ≤ n → (with_job (suc b.before) (run_alone kind.system) kind.system.created (at n) o).head.done ≤ suc n
      by None e l = omega arith
      by (Some j) e l = subst (λ i. i ≤ suc n) (sym (Folds.with_done_done (at n).head _)) (omega arith)

  -- of so many jobs the last one is there, and the others
  last_there : (m : ℕ) → (at (suc m)).head.done ≡ suc m → ((at m).head.done ≡ m) × (j : J) × (job_after kind.system b batches m ≡ Some j)
  last_there m e = elim (options (job_after kind.system b batches m)) [
    | inl n ↦ absurd (let l = done_below m in let z : suc m ≡ (at m).head.done = sym e ∙ ap (λ (v : Progress F R J). v.head.done) (Folds.stays kind.system b batches m n) in omega arith)
    | inr n ↦ (done_at kind owes b batches begins jobs m n.0 n.1, n.0, n.1)
  ]

  -- how many tickets came, by the fold
  pub rank_is : (m : ℕ) (p : Path) → (at m).head.done ≡ m → rank w p (b.before + m) ≡ served_before kind b batches p + load_of (at m).entered p
  unfolding rank
  rank_is zero p e = ap (rank w p) (let z : b.before + 0 ≡ b.before = omega arith in z) ∙ rank_start kind owes b batches begins jobs p ∙ (let z : served_before kind b batches p ≡ served_before kind b batches p + 0 = omega arith in z)
  rank_is (suc m) p e =
      let l = last_there m e in
      ap (rank w p) (let z : b.before + suc m ≡ suc (b.before + m) = omega arith in z)
      ∙ choose (visits w (suc (b.before + m)) p) (rank w p (b.before + m))
      ∙ ap (λ n. n + (if visits w (suc (b.before + m)) p then 1 else 0)) (rank_is m p l.0)
      ∙ plus _ _ _ ∙ ap (λ n. served_before kind b batches p + n) (ap (λ t. load_of (at m).entered p + (if visits w t p then 1 else 0)) (let z : suc (b.before + m) ≡ suc b.before + m = omega arith in z) ∙ sym (load_next m l.1 p l.2))
    where
      choose : (i : Bool) (n : ℕ) → (if i then suc n else n) ≡ n + (if i then 1 else 0)
      choose true n = omega arith
      choose false n = omega arith

      plus : (a c d : ℕ) → (a + c) + d ≡ a + (c + d)
      plus a c d = omega arith

  module _ (s : State A F R J) (k : Good_state kind owes b batches begins jobs s) where
    x : Shows.Shows kind.system w course b.before Is_real s k.ghost
    x = k.shows

    -- the number of a ticket that comes
    pub number_of : (t : ℕ) (p : Path) (n : ℕ) → b.before < t → Is_real t → visits w t p ≡ true → n ≡ rank w p t → IsNumber kind b batches p t n
    number_of t p n lt r v e = record {
      index = r.index;
      ticket_is = r.ticket_is;
      there = there;
      enters = load_next r.index r.job p r.job_is ∙ ap (λ u. load_of (at r.index).entered p + (if u then 1 else 0)) (subst (λ i. visits w i p ≡ true) r.ticket_is v) ∙ (let z : load_of (at r.index).entered p + 1 ≡ suc (load_of (at r.index).entered p) = omega arith in z);
      number_is = e ∙ ap (rank w p) (r.ticket_is ∙ (let z : suc b.before + r.index ≡ b.before + suc r.index = omega arith in z)) ∙ rank_is (suc r.index) p there;
      at_root = λ z. e ∙ ap (λ q. rank w q t) z ∙ root_number law t;
    }
      where
        there : (at (suc r.index)).head.done ≡ suc r.index
        there = ap (λ (v : Progress F R J). v.head.done) (goes_on r.index r.job r.job_is) ∙ Folds.with_done_done (at r.index).head _ ∙ ap suc (done_at kind owes b batches begins jobs r.index r.job r.job_is)

    comes_spot : (t : ℕ) (p : Path) → t ≤ (k.ghost).lines.admitted → ((k.ghost).lines.stage t ≡ Done → ⊥) → here w (k.ghost).lines t ≡ p → visits w t p ≡ true
    comes_spot t p l n e = subst (λ r. visits w t r ≡ true) e (visits_of kind.system w law course b.before Is_real k.ghost x.good t (here w (k.ghost).lines t) l (entered_spot kind.system w law course b.before Is_real k.ghost x.good t l n))

    mail_known : (t i : ℕ) (m : Mail F) → (s.cells t).mails i ≡ Some m → (b.before < t) × (t ≤ (k.ghost).lines.admitted)
    mail_known t i m e = GoodStates.known kind owes b batches begins jobs s k.ghost x t (λ q. none_not (sym (ap (λ (u : Cell A F R). u.mails i) q) ∙ e))

    pub entry_same : (p : Path) (en : Entry F) → HasEntry s p en → en ≡ (k.ghost).entry p
    entry_same p en (inl e) = (found kind.system w course b.before Is_real k.ghost p (s.columns p) e.0 en (x.columns p) e.1).entry_is
    entry_same p en (inr e) = (let n = mail_known e.0 e.1 _ e.3 in ((x.cells e.0 n.0 n.1).mails e.1 _ e.3).2)

    pub numbers : Numbers kind b batches s
    numbers = record {
      enters = λ t i m a e l. let n = mail_known t i m e in
          let y : Shows.EnterShows kind.system w course b.before Is_real k.ghost t i m.host m.path a = subst (Shows.MailShows kind.system w course b.before Is_real k.ghost t i m.host m.path) l ((x.cells t n.0 n.1).mails i m e) in
          number_of t m.path a.number n.0 (x.cells t n.0 n.1).real (comes_spot t m.path n.1 (λ d. entering_done (sym y.stage ∙ d)) (sym y.place)) y.number;
      waits = λ p en j c h e. let y = (x.entries p).waits j c (ap (λ (u : Entry F). u.waiting j) (sym (entry_same p en h)) ∙ e) in
          number_of c.ticket p j y.later (x.cells c.ticket y.later y.known).real (comes_spot c.ticket p y.known (λ d. lined_done (sym y.stage ∙ d)) y.place) y.number;
    }

    calm_of : (hs : List Claim) (p : Path) → AllByRecursion (λ (c : Claim). c.peek ≡ true) hs → AllByRecursion (λ c. c.peek ≡ w.looks c.ticket p) hs → (t : ℕ) → Shows.holds_claim hs t ≡ true → w.looks t p ≡ true
    calm_of [] p f g t e = absurd (clash false e refl)
    calm_of (c ∷ hs) p f g t e = elim (number_cases c.ticket t) [
      | inl z ↦ subst (λ i. w.looks i p ≡ true) z (sym g.0 ∙ f.0)
      | inr z ↦ calm_of hs p f.1 g.1 t (ap (λ i. i || Shows.holds_claim hs t) (sym z) ∙ e)
    ]

    pub records : Records kind b batches s
    records p host en r n st free body there served =
        let f = found kind.system w course b.before Is_real k.ghost p (s.columns p) host en (x.columns p) st in
        let e = x.entries p in
        let calm : Shows.IsCalm kind.system w course b.before Is_real (k.ghost).lines p = λ t h. calm_of en.holders p (recursion_from_All (λ (c : Claim). c.peek ≡ true) en.holders free) (subst (λ (u : Entry F). AllByRecursion (λ c. c.peek ≡ w.looks c.ticket p) u.holders) (sym f.entry_is) e.peeks) t (ap (λ (u : Entry F). Shows.holds_claim u.holders t) f.entry_is ∙ e.holders t ∙ h) in
        let l = x.kept.calm p (b.before + n) calm (rank_is n p there ∙ sym served ∙ ap (λ (u : Entry F). u.served) f.entry_is ∙ e.served) (omega arith) in
        let same : r ≡ (k.ghost).body p = e.body r (ap (λ (u : Entry F). u.body) (sym f.entry_is) ∙ body) in
        let leaf : course.leaf (suc (b.before + n)) 0 p ≡ Courses.leaf_of (at n).tree p = ap (λ t. course.leaf t 0 p) (let z : suc (b.before + n) ≡ suc b.before + n = omega arith in z) ∙ ap (λ (v : View A F R). v.leaf 0 p) (view_later kind owes b batches begins jobs n) ∙ leaf_first kind owes b batches begins jobs n (job_after kind.system b batches n) p in
        (ap (λ (u : Record F). u.fields) same ∙ l.fields ∙ ap (λ (u : F × List Step). u.0) leaf, ap (λ (u : Record F). steps_of u.children) same ∙ l.steps ∙ ap (λ (u : F × List Step). u.1) leaf)

    pub owner_is : (p : Path) (h : ℕ) → IsOwner s p h → h ≡ owner ((k.ghost).trail p)
    owner_is p h (inl e) = (let o = option_some ((s.columns p).store h) e in (found kind.system w course b.before Is_real k.ghost p (s.columns p) h o.0 (x.columns p) o.1).host_is)
    owner_is p h (inr e) = (let n = mail_known e.ticket e.number _ e.mail in ((x.cells e.ticket n.0 n.1).mails e.number _ e.mail).0.host_is)

    pub one_owner : (p : Path) (h h' : ℕ) → IsOwner s p h → IsOwner s p h' → h ≡ h'
    one_owner p h h' e e' = owner_is p h e ∙ sym (owner_is p h' e')

    pub record Bounded_by : Type 0 where
      pub cells : (t : ℕ) → (s.before < t → t ≤ s.before + s.admitted → ⊥) → s.cells t ≡ record { event = None; mails = λ k. None; result = None }
      pub mails : (t i : ℕ) (e : Event A) → (s.cells t).event ≡ Some e → e.sent < i → (s.cells t).mails i ≡ None
      pub children : (q : Path) (st : Step) (en : Entry F) (r : Record F) → HasEntry s q en → en.body ≡ Some r → child_at r.children st ≡ None → (h : ℕ) → NothingAt s (q ++ st ∷ []) h

    pub bounds : Bounded_by
    bounds = record {
      cells = λ t n. x.no_cells t (λ l m. n (subst (λ i. i < t) (sym x.before) l) (subst (λ i. t ≤ i) (x.admitted ∙ ap (λ i. i + s.admitted) (sym x.before)) m));
      mails = λ t i e p l. let n = GoodStates.known kind owes b batches begins jobs s k.ghost x t (λ q. none_not (sym (ap (λ (u : Cell A F R). u.event) q) ∙ p)) in
          let c = x.cells t n.0 n.1 in c.unused i (subst (λ (u : Event A). u.sent < i) (some_same e c.event (sym p ∙ c.event_is)) l);
      children = λ q st en r se be ce i. let same : r ≡ (k.ghost).body q = (x.entries q).body r (ap (λ (u : Entry F). u.body) (sym (entry_same q en se)) ∙ be) in
          let c : Shows.Unborn kind.system w course b.before Is_real k.ghost (q ++ st ∷ []) (s.columns (q ++ st ∷ [])) = subst (λ o. Shows.ColumnShows kind.system w course b.before Is_real o k.ghost (q ++ st ∷ []) (s.columns (q ++ st ∷ []))) ((x.entries q).strangers st (ap (λ (u : Record F). child_at u.children st) (sym same) ∙ ce)) (x.columns (q ++ st ∷ [])) in
          (c.empty.no_entry i, c.empty.no_marks i);
    }

    -- the fold's results stay, as it goes on
    results_keep : (n m : ℕ) (i : ℕ) (r : R) → n ≤ m → slice_get (at n).results i ≡ Some r → slice_get (at m).results i ≡ Some r
    results_keep n zero i r l e = subst (λ a. slice_get (at a).results i ≡ Some r) (let z : n ≡ 0 = omega arith in z) e
    results_keep n (suc m) i r l e = elim (at_or_below n m l) [
      | inr z ↦ subst (λ a. slice_get (at a).results i ≡ Some r) z e
      | inl z ↦ by (next_job (at m).head) (results_keep n m i r z e)
    ]
      where
        at_or_below : (a c : ℕ) → a ≤ suc c → (a ≤ c) ⊎ (a ≡ suc c)
        at_or_below a c l = grind arith

        append : (xs ys : List R) (i : ℕ) → slice_get xs i ≡ Some r → slice_get (xs ++ ys) i ≡ Some r
        append [] ys i e = absurd (none_not e)
        append (a ∷ xs) ys zero e = e
        append (a ∷ xs) ys (suc i) e = append xs ys i e

        by : (o : Option J) → slice_get (at m).results i ≡ Some r → slice_get (with_job (suc b.before) (run_alone kind.system) kind.system.created (at m) o).results i ≡ Some r
        by None e = e
        by (Some j) e = append (at m).results _ i e

    length_results : (n : ℕ) → length (at n).results ≡ (at n).head.done
    length_results zero = sym (Folds.zero_done kind.system b batches)
    length_results (suc n) = by (next_job (at n).head) (length_results n)
      where
        longer : (xs : List R) (r : R) → length (xs ++ r ∷ []) ≡ suc (length xs)
        longer [] r = refl
        longer (a ∷ xs) r = ap suc (longer xs r)

        by : (o : Option J) → length (at n).results ≡ (at n).head.done → length (with_job (suc b.before) (run_alone kind.system) kind.system.created (at n) o).results ≡ (with_job (suc b.before) (run_alone kind.system) kind.system.created (at n) o).head.done
        by None e = e
        by (Some j) e = longer (at n).results _ ∙ ap suc e ∙ sym (Folds.with_done_done (at n).head _)

    result_there : (i : ℕ) (j : J) → job_after kind.system b batches i ≡ Some j → slice_get (at (suc i)).results i ≡ Some (ran i j).result
    result_there i j e = ap (λ (v : Progress F R J). slice_get v.results i) (goes_on i j e) ∙ at_end (at i).results (ran i j).result i (length_results i ∙ done_at kind owes b batches begins jobs i j e)
      where
        at_end : (xs : List R) (r : R) (i : ℕ) → length xs ≡ i → slice_get (xs ++ r ∷ []) i ≡ Some r
        at_end [] r i e = subst (λ n. slice_get (r ∷ []) n ≡ Some r) e refl
        at_end (a ∷ xs) r zero e = absurd (omega arith)
        at_end (a ∷ xs) r (suc i) e = at_end xs r i (omega arith)

    pub results : Results kind b batches s
    results n i l m =
        let o = option_some (s.cells (suc b.before + i)).result ((k.heads).over i m) in
        let q = result_of kind owes b batches begins jobs s k.ghost x k.heads (suc b.before + i) o.0 o.1 in
        let z : q.index ≡ i = same_index b.before _ _ q.ticket_is in
        let jobs_is : job_after kind.system b batches i ≡ Some q.job = ap (job_after kind.system b batches) (sym z) ∙ q.job_is in
        (o.0, o.1, results_keep (suc i) n i o.0 (omega arith) (result_there i q.job jobs_is ∙ ap Some (ap (λ a. (run_alone kind.system (suc b.before + a) (at a).tree q.job).result) (sym z) ∙ q.result_is)))
      where
        same_index : (x a i : ℕ) → suc x + a ≡ suc x + i → i ≡ a
        same_index x a i e = omega arith

    known_keep : (n m i : ℕ) (j : J) → n ≤ m → slice_get (at n).head.known i ≡ Some j → slice_get (at m).head.known i ≡ Some j
    known_keep n zero i j l e = subst (λ a. slice_get (at a).head.known i ≡ Some j) (let z : n ≡ 0 = omega arith in z) e
    known_keep n (suc m) i j l e = elim (at_or_below n m l) [
      | inr z ↦ subst (λ a. slice_get (at a).head.known i ≡ Some j) z e
      | inl z ↦ by (next_job (at m).head) (known_keep n m i j z e)
    ]
      where
        at_or_below : (a c : ℕ) → a ≤ suc c → (a ≤ c) ⊎ (a ≡ suc c)
        at_or_below a c l = grind arith

        by : (o : Option J) → slice_get (at m).head.known i ≡ Some j → slice_get (with_job (suc b.before) (run_alone kind.system) kind.system.created (at m) o).head.known i ≡ Some j
        by None e = e
        by (Some a) e = Folds.done_keeps (at m).head _ i j e

    pub tickets : Tickets kind b batches s
    tickets = record {
      head_is = (k.heads).head_is;
      stay = λ n i j l e. known_keep s.head.done n i j l (ap (λ (u : Head J). slice_get u.known i) (sym (k.heads).head_is) ∙ e);
      in_time = (k.heads).few;
    }

    -- trails
    enters_lie : (p : Path) → Rattle.wave_theory.specs.Trails.EntersLie s p (record { at = ((k.ghost).trail p).at; last = ((k.ghost).trail p).last })
    enters_lie p t i m a e q l =
        let n = mail_known t i m e in
        let y : Shows.EnterShows kind.system w course b.before Is_real k.ghost t i m.host m.path a = subst (Shows.MailShows kind.system w course b.before Is_real k.ghost t i m.host m.path) l ((x.cells t n.0 n.1).mails i m e) in
        (subst (λ r. a.followed ≤ ((k.ghost).trail r).last) q y.followed, y.host_is ∙ ap (λ r. ((k.ghost).trail r).at a.followed) q)

    on_its_way : (p : Path) → (k.ghost).born p ≡ true → ((k.ghost).trail p).stored ≡ false → IsOwner s p (owner ((k.ghost).trail p))
    on_its_way p u st = by o.letter
      where
        aw : Alive.AwayBy kind.system w course b.before Is_real k.ghost p
        aw = (k.alive).away p u st

        lt : b.before < (aw).ticket
        lt = (x.entries p).later (aw).ticket aw.holds

        la : (aw).ticket ≤ (k.ghost).lines.admitted
        la = (x.good.let_in (aw).ticket p aw.holds).known

        o : Alive.PartingThere (s.cells (aw).ticket).mails ((k.ghost).parting (aw).ticket p) p
        o = ((k.alive).one (aw).ticket lt la).parting p aw.holds aw.not_held

        shown : Shows.MailShows kind.system w course b.before Is_real k.ghost (aw).ticket ((k.ghost).parting (aw).ticket p) (o).mail.host (o).mail.path (o).mail.letter
        shown = (x.cells (aw).ticket lt la).mails ((k.ghost).parting (aw).ticket p) (o).mail o.there

        by : ((o).mail.letter ≡ Rattle.wave_states.specs.States.Letter.Release) ⊎ ((en : Entry F) × ((o).mail.letter ≡ Rattle.wave_states.specs.States.Letter.Transfer en)) → IsOwner s p (owner ((k.ghost).trail p))
        by (inl r) = (let y = subst (Shows.MailShows kind.system w course b.before Is_real k.ghost (aw).ticket ((k.ghost).parting (aw).ticket p) (o).mail.host (o).mail.path) r shown in absurd (clash _ (subst (λ i. ((k.ghost).trail i).stored ≡ true) o.path_is y.1) st))
        by (inr r) = (let y = subst (Shows.MailShows kind.system w course b.before Is_real k.ghost (aw).ticket ((k.ghost).parting (aw).ticket p) (o).mail.host (o).mail.path) r.1 shown in inr (record {
          ticket = (aw).ticket;
          number = (k.ghost).parting (aw).ticket p;
          entry = r.0;
          mail = o.there ∙ ap Some (same_mail (o).mail (owner ((k.ghost).trail p)) p (Rattle.wave_states.specs.States.Letter.Transfer r.0) (y.0.host_is ∙ ap (λ i. owner ((k.ghost).trail i)) o.path_is) o.path_is r.1);
        }))

    birth_is : (p q : Path) (st : Step) (en : Entry F) (r : Record F) (c : Child) → q ++ st ∷ [] ≡ p → HasEntry s q en → en.body ≡ Some r → child_at r.children st ≡ Some c → c.birth.0 ≡ ((k.ghost).trail p).at 0
    birth_is p q st en r c e se be ce =
        let same : r ≡ (k.ghost).body q = (x.entries q).body r (ap (λ (u : Entry F). u.body) (sym (entry_same q en se)) ∙ be) in
        (x.entries q).births st c (ap (λ (u : Record F). child_at u.children st) (sym same) ∙ ce) ∙ ap (λ i. ((k.ghost).trail i).at 0) e

    module _ (p : Path) (c : Shows.Stays kind.system w course b.before Is_real k.ghost p (s.columns p)) (t i : ℕ) (m : Mail F) (a : Ask) (e : (s.cells t).mails i ≡ Some m) (q : m.path ≡ p) (l : m.letter ≡ Rattle.wave_states.specs.States.Letter.Enter a) where
      lies : (a.followed ≤ ((k.ghost).trail p).last) × (m.host ≡ ((k.ghost).trail p).at a.followed)
      lies = enters_lie p t i m a e q l

      by_trail : Routed ((k.ghost).trail p) a.followed (route (s.columns p) (((k.ghost).trail p).at a.followed) a.followed)
      by_trail = routed (s.columns p) ((k.ghost).trail p) a.followed c.track (lies).0

      there_route : route (s.columns p) m.host a.followed ≡ route (s.columns p) (((k.ghost).trail p).at a.followed) a.followed
      there_route = ap (λ h. route (s.columns p) h a.followed) (lies).1

      deliver_not : Deliver ≡ Wait → ⊥
      deliver_not e = grind arith

      forward_not : (g : ℕ) → Forward g ≡ Wait → ⊥
      forward_not g e = grind arith

      wait_from : IsComing s p m.host × (a.followed ≡ ((k.ghost).trail p).last) → route (s.columns p) m.host a.followed ≡ Wait
      wait_from z = (let n = mail_known z.0.ticket z.0.number _ z.0.mail in there_route ∙ (by_trail).wait ((x.cells z.0.ticket n.0 n.1).mails z.0.number _ z.0.mail).1 z.1)

      wait_to_by : (k.ghost).born p ≡ true → route (s.columns p) m.host a.followed ≡ Wait → IsComing s p m.host × (a.followed ≡ ((k.ghost).trail p).last)
      wait_to_by u z = elim (below_or a.followed ((k.ghost).trail p).last (lies).0) [
        | inl less ↦ absurd (elim ((by_trail).on less) [ inl d ↦ deliver_not (sym d ∙ sym there_route ∙ z) | inr d ↦ forward_not _ (sym d.3 ∙ sym there_route ∙ z) ])
        | inr same ↦ elim (bool_cases ((k.ghost).trail p).stored) [
          | inl st ↦ absurd (deliver_not (sym ((by_trail).here st same) ∙ sym there_route ∙ z))
          | inr st ↦ elim (on_its_way p u st) [
            | inl o ↦ absurd (clash _ (c.track.store_is (owner ((k.ghost).trail p)) o).0 st)
            | inr o ↦ (subst (IsComing s p) (ap ((k.ghost).trail p).at (sym same) ∙ sym (lies).1) o, same)
          ]
        ]
      ]
        where
          below_or : (i j : ℕ) → i ≤ j → (i < j) ⊎ (i ≡ j)
          below_or i j l = grind arith

    wait_to : (p : Path) → (k.ghost).born p ≡ true → (c : Shows.Stays kind.system w course b.before Is_real k.ghost p (s.columns p)) (t i : ℕ) (m : Mail F) (a : Ask) → (s.cells t).mails i ≡ Some m → m.path ≡ p → m.letter ≡ Rattle.wave_states.specs.States.Letter.Enter a → route (s.columns p) m.host a.followed ≡ Wait → IsComing s p m.host × (a.followed ≡ ((k.ghost).trail p).last)
    wait_to p u c t i m a e q l = wait_to_by p c t i m a e q l u

    pub unborn_is : (p : Path) → (k.ghost).born p ≡ false → Rattle.wave_theory.specs.Trails.IsUnborn s p
    unborn_is p u = of_column (subst (λ i. Shows.ColumnShows kind.system w course b.before Is_real i k.ghost p (s.columns p)) u (x.columns p))
      where
        of_column : Shows.Unborn kind.system w course b.before Is_real k.ghost p (s.columns p) → Rattle.wave_theory.specs.Trails.IsUnborn s p
        of_column c = record {
          no_entry = c.empty.no_entry;
          no_mark = c.empty.no_marks;
          not_coming = λ h o. not_coming h o;
          birth = ((k.ghost).trail p).at 0;
          birth_is = λ q st en r kid e se be ce. birth_is p q st en r kid e se be ce;
          enters = λ t i m a e q l. let r = enters_lie p t i m a e q l in (subst (λ n. a.followed ≤ n) c.last r.0, r.1 ∙ ap ((k.ghost).trail p).at (let z : a.followed ≡ 0 = at_zero a.followed _ r.0 c.last in z));
        }
          where
            at_zero : (f n : ℕ) → f ≤ n → n ≡ 0 → f ≡ 0
            at_zero f n l e = omega arith

            not_coming : (h : ℕ) → IsOwner s p h → ⊥
            not_coming h (inl e) = clash false (sym (ap is_some (c.empty.no_entry h)) ∙ e) refl
            not_coming h (inr e) = (let n = mail_known e.ticket e.number _ e.mail in let y = (x.cells e.ticket n.0 n.1).mails e.number _ e.mail in
                clash _ y.0.holds (sym ((x.entries p).holders e.ticket) ∙ ap (λ (u : Entry F). Shows.holds_claim u.holders e.ticket) ((x.entries p).unborn u)))

    pub trail_is : (p : Path) → (k.ghost).born p ≡ true → Rattle.wave_theory.specs.Trails.IsTrail s p (record { at = ((k.ghost).trail p).at; last = ((k.ghost).trail p).last })
    trail_is p u = of_column (subst (λ i. Shows.ColumnShows kind.system w course b.before Is_real i k.ghost p (s.columns p)) u (x.columns p))
      where
        of_column : Shows.Stays kind.system w course b.before Is_real k.ghost p (s.columns p) → Rattle.wave_theory.specs.Trails.IsTrail s p (record { at = ((k.ghost).trail p).at; last = ((k.ghost).trail p).last })
        of_column c = record {
          neighbours = c.track.neighbours;
          owned = elim (bool_cases ((k.ghost).trail p).stored) [ inl st ↦ inl (c.track.stored_is st) | inr st ↦ on_its_way p u st ];
          owner = owner_is p;
          moves = λ en e. ap (λ (u : Entry F). u.moves) (entry_same p en e) ∙ (x.entries p).moves;
          marks = c.track.mark_is;
          unmarked = λ h e. elim (c.track.no_mark h e) [
            | inl z ↦ inl (ap (λ i. is_some ((s.columns p).store i)) z.1 ∙ c.track.stored_is z.0)
            | inr z ↦ inr z
          ];
          here = λ h e. let z = c.track.store_is h e in ap (s.columns p).gone z.1 ∙ c.track.here_no_mark z.0;
          enters = enters_lie p;
          waits = λ t i m a e q l. (wait_to p u c t i m a e q l, wait_from p c t i m a e q l);
          birth = λ q st en r kid e se be ce. birth_is p q st en r kid e se be ce;
          from_zero = λ e. ap (λ r. ((k.ghost).trail r).at 0) e ∙ x.root_birth;
        }

    pub trails : Rattle.wave_theory.specs.Trails.Trails kind b batches s
    trails p = elim (bool_cases ((k.ghost).born p)) [
      | inr u ↦ inl (unborn_is p u)
      | inl u ↦ inr (record { at = ((k.ghost).trail p).at; last = ((k.ghost).trail p).last }, trail_is p u)
    ]
