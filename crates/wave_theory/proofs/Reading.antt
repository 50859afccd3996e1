-- A label reads its ticket's cell, its context's column and its worker's hand alone, and changes nothing else.
use Rattle.std.proofs.Common.{◌≡◌, ℕ, suc, ◌+◌, ◌==◌, ◌&&◌, nat_eq, nat_lt, inl, inr, Bool, true, false, Option, Some, None, refl, sym, ◌∙◌, ap, ap₂, subst}
use Rattle.std.specs.Prelude.{if◌then◌else◌, is_none, option_map, option_and_then, slice_get}
use Rattle.wave_base.specs.Paths.{path_eq}
use Rattle.wave_base.specs.Fold.{Head}
use Rattle.wave_states.specs.Actors.{Actors}
use Rattle.wave_states.specs.States.{State, Cell, Column, Hand}
use Rattle.wave_states.specs.Labels.{Act, Label, Admit, Commit, Queue, Grant, Start, Stop, Free, Pass, Land, ticket_of, path_of, is_local}
use Rattle.wave_states.specs.Labels
use Rattle.wave_states.specs.Steps.{Part, Bench, step, act_bench, part_of, with_bench, admit, after_admit, commit, after_commit, only_if, next_ticket}
use Rattle.wave_theory.proofs.Basics.{clash, none_not, some_same, bool_cases, options, then_some, map_some, only_some, if_some, set_at, set_at_path, set_there, differ, path_cases, number_cases}
use Rattle.wave_theory.proofs.Commute.{local_step}
use Rattle.wave_theory.specs.Reads.{SameFor, SameElse, Reads, Changes}

some_map : {X Y : Type 0} (f : X → Y) (o : Option X) (x : X) → o ≡ Some x → option_map f o ≡ Some (f x)
some_map f o x e = ap (option_map f) e

none_map : {X Y : Type 0} (f : X → Y) (o : Option X) → option_map f o ≡ None → o ≡ None
none_map f None e = refl
none_map f (Some x) e = absurd (Rattle.wave_theory.proofs.Basics.some_not e)

none_again : {X Y : Type 0} (f : X → Y) (o : Option X) → o ≡ None → option_map f o ≡ None
none_again f o e = ap (option_map f) e

module _ {A F R J : Type 0} (sys : Actors A F R J) where
  -- what a label of one context finds
  abbrev bench_at : State A F R J → Label → Option (Bench A F R)
  bench_at s l = act_bench sys l.act l.host (part_of s (ticket_of l.act) (path_of l.act)) (s.hands l.worker)

  bench_same : (s v : State A F R J) (l : Label) → SameFor l s v → is_local l.act ≡ true → bench_at v l ≡ bench_at s l
  bench_same s v l h z = ap₂ (λ (x : Part A F R) o. act_bench sys l.act l.host x o) (same_part h.cell (h.column z)) h.hand
    where
      same_part : {c d : Cell A F R} {e f : Column F} → d ≡ c → f ≡ e → ◌≡◌ {A = Part A F R} (record { cell = d; column = f }) (record { cell = c; column = e })
      same_part p q = λ i. record { cell = p i; column = q i }

  pub step_local : (workers : ℕ) (s : State A F R J) (l : Label) → is_local l.act ≡ true → step sys workers s l ≡ (if nat_lt l.worker workers then option_map (λ y. with_bench s (ticket_of l.act) (path_of l.act) l.worker y) (bench_at s l) else None)
  unfolding step
  step_local workers s l z = ap (λ o. if nat_lt l.worker workers then o else None) (local_step sys s l.worker l.host l.act z)

  local_refused : (workers : ℕ) (s v : State A F R J) (l : Label) → SameFor l s v → is_local l.act ≡ true → step sys workers s l ≡ None → step sys workers v l ≡ None
  local_refused workers s v l h z e = step_local workers v l z ∙ by (nat_lt l.worker workers) (sym (step_local workers s l z) ∙ e)
    where
      by : (i : Bool) → (if i then option_map (λ y. with_bench s (ticket_of l.act) (path_of l.act) l.worker y) (bench_at s l) else None) ≡ None → (if i then option_map (λ y. with_bench v (ticket_of l.act) (path_of l.act) l.worker y) (bench_at v l) else None) ≡ None
      by false e = refl
      by true e = none_again _ (bench_at v l) (bench_same s v l h z ∙ none_map _ (bench_at s l) e)

  local_taken : (workers : ℕ) (s s' v : State A F R J) (l : Label) → SameFor l s v → is_local l.act ≡ true → step sys workers s l ≡ Some s' → (v' : State A F R J) × (step sys workers v l ≡ Some v') × SameFor l s' v'
  local_taken workers s s' v l h z e =
      let i = if_some (nat_lt l.worker workers) _ s' (sym (step_local workers s l z) ∙ e) in
      let y = map_some _ (bench_at s l) s' i.1 in (
        with_bench v (ticket_of l.act) (path_of l.act) l.worker y.0,
        step_local workers v l z ∙ ap (λ j. if j then option_map (λ y. with_bench v (ticket_of l.act) (path_of l.act) l.worker y) (bench_at v l) else None) i.0 ∙ some_map _ (bench_at v l) y.0 (bench_same s v l h z ∙ y.1),
        subst (λ (u : State A F R J). SameFor l u (with_bench v (ticket_of l.act) (path_of l.act) l.worker y.0)) (sym y.2) (record {
          cell = set_at v.cells (ticket_of l.act) _ ∙ sym (set_at s.cells (ticket_of l.act) _);
          hand = set_at v.hands l.worker _ ∙ sym (set_at s.hands l.worker _);
          column = λ n. set_at_path v.columns (path_of l.act) _ ∙ sym (set_at_path s.columns (path_of l.act) _);
          head = λ n. absurd (clash _ z n);
          counts = λ n. absurd (clash _ z n);
        }),
      )

  -- an Admit
  admit_same : (s v : State A F R J) (host t : ℕ) → v.head ≡ s.head → v.before ≡ s.before → v.admitted ≡ s.admitted → option_map (λ j. after_admit sys v t j) (option_and_then (λ j. only_if ((host == 0) && (t == next_ticket s)) j) (slice_get s.head.known s.admitted)) ≡ admit sys v host t
  admit_same s v host t h e a = by (slice_get s.head.known s.admitted) ∙ ap₂ (λ o n. option_and_then (λ j. only_if ((host == 0) && (t == n)) (after_admit sys v t j)) o) (ap₂ (λ (u : Head J) n. slice_get u.known n) (sym h) (sym a)) (ap₂ (λ m n. suc (m + n)) (sym e) (sym a))
    where
      by : (o : Option J) → option_map (λ j. after_admit sys v t j) (option_and_then (λ j. only_if ((host == 0) && (t == next_ticket s)) j) o) ≡ option_and_then (λ j. only_if ((host == 0) && (t == next_ticket s)) (after_admit sys v t j)) o
      by None = refl
      by (Some j) = test ((host == 0) && (t == next_ticket s))
        where
          test : (i : Bool) → option_map (λ j. after_admit sys v t j) (only_if i j) ≡ only_if i (after_admit sys v t j)
          test true = refl
          test false = refl

  abbrev admit_at : State A F R J → ℕ → ℕ → Option J
  admit_at s host t = option_and_then (λ j. only_if ((host == 0) && (t == next_ticket s)) j) (slice_get s.head.known s.admitted)

  commit_same : (s v : State A F R J) (host t : ℕ) → v.head ≡ s.head → v.before ≡ s.before → v.cells t ≡ s.cells t → option_map (λ r. after_commit sys v r) (option_and_then (λ r. only_if ((host == 0) && (t == suc (s.before + s.head.done))) r) (s.cells t).result) ≡ commit sys v host t
  commit_same s v host t h e c = by (s.cells t).result ∙ ap₂ (λ o n. option_and_then (λ r. only_if ((host == 0) && (t == n)) (after_commit sys v r)) o) (ap (λ (u : Cell A F R). u.result) (sym c)) (ap₂ (λ m (u : Head J). suc (m + u.done)) (sym e) (sym h))
    where
      by : (o : Option R) → option_map (λ r. after_commit sys v r) (option_and_then (λ r. only_if ((host == 0) && (t == suc (s.before + s.head.done))) r) o) ≡ option_and_then (λ r. only_if ((host == 0) && (t == suc (s.before + s.head.done))) (after_commit sys v r)) o
      by None = refl
      by (Some r) = test ((host == 0) && (t == suc (s.before + s.head.done)))
        where
          test : (i : Bool) → option_map (λ r. after_commit sys v r) (only_if i r) ≡ only_if i (after_commit sys v r)
          test true = refl
          test false = refl

  abbrev commit_at : State A F R J → ℕ → ℕ → Option R
  commit_at s host t = option_and_then (λ r. only_if ((host == 0) && (t == suc (s.before + s.head.done))) r) (s.cells t).result

  -- what a label that is on no context finds: a job or a result
  shared : {X : Type 0} (workers w : ℕ) (o : Option X) (h h' : Option (Hand A F)) (f f' : X → State A F R J) → h' ≡ h →
      ((if nat_lt w workers then (if is_none h then option_map f o else None) else None) ≡ None → (if nat_lt w workers then (if is_none h' then option_map f' o else None) else None) ≡ None)
  shared workers w o h h' f f' e = by (nat_lt w workers)
    where
      by : (i : Bool) → (if i then (if is_none h then option_map f o else None) else None) ≡ None → (if i then (if is_none h' then option_map f' o else None) else None) ≡ None
      by false k = refl
      by true k = ap (λ u. if is_none u then option_map f' o else None) e ∙ inner (is_none h) k
        where
          inner : (j : Bool) → (if j then option_map f o else None) ≡ None → (if j then option_map f' o else None) ≡ None
          inner false k = refl
          inner true k = none_again f' o (none_map f o k)

  shared_some : {X : Type 0} (workers w : ℕ) (o : Option X) (h h' : Option (Hand A F)) (f f' : X → State A F R J) (s : State A F R J) → h' ≡ h →
      (if nat_lt w workers then (if is_none h then option_map f o else None) else None) ≡ Some s → (x : X) × (s ≡ f x) × ((if nat_lt w workers then (if is_none h' then option_map f' o else None) else None) ≡ Some (f' x))
  shared_some workers w o h h' f f' s e k =
      let i = if_some (nat_lt w workers) _ s k in
      let j = if_some (is_none h) _ s i.1 in
      let x = map_some f o s j.1 in
      (x.0, x.2, ap (λ u. if u then (if is_none h' then option_map f' o else None) else None) i.0 ∙ ap (λ u. if is_none u then option_map f' o else None) e ∙ ap (λ u. if u then option_map f' o else None) j.0 ∙ some_map f' o x.0 x.1)

  admit_is : (workers : ℕ) (s v : State A F R J) (w host t : ℕ) → v.head ≡ s.head → v.before ≡ s.before → v.admitted ≡ s.admitted →
      step sys workers v (record { worker = w; host = host; act = Admit t }) ≡ (if nat_lt w workers then (if is_none (v.hands w) then option_map (λ j. after_admit sys v t j) (admit_at s host t) else None) else None)
  unfolding step
  admit_is workers s v w host t h e a = ap (λ o. if nat_lt w workers then (if is_none (v.hands w) then o else None) else None) (sym (admit_same s v host t h e a))

  commit_is : (workers : ℕ) (s v : State A F R J) (w host t : ℕ) → v.head ≡ s.head → v.before ≡ s.before → v.cells t ≡ s.cells t →
      step sys workers v (record { worker = w; host = host; act = Commit t }) ≡ (if nat_lt w workers then (if is_none (v.hands w) then option_map (λ r. after_commit sys v r) (commit_at s host t) else None) else None)
  unfolding step
  commit_is workers s v w host t h e c = ap (λ o. if nat_lt w workers then (if is_none (v.hands w) then o else None) else None) (sym (commit_same s v host t h e c))

  refused : (workers : ℕ) (s v : State A F R J) (w host : ℕ) (a : Act) → SameFor (record { worker = w; host = host; act = a }) s v → step sys workers s (record { worker = w; host = host; act = a }) ≡ None → step sys workers v (record { worker = w; host = host; act = a }) ≡ None
  refused workers s v w host (Admit t) h e = admit_is workers s v w host t (h.head refl) (h.counts refl).0 (h.counts refl).1 ∙ shared workers w (admit_at s host t) (s.hands w) (v.hands w) (λ j. after_admit sys s t j) (λ j. after_admit sys v t j) h.hand (sym (admit_is workers s s w host t refl refl refl) ∙ e)
  refused workers s v w host (Commit t) h e = commit_is workers s v w host t (h.head refl) (h.counts refl).0 h.cell ∙ shared workers w (commit_at s host t) (s.hands w) (v.hands w) (λ r. after_commit sys s r) (λ r. after_commit sys v r) h.hand (sym (commit_is workers s s w host t refl refl refl) ∙ e)
  refused workers s v w host (Queue t k p) h e = local_refused workers s v _ h refl e
  refused workers s v w host (Grant t p) h e = local_refused workers s v _ h refl e
  refused workers s v w host (Labels.Visit t k p) h e = local_refused workers s v _ h refl e
  refused workers s v w host (Start t p) h e = local_refused workers s v _ h refl e
  refused workers s v w host (Stop t p) h e = local_refused workers s v _ h refl e
  refused workers s v w host (Free t k p) h e = local_refused workers s v _ h refl e
  refused workers s v w host (Pass t k p g) h e = local_refused workers s v _ h refl e
  refused workers s v w host (Land t k p) h e = local_refused workers s v _ h refl e

  taken : (workers : ℕ) (s s' v : State A F R J) (w host : ℕ) (a : Act) → SameFor (record { worker = w; host = host; act = a }) s v → step sys workers s (record { worker = w; host = host; act = a }) ≡ Some s' →
      (v' : State A F R J) × (step sys workers v (record { worker = w; host = host; act = a }) ≡ Some v') × SameFor (record { worker = w; host = host; act = a }) s' v'
  taken workers s s' v w host (Admit t) h e =
      let x = shared_some workers w (admit_at s host t) (s.hands w) (v.hands w) (λ j. after_admit sys s t j) (λ j. after_admit sys v t j) s' h.hand (sym (admit_is workers s s w host t refl refl refl) ∙ e) in (
        after_admit sys v t x.0,
        admit_is workers s v w host t (h.head refl) (h.counts refl).0 (h.counts refl).1 ∙ x.2,
        subst (λ (u : State A F R J). SameFor (record { worker = w; host = host; act = Admit t }) u (after_admit sys v t x.0)) (sym x.1) (record {
          cell = set_at v.cells t _ ∙ sym (set_at s.cells t _);
          hand = h.hand;
          column = λ n. absurd (clash false n refl);
          head = λ n. h.head refl;
          counts = λ n. ((h.counts refl).0, ap suc (h.counts refl).1);
        }),
      )
  taken workers s s' v w host (Commit t) h e =
      let x = shared_some workers w (commit_at s host t) (s.hands w) (v.hands w) (λ r. after_commit sys s r) (λ r. after_commit sys v r) s' h.hand (sym (commit_is workers s s w host t refl refl refl) ∙ e) in (
        after_commit sys v x.0,
        commit_is workers s v w host t (h.head refl) (h.counts refl).0 h.cell ∙ x.2,
        subst (λ (u : State A F R J). SameFor (record { worker = w; host = host; act = Commit t }) u (after_commit sys v x.0)) (sym x.1) (record {
          cell = h.cell;
          hand = h.hand;
          column = λ n. absurd (clash false n refl);
          head = λ n. ap (λ u. Rattle.wave_base.specs.Fold.with_done u (sys.created x.0)) (h.head refl);
          counts = λ n. h.counts refl;
        }),
      )
  taken workers s s' v w host (Queue t k p) h e = local_taken workers s s' v _ h refl e
  taken workers s s' v w host (Grant t p) h e = local_taken workers s s' v _ h refl e
  taken workers s s' v w host (Labels.Visit t k p) h e = local_taken workers s s' v _ h refl e
  taken workers s s' v w host (Start t p) h e = local_taken workers s s' v _ h refl e
  taken workers s s' v w host (Stop t p) h e = local_taken workers s s' v _ h refl e
  taken workers s s' v w host (Free t k p) h e = local_taken workers s s' v _ h refl e
  taken workers s s' v w host (Pass t k p g) h e = local_taken workers s s' v _ h refl e
  taken workers s s' v w host (Land t k p) h e = local_taken workers s s' v _ h refl e

  pub reads : Reads sys
  reads = record { refused = λ workers s v l. refused workers s v l.worker l.host l.act; taken = λ workers s s' v l. taken workers s s' v l.worker l.host l.act }

  local_changes : (workers : ℕ) (s v : State A F R J) (l : Label) → is_local l.act ≡ true → step sys workers s l ≡ Some v → SameElse l s v
  local_changes workers s v l z e =
      let i = if_some (nat_lt l.worker workers) _ v (sym (step_local workers s l z) ∙ e) in
      let y = map_some _ (bench_at s l) v i.1 in
      subst (SameElse l s) (sym y.2) (record {
        cells = λ t n. set_there nat_eq s.cells (ticket_of l.act) _ t (differ (ticket_of l.act) t (λ d. n (sym d)));
        hands = λ u n. set_there nat_eq s.hands l.worker _ u (differ l.worker u (λ d. n (sym d)));
        columns = λ p n. elim (path_cases (path_of l.act) p) [ inr d ↦ set_there path_eq s.columns (path_of l.act) _ p d | inl d ↦ absurd (n z (sym d)) ];
        head = λ n. refl;
        admitted = λ n. refl;
        before = refl;
      })

  changes_by : (workers : ℕ) (s v : State A F R J) (w host : ℕ) (a : Act) → step sys workers s (record { worker = w; host = host; act = a }) ≡ Some v → SameElse (record { worker = w; host = host; act = a }) s v
  changes_by workers s v w host (Admit t) e =
      let x = shared_some workers w (admit_at s host t) (s.hands w) (s.hands w) (λ j. after_admit sys s t j) (λ j. after_admit sys s t j) v refl (sym (admit_is workers s s w host t refl refl refl) ∙ e) in
      subst (SameElse (record { worker = w; host = host; act = Admit t }) s) (sym x.1) (record {
        cells = λ u n. set_there nat_eq s.cells t _ u (differ t u (λ d. n (sym d)));
        hands = λ u n. refl;
        columns = λ p n. refl;
        head = λ n. refl;
        admitted = λ n. absurd (clash false n refl);
        before = refl;
      })
  changes_by workers s v w host (Commit t) e =
      let x = shared_some workers w (commit_at s host t) (s.hands w) (s.hands w) (λ r. after_commit sys s r) (λ r. after_commit sys s r) v refl (sym (commit_is workers s s w host t refl refl refl) ∙ e) in
      subst (SameElse (record { worker = w; host = host; act = Commit t }) s) (sym x.1) (record {
        cells = λ u n. refl;
        hands = λ u n. refl;
        columns = λ p n. refl;
        head = λ n. absurd (clash false n refl);
        admitted = λ n. refl;
        before = refl;
      })
  changes_by workers s v w host (Queue t k p) e = local_changes workers s v _ refl e
  changes_by workers s v w host (Grant t p) e = local_changes workers s v _ refl e
  changes_by workers s v w host (Labels.Visit t k p) e = local_changes workers s v _ refl e
  changes_by workers s v w host (Start t p) e = local_changes workers s v _ refl e
  changes_by workers s v w host (Stop t p) e = local_changes workers s v _ refl e
  changes_by workers s v w host (Free t k p) e = local_changes workers s v _ refl e
  changes_by workers s v w host (Pass t k p g) e = local_changes workers s v _ refl e
  changes_by workers s v w host (Land t k p) e = local_changes workers s v _ refl e

  pub changes : Changes sys
  changes workers s v l e = changes_by workers s v l.worker l.host l.act e
