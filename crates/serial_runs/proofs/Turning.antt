-- Two labels of which neither changes what the other reads lead to one state in either order.
use Rattle.std.proofs.Common.{◌≡◌, ◌≢◌, ◌⊎◌, ◌&&◌, ◌==◌, inl, inr, ℕ, suc, ◌+◌, nat_eq, nat_lt, true, false, Option, Some, None, List, [], ◌∷◌, ◌++◌, refl, sym, ◌∙◌, ap, subst}
use Rattle.std.specs.Prelude.{if◌then◌else◌, is_none, option_and_then, slice_get}
use mathlib.Core.Path.{fun_ext}
use Rattle.wave_base.specs.declared.path.Path.{Path}
use Rattle.wave_base.specs.Fold.{Head}
use Rattle.wave_base.specs.Paths.{path_eq}
use Rattle.wave_states.specs.Actors.{Actors}
use Rattle.wave_states.specs.States.{Cell, Column, Hand, State}
use Rattle.wave_states.specs.Labels.{Act, Label, Admit, Commit, Queue, Grant, Start, Stop, Free, Pass, Land, is_local, is_start, is_stop, path_of, ticket_of}
use Rattle.wave_states.specs.Labels
use Rattle.wave_states.specs.Steps.{Bench, Part, act_bench, admit, after_admit, calm, commit, after_commit, next_ticket, only_if, part_of, step, with_bench, with_hand}
use Rattle.wave_states.specs.Runs.{run}
use Rattle.wave_theory.specs.Independent.{Both, Independent}
use Rattle.wave_theory.specs.Reads.{Changes, Reads, SameElse, SameFor}
use Rattle.wave_theory.proofs.Basics.{and_second, bool_cases, clash, if_some, map_some, none_not, not_same, number_cases, number_is, only_some, path_cases, path_self, set_apart, set_at, some_same, then_some}
use Rattle.wave_theory.proofs.Folds.{done_keeps}
use Rattle.wave_theory.proofs.Reading.{step_local}
use Rattle.serial_runs.specs.Orders.{AreStrangers, EitherOrder, NeighboursChange}
use Rattle.serial_runs.proofs.Cuts.{cut}

-- a label is on the context
on_path : (l : Label) (p : Path) → ((is_local l.act ≡ true) × (path_of l.act ≡ p)) ⊎ (is_local l.act ≡ true → p ≢ path_of l.act)
on_path l p = elim (bool_cases (is_local l.act)) [
  | inr n ↦ inr (λ i. absurd (clash (is_local l.act) i n))
  | inl i ↦ elim (path_cases (path_of l.act) p) [
    | inl e ↦ inl (i, e)
    | inr d ↦ inr (λ j e. clash (path_eq (path_of l.act) p) (subst (λ q. path_eq q p ≡ true) e (path_self p)) d)
  ]
]

-- Neither changes the ticket's cell or the context's column that the other reads; and one at least is on a context.
record Aside (l l' : Label) : Type 0 where
  tickets : ticket_of l.act ≢ ticket_of l'.act
  contexts : is_local l.act ≡ true → is_local l'.act ≡ true → path_of l.act ≢ path_of l'.act
  one : (is_local l.act ≡ true) ⊎ (is_local l'.act ≡ true)

turned : (l l' : Label) → Aside l l' → Aside l' l
turned l l' a = record {
  tickets = λ e. a.tickets (sym e);
  contexts = λ i j e. a.contexts j i (sym e);
  one = elim a.one [ inl e ↦ inr e | inr e ↦ inl e ];
}

local_beside : (l l' : Label) → Aside l l' → is_local l'.act ≡ false → is_local l.act ≡ true
local_beside l l' a n = elim a.one [ inl e ↦ e | inr e ↦ absurd (clash (is_local l'.act) e n) ]

module _ {A F R J : Type 0} where
  same_for : (s v : State A F R J) (l l' : Label) → Aside l l' → SameElse l s v → v.hands l'.worker ≡ s.hands l'.worker → SameFor l' s v
  same_for s v l l' a c h = record {
    cell = c.cells (ticket_of l'.act) (λ e. a.tickets (sym e));
    hand = h;
    column = λ i. c.columns (path_of l'.act) (λ j e. a.contexts j i (sym e));
    head = λ n. c.head (local_beside l l' a n);
    counts = λ n. (c.before, c.admitted (local_beside l l' a n));
  }

  turn_same : (s v : State A F R J) (l : Label) → SameFor l s v → SameFor l v s
  turn_same s v l f = record {
    cell = sym f.cell;
    hand = sym f.hand;
    column = λ i. sym (f.column i);
    head = λ n. sym (f.head n);
    counts = λ n. (sym (f.counts n).0, sym (f.counts n).1);
  }

  -- l leads from s to s₁ and l' to s₂; then l' from s₁ to v, and l from s₂ to v'
  record Square (l l' : Label) (s s₁ s₂ v v' : State A F R J) : Type 0 where
    aside : Aside l l'
    here : SameElse l s s₁
    there : SameElse l' s s₂
    after : SameElse l' s₁ v
    after' : SameElse l s₂ v'
    same : SameFor l' s₂ v
    same' : SameFor l s₁ v'
    hand : s₁.hands l'.worker ≡ s.hands l'.worker
    hand' : s₂.hands l.worker ≡ s.hands l.worker

  module _ (l l' : Label) (s s₁ s₂ v v' : State A F R J) (x : Square l l' s s₁ s₂ v v') where
    cells : (u : ℕ) → v.cells u ≡ v'.cells u
    cells u = elim (number_cases (ticket_of l.act) u) [
      | inl e ↦ subst (λ u. v.cells u ≡ v'.cells u) e (x.after.cells (ticket_of l.act) x.aside.tickets ∙ sym x.same'.cell)
      | inr d ↦ elim (number_cases (ticket_of l'.act) u) [
        | inl e ↦ subst (λ u. v.cells u ≡ v'.cells u) e (x.same.cell ∙ sym (x.after'.cells (ticket_of l'.act) (λ z. x.aside.tickets (sym z))))
        | inr d' ↦ x.after.cells u (λ z. not_same (ticket_of l'.act) u d' (sym z)) ∙ x.here.cells u (λ z. not_same (ticket_of l.act) u d (sym z))
            ∙ sym (x.after'.cells u (λ z. not_same (ticket_of l.act) u d (sym z)) ∙ x.there.cells u (λ z. not_same (ticket_of l'.act) u d' (sym z)))
      ]
    ]

    hands : (u : ℕ) → v.hands u ≡ v'.hands u
    hands u = elim (number_cases l.worker u) [
      | inl e ↦ elim (number_cases l'.worker u) [
        | inl e' ↦ subst (λ u. v.hands u ≡ s₂.hands u) e' x.same.hand ∙ subst (λ u. s₂.hands u ≡ s.hands u) e x.hand'
            ∙ sym (subst (λ u. v'.hands u ≡ s₁.hands u) e x.same'.hand ∙ subst (λ u. s₁.hands u ≡ s.hands u) e' x.hand)
        | inr d' ↦ x.after.hands u (λ z. not_same l'.worker u d' (sym z)) ∙ sym (subst (λ u. v'.hands u ≡ s₁.hands u) e x.same'.hand)
      ]
      | inr d ↦ elim (number_cases l'.worker u) [
        | inl e' ↦ subst (λ u. v.hands u ≡ s₂.hands u) e' x.same.hand ∙ sym (x.after'.hands u (λ z. not_same l.worker u d (sym z)))
        | inr d' ↦ x.after.hands u (λ z. not_same l'.worker u d' (sym z)) ∙ x.here.hands u (λ z. not_same l.worker u d (sym z))
            ∙ sym (x.after'.hands u (λ z. not_same l.worker u d (sym z)) ∙ x.there.hands u (λ z. not_same l'.worker u d' (sym z)))
      ]
    ]

    columns : (p : Path) → v.columns p ≡ v'.columns p
    columns p = elim (on_path l p) [
      | inl e ↦ subst (λ p. v.columns p ≡ v'.columns p) e.1 (x.after.columns (path_of l.act) (λ i. x.aside.contexts e.0 i) ∙ sym (x.same'.column e.0))
      | inr d ↦ elim (on_path l' p) [
        | inl e ↦ subst (λ p. v.columns p ≡ v'.columns p) e.1 (x.same.column e.0 ∙ sym (x.after'.columns (path_of l'.act) (λ i z. x.aside.contexts i e.0 (sym z))))
        | inr d' ↦ x.after.columns p d' ∙ x.here.columns p d ∙ sym (x.after'.columns p d ∙ x.there.columns p d')
      ]
    ]

    shared : (v.head ≡ v'.head) × (v.admitted ≡ v'.admitted)
    shared = elim (bool_cases (is_local l.act)) [
      | inr n ↦ (let i = local_beside l' l (turned l l' x.aside) n in
          (x.after.head i ∙ sym (x.same'.head n), x.after.admitted i ∙ sym (x.same'.counts n).1))
      | inl j ↦ elim (bool_cases (is_local l'.act)) [
        | inr n ↦ (x.same.head n ∙ sym (x.after'.head j), (x.same.counts n).1 ∙ sym (x.after'.admitted j))
        | inl i ↦ (x.after.head i ∙ x.here.head j ∙ sym (x.after'.head j ∙ x.there.head i), x.after.admitted i ∙ x.here.admitted j ∙ sym (x.after'.admitted j ∙ x.there.admitted i))
      ]
    ]

    befores : v.before ≡ v'.before
    befores = x.after.before ∙ x.here.before ∙ sym (x.after'.before ∙ x.there.before)

    meet : v ≡ v'
    meet = by v.before v'.before befores v.head v'.head shared.0 v.admitted v'.admitted shared.1 v.cells v'.cells (fun_ext cells) v.columns v'.columns (fun_ext columns) v.hands v'.hands (fun_ext hands)
      where
        by : (b b' : ℕ) → b ≡ b' → (h h' : Head J) → h ≡ h' → (n n' : ℕ) → n ≡ n' → (c c' : ℕ → Cell A F R) → c ≡ c' → (k k' : Path → Column F) → k ≡ k' → (g g' : ℕ → Option (Hand A F)) → g ≡ g' →
            ◌≡◌ {A = State A F R J} (record { before = b; head = h; admitted = n; cells = c; columns = k; hands = g }) (record { before = b'; head = h'; admitted = n'; cells = c'; columns = k'; hands = g' })
        by b b' eb h h' eh n n' en c c' ec k k' ek g g' eg = λ i. record { before = eb i; head = eh i; admitted = en i; cells = ec i; columns = ek i; hands = eg i }

module _ {A F R J : Type 0} (sys : Actors A F R J) (workers : ℕ) where
  module _ (reads : Reads sys) (changes : Changes sys) where
    turn : (s s₁ s₂ : State A F R J) (l l' : Label) → Aside l l' → step sys workers s l ≡ Some s₁ → step sys workers s l' ≡ Some s₂ → s₁.hands l'.worker ≡ s.hands l'.worker → s₂.hands l.worker ≡ s.hands l.worker → Both sys workers s s₁ s₂ l l'
    turn s s₁ s₂ l l' a e e' h h' =
        let here = changes workers s s₁ l e in
        let there = changes workers s s₂ l' e' in
        let x = reads.taken workers s s₂ s₁ l' (same_for s s₁ l l' a here h) e' in
        let y = reads.taken workers s s₁ s₂ l (same_for s s₂ l' l (turned l l' a) there h') e in
        let m = meet l l' s s₁ s₂ x.0 y.0 (record { aside = a; here = here; there = there; after = changes workers s₁ x.0 l' x.1; after' = changes workers s₂ y.0 l y.1; same = x.2; same' = y.2; hand = h; hand' = h' }) in
        record { state = x.0; there = x.1; here = y.1 ∙ ap Some (sym m) }

  -- ---- hands

  emptied : (o : Option (Part A F R)) (y : Bench A F R) → with_hand None o ≡ Some y → y.hand ≡ None
  emptied o y e = ap (λ (z : Bench A F R). z.hand) (map_some (λ x. record { part = x; hand = None }) o y e).2

  -- what is neither a Start nor a Stop finds an idle worker and leaves it idle; and a Start an idle one
  idle_bench : (a : Act) (h : ℕ) (x : Part A F R) (g : Option (Hand A F)) (y : Bench A F R) → is_start a ≡ false → is_stop a ≡ false → act_bench sys a h x g ≡ Some y → (g ≡ None) × (y.hand ≡ None)
  idle_bench (Start t p) h x g y u v e = absurd (clash true refl u)
  idle_bench (Stop t p) h x g y u v e = absurd (clash true refl v)
  idle_bench (Admit t) h x None y u v e = (refl, emptied (calm sys (Admit t) h x) y e)
  idle_bench (Commit t) h x None y u v e = (refl, emptied (calm sys (Commit t) h x) y e)
  idle_bench (Queue t k p) h x None y u v e = (refl, emptied (calm sys (Queue t k p) h x) y e)
  idle_bench (Grant t p) h x None y u v e = (refl, emptied (calm sys (Grant t p) h x) y e)
  idle_bench (Labels.Visit t k p) h x None y u v e = (refl, emptied (calm sys (Labels.Visit t k p) h x) y e)
  idle_bench (Free t k p) h x None y u v e = (refl, emptied (calm sys (Free t k p) h x) y e)
  idle_bench (Pass t k p q) h x None y u v e = (refl, emptied (calm sys (Pass t k p q) h x) y e)
  idle_bench (Land t k p) h x None y u v e = (refl, emptied (calm sys (Land t k p) h x) y e)
  idle_bench (Admit t) h x (Some g) y u v e = absurd (none_not e)
  idle_bench (Commit t) h x (Some g) y u v e = absurd (none_not e)
  idle_bench (Queue t k p) h x (Some g) y u v e = absurd (none_not e)
  idle_bench (Grant t p) h x (Some g) y u v e = absurd (none_not e)
  idle_bench (Labels.Visit t k p) h x (Some g) y u v e = absurd (none_not e)
  idle_bench (Free t k p) h x (Some g) y u v e = absurd (none_not e)
  idle_bench (Pass t k p q) h x (Some g) y u v e = absurd (none_not e)
  idle_bench (Land t k p) h x (Some g) y u v e = absurd (none_not e)

  -- a Stop finds a worker that isn't idle
  busy_bench : (a : Act) (h : ℕ) (x : Part A F R) (y : Bench A F R) → is_stop a ≡ true → act_bench sys a h x None ≡ Some y → ⊥
  busy_bench (Stop t p) h x y v e = none_not e
  busy_bench (Start t p) h x y v e = clash false v refl
  busy_bench (Admit t) h x y v e = clash false v refl
  busy_bench (Commit t) h x y v e = clash false v refl
  busy_bench (Queue t k p) h x y v e = clash false v refl
  busy_bench (Grant t p) h x y v e = clash false v refl
  busy_bench (Labels.Visit t k p) h x y v e = clash false v refl
  busy_bench (Free t k p) h x y v e = clash false v refl
  busy_bench (Pass t k p q) h x y v e = clash false v refl
  busy_bench (Land t k p) h x y v e = clash false v refl

  record Stepped (s v : State A F R J) (l : Label) : Type 0 where
    bench : Bench A F R
    is_bench : act_bench sys l.act l.host (part_of s (ticket_of l.act) (path_of l.act)) (s.hands l.worker) ≡ Some bench
    gives : v ≡ with_bench s (ticket_of l.act) (path_of l.act) l.worker bench

  stepped : (s v : State A F R J) (l : Label) → is_local l.act ≡ true → step sys workers s l ≡ Some v → Stepped s v l
  stepped s v l i e =
      let o = if_some (nat_lt l.worker workers) _ v (sym (step_local sys workers s l i) ∙ e) in
      let y = map_some _ (act_bench sys l.act l.host (part_of s (ticket_of l.act) (path_of l.act)) (s.hands l.worker)) v o.1 in
      record { bench = y.0; is_bench = y.1; gives = y.2 }

  -- an Admit or a Commit: what it finds, and what it leaves
  record Admits (s v : State A F R J) (w host t : ℕ) : Type 0 where
    fits : nat_lt w workers ≡ true
    idle : is_none (s.hands w) ≡ true
    job : J
    job_is : slice_get s.head.known s.admitted ≡ Some job
    holds : ((host == 0) && (t == next_ticket s)) ≡ true
    gives : after_admit sys s t job ≡ v

  admits : (s v : State A F R J) (w host t : ℕ) → step sys workers s (record { worker = w; host = host; act = Admit t }) ≡ Some v → Admits s v w host t
  unfolding step
  admits s v w host t e =
      let o = if_some (nat_lt w workers) (if is_none (s.hands w) then admit sys s host t else None) v e in
      let i = if_some (is_none (s.hands w)) (admit sys s host t) v o.1 in
      let j = then_some (λ j. only_if ((host == 0) && (t == next_ticket s)) (after_admit sys s t j)) (slice_get s.head.known s.admitted) v i.1 in
      let k = only_some ((host == 0) && (t == next_ticket s)) (after_admit sys s t j.0) v j.2 in
      record { fits = o.0; idle = i.0; job = j.0; job_is = j.1; holds = k.0; gives = k.1 }

  admits_again : (s : State A F R J) (w host t : ℕ) (j : J) → nat_lt w workers ≡ true → is_none (s.hands w) ≡ true → slice_get s.head.known s.admitted ≡ Some j → ((host == 0) && (t == next_ticket s)) ≡ true → step sys workers s (record { worker = w; host = host; act = Admit t }) ≡ Some (after_admit sys s t j)
  unfolding step
  admits_again s w host t j f i e h = rw f (rw i (rw e (rw h refl)))

  record Commits (s v : State A F R J) (w host t : ℕ) : Type 0 where
    fits : nat_lt w workers ≡ true
    idle : is_none (s.hands w) ≡ true
    result : R
    result_is : (s.cells t).result ≡ Some result
    holds : ((host == 0) && (t == suc (s.before + s.head.done))) ≡ true
    gives : after_commit sys s result ≡ v

  commits : (s v : State A F R J) (w host t : ℕ) → step sys workers s (record { worker = w; host = host; act = Commit t }) ≡ Some v → Commits s v w host t
  unfolding step
  commits s v w host t e =
      let o = if_some (nat_lt w workers) (if is_none (s.hands w) then commit sys s host t else None) v e in
      let i = if_some (is_none (s.hands w)) (commit sys s host t) v o.1 in
      let j = then_some (λ r. only_if ((host == 0) && (t == suc (s.before + s.head.done))) (after_commit sys s r)) (s.cells t).result v i.1 in
      let k = only_some ((host == 0) && (t == suc (s.before + s.head.done))) (after_commit sys s j.0) v j.2 in
      record { fits = o.0; idle = i.0; result = j.0; result_is = j.1; holds = k.0; gives = k.1 }

  commits_again : (s : State A F R J) (w host t : ℕ) (r : R) → nat_lt w workers ≡ true → is_none (s.hands w) ≡ true → (s.cells t).result ≡ Some r → ((host == 0) && (t == suc (s.before + s.head.done))) ≡ true → step sys workers s (record { worker = w; host = host; act = Commit t }) ≡ Some (after_commit sys s r)
  unfolding step
  commits_again s w host t r f i e h = rw f (rw i (rw e (rw h refl)))

  idle_is : (o : Option (Hand A F)) → is_none o ≡ true → o ≡ None
  idle_is None e = refl
  idle_is (Some x) e = absurd (clash false e refl)

  no_start_there : (w host : ℕ) (a : Act) (s v : State A F R J) → is_local a ≡ false → step sys workers s (record { worker = w; host = host; act = a }) ≡ Some v → (s.hands w ≡ None) × ((u : ℕ) → v.hands u ≡ s.hands u)
  no_start_there w host (Admit t) s v n e = (let x = admits s v w host t e in (idle_is (s.hands w) x.idle, λ u. ap (λ (z : State A F R J). z.hands u) (sym x.gives)))
  no_start_there w host (Commit t) s v n e = (let x = commits s v w host t e in (idle_is (s.hands w) x.idle, λ u. ap (λ (z : State A F R J). z.hands u) (sym x.gives)))
  no_start_there w host (Queue t k p) s v n e = absurd (clash true refl n)
  no_start_there w host (Grant t p) s v n e = absurd (clash true refl n)
  no_start_there w host (Labels.Visit t k p) s v n e = absurd (clash true refl n)
  no_start_there w host (Start t p) s v n e = absurd (clash true refl n)
  no_start_there w host (Stop t p) s v n e = absurd (clash true refl n)
  no_start_there w host (Free t k p) s v n e = absurd (clash true refl n)
  no_start_there w host (Pass t k p q) s v n e = absurd (clash true refl n)
  no_start_there w host (Land t k p) s v n e = absurd (clash true refl n)

  -- neither a Start nor a Stop: the worker is idle, and stays so
  stays_idle : (s v : State A F R J) (l : Label) → is_start l.act ≡ false → is_stop l.act ≡ false → step sys workers s l ≡ Some v → (s.hands l.worker ≡ None) × (v.hands l.worker ≡ s.hands l.worker)
  stays_idle s v l u n e = elim (bool_cases (is_local l.act)) [
    | inr i ↦ (let x = no_start_there l.worker l.host l.act s v i e in (x.0, x.1 l.worker))
    | inl i ↦ (let x = stepped s v l i e in
        let y = idle_bench l.act l.host (part_of s (ticket_of l.act) (path_of l.act)) (s.hands l.worker) x.bench u n x.is_bench in
        (y.0, ap (λ (z : State A F R J). z.hands l.worker) x.gives ∙ set_at s.hands l.worker x.bench.hand ∙ y.1 ∙ sym y.0))
  ]

  -- where its worker is idle, what is no Start is no Stop
  no_stop : (s v : State A F R J) (l : Label) → s.hands l.worker ≡ None → step sys workers s l ≡ Some v → is_stop l.act ≡ false
  no_stop s v l h e = elim (bool_cases (is_stop l.act)) [
    | inr n ↦ n
    | inl y ↦ elim (bool_cases (is_local l.act)) [
      | inl i ↦ (let x = stepped s v l i e in absurd (busy_bench l.act l.host (part_of s (ticket_of l.act) (path_of l.act)) x.bench y (subst (λ o. act_bench sys l.act l.host (part_of s (ticket_of l.act) (path_of l.act)) o ≡ Some x.bench) h x.is_bench)))
      | inr i ↦ absurd (local_stop l.act y i)
    ]
  ]
    where
      local_stop : (a : Act) → is_stop a ≡ true → is_local a ≡ false → ⊥
      local_stop (Stop t p) y i = clash true refl i
      local_stop (Admit t) y i = clash false y refl
      local_stop (Commit t) y i = clash false y refl
      local_stop (Queue t k p) y i = clash true refl i
      local_stop (Grant t p) y i = clash true refl i
      local_stop (Labels.Visit t k p) y i = clash true refl i
      local_stop (Start t p) y i = clash true refl i
      local_stop (Free t k p) y i = clash true refl i
      local_stop (Pass t k p q) y i = clash true refl i
      local_stop (Land t k p) y i = clash true refl i

  -- ---- an Admit and a Commit

  both_shared : (s s₁ s₂ : State A F R J) (w w' h h' t t' : ℕ) → t ≢ t' → step sys workers s (record { worker = w; host = h; act = Admit t }) ≡ Some s₁ → step sys workers s (record { worker = w'; host = h'; act = Commit t' }) ≡ Some s₂ →
      Both sys workers s s₁ s₂ (record { worker = w; host = h; act = Admit t }) (record { worker = w'; host = h'; act = Commit t' })
  both_shared s s₁ s₂ w w' h h' t t' d e e' =
      let x = admits s s₁ w h t e in
      let y = commits s s₂ w' h' t' e' in
      record {
        state = after_commit sys (after_admit sys s t x.job) y.result;
        there = subst (λ z. step sys workers z (record { worker = w'; host = h'; act = Commit t' }) ≡ Some (after_commit sys (after_admit sys s t x.job) y.result)) x.gives
            (commits_again (after_admit sys s t x.job) w' h' t' y.result y.fits y.idle (ap (λ (c : Cell A F R). c.result) (set_apart nat_eq s.cells t t' _ number_is d) ∙ y.result_is) y.holds);
        here = subst (λ z. step sys workers z (record { worker = w; host = h; act = Admit t }) ≡ Some (after_commit sys (after_admit sys s t x.job) y.result)) y.gives
            (admits_again (after_commit sys s y.result) w h t x.job x.fits x.idle (done_keeps s.head (sys.created y.result) s.admitted x.job x.job_is) x.holds);
      }

  swapped : (s s₁ s₂ : State A F R J) (l l' : Label) → Both sys workers s s₁ s₂ l l' → Both sys workers s s₂ s₁ l' l
  swapped s s₁ s₂ l l' b = record { state = b.state; there = b.here; here = b.there }

  neither_local : (w w' h h' : ℕ) (a a' : Act) (s s₁ s₂ : State A F R J) → is_local a ≡ false → is_local a' ≡ false → ticket_of a ≢ ticket_of a' →
      step sys workers s (record { worker = w; host = h; act = a }) ≡ Some s₁ → step sys workers s (record { worker = w'; host = h'; act = a' }) ≡ Some s₂ →
      Both sys workers s s₁ s₂ (record { worker = w; host = h; act = a }) (record { worker = w'; host = h'; act = a' })
  neither_local w w' h h' (Admit t) (Commit t') s s₁ s₂ n n' d e e' = both_shared s s₁ s₂ w w' h h' t t' d e e'
  neither_local w w' h h' (Commit t) (Admit t') s s₁ s₂ n n' d e e' = swapped s s₂ s₁ (record { worker = w'; host = h'; act = Admit t' }) (record { worker = w; host = h; act = Commit t }) (both_shared s s₂ s₁ w' w h' h t' t (λ z. d (sym z)) e' e)
  neither_local w w' h h' (Admit t) (Admit t') s s₁ s₂ n n' d e e' = absurd (d (number_is t (next_ticket s) (and_second (h == 0) (t == next_ticket s) (admits s s₁ w h t e).holds) ∙ sym (number_is t' (next_ticket s) (and_second (h' == 0) (t' == next_ticket s) (admits s s₂ w' h' t' e').holds))))
  neither_local w w' h h' (Commit t) (Commit t') s s₁ s₂ n n' d e e' = (let m = suc (s.before + s.head.done) in
      absurd (d (number_is t m (and_second (h == 0) (t == m) (commits s s₁ w h t e).holds) ∙ sym (number_is t' m (and_second (h' == 0) (t' == m) (commits s s₂ w' h' t' e').holds)))))
  neither_local w w' h h' a (Queue t k p) s s₁ s₂ n n' d e e' = absurd (clash true refl n')
  neither_local w w' h h' a (Grant t p) s s₁ s₂ n n' d e e' = absurd (clash true refl n')
  neither_local w w' h h' a (Labels.Visit t k p) s s₁ s₂ n n' d e e' = absurd (clash true refl n')
  neither_local w w' h h' a (Start t p) s s₁ s₂ n n' d e e' = absurd (clash true refl n')
  neither_local w w' h h' a (Stop t p) s s₁ s₂ n n' d e e' = absurd (clash true refl n')
  neither_local w w' h h' a (Free t k p) s s₁ s₂ n n' d e e' = absurd (clash true refl n')
  neither_local w w' h h' a (Pass t k p q) s s₁ s₂ n n' d e e' = absurd (clash true refl n')
  neither_local w w' h h' a (Land t k p) s s₁ s₂ n n' d e e' = absurd (clash true refl n')
  neither_local w w' h h' (Queue t k p) a' s s₁ s₂ n n' d e e' = absurd (clash true refl n)
  neither_local w w' h h' (Grant t p) a' s s₁ s₂ n n' d e e' = absurd (clash true refl n)
  neither_local w w' h h' (Labels.Visit t k p) a' s s₁ s₂ n n' d e e' = absurd (clash true refl n)
  neither_local w w' h h' (Start t p) a' s s₁ s₂ n n' d e e' = absurd (clash true refl n)
  neither_local w w' h h' (Stop t p) a' s s₁ s₂ n n' d e e' = absurd (clash true refl n)
  neither_local w w' h h' (Free t k p) a' s s₁ s₂ n n' d e e' = absurd (clash true refl n)
  neither_local w w' h h' (Pass t k p q) a' s s₁ s₂ n n' d e e' = absurd (clash true refl n)
  neither_local w w' h h' (Land t k p) a' s s₁ s₂ n n' d e e' = absurd (clash true refl n)

  -- ---- either order

  run_two : (s s₁ v : State A F R J) (l l' : Label) → step sys workers s l ≡ Some s₁ → step sys workers s₁ l' ≡ Some v → run sys workers s (l ∷ l' ∷ []) ≡ Some v
  unfolding run
  run_two s s₁ v l l' e e' = ap (option_and_then (λ u. option_and_then (λ z. Some z) (step sys workers u l'))) e ∙ ap (option_and_then (λ z. Some z)) e'

  module _ (reads : Reads sys) (changes : Changes sys) where
    -- one is on a context and the other is not
    mixed : (s s₁ s₂ : State A F R J) (l l' : Label) → is_local l.act ≡ true → is_local l'.act ≡ false → ticket_of l.act ≢ ticket_of l'.act → (l.worker ≢ l'.worker) ⊎ (is_start l.act ≡ false) →
        step sys workers s l ≡ Some s₁ → step sys workers s l' ≡ Some s₂ → Both sys workers s s₁ s₂ l l'
    mixed s s₁ s₂ l l' i n d w e e' =
        let z = no_start_there l'.worker l'.host l'.act s s₂ n e' in
        turn reads changes s s₁ s₂ l l' (record { tickets = d; contexts = λ j k. absurd (clash (is_local l'.act) k n); one = inl i }) e e'
        (elim w [
          | inl a ↦ (changes workers s s₁ l e).hands l'.worker (λ q. a (sym q))
          | inr q ↦ elim (number_cases l.worker l'.worker) [
            | inr a ↦ (changes workers s s₁ l e).hands l'.worker (λ q. not_same l.worker l'.worker a (sym q))
            | inl a ↦ (let idle : s.hands l.worker ≡ None = subst (λ u. s.hands u ≡ None) (sym a) z.0 in
                subst (λ u. s₁.hands u ≡ s.hands u) a (stays_idle s s₁ l q (no_stop s s₁ l idle e) e).1)
          ]
        ])
        (z.1 l.worker)

    pub either : Independent sys → (s : State A F R J) → EitherOrder sys workers s
    either independent s l l' apart x y =
        let b = both x.0 y.0 x.1 y.1 in
        record { state = b.state; first = run_two s x.0 b.state l l' x.1 b.there; second = run_two s y.0 b.state l' l y.1 b.here }
      where
        both : (s₁ s₂ : State A F R J) → step sys workers s l ≡ Some s₁ → step sys workers s l' ≡ Some s₂ → Both sys workers s s₁ s₂ l l'
        both s₁ s₂ e e' = elim (bool_cases (is_local l.act)) [
          | inl i ↦ elim (bool_cases (is_local l'.act)) [
            | inl i' ↦ independent workers s s₁ s₂ l l' i i' apart.tickets apart.workers (apart.contexts i i') e e'
            | inr n' ↦ mixed s s₁ s₂ l l' i n' apart.tickets (elim apart.workers [ inl a ↦ inl a | inr a ↦ inr a.0 ]) e e'
          ]
          | inr n ↦ elim (bool_cases (is_local l'.act)) [
            | inl i' ↦ swapped s s₂ s₁ l' l (mixed s s₂ s₁ l' l i' n (λ z. apart.tickets (sym z)) (elim apart.workers [ inl a ↦ inl (λ z. a (sym z)) | inr a ↦ inr a.1 ]) e' e)
            | inr n' ↦ neither_local l.worker l'.worker l.host l'.host l.act l'.act s s₁ s₂ n n' apart.tickets e e'
          ]
        ]

    -- ---- neighbours

    run_on : (s v : State A F R J) (before : List Label) (ls : List Label) → run sys workers s before ≡ Some v → run sys workers s (before ++ ls) ≡ run sys workers v ls
    unfolding run
    run_on s v [] ls e = ap (λ u. run sys workers u ls) (some_same s v e)
    run_on s v (m ∷ ms) ls e =
        let u = then_some (λ u. run sys workers u ms) (step sys workers s m) v e in
        ap (option_and_then (λ u. run sys workers u (ms ++ ls))) u.1 ∙ run_on u.0 v ms ls u.2

    run_next : (s v u : State A F R J) (l l' : Label) (ls : List Label) → step sys workers s l ≡ Some v → step sys workers v l' ≡ Some u → run sys workers s (l ∷ l' ∷ ls) ≡ run sys workers u ls
    unfolding run
    run_next s v u l l' ls e e' = ap (option_and_then (λ z. option_and_then (λ z. run sys workers z ls) (step sys workers z l'))) e ∙ ap (option_and_then (λ z. run sys workers z ls)) e'

    run_first : (s v : State A F R J) (l : Label) (ls : List Label) → run sys workers s (l ∷ ls) ≡ Some v → (u : State A F R J) × (step sys workers s l ≡ Some u) × (run sys workers u ls ≡ Some v)
    unfolding run
    run_first s v l ls e = then_some (λ u. run sys workers u ls) (step sys workers s l) v e

    -- the second of two strangers could be taken before the first
    before_it : (s s₁ v : State A F R J) (l l' : Label) → AreStrangers l l' → step sys workers s l ≡ Some s₁ → step sys workers s₁ l' ≡ Some v → (s₂ : State A F R J) × (step sys workers s₂ l ≡ Some v) × (step sys workers s l' ≡ Some s₂)
    before_it s s₁ v l l' x e e' =
        let a : Aside l l' = record { tickets = x.tickets; contexts = x.contexts; one = x.one } in
        let h : s₁.hands l'.worker ≡ s.hands l'.worker = kept s s₁ l l' (elim x.workers [ inl d ↦ inl (λ z. d (sym z)) | inr q ↦ inr (q.0, q.1) ]) e in
        let y = reads.taken workers s₁ v s l' (turn_same s s₁ l' (same_for s s₁ l l' a (changes workers s s₁ l e) h)) e' in
        let h' : (y.0).hands l.worker ≡ s.hands l.worker = kept s y.0 l' l (elim x.workers [ inl d ↦ inl d | inr q ↦ inr (q.2, q.3) ]) y.1 in
        let b = turn reads changes s s₁ y.0 l l' a e y.1 h h' in
        (y.0, b.here ∙ sym b.there ∙ e', y.1)
      where
        -- a label leaves the hand of another worker, and its own where it is neither a Start nor a Stop
        kept : (s v : State A F R J) (l l' : Label) → (l'.worker ≢ l.worker) ⊎ ((is_start l.act ≡ false) × (is_stop l.act ≡ false)) → step sys workers s l ≡ Some v → v.hands l'.worker ≡ s.hands l'.worker
        kept s v l l' (inl d) e = (changes workers s v l e).hands l'.worker d
        kept s v l l' (inr q) e = elim (number_cases l.worker l'.worker) [
          | inr a ↦ (changes workers s v l e).hands l'.worker (λ z. not_same l.worker l'.worker a (sym z))
          | inl a ↦ subst (λ u. v.hands u ≡ s.hands u) a (stays_idle s v l q.0 q.1 e).1
        ]

    pub neighbours : (s v : State A F R J) (labels : List Label) → run sys workers s labels ≡ Some v → NeighboursChange sys workers s labels v
    neighbours s v labels r before after l l' e x =
        let c = cut sys workers s before l (l' ∷ after) v (sym (ap (run sys workers s) e) ∙ r) in
        let u = run_first c.left v l' after c.goes_on in
        let y = before_it c.found c.left u.0 l l' x c.taken u.1 in
        run_on s c.found before (l' ∷ l ∷ after) c.reached ∙ run_next c.found y.0 u.0 l' l after y.2 y.1 ∙ u.2
