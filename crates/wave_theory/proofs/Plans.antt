-- The ways of all tickets of a plan, by the fold.
use Rattle.std.proofs.Common.{◌≡◌, ℕ, zero, suc, ◌+◌, ◌-◌, inl, inr, nat_lt, Bool, true, false, List, [], ◌∷◌, ◌++◌, length, Option, Some, None, refl, sym, ◌∙◌, ap, subst}
use Rattle.std.specs.Prelude.{if◌then◌else◌, slice_get, unwrap_or, All}
use Rattle.std.specs.List.{AllByRecursion}
use Rattle.std.specs.List.Sorted.{IsStrictlySortedBy}
use Rattle.std.proofs.lemmas.List.Elements.{All-append, recursion_from_All, All-from_recursion}
use Rattle.wave_base.specs.declared.path.Path.{Path}
use Rattle.std.specs.List.{filter}
use Rattle.wave_base.specs.Paths.{path_cmp, is_above}
use Rattle.wave_base.specs.Tree.{Tree, put}
use Rattle.wave_base.proofs.Trees.{enter_sorted}
use Rattle.wave_base.specs.Fold.{Head, Ran, Progress, next_batch, begun, next_job, with_job}
use Rattle.wave_states.specs.Actors.{Actors, Pause, Go, Down, Back, Over}
use Rattle.wave_states.specs.Alone.{Alone, has, into, goes_on, next_alone, segment_if, segment_alone, first_alone, after_segments, run_alone, ended_alone, segments_of, fold_alone, job_after}
use Rattle.wave_states.specs.Begins.{Begin}
use Rattle.wave_states.specs.Kinds.{Kind}
use Rattle.wave_states.specs.Owes.{Owes, Keeps, MovesOnly, IsBegin}
use Rattle.wave_theory.proofs.Basics.{some_same, none_not, options}
use Rattle.wave_theory.proofs.Order.{Way}
use Rattle.wave_theory.proofs.Alone.{Fine, Stands, step_moved, first_fine, root_only}
use Rattle.wave_theory.proofs.Ways.{One, IsOne, way_of, in_and_out, in_and_out_is, one_of, one_is, Counts, counted, stays_over, none_yet}

abbrev pub less_one : ℕ → ℕ
less_one zero = zero
less_one (suc n) = n

module _ {A F R J : Type 0} (sys : Actors A F R J) where
  goes_sorted : (x : Alone A F R) (a : A) (f : F) (v : Pause R) → IsStrictlySortedBy path_cmp x.tree.paths → IsStrictlySortedBy path_cmp (goes_on sys x a f v).tree.paths
  goes_sorted x a f (Go s) h = by (has x.held (x.at ++ s ∷ []))
    where
      by : (was : Bool) → IsStrictlySortedBy path_cmp (into x a f (x.at ++ s ∷ []) (sys.peeks a) (filter (is_above (x.at ++ s ∷ [])) x.held) was).tree.paths
      by true = h
      by false = enter_sorted (put x.tree x.at f) (x.at ++ s ∷ []) h
  goes_sorted x a f (Down s) h = by (has x.held (x.at ++ s ∷ []))
    where
      by : (was : Bool) → IsStrictlySortedBy path_cmp (into x a f (x.at ++ s ∷ []) false x.held was).tree.paths
      by true = h
      by false = enter_sorted (put x.tree x.at f) (x.at ++ s ∷ []) h
  goes_sorted x a f Back h = h
  goes_sorted x a f (Over r) h = h

  next_sorted : (x : Alone A F R) → IsStrictlySortedBy path_cmp x.tree.paths → IsStrictlySortedBy path_cmp (next_alone sys x).tree.paths
  next_sorted x h = by x.result
    where
      by : (o : Option R) → IsStrictlySortedBy path_cmp (segment_if sys x o).tree.paths
      by None = goes_sorted x _ _ _ h
      by (Some r) = h

  pub sorted_after : (x : Alone A F R) → IsStrictlySortedBy path_cmp x.tree.paths → (k : ℕ) → IsStrictlySortedBy path_cmp (after_segments sys k x).tree.paths
  unfolding after_segments
  sorted_after x h zero = h
  sorted_after x h (suc k) = next_sorted (after_segments sys k x) (sorted_after x h k)

module _ {A F R J : Type 0} (kind : Kind A F R J) (owes : Owes kind) where
  abbrev Ok : Alone A F R → Type 0
  Ok x = Fine kind owes x

  pub fine_after : (x : Alone A F R) → Ok x → (k : ℕ) → Ok (after_segments kind.system k x)
  unfolding after_segments
  fine_after x h zero = h
  fine_after x h (suc k) = elim (options (after_segments kind.system k x).result) [
    | inl z ↦ (step_moved kind owes (after_segments kind.system k x) (fine_after x h k) z).fine_then
    | inr z ↦ subst Ok (sym (stays_over kind.system (after_segments kind.system k x) z.0 z.1)) (fine_after x h k)
  ]

  -- a result creates jobs and moves only the context where it came
  abbrev pub Result_ok : Alone A F R → R → Type 0
  Result_ok x r = All kind.is_job (kind.system.created r) × MovesOnly kind.hosts x.at (kind.system.moved r)

  goes_ok : (x : Alone A F R) (base : Path) (h : Stands kind owes x base) (fit : kind.fits x.at (x.tree.fields x.at)) (v : Pause R) → (segment_alone kind.system x).pause ≡ v → (r : R) →
      (goes_on kind.system x (segment_alone kind.system x).actor (segment_alone kind.system x).fields v).result ≡ Some r → Result_ok (goes_on kind.system x (segment_alone kind.system x).actor (segment_alone kind.system x).fields v) r
  goes_ok x base h fit (Go s) v r e = absurd (none_not (sym (never (has x.held (x.at ++ s ∷ []))) ∙ e))
    where
      never : (was : Bool) → (into x (segment_alone kind.system x).actor (segment_alone kind.system x).fields (x.at ++ s ∷ []) (kind.system.peeks (segment_alone kind.system x).actor) (filter (is_above (x.at ++ s ∷ [])) x.held) was).result ≡ None
      never true = refl
      never false = refl
  goes_ok x base h fit (Down s) v r e = absurd (none_not (sym (never (has x.held (x.at ++ s ∷ []))) ∙ e))
    where
      never : (was : Bool) → (into x (segment_alone kind.system x).actor (segment_alone kind.system x).fields (x.at ++ s ∷ []) false x.held was).result ≡ None
      never true = refl
      never false = refl
  goes_ok x base h fit Back v r e = absurd (none_not e)
  goes_ok x base h fit (Over q) v r e = subst (λ z. All kind.is_job (kind.system.created z) × MovesOnly kind.hosts x.at (kind.system.moved z)) (some_same q r e)
      (subst (Keeps kind (segment_alone kind.system x).actor x.at (length h.below)) v (owes.keeps x.actor x.at (length h.below) (x.tree.fields x.at) _ h.ready fit))

  pub result_ok : (x : Alone A F R) → Ok x → x.result ≡ None → (k : ℕ) (r : R) → (after_segments kind.system k x).result ≡ Some r → Result_ok (after_segments kind.system k x) r
  unfolding after_segments
  result_ok x h n zero r e = absurd (none_not (sym n ∙ e))
  result_ok x h n (suc k) r e = elim (options (after_segments kind.system k x).result) [
    | inr z ↦ (let s = stays_over kind.system (after_segments kind.system k x) z.0 z.1 in
        subst (λ y. Result_ok y r) (sym s) (result_ok x h n k r (ap (λ y. y.result) (sym s) ∙ e)))
    | inl z ↦ (let y : Alone A F R = after_segments kind.system k x in
        let g : next_alone kind.system y ≡ goes_on kind.system y (segment_alone kind.system y).actor (segment_alone kind.system y).fields (segment_alone kind.system y).pause = ap (segment_if kind.system y) z in
        elim (fine_after x h k).phase [
          | inr u ↦ absurd (none_not (sym z ∙ u.1))
          | inl u ↦ subst (λ v. Result_ok v r) (sym g) (goes_ok y u.1 u.2 ((fine_after x h k).fitting y.at) (segment_alone kind.system y).pause refl r (ap (λ v. v.result) (sym g) ∙ e))
        ])
  ]

  -- what a whole run leaves
  pub record RanOk (x : Ran F R) : Type 0 where
    pub fitting : (p : Path) → kind.fits p (x.tree.fields p)
    pub ordered : IsStrictlySortedBy path_cmp x.tree.paths
    pub created : All kind.is_job (kind.system.created x.result)

  pub ran_ok : (t : ℕ) (tree : Tree F) (j : J) → kind.is_job j → ((p : Path) → kind.fits p (tree.fields p)) → IsStrictlySortedBy path_cmp tree.paths → RanOk (run_alone kind.system t tree j)
  ran_ok t tree j k f o = record {
    fitting = (fine_after x ok n).fitting;
    ordered = sorted_after kind.system x (enter_sorted tree [] o) n;
    created = subst (λ r. All kind.is_job (kind.system.created r)) (sym (ap (λ v. unwrap_or v kind.system.unended) e.1)) (result_ok x ok refl n e.0 e.1).0;
  }
    where
      x : Alone A F R
      x = first_alone kind.system j t tree

      n : ℕ
      n = kind.system.enough j t tree

      ok : Fine kind owes (first_alone kind.system j t tree)
      ok = first_fine kind owes j t tree k f

      e : (r : R) × ((ended_alone kind.system t tree j).result ≡ Some r)
      e = owes.ends j t tree k f o

  module _ (b : Begin F) (batches : List (List J)) (begins : IsBegin kind b) (jobs : All (All kind.is_job) batches) where
    abbrev pub at : ℕ → Progress F R J
    at n = fold_alone kind.system b batches n

    pub record Holds (w : Progress F R J) : Type 0 where
      pub fitting : (p : Path) → kind.fits p (w.tree.fields p)
      pub ordered : IsStrictlySortedBy path_cmp w.tree.paths
      pub known : All kind.is_job w.head.known
      pub later : All (All kind.is_job) w.head.later

    begun_ok : (h : Head J) (bs : List (List J)) → All kind.is_job h.known → All (All kind.is_job) h.later → AllByRecursion (All kind.is_job) bs → All kind.is_job (begun h bs).known × All (All kind.is_job) (begun h bs).later
    begun_ok h [] k l m = (k, l)
    begun_ok h (x ∷ bs) k l m = (All-append kind.is_job h.known x k m.0, All-from_recursion (All kind.is_job) bs m.1)

    next_ok : (h : Head J) → All kind.is_job h.known → All (All kind.is_job) h.later → All kind.is_job (next_batch h).known × All (All kind.is_job) (next_batch h).later
    next_ok h k l = by (nat_lt h.done (length h.known))
      where
        by : (c : Bool) → All kind.is_job (if c then h else begun h h.later).known × All (All kind.is_job) (if c then h else begun h h.later).later
        by true = (k, l)
        by false = begun_ok h h.later k l (recursion_from_All (All kind.is_job) h.later l)

    slice_ok : (xs : List J) (i : ℕ) (j : J) → AllByRecursion kind.is_job xs → slice_get xs i ≡ Some j → kind.is_job j
    slice_ok [] i j h e = absurd (none_not e)
    slice_ok (x ∷ xs) zero j h e = subst kind.is_job (some_same x j e) h.0
    slice_ok (x ∷ xs) (suc i) j h e = slice_ok xs i j h.1 e

    pub job_ok : (w : Progress F R J) (j : J) → Holds w → next_job w.head ≡ Some j → kind.is_job j
    job_ok w j h e = slice_ok w.head.known w.head.done j (recursion_from_All kind.is_job w.head.known h.known) e

    pub holds : (n : ℕ) → Holds (at n)
    holds zero = (let n = next_ok (record { known = []; later = batches; done = 0 }) (All-from_recursion kind.is_job [] tt) jobs in
        record { fitting = begins.fields; ordered = begins.ordered; known = n.0; later = n.1 })
    holds (suc n) = holds_next n (next_job (at n).head) refl (holds n)
      where
        holds_next : (n : ℕ) (o : Option J) → next_job (at n).head ≡ o → Holds (at n) → Holds (with_job (suc b.before) (run_alone kind.system) kind.system.created (at n) o)
        holds_next n None e h = h
        holds_next n (Some j) e h =
            let x = ran_ok (suc b.before + (at n).head.done) (at n).tree j (job_ok (at n) j h e) h.fitting h.ordered in
            let m = next_ok (record { known = (at n).head.known ++ kind.system.created (run_alone kind.system (suc b.before + (at n).head.done) (at n).tree j).result; later = (at n).head.later; done = suc (at n).head.done }) (All-append kind.is_job _ _ h.known x.created) h.later in
            record { fitting = x.fitting; ordered = x.ordered; known = m.0; later = m.1 }

    -- the event of the ticket that comes after i others, and its last segment
    abbrev pub first_of : ℕ → J → Alone A F R
    first_of i j = first_alone kind.system j (suc b.before + i) (at i).tree

    abbrev pub last_of : ℕ → J → ℕ
    last_of i j = less_one (segments_of kind.system (suc b.before + i) (at i).tree j)

    abbrev pub one_at : ℕ → Option J → One
    one_at i None = in_and_out
    one_at i (Some j) = one_of kind.system (first_of i j) (last_of i j)

    abbrev pub one : ℕ → One
    one t = if nat_lt b.before t then one_at (t - suc b.before) (job_after kind.system b batches (t - suc b.before)) else in_and_out

    abbrev pub w : Way
    w = way_of one

    pub first_ok : (i : ℕ) (j : J) → job_after kind.system b batches i ≡ Some j → Ok (first_of i j)
    first_ok i j e = first_fine kind owes j (suc b.before + i) (at i).tree (job_ok (at i) j (holds i) e) (holds i).fitting

    -- it has that many segments, and one at least
    counts_all : (i : ℕ) (j : J) → job_after kind.system b batches i ≡ Some j → Counts kind.system (first_of i j) (segments_of kind.system (suc b.before + i) (at i).tree j)
    counts_all i j e = (let r = owes.ends j (suc b.before + i) (at i).tree (job_ok (at i) j (holds i) e) (holds i).fitting (holds i).ordered in counted kind.system (kind.system.enough j (suc b.before + i) (at i).tree) (first_of i j) r.0 r.1)

    some_segment : (i : ℕ) (j : J) (n : ℕ) → Counts kind.system (first_of i j) n → n ≡ suc (less_one n)
    some_segment i j zero c = absurd (none_not (sym (ap (λ (y : Alone A F R). y.result) (none_yet kind.system (first_of i j))) ∙ c.ends))
    some_segment i j (suc n) c = refl

    pub segments_is : (i : ℕ) (j : J) → job_after kind.system b batches i ≡ Some j → suc (last_of i j) ≡ segments_of kind.system (suc b.before + i) (at i).tree j
    segments_is i j e = sym (some_segment i j (segments_of kind.system (suc b.before + i) (at i).tree j) (counts_all i j e))

    pub counts : (i : ℕ) (j : J) → job_after kind.system b batches i ≡ Some j → Counts kind.system (first_of i j) (suc (last_of i j))
    counts i j e = subst (Counts kind.system (first_of i j)) (some_segment i j (segments_of kind.system (suc b.before + i) (at i).tree j) (counts_all i j e)) (counts_all i j e)

    pub one_at_ok : (i : ℕ) (o : Option J) → job_after kind.system b batches i ≡ o → IsOne (one_at i o)
    one_at_ok i None e = in_and_out_is
    one_at_ok i (Some j) e = one_is kind owes (first_of i j) (last_of i j) (first_ok i j e) (counts i j e) refl refl (root_only kind owes j (suc b.before + i) (at i).tree)
