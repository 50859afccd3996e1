-- In a finished state the contexts have served the fold's load, and moved as often as the jobs moved one.
use Rattle.std.proofs.Common.{◌≡◌, ℕ, zero, suc, ◌+◌, ◌<◌, ◌&&◌, ◌||◌, not, nat_eq, inl, inr, Bool, true, false, Option, Some, None, List, [], ◌∷◌, refl, sym, ◌∙◌, ap, ap₂, subst, arith}
use Rattle.std.specs.Prelude.{All, if◌then◌else◌}
use Rattle.std.specs.List.{sum_by, list_any, AllByRecursion}
use Rattle.std.specs.List.Sorted.{IsStrictlySortedBy}
use Rattle.std.specs.declared.cmp.Ordering.TheVariants.{Less}
use Rattle.std.proofs.Common.{is_eq}
use Rattle.std.proofs.lemmas.List.Sums.{sum_by-cons}
use Rattle.wave_base.specs.declared.path.Path.{Path}
use Rattle.wave_base.specs.Paths.{path_eq, path_cmp}
use Rattle.wave_base.specs.PathLaws.{path_eq_ties}
use Rattle.wave_base.specs.Tree.{Tree, there}
use Rattle.wave_base.specs.Fold.{Progress}
use Rattle.wave_states.specs.Kinds.{Kind}
use Rattle.wave_states.specs.States.{State, Entry}
use Rattle.wave_states.specs.Alone.{fold_alone, job_after, places_alone}
use Rattle.wave_states.specs.Work.{work_after, moves_away}
use Rattle.wave_states.specs.Begins.{Begin, has_moved}
use Rattle.wave_states.specs.Owes.{Owes, IsBegin}
use Rattle.wave_theory.proofs.Basics.{clash, options, bool_cases, path_cases, path_is, path_self}
use Rattle.wave_theory.proofs.Order.{Way, rank}
use Rattle.wave_theory.proofs.Tallies.{sum_to, sum_zero, sum_more, sum_same}
use Rattle.wave_theory.proofs.Homes
use Rattle.wave_theory.proofs.Courses
use Rattle.wave_theory.proofs.Plans
use Rattle.wave_theory.proofs.Places.{shift_by}
use Rattle.wave_theory.proofs.Sites
use Rattle.wave_theory.proofs.Live
use Rattle.wave_theory.proofs.Settled
use Rattle.wave_theory.proofs.Told
use Rattle.wave_theory.proofs.GoodStates.{Good_state}
use Rattle.wave_theory.specs.Numbers.{HasEntry}
use Rattle.wave_theory.specs.Counted.{most_moves}
use Rattle.wave_theory.specs.Finals.{Loads, AllMoves}

-- sums over paths
sum_like : (f h : Path → ℕ) (ps : List Path) → ((p : Path) → list_any (path_eq p) ps ≡ true → f p ≡ h p) → sum_by f ps ≡ sum_by h ps
sum_like f h [] e = refl
sum_like f h (p ∷ ps) e = sum_by-cons f p ps ∙ ap₂ (λ a c. a + c) (e p (or_first _ _ (path_self p))) (sum_like f h ps (λ q z. e q (or_second (path_eq q p) _ z))) ∙ sym (sum_by-cons h p ps)
  where
    or_first : (a c : Bool) → a ≡ true → (a || c) ≡ true
    or_first a c e = grind arith

    or_second : (a c : Bool) → c ≡ true → (a || c) ≡ true
    or_second a c e = grind arith

sum_all_zero : (f : Path → ℕ) (ps : List Path) → ((p : Path) → list_any (path_eq p) ps ≡ true → f p ≡ 0) → sum_by f ps ≡ 0
sum_all_zero f [] e = refl
sum_all_zero f (p ∷ ps) e = sum_by-cons f p ps ∙ ap₂ (λ a c. a + c) (e p (or_first _ _ (path_self p))) (sum_all_zero f ps (λ q z. e q (or_second (path_eq q p) _ z)))
  where
    or_first : (a c : Bool) → a ≡ true → (a || c) ≡ true
    or_first a c e = grind arith

    or_second : (a c : Bool) → c ≡ true → (a || c) ≡ true
    or_second a c e = grind arith

-- what stands later in the order is another path
apart : (p q : Path) (ps : List Path) → AllByRecursion (λ r. path_cmp p r ≡ Less) ps → list_any (path_eq q) ps ≡ true → path_eq q p ≡ false
apart p q [] h e = absurd (clash false e refl)
apart p q (r ∷ ps) h e = elim (bool_cases (path_eq q r)) [
  | inr z ↦ apart p q ps h.1 (sym (ap (λ i. i || list_any (path_eq q) ps) z) ∙ e)
  | inl z ↦ elim (bool_cases (path_eq q p)) [
    | inr y ↦ y
    | inl y ↦ absurd (clash false (ap is_eq (sym h.0) ∙ sym (path_eq_ties p r) ∙ subst (λ u. path_eq u r ≡ true) (path_is q p y) z) refl)
  ]
]

-- a sum to which one path alone adds
sum_single : (f : Path → ℕ) (q : Path) (ps : List Path) → IsStrictlySortedBy path_cmp ps → list_any (path_eq q) ps ≡ true → ((p : Path) → path_eq q p ≡ false → f p ≡ 0) → sum_by f ps ≡ f q
unfolding IsStrictlySortedBy
sum_single f q [] o e h = absurd (clash false e refl)
sum_single f q (p ∷ ps) o e h = elim (bool_cases (path_eq q p)) [
  | inl z ↦ sum_by-cons f p ps ∙ ap₂ (λ a c. a + c) (ap f (sym (path_is q p z))) (sum_all_zero f ps (λ r i. h r (other r i z))) ∙ none_more (f q)
  | inr z ↦ sum_by-cons f p ps ∙ ap₂ (λ a c. a + c) (h p z) (sum_single f q ps o.1 (sym (ap (λ i. i || list_any (path_eq q) ps) z) ∙ e) h) ∙ none_before (f q)
]
  where
    none_more : (a : ℕ) → a + 0 ≡ a
    none_more a = omega arith

    none_before : (a : ℕ) → 0 + a ≡ a
    none_before a = omega arith

    other : (r : Path) → list_any (path_eq r) ps ≡ true → path_eq q p ≡ true → path_eq q r ≡ false
    other r i z = elim (path_cases q r) [
      | inr d ↦ d
      | inl d ↦ absurd (clash _ (subst (λ u. path_eq u p ≡ true) d z) (apart p r ps o.0 i))
    ]

sum_plus : (n : ℕ) (f h : ℕ → ℕ) → sum_to n f + sum_to n h ≡ sum_to n (λ i. f i + h i)
sum_plus zero f h = ap₂ (λ a c. a + c) (sum_zero f) (sum_zero h) ∙ sym (sum_zero (λ i. f i + h i))
sum_plus (suc n) f h = (let a = sum_more n f in let c = sum_more n h in let d = sum_more n (λ i. f i + h i) in let e = sum_plus n f h in omega (arith, a, c, d, e))

sum_nothing : (n : ℕ) → sum_to n (λ i. 0) ≡ 0
sum_nothing zero = sum_zero (λ i. 0)
sum_nothing (suc n) = (let a = sum_more n (λ i. 0) in let e = sum_nothing n in omega (arith, a, e))

-- path by path, or job by job
sum_swap : (ps : List Path) (n : ℕ) (a : Path → ℕ) (sh : Path → ℕ → ℕ) → sum_by (λ p. a p + sum_to n (sh p)) ps ≡ sum_by a ps + sum_to n (λ i. sum_by (λ p. sh p i) ps)
sum_swap [] n a sh = sym (ap (λ c. 0 + c) (sum_nothing n))
sum_swap (p ∷ ps) n a sh = sum_by-cons (λ q. a q + sum_to n (sh q)) p ps ∙ ap (λ c. (a p + sum_to n (sh p)) + c) (sum_swap ps n a sh) ∙ swap _ _ _ _ ∙ ap₂ (λ c d. c + d) (sym (sum_by-cons a p ps)) (sum_plus n (sh p) (λ i. sum_by (λ q. sh q i) ps) ∙ sum_same n _ _ (λ i l. sym (sum_by-cons (λ q. sh q i) p ps)))
  where
    swap : (x s y t : ℕ) → (x + s) + (y + t) ≡ (x + y) + (s + t)
    swap x s y t = omega arith

module _ {A F R J : Type 0} (kind : Kind A F R J) (owes : Owes kind) (b : Begin F) (batches : List (List J)) (begins : IsBegin kind b) (jobs : All (All kind.is_job) batches) where
  abbrev w : Way
  w = Courses.w kind owes b batches begins jobs

  abbrev at : ℕ → Progress F R J
  at n = fold_alone kind.system b batches n

  abbrev grown : ℕ → Tree ℕ
  grown i = Sites.grown kind owes b batches begins jobs i

  abbrev shift : Path → ℕ → ℕ
  shift p i = Sites.shift kind owes b batches begins jobs p i

  abbrev away : ℕ → ℕ
  away i = moves_away (grown i) (Sites.move_by kind owes b batches begins jobs i (job_after kind.system b batches i))

  -- a job sends on one context at most
  shifts_of : (n i : ℕ) → i < n → sum_by (λ p. shift p i) (at n).tree.paths ≡ away i
  shifts_of n i l = elim (options (job_after kind.system b batches i)) [
    | inl e ↦ sum_all_zero (λ p. shift p i) (at n).tree.paths (λ p z. ap (λ o. shift_by (grown i) (Sites.move_by kind owes b batches begins jobs i o) p) e) ∙ sym (ap (λ o. moves_away (grown i) (Sites.move_by kind owes b batches begins jobs i o)) e)
    | inr j ↦ of_job j.0 j.1 (kind.system.moved (Sites.ran kind owes b batches begins jobs i j.0).result) refl
  ]
    where
      difference : (a m : ℕ) → a < m → (d : ℕ) × (m ≡ d + suc a)
      difference a zero l = absurd (omega (arith, l))
      difference zero (suc m) l = (m, omega arith)
      difference (suc a) (suc m) l = (let r = difference a m (omega (arith, l)) in (r.0, omega (arith, r.1)))

      moved_is : (j : J) → job_after kind.system b batches i ≡ Some j → (m : Option (Path × ℕ)) → kind.system.moved (Sites.ran kind owes b batches begins jobs i j).result ≡ m → Sites.move_by kind owes b batches begins jobs i (job_after kind.system b batches i) ≡ m
      moved_is j e m z = ap (Sites.move_by kind owes b batches begins jobs i) e ∙ z

      flip : (u : Bool) → ◌≡◌ {A = ℕ} (if true && not u then 1 else 0) (if u then 0 else 1)
      flip true = refl
      flip false = refl

      of_job : (j : J) → job_after kind.system b batches i ≡ Some j → (m : Option (Path × ℕ)) → kind.system.moved (Sites.ran kind owes b batches begins jobs i j).result ≡ m → sum_by (λ p. shift p i) (at n).tree.paths ≡ away i
      of_job j e None z = sum_all_zero (λ p. shift p i) (at n).tree.paths (λ p y. ap (λ o. shift_by (grown i) o p) (moved_is j e None z)) ∙ sym (ap (moves_away (grown i)) (moved_is j e None z))
      of_job j e (Some x) z =
          let d = difference i n l in
          let v = subst (λ r. Rattle.wave_theory.proofs.Order.visits w (suc b.before + i) r ≡ true) (sym (Sites.moves_last kind owes b batches begins jobs i j e x.0 x.1 z)) (Sites.comes_last kind owes b batches begins jobs i j e) in
          let th = Sites.there_later kind owes b batches begins jobs d.0 (suc i) x.0 (Sites.there_entered kind owes b batches begins jobs i j x.0 e v) in
          sum_single (λ p. shift p i) x.0 (at n).tree.paths (Plans.holds kind owes b batches begins jobs n).ordered (Settled.tree_there kind owes b batches begins jobs n x.0 ∙ subst (λ m. there (places_alone kind.system b batches m) x.0 ≡ true) (sym d.1) th)
          (λ p y. ap (λ o. shift_by (grown i) o p) (moved_is j e (Some x) z) ∙ ap (λ u. if u && not (nat_eq ((grown i).fields x.0) x.1) then 1 else 0) y)
          ∙ ap (λ o. shift_by (grown i) o x.0) (moved_is j e (Some x) z) ∙ ap (λ u. if u && not (nat_eq ((grown i).fields x.0) x.1) then 1 else 0) (path_self x.0) ∙ flip (nat_eq ((grown i).fields x.0) x.1)
          ∙ sym (ap (moves_away (grown i)) (moved_is j e (Some x) z))

  -- all contexts together
  all_shifts : (n : ℕ) → there (at n).tree [] ≡ true → sum_by (λ p. Sites.shifts kind owes b batches begins jobs p n) (at n).tree.paths ≡ most_moves b (work_after kind.system b batches n)
  all_shifts n root = sum_swap (at n).tree.paths n (λ p. if has_moved b p then 1 else 0) shift
      ∙ ap₂ (λ c d. c + d) (sum_single (λ p. if has_moved b p then 1 else 0) [] (at n).tree.paths (Plans.holds kind owes b batches begins jobs n).ordered root (λ p y. not_root p y))
      (sum_same n (λ i. sum_by (λ p. shift p i) (at n).tree.paths) away (λ i l. shifts_of n i l) ∙ sym (Sites.moves_is kind owes b batches begins jobs n)) ∙ turn _ _
    where
      turn : (a c : ℕ) → a + c ≡ c + a
      turn a c = omega arith

      not_root : (p : Path) → path_eq [] p ≡ false → ◌≡◌ {A = ℕ} (if has_moved b p then 1 else 0) 0
      not_root [] y = absurd (clash true refl y)
      not_root (u ∷ p) y = refl

  module _ (s : State A F R J) (k : Good_state kind owes b batches begins jobs s) (workers : ℕ) (some_worker : 0 < workers) where
    pub loads : Loads kind workers b batches s
    loads fin p en h = ap (λ (u : Entry F). u.served) (Told.entry_same kind owes b batches begins jobs s k p en h) ∙ (k.shows.entries p).served ∙ sym (Live.all_served kind owes b batches begins jobs s k workers some_worker fin p)
        ∙ ap (rank w p) (Live.admitted_is kind owes b batches begins jobs s k workers some_worker fin) ∙ Told.rank_is kind owes b batches begins jobs s.head.done p (sym (Live.done_is kind owes b batches begins jobs s k workers some_worker fin))

    pub all_moves : Homes.Homes kind owes b batches begins jobs k.ghost → AllMoves kind workers b batches s
    all_moves homes fin moves f = sum_like moves (λ p. Sites.shifts kind owes b batches begins jobs p s.head.done) (at s.head.done).tree.paths moves_is
        ∙ all_shifts s.head.done (sym (Live.born_there kind owes b batches begins jobs s k workers some_worker fin []) ∙ k.shows.root)
      where
        moves_is : (p : Path) → there (at s.head.done).tree p ≡ true → moves p ≡ Sites.shifts kind owes b batches begins jobs p s.head.done
        moves_is p th =
            let sits = Settled.at_last kind owes b batches begins jobs s k homes workers some_worker fin p (sym (Settled.tree_there kind owes b batches begins jobs s.head.done p) ∙ th) in
            let done = Live.complete kind owes b batches begins jobs s k workers some_worker fin (Settled.places kind owes b batches begins jobs s k homes workers some_worker fin) in
            let c = done.contexts p th in
            let h : HasEntry s p c.1 = inl (c.0, c.3) in
            f p c.1 h ∙ ap (λ (u : Entry F). u.moves) (Told.entry_same kind owes b batches begins jobs s k p c.1 h) ∙ (k.shows.entries p).moves ∙ sits.1
