-- What an event holds is in path order, so the Releases of a Stop are.
use Rattle.std.proofs.Common.{◌≡◌, ℕ, zero, suc, ◌+◌, ◌<◌, ◌≤◌, ◌==◌, ◌&&◌, inl, inr, not, nat_lt, nat_eq, Bool, true, false, Option, Some, None, List, [], ◌∷◌, ◌++◌, map, filter, refl, sym, ◌∙◌, ap, subst, arith}
use Rattle.std.specs.Prelude.{cond, if◌then◌else◌, is_none, slice_get}
use Rattle.std.specs.List.{AllByRecursion}
use Rattle.std.specs.List.Sorted.{IsStrictlySortedBy}
use Rattle.std.specs.BTreeMap.{insert_entry}
use Rattle.std.specs.declared.cmp.Ordering.TheVariants.{Less}
use Rattle.wave_base.specs.declared.path.Step.{Step}
use Rattle.wave_base.specs.declared.path.Path.{Path}
use Rattle.wave_base.specs.declared.children.Child.{Child}
use Rattle.wave_base.specs.Paths.{path_eq, path_cmp, is_above, parent_of}
use Rattle.wave_base.specs.PathLaws.{path_cmp_total, same_path}
use Rattle.wave_base.proofs.Trees.{sorted_insert}
use Rattle.wave_states.specs.Actors.{Actors, Pause, Go, Down, Over}
use Rattle.wave_states.specs.States.{State, Cell, Entry, Event, Hand, Hold, Mail, Letter, Enter, Visit, Release, Transfer, Ask, Ended, set, hold_at, holds_as_peek}
use Rattle.wave_states.specs.Labels.{Act, Label, Admit, Queue, Grant, Start, Stop, Free, Pass, Land, Commit, is_local, ticket_of, path_of}
use Rattle.wave_states.specs.Labels
use Rattle.wave_states.specs.Begins.{Begin, start_state}
use Rattle.wave_states.specs.Runs.{run}
use Rattle.wave_states.specs.Steps.{Part, Bench, keep_below, into_child, with_body, put_back, over_here, over_there, over_by, after_pause, after_stop, after_look, desk_back, host_or, moved_on, segment_of, with_hand, calm, act_bench, stop, part_of, step, step_by, only_if, next_ticket, after_admit, after_commit}
use Rattle.wave_states.specs.Desks.{Desk, send, release, give_up, kept_of, left_of, nothing_kept, not_at, with_held, with_status}
use Rattle.wave_theory.proofs.Basics.{some_same, none_not, bool_cases, number_cases, set_at, set_there, differ, then_some, map_some, only_some, if_some}
use Rattle.wave_theory.proofs.Commute.{local_step}
use Rattle.wave_theory.proofs.Desks.{keep_release}
use Rattle.wave_theory.proofs.Maps.{keys_insert}
use Rattle.wave_theory.proofs.Opened.{Stopping, stopping, queues, grants, starts, frees, passes, lands}
use Rattle.wave_theory.proofs.Opened
use Rattle.wave_theory.specs.Releases.{InNumber}

abbrev paths_of : List (Path × Hold) → List Path
paths_of held = map (λ x. x.0) held

-- the held paths are in path order
abbrev InOrder : List (Path × Hold) → Type 0
InOrder held = IsStrictlySortedBy path_cmp (paths_of held)

none_held : InOrder []
unfolding IsStrictlySortedBy
none_held = tt

order_insert : (held : List (Path × Hold)) (p : Path) (v : Hold) → InOrder held → InOrder (insert_entry path_cmp held p v)
order_insert held p v h = subst (IsStrictlySortedBy path_cmp) (sym (keys_insert path_cmp_total same_path held p v)) (sorted_insert path_cmp_total p (paths_of held) h)

all_filter : (P : Path → Type 0) (f : Path → Bool) (held : List (Path × Hold)) → AllByRecursion P (paths_of held) → AllByRecursion P (paths_of (filter (λ x. f x.0) held))
all_filter P f [] h = tt
all_filter P f (x ∷ xs) h = by (f x.0) (all_filter P f xs h.1)
  where
    by : (i : Bool) → AllByRecursion P (paths_of (filter (λ x. f x.0) xs)) → AllByRecursion P (paths_of (cond i (x ∷ filter (λ x. f x.0) xs) (filter (λ x. f x.0) xs)))
    by true k = (h.0, k)
    by false k = k

order_filter : (f : Path → Bool) (held : List (Path × Hold)) → InOrder held → InOrder (filter (λ x. f x.0) held)
unfolding IsStrictlySortedBy
order_filter f [] h = tt
order_filter f (x ∷ xs) h = by (f x.0) (order_filter f xs h.1)
  where
    by : (i : Bool) → IsStrictlySortedBy path_cmp (paths_of (filter (λ x. f x.0) xs)) → IsStrictlySortedBy path_cmp (paths_of (cond i (x ∷ filter (λ x. f x.0) xs) (filter (λ x. f x.0) xs)))
    by true k = (all_filter (λ y. path_cmp x.0 y ≡ Less) f xs h.0, k)
    by false k = k

all_at : (P : Path → Type 0) (ps : List Path) (i : ℕ) (q : Path) → AllByRecursion P ps → slice_get ps i ≡ Some q → P q
all_at P [] i q h e = absurd (none_not e)
all_at P (p ∷ ps) zero q h e = subst P (some_same p q e) h.0
all_at P (p ∷ ps) (suc i) q h e = all_at P ps i q h.1 e

less_at : (ps : List Path) (i j : ℕ) (p q : Path) → IsStrictlySortedBy path_cmp ps → i < j → slice_get ps i ≡ Some p → slice_get ps j ≡ Some q → path_cmp p q ≡ Less
unfolding IsStrictlySortedBy
less_at [] i j p q h l e f = absurd (none_not e)
less_at (x ∷ ps) zero zero p q h l e f = absurd (omega (arith, l))
less_at (x ∷ ps) zero (suc j) p q h l e f = subst (λ y. path_cmp y q ≡ Less) (some_same x p e) (all_at (λ y. path_cmp x y ≡ Less) ps j q h.0 f)
less_at (x ∷ ps) (suc i) zero p q h l e f = absurd (omega (arith, l))
less_at (x ∷ ps) (suc i) (suc j) p q h l e f = less_at ps i j p q h.1 (less i j l) e f
  where
    less : (a c : ℕ) → suc a < suc c → a < c
    less a c l = omega (arith, l)

less_index : (n i j a c : ℕ) → a ≡ n + suc i → c ≡ n + suc j → a < c → i < j
less_index n i j a c e f l = omega (arith, e, f, l)

module _ {F : Type 0} where
  -- the mails of a desk have the numbers that it sent
  abbrev NoneAbove : ℕ → (ℕ → Option (Mail F)) → Type 0
  NoneAbove n mails = (k : ℕ) → n < k → mails k ≡ None

  -- a mail behind those that were sent is the Release of a path, in the order of the paths
  record ReleasedAt (n : ℕ) (xs : List (Path × Hold)) (j : ℕ) (m : Mail F) : Type 0 where
    index : ℕ
    number : j ≡ n + suc index
    letter : m.letter ≡ Release
    place : slice_get (paths_of xs) index ≡ Some m.path

  -- the kinds of letters that are no Releases
  visit_other : ◌≡◌ {A = Letter F} Visit Release → ⊥
  visit_other e = grind arith

  back_other : ◌≡◌ {A = Letter F} Letter.Back Release → ⊥
  back_other e = grind arith

  enter_other : (a : Ask) → ◌≡◌ {A = Letter F} (Enter a) Release → ⊥
  enter_other a e = grind arith

  transfer_other : (en : Entry F) → ◌≡◌ {A = Letter F} (Transfer en) Release → ⊥
  transfer_other en e = grind arith

module _ {A F : Type 0} where
  above_send : (d : Desk A F) (m : Mail F) → NoneAbove d.event.sent d.mails → NoneAbove (suc d.event.sent) (send d m).mails
  above_send d m a k l = set_there nat_eq d.mails (suc d.event.sent) (Some m) k (differ (suc d.event.sent) k (apart (suc d.event.sent) k l)) ∙ a k (under d.event.sent k l)
    where
      apart : (a c : ℕ) → a < c → a ≡ c → ⊥
      apart a c l e = omega (arith, l, e)

      under : (a c : ℕ) → suc a < c → a < c
      under a c l = omega (arith, l)

  release_held : (xs : List (Path × Hold)) (d : Desk A F) → (release xs d).event.held ≡ d.event.held
  release_held [] d = refl
  release_held (x ∷ xs) d = release_held xs (send d (record { host = x.1.host; path = x.0; letter = Release }))

  released_at : (xs : List (Path × Hold)) (d : Desk A F) (j : ℕ) (m : Mail F) → NoneAbove d.event.sent d.mails → d.event.sent < j → (release xs d).mails j ≡ Some m → ReleasedAt d.event.sent xs j m
  released_at [] d j m a l e = absurd (none_not (sym (a j l) ∙ e))
  released_at (x ∷ xs) d j m a l e = elim (number_cases (suc d.event.sent) j) [
    | inl z ↦ (let y : n ≡ m = some_same n m (sym (set_at d.mails (suc d.event.sent) (Some n)) ∙ sym (keep_release xs (send d n) (suc d.event.sent) (upto (suc d.event.sent))) ∙ ap (release xs (send d n)).mails z ∙ e) in
        record { index = 0; number = sym z ∙ one d.event.sent; letter = ap (λ (u : Mail F). u.letter) (sym y); place = ap (λ (u : Mail F). Some u.path) y })
    | inr z ↦ (let r = released_at xs (send d n) j m (above_send d n a) (past d.event.sent j l z) e in
        record { index = suc r.index; number = r.number ∙ next d.event.sent r.index; letter = r.letter; place = r.place })
  ]
    where
      n : Mail F
      n = record { host = x.1.host; path = x.0; letter = Release }

      upto : (a : ℕ) → a ≤ a
      upto a = omega arith

      one : (a : ℕ) → suc a ≡ a + 1
      one a = omega arith

      next : (a i : ℕ) → suc a + suc i ≡ a + suc (suc i)
      next a i = omega arith

      past : (a j : ℕ) → a < j → nat_eq (suc a) j ≡ false → suc a < j
      past a j l e = grind (arith, Rattle.std.proofs.lemmas.Bool.Decides.nat_tests)

  -- Releases alone
  only_released : (d : Desk A F) (xs : List (Path × Hold)) → NoneAbove d.event.sent d.mails → InOrder xs → InNumber d.event.sent (release xs d).mails
  only_released d xs a o = record {
    releases = λ k m l e. (released_at xs d k m a (under d.event.sent k l) e).letter;
    rising = λ j k m n l u e f z. (let r = released_at xs d j m a l e in let q = released_at xs d k n a (later d.event.sent j k l u) f in less_at (paths_of xs) r.index q.index m.path n.path o (less_index d.event.sent r.index q.index j k r.number q.number u) r.place q.place);
  }
    where
      under : (a c : ℕ) → suc a < c → a < c
      under a c l = omega (arith, l)

      later : (a j k : ℕ) → a < j → j < k → a < k
      later a j k l m = omega (arith, l, m)

  -- one other mail, and then Releases
  first_released : (n : ℕ) (f : ℕ → Option (Mail F)) (m : Mail F) → (m.letter ≡ Release → ⊥) → NoneAbove n f → (d : Desk A F) → d.event.sent ≡ suc n → d.mails ≡ set nat_eq f (suc n) (Some m) → (xs : List (Path × Hold)) → InOrder xs → InNumber n (release xs d).mails
  first_released n f m other a d sent mails xs o = record {
    releases = λ k u l e. (released_at xs d k u above (subst (λ i. i < k) (sym sent) l) e).letter;
    rising = λ j k u v l i e g z. elim (number_cases (suc n) j) [
      | inl y ↦ absurd (other (ap (λ (t : Mail F). t.letter) (some_same m u (sym (set_at f (suc n) (Some m)) ∙ ap (λ (t : ℕ → Option (Mail F)). t (suc n)) (sym mails) ∙ sym (keep_release xs d (suc n) (upto (suc n) d.event.sent (sym sent))) ∙ ap (release xs d).mails y ∙ e)) ∙ z))
      | inr y ↦ (let r = released_at xs d j u above (subst (λ i. i < j) (sym sent) (past n j l y)) e in let q = released_at xs d k v above (subst (λ i. i < k) (sym sent) (later (suc n) j k (past n j l y) i)) g in
          less_at (paths_of xs) r.index q.index u.path v.path o (less_index d.event.sent r.index q.index j k r.number q.number i) r.place q.place)
    ];
  }
    where
      above : NoneAbove d.event.sent d.mails
      above k l = ap (λ (t : ℕ → Option (Mail F)). t k) mails ∙ set_there nat_eq f (suc n) (Some m) k (differ (suc n) k (apart (suc n) k (subst (λ i. i < k) sent l))) ∙ a k (under n k (subst (λ i. i < k) sent l))
        where
          apart : (a c : ℕ) → a < c → a ≡ c → ⊥
          apart a c l e = omega (arith, l, e)

          under : (a c : ℕ) → suc a < c → a < c
          under a c l = omega (arith, l)

      upto : (a c : ℕ) → a ≡ c → a ≤ c
      upto a c e = omega (arith, e)

      later : (a j k : ℕ) → a < j → j < k → a < k
      later a j k l m = omega (arith, l, m)

      past : (a j : ℕ) → a < j → nat_eq (suc a) j ≡ false → suc a < j
      past a j l e = grind (arith, Rattle.std.proofs.lemmas.Bool.Decides.nat_tests)

-- what a cell's event holds is in path order
abbrev pub CellOrder : {A F R : Type 0} → Cell A F R → Type 0
CellOrder {A} {F} {R} c = (e : Event A) → c.event ≡ Some e → InOrder e.held

module _ {A F R J : Type 0} (sys : Actors A F R J) where
  -- a Stop
  module _ (p : Path) (x : Part A F R) (event : Event A) (en : Entry F) (h : ℕ) (f : F) (cs : List (Step × Child)) (a : A) (order : InOrder event.held) where
    abbrev d : Desk A F
    d = desk_back x.cell event a

    -- how the mails are numbered, where none was above, and what is held then
    record Left (y : Part A F R) : Type 0 where
      numbers : NoneAbove event.sent x.cell.mails → InNumber event.sent y.cell.mails
      held : CellOrder y.cell

    order_of : (e u : Event A) → InOrder e.held → Some e ≡ Some u → InOrder u.held
    order_of e u o z = subst (λ (v : Event A). InOrder v.held) (some_same e u z) o

    give_order : (keep : Path → Bool) (d' : Desk A F) → InOrder d'.event.held → InOrder (give_up keep d').event.held
    give_order keep d' o = subst InOrder (sym (release_held (left_of keep d'.event.held) (record { event = with_held d'.event (kept_of keep d'.event.held); mails = d'.mails }))) (order_filter keep d'.event.held o)

    give_left : (keep : Path → Bool) (held : List (Path × Hold)) → InOrder held → InOrder (left_of keep held)
    give_left keep held o = order_filter (λ q. not (keep q)) held o

    down : (s : Step) (peek : Bool) (o : Option Hold) → Left (put_back x h (into_child p h d en f cs s peek o))
    down s peek None = record { numbers = λ n. first_released event.sent x.cell.mails _ (λ e. enter_other _ e) n (into_child p h d en f cs s peek None).0 refl refl [] none_held; held = λ e z. order_of _ e order z }
    down s peek (Some i) = record { numbers = λ n. first_released event.sent x.cell.mails _ (λ e. visit_other e) n (into_child p h d en f cs s peek (Some i)).0 refl refl [] none_held; held = λ e z. order_of _ e order z }

    go : (s : Step) (peek : Bool) (o : Option Hold) → Left (put_back x h (keep_below (p ++ s ∷ []) (into_child p h d en f cs s peek o)))
    go s peek None = record {
      numbers = λ n. first_released event.sent x.cell.mails _ (λ e. enter_other _ e) n _ refl refl (left_of (is_above (p ++ s ∷ [])) event.held) (give_left (is_above (p ++ s ∷ [])) event.held order);
      held = λ e z. order_of _ e (give_order (is_above (p ++ s ∷ [])) (into_child p h d en f cs s peek None).0 order) z;
    }
    go s peek (Some i) = record {
      numbers = λ n. first_released event.sent x.cell.mails _ (λ e. visit_other e) n _ refl refl (left_of (is_above (p ++ s ∷ [])) event.held) (give_left (is_above (p ++ s ∷ [])) event.held order);
      held = λ e z. order_of _ e (give_order (is_above (p ++ s ∷ [])) (into_child p h d en f cs s peek (Some i)).0 order) z;
    }

    over : (e : Entry F) (r : R) → Left (over_here x h d e r)
    over e r = record {
      numbers = λ n. only_released (record { event = with_held (with_status (d).event Ended) (kept_of nothing_kept event.held); mails = x.cell.mails }) (left_of nothing_kept event.held) n (give_left nothing_kept event.held order);
      held = λ u z. order_of _ u (give_order nothing_kept (record { event = with_status (d).event Ended; mails = (d).mails }) order) z;
    }

    away : (e : Entry F) (r : R) (to : ℕ) → Left (over_there p x h d e r to)
    away e r to = record {
      numbers = λ n. first_released event.sent x.cell.mails (record { host = to; path = p; letter = Transfer (moved_on e) }) (λ z. transfer_other (moved_on e) z) n
          (record { event = with_held (with_status (send (record { event = with_held (d).event (kept_of (not_at p) event.held); mails = (d).mails }) (record { host = to; path = p; letter = Transfer (moved_on e) })).event Ended) (kept_of nothing_kept (kept_of (not_at p) event.held)); mails = set nat_eq x.cell.mails (suc event.sent) (Some (record { host = to; path = p; letter = Transfer (moved_on e) })) })
          refl refl (left_of nothing_kept (kept_of (not_at p) event.held)) (give_left nothing_kept (kept_of (not_at p) event.held) (order_filter (not_at p) event.held order));
      held = λ u z. order_of _ u (give_order nothing_kept (record { event = with_status (send (record { event = with_held (d).event (kept_of (not_at p) event.held); mails = (d).mails }) (record { host = to; path = p; letter = Transfer (moved_on e) })).event Ended; mails = set nat_eq x.cell.mails (suc event.sent) (Some (record { host = to; path = p; letter = Transfer (moved_on e) })) }) (order_filter (not_at p) event.held order)) z;
    }

    over_one : (e : Entry F) (r : R) (m : Option (Path × ℕ)) → Left (over_by p x h d e r m)
    over_one e r None = over e r
    over_one e r (Some m) = by (m.1 == h)
      where
        by : (i : Bool) → Left (if i then over_here x h d e r else over_there p x h d e r m.1)
        by true = over e r
        by false = away e r m.1

    pauses : (peek : Bool) (u : Pause R) → Left (after_pause sys p h x d en f cs peek u)
    pauses peek (Go s) = go s peek (hold_at event.held (p ++ s ∷ []))
    pauses peek (Down s) = down s false (hold_at event.held (p ++ s ∷ []))
    pauses peek Pause.Back = record { numbers = λ n. first_released event.sent x.cell.mails _ (λ e. back_other e) n (send d (record { host = host_or (hold_at event.held (parent_of p)) h; path = parent_of p; letter = Letter.Back })) refl refl [] none_held; held = λ e z. order_of _ e order z }
    pauses peek (Over r) = over_one (with_body en (Some (record { fields = f; children = cs }))) r (sys.moved r)

    looking : (u : Pause R) (y : Part A F R) → after_look x h d en u ≡ Some y → Left y
    looking (Over r) y e = subst Left (some_same _ y e) (over en r)
    looking (Go s) y e = absurd (none_not e)
    looking (Down s) y e = absurd (none_not e)
    looking Pause.Back y e = absurd (none_not e)

  left : (t : ℕ) (p : Path) (h : ℕ) (g : Hand A F) (x y : Part A F R) (q : Stopping sys t p h g x y) (order : InOrder q.event.held) → Left p x q.event q.entry h (segment_of sys g).fields g.body.children (segment_of sys g).actor order y
  left t p h g x y q order = by (holds_as_peek q.event.held p) q.gives
    where
      by : (i : Bool) → after_stop sys p h x (desk_back x.cell q.event (segment_of sys g).actor) q.entry g.body.children (segment_of sys g) i ≡ Some y → Left p x q.event q.entry h (segment_of sys g).fields g.body.children (segment_of sys g).actor order y
      by true e = looking p x q.event q.entry h (segment_of sys g).fields g.body.children (segment_of sys g).actor order (segment_of sys g).pause y e
      by false e = subst (Left p x q.event q.entry h (segment_of sys g).fields g.body.children (segment_of sys g).actor order) (some_same _ y e) (pauses p x q.event q.entry h (segment_of sys g).fields g.body.children (segment_of sys g).actor order (sys.peeks (segment_of sys g).actor) (segment_of sys g).pause)

  -- a label keeps the order of what its ticket's event holds
  same_held : (e e' u : Event A) → InOrder e.held → e'.held ≡ e.held → Some e' ≡ Some u → InOrder u.held
  same_held e e' u o z k = subst (λ (v : Event A). InOrder v.held) (some_same e' u k) (subst InOrder (sym z) o)

  calm_order : (a : Act) (h : ℕ) (x y : Part A F R) → calm sys a h x ≡ Some y → CellOrder x.cell → CellOrder y.cell
  calm_order (Queue t k p) h x y e o = (let q = queues sys t k p h x y e in subst (λ (v : Part A F R). CellOrder v.cell) q.gives (λ u k. same_held q.event _ u (o q.event q.event_is) refl k))
  calm_order (Grant t p) h x y e o = (let q = grants t p h x y e in subst (λ (v : Part A F R). CellOrder v.cell) q.gives (λ u k. subst (λ (v : Event A). InOrder v.held) (some_same _ u k) (order_insert q.event.held p _ (o q.event q.event_is))))
  calm_order (Labels.Visit t k p) h x y e o = (let q = Opened.visits k p h x y e in subst (λ (v : Part A F R). CellOrder v.cell) q.gives (λ u k. same_held q.event _ u (o q.event q.event_is) refl k))
  calm_order (Free t k p) h x y e o = (let q = frees t k p h x y e in subst (λ (v : Part A F R). CellOrder v.cell) q.gives o)
  calm_order (Pass t k p to) h x y e o = (let q = passes k to p h x y e in subst (λ (v : Part A F R). CellOrder v.cell) q.gives o)
  calm_order (Land t k p) h x y e o = (let q = lands k p h x y e in subst (λ (v : Part A F R). CellOrder v.cell) q.gives o)
  calm_order (Admit t) h x y e o = absurd (none_not e)
  calm_order (Commit t) h x y e o = absurd (none_not e)
  calm_order (Start t p) h x y e o = absurd (none_not e)
  calm_order (Stop t p) h x y e o = absurd (none_not e)

  with_calm : (a : Act) (h : ℕ) (x : Part A F R) (y : Bench A F R) → with_hand None (calm sys a h x) ≡ Some y → CellOrder x.cell → CellOrder y.part.cell
  with_calm a h x y e o = (let z = map_some (λ (v : Part A F R). record { part = v; hand = None }) (calm sys a h x) y e in subst (λ (v : Bench A F R). CellOrder v.part.cell) (sym z.2) (calm_order a h x z.0 z.1 o))

  bench_order : (a : Act) (h : ℕ) (x : Part A F R) (g : Option (Hand A F)) (y : Bench A F R) → act_bench sys a h x g ≡ Some y → CellOrder x.cell → CellOrder y.part.cell
  bench_order (Stop t p) h x (Some g) y e o =
      let i = if_some ((g.ticket == t) && path_eq g.path p) (with_hand None (stop sys p h g x)) y e in
      let z = map_some (λ (v : Part A F R). record { part = v; hand = None }) (stop sys p h g x) y i.1 in
      let q = stopping sys t p h g x z.0 z.1 in
      subst (λ (v : Bench A F R). CellOrder v.part.cell) (sym z.2) (left t p h g x z.0 q (o q.event q.event_is)).held
  bench_order (Stop t p) h x None y e o = absurd (none_not e)
  bench_order (Start t p) h x None y e o = (let q = starts t p h x y e in subst (λ (v : Bench A F R). CellOrder v.part.cell) q.gives (λ u k. same_held q.event _ u (o q.event q.event_is) refl k))
  bench_order (Start t p) h x (Some g) y e o = absurd (none_not e)
  bench_order (Admit t) h x None y e o = with_calm (Admit t) h x y e o
  bench_order (Queue t k p) h x None y e o = with_calm (Queue t k p) h x y e o
  bench_order (Grant t p) h x None y e o = with_calm (Grant t p) h x y e o
  bench_order (Labels.Visit t k p) h x None y e o = with_calm (Labels.Visit t k p) h x y e o
  bench_order (Free t k p) h x None y e o = with_calm (Free t k p) h x y e o
  bench_order (Pass t k p to) h x None y e o = with_calm (Pass t k p to) h x y e o
  bench_order (Land t k p) h x None y e o = with_calm (Land t k p) h x y e o
  bench_order (Commit t) h x None y e o = with_calm (Commit t) h x y e o
  bench_order (Admit t) h x (Some g) y e o = absurd (none_not e)
  bench_order (Queue t k p) h x (Some g) y e o = absurd (none_not e)
  bench_order (Grant t p) h x (Some g) y e o = absurd (none_not e)
  bench_order (Labels.Visit t k p) h x (Some g) y e o = absurd (none_not e)
  bench_order (Free t k p) h x (Some g) y e o = absurd (none_not e)
  bench_order (Pass t k p to) h x (Some g) y e o = absurd (none_not e)
  bench_order (Land t k p) h x (Some g) y e o = absurd (none_not e)
  bench_order (Commit t) h x (Some g) y e o = absurd (none_not e)

  abbrev pub AllOrder : State A F R J → Type 0
  AllOrder s = (t : ℕ) → CellOrder (s.cells t)

  set_order : (cells : ℕ → Cell A F R) (t : ℕ) (c : Cell A F R) → ((t : ℕ) → CellOrder (cells t)) → CellOrder c → (u : ℕ) → CellOrder (set nat_eq cells t c u)
  set_order cells t c o k u = elim (bool_cases (nat_eq t u)) [
    | inl z ↦ subst CellOrder (sym (ap (λ i. if i then c else cells u) z)) k
    | inr z ↦ subst CellOrder (sym (ap (λ i. if i then c else cells u) z)) (o u)
  ]

  step_order : (workers : ℕ) (s s' : State A F R J) (l : Label) → step sys workers s l ≡ Some s' → AllOrder s → AllOrder s'
  unfolding step
  step_order workers s s' l e o = by l.act (if_some (nat_lt l.worker workers) (step_by sys s l.worker l.host l.act) s' e).1
    where
      local : (a : Act) → is_local a ≡ true → step_by sys s l.worker l.host a ≡ Some s' → AllOrder s'
      local a z k = (let y = map_some _ _ s' (sym (local_step sys s l.worker l.host a z) ∙ k) in subst AllOrder (sym y.2) (set_order s.cells (ticket_of a) (y.0).part.cell o (bench_order a l.host (part_of s (ticket_of a) (path_of a)) (s.hands l.worker) y.0 y.1 (o (ticket_of a)))))

      by : (a : Act) → step_by sys s l.worker l.host a ≡ Some s' → AllOrder s'
      by (Admit t) k =
          let i = if_some (is_none (s.hands l.worker)) _ s' k in
          let j = then_some (λ j. only_if ((l.host == 0) && (t == next_ticket s)) (after_admit sys s t j)) (slice_get s.head.known s.admitted) s' i.1 in
          subst AllOrder (only_some _ (after_admit sys s t j.0) s' j.2).1 (set_order s.cells t _ o (λ e z. subst (λ (v : Event A). InOrder v.held) (some_same _ e z) none_held))
      by (Commit t) k =
          let i = if_some (is_none (s.hands l.worker)) _ s' k in
          let r = then_some (λ r. only_if ((l.host == 0) && (t == suc (s.before + s.head.done))) (after_commit sys s r)) (s.cells t).result s' i.1 in
          subst AllOrder (only_some _ (after_commit sys s r.0) s' r.2).1 o
      by (Queue t n p) k = local (Queue t n p) refl k
      by (Grant t p) k = local (Grant t p) refl k
      by (Labels.Visit t n p) k = local (Labels.Visit t n p) refl k
      by (Start t p) k = local (Start t p) refl k
      by (Stop t p) k = local (Stop t p) refl k
      by (Free t n p) k = local (Free t n p) refl k
      by (Pass t n p to) k = local (Pass t n p to) refl k
      by (Land t n p) k = local (Land t n p) refl k

  pub run_order : (workers : ℕ) (ls : List Label) (s v : State A F R J) → run sys workers s ls ≡ Some v → AllOrder s → AllOrder v
  unfolding run
  run_order workers [] s v e o = subst AllOrder (some_same s v e) o
  run_order workers (l ∷ ls) s v e o = (let y = then_some (λ u. run sys workers u ls) (step sys workers s l) v e in run_order workers ls y.0 v y.2 (step_order workers s y.0 l y.1 o))

  pub start_order : (b : Begin F) (batches : List (List J)) → AllOrder (start_state b batches)
  start_order b batches t e z = absurd (none_not z)

  -- the mails of a Stop
  pub numbered : (workers : ℕ) (s v : State A F R J) (worker host t : ℕ) (p : Path) (event : Event A) → AllOrder s → ((k : ℕ) → event.sent < k → (s.cells t).mails k ≡ None) → (s.cells t).event ≡ Some event →
      step sys workers s (record { worker = worker; host = host; act = Stop t p }) ≡ Some v → InNumber event.sent (v.cells t).mails
  unfolding step
  numbered workers s v worker host t p event o above is_event e = (let y = map_some _ _ v (if_some (nat_lt worker workers) _ v e).1 in subst (λ (u : State A F R J). InNumber event.sent (u.cells t).mails) (sym y.2) (by (s.hands worker) y.0 y.1))
    where
      by : (g : Option (Hand A F)) (y : Bench A F R) → act_bench sys (Stop t p) host (part_of s t p) g ≡ Some y → InNumber event.sent (set nat_eq s.cells t y.part.cell t).mails
      by None y k = absurd (none_not k)
      by (Some g) y k =
          let i = if_some ((g.ticket == t) && path_eq g.path p) (with_hand None (stop sys p host g (part_of s t p))) y k in
          let z = map_some (λ (u : Part A F R). record { part = u; hand = None }) (stop sys p host g (part_of s t p)) y i.1 in
          let q = stopping sys t p host g (part_of s t p) z.0 z.1 in
          let same : q.event ≡ event = some_same q.event event (sym q.event_is ∙ is_event) in
          subst (λ (c : Cell A F R). InNumber event.sent c.mails) (sym (set_at s.cells t y.part.cell))
          (subst (λ (u : Bench A F R). InNumber event.sent u.part.cell.mails) (sym z.2)
          (subst (λ (u : Event A). InNumber u.sent (z.0).cell.mails) same ((left t p host g (part_of s t p) z.0 q (o t q.event q.event_is)).numbers (λ n l. above n (subst (λ (u : Event A). u.sent < n) same l)))))
