-- The course of all tickets of a plan: what the fold has, segment by segment.
use Rattle.std.proofs.Common.{◌≡◌, ℕ, zero, suc, ◌+◌, ◌-◌, ◌<◌, ◌≤◌, ◌⊎◌, ◌&&◌, ◌||◌, not, inl, inr, nat_lt, Bool, true, false, List, [], ◌∷◌, ◌++◌, length, Option, Some, None, refl, sym, ◌∙◌, ap, subst, arith}
use Rattle.std.specs.Prelude.{if◌then◌else◌, All, unwrap_or}
use Rattle.std.specs.List.{filter}
use Rattle.std.specs.List.Sorted.{IsStrictlySortedBy}
use Rattle.std.proofs.lemmas.Bool.Decides.{nat_tests}
use Rattle.wave_base.specs.declared.path.Step.{Step}
use Rattle.wave_base.specs.declared.path.Path.{Path}
use Rattle.wave_base.specs.Paths.{path_eq, path_cmp, is_above}
use Rattle.wave_base.specs.Tree.{Tree, children_of}
use Rattle.wave_base.specs.Fold.{Progress, next_job}
use Rattle.wave_states.specs.Actors.{Actors, Left, Pause, Go, Down, Back, Over}
use Rattle.wave_states.specs.Alone.{Alone, has, into, goes_on, next_alone, segment_if, segment_alone, after_segments, run_alone, ended_alone, job_after, tree_with}
use Rattle.wave_states.specs.Begins.{Begin}
use Rattle.wave_states.specs.Kinds.{Kind}
use Rattle.wave_states.specs.Owes.{Owes, Looks, MovesOnly, IsBegin}
use Rattle.wave_base.proofs.Trees.{enter_sorted}
use Rattle.wave_theory.proofs.Basics.{clash, some_same, none_not, options, path_self, and_first}
use Rattle.wave_theory.proofs.Order.{Way, IsWay}
use Rattle.wave_theory.proofs.Alone.{Fine, Stands, look_ends}
use Rattle.wave_theory.proofs.Ways.{One, IsOne, way_of, is_way_of, in_and_out, in_and_out_is, one_of, Counts, over_later, next_is, none_yet, looks_is, looks_at}
use Rattle.wave_theory.proofs.Maps.{children_enter, children_apart, children_root}
use Rattle.wave_theory.proofs.Paths.{has_append, has_filter}
use Rattle.wave_theory.proofs.Folds.{zero_done}
use Rattle.wave_theory.proofs.Folds
use Rattle.wave_theory.proofs.Leaves.{Course, IsCourse, Segment, Enters, Ends, Follows}
use Rattle.wave_theory.proofs.Plans.{first_of, last_of, first_ok, counts, one_at_ok, holds, fine_after, sorted_after, result_ok, at}
use Rattle.wave_theory.proofs.Plans

abbrev pub leaf_of : {F : Type 0} → Tree F → Path → F × List Step
leaf_of tree p = (tree.fields p, children_of tree p)

pair_is : {X Y : Type 0} (a c : X) (b d : Y) → a ≡ c → b ≡ d → ◌≡◌ {A = X × Y} (a, b) (c, d)
pair_is a c b d e f = λ i. (e i, f i)

-- all that is known of one ticket
pub record View (A F R : Type 0) : Type 0 where
  pub one : One
  pub actor : ℕ → Option A
  pub result : ℕ → Option R
  pub leaf : ℕ → Path → F × List Step

module _ {A F R J : Type 0} (sys : Actors A F R J) where
  abbrev pub way_by : (ℕ → View A F R) → Way
  way_by f = way_of (λ t. (f t).one)

  abbrev pub course_by : ℕ → (ℕ → View A F R) → Course sys
  course_by hosts f = record { actor = λ t. (f t).actor; result = λ t. (f t).result; leaf = λ t. (f t).leaf; hosts = hosts }

  abbrev pub view_of : Alone A F R → ℕ → View A F R
  view_of x n = record { one = one_of sys x n; actor = λ k. Some (after_segments sys k x).actor; result = λ k. (after_segments sys k x).result; leaf = λ k p. leaf_of (after_segments sys k x).tree p }

  abbrev pub view_none : Tree F → View A F R
  view_none tree = record { one = in_and_out; actor = λ k. None; result = λ k. None; leaf = λ k p. leaf_of tree p }

  -- a segment changes its own context alone
  goes_leaf : (x : Alone A F R) (a : A) (f : F) (v : Pause R) (p : Path) → path_eq x.at p ≡ false → leaf_of (goes_on sys x a f v).tree p ≡ leaf_of x.tree p
  goes_leaf x a f (Go s) p e = by (has x.held (x.at ++ s ∷ []))
    where
      by : (was : Bool) → leaf_of (into x a f (x.at ++ s ∷ []) (sys.peeks a) (filter (is_above (x.at ++ s ∷ [])) x.held) was).tree p ≡ leaf_of x.tree p
      by true = pair_is _ _ _ _ (rw e refl) refl
      by false = pair_is _ _ _ _ (rw e refl) (children_apart (tree_with x f) x.at p s (λ n. clash _ (subst (λ r. path_eq x.at r ≡ true) (sym n) (path_self x.at)) e))
  goes_leaf x a f (Down s) p e = by (has x.held (x.at ++ s ∷ []))
    where
      by : (was : Bool) → leaf_of (into x a f (x.at ++ s ∷ []) false x.held was).tree p ≡ leaf_of x.tree p
      by true = pair_is _ _ _ _ (rw e refl) refl
      by false = pair_is _ _ _ _ (rw e refl) (children_apart (tree_with x f) x.at p s (λ n. clash _ (subst (λ r. path_eq x.at r ≡ true) (sym n) (path_self x.at)) e))
  goes_leaf x a f Back p e = pair_is _ _ _ _ (rw e refl) refl
  goes_leaf x a f (Over r) p e = pair_is _ _ _ _ (rw e refl) refl

  next_leaf : (x : Alone A F R) (p : Path) → path_eq x.at p ≡ false → leaf_of (next_alone sys x).tree p ≡ leaf_of x.tree p
  next_leaf x p e = by x.result
    where
      by : (o : Option R) → leaf_of (segment_if sys x o).tree p ≡ leaf_of x.tree p
      by None = goes_leaf x _ _ _ p e
      by (Some r) = refl

module _ {A F R J : Type 0} (kind : Kind A F R J) (owes : Owes kind) where
  -- one segment of an event alone
  module _ (x : Alone A F R) (n : ℕ) (fin : Fine kind owes x) (under : x.result ≡ None) (c : Counts kind.system x (suc n)) (ordered : IsStrictlySortedBy path_cmp x.tree.paths) (k : ℕ) (l : k ≤ n) where
    abbrev y : Alone A F R
    y = after_segments kind.system k x

    abbrev z : Alone A F R
    z = after_segments kind.system (suc k) x

    L : Left A F R
    L = segment_alone kind.system y

    none : y.result ≡ None
    none = c.under k (omega arith)

    z_is : z ≡ goes_on kind.system y (L).actor (L).fields (L).pause
    unfolding L
    z_is = next_is kind.system k x ∙ ap (segment_if kind.system y) none

    more : z.result ≡ None → suc k ≤ n
    more e = elim (at_or_below k n l) [ inl m ↦ m | inr m ↦ absurd (none_not (sym e ∙ subst (λ i. (after_segments kind.system (suc i) x).result ≡ Some c.result) (sym m) c.ends)) ]
      where
        at_or_below : (a b : ℕ) → a ≤ b → (suc a ≤ b) ⊎ (a ≡ b)
        at_or_below a b l = grind arith

    into_next : (s : Step) (peek : Bool) (keep : Path → Bool) (kept : List Path) → ((p : Path) → has kept p ≡ keep p) → z ≡ into y (segment_alone kind.system y).actor (segment_alone kind.system y).fields (y.at ++ s ∷ []) peek kept (has y.held (y.at ++ s ∷ [])) →
        (z.actor ≡ (segment_alone kind.system y).actor) × (z.tree.fields y.at ≡ (segment_alone kind.system y).fields) × Enters kind.system (way_by kind.system (λ t. view_of kind.system x n)) (course_by kind.system kind.hosts (λ t. view_of kind.system x n)) 0 k s peek keep
    into_next s peek keep kept same e = by (has y.held (y.at ++ s ∷ [])) refl e
      where
        a : A
        a = (segment_alone kind.system y).actor

        f : F
        f = (segment_alone kind.system y).fields

        q : Path
        q = y.at ++ s ∷ []

        by : (was : Bool) → has y.held (y.at ++ s ∷ []) ≡ was → z ≡ into y (segment_alone kind.system y).actor (segment_alone kind.system y).fields (y.at ++ s ∷ []) peek kept was →
            (z.actor ≡ (segment_alone kind.system y).actor) × (z.tree.fields y.at ≡ (segment_alone kind.system y).fields) × Enters kind.system (way_by kind.system (λ t. view_of kind.system x n)) (course_by kind.system kind.hosts (λ t. view_of kind.system x n)) 0 k s peek keep
        by true was e = (
          ap (λ (v : Alone A F R). v.actor) e,
          ap (λ (v : Alone A F R). v.tree.fields y.at) e ∙ (rw (path_self y.at) refl),
          record {
            more = more (ap (λ (v : Alone A F R). v.result) e);
            place_is = ap (λ (v : Alone A F R). v.at) e;
            fresh_is = ap (λ (v : Alone A F R). v.fresh) e ∙ ap not (sym was);
            held_is = λ p. ap (λ (v : Alone A F R). has v.held p) e ∙ same p ∙ sym (ap (λ j. keep p || (j && path_eq p (y.at ++ s ∷ []))) (ap (λ (v : Alone A F R). v.fresh) e) ∙ or_none (keep p));
            steps_old = λ i. ap (λ (v : Alone A F R). children_of v.tree y.at) e;
            steps_new = λ i. absurd (clash _ i (ap (λ (v : Alone A F R). v.fresh) e));
            looks_is = λ i. absurd (clash _ i (ap (λ (v : Alone A F R). v.fresh) e));
            no_result = ap (λ (v : Alone A F R). v.result) e;
          },
        )
          where
            or_none : (a : Bool) → (a || false) ≡ a
            or_none a = grind arith
        by false was e = (
          ap (λ (v : Alone A F R). v.actor) e,
          ap (λ (v : Alone A F R). v.tree.fields y.at) e ∙ (rw (path_self y.at) refl),
          record {
            more = m;
            place_is = ap (λ (v : Alone A F R). v.at) e;
            fresh_is = ap (λ (v : Alone A F R). v.fresh) e ∙ ap not (sym was);
            held_is = λ p. ap (λ (v : Alone A F R). has v.held p) e ∙ has_append kept (y.at ++ s ∷ []) p ∙ ap (λ j. j || path_eq p (y.at ++ s ∷ [])) (same p) ∙ sym (ap (λ j. keep p || (j && path_eq p (y.at ++ s ∷ []))) (ap (λ (v : Alone A F R). v.fresh) e));
            steps_old = λ i. absurd (clash _ (ap (λ (v : Alone A F R). v.fresh) e) i);
            steps_new = λ i. ap (λ (v : Alone A F R). children_of v.tree y.at) e ∙ children_enter (tree_with y (segment_alone kind.system y).fields) y.at s (sorted_after kind.system x ordered k);
            looks_is = λ i. subst (λ p. looks_at kind.system (after_segments kind.system n x) p ≡ peek) (ap (λ (v : Alone A F R). v.at) e) (looks_is kind owes x n fin c (suc k) m i ∙ ap (λ (v : Alone A F R). v.peek) e);
            no_result = ap (λ (v : Alone A F R). v.result) e;
          },
        )
          where
            m : suc k ≤ n
            m = more (ap (λ (v : Alone A F R). v.result) e)

    ready : (base : Path) × Stands kind owes (after_segments kind.system k x) base
    ready = elim (fine_after kind owes x fin k).phase [
      | inl u ↦ (u.1, u.2)
      | inr u ↦ absurd (none_not (sym (c.under k (omega arith)) ∙ u.1))
    ]

    -- it only looks
    peeking : looks_at kind.system (after_segments kind.system n x) (after_segments kind.system k x).at ≡ true → IsOne (one_of kind.system x n) → (after_segments kind.system k x).peek ≡ true
    peeking e o = subst (λ i. (after_segments kind.system i x).peek ≡ true) (sym (o.looks_last k l e)) (and_first _ _ e)

    looking : (o : IsOne (one_of kind.system x n)) → looks_at kind.system (after_segments kind.system n x) (after_segments kind.system k x).at ≡ true → Looks kind (after_segments kind.system k x).actor ((after_segments kind.system k x).tree.fields (after_segments kind.system k x).at) (children_of (after_segments kind.system k x).tree (after_segments kind.system k x).at)
    looking o e = (let fk = fine_after kind owes x fin k in
        owes.looks y.actor y.at (length (ready.1).below) (y.tree.fields y.at) (children_of y.tree y.at) (ready.1).ready (fk.fitting y.at) (fk.peeking (peeking e o)).1)

    pub segment_view : IsOne (one_of kind.system x n) → Segment kind.system (way_by kind.system (λ t. view_of kind.system x n)) (course_by kind.system kind.hosts (λ t. view_of kind.system x n)) 0 k
    unfolding L
    segment_view o = by (segment_alone kind.system y).pause refl
      where
        over_facts : (r : R) → z ≡ goes_on kind.system y (segment_alone kind.system y).actor (segment_alone kind.system y).fields (Over r) → Ends kind.system (way_by kind.system (λ t. view_of kind.system x n)) (course_by kind.system kind.hosts (λ t. view_of kind.system x n)) 0 k r
        over_facts r e = record {
          last_is = last;
          steps_old = ap (λ (v : Alone A F R). children_of v.tree y.at) e;
          result_is = res;
          moves = λ q g m. moves_here (kind.system.moved r) q g m (subst (λ (v : Alone A F R). MovesOnly kind.hosts v.at (kind.system.moved r)) e ok.1);
          looking = λ i. (let s = look_ends kind owes y (fine_after kind owes x fin k) (c.under k (omega arith)) (peeking i o) in
              ap kind.system.moved (some_same r s.0 (sym res ∙ ap (λ (v : Alone A F R). v.result) (next_is kind.system k x ∙ ap (segment_if kind.system y) (c.under k (omega arith)) ∙ ap (goes_on kind.system y (segment_alone kind.system y).actor (segment_alone kind.system y).fields) s.1))) ∙ s.3);
        }
          where
            res : z.result ≡ Some r
            res = ap (λ (v : Alone A F R). v.result) e

            ok : All kind.is_job (kind.system.created r) × MovesOnly kind.hosts z.at (kind.system.moved r)
            ok = result_ok kind owes x fin under (suc k) r res

            moves_here : (m : Option (Path × ℕ)) (q : Path) (g : ℕ) → m ≡ Some (q, g) → MovesOnly kind.hosts y.at m → (q ≡ y.at) × (g < kind.hosts)
            moves_here None q g e h = absurd (none_not e)
            moves_here (Some a) q g e h = (ap (λ (v : Path × ℕ). v.0) (sym (some_same a (q, g) e)) ∙ h.0, subst (λ (v : Path × ℕ). v.1 < kind.hosts) (some_same a (q, g) e) h.1)

            last : k ≡ n
            last = elim (at_or_below k n l) [ inr m ↦ m | inl m ↦ absurd (none_not (sym (c.under (suc k) (omega arith)) ∙ res)) ]
              where
                at_or_below : (a b : ℕ) → a ≤ b → (suc a ≤ b) ⊎ (a ≡ b)
                at_or_below a b l = grind arith

        z_by : (v : Pause R) → (segment_alone kind.system y).pause ≡ v → z ≡ goes_on kind.system y (segment_alone kind.system y).actor (segment_alone kind.system y).fields v
        z_by v e = z_is ∙ ap (goes_on kind.system y (segment_alone kind.system y).actor (segment_alone kind.system y).fields) e

        kept_fields : (e : looks_at kind.system (after_segments kind.system n x) (after_segments kind.system k x).at ≡ true) → leaf_of z.tree y.at ≡ leaf_of y.tree y.at
        kept_fields e = (let o' = looking o e in let zo = z_by (Over o'.result) o'.over in
            pair_is _ _ _ _ (ap (λ (v : Alone A F R). v.tree.fields y.at) zo ∙ (rw (path_self y.at) refl) ∙ o'.same) (ap (λ (v : Alone A F R). children_of v.tree y.at) zo))

        whole : (z.actor ≡ (segment_alone kind.system y).actor) → (z.tree.fields y.at ≡ (segment_alone kind.system y).fields) → Follows kind.system (way_by kind.system (λ t. view_of kind.system x n)) (course_by kind.system kind.hosts (λ t. view_of kind.system x n)) 0 k (segment_alone kind.system y) (segment_alone kind.system y).pause →
            Segment kind.system (way_by kind.system (λ t. view_of kind.system x n)) (course_by kind.system kind.hosts (λ t. view_of kind.system x n)) 0 k
        whole ea ef fo = record {
          actor = y.actor;
          actor_is = refl;
          no_result = none;
          actor_next = ap Some ea;
          fields_next = ef;
          follows = fo;
          blind = λ e. (looking o e).blind;
          unchanged = kept_fields;
          ends = λ e. ((looking o e).result, (looking o e).over);
        }

        by : (v : Pause R) → (segment_alone kind.system y).pause ≡ v → Segment kind.system (way_by kind.system (λ t. view_of kind.system x n)) (course_by kind.system kind.hosts (λ t. view_of kind.system x n)) 0 k
        by (Go s) e = (let i = into_next s (kind.system.peeks (segment_alone kind.system y).actor) (λ p. is_above (y.at ++ s ∷ []) p && has y.held p) (filter (is_above (y.at ++ s ∷ [])) y.held) (λ p. has_filter (is_above (y.at ++ s ∷ [])) y.held p) (z_by (Go s) e) in
            whole i.0 i.1 (subst (λ u. Follows kind.system (way_by kind.system (λ t. view_of kind.system x n)) (course_by kind.system kind.hosts (λ t. view_of kind.system x n)) 0 k (segment_alone kind.system y) u) (sym e) i.2))
        by (Down s) e = (let i = into_next s false (λ p. has y.held p) y.held (λ p. refl) (z_by (Down s) e) in
            whole i.0 i.1 (subst (λ u. Follows kind.system (way_by kind.system (λ t. view_of kind.system x n)) (course_by kind.system kind.hosts (λ t. view_of kind.system x n)) 0 k (segment_alone kind.system y) u) (sym e) i.2))
        by Back e = (let zb = z_by Back e in whole (ap (λ (v : Alone A F R). v.actor) zb) (ap (λ (v : Alone A F R). v.tree.fields y.at) zb ∙ (rw (path_self y.at) refl))
            (subst (λ u. Follows kind.system (way_by kind.system (λ t. view_of kind.system x n)) (course_by kind.system kind.hosts (λ t. view_of kind.system x n)) 0 k (segment_alone kind.system y) u) (sym e) (record {
              more = more (ap (λ (v : Alone A F R). v.result) zb);
              place_is = ap (λ (v : Alone A F R). v.at) zb;
              not_fresh = ap (λ (v : Alone A F R). v.fresh) zb;
              held_is = λ p. ap (λ (v : Alone A F R). has v.held p) zb;
              steps_old = ap (λ (v : Alone A F R). children_of v.tree y.at) zb;
              no_result = ap (λ (v : Alone A F R). v.result) zb;
            })))
        by (Over r) e = (let zo = z_by (Over r) e in whole (ap (λ (v : Alone A F R). v.actor) zo) (ap (λ (v : Alone A F R). v.tree.fields y.at) zo ∙ (rw (path_self y.at) refl))
            (subst (λ u. Follows kind.system (way_by kind.system (λ t. view_of kind.system x n)) (course_by kind.system kind.hosts (λ t. view_of kind.system x n)) 0 k (segment_alone kind.system y) u) (sym e) (over_facts r zo)))

  -- the same for a ticket whose view is that of the event
  copy_follows : (f : ℕ → View A F R) (t k : ℕ) (a : Left A F R) (v : Pause R) → Follows kind.system (way_by kind.system (λ i. f t)) (course_by kind.system kind.hosts (λ i. f t)) 0 k a v → Follows kind.system (way_by kind.system f) (course_by kind.system kind.hosts f) t k a v
  copy_follows f t k a (Go s) e = record { more = e.more; place_is = e.place_is; fresh_is = e.fresh_is; held_is = e.held_is; steps_old = e.steps_old; steps_new = e.steps_new; looks_is = e.looks_is; no_result = e.no_result }
  copy_follows f t k a (Down s) e = record { more = e.more; place_is = e.place_is; fresh_is = e.fresh_is; held_is = e.held_is; steps_old = e.steps_old; steps_new = e.steps_new; looks_is = e.looks_is; no_result = e.no_result }
  copy_follows f t k a Back e = record { more = e.more; place_is = e.place_is; not_fresh = e.not_fresh; held_is = e.held_is; steps_old = e.steps_old; no_result = e.no_result }
  copy_follows f t k a (Over r) e = record { last_is = e.last_is; steps_old = e.steps_old; result_is = e.result_is; moves = e.moves; looking = e.looking }

  copy_segment : (f : ℕ → View A F R) (t k : ℕ) → Segment kind.system (way_by kind.system (λ i. f t)) (course_by kind.system kind.hosts (λ i. f t)) 0 k → Segment kind.system (way_by kind.system f) (course_by kind.system kind.hosts f) t k
  copy_segment f t k e = record { actor = e.actor; actor_is = e.actor_is; no_result = e.no_result; actor_next = e.actor_next; fields_next = e.fields_next; follows = copy_follows f t k (kind.system.segment e.actor ((f t).leaf k ((f t).one.place k)).0 ((f t).leaf k ((f t).one.place k)).1) (kind.system.segment e.actor ((f t).leaf k ((f t).one.place k)).0 ((f t).leaf k ((f t).one.place k)).1).pause e.follows; blind = e.blind; unchanged = e.unchanged; ends = e.ends }

  module _ (b : Begin F) (batches : List (List J)) (begins : IsBegin kind b) (jobs : All (All kind.is_job) batches) where
    abbrev pub view_at : ℕ → Option J → View A F R
    view_at i None = view_none kind.system (at kind owes b batches begins jobs i).tree
    view_at i (Some j) = view_of kind.system (first_of kind owes b batches begins jobs i j) (last_of kind owes b batches begins jobs i j)

    abbrev pub view : ℕ → View A F R
    view t = if nat_lt b.before t then view_at (t - suc b.before) (job_after kind.system b batches (t - suc b.before)) else view_none kind.system b.tree

    abbrev pub w : Way
    w = way_by kind.system view

    abbrev pub course : Course kind.system
    course = course_by kind.system kind.hosts view

    -- a ticket of this run
    pub record Real (t : ℕ) : Type 0 where
      pub index : ℕ
      pub job : J
      pub ticket_is : t ≡ suc b.before + index
      pub job_is : job_after kind.system b batches index ≡ Some job

    pub view_later : (i : ℕ) → view (suc b.before + i) ≡ view_at i (job_after kind.system b batches i)
    view_later i = rw (later b.before i) (ap (λ k. view_at k (job_after kind.system b batches k)) (index b.before i))
      where
        later : (x i : ℕ) → nat_lt x (suc x + i) ≡ true
        later x i = grind (arith, nat_tests)

        index : (x i : ℕ) → suc x + i - suc x ≡ i
        index x i = omega arith

    pub view_real : (i : ℕ) (j : J) → job_after kind.system b batches i ≡ Some j → view (suc b.before + i) ≡ view_at i (Some j)
    view_real i j e = view_later i ∙ ap (view_at i) e

    pub view_early : (t : ℕ) → t ≤ b.before → view t ≡ view_none kind.system b.tree
    view_early t l = rw (not_later b.before t l) refl
      where
        not_later : (x t : ℕ) → t ≤ x → nat_lt x t ≡ false
        not_later x t l = grind (arith, nat_tests)

    view_ok : (i : ℕ) (o : Option J) → job_after kind.system b batches i ≡ o → IsOne (view_at i o).one
    view_ok i None e = in_and_out_is
    view_ok i (Some j) e = one_at_ok kind owes b batches begins jobs i (Some j) e

    -- which index, if any
    pub early_or : (t : ℕ) → (t ≤ b.before) ⊎ ((i : ℕ) × (t ≡ suc b.before + i))
    early_or t = elim (at_or_above b.before t) [ inl l ↦ inl l | inr l ↦ inr (t - suc b.before, omega arith) ]
      where
        at_or_above : (a b : ℕ) → (b ≤ a) ⊎ (a < b)
        at_or_above a b = grind arith

    pub law : IsWay w
    law = is_way_of (λ t. (view t).one) (λ t. elim (early_or t) [
      | inl l ↦ subst (λ (v : View A F R). IsOne v.one) (sym (view_early t l)) in_and_out_is
      | inr e ↦ subst (λ a. IsOne (view a).one) (sym e.1) (subst (λ (v : View A F R). IsOne v.one) (sym (view_later e.0)) (view_ok e.0 (job_after kind.system b batches e.0) refl))
    ])

    -- before its first segment a ticket finds the tree that the fold has before it
    pub leaf_first : (i : ℕ) (o : Option J) (p : Path) → (view_at i o).leaf 0 p ≡ leaf_of (at kind owes b batches begins jobs i).tree p
    leaf_first i None p = refl
    leaf_first i (Some j) p = ap (λ (v : Alone A F R). leaf_of v.tree p) (none_yet kind.system (first_of kind owes b batches begins jobs i j)) ∙ pair_is _ _ _ _ refl (children_root (at kind owes b batches begins jobs i).tree p)

    pub done_or_over : (n : ℕ) → ((at kind owes b batches begins jobs n).head.done ≡ n) ⊎ (next_job (at kind owes b batches begins jobs n).head ≡ None)
    done_or_over zero = inl (zero_done kind.system b batches)
    done_or_over (suc n) = elim (options (job_after kind.system b batches n)) [
      | inl e ↦ inr (ap (λ (v : Progress F R J). next_job v.head) (Folds.stays kind.system b batches n e) ∙ e)
      | inr e ↦ elim (done_or_over n) [
        | inr o ↦ absurd (none_not (sym o ∙ e.1))
        | inl d ↦ inl (ap (λ (v : Progress F R J). v.head.done) (Folds.goes_on kind.system b batches n e.0 e.1 d) ∙ Folds.with_done_done (at kind owes b batches begins jobs n).head _ ∙ ap suc d)
      ]
    ]

    pub done_at : (n : ℕ) (j : J) → job_after kind.system b batches n ≡ Some j → (at kind owes b batches begins jobs n).head.done ≡ n
    done_at n j e = elim (done_or_over n) [ inl d ↦ d | inr o ↦ absurd (none_not (sym o ∙ e)) ]

    not_more : (i : ℕ) (j : J) → job_after kind.system b batches i ≡ Some j → Counts kind.system (first_of kind owes b batches begins jobs i j) (suc (last_of kind owes b batches begins jobs i j)) → suc (last_of kind owes b batches begins jobs i j) ≤ kind.system.enough j (suc b.before + i) (at kind owes b batches begins jobs i).tree
    not_more i j e c = (let r = owes.ends j (suc b.before + i) (at kind owes b batches begins jobs i).tree (Plans.job_ok kind owes b batches begins jobs (at kind owes b batches begins jobs i) j (holds kind owes b batches begins jobs i) e) (holds kind owes b batches begins jobs i).fitting (holds kind owes b batches begins jobs i).ordered in
        at_most _ _ (λ m. none_not (sym (c.under _ m) ∙ r.1)))
      where
        at_most : (a b : ℕ) → (b < a → ⊥) → a ≤ b
        at_most a b f = grind arith

    whole_run : (i : ℕ) (j : J) → job_after kind.system b batches i ≡ Some j → ended_alone kind.system (suc b.before + i) (at kind owes b batches begins jobs i).tree j ≡ after_segments kind.system (suc (last_of kind owes b batches begins jobs i j)) (first_of kind owes b batches begins jobs i j)
    whole_run i j e = (let c = counts kind owes b batches begins jobs i j e in
        over_later kind.system (first_of kind owes b batches begins jobs i j) (suc (last_of kind owes b batches begins jobs i j)) (kind.system.enough j (suc b.before + i) (at kind owes b batches begins jobs i).tree) c.result c.ends
        (not_more i j e c))

    -- the tree after a job is that of its last segment, and so are its result and what it entered
    pub tree_after : (i : ℕ) (j : J) → job_after kind.system b batches i ≡ Some j → (at kind owes b batches begins jobs (suc i)).tree ≡ (after_segments kind.system (suc (last_of kind owes b batches begins jobs i j)) (first_of kind owes b batches begins jobs i j)).tree
    tree_after i j e = ap (λ (v : Progress F R J). v.tree) (Folds.goes_on kind.system b batches i j e (done_at i j e))
        ∙ ap (λ (v : Alone A F R). v.tree) (whole_run i j e)

    pub result_after : (i : ℕ) (j : J) (e : job_after kind.system b batches i ≡ Some j) → (run_alone kind.system (suc b.before + i) (at kind owes b batches begins jobs i).tree j).result ≡ (counts kind owes b batches begins jobs i j e).result
    result_after i j e = ap (λ (v : Alone A F R). unwrap_or v.result kind.system.unended) (whole_run i j e) ∙ ap (λ o. unwrap_or o kind.system.unended) (counts kind owes b batches begins jobs i j e).ends

    pub entered_after : (i : ℕ) (j : J) → job_after kind.system b batches i ≡ Some j → (run_alone kind.system (suc b.before + i) (at kind owes b batches begins jobs i).tree j).entered ≡ (after_segments kind.system (suc (last_of kind owes b batches begins jobs i j)) (first_of kind owes b batches begins jobs i j)).entered
    entered_after i j e = ap (λ (v : Alone A F R). v.entered) (whole_run i j e)

    chained_at : (i : ℕ) (o : Option J) (p : Path) → job_after kind.system b batches i ≡ o → leaf_of (at kind owes b batches begins jobs (suc i)).tree p ≡ (view_at i o).leaf (suc (view_at i o).one.last) p
    chained_at i None p e = ap (λ (v : Progress F R J). leaf_of v.tree p) (Folds.stays kind.system b batches i e)
    chained_at i (Some j) p e = ap (λ v. leaf_of v p) (tree_after i j e)

    own_at : (i : ℕ) (o : Option J) (k : ℕ) (p : Path) → path_eq ((view_at i o).one.place k) p ≡ false → (view_at i o).leaf (suc k) p ≡ (view_at i o).leaf k p
    own_at i None k p e = refl
    own_at i (Some j) k p e = ap (λ (v : Alone A F R). leaf_of v.tree p) (next_is kind.system k (first_of kind owes b batches begins jobs i j)) ∙ next_leaf kind.system (after_segments kind.system k (first_of kind owes b batches begins jobs i j)) p e

    pub courses : IsCourse kind.system w course b.before Real
    courses = record {
      chained = λ t p. elim (early_or t) [
        | inr e ↦ subst (λ a. (view (suc a)).leaf 0 p ≡ (view a).leaf (suc (view a).one.last) p) (sym e.1) (next_of e.0 p)
        | inl l ↦ elim (early_or (suc t)) [
          | inl m ↦ ap (λ (v : View A F R). v.leaf 0 p) (view_early (suc t) m) ∙ sym (ap (λ (v : View A F R). v.leaf (suc v.one.last) p) (view_early t l))
          | inr e ↦ (let z : e.0 ≡ 0 = first_one _ _ _ l e.1 in
              ap (λ a. (view a).leaf 0 p) e.1 ∙ ap (λ a. (view (suc b.before + a)).leaf 0 p) z ∙ ap (λ (v : View A F R). v.leaf 0 p) (view_later 0) ∙ leaf_first 0 (job_after kind.system b batches 0) p ∙ sym (ap (λ (v : View A F R). v.leaf (suc v.one.last) p) (view_early t l)))
        ]
      ];
      own = λ t k p l e. elim (early_or t) [
        | inl m ↦ ap (λ (v : View A F R). v.leaf (suc k) p) (view_early t m) ∙ sym (ap (λ (v : View A F R). v.leaf k p) (view_early t m))
        | inr i ↦ (let v = ap view i.1 ∙ view_later i.0 in ap (λ (u : View A F R). u.leaf (suc k) p) v ∙ own_at i.0 (job_after kind.system b batches i.0) k p (sym (ap (λ (u : View A F R). path_eq (u.one.place k) p) v) ∙ e) ∙ sym (ap (λ (u : View A F R). u.leaf k p) v))
      ];
      segment = λ t k r l. copy_segment view t k (let v = ap view r.ticket_is ∙ view_real r.index r.job r.job_is in
          subst (λ (u : View A F R). Segment kind.system (way_by kind.system (λ i. u)) (course_by kind.system kind.hosts (λ i. u)) 0 k) (sym v)
          (segment_view (first_of kind owes b batches begins jobs r.index r.job) (last_of kind owes b batches begins jobs r.index r.job) (first_ok kind owes b batches begins jobs r.index r.job r.job_is) refl (counts kind owes b batches begins jobs r.index r.job r.job_is)
          (enter_sorted (at kind owes b batches begins jobs r.index).tree [] (holds kind owes b batches begins jobs r.index).ordered) k (subst (λ (u : View A F R). k ≤ u.one.last) v l) (view_ok r.index (Some r.job) r.job_is)));
      is_later = λ t r. subst (λ a. b.before < a) (sym r.ticket_is) (omega arith);
    }
      where
        first_one : (t x i : ℕ) → t ≤ x → suc t ≡ suc x + i → i ≡ 0
        first_one t x i l e = omega arith

        next_of : (i : ℕ) (p : Path) → (view (suc (suc b.before + i))).leaf 0 p ≡ (view (suc b.before + i)).leaf (suc (view (suc b.before + i)).one.last) p
        next_of i p = ap (λ a. (view a).leaf 0 p) (let z : suc (suc b.before + i) ≡ suc b.before + suc i = omega arith in z) ∙ ap (λ (v : View A F R). v.leaf 0 p) (view_later (suc i)) ∙ leaf_first (suc i) (job_after kind.system b batches (suc i)) p
            ∙ chained_at i (job_after kind.system b batches i) p refl ∙ sym (ap (λ (v : View A F R). v.leaf (suc v.one.last) p) (view_later i))
