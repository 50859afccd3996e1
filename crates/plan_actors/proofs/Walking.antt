-- A walker alone enters and copies all contexts, in path order, and leaves the tree as it is.
use Rattle.std.proofs.Common.{◌≡◌, ℕ, zero, suc, ◌+◌, ◌*◌, ◌≤◌, inl, inr, true, false, List, [], ◌∷◌, ◌++◌, length, map, Some, None, append_assoc, append-nil, length-append, refl, sym, ◌∙◌, ap, ap₂, subst, arith}
use Rattle.std.proofs.lemmas.List.{map-append}
use Rattle.std.specs.List.{list_any, AllByRecursion}
use Rattle.std.specs.List.Sorted.{IsStrictlySortedBy}
use Rattle.std.specs.declared.cmp.Ordering.TheVariants.{Less}
use Rattle.wave_base.specs.declared.path.Step.{Step}
use Rattle.wave_base.specs.declared.path.Path.{Path}
use Rattle.wave_base.specs.Paths.{step_cmp, path_eq, path_cmp, parent_of}
use Rattle.wave_base.specs.PathLaws.{path_cmp_total}
use Rattle.wave_base.specs.Tree.{Tree, there, enter, children_of, shots}
use Rattle.wave_base.proofs.Trees.{put_same, enter_there}
use Rattle.wave_states.specs.Actors.{Left}
use Rattle.wave_states.specs.Alone.{Alone, into, has, goes_on, next_alone, segment_if, after_segments, first_alone, ended_alone, segments_of, tree_with, count_from}
use Rattle.wave_states.specs.Walkers.{Walker, steps_left, first_of, last_step, copied_now, leave, walk_on, walkers, visit, with_children, depth_of}
use Rattle.wave_states.proofs.Children.{kids_in, kids_sorted, left_after}
use Rattle.wave_states.proofs.Segments.{after_first, after_none, after_both}
use Rattle.wave_theory.proofs.Basics.{bool_cases}
use Rattle.wave_theory.proofs.Paths.{parent_child}
use Rattle.plan_actors.proofs.Images.{count_both, count_last}
use Rattle.plan_actors.proofs.Order.{below, subtree, subtree_under, sides, first_below, never_self, at_path, all_map, all_joined, no_deeper, depth_first, visit_is}

last_child : (p : Path) (s : Step) → last_step (p ++ s ∷ []) ≡ Some s
last_child [] s = refl
last_child (t ∷ []) s = refl
last_child (t ∷ u ∷ p) s = last_child (u ∷ p) s

-- all of these come before the path
abbrev Before : List Path → Path → Type 0
Before es q = AllByRecursion (λ y. path_cmp y q ≡ Less) es

before_through : (es : List Path) (p q : Path) → Before es p → path_cmp p q ≡ Less → Before es q
before_through es p q h e = all_map (λ y. path_cmp y p ≡ Less) (λ y. path_cmp y q ≡ Less) (λ y f. path_cmp_total.trans y p q f e) es h

-- so it is none of them
not_before : (es : List Path) (q : Path) → Before es q → list_any (path_eq q) es ≡ false
not_before es q h = elim (bool_cases (list_any (path_eq q) es)) [
  | inl z ↦ absurd (never_self q (at_path (λ y. path_cmp y q ≡ Less) es h q z))
  | inr z ↦ z
]

module _ {F : Type 0} (initial : Path → F) (tree : Tree F) (ordered : IsStrictlySortedBy path_cmp tree.paths) where
  abbrev One : Type 0
  One = Alone (Walker F) F (List (Path × F))

  abbrev pub copies : List Path → List (Path × F)
  copies ps = map (λ p. (p, tree.fields p)) ps

  -- the walker is at the path, these of its children are left, it has entered and copied these contexts
  record Walks (x : One) (p : Path) (ss : List Step) (es : List Path) : Type 0 where
    at : x.at ≡ p
    stands : x.actor.at ≡ p
    same : x.tree ≡ tree
    going : x.result ≡ None
    left : steps_left (children_of tree p) x.actor.from ≡ ss
    held : x.held ≡ es
    entered : x.entered ≡ es
    copied : copied_now x.actor (x.tree.fields x.at) ≡ copies es

  abbrev goes_by : One → Left (Walker F) F (List (Path × F)) → One
  goes_by x l = goes_on (walkers initial) x l.actor l.fields l.pause

  next_by : (x : One) (p : Path) (ss : List Step) (es : List Path) → Walks x p ss es → next_alone (walkers initial) x ≡ goes_by x (walk_on p x.actor.from (x.tree.fields x.at) (copies es) (first_of ss))
  next_by x p ss es w = ap (segment_if (walkers initial) x) w.going
      ∙ ap (λ q. goes_by x (walk_on q x.actor.from (x.tree.fields x.at) (copied_now x.actor (x.tree.fields x.at)) (first_of (steps_left (children_of x.tree x.at) x.actor.from)))) w.stands
      ∙ ap (λ us. goes_by x (walk_on p x.actor.from (x.tree.fields x.at) (copied_now x.actor (x.tree.fields x.at)) (first_of us))) (ap₂ (λ t q. steps_left (children_of t q) x.actor.from) w.same w.at ∙ w.left)
      ∙ ap (λ cs. goes_by x (walk_on p x.actor.from (x.tree.fields x.at) cs (first_of ss))) w.copied

  put_back : (x : One) → x.tree ≡ tree → tree_with x (x.tree.fields x.at) ≡ tree
  put_back x e = put_same x.tree x.at ∙ e

  one_copy : (es : List Path) (p : Path) → copies es ++ (p, tree.fields p) ∷ [] ≡ copies (es ++ p ∷ [])
  one_copy es p = sym (map-append (λ p. (p, tree.fields p)) es (p ∷ []))

  -- down to a child, which it enters and copies
  down : (x : One) (p : Path) (s : Step) (ss : List Step) (es : List Path) → Walks x p (s ∷ ss) es → there tree (p ++ s ∷ []) ≡ true → Before es (p ++ s ∷ []) → Walks (next_alone (walkers initial) x) (p ++ s ∷ []) (children_of tree (p ++ s ∷ [])) (es ++ (p ++ s ∷ []) ∷ [])
  down x p s ss es w e b = subst (λ y. Walks y (p ++ s ∷ []) (children_of tree (p ++ s ∷ [])) (es ++ (p ++ s ∷ []) ∷ [])) (sym (next_by x p (s ∷ ss) es w
      ∙ ap₂ (λ c q. into x (record { at = p ++ s ∷ []; from = None; copied = copies es }) (x.tree.fields x.at) q false x.held c) not_held (ap (λ q. q ++ s ∷ []) w.at))) (record {
        at = refl;
        stands = refl;
        same = joined;
        going = refl;
        left = refl;
        held = ap (λ hs. hs ++ (p ++ s ∷ []) ∷ []) w.held;
        entered = ap (λ hs. hs ++ (p ++ s ∷ []) ∷ []) w.entered;
        copied = ap (λ (t : Tree F). copies es ++ (p ++ s ∷ [], t.fields (p ++ s ∷ [])) ∷ []) joined ∙ one_copy es (p ++ s ∷ []);
      })
    where
      not_held : has x.held (x.at ++ s ∷ []) ≡ false
      not_held = ap₂ (λ hs q. has hs (q ++ s ∷ [])) w.held w.at ∙ not_before es (p ++ s ∷ []) b

      joined : enter (tree_with x (x.tree.fields x.at)) (p ++ s ∷ []) ≡ tree
      joined = ap (λ t. enter t (p ++ s ∷ [])) (put_back x w.same) ∙ enter_there tree (p ++ s ∷ []) ordered e

  -- what came before one of its children, and what comes behind it
  abbrev IsKid : Path → Step → List Step → Type 0
  IsKid p s ss = (front : List Step) × (children_of tree p ≡ front ++ s ∷ ss)

  left_behind : (p : Path) (s : Step) (ss : List Step) → IsKid p s ss → steps_left (children_of tree p) (Some s) ≡ ss
  left_behind p s ss k = subst (λ us. IsStrictlySortedBy step_cmp us → steps_left us (Some s) ≡ ss) (sym k.1) (left_after k.0 s ss) (kids_sorted p tree.paths ordered)

  -- and back from it
  up : (x : One) (p : Path) (s : Step) (ss : List Step) (es : List Path) → Walks x (p ++ s ∷ []) [] es → IsKid p s ss → Walks (next_alone (walkers initial) x) p ss es
  up x p s ss es w k = subst (λ y. Walks y p ss es) (sym (next_by x (p ++ s ∷ []) [] es w))
      (subst (λ o. Walks (goes_by x (leave (p ++ s ∷ []) x.actor.from (x.tree.fields x.at) (copies es) o)) p ss es) (sym (last_child p s))
      (record { at = ap parent_of w.at ∙ parent_child p s; stands = parent_child p s; same = put_back x w.same; going = refl; left = left_behind p s ss k; held = w.held; entered = w.entered; copied = refl }))

  -- what a visit of a child does: v is the number of its segments, c the contexts of its subtree
  abbrev Visits : (Path → ℕ) → (Path → List Path) → Path → Step → Type 0
  Visits v c p s = (x : One) (ss : List Step) (es : List Path) → Walks x (p ++ s ∷ []) (children_of tree (p ++ s ∷ [])) (es ++ (p ++ s ∷ []) ∷ []) → IsKid p s ss → Before es (p ++ s ∷ []) →
      Walks (after_segments (walkers initial) (v (p ++ s ∷ [])) x) p ss (es ++ c (p ++ s ∷ []))

  abbrev AreLast : Path → List Step → Type 0
  AreLast p ss = (front : List Step) × (children_of tree p ≡ front ++ ss)

  one_on : (p : Path) (s : Step) (ss : List Step) → AreLast p (s ∷ ss) → AreLast p ss
  one_on p s ss k = (k.0 ++ s ∷ [], k.1 ∙ sym (append_assoc k.0 (s ∷ []) ss))

  -- the children that are left are there, are in order, and come after all that was entered
  record Ahead (p : Path) (ss : List Step) (es : List Path) : Type 0 where
    there_are : AllByRecursion (λ s. there tree (p ++ s ∷ []) ≡ true) ss
    sorted : IsStrictlySortedBy step_cmp ss
    after : AllByRecursion (λ s. Before es (p ++ s ∷ [])) ss
    last : AreLast p ss

  -- after the first of them and all below it the others are still ahead
  ahead : (p : Path) (s : Step) (ss : List Step) (es below_s : List Path) → Ahead p (s ∷ ss) es → AllByRecursion (λ q. (r : Path) × (q ≡ (p ++ s ∷ []) ++ r)) below_s → Ahead p ss (es ++ below_s)
  unfolding IsStrictlySortedBy
  ahead p s ss es below_s a u = record { there_are = a.there_are.1; sorted = a.sorted.1; after = go ss a.sorted.0 a.after.1; last = one_on p s ss a.last }
    where
      go : (ts : List Step) → AllByRecursion (λ t. step_cmp s t ≡ Less) ts → AllByRecursion (λ t. Before es (p ++ t ∷ [])) ts → AllByRecursion (λ t. Before (es ++ below_s) (p ++ t ∷ [])) ts
      go [] h k = tt
      go (t ∷ ts) h k = (
        all_joined (λ y. path_cmp y (p ++ t ∷ []) ≡ Less) es below_s k.0
            (all_map (λ q. (r : Path) × (q ≡ (p ++ s ∷ []) ++ r)) (λ y. path_cmp y (p ++ t ∷ []) ≡ Less) (λ y e. ap (λ z. path_cmp z (p ++ t ∷ [])) (e.1 ∙ append_assoc p (s ∷ []) e.0) ∙ sides p e.0 [] s t h.0) below_s u),
        go ts h.1 k.1,
      )

  -- all children of a context that was entered last
  all_ahead : (p : Path) (es : List Path) → Before es p → Ahead p (children_of tree p) (es ++ p ∷ [])
  all_ahead p es b = record { there_are = kids_in p tree.paths tree.paths (λ q e. e); sorted = kids_sorted p tree.paths ordered; after = go (children_of tree p); last = ([], refl) }
    where
      go : (ss : List Step) → AllByRecursion (λ s. Before (es ++ p ∷ []) (p ++ s ∷ [])) ss
      go [] = tt
      go (s ∷ ss) = (all_joined (λ y. path_cmp y (p ++ s ∷ []) ≡ Less) es (p ∷ []) (before_through es p (p ++ s ∷ []) b (first_below p [] s)) (first_below p [] s, tt), go ss)

  one : (a b : ℕ) → suc a + b ≡ suc (a + b)
  one a b = omega arith

  module _ (v : Path → ℕ) (c : Path → List Path) (under : (p : Path) → AllByRecursion (λ q. (r : Path) × (q ≡ p ++ r)) (c p)) where
    -- a child, and then what is left
    first_of_them : (p : Path) (s : Step) (ss : List Step) (es : List Path) (x : One) → Visits v c p s → Walks x p (s ∷ ss) es → Ahead p (s ∷ ss) es → Walks (after_segments (walkers initial) (suc (v (p ++ s ∷ []))) x) p ss (es ++ c (p ++ s ∷ []))
    first_of_them p s ss es x f w a = subst (λ y. Walks y p ss (es ++ c (p ++ s ∷ []))) (sym (after_first (walkers initial) (v (p ++ s ∷ [])) x)) (f (next_alone (walkers initial) x) ss es (down x p s ss es w a.there_are.0 a.after.0) a.last a.after.0)

    split : (p : Path) (s : Step) (ss : List Step) (x : One) → after_segments (walkers initial) (with_children v p (s ∷ ss)) x ≡ after_segments (walkers initial) (with_children v p ss) (after_segments (walkers initial) (suc (v (p ++ s ∷ []))) x)
    split p s ss x = ap (λ n. after_segments (walkers initial) n x) (sym (one (v (p ++ s ∷ [])) (with_children v p ss))) ∙ after_both (walkers initial) (suc (v (p ++ s ∷ []))) (with_children v p ss) x

    rest_of : (p : Path) (s : Step) (ss cs : List Step) (es : List Path) (x : One) → ((u : Step) → there tree ((p ++ s ∷ []) ++ u ∷ []) ≡ true → Visits v c (p ++ s ∷ []) u) → Walks x (p ++ s ∷ []) cs es → Ahead (p ++ s ∷ []) cs es → IsKid p s ss →
        Walks (after_segments (walkers initial) (with_children v (p ++ s ∷ []) cs) x) p ss (es ++ below tree c (p ++ s ∷ []) cs)
    rest_of p s ss [] es x f w a k = subst (λ y. Walks y p ss (es ++ [])) (sym (after_first (walkers initial) 0 x ∙ after_none (walkers initial) (next_alone (walkers initial) x))) (subst (Walks (next_alone (walkers initial) x) p ss) (sym (append-nil es)) (up x p s ss es w k))
    rest_of p s ss (u ∷ us) es x f w a k =
        subst (λ y. Walks y p ss (es ++ below tree c (p ++ s ∷ []) (u ∷ us))) (sym (split (p ++ s ∷ []) u us x))
        (subst (Walks (after_segments (walkers initial) (with_children v (p ++ s ∷ []) us) (after_segments (walkers initial) (suc (v ((p ++ s ∷ []) ++ u ∷ []))) x)) p ss) (append_assoc es (c ((p ++ s ∷ []) ++ u ∷ [])) (below tree c (p ++ s ∷ []) us))
        (rest_of p s ss us (es ++ c ((p ++ s ∷ []) ++ u ∷ [])) (after_segments (walkers initial) (suc (v ((p ++ s ∷ []) ++ u ∷ []))) x) f
        (first_of_them (p ++ s ∷ []) u us es x (f u a.there_are.0) w a) (ahead (p ++ s ∷ []) u us es (c ((p ++ s ∷ []) ++ u ∷ [])) a (under ((p ++ s ∷ []) ++ u ∷ []))) k))

    -- at the root the walk is over at its end
    record Walked (y : One) (es : List Path) (count segments : ℕ) : Type 0 where
      same : y.tree ≡ tree
      result : y.result ≡ Some (copies es)
      entered : y.entered ≡ es
      counts : count ≡ segments

    root_rest : (cs : List Step) (es : List Path) (x : One) → ((u : Step) → there tree (u ∷ []) ≡ true → Visits v c [] u) → Walks x [] cs es → Ahead [] cs es →
        Walked (after_segments (walkers initial) (with_children v [] cs) x) (es ++ below tree c [] cs) (count_from (walkers initial) (with_children v [] cs) x) (with_children v [] cs)
    root_rest [] es x f w a = subst (λ y. Walked y (es ++ []) (count_from (walkers initial) 1 x) 1) (sym (after_first (walkers initial) 0 x ∙ after_none (walkers initial) (next_alone (walkers initial) x) ∙ next_by x [] [] es w)) (record {
      same = put_back x w.same;
      result = ap (λ ps. Some (copies ps)) (sym (append-nil es));
      entered = w.entered ∙ sym (append-nil es);
      counts = count_last (walkers initial) x w.going;
    })
    root_rest (u ∷ us) es x f w a =
        let z : One = after_segments (walkers initial) (suc (v (u ∷ []))) x in
        let first : Walks z [] us (es ++ c (u ∷ [])) = first_of_them [] u us es x (f u a.there_are.0) w a in
        let rest = root_rest us (es ++ c (u ∷ [])) z f first (ahead [] u us es (c (u ∷ [])) a (under (u ∷ []))) in
        let list : (es ++ c (u ∷ [])) ++ below tree c [] us ≡ es ++ below tree c [] (u ∷ us) = append_assoc es (c (u ∷ [])) (below tree c [] us) in
        record {
          same = ap (λ (y : One). y.tree) (split [] u us x) ∙ rest.same;
          result = ap (λ (y : One). y.result) (split [] u us x) ∙ rest.result ∙ ap (λ ps. Some (copies ps)) list;
          entered = ap (λ (y : One). y.entered) (split [] u us x) ∙ rest.entered ∙ list;
          counts = ap (λ n. count_from (walkers initial) n x) (sym (one (v (u ∷ [])) (with_children v [] us))) ∙ count_both (walkers initial) (suc (v (u ∷ []))) (with_children v [] us) x first.going ∙ ap (λ n. suc (v (u ∷ [])) + n) rest.counts ∙ one (v (u ∷ [])) (with_children v [] us);
        }

  none_deep : (p : Path) (cs : List Step) → depth_of tree.paths ≤ length p → AllByRecursion (λ s. there tree (p ++ s ∷ []) ≡ true) cs → cs ≡ []
  none_deep p [] deep k = refl
  none_deep p (s ∷ cs) deep k = absurd (too_deep (length p) _ _ deep (length-append p (s ∷ [])) (no_deeper (p ++ s ∷ []) tree.paths k.0))
    where
      too_deep : (a c d : ℕ) → d ≤ a → c ≡ a + 1 → c ≤ d → ⊥
      too_deep a c d l e m = omega (arith, l, e, m)

  no_more : (a b : ℕ) → b ≤ a + 0 → b ≤ a
  no_more a b l = omega (arith, l)

  deeper : (d : ℕ) (p : Path) (s : Step) → depth_of tree.paths ≤ length p + suc d → depth_of tree.paths ≤ length (p ++ s ∷ []) + d
  deeper d p s l = by (length p) _ _ l (length-append p (s ∷ []))
    where
      by : (a c m : ℕ) → m ≤ a + suc d → c ≡ a + 1 → m ≤ c + d
      by a c m l e = omega (arith, l, e)

  kids : (p : Path) → AllByRecursion (λ s. there tree (p ++ s ∷ []) ≡ true) (children_of tree p)
  kids p = kids_in p tree.paths tree.paths (λ q e. e)

  -- a visit enters and copies the whole subtree, depth first
  visits : (d : ℕ) (p : Path) (s : Step) → depth_of tree.paths ≤ length (p ++ s ∷ []) + d → Visits (visit tree d) (subtree tree d) p s
  unfolding visit subtree
  visits zero p s deep x ss es w k b =
      let none : children_of tree (p ++ s ∷ []) ≡ [] = none_deep (p ++ s ∷ []) (children_of tree (p ++ s ∷ [])) (no_more _ _ deep) (kids (p ++ s ∷ [])) in
      subst (λ y. Walks y p ss (es ++ (p ++ s ∷ []) ∷ [])) (sym (after_first (walkers initial) 0 x ∙ after_none (walkers initial) (next_alone (walkers initial) x)))
      (up x p s ss (es ++ (p ++ s ∷ []) ∷ []) (subst (λ cs. Walks x (p ++ s ∷ []) cs (es ++ (p ++ s ∷ []) ∷ [])) none w) k)
  visits (suc d) p s deep x ss es w k b =
      subst (Walks (after_segments (walkers initial) (visit tree (suc d) (p ++ s ∷ [])) x) p ss) (append_assoc es ((p ++ s ∷ []) ∷ []) (below tree (subtree tree d) (p ++ s ∷ []) (children_of tree (p ++ s ∷ []))))
      (rest_of (visit tree d) (subtree tree d) (subtree_under tree d) p s ss (children_of tree (p ++ s ∷ [])) (es ++ (p ++ s ∷ []) ∷ []) x (λ u e. visits d (p ++ s ∷ []) u (deeper d (p ++ s ∷ []) u deep)) w (all_ahead (p ++ s ∷ []) es b) k)

  walk_all : (d : ℕ) → depth_of tree.paths ≤ d → (x : One) → Walks x [] (children_of tree []) ([] ∷ []) → Walked (visit tree d) (subtree tree d) (subtree_under tree d) (after_segments (walkers initial) (visit tree d []) x) (subtree tree d []) (count_from (walkers initial) (visit tree d []) x) (visit tree d [])
  unfolding visit subtree IsStrictlySortedBy
  walk_all zero deep x w =
      let none : children_of tree [] ≡ [] = none_deep [] (children_of tree []) deep (kids []) in
      let done = root_rest (λ p. 1) (λ p. p ∷ []) (λ p. (([], sym (append-nil p)), tt)) [] ([] ∷ []) x (λ u e. absurd (cons_none u (none_deep [] (u ∷ []) deep (e, tt)))) (subst (λ cs. Walks x [] cs ([] ∷ [])) none w) (record { there_are = tt; sorted = tt; after = tt; last = ([], none) }) in
      record { same = done.same; result = done.result; entered = done.entered; counts = done.counts }
    where
      cons_none : (u : Step) → u ∷ [] ≡ [] → ⊥
      cons_none u e = grind arith
  walk_all (suc d) deep x w =
      let done = root_rest (visit tree d) (subtree tree d) (subtree_under tree d) (children_of tree []) ([] ∷ []) x (λ u e. visits d [] u (below_one _ deep)) w (all_ahead [] [] tt) in
      record { same = done.same; result = done.result; entered = done.entered; counts = done.counts }
    where
      below_one : (m : ℕ) → m ≤ suc d → m ≤ 1 + d
      below_one m l = omega (arith, l)

  module _ (parents : (p : Path) → there tree p ≡ true → there tree (parent_of p) ≡ true) (root : there tree [] ≡ true) where
    -- how a walk ends
    pub record Whole (y : One) (count : ℕ) : Type 0 where
      pub same : y.tree ≡ tree
      pub result : y.result ≡ Some (shots tree)
      pub entered : y.entered ≡ tree.paths
      pub counts : count + 1 ≡ 2 * length tree.paths

    walked_from : (x : One) → Walks x [] (children_of tree []) ([] ∷ []) → Whole (after_segments (walkers initial) (visit tree (depth_of tree.paths) []) x) (count_from (walkers initial) (visit tree (depth_of tree.paths) []) x)
    walked_from x w =
        let d : ℕ = depth_of tree.paths in
        let done = walk_all d (upto d) x w in
        let all : subtree tree d [] ≡ tree.paths = depth_first tree ordered parents d (upto d) root in
        record {
          same = done.same;
          result = done.result ∙ ap (λ ps. Some (copies ps)) all;
          entered = done.entered ∙ all;
          counts = ap (λ n. n + 1) done.counts ∙ visit_is tree d [] ∙ ap (λ (ps : List Path). 2 * length ps) all;
        }
      where
        upto : (a : ℕ) → a ≤ a
        upto a = omega arith

    -- a whole run
    pub walked_whole : (ticket : ℕ) → Whole (ended_alone (walkers initial) ticket tree tt) (segments_of (walkers initial) ticket tree tt)
    walked_whole ticket =
        let joined : enter tree [] ≡ tree = enter_there tree [] ordered root in
        subst (λ (t : Tree F). Whole (after_segments (walkers initial) (visit t (depth_of t.paths) []) (first_alone (walkers initial) tt ticket tree)) (count_from (walkers initial) (visit t (depth_of t.paths) []) (first_alone (walkers initial) tt ticket tree))) (sym joined)
        (walked_from (first_alone (walkers initial) tt ticket tree) (record { at = refl; stands = refl; same = joined; going = refl; left = refl; held = refl; entered = refl; copied = ap (λ (t : Tree F). ([], t.fields []) ∷ []) joined }))
