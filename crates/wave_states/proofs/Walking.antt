-- Walkers owe what an actor owes, and tell all contexts.
use Rattle.std.proofs.Common.{◌≡◌, ℕ, zero, suc, ◌+◌, ◌≤◌, ◌||◌, Bool, true, false, List, [], ◌∷◌, ◌++◌, length, Option, Some, None, refl, sym, ◌∙◌, ap, ap₂, subst, arith}
use Rattle.std.specs.List.{list_any, AllByRecursion}
use Rattle.std.specs.List.Sorted.{IsStrictlySortedBy}
use Rattle.std.proofs.lemmas.List.{length-append, append_assoc}
use Rattle.std.proofs.lemmas.List.Elements.{All-nil}
use mathlib.Core.Bool.{true≢false}
use Rattle.wave_base.specs.declared.path.Step.{Step}
use Rattle.wave_base.specs.declared.path.Path.{Path}
use Rattle.wave_base.specs.Paths.{step_cmp, path_eq, path_cmp, parent_of}
use Rattle.wave_base.specs.PathLaws.{path_eq_decides}
use Rattle.wave_base.specs.Tree.{Tree, there, enter, children_of}
use Rattle.wave_base.proofs.Trees.{put_same, enter_there, enter_sorted}
use Rattle.wave_states.specs.Actors.{Left}
use Rattle.wave_states.specs.Kinds.{Kind}
use Rattle.wave_states.specs.Alone.{Alone, into, has, goes_on, next_alone, segment_if, after_segments, first_alone, tree_with}
use Rattle.wave_states.specs.Owes.{Owes, Keeps}
use Rattle.wave_states.specs.Walkers.{Walker, steps_left, first_of, last_step, copied_now, leave, walk_on, walkers, visit, with_children, depth_of, walker_kind}
use Rattle.wave_states.proofs.Children.{kids_in, kids_sorted, left_after}
use Rattle.wave_states.proofs.Segments.{after_first, after_none, after_both}

parent_child : (p : Path) (s : Step) → parent_of (p ++ s ∷ []) ≡ p
parent_child [] s = refl
parent_child (t ∷ []) s = refl
parent_child (t ∷ u ∷ p) s = ap (λ q. t ∷ q) (parent_child (u ∷ p) s)

last_child : (p : Path) (s : Step) → last_step (p ++ s ∷ []) ≡ Some s
last_child [] s = refl
last_child (t ∷ []) s = refl
last_child (t ∷ u ∷ p) s = last_child (u ∷ p) s

-- no path that is there is longer than all together
no_deeper : (p : Path) (ps : List Path) → list_any (path_eq p) ps ≡ true → length p ≤ depth_of ps
no_deeper p [] e = absurd (true≢false (sym e))
no_deeper p (x ∷ ps) e = by (path_eq p x) refl e (no_deeper p ps)
  where
    by : (b : Bool) → path_eq p x ≡ b → (b || list_any (path_eq p) ps) ≡ true → (list_any (path_eq p) ps ≡ true → length p ≤ depth_of ps) → length p ≤ length x + depth_of ps
    by true z e f = subst (λ q. length p ≤ length q + depth_of ps) ((path_eq_decides p x).0 z) (plus (length p) (depth_of ps))
      where
        plus : (a b : ℕ) → a ≤ a + b
        plus a b = omega arith
    by false z e f = more (length x) _ _ (f e)
      where
        more : (a b c : ℕ) → b ≤ c → b ≤ a + c
        more a b c l = omega (arith, l)

module _ {F : Type 0} (initial : Path → F) (hosts : ℕ) (fits : Path → F → Type 0) (initial_fits : (p : Path) → fits p (initial p)) where
  abbrev kind : Kind (Walker F) F (List (Path × F)) (Unit {0})
  kind = walker_kind initial hosts fits

  abbrev End : Path → ℕ → Left (Walker F) F (List (Path × F)) → Type 0
  End p n l = Keeps kind l.actor p n l.pause

  -- it goes back only from a child, and then a call is open
  leaves : (p : Path) (n : ℕ) (from : Option Step) (f : F) (copied : List (Path × F)) → n ≡ length p → End p n (leave p from f copied (last_step p))
  leaves [] n from f copied e = (All-nil kind.is_job, tt)
  leaves (s ∷ p) n from f copied e = by (last_step (s ∷ p)) n e
    where
      shorter : (s : Step) (p : Path) → length p ≡ length (parent_of (s ∷ p))
      shorter s [] = refl
      shorter s (t ∷ p) = ap suc (shorter t p)

      less : (a b : ℕ) → suc a ≡ suc b → a ≡ b
      less a b e = omega (arith, e)

      by : (o : Option Step) (n : ℕ) → n ≡ suc (length p) → End (s ∷ p) n (leave (s ∷ p) from f copied o)
      by None n e = (All-nil kind.is_job, tt)
      by (Some u) zero e = absurd (omega (arith, e))
      by (Some u) (suc n) e = record { at = refl; open_calls = less n (length p) e ∙ shorter s p }

  keeps_on : (q p : Path) (n : ℕ) (from : Option Step) (f : F) (copied : List (Path × F)) (next : Option Step) → q ≡ p → n ≡ length p → End p n (walk_on q from f copied next)
  keeps_on q p n from f copied (Some s) at e = record { at = ap (λ r. r ++ s ∷ []) at; open_calls = ap suc e ∙ sym (one_more (length p) (length-append p (s ∷ []))) }
    where
      one_more : (a : ℕ) {b : ℕ} → b ≡ a + 1 → b ≡ suc a
      one_more a e = omega (arith, e)
  keeps_on q p n from f copied None at e = subst (λ r. End p n (leave r from f copied (last_step r))) (sym at) (leaves p n from f copied e)

  same_fields : (q : Path) (from : Option Step) (f : F) (copied : List (Path × F)) (next : Option Step) → (walk_on q from f copied next).fields ≡ f
  same_fields q from f copied (Some s) = refl
  same_fields q from f copied None = by (last_step q)
    where
      by : (o : Option Step) → (leave q from f copied o).fields ≡ f
      by None = refl
      by (Some s) = refl

  -- a walk on a tree that stays
  module _ (tree : Tree F) (ordered : IsStrictlySortedBy path_cmp tree.paths) where
    -- the walker is at the path, and these of its children are left
    record Walks (x : Alone (Walker F) F (List (Path × F))) (p : Path) (ss : List Step) : Type 0 where
      at : x.at ≡ p
      stands : x.actor.at ≡ p
      same : x.tree ≡ tree
      going : x.result ≡ None
      left : steps_left (children_of tree p) x.actor.from ≡ ss

    abbrev goes_by : Alone (Walker F) F (List (Path × F)) → Left (Walker F) F (List (Path × F)) → Alone (Walker F) F (List (Path × F))
    goes_by x l = goes_on (walkers initial) x l.actor l.fields l.pause

    abbrev copied_at : Alone (Walker F) F (List (Path × F)) → List (Path × F)
    copied_at x = copied_now x.actor (x.tree.fields x.at)

    next_by : (x : Alone (Walker F) F (List (Path × F))) (p : Path) (ss : List Step) → Walks x p ss → next_alone (walkers initial) x ≡ goes_by x (walk_on p x.actor.from (x.tree.fields x.at) (copied_at x) (first_of ss))
    next_by x p ss w = ap (segment_if (walkers initial) x) w.going
        ∙ ap (λ q. goes_by x (walk_on q x.actor.from (x.tree.fields x.at) (copied_at x) (first_of (steps_left (children_of x.tree x.at) x.actor.from)))) w.stands
        ∙ ap (λ us. goes_by x (walk_on p x.actor.from (x.tree.fields x.at) (copied_at x) (first_of us))) (ap₂ (λ t q. steps_left (children_of t q) x.actor.from) w.same w.at ∙ w.left)

    put_back : (x : Alone (Walker F) F (List (Path × F))) → x.tree ≡ tree → tree_with x (x.tree.fields x.at) ≡ tree
    put_back x e = put_same x.tree x.at ∙ e

    -- down to a child
    down : (x : Alone (Walker F) F (List (Path × F))) (p : Path) (s : Step) (ss : List Step) → Walks x p (s ∷ ss) → there tree (p ++ s ∷ []) ≡ true → Walks (next_alone (walkers initial) x) (p ++ s ∷ []) (children_of tree (p ++ s ∷ []))
    down x p s ss w e = subst (λ y. Walks y (p ++ s ∷ []) (children_of tree (p ++ s ∷ []))) (sym (next_by x p (s ∷ ss) w)) (by (has x.held (x.at ++ s ∷ [])))
      where
        by : (was : Bool) → Walks (into x (record { at = p ++ s ∷ []; from = None; copied = copied_at x }) (x.tree.fields x.at) (x.at ++ s ∷ []) false x.held was) (p ++ s ∷ []) (children_of tree (p ++ s ∷ []))
        by true = record { at = ap (λ q. q ++ s ∷ []) w.at; stands = refl; same = put_back x w.same; going = refl; left = refl }
        by false = record { at = ap (λ q. q ++ s ∷ []) w.at; stands = refl; same = ap (λ t. enter t (x.at ++ s ∷ [])) (put_back x w.same) ∙ ap (λ q. enter tree (q ++ s ∷ [])) w.at ∙ enter_there tree (p ++ s ∷ []) ordered e; going = refl; left = refl }

    -- what came before one of its children and what comes behind it
    abbrev IsKid : Path → Step → List Step → Type 0
    IsKid p s ss = (front : List Step) × (children_of tree p ≡ front ++ s ∷ ss)

    left_behind : (p : Path) (s : Step) (ss : List Step) → IsKid p s ss → steps_left (children_of tree p) (Some s) ≡ ss
    left_behind p s ss k = subst (λ us. IsStrictlySortedBy step_cmp us → steps_left us (Some s) ≡ ss) (sym k.1) (left_after k.0 s ss) (kids_sorted p tree.paths ordered)

    -- and back from it
    up : (x : Alone (Walker F) F (List (Path × F))) (p : Path) (s : Step) (ss : List Step) → Walks x (p ++ s ∷ []) [] → IsKid p s ss → Walks (next_alone (walkers initial) x) p ss
    up x p s ss w k = subst (λ y. Walks y p ss) (sym (next_by x (p ++ s ∷ []) [] w))
        (subst (λ o. Walks (goes_by x (leave (p ++ s ∷ []) x.actor.from (x.tree.fields x.at) (copied_at x) o)) p ss) (sym (last_child p s))
        (record { at = ap parent_of w.at ∙ parent_child p s; stands = parent_child p s; same = put_back x w.same; going = refl; left = left_behind p s ss k }))

    -- what a visit of a child does
    abbrev Visits : (Path → ℕ) → Path → Step → Type 0
    Visits v p s = (x : Alone (Walker F) F (List (Path × F))) (ss : List Step) → Walks x (p ++ s ∷ []) (children_of tree (p ++ s ∷ [])) → IsKid p s ss → Walks (after_segments (walkers initial) (v (p ++ s ∷ [])) x) p ss

    -- some of the children came first
    abbrev AreLast : Path → List Step → Type 0
    AreLast p ss = (front : List Step) × (children_of tree p ≡ front ++ ss)

    one_on : (p : Path) (s : Step) (ss : List Step) → AreLast p (s ∷ ss) → AreLast p ss
    one_on p s ss k = (k.0 ++ s ∷ [], k.1 ∙ sym (append_assoc k.0 (s ∷ []) ss))

    -- a child and all that comes behind it
    first_and_rest : (v : Path → ℕ) (p : Path) (s : Step) (ss : List Step) (x : Alone (Walker F) F (List (Path × F))) → there tree (p ++ s ∷ []) ≡ true → Visits v p s → Walks x p (s ∷ ss) → IsKid p s ss →
        (P : Alone (Walker F) F (List (Path × F)) → Type 0) → ((y : Alone (Walker F) F (List (Path × F))) → Walks y p ss → P (after_segments (walkers initial) (with_children v p ss) y)) →
        P (after_segments (walkers initial) (with_children v p (s ∷ ss)) x)
    first_and_rest v p s ss x e f w k P go =
        subst P (sym (after_first (walkers initial) (v (p ++ s ∷ []) + with_children v p ss) x ∙ after_both (walkers initial) (v (p ++ s ∷ [])) (with_children v p ss) (next_alone (walkers initial) x)))
        (go (after_segments (walkers initial) (v (p ++ s ∷ [])) (next_alone (walkers initial) x)) (f (next_alone (walkers initial) x) ss (down x p s ss w e) k))

    -- the rest of a visit to a child
    rest_of : (v : Path → ℕ) (p : Path) (s : Step) (ss cs : List Step) (x : Alone (Walker F) F (List (Path × F))) → AllByRecursion (λ u. there tree ((p ++ s ∷ []) ++ u ∷ []) ≡ true) cs → ((u : Step) → there tree ((p ++ s ∷ []) ++ u ∷ []) ≡ true → Visits v (p ++ s ∷ []) u) →
        Walks x (p ++ s ∷ []) cs → AreLast (p ++ s ∷ []) cs → IsKid p s ss → Walks (after_segments (walkers initial) (with_children v (p ++ s ∷ []) cs) x) p ss
    rest_of v p s ss [] x h f w l k = subst (λ y. Walks y p ss) (sym (after_first (walkers initial) 0 x ∙ after_none (walkers initial) (next_alone (walkers initial) x))) (up x p s ss w k)
    rest_of v p s ss (c ∷ cs) x h f w l k = first_and_rest v (p ++ s ∷ []) c cs x h.0 (f c h.0) w l (λ y. Walks y p ss) (λ y u. rest_of v p s ss cs y h.1 f u (one_on (p ++ s ∷ []) c cs l) k)

    kids : (p : Path) → AllByRecursion (λ s. there tree (p ++ s ∷ []) ≡ true) (children_of tree p)
    kids p = kids_in p tree.paths tree.paths (λ q e. e)

    none_deep : (p : Path) (cs : List Step) → depth_of tree.paths ≤ length p → AllByRecursion (λ s. there tree (p ++ s ∷ []) ≡ true) cs → cs ≡ []
    none_deep p [] deep k = refl
    none_deep p (s ∷ cs) deep k = absurd (too_deep (length p) _ _ deep (length-append p (s ∷ [])) (no_deeper (p ++ s ∷ []) tree.paths k.0))
      where
        too_deep : (a c d : ℕ) → d ≤ a → c ≡ a + 1 → c ≤ d → ⊥
        too_deep a c d l e m = omega (arith, l, e, m)

    deeper : (d : ℕ) (p : Path) (s : Step) → depth_of tree.paths ≤ length p + suc d → depth_of tree.paths ≤ length (p ++ s ∷ []) + d
    deeper d p s l = below (length p) _ _ l (length-append p (s ∷ []))
      where
        below : (a c m : ℕ) → m ≤ a + suc d → c ≡ a + 1 → m ≤ c + d
        below a c m l e = omega (arith, l, e)

    no_more : (a b : ℕ) → b ≤ a + 0 → b ≤ a
    no_more a b l = omega (arith, l)

    -- a visit ends, as no path is longer than so much
    visits : (d : ℕ) (p : Path) (s : Step) → depth_of tree.paths ≤ length (p ++ s ∷ []) + d → Visits (visit tree d) p s
    unfolding visit
    visits zero p s deep x ss w k = rest_of (λ q. 1) p s ss [] x tt (λ u e y us v l. absurd (true≢false (sym (no_kid u e)))) (subst (λ cs. Walks x (p ++ s ∷ []) cs) none w) ([], none) k
      where
        none : children_of tree (p ++ s ∷ []) ≡ []
        none = none_deep (p ++ s ∷ []) (children_of tree (p ++ s ∷ [])) (no_more _ _ deep) (kids (p ++ s ∷ []))

        no_kid : (u : Step) → there tree ((p ++ s ∷ []) ++ u ∷ []) ≡ true → false ≡ true
        no_kid u e = absurd (cons_none (none_deep (p ++ s ∷ []) (u ∷ []) (no_more _ _ deep) (e, tt)))
          where
            cons_none : u ∷ [] ≡ [] → ⊥
            cons_none e = grind arith
    visits (suc d) p s deep x ss w k = rest_of (visit tree d) p s ss (children_of tree (p ++ s ∷ [])) x (kids (p ++ s ∷ [])) (λ u e. visits d (p ++ s ∷ []) u (deeper d (p ++ s ∷ []) u deep)) w ([], refl) k

    -- at the root the walk is over at its end
    abbrev Ends : Alone (Walker F) F (List (Path × F)) → Type 0
    Ends y = (r : List (Path × F)) × (y.result ≡ Some r)

    root_rest : (v : Path → ℕ) (cs : List Step) (x : Alone (Walker F) F (List (Path × F))) → AllByRecursion (λ s. there tree (s ∷ []) ≡ true) cs → ((s : Step) → there tree (s ∷ []) ≡ true → Visits v [] s) → Walks x [] cs → AreLast [] cs →
        Ends (after_segments (walkers initial) (with_children v [] cs) x)
    root_rest v [] x h f w l = (copied_at x, ap (λ (y : Alone (Walker F) F (List (Path × F))). y.result) (after_first (walkers initial) 0 x ∙ after_none (walkers initial) (next_alone (walkers initial) x) ∙ next_by x [] [] w))
    root_rest v (s ∷ ss) x h f w l = first_and_rest v [] s ss x h.0 (f s h.0) w l Ends (λ y u. root_rest v ss y h.1 f u (one_on [] s ss l))

    walk_ends : (x : Alone (Walker F) F (List (Path × F))) → Walks x [] (children_of tree []) → (d : ℕ) → depth_of tree.paths ≤ d → Ends (after_segments (walkers initial) (visit tree d []) x)
    unfolding visit
    walk_ends x w zero deep = root_rest (λ p. 1) [] x tt (λ s e y us v l. absurd (no_kid s e)) (subst (λ cs. Walks x [] cs) none w) ([], none)
      where
        none : children_of tree [] ≡ []
        none = none_deep [] (children_of tree []) deep (kids [])

        no_kid : (s : Step) → there tree (s ∷ []) ≡ true → ⊥
        no_kid s e = cons_none (none_deep [] (s ∷ []) deep (e, tt))
          where
            cons_none : s ∷ [] ≡ [] → ⊥
            cons_none e = grind arith
    walk_ends x w (suc d) deep = root_rest (visit tree d) (children_of tree []) x (kids []) (λ s e. visits d [] s (below _ deep)) w ([], refl)
      where
        below : (m : ℕ) → m ≤ suc d → m ≤ 1 + d
        below m l = omega (arith, l)

  pub walkers_owe : Owes kind
  walkers_owe = record {
    initial = initial_fits;
    first = λ j t l. record { at = refl; open_calls = refl };
    kept = λ a p n f cs h k. subst (fits p) (sym (same_fields a.at a.from f (copied_now a f) (first_of (steps_left cs a.from)))) k;
    keeps = λ a p n f cs h k. keeps_on a.at p n a.from f (copied_now a f) (first_of (steps_left cs a.from)) h.at h.open_calls;
    looks = λ a p n f cs h k e. absurd (true≢false (sym e));
    ends = λ j t tree l k o. walk_ends (enter tree []) (enter_sorted tree [] o) (first_alone (walkers initial) j t tree) (record { at = refl; stands = refl; same = refl; going = refl; left = refl }) (depth_of (enter tree []).paths) (upto _);
  }
    where
      upto : (a : ℕ) → a ≤ a
      upto a = omega arith
