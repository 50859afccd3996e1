-- A mover alone enters the contexts of its way that are there, and leaves the tree as it is.
use Rattle.std.proofs.Common.{◌≡◌, ℕ, zero, suc, ◌||◌, if◌then◌else◌, inl, inr, true, false, List, [], ◌∷◌, ◌++◌, length, map, filter, Some, None, append_assoc, append-nil, refl, sym, ◌∙◌, ap, ap₂, subst}
use Rattle.std.specs.Prelude.{is_some}
use Rattle.std.specs.List.{list_any, AllByRecursion}
use Rattle.std.specs.List.Sorted.{IsStrictlySortedBy}
use Rattle.wave_base.specs.declared.path.Step.{Step}
use Rattle.wave_base.specs.declared.path.Path.{Path}
use Rattle.wave_base.specs.Paths.{step_eq, path_cmp, is_above, parent_of}
use Rattle.wave_base.specs.Tree.{Tree, there, enter, children_of}
use Rattle.wave_base.proofs.Trees.{put_same, enter_there}
use Rattle.resolved_service.specs.Jobs.{fronts}
use Rattle.wave_states.specs.Actors.{Left, Go, Over}
use Rattle.wave_states.specs.Alone.{Alone, has, into, tree_with, goes_on, segment_if, next_alone, first_alone, after_segments, ended_alone, count_from}
use Rattle.wave_states.specs.Movers.{Move, Mover, MoveEnd, Moved, Absent, advance_on, movers}
use Rattle.wave_states.proofs.Children.{kids_in}
use Rattle.wave_states.proofs.Segments.{after_first, after_none}
use Rattle.wave_theory.proofs.Basics.{bool_cases, clash}
use Rattle.wave_theory.proofs.Paths.{child_not_above, child_differs, step_is}
use Rattle.plan_actors.proofs.Images.{count_last}
use Rattle.plan_actors.proofs.Order.{has_child, front_there}

-- the contexts on the way down from a context
abbrev pub way : Path → List Step → List Path
way p [] = []
way p (s ∷ ss) = (p ++ s ∷ []) ∷ way (p ++ s ∷ []) ss

fronts_from : (p : Path) (ss : List Step) → map (λ q. p ++ q) (fronts ss) ≡ p ∷ way p ss
fronts_from p [] = ap (λ q. q ∷ []) (append-nil p)
fronts_from p (s ∷ ss) = ap₂ (λ q qs. q ∷ qs) (append-nil p) (joined (fronts ss) ∙ fronts_from (p ++ s ∷ []) ss)
  where
    joined : (qs : List Path) → map (λ q. p ++ q) (map (λ q. s ∷ q) qs) ≡ map (λ q. (p ++ s ∷ []) ++ q) qs
    joined [] = refl
    joined (q ∷ qs) = ap₂ (λ a b. a ∷ b) (sym (append_assoc p (s ∷ []) q)) (joined qs)

-- a path and all above it are the root and the way to the path
pub fronts_way : (p : Path) → fronts p ≡ [] ∷ way [] p
fronts_way p = sym (map_same (fronts p)) ∙ fronts_from [] p
  where
    map_same : (qs : List Path) → map (λ q. [] ++ q) qs ≡ qs
    map_same [] = refl
    map_same (q ∷ qs) = ap (λ r. q ∷ r) (map_same qs)

module _ {F : Type 0} (initial : Path → F) (tree : Tree F) (ordered : IsStrictlySortedBy path_cmp tree.paths) (parents : (p : Path) → there tree p ≡ true → there tree (parent_of p) ≡ true) where
  abbrev One : Type 0
  One = Alone Mover F MoveEnd

  abbrev pub end_at : Move → MoveEnd
  end_at m = if there tree m.path then Moved m.path m.to else Absent m.path

  -- these steps are left
  pub record Goes (x : One) (ss : List Step) : Type 0 where
    pub rest : x.actor.rest ≡ ss
    pub path : x.actor.move.path ≡ x.at ++ ss
    pub here : there tree x.at ≡ true
    pub same : x.tree ≡ tree
    pub going : x.result ≡ None
    pub held : x.held ≡ x.at ∷ []

  -- what it has become, after so many segments
  pub record Gone (x y : One) (ss : List Step) (count : ℕ) : Type 0 where
    pub same : y.tree ≡ tree
    pub result : y.result ≡ Some (end_at x.actor.move)
    pub entered : y.entered ≡ x.entered ++ filter (there tree) (way x.at ss)
    pub counts : count ≡ suc (length (filter (there tree) (way x.at ss)))

  -- a child is there where the record has it
  child_test : (p : Path) (s : Step) → list_any (step_eq s) (children_of tree p) ≡ there tree (p ++ s ∷ [])
  child_test p s = elim (bool_cases (there tree (p ++ s ∷ []))) [
    | inl z ↦ has_child p s tree.paths z ∙ sym z
    | inr z ↦ none (children_of tree p) (kids_in p tree.paths tree.paths (λ q e. e)) z ∙ sym z
  ]
    where
      none : (ss : List Step) → AllByRecursion (λ t. there tree (p ++ t ∷ []) ≡ true) ss → there tree (p ++ s ∷ []) ≡ false → list_any (step_eq s) ss ≡ false
      none [] h z = refl
      none (t ∷ ss) h z = elim (bool_cases (step_eq s t)) [
        | inl e ↦ absurd (clash (there tree (p ++ t ∷ [])) h.0 (subst (λ u. there tree (p ++ u ∷ []) ≡ false) (step_is s t e) z))
        | inr e ↦ ap (λ b. b || list_any (step_eq s) ss) e ∙ none ss h.1 z
      ]

  -- what lies below a context that is not there is not there
  below_absent : (p r : Path) → there tree p ≡ false → there tree (p ++ r) ≡ false
  below_absent p r e = elim (bool_cases (there tree (p ++ r))) [
    | inl z ↦ absurd (clash (there tree p) (front_there tree ordered parents (length r) p r refl z) e)
    | inr z ↦ z
  ]

  way_absent : (p : Path) (ss : List Step) → there tree p ≡ false → filter (there tree) (way p ss) ≡ []
  way_absent p [] e = refl
  way_absent p (s ∷ ss) e = ap (λ b. if b then (p ++ s ∷ []) ∷ filter (there tree) (way (p ++ s ∷ []) ss) else filter (there tree) (way (p ++ s ∷ []) ss)) (below_absent p (s ∷ []) e)
      ∙ way_absent (p ++ s ∷ []) ss (below_absent p (s ∷ []) e)

  abbrev goes_by : One → Left Mover F MoveEnd → One
  goes_by x l = goes_on (movers initial) x l.actor l.fields l.pause

  next_by : (x : One) (ss : List Step) → Goes x ss → next_alone (movers initial) x ≡ goes_by x (advance_on x.actor.move (x.tree.fields x.at) (children_of tree x.at) ss)
  next_by x ss g = ap (segment_if (movers initial) x) g.going
      ∙ ap (λ us. goes_by x (advance_on x.actor.move (x.tree.fields x.at) (children_of x.tree x.at) us)) g.rest
      ∙ ap (λ (t : Tree F). goes_by x (advance_on x.actor.move (x.tree.fields x.at) (children_of t x.at) ss)) g.same

  abbrev entered_there : One → Step → List Step → One
  entered_there x s ss = record { actor = record { move = x.actor.move; rest = ss }; at = x.at ++ s ∷ []; fresh = true; peek = false; held = (x.at ++ s ∷ []) ∷ []; entered = x.entered ++ (x.at ++ s ∷ []) ∷ []; tree = enter (tree_with x (x.tree.fields x.at)) (x.at ++ s ∷ []); result = None }

  -- on to a child that is there
  next_there : (x : One) (s : Step) (ss : List Step) → Goes x (s ∷ ss) → there tree (x.at ++ s ∷ []) ≡ true → next_alone (movers initial) x ≡ entered_there x s ss
  next_there x s ss g e =
      next_by x (s ∷ ss) g
      ∙ ap (λ b. goes_by x (if b then record { actor = record { move = x.actor.move; rest = ss }; fields = x.tree.fields x.at; pause = Go s } else record { actor = record { move = x.actor.move; rest = s ∷ ss }; fields = x.tree.fields x.at; pause = Over (Absent x.actor.move.path) })) (child_test x.at s ∙ e)
      ∙ ap (λ hs. into x (record { move = x.actor.move; rest = ss }) (x.tree.fields x.at) (x.at ++ s ∷ []) false (filter (is_above (x.at ++ s ∷ [])) hs) (has hs (x.at ++ s ∷ []))) g.held
      ∙ ap₂ (λ a b. into x (record { move = x.actor.move; rest = ss }) (x.tree.fields x.at) (x.at ++ s ∷ []) false (if a then x.at ∷ [] else []) (b || false)) not_above (child_differs x.at s)
    where
      not_above : is_above (x.at ++ s ∷ []) x.at ≡ false
      not_above = elim (bool_cases (is_above (x.at ++ s ∷ []) x.at)) [ inl z ↦ absurd (child_not_above x.at s z) | inr z ↦ z ]

  next_absent : (x : One) (s : Step) (ss : List Step) → Goes x (s ∷ ss) → there tree (x.at ++ s ∷ []) ≡ false → next_alone (movers initial) x ≡ goes_by x (record { actor = record { move = x.actor.move; rest = s ∷ ss }; fields = x.tree.fields x.at; pause = Over (Absent x.actor.move.path) })
  next_absent x s ss g e =
      next_by x (s ∷ ss) g
      ∙ ap (λ b. goes_by x (if b then record { actor = record { move = x.actor.move; rest = ss }; fields = x.tree.fields x.at; pause = Go s } else record { actor = record { move = x.actor.move; rest = s ∷ ss }; fields = x.tree.fields x.at; pause = Over (Absent x.actor.move.path) })) (child_test x.at s ∙ e)

  -- once it is over it stays so
  rest_over : (n : ℕ) (x y : One) (r : MoveEnd) → next_alone (movers initial) x ≡ y → y.result ≡ Some r → after_segments (movers initial) (suc n) x ≡ y
  rest_over n x y r e o = after_first (movers initial) n x ∙ ap (after_segments (movers initial) n) e ∙ stays n
    where
      stays : (n : ℕ) → after_segments (movers initial) n y ≡ y
      stays zero = after_none (movers initial) y
      stays (suc n) = after_first (movers initial) n y ∙ ap (after_segments (movers initial) n) (ap (segment_if (movers initial) y) o) ∙ stays n

  count_over : (n : ℕ) (x y : One) (r : MoveEnd) → x.result ≡ None → next_alone (movers initial) x ≡ y → y.result ≡ Some r → count_from (movers initial) (suc n) x ≡ 1
  count_over n x y r g e o = ap (λ v. if is_some v then 0 else suc (count_from (movers initial) n (next_alone (movers initial) x))) g ∙ ap suc (ap (count_from (movers initial) n) e ∙ none n)
    where
      none : (n : ℕ) → count_from (movers initial) n y ≡ 0
      none zero = refl
      none (suc n) = ap (λ v. if is_some v then 0 else suc (count_from (movers initial) n (next_alone (movers initial) y))) o

  pub goes : (ss : List Step) (x : One) → Goes x ss → Gone x (after_segments (movers initial) (suc (length ss)) x) ss (count_from (movers initial) (suc (length ss)) x)
  goes [] x g = subst (λ y. Gone x y [] (count_from (movers initial) 1 x)) (sym (after_first (movers initial) 0 x ∙ after_none (movers initial) (next_alone (movers initial) x) ∙ next_by x [] g)) (record {
    same = put_same x.tree x.at ∙ g.same;
    result = ap (λ b. Some (if b then Moved x.actor.move.path x.actor.move.to else Absent x.actor.move.path)) (sym there_now);
    entered = sym (append-nil x.entered);
    counts = count_last (movers initial) x g.going;
  })
    where
      there_now : there tree x.actor.move.path ≡ true
      there_now = ap (there tree) (g.path ∙ append-nil x.at) ∙ g.here
  goes (s ∷ ss) x g = elim (bool_cases (there tree (x.at ++ s ∷ []))) [
    | inl e ↦ (let y : One = entered_there x s ss in
        let h : Goes y ss = record {
          rest = refl;
          path = g.path ∙ sym (append_assoc x.at (s ∷ []) ss);
          here = e;
          same = ap (λ t. enter t (x.at ++ s ∷ [])) (put_same x.tree x.at ∙ g.same) ∙ enter_there tree (x.at ++ s ∷ []) ordered e;
          going = refl;
          held = refl;
        } in
        let k : Gone y (after_segments (movers initial) (suc (length ss)) y) ss (count_from (movers initial) (suc (length ss)) y) = goes ss y h in
        let after : after_segments (movers initial) (suc (suc (length ss))) x ≡ after_segments (movers initial) (suc (length ss)) y = after_first (movers initial) (suc (length ss)) x ∙ ap (after_segments (movers initial) (suc (length ss))) (next_there x s ss g e) in
        let counted : count_from (movers initial) (suc (suc (length ss))) x ≡ suc (count_from (movers initial) (suc (length ss)) y) =
        ap (λ v. if is_some v then 0 else suc (count_from (movers initial) (suc (length ss)) (next_alone (movers initial) x))) g.going ∙ ap (λ z. suc (count_from (movers initial) (suc (length ss)) z)) (next_there x s ss g e) in
        let more : filter (there tree) (way x.at (s ∷ ss)) ≡ (x.at ++ s ∷ []) ∷ filter (there tree) (way (x.at ++ s ∷ []) ss) = ap (λ b. if b then (x.at ++ s ∷ []) ∷ filter (there tree) (way (x.at ++ s ∷ []) ss) else filter (there tree) (way (x.at ++ s ∷ []) ss)) e in
        record {
          same = ap (λ (z : One). z.tree) after ∙ k.same;
          result = ap (λ (z : One). z.result) after ∙ k.result;
          entered = ap (λ (z : One). z.entered) after ∙ k.entered ∙ append_assoc x.entered ((x.at ++ s ∷ []) ∷ []) (filter (there tree) (way (x.at ++ s ∷ []) ss)) ∙ ap (λ ps. x.entered ++ ps) (sym more);
          counts = counted ∙ ap suc k.counts ∙ ap (λ (ps : List Path). suc (length ps)) (sym more);
        })
    | inr e ↦ (let y : One = goes_by x (record { actor = record { move = x.actor.move; rest = s ∷ ss }; fields = x.tree.fields x.at; pause = Over (Absent x.actor.move.path) }) in
        let after : after_segments (movers initial) (suc (suc (length ss))) x ≡ y = rest_over (suc (length ss)) x y (Absent x.actor.move.path) (next_absent x s ss g e) refl in
        let none : filter (there tree) (way x.at (s ∷ ss)) ≡ [] = ap (λ b. if b then (x.at ++ s ∷ []) ∷ filter (there tree) (way (x.at ++ s ∷ []) ss) else filter (there tree) (way (x.at ++ s ∷ []) ss)) e ∙ way_absent (x.at ++ s ∷ []) ss e in
        let away : there tree x.actor.move.path ≡ false = ap (there tree) (g.path ∙ sym (append_assoc x.at (s ∷ []) ss)) ∙ below_absent (x.at ++ s ∷ []) ss e in
        record {
          same = ap (λ (z : One). z.tree) after ∙ put_same x.tree x.at ∙ g.same;
          result = ap (λ (z : One). z.result) after ∙ ap (λ b. Some (if b then Moved x.actor.move.path x.actor.move.to else Absent x.actor.move.path)) (sym away);
          entered = ap (λ (z : One). z.entered) after ∙ sym (append-nil x.entered) ∙ ap (λ ps. x.entered ++ ps) (sym none);
          counts = count_over (suc (length ss)) x y (Absent x.actor.move.path) g.going (next_absent x s ss g e) refl ∙ ap (λ (ps : List Path). suc (length ps)) (sym none);
        })
  ]

  -- a whole run, from the root on
  module _ (root : there tree [] ≡ true) (m : Move) (ticket : ℕ) where
    pub moved_whole : Gone (first_alone (movers initial) m ticket tree) (ended_alone (movers initial) ticket tree m) m.path (count_from (movers initial) (suc (length m.path)) (first_alone (movers initial) m ticket tree))
    moved_whole = goes m.path (first_alone (movers initial) m ticket tree) (record { rest = refl; path = refl; here = root; same = enter_there tree [] ordered root; going = refl; held = refl })

    -- it entered what is there of its path
    pub entered_whole : (ended_alone (movers initial) ticket tree m).entered ≡ filter (there tree) (fronts m.path)
    entered_whole = moved_whole.entered ∙ sym (ap (filter (there tree)) (fronts_way m.path) ∙ ap (λ b. if b then [] ∷ filter (there tree) (way [] m.path) else filter (there tree) (way [] m.path)) root)

    pub counted_whole : count_from (movers initial) (suc (length m.path)) (first_alone (movers initial) m ticket tree) ≡ length (filter (there tree) (fronts m.path))
    counted_whole = moved_whole.counts ∙ ap length (sym (ap (filter (there tree)) (fronts_way m.path) ∙ ap (λ b. if b then [] ∷ filter (there tree) (way [] m.path) else filter (there tree) (way [] m.path)) root))
