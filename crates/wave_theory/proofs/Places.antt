-- What new contexts and moves leave of the contexts that were there.
use Rattle.std.proofs.Common.{◌≡◌, ℕ, zero, suc, ◌+◌, ◌≤◌, ◌⊎◌, ◌||◌, ◌&&◌, not, nat_eq, inl, inr, Bool, true, false, Option, Some, None, List, [], ◌∷◌, ◌++◌, length, refl, sym, ◌∙◌, ap, ap₂, subst, arith}
use Rattle.std.specs.Prelude.{if◌then◌else◌}
use Rattle.std.specs.List.{list_any}
use Rattle.std.proofs.lemmas.List.{append-nil, append_assoc}
use Rattle.wave_base.specs.declared.path.Step.{Step}
use Rattle.wave_base.specs.declared.path.Path.{Path}
use Rattle.wave_base.specs.Paths.{path_eq, parent_of}
use Rattle.wave_base.specs.Tree.{Tree, there, enter, put}
use Rattle.wave_base.specs.Places.{with_context, with_contexts, after_job, places_after}
use Rattle.wave_base.proofs.Trees.{there-enter}
use Rattle.wave_states.specs.Actors.{Actors, Pause, Go, Down, Over}
use Rattle.wave_states.specs.Begins.{Begin}
use Rattle.wave_states.specs.Alone.{Alone, has, into, goes_on, next_alone, segment_if, segment_alone, after_segments, moves_in}
use Rattle.wave_states.specs.Work.{moves_away}
use Rattle.wave_theory.proofs.Basics.{clash, path_cases, path_is, path_self}
use Rattle.wave_theory.proofs.Paths.{or_right}
use Rattle.wave_theory.proofs.Ways.{next_is}

-- a tree of hosts that takes up contexts
with_there : (t : Tree ℕ) (p q : Path) → there (with_context t p) q ≡ (there t q || path_eq q p)
with_there t p q = by (there t p) refl
  where
    or_swap : (a c : Bool) → (a || c) ≡ (c || a)
    or_swap a c = grind arith

    or_in : (a c : Bool) → (c ≡ true → a ≡ true) → a ≡ (a || c)
    or_in a c f = grind arith

    by : (i : Bool) → there t p ≡ i → there (if i then t else put (enter t p) p (t.fields (parent_of p))) q ≡ (there t q || path_eq q p)
    by true e = or_in (there t q) (path_eq q p) (λ z. subst (λ r. there t r ≡ true) (sym (path_is q p z)) e)
    by false e = there-enter t p q ∙ or_swap (path_eq q p) (there t q)

with_same : (t : Tree ℕ) (p q : Path) → ((there t q ≡ true) ⊎ (path_eq q p ≡ false)) → (with_context t p).fields q ≡ t.fields q
with_same t p q h = by (there t p) refl
  where
    by : (i : Bool) → there t p ≡ i → (if i then t else put (enter t p) p (t.fields (parent_of p))).fields q ≡ t.fields q
    by true e = refl
    by false e = (elim (path_cases p q) [
      | inr d ↦ rw d refl
      | inl d ↦ absurd (elim h [ inl z ↦ clash _ (subst (λ r. there t r ≡ true) (sym d) z) e | inr z ↦ clash _ (subst (λ r. path_eq r p ≡ true) d (path_self p)) z ])
    ])

with_new : (t : Tree ℕ) (p : Path) → there t p ≡ false → (with_context t p).fields p ≡ t.fields (parent_of p)
with_new t p e = ap (λ i. (if i then t else put (enter t p) p (t.fields (parent_of p))).fields p) e ∙ rw (path_self p) refl

pub all_there : (ps : List Path) (t : Tree ℕ) (q : Path) → there (with_contexts t ps) q ≡ (there t q || list_any (path_eq q) ps)
all_there [] t q = or_none (there t q)
  where
    or_none : (a : Bool) → a ≡ (a || false)
    or_none a = grind arith
all_there (p ∷ ps) t q = all_there ps (with_context t p) q ∙ ap (λ i. i || list_any (path_eq q) ps) (with_there t p q) ∙ or_or (there t q) (path_eq q p) (list_any (path_eq q) ps)
  where
    or_or : (a c d : Bool) → ((a || c) || d) ≡ (a || (c || d))
    or_or a c d = grind arith

pub old_same : (ps : List Path) (t : Tree ℕ) (q : Path) → there t q ≡ true → (with_contexts t ps).fields q ≡ t.fields q
old_same [] t q e = refl
old_same (p ∷ ps) t q e = old_same ps (with_context t p) q (with_there t p q ∙ ap (λ i. i || path_eq q p) e) ∙ with_same t p q (inl e)

pub off_same : (ps : List Path) (t : Tree ℕ) (q : Path) → list_any (path_eq q) ps ≡ false → (with_contexts t ps).fields q ≡ t.fields q
off_same [] t q e = refl
off_same (p ∷ ps) t q e = off_same ps (with_context t p) q (second_off (path_eq q p) _ e) ∙ with_same t p q (inr (first_off (path_eq q p) _ e))
  where
    first_off : (a c : Bool) → (a || c) ≡ false → a ≡ false
    first_off a c e = grind arith

    second_off : (a c : Bool) → (a || c) ≡ false → c ≡ false
    second_off a c e = grind arith

contexts_append : (ps qs : List Path) (t : Tree ℕ) → with_contexts t (ps ++ qs) ≡ with_contexts (with_contexts t ps) qs
contexts_append [] qs t = refl
contexts_append (p ∷ ps) qs t = contexts_append ps qs (with_context t p)

-- a new context is where its parent is, which is there before it
pub new_beside : (ps qs : List Path) (t : Tree ℕ) (q : Path) → there t q ≡ false → list_any (path_eq q) ps ≡ false → list_any (path_eq (parent_of q)) ps ≡ true →
    (with_contexts t (ps ++ q ∷ qs)).fields q ≡ (with_contexts t (ps ++ q ∷ qs)).fields (parent_of q)
new_beside ps qs t q none off on =
    let u : Tree ℕ = with_contexts t ps in
    let there_q : there u q ≡ false = all_there ps t q ∙ ap₂ (λ i j. i || j) none off in
    let there_p : there u (parent_of q) ≡ true = all_there ps t (parent_of q) ∙ or_right (there t (parent_of q)) _ on in
    let e : with_contexts t (ps ++ q ∷ qs) ≡ with_contexts (with_context u q) qs = contexts_append ps (q ∷ qs) t in
    ap (λ (v : Tree ℕ). v.fields q) e ∙ old_same qs (with_context u q) q (with_there u q q ∙ or_right (there u q) (path_eq q q) (path_self q)) ∙ with_new u q there_q
    ∙ sym (with_same u q (parent_of q) (inl there_p)) ∙ sym (old_same qs (with_context u q) (parent_of q) (with_there u q (parent_of q) ∙ ap (λ i. i || path_eq (parent_of q) q) there_p)) ∙ ap (λ (v : Tree ℕ). v.fields (parent_of q)) (sym e)

pub after_append : (xs : List (List Path × Option (Path × ℕ))) (x : List Path × Option (Path × ℕ)) (t : Tree ℕ) → places_after t (xs ++ x ∷ []) ≡ after_job (places_after t xs) x.0 x.1
after_append [] x t = refl
after_append (y ∷ xs) x t = after_append xs x (after_job t y.0 y.1)

-- whether a move, or none, sends the context elsewhere
abbrev pub shift_by : Tree ℕ → Option (Path × ℕ) → Path → ℕ
shift_by t None p = 0
shift_by t (Some x) p = if path_eq x.0 p && not (nat_eq (t.fields x.0) x.1) then 1 else 0

pub shift_few : (t : Tree ℕ) (m : Option (Path × ℕ)) (p : Path) → shift_by t m p ≤ moves_away t m
shift_few t None p = omega arith
shift_few t (Some x) p = by (path_eq x.0 p) (nat_eq (t.fields x.0) x.1)
  where
    by : (i j : Bool) → (if i && not j then 1 else 0) ≤ (if j then 0 else 1)
    by true true = omega arith
    by true false = omega arith
    by false true = omega arith
    by false false = omega arith

module _ {A F R J : Type 0} (sys : Actors A F R J) where
  pub moves_append : (es : List (List Path)) (rs : List R) (e : List Path) (r : R) → length es ≡ length rs → (b : Begin F) (batches : List (List J)) → moves_in sys b batches (es ++ e ∷ []) (rs ++ r ∷ []) ≡ moves_in sys b batches es rs ++ (e, sys.moved r) ∷ []
  moves_append [] [] e r l b batches = refl
  moves_append [] (s ∷ rs) e r l b batches = absurd (omega (arith, l))
  moves_append (f ∷ es) [] e r l b batches = absurd (omega (arith, l))
  moves_append (f ∷ es) (s ∷ rs) e r l b batches = ap (λ xs. (f, sys.moved s) ∷ xs) (moves_append es rs e r (omega (arith, l)) b batches)

  -- what a segment enters comes last
  entered_step : (y : Alone A F R) → (zs : List Path) × ((next_alone sys y).entered ≡ y.entered ++ zs)
  entered_step y = by y.result
    where
      into_it : (st : Step) (peek : Bool) (kept : List Path) (i : Bool) → (zs : List Path) × ((into y (segment_alone sys y).actor (segment_alone sys y).fields (y.at ++ st ∷ []) peek kept i).entered ≡ y.entered ++ zs)
      into_it st peek kept true = ([], sym (append-nil y.entered))
      into_it st peek kept false = ((y.at ++ st ∷ []) ∷ [], refl)

      by_pause : (u : Pause R) → (zs : List Path) × ((goes_on sys y (segment_alone sys y).actor (segment_alone sys y).fields u).entered ≡ y.entered ++ zs)
      by_pause (Go st) = into_it st (sys.peeks (segment_alone sys y).actor) _ (has y.held (y.at ++ st ∷ []))
      by_pause (Down st) = into_it st false y.held (has y.held (y.at ++ st ∷ []))
      by_pause Pause.Back = ([], sym (append-nil y.entered))
      by_pause (Over r) = ([], sym (append-nil y.entered))

      by : (o : Option R) → (zs : List Path) × ((segment_if sys y o).entered ≡ y.entered ++ zs)
      by None = by_pause (segment_alone sys y).pause
      by (Some r) = ([], sym (append-nil y.entered))

  pub fresh_step : (y : Alone A F R) → y.result ≡ None → (next_alone sys y).fresh ≡ true → (next_alone sys y).entered ≡ y.entered ++ (next_alone sys y).at ∷ []
  fresh_step y e f = subst (λ o. (segment_if sys y o).fresh ≡ true → (segment_if sys y o).entered ≡ y.entered ++ (segment_if sys y o).at ∷ []) (sym e) (by_pause (segment_alone sys y).pause) f
    where
      into_it : (st : Step) (peek : Bool) (kept : List Path) (i : Bool) → (into y (segment_alone sys y).actor (segment_alone sys y).fields (y.at ++ st ∷ []) peek kept i).fresh ≡ true →
          (into y (segment_alone sys y).actor (segment_alone sys y).fields (y.at ++ st ∷ []) peek kept i).entered ≡ y.entered ++ (into y (segment_alone sys y).actor (segment_alone sys y).fields (y.at ++ st ∷ []) peek kept i).at ∷ []
      into_it st peek kept true z = absurd (clash false z refl)
      into_it st peek kept false z = refl

      by_pause : (u : Pause R) → (goes_on sys y (segment_alone sys y).actor (segment_alone sys y).fields u).fresh ≡ true → (goes_on sys y (segment_alone sys y).actor (segment_alone sys y).fields u).entered ≡ y.entered ++ (goes_on sys y (segment_alone sys y).actor (segment_alone sys y).fields u).at ∷ []
      by_pause (Go st) z = into_it st (sys.peeks (segment_alone sys y).actor) _ (has y.held (y.at ++ st ∷ [])) z
      by_pause (Down st) z = into_it st false y.held (has y.held (y.at ++ st ∷ [])) z
      by_pause Pause.Back z = absurd (clash false z refl)
      by_pause (Over r) z = absurd (clash false z refl)

  pub entered_later : (d k : ℕ) (x : Alone A F R) → (zs : List Path) × ((after_segments sys (d + k) x).entered ≡ (after_segments sys k x).entered ++ zs)
  entered_later zero k x = ([], ap (λ i. (after_segments sys i x).entered) (let z : 0 + k ≡ k = omega arith in z) ∙ sym (append-nil _))
  entered_later (suc d) k x = (let r = entered_later d k x in let n = entered_step (after_segments sys (d + k) x) in
      (r.0 ++ n.0, ap (λ i. (after_segments sys i x).entered) (let z : suc d + k ≡ suc (d + k) = omega arith in z) ∙ ap (λ (y : Alone A F R). y.entered) (next_is sys (d + k) x) ∙ n.1 ∙ ap (λ ps. ps ++ n.0) r.1 ∙ append_assoc (after_segments sys k x).entered r.0 n.0))
