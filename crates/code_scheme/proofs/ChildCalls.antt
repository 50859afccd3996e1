-- What calls into a child and returns do at their places.
use Rattle.std.proofs.Common.{◌≡◌, ℕ, suc, ℤ, List, [], ◌∷◌, ◌++◌, length, if◌then◌else◌, Bool, true, false, Option, Some, None, refl, ap, sym, subst, ◌∙◌, arith, length-append}
use Rattle.std.specs.Prelude.{slice_get, option_to_list, nat_lt, Ok, Err}
use Rattle.std.specs.BTreeSet.{insert_key}
use Rattle.std.specs.List.{filter}
use Rattle.wave_base.specs.declared.limits.TheConstants.{CONTEXTS}
use Rattle.wave_base.specs.declared.outcome.Outcome.TheVariants as out
use Rattle.wave_base.specs.declared.path.Path.{Path}
use Rattle.wave_base.specs.declared.span.Span.{Span}
use Rattle.wave_base.specs.declared.trap.TrapKind.TheVariants as trap
use Rattle.wave_base.specs.declared.value.Value.{Value}
use Rattle.wave_base.specs.declared.value.Value.TheVariants as v
use Rattle.wave_base.specs.Paths.{path_cmp, is_above, parent_of}
use Rattle.wave_base.specs.Tree.{enter, there}
use Rattle.wave_base.proofs.Trees.{put_same}
use Rattle.wave_base.specs.declared.pause.Pause.{Pause}
use Rattle.wave_base.specs.declared.pause.Pause.TheVariants as pause
use Rattle.value_ops.specs.Kinds.{Answer}
use Rattle.resolved_service.specs.Meaning.{State, with_world, enter_at}
use Rattle.resolved_service.specs.World as world
use Rattle.resolved_service.specs.World.{World, child, after_change, with_entered, releasing, has}
use Rattle.service_code.specs.declared.instr.Instr.{Instr}
use Rattle.service_code.specs.declared.instr.Instr.TheVariants as i
use Rattle.service_code.specs.declared.program.Function.{Function}
use Rattle.service_code.specs.declared.program.Program.{Program}
use Rattle.service_verify.specs.Boxes.{Box, first_locals}
use Rattle.service_verify.specs.Fit.{IsFit}
use Rattle.service_verify.specs.Points.{IsVerified}
use Rattle.service_verify.specs.Standing.{IsCaller}
use Rattle.service_verify.specs.Steps.{Move, Runs, Paused, with_some, taken_values, trap_move, is_held, on_int, entering, frame_with_result, with_result}
use Rattle.service_verify.specs.Tours.{Tour, Fields, into, tour_at_pause}
use Rattle.code_scheme.proofs.Micro.{resumed}
use Rattle.code_scheme.proofs.Follow.{Here, frame_of, box_of, tour_of, SameHeld, IsOver, Moving, At, Leads, Follows, move_at, IsLine, moving, leads, arrives, traps}
use Rattle.code_scheme.proofs.Finding.{back_if, callee_of, held_below, held_more, parent_child, pushed, take_pushed}

module _ (program : Program) (fit : IsFit program) (verified : IsVerified program) where
  -- into a child: held already, or one more of at most 256
  module _ (h : Here) (pc : ℕ) (s : List Value) (st : State) (c : Tour) (a : At program fit verified h pc s st c) (ins : Instr) (at : Span) (l : IsLine program fit verified h.fn pc ins at) (q : Path) (h' : Here) (here : q ≡ h'.at) (pc' : ℕ) (s' locals : List Value) where
    long_more : (ps : List Path) → suc (length ps) ≡ length (ps ++ q ∷ [])
    long_more ps = omega (arith, length-append ps (q ∷ []))

    pub enter_runs : (keep : List Path → List Path) (keeps : (held l : List Path) → SameHeld held l → SameHeld (keep held) (keep l)) (why : Pause) (goes : (b : Box) (fields : Fields) → tour_at_pause (tour_of h pc s st a.held) b fields why ≡ into (tour_of h pc s st a.held) b fields (is_held a.held b.path)) →
        move_at program fit verified h pc s st a.held ins at ≡ entering q (box_of h pc s st a.held) (λ b. Paused (record b { frames = frame_of h' pc' s' locals ∷ h'.below; path = q; held = keep b.held }) (st.world.tree.fields h.at) why) (trap_move trap.Reach at (box_of h pc s st a.held) (st.world.tree.fields h.at)) →
        Follows program fit verified c (λ u st' d. At program fit verified h' pc' s' (record { locals = locals; world = record st'.world { held = keep st'.world.held } }) d) (λ u st'. (st'.locals ≡ st.locals) × (st'.world.ticks ≡ st.world.ticks)) (enter_at q at st)
    unfolding world.entering
    enter_runs keep keeps why goes m = by (is_held a.held q) (nat_lt (length st.world.entered) CONTEXTS) refl refl (sym (a.same q))
      where
        paused : List Path → ℕ → Move
        paused held n = Paused (record (box_of h pc s st a.held) { frames = frame_of h' pc' s' locals ∷ h'.below; path = q; held = keep held; entered = n }) (st.world.tree.fields h.at) why

        go : Bool → Bool → Move
        go b d = if b then paused a.held (length st.world.entered) else (if d then paused (insert_key path_cmp a.held q) (suc (length st.world.entered)) else trap_move trap.Reach at (box_of h pc s st a.held) (st.world.tree.fields h.at))

        is : (b d : Bool) → is_held a.held q ≡ b → nat_lt (length st.world.entered) CONTEXTS ≡ d → move_at program fit verified h pc s st a.held ins at ≡ go b d
        is b d eb ed = m ∙ (λ i. go (eb i) (ed i))

        Wanted : Answer World → Type 0
        Wanted o = Follows program fit verified c (λ u st' d. At program fit verified h' pc' s' (record { locals = locals; world = record st'.world { held = keep st'.world.held } }) d) (λ u st'. (st'.locals ≡ st.locals) × (st'.world.ticks ≡ st.world.ticks)) (with_world o at st)

        by : (b d : Bool) → is_held a.held q ≡ b → nat_lt (length st.world.entered) CONTEXTS ≡ d → has st.world.held q ≡ is_held a.held q → Wanted (if has st.world.held q then Ok (after_change st.world) else (if nat_lt (length st.world.entered) CONTEXTS then Ok (after_change (with_entered q st.world)) else Err trap.Reach))
        by true d eb ed same =
            subst (λ b. Wanted (if b then Ok (after_change st.world) else (if nat_lt (length st.world.entered) CONTEXTS then Ok (after_change (with_entered q st.world)) else Err trap.Reach))) (sym (same ∙ eb))
            (record { is = (r.0, r.1, r.2, (refl, refl)) })
          where
            st' : State
            st' = record { locals = locals; world = record (after_change st.world) { held = keep st.world.held } }

            r : (d : Tour) × Leads program fit verified c d × At program fit verified h' pc' s' st' d
            r =
                arrives program fit verified h pc s st c a ins at l h' pc' s' st' (keep a.held) (keeps a.held st.world.held a.same)
                (ap (resumed (tour_of h pc s st a.held)) (is true d eb ed)
                ∙ goes (record (box_of h pc s st a.held) { frames = frame_of h' pc' s' locals ∷ h'.below; path = q; held = keep a.held }) (st.world.tree.fields h.at)
                ∙ ap (into (tour_of h pc s st a.held) (record (box_of h pc s st a.held) { frames = frame_of h' pc' s' locals ∷ h'.below; path = q; held = keep a.held }) (st.world.tree.fields h.at)) eb
                ∙ (λ i. record { box = record (box_of h' pc' s' st' (keep a.held)) { path = here i }; tree = put_same st.world.tree h.at i; entered = st.world.entered; segments = suc st.world.changes; result = None }))
        by false true eb ed same =
            subst (λ b. Wanted (if b then Ok (after_change st.world) else (if nat_lt (length st.world.entered) CONTEXTS then Ok (after_change (with_entered q st.world)) else Err trap.Reach))) (sym (same ∙ eb))
            (subst (λ d. Wanted (if d then Ok (after_change (with_entered q st.world)) else Err trap.Reach)) (sym ed) (record { is = (r.0, r.1, r.2, (refl, refl)) }))
          where
            st' : State
            st' = record { locals = locals; world = record (after_change (with_entered q st.world)) { held = keep (st.world.held ++ q ∷ []) } }

            held' : List Path
            held' = insert_key path_cmp a.held q

            b' : Box
            b' = record (box_of h pc s st a.held) { frames = frame_of h' pc' s' locals ∷ h'.below; path = q; held = keep held'; entered = suc (length st.world.entered) }

            r : (d : Tour) × Leads program fit verified c d × At program fit verified h' pc' s' st' d
            r =
                arrives program fit verified h pc s st c a ins at l h' pc' s' st' (keep held') (keeps held' (st.world.held ++ q ∷ []) (held_more a.held st.world.held q a.same))
                (ap (resumed (tour_of h pc s st a.held)) (is false true eb ed)
                ∙ goes b' (st.world.tree.fields h.at)
                ∙ ap (into (tour_of h pc s st a.held) b' (st.world.tree.fields h.at)) eb
                ∙ (λ i. record { box = record (box_of h' pc' s' st' (keep held')) { path = here i; entered = long_more st.world.entered i }; tree = enter (put_same st.world.tree h.at i) q; entered = st.world.entered ++ q ∷ []; segments = suc st.world.changes; result = None }))
        by false false eb ed same =
            subst (λ b. Wanted (if b then Ok (after_change st.world) else (if nat_lt (length st.world.entered) CONTEXTS then Ok (after_change (with_entered q st.world)) else Err trap.Reach))) (sym (same ∙ eb))
            (subst (λ d. Wanted (if d then Ok (after_change (with_entered q st.world)) else Err trap.Reach)) (sym ed)
            (record { is = traps program fit verified h pc s st c a ins at l trap.Reach (is false false eb ed) }))

  -- a call in a child
  pub down_runs : (h : Here) (pc class g : ℕ) (callee : Function) (k : Value) (vs s : List Value) (st : State) (c : Tour) → slice_get program.functions g ≡ Some callee → length callee.args ≡ length vs → At program fit verified h pc (pushed vs (k ∷ s)) st c → (at : Span) → IsLine program fit verified h.fn pc (i.CallDown (record { 0 = class }) g) at →
      Follows program fit verified c (λ u st' d. At program fit verified (callee_of g (child h.at class k) true h (suc pc) s st.locals) 0 [] (record { locals = first_locals callee vs; world = st'.world }) d) (λ u st'. (st'.locals ≡ st.locals) × (st'.world.ticks ≡ st.world.ticks)) (enter_at (child h.at class k) at st)
  down_runs h pc class g callee k vs s st c there long a at l = by k refl (subst Moving is (moving program fit verified h pc (pushed vs (k ∷ s)) st c a ins at l)) is
    where
      ins : Instr
      ins = i.CallDown (record { 0 = class }) g

      stop : Move
      stop = trap_move trap.Reach at (box_of h pc (pushed vs (k ∷ s)) st a.held) (st.world.tree.fields h.at)

      into_child : List Value → Function → ℤ → List Value → Move
      into_child vs callee key rest =
          entering (h.at ++ record { class = record { 0 = class }; key = key } ∷ []) (box_of h pc (pushed vs (k ∷ s)) st a.held)
          (λ b. Paused (record b { frames = frame_of (callee_of g h.at true h (suc pc) rest st.locals) 0 [] (first_locals callee vs) ∷ frame_of h (suc pc) rest st.locals ∷ h.below; path = h.at ++ record { class = record { 0 = class }; key = key } ∷ [] }) (st.world.tree.fields h.at) (pause.Down (record { class = record { 0 = class }; key = key })))
          stop

      made : Function → List Value × List Value → Move
      made callee u = on_int u.1 (into_child u.0 callee)

      is : move_at program fit verified h pc (pushed vs (k ∷ s)) st a.held ins at ≡ on_int (k ∷ s) (into_child vs callee)
      is =
          ap (λ o. with_some o (λ (callee : Function). with_some (taken_values (length callee.args) [] (pushed vs (k ∷ s))) (made callee))) there
          ∙ ap (λ o. with_some o (made callee)) (take_pushed (length callee.args) vs (k ∷ s) long)

      Wanted : Value → Type 0
      Wanted k' = Follows program fit verified c (λ u st' d. At program fit verified (callee_of g (child h.at class k') true h (suc pc) s st.locals) 0 [] (record { locals = first_locals callee vs; world = st'.world }) d) (λ u st'. (st'.locals ≡ st.locals) × (st'.world.ticks ≡ st.world.ticks)) (enter_at (child h.at class k') at st)

      by : (k' : Value) → k ≡ k' → Moving (on_int (k ∷ s) (into_child vs callee)) → move_at program fit verified h pc (pushed vs (k ∷ s)) st a.held ins at ≡ on_int (k ∷ s) (into_child vs callee) → Wanted k
      by (v.Int n) e h' is =
          subst Wanted (sym e)
          (enter_runs h pc (pushed vs (k ∷ s)) st c a ins at l (child h.at class (v.Int n)) (callee_of g (child h.at class (v.Int n)) true h (suc pc) s st.locals) refl 0 [] (first_locals callee vs) (λ held. held) (λ held l same. same) (pause.Down (record { class = record { 0 = class }; key = n })) (λ b fields. refl)
          (is ∙ ap (λ k. on_int (k ∷ s) (into_child vs callee)) e))
      by (v.Bool n) e h' is = absurd (subst (λ k. Moving (on_int (k ∷ s) (into_child vs callee))) e h')
      by (v.Str n) e h' is = absurd (subst (λ k. Moving (on_int (k ∷ s) (into_child vs callee))) e h')
      by (v.Map n) e h' is = absurd (subst (λ k. Moving (on_int (k ∷ s) (into_child vs callee))) e h')

  -- the way down for good
  pub go_runs : (h : Here) (pc class : ℕ) (k : Value) (s : List Value) (st : State) (c : Tour) → At program fit verified h pc (k ∷ s) st c → (at : Span) → IsLine program fit verified h.fn pc (i.Go (record { 0 = class })) at →
      Follows program fit verified c (λ u st' d. At program fit verified (record { fn = h.fn; at = child h.at class k; down = h.down; below = h.below }) (suc pc) s (record { locals = st.locals; world = releasing (child h.at class k) st'.world }) d) (λ u st'. (st'.locals ≡ st.locals) × (st'.world.ticks ≡ st.world.ticks)) (enter_at (child h.at class k) at st)
  go_runs h pc class (v.Int n) s st c a at l =
      enter_runs h pc (v.Int n ∷ s) st c a (i.Go (record { 0 = class })) at l (child h.at class (v.Int n)) (record { fn = h.fn; at = child h.at class (v.Int n); down = h.down; below = h.below }) refl (suc pc) s st.locals (filter (is_above (child h.at class (v.Int n)))) (λ held l same. held_below held l (child h.at class (v.Int n)) same) (pause.Go (record { class = record { 0 = class }; key = n })) (λ b fields. refl)
      refl
  go_runs h pc class (v.Bool n) s st c a at l = absurd (moving program fit verified h pc (v.Bool n ∷ s) st c a (i.Go (record { 0 = class })) at l)
  go_runs h pc class (v.Str n) s st c a at l = absurd (moving program fit verified h pc (v.Str n ∷ s) st c a (i.Go (record { 0 = class })) at l)
  go_runs h pc class (v.Map n) s st c a at l = absurd (moving program fit verified h pc (v.Map n ∷ s) st c a (i.Go (record { 0 = class })) at l)

  -- ---- ends

  -- back to the caller
  pub return_runs : (m : ℕ) (p : Path) (down : Bool) (g : Here) (pc' : ℕ) (s' locals : List Value) (own : Function) (pc : ℕ) (s : List Value) (result : Option Value) (st : State) (c : Tour) →
      slice_get program.functions m ≡ Some own → ((go : Option Value → Move) → with_result own.result s go ≡ go result) → IsCaller down p g.at → At program fit verified (callee_of m p down g pc' s' locals) pc s st c → (at : Span) → IsLine program fit verified m pc i.Return at →
      (d : Tour) × Leads program fit verified c d × At program fit verified g pc' (option_to_list result ++ s') (record { locals = locals; world = back_if down st.world }) d
  return_runs m p true g pc' s' locals own pc s result st c there gives caller a at l =
      let h = callee_of m p true g pc' s' locals in
      arrives program fit verified h pc s st c a i.Return at l g pc' (option_to_list result ++ s') st' a.held a.same
      (ap (resumed (tour_of h pc s st a.held)) is ∙ (λ i. record { box = record (box_of g pc' (option_to_list result ++ s') st' a.held) { path = path i }; tree = put_same st.world.tree p i; entered = st.world.entered; segments = suc st.world.changes; result = None }))
    where
      st' : State
      st' = record { locals = locals; world = after_change st.world }

      path : parent_of p ≡ g.at
      path = ap parent_of caller.1 ∙ parent_child g.at caller.0

      back : Option Value → Move
      back r = Paused (record (box_of (callee_of m p true g pc' s' locals) pc s st a.held) { frames = frame_with_result (frame_of g pc' s' locals) r ∷ g.below; path = parent_of p }) (st.world.tree.fields p) pause.Back

      is : move_at program fit verified (callee_of m p true g pc' s' locals) pc s st a.held i.Return at ≡ back result
      is = ap (λ o. with_some o (λ (own : Function). with_result own.result s back)) there ∙ gives back
  return_runs m p false g pc' s' locals own pc s result st c there gives caller a at l =
      let h = callee_of m p false g pc' s' locals in
      arrives program fit verified h pc s st c a i.Return at l g pc' (option_to_list result ++ s') st' a.held a.same
      (ap (resumed (tour_of h pc s st a.held)) is ∙ (λ i. record { box = record (box_of g pc' (option_to_list result ++ s') st' a.held) { path = caller i }; tree = put_same st.world.tree p i; entered = st.world.entered; segments = st.world.changes; result = None }))
    where
      st' : State
      st' = record { locals = locals; world = st.world }

      back : Option Value → Move
      back r = Runs (record (box_of (callee_of m p false g pc' s' locals) pc s st a.held) { frames = frame_with_result (frame_of g pc' s' locals) r ∷ g.below }) (st.world.tree.fields p)

      is : move_at program fit verified (callee_of m p false g pc' s' locals) pc s st a.held i.Return at ≡ back result
      is = ap (λ o. with_some o (λ (own : Function). with_result own.result s back)) there ∙ gives back

  -- the end of the event
  pub reply_runs : (h : Here) (pc : ℕ) (x : Value) (s : List Value) (st : State) (c : Tour) → At program fit verified h pc (x ∷ s) st c → (at : Span) → IsLine program fit verified h.fn pc i.Reply at →
      (d : Tour) × Leads program fit verified c d × IsOver (record { outcome = out.Reply x; messages = st.world.messages; created = st.world.created }) st.world d
  reply_runs h pc x s st c a at l = (_, leads program fit verified h pc (x ∷ s) st c a i.Reply at l _ refl, record { result = refl; tree = put_same st.world.tree h.at; entered = refl; segments = refl })

  pub end_runs : (h : Here) (pc : ℕ) (s : List Value) (st : State) (c : Tour) → At program fit verified h pc s st c → (at : Span) → IsLine program fit verified h.fn pc i.End at →
      (d : Tour) × Leads program fit verified c d × IsOver (record { outcome = out.Done; messages = st.world.messages; created = st.world.created }) st.world d
  end_runs h pc s st c a at l = (_, leads program fit verified h pc s st c a i.End at l _ refl, record { result = refl; tree = put_same st.world.tree h.at; entered = refl; segments = refl })
