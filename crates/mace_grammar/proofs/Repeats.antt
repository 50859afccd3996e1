-- Any number of a part.
use Rattle.std.proofs.Common.{◌≡◌, ℕ, zero, suc, ◌<◌, ◌≤◌, List, [], ◌∷◌, ◌++◌, length, Ok, Err, true, false, refl, sym, ◌∙◌, ap, subst, arith, le_refl, ⊎_elim, append_assoc, append-nil, length-append}
use Rattle.mace_lexer.specs.declared.token.Token.{Token}
use Rattle.mace_grammar.specs.declared.class.Class.{Class}
use Rattle.mace_grammar.specs.inner.Run.{Outcome, Reader, and_then, give, sees, with_front, each, each_of}
use Rattle.mace_grammar.specs.Part.{Part, many, SpellsAll}
use Rattle.mace_grammar.proofs.ClassSets.{disjoint, apart}
use Rattle.mace_grammar.proofs.Outcomes.{left, split_ok, split_err, left_after, ok_parts, nil_front, cut_point, rest_shorter, chosen, chosen_true, chosen_false}
use Rattle.mace_grammar.proofs.Reading.{Reads, Heads, held, less_sees}

module _ (class : Token → Class) where
  module _ {A : Type 0} (m : ℕ) (p p' : Part A) (run : Reader A) (f goes : List Class) (x : disjoint f goes ≡ true) (P : Reads class m p p' run f false goes) where
    all_heads : (items : List A) (front : List Token) → SpellsAll p' items front → Heads class f true front
    all_heads [] front s = subst (λ w. Heads class f true w) (sym s) refl
    all_heads (a ∷ items) front s = let (u, v, e, su, sv) = s in subst (λ w. Heads class f true w) (sym e) (first u v (P.heads a u su))
      where
        first : (u v : List Token) → Heads class f false u → Heads class f true (u ++ v)
        first [] v h = cc
        first (t ∷ u) v h = h

    each_sound : (k : ℕ) (ts rest : List Token) (items : List A) → each class f run k ts ≡ Ok (items, rest) → (front : List Token) × (ts ≡ front ++ rest) × SpellsAll p items front
    each_sound zero ts rest items e =
        let h = ok_parts [] items ts rest e in
        ([], h.1, subst (λ i. SpellsAll p i []) h.0 refl)
    each_sound (suc k) ts rest items e =
        ⊎_elim
        (λ h. let (a, mid, h1, h2) = split_ok (run ts) (λ a r. and_then (each class f run k r) (with_front a)) items rest h.1 in
        let (others, mid2, h3, h4) = split_ok (each class f run k mid) (with_front a) items rest h2 in
        let s = P.sound ts mid a h1 in
        let s2 = each_sound k mid mid2 others h3 in
        let parts = ok_parts (a ∷ others) items mid2 rest h4 in
        (s.0 ++ s2.0, s.1 ∙ ap (λ w. s.0 ++ w) (s2.1 ∙ ap (λ w. s2.0 ++ w) parts.1) ∙ sym (append_assoc s.0 s2.0 rest), subst (λ i. SpellsAll p i (s.0 ++ s2.0)) parts.0 (s.0, s2.0, refl, s.2, s2.2)))
        (λ h. let h2 = ok_parts [] items ts rest h.1 in ([], h2.1, subst (λ i. SpellsAll p i []) h2.0 refl))
        (chosen (sees class f ts) (and_then (run ts) (λ a r. and_then (each class f run k r) (with_front a))) (give [] ts) (Ok (items, rest)) e)

    each_stuck : (k : ℕ) (ts rest : List Token) → each class f run k ts ≡ Err rest → (front : List Token) × (ts ≡ front ++ rest) × (many p).Begins front
    each_stuck zero ts rest e = cc
    each_stuck (suc k) ts rest e =
        ⊎_elim
        (λ h. ⊎_elim
        (λ h1. let s = P.stuck ts rest h1 in (s.0, s.1, ([], [], s.0, refl, refl, s.2)))
        (λ h1. let (a, mid, h2, h3) = h1 in
        let s = P.sound ts mid a h2 in
        let s2 = each_stuck k mid rest (only_inner (each class f run k mid) a rest h3) in
        let (items, u, v, e1, su, bv) = s2.2 in
        (s.0 ++ s2.0, s.1 ∙ ap (λ w. s.0 ++ w) s2.1 ∙ sym (append_assoc s.0 s2.0 rest), (a ∷ items, s.0 ++ u, v, ap (λ w. s.0 ++ w) e1 ∙ sym (append_assoc s.0 u v), (s.0, u, refl, s.2, su), bv)))
        (split_err (run ts) (λ a r. and_then (each class f run k r) (with_front a)) rest h.1))
        (λ h. let no : ⊥ = cc (h.1) in absurd no)
        (chosen (sees class f ts) (and_then (run ts) (λ a r. and_then (each class f run k r) (with_front a))) (give [] ts) (Err rest) e)
      where
        only_inner : (o : Outcome (List A)) (a : A) (r : List Token) → and_then o (with_front a) ≡ Err r → o ≡ Err r
        only_inner (Ok i) a r e = cc
        only_inner (Err s) a r e = cc

    each_shorter : (k : ℕ) (ts : List Token) → left (each class f run k ts) ≤ length ts
    each_shorter k ts = go (each class f run k ts) refl
      where
        go : (o : Outcome (List A)) → each class f run k ts ≡ o → left o ≤ length ts
        go (Ok i) h = let s = each_sound k ts i.1 i.0 h in rest_shorter ts s.0 i.1 s.1
        go (Err r) h = let s = each_stuck k ts r h in rest_shorter ts s.0 r s.1

    -- one more turn
    each_turn : (k : ℕ) (ts : List Token) → sees class f ts ≡ true → each class f run (suc k) ts ≡ and_then (run ts) (λ a r. and_then (each class f run k r) (with_front a))
    each_turn k ts h = chosen_true (sees class f ts) _ _ h

    each_none : (k : ℕ) (ts : List Token) → sees class f ts ≡ false → each class f run k ts ≡ Ok ([], ts)
    each_none zero ts h = refl
    each_none (suc k) ts h = chosen_false (sees class f ts) _ _ h

    each_complete : (items : List A) (k : ℕ) (front rest : List Token) → length (front ++ rest) < m → length (front ++ rest) ≤ k → SpellsAll p' items front → sees class (f ++ goes) rest ≡ false → each class f run k (front ++ rest) ≡ Ok (items, rest)
    each_complete [] k front rest l lk s h = ap (λ w. each class f run k (w ++ rest)) s ∙ each_none k rest (less_sees class f goes rest h).0
    each_complete (a ∷ items) k front rest l lk s h =
        let (u, v, e, su, sv) = s in
        let w = ap (λ z. z ++ rest) e ∙ append_assoc u v rest in
        ap (each class f run k) w ∙ step k u (P.heads a u su) su v (subst (λ z. length z < m) w l) (subst (λ z. length z ≤ k) w lk) sv (λ j l2 lj. each_complete items j v rest l2 lj sv h)
      where
        step : (j : ℕ) (u : List Token) → Heads class f false u → p'.Spells a u → (v : List Token) → length (u ++ (v ++ rest)) < m → length (u ++ (v ++ rest)) ≤ j → SpellsAll p' items v → ((i : ℕ) → length (v ++ rest) < m → length (v ++ rest) ≤ i → each class f run i (v ++ rest) ≡ Ok (items, rest)) → each class f run j (u ++ (v ++ rest)) ≡ Ok (a ∷ items, rest)
        step j [] hu su v l2 lj sv ih = cc
        step zero (t ∷ u) hu su v l2 lj sv ih = absurd (omega arith)
        step (suc j) (t ∷ u) hu su v l2 lj sv ih =
            let c = P.complete a (t ∷ u) (v ++ rest) l2 su (held class f goes f true v rest x (all_heads items v sv) h) in
            let len = length-append u (v ++ rest) in
            each_turn j ((t ∷ u) ++ (v ++ rest)) hu
            ∙ ap (λ o. and_then o (λ b r. and_then (each class f run j r) (with_front b))) c
            ∙ ap (λ o. and_then o (with_front a)) (ih j (omega arith) (omega arith))

    turn_shorter : (k : ℕ) (a : A) (r : List Token) → left (and_then (each class f run k r) (with_front a)) ≤ length r
    turn_shorter k a r = omega (arith, left_after (with_front a) (λ i w. le_refl (length w)) (each class f run k r), each_shorter k r)

    each_reach : (items : List A) (k : ℕ) (front back rest : List Token) → length ((front ++ back) ++ rest) < m → length ((front ++ back) ++ rest) ≤ k → SpellsAll p' items front → p'.Begins back → left (each class f run k ((front ++ back) ++ rest)) ≤ length rest
    each_reach [] k front [] rest l lk s b = subst (λ w. left (each class f run k ((w ++ []) ++ rest)) ≤ length rest) (sym s) (each_shorter k rest)
    each_reach [] zero front (t ∷ back) rest l lk s b = absurd (omega (arith, length-append front (t ∷ back), length-append (front ++ t ∷ back) rest))
    each_reach [] (suc k) front (t ∷ back) rest l lk s b =
        let l2 = subst (λ w. length ((w ++ (t ∷ back)) ++ rest) < m) s l in
        let r = P.reach (t ∷ back) rest l2 b in
        let n = left_after (λ a r. and_then (each class f run k r) (with_front a)) (turn_shorter k) (run (t ∷ (back ++ rest))) in
        subst (λ w. left (each class f run (suc k) ((w ++ (t ∷ back)) ++ rest)) ≤ length rest) (sym s)
        (subst (λ o. left o ≤ length rest) (sym (each_turn k (t ∷ (back ++ rest)) (P.starts (t ∷ back) b))) (omega (arith, r, n)))
    each_reach (a ∷ items) k front back rest l lk s b =
        let (u, v, e, su, sv) = s in
        let w = ap (λ z. (z ++ back) ++ rest) e ∙ ap (λ z. z ++ rest) (append_assoc u v back) ∙ append_assoc u (v ++ back) rest in
        subst (λ z. left (each class f run k z) ≤ length rest) (sym w)
        (step k u (P.heads a u su) su (v ++ back) (subst (λ z. length z < m) w l) (subst (λ z. length z ≤ k) w lk) (heads_on v sv) (λ j l2 lj. each_reach items j v back rest l2 lj sv b))
      where
        heads_on : (v : List Token) → SpellsAll p' items v → Heads class f true (v ++ back)
        heads_on v sv = go v (all_heads items v sv)
          where
            go : (v : List Token) → Heads class f true v → Heads class f true (v ++ back)
            go [] h = P.starts back b
            go (t ∷ v) h = h

        step : (j : ℕ) (u : List Token) → Heads class f false u → p'.Spells a u → (w : List Token) → length (u ++ (w ++ rest)) < m → length (u ++ (w ++ rest)) ≤ j → Heads class f true w → ((i : ℕ) → length (w ++ rest) < m → length (w ++ rest) ≤ i → left (each class f run i (w ++ rest)) ≤ length rest) → left (each class f run j (u ++ (w ++ rest))) ≤ length rest
        step j [] hu su w l2 lj hw ih = cc
        step zero (t ∷ u) hu su w l2 lj hw ih = absurd (omega arith)
        step (suc j) (t ∷ u) hu su [] l2 lj hw ih =
            let r = P.reach (t ∷ u) rest l2 (P.begun a (t ∷ u) su) in
            let n = left_after (λ b z. and_then (each class f run j z) (with_front b)) (turn_shorter j) (run (t ∷ (u ++ rest))) in
            subst (λ o. left o ≤ length rest) (sym (each_turn j (t ∷ (u ++ rest)) hu)) (omega (arith, r, n))
        step (suc j) (t ∷ u) hu su (t' ∷ w) l2 lj hw ih =
            let c = P.complete a (t ∷ u) (t' ∷ (w ++ rest)) l2 su (apart f goes (class t') x hw) in
            let len = length-append u (t' ∷ (w ++ rest)) in
            let i = ih j (omega arith) (omega arith) in
            let n = left_after (with_front a) (λ z r. le_refl (length r)) (each class f run j (t' ∷ (w ++ rest))) in
            subst (λ o. left o ≤ length rest) (sym (each_turn j (t ∷ (u ++ (t' ∷ (w ++ rest)))) hu ∙ ap (λ o. and_then o (λ b r. and_then (each class f run j r) (with_front b))) c)) (omega (arith, i, n))

    all_closed : (items : List A) (u w : List Token) → SpellsAll p' items (u ++ w) → (many p').Begins u
    all_closed [] u w s = subst (λ z. (many p').Begins z) (sym (nil_front u w s)) ([], [], [], refl, refl, P.none)
    all_closed (a ∷ items) u w s =
        let (x, y, e, sx, sy) = s in
        all_step u w x y a sx e (λ z h. all_closed items z w (subst (λ k. SpellsAll p' items k) h sy))
      where
        all_step : (u w x y : List Token) (a : A) → p'.Spells a x → u ++ w ≡ x ++ y → ((z : List Token) → y ≡ z ++ w → (many p').Begins z) → (many p').Begins u
        all_step u w x y a sx e more =
            ⊎_elim
            (λ k. ([], [], u, refl, refl, P.closed u k.0 (subst (λ z. p'.Begins z) k.1 (P.begun a x sx))))
            (λ k. let (others, f, g, e2, sf, bg) = more k.0 k.2 in (a ∷ others, x ++ f, g, k.1 ∙ ap (λ z. x ++ z) e2 ∙ sym (append_assoc x f g), (x, f, refl, sx, sf), bg))
            (cut_point u w x y e)

    many_closed : (front back : List Token) → (many p').Begins (front ++ back) → (many p').Begins front
    many_closed front back b =
        let (items, x, y, e, s, by) = b in
        ⊎_elim
        (λ k. all_closed items front k.0 (subst (λ z. SpellsAll p' items z) k.1 s))
        (λ k. (items, x, k.0, k.1, s, P.closed k.0 back (subst (λ z. p'.Begins z) k.2 by)))
        (cut_point front back x y e)

    pub reads_many : Reads class m (many p) (many p') (each_of class f run) f true (f ++ goes)
    reads_many = record {
      sound = λ ts rest a e. each_sound (length ts) ts rest a e;
      stuck = λ ts rest e. each_stuck (length ts) ts rest e;
      none = ([], [], [], refl, refl, P.none);
      begun = λ a front s. (a, front, [], sym (append-nil front), s, P.none);
      heads = all_heads;
      starts = λ front b. let (items, u, v, e, su, bv) = b in subst (λ w. Heads class f true w) (sym e) (many_starts u v (all_heads items u su) (P.starts v bv));
      complete = λ a front rest l s k. each_complete a (length (front ++ rest)) front rest l (le_refl (length (front ++ rest))) s k;
      reach = λ front rest l b. let (items, u, v, e, su, bv) = b in
          subst (λ w. left (each class f run (length (w ++ rest)) (w ++ rest)) ≤ length rest) (sym e)
          (each_reach items (length ((u ++ v) ++ rest)) u v rest (subst (λ w. length (w ++ rest) < m) e l) (le_refl (length ((u ++ v) ++ rest))) su bv);
      closed = many_closed;
    }
      where
        many_starts : (u v : List Token) → Heads class f true u → Heads class f true v → Heads class f true (u ++ v)
        many_starts [] v h k = k
        many_starts (t ∷ u) v h k = h

  pub repeated : {A : Type 0} {m : ℕ} {p p' : Part A} {run : Reader A} {f goes : List Class} → Reads class m p p' run f false goes → disjoint f goes ≡ true → Reads class m (many p) (many p') (each_of class f run) f true (f ++ goes)
  repeated {m = m} P x = reads_many m _ _ _ _ _ x P
