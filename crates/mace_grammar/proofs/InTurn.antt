-- One part behind another, and the part of no tokens.
use Rattle.std.proofs.Common.{◌≡◌, ℕ, suc, ◌<◌, ◌≤◌, inl, inr, List, [], ◌∷◌, ◌++◌, length, Ok, Err, Bool, true, false, ◌&&◌, refl, sym, ◌∙◌, ap, subst, arith, le_refl, ⊎_elim, append_assoc, append-nil, length-append}
use Rattle.mace_lexer.specs.declared.token.Token.{Token}
use Rattle.mace_grammar.specs.declared.class.Class.{Class}
use Rattle.mace_grammar.specs.inner.Run.{Reader, and_then, give, after, has, sees}
use Rattle.mace_grammar.specs.Part.{Part, pure, ◌>>=◌}
use Rattle.mace_grammar.proofs.ClassSets.{disjoint, has-left, has-right, apart, if_empty}
use Rattle.mace_grammar.proofs.Outcomes.{left, split_ok, split_err, left_after, ok_parts, nil_front, cut_point}
use Rattle.mace_grammar.proofs.Reading.{Reads, Heads, shorter, held, less_sees, more_heads}

module _ (class : Token → Class) where
  less_budget : (f : List Class) (e : Bool) (m n : ℕ) (u w : List Token) → m ≤ suc n → (e ≡ true → m ≤ n) → Heads class f e u → length (u ++ w) < m → length w < n
  less_budget f e m n [] w a b h l = let k : m ≤ n = b h in omega arith
  less_budget f e m n (t ∷ u) w a b h l = omega (arith, length-append u w)

  heads_append : (f g : List Class) (e d : Bool) (u v : List Token) → Heads class f e u → Heads class g d v → Heads class (f ++ if_empty e g) (e && d) (u ++ v)
  heads_append f g e d (t ∷ u) v h k = has-left f (if_empty e g) (class t) h
  heads_append f g true d [] [] h k = k
  heads_append f g true d [] (t ∷ v) h k = has-right f g (class t) k
  heads_append f g false d [] v h k = cc

  behind : (f g : List Class) (e : Bool) (u : List Token) (t : Token) (v : List Token) → Heads class f e u → has g (class t) ≡ true → Heads class (f ++ if_empty e g) true (u ++ (t ∷ v))
  behind f g true [] t v h k = has-right f g (class t) k
  behind f g false [] t v h k = cc
  behind f g e (s ∷ u) t v h k = has-left f (if_empty e g) (class s) h

  pub reads_pure : {A : Type 0} (m : ℕ) (x : A) → Reads class m (pure x) (pure x) (give x) [] true []
  reads_pure m x = record {
    sound = λ ts rest a e. let h = ok_parts x a ts rest e in ([], h.1, (sym h.0, refl));
    stuck = λ ts rest e. cc;
    none = refl;
    begun = λ a front s. s.1;
    heads = λ a front s. subst (λ u. Heads class [] true u) (sym s.1) refl;
    starts = λ front s. subst (λ u. Heads class [] true u) (sym s) refl;
    complete = λ a front rest l s k. rw (s.0, s.1) refl;
    reach = λ front rest l s. rw s (omega arith);
    closed = λ front back e. nil_front front back e;
  }

  module _ {A B : Type 0} (m n : ℕ) (p p' : Part A) (q q' : A → Part B) (run : Reader A) (next : A → Reader B) (f g goes goes' : List Class) (e d : Bool) (near : m ≤ suc n) (near' : e ≡ true → m ≤ n) (x : disjoint g goes ≡ true) (P : Reads class m p p' run f e goes) (Q : (a : A) → Reads class n (q a) (q' a) (next a) g d goes') where
    turn_sound : (ts rest : List Token) (b : B) → after run next ts ≡ Ok (b, rest) → (front : List Token) × (ts ≡ front ++ rest) × (p >>= q).Spells b front
    turn_sound ts rest b h =
        let (a, mid, h1, h2) = split_ok (run ts) next b rest h in
        let s = P.sound ts mid a h1 in
        let s2 = (Q a).sound mid rest b h2 in
        (s.0 ++ s2.0, s.1 ∙ ap (λ w. s.0 ++ w) s2.1 ∙ sym (append_assoc s.0 s2.0 rest), (a, s.0, s2.0, refl, s.2, s2.2))

    turn_stuck : (ts rest : List Token) → after run next ts ≡ Err rest → (front : List Token) × (ts ≡ front ++ rest) × (p >>= q).Begins front
    turn_stuck ts rest h =
        ⊎_elim
        (λ k. let s = P.stuck ts rest k in (s.0, s.1, inl s.2))
        (λ k. let s = P.sound ts k.1 k.0 k.2 in
        let s2 = (Q k.0).stuck k.1 rest k.3 in
        (s.0 ++ s2.0, s.1 ∙ ap (λ w. s.0 ++ w) s2.1 ∙ sym (append_assoc s.0 s2.0 rest), inr (k.0, s.0, s2.0, refl, s.2, s2.2)))
        (split_err (run ts) next rest h)

    after_front : (a : A) (u v rest : List Token) → length ((u ++ v) ++ rest) < m → p'.Spells a u → Heads class g d v → sees class (goes' ++ if_empty d goes) rest ≡ false → after run next ((u ++ v) ++ rest) ≡ next a (v ++ rest)
    after_front a u v rest l s h k =
        let w = append_assoc u v rest in
        let l' = subst (λ ts. length ts < m) w l in
        ap (λ o. and_then o next) (ap run w ∙ P.complete a u (v ++ rest) l' s (held class g goes goes' d v rest x h k))

    turn_complete : (b : B) (front rest : List Token) → length (front ++ rest) < m → (p' >>= q').Spells b front → sees class (goes' ++ if_empty d goes) rest ≡ false → after run next (front ++ rest) ≡ Ok (b, rest)
    turn_complete b front rest l s k =
        let (a, u, v, e1, su, sv) = s in
        let l1 = subst (λ w. length (w ++ rest) < m) e1 l in
        let l2 = subst (λ ts. length ts < m) (append_assoc u v rest) l1 in
        ap (λ w. after run next (w ++ rest)) e1
        ∙ after_front a u v rest l1 su ((Q a).heads b v sv) k
        ∙ (Q a).complete b v rest (less_budget f e m n u (v ++ rest) near near' (P.heads a u su) l2) sv (less_sees class goes' (if_empty d goes) rest k).0

    no_longer : (ts : List Token) → left (after run next ts) ≤ left (run ts)
    no_longer ts = left_after next (λ a w. shorter class n (q a) (q' a) (next a) g d goes' (Q a) w) (run ts)

    turn_behind : (a : A) (u v rest : List Token) → length ((u ++ v) ++ rest) < m → p'.Spells a u → (q' a).Begins v → left (after run next ((u ++ v) ++ rest)) ≤ length rest
    turn_behind a u [] rest l s b =
        let e : (u ++ []) ++ rest ≡ u ++ rest = ap (λ w. w ++ rest) (append-nil u) in
        let r = P.reach u rest (subst (λ ts. length ts < m) e l) (P.begun a u s) in
        subst (λ ts. left (after run next ts) ≤ length rest) (sym e) (omega (arith, r, no_longer (u ++ rest)))
    turn_behind a u (t ∷ v) rest l s b =
        let w = append_assoc u (t ∷ v) rest in
        let l' = subst (λ ts. length ts < m) w l in
        let h = (Q a).starts (t ∷ v) b in
        let c = P.complete a u (t ∷ (v ++ rest)) l' s (apart g goes (class t) x h) in
        let r = (Q a).reach (t ∷ v) rest (less_budget f e m n u (t ∷ (v ++ rest)) near near' (P.heads a u s) l') b in
        subst (λ o. left (and_then o next) ≤ length rest) (sym (ap run w ∙ c)) r

    turn_reach : (front rest : List Token) → length (front ++ rest) < m → (p' >>= q').Begins front → left (after run next (front ++ rest)) ≤ length rest
    turn_reach front rest l b =
        ⊎_elim
        (λ h. omega (arith, P.reach front rest l h, no_longer (front ++ rest)))
        (λ h. let (a, u, v, e1, su, bv) = h in
        subst (λ w. left (after run next (w ++ rest)) ≤ length rest) (sym e1) (turn_behind a u v rest (subst (λ w. length (w ++ rest) < m) e1 l) su bv))
        b

    turn_heads_behind : (a : A) (u v : List Token) → p'.Spells a u → (q' a).Begins v → Heads class (f ++ if_empty e g) true (u ++ v)
    turn_heads_behind a u [] s b = subst (λ w. Heads class (f ++ if_empty e g) true w) (sym (append-nil u)) (more_heads class f (if_empty e g) u (P.starts u (P.begun a u s)))
    turn_heads_behind a u (t ∷ v) s b = behind f g e u t v (P.heads a u s) ((Q a).starts (t ∷ v) b)

    turn_starts : (front : List Token) → (p' >>= q').Begins front → Heads class (f ++ if_empty e g) true front
    turn_starts front b =
        ⊎_elim
        (λ h. more_heads class f (if_empty e g) front (P.starts front h))
        (λ h. let (a, u, v, e1, su, bv) = h in subst (λ w. Heads class (f ++ if_empty e g) true w) (sym e1) (turn_heads_behind a u v su bv))
        b

    turn_closed : (front back : List Token) → (p' >>= q').Begins (front ++ back) → (p' >>= q').Begins front
    turn_closed front back b =
        ⊎_elim
        (λ h. inl (P.closed front back h))
        (λ h. let (a, u, v, e1, su, bv) = h in
        ⊎_elim
        (λ k. inl (P.closed front k.0 (subst (λ w. p'.Begins w) k.1 (P.begun a u su))))
        (λ k. inr (a, u, k.0, k.1, su, (Q a).closed k.0 back (subst (λ w. (q' a).Begins w) k.2 bv)))
        (cut_point front back u v e1))
        b

    pub in_turn : Reads class m (p >>= q) (p' >>= q') (after run next) (f ++ if_empty e g) (e && d) (goes' ++ if_empty d goes)
    in_turn = record {
      sound = turn_sound;
      stuck = turn_stuck;
      none = inl P.none;
      begun = λ b front s. let (a, u, v, e1, su, sv) = s in inr (a, u, v, e1, su, (Q a).begun b v sv);
      heads = λ b front s. let (a, u, v, e1, su, sv) = s in subst (λ w. Heads class (f ++ if_empty e g) (e && d) w) (sym e1) (heads_append f g e d u v (P.heads a u su) ((Q a).heads b v sv));
      starts = turn_starts;
      complete = turn_complete;
      reach = turn_reach;
      closed = turn_closed;
    }

  pub next_part : {A B : Type 0} {m : ℕ} {p p' : Part A} {q q' : A → Part B} {run : Reader A} {next : A → Reader B} {f g goes goes' : List Class} {e d : Bool} → Reads class m p p' run f e goes → ((a : A) → Reads class m (q a) (q' a) (next a) g d goes') → disjoint g goes ≡ true → Reads class m (p >>= q) (p' >>= q') (after run next) (f ++ if_empty e g) (e && d) (goes' ++ if_empty d goes)
  next_part {m = m} P Q x = in_turn m m _ _ _ _ _ _ _ _ _ _ _ _ (omega arith) (λ h. le_refl m) x P Q

  -- after a word there are fewer
  pub inside : {A B : Type 0} {m : ℕ} {p p' : Part A} {q q' : A → Part B} {run : Reader A} {next : A → Reader B} {f g goes goes' : List Class} {d : Bool} → Reads class (suc m) p p' run f false goes → ((a : A) → Reads class m (q a) (q' a) (next a) g d goes') → disjoint g goes ≡ true → Reads class (suc m) (p >>= q) (p' >>= q') (after run next) (f ++ []) false (goes' ++ if_empty d goes)
  inside {m = m} P Q x = in_turn (suc m) m _ _ _ _ _ _ _ _ _ _ false _ (omega arith) (λ h. cc) x P Q
