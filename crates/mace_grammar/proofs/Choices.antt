-- One of two parts, and a part that may be left out.
use Rattle.std.proofs.Common.{◌≡◌, ℕ, ◌<◌, ◌≤◌, inl, inr, List, [], ◌∷◌, ◌++◌, length, Option, Some, None, Ok, Err, Bool, true, false, refl, sym, ◌∙◌, subst, arith, ⊎_elim, append-nil}
use Rattle.mace_lexer.specs.declared.token.Token.{Token}
use Rattle.mace_grammar.specs.declared.class.Class.{Class}
use Rattle.mace_grammar.specs.inner.Run.{Reader, give, has, sees, choice, some}
use Rattle.mace_grammar.specs.Part.{Part, pure, ◌>>=◌, ◌or◌, maybe, SpellsMaybe}
use Rattle.mace_grammar.proofs.ClassSets.{disjoint, has-left, has-right, apart, if_empty}
use Rattle.mace_grammar.proofs.Outcomes.{left, split_err, chosen, chosen_true, chosen_false, chosen_left}
use Rattle.mace_grammar.proofs.Reading.{Reads, Heads, shorter, held, less_sees, more_heads}
use Rattle.mace_grammar.proofs.InTurn.{reads_pure, in_turn}

there : {A : Type 0} (p : Part A) (o : Option A) (ts : List Token) → ((p >>= (λ a. pure (Some a))) or pure None).Spells o ts → SpellsMaybe p o ts
there p o ts s = ⊎_elim (λ h. let (a, u, v, e, su, sv) = h in rw (sv.0, e, sv.1, append-nil u) su) (λ h. rw (h.0, h.1) refl) s

there_back : {A : Type 0} (p : Part A) (o : Option A) (ts : List Token) → SpellsMaybe p o ts → ((p >>= (λ a. pure (Some a))) or pure None).Spells o ts
there_back p None ts s = inr (refl, s)
there_back p (Some a) ts s = inl (a, ts, [], sym (append-nil ts), s, (refl, refl))

module _ (class : Token → Class) where
  right_heads : (f g : List Class) (e : Bool) (u : List Token) → Heads class g e u → Heads class (f ++ g) e u
  right_heads f g e [] h = h
  right_heads f g e (t ∷ u) h = has-right f g (class t) h

  left_heads : (f g : List Class) (e : Bool) (u : List Token) → Heads class f false u → Heads class (f ++ g) e u
  left_heads f g e [] h = cc
  left_heads f g e (t ∷ u) h = has-left f g (class t) h

  module _ {A : Type 0} (m : ℕ) (p p' q q' : Part A) (run run' : Reader A) (f g goes goes' : List Class) (d : Bool) (x : disjoint g f ≡ true) (P : Reads class m p p' run f false goes) (Q : Reads class m q q' run' g d goes') where
    other_first : (u rest : List Token) → Heads class g d u → sees class ((goes ++ goes') ++ if_empty d f) rest ≡ false → sees class f (u ++ rest) ≡ false
    other_first u rest h k = held class g f (goes ++ goes') d u rest x h k

    first_first : (u rest : List Token) → Heads class f false u → sees class f (u ++ rest) ≡ true
    first_first [] rest h = cc
    first_first (t ∷ u) rest h = h

    choice_reach : (front rest : List Token) → length (front ++ rest) < m → (p' or q').Begins front → left (choice class f run run' (front ++ rest)) ≤ length rest
    choice_reach [] rest l b = chosen_left (sees class f rest) (run rest) (run' rest) (length rest) (shorter class m p p' run f false goes P rest) (shorter class m q q' run' g d goes' Q rest)
    choice_reach (t ∷ u) rest l b =
        ⊎_elim
        (λ h. rw (chosen_true (has f (class t)) (run (t ∷ (u ++ rest))) (run' (t ∷ (u ++ rest))) (P.starts (t ∷ u) h)) (P.reach (t ∷ u) rest l h))
        (λ h. rw (chosen_false (has f (class t)) (run (t ∷ (u ++ rest))) (run' (t ∷ (u ++ rest))) (apart g f (class t) x (Q.starts (t ∷ u) h))) (Q.reach (t ∷ u) rest l h))
        b

    pub reads_choice : Reads class m (p or q) (p' or q') (choice class f run run') (f ++ g) d ((goes ++ goes') ++ if_empty d f)
    reads_choice = record {
      sound = λ ts rest a e.
          ⊎_elim
          (λ h. let s = P.sound ts rest a h.1 in (s.0, s.1, inl s.2))
          (λ h. let s = Q.sound ts rest a h.1 in (s.0, s.1, inr s.2))
          (chosen (sees class f ts) (run ts) (run' ts) (Ok (a, rest)) e);
      stuck = λ ts rest e.
          ⊎_elim
          (λ h. let s = P.stuck ts rest h.1 in (s.0, s.1, inl s.2))
          (λ h. let s = Q.stuck ts rest h.1 in (s.0, s.1, inr s.2))
          (chosen (sees class f ts) (run ts) (run' ts) (Err rest) e);
      none = inl P.none;
      begun = λ a front s. ⊎_elim (λ h. inl (P.begun a front h)) (λ h. inr (Q.begun a front h)) s;
      heads = λ a front s. ⊎_elim (λ h. left_heads f g d front (P.heads a front h)) (λ h. right_heads f g d front (Q.heads a front h)) s;
      starts = λ front s. ⊎_elim (λ h. more_heads class f g front (P.starts front h)) (λ h. right_heads f g true front (Q.starts front h)) s;
      complete = λ a front rest l s k.
          let k1 = less_sees class (goes ++ goes') (if_empty d f) rest k in
          let k2 = less_sees class goes goes' rest k1.0 in
          ⊎_elim
          (λ h. chosen_true (sees class f (front ++ rest)) (run (front ++ rest)) (run' (front ++ rest)) (first_first front rest (P.heads a front h)) ∙ P.complete a front rest l h k2.0)
          (λ h. chosen_false (sees class f (front ++ rest)) (run (front ++ rest)) (run' (front ++ rest)) (other_first front rest (Q.heads a front h) k) ∙ Q.complete a front rest l h k2.1)
          s;
      reach = choice_reach;
      closed = λ front back b. ⊎_elim (λ h. inl (P.closed front back h)) (λ h. inr (Q.closed front back h)) b;
    }

  pub either : {A : Type 0} {m : ℕ} {p p' q q' : Part A} {run run' : Reader A} {f g goes goes' : List Class} {d : Bool} → Reads class m p p' run f false goes → Reads class m q q' run' g d goes' → disjoint g f ≡ true → Reads class m (p or q) (p' or q') (choice class f run run') (f ++ g) d ((goes ++ goes') ++ if_empty d f)
  either {m = m} P Q x = reads_choice m _ _ _ _ _ _ _ _ _ _ _ x P Q

  -- ---- a part that may be left out

  module _ {A : Type 0} (m : ℕ) (p p' : Part A) (run : Reader A) (f goes : List Class) (P : Reads class m p p' run f false goes) where
    as_choice : Reads class m ((p >>= (λ a. pure (Some a))) or pure None) ((p' >>= (λ a. pure (Some a))) or pure None) (choice class f (some run) (give None)) f true (goes ++ f)
    as_choice =
        let turn = in_turn class m m p p' (λ a. pure (Some a)) (λ a. pure (Some a)) run (λ a. give (Some a)) f [] goes [] false true (omega arith) (λ h. omega arith) refl P (λ a. reads_pure class m (Some a)) in
        let c = reads_choice m (p >>= (λ a. pure (Some a))) (p' >>= (λ a. pure (Some a))) (pure None) (pure None) (some run) (give None) (f ++ []) [] goes [] true refl turn (reads_pure class m None) in
        let left_part = (p >>= (λ a. pure (Some a))) or pure None in
        let right_part = (p' >>= (λ a. pure (Some a))) or pure None in
        let c1 = subst (λ w. Reads class m left_part right_part (choice class w (some run) (give None)) (w ++ []) true ((goes ++ []) ++ w)) (append-nil f) c in
        let c2 = subst (λ w. Reads class m left_part right_part (choice class f (some run) (give None)) w true ((goes ++ []) ++ f)) (append-nil f) c1 in
        subst (λ w. Reads class m left_part right_part (choice class f (some run) (give None)) f true (w ++ f)) (append-nil goes) c2

    maybe_stuck : (ts rest : List Token) → choice class f (some run) (give None) ts ≡ Err rest → (front : List Token) × (ts ≡ front ++ rest) × p.Begins front
    maybe_stuck ts rest e =
        ⊎_elim
        (λ h. ⊎_elim (λ k. P.stuck ts rest k) (λ k. let no : ⊥ = cc (k.3) in absurd no) (split_err (run ts) (λ a. give (Some a)) rest h.1))
        (λ h. let no : ⊥ = cc (h.1) in absurd no)
        (chosen (sees class f ts) (some run ts) (give None ts) (Err rest) e)

    pub reads_maybe : Reads class m (maybe p) (maybe p') (choice class f (some run) (give None)) f true (goes ++ f)
    reads_maybe = let c = as_choice in record {
      sound = λ ts rest a e. let s = c.sound ts rest a e in (s.0, s.1, there p a s.0 s.2);
      stuck = maybe_stuck;
      none = P.none;
      begun = maybe_begun;
      heads = λ a front s. c.heads a front (there_back p' a front s);
      starts = λ front b. P.starts front b;
      complete = λ a front rest l s k. c.complete a front rest l (there_back p' a front s) k;
      reach = λ front rest l b. c.reach front rest l (inl (inl b));
      closed = λ front back b. P.closed front back b;
    }
      where
        maybe_begun : (o : Option A) (front : List Token) → SpellsMaybe p' o front → p'.Begins front
        maybe_begun None front s = subst (λ w. p'.Begins w) (sym s) P.none
        maybe_begun (Some a) front s = P.begun a front s

  pub optional : {A : Type 0} {m : ℕ} {p p' : Part A} {run : Reader A} {f goes : List Class} → Reads class m p p' run f false goes → Reads class m (maybe p) (maybe p') (choice class f (some run) (give None)) f true (goes ++ f)
  optional {m = m} P = reads_maybe m _ _ _ _ _ P
