-- A reader of one token.
use Rattle.std.proofs.Common.{◌≡◌, ℕ, ◌≤◌, inl, inr, List, [], ◌∷◌, ◌++◌, length, Option, Some, None, IsSome, Ok, Err, true, false, refl, sym, ◌∙◌, ap, subst, arith, ⊎_elim}
use Rattle.mace_lexer.specs.declared.token.Token.{Token}
use Rattle.mace_grammar.specs.declared.class.Class.{Class}
use Rattle.mace_grammar.specs.inner.Run.{outcome_of, word, has}
use Rattle.mace_grammar.specs.Part.{one}
use Rattle.mace_grammar.proofs.Outcomes.{left, ok_parts, nil_front}
use Rattle.mace_grammar.proofs.Reading.{Reads, Heads}

taken_ok : {A : Type 0} (all rest : List Token) (o : Option A) (a : A) (r : List Token) → outcome_of all rest o ≡ Ok (a, r) → (o ≡ Some a) × (rest ≡ r)
taken_ok all rest (Some b) a r e = let h = ok_parts b a rest r e in (ap Some h.0, h.1)
taken_ok all rest None a r e = cc

taken_err : {A : Type 0} (all rest : List Token) (o : Option A) (r : List Token) → outcome_of all rest o ≡ Err r → all ≡ r
taken_err all rest (Some b) r e = cc
taken_err all rest None r e = cc

taken_left : {A : Type 0} (all rest : List Token) (o : Option A) → IsSome o → left (outcome_of all rest o) ≤ length rest
taken_left all rest (Some b) s = omega arith
taken_left all rest None s = cc

is_some_of : {A : Type 0} (o : Option A) (a : A) → o ≡ Some a → IsSome o
is_some_of (Some b) a e = refl
is_some_of None a e = cc

module _ (class : Token → Class) where
  module _ {A : Type 0} (m : ℕ) (f : Token → Option A) (cs : List Class) (word_class : (t : Token) → IsSome (f t) → has cs (class t) ≡ true) where
    word_sound : (ts rest : List Token) (a : A) → word f ts ≡ Ok (a, rest) → (front : List Token) × (ts ≡ front ++ rest) × (one f).Spells a front
    word_sound [] rest a e = cc
    word_sound (t ∷ ts) rest a e = let h = taken_ok (t ∷ ts) ts (f t) a rest e in (t ∷ [], ap (λ w. t ∷ w) h.1, (t, refl, h.0))

    word_stuck : (ts rest : List Token) → word f ts ≡ Err rest → (front : List Token) × (ts ≡ front ++ rest) × (one f).Begins front
    word_stuck [] rest e = ([], cc, inl refl)
    word_stuck (t ∷ ts) rest e = ([], taken_err (t ∷ ts) ts (f t) rest e, inl refl)

    word_starts : (front : List Token) → (one f).Begins front → Heads class cs true front
    word_starts [] b = refl
    word_starts (t ∷ ts) b = ⊎_elim (λ h. cc) (λ h. let same : t ≡ h.0 = cc in subst (λ s. has cs (class s) ≡ true) (sym same) (word_class h.0 h.2)) b

    word_closed : (front back : List Token) → (one f).Begins (front ++ back) → (one f).Begins front
    word_closed [] back b = inl refl
    word_closed (t ∷ u) back b = ⊎_elim (λ h. let no : ⊥ = cc h in absurd no) (λ h. inr (h.0, one_left t u back h.0 h.1, h.2)) b
      where
        one_left : (t : Token) (u v : List Token) (s : Token) → t ∷ (u ++ v) ≡ s ∷ [] → t ∷ u ≡ s ∷ []
        one_left t u v s e =
            let first : t ≡ s = cc in
            let others : u ++ v ≡ [] = cc in
            rw (first, nil_front u v others) refl

    word_reach : (front rest : List Token) → (one f).Begins front → left (word f (front ++ rest)) ≤ length rest
    word_reach front rest b =
        ⊎_elim
        (λ h. subst (λ w. left (word f (w ++ rest)) ≤ length rest) (sym h) (at_start rest))
        (λ h. subst (λ w. left (word f (w ++ rest)) ≤ length rest) (sym h.1) (taken_left (h.0 ∷ rest) rest (f h.0) h.2))
        b
      where
        at_start : (ts : List Token) → left (word f ts) ≤ length ts
        at_start [] = omega arith
        at_start (t ∷ ts) = any (f t)
          where
            any : (o : Option A) → left (outcome_of (t ∷ ts) ts o) ≤ length (t ∷ ts)
            any (Some b) = omega arith
            any None = omega arith

    pub reads_word : Reads class m (one f) (one f) (word f) cs false []
    reads_word = record {
      sound = word_sound;
      stuck = word_stuck;
      none = inl refl;
      begun = λ a front s. inr (s.0, s.1, is_some_of (f s.0) a s.2);
      heads = λ a front s. subst (λ w. Heads class cs false w) (sym s.1) (word_class s.0 (is_some_of (f s.0) a s.2));
      starts = word_starts;
      complete = λ a front rest l s k. ap (λ w. word f (w ++ rest)) s.1 ∙ ap (λ o. outcome_of (s.0 ∷ rest) rest o) s.2;
      reach = λ front rest l b. word_reach front rest b;
      closed = word_closed;
    }
