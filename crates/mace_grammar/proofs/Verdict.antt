-- The verdict on a whole list of tokens.
use Rattle.std.proofs.Common.{◌≡◌, ℕ, suc, ◌+◌, ◌-◌, ◌<◌, ◌≤◌, List, [], ◌∷◌, ◌++◌, length, take, Ok, Err, Bool, refl, sym, ◌∙◌, ap, subst, arith, append_assoc, length-append}
use Rattle.std.proofs.lemmas.List.{take_at, append-nil}
use Rattle.mace_lexer.specs.declared.token.Token.{Token}
use Rattle.mace_grammar.specs.Part.{Part}
use Rattle.mace_grammar.specs.declared.class.Class.{Class}
use Rattle.mace_grammar.specs.inner.Run.{Outcome, Reader, rest_of}
use Rattle.mace_grammar.proofs.Outcomes.{left}
use Rattle.mace_grammar.proofs.Reading.{Reads, whole_only, front_begins, front_ends}

-- The first k tokens begin the part. With the token behind them they don't; and where there is none, they are no spelling of it.
pub record IsPlace {A : Type 0} (p : Part A) (ts : List Token) (k : ℕ) : Type 0 where
  pub within : k ≤ length ts
  pub begins : p.Begins (take k ts)
  pub ends : k < length ts → p.Begins (take (k + 1) ts) → ⊥
  pub unfinished : k ≡ length ts → (a : A) → p.Spells a ts → ⊥

module _ (class : Token → Class) {A : Type 0} (p : Part A) (run : Reader A) (f goes : List Class) (e : Bool) (ts : List Token) (R : Reads class (suc (length ts)) p p run f e goes) where
  front_len : (front rest : List Token) → ts ≡ front ++ rest → length front ≡ length ts - length rest
  front_len front rest h = omega (arith, ap length h, length-append front rest)

  place_at : (rest front : List Token) → ts ≡ front ++ rest → p.Begins front → left (run ts) ≡ length rest → (rest ≡ [] → (a : A) → run ts ≡ Ok (a, []) → ⊥) → IsPlace p ts (length ts - length rest)
  place_at [] front h b l incomplete = record {
    within = omega arith;
    begins = let k : take (length ts - 0) ts ≡ front = ap (λ w. take (length ts - 0) w) h ∙ take_at front [] (length ts - 0) (front_len front [] h) in subst (λ w. p.Begins w) (sym k) b;
    ends = λ lt. absurd (omega arith);
    unfinished = λ _ a s. incomplete refl a (whole_only class p run f goes e ts R a s);
  }
  place_at (t ∷ rest) front h b l incomplete = record {
    within = omega arith;
    begins = let k : take (length ts - suc (length rest)) ts ≡ front = ap (λ w. take (length ts - suc (length rest)) w) h ∙ take_at front (t ∷ rest) (length ts - suc (length rest)) (front_len front (t ∷ rest) h) in subst (λ w. p.Begins w) (sym k) b;
    ends = λ lt more.
        let k : take (length ts - suc (length rest) + 1) ts ≡ front ++ t ∷ [] = ap (λ w. take (length ts - suc (length rest) + 1) w) (h ∙ sym (append_assoc front (t ∷ []) rest)) ∙ take_at (front ++ t ∷ []) rest (length ts - suc (length rest) + 1) (omega (arith, front_len front (t ∷ rest) h, length-append front (t ∷ []))) in
        front_ends class p run f goes e ts R front t rest h l (subst (λ w. p.Begins w) k more);
    unfinished = λ at. absurd (omega (arith, ap length h, length-append front (t ∷ rest)));
  }

  -- where the reader stops is the place, unless it took all
  pub place : (o : Outcome A) → run ts ≡ o → ((a : A) → o ≡ Ok (a, []) → ⊥) → IsPlace p ts (length ts - length (rest_of o))
  place o h incomplete =
      let b = front_begins class p run f goes e ts R o h (rest_of o) refl in
      place_at (rest_of o) b.0 b.1 b.2 (ap left h ∙ same_left o) (λ _ a k. incomplete a (sym h ∙ k))
    where
      same_left : (o : Outcome A) → left o ≡ length (rest_of o)
      same_left (Ok x) = refl
      same_left (Err r) = refl

  -- a reader that leaves nothing has all tokens begin the part
  pub all_begin : (o : Outcome A) → run ts ≡ o → rest_of o ≡ [] → p.Begins ts
  all_begin o h n =
      let b = front_begins class p run f goes e ts R o h [] (sym n) in
      subst (λ w. p.Begins w) (sym (b.1 ∙ append-nil b.0)) b.2
