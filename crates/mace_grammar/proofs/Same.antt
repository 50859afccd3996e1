-- Other forms of parts.
use Rattle.std.proofs.Common.{◌≡◌, List, [], ◌++◌, Option, Some, None, inl, inr, refl, ⊎_elim}
use Rattle.mace_lexer.specs.declared.token.Token.{Token}
use Rattle.mace_grammar.specs.Part.{Part, ◌>>=◌, ◌or◌, maybe}

-- the same spellings, and the same beginnings
pub record Same {A : Type 0} (p q : Part A) : Type 0 where
  pub spells : (a : A) (ts : List Token) → p.Spells a ts → q.Spells a ts
  pub begins : (ts : List Token) → p.Begins ts → q.Begins ts
  pub spells_back : (a : A) (ts : List Token) → q.Spells a ts → p.Spells a ts
  pub begins_back : (ts : List Token) → q.Begins ts → p.Begins ts

-- two branches that begin alike
pub same_front : {A B : Type 0} (p : Part A) (q r : A → Part B) → Same (p >>= (λ a. q a or r a)) ((p >>= q) or (p >>= r))
same_front p q r = record {
  spells = λ b ts s. let (a, u, v, e, su, sv) = s in ⊎_elim (λ h. inl (a, u, v, e, su, h)) (λ h. inr (a, u, v, e, su, h)) sv;
  begins = λ ts b. ⊎_elim (λ h. inl (inl h)) (λ h. let (a, u, v, e, su, bv) = h in ⊎_elim (λ k. inl (inr (a, u, v, e, su, k))) (λ k. inr (inr (a, u, v, e, su, k))) bv) b;
  spells_back = λ b ts s. ⊎_elim (λ h. let (a, u, v, e, su, sv) = h in (a, u, v, e, su, inl sv)) (λ h. let (a, u, v, e, su, sv) = h in (a, u, v, e, su, inr sv)) s;
  begins_back = λ ts b. ⊎_elim (λ h. ⊎_elim (λ k. inl k) (λ k. let (a, u, v, e, su, bv) = k in inr (a, u, v, e, su, inl bv)) h) (λ h. ⊎_elim (λ k. inl k) (λ k. let (a, u, v, e, su, bv) = k in inr (a, u, v, e, su, inr bv)) h) b;
}

pub same_refl : {A : Type 0} (p : Part A) → Same p p
same_refl p = record { spells = λ a ts s. s; begins = λ ts b. b; spells_back = λ a ts s. s; begins_back = λ ts b. b }

pub same_trans : {A : Type 0} (p q r : Part A) → Same p q → Same q r → Same p r
same_trans p q r S T = record {
  spells = λ a ts s. T.spells a ts (S.spells a ts s);
  begins = λ ts b. T.begins ts (S.begins ts b);
  spells_back = λ a ts s. S.spells_back a ts (T.spells_back a ts s);
  begins_back = λ ts b. S.begins_back ts (T.begins_back ts b);
}

pub same_or : {A : Type 0} (p p' q q' : Part A) → Same p p' → Same q q' → Same (p or q) (p' or q')
same_or p p' q q' S T = record {
  spells = λ a ts s. ⊎_elim (λ h. inl (S.spells a ts h)) (λ h. inr (T.spells a ts h)) s;
  begins = λ ts b. ⊎_elim (λ h. inl (S.begins ts h)) (λ h. inr (T.begins ts h)) b;
  spells_back = λ a ts s. ⊎_elim (λ h. inl (S.spells_back a ts h)) (λ h. inr (T.spells_back a ts h)) s;
  begins_back = λ ts b. ⊎_elim (λ h. inl (S.begins_back ts h)) (λ h. inr (T.begins_back ts h)) b;
}

pub same_behind : {A B : Type 0} (p : Part A) (q q' : A → Part B) → ((a : A) → Same (q a) (q' a)) → Same (p >>= q) (p >>= q')
same_behind p q q' S = record {
  spells = λ b ts s. let (a, u, v, e, su, sv) = s in (a, u, v, e, su, (S a).spells b v sv);
  begins = λ ts b. ⊎_elim (λ h. inl h) (λ h. let (a, u, v, e, su, bv) = h in inr (a, u, v, e, su, (S a).begins v bv)) b;
  spells_back = λ b ts s. let (a, u, v, e, su, sv) = s in (a, u, v, e, su, (S a).spells_back b v sv);
  begins_back = λ ts b. ⊎_elim (λ h. inl h) (λ h. let (a, u, v, e, su, bv) = h in inr (a, u, v, e, su, (S a).begins_back v bv)) b;
}

-- a part that may be left out is there, or it is not
pub same_maybe : {A B : Type 0} (p : Part A) (q : Option A → Part B) → Same ((p >>= (λ a. q (Some a))) or q None) (maybe p >>= q)
same_maybe {A = A} {B = B} p q = record {
  spells = λ b ts s. ⊎_elim (λ h. let (a, u, v, e, su, sv) = h in (Some a, u, v, e, su, sv)) (λ h. (None, [], ts, refl, refl, h)) s;
  begins = λ ts b. ⊎_elim (λ h. ⊎_elim (λ k. inl k) (λ k. let (a, u, v, e, su, bv) = k in inr (Some a, u, v, e, su, bv)) h) (λ h. inr (None, [], ts, refl, refl, h)) b;
  spells_back = λ b ts s. let (o, u, v, e, su, sv) = s in there o b ts u v e su sv;
  begins_back = λ ts b. ⊎_elim (λ h. inl (inl h)) (λ h. let (o, u, v, e, su, bv) = h in begun o ts u v e su bv) b;
}
  where
    there : (o : Option A) (b : B) (ts u v : List Token) → ts ≡ u ++ v → (maybe p).Spells o u → (q o).Spells b v → ((p >>= (λ a. q (Some a))) or q None).Spells b ts
    there (Some a) b ts u v e su sv = inl (a, u, v, e, su, sv)
    there None b ts u v e su sv = let w : ts ≡ v = rw (e, su) refl in inr (rw w sv)

    begun : (o : Option A) (ts u v : List Token) → ts ≡ u ++ v → (maybe p).Spells o u → (q o).Begins v → ((p >>= (λ a. q (Some a))) or q None).Begins ts
    begun (Some a) ts u v e su bv = inl (inr (a, u, v, e, su, bv))
    begun None ts u v e su bv = let w : ts ≡ v = rw (e, su) refl in inr (rw w bv)
