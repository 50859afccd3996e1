-- The branches that begin alike, with what is common in front.
use Rattle.std.proofs.Common.{◌⊎◌, inl, inr}
use Rattle.mace_grammar.specs.Part.{Part, ◌>>=◌, ◌or◌}
use Rattle.mace_grammar.proofs.Same.{Same, same_refl, same_trans, same_or, same_front}

-- ---- the branches that begin with a name

module _ {A B : Type 0} (p : Part A) (q r : A → Part B) where
  pub two_fronts : Same (p >>= (λ a. q a or r a)) ((p >>= q) or (p >>= r))
  two_fronts = same_front p q r

module _ {A B : Type 0} (p : Part A) (q1 q2 q3 : A → Part B) where
  pub three_fronts : Same (p >>= (λ a. q1 a or (q2 a or q3 a))) ((p >>= q1) or ((p >>= q2) or (p >>= q3)))
  three_fronts = same_trans _ _ _ (same_front p q1 (λ a. q2 a or q3 a)) (same_or _ _ _ _ (same_refl (p >>= q1)) (same_front p q2 q3))

module _ {A B : Type 0} (p : Part A) (q1 q2 q3 q4 q5 q6 : A → Part B) where
  four : Same (p >>= (λ a. q3 a or (q4 a or (q5 a or q6 a)))) ((p >>= q3) or ((p >>= q4) or ((p >>= q5) or (p >>= q6))))
  four = same_trans _ _ _ (same_front p q3 (λ a. q4 a or (q5 a or q6 a))) (same_or _ _ _ _ (same_refl (p >>= q3)) (three_fronts p q4 q5 q6))

  pub six_fronts : Same (p >>= (λ a. q1 a or (q2 a or (q3 a or (q4 a or (q5 a or q6 a)))))) ((p >>= q1) or ((p >>= q2) or ((p >>= q3) or ((p >>= q4) or ((p >>= q5) or (p >>= q6))))))
  six_fronts = same_trans _ _ _ (same_front p q1 (λ a. q2 a or (q3 a or (q4 a or (q5 a or q6 a))))) (same_or _ _ _ _ (same_refl (p >>= q1)) (same_trans _ _ _ (same_front p q2 (λ a. q3 a or (q4 a or (q5 a or q6 a)))) (same_or _ _ _ _ (same_refl (p >>= q2)) four)))

-- ---- other orders of branches

module _ {C F A K I R : Type 0} where
  sorted : C ⊎ ((F ⊎ A) ⊎ ((K ⊎ I) ⊎ R)) → R ⊎ (A ⊎ (C ⊎ (I ⊎ (F ⊎ K))))
  sorted (inl c) = inr (inr (inl c))
  sorted (inr (inl (inl f))) = inr (inr (inr (inr (inl f))))
  sorted (inr (inl (inr a))) = inr (inl a)
  sorted (inr (inr (inl (inl k)))) = inr (inr (inr (inr (inr k))))
  sorted (inr (inr (inl (inr i)))) = inr (inr (inr (inl i)))
  sorted (inr (inr (inr r))) = inl r

  mixed : R ⊎ (A ⊎ (C ⊎ (I ⊎ (F ⊎ K)))) → C ⊎ ((F ⊎ A) ⊎ ((K ⊎ I) ⊎ R))
  mixed (inl r) = inr (inr (inr r))
  mixed (inr (inl a)) = inr (inl (inr a))
  mixed (inr (inr (inl c))) = inl c
  mixed (inr (inr (inr (inl i)))) = inr (inr (inl (inr i)))
  mixed (inr (inr (inr (inr (inl f))))) = inr (inl (inl f))
  mixed (inr (inr (inr (inr (inr k))))) = inr (inr (inl (inl k)))

pub same_six : {A : Type 0} (c f a k i r : Part A) → Same (c or ((f or a) or ((k or i) or r))) (r or (a or (c or (i or (f or k)))))
same_six c f a k i r = record {
  spells = λ x ts s. sorted s;
  begins = λ ts b. sorted b;
  spells_back = λ x ts s. mixed s;
  begins_back = λ ts b. mixed b;
}

module _ {D K X B T : Type 0} where
  sorted_five : D ⊎ ((K ⊎ X) ⊎ (B ⊎ T)) → (D ⊎ (X ⊎ T)) ⊎ (B ⊎ K)
  sorted_five (inl d) = inl (inl d)
  sorted_five (inr (inl (inl k))) = inr (inr k)
  sorted_five (inr (inl (inr x))) = inl (inr (inl x))
  sorted_five (inr (inr (inl b))) = inr (inl b)
  sorted_five (inr (inr (inr t))) = inl (inr (inr t))

  mixed_five : (D ⊎ (X ⊎ T)) ⊎ (B ⊎ K) → D ⊎ ((K ⊎ X) ⊎ (B ⊎ T))
  mixed_five (inl (inl d)) = inl d
  mixed_five (inl (inr (inl x))) = inr (inl (inr x))
  mixed_five (inl (inr (inr t))) = inr (inr (inr t))
  mixed_five (inr (inl b)) = inr (inr (inl b))
  mixed_five (inr (inr k)) = inr (inl (inl k))

pub same_five : {A : Type 0} (d k x b t : Part A) → Same (d or ((k or x) or (b or t))) ((d or (x or t)) or (b or k))
same_five d k x b t = record {
  spells = λ y ts s. sorted_five s;
  begins = λ ts w. sorted_five w;
  spells_back = λ y ts s. mixed_five s;
  begins_back = λ ts w. mixed_five w;
}
