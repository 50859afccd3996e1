-- What a production says: which tokens spell which of its values, and which tokens begin it.
use Rattle.std.specs.Prelude.{◌≡◌, ℕ, zero, suc, ◌⊎◌, List, [], ◌∷◌, ◌++◌, Option, Some, None, IsSome}
use Rattle.mace_lexer.specs.declared.token.Token.{Token}

pub record Part (A : Type 0) : Type 1 where
  pub Spells : A → List Token → Type 0
  pub Begins : List Token → Type 0

-- nothing spells it
abbrev pub never : {A : Type 0} → Part A
never = record { Spells = λ a ts. ⊥; Begins = λ ts. ts ≡ [] }

-- no tokens at all, with this value
abbrev pub pure : {A : Type 0} → A → Part A
pure x = record { Spells = λ a ts. (a ≡ x) × (ts ≡ []); Begins = λ ts. ts ≡ [] }

-- one token, which has this value: begun by the empty list and by itself
abbrev pub one : {A : Type 0} → (Token → Option A) → Part A
one f = record {
  Spells = λ a ts. (t : Token) × (ts ≡ t ∷ []) × (f t ≡ Some a);
  Begins = λ ts. (ts ≡ []) ⊎ ((t : Token) × (ts ≡ t ∷ []) × IsSome (f t));
}

-- a part, and then the part that follows that value: begun by what begins the first, and by a spelling of the first with what begins the second behind it
infixl 10 ◌>>=◌
abbrev pub ◌>>=◌ : {A B : Type 0} → Part A → (A → Part B) → Part B
◌>>=◌ {A} {B} p q = record {
  Spells = λ b ts. (a : A) × (front : List Token) × (back : List Token) × (ts ≡ front ++ back) × p.Spells a front × (q a).Spells b back;
  Begins = λ ts. p.Begins ts ⊎ ((a : A) × (front : List Token) × (back : List Token) × (ts ≡ front ++ back) × p.Spells a front × (q a).Begins back);
}

infixl 10 ◌>>◌
abbrev pub ◌>>◌ : {A B : Type 0} → Part A → Part B → Part B
p >> q = p >>= (λ _. q)

-- one of two
infixr 9 ◌or◌
abbrev pub ◌or◌ : {A : Type 0} → Part A → Part A → Part A
p or q = record { Spells = λ a ts. p.Spells a ts ⊎ q.Spells a ts; Begins = λ ts. p.Begins ts ⊎ q.Begins ts }

abbrev pub SpellsAll : {A : Type 0} → Part A → List A → List Token → Type 0
SpellsAll p [] ts = ts ≡ []
SpellsAll p (a ∷ others) ts = (front : List Token) × (back : List Token) × (ts ≡ front ++ back) × p.Spells a front × SpellsAll p others back

-- any number of spelled items; begun by some of them, none among these, and then by what begins an item
abbrev pub many : {A : Type 0} → Part A → Part (List A)
many {A} p = record {
  Spells = SpellsAll p;
  Begins = λ ts. (items : List A) × (front : List Token) × (back : List Token) × (ts ≡ front ++ back) × SpellsAll p items front × p.Begins back;
}

abbrev pub SpellsMaybe : {A : Type 0} → Part A → Option A → List Token → Type 0
SpellsMaybe p None ts = ts ≡ []
SpellsMaybe p (Some a) ts = p.Spells a ts

-- a part that may be left out
abbrev pub maybe : {A : Type 0} → Part A → Part (Option A)
maybe {A} p = record { Spells = SpellsMaybe p; Begins = p.Begins }

-- a part that leads back to itself, at most this deep
abbrev pub nested_part : {A : Type 0} → (Part A → Part A) → ℕ → Part A
nested_part body zero = never
nested_part body (suc n) = body (nested_part body n)

-- the same, however deep
abbrev pub deep_part : {A : Type 0} → (Part A → Part A) → Part A
deep_part body = record { Spells = λ a ts. (n : ℕ) × (nested_part body n).Spells a ts; Begins = λ ts. (n : ℕ) × (nested_part body n).Begins ts }
