-- The first demand that fails in lists one behind the other.
use Rattle.std.proofs.Common.{◌≡◌, Bool, true, false, List, [], ◌∷◌, ◌++◌, Some, None, Result, Ok, Err, refl, ◌∙◌}
use Rattle.std.specs.Prelude.{if◌then◌else◌}
use Rattle.type_rules.specs.declared.error.TypeError.{TypeError}
use Rattle.type_rules.specs.Demands.{Demand, ask, first_wrong, Fails, Judges}

-- where all of the first list holds, the second tells
pub first_wrong_behind : (a b : List Demand) → first_wrong a ≡ None → first_wrong (a ++ b) ≡ first_wrong b
first_wrong_behind [] b h = refl
first_wrong_behind (d ∷ a) b h = go (λ k. first_wrong_behind a b k) d.holds h
  where
    go : (first_wrong a ≡ None → first_wrong (a ++ b) ≡ first_wrong b) → (t : Bool) → (if t then first_wrong a else Some d.wrong) ≡ None → (if t then first_wrong (a ++ b) else Some d.wrong) ≡ first_wrong b
    go below true h = below h
    go below false h = cc

-- what the first list tells stands
pub first_wrong_front : (a b : List Demand) (e : TypeError) → first_wrong a ≡ Some e → first_wrong (a ++ b) ≡ Some e
first_wrong_front [] b e h = cc
first_wrong_front (d ∷ a) b e h = go (λ k. first_wrong_front a b e k) d.holds h
  where
    go : (first_wrong a ≡ Some e → first_wrong (a ++ b) ≡ Some e) → (t : Bool) → (if t then first_wrong a else Some d.wrong) ≡ Some e → (if t then first_wrong (a ++ b) else Some d.wrong) ≡ Some e
    go below true h = below h
    go below false h = h

-- what holds in front holds of both
pub first_wrong_parts : (a b : List Demand) → first_wrong (a ++ b) ≡ None → (first_wrong a ≡ None) × (first_wrong b ≡ None)
first_wrong_parts [] b h = (refl, h)
first_wrong_parts (d ∷ a) b h = go (λ k. first_wrong_parts a b k) d.holds h
  where
    go : (first_wrong (a ++ b) ≡ None → (first_wrong a ≡ None) × (first_wrong b ≡ None)) → (t : Bool) → (if t then first_wrong (a ++ b) else Some d.wrong) ≡ None → ((if t then first_wrong a else Some d.wrong) ≡ None) × (first_wrong b ≡ None)
    go below true h = below h
    go below false h = cc

-- a demand that doesn't hold is told
pub told_here : (holds : Bool) (e : TypeError) (b : List Demand) → holds ≡ false → first_wrong (ask holds e ∷ b) ≡ Some e
told_here holds e b h = rw h refl

pub told_past : (holds : Bool) (e : TypeError) (b : List Demand) → holds ≡ true → first_wrong (ask holds e ∷ b) ≡ first_wrong b
told_past holds e b h = rw h refl

pub holds_both : (a b : List Demand) → first_wrong a ≡ None → first_wrong b ≡ None → first_wrong (a ++ b) ≡ None
holds_both a b h k = first_wrong_behind a b h ∙ k

pub fails_at : (holds : Bool) (e : TypeError) (b : List Demand) → holds ≡ false → Fails (ask holds e ∷ b) e
fails_at holds e b h _ = told_here holds e b h

pub fails_same : (a b : List Demand) (e : TypeError) → first_wrong a ≡ first_wrong b → Fails b e → Fails a e
fails_same a b e h k n = h ∙ k n

-- behind a demand that holds
pub fails_past : (holds : Bool) (w : TypeError) (b : List Demand) (e : TypeError) → holds ≡ true → Fails b e → Fails (ask holds w ∷ b) e
fails_past holds w b e h k n = told_past holds w b h ∙ k n

pub fails_front : (a b : List Demand) (e : TypeError) → Fails a e → Fails (a ++ b) e
fails_front a b e k n = first_wrong_front a b e (k n)

pub fails_behind : (a b : List Demand) (e : TypeError) → first_wrong a ≡ None → Fails b e → Fails (a ++ b) e
fails_behind a b e h k n = first_wrong_behind a b h ∙ k n

-- ---- answers

module _ {A : Type 0} where
  -- the same answer to lists that tell the same, where what is right stays right
  pub judges_same : (a b : List Demand) (P Q : A → Type 0) (r : Result A TypeError) → first_wrong a ≡ first_wrong b → ((x : A) → Q x → P x) → Judges b Q r → Judges a P r
  judges_same a b P Q (Ok x) h f k = (h ∙ k.0, f x k.1)
  judges_same a b P Q (Err e) h f k = fails_same a b e h k

  -- the answer to the rest is the answer to all, where all in front holds
  pub judges_behind : (a b : List Demand) (P Q : A → Type 0) (r : Result A TypeError) → first_wrong a ≡ None → ((x : A) → Q x → P x) → Judges b Q r → Judges (a ++ b) P r
  judges_behind a b P Q r h f k = judges_same (a ++ b) b P Q r (first_wrong_behind a b h) f k
