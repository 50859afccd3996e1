-- One more declaration, and its name in a table of first numbers.
use Rattle.std.proofs.Common.{◌≡◌, ◌≢◌, ◌⊎◌, inl, inr, ◌+◌, ◌<◌, ◌≤◌, ◌^◌, ◌==◌, ◌&&◌, ℕ, Bool, true, false, List, [], ◌∷◌, ◌++◌, length, get_or, set, refl, sym, ap, subst, ◌∙◌, arith}
use Rattle.std.proofs.lemmas.Bool.{cases_lt}
use Rattle.std.proofs.lemmas.Bool.Decides.{eqb_tells}
use Rattle.std.proofs.lemmas.List.{length-append, get_or_append_left, get_or_push, get_or_past}
use Rattle.std.proofs.lemmas.List.Elements.{All-push}
use Rattle.wave_base.specs.declared.shape.ClassInfo.{ClassInfo}
use Rattle.wave_base.specs.declared.shape.EventInfo.{EventInfo}
use Rattle.wave_base.specs.Names.{same_bytes}
use Rattle.type_rules.specs.declared.known.Known.{Known}
use Rattle.type_rules.specs.declared.known.Signature.{Signature}
use Rattle.name_table.specs.Numbers.{numbers_with}
use Rattle.name_table.proofs.Noting.{noted_more, told_blank, told_in}
use Rattle.type_tables.specs.Indexed.{AreAbove, IsIndexed}
use Rattle.type_tables.proofs.Walks.{differ}

-- ---- the classes that one lies in

no_above : (n : ℕ) → AreAbove n []
no_above n = record { earlier = λ k d l. absurd (omega arith); few = omega arith }

-- what comes before a class comes before a later one
pub above_later : (m n : ℕ) (above : List ℕ) → m ≤ n → AreAbove m above → AreAbove n above
above_later m n above le is = record { earlier = λ k d l. (let h = is.earlier k d l in omega arith); few = let f = is.few in omega arith }

-- a class is above those inside it
pub above_inside : (n : ℕ) (above : List ℕ) → AreAbove n above → AreAbove (n + 1) (above ++ n ∷ [])
above_inside n above is = record {
  earlier = All-push (λ c. c < n + 1) above n (above_later n (n + 1) above (omega arith) is).earlier (omega arith);
  few = let e = length-append above (n ∷ []) in let f = is.few in omega arith;
}

-- one class more
above_push : (aboves : List (List ℕ)) (n : ℕ) (above : List ℕ) → length aboves ≡ n → AreAbove n above → ((c : ℕ) → AreAbove c (get_or aboves c [])) → (c : ℕ) → AreAbove c (get_or (aboves ++ above ∷ []) c [])
above_push aboves n above count new old c = by (cases_lt c n) (eqb_tells c n)
  where
    by : (c < n) ⊎ (n ≤ c) → (((c == n) ≡ true) × (c ≡ n)) ⊎ (((c == n) ≡ false) × (c ≢ n)) → AreAbove c (get_or (aboves ++ above ∷ []) c [])
    by (inl l) same = subst (AreAbove c) (sym (get_or_append_left aboves (above ∷ []) [] c (omega arith))) (old c)
    by (inr g) (inl same) = subst (AreAbove c) (sym (get_or_push aboves above [] c (count ∙ sym same.1))) (subst (λ m. AreAbove m above) (sym same.1) new)
    by (inr g) (inr other) =
        let e = length-append aboves (above ∷ []) in
        let ne = other.1 in
        subst (AreAbove c) (sym (get_or_past (aboves ++ above ∷ []) c [] (omega arith))) (no_above c)

-- ---- numbers

one_more : {X : Type 0} (xs : List X) (x : X) → length xs + 1 < 2 ^ 16 → length (xs ++ x ∷ []) < 2 ^ 16
one_more xs x h = let e = length-append xs (x ∷ []) in omega arith

same_number : (n : ℕ) → (n == n) ≡ true
same_number n = by (eqb_tells n n)
  where
    by : (((n == n) ≡ true) × (n ≡ n)) ⊎ (((n == n) ≡ false) × (n ≢ n)) → (n == n) ≡ true
    by (inl e) = e.0
    by (inr e) = absurd (e.1 refl)

-- a method of that name in that class
abbrev has_method : ℕ → List ℕ → Signature → Bool
has_method class name m = m.class == class && same_bytes m.name name

pub indexed_as : (k l : Known) (c d e f : List (List ℕ × ℕ)) (m n : List (List (List ℕ × ℕ))) → k ≡ l → c ≡ d → e ≡ f → m ≡ n → IsIndexed k c e m → IsIndexed l d f n
indexed_as k l c d e f m n a b g h is = subst (λ x. IsIndexed x d f n) a (subst (λ x. IsIndexed k x f n) b (subst (λ x. IsIndexed k c x n) g (subst (λ x. IsIndexed k c e x) h is)))

module _ (k : Known) (classes events : List (List ℕ × ℕ)) (methods : List (List (List ℕ × ℕ))) (is : IsIndexed k classes events methods) where
  pub indexed_class : (info : ClassInfo) (above : List ℕ) (name : List ℕ) → info.name ≡ name → AreAbove (length k.shape.classes) above → length k.above ≡ length k.shape.classes → length k.shape.classes + 1 < 2 ^ 16
      → IsIndexed (record { version = k.version; shape = record { classes = k.shape.classes ++ info ∷ []; events = k.shape.events }; above = k.above ++ above ∷ []; methods = k.methods })
      (numbers_with classes name (length k.shape.classes)) events (methods ++ [] ∷ [])
  indexed_class info above name named earlier aboves room = record {
    class = noted_more (λ q (c : ClassInfo). same_bytes c.name q) k.shape.classes info name (λ q. ap (λ n. same_bytes n q) named) classes is.class;
    event = is.event;
    method = told_blank has_method k.methods methods is.method;
    above = above_push k.above (length k.shape.classes) above aboves earlier is.above;
    few_classes = one_more k.shape.classes info room;
    few_events = is.few_events;
    few_methods = is.few_methods;
  }

  pub indexed_event : (info : EventInfo) (name : List ℕ) → info.name ≡ name → length k.shape.events + 1 < 2 ^ 16
      → IsIndexed (record { version = k.version; shape = record { classes = k.shape.classes; events = k.shape.events ++ info ∷ [] }; above = k.above; methods = k.methods })
      classes (numbers_with events name (length k.shape.events)) methods
  indexed_event info name named room = record {
    class = is.class;
    event = noted_more (λ q (e : EventInfo). same_bytes e.name q) k.shape.events info name (λ q. ap (λ n. same_bytes n q) named) events is.event;
    method = is.method;
    above = is.above;
    few_classes = is.few_classes;
    few_events = one_more k.shape.events info room;
    few_methods = is.few_methods;
  }

  pub indexed_method : (s : Signature) (class : ℕ) (name : List ℕ) → s.class ≡ class → s.name ≡ name → class < length methods → length k.methods + 1 < 2 ^ 16
      → IsIndexed (record { version = k.version; shape = k.shape; above = k.above; methods = k.methods ++ s ∷ [] }) classes events (set methods class (numbers_with (get_or methods class []) name (length k.methods)))
  indexed_method s class name in_class named there room = record {
    class = is.class;
    event = is.event;
    method = told_in has_method k.methods methods is.method s class name
        (λ q. (λ i. (in_class i == class) && same_bytes (named i) q) ∙ ap (λ t. t && same_bytes name q) (same_number class))
        (λ c q h. (λ i. (in_class i == c) && same_bytes s.name q) ∙ ap (λ t. t && same_bytes s.name q) (differ class c h)) there;
    above = is.above;
    few_classes = is.few_classes;
    few_events = is.few_events;
    few_methods = one_more k.methods s room;
  }
