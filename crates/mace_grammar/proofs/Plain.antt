-- Where tokens stand makes no difference to what is read of them, but for the places in it.
use Rattle.std.proofs.Common.{◌≡◌, ℕ, zero, suc, List, [], ◌∷◌, map, length, Option, Some, None, Ok, Err, Bool, true, false, refl, ◌∙◌, ap}
use Rattle.std.specs.Prelude.{if◌then◌else◌}
use Rattle.std.specs.Option.{option_map}
use Rattle.mace_lexer.specs.declared.token.Token.{Token}
use Rattle.mace_grammar.specs.declared.class.Class.{Class}
use Rattle.mace_grammar.specs.inner.Run.{Reader, Outcome, and_then, give, after, outcome_of, word, sees, choice, each, each_of, some, with_front, nested_reader}
use Rattle.mace_grammar.specs.inner.Classes as classes
use Rattle.mace_grammar.specs.Words.{Edition}
use Rattle.mace_grammar.specs.Spelled.{plain_token}

-- the same words, standing nowhere
abbrev pub erased : List Token → List Token
erased = map (λ t. plain_token t.word)

abbrev pub map_outcome : {A B : Type 0} → (A → B) → Outcome A → Outcome B
map_outcome h (Ok p) = Ok (h p.0, erased p.1)
map_outcome h (Err rest) = Err (erased rest)

-- on erased tokens the second reader gives what the first gives, changed so
pub record Natural {A B : Type 0} (h : A → B) (run : Reader A) (run' : Reader B) : Type 0 where
  pub same : (ts : List Token) → run' (erased ts) ≡ map_outcome h (run ts)

pub natural_give : {A B : Type 0} (h : A → B) (x : A) (y : B) → y ≡ h x → Natural h (give x) (give y)
natural_give h x y e = record { same = λ ts. ap (λ z. Ok (z, erased ts)) e }

pub natural_then : {A B C D : Type 0} {h : A → B} {g : C → D} {run : Reader A} {run' : Reader B} {next : A → Reader C} (next' : B → Reader D) → Natural h run run' → ((a : A) → Natural g (next a) (next' (h a))) → Natural g (after run next) (after run' next')
natural_then {A = A} {C = C} {h = h} {g = g} {run = run} {next = next} next' P Q = record { same = λ ts. ap (λ o. and_then o next') (P.same ts) ∙ go (run ts) }
  where
    go : (o : Outcome A) → and_then (map_outcome h o) next' ≡ map_outcome g (and_then o next)
    go (Ok p) = (Q p.0).same p.1
    go (Err rest) = refl

pub natural_word : {A B : Type 0} (h : A → B) (f : Token → Option A) (f' : Token → Option B) → ((t : Token) → f' (plain_token t.word) ≡ option_map h (f t)) → Natural h (word f) (word f')
natural_word {A = A} h f f' e = record { same = go }
  where
    seen : (all rest : List Token) (o : Option A) → outcome_of (erased all) (erased rest) (option_map h o) ≡ map_outcome h (outcome_of all rest o)
    seen all rest (Some a) = refl
    seen all rest None = refl

    go : (ts : List Token) → word f' (erased ts) ≡ map_outcome h (word f ts)
    go [] = refl
    go (t ∷ ts) = ap (outcome_of (erased (t ∷ ts)) (erased ts)) (e t) ∙ seen (t ∷ ts) ts (f t)

pub same_length : (ts : List Token) → length (erased ts) ≡ length ts
same_length [] = refl
same_length (t ∷ ts) = ap suc (same_length ts)

pub natural_some : {A B : Type 0} {h : A → B} {run : Reader A} {run' : Reader B} → Natural h run run' → Natural (option_map h) (some run) (some run')
natural_some {h = h} P = natural_then (λ b. give (Some b)) P (λ a. natural_give (option_map h) (Some a) (Some (h a)) refl)

module _ (edition : Edition) where
  abbrev kind : Token → Class
  kind = classes.kind edition

  same_sight : (set : List Class) (ts : List Token) → sees kind set (erased ts) ≡ sees kind set ts
  same_sight set [] = refl
  same_sight set (t ∷ ts) = refl

  chosen : {A B : Type 0} (h : A → B) (b : Bool) (o o' : Outcome A) → (if b then map_outcome h o else map_outcome h o') ≡ map_outcome h (if b then o else o')
  chosen h true o o' = refl
  chosen h false o o' = refl

  pub natural_choice : {A B : Type 0} {h : A → B} {p q : Reader A} {p' q' : Reader B} (set : List Class) → Natural h p p' → Natural h q q' → Natural h (choice kind set p q) (choice kind set p' q')
  natural_choice {h = h} {p = p} {q = q} {p' = p'} {q' = q'} set P Q = record {
    same = λ ts.
        ap (λ b. if b then p' (erased ts) else q' (erased ts)) (same_sight set ts)
        ∙ ap (λ o. if sees kind set ts then o else q' (erased ts)) (P.same ts)
        ∙ ap (λ o. if sees kind set ts then map_outcome h (p ts) else o) (Q.same ts)
        ∙ chosen h (sees kind set ts) (p ts) (q ts);
  }

  pub natural_each : {A B : Type 0} {h : A → B} {run : Reader A} {run' : Reader B} (set : List Class) → Natural h run run' → (k : ℕ) → Natural (map h) (each kind set run k) (each kind set run' k)
  natural_each set P zero = record { same = λ ts. refl }
  natural_each {A = A} {B = B} {h = h} {run = run} {run' = run'} set P (suc k) =
      let E = natural_each set P k in
      record {
        same = λ ts.
            ap (λ b. if b then and_then (run' (erased ts)) (λ a r. and_then (each kind set run' k r) (with_front a)) else Ok ([], erased ts)) (same_sight set ts)
            ∙ ap (λ o. if sees kind set ts then o else Ok ([], erased ts)) ((turn E).same ts)
            ∙ chosen (map h) (sees kind set ts) (and_then (run ts) (λ a r. and_then (each kind set run k r) (with_front a))) (Ok ([], ts));
      }
    where
      front : (a : A) → (o : Outcome (List A)) → and_then (map_outcome (map h) o) (with_front (h a)) ≡ map_outcome (map h) (and_then o (with_front a))
      front a (Ok p) = refl
      front a (Err rest) = refl

      turn : Natural (map h) (each kind set run k) (each kind set run' k) → Natural (map h) (after run (λ a r. and_then (each kind set run k r) (with_front a))) (after run' (λ a r. and_then (each kind set run' k r) (with_front a)))
      turn E = natural_then (λ a r. and_then (each kind set run' k r) (with_front a)) P (λ a. record { same = λ r. ap (λ o. and_then o (with_front (h a))) (E.same r) ∙ front a (each kind set run k r) })

  pub natural_each_of : {A B : Type 0} {h : A → B} {run : Reader A} {run' : Reader B} (set : List Class) → Natural h run run' → Natural (map h) (each_of kind set run) (each_of kind set run')
  natural_each_of {run' = run'} set P = record { same = λ ts. ap (λ n. each kind set run' n (erased ts)) (same_length ts) ∙ (natural_each set P (length ts)).same ts }

  pub natural_maybe : {A B : Type 0} {h : A → B} {run : Reader A} {run' : Reader B} (set : List Class) → Natural h run run' → Natural (option_map h) (choice kind set (some run) (give None)) (choice kind set (some run') (give None))
  natural_maybe {h = h} set P = natural_choice set (natural_some P) (natural_give (option_map h) None None refl)

pub natural_deeper : {A : Type 0} (h : A → A) (body : ℕ → Reader A → Reader A) → ((n : ℕ) (run : Reader A) → Natural h run run → Natural h (body n run) (body n run)) → (n : ℕ) → Natural h (nested_reader body n) (nested_reader body n)
natural_deeper h body step zero = record { same = λ ts. refl }
natural_deeper h body step (suc n) = record { same = λ ts. (step n (nested_reader body n) (natural_deeper h body step n)).same ts }
