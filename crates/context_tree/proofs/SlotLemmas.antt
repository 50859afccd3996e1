-- Slots: the order in which contexts join.
use Rattle.std.proofs.Common.{◌≡◌, ◌+◌, ◌<◌, ◌≤◌, ◌↔◌, ◌||◌, ℕ, zero, suc, Bool, true, false, not, cond, nat_lt, if◌then◌else◌, List, [], ◌∷◌, ◌++◌, length, map, position, slice_get, get_or, MutBor, Option, Some, None, IsSome, IsNone, option_map, is_some, unwrap_or, refl, sym, ap, subst, ◌∙◌, arith}
use mathlib.Core.Bool.{true≢false}
use Rattle.std.proofs.lemmas.Bool.{ltb-true, lt-ltb}
use Rattle.std.proofs.lemmas.List.{length-append}
use Rattle.std.proofs.lemmas.List.Quantifiers.{position-Some}
use Rattle.std.proofs.lemmas.Option.{slice_get-map, slice_get-get_or}
use Rattle.std.specs.List.{position_or_len}
use Rattle.std.specs.List.{list_any}
use Rattle.std.specs.Map.{lookup, keys_of}
use Rattle.wave_base.specs.declared.path.Path.{Path}
use Rattle.wave_base.specs.declared.record.Record.{Record}
use Rattle.wave_base.specs.declared.shape.Shape.{Shape}
use Rattle.wave_base.specs.Paths.{path_eq}
use Rattle.wave_base.specs.PathLaws.{path_eq_decides}
use Rattle.wave_base.specs.Starts.{shown_fields}
use Rattle.context_tree.specs.Contexts.{Contexts, contexts_of, joins, is_there}
use Rattle.context_tree.proofs.KeptLemmas.{shown_record, there_kept}
use Rattle.context_tree.proofs.Ordered.{Entries, any_found}

-- what is found in a list is found there when more stand behind
first_stays : (p : Path → Bool) (xs ys : List Path) → position_or_len p xs < length xs → position_or_len p (xs ++ ys) ≡ position_or_len p xs
first_stays p [] ys h = absurd (omega arith)
first_stays p (x ∷ xs) ys h = by_test (p x) (first_stays p xs ys) h
  where
    by_test : (b : Bool) → (position_or_len p xs < length xs → position_or_len p (xs ++ ys) ≡ position_or_len p xs) → cond (not b) (1 + position_or_len p xs) 0 < suc (length xs)
        → cond (not b) (1 + position_or_len p (xs ++ ys)) 0 ≡ cond (not b) (1 + position_or_len p xs) 0
    by_test true rest l = refl
    by_test false rest l = ap (λ n. 1 + n) (rest (omega arith))

position_stays : (p : Path → Bool) (xs ys : List Path) (i : ℕ) → position p xs ≡ Some i → position p (xs ++ ys) ≡ Some i
position_stays p xs ys i h = by_test (nat_lt (position_or_len p xs) (length xs)) refl h
  where
    by_test : (b : Bool) → nat_lt (position_or_len p xs) (length xs) ≡ b → cond b (Some (position_or_len p xs)) None ≡ Some i → position p (xs ++ ys) ≡ Some i
    by_test false e k = absurd (true≢false (ap is_some (sym k)))
    by_test true e k =
        let within = ltb-true (position_or_len p xs) (length xs) e in
        let same = first_stays p xs ys within in
        let further : position_or_len p (xs ++ ys) < length (xs ++ ys) = rw (same, length-append) (omega arith) in
        ap (λ b. cond b (Some (position_or_len p (xs ++ ys))) None) (lt-ltb (position_or_len p (xs ++ ys)) (length (xs ++ ys)) further) ∙ ap Some same ∙ k

pub slot_stays : (joined : List Path) (p q : Path) (slot : ℕ) → position (path_eq q) joined ≡ Some slot → position (path_eq q) (joins joined p) ≡ Some slot
slot_stays joined p q slot h = by_test (list_any (path_eq p) joined)
  where
    by_test : (b : Bool) → position (path_eq q) (if b then joined else joined ++ p ∷ []) ≡ Some slot
    by_test true = h
    by_test false = position_stays (path_eq q) joined (p ∷ []) slot h

-- a path that is not there joins last
module _ (p : Path) (r : Record) where
  map-append : (es : Entries) → keys_of (es ++ (p, r) ∷ []) ≡ keys_of es ++ p ∷ []
  map-append [] = refl
  map-append (e ∷ es) = ap (λ ks. e.0 ∷ ks) (map-append es)

  pub joins_last : (es fs : Entries) → lookup (path_eq p) es ≡ None → fs ≡ es ++ (p, r) ∷ [] → keys_of fs ≡ joins (keys_of es) p
  joins_last es fs none e =
      ap keys_of e ∙ map-append es
      ∙ ap (λ b. if b then keys_of es else keys_of es ++ p ∷ []) (sym (any_found p es ∙ ap is_some none))

-- one that is there stays where it is
pub joins_kept : (es : Entries) (p : Path) (t : Contexts) → contexts_of es ≡ t → is_some (lookup (path_eq p) es) ≡ true → t.joined ≡ joins t.joined p
joins_kept es p t view h =
    subst (λ (t : Contexts). t.joined ≡ joins t.joined p) view (ap (λ b. if b then keys_of es else keys_of es ++ p ∷ []) (sym (any_found p es ∙ h)))

-- the record in a slot is that of the path that stands there
same_Some : {A : Type 0} (x y : A) → Some x ≡ Some y → x ≡ y
same_Some x y e = ap (λ o. unwrap_or o x) e

pub found_in_slot : (shape : Shape) (es : Entries) (slot : ℕ) (p q : Path) (r : Record) → Some (q, r) ≡ slice_get es slot → lookup (path_eq q) es ≡ Some r → slice_get (keys_of es) slot ≡ Some p
    → r.fields ≡ shown_fields shape (contexts_of es).shots p
found_in_slot shape es slot p q r entry value is =
    let same : q ≡ p = same_Some q p (ap (option_map (λ (e : Path × Record). e.0)) entry ∙ sym (slice_get-map (λ (e : Path × Record). e.0) es slot) ∙ is) in
    sym (shown_record es p r (subst (λ k. lookup (path_eq k) es ≡ Some r) same value) shape)

-- a record whose path is found to be another's is that one's
module _ (es : Entries) (p q : Path) (r : Record) (h : lookup (path_eq q) es ≡ Some r) (e : path_eq q p ≡ true) where
  at_path : lookup (path_eq p) es ≡ Some r
  at_path = subst (λ k. lookup (path_eq k) es ≡ Some r) ((path_eq_decides q p).0 e) h

  pub near_there : is_there (contexts_of es) p ≡ true
  near_there = sym (there_kept es p) ∙ ap is_some at_path

  pub near_shown : (shape : Shape) → r.fields ≡ shown_fields shape (contexts_of es).shots p
  near_shown shape = sym (shown_record es p r at_path shape)

-- a path that stands in a slot
pub stands : (es : Entries) (slot : ℕ) (p q : Path) (r : Record) → Some (q, r) ≡ slice_get es slot → path_eq q p ≡ true → slice_get (keys_of es) slot ≡ Some p
stands es slot p q r entry e =
    slice_get-map (λ (e : Path × Record). e.0) es slot ∙ sym (ap (option_map (λ (e : Path × Record). e.0)) entry) ∙ ap Some ((path_eq_decides q p).0 e)

module _ (es : Entries) (slot : ℕ) (p : Path) (is : slice_get (keys_of es) slot ≡ Some p) where
  key_at : option_map (λ (e : Path × Record). e.0) (slice_get es slot) ≡ Some p
  key_at = sym (slice_get-map (λ (e : Path × Record). e.0) es slot) ∙ is

  -- something stands there
  pub not_past : None ≡ slice_get (map (λ (e : Path × Record). e.1) es) slot → ⊥
  not_past none = by (slice_get es slot) key_at (sym (slice_get-map (λ (e : Path × Record). e.1) es slot) ∙ sym none)
    where
      by : (o : Option (Path × Record)) → option_map (λ (e : Path × Record). e.0) o ≡ Some p → option_map (λ (e : Path × Record). e.1) o ≡ None → ⊥
      by None k v = absurd (true≢false (sym (ap is_some k)))
      by (Some e) k v = absurd (true≢false (ap is_some v))

  -- and what stands there is the path's
  pub entry_at : (r : Record) → Some r ≡ slice_get (map (λ (e : Path × Record). e.1) es) slot → slice_get es slot ≡ Some (p, r)
  entry_at r value = by (slice_get es slot) key_at (sym (slice_get-map (λ (e : Path × Record). e.1) es slot) ∙ sym value)
    where
      by : (o : Option (Path × Record)) → option_map (λ (e : Path × Record). e.0) o ≡ Some p → option_map (λ (e : Path × Record). e.1) o ≡ Some r → o ≡ Some (p, r)
      by None k v = absurd (true≢false (sym (ap is_some k)))
      by (Some e) k v = λ i. Some (same_Some e.0 p k i, same_Some e.1 r v i)

-- what stands in a slot is there
any_at : (p : Path) (ps : List Path) (slot : ℕ) → slice_get ps slot ≡ Some p → list_any (path_eq p) ps ≡ true
any_at p [] slot h = absurd (true≢false (ap is_some (sym h)))
any_at p (q ∷ ps) zero h = ap (λ b. b || list_any (path_eq p) ps) ((path_eq_decides p q).1 (sym (same_Some q p h)))
any_at p (q ∷ ps) (suc slot) h = ap (λ b. path_eq p q || b) (any_at p ps slot h) ∙ or_true (path_eq p q)
  where
    or_true : (b : Bool) → (b || true) ≡ true
    or_true true = refl
    or_true false = refl

pub slot_there : (es : Entries) (p : Path) (slot : ℕ) → slice_get (keys_of es) slot ≡ Some p → is_there (contexts_of es) p ≡ true
slot_there es p slot h = sym (there_kept es p) ∙ sym (any_found p es) ∙ any_at p (keys_of es) slot h

keys_length : (es : Entries) → length (keys_of es) ≡ length es
keys_length [] = refl
keys_length (e ∷ es) = ap suc (keys_length es)

-- a path's place among others
pub place_of : (p : Path) (ps : List Path) (place : ℕ) → position (path_eq p) ps ≡ Some place → slice_get ps place ≡ Some p
place_of p ps place h =
    let at = position-Some (path_eq p) ps place p h in
    slice_get-get_or ps place p at.0 ∙ ap Some (sym ((path_eq_decides p (get_or ps place p)).0 at.1))

slot_below : (ps : List Path) (slot : ℕ) (p : Path) → slice_get ps slot ≡ Some p → slot < length ps
slot_below [] slot p h = absurd (true≢false (ap is_some (sym h)))
slot_below (q ∷ ps) zero p h = omega arith
slot_below (q ∷ ps) (suc slot) p h = omega (arith, slot_below ps slot p h)

-- the slot of a path that is there, or one past all
module _ (es : Entries) (p : Path) (place : ℕ) (at : is_there (contexts_of es) p ≡ true → slice_get (keys_of es) place ≡ Some p) (past : is_there (contexts_of es) p ≡ false → length (keys_of es) ≤ place) where
  pub there_below : place < length es → is_there (contexts_of es) p ≡ true
  there_below l = by (is_there (contexts_of es) p) refl
    where
      by : (b : Bool) → is_there (contexts_of es) p ≡ b → b ≡ true
      by true e = refl
      by false e = absurd (omega (arith, l, past e, keys_length es))

  below_there : is_there (contexts_of es) p ≡ true → place < length es
  below_there there = omega (arith, slot_below (keys_of es) place p (at there), keys_length es)

  pub none_past : (o : Option (MutBor Record)) → IsSome o ↔ (place < length es) → IsNone o ↔ (is_there (contexts_of es) p ≡ false)
  none_past None f = (λ n. by (is_there (contexts_of es) p) refl, λ e. refl)
    where
      by : (b : Bool) → is_there (contexts_of es) p ≡ b → b ≡ false
      by true e = absurd (true≢false (sym (f.1 (below_there e))))
      by false e = refl
  none_past (Some r) f = (λ n. absurd (true≢false n), λ e. absurd (true≢false (sym (there_below (f.0 refl)) ∙ e)))
