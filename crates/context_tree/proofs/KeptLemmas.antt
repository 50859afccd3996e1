-- What look-ups and changes of the map of contexts are in the tree that it stands for.
use Rattle.std.proofs.Common.{◌≡◌, ◌<◌, ℕ, Bool, true, false, cond, if◌then◌else◌, ◌||◌, List, [], ◌∷◌, length, map, Option, Some, None, IsSome, option_map, unwrap_or, is_some, IsNone, IfSome, IsSomeAnd, ◌↔◌, Bor, refl, sym, ap, subst, ◌∙◌}
use mathlib.Core.Bool.{true≢false}
use Rattle.std.specs.BTreeSet.{insert_key}
use Rattle.std.specs.FinMap as table
use Rattle.std.specs.List.{list_any}
use Rattle.std.specs.List.Sorted.{IsStrictlySortedBy}
use Rattle.std.specs.Map.{lookup, keys_of}
use Rattle.std.specs.Option.{option_copied}
use Rattle.std.specs.Ordering.{match_ordering}
use Rattle.std.specs.declared.cmp.Ordering.TheVariants.{Less, Equal, Greater}
use Rattle.wave_base.proofs.Trees.{enter_there}
use Rattle.wave_base.specs.declared.path.Path.{Path}
use Rattle.wave_base.specs.declared.record.Record.{Record}
use Rattle.wave_base.specs.declared.shape.Shape.{Shape}
use Rattle.wave_base.specs.declared.shot.Shot.{Shot}
use Rattle.wave_base.specs.declared.value.Value.{Value}
use Rattle.wave_base.specs.Paths.{path_eq, path_cmp}
use Rattle.wave_base.specs.PathLaws.{path_eq_equiv, path_eq_decides}
use Rattle.wave_base.specs.Shapes.{initial_fields}
use Rattle.wave_base.specs.Starts.{shown_fields}
use Rattle.wave_base.specs.Tree.{put, enter}
use Rattle.context_tree.specs.Contexts.{Contexts, shot_at, in_order, contexts_of, shots_with, with_fields, paths_of, is_there, fields_in, HasField, tree_of}
use Rattle.context_tree.proofs.Ordered.{Entries, lookup_ordered, ordered_update, ordered_rises, keys_put}

-- a key is found where the paths are equal
found_among : (es : Entries) (p : Path) → option_map (λ r. r.fields) (lookup (path_eq p) es) ≡ fields_in (map shot_at es) p
found_among [] p = refl
found_among (e ∷ es) p = rw (path_eq_equiv.symm p e.0) (by_test (path_eq e.0 p) (lookup (path_eq p) es) (found_among es p))
  where
    by_test : (b : Bool) (o : Option Record) → option_map (λ r. r.fields) o ≡ fields_in (map shot_at es) p → option_map (λ r. r.fields) (cond b (Some e.1) o) ≡ (if b then Some e.1.fields else fields_in (map shot_at es) p)
    by_test true o h = refl
    by_test false o h = h

pub found : (es : Entries) (p : Path) → option_map (λ r. r.fields) (lookup (path_eq p) es) ≡ fields_in (contexts_of es).shots p
found es p = ap (option_map (λ r. r.fields)) (sym (lookup_ordered p es)) ∙ found_among (in_order es) p

-- a context is there exactly where its fields are kept
pub there_in : (shots : List Shot) (p : Path) → is_some (fields_in shots p) ≡ list_any (path_eq p) (map (λ s. s.path) shots)
there_in [] p = refl
there_in (s ∷ shots) p = rw (path_eq_equiv.symm s.path p) (by_test (path_eq p s.path) (there_in shots p))
  where
    by_test : (b : Bool) → is_some (fields_in shots p) ≡ list_any (path_eq p) (map (λ s. s.path) shots) → is_some (if b then Some s.fields else fields_in shots p) ≡ (b || list_any (path_eq p) (map (λ s. s.path) shots))
    by_test true h = refl
    by_test false h = h

-- the fields that a tree shows at a path are those kept, or else the initial ones
pub shown_is : (shape : Shape) (shots : List Shot) (p : Path) → shown_fields shape shots p ≡ unwrap_or (fields_in shots p) (initial_fields shape p)
shown_is shape [] p = refl
shown_is shape (s ∷ shots) p = by_test (path_eq s.path p) (shown_is shape shots p)
  where
    by_test : (b : Bool) → shown_fields shape shots p ≡ unwrap_or (fields_in shots p) (initial_fields shape p) → (if b then s.fields else shown_fields shape shots p) ≡ unwrap_or (if b then Some s.fields else fields_in shots p) (initial_fields shape p)
    by_test true h = refl
    by_test false h = h

shown_by : (shape : Shape) (es : Entries) (p : Path) → shown_fields shape (contexts_of es).shots p ≡ unwrap_or (option_map (λ r. r.fields) (lookup (path_eq p) es)) (initial_fields shape p)
shown_by shape es p = shown_is shape (contexts_of es).shots p ∙ ap (λ o. unwrap_or o (initial_fields shape p)) (sym (found es p))

is_some-option_map : {A B : Type 0} (f : A → B) (o : Option A) → is_some (option_map f o) ≡ is_some o
is_some-option_map f None = refl
is_some-option_map f (Some x) = refl

-- the map has the key exactly where the context is there
pub there_kept : (es : Entries) (p : Path) → is_some (lookup (path_eq p) es) ≡ is_there (contexts_of es) p
there_kept es p = sym (is_some-option_map (λ r. r.fields) (lookup (path_eq p) es)) ∙ ap is_some (found es p) ∙ there_in (contexts_of es).shots p

pub there_by : (es : Entries) (p : Path) (t : Contexts) (b : Bool) → contexts_of es ≡ t → b ≡ is_some (lookup (path_eq p) es) → is_there t p ≡ b
there_by es p t b view h = ap (λ (u : Contexts). is_there u p) (sym view) ∙ sym (there_kept es p) ∙ sym h

-- what a look-up gave
pub none_there : {A : Type 0} (o : Option A) (b : Bool) → is_some o ≡ b → IsNone o ↔ (b ≡ false)
none_there None b e = (λ n. sym e, λ a. refl)
none_there (Some x) b e = (λ n. absurd (true≢false n), λ a. absurd (true≢false (e ∙ a)))

is_some-copied : {A : Type 0} (o : Option (Bor A)) → is_some (option_copied o) ≡ is_some o
is_some-copied None = refl
is_some-copied (Some x) = refl

module _ (es : Entries) (p : Path) where
  pub none_absent : (o : Option (Bor Record)) → option_copied o ≡ lookup (path_eq p) es → IsNone o ↔ (is_there (contexts_of es) p ≡ false)
  none_absent o e = none_there o (is_there (contexts_of es) p) (sym (is_some-copied o) ∙ ap is_some e ∙ there_kept es p)

  pub some_shown : (shape : Shape) (o : Option (Bor Record)) → option_copied o ≡ lookup (path_eq p) es → IfSome o (λ r. r.now.fields ≡ shown_fields shape (contexts_of es).shots p)
  some_shown shape None e = tt
  some_shown shape (Some r) e = sym (shown_by shape es p ∙ ap (λ o. unwrap_or (option_map (λ (r : Record). r.fields) o) (initial_fields shape p)) (sym e))

-- a record that a look-up found
module _ (es : Entries) (p : Path) (r : Record) (h : lookup (path_eq p) es ≡ Some r) where
  pub kept_fields : fields_in (contexts_of es).shots p ≡ Some r.fields
  kept_fields = sym (found es p) ∙ ap (option_map (λ r. r.fields)) h

  pub shown_record : (shape : Shape) → shown_fields shape (contexts_of es).shots p ≡ r.fields
  shown_record shape = shown_is shape (contexts_of es).shots p ∙ ap (λ o. unwrap_or o (initial_fields shape p)) kept_fields

  pub has_field : (i : ℕ) → HasField (contexts_of es) p i → i < length r.fields
  has_field i f = subst (λ (o : Option (List Value)). IsSomeAnd o (λ fs. i < length fs)) kept_fields f

pub no_field : (es : Entries) (p : Path) (i : ℕ) → lookup (path_eq p) es ≡ None → HasField (contexts_of es) p i → ⊥
no_field es p i h f = subst (λ (o : Option (List Value)). IsSomeAnd o (λ fs. i < length fs)) (sym (found es p) ∙ ap (option_map (λ r. r.fields)) h) f

pub no_value : {A : Type 0} (o : Option A) → false ≡ is_some o → o ≡ None
no_value None e = refl
no_value (Some x) e = absurd (true≢false (sym e))

-- what a look-up doesn't find is not there
pub not_there : (es : Entries) (p : Path) → lookup (path_eq p) es ≡ None → is_there (contexts_of es) p ≡ true → ⊥
not_there es p none there = true≢false (sym there ∙ sym (there_kept es p) ∙ ap is_some none)

pub paths_are_keys : (es : Entries) → map (λ s. s.path) (map shot_at es) ≡ keys_of es
paths_are_keys [] = refl
paths_are_keys (e ∷ es) = ap (λ ps. e.0 ∷ ps) (paths_are_keys es)

pub paths_rise : (es : Entries) → IsStrictlySortedBy path_cmp (paths_of (contexts_of es))
paths_rise es = subst (IsStrictlySortedBy path_cmp) (sym (paths_are_keys (in_order es))) (ordered_rises es)

-- a record that a map has at a path, where it has all others as before
module _ (shape : Shape) (es fs : Entries) (p : Path) (r : Record) (h : (q : Path) → lookup (path_eq q) fs ≡ cond (path_eq p q) (Some r) (lookup (path_eq q) es)) where
  paths_put : paths_of (contexts_of fs) ≡ insert_key path_cmp (paths_of (contexts_of es)) p
  paths_put =
      paths_are_keys (in_order fs) ∙ ap keys_of (ordered_update es fs p r h) ∙ keys_put p r (in_order es)
      ∙ ap (λ ps. insert_key path_cmp ps p) (sym (paths_are_keys (in_order es)))

  fields_put : (q : Path) → shown_fields shape (contexts_of fs).shots q ≡ (if path_eq p q then r.fields else shown_fields shape (contexts_of es).shots q)
  fields_put q =
      shown_by shape fs q ∙ ap (λ o. unwrap_or (option_map (λ (r : Record). r.fields) o) (initial_fields shape q)) (h q)
      ∙ by_test (path_eq p q) (lookup (path_eq q) es) (initial_fields shape q)
      ∙ ap (λ fields. if path_eq p q then r.fields else fields) (sym (shown_by shape es q))
    where
      by_test : (b : Bool) (o : Option Record) (d : List Value) → unwrap_or (option_map (λ r. r.fields) (cond b (Some r) o)) d ≡ (if b then r.fields else unwrap_or (option_map (λ r. r.fields) o) d)
      by_test true o d = refl
      by_test false o d = refl

  -- at a path that is there its fields are others
  pub tree_changed : IsSome (lookup (path_eq p) es) → tree_of shape (contexts_of fs) ≡ put (tree_of shape (contexts_of es)) p r.fields
  tree_changed s =
      let same = ap (λ t. t.paths) (enter_there (tree_of shape (contexts_of es)) p (paths_rise es) (sym (there_kept es p) ∙ s)) in
      λ i. record { paths = (paths_put ∙ same) i; fields = λ q. fields_put q i }

  -- with the initial fields it joins at a path that is not there
  pub tree_joined : r.fields ≡ initial_fields shape p → lookup (path_eq p) es ≡ None → tree_of shape (contexts_of fs) ≡ enter (tree_of shape (contexts_of es)) p
  tree_joined initial none i = record { paths = paths_put i; fields = λ q. (fields_put q ∙ shown q) i }
    where
      absent : shown_fields shape (contexts_of es).shots p ≡ r.fields
      absent = shown_by shape es p ∙ ap (λ o. unwrap_or (option_map (λ (r : Record). r.fields) o) (initial_fields shape p)) none ∙ sym initial

      shown : (q : Path) → (if path_eq p q then r.fields else shown_fields shape (contexts_of es).shots q) ≡ shown_fields shape (contexts_of es).shots q
      shown q =
          elim (path_eq p q) as (λ b. path_eq p q ≡ b → (if b then r.fields else shown_fields shape (contexts_of es).shots q) ≡ shown_fields shape (contexts_of es).shots q) [
            | true ↦ λ e. sym absent ∙ ap (shown_fields shape (contexts_of es).shots) ((path_eq_decides p q).0 e)
            | false ↦ λ e. refl
          ] refl

-- a context with a field is there
pub there_by_field : (t : Contexts) (p : Path) (field : ℕ) → HasField t p field → is_there t p ≡ true
there_by_field t p field h = sym (there_in t.shots p) ∙ some (fields_in t.shots p) h
  where
    some : (o : Option (List Value)) → IsSomeAnd o (λ fields. field < length fields) → is_some o ≡ true
    some None k = absurd k
    some (Some fields) k = refl

-- one context with other fields
shots_put : (p : Path) (r : Record) (es : Entries) → map shot_at (table.put path_cmp p r es) ≡ shots_with p r.fields (map shot_at es)
shots_put p r [] = refl
shots_put p r (e ∷ es) =
    elim (path_cmp p e.0) as (λ o. map shot_at (match_ordering o ((p, r) ∷ e ∷ es) ((e.0, r) ∷ es) (e ∷ table.put path_cmp p r es))
    ≡ match_ordering o (shot_at (p, r) ∷ shot_at e ∷ map shot_at es) (shot_at (e.0, r) ∷ map shot_at es) (shot_at e ∷ shots_with p r.fields (map shot_at es))) [
      | Less ↦ refl
      | Equal ↦ refl
      | Greater ↦ ap (λ shots. shot_at e ∷ shots) (shots_put p r es)
    ]

pub kept_with : (es fs : Entries) (p : Path) (r : Record) → ((q : Path) → lookup (path_eq q) fs ≡ cond (path_eq p q) (Some r) (lookup (path_eq q) es)) → keys_of fs ≡ keys_of es
    → contexts_of fs ≡ with_fields (contexts_of es) p r.fields
kept_with es fs p r h keys = λ i. record { shots = (ap (map shot_at) (ordered_update es fs p r h) ∙ shots_put p r (in_order es)) i; joined = keys i }

pub put_fields : (shape : Shape) (es : Entries) (p : Path) (fields : List Value) → is_there (contexts_of es) p ≡ true → tree_of shape (with_fields (contexts_of es) p fields) ≡ put (tree_of shape (contexts_of es)) p fields
put_fields shape es p fields there =
    let r : Record = record { fields = fields; children = [] } in
    let fs : Entries = (p, r) ∷ es in
    let found : (q : Path) → lookup (path_eq q) fs ≡ cond (path_eq p q) (Some r) (lookup (path_eq q) es) = λ q. ap (λ b. cond b (Some r) (lookup (path_eq q) es)) (path_eq_equiv.symm q p) in
    let shots = ap (map shot_at) (ordered_update es fs p r found) ∙ shots_put p r (in_order es) in
    (λ i. tree_of shape (record { shots = sym shots i; joined = [] })) ∙ tree_changed shape es fs p r found (there_kept es p ∙ there)
