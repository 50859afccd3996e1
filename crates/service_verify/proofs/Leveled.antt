-- What an event has of the contexts above it, as it goes down and back.
use Rattle.std.proofs.Common.{◌≡◌, ◌⊎◌, inl, inr, ℕ, zero, suc, ◌+◌, ◌-◌, ◌<◌, ◌≤◌, List, [], ◌∷◌, ◌++◌, length, take, if◌then◌else◌, Bool, true, Some, None, refl, ap, sym, subst, ◌∙◌, arith, append_assoc}
use Rattle.std.specs.Prelude.{slice_get}
use Rattle.std.specs.Option.{option_map}
use Rattle.std.proofs.lemmas.Bool.{cases_lt}
use Rattle.std.proofs.lemmas.List.{length-append, append-nil, take-append-le, length-take-le}
use Rattle.std.proofs.Math.Seq.{take-append_seam}
use Rattle.wave_base.specs.declared.path.Path.{Path}
use Rattle.wave_base.specs.declared.path.Step.{Step}
use Rattle.wave_base.specs.declared.value.Kind.{Kind}
use Rattle.wave_base.specs.declared.value.Value.{Value}
use Rattle.wave_base.specs.Paths.{parent_of}
use Rattle.wave_base.specs.Shapes.{class_of, kinds_of_class}
use Rattle.wave_base.specs.Tree.{Tree}
use Rattle.wave_base.specs.Values.{kind_of}
use Rattle.downgrade_views.specs.Levels.{Level, value_in, field_in, field_at, HasField, keeps, kept_level, whole_level}
use Rattle.downgrade_views.proofs.Finding.{kept_field, whole_field}
use Rattle.service_code.specs.declared.program.Program.{Program}
use Rattle.service_verify.specs.Reads.{read_marks, is_kept}
use Rattle.service_verify.specs.Standing.{HasFields, HasLevels, Agree, HasTree}
use Rattle.service_verify.specs.Tours.{Fields, fields_from, fields_above}
use Rattle.service_verify.proofs.Lists.{take_get, take_take, more_get, last_get, map_get}

-- the parent's path is the path but for its last step
pub parent_take : (p : List Step) → parent_of p ≡ take (length p - 1) p
parent_take [] = refl
parent_take (s ∷ []) = refl
parent_take (s ∷ t ∷ p) = let e : suc (length (t ∷ p) - 1) ≡ length (s ∷ t ∷ p) - 1 = omega arith in ap (λ q. s ∷ q) (parent_take (t ∷ p)) ∙ ap (λ n. take n (s ∷ t ∷ p)) e

pub parent_long : (p : List Step) → length (parent_of p) ≡ length p - 1
parent_long p = ap length (parent_take p) ∙ length-take-le (length p - 1) p (omega arith)

-- one level for each context above a path
abbrev pub levels_from : (Path → Level) → List Step → List Step → List Level
levels_from at done [] = []
levels_from at done (s ∷ p) = at done ∷ levels_from at (done ++ s ∷ []) p

pub levels_long : (at : Path → Level) (done p : List Step) → length (levels_from at done p) ≡ length p
levels_long at done [] = refl
levels_long at done (s ∷ p) = ap suc (levels_long at (done ++ s ∷ []) p)

pub levels_get : (at : Path → Level) (done p : List Step) (l : ℕ) → l < length p → slice_get (levels_from at done p) l ≡ Some (at (done ++ take l p))
levels_get at done [] l lt = absurd (omega arith)
levels_get at done (s ∷ p) zero lt = ap (λ q. Some (at q)) (sym (append-nil done))
levels_get at done (s ∷ p) (suc l) lt = levels_get at (done ++ s ∷ []) p l (omega arith) ∙ ap (λ q. Some (at q)) (append_assoc done (s ∷ []) (take l p))

pub levels_child : (at : Path → Level) (done p : List Step) (s : Step) → levels_from at done (p ++ s ∷ []) ≡ levels_from at done p ++ at (done ++ p) ∷ []
levels_child at done [] s = ap (λ q. at q ∷ []) (sym (append-nil done))
levels_child at done (t ∷ p) s =
    ap (λ ls. at done ∷ ls) (levels_child at (done ++ t ∷ []) p s
    ∙ ap (λ q. levels_from at (done ++ t ∷ []) p ++ at q ∷ []) (append_assoc done (t ∷ []) p))

pub levels_take : (at : Path → Level) (done p : List Step) (m : ℕ) → levels_from at done (take m p) ≡ take m (levels_from at done p)
levels_take at done p zero = refl
levels_take at done [] (suc m) = refl
levels_take at done (s ∷ p) (suc m) = ap (λ ls. at done ∷ ls) (levels_take at (done ++ s ∷ []) p m)

pub levels_parent : (at : Path → Level) (p : List Step) → levels_from at [] (parent_of p) ≡ take (length (levels_from at [] p) - 1) (levels_from at [] p)
levels_parent at p = ap (levels_from at []) (parent_take p) ∙ levels_take at [] p (length p - 1) ∙ ap (λ n. take (n - 1) (levels_from at [] p)) (sym (levels_long at [] p))

-- where a path is shorter than this both have the same
pub levels_same : (at other : Path → Level) (n : ℕ) → ((q : Path) → length q < n → at q ≡ other q) → (done p : List Step) → length done + length p ≤ n → levels_from at done p ≡ levels_from other done p
levels_same at other n same done [] le = refl
levels_same at other n same done (s ∷ p) le =
    let one = same done (omega (arith, le)) in
    let rest = levels_same at other n same (done ++ s ∷ []) p (omega (arith, le, length-append done (s ∷ []))) in
    λ i. one i ∷ rest i

-- what the tree has above a path
whole_levels : (tree : Tree Fields) (done p : List Step) → fields_from tree done p ≡ levels_from (λ q. whole_level (tree.fields q)) done p
whole_levels tree done [] = refl
whole_levels tree done (s ∷ p) = ap (λ ls. whole_level (tree.fields done) ∷ ls) (whole_levels tree (done ++ s ∷ []) p)

pub whole_long : (tree : Tree Fields) (p : Path) → length (fields_above tree p) ≡ length p
whole_long tree p = ap length (whole_levels tree [] p) ∙ levels_long _ [] p

pub whole_get : (tree : Tree Fields) (p : Path) (l n : ℕ) → l < length p → field_at (fields_above tree p) l n ≡ slice_get (tree.fields (take l p)) n
whole_get tree p l n lt =
    ap (λ ls. field_at ls l n) (whole_levels tree [] p)
    ∙ ap (λ o. field_in o n) (levels_get (λ q. whole_level (tree.fields q)) [] p l lt)
    ∙ whole_field (tree.fields (take l p)) n

module _ (program : Program) where
  -- the kind of a field of a context
  field_kind : (p : Path) (fields : List Value) (n : ℕ) (kind : Kind) → HasFields program.shape p fields → slice_get (kinds_of_class program.shape (class_of p)) n ≡ Some kind → option_map kind_of (slice_get fields n) ≡ Some kind
  field_kind p fields n kind has is = sym (map_get kind_of fields n) ∙ ap (λ ks. slice_get ks n) has ∙ is

  pub above_has : (tree : Tree Fields) → HasTree program tree → (p : Path) → HasLevels program p (fields_above tree p)
  above_has tree has p = record {
    long = whole_long tree p;
    each = λ l n kind lt keeps is. ap (option_map kind_of) (whole_get tree p l n lt) ∙ field_kind (take l p) (tree.fields (take l p)) n kind (has (take l p)) is;
  }

  kept_get : (marks : List Bool) (fields : List Value) (n : ℕ) → keeps marks n ≡ true → value_in (kept_level marks fields) n ≡ slice_get fields n
  kept_get marks fields n e = kept_field marks fields n ∙ ap (λ b. if b then slice_get fields n else None) e

  -- one level more below, or one less
  pub level_more : (p : Path) (levels : List Level) (fields : List Value) (s : Step) → HasLevels program p levels → HasFields program.shape p fields → HasLevels program (p ++ s ∷ []) (levels ++ kept_level (read_marks program (class_of p)) fields ∷ [])
  level_more p levels fields s h has = record {
    long = length-append levels _ ∙ ap (λ n. n + 1) h.long ∙ sym (length-append p (s ∷ []));
    each = λ l n kind lt. by l n kind (cases_lt l (length p)) (omega (arith, lt, length-append p (s ∷ [])));
  }
    where
      level : Level
      level = kept_level (read_marks program (class_of p)) fields

      by : (l n : ℕ) (kind : Kind) → l < length p ⊎ length p ≤ l → l ≤ length p → is_kept program (class_of (take l (p ++ s ∷ []))) n ≡ true → slice_get (kinds_of_class program.shape (class_of (take l (p ++ s ∷ [])))) n ≡ Some kind → HasField (levels ++ level ∷ []) l n kind
      by l n kind (inl lt) le keeps is =
          let same : take l (p ++ s ∷ []) ≡ take l p = take-append-le l p (s ∷ []) le in
          ap (λ o. option_map kind_of (field_in o n)) (more_get levels level l (subst (λ m. l < m) (sym h.long) lt))
          ∙ h.each l n kind lt (ap (λ q. is_kept program (class_of q) n) (sym same) ∙ keeps) (ap (λ q. slice_get (kinds_of_class program.shape (class_of q)) n) (sym same) ∙ is)
      by l n kind (inr ge) le keeps is =
          let last : l ≡ length p = omega (arith, ge, le) in
          let same : take l (p ++ s ∷ []) ≡ p = ap (λ m. take m (p ++ s ∷ [])) last ∙ take-append_seam p (s ∷ []) in
          ap (λ m. option_map kind_of (field_in (slice_get (levels ++ level ∷ []) m) n)) (last ∙ sym h.long)
          ∙ ap (λ o. option_map kind_of (field_in o n)) (last_get levels level)
          ∙ ap (option_map kind_of) (kept_get (read_marks program (class_of p)) fields n (ap (λ q. is_kept program (class_of q) n) (sym same) ∙ keeps))
          ∙ field_kind p fields n kind has (ap (λ q. slice_get (kinds_of_class program.shape (class_of q)) n) (sym same) ∙ is)

  pub level_less : (p : Path) (levels : List Level) → HasLevels program p levels → HasLevels program (parent_of p) (take (length levels - 1) levels)
  level_less p levels h = record {
    long = length-take-le (length levels - 1) levels (omega arith) ∙ ap (λ n. n - 1) h.long ∙ sym (parent_long p);
    each = λ l n kind lt keeps is.
        let under : l < length p - 1 = omega (arith, lt, parent_long p) in
        let same : take l (parent_of p) ≡ take l p = ap (take l) (parent_take p) ∙ take_take (length p - 1) p l (omega (arith, under)) in
        ap (λ o. option_map kind_of (field_in o n)) (take_get (length levels - 1) levels l (omega (arith, under, h.long)))
        ∙ h.each l n kind (omega (arith, under)) (ap (λ q. is_kept program (class_of q) n) (sym same) ∙ keeps) (ap (λ q. slice_get (kinds_of_class program.shape (class_of q)) n) (sym same) ∙ is);
  }

  -- exactly the kept fields of a tree's contexts
  abbrev pub kept_of : Tree Fields → Path → Level
  kept_of tree q = kept_level (read_marks program (class_of q)) (tree.fields q)

  unfoldable pub kept_above : Tree Fields → Path → List Level
  kept_above tree p = levels_from (λ q. kept_of tree q) [] p

  kept_is : (tree : Tree Fields) (p : Path) (l n : ℕ) → l < length p → is_kept program (class_of (take l p)) n ≡ true → field_at (kept_above tree p) l n ≡ slice_get (tree.fields (take l p)) n
  unfolding kept_above
  kept_is tree p l n lt keeps = ap (λ o. field_in o n) (levels_get (λ q. kept_of tree q) [] p l lt) ∙ kept_get (read_marks program (class_of (take l p))) (tree.fields (take l p)) n keeps

  pub kept_has : (tree : Tree Fields) → HasTree program tree → (p : Path) → HasLevels program p (kept_above tree p)
  unfolding kept_above
  kept_has tree has p = record {
    long = levels_long (λ q. kept_of tree q) [] p;
    each = λ l n kind lt keeps is. ap (option_map kind_of) (kept_is tree p l n lt keeps) ∙ field_kind (take l p) (tree.fields (take l p)) n kind (has (take l p)) is;
  }

  -- they agree with the whole tree
  pub kept_agree : (tree : Tree Fields) (p : Path) → Agree program p (kept_above tree p) (fields_above tree p)
  kept_agree tree p l n lt keeps = kept_is tree p l n lt keeps ∙ sym (whole_get tree p l n lt)
