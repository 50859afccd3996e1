-- The classes above a class are those that a path of the shape leads through.
use Rattle.std.proofs.Common.{◌≡◌, ℕ, zero, suc, true, nat_le, ◌+◌, ◌<◌, ◌≤◌, List, [], ◌∷◌, ◌++◌, length, map, get_or, reverse, slice_get, ◌⊎◌, inl, inr, None, refl, sym, ap, ◌∙◌, arith, subst, length-append}
use Rattle.std.specs.Option.{option_map}
use Rattle.std.proofs.lemmas.List.{length-map, get_or-map, get_or_past, reverse-append}
use Rattle.std.proofs.lemmas.Bool.{cases_lt, leb-true}
use Rattle.std.proofs.lemmas.Option.{slice_get-get_or, slice_get-map, slice_get_past}
use Rattle.wave_base.specs.declared.limits.TheConstants.{CLASS_DEPTH}
use Rattle.wave_base.specs.declared.shape.Shape.{Shape}
use Rattle.wave_base.specs.Shapes.{parent_in, parent_class}
use Rattle.mace_ast.specs.Decls.{ServiceTree}
use Rattle.service_verify.specs.Rules.{classes_above, levels_above}
use Rattle.type_rules.specs.declared.known.Known.{Known}
use Rattle.type_rules.specs.Known.{Entry, above_of, service_classes, shape_of, known_of}
use Rattle.type_rules.specs.Services.{IsTyped}
use Rattle.type_laws.proofs.Classes.{blank, Under, service_under}
use Rattle.type_laws.proofs.Sound.{parts, classes_sound}

-- of each class
abbrev pub LevelsAre : Known → Type 0
LevelsAre known = (class : ℕ) → above_of known class ≡ levels_above known.shape class

none_above : (shape : Shape) (n : ℕ) → classes_above shape n None ≡ []
none_above shape zero = refl
none_above shape (suc n) = refl

reverse_more : (n : ℕ) (ns : List ℕ) → reverse (n ∷ ns) ≡ reverse ns ++ n ∷ []
reverse_more n ns = reverse-append (n ∷ []) ns

module _ (all : List Entry) (shape : Shape) (is : shape.classes ≡ map (λ e. e.info) all) where
  parent_at : (n : ℕ) → n < length all → parent_class shape n ≡ (get_or all n blank).info.parent
  parent_at n l = ap parent_in (ap (λ cs. slice_get cs n) is ∙ slice_get-map (λ (e : Entry). e.info) all n ∙ ap (option_map (λ (e : Entry). e.info)) (slice_get-get_or all n blank l))

  parent_past : (n : ℕ) → length all ≤ n → parent_class shape n ≡ None
  parent_past n l = ap parent_in (ap (λ cs. slice_get cs n) is ∙ slice_get-map (λ (e : Entry). e.info) all n ∙ ap (option_map (λ (e : Entry). e.info)) (slice_get_past all n l))

  -- from a class on, its parents are those that are known, the nearest first
  climbs : (root : (get_or all 0 blank).info.parent ≡ None) (top : (get_or all 0 blank).above ≡ []) (under : (n : ℕ) → suc n < length all → Under all (suc n) (get_or all (suc n) blank))
      → (bound n levels : ℕ) → n ≤ bound → n < length all → length (get_or all n blank).above ≤ levels → reverse (classes_above shape levels (parent_class shape n)) ≡ (get_or all n blank).above
  climbs root top under bound zero levels b l h = ap (λ o. reverse (classes_above shape levels o)) (parent_at 0 l ∙ root) ∙ ap reverse (none_above shape levels) ∙ sym top
  climbs root top under zero (suc n) levels b l h = absurd (omega (arith, b))
  climbs root top under (suc bound) (suc n) zero b l h =
      let u = under n l in
      let e : length (get_or all (suc n) blank).above ≡ length (get_or all u.parent blank).above + 1 = ap length u.above ∙ length-append (get_or all u.parent blank).above (u.parent ∷ []) in
      absurd (omega (arith, e, h))
  climbs root top under (suc bound) (suc n) (suc levels) b l h =
      let u = under n l in
      let earlier : u.parent < suc n = u.earlier in
      let e : length (get_or all (suc n) blank).above ≡ length (get_or all u.parent blank).above + 1 = ap length u.above ∙ length-append (get_or all u.parent blank).above (u.parent ∷ []) in
      ap (λ o. reverse (classes_above shape (suc levels) o)) (parent_at (suc n) l ∙ u.is_parent)
      ∙ reverse_more u.parent (classes_above shape levels (parent_class shape u.parent))
      ∙ ap (λ ns. ns ++ u.parent ∷ []) (climbs root top under bound u.parent levels (omega (arith, earlier, b)) (omega (arith, earlier, l)) (omega (arith, e, h)))
      ∙ sym u.above

pub levels_known : (s : ServiceTree) → IsTyped s → LevelsAre (known_of s)
unfolding shape_of known_of levels_above
levels_known s typed class = by (cases_lt class (length (service_classes s)))
  where
    by : (class < length (service_classes s)) ⊎ (length (service_classes s) ≤ class) → above_of (known_of s) class ≡ levels_above (shape_of s) class
    by (inl below) =
        let all = service_classes s in
        let d = classes_sound s (parts s typed) class blank below in
        let e : 0 + class ≡ class = omega arith in
        let above : above_of (known_of s) class ≡ (get_or all class blank).above = get_or-map (λ (e : Entry). e.above) all class blank [] below in
        let deep : length (get_or all class blank).above ≤ CLASS_DEPTH = leb-true _ CLASS_DEPTH (ap (λ a. nat_le (length a) CLASS_DEPTH) (sym above) ∙ subst (λ m. nat_le (length (above_of (known_of s) m)) CLASS_DEPTH ≡ true) e d.deep) in
        above ∙ sym (climbs all (shape_of s) refl refl refl (service_under s) class class CLASS_DEPTH (omega arith) below deep)
    by (inr beyond) =
        let all = service_classes s in
        let none : length (map (λ (e : Entry). e.above) all) ≤ class = omega (arith, beyond, length-map all (λ (e : Entry). e.above)) in
        get_or_past (map (λ (e : Entry). e.above) all) class [] none
        ∙ sym (ap (λ o. reverse (classes_above (shape_of s) CLASS_DEPTH o)) (parent_past all (shape_of s) refl class beyond))
