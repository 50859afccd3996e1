-- What is collected of contexts, one after the other.
use Rattle.std.proofs.Common.{◌≡◌, ◌∙◌, ◌⊎◌, inl, inr, ℕ, zero, suc, ◌+◌, ◌||◌, Bool, true, false, List, [], ◌∷◌, ◌++◌, length, Some, refl, sym, ap, subst, arith}
use Rattle.std.specs.Prelude.{slice_get}
use Rattle.std.specs.BTreeMap.{insert_entry}
use Rattle.std.specs.List.{list_any, AllByRecursion}
use Rattle.std.specs.Map.{keys_of}
use Rattle.std.specs.Ordering.{match_ordering}
use Rattle.std.specs.declared.cmp.Ordering.{Ordering}
use Rattle.std.specs.declared.cmp.Ordering.TheVariants.{Less, Equal, Greater}
use Rattle.std.proofs.lemmas.List.{length-append}
use Rattle.std.proofs.lemmas.Option.{slice_get_within}
use Rattle.wave_base.specs.declared.numbers.Host.{Host}
use Rattle.wave_base.specs.declared.path.Path.{Path}
use Rattle.wave_base.specs.Paths.{path_cmp, path_eq}
use Rattle.wave_base.specs.PathLaws.{path_eq_equiv, same_path}
use Rattle.wave_theory.proofs.Basics.{none_not, some_same}
use Rattle.wave_theory.proofs.Paths.{or_left, or_right}
use Rattle.wave_effects.specs.inner.Endings.{Paired}
use Rattle.wave_effects.proofs.Pushing.{at_push}

or_twice : (a b : Bool) → (a || b) ≡ (a || (a || b))
or_twice true b = refl
or_twice false b = refl

or_swap : (a b c : Bool) → (a || (b || c)) ≡ (b || (a || c))
or_swap true true c = refl
or_swap true false c = refl
or_swap false true c = refl
or_swap false false c = refl

-- the keys once a path joined
pub insert_keys : (p q : Path) (v : Host) (es : List (Path × Host)) → list_any (path_eq p) (keys_of (insert_entry path_cmp es q v)) ≡ (path_eq p q || list_any (path_eq p) (keys_of es))
insert_keys p q v [] = refl
insert_keys p q v (e ∷ es) = by_order (path_cmp q e.0) refl (insert_keys p q v es)
  where
    by_order : (o : Ordering) → path_cmp q e.0 ≡ o → list_any (path_eq p) (keys_of (insert_entry path_cmp es q v)) ≡ (path_eq p q || list_any (path_eq p) (keys_of es))
        → list_any (path_eq p) (keys_of (match_ordering o ((q, v) ∷ e ∷ es) ((e.0, v) ∷ es) (e ∷ insert_entry path_cmp es q v))) ≡ (path_eq p q || (path_eq p e.0 || list_any (path_eq p) (keys_of es)))
    by_order Less h k = refl
    by_order Equal h k = or_twice (path_eq p e.0) (list_any (path_eq p) (keys_of es)) ∙ ap (λ r. path_eq p r || (path_eq p e.0 || list_any (path_eq p) (keys_of es))) (sym (same_path q e.0 h))
    by_order Greater h k = ap (λ b. path_eq p e.0 || b) k ∙ or_swap (path_eq p e.0) (path_eq p q) (list_any (path_eq p) (keys_of es))

pub all_inserted : (P : Path → Host → Type 0) (q : Path) (v : Host) (es : List (Path × Host)) → AllByRecursion (λ e. P e.0 e.1) es → P q v → AllByRecursion (λ e. P e.0 e.1) (insert_entry path_cmp es q v)
all_inserted P q v [] h new = (new, tt)
all_inserted P q v (e ∷ es) h new = by_order (path_cmp q e.0) refl (all_inserted P q v es h.1 new)
  where
    by_order : (o : Ordering) → path_cmp q e.0 ≡ o → AllByRecursion (λ e. P e.0 e.1) (insert_entry path_cmp es q v) → AllByRecursion (λ e. P e.0 e.1) (match_ordering o ((q, v) ∷ e ∷ es) ((e.0, v) ∷ es) (e ∷ insert_entry path_cmp es q v))
    by_order Less f k = (new, h)
    by_order Equal f k = (subst (λ r. P r v) (same_path q e.0 f) new, h.1)
    by_order Greater f k = (h.0, k)

-- a path that stands in a list is in it
pub in_list : (ps : List Path) (i : ℕ) (q : Path) → slice_get ps i ≡ Some q → list_any (path_eq q) ps ≡ true
in_list [] zero q e = absurd (none_not e)
in_list [] (suc i) q e = absurd (none_not e)
in_list (p ∷ ps) zero q e = or_left (path_eq q p) (list_any (path_eq q) ps) (ap (path_eq q) (some_same p q e) ∙ path_eq_equiv.refl q)
in_list (p ∷ ps) (suc i) q e = or_right (path_eq q p) (list_any (path_eq q) ps) (in_list ps i q e)

-- one pair more
pub pair_more : {X Y : Type 0} (R : X → Y → Type 0) (xs : List X) (ys : List Y) (x : X) (y : Y) → Paired R xs ys → R x y → Paired R (xs ++ x ∷ []) (ys ++ y ∷ [])
pair_more {X = X} {Y = Y} R xs ys x y h new = record {
  count = length-append ys (y ∷ []) ∙ ap (λ n. n + 1) h.count ∙ sym (length-append xs (x ∷ []));
  each = λ i a b e f. by_places i a b (at_push xs x i a e) (at_push ys y i b f);
}
  where
    by_places : (i : ℕ) (a : X) (b : Y) → (slice_get xs i ≡ Some a) ⊎ ((i ≡ length xs) × (a ≡ x)) → (slice_get ys i ≡ Some b) ⊎ ((i ≡ length ys) × (b ≡ y)) → R a b
    by_places i a b (inl e) (inl f) = h.each i a b e f
    by_places i a b (inl e) (inr f) = absurd (omega (arith, slice_get_within xs i a e, f.0, h.count))
    by_places i a b (inr e) (inl f) = absurd (omega (arith, slice_get_within ys i b f, e.0, h.count))
    by_places i a b (inr e) (inr f) = subst (R a) (sym f.1) (subst (λ z. R z y) (sym e.1) new)
