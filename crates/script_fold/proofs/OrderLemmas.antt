-- Paths in order are known by which they are.
use Rattle.std.proofs.Common.{◌≡◌, Bool, true, false, ◌||◌, List, [], ◌∷◌, refl, sym, ap, subst, ◌∙◌, true≢false}
use Rattle.std.specs.List.{list_any, AllByRecursion}
use Rattle.std.specs.List.Sorted.{IsStrictlySortedBy}
use Rattle.std.specs.Ordering.{ordering_reverse, is_eq}
use Rattle.std.specs.declared.cmp.Ordering.{Ordering}
use Rattle.std.specs.declared.cmp.Ordering.TheVariants.{Less, Equal, Greater}
use Rattle.wave_base.specs.declared.path.Path.{Path}
use Rattle.wave_base.specs.Paths.{path_eq, path_cmp}
use Rattle.wave_base.specs.PathLaws.{path_eq_ties, path_cmp_total, path_eq_equiv, path_eq_decides, same_path}

all_above : (k x : Path) (xs : List Path) → path_cmp k x ≡ Less → AllByRecursion (λ y. path_cmp x y ≡ Less) xs → AllByRecursion (λ y. path_cmp k y ≡ Less) xs
all_above k x [] e h = tt
all_above k x (y ∷ ys) e h = (path_cmp_total.trans k x y e h.0, all_above k x ys e h.1)

none_above : (p : Path) (ps : List Path) → AllByRecursion (λ y. path_cmp p y ≡ Less) ps → list_any (path_eq p) ps ≡ false
none_above p [] h = refl
none_above p (x ∷ ps) h = ap (λ b. b || list_any (path_eq p) ps) (path_eq_ties p x ∙ ap is_eq h.0) ∙ none_above p ps h.1

below_misses : (x y : Path) (ys : List Path) → path_cmp x y ≡ Less → AllByRecursion (λ z. path_cmp y z ≡ Less) ys → list_any (path_eq x) (y ∷ ys) ≡ false
below_misses x y ys e h = none_above x (y ∷ ys) (e, all_above x y ys e h)

has_first : (x : Path) (xs : List Path) → list_any (path_eq x) (x ∷ xs) ≡ true
has_first x xs = ap (λ b. b || list_any (path_eq x) xs) (path_eq_equiv.refl x)

-- which paths are in these lists
abbrev pub Alike : List Path → List Path → Type 0
Alike xs ys = (p : Path) → list_any (path_eq p) xs ≡ list_any (path_eq p) ys

tails_alike : (x : Path) (xs ys : List Path) → AllByRecursion (λ y. path_cmp x y ≡ Less) xs → AllByRecursion (λ y. path_cmp x y ≡ Less) ys → Alike (x ∷ xs) (x ∷ ys) → Alike xs ys
tails_alike x xs ys h k e p = by_first (path_eq p x) refl
  where
    by_first : (b : Bool) → path_eq p x ≡ b → list_any (path_eq p) xs ≡ list_any (path_eq p) ys
    by_first true s =
        let same : p ≡ x = (path_eq_decides p x).0 s in
        ap (λ q. list_any (path_eq q) xs) same ∙ none_above x xs h ∙ sym (none_above x ys k) ∙ ap (λ q. list_any (path_eq q) ys) (sym same)
    by_first false s = sym (ap (λ b. b || list_any (path_eq p) xs) s) ∙ e p ∙ ap (λ b. b || list_any (path_eq p) ys) s

pub same_sorted : (xs ys : List Path) → IsStrictlySortedBy path_cmp xs → IsStrictlySortedBy path_cmp ys → Alike xs ys → xs ≡ ys
unfolding IsStrictlySortedBy
same_sorted [] [] h k e = refl
same_sorted [] (y ∷ ys) h k e = absurd (true≢false (sym (has_first y ys) ∙ sym (e y)))
same_sorted (x ∷ xs) [] h k e = absurd (true≢false (sym (has_first x xs) ∙ e x))
same_sorted (x ∷ xs) (y ∷ ys) h k e = by_order (path_cmp x y) refl (same_sorted xs ys h.1 k.1)
  where
    by_order : (o : Ordering) → path_cmp x y ≡ o → (Alike xs ys → xs ≡ ys) → x ∷ xs ≡ y ∷ ys
    by_order Less s rest = absurd (true≢false (sym (has_first x xs) ∙ e x ∙ below_misses x y ys s k.0))
    by_order Greater s rest = absurd (true≢false (sym (has_first y ys) ∙ sym (e y) ∙ below_misses y x xs (path_cmp_total.antisymm y x ∙ ap ordering_reverse s) h.0))
    by_order Equal s rest =
        let same : x ≡ y = same_path x y s in
        let above = subst (λ q. AllByRecursion (λ z. path_cmp q z ≡ Less) ys) (sym same) k.0 in
        let alike = rest (tails_alike x xs ys h.0 above (subst (λ q. Alike (x ∷ xs) (q ∷ ys)) (sym same) e)) in
        λ i. same i ∷ alike i
