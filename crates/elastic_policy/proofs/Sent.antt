-- What a move changes, where no two contexts have one path.
use Rattle.std.proofs.Common.{◌≡◌, ◌≤◌, ◌+◌, ℕ, Bool, true, false, cond, ◌==◌, List, [], ◌∷◌, map, Some, refl, ap, sym, subst, ◌∙◌, arith}
use Rattle.std.specs.List.{AllByRecursion, find}
use Rattle.std.specs.List.Sorted.{IsStrictlySortedBy}
use Rattle.std.specs.Ordering.{is_eq}
use Rattle.std.specs.declared.cmp.Ordering.TheVariants.{Less}
use Rattle.wave_base.specs.declared.finished.Place.{Place}
use Rattle.wave_base.specs.declared.path.Path.{Path}
use Rattle.wave_base.specs.Paths.{path_eq, path_cmp}
use Rattle.wave_base.specs.PathLaws.{path_eq_ties, path_eq_equiv}
use Rattle.elastic_policy.specs.Moves.{is_on, load_on, on_host, places_with}

abbrev pub paths_of : List (Place × ℕ) → List Path
paths_of xs = map (λ (x : Place × ℕ). x.0.path) xs

-- no path is that of one after it
abbrev pub AreApart : List Path → Type 0
AreApart [] = Unit {0}
AreApart (p ∷ ps) = AllByRecursion (λ (q : Path). path_eq p q ≡ false) ps × AreApart ps

others : (p : Path) (ps : List Path) → AllByRecursion (λ (q : Path). path_cmp p q ≡ Less) ps → AllByRecursion (λ (q : Path). path_eq p q ≡ false) ps
others p [] h = tt
others p (q ∷ ps) h = (path_eq_ties p q ∙ ap is_eq h.0, others p ps h.1)

pub apart : (ps : List Path) → IsStrictlySortedBy path_cmp ps → AreApart ps
unfolding IsStrictlySortedBy
apart [] h = tt
apart (p ∷ ps) h = (others p ps h.0, apart ps h.1)

-- a move changes no path
path_kept : (t : Bool) (to : ℕ) (x : Place × ℕ) → (cond t (on_host to x) x).0.path ≡ x.0.path
path_kept true to x = refl
path_kept false to x = refl

pub paths_sent : (xs : List (Place × ℕ)) (p : Path) (to : ℕ) → paths_of (places_with xs p to) ≡ paths_of xs
paths_sent [] p to = refl
paths_sent (x ∷ xs) p to =
    ap (λ (q : Path). q ∷ paths_of (places_with xs p to)) (path_kept (path_eq p x.0.path) to x) ∙ ap (λ (qs : List Path). x.0.path ∷ qs) (paths_sent xs p to)

-- nor the others
pub sent_other : (xs : List (Place × ℕ)) (p : Path) (to : ℕ) → AllByRecursion (λ (q : Path). path_eq p q ≡ false) (paths_of xs) → places_with xs p to ≡ xs
sent_other [] p to h = refl
sent_other (x ∷ xs) p to h =
    ap (λ (t : Bool). cond t (on_host to x) x ∷ places_with xs p to) h.0 ∙ ap (λ (ys : List (Place × ℕ)). x ∷ ys) (sent_other xs p to h.1)

-- what a search found passes its test, and is one of those that were searched
pub find_passes : {X : Type 0} (q : X → Bool) (xs : List X) (x : X) → find q xs ≡ Some x → q x ≡ true
find_passes q [] x e = cc
find_passes q (y ∷ ys) x e =
    elim (q y) as (λ t. q y ≡ t → cond t (Some y) (find q ys) ≡ Some x → q x ≡ true) [
      | true ↦ λ holds f. let same : y ≡ x = cc in ap q (sym same) ∙ holds
      | false ↦ λ fails f. find_passes q ys x f
    ] refl e

pub found_path : (P : Path → Type 0) (q : Place × ℕ → Bool) (xs : List (Place × ℕ)) (x : Place × ℕ) → find q xs ≡ Some x → AllByRecursion P (paths_of xs) → P x.0.path
found_path P q [] x e h = cc
found_path P q (y ∷ ys) x e h =
    elim (q y) as (λ t. cond t (Some y) (find q ys) ≡ Some x → P x.0.path) [
      | true ↦ λ f. let same : y ≡ x = cc in subst (λ (z : Place × ℕ). P z.0.path) same h.0
      | false ↦ λ f. found_path P q ys x f h.1
    ] e

-- a part of a load
part_of : (on : Bool) (n : ℕ) → cond on n 0 ≤ n
part_of true n = omega arith
part_of false n = omega arith

load_at : (p : Path) (b h : ℕ) (x : Place × ℕ) (xs : List (Place × ℕ)) → path_eq p x.0.path ≡ true → AllByRecursion (λ (q : Path). path_eq p q ≡ false) (paths_of xs) →
    load_on (places_with (x ∷ xs) p b) h + cond (is_on h x) x.1 0 ≡ load_on (x ∷ xs) h + cond (b == h) x.1 0
load_at p b h x xs e others =
    let first : load_on (places_with (x ∷ xs) p b) h ≡ load_on (on_host b x ∷ places_with xs p b) h = ap (λ (t : Bool). load_on (cond t (on_host b x) x ∷ places_with xs p b) h) e in
    let rest : load_on (places_with xs p b) h ≡ load_on xs h = ap (λ (ys : List (Place × ℕ)). load_on ys h) (sent_other xs p b others) in
    omega (arith, first, rest)

load_past : (p : Path) (b h : ℕ) (x : Place × ℕ) (xs : List (Place × ℕ)) (u v : ℕ) → path_eq p x.0.path ≡ false →
    load_on (places_with xs p b) h + u ≡ load_on xs h + v → load_on (places_with (x ∷ xs) p b) h + u ≡ load_on (x ∷ xs) h + v
load_past p b h x xs u v e rest =
    let first : load_on (places_with (x ∷ xs) p b) h ≡ load_on (x ∷ places_with xs p b) h = ap (λ (t : Bool). load_on (cond t (on_host b x) x ∷ places_with xs p b) h) e in
    omega (arith, first, rest)

-- the one context that moves takes its load along
pub load_sent : (q : Place × ℕ → Bool) (b h : ℕ) (xs : List (Place × ℕ)) (x : Place × ℕ) → AreApart (paths_of xs) → find q xs ≡ Some x →
    load_on (places_with xs x.0.path b) h + cond (is_on h x) x.1 0 ≡ load_on xs h + cond (b == h) x.1 0
load_sent q b h [] x a e = cc
load_sent q b h (y ∷ ys) x a e =
    elim (q y) as (λ t. cond t (Some y) (find q ys) ≡ Some x → load_on (places_with (y ∷ ys) x.0.path b) h + cond (is_on h x) x.1 0 ≡ load_on (y ∷ ys) h + cond (b == h) x.1 0) [
      | true ↦ λ f. let same : y ≡ x = cc in
          subst (λ (z : Place × ℕ). load_on (places_with (y ∷ ys) z.0.path b) h + cond (is_on h z) z.1 0 ≡ load_on (y ∷ ys) h + cond (b == h) z.1 0) same
          (load_at y.0.path b h y ys (path_eq_equiv.refl y.0.path) a.0)
      | false ↦ λ f. load_past x.0.path b h y ys _ _
          (path_eq_equiv.symm x.0.path y.0.path ∙ found_path (λ (r : Path). path_eq y.0.path r ≡ false) q ys x f a.0)
          (load_sent q b h ys x a.1 f)
    ] e

pub apart_sent : (xs : List (Place × ℕ)) (p : Path) (to : ℕ) → AreApart (paths_of xs) → AreApart (paths_of (places_with xs p to))
apart_sent xs p to a = subst AreApart (sym (paths_sent xs p to)) a
