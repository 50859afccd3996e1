use Rattle.std.proofs.Common.{◌≡◌, ◌∙◌, ◌-◌, ℕ, suc, List, [], ◌∷◌, Some, slice_get, length, sym, ap, subst, arith}
use Rattle.std.specs.List.Sorted.{IsStrictlySortedBy}
use Rattle.std.specs.Map.{keys_of}
use Rattle.wave_base.specs.declared.path.Path.{Path}
use Rattle.wave_base.specs.Paths.{path_cmp}
use Rattle.wave_base.specs.PathLaws.{path_cmp_total, same_path}
use Rattle.event_cells.specs.declared.held.Hold.{Hold}
use Rattle.event_cells.specs.inner.Places.{IsGap}
use Rattle.event_cells.proofs.Sorted.{placed_behind, placed_last}
use Rattle.event_cells.proofs.held.Held.place.Goals as goal

-- the last place of a list that has a last one
last_place : (es : List (Path × Hold)) (n : ℕ) (x : Path × Hold) → n ≡ length es → slice_get es (length es - 1) ≡ Some x → suc (n - 1) ≡ length es
last_place [] n x e h = cc
last_place (y ∷ es) n x e h = omega (arith, e)

at_last : (es ds : List (Path × Hold)) (n : ℕ) (x : Path × Hold) → n ≡ length es → ds ≡ es → Some x ≡ slice_get ds (length ds - 1) → slice_get es (n - 1) ≡ Some x
at_last es ds n x e same h = ap (λ m. slice_get es (m - 1)) e ∙ ap (λ l. slice_get l (length l - 1)) (sym same) ∙ sym h

abbrev InOrder : List (Path × Hold) → Type 0
InOrder es = IsStrictlySortedBy path_cmp (keys_of es)

pub returns-in-Equal : goal.returns-in-Equal
returns-in-Equal c =
    let es = c.args.self.now.holds in
    let view = ap (λ v. v.holds) c.self.view_is in
    let n : c.len.result ≡ length es = c.len.ensures ∙ sym c.deref.ensures.len ∙ ap length (c.deref.ensures.value ∙ view) in
    let here = at_last es c.deref.result.now c.len.result c.in-Some.last.now n (c.deref.ensures.value ∙ view) c.in-Some.ensures.value in
    placed_last path_cmp path_cmp_total same_path c.args.path.now es (c.len.result - 1) c.in-Some.last.now (subst InOrder view c.self.invariant)
    (last_place es c.len.result c.in-Some.last.now n (ap (λ m. slice_get es (m - 1)) (sym n) ∙ here)) here (sym c.cmp.ensures ∙ c.in-Equal.is)

pub returns-in-Greater : goal.returns-in-Greater
returns-in-Greater c =
    let es = c.args.self.now.holds in
    let view = ap (λ v. v.holds) c.self.view_is in
    let n : c.len-in-Greater.result ≡ length es = c.len-in-Greater.ensures ∙ sym c.deref.ensures.len ∙ ap length (c.deref.ensures.value ∙ view) in
    let here = at_last es c.deref.result.now c.len-in-Greater.result c.in-Some.last.now n (c.deref.ensures.value ∙ view) c.in-Some.ensures.value in
    subst (IsGap path_cmp es c.args.path.now) (sym n)
    (placed_behind path_cmp path_cmp_total same_path c.args.path.now es (c.len-in-Greater.result - 1) c.in-Some.last.now (subst InOrder view c.self.invariant)
    (last_place es c.len-in-Greater.result c.in-Some.last.now n (ap (λ m. slice_get es (m - 1)) (sym n) ∙ here)) here (sym c.cmp.ensures ∙ c.in-Greater.is))
