use Rattle.std.proofs.Common.{rules, w64, subst, ℤ}
use Rattle.std.proofs.lemmas.Int.{to_z-of_z}
use Rattle.std.proofs.lemmas.List.Sorted.{answers_always}
use Rattle.std.specs.List.Sorted.{IsBinarySearchResult}
use Rattle.std.specs.Ordering.{int_cmp}
use Rattle.wave_base.proofs.Places.{placed}
use Rattle.wave_base.proofs.table.Table.place.Goals as goal

-- the closure gives a pair's key, and the slice is the list of the pairs
pub returns : goal.returns
returns c =
    let facts = c.binary_search_by_key.ensures in
    let by_key = facts.position (λ pair. pair.0) (answers_always _ _ _ (λ f a r g called. search rules)) in
    let by_value = subst (λ (k : ℤ). IsBinarySearchResult (λ (y : ℤ × ℤ). int_cmp y.0 k) c.pairs.result.now c.binary_search_by_key.result) (to_z-of_z w64 c.args.key c.ranges.key) by_key in
    rw (← c.pairs.ensures.pairs) (placed c.args.key _ _ c.pairs.ensures.table.rises facts.bound by_value)
