use Rattle.std.proofs.Common.{rules}
use Rattle.std.proofs.lemmas.List.Sorted.{answers_always}
use Rattle.wave_base.specs.Paths.{path_cmp}
use Rattle.wave_base.specs.PathLaws.{path_cmp_total, same_path}
use Rattle.event_cells.proofs.Sorted.{placed}
use Rattle.event_cells.proofs.held.Held.search.Goals as goal

-- the closure gives the path, and the slice is what is held
pub returns : goal.returns
returns c =
    let facts = c.binary_search_by_key.ensures in
    let by_key = facts.position (λ hold. hold.0) (answers_always _ _ _ (λ f a r g called. search rules)) in
    rw (← c.as_slice.ensures.holds) (placed path_cmp path_cmp_total same_path c.args.path.now _ _ c.as_slice.ensures.ordered facts.bound by_key)
