use Rattle.std.proofs.Common.{List, Bool, true, false, sym, subst, if◌then◌else◌}
use Rattle.std.specs.List.{insert}
use Rattle.std.specs.List.Sorted.{IsStrictlySortedBy}
use Rattle.std.specs.Map.{keys_of}
use Rattle.wave_base.specs.declared.path.Path.{Path}
use Rattle.wave_base.specs.Paths.{path_cmp}
use Rattle.wave_base.specs.PathLaws.{path_cmp_total, same_path}
use Rattle.event_cells.specs.declared.held.Hold.{Hold}
use Rattle.event_cells.specs.inner.Places.{IsThere, IsGap}
use Rattle.event_cells.proofs.Sorted.{sorted_put}
use Rattle.event_cells.proofs.held.Held.put.Goals as goal

abbrev InOrder : List (Path × Hold) → Type 0
InOrder l = IsStrictlySortedBy path_cmp (keys_of l)

either : (b : Bool) (k l : List (Path × Hold)) → InOrder k → InOrder l → InOrder (if b then k else l)
either true k l p q = p
either false k l p q = q

pub invariant_of-self : goal.invariant_of-self
invariant_of-self c =
    let at : IsThere path_cmp c.self.inside.holds.items c.args.path c.in-Ok.i = subst (λ v. IsThere path_cmp v.holds c.args.path c.in-Ok.i) (sym c.self.view_is) c.in-Ok.ensures in
    subst InOrder (sym (at.sets c.args.hold)) (sorted_put path_cmp path_cmp_total same_path c.args.path c.args.hold _ c.self.invariant)

pub invariant_of-self-in-Err : goal.invariant_of-self-in-Err
invariant_of-self-in-Err c =
    let gap : IsGap path_cmp c.self.inside.holds.items c.args.path c.in-Err.i = subst (λ v. IsGap path_cmp v.holds c.args.path c.in-Err.i) (sym c.self.view_is) c.in-Err.ensures in
    let more : InOrder (insert c.self.inside.holds.items c.in-Err.i (c.args.path, c.args.hold)) = subst InOrder (sym (gap.inserts c.args.hold)) (sorted_put path_cmp path_cmp_total same_path c.args.path c.args.hold _ c.self.invariant) in
    subst InOrder (sym c.insert.ensures.items) (either _ _ _ more c.self.invariant)
