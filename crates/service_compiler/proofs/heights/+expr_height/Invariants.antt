use Rattle.std.proofs.Common.{◌≡◌, min, map, take}
use Rattle.resolved_service.specs.View.{tree_of, trees_of}
use Rattle.code_scheme.specs.Heights.{trees_height}
use Rattle.service_compiler.proofs.heights.+expr_height.Given as goal

abbrev pub invariant-exprs_height-exprs : goal.invariant-exprs_height-exprs
invariant-exprs_height-exprs l = (l.height ≡ min (trees_height l.methods (trees_of (map tree_of (take l.expr-index l.exprs)))) 65535) × (l.below ≡ min l.expr-index 65535)
