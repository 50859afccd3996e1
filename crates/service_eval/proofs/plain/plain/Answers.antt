use Rattle.std.proofs.Common.{◌≡◌, map, IfSome, sym, ap, subst, ◌∙◌}
use Rattle.resolved_service.specs.View as r
use Rattle.resolved_service.specs.View.{Tree, node_tree, tree_of, trees_of}
use Rattle.service_eval.specs.inner.Turns.{IsWorth}
use Rattle.wave_base.specs.declared.value.Value.TheVariants.{Bool}
use Rattle.service_eval.proofs.PlainLemmas.{if_some, if_mapped}
use Rattle.service_eval.proofs.TreeRows.{op_node}
use Rattle.service_eval.proofs.plain.plain.Goals as goal

pub returns-in-Op : goal.returns-in-Op
returns-in-Op c =
    let e = c.args.e.now in
    let is : tree_of e ≡ r.Op e.at c.in-Op.row (trees_of (map tree_of c.as_slice.result.now)) =
    ap (λ n. node_tree n e.at) c.in-Op.is ∙ op_node c.in-Op.row c.in-Op.args e.at ∙ ap (λ l. r.Op e.at c.in-Op.row (trees_of (map tree_of l))) (sym c.as_slice.ensures.value) in
    subst (λ (t : Tree). IfSome c.plain_of.result (IsWorth c.args.view.now t)) (sym is) c.plain_of.ensures

pub returns-in-And : goal.returns-in-And
returns-in-And c = if_mapped Bool (IsWorth c.args.view.now (tree_of c.args.e.now)) c.flag.result c.truth.result c.truth.ensures c.flag.ensures

pub returns-in-Or : goal.returns-in-Or
returns-in-Or c = if_mapped Bool (IsWorth c.args.view.now (tree_of c.args.e.now)) c.flag-in-Or.result c.truth-in-Or.result c.truth-in-Or.ensures c.flag-in-Or.ensures

pub returns-in-Some : goal.returns-in-Some
returns-in-Some c =
    let e = c.args.e.now in
    if_some (λ v. v ≡ c.in-Some.value.now) (IsWorth c.args.view.now (tree_of e)) c.copied.result
    (λ v h. subst (IsWorth c.args.view.now (tree_of e)) (sym h) c.in-Some.ensures) c.copied.ensures
