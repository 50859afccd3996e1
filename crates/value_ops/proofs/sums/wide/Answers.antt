use Rattle.std.proofs.Common.{rules, ◌∙◌, ap, sym, subst, w64, FitsSigned, to_z, of_z}
use Rattle.std.specs.Int.{w128}
use Rattle.std.proofs.lemmas.Int.{to_z-of_z}
use Rattle.value_ops.proofs.SumLemmas.{int_plain}
use Rattle.value_ops.proofs.sums.wide.Goals as goal

pub returns-clause-same : goal.returns-clause-same
returns-clause-same c =
    let fits : FitsSigned w64 c.args.pair.now.1 = search rules in
    ap (λ z. to_z w128 (of_z w128 z)) (c.from.ensures ∙ to_z-of_z w64 c.args.pair.now.1 fits) ∙ int_plain c.args.pair.now.1 fits

pub returns-clause-within : goal.returns-clause-within
returns-clause-within c =
    let fits : FitsSigned w64 c.args.pair.now.1 = search rules in
    subst (FitsSigned w64) (sym (ap (λ z. to_z w128 (of_z w128 z)) (c.from.ensures ∙ to_z-of_z w64 c.args.pair.now.1 fits) ∙ int_plain c.args.pair.now.1 fits)) fits
