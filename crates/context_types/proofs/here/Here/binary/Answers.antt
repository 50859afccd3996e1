use Rattle.std.proofs.Common.{sym, ap, ◌∙◌, ◌∷◌, [], find}
use Rattle.type_rules.specs.Kinds.{takes_kinds}
use Rattle.context_types.proofs.Operations.{operation, two_of, sign_kind, sign_tree}
use Rattle.context_types.proofs.here.Here.binary.Goals as goal

pub returns-in_ok-args-in_default : goal.returns-in_ok-args-in_default
returns-in_ok-args-in_default c =
    let found = ap (find (takes_kinds (c.args.left.kind ∷ c.args.right.kind ∷ []))) (sym c.rows_of_sign.ensures.rows) ∙ sym c.first.ensures.found ∙ c.in-Some.is in
    operation _ _ _ c.in-Some.row c.args.at c.in_ok-args-in_default.args _ c.new-in_default.result c.gives.result
    (sign_kind c.args.op _ _ c.in_default.not-And c.in_default.not-Or) (sign_tree c.args.at c.args.op _ _ _ _ c.in_default.not-And c.in_default.not-Or)
    found (two_of _ _ _ c.in_ok-args-in_default.ensures) c.gives.ensures c.new-in_default.ensures.kind c.new-in_default.ensures.tree
