use Rattle.std.proofs.Common.{refl, sym, ap, ◌∙◌, ◌∷◌, ◌++◌, [], find}
use Rattle.type_rules.specs.Kinds.{takes_kinds}
use Rattle.context_types.proofs.Operations.{operation, one_of}
use Rattle.context_types.proofs.here.Here.unary.Goals as goal

pub returns : goal.returns
returns c =
    let found = ap (find (takes_kinds (c.args.operand.kind ∷ []))) (sym c.rows_before.ensures.rows) ∙ sym c.first.ensures.found ∙ c.in-Some.is in
    let args = c.in_ok-push.ensures.items ∙ ap (λ l. l ++ c.args.operand.tree ∷ []) c.new-args.ensures.items in
    operation _ _ _ c.in-Some.row c.args.at c.push.new.items _ c.new.result c.gives.result refl refl found (one_of _ _ args) c.gives.ensures c.new.ensures.kind c.new.ensures.tree
