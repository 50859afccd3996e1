use Rattle.std.proofs.Common.{refl, sym, ap, ◌∙◌, ◌∷◌, [], find}
use Rattle.type_rules.specs.Kinds.{takes_kinds}
use Rattle.context_types.proofs.Operations.{operation, two_of}
use Rattle.context_types.proofs.here.Here.index.Goals as goal

pub returns : goal.returns
returns c =
    let found = ap (find (takes_kinds (c.args.map.kind ∷ c.args.key.kind ∷ []))) (sym c.rows_of_index.ensures.rows) ∙ sym c.first.ensures.found ∙ c.in-Some.is in
    operation _ _ _ c.in-Some.row c.args.at c.in_ok-args.args _ c.new.result c.gives.result refl refl found (two_of _ _ _ c.in_ok-args.ensures) c.gives.ensures c.new.ensures.kind c.new.ensures.tree
