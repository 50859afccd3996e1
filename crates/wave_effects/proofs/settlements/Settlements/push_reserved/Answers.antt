use Rattle.std.proofs.Common.{◌∙◌, ◌++◌, ◌∷◌, [], ap, ap₂}
use Rattle.wave_effects.specs.Settling.{Settling}
use Rattle.wave_effects.specs.inner.Rows.{rows_of}
use Rattle.wave_effects.proofs.Rows.{rows_push}
use Rattle.wave_effects.proofs.settlements.Settlements.push_reserved.Goals as goal

pub returns : goal.returns
returns c =
    ap₂ rows_of c.push_reserved.ensures.items c.push_reserved-2.ensures.items
    ∙ rows_push c.self.inside.results.items c.self.inside.made.items c.args.settled c.self.invariant
    ∙ ap (λ (v : Settling). v.items ++ c.args.settled ∷ []) c.self.view_is
