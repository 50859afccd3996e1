use Rattle.std.proofs.Common.{◌∙◌, map, sym, ap}
use Rattle.wave_effects.specs.declared.kept.Settled.{Settled}
use Rattle.wave_effects.specs.Settling.{Settling}
use Rattle.wave_effects.proofs.Rows.{rows_made, rows_results}
use Rattle.wave_effects.proofs.settlements.Settlements.into_parts.Goals as goal

pub returns-clause-results : goal.returns-clause-results
returns-clause-results c =
    c.from_vec.ensures ∙ sym (rows_results c.self.inside.results.items c.self.inside.made.items c.self.invariant) ∙ ap (λ (v : Settling). map (λ (x : Settled). x.result) v.items) c.self.view_is

pub returns-clause-made : goal.returns-clause-made
returns-clause-made c =
    c.from_vec-2.ensures ∙ sym (rows_made c.self.inside.results.items c.self.inside.made.items c.self.invariant) ∙ ap (λ (v : Settling). map (λ (x : Settled). x.made) v.items) c.self.view_is
