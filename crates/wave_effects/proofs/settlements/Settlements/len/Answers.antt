use Rattle.std.proofs.Common.{length, ap, arith}
use Rattle.wave_effects.specs.Settling.{Settling}
use Rattle.wave_effects.proofs.Rows.{rows_len}
use Rattle.wave_effects.proofs.settlements.Settlements.len.Goals as goal

pub returns : goal.returns
returns c =
    let rows = rows_len c.self.inside.results.items c.self.inside.made.items c.self.invariant in
    let many = ap (λ (v : Settling). length v.items) c.self.view_is in
    omega (arith, c.len.ensures, rows, many)
