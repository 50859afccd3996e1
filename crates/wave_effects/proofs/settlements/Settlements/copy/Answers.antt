use Rattle.std.proofs.Common.{◌≡◌, ◌∙◌, ◌<◌, Some, length, refl, sym, ap, arith}
use Rattle.std.specs.Prelude.{slice_get}
use Rattle.std.proofs.lemmas.Option.{slice_get_read}
use Rattle.wave_effects.specs.Settling.{Settling}
use Rattle.wave_effects.proofs.Rows.{rows_get, rows_len}
use Rattle.wave_effects.proofs.settlements.Settlements.copy.Goals as goal

pub index-requires : goal.index-requires
index-requires c =
    let many = ap (λ (v : Settling). length v.items) c.self.view_is in
    let rows = rows_len c.self.inside.results.items c.self.inside.made.items c.self.invariant in
    omega (arith, many, rows, c.requires)

pub index-requires-2 : goal.index-requires-2
index-requires-2 c =
    let many = ap (λ (v : Settling). length v.items) c.self.view_is in
    let rows = rows_len c.self.inside.results.items c.self.inside.made.items c.self.invariant in
    omega (arith, many, rows, c.requires, c.self.invariant)

pub returns : goal.returns
returns c =
    let rs = c.self.inside.results.items in
    let ms = c.self.inside.made.items in
    let many = ap (λ (v : Settling). length v.items) c.self.view_is in
    let rows = rows_len rs ms c.self.invariant in
    let low : c.args.i < length rs = omega (arith, many, rows, c.requires) in
    let under : c.args.i < length ms = omega (arith, low, c.self.invariant) in
    let result : slice_get rs c.args.i ≡ Some c.in_ok-copy.field-0 = slice_get_read rs _ c.args.i c.index.result.now refl low c.index.ensures ∙ ap Some (sym c.in_ok-copy.ensures) in
    let made : slice_get ms c.args.i ≡ Some c.in_ok-copy-2.field-0 = slice_get_read ms _ c.args.i c.index-2.result.now refl under c.index-2.ensures ∙ ap Some (sym c.in_ok-copy-2.ensures) in
    sym (ap (λ (v : Settling). slice_get v.items c.args.i) c.self.view_is) ∙ rows_get rs ms c.args.i c.in_ok-copy.field-0 c.in_ok-copy-2.field-0 result made
