use Rattle.std.proofs.Common.{◌≤◌, ap, sym, ◌∙◌, length, arith, w64}
use Rattle.std.proofs.lemmas.Int.{to_z-of_z}
use Rattle.std.specs.Option.{is_some}
use Rattle.wave_base.specs.Tables.{value_at}
use Rattle.value_ops.proofs.MapLemmas.{no_room}
use Rattle.service_eval.proofs.rows.is_full.Goals as goal

pub returns-then-len-ge-TABLE_PAIRS : goal.returns-then-len-ge-TABLE_PAIRS
returns-then-len-ge-TABLE_PAIRS c =
    let long : 1000 ≤ length c.args.map.now = omega (arith, c.len.ensures.len) in
    no_room c.args.map.now c.args.key _ long (sym c.is_none.ensures ∙ ap is_some (c.get.ensures ∙ ap (value_at c.args.map.now) (to_z-of_z w64 c.args.key c.ranges.key)))
