use Rattle.std.proofs.Common.{◌≡◌, ◌∙◌, ap, arith, pos, length, Ok, w64, to_z}
use Rattle.std.proofs.lemmas.Int.{to_z_pos}
use Rattle.wave_base.specs.declared.value.Value.TheVariants.{Int}
use Rattle.value_ops.specs.Operators.{apply_row, operators}
use Rattle.value_ops.proofs.RowLemmas.{sum_row}
use Rattle.value_ops.proofs.values.sum_up.Goals as goal

pub returns-then-row-eq-SIZE : goal.returns-then-row-eq-SIZE
unfolding apply_row operators
returns-then-row-eq-SIZE c =
    let count : to_z w64 c.len.result ≡ pos (length c.args.map.now) = to_z_pos w64 _ (omega (arith, c.len.ensures.len, c.len.ensures.short)) ∙ ap pos c.len.ensures.len in
    rw c.if-row-eq-SIZE.true (ap (λ z. Ok (Int z)) count)

pub returns-else-row-eq-SIZE : goal.returns-else-row-eq-SIZE
unfolding apply_row operators
returns-else-row-eq-SIZE c = rw (sum_row c.args.row c.requires c.if-row-eq-SIZE.false) c.sum.ensures
