use Rattle.std.proofs.Common.{◌≡◌, ◌∙◌, ap, arith, pos, length, Ok, w64, to_z}
use Rattle.std.proofs.lemmas.Int.{to_z_pos}
use Rattle.wave_base.specs.declared.value.Value.TheVariants.{Int}
use Rattle.value_ops.specs.Operators.{apply_row, operators}
use Rattle.value_ops.proofs.RowLemmas.{num_row}
use Rattle.value_ops.proofs.values.read_text.Goals as goal

pub returns-then-row-eq-LEN : goal.returns-then-row-eq-LEN
unfolding apply_row operators
returns-then-row-eq-LEN c =
    let count : to_z w64 (length c.bytes.result.now) ≡ pos (length c.args.t.now) = to_z_pos w64 _ (omega (arith, c.bytes.ensures.text.short)) ∙ ap (λ t. pos (length t)) c.bytes.ensures.bytes in
    rw c.if-row-eq-LEN.true (ap (λ z. Ok (Int z)) count)

pub returns-else-row-eq-LEN : goal.returns-else-row-eq-LEN
unfolding apply_row operators
returns-else-row-eq-LEN c = rw (num_row c.args.row c.requires c.if-row-eq-LEN.false) c.num.ensures
