use Rattle.std.proofs.Common.{◌≡◌, ap, ◌∙◌, Ok, w64, arith}
use Rattle.std.proofs.lemmas.Int.{to_z-of_z}
use Rattle.std.specs.Option.{is_some}
use Rattle.wave_base.specs.declared.trap.TrapKind.TheVariants.{Absent}
use Rattle.wave_base.specs.declared.value.Kind.TheVariants.{Int}
use Rattle.wave_base.specs.declared.value.Value.TheVariants.{Bool}
use Rattle.wave_base.specs.Tables.{value_at}
use Rattle.value_ops.specs.Kinds.{answer_of}
use Rattle.value_ops.specs.Meanings.{or_trap, key_at}
use Rattle.value_ops.specs.Operators.{apply_row, operators}
use Rattle.value_ops.proofs.RowLemmas.{map_rows, cut_gives}
use Rattle.value_ops.proofs.maps.read_map.Goals as goal

pub returns-in-19 : goal.returns-in-19
unfolding apply_row operators
returns-in-19 c =
    rw c.in-19.is (c.number_at.ensures ∙ ap (λ o. answer_of Int (or_trap Absent o)) (c.get.ensures ∙ ap (value_at c.args.map.now) (to_z-of_z w64 c.args.key c.ranges.key)))

pub returns-in-22 : goal.returns-in-22
unfolding apply_row operators
returns-in-22 c =
    rw c.in-22.is (ap (λ b. Ok (Bool b)) (c.is_some.ensures ∙ ap is_some (c.get-in-22.ensures ∙ ap (value_at c.args.map.now) (to_z-of_z w64 c.args.key c.ranges.key))))

pub returns-in_default : goal.returns-in_default
unfolding apply_row operators
returns-in_default c =
    let last : c.args.row ≡ 24 = map_rows c.args.row c.requires.takes (omega arith) (cut_gives c.args.row c.requires.reads) (omega arith) in
    rw last (c.number_at-in_default.ensures ∙ ap (λ o. answer_of Int (or_trap Absent o)) (c.key_at.ensures ∙ ap (key_at c.args.map.now) (to_z-of_z w64 c.args.key c.ranges.key)))
