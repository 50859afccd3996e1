use Rattle.std.proofs.Common.{ap, sym, ◌∙◌, Ok, w64, to_z, of_z}
use mathlib.Core.Bool.{true≢false}
use Rattle.wave_base.specs.declared.value.Kind.TheVariants.{Map}
use Rattle.wave_base.specs.declared.value.Value.TheVariants as value
use Rattle.wave_base.specs.Tables.{with_pair}
use Rattle.value_ops.specs.Kinds.{answer_of}
use Rattle.value_ops.specs.Operators.{apply_row, operators}
use Rattle.value_ops.proofs.AnswerLemmas.{wants_memory, may_want_map}
use Rattle.value_ops.proofs.MapLemmas.{put_full, put_room}
use Rattle.value_ops.proofs.maps.put.Goals as goal

pub returns-then-is_full : goal.returns-then-is_full
unfolding apply_row operators
returns-then-is_full c = ap (answer_of Map) (put_full c.args.map.now c.args.key c.args.value c.ranges.key c.ranges.value (sym c.is_full.ensures ∙ c.if-is_full.true))

pub returns-in_err-copy : goal.returns-in_err-copy
unfolding apply_row operators
returns-in_err-copy c =
    wants_memory _ _ c.from_residual.ensures.1 (may_want_map _ _ (ap (answer_of Map) (put_room c.args.map.now c.args.key c.args.value c.ranges.key c.ranges.value (λ h. true≢false (sym h ∙ sym c.is_full.ensures ∙ c.if-is_full.false)))))

pub returns-in-Ok : goal.returns-in-Ok
unfolding apply_row operators
returns-in-Ok c =
    ap (answer_of Map) (put_room c.args.map.now c.args.key c.args.value c.ranges.key c.ranges.value (λ h. true≢false (sym h ∙ sym c.is_full.ensures ∙ c.if-is_full.false)))
    ∙ ap (λ m. Ok (value.Map m)) (sym (c.in-Ok.ensures.ok ∙ (λ i. with_pair (c.in_ok-copy.ensures i) (to_z w64 (of_z w64 c.args.key)) (to_z w64 (of_z w64 c.args.value)))))

pub returns-in-Err-OutOfMemory : goal.returns-in-Err-OutOfMemory
unfolding apply_row operators
returns-in-Err-OutOfMemory c =
    may_want_map _ _ (ap (answer_of Map) (put_room c.args.map.now c.args.key c.args.value c.ranges.key c.ranges.value (λ h. true≢false (sym h ∙ sym c.is_full.ensures ∙ c.if-is_full.false))))
