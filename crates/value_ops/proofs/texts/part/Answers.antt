use Rattle.std.proofs.Common.{◌∙◌, ap, sym, Ok, w64}
use Rattle.std.proofs.lemmas.Int.{to_z-of_z}
use Rattle.wave_base.specs.declared.trap.TrapKind.TheVariants.{Absent}
use Rattle.wave_base.specs.declared.value.Kind.TheVariants.{Text}
use Rattle.wave_base.specs.declared.value.Value.TheVariants.{Str}
use Rattle.value_ops.specs.Kinds.{answer_of}
use Rattle.value_ops.specs.Meanings.{or_trap, part}
use Rattle.value_ops.specs.Operators.{apply_row, operators}
use Rattle.value_ops.proofs.AnswerLemmas.{wants_memory, may_want_text}
use Rattle.value_ops.proofs.texts.part.Goals as goal

pub returns-in_err-from_bytes-in-Some : goal.returns-in_err-from_bytes-in-Some
unfolding apply_row operators
returns-in_err-from_bytes-in-Some c =
    let given = c.in-Some.ensures ∙ (λ i. part (c.bytes.ensures.bytes i) (to_z-of_z w64 c.args.from c.ranges.from i) (to_z-of_z w64 c.args.to c.ranges.to i)) in
    wants_memory _ _ c.from_residual.ensures.1 (may_want_text _ _ (sym (ap (λ o. answer_of Text (or_trap Absent o)) given)))

pub returns-in_ok-from_bytes-in-Some : goal.returns-in_ok-from_bytes-in-Some
unfolding apply_row operators
returns-in_ok-from_bytes-in-Some c =
    let given = c.in-Some.ensures ∙ (λ i. part (c.bytes.ensures.bytes i) (to_z-of_z w64 c.args.from c.ranges.from i) (to_z-of_z w64 c.args.to c.ranges.to i)) in
    sym (ap (λ o. answer_of Text (or_trap Absent o)) given) ∙ ap (λ t. Ok (Str t)) (sym c.in_ok-from_bytes-in-Some.ensures)

pub returns-in-None : goal.returns-in-None
unfolding apply_row operators
returns-in-None c =
    let given = c.in-None.ensures ∙ (λ i. part (c.bytes.ensures.bytes i) (to_z-of_z w64 c.args.from c.ranges.from i) (to_z-of_z w64 c.args.to c.ranges.to i)) in
    sym (ap (λ o. answer_of Text (or_trap Absent o)) given)
