use Rattle.std.proofs.Common.{◌∙◌, length, ap, sym, Ok, arith, w64}
use Rattle.std.proofs.lemmas.Int.{to_z-of_z}
use Rattle.std.specs.Fmt.{signed_decimal}
use Rattle.wave_base.specs.declared.value.Value.TheVariants.{Str}
use Rattle.value_ops.specs.Operators.{apply_row, operators}
use Rattle.value_ops.proofs.AnswerLemmas.{wants_memory}
use Rattle.value_ops.proofs.TextLemmas.{number_is_text}
use Rattle.value_ops.proofs.texts.text_of_int.Goals as goal

pub from_bytes-requires : goal.from_bytes-requires
from_bytes-requires c =
    number_is_text c.args.n c.ranges.n c.as_bytes.result.now (c.as_bytes.ensures.value ∙ c.format.ensures.text ∙ ap signed_decimal (to_z-of_z w64 c.args.n c.ranges.n)) (omega (arith, c.format.ensures.short, ap length c.as_bytes.ensures.value))

pub returns-in_err-from_bytes : goal.returns-in_err-from_bytes
unfolding apply_row operators
returns-in_err-from_bytes c = wants_memory _ _ c.from_residual.ensures.1 tt

pub returns : goal.returns
unfolding apply_row operators
returns c =
    ap (λ t. Ok (Str t)) (sym (c.in_ok-from_bytes.ensures ∙ c.as_bytes.ensures.value ∙ c.format.ensures.text ∙ ap signed_decimal (to_z-of_z w64 c.args.n c.ranges.n)))
