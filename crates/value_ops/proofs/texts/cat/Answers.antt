use Rattle.std.proofs.Common.{◌<◌, ◌≤◌, ◌+◌, ◌∙◌, length, ap, sym, Ok, arith}
use Rattle.wave_base.specs.declared.value.Kind.TheVariants.{Text}
use Rattle.wave_base.specs.declared.value.Value.TheVariants.{Str}
use Rattle.value_ops.specs.Kinds.{answer_of}
use Rattle.value_ops.specs.Operators.{apply_row, operators}
use Rattle.value_ops.proofs.AnswerLemmas.{wants_memory, may_want_text}
use Rattle.value_ops.proofs.TextLemmas.{joined_short, joined_long}
use Rattle.value_ops.proofs.texts.cat.Goals as goal

pub returns-then-bytes-gt-TEXT_BYTES : goal.returns-then-bytes-gt-TEXT_BYTES
unfolding apply_row operators
returns-then-bytes-gt-TEXT_BYTES c =
    let long : 1000 < length c.args.s.now + length c.args.t.now = omega (arith, ap length c.bytes.ensures.bytes, ap length c.bytes-2.ensures.bytes) in
    ap (answer_of Text) (joined_long c.args.s.now c.args.t.now long)

pub returns-in_err-joined_text : goal.returns-in_err-joined_text
unfolding apply_row operators
returns-in_err-joined_text c =
    let short : length c.args.s.now + length c.args.t.now ≤ 1000 = omega (arith, ap length c.bytes.ensures.bytes, ap length c.bytes-2.ensures.bytes) in
    wants_memory _ _ c.from_residual.ensures.1 (may_want_text _ _ (ap (answer_of Text) (joined_short c.args.s.now c.args.t.now short)))

pub returns : goal.returns
unfolding apply_row operators
returns c =
    let short : length c.args.s.now + length c.args.t.now ≤ 1000 = omega (arith, ap length c.bytes.ensures.bytes, ap length c.bytes-2.ensures.bytes) in
    ap (answer_of Text) (joined_short c.args.s.now c.args.t.now short) ∙ ap (λ t. Ok (Str t)) (sym c.in_ok-joined_text.ensures)
