use Rattle.std.proofs.Common.{◌≡◌, ap, sym, ◌∙◌, not, Ok, arith}
use Rattle.std.specs.Cmp.Lexicographic.{slice_cmp}
use Rattle.std.specs.Ordering.{nat_cmp, is_lt}
use Rattle.wave_base.specs.declared.value.Value.TheVariants.{Bool}
use Rattle.wave_base.specs.Names.{same_bytes}
use Rattle.value_ops.specs.Meanings.{starts}
use Rattle.value_ops.specs.Operators.{apply_row, operators}
use Rattle.value_ops.proofs.RowLemmas.{texts_rows, cat_gives}
use Rattle.value_ops.proofs.texts.compare_texts.Goals as goal

pub returns-in-15 : goal.returns-in-15
unfolding apply_row operators
returns-in-15 c = rw c.in-15.is (ap (λ b. Ok (Bool b)) (sym (c.eq.ensures ∙ (λ i. same_bytes (c.bytes.ensures.bytes i) (c.bytes-in-15.ensures.bytes i)))))

pub returns-in-16 : goal.returns-in-16
unfolding apply_row operators
returns-in-16 c = rw c.in-16.is (ap (λ b. Ok (Bool b)) (sym (c.ne.ensures ∙ (λ i. not (same_bytes (c.bytes-in-16.ensures.bytes i) (c.bytes-in-16-2.ensures.bytes i))))))

pub returns-in-17 : goal.returns-in-17
unfolding apply_row operators
returns-in-17 c = rw c.in-17.is (ap (λ b. Ok (Bool b)) (sym (c.is_lt.ensures ∙ ap is_lt (c.cmp.ensures ∙ (λ i. slice_cmp nat_cmp (c.bytes-in-17.ensures.bytes i) (c.bytes-in-17-2.ensures.bytes i))))))

pub returns-in_default : goal.returns-in_default
unfolding apply_row operators
returns-in_default c =
    let last : c.args.row ≡ 32 = texts_rows c.args.row c.requires.takes (omega arith) (omega arith) (omega arith) (cat_gives c.args.row c.requires.says) in
    rw last (ap (λ b. Ok (Bool b)) (sym (c.starts_with.ensures.value ∙ (λ i. starts (c.bytes-in_default.ensures.bytes i) (c.bytes-in_default-2.ensures.bytes i)))))
