use Rattle.std.proofs.Common.{ap, sym, ◌∙◌, Ok, Err}
use Rattle.wave_base.specs.declared.value.Kind.TheVariants.{Map}
use Rattle.wave_base.specs.declared.value.Value.TheVariants as value
use Rattle.value_ops.specs.Kinds.{answer_of}
use Rattle.value_ops.specs.Operators.{apply_row, operators}
use Rattle.value_ops.proofs.AnswerLemmas.{value_no_trap, memory_no_trap, same_trap}
use Rattle.value_ops.proofs.MapLemmas.{put_full, put_room}
use Rattle.value_ops.proofs.maps.put_pair.Goals as goal

pub returns-in-Ok-clause-ok : goal.returns-in-Ok-clause-ok
unfolding apply_row operators
returns-in-Ok-clause-ok c =
    ap (answer_of Map) (put_room c.args.map.now c.args.key c.args.value c.ranges.key c.ranges.value (λ h. let e = c.in-Ok.ensures.full.0 h in cc))
    ∙ ap (λ m. Ok (value.Map m)) (sym c.in-Ok.ensures.ok)

pub returns-in-Ok-clause-trap : goal.returns-in-Ok-clause-trap
unfolding apply_row operators
returns-in-Ok-clause-trap c = λ trap. value_no_trap _ trap _ _ (returns-in-Ok-clause-ok c)

pub returns-in-Err-Full-clause-trap : goal.returns-in-Err-Full-clause-trap
unfolding apply_row operators
returns-in-Err-Full-clause-trap c =
    λ trap. same_trap _ trap _ (ap (answer_of Map) (put_full c.args.map.now c.args.key c.args.value c.ranges.key c.ranges.value (c.in-Err-Full.ensures.full.1 (ap Err c.in-Err-Full.field-0-is))))

pub returns-in-Err-OutOfMemory-clause-trap : goal.returns-in-Err-OutOfMemory-clause-trap
unfolding apply_row operators
returns-in-Err-OutOfMemory-clause-trap c =
    λ trap. memory_no_trap _ trap _ (ap (answer_of Map) (put_room c.args.map.now c.args.key c.args.value c.ranges.key c.ranges.value (λ h. let e = c.in-Err-OutOfMemory.ensures.full.0 h in cc)))
