use Rattle.std.proofs.Common.{◌≡◌, ap, sym, ◌∙◌, Ok, w64}
use Rattle.std.proofs.lemmas.Int.{to_z-of_z}
use Rattle.wave_base.specs.declared.value.Value.TheVariants.{Map}
use Rattle.wave_base.specs.Tables.{without}
use Rattle.value_ops.specs.Operators.{apply_row, operators}
use Rattle.value_ops.proofs.AnswerLemmas.{wants_memory}
use Rattle.value_ops.proofs.maps.cut.Goals as goal

pub returns-in_err-copy : goal.returns-in_err-copy
unfolding apply_row operators
returns-in_err-copy c = wants_memory _ _ c.from_residual.ensures.1 tt

pub returns : goal.returns
unfolding apply_row operators
returns c =
    let cut : c.cut.new.self ≡ without c.args.map.now c.args.key = c.cut.ensures.without ∙ (λ i. without (c.in_ok-copy.ensures i) (to_z-of_z w64 c.args.key c.ranges.key i)) in
    ap (λ m. Ok (Map m)) (sym cut)
