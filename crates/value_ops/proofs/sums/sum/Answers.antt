use Rattle.std.proofs.Common.{rules, ◌∙◌, ap, subst, w64, FitsSigned}
use Rattle.std.specs.Int.{w128}
use Rattle.std.specs.Result.{OkIff}
use Rattle.std.proofs.lemmas.Int.{to_z-of_z}
use Rattle.wave_base.specs.declared.trap.TrapKind.TheVariants.{Overflow}
use Rattle.wave_base.specs.declared.value.Kind.TheVariants.{Int}
use Rattle.value_ops.specs.Kinds.{answer_of}
use Rattle.value_ops.specs.Meanings.{or_trap, total}
use Rattle.value_ops.proofs.IntLemmas.{read_in_int}
use Rattle.value_ops.proofs.sums.sum.Goals as goal

pub returns : goal.returns
returns c =
    let fits : FitsSigned w128 c.total.result = search rules in
    let z = total c.args.map.now in
    let read : OkIff c.try_from.result (FitsSigned w64 z) z = subst (λ x. OkIff c.try_from.result (FitsSigned w64 x) x) (to_z-of_z w128 c.total.result fits ∙ c.total.ensures) c.try_from.ensures in
    c.number.ensures ∙ ap (answer_of Int) (ap (or_trap Overflow) c.ok.ensures.value ∙ read_in_int c.try_from.result (FitsSigned w64 z) z read (λ f. f) (λ f. f))
