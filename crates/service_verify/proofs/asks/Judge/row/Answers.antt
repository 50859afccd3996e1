use Rattle.std.proofs.Common.{◌≡◌, ap, sym, ◌∙◌, arith, true, nat_lt}
use Rattle.std.specs.Prelude.{slice_get}
use Rattle.std.proofs.lemmas.Bool.Decides.{nat_tests}
use Rattle.service_verify.specs.Rules.{effect_of}
use Rattle.service_verify.proofs.Rows.{row_says}
use Rattle.service_verify.proofs.asks.Judge.row.Goals as goal

pub returns : goal.returns
unfolding effect_of
returns c =
    let s = row_says _ _ (ap (λ t. slice_get t c.args.row) (sym c.requires) ∙ c.row-operator.ensures) in
    let lt : nat_lt c.args.row 34 ≡ true = grind (arith, nat_tests) in
    rw (lt, s.0, s.1)
