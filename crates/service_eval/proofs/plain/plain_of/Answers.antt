use Rattle.std.proofs.Common.{map}
use Rattle.resolved_service.specs.View.{Op, tree_of, trees_of}
use Rattle.service_eval.specs.inner.Turns.{IsWorth}
use Rattle.wave_base.specs.declared.value.Value.TheVariants.{Int, Bool}
use Rattle.service_eval.proofs.PlainLemmas.{if_mapped}
use Rattle.service_eval.proofs.plain.plain_of.Goals as goal

pub returns-in-Int : goal.returns-in-Int
returns-in-Int c = if_mapped Int (IsWorth c.args.view.now (Op c.args.at c.args.row (trees_of (map tree_of c.args.args.now)))) c.number_given.result c.int.result c.int.ensures c.number_given.ensures

pub returns-in-Bool : goal.returns-in-Bool
returns-in-Bool c = if_mapped Bool (IsWorth c.args.view.now (Op c.args.at c.args.row (trees_of (map tree_of c.args.args.now)))) c.flag_of.result c.truth.result c.truth.ensures c.flag_of.ensures
