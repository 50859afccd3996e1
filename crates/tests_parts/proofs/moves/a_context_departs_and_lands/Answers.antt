use Rattle.std.proofs.Common.{◌<◌, ◌+◌, ◌^◌, IfSome, is_some, sym, ap, subst, ◌∙◌, arith}
use Rattle.std.specs.FinMap as table
use Rattle.migration_core.proofs.Leaving.{inserted_at}
use Rattle.tests_parts.proofs.moves.a_context_departs_and_lands.Goals as goal

pub depart-moved-requires-clause-here : goal.depart-moved-requires-clause-here
depart-moved-requires-clause-here g c = ap is_some (ap (λ m. table.get m c.child-path.result) c.birth.ensures.store ∙ inserted_at c.reserve.new.self.store c.child-path.result c.entry-newborn.result)

pub depart-moved-requires-clause-counted : goal.depart-moved-requires-clause-counted
depart-moved-requires-clause-counted g c = subst (λ o. IfSome o (λ e. e.moves + 1 < 2 ^ 64)) (sym (ap (λ m. table.get m c.child-path.result) c.birth.ensures.store ∙ inserted_at c.reserve.new.self.store c.child-path.result c.entry-newborn.result)) (omega (arith, c.entry-newborn.ensures))
