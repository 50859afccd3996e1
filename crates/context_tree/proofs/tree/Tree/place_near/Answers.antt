use Rattle.std.proofs.Common.{sym, ◌∙◌}
use mathlib.Core.Bool.{true≢false}
use Rattle.context_tree.proofs.SlotLemmas.{place_of}
use Rattle.context_tree.proofs.tree.Tree.place_near.Goals as goal

pub returns-then-stands_in-clause-past : goal.returns-then-stands_in-clause-past
returns-then-stands_in-clause-past c = λ absent. absurd (true≢false (sym (c.stands_in.ensures.there c.if-stands_in.true) ∙ absent))

pub returns-in-Some-clause-place : goal.returns-in-Some-clause-place
returns-in-Some-clause-place c = λ there. place_of c.args.path.now c.args.self.now.joined c.in-Some.found (sym c.slot.ensures.place ∙ c.in-Some.is)
