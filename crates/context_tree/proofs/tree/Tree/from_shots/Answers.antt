use Rattle.std.proofs.Common.{◌≡◌, ◌∙◌, ap, map}
use Rattle.std.proofs.lemmas.List.{take_all}
use Rattle.context_tree.specs.Contexts.{Contexts, shot_at}
use Rattle.context_tree.proofs.OrderLemmas.{kept_as_they_stand, shots_more}
use Rattle.context_tree.proofs.tree.Tree.from_shots.Goals as goal

pub loop-shot-preserved : goal.loop-shot-preserved
loop-shot-preserved c =
    ap (map shot_at) c.in_ok-insert.ensures.entries
    ∙ shots_more c.args.shots.now c.loop-shot.shot-index c.shot-item.result c.loop-shot.contexts.entries _ c.loop-shot-test.true c.shot-item.is c.requires c.loop-shot.invariant c.in_ok-fields.ensures

abbrev all : (c : goal.After-loop-shot) → map shot_at c.loop-shot.contexts.entries ≡ c.args.shots.now
all c = c.loop-shot.invariant ∙ take_all c.loop-shot.shot-index c.args.shots.now c.loop-shot-test.false

pub returns-clause-shots : goal.returns-clause-shots
returns-clause-shots c = ap (λ (t : Contexts). t.shots) (kept_as_they_stand c.loop-shot.contexts.entries c.args.shots.now (all c) c.requires)

pub returns-clause-joined : goal.returns-clause-joined
returns-clause-joined c = ap (λ (t : Contexts). t.joined) (kept_as_they_stand c.loop-shot.contexts.entries c.args.shots.now (all c) c.requires)
