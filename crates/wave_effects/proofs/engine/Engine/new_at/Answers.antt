use Rattle.std.proofs.Common.{◌∙◌, ap}
use Rattle.wave_base.specs.declared.script.Script.{Script}
use Rattle.wave_base.specs.Fold.{first_head}
use Rattle.wave_effects.specs.Plans.{plan_of}
use Rattle.wave_effects.proofs.Beginning.{begun}
use Rattle.wave_effects.proofs.engine.Engine.new_at.Goals as goal

pub returns-clause-stands : goal.returns-clause-stands
returns-clause-stands c =
    let plan = plan_of c.args.plan.now in
    let start = c.args.start.now in
    begun plan start c.requires.fits c.requires.begins c.new_at.result c.new.result c.new-2.result.items c.new-3.result.items c.new-4.result.items c.place_all.new.stores.items c.in_ok-idle_hands.field-0.items
    (c.new_at.ensures.fold ∙ ap (λ (z : Script). first_head z.batches) c.in_ok-script.ensures) c.new_at.ensures.first c.new_at.ensures.counts.0 c.new_at.ensures.counts.1 c.new.ensures.committed c.new.ensures.results
    c.new-2.ensures.items c.new-3.ensures c.new-4.ensures.items (c.in_ok-place_all.ensures.count ∙ c.in_ok-stores.ensures.count) (c.in_ok-place_all.ensures.placed plan.program.shape plan.script.hosts c.requires.begins c.in_ok-stores.ensures.count)
    c.in_ok-idle_hands.ensures.count c.in_ok-idle_hands.ensures.idle
