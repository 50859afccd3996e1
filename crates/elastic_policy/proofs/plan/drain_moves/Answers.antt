use Rattle.std.proofs.Common.{rules, ◌≡◌, ◌==◌, ◌∙◌}
use Rattle.std.proofs.lemmas.Iterator.{items_from_collect, YieldsList-from_take, YieldsList-from_map, YieldsList-from_slice}
use Rattle.std.proofs.lemmas.Iterator.Consumers.{YieldsList-at, YieldsList-from_filter}
use Rattle.std.proofs.lemmas.Result.{IfOk-at_ok}
use Rattle.std.specs.Vec.{vec_items}
use borrow.Author.Tests.{tests}
use Rattle.wave_base.specs.declared.finished.Place.{Place}
use Rattle.wave_base.specs.declared.script.Line.TheVariants.{Move}
use Rattle.elastic_policy.specs.inner.Turns.{drained_moves}
use Rattle.elastic_policy.proofs.plan.drain_moves.Goals as goal

pub returns : goal.returns
returns c =
    let e = items_from_collect _ c.collect.ensures.ran
    (YieldsList-from_take 4000
    (YieldsList-at c.take.ensures.source
    (YieldsList-from_map _ (λ (x : Place). Move x.path (record { 0 = c.args.to.0 }))
    (YieldsList-at c.map-moves.ensures.source
    (YieldsList-from_filter _ (λ (x : Place). x.host.0 == c.args.from.0)
    (YieldsList-at c.filter-on_host.ensures.source (YieldsList-from_slice c.args.places.now cc))
    c.filter-on_host.ensures.closure (λ x b q k. search (rules, tests))))
    c.map-moves.ensures.closure (λ x r q k. search rules)))
    c.take.ensures.count)
    in c.from_vec.ensures ∙ IfOk-at_ok (λ w. vec_items w ≡ drained_moves c.args.from.0 c.args.to.0 c.args.places.now) c.in_ok-collect.was e
