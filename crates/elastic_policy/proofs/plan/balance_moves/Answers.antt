use Rattle.std.proofs.Common.{◌≡◌, ◌∙◌, List, ap, length, sym}
use Rattle.std.proofs.lemmas.Result.{IfOk-weaker}
use Rattle.std.specs.List.{filter, zip}
use Rattle.wave_base.specs.declared.script.Line.{Line}
use Rattle.script_fold.specs.Lives.{has_load}
use Rattle.elastic_policy.specs.Moves.{balance}
use Rattle.elastic_policy.specs.Stages.{ArePlaced}
use Rattle.elastic_policy.proofs.Looking.{balance_looks, some_placed}
use Rattle.elastic_policy.proofs.plan.balance_moves.Goals as goal

pub balance_among-requires-clause-ordered : goal.balance_among-requires-clause-ordered
balance_among-requires-clause-ordered c =
    let paired = ap length c.deref.ensures.value ∙ c.in_ok-places.ensures.paired ∙ sym (ap length c.deref-2.ensures.value) in
    let found : zip c.deref.result.now c.deref-2.result.now ≡ filter has_load (zip c.args.places.now c.args.loads.now) = (λ i. zip (c.deref.ensures.value i) (c.deref-2.ensures.value i)) ∙ c.in_ok-places.ensures.found in
    let all : ArePlaced c.args.hosts c.args.places.now c.args.loads.now = record { paired = c.requires.paired; ordered = c.requires.ordered; below = c.requires.below; small = c.requires.small } in
    (some_placed c.args.hosts has_load c.args.places.now c.deref.result.now c.args.loads.now c.deref-2.result.now all paired found).ordered

pub balance_among-requires-clause-below : goal.balance_among-requires-clause-below
balance_among-requires-clause-below c =
    let paired = ap length c.deref.ensures.value ∙ c.in_ok-places.ensures.paired ∙ sym (ap length c.deref-2.ensures.value) in
    let found : zip c.deref.result.now c.deref-2.result.now ≡ filter has_load (zip c.args.places.now c.args.loads.now) = (λ i. zip (c.deref.ensures.value i) (c.deref-2.ensures.value i)) ∙ c.in_ok-places.ensures.found in
    let all : ArePlaced c.args.hosts c.args.places.now c.args.loads.now = record { paired = c.requires.paired; ordered = c.requires.ordered; below = c.requires.below; small = c.requires.small } in
    (some_placed c.args.hosts has_load c.args.places.now c.deref.result.now c.args.loads.now c.deref-2.result.now all paired found).below

pub balance_among-requires-clause-small : goal.balance_among-requires-clause-small
balance_among-requires-clause-small c =
    let paired = ap length c.deref.ensures.value ∙ c.in_ok-places.ensures.paired ∙ sym (ap length c.deref-2.ensures.value) in
    let found : zip c.deref.result.now c.deref-2.result.now ≡ filter has_load (zip c.args.places.now c.args.loads.now) = (λ i. zip (c.deref.ensures.value i) (c.deref-2.ensures.value i)) ∙ c.in_ok-places.ensures.found in
    let all : ArePlaced c.args.hosts c.args.places.now c.args.loads.now = record { paired = c.requires.paired; ordered = c.requires.ordered; below = c.requires.below; small = c.requires.small } in
    (some_placed c.args.hosts has_load c.args.places.now c.deref.result.now c.args.loads.now c.deref-2.result.now all paired found).small

pub returns : goal.returns
returns c =
    let found : zip c.deref.result.now c.deref-2.result.now ≡ filter has_load (zip c.args.places.now c.args.loads.now) = (λ i. zip (c.deref.ensures.value i) (c.deref-2.ensures.value i)) ∙ c.in_ok-places.ensures.found in
    IfOk-weaker c.balance_among.result (λ (ms : List Line). ms ≡ balance c.args.hosts c.args.most (zip c.deref.result.now c.deref-2.result.now)) (λ (ms : List Line). ms ≡ balance c.args.hosts c.args.most (zip c.args.places.now c.args.loads.now))
    (λ ms e. e ∙ ap (balance c.args.hosts c.args.most) found ∙ balance_looks c.args.hosts c.args.most (zip c.args.places.now c.args.loads.now)) c.balance_among.ensures
