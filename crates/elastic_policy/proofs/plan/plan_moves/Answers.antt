use Rattle.std.proofs.Common.{◌≡◌, ℕ, List, ap, ◌∙◌}
use Rattle.std.proofs.lemmas.Result.{IfOk-weaker}
use Rattle.std.specs.List.{zip}
use Rattle.wave_base.specs.declared.finished.Place.{Place}
use Rattle.wave_base.specs.declared.script.Line.{Line}
use Rattle.elastic_policy.specs.Moves.{balance, moves_of}
use Rattle.elastic_policy.specs.MoveFacts.{FitsScript, IsEven, IsDrained, FollowsInTree}
use Rattle.elastic_policy.specs.inner.Turns.{drained_moves}
use Rattle.elastic_policy.proofs.InTree.{follows_in_tree}
use Rattle.elastic_policy.proofs.Policies.{balanced_fits, balanced_even, drained_moves_of, drained_fits, drained_clears}
use Rattle.elastic_policy.proofs.plan.plan_moves.Goals as goal

pub returns-in-Balance-clause-fits : goal.returns-in-Balance-clause-fits
returns-in-Balance-clause-fits c =
    let same = ap (λ (ps : List Place). balance c.args.hosts c.in-Balance.most (zip ps c.as_slice-in-Balance.result.now)) c.as_slice.ensures
    ∙ ap (λ (ls : List ℕ). balance c.args.hosts c.in-Balance.most (zip c.args.places.now ls)) c.as_slice-in-Balance.ensures in
    IfOk-weaker c.balance_moves.result (λ (ms : List Line). ms ≡ balance c.args.hosts c.in-Balance.most (zip c.as_slice.result.now c.as_slice-in-Balance.result.now)) (FitsScript c.args.hosts c.args.places.now)
    (λ ms e. balanced_fits c.args.hosts c.in-Balance.most c.args.policy.now c.args.places.now c.args.loads.now ms c.in-Balance.is c.requires.paired c.requires.some_host c.requires.policy (e ∙ same))
    c.balance_moves.ensures

pub returns-in-Balance-clause-even : goal.returns-in-Balance-clause-even
returns-in-Balance-clause-even c =
    let same = ap (λ (ps : List Place). balance c.args.hosts c.in-Balance.most (zip ps c.as_slice-in-Balance.result.now)) c.as_slice.ensures
    ∙ ap (λ (ls : List ℕ). balance c.args.hosts c.in-Balance.most (zip c.args.places.now ls)) c.as_slice-in-Balance.ensures in
    IfOk-weaker c.balance_moves.result (λ (ms : List Line). ms ≡ balance c.args.hosts c.in-Balance.most (zip c.as_slice.result.now c.as_slice-in-Balance.result.now))
    (IsEven c.args.hosts c.args.policy.now (zip c.args.places.now c.args.loads.now))
    (λ ms e. balanced_even c.args.hosts c.in-Balance.most c.args.policy.now c.args.places.now c.args.loads.now ms c.in-Balance.is c.requires.paired c.requires.some_host c.requires.ordered (e ∙ same))
    c.balance_moves.ensures

pub returns-in-Drain-clause-moves : goal.returns-in-Drain-clause-moves
returns-in-Drain-clause-moves c =
    let same = ap (λ (ps : List Place). drained_moves c.in-Drain.from.0 c.in-Drain.to.0 ps) c.as_slice-in-Drain.ensures in
    IfOk-weaker c.drain_moves.result (λ (ms : List Line). ms ≡ drained_moves c.in-Drain.from.0 c.in-Drain.to.0 c.as_slice-in-Drain.result.now)
    (λ (ms : List Line). ms ≡ moves_of c.args.hosts c.args.policy.now (zip c.args.places.now c.args.loads.now))
    (λ ms e. drained_moves_of c.args.hosts c.in-Drain.from c.in-Drain.to c.args.policy.now c.args.places.now c.args.loads.now ms c.in-Drain.is c.requires.paired (e ∙ same))
    c.drain_moves.ensures

pub returns-in-Drain-clause-fits : goal.returns-in-Drain-clause-fits
returns-in-Drain-clause-fits c =
    let same = ap (λ (ps : List Place). drained_moves c.in-Drain.from.0 c.in-Drain.to.0 ps) c.as_slice-in-Drain.ensures in
    IfOk-weaker c.drain_moves.result (λ (ms : List Line). ms ≡ drained_moves c.in-Drain.from.0 c.in-Drain.to.0 c.as_slice-in-Drain.result.now) (FitsScript c.args.hosts c.args.places.now)
    (λ ms e. drained_fits c.args.hosts c.in-Drain.from c.in-Drain.to c.args.policy.now c.args.places.now c.args.loads.now ms c.in-Drain.is c.requires.paired c.requires.policy (e ∙ same))
    c.drain_moves.ensures

pub returns-in-Drain-clause-drained : goal.returns-in-Drain-clause-drained
returns-in-Drain-clause-drained c =
    let same = ap (λ (ps : List Place). drained_moves c.in-Drain.from.0 c.in-Drain.to.0 ps) c.as_slice-in-Drain.ensures in
    IfOk-weaker c.drain_moves.result (λ (ms : List Line). ms ≡ drained_moves c.in-Drain.from.0 c.in-Drain.to.0 c.as_slice-in-Drain.result.now)
    (IsDrained c.args.policy.now (zip c.args.places.now c.args.loads.now))
    (λ ms e. drained_clears c.args.hosts c.in-Drain.from c.in-Drain.to c.args.policy.now c.args.places.now c.args.loads.now ms c.in-Drain.is c.requires.paired c.requires.policy (e ∙ same))
    c.drain_moves.ensures

pub returns-in-Balance-clause-places : goal.returns-in-Balance-clause-places
returns-in-Balance-clause-places c =
    IfOk-weaker c.balance_moves.result (λ (ms : List Line). ms ≡ balance c.args.hosts c.in-Balance.most (zip c.as_slice.result.now c.as_slice-in-Balance.result.now))
    (FollowsInTree (zip c.args.places.now c.args.loads.now)) (λ ms e. follows_in_tree (zip c.args.places.now c.args.loads.now) ms) c.balance_moves.ensures

pub returns-in-Drain-clause-places : goal.returns-in-Drain-clause-places
returns-in-Drain-clause-places c =
    IfOk-weaker c.drain_moves.result (λ (ms : List Line). ms ≡ drained_moves c.in-Drain.from.0 c.in-Drain.to.0 c.as_slice-in-Drain.result.now)
    (FollowsInTree (zip c.args.places.now c.args.loads.now)) (λ ms e. follows_in_tree (zip c.args.places.now c.args.loads.now) ms) c.drain_moves.ensures
