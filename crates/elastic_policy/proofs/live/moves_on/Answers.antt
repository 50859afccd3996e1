use Rattle.std.proofs.Common.{◌≡◌, ◌∙◌, List, ap}
use Rattle.std.proofs.lemmas.Result.{IfOk-weaker}
use Rattle.std.specs.List.{zip}
use Rattle.wave_base.specs.declared.script.Line.{Line}
use Rattle.script_fold.specs.Lives.{has_load, is_at}
use Rattle.elastic_policy.specs.Moves.{moves_of}
use Rattle.elastic_policy.proofs.Looking.{balance_same, drain_same, some_placed}
use Rattle.elastic_policy.proofs.live.moves_on.Goals as goal

pub plan_moves-requires-clause-ordered : goal.plan_moves-requires-clause-ordered
plan_moves-requires-clause-ordered c =
    let v = c.args.live.now in
    let it = c.in_ok-places-in-Balance in
    (some_placed c.args.hosts has_load v.start.places it.places v.loads it.loads c.requires.placed it.ensures.paired it.ensures.found).ordered

pub plan_moves-requires-clause-below : goal.plan_moves-requires-clause-below
plan_moves-requires-clause-below c =
    let v = c.args.live.now in
    let it = c.in_ok-places-in-Balance in
    (some_placed c.args.hosts has_load v.start.places it.places v.loads it.loads c.requires.placed it.ensures.paired it.ensures.found).below

pub plan_moves-requires-clause-small : goal.plan_moves-requires-clause-small
plan_moves-requires-clause-small c =
    let v = c.args.live.now in
    let it = c.in_ok-places-in-Balance in
    (some_placed c.args.hosts has_load v.start.places it.places v.loads it.loads c.requires.placed it.ensures.paired it.ensures.found).small

pub plan_moves-requires-in-Drain-clause-ordered : goal.plan_moves-requires-in-Drain-clause-ordered
plan_moves-requires-in-Drain-clause-ordered c =
    let v = c.args.live.now in
    let it = c.in_ok-places-in-Drain in
    (some_placed c.args.hosts (is_at c.in-Drain.from.0) v.start.places it.places v.loads it.loads c.requires.placed it.ensures.paired it.ensures.found).ordered

pub plan_moves-requires-in-Drain-clause-below : goal.plan_moves-requires-in-Drain-clause-below
plan_moves-requires-in-Drain-clause-below c =
    let v = c.args.live.now in
    let it = c.in_ok-places-in-Drain in
    (some_placed c.args.hosts (is_at c.in-Drain.from.0) v.start.places it.places v.loads it.loads c.requires.placed it.ensures.paired it.ensures.found).below

pub plan_moves-requires-in-Drain-clause-small : goal.plan_moves-requires-in-Drain-clause-small
plan_moves-requires-in-Drain-clause-small c =
    let v = c.args.live.now in
    let it = c.in_ok-places-in-Drain in
    (some_placed c.args.hosts (is_at c.in-Drain.from.0) v.start.places it.places v.loads it.loads c.requires.placed it.ensures.paired it.ensures.found).small

pub returns-in_ok-places-in-Balance : goal.returns-in_ok-places-in-Balance
returns-in_ok-places-in-Balance c =
    let v = c.args.live.now in
    let it = c.in_ok-places-in-Balance in
    IfOk-weaker c.plan_moves.result (λ (ms : List Line). ms ≡ moves_of c.args.hosts c.args.policy.now (zip it.places it.loads)) (λ (ms : List Line). ms ≡ moves_of c.args.hosts c.args.policy.now (zip v.start.places v.loads))
    (λ ms e. e ∙ ap (moves_of c.args.hosts c.args.policy.now) it.ensures.found ∙ balance_same c.args.hosts c.in-Balance.field-0 c.args.policy.now (zip v.start.places v.loads) c.in-Balance.is) c.plan_moves.ensures.moves

pub returns-in_ok-places-in-Drain : goal.returns-in_ok-places-in-Drain
returns-in_ok-places-in-Drain c =
    let v = c.args.live.now in
    let it = c.in_ok-places-in-Drain in
    IfOk-weaker c.plan_moves-in-Drain.result (λ (ms : List Line). ms ≡ moves_of c.args.hosts c.args.policy.now (zip it.places it.loads)) (λ (ms : List Line). ms ≡ moves_of c.args.hosts c.args.policy.now (zip v.start.places v.loads))
    (λ ms e. e ∙ ap (moves_of c.args.hosts c.args.policy.now) it.ensures.found ∙ drain_same c.args.hosts c.in-Drain.from c.in-Drain.field-1 c.args.policy.now (zip v.start.places v.loads) c.in-Drain.is) c.plan_moves-in-Drain.ensures.moves
