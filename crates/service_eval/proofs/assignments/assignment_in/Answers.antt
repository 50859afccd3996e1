use Rattle.std.proofs.Common.{ap}
use Rattle.resolved_service.specs.Steps.{action_step}
use Rattle.service_eval.proofs.ChangeLemmas.{other_is}
use Rattle.service_eval.proofs.assignments.assignment_in.Goals as goal

pub returns-in-SetLocal-clause-some : goal.returns-in-SetLocal-clause-some
returns-in-SetLocal-clause-some c = ap (λ a. action_step a c.args.stmt.now.at) c.in-SetLocal.is

pub returns-in-SetField-clause-some : goal.returns-in-SetField-clause-some
returns-in-SetField-clause-some c = ap (λ a. action_step a c.args.stmt.now.at) c.in-SetField.is

pub returns-in-PutLocal-clause-some : goal.returns-in-PutLocal-clause-some
returns-in-PutLocal-clause-some c = ap (λ a. action_step a c.args.stmt.now.at) c.in-PutLocal.is

pub returns-in-PutField-clause-some : goal.returns-in-PutField-clause-some
returns-in-PutField-clause-some c = ap (λ a. action_step a c.args.stmt.now.at) c.in-PutField.is

pub returns-in-CutLocal-clause-some : goal.returns-in-CutLocal-clause-some
returns-in-CutLocal-clause-some c = ap (λ a. action_step a c.args.stmt.now.at) c.in-CutLocal.is

pub returns-in-CutField-clause-some : goal.returns-in-CutField-clause-some
returns-in-CutField-clause-some c = ap (λ a. action_step a c.args.stmt.now.at) c.in-CutField.is

pub returns-in_default-clause-none : goal.returns-in_default-clause-none
returns-in_default-clause-none c =
    let d = c.in_default in
    λ _. other_is c.args.stmt.now.action c.args.stmt.now.at d.not-SetLocal d.not-SetField d.not-PutLocal d.not-PutField d.not-CutLocal d.not-CutField
