use Rattle.host_workers.proofs.calls.is_for_another.Goals as goal

pub returns-then-is_worth_a_call-clause-heavy : goal.returns-then-is_worth_a_call-clause-heavy
returns-then-is_worth_a_call-clause-heavy c = λ busy heavy o s at is. (c.has_ready.ensures o s at).1 is

pub returns-then-is_worth_a_call-clause-ready : goal.returns-then-is_worth_a_call-clause-ready
returns-then-is_worth_a_call-clause-ready c = λ yes o s at. (c.has_ready.ensures o s at).0 yes
