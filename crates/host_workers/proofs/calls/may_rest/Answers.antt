use Rattle.host_workers.proofs.calls.may_rest.Goals as goal

pub returns-in-Some-clause-rests : goal.returns-in-Some-clause-rests
returns-in-Some-clause-rests c = λ yes. record {
  light = λ heavy. (let e = c.if-is_heavy.ensures.1 heavy in cc);
  other = c.in-Some.field-0;
  awake = c.in-Some.ensures.some;
  ready = λ o s at. (c.has_ready.ensures o s at).0 yes;
}

pub returns-in-Some-clause-may : goal.returns-in-Some-clause-may
returns-in-Some-clause-may c = λ light some o s at is. (c.has_ready.ensures o s at).1 is
