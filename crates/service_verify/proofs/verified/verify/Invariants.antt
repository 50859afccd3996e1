use Rattle.service_verify.specs.inner.Surveys.{Keep, IsSurveyed}
use Rattle.service_verify.proofs.verified.verify.Given as goal

-- the functions so far keep the rules, and are surveyed
abbrev pub invariant-loop-number : goal.invariant-loop-number
invariant-loop-number l = Keep l.fn.program l.number × IsSurveyed l.fn.program l.number l.survey.kept.items l.survey.quiet.items l.survey.looks.items
