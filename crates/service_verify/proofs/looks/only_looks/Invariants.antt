use Rattle.std.proofs.Common.{◌≡◌, drop}
use Rattle.service_verify.specs.inner.Surveys.{looks_after}
use Rattle.service_verify.proofs.looks.only_looks.Given as goal

-- it depends on those to come
abbrev pub invariant-loop-instr : goal.invariant-loop-instr
invariant-loop-instr l = looks_after l.fn.quiet l.fn.start l.fn.code ≡ looks_after l.fn.quiet l.fn.start (drop l.instr-index l.fn.code)
