use Rattle.std.proofs.Common.{drop}
use Rattle.service_verify.specs.Reads.{code_reads}
use Rattle.service_verify.specs.inner.Surveys.{IsMarkedSoFar}
use Rattle.service_verify.proofs.marks.mark_reads.Given as goal

-- with the marks of those to come they are all
abbrev pub invariant-loop-n : goal.invariant-loop-n
invariant-loop-n l = IsMarkedSoFar l.fn.marks.items (λ c f. code_reads l.fn.shape c f l.fn.code l.fn.points) l.marks.items (λ c f. code_reads l.fn.shape c f (drop l.n l.fn.code) (drop l.n l.fn.points))
