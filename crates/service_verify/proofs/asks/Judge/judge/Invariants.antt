use Rattle.std.proofs.Common.{◌≡◌, drop}
use Rattle.service_verify.specs.Points.{judged_from, judged_function}
use Rattle.service_verify.proofs.asks.Judge.judge.Given as goal

-- what is left to judge leads to the same
abbrev pub invariant-loop-n : goal.invariant-loop-n
invariant-loop-n l =
    judged_function l.self.program.now l.self.number l.self.function.now
    ≡ judged_from l.self.program.now l.self.number l.self.function.now l.n (drop l.n l.self.function.now.code) l.table.items
