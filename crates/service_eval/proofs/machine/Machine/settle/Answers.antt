use Rattle.std.proofs.Common.{◌≡◌, ◌≤◌, [], ◌∷◌, ◌++◌, length, take, sym, ap, ◌∙◌, arith}
use Rattle.std.proofs.lemmas.List.{take_all}
use Rattle.std.proofs.lemmas.Result.{on_ok_weaker}
use Rattle.service_eval.specs.inner.Machines.{mach_of}
use Rattle.service_eval.proofs.machine.Machine.settle.Goals as goal

pub returns-else-base-len-clause-ok : goal.returns-else-base-len-clause-ok
returns-else-base-len-clause-ok c =
    let vs = c.args.self.now.values.items in
    let few : length vs ≤ c.args.base = omega (arith, c.if-base-len.false, c.len.ensures) in
    let all : take c.args.base vs ≡ vs = take_all c.args.base vs few in
    on_ok_weaker c.give.result (λ h tree. h tree ∙ ap (λ xs. record (mach_of tree c.args.self.now) { values = xs ++ c.args.value ∷ [] }) (sym all)) c.give.ensures.ok
