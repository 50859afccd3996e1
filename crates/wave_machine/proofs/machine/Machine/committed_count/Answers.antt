use Rattle.std.proofs.Common.{◌≡◌, ◌∙◌, length, sym, ap, subst, arith}
use Rattle.wave_base.specs.Fold.{Head}
use Rattle.wave_base.specs.declared.script.Line.{Line}
use Rattle.wave_base.specs.declared.start.Start.{Start}
use Rattle.wave_effects.specs.Keeping.{kept_of}
use Rattle.wave_effects.specs.Machines.{Kept, Stands, TheState}
use Rattle.wave_machine.specs.Prepared.{Shown}
use Rattle.wave_machine.proofs.machine.Machine.committed_count.Goals as goal

-- a state that a machine stands for has as many done as are settled
done_is : (m : Kept) (start : Start) (s : TheState) → Stands m start s → s.head.done ≡ length m.settled.results
done_is m start s stands = ap (λ (h : Head Line). h.done) stands.shows.head.head ∙ sym stands.shows.results.as_many

pub returns-clause-done : goal.returns-clause-done
returns-clause-done c =
    let many : length (kept_of c.self.inside.listed.engine).settled.results ≡ c.len.result = omega (arith, c.len.ensures) in
    subst (λ (z : Shown). (start : Start) (s : TheState) → Stands z.kept start s → s.head.done ≡ c.len.result) c.self.view_is
    (λ start s stands. done_is (kept_of c.self.inside.listed.engine) start s stands ∙ many)
