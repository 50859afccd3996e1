use Rattle.std.proofs.Common.{◌≡◌, ◌++◌, ◌-◌}
use Rattle.wave_gen.specs.Load.{drawn_text}
use Rattle.wave_gen.proofs.load.put_lines.Given as goal

abbrev pub invariant-loop : goal.invariant-loop
invariant-loop l = l.out.items ++ drawn_text (l.count - l.counter) l.draws.state ≡ l.fn.out.items ++ drawn_text l.count l.fn.draws.state
