use Rattle.std.proofs.Common.{IfOk, sym, subst}
use Rattle.wave_base.specs.Scripts.{IsScript}
use Rattle.script_reader.specs.inner.Steps.{MayRead}
use Rattle.script_reader.specs.Scripts.{IsAnswer}
use Rattle.script_reader.proofs.read.read_after.Goals as goal

pub read_lines-requires : goal.read_lines-requires
read_lines-requires c = subst (λ s. MayRead s c.args.earlier c.args.text.now) (sym c.in_ok-named.ensures) c.requires

pub returns-clause-answer : goal.returns-clause-answer
returns-clause-answer c = subst (λ s. IsAnswer s c.args.earlier c.args.text.now c.read_lines.result) c.in_ok-named.ensures c.read_lines.ensures.answer

pub returns-clause-fits : goal.returns-clause-fits
returns-clause-fits c = subst (λ s. IfOk c.read_lines.result (IsScript s)) c.in_ok-named.ensures c.read_lines.ensures.fits
