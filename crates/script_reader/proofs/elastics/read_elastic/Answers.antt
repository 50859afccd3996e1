use Rattle.std.proofs.Common.{IfOk, sym, subst}
use Rattle.wave_base.specs.Shapes.{IsShape}
use Rattle.script_reader.specs.Elastics.{IsElasticAnswer, IsElastic}
use Rattle.script_reader.proofs.elastics.read_elastic.Goals as goal

pub read_parts-requires-clause-shape : goal.read_parts-requires-clause-shape
read_parts-requires-clause-shape c = subst IsShape (sym c.in_ok-named.ensures) c.requires.shape

pub returns-clause-answer : goal.returns-clause-answer
returns-clause-answer c = subst (λ s. IsElasticAnswer s c.args.text.now c.read_parts.result) c.in_ok-named.ensures c.read_parts.ensures.answer

pub returns-clause-fits : goal.returns-clause-fits
returns-clause-fits c = subst (λ s. IfOk c.read_parts.result (IsElastic s)) c.in_ok-named.ensures c.read_parts.ensures.fits
