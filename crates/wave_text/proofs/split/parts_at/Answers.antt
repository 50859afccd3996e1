use Rattle.std.proofs.Common.{◌∷◌, ap, length, length-append, arith}
use Rattle.wave_text.proofs.SplitLemmas.{parts_split, parts_none}
use Rattle.wave_text.proofs.split.parts_at.Goals as goal

pub returns-in-Some-clause-parts : goal.returns-in-Some-clause-parts
returns-in-Some-clause-parts c = parts_split c.args.end c.args.text.now c.in-Some.parts.0.now c.in-Some.parts.1.now c.in-Some.ensures.some

pub returns-in-Some-clause-shorter : goal.returns-in-Some-clause-shorter
returns-in-Some-clause-shorter c = omega (arith, ap length c.in-Some.ensures.some.spelled, length-append c.in-Some.parts.0.now (c.args.end ∷ c.in-Some.parts.1.now))

pub returns-in-None-clause-parts : goal.returns-in-None-clause-parts
returns-in-None-clause-parts c = parts_none c.args.end c.args.text.now c.in-None.ensures.none
