use Rattle.std.proofs.Common.{IfSome, IfNone, length, ap, sym, subst, arith}
use Rattle.std.proofs.lemmas.Bool.Decides.{nat_tests}
use Rattle.path_text.proofs.StepLemmas.{is_nil}
use Rattle.std.specs.Prelude.{codes}
use Rattle.wave_base.specs.Names.{HasNames}
use Rattle.wave_base.specs.Shapes.{IsShape}
use Rattle.wave_text.specs.Counted.{HasNoHead, IsBehindHead}
use Rattle.snapshot_text.specs.inner.Tails.{AreRead}
use Rattle.snapshot_text.proofs.VerdictLemmas.{headless, nothing_follows, read_verdict}
use Rattle.snapshot_text.proofs.read.read_snapshot.Goals as goal

pub returns-in_default : goal.returns-in_default
returns-in_default c =
    headless c.args.shape.now c.requires.names c.args.text.now (subst (λ o. IfNone o (HasNoHead (codes "snapshot ") c.args.text.now)) c.in_default.is c.in_ok-tail.ensures.none)

pub returns-then-is_empty : goal.returns-then-is_empty
returns-then-is_empty c =
    nothing_follows c.args.shape.now c.requires.names c.args.text.now c.in-Some.tail.now
    (subst (λ o. IfSome o (λ rest. IsBehindHead (codes "snapshot ") c.args.text.now rest.now)) c.in-Some.is c.in_ok-tail.ensures.some) (is_nil c.in-Some.tail.now c.if-is_empty.ensures)

pub read_shots-requires-clause-shape : goal.read_shots-requires-clause-shape
read_shots-requires-clause-shape c = subst IsShape (sym c.in_ok-classes.ensures) c.requires.shape

pub read_shots-requires-clause-names : goal.read_shots-requires-clause-names
read_shots-requires-clause-names c = subst HasNames (sym c.in_ok-classes.ensures) c.requires.names

pub returns : goal.returns
returns c =
    read_verdict c.args.shape.now c.requires.names c.args.text.now c.in-Some.tail.now
    (subst (λ o. IfSome o (λ rest. IsBehindHead (codes "snapshot ") c.args.text.now rest.now)) c.in-Some.is c.in_ok-tail.ensures.some) (λ e. absurd (grind (arith, nat_tests, ap length e))) c.read_shots.result (subst (λ s. AreRead s c.in-Some.tail.now c.read_shots.result) c.in_ok-classes.ensures c.read_shots.ensures)
