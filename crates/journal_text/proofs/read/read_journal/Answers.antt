use Rattle.std.proofs.Common.{IfSome, IfNone, sym, subst}
use Rattle.std.specs.Prelude.{codes}
use Rattle.wave_base.specs.Names.{HasNames}
use Rattle.wave_base.specs.Shapes.{IsShape}
use Rattle.wave_text.specs.Counted.{HasNoHead, IsBehindHead}
use Rattle.journal_text.specs.inner.Tails.{AreRead}
use Rattle.journal_text.proofs.VerdictLemmas.{headless, read_verdict}
use Rattle.journal_text.proofs.read.read_journal.Goals as goal

pub returns-in_default : goal.returns-in_default
returns-in_default c =
    headless c.args.shape.now c.requires.names c.args.text.now c.requires.short (subst (λ o. IfNone o (HasNoHead (codes "journal ") c.args.text.now)) c.in_default.is c.in_ok-tail.ensures.none)

pub read_labels-requires-clause-shape : goal.read_labels-requires-clause-shape
read_labels-requires-clause-shape c = subst IsShape (sym c.in_ok-classes.ensures) c.requires.shape

pub read_labels-requires-clause-names : goal.read_labels-requires-clause-names
read_labels-requires-clause-names c = subst HasNames (sym c.in_ok-classes.ensures) c.requires.names

pub returns : goal.returns
returns c =
    read_verdict c.args.shape.now c.requires.names c.args.text.now c.requires.short c.in-Some.tail.now
    (subst (λ o. IfSome o (λ rest. IsBehindHead (codes "journal ") c.args.text.now rest.now)) c.in-Some.is c.in_ok-tail.ensures.some) c.read_labels.result (subst (λ s. AreRead s c.in-Some.tail.now c.read_labels.result) c.in_ok-classes.ensures c.read_labels.ensures)
