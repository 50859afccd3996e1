use Rattle.std.proofs.Common.{IfSome, subst}
use Rattle.wave_text.specs.Quotes.{Quotes}
use Rattle.snapshot_text.proofs.LiteralLemmas.{quoted_is}
use Rattle.snapshot_text.proofs.literal.behind_quoted.Goals as goal

pub returns-clause-some : goal.returns-clause-some
returns-clause-some c =
    quoted_is c.args.text.now _ c.in-Some.rest.now (subst (λ o. IfSome o (λ x. Quotes c.args.text.now x.0.items x.1.now)) c.in-Some.is c.in_ok-rest.ensures.some)
