use Rattle.std.proofs.Common.{IfNone, subst}
use Rattle.script_reader.specs.inner.Parts.{IsNoMove}
use Rattle.script_reader.proofs.PolicyLemmas.{not_there}
use Rattle.script_reader.proofs.policy_spelling.two_hosts.Goals as goal

pub returns-in_default-clause-none : goal.returns-in_default-clause-none
returns-in_default-clause-none c = not_there c.args.rest.now (subst (λ o. IfNone o (IsNoMove c.args.rest.now)) c.in_default.is c.path_and_host.ensures.none)
