use Rattle.std.proofs.Common.{IfNone, subst}
use Rattle.script_reader.specs.inner.Parts.{IsNoMove}
use Rattle.script_reader.proofs.FormLemmas.{no_move}
use Rattle.script_reader.proofs.spelling.move_form.Goals as goal

pub returns-in_default-clause-none : goal.returns-in_default-clause-none
returns-in_default-clause-none c = no_move c.args.rest.now (subst (λ o. IfNone o (IsNoMove c.args.rest.now)) c.in_default.is c.path_and_host.ensures.none)
