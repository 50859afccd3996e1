use Rattle.std.proofs.Common.{sym}
use Rattle.path_text.proofs.FrontLemmas.{no_form, only_front}
use Rattle.path_text.proofs.written.front_of.Goals as goal

pub returns-then-has_form-clause-some : goal.returns-then-has_form-clause-some
returns-then-has_form-clause-some c =
    only_front c.args.text.now (record { name = c.in_ok-name.name.now; key = c.in_ok-name.key.now }) c.in_ok-name.rest.now c.in_ok-name.ensures.some (sym c.if-has_form.ensures)

pub returns-else-has_form-clause-none : goal.returns-else-has_form-clause-none
returns-else-has_form-clause-none c = no_form c.args.text.now c.in_ok-name.name.now c.in_ok-name.key.now c.in_ok-name.rest.now c.in_ok-name.ensures.some (sym c.if-has_form.ensures)
