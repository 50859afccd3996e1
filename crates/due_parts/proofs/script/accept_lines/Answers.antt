use Rattle.std.proofs.Common.{Err, Ok, subst, sym}
use Rattle.script_reader.specs.Judged.{nothing_earlier}
use Rattle.due_parts.specs.Answers.{Only}
use Rattle.due_parts.specs.Scripts.{IsDueRead}
use Rattle.due_parts.specs.Told.{IsDueFirst}
use Rattle.due_parts.proofs.AcceptLemmas.{only_read, read_accepted, told_fault}
use Rattle.due_parts.proofs.DueLemmas.{only_same}
use Rattle.due_parts.proofs.WorkLemmas.{first_begins, ready_first}
use Rattle.due_parts.proofs.script.accept_lines.Goals as goal

pub returns-in_ok-start-in-Ok-clause-due : goal.returns-in_ok-start-in-Ok-clause-due
returns-in_ok-start-in-Ok-clause-due c = λ tree t coded.
    let typed = c.args.typed in
    let script = c.in-Ok.script in
    let start = c.in_ok-start-in-Ok.start in
    read_accepted (λ telling. IsDueFirst telling tree) typed.shape nothing_earlier c.args.text.now script (Ok c.ready.result) c.in-Ok.ensures.answer
    (ready_first tree typed script start c.ready.result t c.in_ok-start-in-Ok.ensures
    (c.ready.ensures.ready tree t coded (first_begins tree typed script start t c.in-Ok.ensures.fits c.in_ok-start-in-Ok.ensures) c.in-Ok.ensures.fits))

pub returns-in_ok-refused_script-in-Err-clause-due : goal.returns-in_ok-refused_script-in-Err-clause-due
returns-in_ok-refused_script-in-Err-clause-due c = λ tree t coded telling.
    let shape = c.args.typed.shape in
    let text = c.args.text.now in
    let error = c.in-Err.error in
    only_read (IsDueFirst telling tree) shape nothing_earlier text (Err error) _ (told_fault shape nothing_earlier text error c.in_ok-refused_script-in-Err.ensures.told c.in-Err.ensures.answer)
    (subst (Only (IsDueRead (IsDueFirst telling tree) (Err error))) (sym c.in_ok-refused_script-in-Err.ensures.refused) (only_same _))
