use Rattle.std.proofs.Common.{Err, Ok, subst, sym}
use Rattle.due_parts.specs.Answers.{Only}
use Rattle.due_parts.proofs.DueLemmas.{only_same}
use Rattle.due_stages.specs.Elastic.{IsDueElasticRead, IsDueExpansion}
use Rattle.due_stages.proofs.AcceptLemmas.{only_read, read_staged, told_fault}
use Rattle.due_stages.proofs.accepted.accept_lines.Goals as goal

pub returns-in_ok-stages-in-Ok : goal.returns-in_ok-stages-in-Ok
returns-in_ok-stages-in-Ok c = λ tree t coded.
    let shape = c.args.typed.shape in
    let elastic = c.in-Ok.elastic in
    read_staged (λ places. IsDueExpansion places tree) shape c.args.text.now elastic (Ok c.ready.result) c.in-Ok.ensures.answer
    (c.ready.ensures tree elastic t coded c.in-Ok.ensures.fits c.in_ok-stages-in-Ok.ensures.first)

pub returns-in_ok-refused_script-in-Err : goal.returns-in_ok-refused_script-in-Err
returns-in_ok-refused_script-in-Err c = λ tree t coded places.
    let shape = c.args.typed.shape in
    let text = c.args.text.now in
    let error = c.in-Err.error in
    let P = IsDueExpansion places tree in
    only_read P shape text (Err error) _ (told_fault shape text error c.in_ok-refused_script-in-Err.ensures.told c.in-Err.ensures.answer)
    (subst (Only (IsDueElasticRead P (Err error))) (sym c.in_ok-refused_script-in-Err.ensures.refused) (only_same _))
