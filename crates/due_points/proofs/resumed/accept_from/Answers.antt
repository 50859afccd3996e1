use Rattle.std.proofs.Common.{Err, Ok, arith, subst, sym}
use Rattle.wave_base.specs.Starts.{IsStart}
use Rattle.type_rules.specs.Known.{shape_of}
use Rattle.script_reader.specs.Judged.{script_earlier}
use Rattle.due_parts.specs.Answers.{Only}
use Rattle.due_parts.specs.Scripts.{IsDueLines, IsDueRead, IsDueShort}
use Rattle.due_parts.specs.Told.{IsDueTold}
use Rattle.due_parts.proofs.AcceptLemmas.{only_long, only_read, told_fault}
use Rattle.due_parts.proofs.DueLemmas.{only_same, only_short}
use Rattle.due_points.specs.Resumed.{IsDueFrom}
use Rattle.due_points.proofs.AcceptLemmas.{from_accepted}
use Rattle.due_points.proofs.HostLemmas.{hosts_same}
use Rattle.due_points.proofs.resumed.accept_from.Goals as goal

pub returns-then-text-gt-SCRIPT_BYTES : goal.returns-then-text-gt-SCRIPT_BYTES
returns-then-text-gt-SCRIPT_BYTES c = λ tree t coded telling.
    let point = c.args.point in
    subst (Only (IsDueFrom telling tree c.args.text.now point)) (sym c.in_ok-refusal_answer.ensures)
    (only_long (IsDueLines (IsDueTold telling tree point.start) (shape_of tree) (script_earlier point.hosts point.lines)) c.args.text.now (omega arith))

pub returns-in-Ok : goal.returns-in-Ok
returns-in-Ok c = λ tree t coded.
    let typed = c.args.typed in
    let point = c.args.point in
    let text = c.args.text.now in
    let script = c.in-Ok.script in
    let hosts = hosts_same typed.shape point.hosts point.lines text script c.in-Ok.ensures.answer.read in
    from_accepted tree typed point text script (Ok c.ready.result) t (omega arith) c.in-Ok.ensures.answer
    (c.ready.ensures.ready tree t coded (subst (λ n. IsStart typed.shape n point.start) (sym hosts) c.requires.point.fits) c.in-Ok.ensures.fits)

pub returns-in_ok-refused_script-in-Err : goal.returns-in_ok-refused_script-in-Err
returns-in_ok-refused_script-in-Err c = λ tree t coded telling.
    let shape = c.args.typed.shape in
    let point = c.args.point in
    let text = c.args.text.now in
    let error = c.in-Err.error in
    let earlier = script_earlier point.hosts point.lines in
    let P = IsDueTold telling tree point.start in
    subst (λ sh. Only (IsDueShort (IsDueLines P sh earlier) text) c.in_ok-refused_script-in-Err.field-0) t.shape_is
    (only_short (IsDueLines P shape earlier) text _ (omega arith)
    (only_read P shape earlier text (Err error) _ (told_fault shape earlier text error c.in_ok-refused_script-in-Err.ensures.told c.in-Err.ensures.answer)
    (subst (Only (IsDueRead P (Err error))) (sym c.in_ok-refused_script-in-Err.ensures.refused) (only_same _))))
