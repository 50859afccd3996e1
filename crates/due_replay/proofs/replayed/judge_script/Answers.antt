use Rattle.std.proofs.Common.{Err, Ok, arith, subst, sym}
use Rattle.wave_base.specs.declared.script.Script.{Script}
use Rattle.type_rules.specs.Known.{shape_of}
use Rattle.script_reader.specs.Judged.{nothing_earlier}
use Rattle.due_parts.specs.Accepted.{IsOnlyDueOf}
use Rattle.due_parts.specs.Answers.{Only}
use Rattle.due_parts.specs.Scripts.{IsDueLines, IsDueRead, IsDueShort}
use Rattle.due_parts.proofs.AcceptLemmas.{only_long, only_read, told_fault}
use Rattle.due_parts.proofs.DueLemmas.{only_same, only_short}
use Rattle.due_replay.specs.Replayed.{IsDueJournal, IsDueReplay}
use Rattle.due_replay.proofs.DueLemmas.{found_script}
use Rattle.due_replay.proofs.replayed.judge_script.Goals as goal

pub returns-then-script-gt-SCRIPT_BYTES : goal.returns-then-script-gt-SCRIPT_BYTES
returns-then-script-gt-SCRIPT_BYTES c = λ tree t coded.
    let text = c.args.script.now in
    let P = λ (s : Script). IsDueJournal (IsDueReplay c.args.asked.show c.args.asked.crew tree s) (shape_of tree) c.args.journal.now in
    subst (Only (IsDueShort (IsDueLines P (shape_of tree) nothing_earlier) text)) (sym c.in_ok-refusal_answer.ensures) (only_long (IsDueLines P (shape_of tree) nothing_earlier) text (omega arith))

pub returns-in-Ok : goal.returns-in-Ok
returns-in-Ok c = λ tree t coded.
    let text = c.args.script.now in
    let asked = c.args.asked in
    subst (λ sh. IsOnlyDueOf (IsDueShort (IsDueLines (λ s. IsDueJournal (IsDueReplay asked.show asked.crew tree s) sh c.args.journal.now) sh nothing_earlier) text) c.judge_journal.result) t.shape_is
    (found_script (λ s. IsDueJournal (IsDueReplay asked.show asked.crew tree s) c.args.typed.shape c.args.journal.now) c.args.typed.shape nothing_earlier text c.in-Ok.script c.judge_journal.result (omega arith) c.in-Ok.ensures.answer
    (c.judge_journal.ensures tree t coded))

pub returns-in_ok-refused_script-in-Err : goal.returns-in_ok-refused_script-in-Err
returns-in_ok-refused_script-in-Err c = λ tree t coded.
    let shape = c.args.typed.shape in
    let text = c.args.script.now in
    let error = c.in-Err.error in
    let P = λ (s : Script). IsDueJournal (IsDueReplay c.args.asked.show c.args.asked.crew tree s) (shape_of tree) c.args.journal.now in
    subst (λ sh. Only (IsDueShort (IsDueLines P sh nothing_earlier) text) c.in_ok-refused_script-in-Err.field-0) t.shape_is
    (only_short (IsDueLines P shape nothing_earlier) text _ (omega arith)
    (only_read P shape nothing_earlier text (Err error) _ (told_fault shape nothing_earlier text error c.in_ok-refused_script-in-Err.ensures.told c.in-Err.ensures.answer)
    (subst (Only (IsDueRead P (Err error))) (sym c.in_ok-refused_script-in-Err.ensures.refused) (only_same _))))
