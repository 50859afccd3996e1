use Rattle.std.proofs.Common.{arith, subst, sym}
use Rattle.script_reader.specs.Judged.{nothing_earlier}
use Rattle.type_rules.specs.Known.{shape_of}
use Rattle.due_parts.specs.Accepted.{IsAcceptedBy}
use Rattle.due_parts.specs.Answers.{Only}
use Rattle.due_parts.specs.Scripts.{IsDueLines, IsDueScript, IsDueShort}
use Rattle.due_parts.specs.Told.{IsDueFirst}
use Rattle.due_parts.proofs.AcceptLemmas.{only_long, short_accepted}
use Rattle.due_parts.proofs.script.accept_script.Goals as goal

pub returns-then-text-gt-SCRIPT_BYTES-clause-due : goal.returns-then-text-gt-SCRIPT_BYTES-clause-due
returns-then-text-gt-SCRIPT_BYTES-clause-due c = λ tree t coded telling.
    subst (Only (IsDueScript (IsDueFirst telling) c.args.text.now tree)) (sym c.in_ok-refusal_answer.ensures) (only_long (IsDueLines (IsDueFirst telling tree) (shape_of tree) nothing_earlier) c.args.text.now (omega arith))

pub returns-clause-due : goal.returns-clause-due
returns-clause-due c = λ tree t coded.
    let shape = c.args.typed.shape in
    let text = c.args.text.now in
    subst (λ s. IsAcceptedBy (λ telling. IsDueShort (IsDueLines (IsDueFirst telling tree) s nothing_earlier) text) c.accept_lines.result) t.shape_is
    (short_accepted (λ telling b. IsDueLines (IsDueFirst telling tree) shape nothing_earlier b) text c.accept_lines.result (omega arith) (c.accept_lines.ensures.due tree t coded))
