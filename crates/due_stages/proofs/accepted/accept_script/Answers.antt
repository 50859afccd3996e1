use Rattle.std.proofs.Common.{arith, subst, sym}
use Rattle.type_rules.specs.Known.{shape_of}
use Rattle.due_parts.specs.Answers.{Only}
use Rattle.due_parts.specs.Scripts.{IsDueShort}
use Rattle.due_parts.proofs.AcceptLemmas.{only_long}
use Rattle.due_stages.specs.Accepted.{IsAcceptedStaged}
use Rattle.due_stages.specs.Elastic.{IsDueElasticLines, IsDueElasticScript, IsDueExpansion}
use Rattle.due_stages.proofs.AcceptLemmas.{short_staged}
use Rattle.due_stages.proofs.accepted.accept_script.Goals as goal

pub returns-then-text-gt-SCRIPT_BYTES : goal.returns-then-text-gt-SCRIPT_BYTES
returns-then-text-gt-SCRIPT_BYTES c = λ tree t coded places.
    subst (Only (IsDueElasticScript places c.args.text.now tree)) (sym c.in_ok-refusal_answer.ensures) (only_long (IsDueElasticLines (IsDueExpansion places tree) (shape_of tree)) c.args.text.now (omega arith))

pub returns : goal.returns
returns c = λ tree t coded.
    let shape = c.args.typed.shape in
    let text = c.args.text.now in
    subst (λ s. IsAcceptedStaged (λ places. IsDueShort (IsDueElasticLines (IsDueExpansion places tree) s) text) c.accept_lines.result) t.shape_is
    (short_staged (λ places b. IsDueElasticLines (IsDueExpansion places tree) shape b) text c.accept_lines.result (omega arith) (c.accept_lines.ensures tree t coded))
