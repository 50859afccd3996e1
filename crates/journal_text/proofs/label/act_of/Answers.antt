use Rattle.std.proofs.Common.{◌≡◌, ◌∙◌, Some, ap}
use Rattle.journal_text.specs.inner.Parts.{IsActOf, IsOperandsOf}
use Rattle.journal_text.specs.inner.Verbs.{verb_of, verb_in}
use Rattle.journal_text.proofs.ActLemmas.{act_parts, verb_again}
use Rattle.journal_text.proofs.WordLemmas.{on_if_ok}
use Rattle.journal_text.proofs.label.act_of.Goals as goal

pub returns-in-Some-clause-only : goal.returns-in-Some-clause-only
returns-in-Some-clause-only c =
    on_if_ok (IsOperandsOf c.args.classes.now c.in-Some.verb c.word_of.result.1.now) (IsActOf c.args.classes.now c.args.text.now) c.act_with.result c.act_with.ensures.only
    (λ o of a h n e.
    let p = act_parts c.args.classes.now c.args.text.now c.word_of.result.0.now c.word_of.result.1.now c.word_of.ensures a e in
    let found : verb_of c.word_of.result.0.now ≡ Some (verb_in a) = ap verb_of p.0 ∙ verb_again (verb_in a) in
    let verb : verb_in a ≡ c.in-Some.verb = cc (found, c.in-Some.is, c.verb_of.ensures) in
    of a verb h n p.1)

pub returns-in-None-clause-only : goal.returns-in-None-clause-only
returns-in-None-clause-only c a h n e =
    let p = act_parts c.args.classes.now c.args.text.now c.word_of.result.0.now c.word_of.result.1.now c.word_of.ensures a e in
    let found : verb_of c.word_of.result.0.now ≡ Some (verb_in a) = ap verb_of p.0 ∙ verb_again (verb_in a) in
    cc (found, c.in-None.is, c.verb_of.ensures)
