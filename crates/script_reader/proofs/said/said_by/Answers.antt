use Rattle.std.proofs.Common.{◌≡◌, IfSome, IfNone, sym, subst, ◌∙◌}
use Rattle.script_reader.specs.Pieces.{AreOnlyPieces, HasNoPieces}
use Rattle.script_reader.specs.inner.Parts.{SpellsOnly, SpellsNone}
use Rattle.script_reader.proofs.FormLemmas.{says_no_word, says_no_pieces, says_no_form, says_form}
use Rattle.script_reader.proofs.said.said_by.Goals as goal

pub returns-then-not-is_form_word : goal.returns-then-not-is_form_word
returns-then-not-is_form_word c = says_no_word c.args.line.now c.first_run.result.now (sym c.is_skipped.ensures ∙ c.if-is_skipped.false) c.first_run.ensures (sym c.if-not-is_form_word.ensures)

pub returns-in_default : goal.returns-in_default
returns-in_default c = says_no_pieces c.args.line.now (sym c.is_skipped.ensures ∙ c.if-is_skipped.false) (subst (λ o. IfNone o (HasNoPieces c.args.line.now)) c.in_default.is c.in_ok-pieces.ensures.none)

pub returns : goal.returns
returns c =
    let pieces : AreOnlyPieces c.args.line.now c.in-Some.pieces = subst (λ o. IfSome o (AreOnlyPieces c.args.line.now)) c.in-Some.is c.in_ok-pieces.ensures.some in
    let same : c.as_slice.result.now ≡ c.in-Some.pieces = c.as_slice.ensures in
    says_no_form c.args.line.now c.as_slice.result.now (sym c.is_skipped.ensures ∙ c.if-is_skipped.false) (subst (AreOnlyPieces c.args.line.now) (sym same) pieces)
    (subst (λ o. IfNone o (SpellsNone c.as_slice.result.now)) c.in-None.is c.in_ok-form.ensures.none)

pub returns-in-Some-2 : goal.returns-in-Some-2
returns-in-Some-2 c =
    let pieces : AreOnlyPieces c.args.line.now c.in-Some.pieces = subst (λ o. IfSome o (AreOnlyPieces c.args.line.now)) c.in-Some.is c.in_ok-pieces.ensures.some in
    let same : c.as_slice.result.now ≡ c.in-Some.pieces = c.as_slice.ensures in
    says_form c.args.line.now c.as_slice.result.now c.in-Some-2.form (sym c.is_skipped.ensures ∙ c.if-is_skipped.false) (subst (AreOnlyPieces c.args.line.now) (sym same) pieces)
    (subst (λ o. IfSome o (SpellsOnly c.as_slice.result.now)) c.in-Some-2.is c.in_ok-form.ensures.some)
