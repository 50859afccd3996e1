use Rattle.std.proofs.Common.{◌≡◌, IfSome, IfNone, sym, subst}
use Rattle.script_reader.specs.Pieces.{AreOnlyPieces, HasNoPieces}
use Rattle.script_reader.specs.inner.PolicyParts.{SpellsOnlyPolicy, SpellsNoPolicy}
use Rattle.script_reader.proofs.PolicyLemmas.{no_policy_word, says_plain, says_no_pieces, says_no_policy, says_policy}
use Rattle.script_reader.proofs.worded.worded_by.Goals as goal

pub returns-then-not-is_policy_word : goal.returns-then-not-is_policy_word
returns-then-not-is_policy_word c =
    says_plain c.args.line.now c.in_ok-said_by.field-0 (no_policy_word c.args.line.now c.first_run.result.now c.first_run.ensures (sym c.if-not-is_policy_word.ensures)) c.in_ok-said_by.ensures

pub returns-in_default : goal.returns-in_default
returns-in_default c =
    says_no_pieces c.args.line.now c.first_run.result.now c.first_run.ensures (sym c.if-not-is_policy_word.ensures)
    (subst (λ o. IfNone o (HasNoPieces c.args.line.now)) c.in_default.is c.in_ok-pieces.ensures.none)

pub returns : goal.returns
returns c =
    let pieces : AreOnlyPieces c.args.line.now c.in-Some.pieces = subst (λ o. IfSome o (AreOnlyPieces c.args.line.now)) c.in-Some.is c.in_ok-pieces.ensures.some in
    let same : c.as_slice.result.now ≡ c.in-Some.pieces = c.as_slice.ensures in
    says_no_policy c.args.line.now c.first_run.result.now c.as_slice.result.now c.first_run.ensures (sym c.if-not-is_policy_word.ensures) (subst (AreOnlyPieces c.args.line.now) (sym same) pieces)
    (subst (λ o. IfNone o (SpellsNoPolicy c.as_slice.result.now)) c.in-None.is c.in_ok-form.ensures.none)

pub returns-in-Some-2 : goal.returns-in-Some-2
returns-in-Some-2 c =
    let pieces : AreOnlyPieces c.args.line.now c.in-Some.pieces = subst (λ o. IfSome o (AreOnlyPieces c.args.line.now)) c.in-Some.is c.in_ok-pieces.ensures.some in
    let same : c.as_slice.result.now ≡ c.in-Some.pieces = c.as_slice.ensures in
    says_policy c.args.line.now c.as_slice.result.now c.in-Some-2.form (subst (AreOnlyPieces c.args.line.now) (sym same) pieces)
    (subst (λ o. IfSome o (SpellsOnlyPolicy c.as_slice.result.now)) c.in-Some-2.is c.in_ok-form.ensures.some)
