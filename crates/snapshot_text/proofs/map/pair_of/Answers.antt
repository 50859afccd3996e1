use Rattle.std.proofs.Common.{◌≡◌, Some, w64, ◌∙◌}
use Rattle.std.proofs.lemmas.Int.{to_z-of_z}
use Rattle.snapshot_text.proofs.MapLemmas.{pair_front}
use Rattle.snapshot_text.proofs.map.pair_of.Goals as goal

pub returns-in_err-key-clause-only : goal.returns-in_err-key-clause-only
returns-in_err-key-clause-only c p n e =
    let f = pair_front c.args.text.now c.parts_at.result.0.now c.parts_at.result.1.now c.parts_at.ensures.parts p n e in
    let found = c.number_of.ensures.only p.0 n.key f.0 in
    absurd (cc (found, c.in_err-key.was))

pub returns-in_err-value-clause-only : goal.returns-in_err-value-clause-only
returns-in_err-value-clause-only c p n e =
    let f = pair_front c.args.text.now c.parts_at.result.0.now c.parts_at.result.1.now c.parts_at.ensures.parts p n e in
    let found = c.number_of-2.ensures.only p.1 n.value (c.behind_first.ensures.rest ∙ f.1) in
    absurd (cc (found, c.in_err-value.was))

pub returns-clause-only : goal.returns-clause-only
returns-clause-only c p n e =
    let f = pair_front c.args.text.now c.parts_at.result.0.now c.parts_at.result.1.now c.parts_at.ensures.parts p n e in
    let key : c.in_ok-key.key ≡ p.0 = cc (c.number_of.ensures.only p.0 n.key f.0, c.in_ok-key.was) in
    let value : c.in_ok-value.value ≡ p.1 = cc (c.number_of-2.ensures.only p.1 n.value (c.behind_first.ensures.rest ∙ f.1), c.in_ok-value.was) in
    let first = to_z-of_z w64 c.in_ok-key.key c.in_ok-key.ensures.fits ∙ key in
    let second = to_z-of_z w64 c.in_ok-value.value c.in_ok-value.ensures.fits ∙ value in
    λ i. Some (first i, second i)
