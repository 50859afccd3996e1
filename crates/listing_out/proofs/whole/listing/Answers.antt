use Rattle.std.proofs.Common.{◌≡◌, ◌+◌, ◌<◌, ◌++◌, length, get_or, ap, ◌∙◌, arith}
use Rattle.std.specs.List.{concat}
use Rattle.listing_out.specs.Listing.{name_at, made_at, result_lines, lines_from, shown_of, end_lines, places_of, last_ticket}
use Rattle.listing_out.proofs.ListingLemmas.{next_result, no_result, whole_listing, result_put, end_put}
use Rattle.listing_out.proofs.whole.listing.Goals as goal

pub loop-i-preserved : goal.loop-i-preserved
loop-i-preserved c =
    let within : c.loop-i.i < length c.args.done.now.results = omega (arith, c.loop-i-test.true, ap length c.as_slice-result_-items.ensures) in
    let there = c.result_-item.is ∙ ap (λ xs. get_or xs c.loop-i.i c.result_-item.result) c.as_slice-result_-items.ensures in
    let lines = result_lines c.args.shape.now c.ticket_at-n.result c.name_at.result c.result_-item.result c.made_at.result.now in
    let same : result_lines c.args.shape.now (c.args.first.0 + c.loop-i.i) (name_at c.args.done.now c.loop-i.i) c.result_-item.result (made_at c.args.done.now c.loop-i.i) ≡ lines = cc (c.ticket_at-n.ensures, c.name_at.ensures, c.made_at.ensures) in
    result_put _ _ _ _ _ _ c.in_ok-put_result.ensures (next_result c.args.shape.now c.args.first.0 c.args.done.now c.loop-i.i c.result_-item.result lines within there same) c.loop-i.invariant

pub returns : goal.returns
returns c =
    let lines : c.as_slice.result.now ≡ end_lines c.args.shape.now (places_of c.args.done.now c.args.map) (last_ticket c.args.first.0 c.args.done.now) =
    cc (c.as_slice.ensures.value, c.in_ok-lines.ensures, c.last_ticket-last.ensures, c.places_of.ensures) in
    c.from_vec.ensures
    ∙ end_put _ _ _ _ _ _ c.in_ok-put_lines.ensures (no_result c.args.shape.now (c.args.first.0 + c.loop-i.i) c.args.done.now c.loop-i.i (omega (arith, c.loop-i-test.false, ap length c.as_slice-result_-items.ensures))) c.loop-i.invariant
    (ap (λ z. concat (lines_from c.args.shape.now c.args.first.0 (shown_of c.args.done.now)) ++ concat z) lines ∙ whole_listing c.args.shape.now c.args.first.0 c.args.done.now c.args.map)
