use Rattle.std.proofs.Common.{◌≡◌, ◌+◌, ◌<◌, ◌++◌, length, get_or, sym, ap, ◌∙◌, append-nil, arith}
use Rattle.listing_out.specs.Listing.{result_lines}
use Rattle.listing_out.proofs.ListingLemmas.{next_ticket, no_ticket, result_put}
use Rattle.listing_out.proofs.write.lines_in_one.Goals as goal

pub loop-i-preserved : goal.loop-i-preserved
loop-i-preserved c =
    let within : c.loop-i.i < length c.args.part.now = omega (arith, c.loop-i-test.true, ap length c.as_slice-shown-items.ensures) in
    let x = c.shown-item.result in
    let there = c.shown-item.is ∙ ap (λ xs. get_or xs c.loop-i.i x) c.as_slice-shown-items.ensures in
    let lines = result_lines c.args.shape.now c.ticket_at-n.result x.name x.result c.as_slice-made.result.now in
    let same : result_lines c.args.shape.now (c.args.from.0 + c.loop-i.i) x.name x.result x.made ≡ lines = cc (c.ticket_at-n.ensures, c.as_slice-made.ensures) in
    result_put _ _ _ _ _ _ c.in_ok-put_result.ensures (next_ticket c.args.shape.now c.args.from.0 c.args.part.now c.loop-i.i x lines within there same) c.loop-i.invariant

pub returns : goal.returns
returns c =
    let none = no_ticket c.args.shape.now (c.args.from.0 + c.loop-i.i) c.args.part.now c.loop-i.i (omega (arith, c.loop-i-test.false, ap length c.as_slice-shown-items.ensures)) in
    sym (append-nil c.loop-i.bytes.items) ∙ ap (λ z. c.loop-i.bytes.items ++ z) (sym none) ∙ c.loop-i.invariant
