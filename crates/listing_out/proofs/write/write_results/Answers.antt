use Rattle.std.proofs.Common.{◌≡◌, ◌+◌, ◌<◌, ◌++◌, length, drop, get_or, ap, sym, ◌∙◌, arith}
use Rattle.std.specs.List.{concat}
use Rattle.listing_out.specs.Listing.{name_at, made_at, result_lines, lines_from, shown_of}
use Rattle.listing_out.proofs.ListingLemmas.{next_result, no_result}
use Rattle.listing_out.proofs.SinkLemmas.{nothing_written, written_front, begins_taken, more_taken, front_taken, taken_reached, front_of_all, flushed_all, flushed_front, on_err}
use Rattle.listing_out.proofs.write.write_results.Goals as goal

pub returns-in_err-held-clause-err : goal.returns-in_err-held-clause-err
returns-in_err-held-clause-err g c = on_err c.from_residual.result (written_front _ _ _ _ (nothing_written _ _))

pub loop-i-init : goal.loop-i-init
loop-i-init g c =
    let first : c.args.first.0 + 0 ≡ c.args.first.0 = omega arith in
    record {
      taken = begins_taken _ _ _ _ c.in_ok-held.ensures (ap (λ n. concat (lines_from c.args.shape.now n (shown_of c.args.done.now))) first);
      later = omega arith;
    }

pub returns-in_err-put_result-clause-err : goal.returns-in_err-put_result-clause-err
returns-in_err-put_result-clause-err g c = on_err c.from_residual-in_err-put_result.result (taken_reached _ _ _ _ _ c.loop-i.invariant.taken)

pub returns-in_err-write_all-clause-err : goal.returns-in_err-write_all-clause-err
returns-in_err-write_all-clause-err g c =
    let within : c.loop-i.i < length c.args.done.now.results = omega (arith, c.loop-i-test.true, ap length c.as_slice-result_-items.ensures) in
    let there = c.result_-item.is ∙ ap (λ xs. get_or xs c.loop-i.i c.result_-item.result) c.as_slice-result_-items.ensures in
    let lines = result_lines c.args.shape.now c.ticket_at-n.result c.name_at.result c.result_-item.result c.made_at.result.now in
    let same : result_lines c.args.shape.now (c.args.first.0 + c.loop-i.i) (name_at c.args.done.now c.loop-i.i) c.result_-item.result (made_at c.args.done.now c.loop-i.i) ≡ lines = cc (c.ticket_at-n.ensures, c.name_at.ensures, c.made_at.ensures) in
    let text : c.as_slice.result.now ≡ concat lines = c.as_slice.ensures.value ∙ c.in_ok-put_result.ensures ∙ ap (λ z. z ++ concat lines) c.clear.ensures.items in
    on_err c.from_residual-in_err-write_all.result
    (front_of_all _ _ _ _
    (front_taken _ _ _ _ _ _ c.as_slice.result.now _ _ _ c.loop-i.invariant.taken c.in_err-write_all.ensures.err
    (next_result c.args.shape.now c.args.first.0 c.args.done.now c.loop-i.i c.result_-item.result lines within there same ∙ ap (λ z. z ++ concat (lines_from c.args.shape.now (c.args.first.0 + (c.loop-i.i + 1)) (drop (c.loop-i.i + 1) (shown_of c.args.done.now)))) (sym text))))

pub loop-i-preserved : goal.loop-i-preserved
loop-i-preserved g c =
    let within : c.loop-i.i < length c.args.done.now.results = omega (arith, c.loop-i-test.true, ap length c.as_slice-result_-items.ensures) in
    let there = c.result_-item.is ∙ ap (λ xs. get_or xs c.loop-i.i c.result_-item.result) c.as_slice-result_-items.ensures in
    let lines = result_lines c.args.shape.now c.ticket_at-n.result c.name_at.result c.result_-item.result c.made_at.result.now in
    let same : result_lines c.args.shape.now (c.args.first.0 + c.loop-i.i) (name_at c.args.done.now c.loop-i.i) c.result_-item.result (made_at c.args.done.now c.loop-i.i) ≡ lines = cc (c.ticket_at-n.ensures, c.name_at.ensures, c.made_at.ensures) in
    let text : c.as_slice.result.now ≡ concat lines = c.as_slice.ensures.value ∙ c.in_ok-put_result.ensures ∙ ap (λ z. z ++ concat lines) c.clear.ensures.items in
    record {
      taken = more_taken _ _ _ _ _ _ c.as_slice.result.now _ _ _ c.loop-i.invariant.taken c.in_ok-write_all.ensures.ok
          (next_result c.args.shape.now c.args.first.0 c.args.done.now c.loop-i.i c.result_-item.result lines within there same ∙ ap (λ z. z ++ concat (lines_from c.args.shape.now (c.args.first.0 + (c.loop-i.i + 1)) (drop (c.loop-i.i + 1) (shown_of c.args.done.now)))) (sym text));
      later = omega (arith, c.in_ok-write_all.ensures.cause, c.loop-i.invariant.later);
    }

pub returns-in_err-flush-clause-err : goal.returns-in_err-flush-clause-err
returns-in_err-flush-clause-err g c = on_err c.from_residual-in_err-flush.result (flushed_front _ _ _ _ _ _ _ c.loop-i.invariant.taken c.in_err-flush.ensures.bytes)

pub returns-clause-ok : goal.returns-clause-ok
returns-clause-ok g c =
    flushed_all _ _ _ _ _ _ _ c.loop-i.invariant.taken
    (no_result c.args.shape.now (c.args.first.0 + c.loop-i.i) c.args.done.now c.loop-i.i (omega (arith, c.loop-i-test.false, ap length c.as_slice-result_-items.ensures)))
    c.in_ok-flush.ensures.bytes c.in_ok-flush.ensures.ok
