use Rattle.std.proofs.Common.{◌≡◌, ◌∙◌, ◌+◌, ◌++◌, ◌∷◌, [], ap, arith, refl}
use Rattle.std.proofs.lemmas.List.{drop_all}
use Rattle.journal_text.specs.JournalTexts.{head_text, labels_text}
use Rattle.listing_out.proofs.SinkLemmas.{begins_taken, more_taken, front_taken, taken_reached, front_of_all, flushed_all, flushed_front, on_err}
use Rattle.eventwave.proofs.PouringLemmas.{head_first, label_next, path_at}
use Rattle.eventwave.proofs.pouring.write_journal.Goals as goal

pub returns-in_err-write_all-clause-err : goal.returns-in_err-write_all-clause-err
returns-in_err-write_all-clause-err g c =
    let shape = c.args.shape.now in
    let labels = c.args.journal.now in
    let head = c.as_slice.ensures ∙ c.in_ok-head.ensures ∙ ap (λ n. head_text n ++ 10 ∷ []) c.len-count.ensures in
    on_err c.from_residual-in_err-write_all.result
    (front_of_all _ _ _ _ (front_taken _ _ _ _ _ _ c.as_slice.result.now _ _ _ (begins_taken _ _ _ _ c.in_ok-held.ensures refl) c.in_err-write_all.ensures.err (head_first shape labels c.as_slice.result.now head)))

pub loop-i-init : goal.loop-i-init
loop-i-init g c =
    let shape = c.args.shape.now in
    let labels = c.args.journal.now in
    let head = c.as_slice.ensures ∙ c.in_ok-head.ensures ∙ ap (λ n. head_text n ++ 10 ∷ []) c.len-count.ensures in
    record {
      taken = more_taken _ _ _ _ _ _ c.as_slice.result.now _ _ _ (begins_taken _ _ _ _ c.in_ok-held.ensures refl) c.in_ok-write_all.ensures.ok (head_first shape labels c.as_slice.result.now head);
      later = omega (arith, c.in_ok-write_all.ensures.cause);
    }

pub label_line-requires : goal.label_line-requires
label_line-requires g c = path_at c.args.shape.now c.args.journal.now c.loop-i.i c.label_at-label.result c.requires c.label_at-label.ensures

pub returns-in_err-line-clause-err : goal.returns-in_err-line-clause-err
returns-in_err-line-clause-err g c =
    on_err c.from_residual-in_err-line.result (taken_reached _ _ _ _ _ c.loop-i.invariant.taken)

pub returns-in_err-write_all-2-clause-err : goal.returns-in_err-write_all-2-clause-err
returns-in_err-write_all-2-clause-err g c =
    let shape = c.args.shape.now in
    let labels = c.args.journal.now in
    let next = label_next shape labels c.loop-i.i c.label_at-label.result c.as_slice-in-loop-i.result.now c.label_at-label.ensures (c.as_slice-in-loop-i.ensures ∙ c.in_ok-line.ensures.line) in
    on_err c.from_residual-in_err-write_all-2.result
    (front_of_all _ _ _ _ (front_taken _ _ _ _ _ _ c.as_slice-in-loop-i.result.now _ _ _ c.loop-i.invariant.taken c.in_err-write_all-2.ensures.err next))

pub loop-i-preserved : goal.loop-i-preserved
loop-i-preserved g c =
    let shape = c.args.shape.now in
    let labels = c.args.journal.now in
    let next = label_next shape labels c.loop-i.i c.label_at-label.result c.as_slice-in-loop-i.result.now c.label_at-label.ensures (c.as_slice-in-loop-i.ensures ∙ c.in_ok-line.ensures.line) in
    record {
      taken = more_taken _ _ _ _ _ _ c.as_slice-in-loop-i.result.now _ _ _ c.loop-i.invariant.taken c.in_ok-write_all-2.ensures.ok next;
      later = omega (arith, c.in_ok-write_all-2.ensures.cause, c.loop-i.invariant.later);
    }

pub returns-in_err-flush-clause-err : goal.returns-in_err-flush-clause-err
returns-in_err-flush-clause-err g c =
    on_err c.from_residual-in_err-flush.result (flushed_front _ _ _ _ _ _ _ c.loop-i.invariant.taken c.in_err-flush.ensures.bytes)

pub returns-clause-ok : goal.returns-clause-ok
returns-clause-ok g c =
    let shape = c.args.shape.now in
    let labels = c.args.journal.now in
    let none : labels_text shape (c.loop-i.i + 1) _ ≡ [] = ap (labels_text shape (c.loop-i.i + 1)) (drop_all c.loop-i.i labels (omega (arith, c.loop-i-test.false, c.len-count.ensures))) in
    flushed_all _ _ _ _ _ _ _ c.loop-i.invariant.taken none c.in_ok-flush.ensures.bytes c.in_ok-flush.ensures.ok
