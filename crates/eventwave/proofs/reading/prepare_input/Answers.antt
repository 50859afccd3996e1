use Rattle.std.proofs.Common.{◌≡◌, ◌∙◌, ◌<◌, true, inl, length, sym, subst}
use Rattle.command_words.specs.Inputs.{input_bytes, reads_input}
use Rattle.eventwave.specs.Ends.{IsLong}
use Rattle.eventwave.proofs.EndLemmas.{long_input, too_large_due}
use Rattle.eventwave.proofs.reading.prepare_input.Goals as goal

pub returns-in_ok-too_large-in-Err-TooLarge-clause-prepared : goal.returns-in_ok-too_large-in-Err-TooLarge-clause-prepared
returns-in_ok-too_large-in-Err-TooLarge-clause-prepared g c =
    let left = g.S.Source.left c.args.input.now in
    let gave = c.in-Err-TooLarge.ensures.gave in
    let reads : reads_input c.args.command ≡ true = sym c.reads_input.ensures ∙ c.if-not-reads_input.false in
    let long : IsLong (input_bytes c.args.command) left = subst (λ n. IsLong n left) c.input_bytes.ensures (long_input c.input_bytes.result left (g.S.Source.left c.read_all.new.source) gave.0 gave.1 (gave.2.0 cc)) in
    let due = too_large_due c.args.command left c.in_ok-too_large-in-Err-TooLarge.field-0 reads c.in_ok-too_large-in-Err-TooLarge.ensures long in
    record { bytes = due.bytes; input = due.input; prepared = due.told }

pub returns-in_ok-too_large-in-Err-TooLarge-clause-end : goal.returns-in_ok-too_large-in-Err-TooLarge-clause-end
returns-in_ok-too_large-in-Err-TooLarge-clause-end g c = λ reads.
    let left = g.S.Source.left c.args.input.now in
    let gave = c.in-Err-TooLarge.ensures.gave in
    inl (subst (λ n. IsLong n left) c.input_bytes.ensures (long_input c.input_bytes.result left (g.S.Source.left c.read_all.new.source) gave.0 gave.1 (gave.2.0 cc)))
