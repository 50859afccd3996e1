use Rattle.std.proofs.Common.{◌≡◌, ◌<◌, ◌^◌, ◌++◌, ◌∙◌, length, rules, arith}
use Rattle.std.specs.Fmt.{decimal}
use Rattle.wave_text.specs.Counted.{line_count}
use Rattle.wave_text.proofs.CountedLemmas.{behind_head, no_head, no_line_feed}
use Rattle.wave_text.proofs.counted.behind_head.Goals as goal

pub returns-in_default-clause-none : goal.returns-in_default-clause-none
returns-in_default-clause-none c = no_line_feed c.args.word.now c.requires c.args.text.now c.in_default.ensures.none

pub returns-then-eq-clause-some : goal.returns-then-eq-clause-some
returns-then-eq-clause-some c =
    let short : length c.args.text.now < 2 ^ 63 = omega arith in
    let written : c.as_slice.result.now ≡ c.args.word.now ++ decimal (line_count c.in-Some.rest.now) =
    c.as_slice.ensures.value ∙ c.in_ok-put_head.ensures ∙ (λ i. c.new-written.ensures.items i ++ (c.args.word.now ++ decimal (c.line_count.ensures i))) in
    let same : c.as_slice.result.now ≡ c.in-Some.head.now = search rules in
    behind_head c.args.word.now c.requires c.args.text.now c.in-Some.head.now c.in-Some.rest.now short c.in-Some.ensures.some c.as_slice.result.now written same

pub returns-clause-none : goal.returns-clause-none
returns-clause-none c =
    let short : length c.args.text.now < 2 ^ 63 = omega arith in
    let written : c.as_slice.result.now ≡ c.args.word.now ++ decimal (line_count c.in-Some.rest.now) =
    c.as_slice.ensures.value ∙ c.in_ok-put_head.ensures ∙ (λ i. c.new-written.ensures.items i ++ (c.args.word.now ++ decimal (c.line_count.ensures i))) in
    no_head c.args.word.now c.requires c.args.text.now c.in-Some.head.now c.in-Some.rest.now short c.in-Some.ensures.some c.as_slice.result.now written (λ e. search rules)
