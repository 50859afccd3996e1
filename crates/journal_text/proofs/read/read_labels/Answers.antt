use Rattle.std.proofs.Common.{◌≡◌, ◌+◌, ◌<◌, ◌^◌, ◌++◌, ◌∷◌, [], List, length, length-append, IfSome, IfNone, sym, ap, subst, ◌∙◌, arith}
use Rattle.std.proofs.lemmas.Bool.Decides.{nat_tests}
use Rattle.wave_labels.specs.declared.label.Label.{Label}
use Rattle.path_text.proofs.StepLemmas.{is_nil}
use Rattle.journal_text.specs.inner.Lines.{IsOnlyLine, IsNoLine}
use Rattle.journal_text.proofs.LineLemmas.{no_feed, no_line}
use Rattle.journal_text.proofs.TailLemmas.{AreReadTo, line_read, all_read, nothing_left}
use Rattle.journal_text.proofs.read.read_labels.Goals as goal

pub returns-in_default : goal.returns-in_default
returns-in_default c =
    let some : 0 < length c.loop-rest.rest.now = grind (arith, nat_tests) in
    let none = no_feed c.args.classes.now c.requires.names (length c.loop-rest.labels + 1) c.loop-rest.rest.now c.in_default.ensures.none in (
      c.loop-rest.labels,
      c.loop-rest.rest.now,
      all_read c.args.classes.now c.args.tail.now c.loop-rest.labels c.loop-rest.rest.now c.loop-rest.invariant.read none,
      λ e. absurd (omega (arith, some, ap length e)),
      omega (arith, c.loop-rest.invariant.number),
    )

pub returns-in_default-2 : goal.returns-in_default-2
returns-in_default-2 c =
    let some : 0 < length c.loop-rest.rest.now = grind (arith, nat_tests) in
    let at : c.from.result ≡ length c.loop-rest.labels + 1 = omega (arith, c.from.ensures, c.loop-rest.invariant.number) in
    let below : length c.loop-rest.labels + 1 < 2 ^ 64 = omega (arith, c.loop-rest.invariant.number) in
    let no : IsNoLine c.args.classes.now (length c.loop-rest.labels + 1) c.in-Some.line.now =
    subst (λ n. IsNoLine c.args.classes.now n c.in-Some.line.now) at (subst (λ o. IfNone o (IsNoLine c.args.classes.now c.from.result c.in-Some.line.now)) c.in_default-2.is c.in_ok-worker.ensures.none) in
    let none = no_line c.args.classes.now c.requires.names (length c.loop-rest.labels + 1) c.loop-rest.rest.now c.in-Some.line.now c.in-Some.after.now below c.in-Some.ensures.some no in (
      c.loop-rest.labels,
      c.loop-rest.rest.now,
      all_read c.args.classes.now c.args.tail.now c.loop-rest.labels c.loop-rest.rest.now c.loop-rest.invariant.read none,
      λ e. absurd (omega (arith, some, ap length e)),
      omega (arith, c.loop-rest.invariant.number),
    )

pub loop-rest-preserved : goal.loop-rest-preserved
loop-rest-preserved c =
    let at : c.from.result ≡ length c.loop-rest.labels + 1 = omega (arith, c.from.ensures, c.loop-rest.invariant.number) in
    let below : length c.loop-rest.labels + 1 < 2 ^ 64 = omega (arith, c.loop-rest.invariant.number) in
    let only : IsOnlyLine c.args.classes.now (length c.loop-rest.labels + 1) c.in-Some.line.now c.in-Some-2.field-0 =
    subst (λ n. IsOnlyLine c.args.classes.now n c.in-Some.line.now c.in-Some-2.field-0) at (subst (λ o. IfSome o (IsOnlyLine c.args.classes.now c.from.result c.in-Some.line.now)) c.in-Some-2.is c.in_ok-worker.ensures.some) in
    let added : c.loop-rest.labels ++ c.in-Some-2.field-0 ∷ [] ≡ c.add.new.self = ap (λ x. c.loop-rest.labels ++ x ∷ []) c.in-Some-2.field-0-is ∙ sym c.in_ok-add.ensures.ok in
    let read = line_read c.args.classes.now c.args.tail.now c.loop-rest.labels c.loop-rest.rest.now c.requires.names c.loop-rest.invariant.read c.in-Some.line.now c.in-Some.after.now c.in-Some-2.field-0 below c.in-Some.ensures.some only in
    record {
      read = subst (λ (ls : List Label). AreReadTo c.args.classes.now c.args.tail.now ls c.in-Some.after.now) added read;
      number = omega (arith, c.loop-rest.invariant.number, ap length added, length-append c.loop-rest.labels (c.in-Some-2.field-0 ∷ []));
      short = omega (arith, c.loop-rest.invariant.short, ap length c.in-Some.ensures.some.spelled, length-append c.in-Some.line.now (10 ∷ c.in-Some.after.now));
    }

pub returns : goal.returns
returns c =
    let end : c.loop-rest.rest.now ≡ [] = is_nil c.loop-rest.rest.now c.loop-rest-test.ensures in
    all_read c.args.classes.now c.args.tail.now c.loop-rest.labels [] (subst (AreReadTo c.args.classes.now c.args.tail.now c.loop-rest.labels) end c.loop-rest.invariant.read) (nothing_left c.args.classes.now (length c.loop-rest.labels + 1))
