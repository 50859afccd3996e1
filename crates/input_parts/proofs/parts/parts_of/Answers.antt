use Rattle.std.proofs.Common.{◌≡◌, ◌<◌, [], None, length, refl, sym, ◌∙◌, subst, ap, arith}
use Rattle.std.proofs.lemmas.List.{nil_from_length}
use Rattle.std.proofs.lemmas.Bool.Decides.{nat_tests}
use Rattle.input_parts.specs.Parts.{line_parts, text_behind}
use Rattle.wave_text.specs.Lines.{cut_lines}
use Rattle.input_parts.proofs.PartLemmas.{Passed, is_first, passed_more, service_found, script_found, none_found}
use Rattle.input_parts.proofs.parts.parts_of.Goals as goal

pub returns-then-is_dashes-clause-service : goal.returns-then-is_dashes-clause-service
returns-then-is_dashes-clause-service c =
    let some : 0 < length c.loop-rest.rest.now = grind (arith, nat_tests) in
    service_found c.args.input.now c.loop-rest.rest.now c.parts_at.result.0.now c.parts_at.result.1.now c.loop-rest.invariant some (is_first c.loop-rest.rest.now c.parts_at.result.0.now c.parts_at.result.1.now c.parts_at.ensures.parts)
    (sym c.is_dashes.ensures ∙ c.if-is_dashes.true)

pub returns-then-is_dashes-clause-script : goal.returns-then-is_dashes-clause-script
returns-then-is_dashes-clause-script c =
    let some : 0 < length c.loop-rest.rest.now = grind (arith, nat_tests) in
    script_found c.args.input.now c.loop-rest.rest.now c.parts_at.result.0.now c.parts_at.result.1.now c.loop-rest.invariant some (is_first c.loop-rest.rest.now c.parts_at.result.0.now c.parts_at.result.1.now c.parts_at.ensures.parts)
    (sym c.is_dashes.ensures ∙ c.if-is_dashes.true)

pub loop-rest-preserved : goal.loop-rest-preserved
loop-rest-preserved c =
    let some : 0 < length c.loop-rest.rest.now = grind (arith, nat_tests) in
    passed_more c.args.input.now c.loop-rest.rest.now c.parts_at.result.0.now c.parts_at.result.1.now c.loop-rest.invariant some (is_first c.loop-rest.rest.now c.parts_at.result.0.now c.parts_at.result.1.now c.parts_at.ensures.parts)
    (sym c.is_dashes.ensures ∙ c.if-is_dashes.false)

pub returns-clause-service : goal.returns-clause-service
returns-clause-service c =
    let ends : c.loop-rest.rest.now ≡ [] = nil_from_length c.loop-rest.rest.now (grind (arith, nat_tests)) in
    let none : line_parts (cut_lines c.args.input.now) ≡ None = none_found c.args.input.now (subst (Passed c.args.input.now) ends c.loop-rest.invariant) in
    rw none refl

pub returns-clause-none : goal.returns-clause-none
returns-clause-none c =
    let ends : c.loop-rest.rest.now ≡ [] = nil_from_length c.loop-rest.rest.now (grind (arith, nat_tests)) in
    ap text_behind (none_found c.args.input.now (subst (Passed c.args.input.now) ends c.loop-rest.invariant))
