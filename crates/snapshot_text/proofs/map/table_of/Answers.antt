use Rattle.std.proofs.Common.{◌≡◌, ◌<◌, [], length, sym, subst, ◌∙◌, w64, arith}
use Rattle.std.proofs.lemmas.Int.{to_z-of_z}
use Rattle.std.proofs.lemmas.Bool.Decides.{nat_tests}
use Rattle.wave_base.specs.Tables.{IsTable, with_pair}
use Rattle.path_text.proofs.StepLemmas.{is_nil}
use Rattle.snapshot_text.specs.inner.Guesses.{behind_first}
use Rattle.snapshot_text.proofs.MapLemmas.{IsTableTo, none_read, pair_read, pair_missed, all_read}
use Rattle.snapshot_text.proofs.map.table_of.Goals as goal

pub loop-rest-init : goal.loop-rest-init
loop-rest-init c = subst (λ t. IsTableTo c.args.text.now t c.args.text.now) (sym c.new-table.ensures) (none_read c.args.text.now)

pub returns-in_default-clause-only : goal.returns-in_default-clause-only
returns-in_default-clause-only c =
    let some : 0 < length c.loop-rest.rest.now = grind (arith, nat_tests) in
    pair_missed c.args.text.now c.loop-rest.rest.now c.parts_at.result.0.now c.parts_at.result.1.now c.loop-rest.table c.loop-rest.invariant some c.parts_at.ensures.parts c.in_default.ensures.only

pub loop-rest-preserved : goal.loop-rest-preserved
loop-rest-preserved c =
    let some : 0 < length c.loop-rest.rest.now = grind (arith, nat_tests) in
    let fits = c.in-Some.ensures.fits in
    let put : c.put.new.self ≡ with_pair c.loop-rest.table c.in-Some.key c.in-Some.value =
    c.in-Ok.ensures.ok ∙ (λ i. with_pair c.loop-rest.table (to_z-of_z w64 c.in-Some.key fits.key i) (to_z-of_z w64 c.in-Some.value fits.value i)) in
    let whole : IsTable c.put.new.self = subst IsTable c.table-in-loop-rest.view_is c.table-in-loop-rest.invariant in
    let read = pair_read c.args.text.now c.loop-rest.rest.now c.parts_at.result.0.now c.parts_at.result.1.now c.loop-rest.table c.in-Some.key c.in-Some.value c.loop-rest.invariant some c.parts_at.ensures.parts c.in-Some.ensures.only fits
    (subst IsTable put whole) in
    subst (λ r. IsTableTo c.args.text.now c.put.new.self r) (sym c.behind_first-rest.ensures.rest) (subst (λ t. IsTableTo c.args.text.now t (behind_first c.parts_at.result.1.now)) (sym put) read)

pub returns-clause-only : goal.returns-clause-only
returns-clause-only c =
    let end : c.loop-rest.rest.now ≡ [] = is_nil c.loop-rest.rest.now c.loop-rest-test.ensures in
    all_read c.args.text.now c.loop-rest.table (subst (IsTableTo c.args.text.now c.loop-rest.table) end c.loop-rest.invariant)

pub returns-clause-good : goal.returns-clause-good
returns-clause-good c = (c.loop-rest.invariant.is_table, c.loop-rest.invariant.fits)
