use Rattle.std.proofs.Common.{IfSome, sym, subst}
use Rattle.wave_base.specs.declared.value.Kind.TheVariants as k
use Rattle.wave_base.specs.declared.value.Value.TheVariants as value
use Rattle.wave_text.specs.Splits.{ArePartsAt}
use Rattle.snapshot_text.specs.Shots.{IsValue}
use Rattle.snapshot_text.specs.inner.Guesses.{IsTableOf, IsSeen}
use Rattle.snapshot_text.proofs.ValueLemmas.{map_seen, map_unseen}
use Rattle.snapshot_text.proofs.value.map_of.Goals as goal

pub returns-in-Some-clause-some : goal.returns-in-Some-clause-some
returns-in-Some-clause-some c =
    let parts = subst (λ t. ArePartsAt 125 t c.parts_at.result.0.now c.parts_at.result.1.now) c.behind_first.ensures.rest c.parts_at.ensures.parts in
    let of = subst (IsTableOf c.parts_at.result.0.now) c.in-Some.is c.in_ok-table.ensures.only in
    let good = subst (λ o. IfSome o (λ t. IsValue (value.Map t))) c.in-Some.is c.in_ok-table.ensures.good in
    subst (IsSeen k.Map c.args.text.now (value.Map c.in-Some.table)) (sym c.behind_first-in-Some.ensures.rest) (map_seen c.args.text.now c.parts_at.result.0.now c.parts_at.result.1.now parts c.in-Some.table of good)

pub returns-in-None-clause-none : goal.returns-in-None-clause-none
returns-in-None-clause-none c =
    let parts = subst (λ t. ArePartsAt 125 t c.parts_at.result.0.now c.parts_at.result.1.now) c.behind_first.ensures.rest c.parts_at.ensures.parts in
    map_unseen c.args.text.now c.parts_at.result.0.now c.parts_at.result.1.now parts (subst (IsTableOf c.parts_at.result.0.now) c.in-None.is c.in_ok-table.ensures.only)
