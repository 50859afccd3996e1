use Rattle.std.proofs.Common.{◌≡◌, ap, ◌∙◌, refl, subst, sym, Some, Option}
use Rattle.std.specs.Prelude.{IsSome}
use mathlib.Core.Option.{some, some-injective}
use Rattle.kept_lock.specs.Locks.{name_of, knowledge}
use Rattle.kept_lock.specs.Visits.{Meets}
use Rattle.kept_lock.proofs.Steps.{ends, ends_at}
use Rattle.kept_lock.proofs.lock.KeptLock.close.Given as given
use Rattle.kept_lock.proofs.lock.KeptLock.close.Goals as goal

pub unwrap-value-requires : goal.unwrap-value-requires
unwrap-value-requires g c =
    let e = ends g.V.Kept.history g.V.Kept.owner g.V.Kept.stands _ _ _ c.into_parts-seat.result.0.me c.shut.new.seat.me _ _ refl c.close_with-closed.ensures.values.2 c.shut.ensures.shut
    (ap (λ s. s.me.0.name) c.into_parts-seat.ensures.0 ∙ c.requires.0.2.0) in
    let found : Some e.0 ≡ c.take.result = some-injective (Some e.0) c.take.result (sym e.1 ∙ c.take.ensures.value) in
    subst (λ (o : Option g.row.V.Denot). IsSome o) found refl

meets : (g : given.Over) (c : goal.After-drop-self-2 g) → Meets g.V.Kept.history g.V.Kept.owner g.V.Kept.stands (name_of c.args.self) (knowledge c.args.pass) c.into_inner.result
meets g c = subst (λ s. Meets g.V.Kept.history g.V.Kept.owner g.V.Kept.stands (name_of c.args.self) s.me.0.known c.into_inner.result) c.into_parts-seat.ensures.0
    (ends_at g.V.Kept.history g.V.Kept.owner g.V.Kept.stands _ _ _ c.into_parts-seat.result.0.me c.shut.new.seat.me _ _ c.into_inner.result refl c.close_with-closed.ensures.values.2 c.shut.ensures.shut
    (ap (λ s. s.me.0.name) c.into_parts-seat.ensures.0 ∙ c.requires.0.2.0) (c.take.ensures.value ∙ ap some c.unwrap-value.ensures ∙ ap (λ y. some (Some y)) (sym c.into_inner.ensures)))

pub returns-clause-stands : goal.returns-clause-stands
returns-clause-stands g c = (meets g c).stands_for_name

pub returns-clause-agrees : goal.returns-clause-agrees
returns-clause-agrees g c = (meets g c).agrees

pub returns-clause-accounts : goal.returns-clause-accounts
returns-clause-accounts g c = (meets g c).accounts
