use Rattle.std.proofs.Common.{◌≡◌, ◌∙◌, sym, subst, refl, Some, Option, rules}
use Rattle.std.specs.Prelude.{IfSome}
use Rattle.kept_lock.specs.History.{Adds}
use Rattle.kept_lock.specs.Locks.{name_of, knowledge}
use Rattle.kept_lock.proofs.Steps.{releases_as}
use Rattle.kept_lock.proofs.lock.KeptLock.put_back.Goals as goal

pub fetch_add-requires : goal.fetch_add-requires
fetch_add-requires g c =
    let h = c.requires.inside.0 in let k = knowledge c.args.pass.now in let y = c.unwrap-value.result in
    let out : c.args.pass.now.out ≡ Some y = sym c.take.ensures.value ∙ c.unwrap-value.ensures in
    let stand = subst (λ (o : Option g.row.V.Denot). IfSome o (λ z. g.V.Kept.stands z (name_of c.args.self.now))) out c.requires.stands in
    let added = subst (λ (o : Option g.row.V.Denot). IfSome o (λ z. Adds g.V.Kept.owner k.number k.seen (g.V.Kept.history z))) out c.requires.adds in (
      search rules,
      search rules,
      releases_as g.V.Kept.history g.V.Kept.owner g.V.Kept.stands c.args.self.now.table.shared.key c.args.self.now.table.shared.key _ _ c.exchange-empty.new.seat.me c.args.pass.now.seat.me y added.0 refl h.1 c.exchange-empty.ensures.3 h.2 h.3 stand added.1 added.2,
    )
