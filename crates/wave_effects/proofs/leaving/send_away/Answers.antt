use Rattle.std.proofs.Common.{refl, sym, subst}
use Rattle.std.specs.FinMap as table
use Rattle.host_map.specs.Stores.{IsAt}
use Rattle.wave_states.specs.Steps.{column_left}
use Rattle.wave_states.specs.Desks.{kept_of, not_at, with_held}
use Rattle.wave_effects.proofs.Ways.{from_store}
use Rattle.wave_effects.proofs.leaving.send_away.Goals as goal

pub returns-clause-desk : goal.returns-clause-desk
returns-clause-desk c = λ d col host en stands at is.
    c.send.ensures.desk (record { event = with_held d.event (kept_of (not_at c.args.path.now) d.event.held); mails = d.mails }) _ (c.let_go.ensures.desk d stands)
    (record { host = refl; path = refl; letter = from_store (table.get c.args.store.now.store c.args.path.now) (col.store host) en at.entry is (c.depart-entry.ensures.entry en) })

pub returns-clause-here : goal.returns-clause-here
returns-clause-here c = λ col host en at is.
    let moved = from_store (table.get c.args.store.now.store c.args.path.now) (col.store host) en at.entry is (c.depart-entry.ensures.entry en) in
    subst (λ k. IsAt c.depart-entry.new.store c.args.path.now (column_left col host c.args.to.0 k) host) (sym moved.moves) (c.depart-entry.ensures.here col host at)
