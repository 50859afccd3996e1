use Rattle.std.proofs.Common.{◌≡◌, Option, subst}
use Rattle.host_map.specs.Stores.{Stores, column_of}
use Rattle.migration_core.specs.Letters.{route_of}
use Rattle.wave_machine.specs.inner.Asking.{route_at}
use Rattle.wave_machine.proofs.asking.way.Goals as goal

pub returns-in-Some : goal.returns-in-Some
returns-in-Some c =
    let st = c.in-Some.store.now in
    subst (λ (o : Option Stores). route_of c.route_at.result ≡ route_at o c.args.path.now c.args.followed) c.in-Some.ensures
    (c.route_at.ensures (column_of st c.args.path.now) 0 (c.stores_stand.ensures st c.args.path.now 0))
