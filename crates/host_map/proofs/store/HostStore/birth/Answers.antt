use Rattle.std.proofs.Common.{◌≤◌, sym, ap, subst, ◌∙◌, IsOk, Result, Ok, Err, OnOk}
use Rattle.std.specs.FinMap as table
use Rattle.std.specs.HashMap.{spare}
use Rattle.host_map.proofs.StoreMaps.{inserted}
use Rattle.host_map.proofs.store.HostStore.birth.Goals as goal

of_ok : {A E P : Type 0} (r : Result A E) → IsOk r → OnOk r P → P
of_ok (Ok x) h p = p
of_ok (Err e) h p = cc

pub returns-clause-store : goal.returns-clause-store
returns-clause-store c =
    let room : 1 ≤ spare c.self.inside.store = subst (λ v. 1 ≤ v.path_room) (sym c.self.view_is) c.requires in
    let h = of_ok c.insert.result (c.insert.ensures.succeeds room) c.insert.ensures.updates in
    inserted c.self.inside.store.entries c.insert.new.self.entries c.args.path c.args.entry h.0 ∙ ap (λ v. table.insert v.store c.args.path c.args.entry) c.self.view_is
