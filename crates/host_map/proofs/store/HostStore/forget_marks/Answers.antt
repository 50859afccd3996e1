use Rattle.std.proofs.Common.{◌≤◌, ◌+◌, sym, subst}
use Rattle.std.specs.FinMap as table
use Rattle.std.specs.HashMap.{spare}
use Rattle.host_map.proofs.StoreMaps.{len_is_length, none_left}
use Rattle.host_map.proofs.store.HostStore.forget_marks.Goals as goal

pub returns-clause-gone : goal.returns-clause-gone
returns-clause-gone c = none_left c.clear.new.self.entries c.clear.ensures.empty

pub returns-clause-mark_room : goal.returns-clause-mark_room
returns-clause-mark_room c =
    subst (λ v. table.len v.gone + v.mark_room ≤ spare c.clear.new.self) c.self.view_is
    (subst (λ n. n + spare c.self.inside.gone ≤ spare c.clear.new.self) (sym (len_is_length c.self.inside.gone.entries c.len.ensures.unique)) c.clear.ensures.capacity)
