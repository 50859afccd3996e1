use Rattle.std.proofs.Common.{◌≡◌, ◌∙◌, true, sym, ap}
use Rattle.std.specs.Prelude.{slice_get}
use Rattle.wave_labels.specs.Labels.{label_of}
use Rattle.wave_states.specs.Labels.{path_of}
use Rattle.wave_effects.specs.Keeping.{kept_of}
use Rattle.wave_machine.specs.inner.Updating.{has_at}
use Rattle.wave_machine.proofs.Updated.{near_is, ways_by}
use Rattle.wave_machine.proofs.renewing.relist_after.Goals as goal

pub returns-clause-all : goal.returns-clause-all
returns-clause-all c = λ m more h taken head old.
    let m' = kept_of c.args.engine.now in
    let l = label_of c.args.label.now in
    let store = slice_get m'.stores l.host in
    let there : has_at (path_of l.act) store ≡ c.line_at-here.result.0 = ap (λ q. has_at q store) (sym c.path_in.ensures) ∙ sym c.line_at-here.ensures.here in
    let stays : c.is_same.result ≡ true → has_at (path_of l.act) store ≡ c.args.seen.here = λ same. there ∙ c.is_same.ensures.0 same in
    let same : has_at (path_of l.act) store ≡ c.args.seen.here → c.is_same.result ≡ true = λ e. c.is_same.ensures.1 (sym there ∙ e) in
    near_is m m' l c.args.seen more taken h head c.has_moved.result (ways_by m m' l c.args.seen more taken c.has_moved.result c.is_same.result stays same c.has_moved.ensures)
    c.args.index.now.items c.relist_near.new.index.items c.relist_moved.new.index.items c.relist_near.ensures.relists c.relist_moved.ensures.renews old
