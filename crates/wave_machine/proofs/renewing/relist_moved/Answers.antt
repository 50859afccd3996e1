use Rattle.std.proofs.Common.{◌≡◌, true, subst}
use Rattle.wave_labels.specs.Labels.{label_of}
use Rattle.wave_states.specs.Labels.{path_of}
use Rattle.wave_theory.proofs.Basics.{and_first, and_second, clash}
use Rattle.wave_effects.specs.Keeping.{kept_of}
use Rattle.wave_machine.specs.inner.Index.{IsEntering, Renews, is_enter, mail_at}
use Rattle.wave_machine.proofs.Entering.{renews_less, renews_none}
use Rattle.wave_machine.proofs.renewing.relist_moved.Goals as goal

pub returns-then-moved-clause-renews : goal.returns-then-moved-clause-renews
returns-then-moved-clause-renews c =
    let m = kept_of c.args.engine.now in
    let l = label_of c.args.label.now in
    let old = c.args.index.now.items in
    let new = c.relist_enters.new.index.items in
    renews_less m (λ u j. is_enter l.host (path_of l.act) (mail_at m u j) ≡ true) (IsEntering m l c.args.moved) (λ u j z. and_second c.args.moved (is_enter l.host (path_of l.act) (mail_at m u j)) z) old new
    (subst (λ q. Renews m (λ u j. is_enter l.host q (mail_at m u j) ≡ true) old new) c.path_in.ensures c.relist_enters.ensures.renews)

pub returns-else-moved-clause-renews : goal.returns-else-moved-clause-renews
returns-else-moved-clause-renews c =
    let m = kept_of c.args.engine.now in
    let l = label_of c.args.label.now in
    renews_none m (IsEntering m l c.args.moved) (λ u j z. clash c.args.moved (and_first c.args.moved (is_enter l.host (path_of l.act) (mail_at m u j)) z) c.if-moved.false) c.args.index.now.items
