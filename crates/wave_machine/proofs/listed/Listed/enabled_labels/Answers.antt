use Rattle.std.proofs.Common.{◌∙◌, ◌-◌, ap, position, is_none, List, Option, ℕ}
use Rattle.wave_base.specs.Fold.{tickets_from}
use Rattle.wave_effects.specs.Keeping.{kept_of}
use Rattle.wave_effects.specs.declared.kept.Out.{Out}
use Rattle.wave_machine.specs.inner.Asking.{asked_in, in_order}
use Rattle.wave_machine.proofs.ListingAll.{enabled_is}
use Rattle.wave_machine.proofs.ListingCells.{if_ok}
use Rattle.wave_effects.proofs.Sized.{listable}
use Rattle.wave_machine.proofs.listed.Listed.enabled_labels.Goals as goal

pub listing-requires-clause-listable : goal.listing-requires-clause-listable
listing-requires-clause-listable c =
    let m = kept_of c.args.self.now.engine in
    let r = c.requires.stands in
    listable c.states_are_known.ensures m r.0 r.1 r.2 (c.heads_are_known.ensures m.plan r.0 (r.2).labels r.1 (r.2).fits (r.2).begins (r.2).reached)

pub returns : goal.returns
returns c =
    let m = kept_of c.args.self.now.engine in
    let hands = ap (λ (hs : List (Option Out)). position is_none hs) c.deref.ensures.value in
    let idle = c.lowest_idle.ensures ∙ hands in
    if_ok c.listing.result (λ ls e start s stands.
    e ∙ ap (λ (o : Option ℕ). in_order (asked_in m o (tickets_from 0 (m.plan.workers - 0)))) idle
    ∙ enabled_is m start s stands.shows (c.states_list.ensures.can m.plan start stands.labels s stands.fits stands.begins stands.reached)) c.listing.ensures
