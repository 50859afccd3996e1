use Rattle.std.proofs.Common.{◌∙◌, ◌-◌, ap, map}
use Rattle.wave_base.specs.Fold.{tickets_from}
use Rattle.wave_labels.specs.Labels.{label_of}
use Rattle.wave_effects.specs.Keeping.{kept_of}
use Rattle.wave_machine.specs.inner.Asking.{asked_in, in_order}
use Rattle.wave_machine.proofs.ListingCells.{if_ok}
use Rattle.wave_machine.proofs.ListingOwn.{own_lists, past_lists}
use Rattle.wave_effects.proofs.Sized.{listable}
use Rattle.wave_machine.proofs.listed.Listed.enabled_for.Goals as goal

pub listing-requires-clause-listable : goal.listing-requires-clause-listable
listing-requires-clause-listable c =
    let m = kept_of c.args.self.now.engine in
    let r = c.requires.stands in
    listable c.states_are_known.ensures m r.0 r.1 r.2 (c.heads_are_known.ensures m.plan r.0 (r.2).labels r.1 (r.2).fits (r.2).begins (r.2).reached)

pub returns-in-Some : goal.returns-in-Some
returns-in-Some c =
    let m = kept_of c.args.self.now.engine in
    let takers = c.own_takers.ensures in
    if_ok c.listing.result (λ ls e start s stands.
    e
    ∙ (λ i. in_order (asked_in m (takers.idle i) (tickets_from (takers.from i) (takers.to i - takers.from i))))
    ∙ own_lists m start s stands.shows (c.states_list.ensures.can m.plan start stands.labels s stands.fits stands.begins stands.reached) c.args.worker.0 c.in-Some.idle c.in-Some.ensures.idle) c.listing.ensures

pub returns-in-None : goal.returns-in-None
returns-in-None c = λ start s stands.
    let m = kept_of c.args.self.now.engine in
    ap (λ ls. map label_of ls) c.new.ensures
    ∙ past_lists m start s stands.shows (c.states_list.ensures.can m.plan start stands.labels s stands.fits stands.begins stands.reached) c.args.worker.0 c.in-None.ensures.idle
