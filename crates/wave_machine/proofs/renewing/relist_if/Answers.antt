use Rattle.std.proofs.Common.{◌≡◌, true}
use Rattle.wave_theory.proofs.Basics.{clash}
use Rattle.wave_effects.specs.Keeping.{kept_of}
use Rattle.wave_machine.proofs.Entering.{renews_less, renews_none, renews_slot}
use Rattle.wave_machine.proofs.renewing.relist_if.Goals as goal

pub returns-then-wanted-clause-renews : goal.returns-then-wanted-clause-renews
returns-then-wanted-clause-renews c =
    let m = kept_of c.args.engine.now in
    let t = c.args.ticket.0 in
    let k = c.args.number in
    let old = c.args.index.now.items in
    let new = c.relist_slot.new.index.items in
    renews_less m (λ u j. (u ≡ t) × (j ≡ k)) (λ u j. (c.args.wanted ≡ true) × ((u ≡ t) × (j ≡ k))) (λ u j z. z.1) old new (renews_slot m t k old new c.relist_slot.ensures.relists)

pub returns-else-wanted-clause-renews : goal.returns-else-wanted-clause-renews
returns-else-wanted-clause-renews c =
    renews_none (kept_of c.args.engine.now) (λ u j. (c.args.wanted ≡ true) × ((u ≡ c.args.ticket.0) × (j ≡ c.args.number))) (λ u j z. clash c.args.wanted z.0 c.if-wanted.false) c.args.index.now.items
