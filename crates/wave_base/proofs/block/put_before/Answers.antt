use Rattle.std.proofs.Common.{◌≡◌, ◌∙◌, ◌+◌, ◌-◌, ◌≤◌, length, drop, slice_set, ap, rules, arith}
use borrow.Rule.Slice.PartMut.{put_mid}
use Rattle.std.specs.List.{insert}
use Rattle.std.proofs.lemmas.List.{with_items_is, places}
use Rattle.wave_base.proofs.Blocks.{put_before}
use Rattle.wave_base.proofs.block.put_before.Goals as goal

pub returns-clause-pairs : goal.returns-clause-pairs
returns-clause-pairs c =
    let old = c.args.places.now in
    let all = c.deref_mut.result.now in
    let free = c.args.free in
    let i = c.args.i in
    let turned = c.rotate_left.new.self in
    let parts = put_mid (free - 1) (free + i - (free - 1)) all turned in
    let size : length parts ≡ old.len = search (rules, places) in
    let within : free + i ≤ length all = omega (arith, c.requires.within, c.deref_mut.ensures.len) in
    ap (λ places. drop (free - 1) (slice_set places (free + i - 1) c.args.pair)) (with_items_is old parts size)
    ∙ put_before all free (free - 1) i _ _ c.args.pair turned (omega (arith, c.requires.room)) (omega (arith, c.requires.room)) (omega (arith, c.requires.room)) within c.rotate_left.ensures.after
    ∙ ap (λ places. insert (drop free places) i c.args.pair) c.deref_mut.ensures.value
