use Rattle.std.proofs.Common.{◌≡◌, ◌∙◌, ◌+◌, ◌-◌, ◌<◌, length, take, drop, pos, ap, rules, arith}
use borrow.Rule.Slice.PartMut.{put_mid}
use Rattle.std.specs.List.{remove}
use Rattle.std.proofs.lemmas.List.{with_items_is, places}
use Rattle.wave_base.proofs.Blocks.{cut_before}
use Rattle.wave_base.proofs.block.cut_before.Goals as goal

pub returns-clause-pairs : goal.returns-clause-pairs
returns-clause-pairs c =
    let old = c.args.places.now in
    let all = c.deref_mut.result.now in
    let free = c.args.free in
    let i = c.args.i in
    let turned = c.rotate_right.new.self in
    let parts = put_mid free (free + i + 1 - free) all turned in
    let size : length parts ≡ old.len = search (rules, places) in
    let within : free + i < length all = omega (arith, c.requires, c.deref_mut.ensures.len) in
    let one : length (take (free + i + 1 - free) (drop free all)) - 1 ≡ i = search (rules, places) in
    ap (drop (free + 1)) (with_items_is old parts size)
    ∙ cut_before all free i _ _ (pos 0, pos 0) turned (omega arith) one within c.rotate_right.ensures.after
    ∙ ap (λ places. remove (drop free places) i) c.deref_mut.ensures.value
