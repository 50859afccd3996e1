use Rattle.std.proofs.Common.{◌≡◌, ◌∙◌, ◌<◌, ◌+◌, ◌-◌, ◌/◌, Some, length, refl, sym, ap, arith}
use Rattle.std.specs.Prelude.{slice_get}
use Rattle.std.proofs.lemmas.Option.{slice_get_read}
use Rattle.wave_labels.specs.Labels.{act_of}
use Rattle.wave_machine.specs.inner.Index.{under}
use Rattle.wave_machine.specs.declared.ready.Ready.{Ready}
use Rattle.wave_machine.proofs.Parting.{is_higher, is_lower}
use Rattle.wave_machine.proofs.index.place.Goals as goal

pub loop-low-preserved-then-is_under : goal.loop-low-preserved-then-is_under
loop-low-preserved-then-is_under c =
    let index = c.args.index.now in
    let i = c.loop-low.low + (c.loop-low.high - c.loop-low.low) / 2 in
    let x = c.index-index-middle.result in
    let within : i < length index = omega (arith, c.loop-low-test.true, c.loop-low.invariant.within) in
    let at : slice_get index i ≡ Some x = slice_get_read index _ i x refl within c.index-index-middle.is in
    let same = ap (λ (z : Ready). under c.args.kind c.args.ticket.0 c.args.number (act_of z.act)) c.index-index-middle.is in
    record {
      order = omega (arith, c.loop-low-test.true);
      within = c.loop-low.invariant.within;
      between = λ low high p. let was = c.loop-low.invariant.between low high p in
          let more = is_lower index c.args.kind c.args.ticket.0 c.args.number low high p i x at (same ∙ sym c.is_under.ensures ∙ c.if-is_under.true) in
          record { above = omega (arith, more); under = was.under };
    }

pub loop-low-preserved : goal.loop-low-preserved
loop-low-preserved c =
    let index = c.args.index.now in
    let i = c.loop-low.low + (c.loop-low.high - c.loop-low.low) / 2 in
    let x = c.index-index-middle.result in
    let within : i < length index = omega (arith, c.loop-low-test.true, c.loop-low.invariant.within) in
    let at : slice_get index i ≡ Some x = slice_get_read index _ i x refl within c.index-index-middle.is in
    let same = ap (λ (z : Ready). under c.args.kind c.args.ticket.0 c.args.number (act_of z.act)) c.index-index-middle.is in
    record {
      order = omega arith;
      within = omega (arith, within);
      between = λ low high p. let was = c.loop-low.invariant.between low high p in
          record { above = was.above; under = is_higher index c.args.kind c.args.ticket.0 c.args.number low high p i x at (same ∙ sym c.is_under.ensures ∙ c.if-is_under.false) };
    }
