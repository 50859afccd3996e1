use Rattle.std.proofs.Common.{◌≡◌, ◌∙◌, ◌<◌, length, refl, sym, subst, arith}
use Rattle.std.proofs.lemmas.Option.{slice_get_read}
use Rattle.wave_effects.specs.Keeping.{kept_of}
use Rattle.wave_machine.specs.inner.Done.{AreDone}
use Rattle.wave_machine.proofs.Skipping.{more_done}
use Rattle.wave_machine.proofs.done.count_done.Goals as goal

pub loop-i-preserved : goal.loop-i-preserved
loop-i-preserved c =
    let m = kept_of c.args.engine.now in
    let i = c.loop-i.i in
    let within : i < length m.cells = omega (arith, c.loop-i-test.true, c.len-i-end.ensures) in
    more_done m i c.index.result.now (slice_get_read m.cells _ i c.index.result.now refl within c.index.ensures) (sym c.is_done.ensures ∙ c.if-not-is_done.false) c.loop-i.invariant

pub returns : goal.returns
returns c =
    let m = kept_of c.args.engine.now in
    let most = c.loop-i.invariant.within in
    let same : c.loop-i.i ≡ c.len.result = omega (arith, most, c.loop-i-test.false, c.len-i-end.ensures, c.len.ensures) in
    subst (AreDone m) same c.loop-i.invariant
