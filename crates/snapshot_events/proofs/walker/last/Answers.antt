use Rattle.std.proofs.Common.{◌<◌, ◌-◌, ◌∙◌, length, ap, arith}
use Rattle.std.specs.List.{slice_get}
use Rattle.std.proofs.lemmas.Option.{slice_get-get_or}
use Rattle.wave_base.proofs.Kept.{no_step}
use Rattle.snapshot_events.proofs.Walking.{last_of}
use Rattle.snapshot_events.proofs.walker.last.Goals as goal

pub returns-else-n-eq0 : goal.returns-else-n-eq0
returns-else-n-eq0 c =
    let p = c.args.path.now in
    let some : 0 < length p = omega (arith, c.if-n-eq0.false, c.len-n.ensures.len) in
    c.step.ensures
    ∙ ap (λ n. slice_get p (n - 1)) c.len-n.ensures.len
    ∙ slice_get-get_or p (length p - 1) no_step (omega (arith, some))
    ∙ last_of p no_step some
