use Rattle.std.proofs.Common.{◌∙◌, ap, sym}
use Rattle.service_code.specs.declared.program.Program.{Program}
use Rattle.wave_meaning.specs.Meaning.{results_at}
use Rattle.wave_effects.specs.Plans.{plan_of}
use Rattle.eventwave.proofs.MadeLemmas.{evaluated}
use Rattle.eventwave.proofs.engines.evaluate.Goals as goal

pub returns : goal.returns
returns c =
    let plan = c.args.plan.now in
    record {
      done = c.in_ok-done.ensures.finished ∙ ap (λ (p : Program). results_at p.shape c.args.service.now c.args.start.now plan.script) c.program.ensures.program ∙ sym (evaluated c.args.service.now (plan_of plan) c.args.start.now c.requires);
      journal = tt;
      run = tt;
    }
