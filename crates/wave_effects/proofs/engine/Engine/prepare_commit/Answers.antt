use Rattle.std.proofs.Common.{◌≡◌, ◌∙◌, Bor, Option, Some, None, is_some, refl, true}
use Rattle.std.specs.Option.{option_copied}
use Rattle.wave_base.specs.declared.outcome.EventResult.{EventResult}
use Rattle.wave_effects.specs.Keeping.{kept_of}
use Rattle.wave_effects.proofs.Headings.{commit_ready}
use Rattle.wave_effects.proofs.engine.Engine.prepare_commit.Goals as goal

there : (o : Option (Bor EventResult)) (r : EventResult) → option_copied o ≡ Some r → is_some o ≡ true
there None r e = cc
there (Some x) r e = refl

pub unwrap-requires : goal.unwrap-requires
unwrap-requires c =
    let on = c.requires.enabled.3 in
    there c.ready.result _ (c.ready.ensures ∙ commit_ready c.states_are_known.ensures (kept_of c.args.self.now) c.requires.enabled.0 c.requires.enabled.1 c.requires.enabled.2 on.start on.state on.next on.stands on.enabled)
