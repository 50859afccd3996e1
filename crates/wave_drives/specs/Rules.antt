-- The rules by which a drive picks.
use Rattle.std.specs.Prelude.{ℕ}
use Rattle.wave_base.specs.declared.outcome.EventResult.{EventResult}
use Rattle.wave_base.specs.declared.script.Line.{Line}
use Rattle.wave_states.specs.Runs.{Rule, seed, oldest, newest, movers, mail_last}
use Rattle.code_actor.specs.CodeActors.{Fields}
use Rattle.plan_actors.specs.PlanActors as actors
use Rattle.wave_drives.specs.declared.rules.PickRule.{PickRule}
use Rattle.wave_drives.specs.declared.rules.PickRule.TheVariants.{Seed, Oldest, Newest, Movers, MailLast}
use Rattle.wave_effects.specs.Kinds.{is_move, job_kind}

-- the rule that the theory has
abbrev pub rule_of : PickRule → Rule actors.Actor Fields EventResult Line
rule_of (Seed x) = seed
rule_of Oldest = oldest
rule_of Newest = newest
rule_of Movers = movers (λ line. is_move (job_kind line))
rule_of MailLast = mail_last

-- and the number that it begins with
abbrev pub rule_number : PickRule → ℕ
rule_number (Seed x) = x
rule_number _ = 0
