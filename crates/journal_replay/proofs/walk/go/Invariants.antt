use Rattle.std.proofs.Common.{take}
use Rattle.wave_effects.specs.Plans.{plan_of}
use Rattle.journal_replay.specs.inner.Walks.{IsWalking}
use Rattle.journal_replay.proofs.walk.go.Given as goal

abbrev pub invariant-loop-i : goal.invariant-loop-i
invariant-loop-i l = IsWalking (plan_of l.plan) (take l.i l.journal) l.walk
