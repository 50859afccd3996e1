use Rattle.std.proofs.Common.{◌≡◌, ◌++◌, drop}
use Rattle.journal_replay.specs.Reports.{lines_of, owner_text}
use Rattle.journal_replay.proofs.report.put_owners.Given as goal

abbrev pub invariant-loop-owner : goal.invariant-loop-owner
invariant-loop-owner l = l.out.items ++ lines_of (owner_text l.shape) (drop l.owner-index l.owners) ≡ l.fn.out.items ++ lines_of (owner_text l.shape) l.owners
