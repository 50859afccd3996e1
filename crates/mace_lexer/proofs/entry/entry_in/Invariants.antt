use Rattle.std.proofs.Common.{◌≡◌, length, map}
use Rattle.mace_lexer.specs.Words.{entry_of}
use Rattle.mace_lexer.proofs.entry.entry_in.Given as goal

abbrev pub invariant-loop-table : goal.invariant-loop-table
invariant-loop-table g l = entry_of (map (λ e. (e.0.now, e.1)) l.table) l.bytes ≡ entry_of (map (λ e. (e.0.now, e.1)) l.initial.table) l.bytes

abbrev pub decreases-loop-table : goal.decreases-loop-table
decreases-loop-table g l = length l.table
