use Rattle.std.proofs.Common.{◌-◌, ◌≤◌, List, length, map}
use Rattle.wave_states.specs.Labels.{Label}
use Rattle.wave_machine.specs.inner.Index.{Between, Parted, by_none}
use Rattle.wave_machine.proofs.index.place.Given as goal

abbrev pub invariant-loop-low : goal.invariant-loop-low
invariant-loop-low l = record {
  order : l.low ≤ l.high;
  within : l.high ≤ length l.index;
  between : (low high : List Label) → Parted (map by_none l.index) l.kind l.ticket.0 l.number low high → Between l.low (length low) l.high;
}

abbrev pub decreases-loop-low : goal.decreases-loop-low
decreases-loop-low l = l.high - l.low
