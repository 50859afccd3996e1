use Rattle.std.proofs.Common.{◌≡◌, ◌+◌, drop, vec_len, vec_capacity}
use Rattle.wave_machine.proofs.index.cut_first.Given as goal

abbrev pub invariant-loop : goal.invariant-loop
invariant-loop l = record {
  items : l.index.items ≡ drop l.counter l.fn.index.items;
  len : vec_len l.index + l.counter ≡ vec_len l.fn.index;
  capacity : vec_capacity l.index ≡ vec_capacity l.fn.index;
}
