use Rattle.std.proofs.Common.{◌≡◌, ◌≤◌, take, vec_len, vec_capacity}
use Rattle.wave_machine.specs.inner.Index.{kinds_at}
use Rattle.wave_machine.proofs.Relisted.{Outs}
use Rattle.wave_machine.proofs.index.cut_each.Given as goal

abbrev pub invariant-loop-kind : goal.invariant-loop-kind
invariant-loop-kind l = record {
  outs : Outs (take l.kind-index (kinds_at l.number)) l.ticket.0 l.number l.fn.index.items l.index.items;
  len : vec_len l.index ≤ vec_len l.fn.index;
  capacity : vec_capacity l.index ≡ vec_capacity l.fn.index;
}
