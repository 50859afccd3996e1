use Rattle.std.proofs.Common.{◌≡◌, ◌+◌, ◌≤◌, ◌++◌, map, length, vec_len, vec_capacity}
use Rattle.std.specs.Vec.Iter.{into_iter_items}
use Rattle.std.specs.VecDeque.{deque_len, deque_capacity}
use Rattle.wave_base.specs.Fold.{tickets_from}
use Rattle.head_tickets.specs.Heads.{requests}
use Rattle.head_tickets.proofs.head.append.Given as goal

abbrev pub invariant-loop-call : goal.invariant-loop-call
invariant-loop-call l = record {
  calls : l.yielded ++ into_iter_items l.call-iterator ≡ l.fn.calls.items;
  ticket : l.ticket ≡ l.fn.next + length l.yielded;
  waiting : l.waiting.items ≡ l.fn.waiting.items ++ requests l.yielded;
  tickets : map (λ t. t.0) l.tickets.items ≡ map (λ t. t.0) l.fn.tickets.items ++ tickets_from l.fn.next (length l.yielded);
  room : deque_len l.waiting + length (into_iter_items l.call-iterator) ≤ deque_capacity l.waiting;
  answer : vec_len l.tickets + length (into_iter_items l.call-iterator) ≤ vec_capacity l.tickets;
  capacity : deque_capacity l.waiting ≡ deque_capacity l.fn.waiting;
}
