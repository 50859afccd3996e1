-- How a head is kept.
use Rattle.std.specs.Prelude.{◌≡◌, ◌≤◌, ◌+◌, ◌-◌, ◌^◌, ℕ, [], length, sum_by, min, vec_capacity}
use Rattle.std.specs.VecDeque.{deque_len, deque_capacity}
use Rattle.head_tickets.specs.declared.head.Head.TheInside.{Inside}

-- created calls find room beside those that wait, and their tickets in the answer
abbrev pub room_of : Inside → ℕ
room_of a = min (deque_capacity a.waiting - deque_len a.waiting) (vec_capacity a.answer)

pub record IsHead (a : Inside) : Type 0 where
  pub first : 1 ≤ a.first
  pub done : a.done ≤ a.admitted
  pub answer : a.answer.items ≡ []
  pub tickets : a.first + a.admitted + length a.waiting.items + sum_by length a.later.items ≤ 2 ^ 32
