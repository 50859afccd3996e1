-- When a claim may join those that hold an entry, read off the entry.
use Rattle.std.specs.Prelude.{Bool, ◌&&◌, ◌||◌, Option, is_none}
use Rattle.std.specs.Ordering.{nat_cmp}
use Rattle.std.specs.FinSet as set
use Rattle.wave_base.specs.declared.numbers.Ticket.{Ticket}
use Rattle.context_queue.specs.Lines.{is_nobody}

-- not both a holder and tickets that only look
abbrev pub is_either : Option Ticket → set.FinSet nat_cmp → Bool
is_either holder peeks = is_none holder || is_nobody peeks

abbrev pub admits : Option Ticket → set.FinSet nat_cmp → Bool → Bool
admits holder peeks peek = is_none holder && (peek || is_nobody peeks)
