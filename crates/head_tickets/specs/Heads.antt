-- Tickets of jobs: what a head keeps, and which head of the fold it stands for.
use Rattle.std.specs.Prelude.{◌+◌, ◌-◌, ℕ, List, ◌++◌, length, map, sum_by, Option, option_map, slice_get}
use Rattle.wave_base.specs.declared.call.Call.{Call}
use Rattle.wave_base.specs.declared.numbers.Ticket.{Ticket}
use Rattle.wave_base.specs.declared.script.Line.{Line}
use Rattle.wave_base.specs.declared.script.Line.TheVariants.{Request, Move, Snapshot}
use Rattle.wave_base.specs.Fold.{Head}
use Rattle.head_tickets.specs.declared.job.Job.{Job}
use Rattle.head_tickets.specs.declared.job.Job.TheVariants as j

-- the first ticket of all; how many jobs were admitted; those that are known besides, in the order of their tickets; the
-- batches that have not begun; how many jobs are done; and for how many created calls there is room
pub record Heading : Type 0 where
  pub first : ℕ
  pub admitted : ℕ
  pub waiting : List Line
  pub later : List (List Line)
  pub done : ℕ
  pub room : ℕ

-- the fold's head, where these jobs were admitted; but here the next batch begins only when it is told to
abbrev pub head_of : List Line → Heading → Head Line
head_of admitted h = record { known = admitted ++ h.waiting; later = h.later; done = h.done }

-- the job that is admitted next
abbrev pub next_line : Heading → Option Line
next_line h = slice_get h.waiting 0

-- and its ticket
abbrev pub next_ticket : Heading → Option Ticket
next_ticket h = option_map (λ _. record { 0 = h.first + h.admitted }) (next_line h)

-- the last ticket that a known job has, or the one before the first
abbrev pub last_known : Heading → ℕ
last_known h = h.first + h.admitted + length h.waiting - 1

-- the lines of batches
abbrev pub line_count : List (List Line) → ℕ
line_count batches = sum_by length batches

-- a job as the line that asks for it
abbrev pub line_of : Job → Line
line_of (j.Event call) = Request call
line_of (j.Move path to) = Move path to
line_of j.Snapshot = Snapshot

-- created calls as jobs of the fold
abbrev pub requests : List Call → List Line
requests calls = map (λ c. Request c) calls
