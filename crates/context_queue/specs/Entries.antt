-- How an entry stands for an entry of the machine's theory: its record, who holds it, what it served, and who waits.
use Rattle.std.specs.Prelude.{◌≡◌, ℕ, suc, ◌&&◌, ◌==◌, Bool, true, false, not, List, [], ◌∷◌, ◌++◌, map, Option, Some, None, option_map, is_some}
use Rattle.std.specs.List.{list_any}
use Rattle.std.specs.FinMap as table
use Rattle.std.specs.FinSet as set
use Rattle.wave_base.specs.declared.numbers.Ticket.{Ticket}
use Rattle.wave_base.specs.declared.path.Step.{Step}
use Rattle.wave_base.specs.declared.record.Record.{Record}
use Rattle.wave_base.specs.declared.value.Value.{Value}
use Rattle.wave_base.specs.Kids.{child_at}
use Rattle.context_queue.specs.declared.entry.Entry.{Entry}
use Rattle.context_queue.specs.declared.waiting.Claim.{Claim}
use Rattle.wave_states.specs.States as theory
use Rattle.wave_states.specs.Steps.{◌>>=◌, only_if, may_join, let_in}

-- the record and the claim that the theory has
abbrev pub record_of : Record → theory.Record (List Value)
record_of r = record { fields = r.fields; children = r.children }

abbrev pub claim_of : Claim → theory.Claim
claim_of c = record { ticket = c.ticket.0; peek = c.peek }

-- Is the ticket among those that hold alone, or among those that only look?
abbrev pub holds_alone : List theory.Claim → ℕ → Bool
holds_alone holders t = list_any (λ c. not c.peek && (c.ticket == t)) holders

abbrev pub holds_beside : List theory.Claim → ℕ → Bool
holds_beside holders t = list_any (λ c. c.peek && (c.ticket == t)) holders

abbrev pub is_holder : Option Ticket → ℕ → Bool
is_holder None t = false
is_holder (Some h) t = h.0 == t

-- it stands for an entry of the theory, up to the order of those that hold it
pub record StandsFor (e : Entry) (en : theory.Entry (List Value)) : Type 0 where
  pub body : en.body ≡ option_map record_of e.body
  pub alone : (t : ℕ) → holds_alone en.holders t ≡ is_holder e.holder t
  pub beside : (t : ℕ) → holds_beside en.holders t ≡ set.contains e.peeks.tickets t
  pub served : en.served ≡ e.served
  pub waiting : (n : ℕ) → en.waiting n ≡ option_map claim_of (table.get e.waiting.claims n)
  pub moves : en.moves ≡ e.moves

-- the one that it stands for where those that only look are in the order of their tickets
abbrev pub holder_claims : Option Ticket → List theory.Claim
holder_claims None = []
holder_claims (Some t) = record { ticket = t.0; peek = false } ∷ []

abbrev pub entry_of : Entry → theory.Entry (List Value)
entry_of e = record {
  body = option_map record_of e.body;
  holders = holder_claims e.holder ++ map (λ t. record { ticket = t; peek = true }) (set.items e.peeks.tickets);
  served = e.served;
  waiting = λ n. option_map claim_of (table.get e.waiting.claims n);
  moves = e.moves;
}

module _ {F : Type 0} where
  -- the claim that a Grant lets in: that under the next number, where it may join those that hold the context
  abbrev pub next_in : theory.Entry F → Option theory.Claim
  next_in en = do
    c ← en.waiting (suc en.served)
    only_if (may_join c.peek en.holders) c

  -- the entry once it is in, or as it was where there is none
  abbrev pub with_next : theory.Entry F → Option theory.Claim → theory.Entry F
  with_next en None = en
  with_next en (Some c) = let_in en c

  -- the same with these counts: how many tickets were let in, and how often the context moved
  abbrev pub with_counts : theory.Entry F → ℕ → ℕ → theory.Entry F
  with_counts en served moves = record { body = en.body; holders = en.holders; served = served; waiting = en.waiting; moves = moves }

-- the record is here, and has a child at the step
abbrev pub has_child : Option Record → Step → Bool
has_child None step = false
has_child (Some r) step = is_some (child_at r.children step)

-- the same but for the rooms
pub record SameButRooms (e f : Entry) : Type 0 where
  pub body : f.body ≡ e.body
  pub holder : f.holder ≡ e.holder
  pub peeks : f.peeks.tickets ≡ e.peeks.tickets
  pub served : f.served ≡ e.served
  pub waiting : f.waiting.claims ≡ e.waiting.claims
  pub moves : f.moves ≡ e.moves
