-- A Commit: what the machine keeps after it stands for the state that the theory has after it.
use Rattle.std.proofs.Common.{◌≡◌, ◌∙◌, ◌⊎◌, inl, inr, ℕ, suc, ◌+◌, ◌<◌, List, [], ◌∷◌, ◌++◌, length, map, Some, refl, sym, ap, arith}
use Rattle.std.specs.FinMap as table
use Rattle.std.specs.Ordering.{nat_cmp}
use Rattle.std.specs.Prelude.{slice_get, take}
use Rattle.std.proofs.lemmas.Grind.{common_steps}
use Rattle.std.proofs.lemmas.List.{length-append, map-append}
use Rattle.std.proofs.Math.Seq.{take-append_seam}
use Rattle.wave_base.specs.declared.outcome.EventResult.{EventResult}
use Rattle.wave_base.specs.declared.numbers.Ticket.{Ticket}
use Rattle.wave_base.specs.declared.script.Line.{Line}
use Rattle.wave_base.specs.Fold.{Head, created_lines, first_head, head_after, created_tickets, tickets_of, with_done}
use Rattle.wave_effects.specs.Kinds.{job_kind}
use Rattle.script_fold.specs.Runs.{ticket_of}
use Rattle.script_fold.proofs.LeftLemmas.{head_push}
use Rattle.head_tickets.specs.Heads.{Heading, head_of}
use Rattle.commit_order.specs.Commits.{Committing, ready_result}
use Rattle.wave_states.specs.Steps.{after_commit}
use Rattle.plan_actors.specs.PlanActors.{plan_actors}
use Rattle.wave_effects.specs.declared.kept.Settled.{Settled}
use Rattle.wave_effects.specs.Machines.{TheState, Kept, Shows, created_in}
use Rattle.wave_effects.proofs.Pushing.{at_push, made_push, tickets_back}

abbrev pub with_committed : Kept → Heading → Committing → Settled → Kept
with_committed m head commits x = record {
  plan = m.plan;
  first = m.first;
  head = head;
  commits = commits;
  settled = record { kinds = m.settled.kinds; results = m.settled.results ++ x ∷ [] };
  cells = m.cells;
  stores = m.stores;
  hands = m.hands;
}

-- the next result leaves those that wait
pub record TakesResult (c c' : Committing) (r : EventResult) : Type 0 where
  pub result_is : ready_result c ≡ Some r
  pub committed : c'.committed ≡ c.committed + 1
  pub results : c'.results ≡ table.remove c.results (c.committed + 1)

-- a job is done, and creates these
pub record DoesOne (h h' : Heading) (created : List Line) : Type 0 where
  pub fold : (admitted : List Line) → length admitted ≡ h.admitted → head_of admitted h' ≡ with_done (head_of admitted h) created
  pub first : h'.first ≡ h.first
  pub admitted : h'.admitted ≡ h.admitted
  pub done : h'.done ≡ h.done + 1

removed : (m : table.FinMap nat_cmp EventResult) (k u : ℕ) → k < u → table.get (table.remove m k) u ≡ table.get m u
removed m k u l = grind (arith, common_steps, table.gets)

module _ (m : Kept) (s : TheState) (h : Shows m s) (r : EventResult) (x : Settled) (head : Heading) (commits : Committing) (is : (s.cells (m.first + m.head.done)).result ≡ Some r) (takes : TakesResult m.commits commits r) (does : DoesOne m.head head (created_lines r)) (result : x.result ≡ r)
    (tickets : (admitted : List Line) → length admitted ≡ m.head.admitted → map (λ t. t.0) x.made ≡ tickets_of m.head.first (head_of admitted m.head) (created_lines r)) where
  abbrev pub after : TheState
  after = after_commit (plan_actors m.plan.program) s r

  head_is : with_done s.head (created_lines r) ≡ head_of h.head.lines head
  head_is = ap (λ (z : Head Line). with_done z (created_lines r)) h.head.head ∙ sym (does.fold h.head.lines h.head.as_many)

  -- the admitted lines are the first of the known ones, as they were
  first_of : (z : Heading) → z.admitted ≡ m.head.admitted → (u : Head Line) → u ≡ head_of h.head.lines z → take z.admitted u.known ≡ h.head.lines
  first_of z n u e = ap (λ (v : Head Line). take z.admitted v.known) e ∙ ap (λ k. take k (h.head.lines ++ z.waiting)) (n ∙ sym h.head.as_many) ∙ take-append_seam h.head.lines z.waiting

  kinds_is : m.settled.kinds ≡ map job_kind (take head.admitted (with_done s.head (created_lines r)).known)
  kinds_is = h.results.ledger.kinds ∙ ap (map job_kind) (first_of m.head refl s.head h.head.head ∙ sym (first_of head does.admitted (with_done s.head (created_lines r)) head_is))

  created_is : created_in (m.settled.results ++ x ∷ []) ≡ created_in m.settled.results ++ created_lines r ∷ []
  created_is = map-append (λ y. created_lines y.result) m.settled.results (x ∷ []) ∙ ap (λ (z : EventResult). created_in m.settled.results ++ created_lines z ∷ []) result

  ledger_head : with_done s.head (created_lines r) ≡ head_after (first_head m.plan.script.batches) (created_in (m.settled.results ++ x ∷ []))
  ledger_head = ap (λ (z : Head Line). with_done z (created_lines r)) h.results.ledger.head ∙ sym (head_push (first_head m.plan.script.batches) (created_in m.settled.results) (created_lines r)) ∙ ap (head_after (first_head m.plan.script.batches)) (sym created_is)

  made_now : x.made ≡ map ticket_of (tickets_of m.first (head_after (first_head m.plan.script.batches) (created_in m.settled.results)) (created_lines r))
  made_now = sym (tickets_back x.made) ∙ ap (map ticket_of) (tickets h.head.lines h.head.as_many ∙ ap (λ n. tickets_of n (head_of h.head.lines m.head) (created_lines r)) h.head.first ∙ ap (λ (z : Head Line). tickets_of m.first z (created_lines r)) (sym h.head.head ∙ h.results.ledger.head))

  ledger_made : map (λ y. y.made) (m.settled.results ++ x ∷ []) ≡ map (map ticket_of) (created_tickets m.first (first_head m.plan.script.batches) (created_in (m.settled.results ++ x ∷ [])))
  ledger_made =
      let fh = first_head m.plan.script.batches in
      let cs = created_in m.settled.results in
      map-append (λ (y : Settled). y.made) m.settled.results (x ∷ [])
      ∙ ap (λ (ts : List (List Ticket)). ts ++ x.made ∷ []) h.results.ledger.made
      ∙ ap (λ (ts : List Ticket). map (map ticket_of) (created_tickets m.first fh cs) ++ ts ∷ []) made_now
      ∙ sym (map-append (map ticket_of) (created_tickets m.first fh cs) (tickets_of m.first (head_after fh cs) (created_lines r) ∷ []))
      ∙ ap (map (map ticket_of)) (sym (made_push m.first fh cs (created_lines r)))
      ∙ ap (λ ds. map (map ticket_of) (created_tickets m.first fh ds)) (sym created_is)

  each_result : (i : ℕ) (y : Settled) → slice_get (m.settled.results ++ x ∷ []) i ≡ Some y → (s.cells (m.first + i)).result ≡ Some y.result
  each_result i y e = by_place (at_push m.settled.results x i y e)
    where
      by_place : (slice_get m.settled.results i ≡ Some y) ⊎ ((i ≡ length m.settled.results) × (y ≡ x)) → (s.cells (m.first + i)).result ≡ Some y.result
      by_place (inl old) = h.results.settled i y old
      by_place (inr new) = ap (λ n. (s.cells (m.first + n)).result) (new.0 ∙ h.results.as_many) ∙ is ∙ ap Some (sym result ∙ ap (λ (z : Settled). z.result) (sym new.1))

  done_is : (with_done s.head (created_lines r)).done ≡ suc s.head.done
  done_is = ap (λ (z : Head Line). z.done) head_is ∙ does.done ∙ omega arith ∙ ap suc (ap (λ (z : Head Line). z.done) (sym h.head.head))

  pub committed_shows : Shows (with_committed m head commits x) after
  committed_shows = record {
    head = record {
      lines = h.head.lines;
      as_many = h.head.as_many ∙ sym does.admitted;
      head = head_is;
      admitted = h.head.admitted ∙ sym does.admitted;
      before = h.head.before;
      first = does.first ∙ h.head.first;
    };
    cells = record { as_many = h.cells.as_many ∙ sym does.admitted; each = h.cells.each };
    results = record {
      as_many = omega (arith, h.results.as_many, does.done, length-append m.settled.results (x ∷ []));
      next = omega (arith, h.results.next, takes.committed, does.done);
      settled = each_result;
      ended = λ u l. h.results.ended u (omega (arith, l, takes.committed)) ∙ sym (ap (λ z. table.get z u) takes.results ∙ removed m.commits.results (m.commits.committed + 1) u (omega (arith, l, takes.committed)));
      ledger = record { kinds = kinds_is; head = ledger_head; made = ledger_made };
    };
    stores = record { as_many = h.stores.as_many; each = h.stores.each };
    hands = record { as_many = h.hands.as_many; each = h.hands.each };
  }
