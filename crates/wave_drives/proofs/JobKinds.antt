-- Which tickets are moves: what is kept tells it of each ticket whose label is enabled.
use Rattle.std.proofs.Common.{◌≡◌, ◌∙◌, ◌⊎◌, inl, inr, ℕ, zero, suc, ◌+◌, ◌-◌, ◌<◌, ◌≤◌, ◌&&◌, ◌==◌, Bool, true, false, cond, List, [], ◌∷◌, ◌++◌, length, map, take, is_some, is_none, Option, Some, None, refl, sym, ap, subst, arith, length-append}
use Rattle.std.specs.Prelude.{filter, nat_lt, if◌then◌else◌, option_and_then, slice_get}
use Rattle.std.proofs.lemmas.Bool.{cases_lt}
use Rattle.std.proofs.lemmas.List.{length-map, length-take-le}
use Rattle.wave_base.specs.declared.outcome.EventResult.{EventResult}
use Rattle.wave_base.specs.declared.script.Line.{Line}
use Rattle.wave_base.specs.declared.start.Start.{Start}
use Rattle.wave_base.specs.Fold.{Head}
use Rattle.wave_base.specs.Paths.{path_eq}
use Rattle.event_cells.specs.declared.cell.JobKind.{JobKind}
use Rattle.head_tickets.specs.Heads.{next_line}
use Rattle.wave_states.specs.Actors.{Actors}
use Rattle.wave_states.specs.Canonical.{enabled_labels}
use Rattle.wave_theory.specs.Listed.{IsIn, Listed}
use Rattle.plan_actors.specs.Plans.{begin_in}
use Rattle.wave_states.specs.Labels.{Act, Label, Admit, Queue, Grant, Visit, Start as Begin, Stop, Free, Pass, Land, Commit, ticket_of, path_of, is_local}
use Rattle.wave_states.specs.Runs.{first_of, job_is, movers, or_else}
use Rattle.wave_states.specs.States.{Cell, Column, Entry, Hand}
use Rattle.wave_states.specs.Steps.{act_bench, admit, after_admit, commit, after_commit, next_ticket, only_if, step, stop, with_hand}
use Rattle.wave_theory.proofs.Basics.{and_second, if_some, none_not, number_is, only_some, some_not, then_some}
use Rattle.wave_theory.proofs.Frames.{option_some}
use Rattle.code_actor.specs.CodeActors.{Fields}
use Rattle.plan_actors.specs.PlanActors as actors
use Rattle.plan_actors.specs.PlanActors.{plan_actors, plan_kind}
use Rattle.wave_effects.specs.Kinds.{is_move, job_kind}
use Rattle.wave_effects.specs.Machines.{Kept, Known, Stands, TheState}
use Rattle.wave_machine.specs.Movers.{line_moves, moves_by, moves_in}
use Rattle.wave_drives.specs.inner.Moving.{first_move}
use Rattle.wave_effects.proofs.Opening.{left_by}
use Rattle.wave_effects.proofs.Taking.{Laws, now}

abbrev line_is_move : Line → Bool
line_is_move line = is_move (job_kind line)

-- elements of the front of a list
in_front : (n : ℕ) (xs : List Line) (i : ℕ) (k : JobKind) → slice_get (map job_kind (take n xs)) i ≡ Some k → job_is line_is_move (slice_get xs i) ≡ is_move k
in_front zero xs i k e = absurd (nothing i e)
  where
    nothing : (i : ℕ) → slice_get [] i ≡ Some k → ⊥
    nothing zero e = none_not e
    nothing (suc i) e = none_not e
in_front (suc n) [] i k e = absurd (nothing i e)
  where
    nothing : (i : ℕ) → slice_get [] i ≡ Some k → ⊥
    nothing zero e = none_not e
    nothing (suc i) e = none_not e
in_front (suc n) (x ∷ xs) zero k e = same (job_kind x) k e
  where
    same : (a b : JobKind) → Some a ≡ Some b → is_move a ≡ is_move b
    same a b e = cc
in_front (suc n) (x ∷ xs) (suc i) k e = in_front n xs i k e

filter_on : {X : Type 0} (p q : X → Bool) (xs : List X) → ((x : X) → IsIn xs x → p x ≡ q x) → filter p xs ≡ filter q xs
filter_on p q [] h = refl
filter_on p q (x ∷ xs) h = λ i. cond (h x (inl refl) i) (x ∷ filter_on p q xs (λ y k. h y (inr k)) i) (filter_on p q xs (λ y k. h y (inr k)) i)

past_all : {X : Type 0} (xs : List X) (i : ℕ) → slice_get xs i ≡ None → length xs ≤ i
past_all [] i e = omega arith
past_all (x ∷ xs) zero e = absurd (some_not e)
past_all (x ∷ xs) (suc i) e = let l = past_all xs i e in omega (arith, l)

after_all : {X : Type 0} (xs ys : List X) → slice_get (xs ++ ys) (length xs) ≡ slice_get ys 0
after_all [] ys = refl
after_all (x ∷ xs) ys = after_all xs ys

as_many : (n : ℕ) (xs : List Line) → n ≤ length xs → length (map job_kind (take n xs)) ≡ n
as_many n xs l = length-map (take n xs) job_kind ∙ length-take-le n xs l

-- no label of one context is of a ticket that has nothing
module _ {A F R J : Type 0} (sys : Actors A F R J) where
  abbrev nothing_yet : Cell A F R
  nothing_yet = record { event = None; mails = λ k. None; result = None }

  none_of_it : (a : Act) (host : ℕ) (c : Column F) (o : Option (Hand A F)) → act_bench sys a host (record { cell = nothing_yet; column = c }) o ≡ None
  none_of_it (Admit t) host c None = refl
  none_of_it (Admit t) host c (Some g) = refl
  none_of_it (Commit t) host c None = refl
  none_of_it (Commit t) host c (Some g) = refl
  none_of_it (Queue t k p) host c None = refl
  none_of_it (Queue t k p) host c (Some g) = refl
  none_of_it (Grant t p) host c None = refl
  none_of_it (Grant t p) host c (Some g) = refl
  none_of_it (Visit t k p) host c None = refl
  none_of_it (Visit t k p) host c (Some g) = refl
  none_of_it (Begin t p) host c None = refl
  none_of_it (Begin t p) host c (Some g) = refl
  none_of_it (Stop t p) host c None = refl
  none_of_it (Stop t p) host c (Some g) = by_test ((g.ticket == t) && path_eq g.path p)
    where
      by_test : (b : Bool) → (if b then with_hand None (stop sys p host g (record { cell = nothing_yet; column = c })) else None) ≡ None
      by_test true = refl
      by_test false = refl
  none_of_it (Free t k p) host c None = by_store (c.store host)
    where
      by_store : (o : Option (Entry F)) → with_hand {A = A} {F = F} {R = R} None (option_and_then (λ en. None) o) ≡ None
      by_store None = refl
      by_store (Some en) = refl
  none_of_it (Free t k p) host c (Some g) = refl
  none_of_it (Pass t k p to) host c None = refl
  none_of_it (Pass t k p to) host c (Some g) = refl
  none_of_it (Land t k p) host c None = refl
  none_of_it (Land t k p) host c (Some g) = refl

module _ (laws : Laws) (m : Kept) (start : Start) (s : TheState) (stands : Stands m start s) where
  abbrev sys : Actors actors.Actor Fields EventResult Line
  sys = plan_actors m.plan.program

  known : Known m.plan start s
  known = now laws m start s stands

  -- a ticket that has something was admitted
  has_some : (t : ℕ) → (s.cells t ≡ nothing_yet sys → ⊥) → t ≤ next_ticket s
  has_some t some = by_place (cases_lt (s.before + s.admitted) t)
    where
      by_place : (s.before + s.admitted < t) ⊎ (t ≤ s.before + s.admitted) → t ≤ next_ticket s
      by_place (inl past) = absurd (some (known.bounds.cells t (λ low high. omega (arith, past, high))))
      by_place (inr within) = omega (arith, within)

  local_within : (l : Label) → is_local l.act ≡ true → is_some (step sys m.plan.workers s l) ≡ true → ticket_of l.act ≤ next_ticket s
  local_within l z can =
      let v = option_some (step sys m.plan.workers s l) can in
      let left = left_by sys m.plan.workers s v.0 l z v.1 in
      has_some (ticket_of l.act) (λ e. none_not (sym (ap (λ c. act_bench sys l.act l.host (record { cell = c; column = s.columns (path_of l.act) }) (s.hands l.worker)) e ∙ none_of_it sys l.act l.host (s.columns (path_of l.act)) (s.hands l.worker)) ∙ left.found))

  -- the ticket of a label that is enabled was admitted, or is the next
  pub within_next : (w host : ℕ) (a : Act) → is_some (step sys m.plan.workers s (record { worker = w; host = host; act = a })) ≡ true → ticket_of a ≤ next_ticket s
  unfolding step
  within_next w host (Admit t) can =
      let v = option_some (step sys m.plan.workers s (record { worker = w; host = host; act = Admit t })) can in
      let i = if_some (nat_lt w m.plan.workers) _ v.0 v.1 in
      let j = if_some (is_none (s.hands w)) (admit sys s host t) v.0 i.1 in
      let r = then_some (λ job. only_if ((host == 0) && (t == next_ticket s)) (after_admit sys s t job)) (slice_get s.head.known s.admitted) v.0 j.1 in
      let o = only_some ((host == 0) && (t == next_ticket s)) (after_admit sys s t r.0) v.0 r.2 in
      let e : t ≡ next_ticket s = number_is t (next_ticket s) (and_second (host == 0) (t == next_ticket s) o.0) in
      omega (arith, e)
  within_next w host (Commit t) can =
      let v = option_some (step sys m.plan.workers s (record { worker = w; host = host; act = Commit t })) can in
      let i = if_some (nat_lt w m.plan.workers) _ v.0 v.1 in
      let j = if_some (is_none (s.hands w)) (commit sys s host t) v.0 i.1 in
      let r = then_some (λ x. only_if ((host == 0) && (t == suc (s.before + s.head.done))) (after_commit sys s x)) (s.cells t).result v.0 j.1 in
      has_some t (λ e. none_not (sym (ap (λ (c : Cell actors.Actor Fields EventResult). c.result) e) ∙ r.1))
  within_next w host (Queue t k p) can = local_within (record { worker = w; host = host; act = Queue t k p }) refl can
  within_next w host (Grant t p) can = local_within (record { worker = w; host = host; act = Grant t p }) refl can
  within_next w host (Visit t k p) can = local_within (record { worker = w; host = host; act = Visit t k p }) refl can
  within_next w host (Begin t p) can = local_within (record { worker = w; host = host; act = Begin t p }) refl can
  within_next w host (Stop t p) can = local_within (record { worker = w; host = host; act = Stop t p }) refl can
  within_next w host (Free t k p) can = local_within (record { worker = w; host = host; act = Free t k p }) refl can
  within_next w host (Pass t k p to) can = local_within (record { worker = w; host = host; act = Pass t k p to }) refl can
  within_next w host (Land t k p) can = local_within (record { worker = w; host = host; act = Land t k p }) refl can

  pub moves_is : (t : ℕ) → t ≤ next_ticket s → moves_in m t ≡ job_is line_is_move (slice_get s.head.known (t - suc s.before))
  moves_is t l = by_kind (slice_get m.settled.kinds (t - m.first)) refl ∙ ap (λ n. job_is line_is_move (slice_get s.head.known (t - n))) (sym stands.shows.head.before)
    where
      by_kind : (o : Option JobKind) → slice_get m.settled.kinds (t - m.first) ≡ o → moves_by o (next_line m.head) ≡ job_is line_is_move (slice_get s.head.known (t - m.first))
      by_kind (Some k) e = sym (in_front m.head.admitted s.head.known (t - m.first) k (ap (λ ks. slice_get ks (t - m.first)) (sym stands.shows.results.ledger.kinds) ∙ e))
      by_kind None e =
          let h = stands.shows.head in
          let known_is : s.head.known ≡ h.lines ++ m.head.waiting = ap (λ (x : Head Line). x.known) h.head in
          let lines = h.as_many in
          let room : length s.head.known ≡ length h.lines + length m.head.waiting = ap length known_is ∙ length-append h.lines m.head.waiting in
          let enough : m.head.admitted ≤ length s.head.known = omega (arith, lines, room) in
          let kinds : length m.settled.kinds ≡ m.head.admitted = ap length stands.shows.results.ledger.kinds ∙ as_many m.head.admitted s.head.known enough in
          let past = past_all m.settled.kinds (t - m.first) e in
          let before = h.before in
          let count = h.admitted in
          let place : t - m.first ≡ length h.lines = omega (arith, lines, kinds, past, before, count, l) in
          ap line_moves (sym (after_all h.lines m.head.waiting)) ∙ sym (ap (λ n. job_is line_is_move (slice_get s.head.known n)) place ∙ ap (λ ks. job_is line_is_move (slice_get ks (length h.lines))) known_is ∙ same (slice_get (h.lines ++ m.head.waiting) (length h.lines)))
        where
          same : (o : Option Line) → job_is line_is_move o ≡ line_moves o
          same None = refl
          same (Some x) = refl

  -- so the rule that picks moves first picks what is kept as one
  pub movers_is : Listed (plan_kind m.plan.program m.plan.script.hosts) m.plan.workers (begin_in m.plan start) m.plan.script.batches s → (ls : List Label) → ls ≡ enabled_labels sys m.plan.workers m.plan.script.hosts s → (x : ℕ) → movers line_is_move x s ls ≡ (x, first_move m ls)
  movers_is listed ls same x = ap (λ fs. (x, or_else (first_of fs) (first_of ls))) (filter_on (λ (l : Label). job_is line_is_move (slice_get s.head.known (ticket_of l.act - suc s.before))) (λ l. moves_in m (ticket_of l.act)) ls
      (λ l i. sym (moves_is (ticket_of l.act) (within_next l.worker l.host l.act ((listed l).0 (subst (λ r. IsIn r l) same i)).0))))
