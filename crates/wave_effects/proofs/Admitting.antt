-- An Admit: what the machine keeps after it stands for the state that the theory has after it.
use Rattle.std.proofs.Common.{◌≡◌, ◌∙◌, ◌⊎◌, inl, inr, ℕ, ◌+◌, ◌<◌, Bool, true, false, List, [], ◌∷◌, ◌++◌, length, map, Option, Some, None, refl, sym, ap, subst, cond, arith}
use Rattle.std.specs.Prelude.{nat_eq, slice_get, take}
use Rattle.std.proofs.lemmas.List.{length-append, map-append}
use Rattle.std.proofs.lemmas.Option.{slice_get_within}
use Rattle.std.proofs.Math.Seq.{take-append_seam}
use Rattle.wave_base.specs.declared.script.Line.{Line}
use Rattle.wave_base.specs.Fold.{Head}
use Rattle.wave_effects.specs.Kinds.{job_kind}
use Rattle.head_tickets.specs.Heads.{Heading, head_of, next_line}
use Rattle.event_cells.specs.declared.cell.Cell.{Cell}
use Rattle.event_cells.specs.declared.cell.JobKind.{JobKind}
use Rattle.event_cells.specs.Cells.{first_desk}
use Rattle.wave_states.specs.States as theory
use Rattle.wave_states.specs.States.{Enter, set}
use Rattle.wave_states.specs.Steps.{after_admit, new_cell}
use Rattle.wave_theory.proofs.Basics.{number_is, set_apart, set_at}
use Rattle.plan_actors.specs.PlanActors as actors
use Rattle.plan_actors.specs.PlanActors.{plan_actors}
use Rattle.service_code.specs.declared.program.Program.{Program}
use Rattle.wave_effects.specs.declared.actor.Actor.{Actor}
use Rattle.wave_effects.specs.Actors.{IsActor, actor_of, peeks_now}
use Rattle.wave_effects.specs.Heading.{IsMade}
use Rattle.wave_effects.specs.Machines.{TheState, Kept, IsCell, Shows}
use Rattle.wave_effects.proofs.Pushing.{at_push}

abbrev pub with_admitted : Kept → Heading → JobKind → Cell Actor → Kept
with_admitted m head kind c = record {
  plan = m.plan;
  first = m.first;
  head = head;
  commits = m.commits;
  settled = record { kinds = m.settled.kinds ++ kind ∷ []; results = m.settled.results };
  cells = m.cells ++ c ∷ [];
  stores = m.stores;
  hands = m.hands;
}

-- the line is admitted
pub record TakesLine (h h' : Heading) (line : Line) : Type 0 where
  pub line_is : next_line h ≡ Some line
  pub fold : (admitted : List Line) → head_of (admitted ++ line ∷ []) h' ≡ head_of admitted h
  pub first : h'.first ≡ h.first
  pub admitted : h'.admitted ≡ h.admitted + 1
  pub done : h'.done ≡ h.done

nothing_is : {X : Type 0} (o : Option X) (x : X) → o ≡ None → o ≡ Some x → ⊥
nothing_is o x a b = cc

-- the cell of a new job stands for the one that the theory makes
pub new_is : (program : Program) (line : Line) (t : ℕ) (c : Cell Actor) → IsMade program line t c → IsCell program c (new_cell (plan_actors program) (actors.actor_of program line t) t)
new_is program line t c made =
    let b : actors.Actor = actors.actor_of program line t in
    record {
      desk = first_desk made.actor t (peeks_now made.actor);
      stands = made.desk;
      event = ap (λ (a : actors.Actor). Some (record { actor = Some a; held = []; sent = 1; status = theory.Travelling })) made.made.same;
      mails = λ k. ap (λ p. set nat_eq (λ j. None) 1 (Some (record { host = 0; path = []; letter = Enter (record { number = t; followed = 0; peek = p }) })) k) (sym made.made.peeks);
      marked = λ a is. by_actor a (same_actor a made.actor c.actor is made.there);
    }
  where
    same_actor : (a b : Actor) (o : Option Actor) → o ≡ Some a → o ≡ Some b → b ≡ a
    same_actor a b o e f = cc

    by_actor : (a : Actor) → made.actor ≡ a → IsActor program a (actor_of a)
    by_actor a e = subst (λ z. IsActor program z (actor_of z)) e (subst (IsActor program made.actor) made.made.same made.made)

module _ (m : Kept) (s : TheState) (h : Shows m s) (t : ℕ) (line : Line) (c : Cell Actor) (head : Heading) (kind : JobKind) (at : t ≡ m.first + m.head.admitted) (fresh : (s.cells t).result ≡ None) (takes : TakesLine m.head head line) (named : kind ≡ job_kind line) (made : IsMade m.plan.program line t c) where
  abbrev pub after : TheState
  after = after_admit (plan_actors m.plan.program) s t line

  there : (u : ℕ) → (t ≡ u → ⊥) → s.cells u ≡ set nat_eq s.cells t (new_cell (plan_actors m.plan.program) (actors.actor_of m.plan.program line t) t) u
  there u n = sym (set_apart nat_eq s.cells t u _ number_is n)

  each_cell : (i : ℕ) (d : Cell Actor) → slice_get (m.cells ++ c ∷ []) i ≡ Some d → IsCell m.plan.program d (set nat_eq s.cells t (new_cell (plan_actors m.plan.program) (actors.actor_of m.plan.program line t) t) (m.first + i))
  each_cell i d e = by_place (at_push m.cells c i d e)
    where
      by_place : (slice_get m.cells i ≡ Some d) ⊎ ((i ≡ length m.cells) × (d ≡ c)) → IsCell m.plan.program d (set nat_eq s.cells t (new_cell (plan_actors m.plan.program) (actors.actor_of m.plan.program line t) t) (m.first + i))
      by_place (inl old) =
          let within : i < length m.cells = slice_get_within m.cells i d old in
          let many = h.cells.as_many in
          subst (IsCell m.plan.program d) (there (m.first + i) (λ k. omega (arith, k, at, within, many))) (h.cells.each i d old)
      by_place (inr new) =
          let many = h.cells.as_many in
          let place : t ≡ m.first + i = omega (arith, at, many, new.0) in
          subst (λ z. IsCell m.plan.program z (set nat_eq s.cells t (new_cell (plan_actors m.plan.program) (actors.actor_of m.plan.program line t) t) (m.first + i))) (sym new.1)
          (subst (λ n. IsCell m.plan.program c (set nat_eq s.cells t (new_cell (plan_actors m.plan.program) (actors.actor_of m.plan.program line t) t) n)) place
          (subst (IsCell m.plan.program c) (sym (set_at s.cells t (new_cell (plan_actors m.plan.program) (actors.actor_of m.plan.program line t) t))) (new_is m.plan.program line t c made)))

  -- results are as they were
  same_result : (u : ℕ) → (set nat_eq s.cells t (new_cell (plan_actors m.plan.program) (actors.actor_of m.plan.program line t) t) u).result ≡ (s.cells u).result
  same_result u = by_test (nat_eq t u) refl
    where
      by_test : (b : Bool) → nat_eq t u ≡ b → (cond b (new_cell (plan_actors m.plan.program) (actors.actor_of m.plan.program line t) t) (s.cells u)).result ≡ (s.cells u).result
      by_test true e = sym (ap (λ n. (s.cells n).result) (sym (number_is t u e)) ∙ fresh)
      by_test false e = refl

  known_is : s.head.known ≡ h.head.lines ++ m.head.waiting
  known_is = ap (λ (z : Head Line). z.known) h.head.head

  kinds_is : m.settled.kinds ++ kind ∷ [] ≡ map job_kind (take head.admitted s.head.known)
  kinds_is =
      let lines = h.head.lines in
      let many : head.admitted ≡ length (lines ++ line ∷ []) = omega (arith, takes.admitted, h.head.as_many, length-append lines (line ∷ [])) in
      let old : m.settled.kinds ≡ map job_kind lines = h.results.ledger.kinds ∙ ap (λ xs. map job_kind (take m.head.admitted xs)) known_is ∙ ap (λ n. map job_kind (take n (lines ++ m.head.waiting))) (sym h.head.as_many) ∙ ap (map job_kind) (take-append_seam lines m.head.waiting) in
      let now : s.head.known ≡ (lines ++ line ∷ []) ++ head.waiting = ap (λ (z : Head Line). z.known) (h.head.head ∙ sym (takes.fold lines)) in
      let first : take head.admitted s.head.known ≡ lines ++ line ∷ [] = ap (λ xs. take head.admitted xs) now ∙ ap (λ n. take n ((lines ++ line ∷ []) ++ head.waiting)) many ∙ take-append_seam (lines ++ line ∷ []) head.waiting in
      ap (λ xs. xs ++ kind ∷ []) old ∙ ap (λ n. map job_kind lines ++ n ∷ []) named ∙ sym (map-append job_kind lines (line ∷ [])) ∙ ap (map job_kind) (sym first)

  pub admitted_shows : Shows (with_admitted m head kind c) after
  admitted_shows = record {
    head = record {
      lines = h.head.lines ++ line ∷ [];
      as_many = omega (arith, takes.admitted, h.head.as_many, length-append h.head.lines (line ∷ []));
      head = h.head.head ∙ sym (takes.fold h.head.lines);
      admitted = omega (arith, takes.admitted, h.head.admitted);
      before = h.head.before;
      first = takes.first ∙ h.head.first;
    };
    cells = record {
      as_many = omega (arith, takes.admitted, h.cells.as_many, length-append m.cells (c ∷ []));
      each = each_cell;
    };
    results = record {
      as_many = h.results.as_many ∙ sym takes.done;
      next = h.results.next ∙ ap (λ n. m.first + n) (sym takes.done);
      settled = λ i x e. same_result (m.first + i) ∙ h.results.settled i x e;
      ended = λ u l. same_result u ∙ h.results.ended u l;
      ledger = record { kinds = kinds_is; head = h.results.ledger.head; made = h.results.ledger.made };
    };
    stores = record { as_many = h.stores.as_many; each = h.stores.each };
    hands = record { as_many = h.hands.as_many; each = h.hands.each };
  }
