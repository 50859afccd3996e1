-- Of a worker that has a segment out nothing can be taken but what is of that segment's ticket.
use Rattle.std.proofs.Common.{◌≡◌, ◌&&◌, ◌==◌, inl, inr, ℕ, nat_lt, true, false, Some, None, refl, sym, ◌∙◌, ap, subst}
use Rattle.std.specs.Prelude.{is_none}
use Rattle.wave_base.specs.Paths.{path_eq}
use Rattle.wave_states.specs.Actors.{Actors}
use Rattle.wave_states.specs.States.{Hand, State}
use Rattle.wave_states.specs.Labels.{Act, Label, Admit, Queue, Grant, Visit, Start, Stop, Free, Pass, Land, Commit, is_local, path_of, ticket_of}
use Rattle.wave_states.specs.Steps.{Bench, Part, act_bench, admit, commit, part_of, step, stop, with_hand}
use Rattle.wave_theory.proofs.Basics.{and_first, bool_cases, clash, if_some, map_some, none_not, number_is}
use Rattle.wave_theory.proofs.Reading.{step_local}

module _ {A F R J : Type 0} (sys : Actors A F R J) where
  busy_bench : (a : Act) (host : ℕ) (x : Part A F R) (g : Hand A F) (y : Bench A F R) → act_bench sys a host x (Some g) ≡ Some y → g.ticket ≡ ticket_of a
  busy_bench (Stop t p) host x g y e = number_is g.ticket t (and_first (g.ticket == t) (path_eq g.path p) (if_some ((g.ticket == t) && path_eq g.path p) (with_hand None (stop sys p host g x)) y e).0)
  busy_bench (Start t p) host x g y e = absurd (none_not e)
  busy_bench (Admit t) host x g y e = absurd (none_not e)
  busy_bench (Commit t) host x g y e = absurd (none_not e)
  busy_bench (Queue t k p) host x g y e = absurd (none_not e)
  busy_bench (Grant t p) host x g y e = absurd (none_not e)
  busy_bench (Visit t k p) host x g y e = absurd (none_not e)
  busy_bench (Free t k p) host x g y e = absurd (none_not e)
  busy_bench (Pass t k p to) host x g y e = absurd (none_not e)
  busy_bench (Land t k p) host x g y e = absurd (none_not e)

  module _ (workers : ℕ) (s v : State A F R J) where
    -- an Admit or a Commit wants an idle worker
    idle_for : (w host : ℕ) (a : Act) → is_local a ≡ false → step sys workers s (record { worker = w; host = host; act = a }) ≡ Some v → is_none (s.hands w) ≡ true
    unfolding step
    idle_for w host (Admit t) n e = (if_some (is_none (s.hands w)) (admit sys s host t) v (if_some (nat_lt w workers) _ v e).1).0
    idle_for w host (Commit t) n e = (if_some (is_none (s.hands w)) (commit sys s host t) v (if_some (nat_lt w workers) _ v e).1).0
    idle_for w host (Queue t k p) n e = absurd (clash true refl n)
    idle_for w host (Grant t p) n e = absurd (clash true refl n)
    idle_for w host (Visit t k p) n e = absurd (clash true refl n)
    idle_for w host (Start t p) n e = absurd (clash true refl n)
    idle_for w host (Stop t p) n e = absurd (clash true refl n)
    idle_for w host (Free t k p) n e = absurd (clash true refl n)
    idle_for w host (Pass t k p to) n e = absurd (clash true refl n)
    idle_for w host (Land t k p) n e = absurd (clash true refl n)

    pub busy : (l : Label) (g : Hand A F) → s.hands l.worker ≡ Some g → step sys workers s l ≡ Some v → g.ticket ≡ ticket_of l.act
    busy l g there e = elim (bool_cases (is_local l.act)) [
      | inl i ↦ (let o = if_some (nat_lt l.worker workers) _ v (sym (step_local sys workers s l i) ∙ e) in
          let y = map_some _ (act_bench sys l.act l.host (part_of s (ticket_of l.act) (path_of l.act)) (s.hands l.worker)) v o.1 in
          busy_bench l.act l.host (part_of s (ticket_of l.act) (path_of l.act)) g y.0 (subst (λ z. act_bench sys l.act l.host (part_of s (ticket_of l.act) (path_of l.act)) z ≡ Some y.0) there y.1))
      | inr n ↦ absurd (clash (is_none (s.hands l.worker)) (idle_for l.worker l.host l.act n e) (ap is_none there))
    ]
