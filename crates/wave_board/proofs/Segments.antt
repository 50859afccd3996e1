-- Where an idle worker can take nothing and the run is not finished, a segment is out.
use Rattle.std.proofs.Common.{◌≡◌, ◌<◌, inl, inr, ℕ, Bool, true, false, List, [], ◌∷◌, is_some, Option, Some, None, refl, sym, ◌∙◌, subst}
use Rattle.std.specs.Prelude.{if◌then◌else◌, is_none, nat_lt, option_map}
use Rattle.wave_states.specs.Actors.{Actors}
use Rattle.wave_states.specs.Labels.{Act, Label, Admit, Queue, Grant, Visit, Start, Stop, Free, Pass, Land, Commit, is_stop, path_of, ticket_of}
use Rattle.wave_states.specs.States.{Hand, State}
use Rattle.wave_states.specs.Steps.{act_bench, admit, commit, part_of, step, step_by, with_bench}
use Rattle.wave_theory.specs.Listed.{IsIn}
use Rattle.wave_theory.proofs.Able.{if_can, map_can}
use Rattle.wave_theory.proofs.Basics.{clash, options}
use Rattle.wave_theory.proofs.Live.{less_is}

can_of : {X Y : Type 0} (f : X → Y) (o : Option X) → is_some (option_map f o) ≡ true → is_some o ≡ true
can_of f None e = e
can_of f (Some x) e = refl

can_if : {X : Type 0} (i : Bool) (o : Option X) → is_some (if i then o else None) ≡ true → is_some o ≡ true
can_if true o e = e
can_if false o e = absurd (clash false e refl)

module _ {A F R J : Type 0} (sys : Actors A F R J) (workers : ℕ) (s : State A F R J) where
  -- what a label finds of its hand
  abbrev benched : ℕ → ℕ → Act → Option (Hand A F) → Option (State A F R J)
  benched w h a o = option_map (with_bench s (ticket_of a) (path_of a) w) (act_bench sys a h (part_of s (ticket_of a) (path_of a)) o)

  taken_of : (v w h : ℕ) (a : Act) → s.hands v ≡ s.hands w → is_some (benched v h a (s.hands v)) ≡ true → is_some (benched w h a (s.hands w)) ≡ true
  taken_of v w h a same e = map_can (with_bench s (ticket_of a) (path_of a) w) _
      (subst (λ o. is_some (act_bench sys a h (part_of s (ticket_of a) (path_of a)) o) ≡ true) same (can_of (with_bench s (ticket_of a) (path_of a) v) _ e))

  -- what one idle worker can take another one can
  taken_too : (v w h : ℕ) (a : Act) → s.hands v ≡ s.hands w → is_some (step_by sys s v h a) ≡ true → is_some (step_by sys s w h a) ≡ true
  taken_too v w h (Admit t) same e = subst (λ o. is_some (if is_none o then admit sys s h t else None) ≡ true) same e
  taken_too v w h (Commit t) same e = subst (λ o. is_some (if is_none o then commit sys s h t else None) ≡ true) same e
  taken_too v w h (Queue t k p) same e = taken_of v w h (Queue t k p) same e
  taken_too v w h (Grant t p) same e = taken_of v w h (Grant t p) same e
  taken_too v w h (Visit t k p) same e = taken_of v w h (Visit t k p) same e
  taken_too v w h (Start t p) same e = taken_of v w h (Start t p) same e
  taken_too v w h (Stop t p) same e = taken_of v w h (Stop t p) same e
  taken_too v w h (Free t k p) same e = taken_of v w h (Free t k p) same e
  taken_too v w h (Pass t k p g) same e = taken_of v w h (Pass t k p g) same e
  taken_too v w h (Land t k p) same e = taken_of v w h (Land t k p) same e

  -- a Stop is of a segment that is out
  stops_out : (v h : ℕ) (a : Act) → is_stop a ≡ true → is_some (step_by sys s v h a) ≡ true → (hand : Hand A F) × (s.hands v ≡ Some hand)
  stops_out v h (Stop t p) n e = elim (options (s.hands v)) [
    | inl none ↦ absurd (clash false (subst (λ o. is_some (benched v h (Stop t p) o) ≡ true) none e) refl)
    | inr some ↦ some
  ]
  stops_out v h (Admit t) n e = absurd (clash false n refl)
  stops_out v h (Queue t k p) n e = absurd (clash false n refl)
  stops_out v h (Grant t p) n e = absurd (clash false n refl)
  stops_out v h (Visit t k p) n e = absurd (clash false n refl)
  stops_out v h (Start t p) n e = absurd (clash false n refl)
  stops_out v h (Free t k p) n e = absurd (clash false n refl)
  stops_out v h (Pass t k p g) n e = absurd (clash false n refl)
  stops_out v h (Land t k p) n e = absurd (clash false n refl)
  stops_out v h (Commit t) n e = absurd (clash false n refl)

  -- whoever has a segment out, or could take a label, keeps the run from being finished
  abbrev SomeOut : Type 0
  SomeOut = (v : ℕ) × (hand : Hand A F) × (s.hands v ≡ Some hand)

  module _ (w : ℕ) (own : w < workers) (idle : s.hands w ≡ None) (nothing : (l : Label) → l.worker ≡ w → step sys workers s l ≡ None) where
    pub not_enabled : (l : Label) → l.worker ≡ w → is_some (step sys workers s l) ≡ true → ⊥
    not_enabled l is e = clash false (subst (λ o. is_some o ≡ true) (nothing l is) e) refl

    out_by : (l : Label) → is_some (step sys workers s l) ≡ true → SomeOut
    unfolding step
    out_by l e =
        let b : is_some (step_by sys s l.worker l.host l.act) ≡ true = can_if (nat_lt l.worker workers) _ e in
        elim (options (s.hands l.worker)) [
          | inl none ↦ absurd (not_enabled (record { worker = w; host = l.host; act = l.act }) refl
              (if_can (nat_lt w workers) _ (less_is w workers own) (taken_too l.worker w l.host l.act (none ∙ sym idle) b)))
          | inr some ↦ (l.worker, some.0, some.1)
        ]

    -- of a list that has what is enabled, and is empty only at the end
    pub some_out : (ls : List Label) → ((l : Label) → IsIn ls l → is_some (step sys workers s l) ≡ true) → (ls ≡ [] → ⊥) → SomeOut
    some_out [] can over = absurd (over refl)
    some_out (l ∷ ls) can over = out_by l (can l (inl refl))
