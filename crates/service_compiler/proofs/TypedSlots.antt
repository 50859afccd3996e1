-- The loops of a typed service with few locals have their slots.
use Rattle.std.proofs.Common.{◌≡◌, ℕ, ◌+◌, ◌<◌, ◌≤◌, ◌⊎◌, inl, inr, Bool, true, false, List, [], ◌∷◌, length, get_or, Option, Some, None, arith}
use Rattle.std.specs.Prelude.{All, slice_get}
use Rattle.std.proofs.lemmas.List.Elements.{All-nil, All-cons}
use Rattle.std.proofs.lemmas.Option.{slice_get_within, slice_get-get_or, slice_get_cases}
use Rattle.wave_base.specs.declared.limits.TheConstants.{LOCALS}
use Rattle.wave_base.specs.declared.shape.EventInfo.{EventInfo}
use Rattle.wave_base.specs.declared.shape.Shape.{Shape}
use Rattle.wave_base.specs.declared.value.Kind.{Kind}
use Rattle.wave_base.specs.declared.value.Kind.TheVariants as k
use Rattle.resolved_service.specs.declared.service.Event.{Event}
use Rattle.resolved_service.specs.declared.service.Last.{Last}
use Rattle.resolved_service.specs.declared.service.Method.{Method}
use Rattle.resolved_service.specs.declared.service.Phase.{Phase}
use Rattle.resolved_service.specs.declared.service.Resolved.{Resolved}
use Rattle.resolved_service.specs.Fits.{FitsService}
use Rattle.resolved_service.specs.Steps.{Step, SetLocal, SetField, PutLocal, PutField, CutLocal, CutField, If, While, For, Require, Send, Spawn, Do, Return, Finish, Steps, no_steps, step, Else, no_else, otherwise, steps_in, surely_ends}
use Rattle.code_scheme.specs.Typed.{Within, InMethod, InEvent, IsTypedStep, AreTyped, IsTypedElse, AreTypedPhases, IsTypedEvent, IsTyped}
use Rattle.service_compiler.specs.Slots.{HasSlots, HaveSlots, HasElseSlots, HasEventSlots, HasServiceSlots}

module _ (shape : Shape) (methods : List Method) (limit : ℕ) (locals : List Kind) (few : length locals ≤ LOCALS) where
  module _ (class : ℕ) (within : Within) where
    mutual
      step_slots : (s : Step) → IsTypedStep shape methods limit locals class within s → HasSlots s
      step_slots (SetLocal at slot e) h = tt
      step_slots (SetField at f e) h = tt
      step_slots (PutLocal at slot key e) h = tt
      step_slots (PutField at f key e) h = tt
      step_slots (CutLocal at slot key) h = tt
      step_slots (CutField at f key) h = tt
      step_slots (If at test body other) h = (steps_slots body h.1, else_slots other h.2)
      step_slots (While at test body) h = steps_slots body h.1
      step_slots (For at counter from to body) h = let name = slice_get_within locals (counter + 2) k.Int h.2 in (omega (arith, name, few), steps_slots body h.5)
      step_slots (Require at test) h = tt
      step_slots (Send at label e) h = tt
      step_slots (Spawn at event args) h = tt
      step_slots (Do at e) h = tt
      step_slots (Return at e) h = tt
      step_slots (Finish at e) h = tt

      pub steps_slots : (ss : Steps) → AreTyped shape methods limit locals class within ss → HaveSlots ss
      steps_slots no_steps h = tt
      steps_slots (step s ss) h = (step_slots s h.0, steps_slots ss h.1)

      else_slots : (other : Else) → IsTypedElse shape methods limit locals class within other → HasElseSlots other
      else_slots no_else h = tt
      else_slots (otherwise ss) h = steps_slots ss h

  pub phases_slots : (class : ℕ) (ended : Bool) (fs : List Phase) (reply : Option Kind) (last : Option Last) → AreTypedPhases shape methods limit locals class ended fs reply last → All (λ (f : Phase). HaveSlots (steps_in f.body)) fs
  phases_slots class ended [] reply last h = All-nil (λ (f : Phase). HaveSlots (steps_in f.body))
  phases_slots class true (f ∷ fs) reply last h = absurd h
  phases_slots class false (f ∷ fs) reply last h =
      All-cons (λ (f : Phase). HaveSlots (steps_in f.body)) f fs (steps_slots f.class.0 (InEvent reply) (steps_in f.body) h.2) (phases_slots f.class.0 (surely_ends (steps_in f.body)) fs reply last h.3)

event_slots : (shape : Shape) (methods : List Method) (info : EventInfo) (e : Event) → length e.locals ≤ LOCALS → IsTypedEvent shape methods info e → HasEventSlots e
event_slots shape methods info e few typed = record {
  here = steps_slots shape methods (length methods) e.locals few 0 (InEvent info.reply) (steps_in e.here) typed.here;
  phases = phases_slots shape methods (length methods) e.locals few 0 (surely_ends (steps_in e.here)) e.phases info.reply e.last typed.phases;
}

pub typed_slots : (shape : Shape) (service : Resolved) → IsTyped shape service → FitsService shape service → HasServiceSlots service
typed_slots shape service typed fits = record {
  methods = λ n m lt.
      let one = get_or service.methods n m in
      steps_slots shape service.methods n one.locals (fits.methods n m lt).few_locals one.class.0 (InMethod one.result) (steps_in one.body) (typed.methods n one (slice_get-get_or service.methods n m lt)).body;
  events = λ n e lt.
      let one = get_or service.events n e in
      by n one (slice_get-get_or service.events n e lt) (fits.events n e lt).few_locals lt (slice_get_cases shape.events n).1;
}
  where
    by : (n : ℕ) (e : Event) → slice_get service.events n ≡ Some e → length e.locals ≤ LOCALS → n < length service.events
        → ((info : EventInfo) × (n < length shape.events) × (slice_get shape.events n ≡ Some info) × (get_or shape.events n info ≡ info)) ⊎ ((length shape.events ≤ n) × (slice_get shape.events n ≡ None)) → HasEventSlots e
    by n e there few lt (inl at) = event_slots shape service.methods at.0 e few (typed.events n at.0 e at.2 there)
    by n e there few lt (inr none) = let count = typed.count in let past = none.0 in absurd (omega (arith, lt, count, past))
