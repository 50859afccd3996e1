use Rattle.std.proofs.Common.{◌≡◌, refl, sym, ap, ◌∙◌}
use Rattle.wave_states.specs.Steps.{others}
use Rattle.context_queue.specs.inner.Admits.{is_either}
use Rattle.context_queue.proofs.Holding.{holds, held, let_go_to, without, without_holder, without_other, either_left}
use Rattle.context_queue.proofs.entry.Entry.free.Goals as goal
use Rattle.context_queue.proofs.entry.Entry.free.Goals.{then-is_held_by, else-is_held_by}

pub invariant_of-self : goal.invariant_of-self
invariant_of-self c = record {
  either = elim c.if-is_held_by.branch [
    | then-is_held_by w ↦ ap (λ o. is_either o c.leave.new.self.tickets) (ap (λ v. v.1.1.0) w.self-is)
    | else-is_held_by w ↦ (λ i. is_either (ap (λ v. v.1.1.0) w.self-is i) (c.leave.ensures.tickets i)) ∙ either_left c.args.self.now.holder c.args.self.now.peeks.tickets c.args.ticket.0 c.args.self.now.either
  ];
}

holder_is : (c : goal.After-self-1) → c.if-is_held_by.self.1.1.0 ≡ without c.args.self.now.holder c.args.ticket.0
holder_is c = elim c.if-is_held_by.branch [
  | then-is_held_by w ↦ ap (λ v. v.1.1.0) w.self-is ∙ without_holder c.args.self.now.holder c.args.ticket.0 (sym c.is_held_by.ensures ∙ w.if-is_held_by.true)
  | else-is_held_by w ↦ ap (λ v. v.1.1.0) w.self-is ∙ without_other c.args.self.now.holder c.args.ticket.0 (sym c.is_held_by.ensures ∙ w.if-is_held_by.false)
]

pub returns-clause-entry : goal.returns-clause-entry
returns-clause-entry c = λ en h.
    held c.args.self.now _ en h (others c.args.ticket.0 en.holders) refl refl refl refl
    (let_go_to c.args.self.now.holder c.args.self.now.peeks.tickets en.holders c.args.ticket.0 (holds c.args.self.now en h) c.if-is_held_by.self.1.1.0 c.leave.new.self.tickets (holder_is c) c.leave.ensures.tickets)
