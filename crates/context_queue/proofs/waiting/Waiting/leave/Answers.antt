use Rattle.std.proofs.Common.{sym, ap, ◌∙◌}
use Rattle.std.specs.Ordering.{nat_cmp}
use Rattle.std.specs.FinMap as table
use Rattle.context_queue.specs.inner.Kept.{line_in}
use Rattle.context_queue.proofs.QueueMaps.{is_other, is_own, removed, none_removed, one_removed, other_removed}
use Rattle.context_queue.proofs.waiting.Waiting.leave.Goals.{in-Many-1, in-Nobody-1}
use Rattle.context_queue.proofs.waiting.Waiting.leave.Goals as goal

pub returns-in-Nobody-clause-claims : goal.returns-in-Nobody-clause-claims
returns-in-Nobody-clause-claims c =
    ap (λ o. (line_in o).claims) c.in-Nobody.is ∙ none_removed c.args.number ∙ ap (λ v. table.remove v.claims c.args.number) (ap line_in (sym c.in-Nobody.is) ∙ c.self.view_is)

pub returns-then-number-own-clause-claims : goal.returns-then-number-own-clause-claims
returns-then-number-own-clause-claims c =
    let n = c.args.number in
    let gone = one_removed n c.in-One.own c.in-One.field-1 (is_own n c.in-One.own c.if-number-own.true) ∙ ap (λ v. table.remove v.claims n) (ap line_in (sym c.in-One.is) ∙ c.self.view_is) in
    elim c.match-self-2.branch [
      | in-Many-1 w ↦ ap (λ v. v.claims) w.self-is ∙ gone
      | in-Nobody-1 w ↦ ap (λ v. v.claims) w.self-is ∙ gone
    ]

pub returns-else-number-own-clause-claims : goal.returns-else-number-own-clause-claims
returns-else-number-own-clause-claims c =
    let n = c.args.number in
    other_removed n c.in-One.own c.in-One.field-1 (is_other n c.in-One.own c.if-number-own.false) ∙ ap (λ v. table.remove v.claims n) (ap line_in (sym c.in-One.is) ∙ c.self.view_is)

pub returns-in-Many-clause-claims : goal.returns-in-Many-clause-claims
returns-in-Many-clause-claims c =
    let n = c.args.number in
    removed c.deref_mut.result.now.entries c.remove.new.self.entries n c.remove.ensures.updates.0
    ∙ ap (λ t. table.remove (table.from_entries {R = nat_cmp} t.entries) n) c.deref_mut.ensures.value
    ∙ ap (λ v. table.remove v.claims n) (ap line_in (sym c.in-Many.is) ∙ c.self.view_is)
