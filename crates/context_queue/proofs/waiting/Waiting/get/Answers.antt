use Rattle.std.proofs.Common.{[], sym, ap, ◌∙◌}
use Rattle.std.specs.Ordering.{nat_cmp}
use Rattle.std.specs.FinMap as table
use Rattle.context_queue.specs.inner.Kept.{line_in}
use Rattle.context_queue.proofs.QueueMaps.{get_is_lookup, is_other, is_own, one_got, other_got}
use Rattle.context_queue.proofs.waiting.Waiting.get.Goals as goal

pub returns-in-Nobody : goal.returns-in-Nobody
returns-in-Nobody c = sym (get_is_lookup c.args.number []) ∙ ap (λ v. table.get v.claims c.args.number) (ap line_in (sym c.in-Nobody.is) ∙ c.self.view_is)

pub returns-then-number-own : goal.returns-then-number-own
returns-then-number-own c = one_got c.args.number c.in-One.own c.in-One.claim (is_own c.args.number c.in-One.own c.if-number-own.true) ∙ ap (λ v. table.get v.claims c.args.number) (ap line_in (sym c.in-One.is) ∙ c.self.view_is)

pub returns-else-number-own : goal.returns-else-number-own
returns-else-number-own c = other_got c.args.number c.in-One.own c.in-One.claim (is_other c.args.number c.in-One.own c.if-number-own.false) ∙ ap (λ v. table.get v.claims c.args.number) (ap line_in (sym c.in-One.is) ∙ c.self.view_is)

pub returns-in-Many : goal.returns-in-Many
returns-in-Many c =
    let n = c.args.number in
    c.copied.ensures
    ∙ c.get.ensures.value
    ∙ sym (get_is_lookup n c.deref.result.now.entries)
    ∙ ap (λ t. table.get (table.from_entries {R = nat_cmp} t.entries) n) c.deref.ensures
    ∙ ap (λ v. table.get v.claims n) (ap line_in (sym c.in-Many.is) ∙ c.self.view_is)
