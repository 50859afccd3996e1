use Rattle.std.proofs.Common.{[], ◌∷◌, sym, ap, ◌∙◌}
use Rattle.std.specs.Ordering.{nat_cmp}
use Rattle.std.specs.FinMap as table
use Rattle.context_queue.specs.inner.Kept.{line_in}
use Rattle.context_queue.proofs.QueueMaps.{len_is_length, none_distinct, one_distinct}
use Rattle.context_queue.proofs.waiting.Waiting.len.Goals as goal

pub returns-in-Nobody : goal.returns-in-Nobody
returns-in-Nobody c = sym (len_is_length [] none_distinct) ∙ ap (λ v. table.len v.claims) (ap line_in (sym c.in-Nobody.is) ∙ c.self.view_is)

pub returns-in-One : goal.returns-in-One
returns-in-One c =
    let n = c.in-One.field-0 in
    sym (len_is_length ((n, c.in-One.field-1) ∷ []) (one_distinct n)) ∙ ap (λ v. table.len v.claims) (ap line_in (sym c.in-One.is) ∙ c.self.view_is)

pub returns-in-Many : goal.returns-in-Many
returns-in-Many c =
    c.len.ensures.len
    ∙ sym (len_is_length c.deref.result.now.entries c.len.ensures.unique)
    ∙ ap (λ t. table.len (table.from_entries {R = nat_cmp} t.entries)) c.deref.ensures
    ∙ ap (λ v. table.len v.claims) (ap line_in (sym c.in-Many.is) ∙ c.self.view_is)
