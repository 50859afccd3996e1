use Rattle.std.proofs.Common.{[], ◌∷◌, sym, ap, ◌∙◌}
use Rattle.std.specs.Prelude.{nat_eq}
use Rattle.std.specs.Ordering.{nat_cmp}
use Rattle.std.specs.FinSet as set
use Rattle.context_queue.specs.Lines.{is_nobody}
use Rattle.context_queue.specs.inner.Kept.{group_of}
use Rattle.context_queue.proofs.QueueMaps.{set_len_is_length, none_distinct, one_distinct}
use Rattle.context_queue.proofs.peeks.Peeks.is_empty.Goals as goal

pub returns-in-Nobody : goal.returns-in-Nobody
returns-in-Nobody c = ap (λ n. nat_eq n 0) (sym (set_len_is_length [] none_distinct)) ∙ ap (λ v. is_nobody v.tickets) (ap group_of (sym c.in-Nobody.is) ∙ c.self.view_is)

pub returns-in-One : goal.returns-in-One
returns-in-One c =
    let t = c.in-One.field-0 in
    ap (λ n. nat_eq n 0) (sym (set_len_is_length (t ∷ []) (one_distinct t))) ∙ ap (λ v. is_nobody v.tickets) (ap group_of (sym c.in-One.is) ∙ c.self.view_is)

pub returns-in-Many : goal.returns-in-Many
returns-in-Many c =
    ap (λ n. nat_eq n 0) (c.len.ensures.len ∙ sym (set_len_is_length c.deref.result.now.keys c.len.ensures.unique))
    ∙ ap (λ ks. is_nobody (set.from_list {R = nat_cmp} ks.keys)) c.deref.ensures
    ∙ ap (λ v. is_nobody v.tickets) (ap group_of (sym c.in-Many.is) ∙ c.self.view_is)
