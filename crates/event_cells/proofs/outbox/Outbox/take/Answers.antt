use Rattle.std.proofs.Common.{◌∙◌, None, refl, sym, ap, subst}
use Rattle.std.specs.Prelude.{nat_eq, if◌then◌else◌}
use Rattle.std.specs.Ordering.{nat_cmp}
use Rattle.std.proofs.lemmas.Option.{slice_get_read}
use Rattle.event_cells.specs.Keeps.{mail_in}
use Rattle.event_cells.specs.inner.Places.{IsThere, IsGap}
use Rattle.event_cells.proofs.Boxes.{removed, gone}
use Rattle.event_cells.proofs.outbox.Outbox.take.Goals as goal

there : (c : goal.After-remove-envelope) → IsThere nat_cmp c.self.inside.mails.items c.args.number c.in-Ok.i
there c = subst (λ v. IsThere nat_cmp v.mails c.args.number c.in-Ok.i) (sym c.self.view_is) c.in-Ok.ensures

pub invariant_of-self : goal.invariant_of-self
invariant_of-self c =
    let less = removed c.self.inside.mails.items c.self.inside.sent c.in-Ok.i (record { rises = c.self.invariant.rises; below = c.self.invariant.below }) in
    record { rises = rw c.remove-envelope.ensures.items less.rises; below = rw c.remove-envelope.ensures.items less.below }

pub returns-in-Ok-clause-mail : goal.returns-in-Ok-clause-mail
returns-in-Ok-clause-mail c =
    sym ((there c).found c.remove-envelope.result (slice_get_read c.self.inside.mails.items _ c.in-Ok.i c.remove-envelope.result refl (there c).within c.remove-envelope.ensures.value))
    ∙ ap (λ v. mail_in v.mails c.args.number) c.self.view_is

pub returns-in-Ok-clause-others : goal.returns-in-Ok-clause-others
returns-in-Ok-clause-others c = λ k.
    ap (λ es. mail_in es k) (c.remove-envelope.ensures.items ∙ (there c).removes) ∙ gone c.self.inside.mails.items c.args.number c.self.invariant.rises k
    ∙ ap (λ v. if nat_eq c.args.number k then None else mail_in v.mails k) c.self.view_is

pub returns-in-Err-clause-others : goal.returns-in-Err-clause-others
returns-in-Err-clause-others c = λ k.
    let at : IsGap nat_cmp c.self.inside.mails.items c.args.number c.in-Err.field-0 = subst (λ v. IsGap nat_cmp v.mails c.args.number c.in-Err.field-0) (sym c.self.view_is) c.in-Err.ensures in
    ap (λ v. mail_in v.mails k) (sym c.self.view_is) ∙ ap (λ es. mail_in es k) (sym at.removes_none) ∙ gone c.self.inside.mails.items c.args.number c.self.invariant.rises k
    ∙ ap (λ v. if nat_eq c.args.number k then None else mail_in v.mails k) c.self.view_is
