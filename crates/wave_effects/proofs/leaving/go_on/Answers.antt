use Rattle.std.proofs.Common.{◌≡◌, ◌∙◌, sym, ap, subst}
use Rattle.event_cells.specs.declared.outbox.Envelope.{Envelope}
use Rattle.event_cells.specs.Cells.{IsEnvelope}
use Rattle.wave_theory.proofs.Basics.{some_same}
use Rattle.wave_effects.proofs.leaving.go_on.Goals as goal

pub returns-clause-desk : goal.returns-clause-desk
returns-clause-desk c = λ e d m is stands says.
    let same : e ≡ c.unwrap-mail.result = some_same e c.unwrap-mail.result (sym is ∙ c.unwrap-mail.ensures) in
    (c.send.ensures.desk d m stands (subst (λ x. IsEnvelope x m) same says), ap (λ (x : Envelope). x.path) (sym same) ∙ sym says.path)
