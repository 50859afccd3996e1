use Rattle.std.proofs.Common.{subst}
use Rattle.wave_labels.specs.Labels.{act_of}
use Rattle.wave_states.specs.Labels.{path_of}
use Rattle.wave_effects.specs.Keeping.{kept_of}
use Rattle.wave_machine.specs.inner.Updating.{Sees}
use Rattle.wave_machine.proofs.listed.Listed.look_at.Goals as goal

pub returns : goal.returns
returns c =
    let m = kept_of c.args.self.now.engine in
    let host = c.args.label.now.host.0 in
    subst (λ t. Sees m host t (path_of (act_of c.args.label.now.act)) c.look.result) c.ticket_of.ensures
    (subst (λ p. Sees m host c.ticket_of.result.0 p c.look.result) c.path_in-path.ensures c.look.ensures)
