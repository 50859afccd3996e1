use Rattle.std.proofs.Common.{refl}
use Rattle.event_cells.specs.Keeps.{mail_in}
use Rattle.event_cells.proofs.Desks.{carried_as}
use Rattle.event_cells.proofs.laws.cells_stand.Goals as goal

pub returns : goal.returns
returns g c = λ x. record { actor = λ e. refl; held = refl; sent = refl; status = refl; mails = λ k. carried_as (mail_in x.outbox.mails k) }
