use Rattle.std.proofs.Common.{◌∙◌, ◌+◌, ap, is_some, sym}
use Rattle.std.specs.Option.{option_copied}
use Rattle.std.specs.Prelude.{option_map}
use Rattle.wave_base.specs.declared.numbers.Ticket.{Ticket}
use Rattle.wave_effects.specs.Keeping.{kept_of}
use Rattle.wave_effects.proofs.Headings.{admit_job, admit_next}
use Rattle.wave_effects.proofs.engine.Engine.prepare_admit.Goals as goal

pub unwrap-ticket-requires : goal.unwrap-ticket-requires
unwrap-ticket-requires c =
    let m = kept_of c.args.self.now in
    let ticket : Ticket = record { 0 = m.head.first + m.head.admitted } in
    ap is_some c.next.ensures ∙ ap (λ o. is_some (option_map (λ _. ticket) o)) (admit_next m c.requires.enabled.0 c.requires.enabled.1 c.requires.enabled.2 c.requires.enabled.3)

pub make-requires-clause-job : goal.make-requires-clause-job
make-requires-clause-job c =
    admit_job c.heads_are_known.ensures (kept_of c.args.self.now) c.requires.enabled.0 c.requires.enabled.1 c.requires.enabled.2 c.requires.enabled.3 c.unwrap-line.result.now (sym c.upcoming.ensures ∙ ap option_copied c.unwrap-line.ensures)
