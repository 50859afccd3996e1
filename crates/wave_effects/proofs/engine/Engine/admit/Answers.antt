use Rattle.std.proofs.Common.{◌+◌, ap, arith, is_some, refl}
use Rattle.std.specs.Prelude.{option_map, slice_get}
use Rattle.wave_base.specs.declared.numbers.Ticket.{Ticket}
use Rattle.head_tickets.specs.Heads.{line_of}
use Rattle.wave_states.specs.Labels.{Admit}
use Rattle.wave_effects.specs.Keeping.{kept_of}
use Rattle.wave_effects.proofs.Admitting.{TakesLine}
use Rattle.wave_effects.proofs.Headings.{admit_next, admit_pushed}
use Rattle.wave_effects.proofs.Framing.{moved_admit}
use Rattle.wave_effects.proofs.engine.Engine.admit.Goals as goal

pub admit-job-requires : goal.admit-job-requires
admit-job-requires c =
    let m = kept_of c.args.self.now in
    let ticket : Ticket = record { 0 = m.head.first + m.head.admitted } in
    ap (λ o. is_some (option_map (λ _. ticket) o)) (admit_next m c.requires.enabled.0 c.requires.enabled.1 c.requires.enabled.2 c.requires.enabled.3)

pub returns-clause-takes : goal.returns-clause-takes
returns-clause-takes c = λ w host t.
    let m = kept_of c.args.self.now in
    let line = line_of c.admit-job.result.1 in
    let takes : TakesLine m.head c.admit-job.new.self line = record {
      line_is = ap (λ ws. slice_get ws 0) c.admit-job.ensures.known.0;
      fold = c.admit-job.ensures.fold;
      first = c.admit-job.ensures.first;
      admitted = c.admit-job.ensures.counts.0;
      done = c.admit-job.ensures.counts.1;
    } in
    admit_pushed c.states_are_known.ensures m w host t line c.args.cell c.admit-job.new.self c.kind_of_job.result c.push_reserved.new.self.items c.push_reserved-2.new.self.items takes c.kind_of_job.ensures c.requires.cell c.push_reserved.ensures.items c.push_reserved-2.ensures.items

pub returns-clause-moves : goal.returns-clause-moves
returns-clause-moves c = λ w host t.
    let m = kept_of c.args.self.now in
    let line = line_of c.admit-job.result.1 in
    let made = c.requires.cell line (ap (λ ws. slice_get ws 0) c.admit-job.ensures.known.0) in
    moved_admit m _ (record { worker = w; host = host; act = Admit t }) c.args.cell refl refl refl c.push_reserved-2.ensures.items refl (omega (arith, made.one_mail))
