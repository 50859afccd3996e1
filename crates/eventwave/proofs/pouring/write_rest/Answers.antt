use Rattle.std.proofs.Common.{◌≡◌, All, ap, subst, sym}
use Rattle.service_code.specs.declared.program.Program.{Program}
use Rattle.wave_io.proofs.HeldLemmas.{err_by}
use Rattle.wave_labels.specs.declared.label.Label.{Label}
use Rattle.wave_effects.specs.Plans.{plan_of}
use Rattle.journal_text.specs.Fits.{HasPath}
use Rattle.listing_out.proofs.SinkLemmas.{on_err}
use Rattle.eventwave.specs.inner.Pouring.{IsPoured}
use Rattle.eventwave.proofs.PouringLemmas.{journal_paths, traces_behind, traces_front}
use Rattle.eventwave.proofs.pouring.write_rest.Goals as goal

pub returns-in_err-write_places-in-Traces-clause-err : goal.returns-in_err-write_places-in-Traces-clause-err
returns-in_err-write_places-in-Traces-clause-err g c =
    let same = ap (λ (p : Program). p.shape) c.program.ensures.program in
    on_err c.from_residual.result
    (traces_front c.args.telling c.in-Traces.places c.in-Traces.field-1 c.args.plan.now.program.shape c.program.result.now.shape c.args.start.now.next.0 c.args.made.now c.in-Traces.is same _ _ c.in_err-write_places-in-Traces.ensures.err)

pub write_journal-requires : goal.write_journal-requires
write_journal-requires g c =
    let plan = plan_of c.args.plan.now in
    let asked = subst (λ t. IsPoured t plan c.args.start.now c.args.made.now) c.in-Traces.is c.requires in
    subst (λ (p : Program). All (λ (l : Label). HasPath p.shape l.act) c.in-Some.journal) (sym c.program.ensures.program)
    (journal_paths plan c.args.start.now c.args.made.now.journal c.in-Some.journal c.runs_have_paths.ensures asked.1 c.in-Some.is)

pub returns-in-Some-clause-err : goal.returns-in-Some-clause-err
returns-in-Some-clause-err g c =
    let same = ap (λ (p : Program). p.shape) c.program.ensures.program in
    err_by c.write_journal.result
    (traces_behind c.args.telling c.in-Traces.places c.in-Traces.field-1 c.args.plan.now.program.shape c.program.result.now.shape c.args.start.now.next.0 c.args.made.now c.in-Traces.is same c.in-Some.journal _ _ _ c.in-Some.is
    c.in_ok-write_places-in-Traces.ensures.ok) c.write_journal.ensures.err
