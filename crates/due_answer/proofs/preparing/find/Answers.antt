use Rattle.std.proofs.Common.{◌≡◌, ◌≤◌, Some, ap, inr, length, refl, rules, sym, subst}
use Rattle.input_parts.specs.Parts.{service_of}
use Rattle.command_words.specs.declared.command.Command.TheVariants.{Run, Seq, Trace, Save, Resume, Replay, Check, Print, Code, Gen}
use Rattle.command_words.specs.Inputs.{input_bytes}
use Rattle.wave_gen.specs.Load.{load_text}
use Rattle.due_parts.specs.declared.report.Report.TheVariants.{Point}
use Rattle.due_parts.specs.declared.telling.Telling.TheVariants.{Reports, Traces}
use Rattle.due_parts.specs.Answers.{Only, text_answer}
use Rattle.due_parts.specs.Scripts.{IsDueScripted}
use Rattle.due_parts.specs.Services.{IsDueService}
use Rattle.due_parts.proofs.DueLemmas.{only_same, sized_fine}
use Rattle.due_stages.specs.Elastic.{IsDueElastic}
use Rattle.due_replay.specs.Replayed.{IsDueReplayed}
use Rattle.due_answer.specs.declared.task.Engine.TheVariants.{Workers}
use Rattle.due_answer.specs.Due.{IsDue, IsListedCode, IsPrinted, approval}
use Rattle.due_answer.specs.Prepared.{IsFound}
use Rattle.due_answer.specs.Tasks.{engine_of}
use Rattle.due_answer.specs.inner.Ready.{AreReady}
use Rattle.due_answer.proofs.FoundLemmas.{given_found, reported_found, traced_found}
use Rattle.due_answer.proofs.preparing.find.Goals as goal

pub returns-in-Run : goal.returns-in-Run
unfolding IsDue
returns-in-Run c =
    let bytes = c.args.input.now in
    let places = c.in-Run.places in
    let k = Run places c.in-Run.crew in
    let small : length bytes ≤ input_bytes k = subst (λ x. length bytes ≤ input_bytes x) c.in-Run.is c.requires in
    subst (λ x. IsFound x bytes c.prepared_stages.result) (sym c.in-Run.is)
    (c.prepared_stages.ensures k (ap (λ e. Some (places, e)) (sym c.of_crew.ensures)) (λ due o. sized_fine (input_bytes k) (IsDueElastic places) bytes due small o))

pub returns-in-Seq : goal.returns-in-Seq
unfolding IsDue
returns-in-Seq c =
    let bytes = c.args.input.now in
    let places = c.in-Seq.places in
    let k = Seq places in
    let small : length bytes ≤ input_bytes k = subst (λ x. length bytes ≤ input_bytes x) c.in-Seq.is c.requires in
    subst (λ x. IsFound x bytes c.prepared_stages-in-Seq.result) (sym c.in-Seq.is)
    (c.prepared_stages-in-Seq.ensures k refl (λ due o. sized_fine (input_bytes k) (IsDueElastic places) bytes due small o))

pub returns-in-Trace : goal.returns-in-Trace
unfolding IsDue
returns-in-Trace c =
    let bytes = c.args.input.now in
    let k = Trace c.in-Trace.places c.in-Trace.crew in
    let small : length bytes ≤ input_bytes k = subst (λ x. length bytes ≤ input_bytes x) c.in-Trace.is c.requires in
    let ready = subst (λ e. AreReady (Traces c.in-Trace.places c.in-Trace.crew) e bytes c.ready.result) c.of_crew-in-Trace.ensures c.ready.ensures in
    subst (λ x. IsFound x bytes c.ready.result) (sym c.in-Trace.is)
    (traced_found k bytes c.in-Trace.places c.in-Trace.crew (engine_of c.in-Trace.crew) c.ready.result refl (λ due t. inr (small, t)) ready)

pub returns-in-Save : goal.returns-in-Save
unfolding IsDue
returns-in-Save c =
    let bytes = c.args.input.now in
    let k = Save c.in-Save.crew in
    let small : length bytes ≤ input_bytes k = subst (λ x. length bytes ≤ input_bytes x) c.in-Save.is c.requires in
    subst (λ x. IsFound x bytes c.ready-in-Save.result) (sym c.in-Save.is)
    (reported_found k bytes bytes Point (Workers c.in-Save.crew.workers) c.ready-in-Save.result refl
    (λ due o. sized_fine (input_bytes k) (IsDueScripted (Reports Point)) bytes due small o) c.ready-in-Save.ensures)

pub prepared_resumption-requires : goal.prepared_resumption-requires
prepared_resumption-requires c = subst (λ x. length c.args.input.now ≤ input_bytes x) c.in-Resume.is c.requires

pub returns-in-Resume : goal.returns-in-Resume
returns-in-Resume c = subst (λ x. IsFound x c.args.input.now c.prepared_resumption.result) (sym c.in-Resume.is) c.prepared_resumption.ensures

pub judge_replay-requires : goal.judge_replay-requires
judge_replay-requires c = subst (λ x. length c.args.input.now ≤ input_bytes x) c.in-Replay.is c.requires

pub returns-in-Replay : goal.returns-in-Replay
unfolding IsDue
returns-in-Replay c =
    let bytes = c.args.input.now in
    let k = Replay c.in-Replay.show c.in-Replay.crew in
    let P = IsDueReplayed c.in-Replay.show c.in-Replay.crew in
    let small : length bytes ≤ input_bytes k = subst (λ x. length bytes ≤ input_bytes x) c.in-Replay.is c.requires in
    subst (λ x. IsFound x bytes c.prepared_answer.result) (sym c.in-Replay.is)
    (subst (IsFound k bytes) (sym c.prepared_answer.ensures)
    (given_found k bytes (P bytes) c.judge_replay.result (λ due o. sized_fine (input_bytes k) P bytes due small o) c.judge_replay.ensures))

pub returns-in-Check : goal.returns-in-Check
unfolding IsDue
returns-in-Check c =
    let bytes = c.args.input.now in
    let small : length bytes ≤ input_bytes Check = subst (λ x. length bytes ≤ input_bytes x) c.in-Check.is c.requires in
    subst (λ x. IsFound x bytes c.prepared_answer-in-Check.result) (sym c.in-Check.is)
    (subst (IsFound Check bytes) (sym c.prepared_answer-in-Check.ensures)
    (given_found Check bytes (IsDueService (λ tree a. a ≡ approval) (service_of bytes)) c.check_answer.result
    (λ due o. sized_fine (input_bytes Check) (λ b. IsDueService (λ tree a. a ≡ approval) (service_of b)) bytes due small o) c.check_answer.ensures))

pub returns-in-Print : goal.returns-in-Print
unfolding IsDue
returns-in-Print c =
    let bytes = c.args.input.now in
    let small : length bytes ≤ input_bytes Print = subst (λ x. length bytes ≤ input_bytes x) c.in-Print.is c.requires in
    subst (λ x. IsFound x bytes c.prepared_answer-in-Print.result) (sym c.in-Print.is)
    (subst (IsFound Print bytes) (sym c.prepared_answer-in-Print.ensures)
    (given_found Print bytes (IsDueService IsPrinted (service_of bytes)) c.print_answer.result
    (λ due o. sized_fine (input_bytes Print) (λ b. IsDueService IsPrinted (service_of b)) bytes due small o) c.print_answer.ensures))

pub returns-in-Code : goal.returns-in-Code
unfolding IsDue
returns-in-Code c =
    let bytes = c.args.input.now in
    let small : length bytes ≤ input_bytes Code = subst (λ x. length bytes ≤ input_bytes x) c.in-Code.is c.requires in
    subst (λ x. IsFound x bytes c.prepared_answer-in-Code.result) (sym c.in-Code.is)
    (subst (IsFound Code bytes) (sym c.prepared_answer-in-Code.ensures)
    (given_found Code bytes (IsDueService IsListedCode (service_of bytes)) c.listed_code.result
    (λ due o. sized_fine (input_bytes Code) (λ b. IsDueService IsListedCode (service_of b)) bytes due small o) c.listed_code.ensures))

pub returns-in-Load : goal.returns-in-Load
returns-in-Load c = subst (λ x. IsFound x c.args.input.now c.prepared_load.result) (sym c.in-Load.is) (c.prepared_load.ensures c.args.input.now)

pub returns-in_ok-generate-in-Gen : goal.returns-in_ok-generate-in-Gen
unfolding IsDue
returns-in_ok-generate-in-Gen = search rules
