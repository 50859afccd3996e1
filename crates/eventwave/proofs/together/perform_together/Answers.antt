use Rattle.std.proofs.Common.{◌≡◌, ◌∙◌, subst}
use Rattle.std.proofs.KnownBytes.{Keeps-refl}
use Rattle.due_parts.specs.declared.answer.Answer.{Answer}
use Rattle.due_answer.specs.Due.{IsToldFor}
use Rattle.due_answer.specs.Prepared.{IsPrepared, Tells}
use Rattle.eventwave.specs.Ends.{Change, change}
use Rattle.eventwave.specs.inner.Stages.{listing_of}
use Rattle.eventwave.proofs.GivingLemmas.{did_give, did_nothing, gives_as, gives_it}
use Rattle.eventwave.proofs.StageLemmas.{can_be_staged, its_listing}
use Rattle.eventwave.proofs.together.perform_together.Goals as goal

pub run_task-requires-clause-done : goal.run_task-requires-clause-done
run_task-requires-clause-done g c κs within =
    let prepared = c.in-Ok-Run.ensures.prepared in
    let run = subst (IsPrepared c.args.command prepared.bytes) c.in-Ok-Run.field-0-is prepared.prepared in
    record { command = c.args.command; who = c.requires; asked = run.asked; can_run = run.can_run; saved = run.saved }

pub stage_together-requires-clause-staged : goal.stage_together-requires-clause-staged
stage_together-requires-clause-staged g c κs within =
    let prepared = c.in-Ok-Stages.ensures.prepared in
    let staged = subst (IsPrepared c.args.command prepared.bytes) c.in-Ok-Stages.field-0-is prepared.prepared in
    record { command = c.args.command; who = c.requires; asked = staged.asked; can = can_be_staged staged.elastic c.in-Ok-Stages.work staged.can }

pub returns-in-Ok-Given : goal.returns-in-Ok-Given
returns-in-Ok-Given g c = λ words accepted.
    let input : Change = change (g.S.Source.faults c.args.input.now) (g.S.Source.faults c.prepare_input.new.input) (g.S.Source.left c.args.input.now) (g.S.Source.left c.prepare_input.new.input) in
    let out : Change = change (g.K.Sink.faults c.args.out.now) (g.K.Sink.faults c.give.new.out) (g.K.Sink.written c.args.out.now) (g.K.Sink.written c.give.new.out) in
    let prepared = c.in-Ok-Given.ensures.prepared in
    let told = subst (IsPrepared c.args.command prepared.bytes) c.in-Ok-Given.field-0-is prepared.prepared in
    did_give words c.args.command accepted input out prepared.bytes prepared.input c.in-Ok-Given.ensures.end c.prepare_input.ensures.unread c.give.result
    (gives_it out.bytes out.bytes_now (IsToldFor c.args.command prepared.bytes) c.in-Ok-Given.answer c.give.result told c.give.ensures.gave) c.give.ensures.fault

pub returns-in-Ok-Run : goal.returns-in-Ok-Run
returns-in-Ok-Run g c = λ words accepted.
    let input : Change = change (g.S.Source.faults c.args.input.now) (g.S.Source.faults c.prepare_input.new.input) (g.S.Source.left c.args.input.now) (g.S.Source.left c.prepare_input.new.input) in
    let out : Change = change (g.K.Sink.faults c.args.out.now) (g.K.Sink.faults c.run_task.new.out) (g.K.Sink.written c.args.out.now) (g.K.Sink.written c.run_task.new.out) in
    let prepared = c.in-Ok-Run.ensures.prepared in
    let run = subst (IsPrepared c.args.command prepared.bytes) c.in-Ok-Run.field-0-is prepared.prepared in
    did_give words c.args.command accepted input out prepared.bytes prepared.input c.in-Ok-Run.ensures.end c.prepare_input.ensures.unread c.run_task.result
    (gives_as out.bytes out.bytes_now (Tells c.in-Ok-Run.task.telling c.in-Ok-Run.work) (IsToldFor c.args.command prepared.bytes) c.run_task.result run.due c.run_task.ensures.gave) c.run_task.ensures.fault

pub returns-in-Ok-Stages : goal.returns-in-Ok-Stages
returns-in-Ok-Stages g c = λ words accepted.
    let input : Change = change (g.S.Source.faults c.args.input.now) (g.S.Source.faults c.prepare_input.new.input) (g.S.Source.left c.args.input.now) (g.S.Source.left c.prepare_input.new.input) in
    let out : Change = change (g.K.Sink.faults c.args.out.now) (g.K.Sink.faults c.stage_together.new.out) (g.K.Sink.written c.args.out.now) (g.K.Sink.written c.stage_together.new.out) in
    let prepared = c.in-Ok-Stages.ensures.prepared in
    let staged = subst (IsPrepared c.args.command prepared.bytes) c.in-Ok-Stages.field-0-is prepared.prepared in
    let places = c.in-Ok-Stages.places in
    let work = c.in-Ok-Stages.work in
    did_give words c.args.command accepted input out prepared.bytes prepared.input c.in-Ok-Stages.ensures.end c.prepare_input.ensures.unread c.stage_together.result
    (gives_as out.bytes out.bytes_now (λ (a : Answer). a ≡ listing_of work places) (IsToldFor c.args.command prepared.bytes) c.stage_together.result (λ a is. staged.due a (is ∙ its_listing staged.elastic work places staged.can)) c.stage_together.ensures.gave)
    c.stage_together.ensures.fault

pub returns-in-Err : goal.returns-in-Err
returns-in-Err g c = λ words accepted.
    let input : Change = change (g.S.Source.faults c.args.input.now) (g.S.Source.faults c.prepare_input.new.input) (g.S.Source.left c.args.input.now) (g.S.Source.left c.prepare_input.new.input) in
    let out : Change = change (g.K.Sink.faults c.args.out.now) (g.K.Sink.faults c.args.out.now) (g.K.Sink.written c.args.out.now) (g.K.Sink.written c.args.out.now) in
    did_nothing words c.args.command accepted input out c.in-Err.ending c.in-Err.ensures.hindered c.prepare_input.ensures.unread (Keeps-refl (g.K.Sink.written c.args.out.now))
