use Rattle.std.proofs.Common.{◌∙◌, ap, arith, refl, sym}
use Rattle.wave_effects.specs.Plans.{plan_of}
use Rattle.elastic_policy.specs.Progress.{come_to}
use Rattle.elastic_policy.specs.Stages.{Staged}
use Rattle.listing_out.proofs.SinkLemmas.{on_err}
use Rattle.eventwave.proofs.StageLemmas.{can_run, come_front, end_front, end_status, end_whole, fewer_turns, has_begun, has_come, its_workers, next_piece, piece_front, some_ticket, status_is}
use Rattle.eventwave.proofs.TaskLemmas.{stages_run}
use Rattle.eventwave.proofs.staged.list_alone.Goals as goal

pub loop-stages-init : goal.loop-stages-init
loop-stages-init g c = record {
  come = has_begun c.args.work (g.K.Sink.written c.args.out.now) c.pieces_are_listed.ensures.first c.requires.can;
  later = omega arith;
}

pub next-requires : goal.next-requires
next-requires g c = c.loop-stages.invariant.come.staged

pub returns-in_err-script-clause-front : goal.returns-in_err-script-clause-front
returns-in_err-script-clause-front g c =
    on_err c.from_residual.result (come_front _ _ _ _ _ _ c.args.places c.pieces_are_listed.ensures.front c.loop-stages.invariant.come)

pub run_piece_alone-requires-clause-can : goal.run_piece_alone-requires-clause-can
run_piece_alone-requires-clause-can g c =
    let come = c.loop-stages.invariant.come in
    let piece = next_piece _ _ _ _ _ _ come c.in-Some.script _ c.pieces_are_listed.ensures.piece c.in_ok-script.ensures.piece c.in-Some.is in
    can_run _ _ _ _ _ _ come c.in-Some.script c.args.engine (plan_of c.piece_plan-plan.result) _ piece c.piece_plan-plan.ensures c.in_ok-script.ensures.left c.in_ok-script.ensures.staged

pub run_piece_alone-requires-clause-alone : goal.run_piece_alone-requires-clause-alone
run_piece_alone-requires-clause-alone g c = stages_run c.requires.command _ c.args.places c.args.engine c.requires.who c.requires.asked

pub run_piece_alone-requires-clause-workers : goal.run_piece_alone-requires-clause-workers
run_piece_alone-requires-clause-workers g c =
    let come = c.loop-stages.invariant.come in
    let piece = next_piece _ _ _ _ _ _ come c.in-Some.script _ c.pieces_are_listed.ensures.piece c.in_ok-script.ensures.piece c.in-Some.is in
    its_workers _ _ _ _ _ _ come c.in-Some.script c.args.engine (plan_of c.piece_plan-plan.result) _ piece c.piece_plan-plan.ensures c.in_ok-script.ensures.left

pub returns-in_err-behind-clause-front : goal.returns-in_err-behind-clause-front
returns-in_err-behind-clause-front g c =
    let come = c.loop-stages.invariant.come in
    let piece = next_piece _ _ _ _ _ _ come c.in-Some.script _ c.pieces_are_listed.ensures.piece c.in_ok-script.ensures.piece c.in-Some.is in
    on_err c.from_residual-in_err-behind.result (piece_front _ _ _ _ _ _ come c.in-Some.script c.args.engine (plan_of c.piece_plan-plan.result) _ piece c.piece_plan-plan.ensures c.in_ok-script.ensures.left c.args.places (come_to c.next.new.self).start _ c.pieces_are_listed.ensures.within refl c.in_err-behind.ensures.front)

pub loop-stages-preserved : goal.loop-stages-preserved
loop-stages-preserved g c =
    let come = c.loop-stages.invariant.come in
    let piece = next_piece _ _ _ _ _ _ come c.in-Some.script _ c.pieces_are_listed.ensures.piece c.in_ok-script.ensures.piece c.in-Some.is in
    let b = c.in_ok-behind.ensures.behind in
    record {
      come = has_come _ _ _ _ _ _ come c.in-Some.script c.args.engine (plan_of c.piece_plan-plan.result) _ piece c.piece_plan-plan.ensures c.in_ok-script.ensures.left _ (come_to c.next.new.self).start _ _ _ b.program refl b.after b.staged b.trapped c.in_ok-behind.ensures.lines;
      later = omega (arith, c.loop-stages.invariant.later, c.run_piece_alone.ensures.later);
    }

pub loop-stages-smaller : goal.loop-stages-smaller
loop-stages-smaller g c =
    let come = c.loop-stages.invariant.come in
    let piece = next_piece _ _ _ _ _ _ come c.in-Some.script _ c.pieces_are_listed.ensures.piece c.in_ok-script.ensures.piece c.in-Some.is in
    fewer_turns _ _ _ _ _ _ come c.in-Some.script c.args.engine (plan_of c.piece_plan-plan.result) _ piece c.piece_plan-plan.ensures c.in_ok-script.ensures.left _ c.in_ok-behind.ensures.behind.after

pub returns-in_err-stages-clause-front : goal.returns-in_err-stages-clause-front
returns-in_err-stages-clause-front g c =
    on_err c.from_residual-in_err-stages.result (come_front _ _ _ _ _ _ c.args.places c.pieces_are_listed.ensures.front c.loop-stages.invariant.come)

pub write_behind-requires : goal.write_behind-requires
write_behind-requires g c =
    let come = c.loop-stages.invariant.come in
    some_ticket _ _ _ _ _ _ come _ _ c.pieces_are_listed.ensures.end c.in_ok-script.ensures.piece c.in_default.is c.in_ok-script.ensures.left c.start.result.now (c.start.ensures ∙ ap (λ (x : Staged). x.start) c.in_ok-stages.ensures)

pub returns-in_err-write_behind-clause-front : goal.returns-in_err-write_behind-clause-front
returns-in_err-write_behind-clause-front g c =
    let come = c.loop-stages.invariant.come in
    on_err c.from_residual-in_err-write_behind.result (end_front _ _ _ _ _ _ come _ _ c.pieces_are_listed.ensures.end c.in_ok-script.ensures.piece c.in_default.is c.in_ok-script.ensures.left c.program.result.now c.args.places c.start.result.now _ c.program.ensures.program (c.start.ensures ∙ ap (λ (x : Staged). x.start) c.in_ok-stages.ensures) c.in_err-write_behind.ensures.err)

pub returns-clause-lines : goal.returns-clause-lines
returns-clause-lines g c =
    let come = c.loop-stages.invariant.come in
    end_whole _ _ _ _ _ _ come _ _ c.pieces_are_listed.ensures.end c.in_ok-script.ensures.piece c.in_default.is c.in_ok-script.ensures.left c.program.result.now c.args.places c.start.result.now _ c.program.ensures.program (c.start.ensures ∙ ap (λ (x : Staged). x.start) c.in_ok-stages.ensures) c.in_ok-write_behind.ensures.ok

pub returns-clause-status : goal.returns-clause-status
returns-clause-status g c =
    let come = c.loop-stages.invariant.come in
    c.from.ensures ∙ status_is _ ∙ sym (end_status _ _ _ _ _ _ come _ _ c.pieces_are_listed.ensures.end c.in_ok-script.ensures.piece c.in_default.is c.in_ok-script.ensures.left c.args.places)
