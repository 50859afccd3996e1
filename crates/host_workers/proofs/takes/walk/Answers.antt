use Rattle.std.proofs.Common.{refl}
use Rattle.host_workers.proofs.Walking.{may_go_on, not_walked, stands_on, walked_more, walked_still}
use Rattle.host_workers.proofs.takes.walk.Goals as goal

pub loop-init : goal.loop-init
loop-init c = record {
  standing = c.requires.stands;
  may = c.requires.may;
  walked = not_walked c.args.board.now c.args.board.now c.args.board.now c.args.number (λ o at. at) refl;
}

pub take-requires-clause-stands : goal.take-requires-clause-stands
take-requires-clause-stands c = c.loop.invariant.standing

pub take-requires-clause-may : goal.take-requires-clause-may
take-requires-clause-may c = c.loop.invariant.may

pub loop-preserved : goal.loop-preserved
loop-preserved c =
    let walked = walked_more c.args.board.now c.loop.board c.take.new.self c.args.number _ c.loop.invariant.walked c.in-Ok-Stepped.ensures.stands (rw c.in-Ok-Stepped.field-0-is at c.in-Ok-Stepped.ensures.took) in
    record {
      standing = stands_on c.args.board.now c.take.new.self c.args.number c.requires.stands walked;
      may = may_go_on c.args.board.now c.take.new.self c.args.number c.requires.stands walked c.requires.may;
      walked = walked;
    }

pub returns-in-Ok-Segment-clause-stands : goal.returns-in-Ok-Segment-clause-stands
returns-in-Ok-Segment-clause-stands c = λ o at. c.in-Ok-Segment.ensures.stands o (c.loop.invariant.walked.stands o at)

pub returns-in-Ok-Segment-clause-walked : goal.returns-in-Ok-Segment-clause-walked
returns-in-Ok-Segment-clause-walked c = (c.loop.board, c.loop.invariant.walked, rw c.in-Ok-Segment.field-0-is at c.in-Ok-Segment.ensures.took)

pub returns-in-Ok-Nothing-clause-stands : goal.returns-in-Ok-Nothing-clause-stands
returns-in-Ok-Nothing-clause-stands c = λ o at. c.in-Ok-Nothing.ensures.stands o (c.loop.invariant.walked.stands o at)

pub returns-in-Ok-Nothing-clause-walked : goal.returns-in-Ok-Nothing-clause-walked
returns-in-Ok-Nothing-clause-walked c =
    let took = rw c.in-Ok-Nothing.field-0-is at c.in-Ok-Nothing.ensures.took in
    walked_still c.args.board.now c.loop.board c.take.new.self c.args.number c.loop.invariant.walked c.in-Ok-Nothing.ensures.stands took.3

pub returns-in-Ok-Finished-clause-stands : goal.returns-in-Ok-Finished-clause-stands
returns-in-Ok-Finished-clause-stands c = λ o at. c.in-Ok-Finished.ensures.stands o (c.loop.invariant.walked.stands o at)

pub returns-in-Ok-Finished-clause-walked : goal.returns-in-Ok-Finished-clause-walked
returns-in-Ok-Finished-clause-walked c =
    let took = rw c.in-Ok-Finished.field-0-is at c.in-Ok-Finished.ensures.took in
    walked_still c.args.board.now c.loop.board c.take.new.self c.args.number c.loop.invariant.walked c.in-Ok-Finished.ensures.stands took.2

pub returns-in-Ok-Stopped-clause-stands : goal.returns-in-Ok-Stopped-clause-stands
returns-in-Ok-Stopped-clause-stands c = λ o at. c.in-Ok-Stopped.ensures.stands o (c.loop.invariant.walked.stands o at)

pub returns-in-Ok-Stopped-clause-walked : goal.returns-in-Ok-Stopped-clause-walked
returns-in-Ok-Stopped-clause-walked c =
    let took = rw c.in-Ok-Stopped.field-0-is at c.in-Ok-Stopped.ensures.took in
    walked_still c.args.board.now c.loop.board c.take.new.self c.args.number c.loop.invariant.walked c.in-Ok-Stopped.ensures.stands took.1

pub returns-in-Err-clause-stands : goal.returns-in-Err-clause-stands
returns-in-Err-clause-stands c = λ o at. c.in-Err.ensures.stands o (c.loop.invariant.walked.stands o at)

pub returns-in-Err-clause-walked : goal.returns-in-Err-clause-walked
returns-in-Err-clause-walked c = walked_still c.args.board.now c.loop.board c.take.new.self c.args.number c.loop.invariant.walked c.in-Err.ensures.stands c.in-Err.ensures.same

pub returns-clause-stands : goal.returns-clause-stands
returns-clause-stands c = c.loop.invariant.walked.stands

pub returns-clause-walked : goal.returns-clause-walked
returns-clause-walked c = c.loop.invariant.walked

pub returns-in-Ok-Nothing-clause-idle : goal.returns-in-Ok-Nothing-clause-idle
returns-in-Ok-Nothing-clause-idle c =
    let took = rw c.in-Ok-Nothing.field-0-is at c.in-Ok-Nothing.ensures.took in
    λ rests. record { found = c.loop.board; standing = c.loop.invariant.standing; history = took.3; nothing = took.2 }
