use Rattle.std.proofs.Common.{refl}
use Rattle.host_workers.proofs.Walking.{may_go_on, not_walked, stands_on, took_on, walked_one}
use Rattle.host_workers.proofs.takes.take.Goals as goal

pub take-requires-clause-stands : goal.take-requires-clause-stands
take-requires-clause-stands c = c.requires.stands

pub take-requires-clause-may : goal.take-requires-clause-may
take-requires-clause-may c = c.requires.may

pub walk-requires-clause-stands : goal.walk-requires-clause-stands
walk-requires-clause-stands c =
    let walked = walked_one c.args.board.now c.take.new.self c.args.number _ c.in-Ok-Stepped.ensures.stands (rw c.in-Ok-Stepped.field-0-is at c.in-Ok-Stepped.ensures.took) in
    stands_on c.args.board.now c.take.new.self c.args.number c.requires.stands walked

pub walk-requires-clause-may : goal.walk-requires-clause-may
walk-requires-clause-may c =
    let walked = walked_one c.args.board.now c.take.new.self c.args.number _ c.in-Ok-Stepped.ensures.stands (rw c.in-Ok-Stepped.field-0-is at c.in-Ok-Stepped.ensures.took) in
    may_go_on c.args.board.now c.take.new.self c.args.number c.requires.stands walked c.requires.may

pub returns-in-Ok-Stepped-clause-stands : goal.returns-in-Ok-Stepped-clause-stands
returns-in-Ok-Stepped-clause-stands c = λ o at. c.walk.ensures.stands o (c.in-Ok-Stepped.ensures.stands o at)

pub returns-in-Ok-Stepped-clause-taken : goal.returns-in-Ok-Stepped-clause-taken
returns-in-Ok-Stepped-clause-taken c =
    let walked = walked_one c.args.board.now c.take.new.self c.args.number _ c.in-Ok-Stepped.ensures.stands (rw c.in-Ok-Stepped.field-0-is at c.in-Ok-Stepped.ensures.took) in
    took_on c.args.board.now c.take.new.self c.args.number walked c.walk.new.board c.walk.result c.walk.ensures.walked

pub returns-in-Ok-Segment-clause-stands : goal.returns-in-Ok-Segment-clause-stands
returns-in-Ok-Segment-clause-stands c = c.in-Ok-Segment.ensures.stands

pub returns-in-Ok-Segment-clause-taken : goal.returns-in-Ok-Segment-clause-taken
returns-in-Ok-Segment-clause-taken c = (c.args.board.now, not_walked c.args.board.now c.args.board.now c.args.board.now c.args.number (λ o at. at) refl, rw c.in-Ok-Segment.field-0-is at c.in-Ok-Segment.ensures.took)

pub returns-in-Ok-Nothing-clause-stands : goal.returns-in-Ok-Nothing-clause-stands
returns-in-Ok-Nothing-clause-stands c = c.in-Ok-Nothing.ensures.stands

pub returns-in-Ok-Nothing-clause-taken : goal.returns-in-Ok-Nothing-clause-taken
returns-in-Ok-Nothing-clause-taken c = not_walked c.args.board.now c.take.new.self c.take.new.self c.args.number c.in-Ok-Nothing.ensures.stands (rw c.in-Ok-Nothing.field-0-is at c.in-Ok-Nothing.ensures.took).3

pub returns-in-Ok-Finished-clause-stands : goal.returns-in-Ok-Finished-clause-stands
returns-in-Ok-Finished-clause-stands c = c.in-Ok-Finished.ensures.stands

pub returns-in-Ok-Finished-clause-taken : goal.returns-in-Ok-Finished-clause-taken
returns-in-Ok-Finished-clause-taken c = rw c.in-Ok-Finished.field-0-is at c.in-Ok-Finished.ensures.took

pub returns-in-Ok-Stopped-clause-stands : goal.returns-in-Ok-Stopped-clause-stands
returns-in-Ok-Stopped-clause-stands c = c.in-Ok-Stopped.ensures.stands

pub returns-in-Ok-Stopped-clause-taken : goal.returns-in-Ok-Stopped-clause-taken
returns-in-Ok-Stopped-clause-taken c = rw c.in-Ok-Stopped.field-0-is at c.in-Ok-Stopped.ensures.took

pub returns-in-Err-clause-stands : goal.returns-in-Err-clause-stands
returns-in-Err-clause-stands c = c.in-Err.ensures.stands

pub returns-in-Err-clause-taken : goal.returns-in-Err-clause-taken
returns-in-Err-clause-taken c = c.in-Err.ensures.same

pub returns-in-Ok-Nothing-clause-idle : goal.returns-in-Ok-Nothing-clause-idle
returns-in-Ok-Nothing-clause-idle c =
    let took = rw c.in-Ok-Nothing.field-0-is at c.in-Ok-Nothing.ensures.took in
    λ rests. record { found = c.args.board.now; standing = c.requires.stands; history = took.3; nothing = took.2 }
