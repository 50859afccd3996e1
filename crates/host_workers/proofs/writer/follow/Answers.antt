use Rattle.std.proofs.Common.{◌∙◌, Err, Ok, Some, ap}
use Rattle.kept_lock.specs.Locks.{name_of, knowledge}
use Rattle.host_workers.proofs.Writing.{breaks_here, ends_so, no_memory, nothing_came, offered_all, offered_task, still_committed}
use Rattle.host_workers.proofs.writer.follow.Goals as goal

pub write_part-requires-clause-ready : goal.write_part-requires-clause-ready
write_part-requires-clause-ready g c = (rw (c.in-Ok-Lines.is ∙ ap Ok c.in-Ok-Lines.field-0-is) at c.requires.offered).0

pub write_part-requires-clause-next : goal.write_part-requires-clause-next
write_part-requires-clause-next g c = (rw (c.in-Ok-Lines.is ∙ ap Ok c.in-Ok-Lines.field-0-is) at c.requires.offered).1

pub carry_out-requires-clause-asked : goal.carry_out-requires-clause-asked
carry_out-requires-clause-asked g c = offered_task (name_of c.args.post.now.lock.now) (knowledge c.args.pass.now) c.args.post.now.number (Some c.args.written) _ (rw (c.in-Ok-Task.is ∙ ap Ok c.in-Ok-Task.field-0-is) at c.requires.offered)

pub give_up-requires-clause-calm : goal.give_up-requires-clause-calm
give_up-requires-clause-calm g c = (rw c.in-Err.is at c.requires.offered)

pub returns-in-Ok-clause-written : goal.returns-in-Ok-clause-written
returns-in-Ok-clause-written g c =
    nothing_came (name_of c.args.post.now.lock.now) (knowledge c.carry_out.new.pass) c.args.post.now.number c.args.written _ 0 0 c.in-Ok.next c.in-Ok.ensures.rounded
    (still_committed _ (knowledge c.args.pass.now) _ _ c.in-Ok.ensures.on c.requires.committed)

pub returns-in-Err-carry_out-clause-written : goal.returns-in-Err-carry_out-clause-written
returns-in-Err-carry_out-clause-written g c =
    let done = c.in-Err-carry_out.ensures.rounded in
    ends_so (name_of c.args.post.now.lock.now) (knowledge c.carry_out.new.pass) c.args.post.now.number c.args.written _ _ _ c.in-Err-carry_out.ending done.0 done.1 done.2
    (λ is. offered_all (name_of c.args.post.now.lock.now) (knowledge c.args.pass.now) c.args.post.now.number c.args.written _ (rw (c.in-Ok-Task.is ∙ ap Ok c.in-Ok-Task.field-0-is) at c.requires.offered) (c.in-Err-carry_out.ensures.finished (ap Err is)))

pub returns-in-Err-clause-written : goal.returns-in-Err-clause-written
returns-in-Err-clause-written g c =
    no_memory (name_of c.args.post.now.lock.now) (knowledge c.give_up.new.pass) c.args.post.now.number c.args.written _ _ _ _ c.give_up.result c.give_up.ensures.memory
    (c.give_up.ensures.on.number ∙ (rw c.in-Err.is at c.requires.offered).number) c.give_up.ensures.ended (breaks_here _ _ _)
