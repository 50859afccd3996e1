use Rattle.std.proofs.Common.{◌∙◌, ◌+◌, Err, ap, arith, sym}
use Rattle.wave_base.specs.declared.numbers.Ticket.{Ticket}
use Rattle.kept_lock.specs.Locks.{name_of, knowledge}
use Rattle.service_code.specs.declared.program.Program.{Program}
use Rattle.wave_effects.specs.declared.plan.Plan.{Plan}
use Rattle.host_workers.proofs.Rounding.{is_calm}
use Rattle.host_workers.proofs.Writing.{no_memory, part_broke, part_written, sink_failed}
use Rattle.host_workers.proofs.writer.write_part.Goals as goal

pub overflow_add-next : goal.overflow_add-next
overflow_add-next g c =
    let from = ap (λ (t : Ticket). t.0) c.requires.post.from_is in
    let few = c.requires.next.few in
    let some = c.requires.next.some in
    omega (arith, from, few, some)

pub write_lines-requires : goal.write_lines-requires
write_lines-requires g c =
    let from = ap (λ (t : Ticket). t.0) c.requires.post.from_is in
    let few = c.requires.next.few in
    omega (arith, from, few)

pub halt-requires-clause-of_lock : goal.halt-requires-clause-of_lock
halt-requires-clause-of_lock g c = c.requires.of_lock

pub halt-requires-clause-calm : goal.halt-requires-clause-calm
halt-requires-clause-calm g c = is_calm _ _ _ c.requires.ready

pub give_up-requires-clause-of_lock : goal.give_up-requires-clause-of_lock
give_up-requires-clause-of_lock g c = c.requires.of_lock

pub give_up-requires-clause-calm : goal.give_up-requires-clause-calm
give_up-requires-clause-calm g c = is_calm _ _ _ c.requires.ready

pub returns-in-Ok-clause-written : goal.returns-in-Ok-clause-written
returns-in-Ok-clause-written g c =
    let shape = ap (λ (p : Program). p.shape) c.program.ensures.program ∙ ap (λ (p : Plan). p.program.shape) (sym c.requires.post.plan_is) in
    let from = ap (λ (t : Ticket). t.0 + c.args.written) (sym c.requires.post.from_is) in
    part_written (name_of c.args.post.now.lock.now) (knowledge c.args.pass.now) c.args.post.now.number c.args.written _ _ _ _ _ _ 0 0 c.requires.ready c.requires.next shape from c.len.ensures c.in-Ok.ensures.ok

pub returns-in-Err-WriteFault-clause-written : goal.returns-in-Err-WriteFault-clause-written
returns-in-Err-WriteFault-clause-written g c =
    let shape = ap (λ (p : Program). p.shape) c.program.ensures.program ∙ ap (λ (p : Plan). p.program.shape) (sym c.requires.post.plan_is) in
    let from = ap (λ (t : Ticket). t.0 + c.args.written) (sym c.requires.post.from_is) in
    sink_failed (name_of c.args.post.now.lock.now) (knowledge c.halt.new.pass) c.args.post.now.number c.args.written _ _ _ _ (c.halt.ensures.on.number ∙ c.requires.ready.number) c.halt.ensures.halted c.halt.ensures.own
    (part_broke _ _ _ c.requires.next.shown _ _ shape from _ _ c.in-Err-WriteFault.ensures.err)
    (c.in-Err-WriteFault.ensures.fault (ap Err c.in-Err-WriteFault.field-0-is))

pub returns-in-Err-OutOfMemory-clause-written : goal.returns-in-Err-OutOfMemory-clause-written
returns-in-Err-OutOfMemory-clause-written g c =
    let shape = ap (λ (p : Program). p.shape) c.program.ensures.program ∙ ap (λ (p : Plan). p.program.shape) (sym c.requires.post.plan_is) in
    let from = ap (λ (t : Ticket). t.0 + c.args.written) (sym c.requires.post.from_is) in
    no_memory (name_of c.args.post.now.lock.now) (knowledge c.give_up.new.pass) c.args.post.now.number c.args.written _ _ _ _ c.give_up.result c.give_up.ensures.memory (c.give_up.ensures.on.number ∙ c.requires.ready.number) c.give_up.ensures.ended
    (part_broke _ _ _ c.requires.next.shown _ _ shape from _ _ c.in-Err-OutOfMemory.ensures.err)
