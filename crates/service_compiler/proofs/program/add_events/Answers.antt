use Rattle.std.proofs.Common.{length, take, sym, subst, arith}
use Rattle.std.proofs.lemmas.List.{length-take, length_push, take_all}
use Rattle.std.proofs.lemmas.Slice.Zip.{zip_turn, zip_end}
use Rattle.code_scheme.specs.Programs.{event_functions}
use Rattle.code_scheme.specs.Texts.{events_uses}
use Rattle.service_compiler.specs.Slots.{HasEventSlots}
use Rattle.service_compiler.specs.inner.Functions.{Adds, IsRefused}
use Rattle.service_compiler.proofs.FunctionLists.{adds_none, adds_count, events_few, next_event, events_refused}
use Rattle.service_compiler.proofs.Notes.{err_same}
use Rattle.service_compiler.proofs.program.add_events.Goals as goal

pub loop-info-init : goal.loop-info-init
loop-info-init c = adds_none c.args.code.now c.requires.ready

pub add_event-requires-clause-few : goal.add_event-requires-clause-few
add_event-requires-clause-few c =
    let k = length c.loop-info.yielded in
    let is = take k c.args.infos.now in
    let es = take k c.args.events.now in
    let t = zip_turn c.args.infos.now c.args.events.now c.loop-info.yielded _ c.loop-info.info-iterator c.next.new.self c.next.result (cc) (cc) c.loop-info.yielded_by (c.in-Some.info, c.in-Some.event) c.in-Some.is c.next.ensures.steps in
    let few = c.requires.few in
    omega (arith, few, t.1, adds_count c.loop-info.invariant, events_few c.args.methods.now c.loop-info.code.texts is es, length-take k c.args.events.now)

pub add_event-requires-clause-ready : goal.add_event-requires-clause-ready
add_event-requires-clause-ready c = c.loop-info.invariant.ready

pub add_event-requires-clause-slots : goal.add_event-requires-clause-slots
add_event-requires-clause-slots c =
    let e = c.in-Some.event.now in
    let k = length c.loop-info.yielded in
    let t = zip_turn c.args.infos.now c.args.events.now c.loop-info.yielded _ c.loop-info.info-iterator c.next.new.self c.next.result (cc) (cc) c.loop-info.yielded_by (c.in-Some.info, c.in-Some.event) c.in-Some.is c.next.ensures.steps in
    subst HasEventSlots (sym (t.3 e)) (c.requires.slots k e t.1)

pub loop-info-preserved : goal.loop-info-preserved
loop-info-preserved c =
    let m = c.args.methods.now in
    let is = c.args.infos.now in
    let es = c.args.events.now in
    let k = length c.loop-info.yielded in
    let i = c.in-Some.info.now in
    let e = c.in-Some.event.now in
    let t = zip_turn is es c.loop-info.yielded _ c.loop-info.info-iterator c.next.new.self c.next.result (cc) (cc) c.loop-info.yielded_by (c.in-Some.info, c.in-Some.event) c.in-Some.is c.next.ensures.steps in
    subst (λ n. Adds c.args.code.now c.add_event.new.code (events_uses (take n es)) (λ all. event_functions m all (take n is) (take n es))) (sym (length_push c.loop-info.yielded (c.in-Some.info, c.in-Some.event)))
    (next_event m is es k i e t.0 t.1 (t.2 i) (t.3 e) c.loop-info.invariant c.in_ok-add_event.ensures.made)

pub returns-in_err-add_event-clause-refused : goal.returns-in_err-add_event-clause-refused
returns-in_err-add_event-clause-refused c =
    let m = c.args.methods.now in
    let is = c.args.infos.now in
    let es = c.args.events.now in
    let k = length c.loop-info.yielded in
    let i = c.in-Some.info.now in
    let e = c.in-Some.event.now in
    let error = c.in_err-add_event.field-0.0 in
    let t = zip_turn is es c.loop-info.yielded _ c.loop-info.info-iterator c.next.new.self c.next.result (cc) (cc) c.loop-info.yielded_by (c.in-Some.info, c.in-Some.event) c.in-Some.is c.next.ensures.steps in
    err_same (IsRefused c.args.code.now (events_uses es) (λ all. event_functions m all is es)) c.from_residual.result error c.from_residual.ensures.1
    (events_refused m is es k i e t.0 t.1 (t.2 i) (t.3 e) error c.loop-info.invariant c.in_err-add_event.ensures.refused)

pub returns-clause-made : goal.returns-clause-made
returns-clause-made c =
    let m = c.args.methods.now in
    let is = c.args.infos.now in
    let es = c.args.events.now in
    let k = length c.loop-info.yielded in
    let n = zip_end is es c.loop-info.yielded _ c.loop-info.info-iterator c.next.new.self c.next.result (cc) (cc) c.loop-info.yielded_by c.in-None.is c.next.ensures.steps in
    let count = c.requires.count in
    let all_infos = take_all k is (omega (arith, n, count)) in
    let all_events = take_all k es (omega (arith, n, count)) in
    subst (λ xs. Adds c.args.code.now c.loop-info.code (events_uses es) (λ all. event_functions m all xs es)) all_infos
    (subst (λ xs. Adds c.args.code.now c.loop-info.code (events_uses xs) (λ all. event_functions m all (take k is) xs)) all_events c.loop-info.invariant)
