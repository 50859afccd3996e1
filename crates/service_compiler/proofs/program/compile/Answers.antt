use Rattle.std.proofs.Common.{length, refl, sym, ap, subst, ◌∙◌, arith}
use Rattle.std.specs.Prelude.{All}
use Rattle.std.proofs.lemmas.List.{length-map}
use Rattle.code_scheme.specs.Programs.{method_function, numbers_from}
use Rattle.service_compiler.specs.Faults.{Refuses}
use Rattle.service_compiler.specs.Slots.{HasMethodSlots, HasEventSlots}
use Rattle.service_compiler.specs.inner.Drafts.{Draft}
use Rattle.service_compiler.specs.inner.Functions.{AreShort}
use Rattle.service_compiler.proofs.FunctionLists.{adds_count, ready_new, all_added, methods_refuse, events_refuse, program_is}
use Rattle.service_compiler.proofs.Notes.{err_same}
use Rattle.service_compiler.proofs.program.compile.Goals as goal

pub add_methods-requires : goal.add_methods-requires
add_methods-requires c =
    let few = c.requires.few in
    record {
      few = omega (arith, few, ap (λ (d : Draft). length d.functions) c.new-code.ensures, ap length c.as_slice-methods.ensures);
      ready = ready_new c.new-code.result c.new-code.ensures;
      slots = subst (All HasMethodSlots) (sym c.as_slice-methods.ensures) c.requires.slots.methods;
    }

pub add_events-requires : goal.add_events-requires
add_events-requires c =
    let few = c.requires.few in
    let count = c.requires.events in
    let methods = c.as_slice-methods.result.now in
    let made = c.in_ok-add_methods.ensures.made in
    record {
      few = omega (
        arith,
        few,
        adds_count made,
        ap (λ (d : Draft). length d.functions) c.new-code.ensures,
        length-map methods (method_function methods c.add_methods.new.code.texts),
        ap length c.as_slice-methods.ensures,
        ap length c.as_slice-events.ensures,
      );
      ready = made.ready;
      count = omega (arith, count, ap length c.as_slice-events.ensures, ap length c.as_slice.ensures);
      slots = subst (All HasEventSlots) (sym c.as_slice-events.ensures) c.requires.slots.events;
    }

pub returns-in_err-add_methods-clause-refused : goal.returns-in_err-add_methods-clause-refused
returns-in_err-add_methods-clause-refused c =
    let shape = c.args.shape in
    let service = c.args.service.now in
    err_same (Refuses shape service) c.from_residual.result c.in_err-add_methods.field-0.0 c.from_residual.ensures.1
    (methods_refuse shape service c.new-code.result c.new-code.result c.as_slice-methods.result.now shape.events service.events c.new-code.ensures c.as_slice-methods.ensures refl refl
    c.in_err-add_methods.field-0.0 c.in_err-add_methods.ensures.refused)

pub returns-in_err-add_events-clause-refused : goal.returns-in_err-add_events-clause-refused
returns-in_err-add_events-clause-refused c =
    let shape = c.args.shape in
    let service = c.args.service.now in
    err_same (Refuses shape service) c.from_residual-in_err-add_events.result c.in_err-add_events.field-0.0 c.from_residual-in_err-add_events.ensures.1
    (events_refuse shape service c.new-code.result c.add_methods.new.code c.as_slice-methods.result.now c.as_slice.result.now c.as_slice-events.result.now
    c.new-code.ensures c.as_slice-methods.ensures c.as_slice.ensures c.as_slice-events.ensures
    c.in_err-add_events.field-0.0 c.in_ok-add_methods.ensures.made c.in_err-add_events.ensures.refused)

pub returns-clause-program : goal.returns-clause-program
returns-clause-program c =
    let shape = c.args.shape in
    let service = c.args.service.now in
    let made = all_added shape service c.new-code.result c.add_methods.new.code c.as_slice-methods.result.now c.as_slice.result.now c.as_slice-events.result.now
    c.new-code.ensures c.as_slice-methods.ensures c.as_slice.ensures c.as_slice-events.ensures
    c.add_events.new.code c.in_ok-add_methods.ensures.made c.in_ok-add_events.ensures.made in
    program_is shape service c.add_events.new.code made c.in_ok-functions.functions c.in_ok-functions.texts c.in_ok-numbers.numbers c.in_ok-functions.ensures.functions c.in_ok-functions.ensures.texts
    (c.in_ok-numbers.ensures ∙ (λ i. numbers_from (length (c.as_slice-methods.ensures i)) (length (c.as_slice-events.ensures i))))

pub returns-clause-small : goal.returns-clause-small
returns-clause-small c = record {
  functions = c.in_ok-functions.ensures.few;
  code = subst AreShort (sym c.in_ok-functions.ensures.functions) c.in_ok-add_events.ensures.made.ready.short;
}
