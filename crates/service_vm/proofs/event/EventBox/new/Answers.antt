use Rattle.std.proofs.Common.{◌≡◌, ◌++◌, [], ap, sym, ◌∙◌, subst, drop, map, if◌then◌else◌, arith, false, true, refl}
use Rattle.std.specs.Prelude.{Result, Ok, Err, is_ok, is_some, slice_get}
use Rattle.deferred_out.specs.Kept.{nothing}
use Rattle.service_code.specs.declared.program.Program.{Program}
use Rattle.service_verify.specs.Boxes.{Frame, blank_of, first_locals, first_frame, first_box}
use Rattle.service_verify.specs.Standing.{Stands}
use Rattle.service_verify.proofs.Locals.{begins}
use Rattle.service_vm.specs.Boxes.{event_in}
use Rattle.service_vm.proofs.Events.{function_of_event, args_few, first_is}
use Rattle.service_vm.proofs.event.EventBox.new.Goals as goal

pub function-function-requires : goal.function-function-requires
function-function-requires c =
    let e = c.program-program.ensures.program in
    ap (λ (q : Program). is_some (slice_get q.functions c.event_function-number.result)) e
    ∙ function_of_event c.args.program.now c.requires.fit c.args.call c.requires.call c.event_function-number.result (ap (λ (q : Program). slice_get q.events c.args.call.event) (sym e) ∙ c.event_function-number.ensures)

pub blanks-requires : goal.blanks-requires
blanks-requires c =
    let e = c.program-program.ensures.program in
    let few = args_few c.args.program.now c.requires.fit c.args.call c.requires.call c.event_function-number.result (ap (λ (q : Program). slice_get q.events c.args.call.event) (sym e) ∙ c.event_function-number.ensures) c.function-function.result.now (ap (λ (q : Program). slice_get q.functions c.event_function-number.result) (sym e) ∙ c.function-function.ensures) in
    omega (arith, few, c.len.ensures)

-- what was not refused
went_well : {E : Type 0} (r : Result (Unit {0}) E) → ((e : E) → r ≡ Err e → ⊥) → is_ok r ≡ true
went_well (Ok u) h = refl
went_well (Err e) h = absurd (h e refl)

-- the event that comes out
event_is : (c : goal.After-drop-blanks-2) → event_in false c.first-run.result ≡ record { box = first_box c.args.program.now c.args.call; levels = [] }
event_is c =
    let e = c.program-program.ensures.program in
    let function = c.function-function.result.now in
    let known = ap (λ (q : Program). slice_get q.events c.args.call.event) (sym e) ∙ c.event_function-number.ensures in
    let there = ap (λ (q : Program). slice_get q.functions c.event_function-number.result) (sym e) ∙ c.function-function.ensures in
    let locals : c.append.new.self.items ≡ first_locals function c.args.call.args =
    c.append.ensures.items
    ∙ ap (λ b. if b then c.into_vec-locals.result.items ++ c.in-Ok.blanks.items else c.into_vec-locals.result.items) (went_well c.append.result c.in_default.not-Err)
    ∙ (λ i. c.into_vec-locals.ensures i ++ c.in-Ok.ensures i)
    ∙ ap (λ n. c.args.call.args ++ map blank_of (drop n function.locals)) c.len.ensures in
    let first : Frame = record { function = c.event_function-number.result; place = 0; stack = []; locals = c.append.new.self.items; down = false } in
    let top : first ≡ first_frame c.event_function-number.result function c.args.call.args false =
    ap (λ ls. record { function = c.event_function-number.result; place = 0; stack = []; locals = ls; down = false }) locals in
    ap (event_in false) c.first-run.ensures
    ∙ first_is c.args.program.now c.requires.fit c.args.call c.requires.call c.event_function-number.result known function (record { top = first; below = [] }) [] c.in-Ok-root.held nothing [] there top refl refl c.in-Ok-root.ensures refl refl

pub returns-clause-event : goal.returns-clause-event
returns-clause-event c = event_is c

pub returns-clause-stands : goal.returns-clause-stands
returns-clause-stands c =
    subst (Stands c.args.program.now [] 0) (sym (event_is c))
    (begins c.args.program.now c.requires.fit c.program-program.ensures.verified c.args.call c.requires.call c.requires.generation)
