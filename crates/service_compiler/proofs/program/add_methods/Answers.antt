use Rattle.std.proofs.Common.{map, take, sym, subst, arith}
use Rattle.std.proofs.lemmas.List.{length-map, length-take, take_all}
use Rattle.code_scheme.specs.Programs.{method_function}
use Rattle.code_scheme.specs.Texts.{methods_uses}
use Rattle.service_compiler.specs.Slots.{HasMethodSlots}
use Rattle.service_compiler.specs.inner.Functions.{Adds, IsRefused}
use Rattle.service_compiler.proofs.FunctionLists.{adds_none, adds_count, methods_next, methods_refused}
use Rattle.service_compiler.proofs.Notes.{err_same}
use Rattle.service_compiler.proofs.program.add_methods.Goals as goal

pub loop-method-init : goal.loop-method-init
loop-method-init c = adds_none c.args.code.now c.requires.ready

pub add_method-requires-clause-few : goal.add_method-requires-clause-few
add_method-requires-clause-few c =
    let few = c.requires.few in
    let within = c.loop-method-test.true in
    let made = take c.loop-method.method-index c.args.methods.now in
    omega (arith, few, within, adds_count c.loop-method.invariant, length-map made (method_function c.args.methods.now c.loop-method.code.texts), length-take c.loop-method.method-index c.args.methods.now)

pub add_method-requires-clause-ready : goal.add_method-requires-clause-ready
add_method-requires-clause-ready c = c.loop-method.invariant.ready

pub add_method-requires-clause-slots : goal.add_method-requires-clause-slots
add_method-requires-clause-slots c =
    subst HasMethodSlots (sym c.method-item.is) (c.requires.slots c.loop-method.method-index c.method-item.result c.loop-method-test.true)

pub loop-method-preserved : goal.loop-method-preserved
loop-method-preserved c =
    methods_next c.args.methods.now c.args.methods.now c.loop-method.method-index c.method-item.result c.loop-method-test.true c.method-item.is c.loop-method.invariant c.in_ok-add_method.ensures.made

pub returns-in_err-add_method-clause-refused : goal.returns-in_err-add_method-clause-refused
returns-in_err-add_method-clause-refused c =
    let m = c.args.methods.now in
    let error = c.in_err-add_method.field-0.0 in
    err_same (IsRefused c.args.code.now (methods_uses m) (λ all. map (method_function m all) m)) c.from_residual.result error c.from_residual.ensures.1
    (methods_refused m m c.loop-method.method-index c.method-item.result c.loop-method-test.true c.method-item.is error c.loop-method.invariant c.in_err-add_method.ensures.refused)

pub returns-clause-made : goal.returns-clause-made
returns-clause-made c =
    let m = c.args.methods.now in
    subst (λ ms. Adds c.args.code.now c.loop-method.code (methods_uses ms) (λ all. map (method_function m all) ms)) (take_all c.loop-method.method-index m c.loop-method-test.false) c.loop-method.invariant
