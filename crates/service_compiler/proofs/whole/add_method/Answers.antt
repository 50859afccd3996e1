use Rattle.std.proofs.Common.{◌∷◌, [], false, List, length, map, ap, ◌∙◌}
use Rattle.code_scheme.specs.declared.line.Line.{Line}
use Rattle.code_scheme.specs.Programs.{method_function}
use Rattle.code_scheme.specs.Scheme.{method_code}
use Rattle.code_scheme.specs.Texts.{Text, method_uses}
use Rattle.service_compiler.specs.inner.Functions.{IsRefused}
use Rattle.service_compiler.proofs.FunctionLists.{function_added, function_refused, method_long}
use Rattle.service_compiler.proofs.HeightLemmas.{capped_same, method_within}
use Rattle.service_compiler.proofs.Notes.{err_same}
use Rattle.service_compiler.proofs.whole.add_method.Goals as goal

pub returns-clause-made : goal.returns-clause-made
returns-clause-made c =
    let m = c.args.methods.now in
    let one = c.args.method.now in
    function_added c.args.code.now c.emit_method.new.code (method_uses one) (λ (all : List Text). method_code m all one) (λ (all : List Text). method_function m all one) c.requires.ready c.in_ok-emit_method.ensures (method_long m one)
    c.finish.new.self _ c.in_ok-check_length.ensures.short (λ all short lines.
    let stack = capped_same c.height_of_method.result _ (length (method_code m all one)) c.height_of_method.ensures (method_within m all one) short in
    λ i. record {
      name = c.in_ok-copy.ensures i;
      class = one.class;
      is_event = false;
      args = c.in_ok-copy-2.ensures i;
      result = one.result;
      locals = c.in_ok-copy-3.ensures i;
      stack = stack i;
      code = (c.in_ok-instrs_of.ensures ∙ ap (map (λ (l : Line). l.instr)) (c.lines.ensures ∙ lines)) i;
      places = (c.in_ok-places_of.ensures ∙ ap (map (λ (l : Line). l.place)) (c.lines-2.ensures ∙ lines)) i;
    })
    c.in_ok-finish.ensures

pub returns-in_err-check_length-clause-refused : goal.returns-in_err-check_length-clause-refused
returns-in_err-check_length-clause-refused c =
    let m = c.args.methods.now in
    let one = c.args.method.now in
    let error = c.in_err-check_length.field-0.0 in
    err_same (IsRefused c.args.code.now (method_uses one) (λ all. method_function m all one ∷ [])) c.from_residual-in_err-check_length.result error c.from_residual-in_err-check_length.ensures.1
    (function_refused c.args.code.now c.emit_method.new.code (method_uses one) (λ (all : List Text). method_code m all one) (λ (all : List Text). method_function m all one) c.requires.ready c.in_ok-emit_method.ensures (method_long m one) error c.in_err-check_length.ensures.long)
