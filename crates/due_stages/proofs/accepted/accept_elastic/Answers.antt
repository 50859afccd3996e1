use Rattle.std.proofs.Common.{◌≡◌, Err, Some, IfSome, subst, sym}
use Rattle.input_parts.specs.Parts.{service_of, script_of}
use Rattle.due_parts.specs.Scripts.{IsDueBehind}
use Rattle.due_parts.proofs.DueLemmas.{typed_served}
use Rattle.due_stages.specs.Accepted.{IsAcceptedStaged}
use Rattle.due_stages.specs.Elastic.{IsDueElasticScript}
use Rattle.due_stages.proofs.AcceptLemmas.{refused_staged, shaped_typed, typed_staged}
use Rattle.due_stages.proofs.accepted.accept_elastic.Goals as goal

pub accept_script-requires : goal.accept_script-requires
accept_script-requires c = shaped_typed c.parts_of.result.0.now c.in-Ok.typed c.in-Ok.program c.in-Ok.ensures

pub returns-in-Ok : goal.returns-in-Ok
returns-in-Ok c =
    let input = c.args.input.now in
    let script = c.in-Some.script.now in
    let found : script_of input ≡ Some script = subst (λ o. IfSome o (λ s. script_of input ≡ Some s.now)) c.in-Some.is c.parts_of.ensures.script in
    let read = typed_served (service_of input) c.parts_of.result.0.now c.in-Ok.typed c.in-Ok.program c.parts_of.ensures.service c.in-Ok.ensures in
    subst (λ s. IsAcceptedStaged (λ places. IsDueBehind (IsDueElasticScript places) (service_of input) s) c.accept_script.result) (sym found)
    (typed_staged (λ places. IsDueElasticScript places script) (service_of input) c.in-Ok.typed c.in-Ok.program c.accept_script.result read c.accept_script.ensures)

pub returns-in-Err : goal.returns-in-Err
returns-in-Err c =
    let input = c.args.input.now in
    let script = c.in-Some.script.now in
    let found : script_of input ≡ Some script = subst (λ o. IfSome o (λ s. script_of input ≡ Some s.now)) c.in-Some.is c.parts_of.ensures.script in
    subst (λ s. IsAcceptedStaged (λ places. IsDueBehind (IsDueElasticScript places) (service_of input) s) (Err c.in-Err.refusal)) (sym found)
    (refused_staged (λ places. IsDueElasticScript places script) (service_of input) c.parts_of.result.0.now c.in-Err.refusal c.parts_of.ensures.service c.in-Err.ensures)
