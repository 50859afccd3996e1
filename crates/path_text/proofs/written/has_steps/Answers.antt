use Rattle.std.proofs.Common.{◌≡◌, ◌<◌, ◌∷◌, [], length, sym, ap, subst, ◌∙◌, arith}
use Rattle.std.proofs.lemmas.Bool.{false≢true}
use Rattle.std.proofs.lemmas.Bool.Decides.{nat_tests}
use Rattle.path_text.specs.Steps.{HasSteps}
use Rattle.path_text.proofs.StepLemmas.{AreSomeTo, one_more, some_read, none_there, no_text, is_nil, filled, is_filled}
use Rattle.path_text.proofs.written.has_steps.Goals as goal

pub returns-in_default : goal.returns-in_default
returns-in_default c =
    let some : 0 < length c.loop-rest.rest.now = grind (arith, nat_tests) in
    let none = none_there c.args.text.now c.loop-rest.rest.now c.loop-rest.invariant.front c.loop-rest.invariant.read some c.in_default.ensures.none (λ e. false≢true (sym c.if-is_root.false ∙ c.is_root.ensures.1 e)) in
    ((λ e. absurd (false≢true e)), (λ w. absurd (none w.0 w.1)))

pub loop-rest-preserved : goal.loop-rest-preserved
loop-rest-preserved c =
    one_more c.args.text.now c.loop-rest.rest.now c.in-Some.after.now (record { name = c.in-Some.field-0-0.now; key = c.in-Some.field-0-1.now }) c.loop-rest.invariant c.in-Some.ensures.some

pub returns : goal.returns
returns c =
    let end : c.loop-rest.rest.now ≡ [] = is_nil c.loop-rest.rest.now c.loop-rest-test.ensures in
    let root : c.args.text.now ≡ 47 ∷ [] → ⊥ = λ e. false≢true (sym c.if-is_root.false ∙ c.is_root.ensures.1 e) in (
      (λ e. some_read c.args.text.now (subst (AreSomeTo c.args.text.now) end c.loop-rest.invariant) (filled c.args.text.now c.is_empty-2.result c.is_empty-2.ensures e) root),
      (λ w. is_filled c.args.text.now c.is_empty-2.result c.is_empty-2.ensures (λ n. no_text w.0 (subst (λ t. HasSteps t w.0) n w.1))),
    )
