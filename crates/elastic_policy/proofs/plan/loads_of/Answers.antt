use Rattle.std.proofs.Common.{◌≡◌, ◌∙◌, ◌++◌, ◌∷◌, [], ap, get_or, length, length-append, arith}
use Rattle.std.specs.List.{zip}
use Rattle.elastic_policy.proofs.Looking.{looked_all, looked_no, looked_yes}
use Rattle.elastic_policy.proofs.plan.loads_of.Goals as goal
use Rattle.elastic_policy.proofs.plan.loads_of.Goals.{then-loads-i-gt0+in_ok-push+in_ok-push-2, else-loads-i-gt0}

pub loop-i-preserved : goal.loop-i-preserved
loop-i-preserved c =
    let ps = c.args.places.now in
    let ls = c.args.loads.now in
    let i = c.loop-i.i in
    let d = c.index-places-i.result in
    let now = c.loop-i.invariant in
    elim c.if-loads-i-gt0.branch [
      | then-loads-i-gt0+in_ok-push+in_ok-push-2 w ↦
          let places : c.if-loads-i-gt0.some.items ≡ c.loop-i.some.items ++ d ∷ [] = ap (λ v. v.items) w.some-is ∙ w.in_ok-push.ensures.items in
          let loads : c.if-loads-i-gt0.its.items ≡ c.loop-i.its.items ++ get_or ls i 0 ∷ [] = ap (λ v. v.items) w.its-is ∙ w.in_ok-push-2.ensures.items in
          record {
            paired = omega (arith, ap length places, ap length loads, length-append c.loop-i.some.items (d ∷ []), length-append c.loop-i.its.items (get_or ls i 0 ∷ []), now.paired);
            found = (λ j. zip (places j) (loads j)) ∙ looked_yes c.loop-i.some.items c.loop-i.its.items ps ls i d c.requires (omega arith) c.index-places-i.is w.if-loads-i-gt0.true now.paired now.found;
          }
      | else-loads-i-gt0 w ↦
          let places : c.if-loads-i-gt0.some.items ≡ c.loop-i.some.items = ap (λ v. v.items) w.some-is in
          let loads : c.if-loads-i-gt0.its.items ≡ c.loop-i.its.items = ap (λ v. v.items) w.its-is in
          record {
            paired = omega (arith, ap length places, ap length loads, now.paired);
            found = (λ j. zip (places j) (loads j)) ∙ looked_no c.loop-i.some.items c.loop-i.its.items ps ls i d c.requires (omega arith) w.if-loads-i-gt0.false now.found;
          }
    ]

pub returns-clause-found : goal.returns-clause-found
returns-clause-found c = looked_all c.loop-i.some.items c.loop-i.its.items c.args.places.now c.args.loads.now c.loop-i.i c.requires (omega arith) c.loop-i.invariant.found
