use Rattle.std.proofs.Common.{◌≡◌, ◌<◌, ◌-◌, ◌^◌, ℕ, suc, Some, None, ap, sym, subst, ◌∙◌, refl, arith}
use Rattle.std.specs.Prelude.{All}
use Rattle.context_tree.specs.Contexts.{tree_of}
use Rattle.wave_base.specs.declared.outcome.EventResult.{EventResult}
use Rattle.service_verify.specs.Copies.{Trip, trip_after, first_trip}
use Rattle.service_verify.specs.Tours.{Tour, most_segments}
use Rattle.code_runner.specs.Coded.{IsTree, IsJob}
use Rattle.code_runner.specs.inner.Walks.{Walks, trip_of}
use Rattle.code_runner.proofs.Walking.{walks, few, follows_on, is_all, ended}
use Rattle.code_runner.proofs.Meant.{same_result}
use Rattle.code_runner.proofs.run.run_call.Goals as goal

pub under_way-init : goal.under_way-init
unfolding trip_after
under_way-init c = record { verified = c.start.ensures.verified; stays = c.start.ensures.stays; follows = c.in_ok-walk.ensures.first ∙ sym (ap (λ n. trip_after c.args.program.now n (first_trip c.args.program.now c.args.call.now (tree_of c.args.program.now.shape c.args.contexts.now))) (ap (λ (t : Trip). t.tour.segments) c.in_ok-walk.ensures.first)) }

pub step-requires-clause-walks : goal.step-requires-clause-walks
step-requires-clause-walks c =
    let p = c.args.program.now in
    let is = c.under_way.invariant.follows in
    subst (Walks p) (sym is)
    (walks p c.requires.fit c.under_way.invariant.verified c.args.call.now (tree_of p.shape c.args.contexts.now) (c.requires.call, c.requires.generation) c.requires.tree c.requires.root c.under_way.walk.segments (ap (λ (t : Trip). t.tour.result) (sym is)))

most_small : (a m : ℕ) → a < m → m ≡ 200009 → a < 2 ^ 63
most_small a m h e = omega (arith, h, e)

pub step-requires-clause-few : goal.step-requires-clause-few
step-requires-clause-few c =
    let p = c.args.program.now in
    let is = c.under_way.invariant.follows in
    most_small c.under_way.walk.segments (most_segments p)
    (few p c.requires.fit c.under_way.invariant.verified c.args.call.now (tree_of p.shape c.args.contexts.now) (c.requires.call, c.requires.generation) c.requires.tree c.requires.root c.under_way.walk.segments (ap (λ (t : Trip). t.tour.result) (sym is)))
    refl

fewer : (a b m : ℕ) → b ≡ suc a → a < m → m - b < m - a
fewer a b m e h = omega (arith, e, h)

pub under_way-smaller : goal.under_way-smaller
under_way-smaller c =
    let p = c.args.program.now in
    let is = c.under_way.invariant.follows in
    fewer c.under_way.walk.segments c.step.new.self.segments (most_segments p) c.in_ok-result.ensures.segments
    (few p c.requires.fit c.under_way.invariant.verified c.args.call.now (tree_of p.shape c.args.contexts.now) (c.requires.call, c.requires.generation) c.requires.tree c.requires.root c.under_way.walk.segments (ap (λ (t : Trip). t.tour.result) (sym is)))

pub under_way-preserved : goal.under_way-preserved
under_way-preserved c =
    let p = c.args.program.now in
    record {
      verified = c.under_way.invariant.verified;
      stays = λ p h. c.step.ensures.stays p (c.under_way.invariant.stays p h);
      follows = follows_on p c.requires.fit c.under_way.invariant.verified c.args.call.now (tree_of p.shape c.args.contexts.now) (c.requires.call, c.requires.generation) c.requires.tree c.requires.root c.under_way.walk.segments c.step.new.self.segments (trip_of c.under_way.walk (tree_of p.shape c.under_way.contexts) None)
          (trip_of c.step.new.self (tree_of p.shape c.step.new.contexts) None)
          c.under_way.invariant.follows (ap (trip_of c.step.new.self (tree_of p.shape c.step.new.contexts)) (sym c.in_default.is) ∙ c.in_ok-result.ensures.next) c.in_ok-result.ensures.segments;
    }

pub returns-in-Some-clause-result : goal.returns-in-Some-clause-result
returns-in-Some-clause-result c =
    let p = c.args.program.now in
    let whole = is_all p c.requires.fit c.under_way.invariant.verified c.args.call.now (tree_of p.shape c.args.contexts.now) (c.requires.call, c.requires.generation) c.requires.tree c.requires.root c.under_way.walk.segments c.step.new.self.segments (trip_of c.under_way.walk (tree_of p.shape c.under_way.contexts) None)
    (trip_of c.step.new.self (tree_of p.shape c.step.new.contexts) (Some c.in-Some.result)) c.in-Some.result
    c.under_way.invariant.follows (ap (trip_of c.step.new.self (tree_of p.shape c.step.new.contexts)) (sym c.in-Some.is) ∙ c.in_ok-result.ensures.next) c.in_ok-result.ensures.segments refl in
    sym (ap (λ (t : Tour). t.result) whole)

pub returns-in-Some-clause-tree : goal.returns-in-Some-clause-tree
returns-in-Some-clause-tree c =
    let p = c.args.program.now in
    let whole = is_all p c.requires.fit c.under_way.invariant.verified c.args.call.now (tree_of p.shape c.args.contexts.now) (c.requires.call, c.requires.generation) c.requires.tree c.requires.root c.under_way.walk.segments c.step.new.self.segments (trip_of c.under_way.walk (tree_of p.shape c.under_way.contexts) None)
    (trip_of c.step.new.self (tree_of p.shape c.step.new.contexts) (Some c.in-Some.result)) c.in-Some.result
    c.under_way.invariant.follows (ap (trip_of c.step.new.self (tree_of p.shape c.step.new.contexts)) (sym c.in-Some.is) ∙ c.in_ok-result.ensures.next) c.in_ok-result.ensures.segments refl in
    ap (λ (t : Tour). t.tree) whole

pub returns-in-Some-clause-entered : goal.returns-in-Some-clause-entered
returns-in-Some-clause-entered c =
    let p = c.args.program.now in
    let whole = is_all p c.requires.fit c.under_way.invariant.verified c.args.call.now (tree_of p.shape c.args.contexts.now) (c.requires.call, c.requires.generation) c.requires.tree c.requires.root c.under_way.walk.segments c.step.new.self.segments (trip_of c.under_way.walk (tree_of p.shape c.under_way.contexts) None)
    (trip_of c.step.new.self (tree_of p.shape c.step.new.contexts) (Some c.in-Some.result)) c.in-Some.result
    c.under_way.invariant.follows (ap (trip_of c.step.new.self (tree_of p.shape c.step.new.contexts)) (sym c.in-Some.is) ∙ c.in_ok-result.ensures.next) c.in_ok-result.ensures.segments refl in
    c.from_vec.ensures ∙ ap (λ (t : Tour). t.entered) whole

pub returns-in-Some-clause-fits : goal.returns-in-Some-clause-fits
returns-in-Some-clause-fits c =
    let p = c.args.program.now in
    let whole = is_all p c.requires.fit c.under_way.invariant.verified c.args.call.now (tree_of p.shape c.args.contexts.now) (c.requires.call, c.requires.generation) c.requires.tree c.requires.root c.under_way.walk.segments c.step.new.self.segments (trip_of c.under_way.walk (tree_of p.shape c.under_way.contexts) None)
    (trip_of c.step.new.self (tree_of p.shape c.step.new.contexts) (Some c.in-Some.result)) c.in-Some.result
    c.under_way.invariant.follows (ap (trip_of c.step.new.self (tree_of p.shape c.step.new.contexts)) (sym c.in-Some.is) ∙ c.in_ok-result.ensures.next) c.in_ok-result.ensures.segments refl in
    let e = ended p c.requires.fit c.under_way.invariant.verified c.args.call.now (tree_of p.shape c.args.contexts.now) (c.requires.call, c.requires.generation) c.requires.tree c.requires.root in
    subst (IsTree p.shape) (sym (ap (λ (t : Tour). t.tree) whole)) (e.fits, e.root)

pub returns-in-Some-clause-created : goal.returns-in-Some-clause-created
returns-in-Some-clause-created c =
    let p = c.args.program.now in
    let whole = is_all p c.requires.fit c.under_way.invariant.verified c.args.call.now (tree_of p.shape c.args.contexts.now) (c.requires.call, c.requires.generation) c.requires.tree c.requires.root c.under_way.walk.segments c.step.new.self.segments (trip_of c.under_way.walk (tree_of p.shape c.under_way.contexts) None)
    (trip_of c.step.new.self (tree_of p.shape c.step.new.contexts) (Some c.in-Some.result)) c.in-Some.result
    c.under_way.invariant.follows (ap (trip_of c.step.new.self (tree_of p.shape c.step.new.contexts)) (sym c.in-Some.is) ∙ c.in_ok-result.ensures.next) c.in_ok-result.ensures.segments refl in
    let e = ended p c.requires.fit c.under_way.invariant.verified c.args.call.now (tree_of p.shape c.args.contexts.now) (c.requires.call, c.requires.generation) c.requires.tree c.requires.root in
    subst (λ (r : EventResult). All (IsJob p) r.created) (same_result e.result c.in-Some.result (sym e.is ∙ sym (ap (λ (t : Tour). t.result) whole))) e.created

pub returns-in-Some-clause-segments : goal.returns-in-Some-clause-segments
returns-in-Some-clause-segments c =
    let p = c.args.program.now in
    let whole = is_all p c.requires.fit c.under_way.invariant.verified c.args.call.now (tree_of p.shape c.args.contexts.now) (c.requires.call, c.requires.generation) c.requires.tree c.requires.root c.under_way.walk.segments c.step.new.self.segments (trip_of c.under_way.walk (tree_of p.shape c.under_way.contexts) None)
    (trip_of c.step.new.self (tree_of p.shape c.step.new.contexts) (Some c.in-Some.result)) c.in-Some.result
    c.under_way.invariant.follows (ap (trip_of c.step.new.self (tree_of p.shape c.step.new.contexts)) (sym c.in-Some.is) ∙ c.in_ok-result.ensures.next) c.in_ok-result.ensures.segments refl in
    ap (λ (t : Tour). t.segments) whole
