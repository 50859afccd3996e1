use Rattle.std.proofs.Common.{◌≡◌, true, Ok, Err, rules, ap, sym, subst, ◌∙◌}
use Rattle.context_tree.specs.Contexts.{tree_of as shown}
use Rattle.wave_base.specs.Paths.{parent_of}
use Rattle.wave_base.specs.Shapes.{is_path}
use Rattle.wave_base.specs.Tree.{there}
use Rattle.resolved_service.specs.Meaning.{Done, and_then, with_world, release}
use Rattle.resolved_service.specs.World.{child, after_change, entering, releasing}
use Rattle.service_eval.specs.inner.Machines.{Mach, state_of}
use Rattle.service_eval.specs.inner.Ready.{Ready}
use Rattle.service_eval.specs.inner.Turns.{mach}
use Rattle.service_eval.specs.Worlds.{Holds}
use Rattle.service_eval.specs.inner.Traces.{world_of, uncounted_outcome, Changes}
use Rattle.service_eval.specs.inner.Parts.{went_down}
use Rattle.service_eval.proofs.CallLemmas.{world_fails}
use Rattle.service_eval.proofs.Outcomes.{traps_fail}
use Rattle.service_eval.proofs.DownLemmas.{is_child, down_path, down_parent, down_known, down_ready}
use Rattle.service_eval.proofs.PathLemmas.{short_path}
use Rattle.service_eval.proofs.event.go_down.Goals as goal

pub child-path-requires : goal.child-path-requires
child-path-requires c = short_path c.args.code.shape.now c.requires.shape c.args.m.now.path c.args.phase.now.class.0 c.requires.rests.ready.path c.requires.fits

pub enter-requires-clause-path : goal.enter-requires-clause-path
enter-requires-clause-path c =
    let p = is_child c.args.m.now.path c.args.phase.now.class c.key_of.result c.args.key.now c.child-path.result (search rules) c.child-path.ensures c.key_of.ensures in
    subst (λ q. is_path c.args.code.shape.now q ≡ true) (sym p) (down_path c.args.code.shape.now c.args.code.methods.now (mach c.args.code c.args.contexts.now c.args.m.now) c.requires.rests.ready c.requires.rests.items c.args.phase.now.class.0 c.args.key.now c.requires.fits)

pub enter-requires-clause-parent : goal.enter-requires-clause-parent
enter-requires-clause-parent c =
    let p = is_child c.args.m.now.path c.args.phase.now.class c.key_of.result c.args.key.now c.child-path.result (search rules) c.child-path.ensures c.key_of.ensures in
    subst (λ q. there (shown c.args.code.shape.now c.args.contexts.now) (parent_of q) ≡ true) (sym p) (down_parent c.args.code.shape.now c.args.code.methods.now (mach c.args.code c.args.contexts.now c.args.m.now) c.requires.rests.ready c.requires.rests.items c.args.phase.now.class.0 c.args.key.now c.requires.fits)

pub returns-in-Err-clause-comes : goal.returns-in-Err-clause-comes
returns-in-Err-clause-comes c =
    let T = shown c.args.code.shape.now c.args.contexts.now in
    let U = shown c.args.code.shape.now c.enter.new.contexts in
    let p = is_child c.args.m.now.path c.args.phase.now.class c.key_of.result c.args.key.now c.child-path.result (search rules) c.child-path.ensures c.key_of.ensures in
    let q = child c.args.m.now.path c.args.phase.now.class.0 c.args.key.now in
    traps_fail (went_down q c.args.phase.now.at (state_of T c.args.m.now)) c.in-Err.e (world_of U c.enter.new.trace)
    (world_fails (entering q (world_of T c.args.m.now.trace)) c.args.phase.now.at (state_of T c.args.m.now) (λ _. release q) c.in-Err.e (world_of U c.enter.new.trace)
    (subst (λ q. Changes (entering q (world_of T c.args.m.now.trace)) c.args.phase.now.at (world_of T c.args.m.now.trace) (Err c.in-Err.e) (world_of U c.enter.new.trace)) p c.in-Err.ensures.enters))

pub returns-in-Err-clause-holds : goal.returns-in-Err-clause-holds
returns-in-Err-clause-holds c = subst (λ t. Holds c.args.code.shape.now (shown c.args.code.shape.now t)) (sym c.in-Err.ensures.err) c.requires.rests.ready.holds

pub returns-clause-comes : goal.returns-clause-comes
returns-clause-comes c =
    let T = shown c.args.code.shape.now c.args.contexts.now in
    let U = shown c.args.code.shape.now c.enter.new.contexts in
    let p = is_child c.args.m.now.path c.args.phase.now.class c.key_of.result c.args.key.now c.child-path.result (search rules) c.child-path.ensures c.key_of.ensures in
    let q = child c.args.m.now.path c.args.phase.now.class.0 c.args.key.now in
    let v = world_of U c.enter.new.trace in
    let e : entering q (world_of T c.args.m.now.trace) ≡ Ok (after_change v) = subst (λ q. entering q (world_of T c.args.m.now.trace) ≡ Ok (after_change v)) p c.in-Ok.ensures.enters in
    ap (λ a. uncounted_outcome (and_then (with_world a c.args.phase.now.at (state_of T c.args.m.now)) (λ _. release q))) e
    ∙ ap (λ w. Done tt (record { locals = c.args.m.now.locals.items; world = w })) (sym (c.release.ensures U ∙ ap (λ q. releasing q v) p))

pub returns-clause-rests : goal.returns-clause-rests
returns-clause-rests c =
    let T = shown c.args.code.shape.now c.args.contexts.now in
    let U = shown c.args.code.shape.now c.enter.new.contexts in
    let p = is_child c.args.m.now.path c.args.phase.now.class c.key_of.result c.args.key.now c.child-path.result (search rules) c.child-path.ensures c.key_of.ensures in
    let q = child c.args.m.now.path c.args.phase.now.class.0 c.args.key.now in
    let v = world_of U c.enter.new.trace in
    let m = mach c.args.code c.args.contexts.now c.args.m.now in
    let e : entering q (world_of T c.args.m.now.trace) ≡ Ok (after_change v) = subst (λ q. entering q (world_of T c.args.m.now.trace) ≡ Ok (after_change v)) p c.in-Ok.ensures.enters in
    let w = c.release.ensures U ∙ ap (λ q. releasing q v) p in
    record {
      ready = subst (λ (m : Mach). Ready c.args.code.shape.now c.args.code.methods.now m) (λ i. record { items = m.items; values = m.values; path = sym p i; state = record { locals = m.state.locals; world = sym w i } })
          (down_ready c.args.code.shape.now c.args.code.methods.now m c.requires.rests.ready c.requires.rests.items c.args.phase.now.class.0 c.args.key.now c.requires.fits v m.values e);
      items = c.requires.rests.items;
      values = c.requires.rests.values;
    }

pub returns-clause-place : goal.returns-clause-place
returns-clause-place c = is_child c.args.m.now.path c.args.phase.now.class c.key_of.result c.args.key.now c.child-path.result (search rules) c.child-path.ensures c.key_of.ensures

pub returns-clause-holds : goal.returns-clause-holds
returns-clause-holds c =
    let T = shown c.args.code.shape.now c.args.contexts.now in
    let U = shown c.args.code.shape.now c.enter.new.contexts in
    let p = is_child c.args.m.now.path c.args.phase.now.class c.key_of.result c.args.key.now c.child-path.result (search rules) c.child-path.ensures c.key_of.ensures in
    let q = child c.args.m.now.path c.args.phase.now.class.0 c.args.key.now in
    let v = world_of U c.enter.new.trace in
    let e : entering q (world_of T c.args.m.now.trace) ≡ Ok (after_change v) = subst (λ q. entering q (world_of T c.args.m.now.trace) ≡ Ok (after_change v)) p c.in-Ok.ensures.enters in
    (down_known c.args.code.shape.now c.args.code.methods.now (mach c.args.code c.args.contexts.now c.args.m.now) c.requires.rests.ready c.requires.rests.items c.args.phase.now.class.0 c.args.key.now c.requires.fits v e).holds
