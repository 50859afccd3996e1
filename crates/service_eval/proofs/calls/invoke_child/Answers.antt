use Rattle.std.proofs.Common.{◌≡◌, ℕ, ℤ, zero, suc, refl, rules, w64, FitsSigned, to_z, of_z, ◌++◌, [], ◌∷◌, true, List, drop, take, Ok, Err, ap, sym, subst, ◌∙◌}
use Rattle.std.proofs.lemmas.Result.{on_ok_weaker}
use Rattle.std.proofs.lemmas.Int.{to_z-of_z}
use Rattle.std.specs.List.{All}
use Rattle.context_tree.specs.Contexts.{tree_of as shown}
use Rattle.wave_base.specs.declared.path.Class.{Class}
use Rattle.wave_base.specs.declared.path.Path.{Path}
use Rattle.wave_base.specs.declared.shape.Shape.{Shape}
use Rattle.wave_base.specs.declared.span.Span.{Span}
use Rattle.wave_base.specs.declared.value.Value.{Value}
use Rattle.wave_base.specs.Paths.{parent_of}
use Rattle.wave_base.specs.Shapes.{IsShape, is_path}
use Rattle.wave_base.specs.Tree.{there}
use Rattle.resolved_service.specs.declared.service.Method.{Method}
use Rattle.resolved_service.specs.World.{World, key_of, child, after_change, ticking, entering}
use Rattle.service_eval.specs.inner.Ready.{Ready}
use Rattle.service_eval.specs.inner.Items.{Child}
use Rattle.service_eval.specs.inner.Machines.{Mach, mach_of, on_top, cut_to, in_world, method_start, own, comes_to}
use Rattle.service_eval.specs.inner.Turns.{mach}
use Rattle.service_eval.specs.Worlds.{Holds}
use Rattle.service_eval.specs.inner.Traces.{world_of, Changes, Fails}
use Rattle.service_eval.specs.inner.Weight.{load}
use Rattle.service_eval.proofs.LighterTurns.{child_ticked}
use Rattle.service_eval.proofs.CallLemmas as l
use Rattle.service_eval.proofs.CallTurns.{Entered, ready_child, entered, ticked}
use Rattle.service_eval.proofs.PathLemmas.{short_path, is_path-child, parent_of-child}
use Rattle.service_eval.proofs.ReadyLemmas.{turned_to}
use Rattle.service_eval.proofs.calls.invoke_child.Goals as goal

pub returns-in-Err : goal.returns-in-Err
returns-in-Err c =
    (l.no_child_tick c.args.code.methods.now (mach c.args.code c.args.contexts.now c.args.m.now) c.args.at c.args.callee.class.0 c.args.callee.method c.args.base c.in-Err.e _ (c.in-Err.ensures.changes (shown c.args.code.shape.now c.args.contexts.now)), c.requires.next.holds)

pub child-path-requires : goal.child-path-requires
child-path-requires c = short_path c.args.code.shape.now c.requires.shape c.args.m.now.path c.args.callee.class.0 c.requires.next.path c.requires.next.items.0.0

-- the path that is entered, by the key's value
is_child : (p : Path) (class : Class) (key : ℤ) (v : Value) (q : Path) → FitsSigned w64 key → q ≡ p ++ record { class = class; key = to_z w64 (of_z w64 key) } ∷ [] → key ≡ key_of v → q ≡ child p class.0 v
is_child p class key v q fits e k = e ∙ ap (λ z. p ++ record { class = class; key = z } ∷ []) (to_z-of_z w64 key fits ∙ k)

take_twice : {A : Type 0} (n : ℕ) (xs : List A) → take n (take (suc n) xs) ≡ take n xs
take_twice zero [] = refl
take_twice zero (x ∷ xs) = refl
take_twice (suc n) [] = refl
take_twice (suc n) (x ∷ xs) = ap (λ ys. x ∷ ys) (take_twice n xs)

-- what is known after the tick
module _ (shape : Shape) (methods : List Method) (is : IsShape shape) (m : Mach) (at : Span) (class number base : ℕ) (r : Ready shape methods (on_top (Child at class number base) m)) (w : World) (t : ticking m.state.world ≡ Ok w) where
  abbrev q : Path
  q = child m.path class (own 0 base m.values)

  same : w ≡ record m.state.world { ticks = w.ticks }
  same = (ticked m.state.world w t).1

  path_is : is_path shape q ≡ true
  path_is = is_path-child shape m.path (record { class = record { 0 = class }; key = key_of (own 0 base m.values) }) r.path r.items.0.0

  parent_is : there m.state.world.tree (parent_of q) ≡ true
  parent_is = subst (λ p. there m.state.world.tree p ≡ true) (sym (parent_of-child m.path (record { class = record { 0 = class }; key = key_of (own 0 base m.values) }))) r.here

  known : (v : World) → entering q w ≡ Ok (after_change v) → Entered shape q w v
  known v e =
      entered shape q w v (subst (λ (v : World). Holds shape v.tree) (sym same) r.holds) (subst (λ (v : World). All (λ q. there v.tree q ≡ true) v.held) (sym same) r.held) path_is
      (subst (λ (v : World). there v.tree (parent_of q) ≡ true) (sym same) parent_is) e

pub enter-requires-clause-path : goal.enter-requires-clause-path
enter-requires-clause-path c =
    let m = mach c.args.code c.args.contexts.now c.args.m.now in
    let p = is_child c.args.m.now.path c.args.callee.class c.key.result (own 0 c.args.base c.args.m.now.values.items) c.child-path.result (search rules) c.child-path.ensures c.key.ensures in
    subst (λ q. is_path c.args.code.shape.now q ≡ true) (sym p) (path_is c.args.code.shape.now c.args.code.methods.now c.requires.shape m c.args.at c.args.callee.class.0 c.args.callee.method c.args.base c.requires.next _ (c.in-Ok.ensures.changes (shown c.args.code.shape.now c.args.contexts.now)))

pub enter-requires-clause-parent : goal.enter-requires-clause-parent
enter-requires-clause-parent c =
    let m = mach c.args.code c.args.contexts.now c.args.m.now in
    let p = is_child c.args.m.now.path c.args.callee.class c.key.result (own 0 c.args.base c.args.m.now.values.items) c.child-path.result (search rules) c.child-path.ensures c.key.ensures in
    subst (λ q. there (shown c.args.code.shape.now c.args.contexts.now) (parent_of q) ≡ true) (sym p) (parent_is c.args.code.shape.now c.args.code.methods.now c.requires.shape m c.args.at c.args.callee.class.0 c.args.callee.method c.args.base c.requires.next _ (c.in-Ok.ensures.changes (shown c.args.code.shape.now c.args.contexts.now)))

pub returns-in-Err-enter : goal.returns-in-Err-enter
returns-in-Err-enter c =
    let T = shown c.args.code.shape.now c.args.contexts.now in
    let m = mach c.args.code c.args.contexts.now c.args.m.now in
    let p = is_child c.args.m.now.path c.args.callee.class c.key.result (own 0 c.args.base c.args.m.now.values.items) c.child-path.result (search rules) c.child-path.ensures c.key.ensures in (
      l.not_entered c.args.code.methods.now m c.args.at c.args.callee.class.0 c.args.callee.method c.args.base c.in-Err-enter.e (world_of T c.tick.new.self) _ (c.in-Ok.ensures.changes T)
          (subst (λ q. Changes (entering q (world_of T c.tick.new.self)) c.args.at (world_of T c.tick.new.self) (Err c.in-Err-enter.e) (world_of (shown c.args.code.shape.now c.enter.new.contexts) c.enter.new.trace)) p c.in-Err-enter.ensures.enters),
      subst (λ t. Holds c.args.code.shape.now (shown c.args.code.shape.now t)) (sym c.in-Err-enter.ensures.err) c.requires.next.holds,
    )

pub returns-in-Ok-take_others : goal.returns-in-Ok-take_others
returns-in-Ok-take_others c =
    let T = shown c.args.code.shape.now c.args.contexts.now in
    let U = shown c.args.code.shape.now c.enter.new.contexts in
    let m = mach c.args.code c.args.contexts.now c.args.m.now in
    let p = is_child c.args.m.now.path c.args.callee.class c.key.result (own 0 c.args.base c.args.m.now.values.items) c.child-path.result (search rules) c.child-path.ensures c.key.ensures in
    let v = world_of U c.enter.new.trace in
    let w = world_of T c.tick.new.self in
    let q = child m.path c.args.callee.class.0 (own 0 c.args.base m.values) in
    let is : entering q w ≡ Ok (after_change v) = subst (λ q. entering q w ≡ Ok (after_change v)) p c.in-Ok-enter.ensures.enters in
    let fact = known c.args.code.shape.now c.args.code.methods.now c.requires.shape m c.args.at c.args.callee.class.0 c.args.callee.method c.args.base c.requires.next w (c.in-Ok.ensures.changes T) v is in
    let rest : mach_of U c.cut.new.self ≡ cut_to c.args.base (in_world v m) = c.cut.ensures U ∙ ap (cut_to c.args.base) (c.in-Ok-take_others.ensures.rest U) ∙ ap (λ vs. record (in_world v m) { values = vs }) (take_twice c.args.base m.values) in
    turned_to c.args.code c.enter.new.contexts (on_top (Child c.args.at c.args.callee.class.0 c.args.callee.method c.args.base) m) (method_start c.method_at.result.now (drop (suc c.args.base) m.values) true (record (cut_to c.args.base (in_world v m)) { path = q })) c.start.new.m c.start.result
    (l.child_invoked c.args.code.methods.now m c.args.at c.requires.next.few c.method_at.result.now c.args.callee.class.0 c.args.callee.method c.args.base w v (c.in-Ok.ensures.changes T) is fact.ticks c.method_at.ensures)
    (ready_child c.args.code.shape.now c.args.code.methods.now c.requires.methods m c.args.callee.method c.method_at.result.now c.method_at.ensures c.args.at c.args.callee.class.0 c.args.base w v c.requires.shape c.requires.next (c.in-Ok.ensures.changes T) fact)
    fact.holds
    (on_ok_weaker c.start.result (λ h. h U ∙ (λ i. method_start c.method_at.result.now (c.in-Ok-take_others.ensures.values i) true (record (rest i) { path = p i }))) c.start.ensures.ok) c.start.ensures.err
    (load c.args.code.methods.now (on_top (Child c.args.at c.args.callee.class.0 c.args.callee.method c.args.base) m))
    (child_ticked c.args.code.methods.now m (record { locals = m.state.locals; world = v }) (take c.args.base m.values) ((ticked m.state.world w (c.in-Ok.ensures.changes T)).0 ∙ ap suc (sym fact.ticks)) q c.args.callee.method c.method_at.result.now (drop (suc c.args.base) m.values) true c.method_at.ensures c.args.at c.args.callee.class.0 c.args.base)

pub returns-in-Err-take_others : goal.returns-in-Err-take_others
returns-in-Err-take_others c =
    let T = shown c.args.code.shape.now c.args.contexts.now in
    let U = shown c.args.code.shape.now c.enter.new.contexts in
    let m = mach c.args.code c.args.contexts.now c.args.m.now in
    let p = is_child c.args.m.now.path c.args.callee.class c.key.result (own 0 c.args.base c.args.m.now.values.items) c.child-path.result (search rules) c.child-path.ensures c.key.ensures in
    let v = world_of U c.enter.new.trace in
    let w = world_of T c.tick.new.self in
    let is : entering (child m.path c.args.callee.class.0 (own 0 c.args.base m.values)) w ≡ Ok (after_change v) = subst (λ q. entering q w ≡ Ok (after_change v)) p c.in-Ok-enter.ensures.enters in (
      subst (λ e. Fails (comes_to c.args.code.methods.now (on_top (Child c.args.at c.args.callee.class.0 c.args.callee.method c.args.base) m)) e (world_of U c.take_others.new.self.trace)) (sym c.in-Err-take_others.ensures.err) tt,
      (known c.args.code.shape.now c.args.code.methods.now c.requires.shape m c.args.at c.args.callee.class.0 c.args.callee.method c.args.base c.requires.next w (c.in-Ok.ensures.changes T) v is).holds,
    )
