-- Parts of an event, begun and ended with nothing left to do.
use Rattle.std.proofs.Common.{◌≡◌, List, [], ◌∷◌, ◌++◌, Result, Ok, Err, OnOk, sym, ap, subst, ◌∙◌}
use Rattle.wave_base.specs.declared.limits.TheConstants.{TICKS}
use Rattle.wave_base.specs.declared.path.Path.{Path}
use Rattle.wave_base.specs.declared.value.Value.{Value}
use Rattle.context_tree.specs.Contexts.{Contexts, tree_of as shown}
use Rattle.resolved_service.specs.Meaning.{State, Outcome, Done, Trapped, Left, and_then, give, value, effects, call_act}
use Rattle.resolved_service.specs.Steps.{Steps}
use Rattle.resolved_service.specs.View.{Tree}
use Rattle.resolved_service.specs.World.{World}
use Rattle.service_eval.specs.declared.code.Code.{Code}
use Rattle.service_eval.specs.declared.machine.Machine.{Machine}
use Rattle.service_eval.specs.declared.stop.Stop.{Stop}
use Rattle.service_eval.specs.declared.stop.Stop.TheVariants as stop
use Rattle.service_eval.specs.inner.Parts.{Rests, Comes}
use Rattle.service_eval.specs.inner.Items.{Eval, Block}
use Rattle.service_eval.specs.inner.Machines.{Mach, Rest, rest_at, state_of, on_top, come_of, comes_to}
use Rattle.service_eval.specs.inner.Ready.{Turned}
use Rattle.service_eval.specs.inner.Turns.{mach, Ran}
use Rattle.service_eval.specs.Worlds.{Holds}
use Rattle.service_eval.specs.inner.Traces.{uncounted_world, uncounted_outcome, Fails}

-- the values that an outcome leaves, at a place
abbrev at_end : {A : Type 0} → Path → (A → List Value) → Outcome A → Outcome Rest
at_end p view o = and_then (and_then o (λ a. give (view a))) (λ vs. give (rest_at p vs))

abbrev blank : State → State
blank st = record { locals = st.locals; world = uncounted_world st.world }

ended : {A : Type 0} (p : Path) (view : A → List Value) (o : Outcome A) (r : Rest) (st : State) → uncounted_outcome (at_end p view o) ≡ uncounted_outcome (Done r st) → (a : A) × (uncounted_outcome o ≡ uncounted_outcome (Done a st)) × (rest_at p (view a) ≡ r)
ended p view (Done a s) r st e = let same : blank s ≡ blank st = cc in let rest : rest_at p (view a) ≡ r = cc in (a, ap (Done a) same, rest)
ended p view (Trapped k at w) r st e = absurd cc
ended p view (Left l s) r st e = absurd cc

failed : {A : Type 0} (p : Path) (view : A → List Value) (o : Outcome A) (e : Stop) (w : World) → Fails (uncounted_outcome (at_end p view o)) e w → Fails (uncounted_outcome o) e w
failed p view o (stop.OutOfMemory _) w h = tt
failed p view (Done a s) (stop.Trapped t) w h = absurd cc
failed p view (Trapped k at v) (stop.Trapped t) w h =
    let a : k ≡ t.kind = cc in let b : at ≡ t.at = cc in let c : uncounted_world v ≡ uncounted_world w = cc in λ i. Trapped (a i) (b i) (c i)
failed p view (Left l s) (stop.Trapped t) w h = absurd cc
failed p view (Done a s) (stop.Ended r) w h = let is : uncounted_outcome (Done (rest_at p (view a)) s) ≡ Left h.why h.state = h.is in absurd cc
failed p view (Trapped k at v) (stop.Ended r) w h = let is : ◌≡◌ {A = Outcome Rest} (uncounted_outcome (Trapped k at v)) (Left h.why h.state) = h.is in absurd cc
failed p view (Left l s) (stop.Ended r) w h =
    let is : ◌≡◌ {A = Outcome Rest} (uncounted_outcome (Left l s)) (Left h.why h.state) = h.is in
    let a : l ≡ h.why = cc in
    let b : blank s ≡ h.state = cc in
    record { why = h.why; state = h.state; is = λ i. Left (a i) (b i); replies = h.replies; leaves = h.leaves }

module _ (code : Code) (contexts contexts' : Contexts) (m : Machine) (begun : Mach) (m2 : Machine) (rests : Rests code contexts m) where
  abbrev st : State
  st = state_of (shown code.shape.now contexts) m

  abbrev ends : State
  ends = state_of (shown code.shape.now contexts') m2

  module _ (ss : Steps) (top : begun ≡ on_top (Block ss) (mach code contexts m)) where
    abbrev body : Outcome (Unit {0})
    body = effects (call_act code.methods.now TICKS) TICKS m.path ss (state_of (shown code.shape.now contexts) m)

    body_is : comes_to code.methods.now begun ≡ uncounted_outcome (at_end m.path (λ _. []) body)
    body_is = ap (comes_to code.methods.now) top ∙ (λ i. come_of code.methods.now (rests.items i) m.path (and_then body (λ _. give (rests.values i))))

    pub part_comes : (r : Result (Unit {0}) Stop) → Ran code begun r (mach code contexts' m2) → Comes body r ends
    part_comes (Ok u) h = (ended m.path (λ _. []) body _ ends (sym body_is ∙ h.0)).1
    part_comes (Err e) h = failed m.path (λ _. []) body e ends.world (subst (λ o. Fails o e ends.world) body_is h.0)

    pub part_rests : (r : Result (Unit {0}) Stop) → Ran code begun r (mach code contexts' m2) → OnOk r (Rests code contexts' m2)
    part_rests (Ok u) h = record { ready = h.2; items = h.1; values = sym (ap (λ (r : Rest). r.values) (ended m.path (λ _. []) body _ ends (sym body_is ∙ h.0)).2) }
    part_rests (Err e) h = tt

    pub part_place : (r : Result (Unit {0}) Stop) → Ran code begun r (mach code contexts' m2) → OnOk r (m2.path ≡ m.path)
    part_place (Ok u) h = sym (ap (λ (r : Rest). r.path) (ended m.path (λ _. []) body _ ends (sym body_is ∙ h.0)).2)
    part_place (Err e) h = tt

  module _ (t : Tree) (top : begun ≡ on_top (Eval t) (mach code contexts m)) where
    abbrev worth : Outcome Value
    worth = value (call_act code.methods.now TICKS) m.path t (state_of (shown code.shape.now contexts) m)

    value_is : comes_to code.methods.now begun ≡ uncounted_outcome (at_end m.path (λ v. v ∷ []) worth)
    value_is = ap (comes_to code.methods.now) top ∙ (λ i. come_of code.methods.now (rests.items i) m.path (and_then worth (λ v. give (rests.values i ++ v ∷ []))))

    pub value_comes : Ran code begun (Ok tt) (mach code contexts' m2) → (v : Value) × (uncounted_outcome worth ≡ uncounted_outcome (Done v ends)) × (rest_at m.path (v ∷ []) ≡ rest_at m2.path m2.values.items)
    value_comes h = ended m.path (λ v. v ∷ []) worth _ ends (sym value_is ∙ h.0)

    pub value_fails : (e : Stop) → Ran code begun (Err e) (mach code contexts' m2) → Fails (uncounted_outcome worth) e ends.world
    value_fails e h = failed m.path (λ v. v ∷ []) worth e ends.world (subst (λ o. Fails o e ends.world) value_is h.0)

-- what was done by one turn, and then by others
pub ran_from : (code : Code) (before mid after : Mach) (r : Result (Unit {0}) Stop) → Turned code.shape.now code.methods.now before (Ok tt) mid → Ran code mid r after → Ran code before r after
ran_from code before mid after (Ok u) t h = (t.0 ∙ h.0, h.1, h.2)
ran_from code before mid after (Err e) t h = (subst (λ o. Fails o e after.state.world) (sym t.0) h.0, h.1)

pub holds_after : (code : Code) (before after : Mach) (r : Result (Unit {0}) Stop) → Ran code before r after → Holds code.shape.now after.state.world.tree
holds_after code before after (Ok u) h = h.2.holds
holds_after code before after (Err e) h = h.1
