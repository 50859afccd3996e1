-- Statements that are done at once.
use Rattle.std.proofs.Common.{◌≡◌, ◌≤◌, ℕ, true, List, get_or, slice_set, Option, Result, Ok, Err, sym, ap, subst, ◌∙◌, arith}
use Rattle.std.specs.List.{list_any, All}
use Rattle.wave_base.specs.declared.limits.TheConstants.{TICKS}
use Rattle.wave_base.specs.declared.path.Path.{Path}
use Rattle.wave_base.specs.declared.shape.Shape.{Shape}
use Rattle.wave_base.specs.declared.span.Span.{Span}
use Rattle.wave_base.specs.declared.value.Value.{Value}
use Rattle.wave_base.specs.Paths.{path_eq}
use Rattle.wave_base.specs.Tree.{there}
use Rattle.value_ops.specs.Kinds.{Answer}
use Rattle.context_tree.specs.Contexts.{Contexts, with_field}
use Rattle.resolved_service.specs.declared.service.Method.{Method}
use Rattle.resolved_service.specs.Meaning.{State, Outcome, Done, Trapped, Left, Act, and_then, ◌>>=◌, give, answer, set_local, put_field, value, effect, effects, call_act}
use Rattle.resolved_service.specs.Steps.{Step, Steps, step}
use Rattle.resolved_service.specs.View.{Tree as Expression}
use Rattle.resolved_service.specs.World.{World, nothing, read_field, set_field}
use Rattle.service_eval.specs.declared.code.Code.{Code}
use Rattle.service_eval.specs.declared.machine.Machine.{Machine}
use Rattle.service_eval.specs.declared.stop.Stop.{Stop}
use Rattle.service_eval.specs.declared.stop.Stop.TheVariants as stop
use Rattle.service_eval.specs.inner.Answers.{change_made}
use Rattle.service_eval.specs.inner.Items.{Block}
use Rattle.service_eval.specs.inner.Machines.{Mach, on_top, in_state, come_of, comes_to}
use Rattle.service_eval.specs.inner.Ready.{Ready}
use Rattle.service_eval.specs.inner.Turns.{mach, Alters, Does, AtOnce}
use Rattle.service_eval.specs.Worlds.{Holds}
use Rattle.service_eval.specs.inner.Traces.{Traps, Fails}
use Rattle.service_eval.proofs.EditLemmas.{field_same}
use Rattle.service_eval.proofs.FinishLemmas.{gives_fails}
use Rattle.service_eval.proofs.FinishTurns.{Same, same_world, same_field}
use Rattle.service_eval.proofs.Outcomes.{traps_then, fails_through}
use Rattle.service_eval.proofs.PathLemmas.{same_paths}

-- a machine stays ready in another state with the same paths
pub ready_state : (shape : Shape) (methods : List Method) (m : Mach) (st : State) → Ready shape methods m → Same m.state.world st.world → Ready shape methods (in_state st m)
ready_state shape methods m st r s = record {
  items = r.items;
  holds = same_paths shape m.state.world.tree st.world.tree s.paths r.holds;
  path = r.path;
  held = subst (λ hs. All (λ q. there st.world.tree q ≡ true) hs) s.held (subst (λ ps. All (λ q. list_any (path_eq q) ps ≡ true) m.state.world.held) s.paths r.held);
  here = subst (λ ps. list_any (path_eq m.path) ps ≡ true) s.paths r.here;
  early = omega (arith, r.early, s.generation);
  few = omega (arith, r.few, s.ticks);
}

-- the first of some statements
module _ (methods : List Method) (m : Mach) (s : Step) (ss : Steps) where
  abbrev first : Outcome (Unit {0})
  first = effect (call_act methods TICKS) TICKS m.path s m.state

  pub block_goes : (st : State) → effect (call_act methods TICKS) TICKS m.path s m.state ≡ Done tt st → comes_to methods (on_top (Block (step s ss)) m) ≡ comes_to methods (on_top (Block ss) (in_state st m))
  block_goes st h = ap (λ o. come_of methods m.items m.path (and_then (and_then o (λ _. effects (call_act methods TICKS) TICKS m.path ss)) (λ _. give m.values))) h

  pub block_fails : (e : Stop) (w : World) → Traps (effect (call_act methods TICKS) TICKS m.path s m.state) e w → Fails (comes_to methods (on_top (Block (step s ss)) m)) e w
  block_fails e w h =
      fails_through methods m.items m.path _ e w
      (traps_then (and_then first (λ _. effects (call_act methods TICKS) TICKS m.path ss)) (λ _. give m.values) e w (traps_then first (λ _. effects (call_act methods TICKS) TICKS m.path ss) e w h))

second_fails : (o : Outcome Value) (second : Act Value) (f : Value → Value → Act (Unit {0})) (e : Stop) (w : World) → Traps (and_then o (λ _. second)) e w → Traps (and_then o (λ x. second >>= f x)) e w
second_fails (Done x st) second f e w h = traps_then (second st) (f x) e w h
second_fails (Trapped k at v) second f e w h = let o : Outcome Value = Trapped k at v in traps_then o (λ x. second >>= f x) e w h
second_fails (Left why st) second f e w h = let o : Outcome Value = Left why st in traps_then o (λ x. second >>= f x) e w h

-- what a statement means, by the values of its expressions
module _ (call : ℕ → Path → List Value → Act (Option Value)) (n : ℕ) (p : Path) (s : Step) (st : State) where
  module _ (a : Expression) (f : Value → Act (Unit {0})) (is : effect call n p s st ≡ and_then (value call p a st) f) where
    pub one_found : (x : Value) → value call p a st ≡ Done x st → effect call n p s st ≡ f x st
    one_found x h = is ∙ ap (λ o. and_then o f) h

    pub one_fails : (e : Stop) (w : World) → Traps (value call p a st) e w → Traps (effect call n p s st) e w
    one_fails e w h = subst (λ o. Traps o e w) (sym is) (traps_then (value call p a st) f e w h)

  module _ (a b : Expression) (f : Value → Value → Act (Unit {0})) (is : effect call n p s st ≡ and_then (value call p a st) (λ x. value call p b >>= f x)) where
    pub two_found : (x y : Value) → value call p a st ≡ Done x st → value call p b st ≡ Done y st → effect call n p s st ≡ f x y st
    two_found x y g h = is ∙ ap (λ o. and_then o (λ x. value call p b >>= f x)) g ∙ ap (λ o. and_then o (f x)) h

    pub two_fails : (e : Stop) (w : World) → Traps (and_then (value call p a st) (λ _. value call p b)) e w → Traps (effect call n p s st) e w
    two_fails e w h = subst (λ o. Traps o e w) (sym is) (second_fails (value call p a st) (value call p b) f e w h)

-- a statement that is done by a change is done at once
pub told_once : (code : Code) (contexts contexts' : Contexts) (m m' : Machine) (s : Step) (change : Act (Unit {0})) (r : Result (Unit {0}) Stop) → effect (call_act code.methods.now TICKS) TICKS m.path s (mach code contexts m).state ≡ change (mach code contexts m).state → Does code contexts m change r contexts' m' → AtOnce code contexts m s (change_made r) contexts' m'
told_once code contexts contexts' m m' s change (Ok u) is h = (is ∙ h.0, h.1, h.2, h.3)
told_once code contexts contexts' m m' s change (Err e) is h = (subst (λ o. Traps o e (mach code contexts' m').state.world) (sym is) h.0, h.1)

module _ (code : Code) (contexts : Contexts) (m m' : Machine) (change : Act (Unit {0})) (ready : Ready code.shape.now code.methods.now (mach code contexts m)) where
  abbrev M : Mach
  M = mach code contexts m

  abbrev does : Outcome (Unit {0})
  does = change (mach code contexts m).state

  -- it came to another state
  once : (contexts' : Contexts) (st : State) → does ≡ Done tt st → Same M.state.world st.world → mach code contexts' m' ≡ in_state st M → Does code contexts m change (Ok tt) contexts' m'
  once contexts' st is same to = (
    is ∙ ap (λ (x : Mach). Done tt x.state) (sym to),
    to ∙ ap (λ (x : Mach). in_state x.state M) (sym to),
    subst (Ready code.shape.now code.methods.now) (sym to) (ready_state code.shape.now code.methods.now M st ready same),
    subst (λ (x : Mach). x.state.world.ticks ≤ M.state.world.ticks) (sym to) same.ticks,
  )

  -- a local's value was changed where it stands
  pub slot_does : (at : Span) (a : Answer Value) (slot : ℕ) → does ≡ and_then (answer a at M.state) (set_local slot) → (v : Value) (r : Result (Unit {0}) Stop) → Alters a at (get_or M.state.locals slot nothing) r v → mach code contexts m' ≡ in_state (record { locals = slice_set M.state.locals slot v; world = M.state.world }) M → Does code contexts m change r contexts m'
  slot_does at a slot is v (Ok u) h same =
      once contexts (record { locals = slice_set M.state.locals slot v; world = M.state.world }) (is ∙ ap (λ a. and_then (answer a at M.state) (set_local slot)) h) (same_world M.state.world) same
  slot_does at a slot is v (Err (stop.Ended e)) h same = absurd h
  slot_does at a slot is v (Err (stop.OutOfMemory _)) h same = (tt, subst (λ (x : Mach). Holds code.shape.now x.state.world.tree) (sym same) ready.holds)
  slot_does at a slot is v (Err (stop.Trapped t)) h same =
      let traps : Traps does (stop.Trapped t) M.state.world = subst (λ o. Traps o (stop.Trapped t) M.state.world) (sym is) (gives_fails a at M.state (set_local slot) (stop.Trapped t) (h.0, h.1)) in
      (subst (λ (x : Mach). Traps does (stop.Trapped t) x.state.world) (sym same) traps, subst (λ (x : Mach). Holds code.shape.now x.state.world.tree) (sym same) ready.holds)

  -- a field's value was
  module _ (at : Span) (a : Answer Value) (contexts' : Contexts) (f : ℕ) (is : does ≡ and_then (answer a at M.state) (put_field f M.path)) (v : Value) where
    abbrev after : World
    after = record M.state.world { tree = with_field M.state.world.tree M.path f v }

    kept : v ≡ read_field f M.path M.state.world → after ≡ M.state.world
    unfolding read_field
    kept e = ap (λ t. record M.state.world { tree = t }) (ap (with_field M.state.world.tree M.path f) e ∙ field_same M.state.world.tree M.path f)

    pub field_does : (r : Result (Unit {0}) Stop) → Alters a at (read_field f M.path M.state.world) r v → mach code contexts' m' ≡ in_state (record { locals = M.state.locals; world = after }) M → Does code contexts m change r contexts' m'
    unfolding set_field
    field_does (Ok u) h same =
        once contexts' (record { locals = M.state.locals; world = after }) (is ∙ ap (λ a. and_then (answer a at M.state) (put_field f M.path)) h) (same_field f v M.path M.state.world) same
    field_does (Err (stop.Ended e)) h same = absurd h
    field_does (Err (stop.OutOfMemory _)) h same =
        (tt, subst (λ (x : Mach). Holds code.shape.now x.state.world.tree) (sym same) (subst (λ (w : World). Holds code.shape.now w.tree) (sym (kept h)) ready.holds))
    field_does (Err (stop.Trapped t)) h same =
        let traps : Traps does (stop.Trapped t) M.state.world = subst (λ o. Traps o (stop.Trapped t) M.state.world) (sym is) (gives_fails a at M.state (put_field f M.path) (stop.Trapped t) (h.0, h.1)) in
        let there : Traps does (stop.Trapped t) after = subst (Traps does (stop.Trapped t)) (sym (kept h.2)) traps in (
          subst (λ (x : Mach). Traps does (stop.Trapped t) x.state.world) (sym same) there,
          subst (λ (x : Mach). Holds code.shape.now x.state.world.tree) (sym same) (subst (λ (w : World). Holds code.shape.now w.tree) (sym (kept h.2)) ready.holds),
        )
