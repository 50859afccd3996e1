-- Statements that are done one after the other, as far as they can be at once.
use Rattle.std.proofs.Common.{◌≡◌, ◌≤◌, ℕ, true, false, List, ◌∷◌, ◌++◌, Option, Some, None, Bool, Result, Ok, Err, Bor, IfOk, IfErr, refl, sym, ap, subst, ◌∙◌, arith}
use Rattle.wave_base.specs.declared.limits.TheConstants.{TICKS}
use Rattle.wave_base.specs.declared.path.Path.{Path}
use Rattle.wave_base.specs.declared.span.Span.{Span}
use Rattle.wave_base.specs.declared.value.Value.{Value}
use Rattle.wave_base.specs.Shapes.{class_of}
use Rattle.context_tree.specs.Contexts.{Contexts}
use Rattle.resolved_service.specs.declared.stmt.Stmt.{Stmt}
use Rattle.resolved_service.specs.Fits.{FitsSteps}
use Rattle.resolved_service.specs.Meaning.{State, Outcome, Done, Trapped, Left, Act, and_then, give, choose, value, effect, effects, else_effect, call_act}
use Rattle.resolved_service.specs.Steps.{Step, Steps, no_steps, step, If, Else, steps_in}
use Rattle.resolved_service.specs.View.{Tree}
use Rattle.resolved_service.specs.World.{is_true}
use Rattle.service_eval.specs.declared.code.Code.{Code}
use Rattle.service_eval.specs.declared.machine.Machine.{Machine}
use Rattle.service_eval.specs.declared.stop.Stop.{Stop}
use Rattle.service_eval.specs.inner.Items.{Item, Block, else_steps}
use Rattle.service_eval.specs.inner.Machines.{Mach, before_all, in_state, come_of, comes_to}
use Rattle.service_eval.specs.inner.Ready.{FitsItems, Ready, Turned}
use Rattle.service_eval.specs.inner.Turns.{mach, Does, AtOnce, GoesTo}
use Rattle.service_eval.specs.Worlds.{Holds}
use Rattle.service_eval.specs.inner.Traces.{Traps}
use Rattle.service_eval.specs.inner.Ahead.{Advances, AdvancesBy, StopsIn, Stands, Chooses}
use Rattle.service_eval.specs.inner.Weight.{load}
use Rattle.service_eval.proofs.ElseLemmas.{fits_else, else_weighs, else_is}
use Rattle.service_eval.proofs.FinishTurns.{goes_from}
use Rattle.service_eval.proofs.Outcomes.{traps_then, fails_through}
use Rattle.service_eval.proofs.ReadyLemmas.{ready_with}
use Rattle.service_eval.proofs.WeightLemmas.{no_heavier}

-- nothing was done yet
pub not_yet : (code : Code) (contexts : Contexts) (m : Machine) (all : Steps) → Ready code.shape.now code.methods.now (mach code contexts m) → FitsSteps code.shape.now code.methods.now (class_of m.path) all → Advances code contexts m all contexts m all
not_yet code contexts m all ready fits = record { same = refl; to = refl; ready = ready; fits = fits; fewer = omega arith; less = λ n. omega arith }

-- more was done
pub further : (code : Code) (c0 c1 c2 : Contexts) (m0 m1 m2 : Machine) (all left rest : Steps) → Advances code c0 m0 all c1 m1 left → Advances code c1 m1 left c2 m2 rest → Advances code c0 m0 all c2 m2 rest
further code c0 c1 c2 m0 m1 m2 all left rest a b =
    let M2 = mach code c2 m2 in
    let place : m1.path ≡ m0.path = ap (λ (x : Mach). x.path) a.to in
    record {
      same = a.same ∙ subst (λ p. effects (call_act code.methods.now TICKS) TICKS p left (mach code c1 m1).state ≡ effects (call_act code.methods.now TICKS) TICKS p rest M2.state) place b.same;
      to = b.to ∙ ap (in_state M2.state) a.to;
      ready = b.ready;
      fits = subst (λ p. FitsSteps code.shape.now code.methods.now (class_of p) rest) place b.fits;
      fewer = omega (arith, a.fewer, b.fewer);
      less = λ n. omega (arith, a.less n, b.less n);
    }

-- nothing more was
pub nothing_more : (code : Code) (c0 c1 c2 : Contexts) (m0 m1 m2 : Machine) (all left : Steps) → Advances code c0 m0 all c1 m1 left → mach code c2 m2 ≡ mach code c1 m1 → Advances code c0 m0 all c2 m2 left
nothing_more code c0 c1 c2 m0 m1 m2 all left a is =
    let M0 = mach code c0 m0 in
    record {
      same = a.same ∙ ap (λ (x : Mach). effects (call_act code.methods.now TICKS) TICKS m0.path left x.state) (sym is);
      to = is ∙ a.to ∙ ap (λ (x : Mach). in_state x.state M0) (sym is);
      ready = subst (Ready code.shape.now code.methods.now) (sym is) a.ready;
      fits = a.fits;
      fewer = subst (λ (x : Mach). x.state.world.ticks ≤ M0.state.world.ticks) (sym is) a.fewer;
      less = a.less;
    }

-- those that are left fail
pub stops_after : (code : Code) (c0 c1 c2 : Contexts) (m0 m1 m2 : Machine) (all left : Steps) (e : Stop) → Advances code c0 m0 all c1 m1 left → StopsIn code c1 m1 left c2 m2 e → StopsIn code c0 m0 all c2 m2 e
stops_after code c0 c1 c2 m0 m1 m2 all left e a h =
    let M1 = mach code c1 m1 in
    let w = (mach code c2 m2).state.world in
    let place : m1.path ≡ m0.path = ap (λ (x : Mach). x.path) a.to in
    (subst (λ o. Traps o e w) (sym a.same) (subst (λ p. Traps (effects (call_act code.methods.now TICKS) TICKS p left M1.state) e w) place h.0), h.1)

-- what is left, in the machine, before other things that are to be done
module _ (code : Code) (c0 c1 : Contexts) (m0 m1 : Machine) (all left : Steps) (h : Advances code c0 m0 all c1 m1 left) (next : List Item) where
  pub left_comes : comes_to code.methods.now (before_all (Block all ∷ next) (mach code c0 m0)) ≡ comes_to code.methods.now (before_all (Block left ∷ next) (mach code c1 m1))
  left_comes =
      ap (λ o. come_of code.methods.now (next ++ (mach code c0 m0).items) m0.path (and_then o (λ _. give m0.values.items))) h.same
      ∙ ap (λ (x : Mach). comes_to code.methods.now (before_all (Block left ∷ next) x)) (sym h.to)

  pub left_ready : FitsItems code.shape.now code.methods.now (next ++ (mach code c0 m0).items) m0.path → Ready code.shape.now code.methods.now (before_all (Block left ∷ next) (mach code c1 m1))
  left_ready fits =
      let M0 = mach code c0 m0 in
      let st = (mach code c1 m1).state in
      subst (λ (x : Mach). Ready code.shape.now code.methods.now (before_all (Block left ∷ next) x)) (sym h.to)
      (ready_with code.shape.now code.methods.now (in_state st M0) (Block left ∷ next ++ M0.items) M0.values (subst (Ready code.shape.now code.methods.now) h.to h.ready) (h.fits, fits))

  pub left_lighter : load code.methods.now (before_all (Block left ∷ next) (mach code c1 m1)) ≤ load code.methods.now (before_all (Block all ∷ next) (mach code c0 m0))
  left_lighter =
      let M0 = mach code c0 m0 in
      let st = (mach code c1 m1).state in
      subst (λ (x : Mach). load code.methods.now (before_all (Block left ∷ next) x) ≤ load code.methods.now (before_all (Block all ∷ next) M0)) (sym h.to)
      (no_heavier code.methods.now (before_all (Block all ∷ next) M0) (before_all (Block left ∷ next) (in_state st M0)) h.fewer (omega (arith, h.less M0.state.world.ticks)))

-- where the statements fail, so does the machine
pub stops_fail : (code : Code) (c0 c1 : Contexts) (m0 m1 : Machine) (all : Steps) (next : List Item) (e : Stop) → StopsIn code c0 m0 all c1 m1 e → Turned code.shape.now code.methods.now (before_all (Block all ∷ next) (mach code c0 m0)) (Err e) (mach code c1 m1)
stops_fail code c0 c1 m0 m1 all next e h = (
  fails_through code.methods.now (next ++ (mach code c0 m0).items) m0.path _ e _ (traps_then (effects (call_act code.methods.now TICKS) TICKS m0.path all (mach code c0 m0).state) (λ _. give m0.values.items) e _ h.0),
  h.1,
)

-- a statement was done, and the others are left
pub one_done : (code : Code) (c0 c1 : Contexts) (m0 m1 : Machine) (s : Step) (ss : Steps) → FitsSteps code.shape.now code.methods.now (class_of m0.path) (step s ss) → AtOnce code c0 m0 s (Ok true) c1 m1 → Advances code c0 m0 (step s ss) c1 m1 ss
one_done code c0 c1 m0 m1 s ss fits h = record {
  same = ap (λ o. and_then o (λ _. effects (call_act code.methods.now TICKS) TICKS m0.path ss)) h.0;
  to = h.1;
  ready = h.2;
  fits = fits.1;
  fewer = h.3;
  less = λ n. omega arith;
}

pub one_stops : (code : Code) (c0 c1 : Contexts) (m0 m1 : Machine) (s : Step) (ss : Steps) (e : Stop) → Does code c0 m0 (effect (call_act code.methods.now TICKS) TICKS m0.path s) (Err e) c1 m1 → StopsIn code c0 m0 (step s ss) c1 m1 e
one_stops code c0 c1 m0 m1 s ss e h = (traps_then (effect (call_act code.methods.now TICKS) TICKS m0.path s (mach code c0 m0).state) (λ _. effects (call_act code.methods.now TICKS) TICKS m0.path ss) e _ h.0, h.1)

last_is : (o : Outcome (Unit {0})) → and_then o (λ _. give tt) ≡ o
last_is (Done u st) = refl
last_is (Trapped t at w) = refl
last_is (Left l st) = refl

-- a block stands for the last statement
module _ (code : Code) (c0 c1 : Contexts) (m0 m1 : Machine) (s : Step) (is : mach code c1 m1 ≡ mach code c0 m0) (ready : Ready code.shape.now code.methods.now (mach code c0 m0)) (fits : FitsSteps code.shape.now code.methods.now (class_of m0.path) (step s no_steps)) where
  stood : (block : Steps) → Stands code c1 m1 s block → Advances code c0 m0 (step s no_steps) c1 m1 block
  stood block h =
      let M0 = mach code c0 m0 in
      let M1 = mach code c1 m1 in
      record {
        same = subst (λ (x : Mach). effects (call_act code.methods.now TICKS) TICKS x.path (step s no_steps) x.state ≡ effects (call_act code.methods.now TICKS) TICKS x.path block M1.state) is
            (last_is (effect (call_act code.methods.now TICKS) TICKS m1.path s M1.state) ∙ h.same);
        to = is ∙ ap (λ (x : Mach). in_state x.state M0) (sym is);
        ready = subst (Ready code.shape.now code.methods.now) (sym is) ready;
        fits = h.fits code.shape.now code.methods.now (class_of m0.path) fits.0;
        fewer = subst (λ (x : Mach). x.state.world.ticks ≤ M0.state.world.ticks) (sym is) (omega arith);
        less = λ n. omega (arith, h.less n);
      }

  pub chose : (r : Result (Option (Bor (List Stmt))) Stop) → Chooses code c1 m1 s r → IfOk r (AdvancesBy code c0 m0 (step s no_steps) c1 m1)
  chose (Ok None) h = is
  chose (Ok (Some block)) h = (stood (steps_in block.now) h, omega (arith, h.less 0))
  chose (Err e) h = tt

  pub chose_none : (r : Result (Option (Bor (List Stmt))) Stop) → Chooses code c1 m1 s r → IfErr r (StopsIn code c0 m0 (step s no_steps) c1 m1)
  chose_none (Ok b) h = tt
  chose_none (Err e) h =
      let M0 = mach code c0 m0 in
      let M1 = mach code c1 m1 in
      let here : Traps (effect (call_act code.methods.now TICKS) TICKS m0.path s M0.state) e M1.state.world =
      subst (λ (x : Mach). Traps (effect (call_act code.methods.now TICKS) TICKS x.path s x.state) e M1.state.world) is h in
      one_stops code c0 c1 m0 m1 s no_steps e (here, subst (λ (x : Mach). Holds code.shape.now x.state.world.tree) (sym is) ready.holds)

-- the blocks of an `if`
module _ (code : Code) (contexts : Contexts) (m : Machine) (at : Span) (test : Tree) (body : Steps) (other : Else) where
  abbrev st : State
  st = (mach code contexts m).state

  abbrev call : ℕ → Path → List Value → Act (Option Value)
  call = call_act code.methods.now TICKS

  abbrev decides : Bool → Outcome (Unit {0})
  decides b = choose b (effects (call_act code.methods.now TICKS) TICKS m.path body) (else_effect (call_act code.methods.now TICKS) TICKS m.path other) (mach code contexts m).state

  module _ (v : Value) (found : value (call_act code.methods.now TICKS) m.path test (mach code contexts m).state ≡ Done v (mach code contexts m).state) where
    decided : effect (call_act code.methods.now TICKS) TICKS m.path (If at test body other) (mach code contexts m).state ≡ decides (is_true v)
    decided = ap (λ o. and_then o (λ t. choose (is_true t) (effects call TICKS m.path body) (else_effect call TICKS m.path other))) found

    pub body_stands : is_true v ≡ true → Stands code contexts m (If at test body other) body
    body_stands e = record { same = decided ∙ ap decides e; fits = λ shape methods class h. h.1; less = λ n. omega arith }

    pub other_stands : is_true v ≡ false → Stands code contexts m (If at test body other) (else_steps other)
    other_stands e = record {
      same = decided ∙ ap decides e ∙ else_is call TICKS m.path other st;
      fits = λ shape methods class h. fits_else shape methods class other h.2;
      less = λ n. omega (arith, else_weighs n other);
    }

  pub test_stops : (e : Stop) → Traps (value (call_act code.methods.now TICKS) m.path test (mach code contexts m).state) e (mach code contexts m).state.world → Traps (effect (call_act code.methods.now TICKS) TICKS m.path (If at test body other) (mach code contexts m).state) e (mach code contexts m).state.world
  test_stops e h = traps_then (value call m.path test st) (λ t. choose (is_true t) (effects call TICKS m.path body) (else_effect call TICKS m.path other)) e st.world h

-- things that were done, and then others
module _ (code : Code) (c0 c1 c2 : Contexts) (m0 m1 m2 : Machine) (items more next : List Item) where
  abbrev B0 : Mach
  B0 = before_all items (mach code c0 m0)

  abbrev B1 : Mach
  B1 = before_all more (mach code c1 m1)

  module _ (same : comes_to code.methods.now (before_all items (mach code c0 m0)) ≡ comes_to code.methods.now (before_all more (mach code c1 m1))) (less : load code.methods.now (before_all more (mach code c1 m1)) ≤ load code.methods.now (before_all items (mach code c0 m0))) where
    pub goes_after : (r : Result Bool Stop) → GoesTo code c1 m1 more next r c2 m2 → GoesTo code c0 m0 items next r c2 m2
    goes_after (Ok true) h = goes_from code B0 B1 (Ok tt) (before_all next (mach code c2 m2)) same h less
    goes_after (Ok false) h = goes_from code B0 B1 (Ok tt) (mach code c2 m2) same h less
    goes_after (Err e) h = goes_from code B0 B1 (Err e) (mach code c2 m2) same h less

  pub goes_then : Turned code.shape.now code.methods.now (before_all items (mach code c0 m0)) (Ok tt) (before_all more (mach code c1 m1)) → (r : Result Bool Stop) → GoesTo code c1 m1 more next r c2 m2 → GoesTo code c0 m0 items next r c2 m2
  goes_then first r h = goes_after first.0 (omega (arith, first.2)) r h
