-- A machine stays ready.
use Rattle.std.proofs.Common.{◌≡◌, ◌<◌, ℕ, List, [], ◌∷◌, ◌++◌, Result, Ok, Err, OnOk, IfErr, sym, ap, subst, ◌∙◌}
use Rattle.wave_base.specs.declared.limits.TheConstants.{TICKS}
use Rattle.wave_base.specs.declared.shape.Shape.{Shape}
use Rattle.wave_base.specs.declared.value.Value.{Value}
use Rattle.wave_base.specs.Tree.{Tree}
use Rattle.context_tree.specs.Contexts.{Contexts, tree_of as shown}
use Rattle.resolved_service.specs.declared.service.Method.{Method}
use Rattle.resolved_service.specs.Meaning.{Done, value, call_act}
use Rattle.resolved_service.specs.View.{Tree as Expression}
use Rattle.service_eval.specs.declared.code.Code.{Code}
use Rattle.service_eval.specs.declared.machine.Machine.{Machine}
use Rattle.service_eval.specs.declared.stop.Stop.{Stop}
use Rattle.service_eval.specs.declared.stop.Stop.TheVariants as stop
use Rattle.service_eval.specs.inner.Items.{Item, Eval}
use Rattle.service_eval.specs.inner.Machines.{Mach, mach_of, state_of, on_top, with_value, comes_to}
use Rattle.service_eval.specs.inner.Ready.{FitsItems, Ready, Follows}
use Rattle.service_eval.specs.inner.Turns.{mach, IsNext, Goes}
use Rattle.service_eval.specs.Worlds.{Holds}
use Rattle.service_eval.specs.inner.Weight.{load}
use Rattle.service_eval.proofs.EvalLemmas.{found_value}
use Rattle.service_eval.proofs.LighterTurns.{found_lighter}
use Rattle.wave_base.specs.Memory.{the_refusal}

-- other items and values at the same context and in the same state
pub ready_with : (shape : Shape) (methods : List Method) (m : Mach) (items : List Item) (vs : List Value) → Ready shape methods m → FitsItems shape methods items m.path → Ready shape methods (record { items = items; values = vs; path = m.path; state = m.state })
ready_with shape methods m items vs r fits = record {
  items = fits;
  holds = r.holds;
  path = r.path;
  held = r.held;
  here = r.here;
  early = r.early;
  few = r.few;
}

-- what was done by calls that fail for want of memory alone, on other contexts
pub turned_to : (code : Code) (contexts : Contexts) (before target : Mach) (m' : Machine) (r : Result (Unit {0}) Stop) → comes_to code.methods.now before ≡ comes_to code.methods.now target → Ready code.shape.now code.methods.now target → Holds code.shape.now (shown code.shape.now contexts) → OnOk r (mach code contexts m' ≡ target) → IfErr r (λ e. e ≡ stop.OutOfMemory the_refusal) → (limit : ℕ) → load code.methods.now target < limit → Follows code.shape.now code.methods.now (comes_to code.methods.now before) limit r (mach code contexts m')
turned_to code contexts before target m' (Ok u) same ready holds ok err limit light = (
  same ∙ ap (comes_to code.methods.now) (sym ok),
  subst (Ready code.shape.now code.methods.now) (sym ok) ready,
  subst (λ x. load code.methods.now x < limit) (sym ok) light,
)
turned_to code contexts before target m' (Err (stop.OutOfMemory _)) same ready holds ok err limit light = (tt, holds)
turned_to code contexts before target m' (Err (stop.Trapped t)) same ready holds ok err limit light = cc
turned_to code contexts before target m' (Err (stop.Ended t)) same ready holds ok err limit light = cc

-- what was done by calls that fail for want of memory alone
pub turned : (code : Code) (contexts : Contexts) (item : Item) (f : Mach → Mach) (m m' : Machine) (r : Result (Unit {0}) Stop) → IsNext code contexts m item → comes_to code.methods.now (on_top item (mach code contexts m)) ≡ comes_to code.methods.now (f (mach code contexts m)) → Ready code.shape.now code.methods.now (f (mach code contexts m)) → OnOk r ((tree : Tree (List Value)) → mach_of tree m' ≡ f (mach_of tree m)) → IfErr r (λ e. e ≡ stop.OutOfMemory the_refusal) → load code.methods.now (f (mach code contexts m)) < load code.methods.now (on_top item (mach code contexts m)) → Goes code contexts m item r contexts m'
turned code contexts item f m m' (Ok u) next same ready ok err light =
    let e = ok (shown code.shape.now contexts) in (
      same ∙ ap (comes_to code.methods.now) (sym e),
      subst (Ready code.shape.now code.methods.now) (sym e) ready,
      subst (λ x. load code.methods.now x < load code.methods.now (on_top item (mach code contexts m))) (sym e) light,
    )
turned code contexts item f m m' (Err (stop.OutOfMemory _)) next same ready ok err light = (tt, next.holds)
turned code contexts item f m m' (Err (stop.Trapped t)) next same ready ok err light = cc
turned code contexts item f m m' (Err (stop.Ended t)) next same ready ok err light = cc

-- an expression as it is named
pub at_tree : (code : Code) (contexts : Contexts) (m m' : Machine) (r : Result (Unit {0}) Stop) (t u : Expression) → t ≡ u → (IsNext code contexts m (Eval u) → Goes code contexts m (Eval u) r contexts m') → IsNext code contexts m (Eval t) → Goes code contexts m (Eval t) r contexts m'
at_tree code contexts m m' r t u e f next = subst (λ t. Goes code contexts m (Eval t) r contexts m') (sym e) (f (subst (λ t. IsNext code contexts m (Eval t)) e next))

-- an expression that has its value at once
pub gives : (code : Code) (contexts : Contexts) (m m' : Machine) (r : Result (Unit {0}) Stop) (t : Expression) (v : Value) → value (call_act code.methods.now TICKS) m.path t (state_of (shown code.shape.now contexts) m) ≡ Done v (state_of (shown code.shape.now contexts) m) → OnOk r ((tree : Tree (List Value)) → mach_of tree m' ≡ with_value v (mach_of tree m)) → IfErr r (λ e. e ≡ stop.OutOfMemory the_refusal) → IsNext code contexts m (Eval t) → Goes code contexts m (Eval t) r contexts m'
gives code contexts m m' r t v h ok err next =
    turned code contexts (Eval t) (with_value v) m m' r next (found_value code.methods.now (mach code contexts m) t v h) (ready_with code.shape.now code.methods.now (on_top (Eval t) (mach code contexts m)) (mach code contexts m).items (m.values.items ++ v ∷ []) next next.items.1) ok err (found_lighter code.methods.now (mach code contexts m) t v)
