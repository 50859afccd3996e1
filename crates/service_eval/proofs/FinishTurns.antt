-- A machine stays ready where a statement or a loop did its part.
use Rattle.std.proofs.Common.{◌≡◌, ℕ, suc, ◌≤◌, ◌<◌, true, false, nat_lt, ◌==◌, if◌then◌else◌, List, [], ◌∷◌, ◌++◌, length, Result, Ok, Err, refl, sym, ap, subst, ◌∙◌, arith}
use Rattle.std.specs.List.{list_any, All}
use Rattle.wave_base.specs.declared.path.Path.{Path}
use Rattle.wave_base.specs.declared.shape.Shape.{Shape}
use Rattle.wave_base.specs.declared.trap.TrapKind.TheVariants.{Sends, Spawns, Generation}
use Rattle.wave_base.specs.declared.value.Value.{Value}
use Rattle.wave_base.specs.Paths.{path_eq}
use Rattle.wave_base.specs.Tree.{there}
use Rattle.value_ops.specs.Kinds.{Answer}
use Rattle.context_tree.specs.Contexts.{Contexts}
use Rattle.resolved_service.specs.declared.service.Method.{Method}
use Rattle.resolved_service.specs.Meaning.{State}
use Rattle.resolved_service.specs.World.{World, ticking, sending, spawning, set_field}
use Rattle.service_eval.specs.declared.code.Code.{Code}
use Rattle.service_eval.specs.declared.machine.Machine.{Machine}
use Rattle.service_eval.specs.declared.stop.Stop.{Stop}
use Rattle.service_eval.specs.inner.Items.{Item}
use Rattle.service_eval.specs.inner.Machines.{Mach, on_top, comes_to}
use Rattle.service_eval.specs.inner.Ready.{FitsItems, Ready, Turned}
use Rattle.service_eval.specs.inner.Turns.{mach, Goes}
use Rattle.service_eval.specs.inner.Weight.{load}
use Rattle.service_eval.proofs.CallTurns.{ticked}
use Rattle.service_eval.proofs.LeaveTurns.{follows_from}
use Rattle.service_eval.proofs.PathLemmas.{same_paths}

-- the same paths, held ones and generation, and no more ticks
pub record Same (w v : World) : Type 0 where
  pub paths : w.tree.paths ≡ v.tree.paths
  pub held : w.held ≡ v.held
  pub generation : v.generation ≡ w.generation
  pub ticks : v.ticks ≤ w.ticks

pub same_world : (w : World) → Same w w
same_world w = record { paths = refl; held = refl; generation = refl; ticks = omega arith }

pub same_ticked : (w v : World) → ticking w ≡ Ok v → Same w v
same_ticked w v e =
    let t = ticked w v e in
    record { paths = ap (λ (u : World). u.tree.paths) (sym t.1); held = ap (λ (u : World). u.held) (sym t.1); generation = ap (λ (u : World). u.generation) t.1; ticks = omega (arith, t.0) }

from_record : (w u v : World) → ◌≡◌ {A = Answer World} (Ok u) (Ok v) → Same w u → Same w v
from_record w u v e s = let same : u ≡ v = cc in subst (Same w) same s

pub same_sent : (label : List ℕ) (x : Value) (w v : World) → sending label x w ≡ Ok v → Same w v
unfolding sending
same_sent label x w v e =
    elim (nat_lt (length w.messages) 64) as (λ b. ◌≡◌ {A = Answer World} (if b then Ok (record w { messages = w.messages ++ record { label = label; value = x } ∷ [] }) else Err Sends) (Ok v) → Same w v) [
      | true ↦ λ e. from_record w _ v e (record { paths = refl; held = refl; generation = refl; ticks = omega arith })
      | false ↦ λ e. cc
    ] e

pub same_field : (f : ℕ) (x : Value) (p : Path) (w : World) → Same w (set_field f x p w)
unfolding set_field
same_field f x p w = record { paths = refl; held = refl; generation = refl; ticks = omega arith }

pub ready_in : (shape : Shape) (methods : List Method) (m : Mach) (item : Item) (items : List Item) (vs : List Value) (st : State) → Ready shape methods (on_top item m) → FitsItems shape methods items m.path → Same m.state.world st.world → Ready shape methods (record { items = items; values = vs; path = m.path; state = st })
ready_in shape methods m item items vs st r fits s = record {
  items = fits;
  holds = same_paths shape m.state.world.tree st.world.tree s.paths r.holds;
  path = r.path;
  held = subst (λ hs. All (λ q. there st.world.tree q ≡ true) hs) s.held (subst (λ ps. All (λ q. list_any (path_eq q) ps ≡ true) m.state.world.held) s.paths r.held);
  here = subst (λ ps. list_any (path_eq m.path) ps ≡ true) s.paths r.here;
  early = omega (arith, r.early, s.generation);
  few = omega (arith, r.few, s.ticks);
}

-- what was done comes to a machine like this
pub did : (code : Code) (contexts contexts' : Contexts) (item : Item) (target : Mach) (m m' : Machine) → comes_to code.methods.now (on_top item (mach code contexts m)) ≡ comes_to code.methods.now target → Ready code.shape.now code.methods.now target → mach code contexts' m' ≡ target → load code.methods.now target < load code.methods.now (on_top item (mach code contexts m)) → Goes code contexts m item (Ok tt) contexts' m'
did code contexts contexts' item target m m' same ready is light = (
  same ∙ ap (comes_to code.methods.now) (sym is),
  subst (Ready code.shape.now code.methods.now) (sym is) ready,
  subst (λ x. load code.methods.now x < load code.methods.now (on_top item (mach code contexts m))) (sym is) light,
)

-- the same, begun with what comes to the same
pub goes_from : (code : Code) (before before' : Mach) (r : Result (Unit {0}) Stop) (after : Mach) → comes_to code.methods.now before ≡ comes_to code.methods.now before' → Turned code.shape.now code.methods.now before' r after → load code.methods.now before' ≤ load code.methods.now before → Turned code.shape.now code.methods.now before r after
goes_from code before before' r after e h less = follows_from code (comes_to code.methods.now before) (comes_to code.methods.now before') r after e (load code.methods.now before') (load code.methods.now before) less h

pub same_spawned : (event : ℕ) (args : List Value) (w v : World) → spawning event args w ≡ Ok v → Same w v
unfolding spawning
same_spawned event args w v e =
    elim (w.generation == 4) as (λ a. ◌≡◌ {A = Answer World} (if a then Err Generation else (if nat_lt (length w.created) 4 then Ok (record w { created = w.created ++ record { event = event; args = args; generation = suc w.generation } ∷ [] }) else Err Spawns)) (Ok v) → Same w v) [
      | true ↦ λ e. cc
      | false ↦ λ e. elim (nat_lt (length w.created) 4) as (λ b. ◌≡◌ {A = Answer World} (if b then Ok (record w { created = w.created ++ record { event = event; args = args; generation = suc w.generation } ∷ [] }) else Err Spawns) (Ok v) → Same w v) [
        | true ↦ λ e. from_record w _ v e (record { paths = refl; held = refl; generation = refl; ticks = omega arith })
        | false ↦ λ e. cc
      ] e
    ] e
