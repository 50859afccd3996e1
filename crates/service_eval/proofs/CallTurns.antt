-- Calls and returns in the machine.
use Rattle.std.proofs.Common.{◌≡◌, ℕ, zero, suc, ◌≤◌, ◌⊎◌, inl, inr, Bool, true, false, nat_lt, if◌then◌else◌, List, ◌∷◌, length, take, drop, get_or, Option, Some, None, Result, Ok, Err, OnOk, IfErr, refl, sym, ap, subst, ◌∙◌, arith}
use Rattle.std.specs.Prelude.{slice_get}
use Rattle.std.specs.List.{All}
use Rattle.std.proofs.lemmas.List.Elements.{All-push, All-weaker}
use Rattle.std.proofs.lemmas.Option.{slice_get_within, get_or_from_slice_get}
use Rattle.wave_base.specs.declared.path.Path.{Path}
use Rattle.wave_base.specs.declared.path.Step.{Step}
use Rattle.wave_base.specs.declared.shape.Shape.{Shape}
use Rattle.wave_base.specs.declared.span.Span.{Span}
use Rattle.wave_base.specs.declared.trap.TrapKind.TheVariants.{Reach}
use Rattle.wave_base.specs.declared.value.Value.{Value}
use Rattle.wave_base.specs.Paths.{parent_of}
use Rattle.wave_base.specs.Shapes.{class_of, is_path, IsShape}
use Rattle.wave_base.specs.Tree.{Tree, there, enter}
use Rattle.value_ops.specs.Kinds.{Answer}
use Rattle.context_tree.specs.Contexts.{Contexts}
use Rattle.resolved_service.specs.declared.service.Last.{Last}
use Rattle.resolved_service.specs.declared.service.Method.{Method}
use Rattle.resolved_service.specs.Fits.{FitsSteps, FitsTree, FitsMethod, FitsLast, IsMethod}
use Rattle.resolved_service.specs.Steps.{steps_in}
use Rattle.resolved_service.specs.View.{tree_of}
use Rattle.resolved_service.specs.World.{World, nothing, has, key_of, child, after_tick, ticking, after_change, with_entered, entering}
use Rattle.service_eval.specs.declared.code.Code.{Code}
use Rattle.service_eval.specs.declared.machine.Machine.{Machine}
use Rattle.service_eval.specs.declared.stop.Stop.{Stop}
use Rattle.service_eval.specs.declared.stop.Stop.TheVariants as stop
use Rattle.service_eval.specs.declared.work.Caller.{Caller}
use Rattle.service_eval.specs.inner.Items.{Item, Invoke, Child, Block, Return, return_of}
use Rattle.service_eval.specs.inner.Machines.{Mach, mach_of, on_top, cut_to, in_world, own, back_to, with_last, method_start, comes_to}
use Rattle.service_eval.specs.inner.Ready.{FitsItems, Ready}
use Rattle.service_eval.specs.inner.Turns.{mach, IsNext, Goes}
use Rattle.service_eval.specs.Worlds.{Holds}
use Rattle.service_eval.proofs.LighterTurns.{back_lighter}
use Rattle.service_eval.proofs.PathLemmas.{class_of-child, parent_of-child, is_path-child, is_path-parent, parent_there, enter_holds, all_there, entered_there, still_there}
use Rattle.service_eval.proofs.ReadyLemmas.{turned}
use Rattle.wave_base.specs.Memory.{the_refusal}

-- a tick is taken, and nothing else
took_one : (n : ℕ) (w v : World) → after_tick n w ≡ Ok v → (n ≡ suc v.ticks) × (v ≡ record w { ticks = v.ticks })
took_one zero w v e = cc
took_one (suc n) w v e = let same : record w { ticks = n } ≡ v = cc in (ap (λ (u : World). suc u.ticks) same, subst (λ (u : World). u ≡ record w { ticks = u.ticks }) same refl)

pub ticked : (w v : World) → ticking w ≡ Ok v → (w.ticks ≡ suc v.ticks) × (v ≡ record w { ticks = v.ticks })
ticked w v e = took_one w.ticks w v e

-- a context that is entered is held already, or is a new one
enters_by : (q : Path) (w v : World) (a b : Bool) → has w.held q ≡ a → ◌≡◌ {A = Answer World} (if a then Ok (after_change w) else (if b then Ok (after_change (with_entered q w)) else Err Reach)) (Ok v) → ((has w.held q ≡ true) × (v ≡ after_change w)) ⊎ (v ≡ after_change (with_entered q w))
enters_by q w v true b h e = let same : after_change w ≡ v = cc in inl (h, sym same)
enters_by q w v false true h e = let same : after_change (with_entered q w) ≡ v = cc in inr (sym same)
enters_by q w v false false h e = cc

enters : (q : Path) (w v : World) → entering q w ≡ Ok v → ((has w.held q ≡ true) × (v ≡ after_change w)) ⊎ (v ≡ after_change (with_entered q w))
unfolding entering
enters q w v e = enters_by q w v (has w.held q) (nat_lt (length w.entered) 256) refl e

-- what is known of the world after a context was entered below one that is there
pub record Entered (shape : Shape) (q : Path) (w v : World) : Type 0 where
  pub holds : Holds shape v.tree
  pub held : All (λ q. there v.tree q ≡ true) v.held
  pub here : there v.tree q ≡ true
  pub ticks : v.ticks ≡ w.ticks
  pub generation : v.generation ≡ w.generation

held_there : (t : Tree (List Value)) (ps : List Path) (q : Path) → has ps q ≡ true → All (λ p. there t p ≡ true) ps → there t q ≡ true
held_there t ps q h all = all_there (λ p. there t p ≡ true) ps q h all

pub entered : (shape : Shape) (q : Path) (w v : World) → Holds shape w.tree → All (λ q. there w.tree q ≡ true) w.held → is_path shape q ≡ true → there w.tree (parent_of q) ≡ true → entering q w ≡ Ok (after_change v) → Entered shape q w v
entered shape q w v holds held path parent e =
    let k = by_case (enters q w (after_change v) e) in
    record { holds = k.holds; held = k.held; here = k.here; ticks = k.ticks; generation = k.generation }
  where
    again : has w.held q ≡ true → Entered shape q w (after_change w)
    again h = record { holds = holds; held = held; here = held_there w.tree w.held q h held; ticks = refl; generation = refl }

    anew : Entered shape q w (after_change (with_entered q w))
    anew = record {
      holds = enter_holds shape w.tree holds q path parent;
      held = All-push (λ p. there (enter w.tree q) p ≡ true) w.held q (All-weaker (λ p. there w.tree p ≡ true) (λ p. there (enter w.tree q) p ≡ true) (λ p. still_there shape w.tree holds q p) w.held held) (entered_there shape w.tree holds q);
      here = entered_there shape w.tree holds q;
      ticks = refl;
      generation = refl;
    }

    by_case : ((has w.held q ≡ true) × (after_change v ≡ after_change w)) ⊎ (after_change v ≡ after_change (with_entered q w)) → Entered shape q w (after_change v)
    by_case (inl h) = subst (Entered shape q w) (sym h.1) (again h.0)
    by_case (inr h) = subst (Entered shape q w) (sym h) anew

-- a method that fits its class, and the place to which it returns
fits_started : (shape : Shape) (methods : List Method) (method : Method) (p : Path) (items : List Item) → FitsMethod shape methods method → method.class.0 ≡ class_of p → FitsItems shape methods items p → FitsItems shape methods (Block (steps_in method.body) ∷ with_last method.last items) p
fits_started shape methods method p items fits e rest = (subst (λ c. FitsSteps shape methods c (steps_in method.body)) e fits.body, by_last method.last fits.last)
  where
    by_last : (last : Option Last) → FitsLast shape methods method.class.0 last → FitsItems shape methods (with_last last items) p
    by_last None h = rest
    by_last (Some last) h = (subst (λ c. FitsTree shape methods c (tree_of last.value)) e h, rest)

method_fits : (shape : Shape) (methods : List Method) (number : ℕ) (method : Method) → All (FitsMethod shape methods) methods → slice_get methods number ≡ Some method → FitsMethod shape methods method
method_fits shape methods number method all is = subst (FitsMethod shape methods) (get_or_from_slice_get methods number method method is) (all number method (slice_get_within methods number method is))

same_method : (methods : List Method) (class number count : ℕ) (method : Method) → IsMethod methods class number count → slice_get methods number ≡ Some method → method.class.0 ≡ class
same_method methods class number count method is e = let same : is.method ≡ method = cc (is.is_there, e) in ap (λ (m : Method). m.class.0) (sym same) ∙ is.class_is

module _ (shape : Shape) (methods : List Method) (fits : All (FitsMethod shape methods) methods) (m : Mach) (number : ℕ) (method : Method) (is : slice_get methods number ≡ Some method) where
  pub ready_invoked : (at : Span) (base : ℕ) (w : World) → Ready shape methods (on_top (Invoke at number base) m) → ticking m.state.world ≡ Ok w → Ready shape methods (method_start method (drop base m.values) false (cut_to base (in_world w m)))
  ready_invoked at base w r ticks =
      let t = ticked m.state.world w ticks in
      let rest = Return m.state.locals (take base m.values) false ∷ m.items in
      record {
        items = fits_started shape methods method m.path rest (method_fits shape methods number method fits is) (same_method methods (class_of m.path) number r.items.0.0 method r.items.0.1 is) (tt, r.items.1);
        holds = subst (λ (v : World). Holds shape v.tree) (sym t.1) r.holds;
        path = r.path;
        held = subst (λ (v : World). All (λ q. there v.tree q ≡ true) v.held) (sym t.1) r.held;
        here = subst (λ (v : World). there v.tree m.path ≡ true) (sym t.1) r.here;
        early = subst (λ (v : World). v.generation ≤ 4) (sym t.1) r.early;
        few = omega (arith, r.few, t.0);
      }

  pub ready_child : (at : Span) (class base : ℕ) (w v : World) → IsShape shape → Ready shape methods (on_top (Child at class number base) m) → ticking m.state.world ≡ Ok w → Entered shape (child m.path class (own 0 base m.values)) w v → Ready shape methods (method_start method (drop (suc base) m.values) true (record (cut_to base (in_world v m)) { path = child m.path class (own 0 base m.values) }))
  ready_child at class base w v shaped r ticks known =
      let s : Step = record { class = record { 0 = class }; key = key_of (own 0 base m.values) } in
      let t = ticked m.state.world w ticks in
      let rest = Return m.state.locals (take base m.values) true ∷ m.items in
      record {
        items = fits_started shape methods method (child m.path class (own 0 base m.values)) rest (method_fits shape methods number method fits is)
            (same_method methods class number r.items.0.1.0 method r.items.0.1.1 is ∙ sym (class_of-child m.path s))
            (tt, subst (FitsItems shape methods m.items) (sym (parent_of-child m.path s)) r.items.1);
        holds = known.holds;
        path = is_path-child shape m.path s r.path r.items.0.0;
        held = known.held;
        here = known.here;
        early = omega (arith, r.early, known.generation, ap (λ (v : World). v.generation) t.1);
        few = omega (arith, r.few, t.0, known.ticks);
      }

-- a return
module _ (shape : Shape) (methods : List Method) (m : Mach) (c : Caller) (v : Value) where
  pub ready_back : Ready shape methods (on_top (return_of c) m) → Ready shape methods (back_to c v m)
  ready_back r = by c.up r
    where
      by : (up : Bool) → Ready shape methods (on_top (Return c.locals.items c.values.items up) m) → Ready shape methods (back_to (record c { up = up }) v m)
      by true r = record {
        items = r.items.1;
        holds = r.holds;
        path = is_path-parent shape m.path r.path;
        held = r.held;
        here = parent_there shape m.state.world.tree r.holds m.path r.here;
        early = r.early;
        few = r.few;
      }
      by false r = record { items = r.items.1; holds = r.holds; path = r.path; held = r.held; here = r.here; early = r.early; few = r.few }

pub back_turn : (code : Code) (contexts : Contexts) (m m' : Machine) (r : Result (Unit {0}) Stop) (c : Caller) (v : Value) → v ≡ get_or m.values.items 0 nothing → OnOk r ((tree : Tree (List Value)) → mach_of tree m' ≡ back_to c v (mach_of tree m)) → IfErr r (λ e. e ≡ stop.OutOfMemory the_refusal) → IsNext code contexts m (return_of c) → Goes code contexts m (return_of c) r contexts m'
back_turn code contexts m m' r c v is ok err next =
    turned code contexts (return_of c) (back_to c v) m m' r next (ap (λ v. comes_to code.methods.now (back_to c v (mach code contexts m))) (sym is)) (ready_back code.shape.now code.methods.now (mach code contexts m) c v next) ok err (back_lighter code.methods.now (mach code contexts m) c v)
