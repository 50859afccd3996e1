-- A statement that changes the outside alone.
use Rattle.std.proofs.Common.{◌≡◌, ℕ, drop, Result, Ok, Err, sym, ap, subst, ◌∙◌}
use Rattle.wave_base.specs.declared.limits.TheConstants.{TICKS}
use Rattle.wave_base.specs.declared.span.Span.{Span}
use Rattle.value_ops.specs.Kinds.{Answer}
use Rattle.context_tree.specs.Contexts.{Contexts, tree_of as shown}
use Rattle.resolved_service.specs.Meaning.{State, Trapped, with_world, call_act}
use Rattle.resolved_service.specs.World.{World}
use Rattle.service_eval.specs.declared.code.Code.{Code}
use Rattle.service_eval.specs.declared.machine.Machine.{Machine}
use Rattle.service_eval.specs.declared.stop.Stop.{Stop}
use Rattle.service_eval.specs.declared.stop.Stop.TheVariants as stop
use Rattle.service_eval.specs.declared.trace.Trace.{Trace}
use Rattle.service_eval.specs.inner.Items.{End, Finish}
use Rattle.service_eval.specs.inner.Machines.{mach_of, cut_to, in_world, finish}
use Rattle.service_eval.specs.inner.Turns.{mach, IsNext, Goes}
use Rattle.service_eval.specs.inner.Traces.{world_of, Changes, Traps}
use Rattle.service_eval.proofs.FinishLemmas.{finished, not_finished}
use Rattle.service_eval.proofs.LighterTurns.{finished_lighter}
use Rattle.service_eval.proofs.FinishTurns.{Same, ready_in, did}

refused : (a : Answer World) (at : Span) (st : State) (e : Stop) (w : World) → Changes a at st.world (Err e) w → Traps (with_world a at st) e w
refused a at st (stop.OutOfMemory _) w h = tt
refused a at st (stop.Ended r) w h = h
refused a at st (stop.Trapped t) w h = ap (λ a. with_world a at st) h.0 ∙ (λ i. Trapped t.kind (sym h.1 i) (sym h.2 i))

module _ (code : Code) (contexts : Contexts) (m m1 : Machine) (tr : Trace) (at : Span) (base : ℕ) (what : End) (a : Answer World) where
  pub changed_turn : (r : Result (Unit {0}) Stop) → finish (call_act code.methods.now TICKS) TICKS m.path at (drop base m.values.items) what (mach code contexts m).state ≡ with_world a at (mach code contexts m).state → mach_of (shown code.shape.now contexts) m1 ≡ cut_to base (mach code contexts m) → Changes a at (mach code contexts m).state.world r (world_of (shown code.shape.now contexts) tr) → ((v : World) → a ≡ Ok v → Same (mach code contexts m).state.world v) → IsNext code contexts m (Finish at what base) → Goes code contexts m (Finish at what base) r contexts (record m1 { trace = tr })
  changed_turn (Ok u) is cut h same next =
      let w = world_of (shown code.shape.now contexts) tr in
      did code contexts contexts (Finish at what base) (in_world w (cut_to base (mach code contexts m))) m (record m1 { trace = tr })
      (finished code.methods.now (mach code contexts m) at base what _ (is ∙ ap (λ a. with_world a at (mach code contexts m).state) h))
      (ready_in _ _ (mach code contexts m) _ _ _ _ next next.items.1 (same w h)) (ap (in_world w) cut)
      (finished_lighter code.methods.now (mach code contexts m) at what base (record { locals = (mach code contexts m).state.locals; world = w }) (same w h).ticks)
  changed_turn (Err e) is cut h same next =
      let w = world_of (shown code.shape.now contexts) tr in
      (not_finished code.methods.now (mach code contexts m) at base what e w (subst (λ o. Traps o e w) (sym is) (refused a at (mach code contexts m).state e w h)), next.holds)
