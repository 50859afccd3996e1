use Rattle.std.proofs.Common.{◌∙◌, ap, map, refl, sym, subst}
use Rattle.std.specs.List.{list_any}
use Rattle.std.specs.List.Sorted.{IsStrictlySortedBy}
use Rattle.std.specs.Prelude.{slice_get, All}
use Rattle.plan_actors.specs.Finishing.{path_of}
use Rattle.plan_actors.specs.PlanActors.{plan_actors}
use Rattle.wave_base.specs.declared.finished.Finished.{Finished as Told}
use Rattle.wave_base.specs.Paths.{path_cmp, path_eq}
use Rattle.wave_states.specs.Runs.{Finished}
use Rattle.wave_effects.specs.Kinds.{name_in}
use Rattle.wave_effects.specs.declared.finish.Rest.{Rest}
use Rattle.wave_effects.specs.inner.Rest.{finished_with}
use Rattle.wave_effects.specs.inner.Endings.{AreHome, AreServed, IsLoadOf, IsPlace, IsShotOf}
use Rattle.wave_effects.specs.Keeping.{kept_of}
use Rattle.wave_effects.proofs.Ending.{so_done, so_finished}
use Rattle.wave_effects.proofs.Telling.{completes_by, home, loads_by, paired_as, served, tells}
use Rattle.wave_effects.proofs.engine.Engine.rest_of.Goals as goal

pub shots-requires-clause-there : goal.shots-requires-clause-there
shots-requires-clause-there c = subst (All (IsPlace c.deref-2.result.now)) (sym c.deref-3.ensures.value) (subst (λ xs. All (IsPlace xs) c.in_ok-places.places.items) (c.deref.ensures.value ∙ sym c.deref-2.ensures.value) c.in_ok-places.ensures.there)

pub shots-requires-clause-home : goal.shots-requires-clause-home
shots-requires-clause-home c =
    let on = c.requires.finished in
    subst AreHome (sym c.deref-2.ensures.value) (home c.states_are_known.ensures c.heads_are_known.ensures (completes_by c.complete.ensures) (loads_by c.loads.ensures) (kept_of c.args.self.now) on.0 on.1 on.2 on.3)

pub loads-requires-2-clause-there : goal.loads-requires-2-clause-there
loads-requires-2-clause-there c = subst (All (IsPlace c.deref-4.result.now)) (sym c.deref-5.ensures.value) (subst (λ xs. All (IsPlace xs) c.in_ok-places.places.items) (c.deref.ensures.value ∙ sym c.deref-4.ensures.value) c.in_ok-places.ensures.there)

pub loads-requires-2-clause-served : goal.loads-requires-2-clause-served
loads-requires-2-clause-served c =
    let on = c.requires.finished in
    subst (λ xs. AreServed xs c.args.self.now.first) (sym c.deref-4.ensures.value) (served c.states_are_known.ensures c.heads_are_known.ensures (completes_by c.complete.ensures) (loads_by c.loads.ensures) (kept_of c.args.self.now) on.0 on.1 on.2 on.3)

pub returns : goal.returns
returns c = λ start s stands.
    let m = kept_of c.args.self.now in
    let on = c.requires.finished in
    let completes = completes_by c.complete.ensures in
    let finished : Finished (plan_actors m.plan.program) m.plan.workers s = so_finished c.states_are_known.ensures c.heads_are_known.ensures m start s stands (so_done c.states_are_known.ensures c.heads_are_known.ensures m on.0 on.1 on.2 completes on.3) in
    let rest : Rest = record { names = c.in_ok-names.field-0; places = c.from_vec.result; shots = c.from_vec-2.result; loads = c.from_vec-3.result } in
    let f : Told = finished_with m.settled.results rest in
    let there = subst (All (IsPlace m.stores)) (sym c.from_vec.ensures) (subst (λ xs. All (IsPlace xs) c.in_ok-places.places.items) c.deref.ensures.value c.in_ok-places.ensures.there) in
    (c.finished_states_tell.ensures m.plan start stands.fits stands.begins stands.labels s stands.reached finished f).0
    (tells c.states_are_known.ensures c.heads_are_known.ensures completes (loads_by c.loads.ensures) m start s stands finished f
    refl refl (c.in_ok-names.ensures ∙ ap (map name_in) c.deref-6.ensures.value)
    (subst (λ xs. IsStrictlySortedBy path_cmp (map path_of xs)) (sym c.from_vec.ensures) c.in_ok-places.ensures.ordered) there
    (λ host x p at e. ap (λ xs. list_any (path_eq p) (map path_of xs)) c.from_vec.ensures ∙ c.in_ok-places.ensures.all host x p (ap (λ xs. slice_get xs host) c.deref.ensures.value ∙ at) e)
    (paired_as IsShotOf c.deref-2.result.now m.stores c.deref-3.result.now c.from_vec.result c.in_ok-shots.shots.items c.from_vec-2.result c.deref-2.ensures.value (c.deref-3.ensures.value ∙ sym c.from_vec.ensures) (sym c.from_vec-2.ensures) c.in_ok-shots.ensures)
    (paired_as (λ xs. IsLoadOf xs m.first) c.deref-4.result.now m.stores c.deref-5.result.now c.from_vec.result c.in_ok-loads.loads.items c.from_vec-3.result c.deref-4.ensures.value (c.deref-5.ensures.value ∙ sym c.from_vec.ensures) (sym c.from_vec-3.ensures) c.in_ok-loads.ensures))
