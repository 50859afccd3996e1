use Rattle.std.proofs.Common.{◌≡◌, Some, sym, subst}
use Rattle.wave_states.specs.Steps.{step}
use Rattle.plan_actors.specs.PlanActors.{plan_actors}
use Rattle.plan_actors.specs.Plans.{Plan}
use Rattle.plan_actors.proofs.Owing.{setting_of}
use Rattle.wave_effects.proofs.lengths.orders_are_alike.Goals as goal

pub returns : goal.returns
returns c = λ start s m m₁ m₂ l l' stands apart first second.
    let p = m.plan in
    let both = c.independent.ensures (setting_of p.program stands.fits.fit stands.fits.verified p.script.hosts) p.workers s first.next second.next l l'
    apart.on_context apart.on_context' apart.tickets apart.workers apart.contexts first.leads second.leads in (
      both.state,
      both.there,
      both.here,
      λ m₁₂ m₂₁ takes takes'. (
        takes both.state (subst (λ (q : Plan). step (plan_actors q.program) q.workers first.next l' ≡ Some both.state) (sym first.plan) both.there),
        takes' both.state (subst (λ (q : Plan). step (plan_actors q.program) q.workers second.next l ≡ Some both.state) (sym second.plan) both.here),
      ),
    )
