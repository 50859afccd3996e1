use Rattle.std.proofs.Common.{map, sym, ap, subst, ◌∙◌}
use Rattle.std.proofs.lemmas.List.{take_all}
use Rattle.std.proofs.lemmas.Result.{err_from_is_err_and}
use Rattle.mace_ast.specs.Decls.{phase_tree}
use Rattle.resolved_service.specs.Steps.{steps_in, surely_ends}
use Rattle.type_rules.specs.Demands.{first_wrong, Fails}
use Rattle.type_rules.specs.Here.{Here}
use Rattle.type_rules.specs.Functions.{phases_demands}
use Rattle.type_rules.specs.Views.{phase_view}
use Rattle.type_rules.proofs.First.{fails_same}
use Rattle.context_types.specs.inner.Judged.{AllFew}
use Rattle.context_types.specs.inner.Places.{here_of}
use Rattle.context_types.proofs.Exits.{exit}
use Rattle.context_types.proofs.Lists.{next_phase, phase_asks, phase_made, phases_walk, phases_ends, phases_ended, phases_made}
use Rattle.context_types.proofs.Staying.{phase_stays}
use Rattle.context_types.proofs.Walking.{walk, ends, ends_more, walk_more, walk_fails, walk_whole, makes, made_more}
use Rattle.context_types.proofs.here.Here.phases.Goals as goal

pub phase-requires : goal.phase-requires
phase-requires c = c.loop-phase.invariant.few

pub returns-in_err-phase : goal.returns-in_err-phase
returns-in_err-phase c =
    let h = here_of c.args.self.now in
    let b = c.args.ended in
    let ps = c.args.phases.now in
    let p = c.phase-item.result in
    exit _ _ _ (err_from_is_err_and c.from_residual.result c.from_residual.ensures.1) (phases_demands h b (map phase_tree ps))
    (fails_same (phases_demands h b (map phase_tree ps)) (walk next_phase phase_asks (h, b) ps) c.in_err-phase.field-0.0 (ap first_wrong (phases_walk h b ps))
    (walk_fails next_phase phase_asks (h, b) ps c.loop-phase.phase-index p c.in_err-phase.field-0.0 c.loop-phase-test.true c.phase-item.is c.loop-phase.invariant.holds
    (subst (λ g. Fails (phase_asks g p) c.in_err-phase.field-0.0) (sym c.loop-phase.invariant.place) c.in_err-phase.ensures)))

pub loop-phase-preserved : goal.loop-phase-preserved
loop-phase-preserved c =
    let h = here_of c.args.self.now in
    let b = c.args.ended in
    let ps = c.args.phases.now in
    let p = c.phase-item.result in
    let i = c.loop-phase.phase-index in
    let is = c.loop-phase.invariant in
    let made = c.in_ok-phase.ensures.1 in
    record {
      holds = walk_more next_phase phase_asks (h, b) ps i p c.loop-phase-test.true c.phase-item.is is.holds (ap (λ g. first_wrong (phase_asks g p)) is.place ∙ c.in_ok-phase.ensures.0);
      place = ends_more next_phase (h, b) ps i p c.loop-phase-test.true c.phase-item.is ∙ ap (λ g. next_phase g p) is.place
          ∙ (λ i. (made.0 i, (ap (λ v. surely_ends v.body) made.1 ∙ ap (λ l. surely_ends (steps_in l)) (sym c.as_slice.ensures) ∙ sym c.surely_ends-past.ensures) i));
      made = made_more next_phase phase_made phase_view (h, b) ps i p c.loop-phase.made.items c.push.new.items.items c.in_ok-phase.phase c.loop-phase-test.true c.phase-item.is is.made
          (ap (λ g. phase_made g p) is.place ∙ made.1) c.in_ok-push.ensures.items;
      few = subst AllFew (sym (phase_stays (here_of c.loop-phase.self) (phase_tree p)) ∙ ap (λ (g : Here). g.known) made.0) is.few;
    }

pub returns : goal.returns
returns c =
    let h = here_of c.args.self.now in
    let b = c.args.ended in
    let ps = c.args.phases.now in
    let i = c.loop-phase.phase-index in
    let is = c.loop-phase.invariant in
    let all = sym (take_all i ps c.loop-phase-test.false) in (
      ap first_wrong (phases_walk h b ps) ∙ walk_whole next_phase phase_asks (h, b) ps i c.loop-phase-test.false is.holds,
      (
        phases_ends h b ps ∙ ap (λ xs. (ends next_phase (h, b) xs).0) all ∙ ap (λ g. g.0) is.place,
        phases_made h b ps ∙ ap (makes next_phase phase_made (h, b)) all ∙ is.made,
        phases_ended h b ps ∙ ap (λ xs. (ends next_phase (h, b) xs).1) all ∙ ap (λ g. g.1) is.place,
      ),
    )
