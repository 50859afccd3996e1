use Rattle.std.proofs.Common.{◌≡◌, map, sym, ap, subst, ◌∙◌}
use Rattle.std.specs.Option.{option_map, option_map_or}
use Rattle.std.proofs.lemmas.Result.{err_from_is_err_and}
use Rattle.mace_ast.specs.Decls.{event_tree, phase_tree}
use Rattle.mace_ast.specs.Stmts.{stmt_tree, stmts_of, no_stmts}
use Rattle.resolved_service.specs.Steps.{steps_in, surely_ends}
use Rattle.type_rules.specs.Demands.{first_wrong, Fails}
use Rattle.type_rules.specs.Known.{none_before}
use Rattle.type_rules.specs.Here.{Here, OfEvent, start}
use Rattle.type_rules.specs.Functions.{after_params, event_params_demands, phases_demands, event_end, ended_behind, resolve_phases, event_demands}
use Rattle.type_rules.specs.Views.{last_view, phase_view}
use Rattle.context_types.specs.inner.Judged.{AllFew}
use Rattle.context_types.specs.inner.Places.{here_of}
use Rattle.context_types.proofs.Exits.{exit}
use Rattle.context_types.proofs.FunctionArms.{event_taken, event_params_fail, first_fails, phases_fail, reply_fails, event_holds, event_made}
use Rattle.context_types.proofs.Staying.{params_stay, stmts_stay}
use Rattle.context_types.proofs.functions.event.Goals as goal

pub phases-requires : goal.phases-requires
phases-requires c =
    let begins = here_of c.start-here.result in
    let h = here_of c.event_params.new.self in
    let ss = option_map_or stmts_of (option_map (map stmt_tree) c.args.e.now.here) no_stmts in
    let begun : h.known ≡ c.args.tables.now =
    ap (λ (g : Here). g.known) (sym c.in_ok-event_params.ensures.1) ∙ params_stay begins c.as_slice.result.now ∙ ap (λ (g : Here). g.known) c.start-here.ensures in
    let first = ap (λ (g : Here). g.known) (sym c.in_ok-first.ensures.1.here) ∙ stmts_stay h ss ∙ begun in
    subst AllFew (sym first) c.requires

pub returns-then-not-none_before : goal.returns-then-not-none_before
returns-then-not-none_before c =
    event_taken c.args.tables.now c.args.number (event_tree c.args.e.now) (ap (none_before c.args.number) (sym c.event.ensures) ∙ sym c.none_before.ensures ∙ c.if-not-none_before.true)

pub returns-in_err-event_params : goal.returns-in_err-event_params
returns-in_err-event_params c =
    let known = c.args.tables.now in
    let number = c.args.number in
    let e = event_tree c.args.e.now in
    let new = ap (none_before number) (sym c.event.ensures) ∙ sym c.none_before.ensures ∙ c.if-not-none_before.false in
    let start_is = c.start-here.ensures ∙ ap (λ n. start known 0 n (OfEvent e.result)) c.method_count.ensures in
    exit _ _ _ (err_from_is_err_and c.from_residual.result c.from_residual.ensures.1) (event_demands known number e)
    (event_params_fail known number e new c.in_err-event_params.field-0.0 (subst (λ ds. Fails ds c.in_err-event_params.field-0.0) (λ i. event_params_demands (start_is i) (c.as_slice.ensures i)) c.in_err-event_params.ensures))

pub returns-in_err-first : goal.returns-in_err-first
returns-in_err-first c =
    let known = c.args.tables.now in
    let number = c.args.number in
    let e = event_tree c.args.e.now in
    let new = ap (none_before number) (sym c.event.ensures) ∙ sym c.none_before.ensures ∙ c.if-not-none_before.false in
    let start_is = c.start-here.ensures ∙ ap (λ n. start known 0 n (OfEvent e.result)) c.method_count.ensures in
    let params = c.in_ok-event_params.ensures in
    let h = here_of c.event_params.new.self in
    let begins = (λ i. after_params (sym start_is i) (sym c.as_slice.ensures i)) ∙ params.1 in
    let params_hold = (λ i. first_wrong (event_params_demands (sym start_is i) (sym c.as_slice.ensures i))) ∙ params.0 in
    exit _ _ _ (err_from_is_err_and c.from_residual-in_err-first.result c.from_residual-in_err-first.ensures.1) (event_demands known number e)
    (first_fails known number e new h begins params_hold c.in_err-first.field-0.0 c.in_err-first.ensures)

pub returns-in_err-made : goal.returns-in_err-made
returns-in_err-made c =
    let known = c.args.tables.now in
    let number = c.args.number in
    let e = event_tree c.args.e.now in
    let new = ap (none_before number) (sym c.event.ensures) ∙ sym c.none_before.ensures ∙ c.if-not-none_before.false in
    let start_is = c.start-here.ensures ∙ ap (λ n. start known 0 n (OfEvent e.result)) c.method_count.ensures in
    let params = c.in_ok-event_params.ensures in
    let h = here_of c.event_params.new.self in
    let begins = (λ i. after_params (sym start_is i) (sym c.as_slice.ensures i)) ∙ params.1 in
    let params_hold = (λ i. first_wrong (event_params_demands (sym start_is i) (sym c.as_slice.ensures i))) ∙ params.0 in
    let first = c.in_ok-first.ensures in
    let made = steps_in c.in_ok-first.first.items in
    let tells = ap (λ l. surely_ends (steps_in l)) (sym c.as_slice-2.ensures.value) ∙ sym c.surely_ends-ended.ensures in
    let ended = c.surely_ends-ended.result in
    let j = here_of c.first.new.self in
    exit _ _ _ (err_from_is_err_and c.from_residual-in_err-made.result c.from_residual-in_err-made.ensures.1) (event_demands known number e)
    (phases_fail known number e new h begins params_hold j first.1.here first.0 made first.1.steps ended tells c.in_err-made.field-0.0
    (subst (λ ps. Fails (phases_demands j ended (map phase_tree ps)) c.in_err-made.field-0.0) c.as_slice-3.ensures c.in_err-made.ensures))

pub returns-in_err-last : goal.returns-in_err-last
returns-in_err-last c =
    let known = c.args.tables.now in
    let number = c.args.number in
    let e = event_tree c.args.e.now in
    let new = ap (none_before number) (sym c.event.ensures) ∙ sym c.none_before.ensures ∙ c.if-not-none_before.false in
    let start_is = c.start-here.ensures ∙ ap (λ n. start known 0 n (OfEvent e.result)) c.method_count.ensures in
    let params = c.in_ok-event_params.ensures in
    let h = here_of c.event_params.new.self in
    let begins = (λ i. after_params (sym start_is i) (sym c.as_slice.ensures i)) ∙ params.1 in
    let params_hold = (λ i. first_wrong (event_params_demands (sym start_is i) (sym c.as_slice.ensures i))) ∙ params.0 in
    let first = c.in_ok-first.ensures in
    let made = steps_in c.in_ok-first.first.items in
    let tells = ap (λ l. surely_ends (steps_in l)) (sym c.as_slice-2.ensures.value) ∙ sym c.surely_ends-ended.ensures in
    let ended = c.surely_ends-ended.result in
    let j = here_of c.first.new.self in
    let phases = c.in_ok-made.ensures in
    let l = here_of c.phases.new.self in
    let all = sym c.as_slice-3.ensures in
    let ends = ap (λ ps. event_end j (map phase_tree ps)) all ∙ phases.1.0 in
    let phases_hold = ap (λ ps. first_wrong (phases_demands j ended (map phase_tree ps))) all ∙ phases.0 in
    let past = c.in_ok-made.made.1 in
    let past_is = ap (λ ps. ended_behind j ended (map phase_tree ps)) all ∙ phases.1.2 in
    exit _ _ _ (err_from_is_err_and c.from_residual-in_err-last.result c.from_residual-in_err-last.ensures.1) (event_demands known number e)
    (reply_fails known number e new h begins params_hold j first.1.here first.0 made first.1.steps ended tells l ends phases_hold past past_is c.in_err-last.field-0.0 c.in_err-last.ensures)

pub returns : goal.returns
returns c =
    let known = c.args.tables.now in
    let number = c.args.number in
    let e = event_tree c.args.e.now in
    let new = ap (none_before number) (sym c.event.ensures) ∙ sym c.none_before.ensures ∙ c.if-not-none_before.false in
    let start_is = c.start-here.ensures ∙ ap (λ n. start known 0 n (OfEvent e.result)) c.method_count.ensures in
    let params = c.in_ok-event_params.ensures in
    let h = here_of c.event_params.new.self in
    let begins = (λ i. after_params (sym start_is i) (sym c.as_slice.ensures i)) ∙ params.1 in
    let params_hold = (λ i. first_wrong (event_params_demands (sym start_is i) (sym c.as_slice.ensures i))) ∙ params.0 in
    let first = c.in_ok-first.ensures in
    let made = steps_in c.in_ok-first.first.items in
    let tells = ap (λ l. surely_ends (steps_in l)) (sym c.as_slice-2.ensures.value) ∙ sym c.surely_ends-ended.ensures in
    let ended = c.surely_ends-ended.result in
    let j = here_of c.first.new.self in
    let phases = c.in_ok-made.ensures in
    let l = here_of c.phases.new.self in
    let all = sym c.as_slice-3.ensures in
    let ends = ap (λ ps. event_end j (map phase_tree ps)) all ∙ phases.1.0 in
    let phases_hold = ap (λ ps. first_wrong (phases_demands j ended (map phase_tree ps))) all ∙ phases.0 in
    let past = c.in_ok-made.made.1 in
    let past_is = ap (λ ps. ended_behind j ended (map phase_tree ps)) all ∙ phases.1.2 in
    let last = c.in_ok-last.ensures in
    let phases_are = ap (λ ps. resolve_phases j (map phase_tree ps)) all ∙ phases.1.1 in (
      event_holds known number e new h begins params_hold j first.1.here first.0 made first.1.steps ended tells l ends phases_hold past past_is last.0,
      event_made known number e new h begins params_hold j first.1.here first.0 made first.1.steps ended tells l ends phases_hold past past_is (map phase_view c.in_ok-made.made.0.items) (option_map last_view c.in_ok-last.last) phases_are last.1
          ∙ (λ i. record {
            at = c.args.e.now.at;
            locals = sym c.into_slots.ensures i;
            here = steps_in (sym c.from_vec.ensures i);
            phases = map phase_view (sym c.from_vec-2.ensures i);
            last = option_map last_view c.in_ok-last.last;
          }),
    )
