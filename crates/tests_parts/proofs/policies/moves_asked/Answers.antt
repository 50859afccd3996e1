use Rattle.std.proofs.Common.{◌≡◌, ◌<◌, ◌+◌, ◌++◌, ◌∷◌, [], map, sum, length, sym, ap, subst, ◌∙◌, arith, w64}
use Rattle.std.specs.Prelude.{All}
use Rattle.std.specs.List.Sorted.{IsStrictlySortedBy}
use Rattle.std.proofs.lemmas.Int.{to_z_pos}
use Rattle.std.proofs.lemmas.List.{map-append, length_push}
use Rattle.std.proofs.lemmas.List.Elements.{All-nil, All-push}
use Rattle.wave_base.specs.Paths.{path_cmp}
use Rattle.tests_parts.proofs.PolicyPaths.{hall, no_halls, one_hall, halls_rise, small_more}
use Rattle.tests_parts.proofs.policies.moves_asked.Goals as goal

pub loop-key-init : goal.loop-key-init
loop-key-init c = record {
  paths = ap (map (λ x. x.path)) c.new-places.ensures ∙ sym no_halls;
  below = subst (All (λ x. x.host.0 < c.args.hosts)) (sym c.new-places.ensures) (All-nil (λ x. x.host.0 < c.args.hosts));
  paired = ap length c.new-places.ensures ∙ ap length (sym c.new-loads.ensures);
  small = omega (arith, ap sum c.new-loads.ensures);
}

pub loop-key-preserved : goal.loop-key-preserved
loop-key-preserved c =
    let now = c.loop-key.invariant in
    let key = to_z_pos w64 c.loop-key.key (omega (arith, c.loop-key-test.true)) in
    let path : c.hall-path.result ≡ hall c.loop-key.key = c.hall-path.ensures ∙ (λ i. record { class = record { 0 = 1 }; key = key i } ∷ []) in
    record {
      paths = ap (map (λ x. x.path)) c.in_ok-add.ensures.ok ∙ map-append (λ x. x.path) c.loop-key.places _ ∙ (λ i. now.paths i ++ path i ∷ []) ∙ sym (one_hall c.loop-key.key);
      below =
          subst (All (λ x. x.host.0 < c.args.hosts)) (sym c.in_ok-add.ensures.ok)
          (All-push (λ x. x.host.0 < c.args.hosts) c.loop-key.places _ now.below (c.requires.below c.loop-key.key _ (omega (arith, c.loop-key-test.true))));
      paired = ap length c.in_ok-add.ensures.ok ∙ length_push c.loop-key.places _ ∙ ap (λ n. n + 1) now.paired ∙ sym (ap length c.in_ok-add-2.ensures.ok ∙ length_push c.loop-key.loads _);
      small = small_more c.loop-key.loads _ _ c.loop-key.key c.in_ok-add-2.ensures.ok now.small (c.requires.light c.loop-key.key _ (omega (arith, c.loop-key-test.true)));
    }

pub plan_moves-requires-clause-ordered : goal.plan_moves-requires-clause-ordered
plan_moves-requires-clause-ordered c = subst (IsStrictlySortedBy path_cmp) (sym c.loop-key.invariant.paths) (halls_rise c.loop-key.key)
