use Rattle.std.proofs.Common.{◌≡◌, [], length, refl, sym, ap, subst, ◌∙◌, rules}
use Rattle.std.specs.List.{zip}
use Rattle.elastic_policy.specs.Moves.{policy_moves}
use Rattle.elastic_policy.specs.Stages.{no_loads, next_of, ArePlaced}
use Rattle.elastic_policy.proofs.StageLemmas.{unloaded, gives_none, staged_is, others_fit, rest_fits}
use Rattle.elastic_policy.proofs.live.LiveStages.next.Goals as goal

pub returns-then-not-is_empty-clause-staged : goal.returns-then-not-is_empty-clause-staged
returns-then-not-is_empty-clause-staged c =
    let now = c.loop-part.invariant in
    let left = others_fit c.args.self.now.hosts c.loop-part.self-inside.left.items c.in-Some.part c.pop_front.new.self.items c.in-Some.ensures.items now.policies in
    staged_is c.args.self.now _ _ _ _ c.requires now.hosts now.start now.placed (rest_fits c.args.self.now.hosts c.push_front.new.self.items _ c.pop_front.new.self.items c.in_ok-push_front.ensures.items refl left)

pub returns-then-not-is_empty-2-clause-staged : goal.returns-then-not-is_empty-2-clause-staged
returns-then-not-is_empty-2-clause-staged c =
    let now = c.loop-part.invariant in
    staged_is c.args.self.now _ _ _ _ c.requires now.hosts now.start now.placed
    (others_fit c.args.self.now.hosts c.loop-part.self-inside.left.items c.in-Some.part c.pop_front.new.self.items c.in-Some.ensures.items now.policies)

pub loop-part-preserved : goal.loop-part-preserved
loop-part-preserved c =
    let now = c.loop-part.invariant in
    let s = c.args.self.now in
    let loads = c.loop-part.self-inside.live.loads in
    let none : c.in_ok-moves.moves ≡ [] = search rules in
    let empty : c.in-Some.part.batches ≡ [] = search rules in
    let moves : c.in_ok-moves.moves ≡ policy_moves s.hosts c.in-Some.part.policy (zip s.start.places loads) =
    c.in_ok-moves.ensures ∙ (λ i. policy_moves (now.hosts i) c.in-Some.part.policy (zip (now.start i).places loads)) in
    let unused : c.forget_loads.new.self.loads ≡ no_loads (length s.start.places) = c.forget_loads.ensures.loads ∙ ap (λ x. no_loads (length x.places)) now.start in
    record {
      hosts = now.hosts;
      start = c.forget_loads.ensures.start ∙ now.start;
      same =
          ap (λ ls. next_of s.hosts s.start.places ls c.pop_front.new.self.items) unused
          ∙ sym (gives_none s.hosts s.start.places loads c.loop-part.self-inside.left.items c.in-Some.part c.pop_front.new.self.items c.in_ok-moves.moves c.in-Some.ensures.items moves none empty) ∙ now.same;
      placed = subst (ArePlaced s.hosts s.start.places) (sym unused) (unloaded s.hosts s.start.places loads now.placed);
      policies = others_fit s.hosts c.loop-part.self-inside.left.items c.in-Some.part c.pop_front.new.self.items c.in-Some.ensures.items now.policies;
    }
