use Rattle.std.proofs.Common.{◌≡◌, ℕ, suc, ap, sym, ◌∙◌, Ok, arith, [], ◌∷◌, ◌++◌, ◌+◌}
use Rattle.service_eval.specs.inner.Traces.{world_of}
use Rattle.service_eval.proofs.WorldLemmas.{refuses, last_generation, spawns_no_more, spawns_one_more}
use Rattle.service_eval.proofs.trace.Trace.spawn.Goals as goal

suc_is : (n : ℕ) → suc n ≡ n + 1
suc_is n = omega arith

pub returns-then-self-eq-GENERATION-clause-changes : goal.returns-then-self-eq-GENERATION-clause-changes
returns-then-self-eq-GENERATION-clause-changes c = λ tree. refuses _ _ _ _ _ (last_generation _ _ _ c.if-self-eq-GENERATION.true) c.trap_at.ensures

pub returns-then-len-ge-SPAWNS-clause-changes : goal.returns-then-len-ge-SPAWNS-clause-changes
returns-then-len-ge-SPAWNS-clause-changes c = λ tree. refuses _ _ _ _ _ (spawns_no_more _ _ _ c.if-self-eq-GENERATION.false (omega (arith, c.len.ensures, c.if-len-ge-SPAWNS.true))) c.trap_at-then-len-ge-SPAWNS.ensures

pub returns-clause-changes : goal.returns-clause-changes
returns-clause-changes c = λ tree.
    spawns_one_more c.args.event c.args.args.items (world_of tree c.args.self.now) c.if-self-eq-GENERATION.false (omega (arith, c.len.ensures, c.if-len-ge-SPAWNS.false))
    ∙ ap (λ g. Ok (record (world_of tree c.args.self.now) { created = c.args.self.now.created.items ++ record { event = c.args.event; args = c.args.args.items; generation = g } ∷ [] })) (suc_is c.args.self.now.generation)
    ∙ ap (λ cs. Ok (record (world_of tree c.args.self.now) { created = cs })) (sym (c.in_ok-push.ensures.items ∙ ap (λ a. c.args.self.now.created.items ++ record { event = c.args.event; args = a; generation = c.args.self.now.generation + 1 } ∷ []) c.from_vec.ensures))
