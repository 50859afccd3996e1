use Rattle.std.proofs.Common.{◌≡◌, [], ◌∷◌, ◌++◌, refl, subst, ◌∙◌}
use Rattle.context_tree.specs.Contexts.{tree_of}
use Rattle.wave_base.specs.Tree.{enter}
use Rattle.service_code.specs.declared.program.Program.{Program}
use Rattle.code_runner.proofs.Stepped.{started}
use Rattle.code_runner.proofs.walk.Walk.start.Goals as goal

pub returns-in-Ok-clause-first : goal.returns-in-Ok-clause-first
returns-in-Ok-clause-first c =
    started c.args.program.now c.args.call.now c.in_ok-copy.field-0 (tree_of c.args.program.now.shape c.args.contexts.now) (tree_of c.args.program.now.shape c.join.new.contexts)
    (record { event = c.in-Ok.event; entered = c.push.new.self; segments = 0 })
    c.in_ok-copy.ensures c.in-Ok.ensures.event
    (c.in_ok-push.ensures.items ∙ (λ i. c.new-entered.ensures.items i ++ c.root-root.ensures i ∷ []))
    refl
    (subst (λ (p : Program). tree_of p.shape c.join.new.contexts ≡ enter (tree_of p.shape c.args.contexts.now) []) c.program.ensures.program
    (subst (λ r. tree_of c.program.result.now.shape c.join.new.contexts ≡ enter (tree_of c.program.result.now.shape c.args.contexts.now) r) c.root-root.ensures c.in_ok-join.ensures.ok))
