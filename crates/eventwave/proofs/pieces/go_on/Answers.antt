use Rattle.std.proofs.Common.{◌≡◌, ◌∙◌, ap, subst, sym}
use Rattle.std.specs.Prelude.{◌==◌}
use Rattle.wave_base.specs.declared.finished.Finished.{Finished}
use Rattle.elastic_policy.specs.Stages.{MayFollow, staged_after}
use Rattle.due_parts.specs.Told.{any_trap}
use Rattle.eventwave.proofs.StageLemmas.{trap_test}
use Rattle.eventwave.proofs.pieces.go_on.Goals as goal

pub after-requires-clause-follows : goal.after-requires-clause-follows
after-requires-clause-follows c = subst (MayFollow c.args.stages.now) (sym c.requires.made.made.done) c.requires.follows

pub returns-clause-trapped : goal.returns-clause-trapped
returns-clause-trapped c =
    let done : Finished = c.args.made.done in
    let same : any_trap c.as_slice.result.now ≡ any_trap done.results = ap any_trap c.as_slice.ensures in
    ap (λ n. n == 1) c.status_of-trapped.ensures ∙ trap_test _ ∙ same ∙ ap (λ (f : Finished). any_trap f.results) c.requires.made.made.done

pub returns-clause-after : goal.returns-clause-after
returns-clause-after c = c.after.ensures.after ∙ ap (staged_after c.args.stages.now) c.requires.made.made.done
