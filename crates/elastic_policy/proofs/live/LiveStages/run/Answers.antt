use Rattle.std.proofs.Common.{◌≡◌, ◌∙◌, ap, subst, sym}
use Rattle.script_fold.specs.Runs.{finished_of, start_after}
use Rattle.elastic_policy.specs.Stages.{Staged, IsStaged, staged_after}
use Rattle.elastic_policy.proofs.live.LiveStages.run.Goals as goal

pub returns-clause-staged : goal.returns-clause-staged
returns-clause-staged g c =
    let m = g.R.Runner.meaning c.args.runner.now in
    let sh = g.R.Runner.shape c.args.runner.now in
    let s = c.args.self in
    let from : c.self.inside.live.start ≡ s.start = ap (λ (x : Staged). x.start) c.self.view_is in
    let after : IsStaged (staged_after s (finished_of m sh s.start c.args.script)) =
    record { some_host = c.requires.staged.some_host; few_hosts = c.requires.staged.few_hosts; placed = c.requires.follows.placed; policies = c.requires.staged.policies } in
    subst IsStaged
    (sym
    (λ i. record {
      hosts = ap (λ (x : Staged). x.hosts) c.self.view_is i;
      start = (c.in_ok-live.ensures.start ∙ (λ j. start_after (from j) (finished_of m sh (from j) c.args.script))) i;
      loads = (c.in_ok-live.ensures.loads ∙ (λ j. (finished_of m sh (from j) c.args.script).loads)) i;
      left = ap (λ (x : Staged). x.left) c.self.view_is i;
    }))
    after
