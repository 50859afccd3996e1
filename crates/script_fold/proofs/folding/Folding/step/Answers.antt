use Rattle.std.proofs.Common.{◌≡◌, ◌++◌, ◌∷◌, [], ap, refl, is_some, length, ◌∙◌, arith, length-append}
use Rattle.head_tickets.specs.Heads.{line_of}
use Rattle.script_fold.specs.Runs.{after_jobs, hosts_after}
use Rattle.script_fold.proofs.StepLemmas as more
use Rattle.script_fold.proofs.folding.Folding.step.Goals as goal

pub returns-in_default-clause-ended : goal.returns-in_default-clause-ended
returns-in_default-clause-ended g c =
    λ start script s _.
    let r = c.args.runner.now in
    let over = c.next_job.ensures.none (ap is_some c.in_default.is) start.next.0 s.done (after_jobs (g.R.Runner.meaning r) (g.R.Runner.shape r) start script (length s.done)).head s.head in
    more.ended (g.R.Runner.shape r) (g.R.Runner.meaning r) (g.R.Runner.fits_tree r) (g.R.Runner.fits_call r) (g.met.R.Runner.owed r c.requires.sound) start script c.args.self.now s _ refl refl refl refl refl over.0 over.1

pub run_job-requires-clause-tree : goal.run_job-requires-clause-tree
run_job-requires-clause-tree g c =
    let r = c.args.runner.now in
    more.tree_fits (g.R.Runner.shape r) (g.R.Runner.meaning r) (g.R.Runner.fits_tree r) (g.R.Runner.fits_call r) (g.met.R.Runner.owed r c.requires.sound) c.requires.stands.0 c.requires.stands.1 c.args.self.now c.requires.stands.2

pub run_job-requires-clause-job : goal.run_job-requires-clause-job
run_job-requires-clause-job g c =
    let r = c.args.runner.now in
    let s = c.requires.stands.2 in
    more.job_fits (g.R.Runner.shape r) (g.R.Runner.meaning r) (g.R.Runner.fits_tree r) (g.R.Runner.fits_call r) (g.met.R.Runner.owed r c.requires.sound) c.requires.stands.0 c.requires.stands.1 c.args.self.now s (line_of c.in-Some.job) c.next_job.new.head
    (c.in-Some.ensures.some c.requires.stands.0.next.0 s.done (after_jobs (g.R.Runner.meaning r) (g.R.Runner.shape r) c.requires.stands.0 c.requires.stands.1 (length s.done)).head s.head)

pub after_job-requires : goal.after_job-requires
after_job-requires g c =
    let r = c.args.runner.now in
    let s = c.requires.stands.2 in
    let w = after_jobs (g.R.Runner.meaning r) (g.R.Runner.shape r) c.requires.stands.0 c.requires.stands.1 (length s.done) in
    let a = c.in-Some.ensures.some c.requires.stands.0.next.0 s.done w.head s.head in (
      hosts_after c.requires.stands.0 w,
      w.entered,
      more.number_is (g.R.Runner.shape r) (g.R.Runner.meaning r) (g.R.Runner.fits_tree r) (g.R.Runner.fits_call r) (g.met.R.Runner.owed r c.requires.sound) c.requires.stands.0 c.requires.stands.1 c.args.self.now s (line_of c.in-Some.job) c.next_job.new.head a c.len.result (c.len.ensures ∙ c.args.self.now.results.ok.0),
      s.kept.visits,
    )

pub give_tickets-requires : goal.give_tickets-requires
give_tickets-requires g c =
    let r = c.args.runner.now in
    let s = c.requires.stands.2 in
    let w = after_jobs (g.R.Runner.meaning r) (g.R.Runner.shape r) c.requires.stands.0 c.requires.stands.1 (length s.done) in
    let a = c.in-Some.ensures.some c.requires.stands.0.next.0 s.done w.head s.head in (
      c.requires.stands.0.next.0,
      s.done,
      line_of c.in-Some.job,
      w.head,
      a,
      more.room (g.R.Runner.shape r) (g.R.Runner.meaning r) (g.R.Runner.fits_tree r) (g.R.Runner.fits_call r) (g.met.R.Runner.owed r c.requires.sound) c.requires.stands.0 c.requires.stands.1 c.args.self.now s (line_of c.in-Some.job) c.next_job.new.head a c.in_ok-result_.result_ c.in_ok-result_.ensures.outcome,
    )

pub returns-clause-stands : goal.returns-clause-stands
returns-clause-stands g c =
    λ start script s _.
    let r = c.args.runner.now in
    let w = after_jobs (g.R.Runner.meaning r) (g.R.Runner.shape r) start script (length s.done) in
    let a = c.in-Some.ensures.some start.next.0 s.done w.head s.head in
    let result = c.in_ok-result_.result_ in
    let visits = c.in_ok-after_job.ensures (hosts_after start w) w.entered
    (more.number_is (g.R.Runner.shape r) (g.R.Runner.meaning r) (g.R.Runner.fits_tree r) (g.R.Runner.fits_call r) (g.met.R.Runner.owed r c.requires.sound) start script c.args.self.now s (line_of c.in-Some.job) c.next_job.new.head a c.len.result (c.len.ensures ∙ c.args.self.now.results.ok.0))
    s.kept.visits
    (more.move_within (g.R.Runner.shape r) (g.R.Runner.meaning r) (g.R.Runner.fits_tree r) (g.R.Runner.fits_call r) (g.met.R.Runner.owed r c.requires.sound) start script c.args.self.now s (line_of c.in-Some.job) c.next_job.new.head a result c.in_ok-result_.ensures.outcome
    c.as_slice.result.now (c.as_slice.ensures.value ∙ c.in_ok-result_.ensures.entered)) in
    more.stands_further (g.R.Runner.shape r) (g.R.Runner.meaning r) (g.R.Runner.fits_tree r) (g.R.Runner.fits_call r) (g.met.R.Runner.owed r c.requires.sound) start script c.args.self.now s (line_of c.in-Some.job) c.next_job.new.head a result c.in_ok-result_.ensures.outcome
    c.as_slice.result.now (c.as_slice.ensures.value ∙ c.in_ok-result_.ensures.entered) _ c.in_ok-made.made c.name_of.result c.in_ok-result_.ensures.tree (c.in_ok-made.ensures.made start.next.0 s.done (line_of c.in-Some.job) w.head a)
    (c.in_ok-made.ensures.done start.next.0 s.done (line_of c.in-Some.job) w.head a) c.in_ok-push-3.ensures.items c.in_ok-push.ensures.items c.in_ok-push-2.ensures.items c.name_of.ensures visits

pub returns-clause-done : goal.returns-clause-done
returns-clause-done g c =
    λ _.
    let r = c.args.runner.now in
    let s = c.requires.stands.2 in
    let w = after_jobs (g.R.Runner.meaning r) (g.R.Runner.shape r) c.requires.stands.0 c.requires.stands.1 (length s.done) in
    let a = c.in-Some.ensures.some c.requires.stands.0.next.0 s.done w.head s.head in
    let line = line_of c.in-Some.job in
    let now : c.give_tickets.new.head.done ≡ length (s.done ++ line ∷ []) = (c.in_ok-made.ensures.done c.requires.stands.0.next.0 s.done line w.head a).done_is in
    let before : c.args.self.now.head.done ≡ length s.done = s.head.done_is in
    omega (arith, now, before, length-append s.done (line ∷ []))
