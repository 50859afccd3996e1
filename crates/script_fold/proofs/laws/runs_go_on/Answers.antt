use Rattle.script_fold.proofs.AgainLemmas.{run_goes_on}
use Rattle.script_fold.proofs.laws.runs_go_on.Goals as goal

pub returns : goal.returns
returns g c =
    λ start script s b few.
    let r = c.args.runner.now in
    run_goes_on (g.R.Runner.shape r) (g.R.Runner.meaning r) (g.R.Runner.fits_tree r) (g.R.Runner.fits_call r) (g.met.R.Runner.owed r c.requires.sound) c.requires.keeps start script s b few
