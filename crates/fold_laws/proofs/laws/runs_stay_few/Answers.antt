use Rattle.fold_laws.proofs.Growing.{stays_few}
use Rattle.fold_laws.proofs.laws.runs_stay_few.Goals as goal

pub returns : goal.returns
returns g c =
    λ start script s b.
    let r = c.args.runner.now in
    stays_few (g.R.Runner.shape r) (g.R.Runner.meaning r) (g.R.Runner.fits_tree r) (g.R.Runner.fits_call r) (g.met.R.Runner.owed r c.requires.sound) c.requires.grows start script s b
