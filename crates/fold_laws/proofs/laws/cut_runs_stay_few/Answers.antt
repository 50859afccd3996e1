use Rattle.fold_laws.proofs.Cutting.{more_few}
use Rattle.fold_laws.proofs.laws.cut_runs_stay_few.Goals as goal

pub returns : goal.returns
returns g c =
    λ start a b known s hosts few.
    let r = c.args.runner.now in
    more_few (g.R.Runner.shape r) (g.R.Runner.meaning r) (g.R.Runner.fits_tree r) (g.R.Runner.fits_call r) (g.met.R.Runner.owed r c.requires.sound) c.requires.keeps start a b known s hosts c.requires.grows few
