use Rattle.fold_laws.proofs.Cutting.{comes, cut, more_comes}
use Rattle.fold_laws.proofs.laws.runs_are_cut.Goals as goal

pub returns-clause-first : goal.returns-clause-first
returns-clause-first g c =
    λ start a s b few.
    let r = c.args.runner.now in
    comes (g.R.Runner.shape r) (g.R.Runner.meaning r) (g.R.Runner.fits_tree r) (g.R.Runner.fits_call r) (g.met.R.Runner.owed r c.requires.sound) c.requires.keeps start a s b few

pub returns-clause-cut : goal.returns-clause-cut
returns-clause-cut g c =
    λ start a b known s hosts.
    let r = c.args.runner.now in
    cut (g.R.Runner.shape r) (g.R.Runner.meaning r) (g.R.Runner.fits_tree r) (g.R.Runner.fits_call r) (g.met.R.Runner.owed r c.requires.sound) c.requires.keeps start a b known s hosts

pub returns-clause-more : goal.returns-clause-more
returns-clause-more g c =
    λ start a b known s hosts few.
    let r = c.args.runner.now in
    more_comes (g.R.Runner.shape r) (g.R.Runner.meaning r) (g.R.Runner.fits_tree r) (g.R.Runner.fits_call r) (g.met.R.Runner.owed r c.requires.sound) c.requires.keeps start a b known s hosts few
