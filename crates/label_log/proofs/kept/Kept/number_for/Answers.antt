use Rattle.std.proofs.Common.{refl}
use Rattle.label_log.specs.declared.kept.Kept.{Kept}
use Rattle.label_log.proofs.EntryLemmas.{kept_more}
use Rattle.label_log.proofs.kept.Kept.number_for.Goals as goal

pub returns-in_err-number-clause-labels : goal.returns-in_err-number-clause-labels
returns-in_err-number-clause-labels c =
    let after : Kept = record c.args.self.now { paths = c.path_number.new.paths } in
    kept_more c.args.self.now after c.path_number.ensures.more refl refl c.requires

pub returns-clause-labels : goal.returns-clause-labels
returns-clause-labels c =
    let after : Kept = record c.args.self.now { paths = c.path_number.new.paths } in
    kept_more c.args.self.now after c.path_number.ensures.more refl refl c.requires
