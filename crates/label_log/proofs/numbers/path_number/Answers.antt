use Rattle.std.proofs.Common.{Some, ap, sym, ◌∙◌}
use Rattle.wave_base.specs.PathLaws.{path_eq_decides}
use Rattle.label_log.proofs.numbers.path_number.Goals as goal

pub returns-clause-number : goal.returns-clause-number
returns-clause-number c = let h = c.in_ok-number.ensures.stored in h.1 ∙ ap Some (sym ((path_eq_decides c.args.path.now h.0).0 h.2))
