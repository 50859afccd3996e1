use Rattle.std.proofs.Common.{Some, ap, option_copied, sym, ◌∙◌}
use Rattle.wave_base.specs.PathLaws.{path_eq_decides}
use Rattle.label_log.proofs.numbers.has_number.Goals as goal

pub returns-in-Some : goal.returns-in-Some
returns-in-Some c = λ same. sym c.get_index.ensures.key ∙ ap option_copied c.in-Some.is ∙ ap Some ((path_eq_decides c.in-Some.found.now c.args.path.now).0 (sym c.eq.ensures ∙ same))
