use Rattle.std.proofs.Common.{◌≡◌, true, refl, nat_lt, sym, ap, ◌∙◌}
use Rattle.mace_grammar.specs.declared.level.Level.{Level}
use Rattle.mace_grammar.specs.declared.level.Level.TheVariants.{Or, And, Comparison, Sum, Product}
use Rattle.mace_grammar.specs.Levels.{looser_ones, wanted_looser}
use Rattle.mace_grammar.proofs.level.Level.is_looser.Goals as goal

-- each level is looser than none
all_looser : (l : Level) → true ≡ nat_lt (looser_ones l) 5
all_looser Or = refl
all_looser And = refl
all_looser Comparison = refl
all_looser Sum = refl
all_looser Product = refl

pub returns-in-None : goal.returns-in-None
returns-in-None c = all_looser c.args.self ∙ ap (λ l. nat_lt (looser_ones c.args.self) (wanted_looser l)) (sym c.in-None.is)
