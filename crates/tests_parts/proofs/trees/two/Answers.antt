use Rattle.std.proofs.Common.{◌≡◌, [], ◌∷◌, rules, refl}
use Rattle.std.specs.declared.cmp.Ordering.TheVariants.{Less}
use Rattle.wave_base.specs.Paths.{path_cmp}
use Rattle.context_tree.proofs.OrderLemmas.{two_ordered}
use Rattle.tests_parts.proofs.trees.two.Goals as goal

pub returns-clause-ordered : goal.returns-clause-ordered
returns-clause-ordered c =
    let both : c.from_vec.result ≡ c.in_ok-low.low ∷ c.in_ok-high.high ∷ [] = search rules in
    let below : path_cmp c.in_ok-low.low.path c.in_ok-high.high.path ≡ Less = rw (c.in_ok-low.ensures, c.in_ok-high.ensures, c.hall.ensures, c.hall-2.ensures) refl in
    two_ordered _ _ _ both below
