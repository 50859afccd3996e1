-- A Start of two contexts that fits a shape and three hosts, and what doesn't.
use Rattle.std.proofs.Common.{◌≡◌, ◌<◌, Bool, true, false, List, [], ◌∷◌, refl, sym, subst, arith}
use Rattle.std.specs.Prelude.{if◌then◌else◌}
use Rattle.std.proofs.lemmas.List.Elements.{All-from_recursion, recursion_from_All}
use Rattle.std.specs.List.Sorted.{IsStrictlySortedBy}
use mathlib.Core.Bool.{true≢false}
use Rattle.wave_base.specs.declared.finished.Place.{Place}
use Rattle.wave_base.specs.declared.path.Path.{Path}
use Rattle.wave_base.specs.declared.start.Start.{Start}
use Rattle.wave_base.specs.Paths.{path_eq, path_cmp, parent_of}
use Rattle.wave_base.specs.PathLaws.{path_eq_decides}
use Rattle.wave_base.specs.Shapes.{is_path, initial_fields}
use Rattle.wave_base.specs.Starts.{IsStart, start_tree, shown_fields}
use Rattle.wave_base.specs.Tree.{there}
use Rattle.wave_base.specs.Trees.{HasKinds}
use Rattle.service_verify.proofs.Samples.{market_shape}
use Rattle.tests_definitions.proofs.Market.{num, hall}

-- the root on host 2 and a hall on host 0, from ticket 7 on
abbrev pub start : Start
start = record {
  shots = record { path = []; fields = num 40 ∷ [] } ∷ record { path = hall 3; fields = num 3 ∷ [] } ∷ [];
  places = record { path = []; host = record { 0 = 2 } } ∷ record { path = hall 3; host = record { 0 = 0 } } ∷ [];
  next = record { 0 = 7 };
}

abbrev paths : List Path
paths = [] ∷ hall 3 ∷ []

not_there : (p : Path) → there (start_tree market_shape start) p ≡ false → shown_fields market_shape start.shots p ≡ initial_fields market_shape p
not_there [] e = absurd (true≢false e)
not_there (s ∷ p) e = by (path_eq (hall 3) (s ∷ p)) refl
  where
    by : (i : Bool) → path_eq (hall 3) (s ∷ p) ≡ i → (if i then num 3 ∷ [] else initial_fields market_shape (s ∷ p)) ≡ initial_fields market_shape (s ∷ p)
    by false z = refl
    by true z = absurd (true≢false (subst (λ q. there (start_tree market_shape start) q ≡ false) (sym ((path_eq_decides (hall 3) (s ∷ p)).0 z)) e))

in_order : IsStrictlySortedBy path_cmp paths
unfolding IsStrictlySortedBy
in_order = ((refl, tt), (tt, tt))

fits : IsStart market_shape 3 start
fits = record {
  tree = record {
    ordered = in_order;
    paths = All-from_recursion (λ p. is_path market_shape p ≡ true) paths (refl, (refl, tt));
    parents = All-from_recursion (λ p. there (start_tree market_shape start) (parent_of p) ≡ true) paths (refl, (refl, tt));
    kinds = All-from_recursion (λ p. HasKinds market_shape p ((start_tree market_shape start).fields p)) paths (refl, (refl, tt));
    absent = not_there;
  };
  root = refl;
  places = refl;
  hosts = All-from_recursion (λ (x : Place). x.host.0 < 3) start.places (omega arith, (omega arith, tt));
  few = omega arith;
  first_next = omega arith;
  last_next = omega arith;
}

-- with two hosts there is no host 2
two_hosts : IsStart market_shape 2 start → ⊥
two_hosts s = omega (arith, (recursion_from_All (λ (x : Place). x.host.0 < 2) start.places s.hosts).0)

-- and there is no ticket 0
no_ticket : IsStart market_shape 3 (record start { next = record { 0 = 0 } }) → ⊥
no_ticket s = omega (arith, s.first_next)
