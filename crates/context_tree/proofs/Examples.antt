-- Path order on pairs of paths, and a tree by hand, computed.
use Rattle.std.proofs.Common.{◌≡◌, ℕ, ℤ, pos, negsuc, true, false, [], ◌∷◌, Some, None, refl}
use Rattle.std.specs.Prelude.{codes}
use Rattle.std.specs.declared.cmp.Ordering.TheVariants.{Less, Equal, Greater}
use Rattle.wave_base.specs.declared.path.Path.{Path}
use Rattle.wave_base.specs.declared.path.Step.{Step}
use Rattle.wave_base.specs.declared.shape.Shape.{Shape}
use Rattle.wave_base.specs.declared.value.Kind.TheVariants as k
use Rattle.wave_base.specs.declared.value.Value.TheVariants.{Int, Bool}
use Rattle.wave_base.specs.Paths.{path_cmp}
use Rattle.wave_base.specs.Tree.{enter, shots}
use Rattle.wave_base.specs.Trees.{first_tree}
use Rattle.context_tree.specs.Contexts.{Contexts, is_there, fields_in, tree_of, with_field, joins}

abbrev step : ℕ → ℤ → Step
step c key = record { class = record { 0 = c }; key = key }

abbrev hall : ℤ → Path
hall key = step 1 key ∷ []

abbrev stall : ℤ → ℤ → Path
stall h s = step 1 h ∷ step 2 s ∷ []

root_first : path_cmp [] (hall (negsuc 8)) ≡ Less
root_first = refl

root_alone : path_cmp [] [] ≡ Equal
root_alone = refl

prefix_first : path_cmp (hall (pos 1)) (stall (pos 1) (negsuc 99)) ≡ Less
prefix_first = refl

longer_later : path_cmp (stall (pos 1) (pos 1)) (hall (pos 1)) ≡ Greater
longer_later = refl

keys_as_numbers : path_cmp (hall (pos 9)) (hall (pos 10)) ≡ Less
keys_as_numbers = refl

negative_keys : path_cmp (hall (negsuc 9)) (hall (negsuc 8)) ≡ Less
negative_keys = refl

sign_of_keys : path_cmp (hall (negsuc 0)) (hall (pos 0)) ≡ Less
sign_of_keys = refl

least_and_greatest : path_cmp (hall (negsuc 9223372036854775807)) (hall (pos 9223372036854775807)) ≡ Less
least_and_greatest = refl

classes_before_keys : path_cmp (step 1 (pos 5) ∷ []) (step 2 (negsuc 5) ∷ []) ≡ Less
classes_before_keys = refl

first_step_decides : path_cmp (stall (pos 1) (pos 9)) (hall (pos 2)) ≡ Less
first_step_decides = refl

second_step_decides : path_cmp (stall (pos 1) (pos 3)) (stall (pos 1) (pos 2)) ≡ Greater
second_step_decides = refl

same_path : path_cmp (stall (pos 1) (negsuc 1)) (stall (pos 1) (negsuc 1)) ≡ Equal
same_path = refl

-- a root with a counter, and a class below it with a counter and a flag
abbrev market : Shape
market = record {
  classes =
      record { name = codes "Market"; parent = None; fields = record { name = codes "seen"; kind = k.Int; initial = Int (pos 0) } ∷ [] }
      ∷ record {
        name = codes "Hall";
        parent = Some (record { 0 = 0 });
        fields = record { name = codes "count"; kind = k.Int; initial = Int (pos 7) } ∷ record { name = codes "open"; kind = k.Bool; initial = Bool true } ∷ [];
      }
      ∷ [];
  events = [];
}

abbrev kept : Contexts
kept = record {
  shots =
      record { path = []; fields = Int (pos 3) ∷ [] }
      ∷ record { path = hall (pos 2); fields = Int (pos 9) ∷ Bool false ∷ [] }
      ∷ [];
  joined = [] ∷ hall (pos 2) ∷ [];
}

hall_there : is_there kept (hall (pos 2)) ≡ true
hall_there = refl

other_hall : is_there kept (hall (negsuc 1)) ≡ false
other_hall = refl

hall_fields : fields_in kept.shots (hall (pos 2)) ≡ Some (Int (pos 9) ∷ Bool false ∷ [])
hall_fields = refl

-- one that joins has the initial fields, and one that is there stays as it is
joined : shots (enter (enter (tree_of market kept) (hall (negsuc 1))) (hall (pos 2))) ≡ ([], Int (pos 3) ∷ []) ∷ (hall (negsuc 1), Int (pos 7) ∷ Bool true ∷ []) ∷ (hall (pos 2), Int (pos 9) ∷ Bool false ∷ []) ∷ []
joined = refl

-- last of those that joined, whatever its place in path order
joined_last : joins (joins kept.joined (hall (negsuc 1))) (hall (pos 2)) ≡ [] ∷ hall (pos 2) ∷ hall (negsuc 1) ∷ []
joined_last = refl

-- a field that is set, and no other
changed : shots (with_field (tree_of market kept) (hall (pos 2)) 0 (Int (pos 1))) ≡ ([], Int (pos 3) ∷ []) ∷ (hall (pos 2), Int (pos 1) ∷ Bool false ∷ []) ∷ []
changed = refl

first : shots (first_tree market) ≡ ([], Int (pos 0) ∷ []) ∷ []
first = refl
