-- A walk and two moves, computed.
use Rattle.std.proofs.Common.{◌≡◌, refl, ℕ, ℤ, pos, negsuc, List, [], ◌∷◌}
use Rattle.wave_base.specs.declared.path.Step.{Step}
use Rattle.wave_base.specs.declared.path.Path.{Path}
use Rattle.wave_base.specs.Tree.{Tree, bare, enter, put, shots}
use Rattle.wave_base.specs.Fold.{Ran}
use Rattle.wave_states.specs.Alone.{run_alone, segments_of, after_segments}
use Rattle.wave_states.specs.Movers.{MoveEnd, Moved, Absent, movers}
use Rattle.wave_states.specs.Walkers.{walkers, visit}

-- the root, two children of it, and a child below one of them
abbrev step : ℕ → ℤ → Step
step c k = record { class = record { 0 = c }; key = k }

abbrev low : Path
low = step 1 (negsuc 4) ∷ []

abbrev high : Path
high = step 1 (pos 2) ∷ []

abbrev below : Path
below = step 1 (pos 2) ∷ step 2 (pos 0) ∷ []

abbrev tree : Tree ℕ
tree = put (put (enter (enter (enter (bare (λ p. 0)) high) below) low) high 7) below 9

abbrev walk : Ran ℕ (List (Path × ℕ))
walk = run_alone (walkers (λ p. 0)) 1 tree tt

-- a walk tells all contexts in path order
walk_tells : (walk).result ≡ ([], 0) ∷ (low, 0) ∷ (high, 7) ∷ (below, 9) ∷ []
unfolding after_segments visit
walk_tells = refl

walk_is_shots : (walk).result ≡ shots tree
unfolding after_segments visit
walk_is_shots = refl

-- of four contexts it has seven segments
walk_segments : segments_of (walkers (λ p. 0)) 1 tree tt ≡ 7
unfolding after_segments visit
walk_segments = refl

abbrev move : Path → Ran ℕ MoveEnd
move p = run_alone (movers (λ p. 0)) 1 tree (record { path = p; to = 3 })

moved : (move below).result ≡ Moved below 3
unfolding after_segments
moved = refl

moved_through : (move below).entered ≡ [] ∷ high ∷ below ∷ []
unfolding after_segments
moved_through = refl

-- it enters the contexts of its path that are there
absent : (move (step 1 (pos 2) ∷ step 2 (pos 8) ∷ [])).result ≡ Absent (step 1 (pos 2) ∷ step 2 (pos 8) ∷ [])
unfolding after_segments
absent = refl

absent_through : (move (step 1 (pos 2) ∷ step 2 (pos 8) ∷ [])).entered ≡ [] ∷ high ∷ []
unfolding after_segments
absent_through = refl
