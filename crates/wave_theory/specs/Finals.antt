-- What a finished state tells of the numbers of the fold.
use Rattle.std.specs.Prelude.{◌≡◌, ◌+◌, ℕ, List}
use Rattle.std.specs.List.{sum_by}
use Rattle.wave_base.specs.declared.path.Path.{Path}
use Rattle.wave_base.specs.Places.{load_of}
use Rattle.wave_states.specs.Kinds.{Kind}
use Rattle.wave_states.specs.States.{State, Entry}
use Rattle.wave_states.specs.Runs.{Finished}
use Rattle.wave_states.specs.Work.{work_after}
use Rattle.wave_states.specs.Begins.{Begin}
use Rattle.wave_theory.specs.Always.{fold, served_before}
use Rattle.wave_theory.specs.Numbers.{HasEntry}
use Rattle.wave_theory.specs.Counted.{most_moves}

module _ {A F R J : Type 0} (kind : Kind A F R J) where
  -- Loads. In a finished state a context has served what was served before and all that the fold's jobs entered it.
  abbrev pub Loads : ℕ → Begin F → List (List J) → State A F R J → Type 0
  Loads workers b batches s = Finished kind.system workers s → (p : Path) (en : Entry F) → HasEntry s p en →
      en.served ≡ served_before kind b batches p + load_of (fold kind b batches s.head.done).entered p

  -- All moves. In a finished state the contexts together have moved as often as the jobs moved one, and once more where the root
  -- does not begin on host 0.
  abbrev pub AllMoves : ℕ → Begin F → List (List J) → State A F R J → Type 0
  AllMoves workers b batches s = Finished kind.system workers s → (moves : Path → ℕ) → ((p : Path) (en : Entry F) → HasEntry s p en → moves p ≡ en.moves) →
      sum_by moves (fold kind b batches s.head.done).tree.paths ≡ most_moves b (work_after kind.system b batches s.head.done)
