-- Movers: each goes down to a context and sends it to a host, or finds that it isn't there.
use Rattle.std.specs.Prelude.{◌≡◌, ◌<◌, ℕ, suc, false, if◌then◌else◌, List, [], ◌∷◌, ◌++◌, length, Option, Some, None}
use Rattle.std.specs.List.{list_any}
use Rattle.wave_base.specs.declared.path.Step.{Step}
use Rattle.wave_base.specs.declared.path.Path.{Path}
use Rattle.wave_base.specs.Paths.{step_eq}
use Rattle.wave_states.specs.Actors.{Actors, Left, Go, Over}
use Rattle.wave_states.specs.Kinds.{Kind}

-- the context, and where to
pub record Move : Type 0 where
  pub path : Path
  pub to : ℕ

-- how a move ends
pub data MoveEnd : Type 0 where
  Moved : Path → ℕ → MoveEnd
  Absent : Path → MoveEnd

-- a move, and the steps that are left
pub record Mover : Type 0 where
  pub move : Move
  pub rest : List Step

abbrev pub sent_to : MoveEnd → Option (Path × ℕ)
sent_to (Moved p h) = Some (p, h)
sent_to (Absent p) = None

module _ {F : Type 0} where
  -- above its target it goes on for good where the record has the next child; there it is over
  abbrev pub advance_on : Move → F → List Step → List Step → Left Mover F MoveEnd
  advance_on m f cs [] = record { actor = record { move = m; rest = [] }; fields = f; pause = Over (Moved m.path m.to) }
  advance_on m f cs (s ∷ ss) =
      if list_any (step_eq s) cs then record { actor = record { move = m; rest = ss }; fields = f; pause = Go s } else record { actor = record { move = m; rest = s ∷ ss }; fields = f; pause = Over (Absent m.path) }

  abbrev pub advance : Mover → F → List Step → Left Mover F MoveEnd
  advance a f cs = advance_on a.move f cs a.rest

  abbrev pub movers : (Path → F) → Actors Mover F MoveEnd Move
  movers initial = record {
    make = λ j t. record { move = j; rest = j.path };
    segment = advance;
    peeks = λ a. false;
    initial = initial;
    created = λ r. [];
    moved = sent_to;
    enough = λ j t tree. suc (length j.path);
    unended = Absent [];
  }

-- a mover stands where its way has brought it, and its host is one of the first so many
pub record IsMover (hosts : ℕ) (a : Mover) (p : Path) (calls : ℕ) : Type 0 where
  pub none : calls ≡ 0
  pub way : a.move.path ≡ p ++ a.rest
  pub within : a.move.to < hosts

-- a move to one of them
abbrev pub IsMove : ℕ → Move → Type 0
IsMove hosts j = j.to < hosts

-- movers, over contexts that may have the fields that fit
abbrev pub mover_kind : {F : Type 0} → (Path → F) → ℕ → (Path → F → Type 0) → Kind Mover F MoveEnd Move
mover_kind initial hosts fits = record { system = movers initial; hosts = hosts; fits = fits; is_job = IsMove hosts; may_run = IsMover hosts }
