-- What a run leaves, as what the next one begins with.
use Rattle.std.proofs.Common.{◌≡◌, ℕ, [], ◌∷◌, Some, None, pos, refl}
use Rattle.wave_base.specs.declared.finished.Finished.{Finished}
use Rattle.wave_base.specs.declared.finished.Place.{Place}
use Rattle.wave_base.specs.declared.outcome.Outcome.TheVariants as out
use Rattle.wave_base.specs.declared.path.Path.{Path}
use Rattle.wave_base.specs.declared.shot.Shot.{Shot}
use Rattle.wave_base.specs.declared.start.Start.{Start}
use Rattle.wave_base.specs.declared.value.Value.TheVariants as v
use Rattle.resolved_service.specs.Jobs.{only}
use Rattle.script_fold.specs.Runs.{start_after}

abbrev hall : ℕ → Path
hall n = record { class = record { 0 = 1 }; key = pos n } ∷ []

abbrev shot : Path → ℕ → Shot
shot p n = record { path = p; fields = v.Int (pos n) ∷ [] }

abbrev place : Path → ℕ → Place
place p h = record { path = p; host = record { 0 = h } }

-- it begins with the root alone, on host 1, and with ticket 7
abbrev before : Start
before = record { shots = shot [] 5 ∷ []; places = place [] 1 ∷ []; next = record { 0 = 7 } }

-- tickets 7 and 8 have results, and there are three contexts afterwards
abbrev done : Finished
done = record {
  results = only out.Done ∷ only (out.Moved (hall 1) (record { 0 = 0 })) ∷ [];
  made = [] ∷ [] ∷ [];
  names = Some 0 ∷ None ∷ [];
  places = place [] 1 ∷ place (hall 1) 0 ∷ place (hall 2) 1 ∷ [];
  shots = shot [] 6 ∷ shot (hall 1) 3 ∷ shot (hall 2) 4 ∷ [];
  loads = 2 ∷ 2 ∷ 1 ∷ [];
}

-- The next ticket is 9: not 10 (one behind the next), not 8 (the last one again), not 3 (counted from 1), and not 10 for the three contexts.
next_ticket : (start_after before done).next ≡ record { 0 = 9 }
next_ticket = refl

-- the fields are those after the run, not those before it
shots_after : (start_after before done).shots ≡ shot [] 6 ∷ shot (hall 1) 3 ∷ shot (hall 2) 4 ∷ []
shots_after = refl

-- and so are the hosts
places_after : (start_after before done).places ≡ place [] 1 ∷ place (hall 1) 0 ∷ place (hall 2) 1 ∷ []
places_after = refl

-- where nothing was run the next ticket is the same
nothing_run : (start_after before (record done { results = [] })).next ≡ record { 0 = 7 }
nothing_run = refl
