-- The tree protocol: how an event enters, holds and gives up contexts, segment by segment.
use Rattle.std.specs.Prelude.{◌≡◌, ◌⊎◌, ℕ, suc, Bool, true, false, None, [], ◌∷◌, ◌++◌}
use Rattle.std.specs.List.{list_any}
use Rattle.wave_base.specs.declared.call.Call.{Call}
use Rattle.wave_base.specs.declared.path.Path.{Path}
use Rattle.wave_base.specs.declared.path.Step.{Step}
use Rattle.wave_base.specs.Paths.{path_eq}
use Rattle.wave_base.specs.Tree.{Tree}
use Rattle.service_verify.specs.Steps.{is_held}
use Rattle.service_code.specs.declared.program.Program.{Program}
use Rattle.service_verify.specs.Tours.{Tour, tour_after, first_tour}
use Rattle.code_actor.specs.CodeActors.{Fields}

abbrev pub has_entered : Tour → Path → Bool
has_entered t q = list_any (path_eq q) t.entered

abbrev pub holds : Tour → Path → Bool
holds t q = is_held t.box.held q

-- a segment enters nothing, or one child of the context where it ran, which the event never entered before
abbrev pub Enters : Tour → Tour → Type 0
Enters t u =
    (u.entered ≡ t.entered)
    ⊎ ((s : Step) × (has_entered t (t.box.path ++ s ∷ []) ≡ false) × (u.entered ≡ t.entered ++ (t.box.path ++ s ∷ []) ∷ []))

-- From before a segment to after it: the event holds the context where the segment runs; so it enters a context only while it
-- holds the one above, and each at most once. And what it holds then is what it held, or what it has just entered: it never holds
-- again what it gave up.
pub record Locks (t u : Tour) : Type 0 where
  pub here : holds t t.box.path ≡ true
  pub enters : Enters t u
  pub held : (q : Path) → holds u q ≡ true → (holds t q ≡ true) ⊎ ((has_entered t q ≡ false) × (has_entered u q ≡ true))

-- so it is with the next segment after any number of them, as long as the event is not over
abbrev pub KeepsLocks : Program → Call → Tree Fields → Type 0
KeepsLocks program call tree =
    (n : ℕ) → (tour_after program n (first_tour program call tree)).result ≡ None → Locks (tour_after program n (first_tour program call tree)) (tour_after program (suc n) (first_tour program call tree))
