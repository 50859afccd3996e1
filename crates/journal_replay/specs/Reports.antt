-- What is reported of a replay.
use Rattle.std.specs.Prelude.{ℕ, Bool, true, false, List, [], ◌∷◌, ◌++◌, codes, length}
use Rattle.std.specs.Fmt.{decimal}
use Rattle.wave_base.specs.declared.finished.Place.{Place}
use Rattle.wave_base.specs.declared.shape.Shape.{Shape}
use Rattle.wave_labels.specs.declared.label.Label.{Label}
use Rattle.path_text.specs.PathTexts.{path_text}
use Rattle.journal_text.specs.LabelTexts.{label_text}
use Rattle.journal_replay.specs.declared.replaying.Replayed.{Replayed}

-- a line for each, which ends with a line feed
abbrev pub lines_of : {X : Type 0} → (X → List ℕ) → List X → List ℕ
lines_of line [] = []
lines_of line (x ∷ xs) = line x ++ 10 ∷ lines_of line xs

-- run k finished
abbrev pub ending_text : Bool → List ℕ
ending_text true = codes " finished"
ending_text false = codes " unfinished"

abbrev pub run_text : Replayed → List ℕ
run_text r = codes "run " ++ decimal r.steps ++ ending_text r.finished

-- step s admitted a committed c
abbrev pub step_text : Replayed → List ℕ
step_text r = codes "step " ++ decimal r.shown ++ codes " admitted " ++ decimal r.glance.admitted ++ codes " committed " ++ decimal r.glance.committed

-- owner path h
abbrev pub owner_text : Shape → Place → List ℕ
owner_text shape x = codes "owner " ++ path_text shape x.path ++ 32 ∷ decimal x.host.0

-- the run, the step that is shown, and the contexts
abbrev pub replayed_text : Shape → Replayed → List ℕ
replayed_text shape r = run_text r ++ 10 ∷ step_text r ++ 10 ∷ lines_of (owner_text shape) r.glance.owners

-- refused i; enabled k; and the labels that can be taken
abbrev pub refused_text : Shape → ℕ → List Label → List ℕ
refused_text shape step labels = codes "refused " ++ decimal step ++ 10 ∷ codes "enabled " ++ decimal (length labels) ++ 10 ∷ lines_of (label_text shape) labels
