-- A segment of actors under other names.
use Rattle.wave_states.specs.Actors.{Left, Pause, Go, Down, Back, Over}

-- what a segment leaves, where the actor and its result get other names
abbrev pub pause_as : {R S : Type 0} → (R → S) → Pause R → Pause S
pause_as say (Go s) = Go s
pause_as say (Down s) = Down s
pause_as say Back = Back
pause_as say (Over r) = Over (say r)

abbrev pub left_as : {A B F R S : Type 0} → (A → B) → (R → S) → Left A F R → Left B F S
left_as wrap say l = record { actor = wrap l.actor; fields = l.fields; pause = pause_as say l.pause }
