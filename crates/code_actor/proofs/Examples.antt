-- The market as actors of the machine, computed: a sale, and then a call into two stalls.
use Rattle.std.proofs.Common.{◌≡◌, ℕ, [], ◌∷◌, Option, Some, pos, refl}
use Rattle.std.specs.Prelude.{codes, option_map}
use Rattle.wave_base.specs.declared.call.Call.{Call}
use Rattle.wave_base.specs.declared.outcome.EventResult.{EventResult}
use Rattle.wave_base.specs.declared.outcome.Outcome.TheVariants.{Reply as Replied}
use Rattle.wave_base.specs.declared.path.Path.{Path}
use Rattle.wave_base.specs.declared.path.Step.{Step}
use Rattle.wave_base.specs.declared.value.Value.{Value}
use Rattle.wave_base.specs.declared.value.Value.TheVariants as v
use Rattle.wave_base.specs.Shapes.{initial_fields}
use Rattle.wave_base.specs.Trees.{first_tree}
use Rattle.value_ops.specs.Operators.{operators, takes_of, gives_of, apply_row}
use Rattle.service_verify.specs.Boxes.{first_box}
use Rattle.service_verify.specs.Looks.{peeks, is_quiet_function}
use Rattle.service_verify.specs.Points.{judged_function, judged_from, visit, point_after}
use Rattle.service_verify.specs.Reads.{read_marks}
use Rattle.service_verify.specs.Rules.{effect_of, levels_above}
use Rattle.service_verify.specs.Segments.{Event, weight, enough, steps, segment}
use Rattle.service_verify.specs.Steps.{act_move, one_step}
use Rattle.service_verify.proofs.Samples.{market}
use Rattle.wave_states.specs.Alone.{Alone, after_segments, first_alone}
use Rattle.wave_states.specs.Begins.{first_begin, start_state}
use Rattle.wave_states.specs.Canonical.{enabled_labels}
use Rattle.wave_states.specs.Runs.{run, drive, seed}
use Rattle.wave_states.specs.Steps as machine
use Rattle.wave_states.specs.States.{State}
use Rattle.code_actor.specs.CodeActors.{Fields, code_actors}

abbrev int : ℕ → Value
int n = v.Int (pos n)

abbrev buy : Call
buy = record { event = 0; args = int 1 ∷ int 1 ∷ int 3 ∷ []; generation = 0 }

abbrev pair : Call
pair = record { event = 1; args = int 1 ∷ []; generation = 0 }

abbrev step : ℕ → ℕ → Step
step c n = record { class = record { 0 = c }; key = pos n }

abbrev hall : Path
hall = step 1 1 ∷ []

abbrev stall : ℕ → Path
stall n = step 1 1 ∷ step 2 n ∷ []

abbrev sold : EventResult
sold = record { outcome = Replied (int 7); messages = record { label = codes "till"; value = int 3 } ∷ []; created = [] }

-- a sale alone, after so many segments
abbrev buying : ℕ → Alone Event Fields EventResult
buying n = after_segments (code_actors market) n (first_alone (code_actors market) buy 1 (first_tree market.shape))

-- it goes down for good, and gives up what is above
holds_the_hall : (buying 1).held ≡ hall ∷ []
unfolding after_segments segment steps enough weight one_step act_move first_box takes_of gives_of apply_row operators read_marks peeks is_quiet_function judged_function judged_from visit point_after effect_of levels_above
holds_the_hall = refl

holds_the_stall : (buying 2).held ≡ stall 1 ∷ []
unfolding after_segments segment steps enough weight one_step act_move first_box takes_of gives_of apply_row operators read_marks peeks is_quiet_function judged_function judged_from visit point_after effect_of levels_above
holds_the_stall = refl

is_sold : (buying 3).result ≡ Some sold
unfolding after_segments segment steps enough weight one_step act_move first_box takes_of gives_of apply_row operators read_marks peeks is_quiet_function judged_function judged_from visit point_after effect_of levels_above
is_sold = refl

-- a call into two stalls alone: it comes back, and holds all of them to its end
abbrev pairing : ℕ → Alone Event Fields EventResult
pairing n = after_segments (code_actors market) n (first_alone (code_actors market) pair 1 (first_tree market.shape))

holds_both : (pairing 4).held ≡ hall ∷ stall 1 ∷ stall 2 ∷ []
unfolding after_segments segment steps enough weight one_step act_move first_box takes_of gives_of apply_row operators read_marks peeks is_quiet_function judged_function judged_from visit point_after effect_of levels_above
holds_both = refl

is_back : (pairing 5).at ≡ hall
unfolding after_segments segment steps enough weight one_step act_move first_box takes_of gives_of apply_row operators read_marks peeks is_quiet_function judged_function judged_from visit point_after effect_of levels_above
is_back = refl

-- both in the machine, by two workers
abbrev start : State Event Fields EventResult Call
start = start_state (first_begin (initial_fields market.shape)) ((buy ∷ pair ∷ []) ∷ [])

abbrev driven : Option (State Event Fields EventResult Call)
driven = run (code_actors market) 2 start (drive (code_actors market) 2 1 seed 60 7 start)

abbrev results : Option (State Event Fields EventResult Call) → Option (ℕ × Option EventResult × Option EventResult)
results o = option_map (λ s. (s.head.done, (s.cells 1).result, (s.cells 2).result)) o

both_done : results driven ≡ Some (2, Some sold, Some (record { outcome = Replied (int 15); messages = []; created = [] }))
unfolding machine.step run enabled_labels drive segment steps enough weight one_step act_move first_box takes_of gives_of apply_row operators read_marks peeks is_quiet_function judged_function judged_from visit point_after effect_of levels_above
both_done = refl
