-- What the verifier and the machine give of small programs, computed.
use Rattle.std.proofs.Common.{◌≡◌, ℕ, true, false, List, [], ◌∷◌, ◌++◌, Some, None, pos, refl}
use Rattle.std.specs.List.{list_all}
use Rattle.std.specs.Prelude.{Bool, is_ok, codes, Ok, Err, option_map, slice_get, Option, Result}
use Rattle.wave_base.specs.declared.call.Call.{Call}
use Rattle.wave_base.specs.declared.outcome.EventResult.{EventResult}
use Rattle.wave_base.specs.declared.outcome.Outcome.TheVariants.{Reply as Replied}
use Rattle.wave_base.specs.declared.path.Path.{Path}
use Rattle.wave_base.specs.declared.path.Step.{Step}
use Rattle.wave_base.specs.declared.value.Kind.{Kind}
use Rattle.wave_base.specs.declared.value.Kind.TheVariants as k
use Rattle.wave_base.specs.declared.value.Value.{Value}
use Rattle.wave_base.specs.declared.value.Value.TheVariants as v
use Rattle.wave_base.specs.Trees.{first_tree}
use Rattle.wave_base.specs.Tree.{Tree, shots}
use Rattle.value_ops.specs.Operators.{operators, takes_of, gives_of, apply_row}
use Rattle.service_code.specs.declared.instr.Instr.{Instr}
use Rattle.service_code.specs.declared.instr.Instr.TheVariants.{PushInt, PushBool, Pop, Op, Jump, Tick, Call as CallOwn, CallDown, Return, Field, SetField, Go, Reply, End}
use Rattle.service_code.specs.declared.program.Function.{Function}
use Rattle.service_code.specs.declared.program.Program.{Program}
use Rattle.service_verify.specs.declared.error.Rule.TheVariants as rule
use Rattle.service_verify.specs.declared.point.Point.{Point}
use Rattle.service_verify.specs.Boxes.{first_box}
use Rattle.service_verify.specs.Looks.{is_quiet_function, peeks, looks_from}
use Rattle.service_verify.specs.Points.{Table, Fault, point_after, visit, judged_from, judged_function}
use Rattle.service_verify.specs.Reads.{read_marks}
use Rattle.service_verify.specs.Rules.{levels_above, effect_of}
use Rattle.service_verify.specs.Segments.{weight, enough, steps, segment}
use Rattle.service_verify.specs.Steps.{act_move, one_step}
use Rattle.service_verify.specs.Tours.{Tour, tour_after, code_tour}
use Rattle.service_verify.specs.inner.Surveys.{looks_by}
use Rattle.service_verify.proofs.Samples.{class, function, tick, market}

abbrev point : List Kind → Option Point
point ks = Some (record { class = record { 0 = 0 }; stack = ks })

tick_points : option_map (judged_function tick 0) (slice_get tick.functions 0) ≡ Some (Ok (point [] ∷ point (k.Int ∷ []) ∷ point (k.Int ∷ k.Int ∷ []) ∷ point (k.Int ∷ []) ∷ point [] ∷ point (k.Int ∷ []) ∷ []))
unfolding judged_function judged_from visit point_after effect_of takes_of gives_of operators
tick_points = refl

-- one program each that breaks a rule: function 0 of a program of its own, an event of the counter's shape
abbrev with_code : List Instr → Program
with_code code = record tick { functions = function (codes "hit") 0 true [] (Some k.Int) [] 2 code ∷ [] }

abbrev judged : List Instr → Result Table Fault
judged code = judged_function (with_code code) 0 (function (codes "hit") 0 true [] (Some k.Int) [] 2 code)

pop_first : judged (Pop ∷ []) ≡ Err (record { rule = rule.Stack; instruction = 0 })
unfolding judged_function judged_from visit point_after effect_of
pop_first = refl

neg_of_a_bool : judged (PushBool true ∷ Op 5 ∷ []) ≡ Err (record { rule = rule.Kind; instruction = 1 })
unfolding judged_function judged_from visit point_after effect_of takes_of gives_of operators
neg_of_a_bool = refl

far_jump : judged (Jump 9 ∷ End ∷ []) ≡ Err (record { rule = rule.Jump; instruction = 0 })
unfolding judged_function judged_from visit point_after effect_of
far_jump = refl

later_call : judged (CallOwn 1 ∷ []) ≡ Err (record { rule = rule.Call; instruction = 0 })
unfolding judged_function judged_from visit point_after effect_of
later_call = refl

field_64 : judged (Field 64 ∷ []) ≡ Err (record { rule = rule.Field; instruction = 0 })
unfolding judged_function judged_from visit point_after effect_of
field_64 = refl

-- whole events, one after the other on one tree
abbrev call : ℕ → List Value → Call
call event args = record { event = event; args = args; generation = 0 }

abbrev int : ℕ → Value
int n = v.Int (pos n)

tick_once : (code_tour tick (call 0 []) (first_tree tick.shape)).result ≡ Some (record { outcome = Replied (int 1); messages = []; created = [] })
unfolding code_tour tour_after segment steps enough weight one_step act_move first_box takes_of gives_of apply_row operators
tick_once = refl

abbrev bought : Call → Tree (List Value) → Tour
bought c tree = code_tour market c tree

abbrev first_buy : Tour
first_buy = bought (call 0 (int 1 ∷ int 1 ∷ int 3 ∷ [])) (first_tree market.shape)

abbrev second_buy : Tour
second_buy = bought (call 0 (int 1 ∷ int 2 ∷ int 4 ∷ [])) first_buy.tree

abbrev last_pair : Tour
last_pair = bought (call 1 (int 1 ∷ [])) second_buy.tree

abbrev sold : ℕ → ℕ → Option EventResult
sold left till = Some (record { outcome = Replied (int left); messages = record { label = codes "till"; value = int till } ∷ []; created = [] })

abbrev step : ℕ → ℕ → Step
step c n = record { class = record { 0 = c }; key = pos n }

abbrev hall : Path
hall = step 1 1 ∷ []

abbrev stall : ℕ → Path
stall n = step 1 1 ∷ step 2 n ∷ []

first_sold : first_buy.result ≡ sold 7 3
unfolding code_tour tour_after segment steps enough weight one_step act_move first_box takes_of gives_of apply_row operators
first_sold = refl

second_sold : second_buy.result ≡ sold 6 7
unfolding code_tour tour_after segment steps enough weight one_step act_move first_box takes_of gives_of apply_row operators
second_sold = refl

pair_ends : last_pair.result ≡ Some (record { outcome = Replied (int 11); messages = []; created = [] })
unfolding code_tour tour_after segment steps enough weight one_step act_move first_box takes_of gives_of apply_row operators
pair_ends = refl

-- each change of place begins a segment
buy_segments : first_buy.segments ≡ 3
unfolding code_tour tour_after segment steps enough weight one_step act_move first_box takes_of gives_of apply_row operators
buy_segments = refl

pair_segments : last_pair.segments ≡ 6
unfolding code_tour tour_after segment steps enough weight one_step act_move first_box takes_of gives_of apply_row operators
pair_segments = refl

pair_enters : last_pair.entered ≡ [] ∷ hall ∷ stall 1 ∷ stall 2 ∷ []
unfolding code_tour tour_after segment steps enough weight one_step act_move first_box takes_of gives_of apply_row operators
pair_enters = refl

last_shots : shots last_pair.tree ≡ ([], int 2 ∷ []) ∷ (hall, int 7 ∷ []) ∷ (stall 1, int 6 ∷ []) ∷ (stall 2, int 5 ∷ []) ∷ []
unfolding code_tour tour_after segment steps enough weight one_step act_move first_box takes_of gives_of apply_row operators
last_shots = refl

-- all four functions keep the rules
abbrev keeps : ℕ → Option Function → Bool
keeps n None = false
keeps n (Some f) = is_ok (judged_function market n f)

market_keeps : list_all (λ n. keeps n (slice_get market.functions n)) (0 ∷ 1 ∷ 2 ∷ 3 ∷ []) ≡ true
unfolding judged_function judged_from visit point_after effect_of takes_of gives_of operators levels_above
market_keeps = refl

-- of the market the halls' counts alone are read from below
market_kept : read_marks market 0 ∷ read_marks market 1 ∷ read_marks market 2 ∷ [] ≡ (false ∷ []) ∷ (true ∷ []) ∷ (false ∷ []) ∷ []
unfolding read_marks judged_function judged_from visit point_after effect_of takes_of gives_of operators levels_above
market_kept = refl

-- a root and a context below it, a method there that sets its field, one that reads it, and events with these codes
abbrev with_events : List Instr → Program
with_events code = record market {
  functions =
      function (codes "set") 1 false [] None [] 1 (PushInt (pos 1) ∷ SetField 0 ∷ Return ∷ [])
      ∷ function (codes "look") 1 false [] (Some k.Int) [] 1 (Field 0 ∷ Return ∷ [])
      ∷ function (codes "event") 0 true [] (Some k.Int) [] 2 code ∷ [];
}

abbrev into_hall : List Instr
into_hall = PushInt (pos 5) ∷ Go (class 1) ∷ []

reads_at_last : peeks (with_events (into_hall ++ Tick ∷ CallOwn 1 ∷ Reply ∷ [])) 2 ≡ true
unfolding peeks is_quiet_function
reads_at_last = refl

sets_at_last : peeks (with_events (into_hall ++ PushInt (pos 1) ∷ SetField 0 ∷ Field 0 ∷ Reply ∷ [])) 2 ≡ false
unfolding peeks is_quiet_function
sets_at_last = refl

calls_what_sets : peeks (with_events (into_hall ++ Tick ∷ CallOwn 0 ∷ Field 0 ∷ Reply ∷ [])) 2 ≡ false
unfolding peeks is_quiet_function
calls_what_sets = refl

calls_down : peeks (with_events (PushInt (pos 5) ∷ Tick ∷ CallDown (class 1) 1 ∷ Reply ∷ [])) 2 ≡ false
unfolding peeks is_quiet_function
calls_down = refl

-- it sets a field, but before its last Go
sets_before : peeks (with_events (PushInt (pos 1) ∷ SetField 0 ∷ into_hall ++ Field 0 ∷ Reply ∷ [])) 2 ≡ true
unfolding peeks is_quiet_function
sets_before = refl

loops_back : peeks (with_events (into_hall ++ Tick ∷ Jump 0 ∷ [])) 2 ≡ false
unfolding peeks is_quiet_function
loops_back = refl

-- the same of the function that `verify` asks, of an event alone; no verified code is such, since the classes differ
loops_back_alone : looks_by [] (function (codes "f") 0 true [] None (k.Int ∷ k.Int ∷ k.Int ∷ k.Int ∷ []) 4 (into_hall ++ Tick ∷ Jump 0 ∷ [])) ≡ None
loops_back_alone = refl

goes_nowhere : looks_from (with_events (Field 0 ∷ Reply ∷ [])) 2 ≡ Some 0
unfolding peeks is_quiet_function
goes_nowhere = refl

a_method : peeks (with_events []) 1 ≡ false
unfolding peeks
a_method = refl
