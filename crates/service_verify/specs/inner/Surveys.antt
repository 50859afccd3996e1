-- What `verify` finds out of a program's code, function by function.
use Rattle.std.specs.Prelude.{◌≡◌, ◌<◌, ℕ, Bool, false, ◌&&◌, ◌||◌, if◌then◌else◌, List, length, drop, replicate, Option, Some, None, Ok, slice_get}
use Rattle.std.specs.List.{list_all}
use Rattle.std.specs.Option.{option_map, option_and_then, unwrap_or}
use Rattle.wave_base.specs.declared.shape.ClassInfo.{ClassInfo}
use Rattle.service_code.specs.declared.instr.Instr.{Instr}
use Rattle.service_code.specs.declared.program.Function.{Function}
use Rattle.service_code.specs.declared.program.Program.{Program}
use Rattle.service_verify.specs.Looks.{is_quiet, stays_behind, after_go, is_quiet_function, looks_from}
use Rattle.service_verify.specs.Points.{Table, judged_function}
use Rattle.service_verify.specs.Reads.{functions_read, read_marks}

-- what a table says of a number, and no past its end
abbrev pub says : List Bool → ℕ → Bool
says xs n = unwrap_or (slice_get xs n) false

-- the mark of a field of a class, where the field is there
abbrev pub mark_of : List (List Bool) → ℕ → ℕ → Option Bool
mark_of marks class field = option_and_then (λ ks. slice_get ks field) (slice_get marks class)

-- a class none of whose fields is marked
abbrev pub unmarked_fields : ClassInfo → List Bool
unmarked_fields c = replicate (length c.fields) false

-- afterwards the fields that were marked are marked, and these
pub record IsMarked (before : List (List Bool)) (more : ℕ → ℕ → Bool) (after : List (List Bool)) : Type 0 where
  pub classes : length after ≡ length before
  pub each : (c f : ℕ) → mark_of after c f ≡ option_map (λ b. b || more c f) (mark_of before c f)

-- from a place on all is quiet, by what is known of the functions so far, and no jump goes before that place
abbrev pub looks_after : List Bool → ℕ → List Instr → Bool
looks_after quiet start code = list_all (λ i. is_quiet (says quiet) i && stays_behind start i) code

abbrev pub looks_by : List Bool → Function → Option ℕ
looks_by quiet f = if f.is_event && looks_after quiet (after_go f.code) (drop (after_go f.code) f.code) then Some (after_go f.code) else None

-- so many functions keep the rules
abbrev pub Keep : Program → ℕ → Type 0
Keep program count = (n : ℕ) (f : Function) → n < count → slice_get program.functions n ≡ Some f → (points : Table) × (judged_function program n f ≡ Ok points)

-- what is known after so many functions: with what the others read, the kept fields; and which of them are quiet, and peek
pub record IsSurveyed (program : Program) (count : ℕ) (marks : List (List Bool)) (quiet : List Bool) (looks : List (Option ℕ)) : Type 0 where
  pub classes : length marks ≡ length program.shape.classes
  pub marked : (c f : ℕ) → option_map (λ b. b || functions_read program c f count (drop count program.functions)) (mark_of marks c f) ≡ slice_get (read_marks program c) f
  pub quiet_long : length quiet ≡ count
  pub are_quiet : (n : ℕ) → n < count → slice_get quiet n ≡ Some (is_quiet_function program n)
  pub looks_long : length looks ≡ count
  pub only_look : (n : ℕ) → n < count → slice_get looks n ≡ Some (looks_from program n)

-- the tables of a program
pub record HasTables (program : Program) (marks : List (List Bool)) (looks : List (Option ℕ)) : Type 0 where
  pub kept : (c : ℕ) → c < length program.shape.classes → slice_get marks c ≡ Some (read_marks program c)
  pub only_look : (n : ℕ) → n < length program.functions → slice_get looks n ≡ Some (looks_from program n)
  pub many : length looks ≡ length program.functions

-- with some more marks they are those before with all that are to be marked
pub record IsMarkedSoFar (before : List (List Bool)) (all : ℕ → ℕ → Bool) (now : List (List Bool)) (more : ℕ → ℕ → Bool) : Type 0 where
  pub classes : length now ≡ length before
  pub each : (c f : ℕ) → option_map (λ b. b || more c f) (mark_of now c f) ≡ option_map (λ b. b || all c f) (mark_of before c f)
