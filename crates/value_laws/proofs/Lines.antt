-- A script that was read from a text is bounded: its arguments and the keys of its paths are judged to be.
use Rattle.std.proofs.Common.{◌≡◌, ◌≤◌, ◌+◌, ◌^◌, ℕ, zero, suc, ℤ, pos, neg_ℤ, Bool, true, false, if◌then◌else◌, ◌==◌, nat_le, nat_lt, List, [], ◌∷◌, length, position, slice_get, Option, Some, None, IfSome, Result, Ok, Err, All, FitsSigned, w64, refl, sym, subst, arith, leb-true, ltb-true, option_map, option_and_then}
use Rattle.std.specs.Prelude.{◌&&◌}
use Rattle.std.proofs.lemmas.List.Elements.{All-cons, All-nil, All-push}
use Rattle.wave_base.specs.declared.limits.TheConstants.{EVENT_LINES, HOSTS, LITERAL_BYTES}
use Rattle.wave_base.specs.declared.path.Path.{Path}
use Rattle.wave_base.specs.declared.path.Step.{Step}
use Rattle.wave_base.specs.declared.script.Line.{Line}
use Rattle.wave_base.specs.declared.script.Line.TheVariants as line
use Rattle.wave_base.specs.declared.script.Script.{Script}
use Rattle.wave_base.specs.declared.shape.Shape.{Shape}
use Rattle.wave_base.specs.declared.value.Kind.{Kind}
use Rattle.wave_base.specs.declared.value.Kind.TheVariants as kind
use Rattle.wave_base.specs.declared.value.Value.{Value}
use Rattle.wave_base.specs.declared.value.Value.TheVariants as value
use Rattle.wave_base.specs.Text.{IsPrintable}
use Rattle.wave_text.specs.Lines.{lines_of}
use Rattle.wave_text.specs.Numbers.{negative_int, number_of, positive_int, whole_of}
use Rattle.path_text.specs.declared.written.Written.{Written}
use Rattle.path_text.specs.Paths.{child_class, path_of, step_below, step_with, steps_below}
use Rattle.script_reader.proofs.FitLemmas.{batch_fits}
use Rattle.script_reader.specs.declared.earlier.Earlier.{Earlier}
use Rattle.script_reader.specs.declared.error.Fault.{Fault}
use Rattle.script_reader.specs.declared.error.Fault.TheVariants.{HostRange, HostsLate, ArgCount, TooMany}
use Rattle.script_reader.specs.declared.error.ScriptError.{ScriptError}
use Rattle.script_reader.specs.declared.form.Form.{Form}
use Rattle.script_reader.specs.declared.form.Form.TheVariants as form
use Rattle.script_reader.specs.declared.form.Literal.{Literal}
use Rattle.script_reader.specs.declared.form.Literal.TheVariants as literal
use Rattle.script_reader.specs.declared.piece.Piece.{Piece}
use Rattle.script_reader.specs.declared.piece.Piece.TheVariants.{Run, Open}
use Rattle.script_reader.specs.declared.said.Said.{Said}
use Rattle.script_reader.specs.declared.said.Said.TheVariants.{Nothing, Unknown, Says}
use Rattle.script_reader.specs.declared.taken.Taken.{Taken}
use Rattle.script_reader.specs.declared.taken.Taken.TheVariants.{Skipped, Hosts, Event, Settle}
use Rattle.script_reader.specs.Forms.{HasForm, form_rest, form_word, literal_piece, literal_pieces, more_pieces}
use Rattle.script_reader.specs.Judged.{as_event, call_at, call_with, event_lines, has_begun, has_name, hosts_of, judged_event, judged_form, move_to, params_in, requested_call, value_of, values_of}
use Rattle.script_reader.specs.Pieces.{ArePiecesOf, IsPiece, without_blanks}
use Rattle.script_reader.specs.Scripts.{Goes, IsRead, IsSaid, IsScriptOf, closed_batches, judgment, judged_after, open_batch, error_at, script_of}
use Rattle.snapshot_text.specs.Shots.{IsValue}
use Rattle.mace_grammar.proofs.Parts.{Each}
use Rattle.value_laws.specs.Values.{AreValues, BoundedLine, BoundedScript, IsKeyed}

-- ---- numbers

chosen : {A : Type 0} (P : A → Type 0) (b : Bool) (x : A) → (b ≡ true → P x) → IfSome (if b then Some x else None) P
chosen P true x h = h refl
chosen P false x h = tt

minus_fits : (n : ℕ) → n ≤ 2 ^ 63 → FitsSigned w64 (neg_ℤ (pos n))
minus_fits zero h = record { sfits = omega arith }
minus_fits (suc n) h = record { sfits = omega (arith, h) }

whole_fits : (bs : List ℕ) → IfSome (whole_of bs) (FitsSigned w64)
whole_fits [] = tt
whole_fits (b ∷ bs) = by (b == 45)
  where
    by : (t : Bool) → IfSome (if t then negative_int (number_of bs) else positive_int (number_of (b ∷ bs))) (FitsSigned w64)
    by true = chosen (FitsSigned w64) (nat_le (number_of bs) (2 ^ 63)) (neg_ℤ (pos (number_of bs))) (λ e. minus_fits (number_of bs) (leb-true (number_of bs) (2 ^ 63) e))
    by false = chosen (FitsSigned w64) (nat_lt (number_of (b ∷ bs)) (2 ^ 63)) (pos (number_of (b ∷ bs))) (λ e. record { sfits = ltb-true (number_of (b ∷ bs)) (2 ^ 63) e })

-- ---- arguments

-- a text is of printable bytes
abbrev IsLiteral : Literal → Type 0
IsLiteral (literal.Number n) = Unit {0}
IsLiteral (literal.Truth b) = Unit {0}
IsLiteral (literal.Text t) = All IsPrintable t

int_is : (o : Option ℤ) → IfSome o (FitsSigned w64) → IfSome (option_map (λ z. value.Int z) o) IsValue
int_is None h = tt
int_is (Some z) h = h

value_is : (k : Kind) (a : Literal) → IsLiteral a → IfSome (value_of k a) IsValue
value_is kind.Int (literal.Number n) h = int_is (whole_of n) (whole_fits n)
value_is kind.Int (literal.Truth b) h = tt
value_is kind.Int (literal.Text t) h = tt
value_is kind.Bool (literal.Number n) h = tt
value_is kind.Bool (literal.Truth b) h = tt
value_is kind.Bool (literal.Text t) h = tt
value_is kind.Text (literal.Number n) h = tt
value_is kind.Text (literal.Truth b) h = tt
value_is kind.Text (literal.Text t) h = chosen IsValue (nat_le (length t) LITERAL_BYTES) (value.Str t) (λ e. record { printable = h; short = omega (arith, leb-true (length t) LITERAL_BYTES e) })
value_is kind.Map (literal.Number n) h = tt
value_is kind.Map (literal.Truth b) h = tt
value_is kind.Map (literal.Text t) h = tt

both_are : (o : Option Value) (p : Option (List Value)) → IfSome o IsValue → IfSome p AreValues → IfSome (option_and_then (λ v. option_map (λ vs. v ∷ vs) p) o) AreValues
both_are None p h g = tt
both_are (Some v) None h g = tt
both_are (Some v) (Some vs) h g = All-cons IsValue v vs h g

values_are : (ks : List Kind) (ls : List Literal) → Each IsLiteral ls → IfSome (values_of ks ls) AreValues
values_are ks [] hs = All-nil IsValue
values_are [] (a ∷ ls) hs = All-nil IsValue
values_are (k ∷ ks) (a ∷ ls) hs = both_are (value_of k a) (values_of ks ls) (value_is k a hs.0) (values_are ks ls hs.1)

-- ---- requests

abbrev IsLine : Result Line Fault → Type 0
IsLine (Ok l) = BoundedLine l
IsLine (Err f) = Unit {0}

one_line : (b : Bool) (x y : Result Line Fault) → IsLine x → IsLine y → IsLine (if b then x else y)
one_line true x y h g = h
one_line false x y h g = g

called : (event : ℕ) (o : Option (List Value)) → IfSome o AreValues → IsLine (call_with event o)
called event None h = tt
called event (Some args) h = h

requested_is : (shape : Shape) (name : List ℕ) (ls : List Literal) → Each IsLiteral ls → IsLine (requested_call shape name ls)
requested_is shape name ls hs = by (position (has_name name) shape.events)
  where
    by : (o : Option ℕ) → IsLine (call_at shape o ls)
    by None = tt
    by (Some event) =
        let params = params_in (slice_get shape.events event) in
        one_line (length ls == length params) (call_with event (values_of params ls)) (Err ArgCount) (called event (values_of params ls) (values_are params ls hs)) tt

-- ---- moves

step_is : (class : ℕ) (o : Option ℤ) → IfSome o (FitsSigned w64) → IfSome (step_with class o) (λ (s : Step). FitsSigned w64 s.key)
step_is class None h = tt
step_is class (Some z) h = h

below_is : (shape : Shape) (c : ℕ) (s : Written) → IfSome (step_below shape c s) (λ (t : Step). FitsSigned w64 t.key)
below_is shape c s = by (child_class shape c s.name)
  where
    by : (o : Option ℕ) → IfSome (option_and_then (λ class. step_with class (whole_of s.key)) o) (λ (t : Step). FitsSigned w64 t.key)
    by None = tt
    by (Some class) = step_is class (whole_of s.key) (whole_fits s.key)

more_keyed : (t : Step) (o : Option (List Step)) → FitsSigned w64 t.key → IfSome o IsKeyed → IfSome (option_map (λ ts. t ∷ ts) o) IsKeyed
more_keyed t None h g = tt
more_keyed t (Some ts) h g = All-cons (λ (s : Step). FitsSigned w64 s.key) t ts h g

steps_keyed : (shape : Shape) (c : ℕ) (ss : List Written) → IfSome (steps_below shape c ss) IsKeyed
steps_keyed shape c [] = All-nil (λ (s : Step). FitsSigned w64 s.key)
steps_keyed shape c (s ∷ ss) =
    elim (step_below shape c s) as (λ o. IfSome o (λ (t : Step). FitsSigned w64 t.key) → IfSome (option_and_then (λ t. option_map (λ ts. t ∷ ts) (steps_below shape t.class.0 ss)) o) IsKeyed) [
      | None ↦ λ h. tt
      | Some t ↦ λ h. more_keyed t (steps_below shape t.class.0 ss) h (steps_keyed shape t.class.0 ss)
    ] (below_is shape c s)

path_keyed : (shape : Shape) (steps : List Written) → IfSome (path_of shape steps) IsKeyed
path_keyed shape steps = by (nat_le (length steps) 8)
  where
    by : (b : Bool) → IfSome (if b then steps_below shape 0 steps else None) IsKeyed
    by true = steps_keyed shape 0 steps
    by false = tt

moved_is : (hosts : ℕ) (o : Option Path) (to : ℕ) → IfSome o IsKeyed → IsLine (move_to hosts o to)
moved_is hosts None to h = tt
moved_is hosts (Some path) to h = one_line (nat_lt to hosts) (Ok (line.Move path (record { 0 = to }))) (Err HostRange) h tt

-- ---- lines

abbrev BoundedTaken : Taken → Type 0
BoundedTaken (Event l) = BoundedLine l
BoundedTaken _ = Unit {0}

abbrev IsTaken : Result Taken Fault → Type 0
IsTaken (Ok t) = BoundedTaken t
IsTaken (Err f) = Unit {0}

one_taken : (b : Bool) (x y : Result Taken Fault) → IsTaken x → IsTaken y → IsTaken (if b then x else y)
one_taken true x y h g = h
one_taken false x y h g = g

event_is : (events : ℕ) (x : Result Line Fault) → IsLine x → IsTaken (judged_event events x)
event_is events x h = one_taken (nat_lt events EVENT_LINES) (as_event x) (Err TooMany) (by x h) tt
  where
    by : (y : Result Line Fault) → IsLine y → IsTaken (as_event y)
    by (Ok l) g = g
    by (Err f) g = tt

-- the pieces of a line, and the literals that they write
pieces_are : (text : List ℕ) (ps : List Piece) → ArePiecesOf text ps → Each IsPiece ps
pieces_are text [] h = tt
pieces_are text (p ∷ ps) h = ((h.1).form, pieces_are (without_blanks h.0) ps h.2)

literal_is : (a : Literal) → IsPiece (literal_piece a) → IsLiteral a
literal_is (literal.Number n) h = tt
literal_is (literal.Truth b) h = tt
literal_is (literal.Text t) h = h

more_are : (ls : List Literal) → Each IsPiece (more_pieces ls) → Each IsLiteral ls
more_are [] hs = tt
more_are (a ∷ ls) hs = (literal_is a hs.1.0, more_are ls hs.1.1)

literals_are : (ls : List Literal) → Each IsPiece (literal_pieces ls) → Each IsLiteral ls
literals_are [] hs = tt
literals_are (a ∷ ls) hs = (literal_is a hs.0, more_are ls hs.1)

form_is : (shape : Shape) (hosts : ℕ) (begun : Bool) (events : ℕ) (text : List ℕ) (f : Form) → HasForm text f → IsTaken (judged_form shape hosts begun events f)
form_is shape hosts begun events text (form.Hosts n) h =
    one_taken begun (Err HostsLate) (if nat_le 1 (number_of n) && nat_le (number_of n) HOSTS then Ok (Hosts (number_of n)) else Err HostRange) tt
    (one_taken (nat_le 1 (number_of n) && nat_le (number_of n) HOSTS) (Ok (Hosts (number_of n))) (Err HostRange) tt tt)
form_is shape hosts begun events text (form.Request name ls) h =
    let pieces : Each IsPiece (Run (form_word (form.Request name ls)) ∷ Run name ∷ Open ∷ literal_pieces ls) = pieces_are (without_blanks text) (Run (form_word (form.Request name ls)) ∷ form_rest (form.Request name ls)) h.cut in
    event_is events (requested_call shape name ls) (requested_is shape name ls (literals_are ls pieces.1.1.1))
form_is shape hosts begun events text (form.Move steps to) h = event_is events (move_to hosts (path_of shape steps) (number_of to)) (moved_is hosts (path_of shape steps) (number_of to) (path_keyed shape steps))
form_is shape hosts begun events text form.Snapshot h = event_is events (Ok line.Snapshot) tt
form_is shape hosts begun events text form.Settle h = tt

said_is : (shape : Shape) (hosts : ℕ) (begun : Bool) (events : ℕ) (text : List ℕ) (s : Said) → IsSaid text s → IsTaken (judgment shape hosts begun events s)
said_is shape hosts begun events text Nothing h = tt
said_is shape hosts begun events text Unknown h = tt
said_is shape hosts begun events text (Says f) h = form_is shape hosts begun events text f h.1

-- ---- batches

open_bounded : (before : List Taken) → Each BoundedTaken before → All BoundedLine (open_batch before)
open_bounded [] hs = All-nil BoundedLine
open_bounded (Event l ∷ before) hs = All-push BoundedLine (open_batch before) l (open_bounded before hs.1) hs.0
open_bounded (Settle ∷ before) hs = All-nil BoundedLine
open_bounded (Skipped ∷ before) hs = open_bounded before hs.1
open_bounded (Hosts n ∷ before) hs = open_bounded before hs.1

closed_bounded : (before : List Taken) → Each BoundedTaken before → All (All BoundedLine) (closed_batches before)
closed_bounded [] hs = All-nil (All BoundedLine)
closed_bounded (Settle ∷ before) hs = batch_fits BoundedLine (closed_batches before) (open_batch before) (closed_bounded before hs.1) (open_bounded before hs.1)
closed_bounded (Event l ∷ before) hs = closed_bounded before hs.1
closed_bounded (Skipped ∷ before) hs = closed_bounded before hs.1
closed_bounded (Hosts n ∷ before) hs = closed_bounded before hs.1

-- ---- the whole

module _ (shape : Shape) (earlier : Earlier) (script : Script) where
  read_bounded : (before : List Taken) → Each BoundedTaken before → (ls : List (List ℕ)) → IsRead shape earlier before ls (Ok script) → BoundedScript script
  read_bounded before hs [] e =
      let same : script ≡ script_of earlier before = cc in
      subst BoundedScript (sym same) (batch_fits BoundedLine (closed_batches before) (open_batch before) (closed_bounded before hs) (open_bounded before hs))
  read_bounded before hs (l ∷ ls) h =
      elim (judged_after shape earlier before h.0) as (λ (x : Result Taken Fault).
      IsTaken x → Goes x (λ t. IsRead shape earlier (t ∷ before) ls (Ok script)) (λ f. ◌≡◌ {A = Result Script ScriptError} (Ok script) (Err (error_at f (length before + 1)))) → BoundedScript script) [
        | Ok t ↦ λ b k. read_bounded (t ∷ before) (b, hs) ls k
        | Err f ↦ λ b e. cc
      ] (said_is shape (hosts_of earlier before) (has_begun earlier before) (event_lines earlier before) l h.0 h.1) h.2

pub lines_bounded : (shape : Shape) (earlier : Earlier) (text : List ℕ) (script : Script) → IsScriptOf shape earlier text (Ok script) → BoundedScript script
lines_bounded shape earlier text script h = read_bounded shape earlier script [] tt (lines_of text) h.read
