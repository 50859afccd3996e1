-- Behind a script no line says a number of hosts.
use Rattle.std.proofs.Common.{◌≡◌, ◌+◌, ℕ, Bool, true, false, cond, List, [], ◌∷◌, length, Result, Ok, Err, refl, ap, ◌∙◌}
use Rattle.std.specs.Prelude.{◌||◌, nat_lt}
use Rattle.std.specs.List.{list_any}
use Rattle.wave_base.specs.declared.limits.TheConstants.{EVENT_LINES}
use Rattle.wave_base.specs.declared.script.Line.{Line}
use Rattle.wave_base.specs.declared.script.Line.TheVariants as line
use Rattle.wave_base.specs.declared.script.Script.{Script}
use Rattle.wave_base.specs.declared.shape.Shape.{Shape}
use Rattle.path_text.specs.Paths.{path_of}
use Rattle.wave_text.specs.Lines.{lines_of}
use Rattle.wave_text.specs.Numbers.{number_of}
use Rattle.script_reader.specs.declared.error.Fault.{Fault}
use Rattle.script_reader.specs.declared.error.Fault.TheVariants.{TooMany}
use Rattle.script_reader.specs.declared.form.Form.TheVariants as form
use Rattle.script_reader.specs.declared.said.Said.{Said}
use Rattle.script_reader.specs.declared.said.Said.TheVariants.{Nothing, Unknown, Says}
use Rattle.script_reader.specs.declared.taken.Taken.{Taken}
use Rattle.script_reader.specs.declared.taken.Taken.TheVariants.{Skipped, Hosts, Event, Settle}
use Rattle.script_reader.specs.Judged.{script_earlier, hosts_of, has_begun, event_lines, is_said, as_event, judged_event, requested_call, move_to}
use Rattle.script_reader.specs.Scripts.{judgment, judged_after, script_of, Goes, IsRead, error_at}

no_event : (t : Bool) (l : Result Line Fault) (n : ℕ) → cond t (as_event l) (Err TooMany) ≡ Ok (Hosts n) → ⊥
no_event true (Ok l) n e = cc
no_event true (Err f) n e = cc
no_event false l n e = cc

no_hosts : (events : ℕ) (l : Result Line Fault) (n : ℕ) → judged_event events l ≡ Ok (Hosts n) → ⊥
no_hosts events l n e = no_event (nat_lt events EVENT_LINES) l n e

-- hosts are said first
hosts_first : (shape : Shape) (hosts : ℕ) (begun : Bool) (events : ℕ) (s : Said) (n : ℕ) → judgment shape hosts begun events s ≡ Ok (Hosts n) → begun ≡ false
hosts_first shape hosts begun events Nothing n e = cc
hosts_first shape hosts begun events Unknown n e = cc
hosts_first shape hosts true events (Says (form.Hosts m)) n e = cc
hosts_first shape hosts false events (Says (form.Hosts m)) n e = refl
hosts_first shape hosts begun events (Says (form.Request name args)) n e = absurd (no_hosts events (requested_call shape name args) n e)
hosts_first shape hosts begun events (Says (form.Move steps to)) n e = absurd (no_hosts events (move_to hosts (path_of shape steps) (number_of to)) n e)
hosts_first shape hosts begun events (Says form.Snapshot) n e = absurd (no_hosts events (Ok line.Snapshot) n e)
hosts_first shape hosts begun events (Says form.Settle) n e = cc

module _ (shape : Shape) (h m : ℕ) where
  begun : (before : List Taken) → has_begun (script_earlier h m) before ≡ true
  begun before = elim (list_any is_said before) as (λ t. (t || true) ≡ true) [ true ↦ refl | false ↦ refl ]

  line_stays : (before : List Taken) (ls : List (List ℕ)) (s : Script) (said : Said) (x : Result Taken Fault)
      → ((t : Taken) → hosts_of (script_earlier h m) (t ∷ before) ≡ h → IsRead shape (script_earlier h m) (t ∷ before) ls (Ok s) → s.hosts ≡ h) → hosts_of (script_earlier h m) before ≡ h
      → judged_after shape (script_earlier h m) before said ≡ x → Goes x (λ t. IsRead shape (script_earlier h m) (t ∷ before) ls (Ok s)) (λ f. Ok s ≡ Err (error_at f (length before + 1))) → s.hosts ≡ h
  line_stays before ls s said (Err f) rec is j g = cc
  line_stays before ls s said (Ok (Hosts n)) rec is j g = (let first = hosts_first shape (hosts_of (script_earlier h m) before) (has_begun (script_earlier h m) before) (event_lines (script_earlier h m) before) said n j in let said_before = begun before in cc)
  line_stays before ls s said (Ok Skipped) rec is j g = rec Skipped is g
  line_stays before ls s said (Ok (Event l)) rec is j g = rec (Event l) is g
  line_stays before ls s said (Ok Settle) rec is j g = rec Settle is g

  stays : (before : List Taken) (ls : List (List ℕ)) (s : Script) → hosts_of (script_earlier h m) before ≡ h → IsRead shape (script_earlier h m) before ls (Ok s) → s.hosts ≡ h
  stays before [] s is e = (let same : s ≡ script_of (script_earlier h m) before = cc in ap (λ (x : Script). x.hosts) same ∙ is)
  stays before (l ∷ ls) s is k = line_stays before ls s k.0 (judged_after shape (script_earlier h m) before k.0) (λ t e r. stays (t ∷ before) ls s e r) is refl k.2

  -- so a script that goes on has as many
  pub hosts_same : (text : List ℕ) (s : Script) → IsRead shape (script_earlier h m) [] (lines_of text) (Ok s) → s.hosts ≡ h
  hosts_same text s k = stays [] (lines_of text) s refl k
