-- How far the lines of a script were read.
use Rattle.std.proofs.Common.{◌≡◌, ◌+◌, ◌++◌, ℕ, true, cond, List, [], ◌∷◌, length, arith, Result, Ok, Err, refl, sym, ap, subst, ◌∙◌}
use Rattle.std.proofs.lemmas.List.Sums.{sum_by-cons}
use Rattle.wave_base.specs.declared.script.Script.{Script}
use Rattle.wave_base.specs.declared.shape.Shape.{Shape}
use Rattle.script_reader.specs.declared.earlier.Earlier.{Earlier}
use Rattle.script_reader.specs.declared.error.Fault.{Fault}
use Rattle.script_reader.specs.declared.error.Fault.TheVariants as fault
use Rattle.script_reader.specs.declared.error.ScriptError.{ScriptError}
use Rattle.script_reader.specs.declared.progress.Progress.{Progress}
use Rattle.script_reader.specs.declared.said.Said.{Said}
use Rattle.script_reader.specs.declared.taken.Taken.{Taken}
use Rattle.script_reader.specs.declared.taken.Taken.TheVariants.{Skipped, Hosts, Event, Settle}
use Rattle.std.specs.Prelude.{count_by}
use Rattle.script_reader.specs.Judged.{is_event, hosts_of, event_lines}
use Rattle.script_reader.specs.inner.Progressed.{progress_of, with_taken}
use Rattle.script_reader.specs.Scripts.{closed_batches, open_batch, judgment, IsOnlySaid, judged_after, Goes, IsRead, error_at}
use Rattle.script_reader.specs.declared.refusal.Refusal.{Refusal}
use Rattle.script_reader.specs.declared.refusal.Refusal.TheVariants as refusal
use Rattle.script_reader.specs.inner.Gives.{Gives}
use Rattle.script_reader.specs.inner.Steps.{IsStep, IsStop, error_of_refusal}

-- these lines were read, the last one first, and these ones are left
pub record AreReadTo (shape : Shape) (earlier : Earlier) (lines : List (List ℕ)) (before : List Taken) (left : List (List ℕ)) : Type 0 where
  pub sound : (r : Result Script ScriptError) → IsRead shape earlier before left r → IsRead shape earlier [] lines r
  pub whole : (r : Result Script ScriptError) → IsRead shape earlier [] lines r → IsRead shape earlier before left r

abbrev After : Shape → Earlier → List Taken → List (List ℕ) → Result Script ScriptError → Result Taken Fault → Type 0
After shape earlier before left r x = Goes x (λ t. IsRead shape earlier (t ∷ before) left r) (λ f. r ≡ Err (error_at f (length before + 1)))

pub line_read : (shape : Shape) (earlier : Earlier) (lines left : List (List ℕ)) (before : List Taken) (line : List ℕ) (said : Said) (t : Taken) → AreReadTo shape earlier lines before (line ∷ left) → IsOnlySaid line said → judged_after shape earlier before said ≡ Ok t
    → AreReadTo shape earlier lines (t ∷ before) left
line_read shape earlier lines left before line said t h o e = record {
  sound = λ r k. h.sound r (said, o.0, subst (After shape earlier before left r) (sym e) k);
  whole = λ r k.
      let w = h.whole r k in
      let same : w.0 ≡ said = o.1 w.0 w.1 in
      subst (After shape earlier before left r) (ap (judged_after shape earlier before) same ∙ e) w.2;
}

-- ---- what is said of an error

pub refused_stop : (shape : Shape) (line : List ℕ) (before : Progress) (n : ℕ) (s : Said) (f : Fault) → IsOnlySaid line s → judgment shape before.hosts before.begun before.events s ≡ Err f → IsStop shape line before n (error_at f n)
refused_stop shape line before n s fault.UnknownCommand o e = record { said = s; fault = fault.UnknownCommand; says = o; judged_is = e; error_is = refl }
refused_stop shape line before n s fault.UnknownEvent o e = record { said = s; fault = fault.UnknownEvent; says = o; judged_is = e; error_is = refl }
refused_stop shape line before n s fault.ArgCount o e = record { said = s; fault = fault.ArgCount; says = o; judged_is = e; error_is = refl }
refused_stop shape line before n s fault.ArgType o e = record { said = s; fault = fault.ArgType; says = o; judged_is = e; error_is = refl }
refused_stop shape line before n s fault.BadPath o e = record { said = s; fault = fault.BadPath; says = o; judged_is = e; error_is = refl }
refused_stop shape line before n s fault.HostRange o e = record { said = s; fault = fault.HostRange; says = o; judged_is = e; error_is = refl }
refused_stop shape line before n s fault.HostsLate o e = record { said = s; fault = fault.HostsLate; says = o; judged_is = e; error_is = refl }
refused_stop shape line before n s fault.TooMany o e = record { said = s; fault = fault.TooMany; says = o; judged_is = e; error_is = refl }
refused_stop shape line before n s fault.PolicyLate o e = record { said = s; fault = fault.PolicyLate; says = o; judged_is = e; error_is = refl }
refused_stop shape line before n s fault.CountRange o e = record { said = s; fault = fault.CountRange; says = o; judged_is = e; error_is = refl }

pub stopped_stop : (shape : Shape) (line : List ℕ) (before : Progress) (n : ℕ) (s : Said) (r : Refusal) → IsOnlySaid line s → Gives (Err r) (judgment shape before.hosts before.begun before.events s) → IsStop shape line before n (error_of_refusal r n)
stopped_stop shape line before n s (refusal.Fault f) o e = refused_stop shape line before n s f o e
stopped_stop shape line before n s (refusal.OutOfMemory _) o e = tt

-- ---- the reader's state is that of the lines so far

pub one_more : (earlier : Earlier) (before : List Taken) (t : Taken) → with_taken (progress_of earlier before) t ≡ progress_of earlier (t ∷ before)
one_more earlier before Skipped = refl
one_more earlier before (Hosts n) = refl
one_more earlier before Settle = refl
one_more earlier before (Event l) =
    let cons : count_by is_event (Event l ∷ before) ≡ 1 + count_by is_event before = sum_by-cons (λ x. cond (is_event x) 1 0) (Event l) before in
    let n : event_lines earlier before + 1 ≡ event_lines earlier (Event l ∷ before) = swap (count_by is_event before) earlier.events ∙ ap (λ z. z + earlier.events) (sym cons) in
    λ i. record { hosts = hosts_of earlier before; begun = true; events = n i; closed = closed_batches before; open_lines = open_batch before ++ l ∷ [] }
  where
    swap : (a b : ℕ) → a + b + 1 ≡ 1 + a + b
    swap a b = omega arith

pub step_read : (shape : Shape) (earlier : Earlier) (lines left : List (List ℕ)) (before : List Taken) (line : List ℕ) (p q : Progress) → AreReadTo shape earlier lines before (line ∷ left) → p ≡ progress_of earlier before → IsStep shape line p q
    → (t : Taken) × (q ≡ progress_of earlier (t ∷ before)) × AreReadTo shape earlier lines (t ∷ before) left
step_read shape earlier lines left before line p q h e s =
    let s' = subst (λ z. IsStep shape line z q) e s in
    (s'.taken, s'.after_is ∙ one_more earlier before s'.taken, line_read shape earlier lines left before line s'.said s'.taken h s'.says s'.judged_is)
