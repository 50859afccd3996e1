-- How far the lines of a script with policies were read.
use Rattle.std.proofs.Common.{◌≡◌, ◌+◌, ◌++◌, ℕ, true, cond, List, [], ◌∷◌, length, arith, Option, Some, None, IfSome, IfNone, Result, Ok, Err, refl, sym, ap, subst, ◌∙◌}
use Rattle.std.specs.Prelude.{count_by}
use Rattle.std.proofs.lemmas.List.Sums.{sum_by-cons}
use Rattle.wave_base.specs.declared.shape.Shape.{Shape}
use Rattle.wave_text.specs.Lines.{lines_of}
use Rattle.script_reader.specs.declared.elastic.Elastic.{Elastic}
use Rattle.script_reader.specs.declared.elastic_progress.ElasticProgress.{ElasticProgress}
use Rattle.script_reader.specs.declared.error.Fault.{Fault}
use Rattle.script_reader.specs.declared.error.Fault.TheVariants as fault
use Rattle.script_reader.specs.declared.error.ScriptError.{ScriptError}
use Rattle.script_reader.specs.declared.error.ScriptError.TheVariants as error
use Rattle.script_reader.specs.declared.refusal.Refusal.{Refusal}
use Rattle.script_reader.specs.declared.refusal.Refusal.TheVariants as refusal
use Rattle.script_reader.specs.declared.taken.Taken.TheVariants.{Skipped, Hosts, Event, Settle}
use Rattle.script_reader.specs.declared.told.Told.{Told}
use Rattle.script_reader.specs.declared.told.Told.TheVariants.{Plain, Policed}
use Rattle.script_reader.specs.declared.worded.Worded.{Worded}
use Rattle.script_reader.specs.Elastics.{IsOnlyWorded, is_event_line, event_count, told_hosts, last_lines, last_policy, last_part, ended_parts, judged_told, Leads, IsReadElastic, IsElasticOf, IsElasticAnswer}
use Rattle.script_reader.specs.Scripts.{open_batch, closed_batches, error_at}
use Rattle.script_reader.specs.inner.ElasticProgressed.{elastic_progress_of, with_told}
use Rattle.script_reader.specs.inner.ElasticSteps.{judged_now, IsElasticStep, IsElasticRefused, IsElasticStop}
use Rattle.script_reader.specs.inner.Gives.{Gives}
use Rattle.script_reader.specs.inner.Steps.{error_of_refusal}

-- these lines were read, the last one first, and these ones are left
pub record AreToldTo (shape : Shape) (lines : List (List ℕ)) (before : List Told) (left : List (List ℕ)) : Type 0 where
  pub sound : (r : Result Elastic ScriptError) → IsReadElastic shape before left r → IsReadElastic shape [] lines r
  pub whole : (r : Result Elastic ScriptError) → IsReadElastic shape [] lines r → IsReadElastic shape before left r

abbrev After : Shape → List Told → List (List ℕ) → Result Elastic ScriptError → Result Told Fault → Type 0
After shape before left r x = Leads x (λ t. IsReadElastic shape (t ∷ before) left r) (λ f. r ≡ Err (error_at f (length before + 1)))

line_told : (shape : Shape) (lines left : List (List ℕ)) (before : List Told) (line : List ℕ) (w : Worded) (t : Told) → AreToldTo shape lines before (line ∷ left) → IsOnlyWorded line w → judged_told shape before w ≡ Ok t → AreToldTo shape lines (t ∷ before) left
line_told shape lines left before line w t h o e = record {
  sound = λ r k. h.sound r (w, o.0, subst (After shape before left r) (sym e) k);
  whole = λ r k.
      let u = h.whole r k in
      let same : u.0 ≡ w = o.1 u.0 u.1 in
      subst (After shape before left r) (ap (judged_told shape before) same ∙ e) u.2;
}

-- ---- what is said of an error

refused_stop : (shape : Shape) (line : List ℕ) (before : ElasticProgress) (n : ℕ) (w : Worded) (f : Fault) → IsOnlyWorded line w → judged_now shape before w ≡ Err f → IsElasticStop shape line before n (error_at f n)
refused_stop shape line before n w fault.UnknownCommand o e = record { worded = w; fault = fault.UnknownCommand; says = o; judged_is = e; error_is = refl }
refused_stop shape line before n w fault.UnknownEvent o e = record { worded = w; fault = fault.UnknownEvent; says = o; judged_is = e; error_is = refl }
refused_stop shape line before n w fault.ArgCount o e = record { worded = w; fault = fault.ArgCount; says = o; judged_is = e; error_is = refl }
refused_stop shape line before n w fault.ArgType o e = record { worded = w; fault = fault.ArgType; says = o; judged_is = e; error_is = refl }
refused_stop shape line before n w fault.BadPath o e = record { worded = w; fault = fault.BadPath; says = o; judged_is = e; error_is = refl }
refused_stop shape line before n w fault.HostRange o e = record { worded = w; fault = fault.HostRange; says = o; judged_is = e; error_is = refl }
refused_stop shape line before n w fault.HostsLate o e = record { worded = w; fault = fault.HostsLate; says = o; judged_is = e; error_is = refl }
refused_stop shape line before n w fault.TooMany o e = record { worded = w; fault = fault.TooMany; says = o; judged_is = e; error_is = refl }
refused_stop shape line before n w fault.PolicyLate o e = record { worded = w; fault = fault.PolicyLate; says = o; judged_is = e; error_is = refl }
refused_stop shape line before n w fault.CountRange o e = record { worded = w; fault = fault.CountRange; says = o; judged_is = e; error_is = refl }

pub stopped_stop : (shape : Shape) (line : List ℕ) (before : ElasticProgress) (n : ℕ) (w : Worded) (r : Refusal) → IsOnlyWorded line w → Gives (Err r) (judged_now shape before w) → IsElasticStop shape line before n (error_of_refusal r n)
stopped_stop shape line before n w (refusal.Fault f) o e = refused_stop shape line before n w f o e
stopped_stop shape line before n w (refusal.OutOfMemory _) o e = tt

-- ---- the reader's state is that of the lines so far

one_event : (before : List Told) (t : Told) → is_event_line t ≡ true → event_count before + 1 ≡ event_count (t ∷ before)
one_event before t e =
    let cons : count_by is_event_line (t ∷ before) ≡ cond (is_event_line t) 1 0 + count_by is_event_line before = sum_by-cons (λ x. cond (is_event_line x) 1 0) t before in
    let one : cond (is_event_line t) 1 0 + count_by is_event_line before ≡ 1 + count_by is_event_line before = ap (λ b. cond b 1 0 + count_by is_event_line before) e in
    swap (count_by is_event_line before) ∙ sym (cons ∙ one)
  where
    swap : (a : ℕ) → a + 1 ≡ 1 + a
    swap a = omega arith

one_more : (before : List Told) (t : Told) → with_told (elastic_progress_of before) t ≡ elastic_progress_of (t ∷ before)
one_more before (Plain Skipped) = refl
one_more before (Plain (Hosts n)) = refl
one_more before (Plain Settle) = refl
one_more before (Plain (Event l)) =
    λ i. record {
      parts = ended_parts before;
      policy = last_policy before;
      under_way = true;
      plain = record {
        hosts = told_hosts before;
        begun = true;
        events = one_event before (Plain (Event l)) refl i;
        closed = closed_batches (last_lines before);
        open_lines = open_batch (last_lines before) ++ l ∷ [];
      };
    }
one_more before (Policed p) =
    λ i. record {
      parts = ended_parts before ++ last_part before ∷ [];
      policy = last_policy (Policed p ∷ before);
      under_way = true;
      plain = record { hosts = told_hosts before; begun = true; events = one_event before (Policed p) refl i; closed = []; open_lines = [] };
    }

pub step_told : (shape : Shape) (lines left : List (List ℕ)) (before : List Told) (line : List ℕ) (p q : ElasticProgress) → AreToldTo shape lines before (line ∷ left) → p ≡ elastic_progress_of before → IsElasticStep shape line p q
    → (t : Told) × (q ≡ elastic_progress_of (t ∷ before)) × AreToldTo shape lines (t ∷ before) left
step_told shape lines left before line p q h e s =
    let s' = subst (λ z. IsElasticStep shape line z q) e s in
    (s'.told, s'.after_is ∙ one_more before s'.told, line_told shape lines left before line s'.worded s'.told h s'.says s'.judged_is)

-- ---- where a line is refused, that is the text's answer

stop_is : (shape : Shape) (text : List ℕ) (left : List (List ℕ)) (before : List Told) (line : List ℕ) (p : ElasticProgress) (n : ℕ) (e : ScriptError) → AreToldTo shape (lines_of text) before (line ∷ left) → p ≡ elastic_progress_of before
    → n ≡ length before + 1 → IsElasticRefused shape line p n e → IsElasticOf shape text (Err e)
stop_is shape text left before line p n e h q m s = record {
  read = h.sound (Err e) (s.worded, s.says.0, subst (After shape before left (Err e)) (sym judged_is) (ap (λ x. Err x) error_is));
  only = λ other k.
      let u = h.whole other k in
      let same : u.0 ≡ s.worded = s.says.1 u.0 u.1 in
      subst (After shape before left other) (ap (judged_told shape before) same ∙ judged_is) u.2 ∙ sym (ap (λ x. Err x) error_is);
}
  where
    judged_is : judged_told shape before s.worded ≡ Err s.fault
    judged_is = subst (λ z. judged_now shape z s.worded ≡ Err s.fault) q s.judged_is

    error_is : e ≡ error_at s.fault (length before + 1)
    error_is = s.error_is ∙ ap (error_at s.fault) m

stop_answer : (shape : Shape) (text : List ℕ) (left : List (List ℕ)) (before : List Told) (line : List ℕ) (p : ElasticProgress) (n : ℕ) (e : ScriptError) → AreToldTo shape (lines_of text) before (line ∷ left) → p ≡ elastic_progress_of before
    → n ≡ length before + 1 → IsElasticStop shape line p n e → IsElasticAnswer shape text (Err e)
stop_answer shape text left before line p n (error.OutOfMemory _) h q m s = tt
stop_answer shape text left before line p n e h q m s = stop_is shape text left before line p n e h q m s

-- the first line of what is left, and what stands behind it
module _ {A : Type 0} (lines : A → List (List ℕ)) where
  first_of_left : (o : Option A) (line : List ℕ) (all : List (List ℕ)) → IfSome o (λ a. all ≡ line ∷ lines a) → IfNone o (all ≡ line ∷ []) → (left : List (List ℕ)) × (all ≡ line ∷ left)
  first_of_left (Some a) line all h k = (lines a, h)
  first_of_left None line all h k = ([], k)

  pub line_stops : (shape : Shape) (text : List ℕ) (before : List Told) (o : Option A) (line : List ℕ) (all : List (List ℕ)) (p : ElasticProgress) (n : ℕ) (e : ScriptError) → AreToldTo shape (lines_of text) before all
      → IfSome o (λ a. all ≡ line ∷ lines a) → IfNone o (all ≡ line ∷ []) → p ≡ elastic_progress_of before → n ≡ length before + 1 → IsElasticStop shape line p n e → IsElasticAnswer shape text (Err e)
  line_stops shape text before o line all p n e h more last q m s =
      let f = first_of_left o line all more last in
      stop_answer shape text f.0 before line p n e (subst (AreToldTo shape (lines_of text) before) f.1 h) q m s
