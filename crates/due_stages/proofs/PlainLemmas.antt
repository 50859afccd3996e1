-- A script no line of which is a policy is due what it is due where policies are unknown.
use Rattle.std.proofs.Common.{◌≡◌, ◌∙◌, ◌+◌, ◌++◌, ◌⊎◌, ℕ, Bool, cond, inl, inr, Option, Some, None, IfSome, List, [], ◌∷◌, length, map, Result, Ok, Err, All, refl, sym, ap, subst, arith}
use Rattle.std.specs.Prelude.{◌↔◌, count_by}
use Rattle.std.proofs.lemmas.List.Elements.{All-cons, All-head, All-nil, All-tail}
use Rattle.std.proofs.lemmas.Bool.{false≢true}
use Rattle.std.proofs.lemmas.List.Sums.{sum_by-cons}
use Rattle.wave_base.specs.declared.script.Script.{Script}
use Rattle.wave_base.specs.declared.shape.Shape.{Shape}
use Rattle.wave_base.specs.declared.start.Start.{Start}
use Rattle.wave_base.specs.Starts.{first_start}
use Rattle.wave_text.specs.Lines.{lines_of}
use Rattle.mace_ast.specs.Decls.{ServiceTree}
use Rattle.resolved_service.specs.declared.service.Resolved.{Resolved}
use Rattle.type_rules.specs.Demands.{first_wrong}
use Rattle.type_rules.specs.Known.{shape_of}
use Rattle.type_rules.specs.Services.{service_demands}
use Rattle.type_rules.specs.declared.error.TypeError.{TypeError}
use Rattle.service_reader.specs.declared.fault.TextFault.{TextFault}
use Rattle.command_words.specs.declared.command.Places.{Places}
use Rattle.input_parts.specs.Parts as parts
use Rattle.wave_meaning.specs.Meaning.{call_ran, results_of, IsWhole}
use Rattle.script_fold.specs.Lines.{Meaning}
use Rattle.script_reader.specs.declared.elastic.Elastic.{Elastic}
use Rattle.script_reader.specs.declared.error.Fault.{Fault}
use Rattle.script_reader.specs.declared.error.ScriptError.{ScriptError}
use Rattle.script_reader.specs.declared.said.Said.{Said}
use Rattle.script_reader.specs.declared.said.Said.TheVariants.{Nothing, Says, Unknown}
use Rattle.script_reader.specs.declared.taken.Taken.{Taken}
use Rattle.script_reader.specs.declared.taken.Taken.TheVariants.{Skipped, Hosts, Event, Settle}
use Rattle.script_reader.specs.declared.told.Told.{Told}
use Rattle.script_reader.specs.declared.told.Told.TheVariants.{Plain}
use Rattle.script_reader.specs.declared.worded.Worded.{Worded}
use Rattle.script_reader.specs.declared.worded.Worded.TheVariants as worded
use Rattle.script_reader.specs.Elastics.{is_event_line, event_count, has_spoken, told_hosts, last_lines, last_policy, ended_parts, elastic_of, plain_elastic, as_plain, judged_told, IsReadElastic, IsWorded, Leads}
use Rattle.script_reader.specs.Judged.{nothing_earlier, is_event, hosts_of, has_begun, event_lines}
use Rattle.script_reader.specs.Forms.{form_word}
use Rattle.script_reader.specs.inner.Begins.{first_run, is_form_word}
use Rattle.script_reader.specs.Pieces.{without_blanks}
use Rattle.script_reader.specs.Policies.{HasNoPolicyForm, policy_word}
use Rattle.script_reader.specs.Scripts.{IsSaid, judgment, judged_after, open_batch, closed_batches, with_batch, Goes, IsRead, error_at, IsScriptOf}
use Rattle.script_reader.specs.Scripts as scripts
use Rattle.script_reader.proofs.FormLemmas.{form_words}
use Rattle.script_reader.proofs.FrontLemmas.{front_run}
use Rattle.script_reader.proofs.PolicyLemmas.{no_form_word, not_skipped, policy_words}
use Rattle.elastic_policy.specs.Expansions.{expansion}
use Rattle.due_parts.specs.declared.answer.Answer.{Answer}
use Rattle.due_parts.specs.declared.report.Report.TheVariants.{Listing}
use Rattle.due_parts.specs.declared.telling.Telling.TheVariants.{Reports}
use Rattle.due_parts.specs.Scripts.{IsDueBehind, IsDueLines, IsDueRead, IsDueScript, IsDueScripted}
use Rattle.due_parts.specs.Services.{AreShort, IsDueCoded, IsDueOf, IsDueService, IsDueTyped, IsLong}
use Rattle.due_parts.specs.Told.{IsDueFirst, report_answer}
use Rattle.due_stages.specs.Elastic.{IsDueElastic, IsDueElasticLines, IsDueElasticRead, IsDueElasticScript, IsDueExpansion, listed_of}
use Rattle.due_stages.specs.Plain.{HasNoPolicy, HasPlainScript}

-- ---- the same lines, read either way

abbrev plain : List Taken → List Told
plain ts = map (λ t. Plain t) ts

-- a script that was read, as one with policies; a refusal stays
abbrev as_elastic : Result Script ScriptError → Result Elastic ScriptError
as_elastic (Ok script) = Ok (plain_elastic script)
as_elastic (Err e) = Err e

hosts_same : (ts : List Taken) → told_hosts (plain ts) ≡ hosts_of nothing_earlier ts
hosts_same [] = refl
hosts_same (Hosts n ∷ ts) = refl
hosts_same (Skipped ∷ ts) = hosts_same ts
hosts_same (Event l ∷ ts) = hosts_same ts
hosts_same (Settle ∷ ts) = hosts_same ts

begun_same : (ts : List Taken) → has_spoken (plain ts) ≡ has_begun nothing_earlier ts
begun_same [] = refl
begun_same (Hosts n ∷ ts) = refl
begun_same (Skipped ∷ ts) = begun_same ts
begun_same (Event l ∷ ts) = refl
begun_same (Settle ∷ ts) = refl

count_same : (ts : List Taken) → event_count (plain ts) ≡ event_lines nothing_earlier ts
count_same [] = refl
count_same (t ∷ ts) =
    let here : count_by is_event_line (Plain t ∷ plain ts) ≡ cond (is_event t) 1 0 + count_by is_event_line (plain ts) = sum_by-cons (λ x. cond (is_event_line x) 1 0) (Plain t) (plain ts) in
    let there : count_by is_event (t ∷ ts) ≡ cond (is_event t) 1 0 + count_by is_event ts = sum_by-cons (λ x. cond (is_event x) 1 0) t ts in
    omega (arith, here, there, count_same ts)

lines_same : (ts : List Taken) → last_lines (plain ts) ≡ ts
lines_same [] = refl
lines_same (t ∷ ts) = ap (λ us. t ∷ us) (lines_same ts)

no_policies : (ts : List Taken) → last_policy (plain ts) ≡ None
no_policies [] = refl
no_policies (t ∷ ts) = no_policies ts

no_ended : (ts : List Taken) → ended_parts (plain ts) ≡ []
no_ended [] = refl
no_ended (t ∷ ts) = no_ended ts

many_same : (ts : List Taken) → length (plain ts) ≡ length ts
many_same [] = refl
many_same (t ∷ ts) = omega (arith, many_same ts)

elastic_same : (ts : List Taken) → elastic_of (plain ts) ≡ plain_elastic (scripts.script_of nothing_earlier ts)
elastic_same ts =
    λ i. record {
      hosts = hosts_same ts i;
      parts = no_ended ts i ++ record { policy = no_policies ts i; batches = with_batch (closed_batches (lines_same ts i)) (open_batch (lines_same ts i)) } ∷ [];
    }

judged_same : (shape : Shape) (ts : List Taken) (s : Said) → judged_told shape (plain ts) (worded.Plain s) ≡ as_plain (judged_after shape nothing_earlier ts s)
judged_same shape ts s = λ i. as_plain (judgment shape (hosts_same ts i) (begun_same ts i) (count_same ts i) s)

refused_same : (ts : List Taken) (f : Fault) → error_at f (length (plain ts) + 1) ≡ error_at f (length ts + 1)
refused_same ts f = ap (λ n. error_at f (n + 1)) (many_same ts)

-- what is read as a script is read so with policies too
module _ (shape : Shape) where
  one_there : (ts : List Taken) (ls : List (List ℕ)) (r : Result Script ScriptError) (v : Result Taken Fault)
      → ((t : Taken) → IsRead shape nothing_earlier (t ∷ ts) ls r → IsReadElastic shape (plain (t ∷ ts)) ls (as_elastic r))
      → Goes v (λ t. IsRead shape nothing_earlier (t ∷ ts) ls r) (λ f. r ≡ Err (error_at f (length ts + 1)))
      → Leads (as_plain v) (λ u. IsReadElastic shape (u ∷ plain ts) ls (as_elastic r)) (λ f. as_elastic r ≡ Err (error_at f (length (plain ts) + 1)))
  one_there ts ls r (Ok t) more g = more t g
  one_there ts ls r (Err f) more g = ap as_elastic g ∙ ap (λ e. Err e) (sym (refused_same ts f))

  there : (ts : List Taken) (ls : List (List ℕ)) (r : Result Script ScriptError) → All HasNoPolicyForm ls → IsRead shape nothing_earlier ts ls r → IsReadElastic shape (plain ts) ls (as_elastic r)
  there ts [] r free e = ap as_elastic e ∙ ap (λ z. Ok z) (sym (elastic_same ts))
  there ts (l ∷ ls) r free k = (
    worded.Plain k.0,
    (k.1, All-head HasNoPolicyForm l ls free),
    subst (λ x. Leads x (λ u. IsReadElastic shape (u ∷ plain ts) ls (as_elastic r)) (λ f. as_elastic r ≡ Err (error_at f (length (plain ts) + 1)))) (sym (judged_same shape ts k.0))
        (one_there ts ls r (judged_after shape nothing_earlier ts k.0) (λ t m. there (t ∷ ts) ls r (All-tail HasNoPolicyForm l ls free) m) k.2),
  )

  -- and the other way
  abbrev IsBack : List Taken → List (List ℕ) → Result Elastic ScriptError → Type 0
  IsBack ts ls e = (r : Result Script ScriptError) × IsRead shape nothing_earlier ts ls r × (e ≡ as_elastic r)

  one_back : (ts : List Taken) (l : List ℕ) (ls : List (List ℕ)) (e : Result Elastic ScriptError) (s : Said) → IsSaid l s → (v : Result Taken Fault) → judged_after shape nothing_earlier ts s ≡ v
      → ((t : Taken) → IsReadElastic shape (plain (t ∷ ts)) ls e → IsBack (t ∷ ts) ls e)
      → Leads (as_plain v) (λ u. IsReadElastic shape (u ∷ plain ts) ls e) (λ f. e ≡ Err (error_at f (length (plain ts) + 1)))
      → IsBack ts (l ∷ ls) e
  one_back ts l ls e s is (Ok t) j more g =
      let b = more t g in
      (b.0, (s, is, subst (λ v. Goes v (λ t. IsRead shape nothing_earlier (t ∷ ts) ls b.0) (λ f. b.0 ≡ Err (error_at f (length ts + 1)))) (sym j) b.1), b.2)
  one_back ts l ls e s is (Err f) j more g =
      let r : Result Script ScriptError = Err (error_at f (length ts + 1)) in
      (r, (s, is, subst (λ v. Goes v (λ t. IsRead shape nothing_earlier (t ∷ ts) ls r) (λ f. r ≡ Err (error_at f (length ts + 1)))) (sym j) refl), g ∙ ap (λ x. Err x) (refused_same ts f))

  any_back : (ts : List Taken) (l : List ℕ) (ls : List (List ℕ)) (e : Result Elastic ScriptError) → HasNoPolicyForm l → ((t : Taken) → IsReadElastic shape (plain (t ∷ ts)) ls e → IsBack (t ∷ ts) ls e) → (w : Worded) → IsWorded l w
      → Leads (judged_told shape (plain ts) w) (λ t. IsReadElastic shape (t ∷ plain ts) ls e) (λ f. e ≡ Err (error_at f (length (plain ts) + 1))) → IsBack ts (l ∷ ls) e
  any_back ts l ls e none more (worded.Policy form) is g = absurd (none form is)
  any_back ts l ls e none more (worded.Plain s) is g =
      one_back ts l ls e s is.0 (judged_after shape nothing_earlier ts s) refl more
      (subst (λ x. Leads x (λ t. IsReadElastic shape (t ∷ plain ts) ls e) (λ f. e ≡ Err (error_at f (length (plain ts) + 1)))) (judged_same shape ts s) g)

  back : (ts : List Taken) (ls : List (List ℕ)) (e : Result Elastic ScriptError) → All HasNoPolicyForm ls → IsReadElastic shape (plain ts) ls e → IsBack ts ls e
  back ts [] e free k = (Ok (scripts.script_of nothing_earlier ts), refl, k ∙ ap (λ z. Ok z) (elastic_same ts))
  back ts (l ∷ ls) e free k = any_back ts l ls e (All-head HasNoPolicyForm l ls free) (λ t m. back (t ∷ ts) ls e (All-tail HasNoPolicyForm l ls free) m) k.0 k.1 k.2

-- ---- what is read as a script has no policy

no_policy : (shape : Shape) (hosts : ℕ) (begun : Bool) (events : ℕ) (line : List ℕ) (s : Said) (t : Taken) → IsSaid line s → judgment shape hosts begun events s ≡ Ok t → HasNoPolicyForm line
no_policy shape hosts begun events line Nothing t is j f k = false≢true (sym (not_skipped line (policy_word f) (front_run (without_blanks line) (policy_word f) k.cut.0 k.cut.1) (policy_words f)) ∙ is)
no_policy shape hosts begun events line Unknown t is j f k = cc
no_policy shape hosts begun events line (Says g) t is j f k =
    let form : form_word g ≡ first_run (without_blanks line) = front_run (without_blanks line) (form_word g) is.1.cut.0 is.1.cut.1 in
    let policy : policy_word f ≡ first_run (without_blanks line) = front_run (without_blanks line) (policy_word f) k.cut.0 k.cut.1 in
    false≢true (sym (no_form_word (policy_word f) (policy_words f)) ∙ ap is_form_word (policy ∙ sym form) ∙ form_words g)

module _ (shape : Shape) (script : Script) where
  one_free : (ts : List Taken) (l : List ℕ) (ls : List (List ℕ)) (s : Said) → IsSaid l s → (v : Result Taken Fault) → judged_after shape nothing_earlier ts s ≡ v
      → ((t : Taken) → IsRead shape nothing_earlier (t ∷ ts) ls (Ok script) → All HasNoPolicyForm ls)
      → Goes v (λ t. IsRead shape nothing_earlier (t ∷ ts) ls (Ok script)) (λ f. Ok script ≡ Err (error_at f (length ts + 1))) → All HasNoPolicyForm (l ∷ ls)
  one_free ts l ls s is (Err f) j more g = cc
  one_free ts l ls s is (Ok t) j more g = All-cons HasNoPolicyForm l ls (no_policy shape (hosts_of nothing_earlier ts) (has_begun nothing_earlier ts) (event_lines nothing_earlier ts) l s t is j) (more t g)

  all_free : (ts : List Taken) (ls : List (List ℕ)) → IsRead shape nothing_earlier ts ls (Ok script) → All HasNoPolicyForm ls
  all_free ts [] k = All-nil HasNoPolicyForm
  all_free ts (l ∷ ls) k = one_free ts l ls k.0 k.1 (judged_after shape nothing_earlier ts k.0) refl (λ t m. all_free (t ∷ ts) ls m) k.2

pub plain_read : (shape : Shape) (text : List ℕ) (script : Script) → IsScriptOf shape nothing_earlier text (Ok script) → HasNoPolicy text
plain_read shape text script so = all_free shape script [] (lines_of text) so.read

-- ---- what is due then

-- a script without policies stands for itself
abbrev pub PlainStandForThemselves : Type 0
PlainStandForThemselves = (meaning : Meaning) (shape : Shape) (start : Start) (script : Script) → expansion meaning shape start (plain_elastic script) ≡ script

module _ (same : PlainStandForThemselves) (places : Places) where
  module _ (tree : ServiceTree) where
    abbrev shape : Shape
    shape = shape_of tree

    itself : (service : Resolved) (script : Script) → expansion (call_ran service) shape (first_start shape) (plain_elastic script) ≡ script
    itself service script = same (call_ran service) shape (first_start shape) script

    listed_same : (service : Resolved) (script : Script) → listed_of shape service (plain_elastic script) places ≡ report_answer shape (first_start shape) script (Listing places) (results_of shape service script)
    listed_same service script = ap (λ s. report_answer shape (first_start shape) s (Listing places) (results_of shape service s)) (itself service script)

    run_there : (script : Script) (due : Answer) → IsDueExpansion places tree (plain_elastic script) due → IsDueFirst (Reports (Listing places)) tree script due
    run_there script due h = record {
      service = h.service;
      resolved = h.resolved;
      whole = subst (λ s. IsWhole shape h.service s) (itself h.service script) h.whole;
      due_is = h.due_is ∙ listed_same h.service script;
    }

    run_back : (script : Script) (due : Answer) → IsDueFirst (Reports (Listing places)) tree script due → IsDueExpansion places tree (plain_elastic script) due
    run_back script due h = record {
      service = h.service;
      resolved = h.resolved;
      whole = subst (λ s. IsWhole shape h.service s) (sym (itself h.service script)) h.whole;
      due_is = h.due_is ∙ sym (listed_same h.service script);
    }

    module _ (text : List ℕ) (free : HasNoPolicy text) (due : Answer) where
      lines_there : IsDueElasticLines (IsDueExpansion places tree) shape text due → IsDueLines (IsDueFirst (Reports (Listing places)) tree) shape nothing_earlier text due
      lines_there h = by (back shape [] (lines_of text) h.read free h.reads)
        where
          by : IsBack shape [] (lines_of text) h.read → IsDueLines (IsDueFirst (Reports (Listing places)) tree) shape nothing_earlier text due
          by (Ok script, reads, e) = record { read = Ok script; reads = reads; due_is = run_there script due (subst (λ r. IsDueElasticRead (IsDueExpansion places tree) r due) e h.due_is) }
          by (Err f, reads, e) = record { read = Err f; reads = reads; due_is = subst (λ r. IsDueElasticRead (IsDueExpansion places tree) r due) e h.due_is }

      read_back : (r : Result Script ScriptError) → IsRead shape nothing_earlier [] (lines_of text) r → IsDueRead (IsDueFirst (Reports (Listing places)) tree) r due → IsDueElasticLines (IsDueExpansion places tree) shape text due
      read_back (Ok script) reads h = record { read = Ok (plain_elastic script); reads = there shape [] (lines_of text) (Ok script) free reads; due_is = run_back script due h }
      read_back (Err f) reads h = record { read = Err f; reads = there shape [] (lines_of text) (Err f) free reads; due_is = h }

      short_there : IsDueElasticScript places text tree due → IsDueScript (IsDueFirst (Reports (Listing places))) text tree due
      short_there (inl h) = inl h
      short_there (inr h) = inr (h.0, lines_there h.1)

      short_back : IsDueScript (IsDueFirst (Reports (Listing places))) text tree due → IsDueElasticScript places text tree due
      short_back (inl h) = inl h
      short_back (inr h) = inr (h.0, read_back h.1.read h.1.reads h.1.due_is)

-- ---- and of the whole input

-- what is due of a service follows where it follows of each tree
module _ (P Q : ServiceTree → Answer → Type 0) (also : (tree : ServiceTree) (due : Answer) → P tree due → Q tree due) (due : Answer) where
  coded_also : (tree : ServiceTree) → IsDueCoded P tree due → IsDueCoded Q tree due
  coded_also tree h = record { service = h.service; resolved = h.resolved; due_is = by h.due_is }
    where
      by : IsLong (shape_of tree) h.service due ⊎ (AreShort (shape_of tree) h.service × P tree due) → IsLong (shape_of tree) h.service due ⊎ (AreShort (shape_of tree) h.service × Q tree due)
      by (inl long) = inl long
      by (inr fits) = inr (fits.0, also tree due fits.1)

  typed_also : (tree : ServiceTree) (o : Option TypeError) → IsDueTyped P tree o due → IsDueTyped Q tree o due
  typed_also tree (Some e) h = h
  typed_also tree None h = coded_also tree h

  read_also : (read : Result ServiceTree TextFault) → IsDueOf P read due → IsDueOf Q read due
  read_also (Err e) h = h
  read_also (Ok tree) h = typed_also tree (first_wrong (service_demands tree)) h

  service_also : (text : List ℕ) → IsDueService P text due → IsDueService Q text due
  service_also text h = record { read = h.read; parses = h.parses; due_is = read_also h.read h.due_is }

module _ (same : PlainStandForThemselves) (places : Places) (due : Answer) (text : List ℕ) where
  abbrev elastic_due : List ℕ → ServiceTree → Answer → Type 0
  elastic_due = IsDueElasticScript places

  abbrev script_due : List ℕ → ServiceTree → Answer → Type 0
  script_due = IsDueScript (IsDueFirst (Reports (Listing places)))

  behind_same : (script : Option (List ℕ)) → IfSome script HasNoPolicy → IsDueBehind elastic_due text script due ↔ IsDueBehind script_due text script due
  behind_same None free = (λ h. h, λ h. h)
  behind_same (Some script) free = (
    service_also (elastic_due script) (script_due script) (λ tree a h. short_there same places tree script free a h) due text,
    service_also (script_due script) (elastic_due script) (λ tree a h. short_back same places tree script free a h) due text,
  )

pub due_same : (same : PlainStandForThemselves) (places : Places) (bytes : List ℕ) (due : Answer) → HasPlainScript bytes → IsDueElastic places bytes due ↔ IsDueScripted (Reports (Listing places)) bytes due
due_same same places bytes due free = behind_same same places due (parts.service_of bytes) (parts.script_of bytes) free
