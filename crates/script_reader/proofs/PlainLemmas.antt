-- What is read as a script is read as a script with policies that has one part.
use Rattle.std.proofs.Common.{◌≡◌, ◌+◌, ◌++◌, ℕ, Bool, cond, List, [], ◌∷◌, map, None, Result, Ok, Err, refl, sym, ap, subst, ◌∙◌, arith}
use Rattle.std.specs.Prelude.{count_by, length}
use Rattle.std.proofs.lemmas.Bool.{false≢true}
use Rattle.std.proofs.lemmas.List.Sums.{sum_by-cons}
use Rattle.wave_base.specs.declared.script.Script.{Script}
use Rattle.wave_base.specs.declared.shape.Shape.{Shape}
use Rattle.script_reader.specs.declared.error.Fault.{Fault}
use Rattle.script_reader.specs.declared.said.Said.{Said}
use Rattle.script_reader.specs.declared.said.Said.TheVariants.{Nothing, Unknown, Says}
use Rattle.script_reader.specs.declared.taken.Taken.{Taken}
use Rattle.script_reader.specs.declared.taken.Taken.TheVariants.{Skipped, Hosts, Event, Settle}
use Rattle.script_reader.specs.declared.told.Told.{Told}
use Rattle.script_reader.specs.declared.told.Told.TheVariants.{Plain}
use Rattle.script_reader.specs.declared.worded.Worded.TheVariants as worded
use Rattle.script_reader.specs.Elastics.{is_event_line, event_count, has_spoken, told_hosts, last_lines, last_policy, ended_parts, elastic_of, plain_elastic, as_plain, judged_told, Leads, IsReadElastic}
use Rattle.script_reader.specs.Forms.{form_word}
use Rattle.script_reader.specs.inner.Begins.{first_run, is_form_word}
use Rattle.script_reader.specs.Judged.{nothing_earlier, is_event, hosts_of, has_begun, event_lines}
use Rattle.script_reader.specs.Pieces.{without_blanks}
use Rattle.script_reader.specs.Policies.{policy_word, HasNoPolicyForm}
use Rattle.script_reader.specs.Scripts.{IsSaid, judgment, judged_after, open_batch, closed_batches, with_batch, script_of, Goes, IsRead, error_at}
use Rattle.script_reader.proofs.FormLemmas.{form_words}
use Rattle.script_reader.proofs.FrontLemmas.{front_run}
use Rattle.script_reader.proofs.PolicyLemmas.{policy_words, no_form_word, not_skipped}

-- ---- lines without policies

abbrev plain : List Taken → List Told
plain ts = map (λ t. Plain t) ts

hosts_same : (ts : List Taken) → told_hosts (plain ts) ≡ hosts_of nothing_earlier ts
hosts_same [] = refl
hosts_same (Hosts n ∷ ts) = refl
hosts_same (Skipped ∷ ts) = hosts_same ts
hosts_same (Event l ∷ ts) = hosts_same ts
hosts_same (Settle ∷ ts) = hosts_same ts

begun_same : (ts : List Taken) → has_spoken (plain ts) ≡ has_begun nothing_earlier ts
begun_same [] = refl
begun_same (Hosts n ∷ ts) = refl
begun_same (Skipped ∷ ts) = begun_same ts
begun_same (Event l ∷ ts) = refl
begun_same (Settle ∷ ts) = refl

count_same : (ts : List Taken) → event_count (plain ts) ≡ event_lines nothing_earlier ts
count_same [] = refl
count_same (t ∷ ts) =
    let here : count_by is_event_line (Plain t ∷ plain ts) ≡ cond (is_event t) 1 0 + count_by is_event_line (plain ts) = sum_by-cons (λ x. cond (is_event_line x) 1 0) (Plain t) (plain ts) in
    let there : count_by is_event (t ∷ ts) ≡ cond (is_event t) 1 0 + count_by is_event ts = sum_by-cons (λ x. cond (is_event x) 1 0) t ts in
    omega (arith, here, there, count_same ts)

lines_same : (ts : List Taken) → last_lines (plain ts) ≡ ts
lines_same [] = refl
lines_same (t ∷ ts) = ap (λ us. t ∷ us) (lines_same ts)

no_policies : (ts : List Taken) → last_policy (plain ts) ≡ None
no_policies [] = refl
no_policies (t ∷ ts) = no_policies ts

no_ended : (ts : List Taken) → ended_parts (plain ts) ≡ []
no_ended [] = refl
no_ended (t ∷ ts) = no_ended ts

elastic_same : (ts : List Taken) → elastic_of (plain ts) ≡ plain_elastic (script_of nothing_earlier ts)
elastic_same ts =
    λ i. record {
      hosts = hosts_same ts i;
      parts = no_ended ts i ++ record { policy = no_policies ts i; batches = with_batch (closed_batches (lines_same ts i)) (open_batch (lines_same ts i)) } ∷ [];
    }

judged_same : (shape : Shape) (ts : List Taken) (s : Said) → judged_told shape (plain ts) (worded.Plain s) ≡ as_plain (judged_after shape nothing_earlier ts s)
judged_same shape ts s = λ i. as_plain (judgment shape (hosts_same ts i) (begun_same ts i) (count_same ts i) s)

-- ---- a line that is taken has no policy's form

no_policy_form : (shape : Shape) (hosts : ℕ) (begun : Bool) (events : ℕ) (line : List ℕ) (s : Said) (t : Taken) → IsSaid line s → judgment shape hosts begun events s ≡ Ok t → HasNoPolicyForm line
no_policy_form shape hosts begun events line Nothing t is j f k =
    false≢true (sym (not_skipped line (policy_word f) (front_run (without_blanks line) (policy_word f) k.cut.0 k.cut.1) (policy_words f)) ∙ is)
no_policy_form shape hosts begun events line Unknown t is j f k = cc
no_policy_form shape hosts begun events line (Says g) t is j f k =
    let form : form_word g ≡ first_run (without_blanks line) = front_run (without_blanks line) (form_word g) is.1.cut.0 is.1.cut.1 in
    let policy : policy_word f ≡ first_run (without_blanks line) = front_run (without_blanks line) (policy_word f) k.cut.0 k.cut.1 in
    false≢true (sym (no_form_word (policy_word f) (policy_words f)) ∙ ap is_form_word (policy ∙ sym form) ∙ form_words g)

-- ---- the whole

abbrev ReadPlain : Shape → List Taken → List (List ℕ) → Script → Type 0
ReadPlain shape ts ls s = IsReadElastic shape (plain ts) ls (Ok (plain_elastic s))

one_plain : (shape : Shape) (ts : List Taken) (l : List ℕ) (ls : List (List ℕ)) (s : Script) (said : Said) (r : Result Taken Fault)
    → ((t : Taken) → IsRead shape nothing_earlier (t ∷ ts) ls (Ok s) → ReadPlain shape (t ∷ ts) ls s) → IsSaid l said → judged_after shape nothing_earlier ts said ≡ r
    → Goes r (λ t. IsRead shape nothing_earlier (t ∷ ts) ls (Ok s)) (λ f. Ok s ≡ Err (error_at f (length ts + 1))) → ReadPlain shape ts (l ∷ ls) s
one_plain shape ts l ls s said (Err f) more is j g = cc
one_plain shape ts l ls s said (Ok t) more is j g = (
  worded.Plain said,
  (is, no_policy_form shape (hosts_of nothing_earlier ts) (has_begun nothing_earlier ts) (event_lines nothing_earlier ts) l said t is j),
  subst (λ x. Leads x (λ u. IsReadElastic shape (u ∷ plain ts) ls (Ok (plain_elastic s))) (λ f. Ok (plain_elastic s) ≡ Err (error_at f (length (plain ts) + 1)))) (sym (judged_same shape ts said ∙ ap as_plain j)) (more t g),
)

pub read_plain : (shape : Shape) (ts : List Taken) (ls : List (List ℕ)) (s : Script) → IsRead shape nothing_earlier ts ls (Ok s) → ReadPlain shape ts ls s
read_plain shape ts [] s e =
    let same : s ≡ script_of nothing_earlier ts = cc in
    ap (λ z. Ok (plain_elastic z)) same ∙ ap (λ z. Ok z) (sym (elastic_same ts))
read_plain shape ts (l ∷ ls) s k = one_plain shape ts l ls s k.0 (judged_after shape nothing_earlier ts k.0) (λ t m. read_plain shape (t ∷ ts) ls s m) k.1 refl k.2
