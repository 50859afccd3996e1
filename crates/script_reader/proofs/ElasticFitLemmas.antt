-- The parts that are read fit the shape.
use Rattle.std.proofs.Common.{◌≡◌, ◌≢◌, ◌+◌, ◌<◌, ◌≤◌, ℕ, Bool, true, false, cond, List, [], ◌∷◌, ◌++◌, length, sum_by, Option, None, Result, Ok, Err, refl, sym, ap, subst, ◌∙◌, length-append, arith}
use Rattle.std.specs.Prelude.{◌&&◌, ◌==◌, not, nat_lt, nat_le, is_some, All, IfSome}
use Rattle.std.proofs.lemmas.Bool.{and_parts}
use Rattle.std.proofs.lemmas.Bool.Decides.{nat_tests}
use Rattle.std.proofs.lemmas.List.Elements.{All-nil, All-push}
use Rattle.std.proofs.lemmas.List.Sums.{sum_by_push}
use Rattle.wave_base.specs.declared.limits.TheConstants.{EVENT_LINES}
use Rattle.wave_base.specs.declared.policy.Policy.{Policy}
use Rattle.wave_base.specs.declared.policy.Policy.TheVariants as policy
use Rattle.wave_base.specs.declared.script.Line.{Line}
use Rattle.wave_base.specs.declared.script.Line.TheVariants as line
use Rattle.wave_base.specs.declared.shape.Shape.{Shape}
use Rattle.wave_base.specs.Scripts.{FitsLine, IsPolicy}
use Rattle.wave_text.specs.Numbers.{number_of}
use Rattle.path_text.specs.Paths.{path_of}
use Rattle.script_reader.specs.declared.elastic.Part.{Part}
use Rattle.script_reader.specs.declared.elastic_progress.ElasticProgress.{ElasticProgress}
use Rattle.script_reader.specs.declared.error.Fault.{Fault}
use Rattle.script_reader.specs.declared.error.Fault.TheVariants.{CountRange, HostRange, TooMany}
use Rattle.script_reader.specs.declared.form.Form.TheVariants as form
use Rattle.script_reader.specs.declared.policy_form.PolicyForm.{PolicyForm}
use Rattle.script_reader.specs.declared.policy_form.PolicyForm.TheVariants.{Balance, Drain}
use Rattle.script_reader.specs.declared.said.Said.{Said}
use Rattle.script_reader.specs.declared.said.Said.TheVariants.{Nothing, Unknown, Says}
use Rattle.script_reader.specs.declared.taken.Taken.{Taken}
use Rattle.script_reader.specs.declared.taken.Taken.TheVariants.{Skipped, Hosts, Event, Settle}
use Rattle.script_reader.specs.declared.told.Told.{Told}
use Rattle.script_reader.specs.declared.told.Told.TheVariants.{Plain, Policed}
use Rattle.script_reader.specs.declared.worded.Worded.{Worded}
use Rattle.script_reader.specs.declared.worded.Worded.TheVariants as worded
use Rattle.script_reader.specs.Elastics.{as_plain, as_policed, IsPart, lines_in, IsElastic}
use Rattle.script_reader.specs.Judged.{requested_call, move_to, as_event, judged_event}
use Rattle.script_reader.specs.Policies.{balance_policy, drain_policy, policy_of, first_in_batch, judged_policy}
use Rattle.script_reader.specs.Scripts.{judgment}
use Rattle.script_reader.specs.inner.ElasticProgressed.{elastic_progress_of, with_told, part_with, elastic_with}
use Rattle.script_reader.specs.inner.ElasticSteps.{judged_now, IsElasticStep}
use Rattle.script_reader.proofs.FitLemmas.{Fits, judged_fits, batch_fits, batch_full, batch_count}

-- one for a policy
abbrev pub policies_in : Option Policy → ℕ
policies_in p = cond (is_some p) 1 0

pub record FitsParts (shape : Shape) (p : ElasticProgress) : Type 0 where
  pub plain : Fits shape p.plain
  pub policy : IfSome p.policy (IsPolicy p.plain.hosts)
  pub parts : All (IsPart shape p.plain.hosts) p.parts
  pub count : sum_by lines_in p.parts + (policies_in p.policy + (sum_by length p.plain.closed + length p.plain.open_lines)) ≤ p.plain.events
  pub fresh : p.plain.begun ≡ false → (p.parts ≡ []) × (p.policy ≡ None)

pub start_fits : (shape : Shape) → FitsParts shape (elastic_progress_of [])
start_fits shape = record {
  plain = record {
    some_host = omega arith;
    few_hosts = omega arith;
    closed_fit = All-nil (All (FitsLine shape 1));
    open_fit = All-nil (FitsLine shape 1);
    full = All-nil (λ (b : List Line). 0 < length b);
    count = omega arith;
    few = omega arith;
    fresh = λ e. (refl, refl);
  };
  policy = tt;
  parts = All-nil (IsPart shape 1);
  count = omega arith;
  fresh = λ e. (refl, refl);
}

-- ---- a policy

drain_fits : (hosts h g : ℕ) (q : Policy) → drain_policy hosts h g ≡ Ok q → IsPolicy hosts q
drain_fits hosts h g q e =
    elim (nat_lt h hosts && (nat_lt g hosts && not (h == g)))
    as (λ t. (nat_lt h hosts && (nat_lt g hosts && not (h == g))) ≡ t → cond t (Ok (policy.Drain (record { 0 = h }) (record { 0 = g }))) (Err HostRange) ≡ Ok q → IsPolicy hosts q) [
      | true ↦ λ c k.
          let same : policy.Drain (record { 0 = h }) (record { 0 = g }) ≡ q = cc in
          let first = and_parts (nat_lt h hosts) (nat_lt g hosts && not (h == g)) c in
          let second = and_parts (nat_lt g hosts) (not (h == g)) first.1 in
          subst (IsPolicy hosts) same (grind (arith, nat_tests, first.0), grind (arith, nat_tests, second.0), other second.1)
      | false ↦ λ c k. cc
    ] refl e
  where
    other : not (h == g) ≡ true → h ≢ g
    other n s = grind (arith, nat_tests)

balance_fits : (hosts n : ℕ) (q : Policy) → balance_policy n ≡ Ok q → IsPolicy hosts q
balance_fits hosts n q e =
    elim (nat_le 1 n && nat_le n EVENT_LINES) as (λ t. (nat_le 1 n && nat_le n EVENT_LINES) ≡ t → cond t (Ok (policy.Balance n)) (Err CountRange) ≡ Ok q → IsPolicy hosts q) [
      | true ↦ λ c k.
          let same : policy.Balance n ≡ q = cc in
          let parts = and_parts (nat_le 1 n) (nat_le n EVENT_LINES) c in
          subst (IsPolicy hosts) same (grind (arith, nat_tests, parts.0), grind (arith, nat_tests, parts.1))
      | false ↦ λ c k. cc
    ] refl e

asked_fits : (hosts : ℕ) (f : PolicyForm) (q : Policy) → policy_of hosts f ≡ Ok q → IsPolicy hosts q
asked_fits hosts (Balance n) q e = balance_fits hosts (number_of n) q e
asked_fits hosts (Drain h g) q e = drain_fits hosts (number_of h) (number_of g) q e

first_fits : (hosts : ℕ) (late : Bool) (f : PolicyForm) (q : Policy) → first_in_batch late (policy_of hosts f) ≡ Ok q → IsPolicy hosts q
first_fits hosts true f q e = cc
first_fits hosts false f q e = asked_fits hosts f q e

policy_fits : (hosts events : ℕ) (late : Bool) (f : PolicyForm) (q : Policy) → judged_policy hosts events late f ≡ Ok q → (events < EVENT_LINES) × IsPolicy hosts q
policy_fits hosts events late f q e =
    elim (nat_lt events EVENT_LINES) as (λ t. nat_lt events EVENT_LINES ≡ t → cond t (first_in_batch late (policy_of hosts f)) (Err TooMany) ≡ Ok q → (events < EVENT_LINES) × IsPolicy hosts q) [
      | true ↦ λ c k. (grind (arith, nat_tests), first_fits hosts late f q k)
      | false ↦ λ c k. cc
    ] refl e

part_fits : (shape : Shape) (p : ElasticProgress) → FitsParts shape p → IsPart shape p.plain.hosts (part_with p)
part_fits shape p h = record {
  policy = h.policy;
  lines = batch_fits (FitsLine shape p.plain.hosts) p.plain.closed p.plain.open_lines h.plain.closed_fit h.plain.open_fit;
  full = batch_full p.plain.closed p.plain.open_lines h.plain.full;
}

-- the parts with the last one
parts_count : (p : ElasticProgress) → sum_by lines_in (p.parts ++ part_with p ∷ []) ≡ sum_by lines_in p.parts + (policies_in p.policy + (sum_by length p.plain.closed + length p.plain.open_lines))
parts_count p = sum_by_push lines_in p.parts (part_with p) ∙ ap (λ n. sum_by lines_in p.parts + (policies_in p.policy + n)) (batch_count p.plain.closed p.plain.open_lines)

policed_fits : (shape : Shape) (p : ElasticProgress) (q : Policy) → FitsParts shape p → p.plain.events < EVENT_LINES → IsPolicy p.plain.hosts q → FitsParts shape (with_told p (Policed q))
policed_fits shape p q h few fits = record {
  plain = record {
    some_host = h.plain.some_host;
    few_hosts = h.plain.few_hosts;
    closed_fit = All-nil (All (FitsLine shape p.plain.hosts));
    open_fit = All-nil (FitsLine shape p.plain.hosts);
    full = All-nil (λ (b : List Line). 0 < length b);
    count = omega arith;
    few = omega (arith, few);
    fresh = λ e. cc;
  };
  policy = fits;
  parts = All-push (IsPart shape p.plain.hosts) p.parts (part_with p) h.parts (part_fits shape p h);
  count = omega (arith, parts_count p, h.count);
  fresh = λ e. cc;
}

-- ---- a line that a script without policies may have too

no_hosts : (events : ℕ) (l : Result Line Fault) (n : ℕ) → judged_event events l ≡ Ok (Hosts n) → ⊥
no_hosts events l n e =
    elim (nat_lt events EVENT_LINES) as (λ b. cond b (as_event l) (Err TooMany) ≡ Ok (Hosts n) → ⊥) [
      | true ↦ λ k. by_line l k
      | false ↦ λ k. cc
    ] e
  where
    by_line : (x : Result Line Fault) → as_event x ≡ Ok (Hosts n) → ⊥
    by_line (Ok y) k = cc
    by_line (Err f) k = cc

-- hosts are said first
hosts_first : (shape : Shape) (hosts : ℕ) (begun : Bool) (events : ℕ) (s : Said) (n : ℕ) → judgment shape hosts begun events s ≡ Ok (Hosts n) → begun ≡ false
hosts_first shape hosts begun events Nothing n e = cc
hosts_first shape hosts begun events Unknown n e = cc
hosts_first shape hosts true events (Says (form.Hosts m)) n e = cc
hosts_first shape hosts false events (Says (form.Hosts m)) n e = refl
hosts_first shape hosts begun events (Says (form.Request name args)) n e = absurd (no_hosts events (requested_call shape name args) n e)
hosts_first shape hosts begun events (Says (form.Move steps to)) n e = absurd (no_hosts events (move_to hosts (path_of shape steps) (number_of to)) n e)
hosts_first shape hosts begun events (Says form.Snapshot) n e = absurd (no_hosts events (Ok line.Snapshot) n e)
hosts_first shape hosts begun events (Says form.Settle) n e = cc

no_parts : (P : Part → Type 0) (parts : List Part) → parts ≡ [] → All P parts
no_parts P parts e = subst (All P) (sym e) (All-nil P)

no_policy : (P : Policy → Type 0) (o : Option Policy) → o ≡ None → IfSome o P
no_policy P o e = subst (λ x. IfSome x P) (sym e) tt

taken_fits : (shape : Shape) (p : ElasticProgress) (s : Said) (t : Taken) → FitsParts shape p → judgment shape p.plain.hosts p.plain.begun p.plain.events s ≡ Ok t → FitsParts shape (with_told p (Plain t))
taken_fits shape p s Skipped h e = record { plain = h.plain; policy = h.policy; parts = h.parts; count = h.count; fresh = h.fresh }
taken_fits shape p s (Hosts n) h e =
    let none = h.fresh (hosts_first shape p.plain.hosts p.plain.begun p.plain.events s n e) in
    record {
      plain = judged_fits shape p.plain s (Hosts n) h.plain e;
      policy = no_policy (IsPolicy n) p.policy none.1;
      parts = no_parts (IsPart shape n) p.parts none.0;
      count = h.count;
      fresh = λ k. cc;
    }
taken_fits shape p s (Event l) h e = record {
  plain = judged_fits shape p.plain s (Event l) h.plain e;
  policy = h.policy;
  parts = h.parts;
  count = omega (arith, h.count, length-append p.plain.open_lines (l ∷ []));
  fresh = λ k. cc;
}
taken_fits shape p s Settle h e = record {
  plain = judged_fits shape p.plain s Settle h.plain e;
  policy = h.policy;
  parts = h.parts;
  count = omega (arith, h.count, batch_count p.plain.closed p.plain.open_lines);
  fresh = λ k. cc;
}

-- ---- each line

told_fits : (shape : Shape) (p : ElasticProgress) (w : Worded) (t : Told) → FitsParts shape p → judged_now shape p w ≡ Ok t → FitsParts shape (with_told p t)
told_fits shape p (worded.Plain s) t h e = by_taken (judgment shape p.plain.hosts p.plain.begun p.plain.events s) refl e
  where
    by_taken : (r : Result Taken Fault) → judgment shape p.plain.hosts p.plain.begun p.plain.events s ≡ r → as_plain r ≡ Ok t → FitsParts shape (with_told p t)
    by_taken (Ok x) j k = (let same : Plain x ≡ t = cc in subst (λ z. FitsParts shape (with_told p z)) same (taken_fits shape p s x h j))
    by_taken (Err f) j k = cc
told_fits shape p (worded.Policy f) t h e = by_policy (judged_policy p.plain.hosts p.plain.events p.under_way f) refl e
  where
    by_policy : (r : Result Policy Fault) → judged_policy p.plain.hosts p.plain.events p.under_way f ≡ r → as_policed r ≡ Ok t → FitsParts shape (with_told p t)
    by_policy (Ok q) j k =
        let same : Policed q ≡ t = cc in
        let fits = policy_fits p.plain.hosts p.plain.events p.under_way f q j in
        subst (λ z. FitsParts shape (with_told p z)) same (policed_fits shape p q h fits.0 fits.1)
    by_policy (Err x) j k = cc

pub elastic_step_fits : (shape : Shape) (line : List ℕ) (p q : ElasticProgress) → FitsParts shape p → IsElasticStep shape line p q → FitsParts shape q
elastic_step_fits shape line p q h s = subst (FitsParts shape) (sym s.after_is) (told_fits shape p s.worded s.told h s.judged_is)

-- ---- the whole

pub elastic_fits : (shape : Shape) (p : ElasticProgress) → FitsParts shape p → IsElastic shape (elastic_with p)
elastic_fits shape p h = record {
  some_host = h.plain.some_host;
  few_hosts = h.plain.few_hosts;
  parts = All-push (IsPart shape p.plain.hosts) p.parts (part_with p) h.parts (part_fits shape p h);
  few_lines = omega (arith, parts_count p, h.count, h.plain.few);
}
