-- The lines that are taken fit the shape.
use Rattle.std.proofs.Common.{◌≡◌, ◌+◌, ◌<◌, ◌≤◌, ℕ, suc, Bool, true, false, cond, List, [], ◌∷◌, length, map, sum_by, Option, Some, None, Result, Ok, Err, refl, sym, ap, subst, ◌∙◌, length-append, arith}
use Rattle.std.specs.Prelude.{◌&&◌, ◌==◌, nat_lt, nat_le, option_map, slice_get, position, All}
use Rattle.std.specs.List.{position_from}
use Rattle.std.proofs.lemmas.Bool.{and_parts}
use Rattle.std.proofs.lemmas.Bool.Decides.{nat_tests}
use Rattle.std.proofs.lemmas.Iterator.Adapters.{position_from-zero}
use Rattle.std.proofs.lemmas.List.Elements.{All-nil, All-push}
use Rattle.std.proofs.lemmas.List.Sums.{sum_by_push}
use Rattle.wave_base.specs.declared.limits.TheConstants.{EVENT_LINES, HOSTS, LITERAL_BYTES}
use Rattle.wave_base.specs.declared.path.Path.{Path}
use Rattle.wave_base.specs.declared.script.Line.{Line}
use Rattle.wave_base.specs.declared.script.Line.TheVariants as line
use Rattle.wave_base.specs.declared.shape.EventInfo.{EventInfo}
use Rattle.wave_base.specs.declared.shape.Shape.{Shape}
use Rattle.wave_base.specs.declared.value.Kind.{Kind}
use Rattle.wave_base.specs.declared.value.Kind.TheVariants as kind
use Rattle.wave_base.specs.declared.value.Value.{Value}
use Rattle.wave_base.specs.declared.value.Value.TheVariants as value
use Rattle.wave_base.specs.Scripts.{FitsLine, IsScript}
use Rattle.wave_base.specs.Shapes.{is_path}
use Rattle.wave_base.specs.Values.{kind_of}
use Rattle.wave_text.specs.Numbers.{whole_of, number_of}
use Rattle.path_text.proofs.PathLemmas.{chained, mapped, steps_are}
use Rattle.path_text.specs.declared.written.Written.{Written}
use Rattle.path_text.specs.Paths.{path_of, steps_below}
use Rattle.script_reader.specs.declared.error.Fault.{Fault}
use Rattle.script_reader.specs.declared.error.Fault.TheVariants.{ArgCount, HostRange, HostsLate, TooMany}
use Rattle.script_reader.specs.declared.form.Form.{Form}
use Rattle.script_reader.specs.declared.form.Form.TheVariants as form
use Rattle.script_reader.specs.declared.form.Literal.{Literal}
use Rattle.script_reader.specs.declared.form.Literal.TheVariants as literal
use Rattle.script_reader.specs.declared.progress.Progress.{Progress}
use Rattle.script_reader.specs.declared.said.Said.{Said}
use Rattle.script_reader.specs.declared.said.Said.TheVariants.{Nothing, Unknown, Says}
use Rattle.script_reader.specs.declared.taken.Taken.{Taken}
use Rattle.script_reader.specs.declared.taken.Taken.TheVariants.{Skipped, Hosts, Event, Settle}
use Rattle.script_reader.specs.Judged.{value_of, values_of, call_with, call_of, has_name, params_in, call_at, requested_call, move_to, as_event, judged_event, judged_hosts, judged_form}
use Rattle.script_reader.specs.inner.Progressed.{with_taken}
use Rattle.script_reader.specs.Scripts.{judgment, with_batch, script_with}
use Rattle.script_reader.specs.inner.Steps.{IsStep}

pub record Fits (shape : Shape) (p : Progress) : Type 0 where
  pub some_host : 1 ≤ p.hosts
  pub few_hosts : p.hosts ≤ HOSTS
  pub closed_fit : All (All (FitsLine shape p.hosts)) p.closed
  pub open_fit : All (FitsLine shape p.hosts) p.open_lines
  pub full : All (λ b. 0 < length b) p.closed
  pub count : sum_by length p.closed + length p.open_lines ≤ p.events
  pub few : p.events ≤ EVENT_LINES
  pub fresh : p.begun ≡ false → (p.closed ≡ []) × (p.open_lines ≡ [])

-- ---- calls

value_kind : (k : Kind) (a : Literal) (v : Value) → value_of k a ≡ Some v → kind_of v ≡ k
value_kind kind.Int (literal.Number n) v e = (let m = mapped (whole_of n) (λ z. value.Int z) v e in sym (ap kind_of m.2))
value_kind kind.Int (literal.Truth b) v e = cc
value_kind kind.Int (literal.Text t) v e = cc
value_kind kind.Bool (literal.Number n) v e = cc
value_kind kind.Bool (literal.Truth b) v e = (let same : value.Bool b ≡ v = cc in sym (ap kind_of same))
value_kind kind.Bool (literal.Text t) v e = cc
value_kind kind.Text (literal.Number n) v e = cc
value_kind kind.Text (literal.Truth b) v e = cc
value_kind kind.Text (literal.Text t) v e =
    elim (nat_le (length t) LITERAL_BYTES) as (λ b. cond b (Some (value.Str t)) None ≡ Some v → kind_of v ≡ kind.Text) [
      | true ↦ λ k. (let same : value.Str t ≡ v = cc in sym (ap kind_of same))
      | false ↦ λ k. cc
    ] e
value_kind kind.Map (literal.Number n) v e = cc
value_kind kind.Map (literal.Truth b) v e = cc
value_kind kind.Map (literal.Text t) v e = cc

value_kinds : (ks : List Kind) (ls : List Literal) (vs : List Value) → length ls ≡ length ks → values_of ks ls ≡ Some vs → map kind_of vs ≡ ks
value_kinds [] [] vs n e = (let same : [] ≡ vs = cc in ap (map kind_of) (sym same))
value_kinds [] (a ∷ ls) vs n e = absurd (omega arith)
value_kinds (k ∷ ks) [] vs n e = absurd (omega arith)
value_kinds (k ∷ ks) (a ∷ ls) vs n e =
    let first = chained (value_of k a) (λ v. option_map (λ us. v ∷ us) (values_of ks ls)) vs e in
    let rest = mapped (values_of ks ls) (λ us. first.0 ∷ us) vs first.2 in
    ap (map kind_of) (sym rest.2) ∙ (λ i. value_kind k a first.0 first.1 i ∷ value_kinds ks ls rest.0 (omega arith) rest.1 i)

-- what stands at the place that a search found passes
found_from : {A : Type 0} (p : A → Bool) (xs : List A) (k n : ℕ) → position_from p k xs ≡ Some n → (m : ℕ) × (n ≡ k + m) × (x : A) × (slice_get xs m ≡ Some x) × (p x ≡ true)
found_from p [] k n e = cc
found_from p (x ∷ xs) k n e =
    elim (p x) as (λ t. p x ≡ t → cond t (Some k) (position_from p (k + 1) xs) ≡ Some n → (m : ℕ) × (n ≡ k + m) × (y : _) × (slice_get (x ∷ xs) m ≡ Some y) × (p y ≡ true)) [
      | true ↦ λ h f. (let same : k ≡ n = cc in (0, omega arith, x, refl, h))
      | false ↦ λ h f. (let r = found_from p xs (k + 1) n f in (suc r.0, omega arith, r.2, r.3, r.4))
    ] refl e

call_fits : (shape : Shape) (hosts event : ℕ) (info : EventInfo) (ls : List Literal) (l : Line) → slice_get shape.events event ≡ Some info → call_of event info.params ls ≡ Ok l → FitsLine shape hosts l
call_fits shape hosts event info ls l at e =
    elim (length ls == length info.params) as (λ t. (length ls == length info.params) ≡ t → cond t (call_with event (values_of info.params ls)) (Err ArgCount) ≡ Ok l → FitsLine shape hosts l) [
      | true ↦ λ n k. by_values (values_of info.params ls) (same_lengths _ _ n) refl k
      | false ↦ λ n k. cc
    ] refl e
  where
    same_lengths : (a b : ℕ) → (a == b) ≡ true → a ≡ b
    same_lengths a b h = grind (arith, nat_tests)

    by_values : (o : Option (List Value)) → length ls ≡ length info.params → values_of info.params ls ≡ o → call_with event o ≡ Ok l → FitsLine shape hosts l
    by_values None n o k = cc
    by_values (Some vs) n o k =
        let same : line.Request (record { event = event; args = vs; generation = 0 }) ≡ l = cc in
        subst (FitsLine shape hosts) same (record { event = info; is_event = at; kinds = value_kinds info.params ls vs n o }, refl)

requested_fits : (shape : Shape) (hosts : ℕ) (name : List ℕ) (ls : List Literal) (l : Line) → requested_call shape name ls ≡ Ok l → FitsLine shape hosts l
requested_fits shape hosts name ls l e = by_event (position (has_name name) shape.events) refl e
  where
    by_event : (o : Option ℕ) → position (has_name name) shape.events ≡ o → call_at shape o ls ≡ Ok l → FitsLine shape hosts l
    by_event None p k = cc
    by_event (Some event) p k =
        let f = found_from (has_name name) shape.events 0 event (sym (position_from-zero (has_name name) shape.events) ∙ p) in
        let at : f.0 ≡ event = omega arith in
        let there : slice_get shape.events event ≡ Some f.2 = ap (slice_get shape.events) (sym at) ∙ f.3 in
        call_fits shape hosts event f.2 ls l there (ap (λ o. call_of event (params_in o) ls) (sym there) ∙ k)

-- ---- moves

path_is : (shape : Shape) (steps : List Written) (p : Path) → path_of shape steps ≡ Some p → is_path shape p ≡ true
path_is shape steps p e =
    elim (nat_le (length steps) 8) as (λ t. cond t (steps_below shape 0 steps) None ≡ Some p → is_path shape p ≡ true) [
      | true ↦ λ k. steps_are shape steps 0 p k
      | false ↦ λ k. cc
    ] e

move_fits : (shape : Shape) (hosts : ℕ) (steps : List Written) (to : ℕ) (l : Line) → move_to hosts (path_of shape steps) to ≡ Ok l → FitsLine shape hosts l
move_fits shape hosts steps to l e = by_path (path_of shape steps) refl e
  where
    below : (t : Bool) (p : Path) → nat_lt to hosts ≡ t → is_path shape p ≡ true → cond t (Ok (line.Move p (record { 0 = to }))) (Err HostRange) ≡ Ok l → FitsLine shape hosts l
    below true p h q k =
        let same : line.Move p (record { 0 = to }) ≡ l = cc in
        let within : to < hosts = grind (arith, nat_tests) in
        subst (FitsLine shape hosts) same (q, within)
    below false p h q k = cc

    by_path : (o : Option Path) → path_of shape steps ≡ o → move_to hosts o to ≡ Ok l → FitsLine shape hosts l
    by_path None p k = cc
    by_path (Some path) p k = below (nat_lt to hosts) path refl (path_is shape steps path p) k

-- ---- lines

event_fits : (shape : Shape) (p : Progress) (l : Line) → Fits shape p → p.events < EVENT_LINES → FitsLine shape p.hosts l → Fits shape (with_taken p (Event l))
event_fits shape p l h few f = record {
  some_host = h.some_host;
  few_hosts = h.few_hosts;
  closed_fit = h.closed_fit;
  open_fit = All-push (FitsLine shape p.hosts) p.open_lines l h.open_fit f;
  full = h.full;
  count = omega (arith, length-append p.open_lines (l ∷ []), h.count);
  few = omega (arith, few);
  fresh = λ e. cc;
}

judged_event_fits : (shape : Shape) (p : Progress) (x : Result Line Fault) (t : Taken) → Fits shape p → ((l : Line) → x ≡ Ok l → FitsLine shape p.hosts l) → judged_event p.events x ≡ Ok t → Fits shape (with_taken p t)
judged_event_fits shape p x t h f e =
    elim (nat_lt p.events EVENT_LINES) as (λ b. nat_lt p.events EVENT_LINES ≡ b → cond b (as_event x) (Err TooMany) ≡ Ok t → Fits shape (with_taken p t)) [
      | true ↦ λ n k. by_line x f (grind (arith, nat_tests)) k
      | false ↦ λ n k. cc
    ] refl e
  where
    by_line : (y : Result Line Fault) → ((l : Line) → y ≡ Ok l → FitsLine shape p.hosts l) → p.events < EVENT_LINES → as_event y ≡ Ok t → Fits shape (with_taken p t)
    by_line (Ok l) f n k =
        let same : Event l ≡ t = cc in
        subst (λ z. Fits shape (with_taken p z)) same (event_fits shape p l h n (f l refl))
    by_line (Err y) f n k = cc

no_lines : (P : List Line → Type 0) (xs : List (List Line)) → xs ≡ [] → All P xs
no_lines P xs e = subst (All P) (sym e) (All-nil P)

no_line : (P : Line → Type 0) (xs : List Line) → xs ≡ [] → All P xs
no_line P xs e = subst (All P) (sym e) (All-nil P)

hosts_fit : (shape : Shape) (p : Progress) (n : ℕ) (t : Taken) → Fits shape p → judged_hosts p.begun n ≡ Ok t → Fits shape (with_taken p t)
hosts_fit shape p n t h e =
    elim p.begun as (λ b. p.begun ≡ b → cond b (Err HostsLate) (cond (nat_le 1 n && nat_le n HOSTS) (Ok (Hosts n)) (Err HostRange)) ≡ Ok t → Fits shape (with_taken p t)) [
      | true ↦ λ b k. cc
      | false ↦ λ b k. within (nat_le 1 n && nat_le n HOSTS) (h.fresh b) refl k
    ] refl e
  where
    within : (c : Bool) → (p.closed ≡ []) × (p.open_lines ≡ []) → (nat_le 1 n && nat_le n HOSTS) ≡ c → cond c (Ok (Hosts n)) (Err HostRange) ≡ Ok t → Fits shape (with_taken p t)
    within true none c k =
        let same : Hosts n ≡ t = cc in
        let parts = and_parts (nat_le 1 n) (nat_le n HOSTS) c in
        subst (λ z. Fits shape (with_taken p z)) same (record {
          some_host = grind (arith, nat_tests, parts.0);
          few_hosts = grind (arith, nat_tests, parts.1);
          closed_fit = no_lines (All (FitsLine shape n)) p.closed none.0;
          open_fit = no_line (FitsLine shape n) p.open_lines none.1;
          full = h.full;
          count = h.count;
          few = h.few;
          fresh = λ e. cc;
        })
    within false none c k = cc

pub batch_fits : (P : Line → Type 0) (bs : List (List Line)) (b : List Line) → All (All P) bs → All P b → All (All P) (with_batch bs b)
batch_fits P bs [] h k = h
batch_fits P bs (l ∷ ls) h k = All-push (All P) bs (l ∷ ls) h k

pub batch_full : (bs : List (List Line)) (b : List Line) → All (λ x. 0 < length x) bs → All (λ x. 0 < length x) (with_batch bs b)
batch_full bs [] h = h
batch_full bs (l ∷ ls) h = All-push (λ (x : List Line). 0 < length x) bs (l ∷ ls) h (omega arith)

pub batch_count : (bs : List (List Line)) (b : List Line) → sum_by length (with_batch bs b) ≡ sum_by length bs + length b
batch_count bs [] = omega arith
batch_count bs (l ∷ ls) = sum_by_push length bs (l ∷ ls)

settled_fits : (shape : Shape) (p : Progress) → Fits shape p → Fits shape (with_taken p Settle)
settled_fits shape p h = record {
  some_host = h.some_host;
  few_hosts = h.few_hosts;
  closed_fit = batch_fits (FitsLine shape p.hosts) p.closed p.open_lines h.closed_fit h.open_fit;
  open_fit = All-nil (FitsLine shape p.hosts);
  full = batch_full p.closed p.open_lines h.full;
  count = omega (arith, batch_count p.closed p.open_lines, h.count);
  few = h.few;
  fresh = λ e. cc;
}

form_fits : (shape : Shape) (p : Progress) (f : Form) (t : Taken) → Fits shape p → judged_form shape p.hosts p.begun p.events f ≡ Ok t → Fits shape (with_taken p t)
form_fits shape p (form.Hosts n) t h e = hosts_fit shape p (number_of n) t h e
form_fits shape p (form.Request name ls) t h e = judged_event_fits shape p (requested_call shape name ls) t h (λ l k. requested_fits shape p.hosts name ls l k) e
form_fits shape p (form.Move steps to) t h e = judged_event_fits shape p (move_to p.hosts (path_of shape steps) (number_of to)) t h (λ l k. move_fits shape p.hosts steps (number_of to) l k) e
form_fits shape p form.Snapshot t h e = judged_event_fits shape p (Ok line.Snapshot) t h (λ l k. (let same : line.Snapshot ≡ l = cc in subst (FitsLine shape p.hosts) same tt)) e
form_fits shape p form.Settle t h e = (let same : Settle ≡ t = cc in subst (λ z. Fits shape (with_taken p z)) same (settled_fits shape p h))

pub judged_fits : (shape : Shape) (p : Progress) (s : Said) (t : Taken) → Fits shape p → judgment shape p.hosts p.begun p.events s ≡ Ok t → Fits shape (with_taken p t)
judged_fits shape p Nothing t h e = (let same : Skipped ≡ t = cc in subst (λ z. Fits shape (with_taken p z)) same h)
judged_fits shape p Unknown t h e = cc
judged_fits shape p (Says f) t h e = form_fits shape p f t h e

-- ---- the whole

pub script_fits : (shape : Shape) (p : Progress) → Fits shape p → IsScript shape (script_with p.hosts p.closed p.open_lines)
script_fits shape p h = record {
  some_host = h.some_host;
  few_hosts = h.few_hosts;
  lines = batch_fits (FitsLine shape p.hosts) p.closed p.open_lines h.closed_fit h.open_fit;
  full = batch_full p.closed p.open_lines h.full;
  few_lines = omega (arith, batch_count p.closed p.open_lines, h.count, h.few);
}

pub step_fits : (shape : Shape) (line : List ℕ) (p q : Progress) → Fits shape p → IsStep shape line p q → Fits shape q
step_fits shape line p q h s = subst (Fits shape) (sym s.after_is) (judged_fits shape p s.said s.taken h s.judged_is)
