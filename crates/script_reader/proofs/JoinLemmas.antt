-- A script, a line `settle` and what is read behind it are read as the batches of both.
use Rattle.std.proofs.Common.{◌≡◌, ◌+◌, ◌++◌, ℕ, true, false, cond, List, [], ◌∷◌, map, sum_by, Result, Ok, Err, refl, sym, ap, subst, ◌∙◌, append_assoc, append-nil, length-append, arith}
use Rattle.std.specs.Prelude.{count_by, length, codes}
use Rattle.std.proofs.lemmas.List.Sums.{sum_by-cons}
use Rattle.std.proofs.lemmas.List.{map-append}
use Rattle.wave_base.specs.declared.script.Line.{Line}
use Rattle.wave_base.specs.declared.script.Script.{Script}
use Rattle.wave_base.specs.declared.shape.Shape.{Shape}
use Rattle.wave_text.specs.Lines.{is_inside, onto_first, cut_lines, without_return, lines_of}
use Rattle.script_reader.specs.declared.earlier.Earlier.{Earlier}
use Rattle.script_reader.specs.declared.error.Fault.{Fault}
use Rattle.script_reader.specs.declared.error.ScriptError.{ScriptError}
use Rattle.script_reader.specs.declared.form.Form.TheVariants as form
use Rattle.script_reader.specs.declared.said.Said.{Said}
use Rattle.script_reader.specs.declared.said.Said.TheVariants.{Says}
use Rattle.script_reader.specs.declared.taken.Taken.{Taken}
use Rattle.script_reader.specs.declared.taken.Taken.TheVariants.{Skipped, Hosts, Event, Settle}
use Rattle.script_reader.specs.Judged.{nothing_earlier, script_earlier, is_event, hosts_of, has_begun, event_lines}
use Rattle.script_reader.specs.Laws.{joint_script, joined_text}
use Rattle.script_reader.specs.Scripts.{IsSaid, judgment, judged_after, open_batch, closed_batches, with_batch, script_of, Goes, IsRead, error_at}
use Rattle.script_reader.proofs.FitLemmas.{batch_count}

-- ---- the lines of the text

cut_some : (bs : List ℕ) → (l : List ℕ) × (ls : List (List ℕ)) × (cut_lines bs ≡ l ∷ ls)
cut_some [] = ([], [], refl)
cut_some (b ∷ bs) =
    elim (is_inside b) as (λ t. (l : List ℕ) × (ls : List (List ℕ)) × (cond t (onto_first b (cut_lines bs)) ([] ∷ cut_lines bs) ≡ l ∷ ls)) [
      | true ↦ (let w = cut_some bs in (b ∷ w.0, w.1, ap (onto_first b) w.2))
      | false ↦ ([], cut_lines bs, refl)
    ]

onto_append : (b : ℕ) (xs ys : List (List ℕ)) (l : List ℕ) (ls : List (List ℕ)) → xs ≡ l ∷ ls → onto_first b (xs ++ ys) ≡ onto_first b xs ++ ys
onto_append b xs ys l ls e = ap (λ z. onto_first b (z ++ ys)) e ∙ ap (λ z. onto_first b z ++ ys) (sym e)

cut_append : (xs ys : List ℕ) → cut_lines (xs ++ 10 ∷ ys) ≡ cut_lines xs ++ cut_lines ys
cut_append [] ys = refl
cut_append (b ∷ bs) ys =
    elim (is_inside b) as (λ t. cond t (onto_first b (cut_lines (bs ++ 10 ∷ ys))) ([] ∷ cut_lines (bs ++ 10 ∷ ys)) ≡ cond t (onto_first b (cut_lines bs)) ([] ∷ cut_lines bs) ++ cut_lines ys) [
      | true ↦ (let w = cut_some bs in ap (onto_first b) (cut_append bs ys) ∙ onto_append b (cut_lines bs) (cut_lines ys) w.0 w.1 w.2)
      | false ↦ ap (λ z. [] ∷ z) (cut_append bs ys)
    ]

lines_append : (xs ys : List ℕ) → lines_of (xs ++ 10 ∷ ys) ≡ lines_of xs ++ lines_of ys
lines_append xs ys = ap (map without_return) (cut_append xs ys) ∙ map-append without_return (cut_lines xs) (cut_lines ys)

joined_lines : (a b : List ℕ) → lines_of (joined_text a b) ≡ lines_of a ++ codes "settle" ∷ lines_of b
joined_lines a b = lines_append a (codes "settle" ++ 10 ∷ b) ∙ ap (λ z. lines_of a ++ z) (lines_append (codes "settle") b)

-- ---- the first script

-- its lines are these, and what stands behind them goes on from there
record GoesOn (shape : Shape) (earlier : Earlier) (before : List Taken) (lines : List (List ℕ)) (s : Script) : Type 0 where
  all : List Taken
  script_is : script_of earlier all ≡ s
  more : (left : List (List ℕ)) (r : Result Script ScriptError) → IsRead shape earlier all left r → IsRead shape earlier before (lines ++ left) r

goes_line : (shape : Shape) (earlier : Earlier) (before : List Taken) (l : List ℕ) (ls : List (List ℕ)) (s : Script) (said : Said) (x : Result Taken Fault)
    → ((t : Taken) → IsRead shape earlier (t ∷ before) ls (Ok s) → GoesOn shape earlier (t ∷ before) ls s) → IsSaid l said → judged_after shape earlier before said ≡ x
    → Goes x (λ t. IsRead shape earlier (t ∷ before) ls (Ok s)) (λ f. Ok s ≡ Err (error_at f (length before + 1))) → GoesOn shape earlier before (l ∷ ls) s
goes_line shape earlier before l ls s said (Err f) rec is j g = cc
goes_line shape earlier before l ls s said (Ok t) rec is j g =
    let w = rec t g in
    record {
      all = w.all;
      script_is = w.script_is;
      more = λ left r k. (said, is, subst (λ y. Goes y (λ u. IsRead shape earlier (u ∷ before) (ls ++ left) r) (λ f. r ≡ Err (error_at f (length before + 1)))) (sym j) (w.more left r k));
    }

goes_on : (shape : Shape) (earlier : Earlier) (before : List Taken) (ls : List (List ℕ)) (s : Script) → IsRead shape earlier before ls (Ok s) → GoesOn shape earlier before ls s
goes_on shape earlier before [] s e = (let same : s ≡ script_of earlier before = cc in record { all = before; script_is = sym same; more = λ left r k. k })
goes_on shape earlier before (l ∷ ls) s k = goes_line shape earlier before l ls s k.0 (judged_after shape earlier before k.0) (λ t m. goes_on shape earlier (t ∷ before) ls s m) k.1 refl k.2

-- ---- how many event lines it has

open_count : (ts : List Taken) → sum_by length (closed_batches ts) + length (open_batch ts) ≡ count_by is_event ts
open_count [] = refl
open_count (t ∷ ts) = by t (sum_by-cons (λ x. cond (is_event x) 1 0) t ts) (open_count ts)
  where
    by : (u : Taken) → count_by is_event (u ∷ ts) ≡ cond (is_event u) 1 0 + count_by is_event ts → sum_by length (closed_batches ts) + length (open_batch ts) ≡ count_by is_event ts
        → sum_by length (closed_batches (u ∷ ts)) + length (open_batch (u ∷ ts)) ≡ count_by is_event (u ∷ ts)
    by Skipped c h = omega (arith, c, h)
    by (Hosts n) c h = omega (arith, c, h)
    by (Event l) c h = omega (arith, c, h, length-append (open_batch ts) (l ∷ []))
    by Settle c h = omega (arith, c, h, batch_count (closed_batches ts) (open_batch ts))

lines_count : (ts : List Taken) → sum_by length (script_of nothing_earlier ts).batches ≡ event_lines nothing_earlier ts
lines_count ts = omega (arith, batch_count (closed_batches ts) (open_batch ts), open_count ts)

-- ---- the second script, behind these lines and a `settle`

module _ (us : List Taken) where
  abbrev behind : List Taken → List Taken
  behind vs = vs ++ Settle ∷ us

  abbrev then_ : Earlier
  then_ = script_earlier (hosts_of nothing_earlier us) (event_lines nothing_earlier us)

  hosts_behind : (vs : List Taken) → hosts_of nothing_earlier (behind vs) ≡ hosts_of then_ vs
  hosts_behind [] = refl
  hosts_behind (Hosts n ∷ vs) = refl
  hosts_behind (Skipped ∷ vs) = hosts_behind vs
  hosts_behind (Event l ∷ vs) = hosts_behind vs
  hosts_behind (Settle ∷ vs) = hosts_behind vs

  begun_behind : (vs : List Taken) → has_begun nothing_earlier (behind vs) ≡ has_begun then_ vs
  begun_behind [] = refl
  begun_behind (Hosts n ∷ vs) = refl
  begun_behind (Skipped ∷ vs) = begun_behind vs
  begun_behind (Event l ∷ vs) = refl
  begun_behind (Settle ∷ vs) = refl

  count_behind : (vs : List Taken) → event_lines nothing_earlier (behind vs) ≡ event_lines then_ vs
  count_behind [] = omega (arith, sum_by-cons (λ x. cond (is_event x) 1 0) Settle us)
  count_behind (v ∷ vs) = omega (arith, sum_by-cons (λ x. cond (is_event x) 1 0) v (behind vs), sum_by-cons (λ x. cond (is_event x) 1 0) v vs, count_behind vs)

  open_behind : (vs : List Taken) → open_batch (behind vs) ≡ open_batch vs
  open_behind [] = refl
  open_behind (Hosts n ∷ vs) = open_behind vs
  open_behind (Skipped ∷ vs) = open_behind vs
  open_behind (Event l ∷ vs) = ap (λ b. b ++ l ∷ []) (open_behind vs)
  open_behind (Settle ∷ vs) = refl

  abbrev front : List (List Line)
  front = with_batch (closed_batches us) (open_batch us)

  batch_behind : (bs : List (List Line)) (b : List Line) → with_batch (front ++ bs) b ≡ front ++ with_batch bs b
  batch_behind bs [] = refl
  batch_behind bs (l ∷ ls) = append_assoc front bs ((l ∷ ls) ∷ [])

  closed_behind : (vs : List Taken) → closed_batches (behind vs) ≡ front ++ closed_batches vs
  closed_behind [] = sym (append-nil front)
  closed_behind (Hosts n ∷ vs) = closed_behind vs
  closed_behind (Skipped ∷ vs) = closed_behind vs
  closed_behind (Event l ∷ vs) = closed_behind vs
  closed_behind (Settle ∷ vs) = (λ i. with_batch (closed_behind vs i) (open_behind vs i)) ∙ batch_behind (closed_batches vs) (open_batch vs)

  all_behind : (vs : List Taken) → with_batch (closed_batches (behind vs)) (open_batch (behind vs)) ≡ front ++ with_batch (closed_batches vs) (open_batch vs)
  all_behind vs = (λ i. with_batch (closed_behind vs i) (open_behind vs i)) ∙ batch_behind (closed_batches vs) (open_batch vs)

  judged_behind : (shape : Shape) (vs : List Taken) (s : Said) → judged_after shape nothing_earlier (behind vs) s ≡ judged_after shape then_ vs s
  judged_behind shape vs s = λ i. judgment shape (hosts_behind vs i) (begun_behind vs i) (count_behind vs i) s

  abbrev with_front : Script → Script
  with_front b = record { hosts = b.hosts; batches = front ++ b.batches }

  line_behind : (shape : Shape) (vs : List Taken) (l : List ℕ) (ls : List (List ℕ)) (b : Script) (said : Said) (x : Result Taken Fault)
      → ((t : Taken) → IsRead shape then_ (t ∷ vs) ls (Ok b) → IsRead shape nothing_earlier (behind (t ∷ vs)) ls (Ok (with_front b))) → IsSaid l said → judged_after shape then_ vs said ≡ x
      → Goes x (λ t. IsRead shape then_ (t ∷ vs) ls (Ok b)) (λ f. Ok b ≡ Err (error_at f (length vs + 1))) → IsRead shape nothing_earlier (behind vs) (l ∷ ls) (Ok (with_front b))
  line_behind shape vs l ls b said (Err f) rec is j g = cc
  line_behind shape vs l ls b said (Ok t) rec is j g = (
    said,
    is,
    subst (λ y. Goes y (λ u. IsRead shape nothing_earlier (u ∷ behind vs) ls (Ok (with_front b))) (λ f. Ok (with_front b) ≡ Err (error_at f (length (behind vs) + 1)))) (sym (judged_behind shape vs said ∙ j)) (rec t g),
  )

  read_behind : (shape : Shape) (vs : List Taken) (ls : List (List ℕ)) (b : Script) → IsRead shape then_ vs ls (Ok b) → IsRead shape nothing_earlier (behind vs) ls (Ok (with_front b))
  read_behind shape vs [] b e =
      let same : b ≡ script_of then_ vs = cc in
      ap (λ z. Ok (with_front z)) same ∙ sym (λ i. Ok (record { hosts = hosts_behind vs i; batches = all_behind vs i }))
  read_behind shape vs (l ∷ ls) b k = line_behind shape vs l ls b k.0 (judged_after shape then_ vs k.0) (λ t m. read_behind shape (t ∷ vs) ls b m) k.1 refl k.2

-- ---- both

settle_said : IsSaid (codes "settle") (Says form.Settle)
settle_said = (refl, record { cut = ([], record { spelled = refl; form = refl; ends = refl }, refl); form_is = refl })

pub read_joined : (shape : Shape) (first second : List ℕ) (a b : Script) → IsRead shape nothing_earlier [] (lines_of first) (Ok a) → IsRead shape (script_earlier a.hosts (sum_by length a.batches)) [] (lines_of second) (Ok b)
    → IsRead shape nothing_earlier [] (lines_of (joined_text first second)) (Ok (joint_script a b))
read_joined shape first second a b h k =
    let w = goes_on shape nothing_earlier [] (lines_of first) a h in
    let earlier : script_earlier a.hosts (sum_by length a.batches) ≡ then_ w.all =
    ap (λ s. script_earlier s.hosts (sum_by length s.batches)) (sym w.script_is) ∙ ap (script_earlier (hosts_of nothing_earlier w.all)) (lines_count w.all) in
    let second_read = read_behind w.all shape [] (lines_of second) b (subst (λ e. IsRead shape e [] (lines_of second) (Ok b)) earlier k) in
    let both : Ok (with_front w.all b) ≡ Ok (joint_script a b) = ap (λ s. Ok (record { hosts = b.hosts; batches = s.batches ++ b.batches })) w.script_is in
    subst (λ ls. IsRead shape nothing_earlier [] ls (Ok (joint_script a b))) (sym (joined_lines first second))
    (w.more (codes "settle" ∷ lines_of second) (Ok (joint_script a b)) (Says form.Settle, settle_said, subst (IsRead shape nothing_earlier (Settle ∷ w.all) (lines_of second)) both second_read))
