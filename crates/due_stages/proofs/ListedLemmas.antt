-- The lines of two runs, one behind the other.
use Rattle.std.proofs.Common.{◌≡◌, ◌∙◌, ◌<◌, ◌+◌, ℕ, zero, suc, true, Option, Some, None, is_none, List, [], ◌∷◌, ◌++◌, length, map, get_or, slice_get, refl, sym, ap, subst, arith, add-zero, zero-add, length-append}
use Rattle.std.specs.List.{concat}
use Rattle.std.specs.Option.{option_and_then, option_map_or}
use Rattle.std.proofs.lemmas.List.{length-map}
use Rattle.std.proofs.lemmas.Option.{get_or_from_slice_get, slice_get-get_or, slice_get_within}
use Rattle.wave_base.specs.declared.finished.Finished.{Finished}
use Rattle.wave_base.specs.declared.outcome.EventResult.{EventResult}
use Rattle.wave_base.specs.declared.script.Line.{Line}
use Rattle.wave_base.specs.declared.script.Script.{Script}
use Rattle.wave_base.specs.declared.shape.Shape.{Shape}
use Rattle.wave_base.specs.declared.shown.Shown.{Shown}
use Rattle.wave_base.specs.declared.start.Start.{Start}
use Rattle.wave_base.specs.Fold.{Head, created_lines, first_head, created_tickets, next_job, with_done}
use Rattle.wave_base.specs.Starts.{start_tree}
use Rattle.script_fold.specs.Lines.{Meaning, most_jobs, name_of}
use Rattle.script_fold.specs.Runs.{finished_of, ticket_of, whole_run}
use Rattle.fold_laws.specs.Cuts.{AreJoined, Comes}
use Rattle.fold_laws.proofs.Heads.{Over, over_of}
use Rattle.fold_laws.proofs.Walk.{Sane, sane_after}
use Rattle.listing_out.specs.Listing.{lines_from, made_at, name_at, shown_of}
use Rattle.listing_out.specs.Parts.{AreShownFrom, first_lines}
use Rattle.listing_out.proofs.ListingLemmas.{shown_get, shown_length}
use Rattle.listing_out.proofs.PartLemmas.{all_lines, part_on}
use Rattle.due_stages.specs.Listed.{events_from}

-- ---- how much a run tells

none_is : {A : Type 0} (o : Option A) → is_none o ≡ true → o ≡ None
none_is None e = refl
none_is (Some x) e = cc

made_many : (first : ℕ) (h : Head Line) (cs : List (List Line)) → length (created_tickets first h cs) ≡ length cs
made_many first h [] = refl
made_many first h (c ∷ cs) = ap suc (made_many first (with_done h c) cs)

-- there is a name and a list of tickets for each result
module _ (meaning : Meaning) (shape : Shape) (start : Start) (a : Script) (c : Comes meaning shape start a) where
  sane : Sane meaning start.next.0 a.batches (whole_run meaning shape start a)
  unfolding whole_run
  sane = sane_after meaning start.next.0 a.batches (start_tree shape start) c.full (most_jobs a.batches)

  all_done : Over (whole_run meaning shape start a).head
  all_done = over_of (whole_run meaning shape start a).head sane.sound (none_is (next_job (whole_run meaning shape start a).head) c.over)

  pub as_many_names : length (finished_of meaning shape start a).names ≡ length (finished_of meaning shape start a).results
  as_many_names = length-map (whole_run meaning shape start a).head.known name_of ∙ sym all_done.all ∙ sym sane.results

  pub as_many_made : length (finished_of meaning shape start a).made ≡ length (finished_of meaning shape start a).results
  as_many_made =
      let created : List (List Line) = map created_lines (whole_run meaning shape start a).results in
      length-map (created_tickets start.next.0 (first_head a.batches) created) (map ticket_of)
      ∙ made_many start.next.0 (first_head a.batches) created
      ∙ length-map (whole_run meaning shape start a).results created_lines

-- ---- places in two lists

get_first : {X : Type 0} (xs ys : List X) (i : ℕ) → i < length xs → slice_get (xs ++ ys) i ≡ slice_get xs i
get_first [] ys i h = absurd (omega arith)
get_first (x ∷ xs) ys zero h = refl
get_first (x ∷ xs) ys (suc i) h = get_first xs ys i (omega arith)

get_behind : {X : Type 0} (xs ys : List X) (i : ℕ) → slice_get (xs ++ ys) (length xs + i) ≡ slice_get ys i
get_behind [] ys i = ap (slice_get ys) (zero-add i)
get_behind (x ∷ xs) ys i = ap (slice_get (x ∷ (xs ++ ys))) same ∙ get_behind xs ys i
  where
    same : length (x ∷ xs) + i ≡ suc (length xs + i)
    same = omega arith

-- ---- the tickets of a run that are another's

-- what is told of the k-th ticket
record IsSameAt (one : Finished) (i : ℕ) (other : Finished) (k : ℕ) : Type 0 where
  result : slice_get one.results i ≡ slice_get other.results k
  name : slice_get one.names i ≡ slice_get other.names k
  made : slice_get one.made i ≡ slice_get other.made k

shown_there : (whole one : Finished) (i : ℕ) → ((k : ℕ) → k < length one.results → IsSameAt whole (i + k) one k) → AreShownFrom whole i (shown_of one)
shown_there whole one i same k x e =
    let many = shown_length one 0 one.results in
    let placed : k < length (shown_of one) = slice_get_within (shown_of one) k x e in
    let within : k < length one.results = omega (arith, many, placed) in
    let r : EventResult = get_or one.results k x.result in
    let there : slice_get one.results k ≡ Some r = slice_get-get_or one.results k x.result within in
    let again : r ≡ get_or one.results k r = sym (get_or_from_slice_get one.results k r r there) in
    let is : x ≡ record { name = name_at one k; result = r; made = made_at one k } =
    sym (get_or_from_slice_get (shown_of one) k x x e) ∙ shown_get one 0 one.results k r x within again ∙ ap (λ n. record { name = name_at one n; result = r; made = made_at one n }) (zero-add k) in
    let at = same k within in
    record {
      name = ap (option_and_then (λ name. name)) at.name ∙ sym (ap (λ (y : Shown). y.name) is);
      result = at.result ∙ there ∙ ap (λ (y : Shown). Some y.result) (sym is);
      made = ap (λ o. option_map_or (λ made. made) o []) at.made ∙ sym (ap (λ (y : Shown). y.made) is);
    }

module _ (shape : Shape) (first : ℕ) (one other whole : Finished) (joined : AreJoined one other whole) (named : length one.names ≡ length one.results) (made : length one.made ≡ length one.results) where
  first_same : (k : ℕ) → k < length one.results → IsSameAt whole (0 + k) one k
  first_same k h = subst (λ n. IsSameAt whole n one k) (sym (zero-add k)) (record {
    result = ap (λ xs. slice_get xs k) joined.results ∙ get_first one.results other.results k h;
    name = ap (λ xs. slice_get xs k) joined.names ∙ get_first one.names other.names k (omega (arith, named, h));
    made = ap (λ xs. slice_get xs k) joined.made ∙ get_first one.made other.made k (omega (arith, made, h));
  })

  other_same : (k : ℕ) → k < length other.results → IsSameAt whole (length one.results + k) other k
  other_same k h = record {
    result = ap (λ xs. slice_get xs (length one.results + k)) joined.results ∙ get_behind one.results other.results k;
    name = ap (λ xs. slice_get xs (length one.results + k)) joined.names ∙ ap (λ n. slice_get (one.names ++ other.names) (n + k)) (sym named) ∙ get_behind one.names other.names k;
    made = ap (λ xs. slice_get xs (length one.results + k)) joined.made ∙ ap (λ n. slice_get (one.made ++ other.made) (n + k)) (sym made) ∙ get_behind one.made other.made k;
  }

  first_part : events_from shape first one ≡ first_lines shape first whole (length one.results)
  first_part =
      let on = part_on shape first whole 0 (shown_of one) (shown_there whole one 0 first_same) in
      let many : 0 + length (shown_of one) ≡ length one.results = omega (arith, shown_length one 0 one.results) in
      ap (λ n. concat (lines_from shape n (shown_of one))) (sym (add-zero first)) ∙ on ∙ ap (first_lines shape first whole) many

  -- the lines of the one, and behind them those of the other
  pub lines_joined : events_from shape first whole ≡ events_from shape first one ++ events_from shape (first + length one.results) other
  lines_joined =
      let on = part_on shape first whole (length one.results) (shown_of other) (shown_there whole other (length one.results) other_same) in
      let many : length one.results + length (shown_of other) ≡ length whole.results = omega (arith, shown_length other 0 other.results, ap length joined.results, length-append one.results other.results) in
      sym (all_lines shape first whole) ∙ ap (first_lines shape first whole) (sym many) ∙ sym on ∙ ap (λ z. z ++ events_from shape (first + length one.results) other) (sym first_part)
