-- A script beside the same without its moves, job by job.
use Rattle.std.proofs.Common.{◌≡◌, ◌≤◌, ◌<◌, ◌+◌, ◌-◌, ℕ, zero, suc, Bool, true, false, if◌then◌else◌, List, [], ◌∷◌, ◌++◌, length, map, drop, filter, Option, Some, None, is_none, slice_get, All, nat_lt, refl, sym, ap, subst, ◌∙◌, arith, length-append, length-drop, append-nil, append_assoc, ltb-false, ltb-true}
use Rattle.std.proofs.lemmas.List.{drop-append-le}
use Rattle.std.proofs.lemmas.List.Elements.{All-head, All-tail, filter-append}
use Rattle.std.proofs.lemmas.Option.{slice_get_within}
use Rattle.std.proofs.Math.Seq.{drop-append_seam, drop-length}
use Rattle.wave_base.specs.declared.call.Call.{Call}
use Rattle.wave_base.specs.declared.numbers.Host.{Host}
use Rattle.wave_base.specs.declared.outcome.EventResult.{EventResult}
use Rattle.wave_base.specs.declared.path.Path.{Path}
use Rattle.wave_base.specs.declared.script.Line.{Line}
use Rattle.wave_base.specs.declared.script.Line.TheVariants.{Request, Move, Snapshot}
use Rattle.wave_base.specs.declared.value.Value.{Value}
use Rattle.wave_base.specs.Fold.{Head, Ran, Progress, begun, next_batch, next_job, first_head, with_done, first_progress, with_result, with_job, one_more, is_over, created_lines}
use Rattle.wave_base.specs.Tree.{Tree}
use Rattle.script_fold.specs.Lines.{Meaning, line_by}
use Rattle.script_fold.specs.Moves.{is_no_move, with_batch, without_moves, other_results, jobs_run, MovesAside}
use Rattle.script_fold.proofs.LeftLemmas.{next_is}
use Rattle.script_fold.proofs.StepLemmas.{any_ticket}

-- ---- the jobs that wait, and the batches that have not begun

abbrev wait : Head Line → List Line
wait h = drop h.done h.known

-- where no job waits, the next batch begins
abbrev norm : List Line → List (List Line) → List Line × List (List Line)
norm (l ∷ ls) bs = (l ∷ ls, bs)
norm [] [] = ([], [])
norm [] (b ∷ bs) = (b, bs)

record Turned (h n : Head Line) : Type 0 where
  done : n.done ≡ h.done
  within : n.done ≤ length n.known
  left : (wait n, n.later) ≡ norm (wait h) h.later
  more : List Line
  grows : n.known ≡ h.known ++ more

some_waits : (h : Head Line) → h.done < length h.known → (wait h, h.later) ≡ norm (wait h) h.later
some_waits h l = by_wait (wait h) refl
  where
    by_wait : (ls : List Line) → wait h ≡ ls → (ls, h.later) ≡ norm ls h.later
    by_wait [] e = let none : length h.known - h.done ≡ 0 = sym (length-drop h.done h.known) ∙ ap length e in absurd (omega (arith, none, l))
    by_wait (x ∷ ls) e = refl

turned : (h : Head Line) → h.done ≤ length h.known → Turned h (next_batch h)
turned h l = by_test (nat_lt h.done (length h.known)) refl
  where
    by_later : (bs : List (List Line)) → h.later ≡ bs → h.done ≡ length h.known → Turned h (begun h bs)
    by_later [] e d =
        let none : wait h ≡ [] = ap (λ n. drop n h.known) d ∙ drop-length h.known in
        record { done = refl; within = l; left = (λ i. (none i, e i)) ∙ (λ i. norm (sym none i) (sym e i)); more = []; grows = sym (append-nil h.known) }
    by_later (b ∷ bs) e d =
        let none : wait h ≡ [] = ap (λ n. drop n h.known) d ∙ drop-length h.known in
        let new : drop h.done (h.known ++ b) ≡ b = ap (λ n. drop n (h.known ++ b)) d ∙ drop-append_seam h.known b in
        record { done = refl; within = omega (arith, d, length-append h.known b); left = (λ i. (new i, bs)) ∙ (λ i. norm (sym none i) (sym e i)); more = b; grows = refl }

    by_test : (t : Bool) → nat_lt h.done (length h.known) ≡ t → Turned h (if t then h else begun h h.later)
    by_test true e = record { done = refl; within = l; left = some_waits h (ltb-true h.done (length h.known) e); more = []; grows = sym (append-nil h.known) }
    by_test false e = by_later h.later refl (omega (arith, l, ltb-false h.done (length h.known) e))

record Done (h n : Head Line) (created : List Line) : Type 0 where
  done : n.done ≡ suc h.done
  within : n.done ≤ length n.known
  left : (wait n, n.later) ≡ norm (drop (suc h.done) h.known ++ created) h.later
  more : List Line
  grows : n.known ≡ h.known ++ more

done_job : (h : Head Line) (j : Line) (created : List Line) → slice_get h.known h.done ≡ Some j → Done h (with_done h created) created
done_job h j created is =
    let l : h.done < length h.known = slice_get_within h.known h.done j is in
    let t = turned (record { known = h.known ++ created; later = h.later; done = suc h.done }) (omega (arith, l, length-append h.known created)) in
    record {
      done = t.done;
      within = t.within;
      left = t.left ∙ ap (λ ls. norm ls h.later) (drop-append-le (suc h.done) h.known created (omega (arith, l)));
      more = created ++ t.more;
      grows = t.grows ∙ append_assoc h.known created t.more;
    }

begin_batch : (f : List Line) (bs : List (List Line)) → norm [] (with_batch f bs) ≡ norm f bs
begin_batch [] bs = refl
begin_batch (l ∷ ls) bs = refl

-- what is left without the moves
norm_others : (xs : List Line) (bs : List (List Line)) → norm (filter is_no_move (norm xs bs).0) (without_moves (norm xs bs).1) ≡ norm (filter is_no_move xs) (without_moves bs)
norm_others (l ∷ ls) bs = refl
norm_others [] [] = refl
norm_others [] (b ∷ bs) = sym (begin_batch (filter is_no_move b) (without_moves bs))

abbrev Full : List (List Line) → Type 0
Full bs = All (λ (b : List Line). 0 < length b) bs

norm_full : (xs : List Line) (bs : List (List Line)) → Full bs → Full (norm xs bs).1
norm_full (l ∷ ls) bs h = h
norm_full [] [] h = h
norm_full [] (b ∷ bs) h = All-tail (λ (b : List Line). 0 < length b) b bs h

norm_settled : (xs : List Line) (bs : List (List Line)) → Full bs → (norm xs bs).0 ≡ [] → (norm xs bs).1 ≡ []
norm_settled (l ∷ ls) bs h e = cc
norm_settled [] [] h e = refl
norm_settled [] (b ∷ bs) h e =
    let some : 0 < length b = All-head (λ (b : List Line). 0 < length b) b bs h in
    let none : length b ≡ 0 = ap length e in absurd (omega (arith, some, none))

requests_kept : (cs : List Call) → filter is_no_move (map (λ c. Request c) cs) ≡ map (λ c. Request c) cs
requests_kept [] = refl
requests_kept (c ∷ cs) = ap (λ ls. Request c ∷ ls) (requests_kept cs)

next_from : (xs : List Line) (i : ℕ) (j : Line) (ys : List Line) → drop i xs ≡ j ∷ ys → slice_get xs i ≡ Some j
next_from [] zero j ys e = cc
next_from [] (suc i) j ys e = cc
next_from (x ∷ xs) zero j ys e = let same : x ≡ j = cc in ap (λ x. Some x) same
next_from (x ∷ xs) (suc i) j ys e = next_from xs i j ys e

rest_from : (xs : List Line) (i : ℕ) (j : Line) (ys : List Line) → drop i xs ≡ j ∷ ys → drop (suc i) xs ≡ ys
rest_from [] zero j ys e = cc
rest_from [] (suc i) j ys e = cc
rest_from (x ∷ xs) zero j ys e = let same : xs ≡ ys = cc in same
rest_from (x ∷ xs) (suc i) j ys e = rest_from xs i j ys e

none_from : (xs : List Line) (i : ℕ) → drop i xs ≡ [] → slice_get xs i ≡ None
none_from [] i e = refl
none_from (x ∷ xs) zero e = cc
none_from (x ∷ xs) (suc i) e = none_from xs i e

none_left : (xs : List Line) (i : ℕ) → slice_get xs i ≡ None → drop i xs ≡ []
none_left [] zero e = refl
none_left [] (suc i) e = refl
none_left (x ∷ xs) zero e = cc
none_left (x ∷ xs) (suc i) e = none_left xs i e

-- ---- the results of the others

abbrev one_other : Line → EventResult → List EventResult
one_other j r = if is_no_move j then r ∷ [] else []

nothing : (js : List Line) → other_results js [] ≡ []
nothing [] = refl
nothing (j ∷ js) = refl

others_push : (js : List Line) (rs : List EventResult) (j : Line) (r : EventResult) (more : List Line) → slice_get js (length rs) ≡ Some j → other_results (js ++ more) (rs ++ r ∷ []) ≡ other_results js rs ++ one_other j r
others_push [] rs j r more e = cc
others_push (x ∷ js) [] j r more e = let same : x ≡ j = cc in ap (λ x. if is_no_move x then r ∷ other_results (js ++ more) [] else other_results (js ++ more) []) same ∙ by_test (is_no_move j)
  where
    by_test : (b : Bool) → (if b then r ∷ other_results (js ++ more) [] else other_results (js ++ more) []) ≡ (if b then r ∷ [] else [])
    by_test true = ap (λ rs. r ∷ rs) (nothing (js ++ more))
    by_test false = nothing (js ++ more)
others_push (x ∷ js) (s ∷ rs) j r more e = by_test (is_no_move x) (others_push js rs j r more e)
  where
    by_test : (b : Bool) → other_results (js ++ more) (rs ++ r ∷ []) ≡ other_results js rs ++ one_other j r → (if b then s ∷ other_results (js ++ more) (rs ++ r ∷ []) else other_results (js ++ more) (rs ++ r ∷ [])) ≡ (if b then s ∷ other_results js rs else other_results js rs) ++ one_other j r
    by_test true later = ap (λ rs. s ∷ rs) later
    by_test false later = later

-- ---- both folds

record Beside (w v : Progress (List Value) EventResult Line) : Type 0 where
  tree : v.tree ≡ w.tree
  results : v.results ≡ other_results w.head.known w.results
  count : length w.results ≡ w.head.done
  within : w.head.done ≤ length w.head.known
  left : (wait v.head, v.head.later) ≡ norm (filter is_no_move (wait w.head)) (without_moves w.head.later)
  full : Full w.head.later
  settled : wait w.head ≡ [] → w.head.later ≡ []

abbrev Two : Type 0
Two = List Line × List (List Line)

no_job : (o : Option Line) → is_none o ≡ true → o ≡ None
no_job None e = refl
no_job (Some j) e = cc

module _ (meaning : Meaning) (first : ℕ) where
  abbrev P : Type 0
  P = Progress (List Value) EventResult Line

  abbrev ran : P → Line → Ran (List Value) EventResult
  ran w j = line_by meaning (first + w.head.done) w.tree j

  abbrev after_ran : P → Line → P
  after_ran w j = with_result first (line_by meaning) created_lines w (ran w j)

  abbrev rest_of : P → List Line
  rest_of w = drop (suc w.head.done) w.head.known

  next_beside : (w v u : P) (j : Line) → Beside w v → next_job w.head ≡ Some j → u.tree ≡ (ran w j).tree → u.results ≡ v.results ++ one_other j (ran w j).result
      → (wait u.head, u.head.later) ≡ norm (filter is_no_move (rest_of w ++ created_lines (ran w j).result)) (without_moves w.head.later) → Beside (after_ran w j) u
  next_beside w v u j b is tree results left =
      let created : List Line = created_lines (ran w j).result in
      let d : Done w.head (with_done w.head created) created = done_job w.head j created is in
      let here : slice_get w.head.known (length w.results) ≡ Some j = subst (λ n. slice_get w.head.known n ≡ Some j) (sym b.count) is in
      let later_is : (with_done w.head created).later ≡ (norm (rest_of w ++ created) w.head.later).1 = ap (λ (x : Two). x.1) d.left in
      let wait_is : wait (with_done w.head created) ≡ (norm (rest_of w ++ created) w.head.later).0 = ap (λ (x : Two). x.0) d.left in
      record {
        tree = tree;
        results = results ∙ ap (λ rs. rs ++ one_other j (ran w j).result) b.results ∙ sym (others_push w.head.known w.results j (ran w j).result d.more here) ∙ ap (λ ks. other_results ks (w.results ++ (ran w j).result ∷ [])) (sym d.grows);
        count = omega (arith, d.done, b.count, length-append w.results ((ran w j).result ∷ []));
        within = d.within;
        left = left ∙ sym (norm_others (rest_of w ++ created) w.head.later) ∙ (λ i. norm (filter is_no_move (sym wait_is i)) (without_moves (sym later_is i)));
        full = subst Full (sym later_is) (norm_full (rest_of w ++ created) w.head.later b.full);
        settled = λ e. later_is ∙ norm_settled (rest_of w ++ created) w.head.later b.full (sym wait_is ∙ e);
      }

  -- a move leaves the other run where it is
  moved : (w v : P) (p : Path) (h : Host) → Beside w v → next_job w.head ≡ Some (Move p h) → Beside (after_ran w (Move p h)) v
  moved w v p h b is =
      next_beside w v v (Move p h) b is b.tree (sym (append-nil v.results))
      (b.left ∙ ap (λ ls. norm (filter is_no_move ls) (without_moves w.head.later)) (next_is w.head.known w.head.done (Move p h) is) ∙ ap (λ ls. norm (filter is_no_move ls) (without_moves w.head.later)) (sym (append-nil (rest_of w))))

  -- any other job is done there too
  module _ (w v : P) (j : Line) (b : Beside w v) (is : next_job w.head ≡ Some j) (other : is_no_move j ≡ true) where
    pair : ◌≡◌ {A = Two} (wait v.head, v.head.later) (j ∷ filter is_no_move (rest_of w), without_moves w.head.later)
    pair =
        b.left ∙ ap (λ ls. norm (filter is_no_move ls) (without_moves w.head.later)) (next_is w.head.known w.head.done j is)
        ∙ ap (λ t. norm (if t then j ∷ filter is_no_move (rest_of w) else filter is_no_move (rest_of w)) (without_moves w.head.later)) other

    waits : wait v.head ≡ j ∷ filter is_no_move (rest_of w)
    waits = ap (λ (x : Two). x.0) pair

    comes_next : next_job v.head ≡ Some j
    comes_next = next_from v.head.known v.head.done j (filter is_no_move (rest_of w)) waits

    same_ran : ran v j ≡ ran w j
    same_ran = any_ticket meaning (first + v.head.done) (first + w.head.done) v.tree j ∙ ap (λ t. line_by meaning (first + w.head.done) t j) b.tree

    both : Beside (after_ran w j) (after_ran v j)
    both =
        let d : Done v.head (with_done v.head (created_lines (ran v j).result)) (created_lines (ran v j).result) = done_job v.head j (created_lines (ran v j).result) comes_next in
        let rest : rest_of v ≡ filter is_no_move (rest_of w) = rest_from v.head.known v.head.done j (filter is_no_move (rest_of w)) waits in
        let later : v.head.later ≡ without_moves w.head.later = ap (λ (x : Two). x.1) pair in
        let created : created_lines (ran v j).result ≡ created_lines (ran w j).result = ap (λ (x : Ran (List Value) EventResult). created_lines x.result) same_ran in
        let kept : filter is_no_move (rest_of w) ++ created_lines (ran w j).result ≡ filter is_no_move (rest_of w ++ created_lines (ran w j).result) =
        sym (filter-append is_no_move (rest_of w) (created_lines (ran w j).result) ∙ ap (λ cs. filter is_no_move (rest_of w) ++ cs) (requests_kept (ran w j).result.created)) in
        next_beside w v (after_ran v j) j b is (ap (λ (x : Ran (List Value) EventResult). x.tree) same_ran)
        (ap (λ (x : Ran (List Value) EventResult). v.results ++ x.result ∷ []) same_ran ∙ sym (ap (λ t. v.results ++ (if t then (ran w j).result ∷ [] else [])) other))
        (d.left ∙ (λ i. norm (rest i ++ created i) (later i)) ∙ ap (λ ls. norm ls (without_moves w.head.later)) kept)

  module _ (tree : Tree (List Value)) (batches : List (List Line)) where
    beside_first : Full batches → Beside (first_progress tree batches) (first_progress tree (without_moves batches))
    beside_first full =
        let t : Turned (record { known = []; later = batches; done = 0 }) (first_head batches) = turned (record { known = []; later = batches; done = 0 }) (omega arith) in
        let u : Turned (record { known = []; later = without_moves batches; done = 0 }) (first_head (without_moves batches)) = turned (record { known = []; later = without_moves batches; done = 0 }) (omega arith) in
        let later_is : (first_head batches).later ≡ (norm [] batches).1 = ap (λ (x : Two). x.1) t.left in
        let wait_is : wait (first_head batches) ≡ (norm [] batches).0 = ap (λ (x : Two). x.0) t.left in
        record {
          tree = refl;
          results = sym (nothing (first_head batches).known);
          count = sym t.done;
          within = t.within;
          left = u.left ∙ sym (norm_others [] batches) ∙ (λ i. norm (filter is_no_move (sym wait_is i)) (without_moves (sym later_is i)));
          full = subst Full (sym later_is) (norm_full [] batches full);
          settled = λ e. later_is ∙ norm_settled [] batches full (sym wait_is ∙ e);
        }

    abbrev others : ℕ → P
    others m = jobs_run meaning first tree (without_moves batches) m

    beside_more : (w : P) (m : ℕ) → Beside w (others m) → (k : ℕ) × Beside (one_more first (line_by meaning) created_lines w) (others k)
    beside_more w m b = by_job (next_job w.head) refl
      where
        done_too : (j : Line) (is : next_job w.head ≡ Some j) (other : is_no_move j ≡ true) → (k : ℕ) × Beside (after_ran w j) (others k)
        done_too j is other = (suc m, subst (Beside (after_ran w j)) (sym (ap (with_job first (line_by meaning) created_lines (others m)) (comes_next w (others m) j b is other))) (both w (others m) j b is other))

        by_job : (o : Option Line) → next_job w.head ≡ o → (k : ℕ) × Beside (with_job first (line_by meaning) created_lines w o) (others k)
        by_job None e = (m, b)
        by_job (Some (Request call)) e = done_too (Request call) e refl
        by_job (Some (Move p h)) e = (m, moved w (others m) p h b e)
        by_job (Some Snapshot) e = done_too Snapshot e refl

    beside_after : Full batches → (n : ℕ) → (m : ℕ) × Beside (jobs_run meaning first tree batches n) (others m)
    beside_after full zero = (0, beside_first full)
    beside_after full (suc n) =
        let so_far = beside_after full n in
        beside_more (jobs_run meaning first tree batches n) so_far.0 so_far.1

    pub moves_aside : (n : ℕ) → Full batches → is_over (jobs_run meaning first tree batches n) ≡ true → MovesAside meaning first tree batches n
    moves_aside n full over =
        let so_far = beside_after full n in
        let w = jobs_run meaning first tree batches n in
        let b = so_far.1 in
        let none : wait w.head ≡ [] = none_left w.head.known w.head.done (no_job (next_job w.head) over) in
        let last : w.head.later ≡ [] = b.settled none in
        let left : ◌≡◌ {A = Two} (wait (others so_far.0).head, (others so_far.0).head.later) ([], []) = b.left ∙ (λ i. norm (filter is_no_move (none i)) (without_moves (last i))) in
        let waits_none : wait (others so_far.0).head ≡ [] = ap (λ (x : Two). x.0) left in
        record {
          count = so_far.0;
          over = ap is_none (none_from (others so_far.0).head.known (others so_far.0).head.done waits_none);
          results = b.results;
          tree_is = b.tree;
        }
