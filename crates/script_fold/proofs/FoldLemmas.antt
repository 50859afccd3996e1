-- What holds of the fold, however far it has come.
use Rattle.std.proofs.Common.{◌≡◌, ◌≤◌, ◌+◌, ◌-◌, ◌*◌, ℕ, zero, suc, Bool, true, false, cond, filter, if◌then◌else◌, ◌||◌, List, [], ◌∷◌, ◌++◌, length, map, drop, sum_by, Option, Some, None, is_none, All, zip, refl, sym, ap, subst, ◌∙◌, arith, length-append, length-drop, ◌^◌, mul-le-mul_right}
use Rattle.std.proofs.lemmas.List.{map-append}
use Rattle.std.proofs.lemmas.List.Elements.{All-nil, All-head, All-append, All-map, All-weaker}
use Rattle.std.proofs.lemmas.List.Sums.{sum_by-le}
use Rattle.std.specs.List.{list_any}
use Rattle.std.specs.List.Sorted.{IsStrictlySortedBy}
use Rattle.wave_base.proofs.Trees.{there-enter, enter_sorted}
use Rattle.wave_base.specs.declared.limits.TheConstants.{GENERATION, SPAWNS}
use Rattle.wave_base.specs.declared.call.Call.{Call}
use Rattle.wave_base.specs.declared.numbers.Host.{Host}
use Rattle.wave_base.specs.declared.outcome.EventResult.{EventResult}
use Rattle.wave_base.specs.declared.outcome.Outcome.TheVariants as out
use Rattle.wave_base.specs.declared.path.Path.{Path}
use Rattle.wave_base.specs.declared.script.Line.{Line}
use Rattle.wave_base.specs.declared.script.Line.TheVariants.{Request, Move, Snapshot}
use Rattle.wave_base.specs.declared.script.Script.{Script}
use Rattle.wave_base.specs.declared.shape.Shape.{Shape}
use Rattle.wave_base.specs.declared.start.Start.{Start}
use Rattle.wave_base.specs.declared.value.Value.{Value}
use Rattle.wave_base.specs.Fold.{Ran, Progress, next_job, first_head, with_done, head_after, first_progress, with_result, with_job, one_more, is_over, created_lines}
use Rattle.wave_base.specs.Paths.{path_eq, path_cmp, parent_of}
use Rattle.wave_base.specs.PathLaws.{path_eq_decides}
use Rattle.wave_base.specs.Places.{with_context, with_contexts, with_move, after_job, places_after, move_of}
use Rattle.wave_base.specs.Scripts.{IsScript, FitsLine}
use Rattle.wave_base.specs.Starts.{IsStart, start_tree, start_places}
use Rattle.wave_base.specs.Tree.{Tree, there, enter, put}
use Rattle.resolved_service.specs.Jobs.{only, fronts}
use Rattle.script_fold.specs.Lines.{Meaning, line_by, most_events, most_of, most_jobs, FitsJob}
use Rattle.script_fold.specs.Owed.{Owed}
use Rattle.script_fold.specs.Runs.{after_jobs, whole_run, hosts_after}
use Rattle.script_fold.proofs.OrderLemmas.{same_sorted}
use Rattle.script_fold.proofs.LeftLemmas.{All-drop_head, Next, batches_most, grown, head_push, left_in, lines_most, most_lines, most_some, next_keeps}
use Rattle.script_fold.proofs.LeftLemmas

-- ---- hosts

or_true : (a : Bool) → (a || true) ≡ true
or_true true = refl
or_true false = refl

or_false : (a : Bool) → a ≡ (a || false)
or_false true = refl
or_false false = refl

or_swap : (a b : Bool) → (a || b) ≡ (b || a)
or_swap true b = sym (or_true b)
or_swap false b = or_false b

or_more : (a b c : Bool) → ((a || b) || c) ≡ (a || (b || c))
or_more true b c = refl
or_more false b c = refl

-- what is implied adds nothing
or_same : (a b : Bool) → (b ≡ true → a ≡ true) → a ≡ (a || b)
or_same true b h = refl
or_same false true h = h refl
or_same false false h = refl

there_context : (t : Tree ℕ) (q p : Path) → there (with_context t q) p ≡ (there t p || path_eq p q)
there_context t q p = by_there (there t q) refl
  where
    by_there : (b : Bool) → there t q ≡ b → there (if b then t else put (enter t q) q (t.fields (parent_of q))) p ≡ (there t p || path_eq p q)
    by_there true s = or_same (there t p) (path_eq p q) (λ e. ap (there t) ((path_eq_decides p q).0 e) ∙ s)
    by_there false s = there-enter t q p ∙ or_swap (path_eq p q) (there t p)

there_contexts : (t : Tree ℕ) (ps : List Path) (p : Path) → there (with_contexts t ps) p ≡ (there t p || list_any (path_eq p) ps)
there_contexts t [] p = or_false (there t p)
there_contexts t (q ∷ ps) p = there_contexts (with_context t q) ps p ∙ ap (λ b. b || list_any (path_eq p) ps) (there_context t q p) ∙ or_more (there t p) (path_eq p q) (list_any (path_eq p) ps)

abbrev pub IsOrdered : {F : Type 0} → Tree F → Type 0
IsOrdered t = IsStrictlySortedBy path_cmp t.paths

context_ordered : (t : Tree ℕ) (q : Path) → IsOrdered t → IsOrdered (with_context t q)
context_ordered t q h = by_there (there t q)
  where
    by_there : (b : Bool) → IsOrdered (if b then t else put (enter t q) q (t.fields (parent_of q)))
    by_there true = h
    by_there false = enter_sorted t q h

contexts_ordered : (t : Tree ℕ) (ps : List Path) → IsOrdered t → IsOrdered (with_contexts t ps)
contexts_ordered t [] h = h
contexts_ordered t (q ∷ ps) h = contexts_ordered (with_context t q) ps (context_ordered t q h)

move_ordered : (t : Tree ℕ) (m : Option (Path × ℕ)) → IsOrdered t → IsOrdered (with_move t m)
move_ordered t None h = h
move_ordered t (Some m) h = h

pub there_move : (t : Tree ℕ) (m : Option (Path × ℕ)) (p : Path) → there (with_move t m) p ≡ there t p
there_move t None p = refl
there_move t (Some m) p = refl

places_push : (t : Tree ℕ) (xs : List (List Path × Option (Path × ℕ))) (x : List Path × Option (Path × ℕ)) → places_after t (xs ++ x ∷ []) ≡ after_job (places_after t xs) x.0 x.1
places_push t [] x = refl
places_push t (y ∷ xs) x = places_push (after_job t y.0 y.1) xs x

zip_push : {A B : Type 0} (xs : List A) (ys : List B) (x : A) (y : B) → length xs ≡ length ys → zip (xs ++ x ∷ []) (ys ++ y ∷ []) ≡ zip xs ys ++ (x, y) ∷ []
zip_push [] [] x y e = refl
zip_push [] (b ∷ ys) x y e = absurd (omega (arith, e))
zip_push (a ∷ xs) [] x y e = absurd (omega (arith, e))
zip_push (a ∷ xs) (b ∷ ys) x y e = ap (λ zs. (a, b) ∷ zs) (zip_push xs ys x y (omega (arith, e)))

length_map : {A B : Type 0} (f : A → B) (xs : List A) → length (map f xs) ≡ length xs
length_map f [] = refl
length_map f (x ∷ xs) = ap suc (length_map f xs)

-- ---- the fold

module _ (shape : Shape) (meaning : Meaning) (FitsTree : Tree (List Value) → Type 0) (FitsCall : Call → Type 0) (owed : Owed shape meaning FitsTree FitsCall) where
  -- a job that fits, on a tree that fits
  module _ (ticket : ℕ) (t : Tree (List Value)) (f : FitsTree t) where
    line_tree : (l : Line) → FitsJob FitsCall l → FitsTree (line_by meaning ticket t l).tree
    line_tree (Request call) h = owed.kept t call f h
    line_tree (Move p k) h = f
    line_tree Snapshot h = f

    line_created : (l : Line) → FitsJob FitsCall l → All (FitsJob FitsCall) (created_lines (line_by meaning ticket t l).result)
    line_created (Request call) h = All-map (FitsJob FitsCall) (λ (c : Call). Request c) (meaning t call).result.created (owed.created t call f h)
    line_created (Move p k) h = All-nil (FitsJob FitsCall)
    line_created Snapshot h = All-nil (FitsJob FitsCall)

    pub line_few : (l : Line) → FitsJob FitsCall l → length (line_by meaning ticket t l).result.created ≤ 4
    line_few (Request call) h = owed.few t call f h
    line_few (Move p k) h = omega arith
    line_few Snapshot h = omega arith

    calls_most : (g : ℕ) (created : List Call) → All FitsCall created → All (λ (d : Call). d.generation ≡ suc g) created → length created ≤ SPAWNS → sum_by most_of (map (λ c. Request c) created) + 1 ≤ most_events (GENERATION - g)
    unfolding most_events
    calls_most g [] fit later few = most_some (GENERATION - g)
    calls_most g (d ∷ ds) fit later few =
        let last : d.generation ≤ GENERATION = owed.last d (All-head FitsCall d ds fit) in
        let first_is : d.generation ≡ suc g = All-head (λ (d : Call). d.generation ≡ suc g) d ds later in
        let step : GENERATION - g ≡ suc (GENERATION - suc g) = omega (arith, last, first_is) in
        let each : All (λ (d : Call). most_of (Request d) ≤ most_events (GENERATION - suc g)) (d ∷ ds) = All-weaker (λ (d : Call). d.generation ≡ suc g) (λ (d : Call). most_of (Request d) ≤ most_events (GENERATION - suc g))
        (λ (c : Call) e. let same : most_events (GENERATION - c.generation) ≡ most_events (GENERATION - suc g) = ap (λ n. most_events (GENERATION - n)) e in omega (arith, same)) (d ∷ ds) later in
        let sum : sum_by most_of (map (λ c. Request c) (d ∷ ds)) ≤ length (map (λ (c : Call). Request c) (d ∷ ds)) * most_events (GENERATION - suc g) =
        sum_by-le most_of (most_events (GENERATION - suc g)) (map (λ (c : Call). Request c) (d ∷ ds)) (All-map (λ l. most_of l ≤ most_events (GENERATION - suc g)) (λ (c : Call). Request c) (d ∷ ds) each) in
        let count : length (map (λ (c : Call). Request c) (d ∷ ds)) ≤ SPAWNS = subst (λ n. n ≤ SPAWNS) (sym (length_map (λ (c : Call). Request c) (d ∷ ds))) few in
        let bound : length (map (λ (c : Call). Request c) (d ∷ ds)) * most_events (GENERATION - suc g) ≤ SPAWNS * most_events (GENERATION - suc g) = mul-le-mul_right (most_events (GENERATION - suc g)) count in
        subst (λ n. sum_by most_of (map (λ c. Request c) (d ∷ ds)) + 1 ≤ most_events n) (sym step) (omega (arith, sum, bound))

    line_most : (l : Line) → FitsJob FitsCall l → sum_by most_of (created_lines (line_by meaning ticket t l).result) + 1 ≤ most_of l
    line_most (Request call) h = calls_most call.generation (meaning t call).result.created (owed.created t call f h) (owed.later t call f h) (owed.few t call f h)
    line_most (Move p k) h = omega arith
    line_most Snapshot h = omega arith

    -- a filtered path is there
    filtered_there : (ps : List Path) (p : Path) → list_any (path_eq p) (filter (there t) ps) ≡ true → there t p ≡ true
    filtered_there [] p e = cc
    filtered_there (q ∷ ps) p e = by_there (there t q) refl (filtered_there ps p) e
      where
        by_first : (b : Bool) → path_eq p q ≡ b → there t q ≡ true → (list_any (path_eq p) (filter (there t) ps) ≡ true → there t p ≡ true) → (b || list_any (path_eq p) (filter (there t) ps)) ≡ true → there t p ≡ true
        by_first true s h rest e = ap (there t) ((path_eq_decides p q).0 s) ∙ h
        by_first false s h rest e = rest e

        by_there : (b : Bool) → there t q ≡ b → (list_any (path_eq p) (filter (there t) ps) ≡ true → there t p ≡ true) → list_any (path_eq p) (cond b (q ∷ filter (there t) ps) (filter (there t) ps)) ≡ true → there t p ≡ true
        by_there true h rest e = by_first (path_eq p q) refl h rest e
        by_there false h rest e = rest e

    pub line_joined : (l : Line) → FitsJob FitsCall l → (p : Path) → there (line_by meaning ticket t l).tree p ≡ (there t p || list_any (path_eq p) (line_by meaning ticket t l).entered)
    line_joined (Request call) h p = owed.joined t call p f h
    line_joined (Move q k) h p = or_same (there t p) (list_any (path_eq p) (filter (there t) (fronts q))) (filtered_there (fronts q) p)
    line_joined Snapshot h p = or_same (there t p) (there t p) (λ e. e)

    line_ordered : (l : Line) → FitsJob FitsCall l → IsOrdered t → IsOrdered (line_by meaning ticket t l).tree
    line_ordered (Request call) h o = owed.ordered t call f h o
    line_ordered (Move q k) h o = o
    line_ordered Snapshot h o = o

    move_there : (b : Bool) (p : Path) (k : Host) (m : Path × ℕ) → there t p ≡ b → move_of (only (if b then out.Moved p k else out.Absent p)) ≡ Some m → there t m.0 ≡ true
    move_there true p k m s e = let same : (p, k.0) ≡ m = cc in ap (there t) (sym (ap (λ (m : Path × ℕ). m.0) same)) ∙ s
    move_there false p k m s e = cc

    pub line_moved : (l : Line) → FitsJob FitsCall l → (m : Path × ℕ) → move_of (line_by meaning ticket t l).result ≡ Some m → there (line_by meaning ticket t l).tree m.0 ≡ true
    line_moved (Request call) h m e = let none : None ≡ Some m = sym (owed.unmoved t call f h) ∙ e in cc
    line_moved (Move p k) h m e = move_there (there t p) p k m refl e
    line_moved Snapshot h m e = cc

  module _ (start : Start) (script : Script) where
    pub record IsGood (w : Progress (List Value) EventResult Line) : Type 0 where
      pub tree : FitsTree w.tree
      pub known : All (FitsJob FitsCall) w.head.known
      pub later : All (All (FitsJob FitsCall)) w.head.later
      pub left : w.head.done + left_in w.head ≤ most_jobs script.batches
      pub within : w.head.done ≤ length w.head.known
      pub results : length w.results ≡ w.head.done
      pub entered : length w.entered ≡ w.head.done
      pub placed : (p : Path) → there (hosts_after start w) p ≡ there w.tree p
      pub ordered : IsOrdered w.tree
      pub hosts_ordered : IsOrdered (hosts_after start w)
      pub heads : head_after (first_head script.batches) (map created_lines w.results) ≡ w.head

    pub hosts_push : (w : Progress (List Value) EventResult Line) (x : Ran (List Value) EventResult) → length w.entered ≡ length w.results → hosts_after start (with_result start.next.0 (line_by meaning) created_lines w x) ≡ after_job (hosts_after start w) x.entered (move_of x.result)
    hosts_push w x e =
        ap (λ ms. places_after (start_places start) (zip (w.entered ++ x.entered ∷ []) ms)) (map-append move_of w.results (x.result ∷ []))
        ∙ ap (places_after (start_places start)) (zip_push w.entered (map move_of w.results) x.entered (move_of x.result) (e ∙ sym (length_map move_of w.results)))
        ∙ places_push (start_places start) (zip w.entered (map move_of w.results)) (x.entered, move_of x.result)

    pub good_ran : (w : Progress (List Value) EventResult Line) → IsGood w → (j : Line) → next_job w.head ≡ Some j → IsGood (with_result start.next.0 (line_by meaning) created_lines w (line_by meaning (start.next.0 + w.head.done) w.tree j))
    unfolding left_in
    good_ran w good j is =
        let ticket = start.next.0 + w.head.done in
        let x = line_by meaning ticket w.tree j in
        let fits : FitsJob FitsCall j = All-drop_head (FitsJob FitsCall) w.head.known w.head.done j is good.known in
        let created : List Line = created_lines x.result in
        let next : Next (FitsJob FitsCall) (grown w.head created) (with_done w.head created) = LeftLemmas.done_next (FitsJob FitsCall) w.head j created is in
        let left : left_in (grown w.head created) + most_of j ≡ left_in w.head + sum_by most_of created = LeftLemmas.grown_left (FitsJob FitsCall) w.head j created is in
        let most : sum_by most_of created + 1 ≤ most_of j = line_most ticket w.tree good.tree j fits in
        record {
          tree = line_tree ticket w.tree good.tree j fits;
          known = next.known (All-append (FitsJob FitsCall) w.head.known created good.known (line_created ticket w.tree good.tree j fits)) good.later;
          later = next.later good.later;
          left = omega (arith, next.done, next.left, left, most, good.left);
          within = next.within;
          results = omega (arith, next.done, good.results, length-append w.results (x.result ∷ []));
          entered = omega (arith, next.done, good.entered, length-append w.entered (x.entered ∷ []));
          placed = λ p.
              ap (λ (t : Tree ℕ). there t p) (hosts_push w x (good.entered ∙ sym good.results)) ∙ there_move (with_contexts (hosts_after start w) x.entered) (move_of x.result) p ∙ there_contexts (hosts_after start w) x.entered p
              ∙ ap (λ b. b || list_any (path_eq p) x.entered) (good.placed p) ∙ sym (line_joined ticket w.tree good.tree j fits p);
          ordered = line_ordered ticket w.tree good.tree j fits good.ordered;
          hosts_ordered = subst IsOrdered (sym (hosts_push w x (good.entered ∙ sym good.results)))
              (move_ordered (with_contexts (hosts_after start w) x.entered) (move_of x.result) (contexts_ordered (hosts_after start w) x.entered good.hosts_ordered));
          heads = ap (head_after (first_head script.batches)) (map-append created_lines w.results (x.result ∷ [])) ∙ head_push (first_head script.batches) (map created_lines w.results) created ∙ ap (λ h. with_done h created) good.heads;
        }

    good_more : (w : Progress (List Value) EventResult Line) → IsGood w → IsGood (one_more start.next.0 (line_by meaning) created_lines w)
    good_more w good = by_job (next_job w.head) refl
      where
        by_job : (o : Option Line) → next_job w.head ≡ o → IsGood (with_job start.next.0 (line_by meaning) created_lines w o)
        by_job None e = good
        by_job (Some j) e = good_ran w good j e

    line_fits : (l : Line) → FitsLine shape script.hosts l → FitsJob FitsCall l
    line_fits (Request call) h = owed.asked call h.0 h.1
    line_fits (Move p k) h = tt
    line_fits Snapshot h = tt

    good_first : IsScript shape script → IsStart shape script.hosts start → IsGood (first_progress (start_tree shape start) script.batches)
    unfolding left_in
    good_first s b =
        let fit : All (All (FitsJob FitsCall)) script.batches = All-weaker (All (FitsLine shape script.hosts)) (All (FitsJob FitsCall)) (All-weaker (FitsLine shape script.hosts) (FitsJob FitsCall) line_fits) script.batches s.lines in
        let next : Next (FitsJob FitsCall) (record { known = []; later = script.batches; done = 0 }) (first_head script.batches) = next_keeps (FitsJob FitsCall) (record { known = []; later = script.batches; done = 0 }) (omega arith) in
        record {
          tree = owed.begins (start_tree shape start) b.tree b.root;
          known = next.known (All-nil (FitsJob FitsCall)) fit;
          later = next.later fit;
          left = omega (arith, next.done, next.left);
          within = next.within;
          results = sym next.done;
          entered = sym next.done;
          placed = λ p. ap (list_any (path_eq p)) b.places;
          ordered = b.tree.ordered;
          hosts_ordered = subst (IsStrictlySortedBy path_cmp) (sym b.places) b.tree.ordered;
          heads = refl;
        }

    pub good_after : IsScript shape script → IsStart shape script.hosts start → (n : ℕ) → IsGood (after_jobs meaning shape start script n)
    good_after s b zero = good_first s b
    good_after s b (suc n) = good_more (after_jobs meaning shape start script n) (good_after s b n)

    -- the places are those of the contexts
    pub same_paths : IsScript shape script → IsStart shape script.hosts start → (n : ℕ) → (hosts_after start (after_jobs meaning shape start script n)).paths ≡ (after_jobs meaning shape start script n).tree.paths
    same_paths s b n =
        let good = good_after s b n in
        same_sorted (hosts_after start (after_jobs meaning shape start script n)).paths (after_jobs meaning shape start script n).tree.paths good.hosts_ordered good.ordered good.placed

    -- there is a ticket for each job
    pub room_after : IsScript shape script → IsStart shape script.hosts start → (w : Progress (List Value) EventResult Line) → IsGood w → (created : List Call) → length created ≤ 4
        → start.next.0 + length w.head.known + length created + sum_by length w.head.later ≤ 2 ^ 32
    unfolding left_in
    room_after s b w good created few =
        let lines : sum_by length script.batches ≤ 4000 = s.few_lines in
        let next : start.next.0 ≤ 2000000000 = b.last_next in
        let rest : length (drop w.head.done w.head.known) ≡ length w.head.known - w.head.done = length-drop w.head.done w.head.known in
        let waiting : length (drop w.head.done w.head.known) ≤ sum_by most_of (drop w.head.done w.head.known) = lines_most (drop w.head.done w.head.known) in
        let later : sum_by length w.head.later ≤ most_jobs w.head.later = batches_most w.head.later in
        let all : most_jobs script.batches ≤ sum_by length script.batches * 341 = most_lines script.batches in
        omega (arith, good.left, good.within)

-- ---- the end

module _ (meaning : Meaning) (shape : Shape) (start : Start) (script : Script) where
  stays : (w : Progress (List Value) EventResult Line) → is_over w ≡ true → one_more start.next.0 (line_by meaning) created_lines w ≡ w
  stays w e = by_job (next_job w.head) e
    where
      by_job : (o : Option Line) → is_none o ≡ true → with_job start.next.0 (line_by meaning) created_lines w o ≡ w
      by_job None e = refl
      by_job (Some j) e = cc

  stays_long : (n m : ℕ) → is_over (after_jobs meaning shape start script n) ≡ true → after_jobs meaning shape start script (m + n) ≡ after_jobs meaning shape start script n
  stays_long n zero e = let none : zero + n ≡ n = omega arith in ap (after_jobs meaning shape start script) none
  stays_long n (suc m) e =
      let more : suc m + n ≡ suc (m + n) = omega arith in
      let before = stays_long n m e in
      ap (after_jobs meaning shape start script) more ∙ ap (one_more start.next.0 (line_by meaning) created_lines) before ∙ stays (after_jobs meaning shape start script n) e

  pub whole_is : (n : ℕ) → n ≤ most_jobs script.batches → is_over (after_jobs meaning shape start script n) ≡ true → whole_run meaning shape start script ≡ after_jobs meaning shape start script n
  unfolding whole_run
  whole_is n l e =
      let all : most_jobs script.batches ≡ (most_jobs script.batches - n) + n = omega (arith, l) in
      ap (after_jobs meaning shape start script) all ∙ stays_long n (most_jobs script.batches - n) e

  -- no more results than jobs
  few_after : (n : ℕ) → length (after_jobs meaning shape start script n).results ≤ n
  few_after zero = omega arith
  few_after (suc n) = by_job (after_jobs meaning shape start script n) n (few_after n) (next_job (after_jobs meaning shape start script n).head)
    where
      by_job : (w : Progress (List Value) EventResult Line) (n : ℕ) → length w.results ≤ n → (o : Option Line) → length (with_job start.next.0 (line_by meaning) created_lines w o).results ≤ suc n
      by_job w n e None = omega (arith, e)
      by_job w n e (Some j) = omega (arith, e, length-append w.results ((line_by meaning (start.next.0 + w.head.done) w.tree j).result ∷ []))

  pub few_jobs : IsScript shape script → length (whole_run meaning shape start script).results ≤ 16000000
  unfolding whole_run
  few_jobs s =
      let lines : sum_by length script.batches ≤ 4000 = s.few_lines in
      omega (arith, lines, most_lines script.batches, few_after (most_jobs script.batches))

  pub few_results : IsScript shape script → length (whole_run meaning shape start script).results ≤ 2 ^ 32 - 1
  few_results s = let few = few_jobs s in omega (arith, few)
