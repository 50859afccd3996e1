-- A run is cut where a script ends.
use Rattle.std.proofs.Common.{◌≡◌, ◌<◌, cond, ◌+◌, ℕ, true, List, [], ◌∷◌, ◌++◌, length, map, sum_by, Option, Some, None, is_none, zip, refl, sym, ap, subst, ◌∙◌, arith, length-append}
use Rattle.std.proofs.lemmas.List.{map-append, length-map}
use Rattle.std.proofs.lemmas.List.Elements.{All-append}
use Rattle.std.proofs.lemmas.List.Sums.{sum_by-append}
use Rattle.std.specs.List.{list_any}
use Rattle.wave_base.specs.declared.call.Call.{Call}
use Rattle.wave_base.specs.declared.finished.Finished.{Finished}
use Rattle.wave_base.specs.declared.path.Path.{Path}
use Rattle.wave_base.specs.declared.script.Script.{Script}
use Rattle.wave_base.specs.declared.shape.Shape.{Shape}
use Rattle.wave_base.specs.declared.start.Start.{Start}
use Rattle.wave_base.specs.declared.value.Value.{Value}
use Rattle.wave_base.specs.Fold.{first_head, created_tickets, next_job, is_over, created_lines}
use Rattle.wave_base.specs.Paths.{path_eq}
use Rattle.wave_base.specs.Places.{after_job, places_after, move_of, load_of}
use Rattle.wave_base.specs.Scripts.{IsScript}
use Rattle.wave_base.specs.Starts.{IsStart, start_tree, start_places}
use Rattle.wave_base.specs.Tree.{Tree, shots}
use Rattle.resolved_service.specs.Jobs.{shot_of}
use Rattle.script_fold.specs.Lines.{Meaning, name_of, most_jobs}
use Rattle.script_fold.specs.Owed.{Owed, KeepsShape}
use Rattle.script_fold.specs.Runs.{after_jobs, whole_run, hosts_after, ticket_of, place_of, finished_of, start_after, IsFew}
use Rattle.script_fold.proofs.AgainLemmas.{run_goes_on}
use Rattle.plan_actors.proofs.Folding.{most_over}
use Rattle.fold_laws.specs.Cuts.{both, joint_progress, AreJoined, start_behind, IsCut, Comes}
use Rattle.fold_laws.specs.Growth.{most_added, GrowsBy, StaysFew}
use Rattle.fold_laws.proofs.Growing.{stays_few}
use Rattle.fold_laws.proofs.Standing.{Leaves, leaves_after, shown_tree, told_places}
use Rattle.fold_laws.proofs.Heads.{over_of, shifted_job}
use Rattle.fold_laws.proofs.Walk.{Run, at, Sane, sane_after, joins, most_both}

none_is : {A : Type 0} (o : Option A) → is_none o ≡ true → o ≡ None
none_is None e = refl
none_is (Some x) e = cc

-- ---- hosts of two runs

places_append : (t : Tree ℕ) (xs ys : List (List Path × Option (Path × ℕ))) → places_after t (xs ++ ys) ≡ places_after (places_after t xs) ys
places_append t [] ys = refl
places_append t (x ∷ xs) ys = places_append (after_job t x.0 x.1) xs ys

zip_append : {A B : Type 0} (xs : List A) (us : List B) (ys : List A) (vs : List B) → length xs ≡ length us → zip (xs ++ ys) (us ++ vs) ≡ zip xs us ++ zip ys vs
zip_append [] [] ys vs e = refl
zip_append [] (u ∷ us) ys vs e = absurd (omega (arith, e))
zip_append (x ∷ xs) [] ys vs e = absurd (omega (arith, e))
zip_append (x ∷ xs) (u ∷ us) ys vs e = ap (λ zs. (x, u) ∷ zs) (zip_append xs us ys vs (omega (arith, e)))

hosts_followed : (start u : Start) (v w : Run) → length v.entered ≡ length v.results → start_places u ≡ hosts_after start v → hosts_after start (joint_progress v w) ≡ hosts_after u w
hosts_followed start u v w as_many same =
    ap (λ ms. places_after (start_places start) (zip (v.entered ++ w.entered) ms)) (map-append move_of v.results w.results)
    ∙ ap (places_after (start_places start)) (zip_append v.entered (map move_of v.results) w.entered (map move_of w.results) (as_many ∙ sym (length-map v.results move_of)))
    ∙ places_append (start_places start) (zip v.entered (map move_of v.results)) (zip w.entered (map move_of w.results))
    ∙ ap (λ t. places_after t (zip w.entered (map move_of w.results))) (sym same)

module _ (shape : Shape) (meaning : Meaning) (FitsTree : Tree (List Value) → Type 0) (FitsCall : Call → Type 0) (owed : Owed shape meaning FitsTree FitsCall) (keeps : KeepsShape shape meaning FitsTree FitsCall) where
  -- ---- what a script leaves

  module _ (start : Start) (a : Script) (is_script : IsScript shape a) (is_start : IsStart shape a.hosts start) where
    pub whole_over : next_job (whole_run meaning shape start a).head ≡ None
    unfolding whole_run
    whole_over = most_over shape meaning FitsTree FitsCall owed start a is_script is_start

    leaves : Leaves shape meaning FitsTree FitsCall owed keeps start a is_script is_start (whole_run meaning shape start a)
    unfolding whole_run
    leaves = leaves_after shape meaning FitsTree FitsCall owed keeps start a is_script is_start (most_jobs a.batches)

    pub tree_left : start_tree shape (start_behind meaning shape start a) ≡ (whole_run meaning shape start a).tree
    tree_left = shown_tree shape (whole_run meaning shape start a).tree (start_behind meaning shape start a) leaves.fits refl

    pub places_left : start_places (start_behind meaning shape start a) ≡ hosts_after start (whole_run meaning shape start a)
    places_left = told_places (hosts_after start (whole_run meaning shape start a)) (start_behind meaning shape start a) leaves.absent refl

    -- a script that fits, and leaves few
    pub comes : IsFew (start_behind meaning shape start a) → Comes meaning shape start a
    comes few = record {
      full = is_script.full;
      over = ap is_none whole_over;
      begins = run_goes_on shape meaning FitsTree FitsCall owed keeps start a is_script is_start few;
      tree = tree_left;
      places = places_left;
    }

  -- ---- both

  module _ (start : Start) (a b : Script) (c : Comes meaning shape start a) (is_script : IsScript shape b) (hosts : a.hosts ≡ b.hosts) where
    abbrev u : Start
    u = start_behind meaning shape start a

    is_start : IsStart shape b.hosts u
    is_start = subst (λ n. IsStart shape n u) hosts c.begins

    abbrev V : Run
    V = whole_run meaning shape start a

    abbrev W : Run
    W = whole_run meaning shape u b

    sane : Sane meaning start.next.0 a.batches (whole_run meaning shape start a)
    unfolding whole_run
    sane = sane_after meaning start.next.0 a.batches (start_tree shape start) c.full (most_jobs a.batches)

    -- both, job by job
    record Parts : Type 0 where
      fold : whole_run meaning shape start (both a b) ≡ joint_progress V W
      tickets : created_tickets start.next.0 (first_head (a.batches ++ b.batches)) (map created_lines (V.results ++ W.results))
          ≡ created_tickets start.next.0 (first_head a.batches) (map created_lines V.results) ++ created_tickets (start.next.0 + V.head.done) (first_head b.batches) (map created_lines W.results)

    parts : Parts
    unfolding whole_run
    parts =
        let na : ℕ = most_jobs a.batches in
        let nb : ℕ = most_jobs b.batches in
        let left : Run = at meaning start.next.0 a.batches (start_tree shape start) na in
        let after : Tree (List Value) → Run = λ t. at meaning u.next.0 b.batches t nb in
        let ends : next_job left.head ≡ None = none_is (next_job left.head) c.over in
        let other_ends : next_job (after left.tree).head ≡ None = subst (λ t. next_job (after t).head ≡ None) c.tree (most_over shape meaning FitsTree FitsCall owed u b is_script is_start) in
        let j = joins meaning start.next.0 u.next.0 (start_tree shape start) a.batches b.batches c.full na nb ends other_ends in
        record {
          fold = ap (after_jobs meaning shape start (both a b)) (most_both meaning start.next.0 u.next.0 (start_tree shape start) a.batches b.batches c.full) ∙ j.fold ∙ ap (λ t. joint_progress left (after t)) (sym c.tree);
          tickets = subst (λ t. created_tickets start.next.0 (first_head (a.batches ++ b.batches)) (map created_lines (left.results ++ (after t).results)) ≡ created_tickets start.next.0 (first_head a.batches) (map created_lines left.results) ++ created_tickets (start.next.0 + left.head.done) (first_head b.batches) (map created_lines (after t).results)) (sym c.tree) j.tickets;
        }

    abbrev first_told : Finished
    first_told = finished_of meaning shape start a

    abbrev other_told : Finished
    other_told = finished_of meaning shape u b

    results_same : (whole_run meaning shape start (both a b)).results ≡ V.results ++ W.results
    results_same = ap (λ (w : Run). w.results) parts.fold

    hosts_same : hosts_after start (whole_run meaning shape start (both a b)) ≡ hosts_after u W
    hosts_same = ap (hosts_after start) parts.fold ∙ hosts_followed start u V W (sane.entered ∙ sym sane.results) c.places

    made_same : (finished_of meaning shape start (both a b)).made ≡ first_told.made ++ other_told.made
    made_same =
        ap (λ rs. map (map ticket_of) (created_tickets start.next.0 (first_head (a.batches ++ b.batches)) (map created_lines rs))) results_same
        ∙ ap (map (map ticket_of)) parts.tickets
        ∙ map-append (map ticket_of) (created_tickets start.next.0 (first_head a.batches) (map created_lines V.results)) (created_tickets (start.next.0 + V.head.done) (first_head b.batches) (map created_lines W.results))
        ∙ ap (λ n. first_told.made ++ map (map ticket_of) (created_tickets (start.next.0 + n) (first_head b.batches) (map created_lines W.results))) (sym sane.results)

    pub is_joined : AreJoined first_told other_told (finished_of meaning shape start (both a b))
    is_joined = record {
      results = results_same;
      made = made_same;
      names = ap (λ (w : Run). map name_of w.head.known) parts.fold ∙ map-append name_of V.head.known W.head.known;
      places = ap (λ (t : Tree ℕ). map place_of (shots t)) hosts_same;
      shots = ap (λ (w : Run). map shot_of (shots w.tree)) parts.fold;
    }

    next_same : start_behind meaning shape start (both a b) ≡ start_after u other_told
    next_same = λ i. record { shots = is_joined.shots i; places = is_joined.places i; next = record { 0 = counts i } }
      where
        counts : start.next.0 + length (finished_of meaning shape start (both a b)).results ≡ start.next.0 + length first_told.results + length other_told.results
        counts = let n = ap length is_joined.results in omega (arith, n, length-append first_told.results other_told.results)

    pub cut : IsCut meaning shape start a b
    cut = record {
      fold = parts.fold;
      over = ap (λ (w : Run). is_over w) parts.fold ∙ ap is_none (shifted_job V.head (over_of V.head sane.sound (none_is (next_job V.head) c.over)) W.head ∙ whole_over u b is_script is_start);
      joined = is_joined;
      next = next_same;
      loads = λ p. ap (λ (w : Run). load_of w.entered p) parts.fold ∙ sum_by-append (λ (ps : List Path). cond (list_any (path_eq p) ps) 1 0) V.entered W.entered;
    }

    -- and so another can go on from both
    pub more_comes : IsFew (start_behind meaning shape start (both a b)) → Comes meaning shape start (both a b)
    more_comes few = record {
      full = All-append (λ ls. 0 < length ls) a.batches b.batches c.full is_script.full;
      over = cut.over;
      begins = subst (IsStart shape a.hosts) (sym next_same) (subst (λ n. IsStart shape n (start_after u other_told)) (sym hosts)
          (run_goes_on shape meaning FitsTree FitsCall owed keeps u b is_script is_start (subst IsFew next_same few)));
      tree = ap (start_tree shape) next_same ∙ tree_left u b is_script is_start ∙ sym (ap (λ (w : Run). w.tree) parts.fold);
      places = ap start_places next_same ∙ places_left u b is_script is_start ∙ sym hosts_same;
    }

    -- with as few contexts and results as the lines of both may add and make
    pub more_few : GrowsBy meaning FitsTree FitsCall → StaysFew start a.batches first_told → StaysFew start (both a b).batches (finished_of meaning shape start (both a b))
    more_few grows few =
        let other : StaysFew u b.batches other_told = stays_few shape meaning FitsTree FitsCall owed grows u b is_script is_start in
        let contexts = sum_by-append (sum_by most_added) a.batches b.batches in
        let jobs = most_both meaning start.next.0 u.next.0 (start_tree shape start) a.batches b.batches c.full in
        let shots = ap length is_joined.shots in
        let results = ap length is_joined.results in
        record {
          contexts = omega (arith, other.contexts, few.contexts, contexts, shots);
          results = omega (arith, other.results, few.results, jobs, results, length-append first_told.results other_told.results);
        }
