-- What a run leaves, another can begin with.
use Rattle.std.proofs.Common.{◌≡◌, ◌<◌, ◌+◌, ℕ, zero, suc, Bool, true, false, if◌then◌else◌, ◌||◌, List, [], ◌∷◌, map, Option, Some, None, IfSome, All, true≢false, refl, sym, ap, subst, ◌∙◌, arith}
use Rattle.std.proofs.lemmas.List.Elements.{All-nil, All-cons, All-append, All-weaker}
use Rattle.std.specs.List.{list_any}
use Rattle.wave_base.specs.declared.call.Call.{Call}
use Rattle.wave_base.specs.declared.finished.Place.{Place}
use Rattle.wave_base.specs.declared.numbers.Host.{Host}
use Rattle.wave_base.specs.declared.outcome.EventResult.{EventResult}
use Rattle.wave_base.specs.declared.outcome.Outcome.TheVariants as out
use Rattle.wave_base.specs.declared.path.Path.{Path}
use Rattle.wave_base.specs.declared.script.Line.{Line}
use Rattle.wave_base.specs.declared.script.Line.TheVariants.{Request, Move, Snapshot}
use Rattle.wave_base.specs.declared.script.Script.{Script}
use Rattle.wave_base.specs.declared.shape.Shape.{Shape}
use Rattle.wave_base.specs.declared.shot.Shot.{Shot}
use Rattle.wave_base.specs.declared.start.Start.{Start}
use Rattle.wave_base.specs.declared.value.Value.{Value}
use Rattle.wave_base.specs.Fold.{Progress, first_head, first_progress, next_job, with_done, with_result, with_job, one_more, created_lines}
use Rattle.wave_base.specs.Paths.{path_eq, parent_of}
use Rattle.wave_base.specs.PathLaws.{path_eq_decides, path_eq_equiv}
use Rattle.wave_base.specs.Places.{with_context, with_contexts, with_move, move_of}
use Rattle.wave_base.specs.Scripts.{IsScript, FitsLine}
use Rattle.wave_base.specs.Shapes.{initial_fields}
use Rattle.wave_base.specs.Starts.{IsStart, start_tree, shown_fields, shown_host}
use Rattle.wave_base.specs.Tree.{Tree, there, enter, put, shots}
use Rattle.wave_base.specs.Trees.{FitsShape}
use Rattle.resolved_service.specs.Jobs.{only, shot_of}
use Rattle.script_fold.specs.Lines.{Meaning, line_by, most_jobs, FitsJob}
use Rattle.script_fold.specs.Owed.{Owed, KeepsShape}
use Rattle.script_fold.specs.Runs.{after_jobs, whole_run, hosts_after, place_of, finished_by, finished_of, start_after, IsFew}
use Rattle.script_fold.proofs.LeftLemmas.{Next, next_keeps, grown, done_next, All-drop_head}
use Rattle.script_fold.proofs.FoldLemmas.{IsGood, good_after, hosts_push, line_joined, same_paths}

-- ---- hosts below a number

module _ (n : ℕ) where
  abbrev pub Below : Tree ℕ → Type 0
  Below t = (p : Path) → t.fields p < n

  put_below : (t : Tree ℕ) (q : Path) (h : ℕ) → Below t → h < n → Below (put t q h)
  put_below t q h b l p = by_path (path_eq q p)
    where
      by_path : (e : Bool) → (if e then h else t.fields p) < n
      by_path true = l
      by_path false = b p

  context_below : (t : Tree ℕ) (q : Path) → Below t → Below (with_context t q)
  context_below t q b = by_there (there t q)
    where
      by_there : (e : Bool) → Below (if e then t else put (enter t q) q (t.fields (parent_of q)))
      by_there true = b
      by_there false = put_below (enter t q) q (t.fields (parent_of q)) b (b (parent_of q))

  contexts_below : (t : Tree ℕ) (ps : List Path) → Below t → Below (with_contexts t ps)
  contexts_below t [] b = b
  contexts_below t (q ∷ ps) b = contexts_below (with_context t q) ps (context_below t q b)

  abbrev IsMoveBelow : Option (Path × ℕ) → Type 0
  IsMoveBelow m = IfSome m (λ m. m.1 < n)

  move_below : (t : Tree ℕ) (m : Option (Path × ℕ)) → IsMoveBelow m → Below t → Below (with_move t m)
  move_below t None l b = b
  move_below t (Some m) l b = put_below t m.0 m.1 b l

  shown_below : (places : List Place) → 0 < n → All (λ (x : Place). x.host.0 < n) places → (p : Path) → shown_host places p < n
  shown_below [] l h p = l
  shown_below (x ∷ places) l h p = by_path (path_eq x.path p) (shown_below places l (λ k d i. h (suc k) d (omega (arith, i))) p)
    where
      by_path : (e : Bool) → shown_host places p < n → (if e then x.host.0 else shown_host places p) < n
      by_path true r = h 0 x (omega arith)
      by_path false r = r

  -- a move goes to such a host
  abbrev pub GoesBelow : Line → Type 0
  GoesBelow (Request call) = Unit {0}
  GoesBelow (Move p to) = to.0 < n
  GoesBelow Snapshot = Unit {0}

  requests_below : (cs : List Call) → All GoesBelow (map (λ c. Request c) cs)
  requests_below [] = All-nil GoesBelow
  requests_below (c ∷ cs) = All-cons GoesBelow (Request c) (map (λ c. Request c) cs) tt (requests_below cs)

  moved_below : (b : Bool) (p : Path) (to : Host) → to.0 < n → IsMoveBelow (move_of (only (if b then out.Moved p to else out.Absent p)))
  moved_below true p to l = l
  moved_below false p to l = tt

-- ---- what is shown of a tree

module _ (shape : Shape) (fields : Path → List Value) where
  abbrev shown_of : List Path → List Shot
  shown_of ps = map shot_of (map (λ p. (p, fields p)) ps)

  shown_paths : (ps : List Path) → map (λ s. s.path) (shown_of ps) ≡ ps
  shown_paths [] = refl
  shown_paths (p ∷ ps) = ap (λ qs. p ∷ qs) (shown_paths ps)

  shown_there : (ps : List Path) (p : Path) → list_any (path_eq p) ps ≡ true → shown_fields shape (shown_of ps) p ≡ fields p
  shown_there [] p e = cc
  shown_there (q ∷ ps) p e = by_path (path_eq q p) refl (shown_there ps p)
    where
      by_path : (b : Bool) → path_eq q p ≡ b → (list_any (path_eq p) ps ≡ true → shown_fields shape (shown_of ps) p ≡ fields p) → (if b then fields q else shown_fields shape (shown_of ps) p) ≡ fields p
      by_path true s rest = ap fields ((path_eq_decides q p).0 s)
      by_path false s rest = rest (sym (ap (λ b. b || list_any (path_eq p) ps) (path_eq_equiv.symm p q ∙ s)) ∙ e)

  shown_absent : (ps : List Path) (p : Path) → list_any (path_eq p) ps ≡ false → shown_fields shape (shown_of ps) p ≡ initial_fields shape p
  shown_absent [] p e = refl
  shown_absent (q ∷ ps) p e = by_path (path_eq q p) refl (shown_absent ps p)
    where
      by_path : (b : Bool) → path_eq q p ≡ b → (list_any (path_eq p) ps ≡ false → shown_fields shape (shown_of ps) p ≡ initial_fields shape p) → (if b then fields q else shown_fields shape (shown_of ps) p) ≡ initial_fields shape p
      by_path true s rest = absurd (true≢false (sym (ap (λ b. b || list_any (path_eq p) ps) (path_eq_equiv.symm p q ∙ s)) ∙ e))
      by_path false s rest = rest (sym (ap (λ b. b || list_any (path_eq p) ps) (path_eq_equiv.symm p q ∙ s)) ∙ e)

-- a tree of the shape is read back from what is shown of it
shown_tree : (shape : Shape) (t : Tree (List Value)) (start : Start) → FitsShape shape t → start.shots ≡ map shot_of (shots t) → start_tree shape start ≡ t
shown_tree shape t start fits e =
    ap (λ (xs : List Shot). start_tree shape (record { shots = xs; places = []; next = record { 0 = 0 } })) e ∙ (λ i. record { paths = shown_paths shape t.fields t.paths i; fields = λ p. fields_at p i })
  where
    fields_at : (p : Path) → shown_fields shape (map shot_of (shots t)) p ≡ t.fields p
    fields_at p = by_there (there t p) refl
      where
        by_there : (b : Bool) → there t p ≡ b → shown_fields shape (map shot_of (shots t)) p ≡ t.fields p
        by_there true s = shown_there shape t.fields t.paths p s
        by_there false s = shown_absent shape t.fields t.paths p s ∙ sym (fits.absent p s)

place_paths : (fields : Path → ℕ) (ps : List Path) → map (λ x. x.path) (map place_of (map (λ p. (p, fields p)) ps)) ≡ ps
place_paths fields [] = refl
place_paths fields (p ∷ ps) = ap (λ qs. p ∷ qs) (place_paths fields ps)

places_below : (n : ℕ) (fields : Path → ℕ) (ps : List Path) → ((p : Path) → fields p < n) → All (λ (x : Place). x.host.0 < n) (map place_of (map (λ p. (p, fields p)) ps))
places_below n fields [] h = All-nil (λ (x : Place). x.host.0 < n)
places_below n fields (p ∷ ps) h = All-cons (λ (x : Place). x.host.0 < n) (place_of (p, fields p)) (map place_of (map (λ p. (p, fields p)) ps)) (h p) (places_below n fields ps h)

pub listed_paths : (start : Start) (script : Script) (w : Progress (List Value) EventResult Line) (shape : Shape) → (hosts_after start w).paths ≡ w.tree.paths
    → map (λ x. x.path) (finished_by start script w).places ≡ map (λ s. s.path) (finished_by start script w).shots
listed_paths start script w shape e = place_paths (hosts_after start w).fields (hosts_after start w).paths ∙ e ∙ sym (shown_paths shape w.tree.fields w.tree.paths)

-- ---- the fold keeps a tree of the shape, with its root, and hosts that are there

module _ (shape : Shape) (meaning : Meaning) (FitsTree : Tree (List Value) → Type 0) (FitsCall : Call → Type 0) (owed : Owed shape meaning FitsTree FitsCall) (keeps : KeepsShape shape meaning FitsTree FitsCall)
    (start : Start) (script : Script) (is_script : IsScript shape script) (is_start : IsStart shape script.hosts start) where
  record IsAgain (w : Progress (List Value) EventResult Line) : Type 0 where
    fits : FitsShape shape w.tree
    root : there w.tree [] ≡ true
    known : All (GoesBelow script.hosts) w.head.known
    later : All (All (GoesBelow script.hosts)) w.head.later
    below : Below script.hosts (hosts_after start w)

  abbrev Good : Progress (List Value) EventResult Line → Type 0
  Good = IsGood shape meaning FitsTree FitsCall owed start script

  line_shape : (ticket : ℕ) (t : Tree (List Value)) (l : Line) → FitsTree t → FitsJob FitsCall l → FitsShape shape t → FitsShape shape (line_by meaning ticket t l).tree
  line_shape ticket t (Request call) f h fits = keeps t call f h fits
  line_shape ticket t (Move p to) f h fits = fits
  line_shape ticket t Snapshot f h fits = fits

  line_host : (ticket : ℕ) (t : Tree (List Value)) (l : Line) → FitsTree t → FitsJob FitsCall l → GoesBelow script.hosts l → IsMoveBelow script.hosts (move_of (line_by meaning ticket t l).result)
  line_host ticket t (Request call) f h g = subst (IsMoveBelow script.hosts) (sym (owed.unmoved t call f h)) tt
  line_host ticket t (Move p to) f h g = moved_below script.hosts (there t p) p to g
  line_host ticket t Snapshot f h g = tt

  again_ran : (w : Progress (List Value) EventResult Line) → Good w → IsAgain w → (j : Line) → next_job w.head ≡ Some j → IsAgain (with_result start.next.0 (line_by meaning) created_lines w (line_by meaning (start.next.0 + w.head.done) w.tree j))
  again_ran w good again j is =
      let ticket = start.next.0 + w.head.done in
      let x = line_by meaning ticket w.tree j in
      let fits : FitsJob FitsCall j = All-drop_head (FitsJob FitsCall) w.head.known w.head.done j is good.known in
      let goes : GoesBelow script.hosts j = All-drop_head (GoesBelow script.hosts) w.head.known w.head.done j is again.known in
      let created : List Line = created_lines x.result in
      let next : Next (GoesBelow script.hosts) (grown w.head created) (with_done w.head created) = done_next (GoesBelow script.hosts) w.head j created is in
      record {
        fits = line_shape ticket w.tree j good.tree fits again.fits;
        root = line_joined shape meaning FitsTree FitsCall owed ticket w.tree good.tree j fits [] ∙ ap (λ b. b || list_any (path_eq []) x.entered) again.root;
        known = next.known (All-append (GoesBelow script.hosts) w.head.known created again.known (requests_below script.hosts x.result.created)) again.later;
        later = next.later again.later;
        below = subst (Below script.hosts) (sym (hosts_push shape meaning FitsTree FitsCall owed start script w x (good.entered ∙ sym good.results)))
            (move_below script.hosts (with_contexts (hosts_after start w) x.entered) (move_of x.result) (line_host ticket w.tree j good.tree fits goes) (contexts_below script.hosts (hosts_after start w) x.entered again.below));
      }

  again_more : (w : Progress (List Value) EventResult Line) → Good w → IsAgain w → IsAgain (one_more start.next.0 (line_by meaning) created_lines w)
  again_more w good again = by_job (next_job w.head) refl
    where
      by_job : (o : Option Line) → next_job w.head ≡ o → IsAgain (with_job start.next.0 (line_by meaning) created_lines w o)
      by_job None e = again
      by_job (Some j) e = again_ran w good again j e

  line_goes : (l : Line) → FitsLine shape script.hosts l → GoesBelow script.hosts l
  line_goes (Request call) h = tt
  line_goes (Move p to) h = h.1
  line_goes Snapshot h = tt

  again_first : IsAgain (first_progress (start_tree shape start) script.batches)
  again_first =
      let goes : All (All (GoesBelow script.hosts)) script.batches = All-weaker (All (FitsLine shape script.hosts)) (All (GoesBelow script.hosts)) (All-weaker (FitsLine shape script.hosts) (GoesBelow script.hosts) line_goes) script.batches is_script.lines in
      let next : Next (GoesBelow script.hosts) (record { known = []; later = script.batches; done = 0 }) (first_head script.batches) = next_keeps (GoesBelow script.hosts) (record { known = []; later = script.batches; done = 0 }) (omega arith) in
      record {
        fits = is_start.tree;
        root = is_start.root;
        known = next.known (All-nil (GoesBelow script.hosts)) goes;
        later = next.later goes;
        below = shown_below script.hosts start.places (omega (arith, is_script.some_host)) is_start.hosts;
      }

  again_after : (n : ℕ) → IsAgain (after_jobs meaning shape start script n)
  again_after zero = again_first
  again_after (suc n) = again_more (after_jobs meaning shape start script n) (good_after shape meaning FitsTree FitsCall owed start script is_script is_start n) (again_after n)

  abbrev Leaves : Progress (List Value) EventResult Line → Start
  Leaves w = start_after start (finished_by start script w)

  goes_on : (w : Progress (List Value) EventResult Line) → IsAgain w → (hosts_after start w).paths ≡ w.tree.paths → IsFew (Leaves w) → IsStart shape script.hosts (Leaves w)
  goes_on w again same few =
      let tree_is : start_tree shape (Leaves w) ≡ w.tree = shown_tree shape w.tree (Leaves w) again.fits refl in
      record {
        tree = subst (FitsShape shape) (sym tree_is) again.fits;
        root = ap (λ (t : Tree (List Value)). there t []) tree_is ∙ again.root;
        places = listed_paths start script w shape same;
        hosts = places_below script.hosts (hosts_after start w).fields (hosts_after start w).paths again.below;
        few = few.0;
        first_next = omega (arith, is_start.first_next);
        last_next = few.1;
      }

  pub run_goes_on : IsFew (start_after start (finished_of meaning shape start script)) → IsStart shape script.hosts (start_after start (finished_of meaning shape start script))
  unfolding whole_run
  run_goes_on few =
      goes_on (after_jobs meaning shape start script (most_jobs script.batches)) (again_after (most_jobs script.batches))
      (same_paths shape meaning FitsTree FitsCall owed start script is_script is_start (most_jobs script.batches)) few

-- the places of a whole run are those of its contexts
pub run_places : (shape : Shape) (meaning : Meaning) (FitsTree : Tree (List Value) → Type 0) (FitsCall : Call → Type 0) → Owed shape meaning FitsTree FitsCall → (start : Start) (script : Script) → IsScript shape script → IsStart shape script.hosts start
    → map (λ x. x.path) (finished_of meaning shape start script).places ≡ map (λ s. s.path) (finished_of meaning shape start script).shots
unfolding whole_run
run_places shape meaning FitsTree FitsCall owed start script s b =
    listed_paths start script (after_jobs meaning shape start script (most_jobs script.batches)) shape (same_paths shape meaning FitsTree FitsCall owed start script s b (most_jobs script.batches))
