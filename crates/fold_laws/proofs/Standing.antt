-- What a run leaves is what it came to: its tree is read back from its shots, and its hosts from its places.
use Rattle.std.proofs.Common.{◌≡◌, ◌+◌, ℕ, zero, suc, Bool, true, false, if◌then◌else◌, ◌||◌, List, [], ◌∷◌, map, Option, Some, None, true≢false, refl, sym, ap, subst, ◌∙◌}
use Rattle.std.specs.List.{list_any}
use Rattle.wave_base.specs.declared.call.Call.{Call}
use Rattle.wave_base.specs.declared.finished.Place.{Place}
use Rattle.wave_base.specs.declared.outcome.EventResult.{EventResult}
use Rattle.wave_base.specs.declared.path.Path.{Path}
use Rattle.wave_base.specs.declared.script.Line.{Line}
use Rattle.wave_base.specs.declared.script.Line.TheVariants.{Request, Move, Snapshot}
use Rattle.wave_base.specs.declared.script.Script.{Script}
use Rattle.wave_base.specs.declared.shape.Shape.{Shape}
use Rattle.wave_base.specs.declared.shot.Shot.{Shot}
use Rattle.wave_base.specs.declared.start.Start.{Start}
use Rattle.wave_base.specs.declared.value.Value.{Value}
use Rattle.wave_base.proofs.Trees.{there-enter}
use Rattle.wave_base.specs.Fold.{Ran, Progress, next_job, with_result, with_job, one_more, created_lines}
use Rattle.wave_base.specs.Paths.{path_eq, parent_of}
use Rattle.wave_base.specs.PathLaws.{path_eq_decides, path_eq_equiv}
use Rattle.wave_base.specs.Places.{with_context, with_contexts, with_move, move_of}
use Rattle.wave_base.specs.Scripts.{IsScript}
use Rattle.wave_base.specs.Shapes.{initial_fields}
use Rattle.wave_base.specs.Starts.{IsStart, start_tree, start_places, shown_fields, shown_host}
use Rattle.wave_base.specs.Tree.{Tree, there, enter, put, shots}
use Rattle.wave_base.specs.Trees.{FitsShape}
use Rattle.resolved_service.specs.Jobs.{shot_of}
use Rattle.script_fold.specs.Lines.{Meaning, line_by, FitsJob}
use Rattle.script_fold.specs.Owed.{Owed, KeepsShape}
use Rattle.script_fold.specs.Runs.{after_jobs, hosts_after, place_of}
use Rattle.script_fold.proofs.FoldLemmas.{IsGood, good_after, good_ran, hosts_push, line_moved, there_move}
use Rattle.script_fold.proofs.LeftLemmas.{All-drop_head}

-- ---- what is shown of a tree

module _ (shape : Shape) (fields : Path → List Value) where
  abbrev shown_of : List Path → List Shot
  shown_of ps = map shot_of (map (λ p. (p, fields p)) ps)

  shown_paths : (ps : List Path) → map (λ s. s.path) (shown_of ps) ≡ ps
  shown_paths [] = refl
  shown_paths (p ∷ ps) = ap (λ qs. p ∷ qs) (shown_paths ps)

  shown_there : (ps : List Path) (p : Path) → list_any (path_eq p) ps ≡ true → shown_fields shape (shown_of ps) p ≡ fields p
  shown_there [] p e = cc
  shown_there (q ∷ ps) p e = by_path (path_eq q p) refl (shown_there ps p)
    where
      by_path : (b : Bool) → path_eq q p ≡ b → (list_any (path_eq p) ps ≡ true → shown_fields shape (shown_of ps) p ≡ fields p) → (if b then fields q else shown_fields shape (shown_of ps) p) ≡ fields p
      by_path true s rest = ap fields ((path_eq_decides q p).0 s)
      by_path false s rest = rest (sym (ap (λ b. b || list_any (path_eq p) ps) (path_eq_equiv.symm p q ∙ s)) ∙ e)

  shown_absent : (ps : List Path) (p : Path) → list_any (path_eq p) ps ≡ false → shown_fields shape (shown_of ps) p ≡ initial_fields shape p
  shown_absent [] p e = refl
  shown_absent (q ∷ ps) p e = by_path (path_eq q p) refl (shown_absent ps p)
    where
      by_path : (b : Bool) → path_eq q p ≡ b → (list_any (path_eq p) ps ≡ false → shown_fields shape (shown_of ps) p ≡ initial_fields shape p) → (if b then fields q else shown_fields shape (shown_of ps) p) ≡ initial_fields shape p
      by_path true s rest = absurd (true≢false (sym (ap (λ b. b || list_any (path_eq p) ps) (path_eq_equiv.symm p q ∙ s)) ∙ e))
      by_path false s rest = rest (sym (ap (λ b. b || list_any (path_eq p) ps) (path_eq_equiv.symm p q ∙ s)) ∙ e)

-- a tree of the shape is read back from what is shown of it
pub shown_tree : (shape : Shape) (t : Tree (List Value)) (start : Start) → FitsShape shape t → start.shots ≡ map shot_of (shots t) → start_tree shape start ≡ t
shown_tree shape t start fits e =
    ap (λ (xs : List Shot). start_tree shape (record { shots = xs; places = []; next = record { 0 = 0 } })) e ∙ (λ i. record { paths = shown_paths shape t.fields t.paths i; fields = λ p. fields_at p i })
  where
    fields_at : (p : Path) → shown_fields shape (map shot_of (shots t)) p ≡ t.fields p
    fields_at p = by_there (there t p) refl
      where
        by_there : (b : Bool) → there t p ≡ b → shown_fields shape (map shot_of (shots t)) p ≡ t.fields p
        by_there true s = shown_there shape t.fields t.paths p s
        by_there false s = shown_absent shape t.fields t.paths p s ∙ sym (fits.absent p s)

-- ---- what is told of hosts

-- what is absent is on host 0
abbrev pub Absent : Tree ℕ → Type 0
Absent t = (p : Path) → there t p ≡ false → t.fields p ≡ 0

module _ (fields : Path → ℕ) where
  abbrev told_of : List Path → List Place
  told_of ps = map place_of (map (λ p. (p, fields p)) ps)

  told_paths : (ps : List Path) → map (λ x. x.path) (told_of ps) ≡ ps
  told_paths [] = refl
  told_paths (p ∷ ps) = ap (λ qs. p ∷ qs) (told_paths ps)

  told_there : (ps : List Path) (p : Path) → list_any (path_eq p) ps ≡ true → shown_host (told_of ps) p ≡ fields p
  told_there [] p e = cc
  told_there (q ∷ ps) p e = by_path (path_eq q p) refl (told_there ps p)
    where
      by_path : (b : Bool) → path_eq q p ≡ b → (list_any (path_eq p) ps ≡ true → shown_host (told_of ps) p ≡ fields p) → (if b then fields q else shown_host (told_of ps) p) ≡ fields p
      by_path true s rest = ap fields ((path_eq_decides q p).0 s)
      by_path false s rest = rest (sym (ap (λ b. b || list_any (path_eq p) ps) (path_eq_equiv.symm p q ∙ s)) ∙ e)

absent_host : (places : List Place) (p : Path) → list_any (path_eq p) (map (λ x. x.path) places) ≡ false → shown_host places p ≡ 0
absent_host [] p e = refl
absent_host (x ∷ places) p e = by_path (path_eq x.path p) refl (absent_host places p)
  where
    by_path : (b : Bool) → path_eq x.path p ≡ b → (list_any (path_eq p) (map (λ x. x.path) places) ≡ false → shown_host places p ≡ 0) → (if b then x.host.0 else shown_host places p) ≡ 0
    by_path true s rest = absurd (true≢false (sym (ap (λ b. b || list_any (path_eq p) (map (λ x. x.path) places)) (path_eq_equiv.symm p x.path ∙ s)) ∙ e))
    by_path false s rest = rest (sym (ap (λ b. b || list_any (path_eq p) (map (λ x. x.path) places)) (path_eq_equiv.symm p x.path ∙ s)) ∙ e)

pub start_absent : (start : Start) → Absent (start_places start)
start_absent start p e = absent_host start.places p e

-- hosts are read back from what is told of them
pub told_places : (t : Tree ℕ) (start : Start) → Absent t → start.places ≡ map place_of (shots t) → start_places start ≡ t
told_places t start absent e =
    ap (λ (xs : List Place). start_places (record { shots = []; places = xs; next = record { 0 = 0 } })) e ∙ (λ i. record { paths = told_paths t.fields t.paths i; fields = λ p. fields_at p i })
  where
    fields_at : (p : Path) → shown_host (map place_of (shots t)) p ≡ t.fields p
    fields_at p = by_there (there t p) refl
      where
        by_there : (b : Bool) → there t p ≡ b → shown_host (map place_of (shots t)) p ≡ t.fields p
        by_there true s = told_there t.fields t.paths p s
        by_there false s = absent_host (map place_of (shots t)) p (ap (λ ps. list_any (path_eq p) ps) (told_paths t.fields t.paths) ∙ s) ∙ sym (absent p s)

put_absent : (t : Tree ℕ) (q : Path) (h : ℕ) → there t q ≡ true → Absent t → Absent (put t q h)
put_absent t q h is absent p e = by_path (path_eq q p) refl
  where
    by_path : (b : Bool) → path_eq q p ≡ b → (if b then h else t.fields p) ≡ 0
    by_path true s = absurd (true≢false (sym is ∙ ap (there t) ((path_eq_decides q p).0 s) ∙ e))
    by_path false s = absent p e

context_absent : (t : Tree ℕ) (q : Path) → Absent t → Absent (with_context t q)
context_absent t q absent = by_there (there t q)
  where
    new : Absent (put (enter t q) q (t.fields (parent_of q)))
    new p e = by_path (path_eq q p) refl
      where
        split : (path_eq p q || there t p) ≡ false
        split = sym (there-enter t q p) ∙ e

        by_path : (b : Bool) → path_eq q p ≡ b → (if b then t.fields (parent_of q) else t.fields p) ≡ 0
        by_path true s = absurd (true≢false (sym (ap (λ b. b || there t p) (path_eq_equiv.symm p q ∙ s)) ∙ split))
        by_path false s = absent p (sym (ap (λ b. b || there t p) (path_eq_equiv.symm p q ∙ s)) ∙ split)

    by_there : (e : Bool) → Absent (if e then t else put (enter t q) q (t.fields (parent_of q)))
    by_there true = absent
    by_there false = new

contexts_absent : (t : Tree ℕ) (ps : List Path) → Absent t → Absent (with_contexts t ps)
contexts_absent t [] absent = absent
contexts_absent t (q ∷ ps) absent = contexts_absent (with_context t q) ps (context_absent t q absent)

move_absent : (t : Tree ℕ) (m : Option (Path × ℕ)) → ((x : Path × ℕ) → m ≡ Some x → there t x.0 ≡ true) → Absent t → Absent (with_move t m)
move_absent t None is absent = absent
move_absent t (Some x) is absent = put_absent t x.0 x.1 (is x refl) absent

-- ---- along a run

module _ (shape : Shape) (meaning : Meaning) (FitsTree : Tree (List Value) → Type 0) (FitsCall : Call → Type 0) (owed : Owed shape meaning FitsTree FitsCall) (keeps : KeepsShape shape meaning FitsTree FitsCall)
    (start : Start) (script : Script) (is_script : IsScript shape script) (is_start : IsStart shape script.hosts start) where
  abbrev Good : Progress (List Value) EventResult Line → Type 0
  Good w = IsGood shape meaning FitsTree FitsCall owed start script w

  pub record Leaves (w : Progress (List Value) EventResult Line) : Type 0 where
    pub fits : FitsShape shape w.tree
    pub absent : Absent (hosts_after start w)

  line_shape : (ticket : ℕ) (t : Tree (List Value)) (l : Line) → FitsTree t → FitsJob FitsCall l → FitsShape shape t → FitsShape shape (line_by meaning ticket t l).tree
  line_shape ticket t (Request call) f h fits = keeps t call f h fits
  line_shape ticket t (Move p to) f h fits = fits
  line_shape ticket t Snapshot f h fits = fits

  leaves_ran : (w : Progress (List Value) EventResult Line) → Good w → Leaves w → (j : Line) → next_job w.head ≡ Some j → Leaves (with_result start.next.0 (line_by meaning) created_lines w (line_by meaning (start.next.0 + w.head.done) w.tree j))
  leaves_ran w good leaves j is =
      let ticket : ℕ = start.next.0 + w.head.done in
      let x : Ran (List Value) EventResult = line_by meaning ticket w.tree j in
      let hosts : Tree ℕ = with_contexts (hosts_after start w) x.entered in
      let fits : FitsJob FitsCall j = All-drop_head (FitsJob FitsCall) w.head.known w.head.done j is good.known in
      let next : Good (with_result start.next.0 (line_by meaning) created_lines w x) = good_ran shape meaning FitsTree FitsCall owed start script w good j is in
      let pushed : hosts_after start (with_result start.next.0 (line_by meaning) created_lines w x) ≡ with_move hosts (move_of x.result) = hosts_push shape meaning FitsTree FitsCall owed start script w x (good.entered ∙ sym good.results) in
      let there_too : (m : Path × ℕ) → move_of x.result ≡ Some m → there hosts m.0 ≡ true = λ m e.
      sym (there_move hosts (move_of x.result) m.0) ∙ ap (λ (t : Tree ℕ). there t m.0) (sym pushed) ∙ next.placed m.0 ∙ line_moved shape meaning FitsTree FitsCall owed ticket w.tree good.tree j fits m e in
      record {
        fits = line_shape ticket w.tree j good.tree fits leaves.fits;
        absent = subst Absent (sym pushed) (move_absent hosts (move_of x.result) there_too (contexts_absent (hosts_after start w) x.entered leaves.absent));
      }

  leaves_more : (w : Progress (List Value) EventResult Line) → Good w → Leaves w → Leaves (one_more start.next.0 (line_by meaning) created_lines w)
  leaves_more w good leaves = by_job (next_job w.head) refl
    where
      by_job : (o : Option Line) → next_job w.head ≡ o → Leaves (with_job start.next.0 (line_by meaning) created_lines w o)
      by_job None e = leaves
      by_job (Some j) e = leaves_ran w good leaves j e

  pub leaves_after : (n : ℕ) → Leaves (after_jobs meaning shape start script n)
  leaves_after zero = record { fits = is_start.tree; absent = start_absent start }
  leaves_after (suc n) = leaves_more (after_jobs meaning shape start script n) (good_after shape meaning FitsTree FitsCall owed start script is_script is_start n) (leaves_after n)
