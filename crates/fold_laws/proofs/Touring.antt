-- How many contexts a call enters, and adds to the tree; and how many segments it has.
use Rattle.std.proofs.Common.{◌≡◌, ◌≤◌, inl, inr, ℕ, zero, suc, ◌+◌, ◌*◌, List, [], ◌∷◌, ◌++◌, length, length-append, Bool, true, false, Option, Some, None, refl, sym, ◌∙◌, arith}
use Rattle.std.specs.BTreeSet.{insert_key}
use Rattle.std.specs.Ordering.{match_ordering}
use Rattle.std.specs.declared.cmp.Ordering.{Ordering}
use Rattle.std.specs.declared.cmp.Ordering.TheVariants.{Less, Equal, Greater}
use Rattle.wave_base.specs.declared.call.Call.{Call}
use Rattle.wave_base.specs.declared.limits.TheConstants.{CLASS_DEPTH, CONTEXTS, TICKS}
use Rattle.wave_base.specs.declared.outcome.EventResult.{EventResult}
use Rattle.wave_base.specs.declared.path.Path.{Path}
use Rattle.wave_base.specs.declared.pause.Pause.{Pause}
use Rattle.wave_base.specs.declared.pause.Pause.TheVariants as pause
use Rattle.wave_base.specs.Paths.{path_cmp}
use Rattle.wave_base.specs.Tree.{Tree, enter}
use Rattle.service_code.specs.declared.program.Program.{Program}
use Rattle.service_verify.specs.Boxes.{Box, first_box}
use Rattle.service_verify.specs.Steps.{Move, Runs, Paused, Lost, is_held}
use Rattle.service_verify.specs.Tours.{Fields, Tour, into, tour_at_pause, tour_with, fields_above, segment_on, tour_if, tour_after, first_tour, most_segments, code_tour}
use Rattle.fold_laws.proofs.Entering.{Goes, Pauses, Keeps, segment_keeps}

-- one path more at most
insert_long : (ps : List Path) (p : Path) → length (insert_key path_cmp ps p) ≤ length ps + 1
insert_long [] p = omega arith
insert_long (x ∷ ps) p = by (path_cmp p x) (insert_long ps p)
  where
    by : (r : Ordering) → length (insert_key path_cmp ps p) ≤ length ps + 1 → length (match_ordering r (p ∷ x ∷ ps) (x ∷ ps) (x ∷ insert_key path_cmp ps p)) ≤ length (x ∷ ps) + 1
    by Less h = omega arith
    by Equal h = omega arith
    by Greater h = omega (arith, h)

pub enter_long : {F : Type 0} (t : Tree F) (p : Path) → length (enter t p).paths ≤ length t.paths + 1
enter_long t p = insert_long t.paths p

module _ (program : Program) (call : Call) (first : Tree Fields) where
  -- the event has counted what it entered, there is room for it, and the tree has grown by no more
  record IsFew (t : Tour) : Type 0 where
    counted : length t.entered ≡ t.box.entered
    few : t.box.entered ≤ CONTEXTS
    wide : length t.tree.paths ≤ length first.paths + length t.entered

  few_into : (t : Tour) (b : Box) (fields : Fields) → IsFew t → Goes t.box.held t.box.entered b → (c : Bool) → is_held t.box.held b.path ≡ c → IsFew (into t b fields c)
  few_into t b fields h (inl g) true e = record { counted = h.counted ∙ sym g.1; few = omega (arith, h.few, g.1); wide = h.wide }
  few_into t b fields h (inl g) false e = let no : true ≡ false = sym g.0 ∙ e in cc
  few_into t b fields h (inr g) true e = let no : false ≡ true = sym g.0 ∙ e in cc
  few_into t b fields h (inr g) false e =
      let one : length (t.entered ++ b.path ∷ []) ≡ length t.entered + 1 = length-append t.entered (b.path ∷ []) in
      let more = enter_long t.tree b.path in
      record { counted = omega (arith, one, h.counted, g.1); few = omega (arith, g.1, g.2); wide = omega (arith, one, more, h.wide) }

  few_halted : (t : Tour) (b : Box) (fields : Fields) (why : Pause) → IsFew t → Pauses t.box.held t.box.entered b why → IsFew (tour_at_pause t b fields why)
  few_halted t b fields (pause.Go s) h g = few_into t b fields h g (is_held t.box.held b.path) refl
  few_halted t b fields (pause.Down s) h g = few_into t b fields h g (is_held t.box.held b.path) refl
  few_halted t b fields pause.Back h g = record { counted = h.counted ∙ sym g; few = omega (arith, h.few, g); wide = h.wide }
  few_halted t b fields (pause.Over r) h g = record { counted = h.counted ∙ sym g; few = omega (arith, h.few, g); wide = h.wide }

  few_toured : (t : Tour) (m : Move) → IsFew t → Keeps t.box.held t.box.entered m → IsFew (tour_with t m)
  few_toured t (Runs b fields) h k = h
  few_toured t (Paused b fields why) h k = few_halted t b fields why h k
  few_toured t Lost h k = h

  few_next : (t : Tour) → IsFew t → (o : Option EventResult) → IsFew (tour_if program t o)
  few_next t h (Some r) = h
  few_next t h None = few_toured t (segment_on program t) h (segment_keeps program (fields_above t.tree t.box.path) t.box (t.tree.fields t.box.path))

  few_after : (n : ℕ) → IsFew (tour_after program n (first_tour program call first))
  unfolding tour_after first_box
  few_after zero = record { counted = refl; few = omega arith; wide = enter_long first [] }
  few_after (suc n) = few_next (tour_after program n (first_tour program call first)) (few_after n) _

  one_more : (t : Tour) (m : Move) → (tour_with t m).segments ≤ suc t.segments
  one_more t (Runs b fields) = omega arith
  one_more t Lost = omega arith
  one_more t (Paused b fields (pause.Go s)) = into_more (is_held t.box.held b.path)
    where
      into_more : (c : Bool) → (into t b fields c).segments ≤ suc t.segments
      into_more true = omega arith
      into_more false = omega arith
  one_more t (Paused b fields (pause.Down s)) = into_more (is_held t.box.held b.path)
    where
      into_more : (c : Bool) → (into t b fields c).segments ≤ suc t.segments
      into_more true = omega arith
      into_more false = omega arith
  one_more t (Paused b fields pause.Back) = omega arith
  one_more t (Paused b fields (pause.Over r)) = omega arith

  one_next : (t : Tour) (o : Option EventResult) → (tour_if program t o).segments ≤ suc t.segments
  one_next t (Some r) = omega arith
  one_next t None = one_more t (segment_on program t)

  segments_after : (n : ℕ) → (tour_after program n (first_tour program call first)).segments ≤ n
  unfolding tour_after
  segments_after zero = omega arith
  segments_after (suc n) = let t = tour_after program n (first_tour program call first) in omega (arith, segments_after n, one_next t t.result)

  pub tour_enters : length (code_tour program call first).entered ≤ CONTEXTS
  unfolding code_tour
  tour_enters = let h = few_after (most_segments program) in omega (arith, h.counted, h.few)

  pub tour_adds : length (code_tour program call first).tree.paths ≤ length first.paths + length (code_tour program call first).entered
  unfolding code_tour
  tour_adds = (few_after (most_segments program)).wide

  pub tour_pauses : (code_tour program call first).segments ≤ 2 * TICKS + CLASS_DEPTH + 1
  unfolding code_tour
  tour_pauses = segments_after (most_segments program)

  pub code_grows : length (code_tour program call first).tree.paths ≤ length first.paths + CONTEXTS
  code_grows = omega (arith, tour_adds, tour_enters)
