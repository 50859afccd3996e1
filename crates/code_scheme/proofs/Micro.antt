-- An event's code on one tree, one instruction after the other.
use Rattle.std.proofs.Common.{◌≡◌, ℕ, zero, suc, ◌+◌, Option, Some, None, refl, ap, sym, subst, ◌∙◌, arith}
use Rattle.std.specs.Prelude.{Bool, true, false}
use Rattle.wave_base.specs.declared.outcome.EventResult.{EventResult}
use Rattle.wave_base.specs.declared.path.Path.{Path}
use Rattle.wave_base.specs.declared.pause.Pause.TheVariants as pause
use Rattle.wave_base.specs.Paths.{parent_of}
use Rattle.service_code.specs.declared.program.Program.{Program}
use Rattle.service_verify.specs.Boxes.{Box}
use Rattle.service_verify.specs.Fit.{IsFit}
use Rattle.service_verify.specs.Points.{IsVerified}
use Rattle.service_verify.specs.Standing.{HasFields, HasLevels, HasTree, RunsAt, LeavesAt, MovesOn}
use Rattle.service_verify.specs.Steps.{Move, Runs, Paused, Lost, one_step, is_held}
use Rattle.service_verify.specs.Tours.{Fields, fields_above, Tour, tree_with, into, tour_at_pause}
use Rattle.service_verify.proofs.Stepping.{step_moves}
use Rattle.service_verify.proofs.Leveled.{above_has}
use Rattle.service_verify.proofs.Touring.{put_has}

-- what an instruction leaves to the tour, whose tree has the fields in hand at its context
abbrev pub resumed : Tour → Move → Tour
resumed t (Runs b fields) = record { box = b; tree = tree_with t fields; entered = t.entered; segments = t.segments; result = t.result }
resumed t (Paused b fields why) = tour_at_pause t b fields why
resumed t Lost = t

module _ (program : Program) where
  abbrev pub move_of : Tour → Move
  move_of t = one_step program (fields_above t.tree t.box.path) t.box (t.tree.fields t.box.path)

  abbrev pub micro_if : Tour → Option EventResult → Tour
  micro_if t (Some r) = t
  micro_if t None = resumed t (move_of t)

  -- one instruction more, unless it is over
  abbrev pub micro : Tour → Tour
  micro t = micro_if t t.result

  unfoldable pub micros : ℕ → Tour → Tour
  micros zero t = t
  micros (suc n) t = micros n (micro t)

  pub micros_none : (t : Tour) → micros 0 t ≡ t
  unfolding micros
  micros_none t = refl

  pub micros_more : (n : ℕ) (t : Tour) → micros (suc n) t ≡ micros n (micro t)
  unfolding micros
  micros_more n t = refl

  pub micros_add : (n m : ℕ) (t : Tour) → micros (n + m) t ≡ micros m (micros n t)
  unfolding micros
  micros_add zero m t = let e : zero + m ≡ m = omega arith in ap (λ k. micros k t) e
  micros_add (suc n) m t = let e : suc n + m ≡ suc (n + m) = omega arith in ap (λ k. micros k t) e ∙ micros_add n m (micro t)

  -- once it is over, nothing more is done
  pub micros_over : (n : ℕ) (t : Tour) (r : EventResult) → t.result ≡ Some r → micros n t ≡ t
  unfolding micros
  micros_over zero t r e = refl
  micros_over (suc n) t r e = ap (micros n) (ap (micro_if t) e) ∙ micros_over n t r e

  -- so there is one end
  pub one_end : (n m : ℕ) (t : Tour) (r s : EventResult) → (micros n t).result ≡ Some r → (micros m t).result ≡ Some s → micros n t ≡ micros m t
  one_end n m t r s e f =
      let c : n + m ≡ m + n = omega arith in
      sym (micros_over m (micros n t) r e) ∙ sym (micros_add n m t) ∙ ap (λ k. micros k t) c ∙ micros_add m n t ∙ micros_over n (micros m t) s f

module _ (program : Program) (fit : IsFit program) (verified : IsVerified program) where
  -- an event that runs on a tree, at a path with so many calls open
  pub record Alive (t : Tour) : Type 0 where
    pub path : Path
    pub calls : ℕ
    pub box : RunsAt program path calls t.box
    pub tree : HasTree program t.tree

  pub moves_on : (t : Tour) (a : Alive t) → MovesOn program a.path a.calls (move_of program t)
  moves_on t a = step_moves program fit verified (fields_above t.tree t.box.path) a.path a.calls t.box (t.tree.fields t.box.path) a.box levels_are has
    where
      levels_are : HasLevels program a.path (fields_above t.tree t.box.path)
      levels_are = subst (λ q. HasLevels program a.path (fields_above t.tree q)) (sym a.box.path) (above_has program t.tree a.tree a.path)

      has : HasFields program.shape a.path (t.tree.fields t.box.path)
      has = subst (λ q. HasFields program.shape a.path (t.tree.fields q)) (sym a.box.path) (a.tree a.path)

  tree_has : (t : Tour) (a : Alive t) (fields : Fields) → HasFields program.shape a.path fields → HasTree program (tree_with t fields)
  tree_has t a fields has = put_has program fit verified t.tree t.box.path fields a.tree (subst (λ q. HasFields program.shape q fields) (sym a.box.path) has)

  into_alive : (t : Tour) (b : Box) (fields : Fields) (held : Bool) (p : Path) (n : ℕ) → RunsAt program p n b → HasTree program (tree_with t fields) → Alive (into t b fields held)
  into_alive t b fields true p n runs has = record { path = p; calls = n; box = runs; tree = has }
  into_alive t b fields false p n runs has = record { path = p; calls = n; box = runs; tree = has }

  moved_alive : (t : Tour) (a : Alive t) (m : Move) → MovesOn program a.path a.calls m → (resumed t m).result ≡ None → Alive (resumed t m)
  moved_alive t a (Runs b fields) h e = record { path = a.path; calls = a.calls; box = h.0; tree = tree_has t a fields h.1 }
  moved_alive t a Lost h e = absurd h
  moved_alive t a (Paused b fields (pause.Go s)) h e = into_alive t b fields (is_held t.box.held b.path) _ 0 h.1.1 (tree_has t a fields h.0)
  moved_alive t a (Paused b fields (pause.Down s)) h e = into_alive t b fields (is_held t.box.held b.path) _ (suc a.calls) h.1.0 (tree_has t a fields h.0)
  moved_alive t a (Paused b fields pause.Back) h e = back a.calls h.1
    where
      back : (n : ℕ) → LeavesAt program a.path n b pause.Back → Alive (tour_at_pause t b fields pause.Back)
      back zero l = absurd l
      back (suc m) l = record { path = parent_of a.path; calls = m; box = l.0; tree = tree_has t a fields h.0 }
  moved_alive t a (Paused b fields (pause.Over r)) h e = cc

  -- an instruction leaves it alive, or over
  pub stays_alive : (t : Tour) → Alive t → t.result ≡ None → (resumed t (move_of program t)).result ≡ None → Alive (resumed t (move_of program t))
  stays_alive t a running e = moved_alive t a (move_of program t) (moves_on t a) e
