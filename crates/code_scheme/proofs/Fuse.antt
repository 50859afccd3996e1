-- Segments one after the other are instructions one after the other.
use Rattle.std.proofs.Common.{◌≡◌, ℕ, zero, suc, ◌+◌, ◌≤◌, List, [], ◌∷◌, ◌++◌, length, if◌then◌else◌, Bool, true, false, Option, Some, None, refl, ap, sym, subst, ◌∙◌, arith}
use Rattle.std.specs.Prelude.{slice_get}
use Rattle.std.proofs.lemmas.List.{length-append}
use Rattle.wave_base.specs.declared.outcome.EventResult.{EventResult}
use Rattle.wave_base.specs.declared.path.Path.{Path}
use Rattle.wave_base.specs.declared.path.Step.{Step}
use Rattle.wave_base.specs.declared.pause.Pause.{Pause}
use Rattle.wave_base.specs.declared.pause.Pause.TheVariants as pause
use Rattle.wave_base.specs.Paths.{path_eq}
use Rattle.wave_base.specs.PathLaws.{path_eq_decides}
use Rattle.wave_base.specs.Tree.{Tree, enter, put}
use Rattle.wave_base.proofs.Trees.{put_same, put_twice}
use Rattle.downgrade_views.specs.Levels.{Level, whole_level}
use Rattle.service_code.specs.declared.program.Program.{Program}
use Rattle.service_verify.specs.Boxes.{Frame, Box}
use Rattle.service_verify.specs.Fit.{IsFit}
use Rattle.service_verify.specs.Points.{IsVerified}
use Rattle.service_verify.specs.Segments.{go_on, enough, steps, segment}
use Rattle.service_verify.specs.Standing.{MovesOn}
use Rattle.service_verify.specs.Steps.{Move, Runs, Paused, Lost, one_step, frames_step, act_move, places_of, is_held}
use Rattle.service_verify.specs.Tours.{Fields, fields_from, fields_above, Tour, tree_with, into, tour_at_pause, tour_with, tour_if, next_tour, tour_after}
use Rattle.service_verify.proofs.Lasting.{HasStopped, ends}
use Rattle.service_verify.proofs.Ways.{OnRun, some_run}
use Rattle.code_scheme.proofs.Held.{acted_held}
use Rattle.code_scheme.proofs.Micro.{resumed, move_of, micro_if, micro, micros, micros_none, micros_more, micros_add, micros_over, Alive, moves_on, stays_alive}

-- what a change at a path leaves above it
from_put : (tree : Tree Fields) (q : Path) (x : Fields) (done p : List Step) → length done + length p ≤ length q → fields_from (put tree q x) done p ≡ fields_from tree done p
from_put tree q x done [] h = refl
from_put tree q x done (s ∷ p) h =
    let rest = from_put tree q x (done ++ s ∷ []) p (omega (arith, h, length-append done (s ∷ []))) in
    let one = unchanged (path_eq q done) refl in
    λ i. whole_level (one i) ∷ rest i
  where
    unchanged : (b : Bool) → path_eq q done ≡ b → (if b then x else tree.fields done) ≡ tree.fields done
    unchanged true e = absurd (let same = ap length ((path_eq_decides q done).0 e) in omega (arith, h, same))
    unchanged false e = refl

above_put : (tree : Tree Fields) (p : Path) (x : Fields) → fields_above (put tree p x) p ≡ fields_above tree p
above_put tree p x = from_put tree p x [] p (omega arith)

put_at : (tree : Tree Fields) (p : Path) (x : Fields) → (put tree p x).fields p ≡ x
put_at tree p x = go (path_eq p p) ((path_eq_decides p p).1 refl)
  where
    go : (b : Bool) → b ≡ true → (if b then x else tree.fields p) ≡ x
    go true e = refl
    go false e = cc

step_held : (program : Program) (levels : List Level) (b : Box) (fields : Fields) → OnRun (λ b'. b'.held ≡ b.held) (one_step program levels b fields)
unfolding one_step
step_held program levels b fields = go b.frames
  where
    go : (fs : List Frame) → OnRun (λ b'. b'.held ≡ b.held) (frames_step program levels fs b fields)
    go [] = tt
    go (f ∷ below) = some_run (λ b'. b'.held ≡ b.held) _ _ (λ i is. some_run (λ b'. b'.held ≡ b.held) (slice_get (places_of (slice_get program.functions f.function)) f.place) (λ at. act_move program levels i at f below b fields) (λ at is'. acted_held program levels f below b fields at i))

-- in the middle of a segment, with these fields in hand
abbrev mid : Tour → Box → Fields → Tour
mid t b fields = record { box = b; tree = put t.tree t.box.path fields; entered = t.entered; segments = t.segments; result = t.result }

module _ (program : Program) (fit : IsFit program) (verified : IsVerified program) where
  alive_micro : (t : Tour) → Alive program fit verified t → t.result ≡ None → (micro program t).result ≡ None → Alive program fit verified (micro program t)
  alive_micro t a running e =
      let same : micro program t ≡ resumed t (move_of program t) = ap (micro_if program t) running in
      subst (Alive program fit verified) (sym same) (stays_alive program fit verified t a running (ap (λ (t : Tour). t.result) (sym same) ∙ e))

  some_none : {A : Type 0} {r : EventResult} → Some r ≡ None → A
  some_none e = cc

  alive_micros : (k : ℕ) (t : Tour) → Alive program fit verified t → t.result ≡ None → (micros program k t).result ≡ None → Alive program fit verified (micros program k t)
  unfolding micros
  alive_micros zero t a running e = a
  alive_micros (suc k) t a running e = go (micro program t).result refl (λ a' running'. alive_micros k (micro program t) a' running' e)
    where
      go : (o : Option EventResult) → (micro program t).result ≡ o → (Alive program fit verified (micro program t) → (micro program t).result ≡ None → Alive program fit verified (micros program k (micro program t))) → Alive program fit verified (micros program k (micro program t))
      go None is rest = rest (alive_micro t a running is) is
      go (Some r) is rest = some_none (sym is ∙ ap (λ (u : Tour). u.result) (sym (micros_over program k (micro program t) r is)) ∙ e)

  module _ (t : Tour) (running : t.result ≡ None) where
    p : Path
    p = t.box.path

    levels : List Level
    levels = fields_above t.tree t.box.path

    mid_move : (b : Box) (fields : Fields) → b.path ≡ t.box.path → move_of program (mid t b fields) ≡ one_step program (fields_above t.tree t.box.path) b fields
    mid_move b fields at =
        ap (λ q. one_step program (fields_above (put t.tree t.box.path fields) q) b ((put t.tree t.box.path fields).fields q)) at
        ∙ (λ i. one_step program (above_put t.tree t.box.path fields i) b (put_at t.tree t.box.path fields i))

    mid_micro : (b : Box) (fields : Fields) (m : Move) → b.path ≡ t.box.path → one_step program (fields_above t.tree t.box.path) b fields ≡ m → micro program (mid t b fields) ≡ resumed (mid t b fields) m
    mid_micro b fields m at is = ap (micro_if program (mid t b fields)) running ∙ ap (resumed (mid t b fields)) (mid_move b fields at ∙ is)

    mid_tree : (b : Box) (fields fields' : Fields) → b.path ≡ t.box.path → tree_with (mid t b fields) fields' ≡ tree_with t fields'
    mid_tree b fields fields' at = ap (λ q. put (put t.tree t.box.path fields) q fields') at ∙ put_twice t.tree t.box.path fields fields'

    into_same : (b b' : Box) (fields fields' : Fields) (held held' : Bool) → b.path ≡ t.box.path → held ≡ held' → into (mid t b fields) b' fields' held ≡ into t b' fields' held'
    into_same b b' fields fields' held held' at e = ap (into (mid t b fields) b' fields') e ∙ go held'
      where
        go : (h : Bool) → into (mid t b fields) b' fields' h ≡ into t b' fields' h
        go true = λ i. record { box = b'; tree = mid_tree b fields fields' at i; entered = t.entered; segments = suc t.segments; result = None }
        go false = λ i. record { box = b'; tree = enter (mid_tree b fields fields' at i) b'.path; entered = t.entered ++ b'.path ∷ []; segments = suc t.segments; result = None }

    halted_same : (b b' : Box) (fields fields' : Fields) (why : Pause) → b.path ≡ t.box.path → b.held ≡ t.box.held → tour_at_pause (mid t b fields) b' fields' why ≡ tour_at_pause t b' fields' why
    halted_same b b' fields fields' (pause.Go s) at held = into_same b b' fields fields' _ _ at (ap (λ l. is_held l b'.path) held)
    halted_same b b' fields fields' (pause.Down s) at held = into_same b b' fields fields' _ _ at (ap (λ l. is_held l b'.path) held)
    halted_same b b' fields fields' pause.Back at held = λ i. record { box = b'; tree = mid_tree b fields fields' at i; entered = t.entered; segments = suc t.segments; result = None }
    halted_same b b' fields fields' (pause.Over r) at held = λ i. record { box = b'; tree = mid_tree b fields fields' at i; entered = t.entered; segments = suc t.segments; result = Some r }

    fuse : (m : ℕ) (b : Box) (fields : Fields) → b.path ≡ t.box.path → b.held ≡ t.box.held → Alive program fit verified (mid t b fields) → (k : ℕ) × (micros program k (mid t b fields) ≡ resumed t (steps program (fields_above t.tree t.box.path) m b fields))
    unfolding steps
    fuse zero b fields at held a = (0, micros_none program (mid t b fields))
    fuse (suc m) b fields at held a = go (one_step program (fields_above t.tree t.box.path) b fields) refl (subst (MovesOn program a.path a.calls) (mid_move b fields at) (moves_on program fit verified (mid t b fields) a)) (step_held program (fields_above t.tree t.box.path) b fields) (λ b' fields' at' held' a'. fuse m b' fields' at' held' a')
      where
        go : (v : Move) → one_step program (fields_above t.tree t.box.path) b fields ≡ v → MovesOn program a.path a.calls v → OnRun (λ b'. b'.held ≡ b.held) v →
            ((b' : Box) (fields' : Fields) → b'.path ≡ t.box.path → b'.held ≡ t.box.held → Alive program fit verified (mid t b' fields') → (k : ℕ) × (micros program k (mid t b' fields') ≡ resumed t (steps program (fields_above t.tree t.box.path) m b' fields'))) →
            (k : ℕ) × (micros program k (mid t b fields) ≡ resumed t (go_on (steps program (fields_above t.tree t.box.path) m) v))
        go (Runs b' fields') is moves held' ih =
            let next : micro program (mid t b fields) ≡ mid t b' fields' =
            mid_micro b fields (Runs b' fields') at is ∙ (λ i. record { box = b'; tree = mid_tree b fields fields' at i; entered = t.entered; segments = t.segments; result = t.result }) in
            let lives = subst (Alive program fit verified) next (alive_micro (mid t b fields) a running (ap (λ (u : Tour). u.result) next ∙ running)) in
            let rest = ih b' fields' (moves.0.path ∙ sym a.box.path ∙ at) (held' ∙ held) lives in
            (suc rest.0, micros_more program rest.0 (mid t b fields) ∙ ap (micros program rest.0) next ∙ rest.1)
        go (Paused b' fields' why) is moves held' ih =
            (1, micros_more program 0 (mid t b fields) ∙ micros_none program (micro program (mid t b fields)) ∙ mid_micro b fields (Paused b' fields' why) at is ∙ halted_same b b' fields fields' why at held)
        go Lost is moves held' ih = absurd moves

    mid_same : mid t t.box (t.tree.fields t.box.path) ≡ t
    mid_same = λ i. record { box = t.box; tree = put_same t.tree t.box.path i; entered = t.entered; segments = t.segments; result = t.result }

    stopped_same : (m : Move) → HasStopped m → resumed t m ≡ tour_with t m
    stopped_same (Runs b fields) h = absurd h
    stopped_same (Paused b fields why) h = refl
    stopped_same Lost h = refl

    -- one segment
    pub one_segment : Alive program fit verified t → (k : ℕ) × (micros program k t ≡ next_tour program t)
    unfolding segment
    one_segment a =
        let r = fuse (enough program t.box) t.box (t.tree.fields t.box.path) refl refl (subst (Alive program fit verified) (sym mid_same) a) in
        (r.0, ap (micros program r.0) (sym mid_same) ∙ r.1 ∙ stopped_same _ (ends program fit verified (fields_above t.tree t.box.path) t.box (t.tree.fields t.box.path)) ∙ sym (ap (tour_if program t) running))

  -- all of them
  pub segments_fuse : (m : ℕ) (t : Tour) → Alive program fit verified t → t.result ≡ None → (k : ℕ) × (micros program k t ≡ tour_after program m t)
  unfolding tour_after
  segments_fuse zero t a running = (0, micros_none program t)
  segments_fuse (suc m) t a running = go (tour_after program m t).result refl (segments_fuse m t a running)
    where
      go : (o : Option EventResult) → (tour_after program m t).result ≡ o → (k : ℕ) × (micros program k t ≡ tour_after program m t) → (k : ℕ) × (micros program k t ≡ next_tour program (tour_after program m t))
      go (Some r) is (k, e) = (k, e ∙ sym (ap (tour_if program (tour_after program m t)) is))
      go None is (k, e) =
          let lives = subst (Alive program fit verified) e (alive_micros k t a running (ap (λ (u : Tour). u.result) e ∙ is)) in
          let s = one_segment (tour_after program m t) is lives in
          (k + s.0, micros_add program k s.0 t ∙ ap (micros program s.0) e ∙ s.1)
