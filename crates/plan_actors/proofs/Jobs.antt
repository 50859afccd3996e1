-- Each job of a plan alone, whole, is what the line of a script does.
use Rattle.std.proofs.Common.{◌≡◌, ℕ, suc, ◌+◌, ◌*◌, ◌-◌, if◌then◌else◌, Bool, true, false, [], length, filter, refl, ◌∙◌, ap, arith}
use Rattle.std.specs.Prelude.{map, unwrap_or}
use Rattle.wave_base.specs.declared.call.Call.{Call}
use Rattle.wave_base.specs.declared.numbers.Host.{Host}
use Rattle.wave_base.specs.declared.outcome.Outcome.TheVariants as out
use Rattle.wave_base.specs.declared.path.Path.{Path}
use Rattle.wave_base.specs.declared.script.Line.{Line}
use Rattle.wave_base.specs.declared.script.Line.TheVariants.{Request, Move, Snapshot}
use Rattle.wave_base.specs.Tree.{Tree, there, shots}
use Rattle.wave_base.specs.Shapes.{initial_fields}
use Rattle.resolved_service.specs.Jobs.{only, fronts, move_ran, snapshot_ran, shot_of}
use Rattle.script_fold.specs.Lines.{FitsJob, line_by}
use Rattle.service_code.specs.declared.program.Program.{Program}
use Rattle.service_verify.specs.Fit.{IsFit}
use Rattle.service_verify.specs.Points.{IsVerified}
use Rattle.wave_states.specs.Results.{end_of, shots_of}
use Rattle.wave_states.specs.Alone.{run_alone, first_alone, ended_alone, count_from, segments_of}
use Rattle.wave_states.specs.Movers as mover
use Rattle.code_actor.specs.CodeActors as code
use Rattle.code_actor.specs.CodeActors.{Fields, no_result, code_actors}
use Rattle.code_actor.proofs.Whole as coded
use Rattle.plan_actors.specs.Calls.{code_ran, IsTree, segments_on}
use Rattle.plan_actors.specs.PlanActors.{Serves, Moves, Walks, same, move_to, moving, walking, plan_actors}
use Rattle.plan_actors.proofs.Coded.{alone_is}
use Rattle.plan_actors.proofs.Images.{run_same, segments_same}
use Rattle.plan_actors.proofs.Moving.{Gone, moved_whole, entered_whole, counted_whole}
use Rattle.plan_actors.proofs.Walking.{Whole, walked_whole}

module _ (program : Program) (fit : IsFit program) (verified : IsVerified program) (ticket : ℕ) (tree : Tree Fields) (is : IsTree program tree) where
  -- an event
  call_runs : (call : Call) → code.IsJob program call → run_alone (plan_actors program) ticket tree (Request call) ≡ code_ran program tree call
  call_runs call job = let e = coded.ends program fit verified call ticket tree job is.fields in
      run_same (code_actors program) (plan_actors program) Serves same (λ a f cs. refl) (λ a. refl) call (Request call) ticket tree refl refl e.0 e.1 ∙ alone_is program fit verified ticket tree call job is.fields

  -- a move
  module _ (p : Path) (h : Host) where
    gone : Gone (initial_fields program.shape) tree is.ordered is.parents (first_alone (moving program) (move_to p h) ticket tree) (ended_alone (moving program) ticket tree (move_to p h)) p (count_from (moving program) (suc (length p)) (first_alone (moving program) (move_to p h) ticket tree))
    gone = moved_whole (initial_fields program.shape) tree is.ordered is.parents is.root (move_to p h) ticket

    move_end : (b : Bool) → end_of (if b then mover.Moved p h.0 else mover.Absent p) ≡ only (if b then out.Moved p h else out.Absent p)
    move_end true = refl
    move_end false = refl

    move_runs : run_alone (plan_actors program) ticket tree (Move p h) ≡ move_ran tree p h
    move_runs =
        let entered : (ended_alone (moving program) ticket tree (move_to p h)).entered ≡ filter (there tree) (fronts p) = entered_whole (initial_fields program.shape) tree is.ordered is.parents is.root (move_to p h) ticket in
        let result : end_of (unwrap_or (ended_alone (moving program) ticket tree (move_to p h)).result (mover.Absent [])) ≡ only (if there tree p then out.Moved p h else out.Absent p) = ap (λ o. end_of (unwrap_or o (mover.Absent []))) gone.result ∙ move_end (there tree p) in
        run_same (moving program) (plan_actors program) Moves end_of (λ a f cs. refl) (λ a. refl) (move_to p h) (Move p h) ticket tree refl refl _ gone.result
        ∙ (λ i. record { tree = gone.same i; result = result i; entered = entered i })

  -- a snapshot
  walked : Whole (initial_fields program.shape) tree is.ordered is.parents is.root (ended_alone (walking program) ticket tree tt) (segments_of (walking program) ticket tree tt)
  walked = walked_whole (initial_fields program.shape) tree is.ordered is.parents is.root ticket

  snapshot_runs : run_alone (plan_actors program) ticket tree Snapshot ≡ snapshot_ran tree
  snapshot_runs =
      let result : shots_of (unwrap_or (ended_alone (walking program) ticket tree tt).result []) ≡ only (out.Shots (map shot_of (shots tree))) = ap (λ o. shots_of (unwrap_or o [])) walked.result in
      run_same (walking program) (plan_actors program) Walks shots_of (λ a f cs. refl) (λ a. refl) tt Snapshot ticket tree refl refl _ walked.result
      ∙ (λ i. record { tree = walked.same i; result = result i; entered = walked.entered i })

  pub runs_line : (l : Line) → FitsJob (code.IsJob program) l → run_alone (plan_actors program) ticket tree l ≡ line_by (code_ran program) ticket tree l
  runs_line (Request call) job = call_runs call job
  runs_line (Move p h) job = move_runs p h
  runs_line Snapshot job = snapshot_runs

  half : (a b : ℕ) → a + 1 ≡ 2 * b → a ≡ 2 * b - 1
  half a b e = omega (arith, e)

  pub counts_line : (l : Line) → FitsJob (code.IsJob program) l → segments_of (plan_actors program) ticket tree l ≡ segments_on program tree l
  counts_line (Request call) job = segments_same (code_actors program) (plan_actors program) Serves same (λ a f cs. refl) (λ a. refl) call (Request call) ticket tree refl refl ∙ (coded.whole program fit verified call ticket tree job is.fields).segments
  counts_line (Move p h) job = segments_same (moving program) (plan_actors program) Moves end_of (λ a f cs. refl) (λ a. refl) (move_to p h) (Move p h) ticket tree refl refl
      ∙ counted_whole (initial_fields program.shape) tree is.ordered is.parents is.root (move_to p h) ticket
  counts_line Snapshot job = segments_same (walking program) (plan_actors program) Walks shots_of (λ a f cs. refl) (λ a. refl) tt Snapshot ticket tree refl refl ∙ half (segments_of (walking program) ticket tree tt) (length tree.paths) walked.counts
