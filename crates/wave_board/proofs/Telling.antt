-- What is new to whoever writes the lines, and what a finished run gives.
use Rattle.std.proofs.Common.{◌≡◌, ◌∙◌, ◌≤◌, ◌<◌, ◌+◌, ◌-◌, ◌↔◌, ℕ, List, inl, inr, length, min, nat_lt, nat_le, Some, sym, ap, subst, arith, ltb-true, lt-ltb, leb-true, le-leb}
use Rattle.std.specs.Prelude.{IsTrue, slice_get}
use Rattle.wave_base.specs.declared.finished.Finished.{Finished}
use Rattle.wave_base.specs.declared.script.Line.{Line}
use Rattle.wave_base.specs.declared.shown.Shown.{Shown}
use Rattle.wave_base.specs.declared.start.Start.{Start}
use Rattle.wave_base.specs.Fold.{Head}
use Rattle.script_fold.specs.Runs.{finished_of}
use Rattle.plan_actors.specs.Calls.{code_ran}
use Rattle.plan_actors.specs.Plans.{Plan}
use Rattle.wave_effects.specs.Machines.{Stands, TheState}
use Rattle.wave_effects.specs.Plans.{plan_of}
use Rattle.wave_effects.specs.Showing.{IsLineOf}
use Rattle.wave_board.specs.declared.board.Board.{Board}
use Rattle.wave_board.specs.declared.origin.Origin.{Origin}
use Rattle.wave_board.specs.Boards.{IsAt}
use Rattle.wave_board.specs.Fresh.{AreNew, IsDue}
use Rattle.wave_board.specs.Taking.{IsFinished}
use Rattle.wave_board.proofs.Standing.{stands_of}

-- what a plan's run gives from a Start
abbrev whole : Plan → Start → Finished
whole plan start = finished_of (code_ran plan.program) plan.program.shape start plan.script

-- as many are done as are settled
pub done_is : (b : Board) (o : Origin) (s : TheState) → IsAt b o s → s.head.done ≡ length b.machine.kept.settled.results
done_is b o s h = ap (λ (x : Head Line). x.done) h.shows.head.head ∙ sym h.shows.results.as_many

module _ (b : Board) (o : Origin) (s : TheState) (written new : ℕ) (less : written ≤ s.head.done) (is : new ≡ s.head.done - written) where
  -- at the end some have to be new
  pub due_at_end : IsFinished b s → IsTrue (nat_lt 0 new) ↔ IsDue b o s written
  due_at_end finished = (
    (λ t. (let some : 0 < new = ltb-true 0 new t in omega (arith, some, is, less), inr finished)),
    (λ due. lt-ltb 0 new (let some = due.0 in omega (arith, some, is, less))),
  )

  -- before it many
  pub due_before_end : (IsFinished b s → ⊥) → IsTrue (nat_le 64 new) ↔ IsDue b o s written
  due_before_end goes_on = (
    (λ t. (let many : 64 ≤ new = leb-true 64 new t in omega (arith, many, is, less), let many : 64 ≤ new = leb-true 64 new t in inl (omega (arith, many, is, less)))),
    (λ due. elim due.1 [ inl many ↦ le-leb 64 new (omega (arith, many, is, less)) | inr finished ↦ absurd (goes_on finished) ]),
  )

-- lines of the machine are new lines
pub are_new : (b : Board) (o : Origin) (s : TheState) (h : IsAt b o s) (written : ℕ) (lines : List Shown) → length lines ≡ min 64 (length b.machine.kept.settled.results - written)
    → ((start : Start) (v : TheState) → Stands b.machine.kept start v → (i : ℕ) (x : Shown) → slice_get lines i ≡ Some x → IsLineOf (whole b.machine.kept.plan start) (written + i) x)
    → AreNew b o s written lines
are_new b o s h written lines count each = record {
  count = count ∙ ap (λ n. min 64 (n - written)) (sym (done_is b o s h));
  each = λ i x e. subst (λ p. IsLineOf (whole p o.start.now) (written + i) x) h.plan (each o.start.now s (stands_of b o s h) i x e);
}

-- what the machine gives at the end is what the name's run gives
pub told_for : (b : Board) (f : Finished) → ((start : Start) (v : TheState) → Stands b.machine.kept start v → f ≡ whole b.machine.kept.plan start) → (o : Origin) (s : TheState) → IsAt b o s → f ≡ whole (plan_of o.plan.now) o.start.now
told_for b f told o s h = subst (λ p. f ≡ whole p o.start.now) h.plan (told o.start.now s (stands_of b o s h))
