-- What the worker that writes knows when it has asked for lines.
use Rattle.std.proofs.Common.{◌≡◌, ◌∙◌, ◌↔◌, ◌<◌, ◌≤◌, ◌+◌, ◌^◌, inl, inr, ℕ, List, [], Option, Some, None, Ok, Err, Result, sym, ap, subst, length, arith}
use Rattle.std.specs.Prelude.{option_and_then}
use Rattle.std.specs.Option.{option_map_or}
use Rattle.std.proofs.lemmas.Bool.{cases_lt}
use Rattle.std.proofs.lemmas.List.{length-append}
use Rattle.wave_base.specs.declared.finished.Finished as declared
use Rattle.wave_base.specs.declared.memory.OutOfMemory.{OutOfMemory}
use Rattle.wave_base.specs.declared.numbers.Worker.{Worker}
use Rattle.wave_base.specs.declared.script.Line.{Line}
use Rattle.wave_base.specs.declared.shown.Shown.{Shown}
use Rattle.wave_base.specs.declared.start.Start.{Start}
use Rattle.wave_base.specs.Fold.{Head}
use Rattle.kept_lock.specs.declared.view.Known.{Known}
use Rattle.kept_lock.specs.History.{Adds, StartsWith}
use Rattle.kept_lock.specs.Knowing.{pass_inside, left_at}
use Rattle.listing_out.specs.Parts.{IsShownAt}
use Rattle.script_fold.specs.Runs.{finished_of}
use Rattle.plan_actors.specs.Calls.{code_ran}
use Rattle.plan_actors.specs.Finishing.{Tells}
use Rattle.plan_actors.specs.PlanActors.{plan_actors}
use Rattle.plan_actors.specs.Plans.{Plan, Fits, FitsStart}
use Rattle.wave_states.specs.Labels.{Label}
use Rattle.wave_states.specs.Runs as runs
use Rattle.wave_effects.specs.Heading.{KnownHead}
use Rattle.wave_effects.specs.Machines.{IsReached, TheState}
use Rattle.wave_effects.specs.Showing.{IsLineOf}
use Rattle.wave_board.specs.declared.board.Board.{Board}
use Rattle.wave_board.specs.declared.origin.Origin.{Origin}
use Rattle.wave_board.specs.declared.trail.Trail.{Trail}
use Rattle.wave_board.specs.Boards.{IsAt, StandsStill, history_of, labels_of, owner_of}
use Rattle.wave_board.specs.Fresh.{TellsFresh}
use Rattle.wave_board.specs.Staying.{ResultsStay}
use Rattle.wave_board.specs.Taking.{IsFinished}
use Rattle.host_workers.specs.declared.offer.Offer.{Offer}
use Rattle.host_workers.specs.declared.offer.Offer.TheVariants.{Lines, Task}
use Rattle.host_workers.specs.declared.task.Task.TheVariants.{Segment, Again, Rest, Finished, Stopped}
use Rattle.host_workers.specs.Passes.{GoesOn, IsReady}
use Rattle.host_workers.specs.inner.Visits.{HasFound, TellsTo}
use Rattle.host_workers.specs.inner.Writing.{AreCommitted, AreNext, AreToldOf, MayWrite, Offered, WroteAll, told_of}
use Rattle.host_workers.proofs.Asking as asking
use Rattle.host_workers.proofs.Visiting.{Finds, adds_none}

-- what the laws say that an offer rests on
pub record Laws : Type 0 where
  pub tell : (plan : Plan) (start : Start) → Fits plan → FitsStart plan start → (labels : List Label) (s : TheState) → IsReached plan start labels s → runs.Finished (plan_actors plan.program) plan.workers s → (f : declared.Finished) → Tells s start plan.script.batches f ↔ (f ≡ finished_of (code_ran plan.program) plan.program.shape start plan.script)
  pub heads : (plan : Plan) (start : Start) (labels : List Label) (s : TheState) → Fits plan → FitsStart plan start → IsReached plan start labels s → KnownHead plan start s
  pub results : ResultsStay

not_below : (a b : ℕ) → (a < b → ⊥) → b ≤ a
not_below a b h = elim (cases_lt a b) [ inl l ↦ absurd (h l) | inr l ↦ l ]

-- a line of the run stands at its place
pub line_stands : (done : declared.Finished) (i : ℕ) (x : Shown) → IsLineOf done i x → IsShownAt done i x
line_stands done i x h = record {
  name = ap (option_and_then (λ n. n)) h.name;
  result = h.result;
  made = ap (λ m. option_map_or (λ ts. ts) m []) h.made;
}

module _ (laws : Laws) (o : Origin) (k : Known Trail) (w : Worker) (ready : IsReady o k w) (written : ℕ) (there : AreCommitted o k written) (y : Board) (meets : Finds o k y) where
  abbrev pub s : TheState
  s = meets.stands_for_name.0

  abbrev pub at : IsAt y o s
  at = meets.stands_for_name.1

  committed : written ≤ s.head.done
  committed = there y s at meets.agrees.0

  reached : IsReached y.machine.kept.plan o.start.now (labels_of y) s
  reached = at.reached

  head : KnownHead y.machine.kept.plan o.start.now s
  head = laws.heads y.machine.kept.plan o.start.now (labels_of y) s at.fits at.begins at.reached

  -- committed tickets are known ones
  few : o.start.now.next.0 + s.head.done ≤ 2 ^ 32
  few =
      let x = at.shows.head in
      let all : length s.head.known ≡ length x.lines + length y.machine.kept.head.waiting = ap (λ (v : Head Line). length v.known) x.head ∙ length-append x.lines y.machine.kept.head.waiting in
      let many = x.as_many in
      let admitted = x.admitted in
      let in_time = head.in_time in
      let room = head.room in
      omega (arith, all, many, admitted, in_time, room)

  -- where the run is finished as many are committed as it gives results
  all_done : IsFinished y s → length (told_of o).results ≡ s.head.done
  all_done f =
      let told : Tells s o.start.now y.machine.kept.plan.script.batches (told_of o) = (laws.tell y.machine.kept.plan o.start.now at.fits at.begins (labels_of y) s at.reached f (told_of o)).1
      (ap (λ (p : Plan). finished_of (code_ran p.program) p.program.shape o.start.now p.script) (sym at.plan)) in
      told.count

  -- the next lines
  next : (k' : Known Trail) (z : Board) → k'.seen ≡ history_of z → (lines : List Shown) → TellsFresh y written (Some lines) → history_of z ≡ history_of y → AreNext o k' written lines
  next k' z seen_is lines tells h =
      let t = tells o s at in
      let due : written < s.head.done = t.0.0 in
      let count = t.1.count in
      let more : written + length lines ≤ s.head.done = omega (arith, count, due) in
      let from = head.first in
      record {
        shown = λ i x e. line_stands (told_of o) (written + i) x (t.1.each i x e);
        committed = λ b s' at' on. (let stays = laws.results o y b s s' at at' (subst (StartsWith (history_of b)) (seen_is ∙ h) on) in omega (arith, stays, more));
        some = omega (arith, count, due);
        from_one = omega (arith, from);
        few = (let f = few in omega (arith, f, more));
      }

  -- where it is finished and no lines are due all are written
  all_told : TellsFresh y written None → IsFinished y s → written ≡ length (told_of o).results
  all_told tells finished =
      let none : s.head.done ≤ written = not_below written s.head.done (λ l. tells o s at (l, inr finished)) in
      let count = all_done finished in
      let c = committed in
      omega (arith, none, count, c)

no_lines : (lines : List Shown) → Some lines ≡ None → ⊥
no_lines lines e = cc

module _ (laws : Laws) (o : Origin) (k : Known Trail) (w : Worker) (ready : IsReady o k w) (y : Board) (meets : Finds o k y) (z : Board) (still : StandsStill y z) where
  pub adds_found : (written : Option ℕ) (r : Result Offer OutOfMemory) → HasFound y w z written r → Adds owner_of k.number (history_of y) (history_of z)
  adds_found written (Ok (Lines lines)) h = adds_none k.number (history_of y) (history_of z) h.1
  adds_found written (Ok (Task task)) h = asking.adds o k w ready y meets z still (Ok task) h.1
  adds_found written (Err e) h = adds_none k.number (history_of y) (history_of z) h

  module _ (k' : Known Trail) (is : k' ≡ left_at (pass_inside k (history_of y)) (history_of z)) where
    may_write : (written : Option ℕ) → AreToldOf o k written → (lines : List Shown) → TellsTo y written (Some lines) → history_of z ≡ history_of y → MayWrite o k' written lines
    may_write None there lines tells h = no_lines lines tells
    may_write (Some n) there lines tells h = next laws o k w ready n there y meets k' z (ap (λ (x : Known Trail). x.seen) is) lines tells h

    wrote_all : (written : Option ℕ) → AreToldOf o k written → TellsTo y written None → IsFinished y meets.stands_for_name.0 → WroteAll o written
    wrote_all None there tells finished = tt
    wrote_all (Some n) there tells finished = all_told laws o k w ready n there y meets tells finished

    pub offered : (written : Option ℕ) → AreToldOf o k written → (r : Result Offer OutOfMemory) → HasFound y w z written r → GoesOn k k' × Offered o k' w written r
    offered written there (Ok (Lines lines)) h = (let g = asking.goes_still o k w ready y meets z still k' is h.1 in (g.0, (g.1, may_write written there lines h.0 h.1)))
    offered written there (Ok (Task (Segment lease))) h = asking.asked o k w ready y meets z still k' is (Ok (Segment lease)) h.1
    offered written there (Ok (Task Again)) h = asking.asked o k w ready y meets z still k' is (Ok Again) h.1
    offered written there (Ok (Task Rest)) h = asking.asked o k w ready y meets z still k' is (Ok Rest) h.1
    offered written there (Ok (Task Finished)) h =
        let a = asking.asked o k w ready y meets z still k' is (Ok Finished) h.1 in
        (a.0, (a.1, wrote_all written there h.0 (h.1.1 o meets.stands_for_name.0 meets.stands_for_name.1)))
    offered written there (Ok (Task (Stopped why))) h = asking.asked o k w ready y meets z still k' is (Ok (Stopped why)) h.1
    offered written there (Err e) h = asking.asked o k w ready y meets z still k' is (Err e) h
