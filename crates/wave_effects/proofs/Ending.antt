-- When a run is finished, by what the machine keeps.
use Rattle.std.proofs.Common.{◌≡◌, ◌∙◌, ◌⊎◌, inl, inr, ℕ, zero, suc, ◌+◌, ◌-◌, ◌<◌, ◌≤◌, ◌&&◌, ◌==◌, Bool, true, false, List, [], ◌∷◌, ◌++◌, length, Option, Some, None, is_some, is_none, refl, sym, ap, subst, cond, true≢false, get_or, drop, arith}
use Rattle.std.specs.Prelude.{nat_lt, option_and_then, slice_get, All}
use Rattle.std.proofs.lemmas.Bool.{cases_lt}
use Rattle.std.proofs.lemmas.Bool.Decides.{nat_tests}
use Rattle.std.proofs.lemmas.List.{length-append}
use Rattle.std.proofs.lemmas.List.Elements.{All-nil, All-cons}
use Rattle.std.proofs.lemmas.Grind.{common_steps}
use Rattle.std.proofs.lemmas.Option.{slice_get-get_or, slice_get_within}
use Rattle.wave_base.proofs.Lists.{all_at}
use Rattle.wave_base.specs.declared.outcome.EventResult.{EventResult}
use Rattle.wave_base.specs.declared.path.Path.{Path}
use Rattle.wave_base.specs.declared.script.Line.{Line}
use Rattle.wave_base.specs.declared.start.Start.{Start}
use Rattle.wave_base.specs.Fold.{Head, Progress, Ran, begun, next_batch, next_job, one_more, with_job}
use Rattle.wave_base.specs.Tree.{Tree}
use Rattle.head_tickets.specs.Heads.{next_line}
use Rattle.event_cells.specs.declared.cell.Cell.{Cell}
use Rattle.event_cells.specs.declared.outbox.Envelope.{Envelope}
use Rattle.event_cells.specs.declared.status.Status.{Status}
use Rattle.event_cells.specs.declared.status.Status.TheVariants as status
use Rattle.event_cells.specs.Cells.{Carries, is_over, status_of}
use Rattle.event_cells.specs.Keeps.{is_empty, mail_in}
use Rattle.wave_states.specs.Alone.{fold_alone, run_alone}
use Rattle.wave_states.specs.Labels.{Act, Label, Admit, Commit, Queue, Grant, Visit, Start as Starting, Stop, Free, Pass, Land}
use Rattle.wave_states.specs.Runs.{Finished}
use Rattle.wave_states.specs.States as theory
use Rattle.wave_states.specs.States.{Hand, Event}
use Rattle.wave_states.specs.Steps.{act_bench, after_admit, only_if, part_of, step}
use Rattle.wave_theory.specs.Complete.{IsComplete}
use Rattle.wave_theory.proofs.Basics.{clash, none_not, number_self}
use Rattle.wave_theory.proofs.Opened.{frees, grants, lands, passes, queues, starts, visits}
use Rattle.code_actor.specs.CodeActors.{Fields}
use Rattle.plan_actors.specs.PlanActors as actors
use Rattle.plan_actors.specs.PlanActors.{plan_actors, plan_kind}
use Rattle.plan_actors.specs.Plans.{Plan, Fits, FitsStart, begin_in}
use Rattle.wave_effects.specs.declared.actor.Actor.{Actor}
use Rattle.wave_effects.specs.declared.kept.Out.{Out}
use Rattle.wave_effects.specs.Ending.{AllDone, is_done}
use Rattle.wave_effects.specs.Heading.{KnownHead}
use Rattle.wave_effects.specs.Machines.{IsCell, IsOut, IsReached, Kept, Known, Shows, Stands, TheState, event_as}
use Rattle.wave_effects.proofs.Calm.{grant_on}
use Rattle.wave_effects.proofs.CellParts.{same_event}
use Rattle.wave_effects.proofs.Headed.{admits}
use Rattle.wave_effects.proofs.Headings.{Heads, commit_order, known_is, next_is}
use Rattle.wave_effects.proofs.Opening.{free_found, grant_found, land_found, left_by, pass_found, queue_found, visit_found}
use Rattle.wave_effects.proofs.Pushing.{slice_past}
use Rattle.wave_effects.proofs.Reached.{admitted_is, mailed_is}
use Rattle.wave_effects.proofs.Taking.{Laws, after, now}

-- the law of complete states, as it is given
abbrev pub Completes : Type 0
Completes = (plan : Plan) (start : Start) (labels : List Label) (s : TheState) → Fits plan → FitsStart plan start → IsReached plan start labels s → Finished (plan_actors plan.program) plan.workers s → IsComplete (plan_kind plan.program plan.script.hosts) (begin_in plan start) plan.script.batches s

none_if : {X : Type 0} (o : Option X) → ((x : X) → o ≡ Some x → ⊥) → o ≡ None
none_if None h = refl
none_if (Some x) h = absurd (h x refl)

pub not_both : {X : Type 0} (o : Option X) (x : X) → o ≡ None → o ≡ Some x → ⊥
not_both o x e f = cc

-- what holds of each element at its place holds of all
pub all_from : {X : Type 0} (P : X → Type 0) (xs : List X) → ((i : ℕ) (x : X) → slice_get xs i ≡ Some x → P x) → All P xs
all_from P xs h = λ k d l. h k (get_or xs k d) (slice_get-get_or xs k d l)

pub over_is : (x : Status) → is_over x ≡ true → x ≡ status.Ended
over_is status.Travelling e = absurd (true≢false (sym e))
over_is (status.Waiting p) e = absurd (true≢false (sym e))
over_is (status.Ready p) e = absurd (true≢false (sym e))
over_is (status.Running p) e = absurd (true≢false (sym e))
over_is status.Ended e = refl

pub is_over_by : (x : Status) → status_of x ≡ theory.Ended → is_over x ≡ true
is_over_by status.Travelling e = cc
is_over_by (status.Waiting p) e = cc
is_over_by (status.Ready p) e = cc
is_over_by (status.Running p) e = cc
is_over_by status.Ended e = refl

-- no mail under any number is no mail
pub empty_mail : (mails : List (ℕ × Envelope)) (k : ℕ) → is_empty mails ≡ true → mail_in mails k ≡ None
empty_mail [] k e = refl
empty_mail (m ∷ ms) k e = absurd (true≢false (sym e))

-- and where each number has none, there is none
pub all_empty : (mails : List (ℕ × Envelope)) → ((k : ℕ) → mail_in mails k ≡ None) → is_empty mails ≡ true
all_empty [] h = refl
all_empty (m ∷ ms) h = absurd (first m ms (h m.0))
  where
    first : (m : ℕ × Envelope) (ms : List (ℕ × Envelope)) → mail_in (m ∷ ms) m.0 ≡ None → ⊥
    first m ms e = grind (arith, common_steps)

pub some_at : {X : Type 0} (xs : List X) (i : ℕ) → i < length xs → (x : X) × (slice_get xs i ≡ Some x)
some_at [] i l = absurd (omega (arith, l))
some_at (x ∷ xs) zero l = (x, refl)
some_at (x ∷ xs) (suc i) l = some_at xs i (omega (arith, l))

pub carries_none : (o : Option Envelope) (r : Option (theory.Mail Fields)) → Carries o r → o ≡ None → r ≡ None
carries_none None None c e = refl
carries_none None (Some m) c e = absurd c
carries_none (Some x) r c e = cc

pub none_carries : (o : Option Envelope) (r : Option (theory.Mail Fields)) → Carries o r → r ≡ None → o ≡ None
none_carries None r c e = refl
none_carries (Some x) None c e = absurd c
none_carries (Some x) (Some m) c e = cc

pub and_true : (a b : Bool) → a ≡ true → b ≡ true → (a && b) ≡ true
and_true a b e f = grind arith

pub and_left : (a b : Bool) → (a && b) ≡ true → a ≡ true
and_left a b e = grind arith

pub and_right : (a b : Bool) → (a && b) ≡ true → b ≡ true
and_right a b e = grind arith

out_none : (o : Option Out) (h : Option (Hand actors.Actor Fields)) → IsOut o h → o ≡ None → h ≡ None
out_none None None x e = refl
out_none None (Some h) x e = absurd x
out_none (Some o) h x e = cc

none_out : (o : Option Out) (h : Option (Hand actors.Actor Fields)) → IsOut o h → h ≡ None → o ≡ None
none_out None h x e = refl
none_out (Some o) None x e = absurd x
none_out (Some o) (Some h) x e = cc

batch_done : (h : Head Line) → (next_batch h).done ≡ h.done
batch_done h = by_test (nat_lt h.done (length h.known))
  where
    by_later : (bs : List (List Line)) → (begun h bs).done ≡ h.done
    by_later [] = refl
    by_later (b ∷ bs) = refl

    by_test : (c : Bool) → (cond c h (begun h h.later)).done ≡ h.done
    by_test true = refl
    by_test false = by_later h.later

next_done : (first : ℕ) (ran : ℕ → Tree Fields → Line → Ran Fields EventResult) (created : EventResult → List Line) (w : Progress Fields EventResult Line) (j : Line) → next_job w.head ≡ Some j → (one_more first ran created w).head.done ≡ suc w.head.done
next_done first ran created w j e = ap (λ o. (with_job first ran created w o).head.done) e ∙ batch_done (record { known = w.head.known ++ created (ran (first + w.head.done) w.tree j).result; later = w.head.later; done = suc w.head.done })

module _ (laws : Laws) (heads : Heads) (m : Kept) (start : Start) (s : TheState) (stands : Stands m start s) where
  h : Shows m s
  h = stands.shows

  known : Known m.plan start s
  known = now laws m start s stands

  the_cell : (t : ℕ) → s.before < t → t ≤ s.before + s.admitted → (c : Cell Actor) × (slice_get m.cells (t - m.first) ≡ Some c) × IsCell m.plan.program c (s.cells t)
  the_cell t low high =
      let i = t - m.first in
      let head = h.head in
      let many = h.cells.as_many in
      let place : m.first + i ≡ t = omega (arith, low, head.before) in
      let within : i < length m.cells = omega (arith, low, high, head.before, head.admitted, many) in
      at_cell i within place (slice_get m.cells i) refl
    where
      at_cell : (i : ℕ) → i < length m.cells → m.first + i ≡ t → (o : Option (Cell Actor)) → slice_get m.cells i ≡ o → (c : Cell Actor) × (slice_get m.cells i ≡ Some c) × IsCell m.plan.program c (s.cells t)
      at_cell i within place None e = absurd (past_end m.cells i within e)
        where
          past_end : {X : Type 0} (xs : List X) (i : ℕ) → i < length xs → slice_get xs i ≡ None → ⊥
          past_end [] i l e = absurd (omega (arith, l))
          past_end (x ∷ xs) zero l e = cc
          past_end (x ∷ xs) (suc i) l e = past_end xs i (omega (arith, l)) e
      at_cell i within place (Some c) e = (c, e, subst (λ n. IsCell m.plan.program c (s.cells n)) place (h.cells.each i c e))

  -- ---- all is done: then nothing can be

  module _ (done : AllDone m) where
    idle : (w : ℕ) → s.hands w ≡ None
    idle w = by_worker (cases_lt w (length m.hands))
      where
        by_worker : (w < length m.hands) ⊎ (length m.hands ≤ w) → s.hands w ≡ None
        by_worker (inl within) = by_hand (slice_get m.hands w) refl
          where
            by_hand : (o : Option (Option Out)) → slice_get m.hands w ≡ o → s.hands w ≡ None
            by_hand None e = absurd (past_end m.hands w within e)
              where
                past_end : {X : Type 0} (xs : List X) (i : ℕ) → i < length xs → slice_get xs i ≡ None → ⊥
                past_end [] i l e = absurd (omega (arith, l))
                past_end (x ∷ xs) zero l e = cc
                past_end (x ∷ xs) (suc i) l e = past_end xs i (omega (arith, l)) e
            by_hand (Some o) e = out_none o (s.hands w) (h.hands.each w o e) (all_at (λ (x : Option Out). x ≡ None) m.hands w o e done.idle)
        by_worker (inr past) = let many = h.hands.as_many in known.bounds.hands w (omega (arith, past, many))

    cell_done : (i : ℕ) (c : Cell Actor) → slice_get m.cells i ≡ Some c → is_done c ≡ true
    cell_done i c e = all_at (λ (x : Cell Actor). is_done x ≡ true) m.cells i c e done.done

    no_mail : (t k : ℕ) (x : theory.Mail Fields) → (s.cells t).mails k ≡ Some x → ⊥
    no_mail t k x e =
        let a = mailed_is (plan_kind m.plan.program m.plan.script.hosts) m.plan.workers (begin_in m.plan start) m.plan.script.batches s known.bounds t k x e in
        let c = the_cell t a.0 a.1 in
        let none = empty_mail c.0.outbox.mails k (and_right (is_over c.0.status) (is_empty c.0.outbox.mails) (cell_done (t - m.first) c.0 c.1)) in
        not_both ((s.cells t).mails k) x (c.2.mails k ∙ carries_none (mail_in c.0.outbox.mails k) (c.2.desk.mails k) (c.2.stands.mails k) none) e

    over : (t : ℕ) (e : Event actors.Actor) → (s.cells t).event ≡ Some e → (c : Cell Actor) × (slice_get m.cells (t - m.first) ≡ Some c) × (s.before < t) × (is_over c.status ≡ true) × (e.status ≡ theory.Ended)
    over t e is =
        let a = admitted_is (plan_kind m.plan.program m.plan.script.hosts) m.plan.workers (begin_in m.plan start) m.plan.script.batches s known.bounds t e is in
        let c = the_cell t a.0 a.1 in
        let ended = and_left (is_over c.0.status) (is_empty c.0.outbox.mails) (cell_done (t - m.first) c.0 c.1) in
        let same : e ≡ event_as c.2.desk.event = same_event e (event_as c.2.desk.event) (s.cells t).event is c.2.event in
        (c.0, c.1, a.0, ended, ap (λ (x : Event actors.Actor). x.status) same ∙ c.2.stands.status ∙ ap status_of (over_is c.0.status ended))

    module _ (w host : ℕ) (s' : TheState) where
      abbrev Taken : Act → Type 0
      Taken a = step (plan_actors m.plan.program) m.plan.workers s (record { worker = w; host = host; act = a }) ≡ Some s'

      refused : (a : Act) → Taken a → ⊥
      refused (Admit t) e =
          let a = admits (plan_actors m.plan.program) m.plan.workers s s' w host t e in
          not_both (next_line m.head) a.job done.none_next (next_is m s h a.job a.known)
      refused (Commit t) e =
          let order = commit_order laws m w host t start s s' stands e in
          let results = h.results.as_many in
          let cells = h.cells.as_many in
          absurd (omega (arith, order, results, cells, done.committed))
      refused (Queue t k p) e =
          let left = left_by (plan_actors m.plan.program) m.plan.workers s s' (record { worker = w; host = host; act = Queue t k p }) refl e in
          let calm = queue_found (plan_actors m.plan.program) host (part_of s t p) left.bench t k p (s.hands w) left.found in
          let v = queues (plan_actors m.plan.program) t k p host (part_of s t p) left.bench.part calm.part in
          no_mail t k v.letter_at.mail v.letter_at.mail_is
      refused (Grant t p) e =
          let l : Label = record { worker = w; host = host; act = Grant t p } in
          let left = left_by (plan_actors m.plan.program) m.plan.workers s s' l refl e in
          let calm = grant_found (plan_actors m.plan.program) host (part_of s t p) left.bench t 0 p (s.hands w) left.found in
          let v = grants t p host (part_of s t p) left.bench.part calm.part in
          let o = over t v.event v.event_is in
          let place : m.first + (t - m.first) ≡ t = omega (arith, o.2, h.head.before) in
          let next = laws m.plan start (stands.labels ++ l ∷ []) s' stands.fits stands.begins (after laws m start s stands l s' e) in
          clash (is_over o.0.status) o.3 (grant_on m (begin_in m.plan start) s s' t 0 p w host (t - m.first) o.0 o.0 h place o.1 known.agree next.agree e)
      refused (Visit t k p) e =
          let left = left_by (plan_actors m.plan.program) m.plan.workers s s' (record { worker = w; host = host; act = Visit t k p }) refl e in
          let calm = visit_found (plan_actors m.plan.program) host (part_of s t p) left.bench t k p (s.hands w) left.found in
          let v = visits k p host (part_of s t p) left.bench.part calm.part in
          no_mail t k v.letter_at.mail v.letter_at.mail_is
      refused (Starting t p) e =
          let left = left_by (plan_actors m.plan.program) m.plan.workers s s' (record { worker = w; host = host; act = Starting t p }) refl e in
          let found = subst (λ o. act_bench (plan_actors m.plan.program) (Starting t p) host (part_of s t p) o ≡ Some left.bench) (idle w) left.found in
          let v = starts t p host (part_of s t p) left.bench found in
          let o = over t v.event v.event_is in
          absurd (ready_ends p (sym v.ready ∙ o.4))
        where
          ready_ends : (p : Path) → theory.Ready p ≡ theory.Ended → ⊥
          ready_ends p e = cc
      refused (Stop t p) e =
          let left = left_by (plan_actors m.plan.program) m.plan.workers s s' (record { worker = w; host = host; act = Stop t p }) refl e in
          none_not (subst (λ o. act_bench (plan_actors m.plan.program) (Stop t p) host (part_of s t p) o ≡ Some left.bench) (idle w) left.found)
      refused (Free t k p) e =
          let left = left_by (plan_actors m.plan.program) m.plan.workers s s' (record { worker = w; host = host; act = Free t k p }) refl e in
          let calm = free_found (plan_actors m.plan.program) host (part_of s t p) left.bench t k p (s.hands w) left.found in
          let v = frees t k p host (part_of s t p) left.bench.part calm.part in
          no_mail t k v.letter_at.mail v.letter_at.mail_is
      refused (Pass t k p g) e =
          let left = left_by (plan_actors m.plan.program) m.plan.workers s s' (record { worker = w; host = host; act = Pass t k p g }) refl e in
          let calm = pass_found (plan_actors m.plan.program) host (part_of s t p) left.bench t k p g (s.hands w) left.found in
          let v = passes k g p host (part_of s t p) left.bench.part calm.part in
          no_mail t k v.letter_at.mail v.letter_at.mail_is
      refused (Land t k p) e =
          let left = left_by (plan_actors m.plan.program) m.plan.workers s s' (record { worker = w; host = host; act = Land t k p }) refl e in
          let calm = land_found (plan_actors m.plan.program) host (part_of s t p) left.bench t k p (s.hands w) left.found in
          let v = lands k p host (part_of s t p) left.bench.part calm.part in
          no_mail t k v.letter_at.mail v.letter_at.mail_is

    pub so_finished : Finished (plan_actors m.plan.program) m.plan.workers s
    so_finished = record {
      none = λ l. none_if (step (plan_actors m.plan.program) m.plan.workers s l) (λ s' e. refused l.worker l.host s' l.act e);
      idle = idle;
    }

  -- ---- a finished state: all is done

  module _ (completes : Completes) (finished : Finished (plan_actors m.plan.program) m.plan.workers s) where
    complete : IsComplete (plan_kind m.plan.program m.plan.script.hosts) (begin_in m.plan start) m.plan.script.batches s
    complete = completes m.plan start stands.labels s stands.fits stands.begins stands.reached finished

    known_head : KnownHead m.plan start s
    known_head = heads m.plan start stands.labels s stands.fits stands.begins stands.reached

    abbrev next_admit : Label
    next_admit = record { worker = 0; host = 0; act = Admit (suc (s.before + s.admitted)) }

    can_admit : (j : Line) → slice_get s.head.known s.admitted ≡ Some j → step (plan_actors m.plan.program) m.plan.workers s next_admit ≡ Some (after_admit (plan_actors m.plan.program) s (suc (s.before + s.admitted)) j)
    unfolding step
    can_admit j e =
        let t = suc (s.before + s.admitted) in
        let sys = plan_actors m.plan.program in
        let some : nat_lt 0 m.plan.workers ≡ true = first_worker m.plan.workers stands.fits.some_worker in
        ap (λ b. cond b (cond (is_none (s.hands 0)) (option_and_then (λ i. only_if ((0 == 0) && (t == t)) (after_admit sys s t i)) (slice_get s.head.known s.admitted)) None) None) some
        ∙ ap (λ b. cond b (option_and_then (λ i. only_if ((0 == 0) && (t == t)) (after_admit sys s t i)) (slice_get s.head.known s.admitted)) None) (ap is_none (finished.idle 0))
        ∙ ap (option_and_then (λ i. only_if ((0 == 0) && (t == t)) (after_admit sys s t i))) e
        ∙ ap (λ b. only_if b (after_admit sys s t j)) (and_true (0 == 0) (t == t) refl (number_self t))
      where
        first_worker : (n : ℕ) → 1 ≤ n → nat_lt 0 n ≡ true
        first_worker n l = grind (arith, nat_tests)

    none_next : next_line m.head ≡ None
    none_next = none_if (next_line m.head) (λ j e. not_both (step (plan_actors m.plan.program) m.plan.workers s next_admit) (after_admit (plan_actors m.plan.program) s (suc (s.before + s.admitted)) j) (finished.none next_admit) (can_admit j (there j e)))
      where
        there : (j : Line) → next_line m.head ≡ Some j → slice_get s.head.known s.admitted ≡ Some j
        there j e = ap (λ xs. slice_get xs s.admitted) (known_is m s h) ∙ ap (slice_get (h.head.lines ++ m.head.waiting)) (h.head.admitted ∙ sym h.head.as_many) ∙ slice_past h.head.lines m.head.waiting ∙ e

    committed : m.head.done ≡ m.head.admitted
    committed = by_order (cases_lt s.head.done s.admitted)
      where
        done_is : s.head.done ≡ m.head.done
        done_is = ap (λ (x : Head Line). x.done) h.head.head

        -- an admitted job that is not done is one more of the fold's
        less_not : s.head.done < s.admitted → ⊥
        less_not l =
            let b = begin_in m.plan start in
            let sys = plan_actors m.plan.program in
            let long : length s.head.known ≡ length h.head.lines + length m.head.waiting = ap length (known_is m s h) ∙ length-append h.head.lines m.head.waiting in
            let job = some_at s.head.known s.head.done (omega (arith, l, long, h.head.as_many, h.head.admitted)) in
            let w = fold_alone sys b m.plan.script.batches s.head.done in
            let next : next_job w.head ≡ Some job.0 = ap next_job (sym known_head.head) ∙ job.1 in
            let more : (fold_alone sys b m.plan.script.batches (suc s.head.done)).head.done ≡ suc s.head.done = next_done (suc b.before) (run_alone sys) sys.created w job.0 next ∙ ap suc (ap (λ (x : Head Line). x.done) (sym known_head.head)) in
            omega (arith, more, complete.committed (suc s.head.done))

        by_order : (s.head.done < s.admitted) ⊎ (s.admitted ≤ s.head.done) → m.head.done ≡ m.head.admitted
        by_order (inl less) = absurd (less_not less)
        by_order (inr most) = let a = known_head.in_time in let b = h.head.admitted in omega (arith, a, b, most, done_is)

    pub so_done : AllDone m
    so_done = record {
      idle = all_from (λ (o : Option Out). o ≡ None) m.hands (λ w o e. none_out o (s.hands w) (h.hands.each w o e) (finished.idle w));
      none_next = none_next;
      committed = h.results.as_many ∙ committed ∙ sym h.cells.as_many;
      done = all_from (λ (c : Cell Actor). is_done c ≡ true) m.cells each_done;
    }
      where
        each_done : (i : ℕ) (c : Cell Actor) → slice_get m.cells i ≡ Some c → is_done c ≡ true
        each_done i c e =
            let x : IsCell m.plan.program c (s.cells (m.first + i)) = h.cells.each i c e in
            let many = h.cells.as_many in
            let results = h.results.as_many in
            let within : i < length m.settled.results = omega (arith, slice_get_within m.cells i c e, many, results, committed) in
            let y = some_at m.settled.results i within in
            let ended = (known.agree.ended (m.first + i) (event_as x.desk.event) x.event).0 (ap is_some (h.results.settled i y.0 y.1)) in
            and_true (is_over c.status) (is_empty c.outbox.mails) (is_over_by c.status (sym x.stands.status ∙ ended))
            (all_empty c.outbox.mails (λ k. none_carries (mail_in c.outbox.mails k) (x.desk.mails k) (x.stands.mails k) (sym (x.mails k) ∙ complete.no_mails (m.first + i) k)))

-- where the first ones are so, all are where the rest is
pub all_past : {X : Type 0} (P : X → Type 0) (n : ℕ) (xs : List X) → ((i : ℕ) (x : X) → i < n → slice_get xs i ≡ Some x → P x) → All P (drop n xs) → All P xs
all_past P zero xs first rest = rest
all_past P (suc n) [] first rest = All-nil P
all_past P (suc n) (x ∷ xs) first rest = All-cons P x xs (first 0 x (omega arith) refl) (all_past P n xs (λ i y l at. first (suc i) y (omega (arith, l)) at) rest)
