-- What is kept of a committed ticket is what the whole run gives of it.
use Rattle.std.proofs.Common.{◌≡◌, ◌∙◌, ℕ, zero, suc, ◌+◌, ◌-◌, ◌≤◌, List, [], ◌∷◌, ◌++◌, length, map, Option, Some, None, refl, sym, ap, ap₂, arith}
use Rattle.std.specs.Prelude.{option_map, slice_get, take}
use Rattle.std.proofs.lemmas.List.{length-map}
use Rattle.std.proofs.Math.Seq.{take-append_seam}
use Rattle.std.proofs.lemmas.Option.{slice_get-map, slice_get_within}
use Rattle.wave_base.specs.declared.outcome.EventResult.{EventResult}
use Rattle.wave_base.specs.declared.script.Line.{Line}
use Rattle.wave_base.specs.declared.start.Start.{Start}
use Rattle.event_cells.specs.declared.cell.JobKind.{JobKind}
use Rattle.wave_base.specs.Fold.{Head, Progress, Ran, created_lines, first_head, head_after, created_tickets, next_job, one_more, tickets_of, with_done, with_job}
use Rattle.wave_base.specs.Tree.{Tree}
use Rattle.script_fold.specs.Lines.{name_of}
use Rattle.script_fold.specs.Runs.{finished_of, ticket_of, whole_run}
use Rattle.wave_states.specs.Alone.{fold_alone, job_after, run_alone}
use Rattle.wave_theory.specs.Results.{Results, Tickets}
use Rattle.wave_theory.proofs.Basics.{map_some, none_not, some_same}
use Rattle.wave_theory.proofs.Folds.{slice_append}
use Rattle.code_actor.specs.CodeActors.{Fields}
use Rattle.plan_actors.specs.Calls.{code_ran}
use Rattle.plan_actors.specs.PlanActors.{plan_actors, plan_kind}
use Rattle.plan_actors.specs.Plans.{Plan, begin_in}
use Rattle.plan_actors.proofs.Meeting.{one_before}
use Rattle.wave_effects.specs.declared.kept.Settled.{Settled}
use Rattle.wave_base.specs.declared.shown.Shown.{Shown}
use Rattle.wave_effects.specs.Heading.{KnownHead}
use Rattle.wave_effects.specs.inner.Lines.{IsKept}
use Rattle.wave_effects.specs.Kinds.{job_kind, name_in}
use Rattle.wave_effects.specs.Machines.{Kept, Shows, Stands, TheState, created_in}
use Rattle.wave_effects.specs.Showing.{IsLineOf}
use Rattle.wave_effects.proofs.Headings.{Heads, known_is}
use Rattle.wave_effects.proofs.Telling.{name_is}

slice_take : {X : Type 0} (n : ℕ) (xs : List X) (i : ℕ) (x : X) → slice_get (take n xs) i ≡ Some x → slice_get xs i ≡ Some x
slice_take zero [] zero x e = absurd (none_not e)
slice_take zero [] (suc i) x e = absurd (none_not e)
slice_take (suc n) [] zero x e = absurd (none_not e)
slice_take (suc n) [] (suc i) x e = absurd (none_not e)
slice_take zero (y ∷ ys) zero x e = absurd (none_not e)
slice_take zero (y ∷ ys) (suc i) x e = absurd (none_not e)
slice_take (suc n) (y ∷ ys) zero x e = e
slice_take (suc n) (y ∷ ys) (suc i) x e = slice_take n ys i x e

-- what is created by more results than these begins with what these create
created_front : (rs : List Settled) (ws : List EventResult) → ((i : ℕ) (y : Settled) → slice_get rs i ≡ Some y → slice_get ws i ≡ Some y.result) → (zs : List (List Line)) × (map created_lines ws ≡ created_in rs ++ zs)
created_front [] ws h = (map created_lines ws, refl)
created_front (r ∷ rs) [] h = absurd (none_not (h 0 r refl))
created_front (r ∷ rs) (w ∷ ws) h =
    let rest = created_front rs ws (λ i y e. h (suc i) y e) in
    (rest.0, ap₂ (λ c cs. c ∷ cs) (ap created_lines (some_same w r.result (h 0 r refl))) rest.1)

made_append : (first : ℕ) (h : Head Line) (cs ds : List (List Line)) → created_tickets first h (cs ++ ds) ≡ created_tickets first h cs ++ created_tickets first (head_after h cs) ds
made_append first h [] ds = refl
made_append first h (c ∷ cs) ds = ap (λ ts. tickets_of first h c ∷ ts) (made_append first (with_done h c) cs ds)

-- a fold that is over stays as it is
stays : (first : ℕ) (ran : ℕ → Tree Fields → Line → Ran Fields EventResult) (created : EventResult → List Line) (w : Progress Fields EventResult Line) → next_job w.head ≡ None → one_more first ran created w ≡ w
stays first ran created w e = ap (with_job first ran created w) e

module _ (plan : Plan) (start : Start) where
  pub over_stays : (d n : ℕ) → job_after (plan_actors plan.program) (begin_in plan start) plan.script.batches n ≡ None → (fold_alone (plan_actors plan.program) (begin_in plan start) plan.script.batches (d + n)) ≡ fold_alone (plan_actors plan.program) (begin_in plan start) plan.script.batches n
  over_stays zero n e = let same : zero + n ≡ n = omega arith in ap (fold_alone (plan_actors plan.program) (begin_in plan start) plan.script.batches) same
  over_stays (suc d) n e =
      let sys = plan_actors plan.program in
      let b = begin_in plan start in
      let more : suc d + n ≡ suc (d + n) = omega arith in
      ap (fold_alone sys b plan.script.batches) more ∙ ap (one_more (suc b.before) (run_alone sys) sys.created) (over_stays d n e) ∙ stays (suc b.before) (run_alone sys) sys.created (fold_alone sys b plan.script.batches n) e

module _ (m : Kept) (start : Start) (s : TheState) (stands : Stands m start s) (known : KnownHead m.plan start s) (results : Results (plan_kind m.plan.program m.plan.script.hosts) (begin_in m.plan start) m.plan.script.batches s) (tickets : Tickets (plan_kind m.plan.program m.plan.script.hosts) (begin_in m.plan start) m.plan.script.batches s)
    (n : ℕ) (later : s.head.done ≤ n) (whole : fold_alone (plan_actors m.plan.program) (begin_in m.plan start) m.plan.script.batches n ≡ whole_run (code_ran m.plan.program) m.plan.program.shape start m.plan.script) where
  h : Shows m s
  h = stands.shows

  first_is : m.first ≡ start.next.0
  first_is = sym h.head.before ∙ known.first

  one_result : (i : ℕ) (y : Settled) → slice_get m.settled.results i ≡ Some y → slice_get (whole_run (code_ran m.plan.program) m.plan.program.shape start m.plan.script).results i ≡ Some y.result
  one_result i y e =
      let many = h.results.as_many in
      let done : s.head.done ≡ m.head.done = ap (λ (x : Head Line). x.done) h.head.head in
      let r = results n i later (omega (arith, slice_get_within m.settled.results i y e, many, done)) in
      let place : m.first + i ≡ suc (start.next.0 - 1) + i = ap (λ k. k + i) (first_is ∙ sym (one_before start.next.0 stands.begins.first_next)) in
      let same : r.0 ≡ y.result = both (s.cells (m.first + i)).result r.0 y.result (ap (λ k. (s.cells k).result) place ∙ r.1) (h.results.settled i y e) in
      ap (λ (w : Progress Fields EventResult Line). slice_get w.results i) (sym whole) ∙ r.2 ∙ ap Some same
    where
      both : (o : Option EventResult) (a b : EventResult) → o ≡ Some a → o ≡ Some b → a ≡ b
      both o a b p q = cc

  one_name : (i : ℕ) (kind : JobKind) → slice_get m.settled.kinds i ≡ Some kind → slice_get (map name_of (whole_run (code_ran m.plan.program) m.plan.program.shape start m.plan.script).head.known) i ≡ Some (name_in kind)
  one_name i kind e =
      let x = map_some job_kind (slice_get (take m.head.admitted s.head.known) i) kind (sym (slice_get-map job_kind (take m.head.admitted s.head.known) i) ∙ ap (λ xs. slice_get xs i) (sym h.results.ledger.kinds) ∙ e) in
      let there = tickets.stay n i x.0 later (slice_take m.head.admitted s.head.known i x.0 x.1) in
      slice_get-map name_of (whole_run (code_ran m.plan.program) m.plan.program.shape start m.plan.script).head.known i
      ∙ ap (option_map name_of) (ap (λ (w : Progress Fields EventResult Line). slice_get w.head.known i) (sym whole) ∙ there) ∙ ap Some (sym (name_is x.0) ∙ ap name_in (sym x.2))

  one_made : (i : ℕ) (y : Settled) → slice_get m.settled.results i ≡ Some y
      → slice_get (map (map ticket_of) (created_tickets start.next.0 (first_head m.plan.script.batches) (map created_lines (whole_run (code_ran m.plan.program) m.plan.program.shape start m.plan.script).results))) i ≡ Some y.made
  one_made i y e =
      let fh = first_head m.plan.script.batches in
      let ws = (whole_run (code_ran m.plan.program) m.plan.program.shape start m.plan.script).results in
      let cs = created_in m.settled.results in
      let front = created_front m.settled.results ws one_result in
      let ours : slice_get (map (map ticket_of) (created_tickets m.first fh cs)) i ≡ Some y.made =
      ap (λ ts. slice_get ts i) (sym h.results.ledger.made) ∙ slice_get-map (λ (x : Settled). x.made) m.settled.results i ∙ ap (option_map (λ (x : Settled). x.made)) e in
      let t = map_some (map ticket_of) (slice_get (created_tickets m.first fh cs) i) y.made (sym (slice_get-map (map ticket_of) (created_tickets m.first fh cs) i) ∙ ours) in
      let more : slice_get (created_tickets start.next.0 fh (map created_lines ws)) i ≡ Some t.0 =
      ap₂ (λ k ds. slice_get (created_tickets k fh ds) i) (sym first_is) front.1 ∙ ap (λ ts. slice_get ts i) (made_append m.first fh cs front.0) ∙ slice_append (created_tickets m.first fh cs) (created_tickets m.first (head_after fh cs) front.0) i t.0 t.1 in
      slice_get-map (map ticket_of) (created_tickets start.next.0 fh (map created_lines ws)) i ∙ ap (option_map (map ticket_of)) more ∙ ap Some (sym t.2)

  pub line_is : (i : ℕ) (x : Shown) → IsKept m.settled.results m.settled.kinds i x → IsLineOf (finished_of (code_ran m.plan.program) m.plan.program.shape start m.plan.script) i x
  line_is i x is = record {
    name = one_name i is.kind is.job ∙ ap Some (sym is.name);
    result = one_result i is.kept is.at ∙ ap Some (sym is.result);
    made = one_made i is.kept is.at ∙ ap Some (sym is.made);
  }

-- each committed ticket has a kind
pub kinds_many : (heads : Heads) (m : Kept) (start : Start) (s : TheState) → Stands m start s → length m.settled.results ≤ length m.settled.kinds
kinds_many heads m start s stands =
    let h = stands.shows in
    let lines = h.head.lines in
    let known = heads m.plan start stands.labels s stands.fits stands.begins stands.reached in
    let kinds : m.settled.kinds ≡ map job_kind lines = h.results.ledger.kinds ∙ ap (λ xs. map job_kind (take m.head.admitted xs)) (known_is m s h) ∙ ap (λ n. map job_kind (take n (lines ++ m.head.waiting))) (sym h.head.as_many) ∙ ap (map job_kind) (take-append_seam lines m.head.waiting) in
    let many : length m.settled.kinds ≡ m.head.admitted = ap length kinds ∙ length-map lines job_kind ∙ h.head.as_many in
    let done : s.head.done ≡ m.head.done = ap (λ (x : Head Line). x.done) h.head.head in
    omega (arith, many, h.results.as_many, done, known.in_time, h.head.admitted)
