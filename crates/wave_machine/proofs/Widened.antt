-- One worker more: what labels lead to they lead to with it too, and it has nothing in hand.
use Rattle.std.proofs.Common.{◌≡◌, ◌∙◌, ℕ, zero, suc, ◌≤◌, Bool, true, false, List, [], ◌∷◌, ◌++◌, length, Option, Some, None, refl, sym, ap, subst, arith}
use Rattle.std.specs.Prelude.{if◌then◌else◌, nat_lt, option_and_then, slice_get}
use Rattle.std.proofs.lemmas.Bool.Decides.{nat_tests}
use Rattle.wave_base.specs.declared.start.Start.{Start}
use Rattle.wave_states.specs.Actors.{Actors}
use Rattle.wave_states.specs.Labels.{Label}
use Rattle.wave_states.specs.Runs.{run}
use Rattle.wave_states.specs.States.{Hand, State}
use Rattle.wave_states.specs.Steps.{step, step_by}
use Rattle.wave_theory.proofs.Basics.{none_not, some_same, then_some}
use Rattle.code_actor.specs.CodeActors.{Fields}
use Rattle.plan_actors.specs.PlanActors as actors
use Rattle.plan_actors.specs.Plans.{Plan}
use Rattle.wave_effects.specs.declared.kept.Out.{Out}
use Rattle.wave_effects.specs.Machines.{IsOut, Kept, Shows, TheState}
use Rattle.wave_machine.specs.inner.Listable.{CanList, one_more}
use Rattle.wave_machine.proofs.ListingCells.{slice_after}

-- a plan with so many workers
abbrev pub with_workers : Plan → ℕ → Plan
with_workers plan n = record { program = plan.program; script = plan.script; workers = n }

below_more : (w n : ℕ) → nat_lt w n ≡ true → nat_lt w (suc n) ≡ true
below_more w n e = grind (arith, nat_tests)

module _ {A F R J : Type 0} (sys : Actors A F R J) (n : ℕ) where
  step_wider : (s s' : State A F R J) (l : Label) → step sys n s l ≡ Some s' → step sys (suc n) s l ≡ Some s'
  unfolding step
  step_wider s s' l e = by_test (nat_lt l.worker n) refl e
    where
      by_test : (b : Bool) → nat_lt l.worker n ≡ b → (if b then step_by sys s l.worker l.host l.act else None) ≡ Some s' → (if nat_lt l.worker (suc n) then step_by sys s l.worker l.host l.act else None) ≡ Some s'
      by_test true z k = ap (λ b. if b then step_by sys s l.worker l.host l.act else None) (below_more l.worker n z) ∙ k
      by_test false z k = absurd (none_not k)

  pub run_wider : (ls : List Label) (s s' : State A F R J) → run sys n s ls ≡ Some s' → run sys (suc n) s ls ≡ Some s'
  unfolding run
  run_wider [] s s' e = e
  run_wider (l ∷ ls) s s' e =
      let u = then_some (λ u. run sys n u ls) (step sys n s l) s' e in
      ap (option_and_then (λ x. run sys (suc n) x ls)) (step_wider s u.0 l u.1) ∙ run_wider ls u.0 s' u.2

-- what is kept, with one worker more who is idle
abbrev pub wider : Kept → Kept
wider m = record { plan = one_more m.plan; first = m.first; head = m.head; commits = m.commits; settled = m.settled; cells = m.cells; stores = m.stores; hands = m.hands ++ None ∷ [] }

length_more : (outs : List (Option Out)) → length (outs ++ None ∷ []) ≡ suc (length outs)
length_more [] = refl
length_more (o ∷ outs) = ap suc (length_more outs)

hands_wider : (outs : List (Option Out)) (hands : ℕ → Option (Hand actors.Actor Fields)) → hands (length outs) ≡ None → ((w : ℕ) (o : Option Out) → slice_get outs w ≡ Some o → IsOut o (hands w)) → (w : ℕ) (o : Option Out) → slice_get (outs ++ None ∷ []) w ≡ Some o → IsOut o (hands w)
hands_wider [] hands none each zero o e = subst (λ x. IsOut x (hands 0)) (some_same None o e) (subst (IsOut None) (sym none) tt)
hands_wider [] hands none each (suc w) o e = absurd (none_not e)
hands_wider (x ∷ outs) hands none each zero o e = each zero o e
hands_wider (x ∷ outs) hands none each (suc w) o e = hands_wider outs (λ v. hands (suc v)) none (λ v o e. each (suc v) o e) w o e

module _ (m : Kept) (start : Start) (s : TheState) (shows : Shows m s) where
  pub shows_wider : CanList m.plan start s → Shows (wider m) s
  shows_wider list =
      let many = shows.hands.as_many in
      let far : m.plan.workers ≤ length m.hands = omega (arith, many) in
      record {
        head = record { lines = shows.head.lines; as_many = shows.head.as_many; head = shows.head.head; admitted = shows.head.admitted; before = shows.head.before; first = shows.head.first };
        cells = record { as_many = shows.cells.as_many; each = shows.cells.each };
        results = record {
          as_many = shows.results.as_many;
          next = shows.results.next;
          settled = shows.results.settled;
          ledger = record { kinds = shows.results.ledger.kinds; head = shows.results.ledger.head; made = shows.results.ledger.made };
          ended = shows.results.ended;
        };
        stores = record { as_many = shows.stores.as_many; each = shows.stores.each };
        hands = record { as_many = length_more m.hands ∙ ap suc many; each = hands_wider m.hands s.hands (list.known.bounds.hands (length m.hands) far) shows.hands.each };
      }

  -- that worker is idle
  pub one_idle : slice_get (wider m).hands m.plan.workers ≡ Some None
  one_idle = ap (slice_get (m.hands ++ None ∷ [])) (sym shows.hands.as_many) ∙ slice_after m.hands (None ∷ [])
