-- What a machine begins with stands for the state that a run begins with.
use Rattle.std.proofs.Common.{◌≡◌, ◌∙◌, ◌+◌, ℕ, zero, suc, List, [], length, Option, Some, None, refl, sym, ap, subst, arith}
use Rattle.std.specs.FinMap as table
use Rattle.std.specs.Ordering.{nat_cmp}
use Rattle.std.specs.Prelude.{map, slice_get, take, All}
use Rattle.wave_base.specs.declared.start.Start.{Start}
use Rattle.wave_base.specs.Fold.{first_head, head_after, created_tickets}
use Rattle.event_cells.specs.declared.cell.JobKind.{JobKind}
use Rattle.wave_effects.specs.Kinds.{job_kind}
use Rattle.script_fold.specs.Runs.{ticket_of}
use Rattle.head_tickets.specs.Heads.{Heading, head_of}
use Rattle.commit_order.specs.Commits.{Committing}
use Rattle.event_cells.specs.declared.cell.Cell.{Cell}
use Rattle.host_map.specs.Stores.{Stores}
use Rattle.wave_states.specs.Begins.{column_at_start, start_state}
use Rattle.wave_states.specs.Runs.{run}
use Rattle.wave_base.proofs.Lists.{all_at}
use Rattle.plan_actors.specs.Plans.{Plan, Fits, FitsStart, begin_in}
use Rattle.plan_actors.proofs.Meeting.{one_before}
use Rattle.wave_effects.specs.declared.actor.Actor.{Actor}
use Rattle.wave_effects.specs.declared.kept.Out.{Out}
use Rattle.wave_effects.specs.declared.kept.Settled.{Settled}
use Rattle.wave_effects.specs.inner.Beginnings.{AreAt}
use Rattle.wave_effects.specs.Machines.{created_in, IsOut, IsReached, Stands, TheState}

nothing_in : {X : Type 0} (xs : List X) (i : ℕ) (x : X) → xs ≡ [] → slice_get xs i ≡ Some x → ⊥
nothing_in xs i x e f = none_there i x (sym (ap (λ ys. slice_get ys i) e) ∙ f)
  where
    none_there : {X : Type 0} (j : ℕ) (c : X) → slice_get [] j ≡ Some c → ⊥
    none_there zero c e = cc
    none_there (suc j) c e = cc

module _ (plan : Plan) (start : Start) (fits : Fits plan) (begins : FitsStart plan start) where
  abbrev pub the_start : TheState
  the_start = start_state (begin_in plan start) plan.script.batches

  no_labels : IsReached plan start [] the_start
  unfolding run
  no_labels = refl

  -- with nothing admitted, all contexts at their places, and nothing out
  pub begun : (head : Heading) (commits : Committing) (kinds : List JobKind) (results : List Settled) (cells : List (Cell Actor)) (stores : List Stores) (hands : List (Option Out))
      → head_of [] head ≡ first_head plan.script.batches → head.first ≡ start.next.0 → head.admitted ≡ 0 → head.done ≡ 0 → commits.committed + 1 ≡ start.next.0 → commits.results ≡ table.empty
      → kinds ≡ [] → results ≡ [] → cells ≡ [] → length stores ≡ plan.script.hosts → AreAt stores (column_at_start (begin_in plan start)) → length hands ≡ plan.workers → All (λ o. o ≡ None) hands
      → Stands (record { plan = plan; first = start.next.0; head = head; commits = commits; settled = record { kinds = kinds; results = results }; cells = cells; stores = stores; hands = hands }) start the_start
  begun head commits kinds results cells stores hands fold first admitted done committed none no_kinds no_results no_cells many at hands_many idle = record {
    fits = fits;
    begins = begins;
    labels = [];
    reached = no_labels;
    shows = record {
      head = record { lines = []; as_many = sym admitted; head = sym fold; admitted = sym admitted; before = one_before start.next.0 begins.first_next; first = first };
      cells = record { as_many = ap length no_cells ∙ sym admitted; each = λ i c e. absurd (nothing_in cells i c no_cells e) };
      results = record {
        as_many = ap length no_results ∙ sym done;
        next = omega (arith, committed, done);
        settled = λ i x e. absurd (nothing_in results i x no_results e);
        ended = λ t l. sym (ap (λ z. table.get z t) none ∙ table.get-empty nat_cmp t);
        ledger = record {
          kinds = no_kinds ∙ sym (ap (λ n. map job_kind (take n the_start.head.known)) admitted);
          head = sym (ap (λ xs. head_after (first_head plan.script.batches) (created_in xs)) no_results);
          made = ap (map (λ (x : Settled). x.made)) no_results ∙ sym (ap (λ xs. map (map ticket_of) (created_tickets start.next.0 (first_head plan.script.batches) (created_in xs))) no_results);
        };
      };
      stores = record { as_many = many; each = at };
      hands = record { as_many = hands_many; each = λ w o e. subst (λ z. IsOut z None) (sym (all_at (λ (o : Option Out). o ≡ None) hands w o e idle)) tt };
    };
  }
