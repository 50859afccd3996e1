-- A Start: what it found, what the machine stands for after it, and what it leased out.
use Rattle.std.proofs.Common.{◌≡◌, ◌∙◌, ℕ, ◌+◌, ◌-◌, ◌<◌, ◌≤◌, Bool, true, false, List, [], ◌∷◌, ◌++◌, length, is_some, Option, Some, None, refl, sym, ap, subst, zero-add, arith}
use Rattle.std.specs.Prelude.{nat_eq, nat_lt, slice_get, slice_set, option_map}
use Rattle.std.specs.FinMap as table
use Rattle.std.proofs.lemmas.Bool.Decides.{nat_tests}
use Rattle.std.proofs.lemmas.List.{length-set}
use Rattle.wave_base.specs.declared.outcome.EventResult.{EventResult}
use Rattle.wave_base.specs.declared.path.Path.{Path}
use Rattle.wave_base.specs.declared.record.Record.{Record}
use Rattle.service_code.specs.declared.program.Program.{Program}
use Rattle.context_queue.specs.declared.entry.Entry.{Entry}
use Rattle.context_queue.specs.Entries.{StandsFor as EntryStands, record_of}
use Rattle.host_map.specs.Stores.{Stores, has}
use Rattle.event_cells.specs.declared.cell.Cell.{Cell}
use Rattle.event_cells.specs.Cells.{StandsFor, is_over, with_actor}
use Rattle.code_actor.specs.CodeActors.{Fields}
use Rattle.wave_states.specs.Actors.{Actors}
use Rattle.wave_states.specs.Labels as labels
use Rattle.wave_states.specs.Labels.{Label}
use Rattle.wave_states.specs.States as theory
use Rattle.wave_states.specs.States.{Column, Hand, holds_as_peek, set}
use Rattle.wave_states.specs.Steps.{Bench, Part, act_bench, left_by, part_of, seen_by, start, step, with_body}
use Rattle.wave_states.specs.Desks.{Desk}
use Rattle.wave_theory.proofs.Basics.{none_not}
use Rattle.wave_theory.proofs.Opened.{Starts, starts}
use Rattle.plan_actors.specs.PlanActors as actors
use Rattle.plan_actors.specs.PlanActors.{plan_actors, plan_kind}
use Rattle.plan_actors.specs.Plans.{begin_in}
use Rattle.wave_effects.specs.declared.actor.Actor.{Actor}
use Rattle.wave_effects.specs.declared.kept.Out.{Out}
use Rattle.wave_effects.specs.declared.lease.Lease.{Lease}
use Rattle.wave_effects.specs.Actors.{IsActor, actor_of}
use Rattle.wave_effects.specs.Leases as leases
use Rattle.wave_effects.specs.Machines.{TheState, Kept, IsCell, IsEnabled, IsOut, Shows, Takes, event_as}
use Rattle.wave_effects.specs.Running.{IsCopy, IsInHand, Leases, copy_of, only_looks}
use Rattle.wave_effects.proofs.Calm.{with_cell, with_store}
use Rattle.wave_effects.proofs.CellParts.{TheCell, same_event}
use Rattle.wave_effects.proofs.Opening.{Left, left_by as left_of}
use Rattle.wave_effects.proofs.Parts.{each_set, local, set_here}
use Rattle.wave_effects.proofs.Reached.{has_it, host_is, not_over}
use Rattle.wave_effects.proofs.StoreParts.{TheEntry, Writes, stands_there, stores_written}
use Rattle.wave_effects.proofs.Taking.{Laws, after, now, placed}

abbrev pub TheHand : Type 0
TheHand = Hand actors.Actor Fields

abbrev pub TheBench : Type 0
TheBench = Bench actors.Actor Fields EventResult

-- another hand
abbrev pub with_hand : Kept → ℕ → Option Out → Kept
with_hand m w o = record { plan = m.plan; first = m.first; head = m.head; commits = m.commits; settled = m.settled; cells = m.cells; stores = m.stores; hands = slice_set m.hands w o }

pub each_hand : (hands : List (Option Out)) (f : ℕ → Option TheHand) (w : ℕ) (o : Option Out) (g : Option TheHand) → ((v : ℕ) (x : Option Out) → slice_get hands v ≡ Some x → IsOut x (f v)) → IsOut o g
    → (v : ℕ) (x : Option Out) → slice_get (slice_set hands w o) v ≡ Some x → IsOut x (set nat_eq f w g v)
each_hand hands f w o g all new v x e =
    let P : ℕ → ℕ → Type 0 = λ a b. IsOut x (set nat_eq f a g b) in
    let at_zero : P (0 + w) (0 + v) = each_set IsOut hands 0 f w o g (λ j y z. subst (λ n. IsOut y (f n)) (sym (zero-add j)) (all j y z)) new v x e in
    subst (P w) (zero-add v) (subst (λ n. P n (0 + v)) (zero-add w) at_zero)

-- a Start wants an idle worker
module _ {A F R J : Type 0} (sys : Actors A F R J) (host : ℕ) (x : Part A F R) (y : Bench A F R) (t : ℕ) (p : Path) where
  pub record Begins (o : Option (Hand A F)) : Type 0 where
    pub idle : o ≡ None
    pub found : start t p host x ≡ Some y

  pub start_found : (o : Option (Hand A F)) → act_bench sys (labels.Start t p) host x o ≡ Some y → Begins o
  start_found None e = record { idle = refl; found = e }
  start_found (Some g) e = absurd (none_not e)

-- the cell's actor is away
pub record RunsIt (c c' : Cell Actor) (p : Path) : Type 0 where
  pub desk : (d : Desk Actor Fields) → StandsFor c d → StandsFor c' (with_actor d None (theory.Running p))
  pub actor : c'.actor ≡ None

abbrev running : Path → theory.Event actors.Actor → theory.Event actors.Actor
running p e = record { actor = None; held = e.held; sent = e.sent; status = theory.Running p }

run_at : (program : Program) (c c' : Cell Actor) (p : Path) (x y : TheCell) (event : theory.Event actors.Actor) → IsCell program c x → RunsIt c c' p → x.event ≡ Some event → Some (running p event) ≡ y.event
    → ((q : ℕ) → x.mails q ≡ y.mails q) → IsCell program c' y
run_at program c c' p x y event is r at e mails = record {
  desk = with_actor is.desk None (theory.Running p);
  stands = r.desk is.desk is.stands;
  event = sym e ∙ ap (λ (z : theory.Event actors.Actor). Some (running p z)) (same_event event (event_as is.desk.event) x.event at is.event);
  mails = λ q. sym (mails q) ∙ is.mails q;
  marked = λ a h. absurd (none_not (sym r.actor ∙ h));
}

pub map_is_some : {X Y : Type 0} (f : X → Y) (o : Option X) (y : Y) → option_map f o ≡ Some y → is_some o ≡ true
map_is_some f None y e = absurd (none_not e)
map_is_some f (Some x) y e = refl

map_same : {X Y : Type 0} (f : X → Y) (o : Option X) (x : X) (y : Y) → o ≡ Some x → option_map f o ≡ Some y → f x ≡ y
map_same f o x y e g = same (f x) y (ap (option_map f) (sym e) ∙ g)
  where
    same : {Y : Type 0} (a b : Y) → Some a ≡ Some b → a ≡ b
    same a b h = cc

ready_on : (p : Path) → theory.Ready p ≡ theory.Ended → ⊥
ready_on p e = cc

-- what a worker gets of a context, and what the entry keeps
abbrev pub TakesOut : Option Record → Entry → Entry → Record → Type 0
TakesOut copy e e' r =
    (looks : Bool) (en : TheEntry) (b : theory.Record Fields) → copy ≡ copy_of looks e.body → EntryStands e en → en.body ≡ Some b → (record_of r ≡ seen_by looks b) × EntryStands e' (with_body en (left_by looks b))

module _ (m : Kept) (s s' : TheState) (t : ℕ) (p : Path) (w host : ℕ) (h : Shows m s) (taking : step (plan_actors m.plan.program) m.plan.workers s (record { worker = w; host = host; act = labels.Start t p }) ≡ Some s') where
  pub left : Left (plan_actors m.plan.program) m.plan.workers s s' (record { worker = w; host = host; act = labels.Start t p })
  left = left_of (plan_actors m.plan.program) m.plan.workers s s' (record { worker = w; host = host; act = labels.Start t p }) refl taking

  begins : Begins (plan_actors m.plan.program) host (part_of s t p) left.bench t p (s.hands w)
  begins = start_found (plan_actors m.plan.program) host (part_of s t p) left.bench t p (s.hands w) left.found

  pub v : Starts t p host (part_of s t p) left.bench
  v = starts t p host (part_of s t p) left.bench begins.found

  abbrev hand : TheHand
  hand = record { ticket = t; path = p; actor = v.actor; body = seen_by (holds_as_peek v.event.held p) v.body }

  hand_is : left.bench.hand ≡ Some hand
  hand_is = ap (λ (b : TheBench). b.hand) (sym v.gives)

  there_then : s'.hands w ≡ Some hand
  there_then = ap (λ (z : TheState). z.hands w) (sym left.gives) ∙ sym (set_here s.hands w left.bench.hand) ∙ hand_is

  module _ (i : ℕ) (c : Cell Actor) (at : m.first + i ≡ t) (there : slice_get m.cells i ≡ Some c) where
    cell_is : IsCell m.plan.program c (s.cells t)
    cell_is = subst (λ n. IsCell m.plan.program c (s.cells n)) at (h.cells.each i c there)

    same : v.event ≡ event_as cell_is.desk.event
    same = same_event v.event (event_as cell_is.desk.event) (s.cells t).event v.event_is cell_is.event

    looks_is : only_looks c p ≡ holds_as_peek v.event.held p
    looks_is = ap (λ l. holds_as_peek l p) (sym cell_is.stands.held ∙ ap (λ (z : theory.Event actors.Actor). z.held) (sym same))

    pub on : is_over c.status ≡ false
    on = not_over c cell_is.desk cell_is.stands (λ f. ready_on p (sym v.ready ∙ ap (λ (z : theory.Event actors.Actor). z.status) same ∙ f))

    -- the cell has the actor
    actor_at : option_map actor_of c.actor ≡ Some v.actor
    actor_at = ap (option_map actor_of) (sym (cell_is.stands.actor on)) ∙ ap (λ (z : theory.Event actors.Actor). z.actor) (sym same) ∙ v.actor_is

    pub actor_there : is_some c.actor ≡ true
    actor_there = map_is_some actor_of c.actor v.actor actor_at

    module _ (st : Stores) (here : slice_get m.stores host ≡ Some st) (e e' : Entry) (found : table.get st.store p ≡ Some e) (copy : Option Record) (r : Record) (is_copy : IsCopy m host t p copy) (place : i ≡ t - m.first) (out : TakesOut copy e e' r) where
      old : EntryStands e v.entry
      old = stands_there (table.get st.store p) ((s.columns p).store host) e v.entry (h.stores.each host st here p).entry found v.entry_is

      outcome : (record_of r ≡ seen_by (holds_as_peek v.event.held p) v.body) × EntryStands e' (with_body v.entry (left_by (holds_as_peek v.event.held p) v.body))
      outcome = out (holds_as_peek v.event.held p) v.entry v.body (is_copy c st e (subst (λ n. slice_get m.cells n ≡ Some c) place there) here found ∙ ap (λ b. copy_of b e.body) looks_is) old v.body_is

      pub began : (c' : Cell Actor) (st' : Stores) (o : Out) → RunsIt c c' p → Writes st st' p e' → o.ticket.0 ≡ t → o.path ≡ p → Shows (with_hand (with_store (with_cell m i c') host st') w (Some o)) s'
      began c' st' o runs writes ticket path =
          let y = left.bench in
          let cell = run_at m.plan.program c c' p (s.cells t) y.part.cell v.event cell_is runs v.event_is (ap (λ (b : TheBench). b.part.cell.event) v.gives) (λ q. ap (λ (b : TheBench). b.part.cell.mails q) v.gives) in
          subst (Shows (with_hand (with_store (with_cell m i c') host st') w (Some o))) left.gives
          (local m s t p w y i c' (slice_set m.stores host st') (slice_set m.hands w (Some o)) h at cell (ap (λ (b : TheBench). b.part.cell.result) (sym v.gives)) (length-set m.stores host st')
          (stores_written m.stores s.columns host p st st' h.stores.each here e' (with_body v.entry (left_by (holds_as_peek v.event.held p) v.body)) y.part.column writes outcome.1 (ap (λ (b : TheBench). b.part.column) v.gives))
          (length-set m.hands w (Some o)) (each_hand m.hands s.hands w (Some o) y.hand h.hands.each (subst (IsOut (Some o)) (sym hand_is) (sym ticket, sym path))))

      pub leased : (lease : Lease) → lease.ticket.0 ≡ t → lease.path ≡ p → c.actor ≡ Some lease.actor → lease.body ≡ r → IsInHand m.plan.program lease (s'.hands w)
      leased lease ticket path actor body =
          let a : IsActor m.plan.program lease.actor v.actor = subst (IsActor m.plan.program lease.actor) (map_same actor_of c.actor lease.actor v.actor actor actor_at) (cell_is.marked lease.actor actor) in
          let is : leases.StandsFor m.plan.program lease hand = record { ticket = sym ticket; path = sym path; actor = a; body = sym outcome.0 ∙ ap record_of (sym body) } in
          subst (IsInHand m.plan.program lease) (sym there_then) is

module _ (laws : Laws) (m : Kept) (t : ℕ) (p : Path) (w host : ℕ) where
  -- where a Start finds what it is about
  pub record StartAt : Type 0 where
    pub low : m.first ≤ t
    pub within : t < m.first + length m.cells
    pub host_in : host < length m.stores
    pub worker_in : w < length m.hands
    pub there : (st : Stores) → slice_get m.stores host ≡ Some st → has p st ≡ true
    pub actor : (i : ℕ) (c : Cell Actor) → m.first + i ≡ t → slice_get m.cells i ≡ Some c → is_some c.actor ≡ true
    pub on : (i : ℕ) (c : Cell Actor) → m.first + i ≡ t → slice_get m.cells i ≡ Some c → is_over c.status ≡ false
    pub home : (st : Stores) (e : Entry) → slice_get m.stores host ≡ Some st → table.get st.store p ≡ Some e → is_some e.body ≡ true

  pub start_placed : IsEnabled m (record { worker = w; host = host; act = labels.Start t p }) → StartAt
  start_placed enabled =
      let s = enabled.state in
      let x = v m s enabled.next t p w host enabled.stands.shows enabled.enabled in
      let worker = (left_of (plan_actors m.plan.program) m.plan.workers s enabled.next (record { worker = w; host = host; act = labels.Start t p }) refl enabled.enabled).worker in
      let cell = placed laws m enabled.start s enabled.stands t x.event x.event_is in
      let bounds = (now laws m enabled.start s enabled.stands).bounds in
      let place = host_is (plan_kind m.plan.program m.plan.script.hosts) m.plan.workers (begin_in m.plan enabled.start) m.plan.script.batches s bounds p host x.entry x.entry_is in
      let many = enabled.stands.shows.stores.as_many in
      let hands = enabled.stands.shows.hands.as_many in
      record {
        low = cell.0;
        within = cell.1;
        host_in = omega (arith, place, many);
        worker_in = omega (arith, lt_is w m.plan.workers worker, hands);
        there = λ st e. has_it (table.get st.store p) ((s.columns p).store host) x.entry (enabled.stands.shows.stores.each host st e p).entry x.entry_is;
        actor = λ i c at there. actor_there m s enabled.next t p w host enabled.stands.shows enabled.enabled i c at there;
        on = λ i c at there. on m s enabled.next t p w host enabled.stands.shows enabled.enabled i c at there;
        home = λ st e here found.
            let stands = stands_there (table.get st.store p) ((s.columns p).store host) e x.entry (enabled.stands.shows.stores.each host st here p).entry found x.entry_is in
            map_is_some record_of e.body x.body (sym stands.body ∙ x.body_is);
      }
    where
      lt_is : (a b : ℕ) → nat_lt a b ≡ true → a < b
      lt_is a b e = grind (arith, nat_tests)

  module _ (i : ℕ) (c c' : Cell Actor) (st st' : Stores) (e e' : Entry) (copy : Option Record) (r : Record) (o : Out) (at : m.first + i ≡ t) (place : i ≡ t - m.first) (there : slice_get m.cells i ≡ Some c) (here : slice_get m.stores host ≡ Some st) (found : table.get st.store p ≡ Some e) (is_copy : IsCopy m host t p copy) (gives : TakesOut copy e e' r) where
    pub start_taken : RunsIt c c' p → Writes st st' p e' → o.ticket.0 ≡ t → o.path ≡ p → Takes m (with_hand (with_store (with_cell m i c') host st') w (Some o)) (record { worker = w; host = host; act = labels.Start t p })
    start_taken runs writes ticket path start s s' stands taking =
        let l : Label = record { worker = w; host = host; act = labels.Start t p } in
        record {
          fits = stands.fits;
          begins = stands.begins;
          labels = stands.labels ++ l ∷ [];
          reached = after laws m start s stands l s' taking;
          shows = began m s s' t p w host stands.shows taking i c at there st here e e' found copy r is_copy place gives c' st' o runs writes ticket path;
        }

    pub start_leases : (lease : Lease) → lease.ticket.0 ≡ t → lease.path ≡ p → c.actor ≡ Some lease.actor → lease.body ≡ r → Leases m (record { worker = w; host = host; act = labels.Start t p }) lease
    start_leases lease ticket path actor body start s s' stands taking = leased m s s' t p w host stands.shows taking i c at there st here e e' found copy r is_copy place gives lease ticket path actor body
