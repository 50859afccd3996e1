-- A label that is taken: the machine stands for what it leads to.
use Rattle.std.proofs.Common.{◌≡◌, ◌≢◌, ◌∙◌, ℕ, ◌+◌, ◌<◌, ◌≤◌, true, false, List, [], ◌∷◌, ◌++◌, length, is_some, Option, Some, refl, sym, ap, subst, arith}
use Rattle.std.specs.Prelude.{slice_get, option_and_then, option_map}
use Rattle.wave_base.specs.declared.path.Path.{Path}
use Rattle.wave_base.specs.declared.start.Start.{Start}
use Rattle.std.specs.FinMap as table
use Rattle.context_queue.specs.declared.entry.Entry.{Entry}
use Rattle.context_queue.specs.Entries.{StandsFor as EntryStands, next_in, with_next}
use Rattle.event_cells.specs.declared.held.Hold.{Hold}
use Rattle.host_map.specs.Stores.{Stores, IsAt, has, mark_of}
use Rattle.event_cells.specs.declared.cell.Cell.{Cell}
use Rattle.code_actor.specs.CodeActors.{Fields}
use Rattle.wave_states.specs.Actors.{Actors}
use Rattle.wave_states.specs.Labels.{Label, Free, Grant, Land, Pass, Visit}
use Rattle.wave_states.specs.Runs.{run}
use Rattle.wave_states.specs.States as theory
use Rattle.wave_states.specs.States.{Ask, Column, State, Event}
use Rattle.wave_states.specs.Desks.{Desk}
use Rattle.wave_states.specs.Steps.{column_joined, others, part_of, step, with_holders}
use Rattle.wave_theory.proofs.Basics.{some_same, then_some}
use Rattle.wave_theory.proofs.Opened.{LetterIs, frees, grants, lands, passes, visits}
use Rattle.plan_actors.specs.PlanActors as actors
use Rattle.plan_actors.specs.PlanActors.{plan_actors, plan_kind}
use Rattle.plan_actors.specs.Plans.{Plan, Fits, FitsStart, begin_in}
use Rattle.wave_effects.specs.declared.actor.Actor.{Actor}
use Rattle.wave_effects.specs.Machines.{TheState, Kept, IsCell, IsReached, Known, IsEnabled, Shows, Stands, Takes}
use Rattle.event_cells.specs.declared.outbox.Envelope.{Envelope}
use Rattle.event_cells.specs.Cells.{Carries, IsEnvelope, StandsFor, is_over}
use Rattle.event_cells.specs.Keeps.{mail_in}
use Rattle.migration_core.specs.Letters.{Says}
use Rattle.wave_effects.specs.Keeping.{entry_in}
use Rattle.wave_effects.proofs.Parts.{set_here_path}
use Rattle.wave_effects.proofs.StoreParts.{landed_here, Writes}
use Rattle.wave_effects.proofs.Opening.{left_by, free_found, grant_found, land_found, pass_found, visit_found}
use Rattle.wave_effects.proofs.CellParts.{LetsIn, Redirects, TakesAndWaits, TakesMail, ThePart, carried_is, carries_some, says_of}
use Rattle.wave_effects.proofs.Calm.{with_cell, with_store, arrived, freed, got_in, grant_on, passed, visit_on, visited}
use Rattle.wave_effects.proofs.Reached.{admitted_is, has_it, host_is, mailed_is, marked_is}

-- one label more
pub run_more : {A F R J : Type 0} (sys : Actors A F R J) (workers : ℕ) (ls : List Label) (s v s' : State A F R J) (l : Label) → run sys workers s ls ≡ Some v → step sys workers v l ≡ Some s' → run sys workers s (ls ++ l ∷ []) ≡ Some s'
unfolding run
run_more sys workers [] s v s' l e f = ap (λ u. option_and_then (λ x. run sys workers x []) (step sys workers u l)) (some_same s v e) ∙ ap (option_and_then (λ x. run sys workers x [])) f
run_more sys workers (m ∷ ls) s v s' l e f =
    let u = then_some (λ u. run sys workers u ls) (step sys workers s m) v e in
    ap (option_and_then (λ x. run sys workers x (ls ++ l ∷ []))) u.1 ∙ run_more sys workers ls u.0 v s' l u.2 f

-- the laws, as they are given
abbrev pub Laws : Type 0
Laws = (plan : Plan) (start : Start) (labels : List Label) (s : TheState) → Fits plan → FitsStart plan start → IsReached plan start labels s → Known plan start s

module _ (laws : Laws) (m : Kept) (start : Start) (s : TheState) (stands : Stands m start s) where
  pub now : Known m.plan start s
  now = laws m.plan start stands.labels s stands.fits stands.begins stands.reached

  pub after : (l : Label) (s' : TheState) → step (plan_actors m.plan.program) m.plan.workers s l ≡ Some s' → IsReached m.plan start (stands.labels ++ l ∷ []) s'
  after l s' e = run_more (plan_actors m.plan.program) m.plan.workers stands.labels _ s s' l stands.reached e

  -- a ticket that has an event has a cell
  pub placed : (t : ℕ) (e : Event actors.Actor) → (s.cells t).event ≡ Some e → (m.first ≤ t) × (t < m.first + length m.cells)
  placed t e is =
      let a = admitted_is (plan_kind m.plan.program m.plan.script.hosts) m.plan.workers (begin_in m.plan start) m.plan.script.batches s now.bounds t e is in
      let h = stands.shows.head in
      let many = stands.shows.cells.as_many in
      (omega (arith, a.0, h.before), omega (arith, a.1, h.before, h.admitted, many))

module _ (laws : Laws) (m : Kept) (t k : ℕ) (p : Path) (w host : ℕ) where
  pub visit_placed : IsEnabled m (record { worker = w; host = host; act = Visit t k p }) → (m.first ≤ t) × (t < m.first + length m.cells)
  visit_placed on =
      let sys = plan_actors m.plan.program in
      let left = left_by sys m.plan.workers on.state on.next (record { worker = w; host = host; act = Visit t k p }) refl on.enabled in
      let calm = visit_found sys host (part_of on.state t p) left.bench t k p (on.state.hands w) left.found in
      let v = visits k p host (part_of on.state t p) left.bench.part calm.part in
      placed laws m on.start on.state on.stands t v.event v.event_is

  -- its event has not ended
  pub visit_goes_on : IsEnabled m (record { worker = w; host = host; act = Visit t k p }) → (i : ℕ) (c : Cell Actor) → m.first + i ≡ t → slice_get m.cells i ≡ Some c → is_over c.status ≡ false
  visit_goes_on on i c at there =
      let l : Label = record { worker = w; host = host; act = Visit t k p } in
      let known = now laws m on.start on.state on.stands in
      let known' = laws m.plan on.start (on.stands.labels ++ l ∷ []) on.next on.stands.fits on.stands.begins (after laws m on.start on.state on.stands l on.next on.enabled) in
      visit_on m (begin_in m.plan on.start) on.state on.next t k p w host i c c on.stands.shows at there known.agree known'.agree on.enabled

  pub visit_taken : (i : ℕ) (c c' : Cell Actor) → m.first + i ≡ t → slice_get m.cells i ≡ Some c → TakesAndWaits c c' k (theory.Ready p) → Takes m (with_cell m i c') (record { worker = w; host = host; act = Visit t k p })
  visit_taken i c c' at there takes start s s' stands e =
      let l : Label = record { worker = w; host = host; act = Visit t k p } in
      let reached = after laws m start s stands l s' e in
      let known = now laws m start s stands in
      let known' = laws m.plan start (stands.labels ++ l ∷ []) s' stands.fits stands.begins reached in
      let over = visit_on m (begin_in m.plan start) s s' t k p w host i c c' stands.shows at there known.agree known'.agree e in
      record {
        fits = stands.fits;
        begins = stands.begins;
        labels = stands.labels ++ l ∷ [];
        reached = reached;
        shows = visited m (begin_in m.plan start) s s' t k p w host i c c' stands.shows at there e takes over;
      }

module _ (laws : Laws) (m : Kept) (t k : ℕ) (p : Path) (w host : ℕ) where
  -- where a Free finds what it is about
  pub record FreeAt : Type 0 where
    pub low : m.first ≤ t
    pub within : t < m.first + length m.cells
    pub host_in : host < length m.stores
    pub there : (st : Stores) → slice_get m.stores host ≡ Some st → has p st ≡ true

  pub free_placed : IsEnabled m (record { worker = w; host = host; act = Free t k p }) → FreeAt
  free_placed on =
      let sys = plan_actors m.plan.program in
      let s = on.state in
      let left = left_by sys m.plan.workers s on.next (record { worker = w; host = host; act = Free t k p }) refl on.enabled in
      let calm = free_found sys host (part_of s t p) left.bench t k p (s.hands w) left.found in
      let v = frees t k p host (part_of s t p) left.bench.part calm.part in
      let bounds = (now laws m on.start s on.stands).bounds in
      let kind = plan_kind m.plan.program m.plan.script.hosts in
      let low = mailed_is kind m.plan.workers (begin_in m.plan on.start) m.plan.script.batches s bounds t k v.letter_at.mail v.letter_at.mail_is in
      let place = host_is kind m.plan.workers (begin_in m.plan on.start) m.plan.script.batches s bounds p host v.entry v.entry_is in
      let h = on.stands.shows in
      record {
        low = omega (arith, low.0, h.head.before);
        within = omega (arith, low.1, h.head.before, h.head.admitted, h.cells.as_many);
        host_in = omega (arith, place, h.stores.as_many);
        there = λ st e. has_it (table.get st.store p) ((s.columns p).store host) v.entry (h.stores.each host st e p).entry v.entry_is;
      }

  pub free_taken : (i : ℕ) (c c' : Cell Actor) (st st' : Stores) (e e' : Entry) → m.first + i ≡ t → slice_get m.cells i ≡ Some c → TakesMail c c' k → slice_get m.stores host ≡ Some st → table.get st.store p ≡ Some e → Writes st st' p e'
      → ((en : theory.Entry Fields) → EntryStands e en → EntryStands e' (with_holders en (others t en.holders))) → Takes m (with_store (with_cell m i c') host st') (record { worker = w; host = host; act = Free t k p })
  free_taken i c c' st st' e e' at there takes here found writes frees_it start s s' stands taking =
      let l : Label = record { worker = w; host = host; act = Free t k p } in
      record {
        fits = stands.fits;
        begins = stands.begins;
        labels = stands.labels ++ l ∷ [];
        reached = after laws m start s stands l s' taking;
        shows = freed m (begin_in m.plan start) s s' t k p w host i c c' stands.shows at there st st' here e e' taking takes found writes frees_it;
      }

module _ (laws : Laws) (m : Kept) (t : ℕ) (p : Path) (w host : ℕ) where
  -- where a Grant finds what it is about
  pub record GrantAt : Type 0 where
    pub low : m.first ≤ t
    pub within : t < m.first + length m.cells
    pub host_in : host < length m.stores
    pub there : (st : Stores) → slice_get m.stores host ≡ Some st → has p st ≡ true

  pub grant_placed : IsEnabled m (record { worker = w; host = host; act = Grant t p }) → GrantAt
  grant_placed on =
      let sys = plan_actors m.plan.program in
      let s = on.state in
      let left = left_by sys m.plan.workers s on.next (record { worker = w; host = host; act = Grant t p }) refl on.enabled in
      let calm = grant_found sys host (part_of s t p) left.bench t 0 p (s.hands w) left.found in
      let v = grants t p host (part_of s t p) left.bench.part calm.part in
      let bounds = (now laws m on.start s on.stands).bounds in
      let cell = placed laws m on.start s on.stands t v.event v.event_is in
      let place = host_is (plan_kind m.plan.program m.plan.script.hosts) m.plan.workers (begin_in m.plan on.start) m.plan.script.batches s bounds p host v.entry v.entry_is in
      let many = on.stands.shows.stores.as_many in
      record {
        low = cell.0;
        within = cell.1;
        host_in = omega (arith, place, many);
        there = λ st e. has_it (table.get st.store p) ((s.columns p).store host) v.entry (on.stands.shows.stores.each host st e p).entry v.entry_is;
      }

  -- its event has not ended
  pub grant_goes_on : IsEnabled m (record { worker = w; host = host; act = Grant t p }) → (i : ℕ) (c : Cell Actor) → m.first + i ≡ t → slice_get m.cells i ≡ Some c → is_over c.status ≡ false
  grant_goes_on on i c at there =
      let l : Label = record { worker = w; host = host; act = Grant t p } in
      let known = now laws m on.start on.state on.stands in
      let known' = laws m.plan on.start (on.stands.labels ++ l ∷ []) on.next on.stands.fits on.stands.begins (after laws m on.start on.state on.stands l on.next on.enabled) in
      grant_on m (begin_in m.plan on.start) on.state on.next t 0 p w host i c c on.stands.shows at there known.agree known'.agree on.enabled

  pub grant_taken : (i : ℕ) (c c' : Cell Actor) (st st' : Stores) (e e' : Entry) (hold : Hold) → m.first + i ≡ t → slice_get m.cells i ≡ Some c → LetsIn c c' p hold → slice_get m.stores host ≡ Some st → table.get st.store p ≡ Some e → Writes st st' p e'
      → hold.host.0 ≡ host → ((en : theory.Entry Fields) (claim : theory.Claim) → EntryStands e en → next_in en ≡ Some claim → hold.peek ≡ claim.peek)
      → ((en : theory.Entry Fields) → EntryStands e en → EntryStands e' (with_next en (next_in en))) → Takes m (with_store (with_cell m i c') host st') (record { worker = w; host = host; act = Grant t p })
  grant_taken i c c' st st' e e' hold at there lets here found writes hold_host hold_peek grants_it start s s' stands taking =
      let l : Label = record { worker = w; host = host; act = Grant t p } in
      let reached = after laws m start s stands l s' taking in
      let known = now laws m start s stands in
      let known' = laws m.plan start (stands.labels ++ l ∷ []) s' stands.fits stands.begins reached in
      let over = grant_on m (begin_in m.plan start) s s' t 0 p w host i c c' stands.shows at there known.agree known'.agree taking in
      record {
        fits = stands.fits;
        begins = stands.begins;
        labels = stands.labels ++ l ∷ [];
        reached = reached;
        shows = got_in m (begin_in m.plan start) s s' t 0 p w host i c c' stands.shows at there st st' here e e' hold taking lets over found writes hold_host hold_peek grants_it;
      }

same_entry : (a b : Entry) (o : Option Entry) → o ≡ Some a → o ≡ Some b → a ≡ b
same_entry a b o x y = cc

module _ (laws : Laws) (m : Kept) (t k : ℕ) (p : Path) (w host : ℕ) where
  -- where a Land finds what it is about
  pub record LandAt : Type 0 where
    pub low : m.first ≤ t
    pub within : t < m.first + length m.cells
    pub host_in : host < length m.stores
    pub carries : (i : ℕ) (c : Cell Actor) (o : Option Envelope) → m.first + i ≡ t → slice_get m.cells i ≡ Some c → ((d : Desk Actor Fields) → StandsFor c d → Carries o (d.mails k)) → is_some (entry_in o) ≡ true

  -- the mail that was taken is the Transfer
  carried : (s : TheState) (i : ℕ) (c : Cell Actor) (o : Option Envelope) (en : theory.Entry Fields) → Shows m s → m.first + i ≡ t → slice_get m.cells i ≡ Some c → ((d : Desk Actor Fields) → StandsFor c d → Carries o (d.mails k))
      → (s.cells t).mails k ≡ Some (record { host = host; path = p; letter = theory.Transfer en }) → (e : Entry) × (entry_in o ≡ Some e) × EntryStands e en
  carried s i c o en h at there mail is =
      let x : IsCell m.plan.program c (s.cells t) = subst (λ n. IsCell m.plan.program c (s.cells n)) at (h.cells.each i c there) in
      carried_is o (record { host = host; path = p; letter = theory.Transfer en }) en (subst (Carries o) (sym (x.mails k) ∙ is) (mail x.desk x.stands)) refl

  the_mail : (s : TheState) (en : theory.Entry Fields) → LetterIs ((s.cells t).mails k) host p (theory.Transfer en) → (s.cells t).mails k ≡ Some (record { host = host; path = p; letter = theory.Transfer en })
  the_mail s en l = l.mail_is ∙ (λ j. Some (record { host = l.host_is j; path = l.path_is j; letter = l.letter_is j }))

  pub land_placed : IsEnabled m (record { worker = w; host = host; act = Land t k p }) → LandAt
  land_placed on =
      let sys = plan_actors m.plan.program in
      let s = on.state in
      let left = left_by sys m.plan.workers s on.next (record { worker = w; host = host; act = Land t k p }) refl on.enabled in
      let calm = land_found sys host (part_of s t p) left.bench t k p (s.hands w) left.found in
      let v = lands k p host (part_of s t p) left.bench.part calm.part in
      let kind = plan_kind m.plan.program m.plan.script.hosts in
      let bounds = (now laws m on.start s on.stands).bounds in
      let low = mailed_is kind m.plan.workers (begin_in m.plan on.start) m.plan.script.batches s bounds t k v.letter_at.mail v.letter_at.mail_is in
      let next = (laws m.plan on.start (on.stands.labels ++ record { worker = w; host = host; act = Land t k p } ∷ []) on.next on.stands.fits on.stands.begins (after laws m on.start s on.stands (record { worker = w; host = host; act = Land t k p }) on.next on.enabled)).bounds in
      let landed_there : (on.next.columns p).store host ≡ Some (with_holders v.entry []) =
      ap (λ (z : TheState). (z.columns p).store host) (sym left.gives) ∙ ap (λ (z : Column Fields). z.store host) (sym (set_here_path s.columns p left.bench.part.column)) ∙ ap (λ (z : ThePart). z.column.store host) (sym v.gives) ∙ landed_here (s.columns p) host (with_holders v.entry []) in
      let place = host_is kind m.plan.workers (begin_in m.plan on.start) m.plan.script.batches on.next next p host (with_holders v.entry []) landed_there in
      let h = on.stands.shows in
      let many = h.stores.as_many in
      record {
        low = omega (arith, low.0, h.head.before);
        within = omega (arith, low.1, h.head.before, h.head.admitted, h.cells.as_many);
        host_in = omega (arith, place, many);
        carries = λ i c o at there mail. let r = carried s i c o v.entry h at there mail (the_mail s v.entry v.letter_at) in ap is_some r.1;
      }

  pub land_taken : (i : ℕ) (c c' : Cell Actor) (st st' : Stores) (o : Option Envelope) (e : Entry) → m.first + i ≡ t → slice_get m.cells i ≡ Some c → TakesMail c c' k → ((d : Desk Actor Fields) → StandsFor c d → Carries o (d.mails k)) → entry_in o ≡ Some e
      → slice_get m.stores host ≡ Some st → ((col : Column Fields) (h : ℕ) (en : theory.Entry Fields) → IsAt st p col h → EntryStands e en → IsAt st' p (column_joined col h (with_holders en [])) h)
      → ((q : Path) → q ≢ p → table.get st'.store q ≡ table.get st.store q) → ((q : Path) → q ≢ p → table.get st'.gone q ≡ table.get st.gone q) → Takes m (with_store (with_cell m i c') host st') (record { worker = w; host = host; act = Land t k p })
  land_taken i c c' st st' o e at there takes mail is here lands_it stores marks start s s' stands taking =
      let l : Label = record { worker = w; host = host; act = Land t k p } in
      record {
        fits = stands.fits;
        begins = stands.begins;
        labels = stands.labels ++ l ∷ [];
        reached = after laws m start s stands l s' taking;
        shows = arrived m (begin_in m.plan start) s s' t k p w host i c c' stands.shows at there st st' here taking takes
            (λ en is_mail. let r = carried s i c o en stands.shows at there mail is_mail in lands_it (s.columns p) host en (stands.shows.stores.each host st here p) (subst (λ x. EntryStands x en) (same_entry r.0 e (entry_in o) r.1 is) r.2)) stores marks;
      }

module _ (laws : Laws) (m : Kept) (t k : ℕ) (p : Path) (w host g : ℕ) where
  -- where a Pass finds what it is about
  pub record PassAt : Type 0 where
    pub low : m.first ≤ t
    pub within : t < m.first + length m.cells
    pub host_in : host < length m.stores
    pub mailed : (i : ℕ) (c : Cell Actor) → m.first + i ≡ t → slice_get m.cells i ≡ Some c → is_some (mail_in c.outbox.mails k) ≡ true

  pub pass_placed : IsEnabled m (record { worker = w; host = host; act = Pass t k p g }) → PassAt
  pass_placed on =
      let sys = plan_actors m.plan.program in
      let s = on.state in
      let left = left_by sys m.plan.workers s on.next (record { worker = w; host = host; act = Pass t k p g }) refl on.enabled in
      let calm = pass_found sys host (part_of s t p) left.bench t k p g (s.hands w) left.found in
      let v = passes k g p host (part_of s t p) left.bench.part calm.part in
      let kind = plan_kind m.plan.program m.plan.script.hosts in
      let bounds = (now laws m on.start s on.stands).bounds in
      let low = mailed_is kind m.plan.workers (begin_in m.plan on.start) m.plan.script.batches s bounds t k v.letter_at.mail v.letter_at.mail_is in
      let place = marked_is kind m.plan.workers (begin_in m.plan on.start) m.plan.script.batches s bounds p host v.mark v.mark_is in
      let h = on.stands.shows in
      let many = h.stores.as_many in
      record {
        low = omega (arith, low.0, h.head.before);
        within = omega (arith, low.1, h.head.before, h.head.admitted, h.cells.as_many);
        host_in = omega (arith, place, many);
        mailed = λ i c at there.
            let x : IsCell m.plan.program c (s.cells t) = subst (λ n. IsCell m.plan.program c (s.cells n)) at (h.cells.each i c there) in
            carries_some (mail_in c.outbox.mails k) (x.desk.mails k) v.letter_at.mail (x.stands.mails k) (sym (x.mails k) ∙ v.letter_at.mail_is);
      }

  -- what the mark and the letter say
  pub pass_taken : (i : ℕ) (c c' : Cell Actor) (st : Stores) (old env : Envelope) → m.first + i ≡ t → slice_get m.cells i ≡ Some c → Redirects c c' k env → slice_get m.stores host ≡ Some st → mail_in c.outbox.mails k ≡ Some old
      → ((a : Ask) (mark : theory.Mark) → Says old.letter (theory.Enter a) → option_map mark_of (table.get st.gone p) ≡ Some mark → IsEnvelope env (record { host = g; path = p; letter = theory.Enter (record { number = a.number; followed = mark.number; peek = a.peek }) }))
      → Takes m (with_cell m i c') (record { worker = w; host = host; act = Pass t k p g })
  pass_taken i c c' st old env at there turns here mail says start s s' stands taking =
      let l : Label = record { worker = w; host = host; act = Pass t k p g } in
      let x : IsCell m.plan.program c (s.cells t) = subst (λ n. IsCell m.plan.program c (s.cells n)) at (stands.shows.cells.each i c there) in
      record {
        fits = stands.fits;
        begins = stands.begins;
        labels = stands.labels ++ l ∷ [];
        reached = after laws m start s stands l s' taking;
        shows = passed m (begin_in m.plan start) s s' t k p w host i c c' stands.shows at there g env taking turns
            (λ a mark is gone. says a mark (says_of (mail_in c.outbox.mails k) old (record { host = host; path = p; letter = theory.Enter a }) (subst (Carries (mail_in c.outbox.mails k)) (sym (x.mails k) ∙ is) (x.stands.mails k)) mail) (sym (stands.shows.stores.each host st here p).mark ∙ gone));
      }
