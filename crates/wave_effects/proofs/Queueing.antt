-- An Enter at a host: a Pass sends it on to the host to which the context went, a Queue lines its ticket up in the context.
use Rattle.std.proofs.Common.{◌≡◌, ◌∙◌, ℕ, ◌+◌, ◌<◌, ◌≤◌, Bool, true, false, [], ◌∷◌, ◌++◌, length, is_some, Option, Some, None, refl, sym, ap, subst, arith}
use Rattle.std.specs.Prelude.{slice_get, option_map, if◌then◌else◌}
use Rattle.std.specs.Option.{option_or}
use Rattle.std.specs.FinMap as table
use Rattle.wave_base.specs.declared.numbers.Host.{Host}
use Rattle.wave_base.specs.declared.path.Path.{Path}
use Rattle.context_queue.specs.declared.entry.Entry.{Entry}
use Rattle.context_queue.specs.Entries.{StandsFor as EntryStands}
use Rattle.host_map.specs.declared.store.Mark.{Mark}
use Rattle.host_map.specs.declared.store.Found.TheVariants.{Here}
use Rattle.host_map.specs.Stores.{Stores, IsAt, Matches, has, find_in, found_by, mark_of}
use Rattle.migration_core.specs.declared.mail.Letter.{Letter}
use Rattle.migration_core.specs.declared.mail.Letter.TheVariants as letter
use Rattle.migration_core.specs.Letters.{Says, ask_of}
use Rattle.event_cells.specs.declared.cell.Cell.{Cell}
use Rattle.event_cells.specs.declared.outbox.Envelope.{Envelope}
use Rattle.event_cells.specs.Cells.{Carries, IsEnvelope, is_over}
use Rattle.event_cells.specs.Keeps.{mail_in}
use Rattle.code_actor.specs.CodeActors.{Fields}
use Rattle.wave_states.specs.Begins.{Begin}
use Rattle.wave_states.specs.Labels.{Label, Pass, Queue}
use Rattle.wave_states.specs.States as theory
use Rattle.wave_states.specs.States.{Ask, Column}
use Rattle.wave_states.specs.Steps.{Deliver, Born, Wait, Forward, Route, entry_for, in_line, new_entry, part_of, route, route_by, step}
use Rattle.wave_theory.specs.Agree.{Agree}
use Rattle.wave_theory.proofs.Opened.{LetterIs, passes, queues}
use Rattle.plan_actors.specs.PlanActors as actors
use Rattle.plan_actors.specs.PlanActors.{plan_actors, plan_kind}
use Rattle.plan_actors.specs.Plans.{begin_in}
use Rattle.wave_effects.specs.declared.actor.Actor.{Actor}
use Rattle.wave_effects.specs.Machines.{TheState, Kept, IsCell, IsEnabled, Shows, Takes, event_as}
use Rattle.wave_effects.specs.Rooms.{PartToQueue, RoomInLine}
use Rattle.wave_effects.specs.inner.Asks.{asked_in, number_in}
use Rattle.wave_effects.specs.inner.Joins.{LinesUp}
use Rattle.wave_effects.proofs.Calm.{with_cell, with_store, lined_up}
use Rattle.wave_effects.proofs.CellParts.{TakesAndWaits, TheCell, ThePart, same_event}
use Rattle.wave_effects.proofs.Opening.{left_by, pass_found, queue_found}
use Rattle.wave_effects.proofs.Parts.{set_here, set_here_path}
use Rattle.wave_effects.proofs.Reached.{goes_on, host_is, mailed_is, not_over}
use Rattle.wave_effects.proofs.StoreParts.{Writes, at_host, stands_there}
use Rattle.wave_effects.proofs.Taking.{Laws, now, after}

-- ---- letters

says_asks : (l : Letter) (a : Ask) → Says l (theory.Enter a) → ask_of l ≡ Some a
says_asks (letter.Enter number followed peek) a h = cc
says_asks letter.Visit a h = cc
says_asks letter.Back a h = cc
says_asks letter.Release a h = cc
says_asks (letter.Transfer e) a h = absurd h

-- the mail of an Enter asks for what that asks for
asks_of : (o : Option Envelope) (r : Option (theory.Mail Fields)) (a : Ask) (host : ℕ) (p : Path) → Carries o r → LetterIs r host p (theory.Enter a) → asked_in o ≡ Some a
asks_of o r a host p h l = by_mail o (subst (Carries o) l.mail_is h)
  where
    by_mail : (o : Option Envelope) → Carries o (Some l.mail) → asked_in o ≡ Some a
    by_mail None h = absurd h
    by_mail (Some e) h = says_asks e.letter a (subst (Says e.letter) l.letter_is h.letter)

pub some_is : {X : Type 0} (o : Option X) → is_some o ≡ true → (x : X) × (o ≡ Some x)
some_is None h = cc
some_is (Some x) h = (x, refl)

same_number : (x y : ℕ) → Some x ≡ Some y → x ≡ y
same_number x y e = cc

same_test : (x y : Bool) → Some x ≡ Some y → x ≡ y
same_test x y e = cc

-- ---- marks

not_here : (col : Column Fields) (host followed g : ℕ) → route col host followed ≡ Forward g → is_some (col.store host) ≡ false
not_here col host followed g e = by_test (is_some (col.store host)) refl
  where
    delivers : Deliver ≡ Forward g → ⊥
    delivers h = cc

    by_test : (b : Bool) → is_some (col.store host) ≡ b → is_some (col.store host) ≡ false
    by_test true h = absurd (delivers (sym (ap (λ b. if b then Deliver else route_by (col.gone host) followed) h) ∙ e))
    by_test false h = h

missing : (o : Option Entry) (r : Option (theory.Entry Fields)) → Matches o r → is_some r ≡ false → is_some o ≡ false
missing None r m h = refl
missing (Some e) None m h = absurd m
missing (Some e) (Some en) m h = cc

-- what is found where there is no entry is the mark
mark_found : (st : Stores) (p : Path) (mark : theory.Mark) → has p st ≡ false → option_map mark_of (table.get st.gone p) ≡ Some mark → number_in (find_in st p) ≡ Some mark.number
mark_found st p mark h e = ap (λ b. number_in (if b then Here else found_by (table.get st.gone p))) h ∙ by_mark (table.get st.gone p) e
  where
    by_mark : (o : Option Mark) → option_map mark_of o ≡ Some mark → number_in (found_by o) ≡ Some mark.number
    by_mark None e = cc
    by_mark (Some x) e = ap (option_map (λ (m : theory.Mark). m.number)) e

-- ---- Pass

module _ (laws : Laws) (m : Kept) (t k : ℕ) (p : Path) (w host g : ℕ) where
  -- what a Pass finds: the Enter, and a mark where there is no entry
  pub record PassFinds : Type 0 where
    pub asks : (i : ℕ) (c : Cell Actor) → m.first + i ≡ t → slice_get m.cells i ≡ Some c → is_some (asked_in (mail_in c.outbox.mails k)) ≡ true
    pub away : (st : Stores) → slice_get m.stores host ≡ Some st → has p st ≡ false
    pub number : (st : Stores) → slice_get m.stores host ≡ Some st → is_some (number_in (find_in st p)) ≡ true

  pub pass_finds : IsEnabled m (record { worker = w; host = host; act = Pass t k p g }) → PassFinds
  pass_finds on =
      let sys = plan_actors m.plan.program in
      let s = on.state in
      let left = left_by sys m.plan.workers s on.next (record { worker = w; host = host; act = Pass t k p g }) refl on.enabled in
      let calm = pass_found sys host (part_of s t p) left.bench t k p g (s.hands w) left.found in
      let v = passes k g p host (part_of s t p) left.bench.part calm.part in
      let h = on.stands.shows in
      let away : (st : Stores) → slice_get m.stores host ≡ Some st → has p st ≡ false =
      λ st here. missing (table.get st.store p) ((s.columns p).store host) (h.stores.each host st here p).entry (not_here (s.columns p) host v.ask.followed g v.route_is) in
      record {
        asks = λ i c at there.
            let x : IsCell m.plan.program c (s.cells t) = subst (λ n. IsCell m.plan.program c (s.cells n)) at (h.cells.each i c there) in
            ap is_some (asks_of (mail_in c.outbox.mails k) ((s.cells t).mails k) v.ask host p (subst (Carries (mail_in c.outbox.mails k)) (sym (x.mails k)) (x.stands.mails k)) v.letter_at);
        away = away;
        number = λ st here. ap is_some (mark_found st p v.mark (away st here) (sym (h.stores.each host st here p).mark ∙ v.mark_is));
      }

  -- the letter that goes on says what the mark and the letter say
  pub goes_to : (o : Option Envelope) (old : Envelope) (st : Stores) (number followed : ℕ) (peek : Bool) (to : Host) → to.0 ≡ g → o ≡ Some old → option_map (λ (a : Ask). a.number) (asked_in o) ≡ Some number → option_map (λ (a : Ask). a.peek) (asked_in o) ≡ Some peek
      → has p st ≡ false → number_in (find_in st p) ≡ Some followed → (a : Ask) (mark : theory.Mark) → Says old.letter (theory.Enter a) → option_map mark_of (table.get st.gone p) ≡ Some mark
      → IsEnvelope (record { to = to; path = p; letter = letter.Enter number followed peek }) (record { host = g; path = p; letter = theory.Enter (record { number = a.number; followed = mark.number; peek = a.peek }) })
  goes_to o old st number followed peek to there is numbers peeks away finds a mark says gone =
      let asks : asked_in o ≡ Some a = ap asked_in is ∙ says_asks old.letter a says in
      let one : a.number ≡ number = same_number a.number number (ap (option_map (λ (a : Ask). a.number)) (sym asks) ∙ numbers) in
      let two : mark.number ≡ followed = same_number mark.number followed (sym (mark_found st p mark away gone) ∙ finds) in
      let three : a.peek ≡ peek = same_test a.peek peek (ap (option_map (λ (a : Ask). a.peek)) (sym asks) ∙ peeks) in
      record { host = sym there; path = refl; letter = λ j. theory.Enter (record { number = one j; followed = two j; peek = three j }) }

-- ---- Queue

waits_on : (p : Path) → theory.Waiting p ≡ theory.Ended → ⊥
waits_on p e = cc

module _ (m : Kept) (b : Begin Fields) (s s' : TheState) (t k : ℕ) (p : Path) (w host : ℕ) (i : ℕ) (c : Cell Actor) (h : Shows m s) (at : m.first + i ≡ t) (there : slice_get m.cells i ≡ Some c) where
  -- the event had not ended
  queue_on : Agree (plan_kind m.plan.program m.plan.script.hosts) b m.plan.script.batches s → Agree (plan_kind m.plan.program m.plan.script.hosts) b m.plan.script.batches s'
      → step (plan_actors m.plan.program) m.plan.workers s (record { worker = w; host = host; act = Queue t k p }) ≡ Some s' → is_over c.status ≡ false
  queue_on agree agree' e =
      let sys = plan_actors m.plan.program in
      let cell : IsCell m.plan.program c (s.cells t) = subst (λ n. IsCell m.plan.program c (s.cells n)) at (h.cells.each i c there) in
      let left = left_by sys m.plan.workers s s' (record { worker = w; host = host; act = Queue t k p }) refl e in
      let y = left.bench in
      let x : ThePart = part_of s t p in
      let calm = queue_found sys host x y t k p (s.hands w) left.found in
      let v = queues sys t k p host x y.part calm.part in
      let waiting : theory.Event actors.Actor = record { actor = v.event.actor; held = v.event.held; sent = v.event.sent; status = theory.Waiting p } in
      let next : s'.cells t ≡ y.part.cell = ap (λ (z : TheState). z.cells t) (sym left.gives) ∙ sym (set_here s.cells t y.part.cell) in
      let there' : (s'.cells t).event ≡ Some waiting = ap (λ (z : TheCell). z.event) next ∙ ap (λ (z : ThePart). z.cell.event) (sym v.gives) in
      let result : (s'.cells t).result ≡ (s.cells t).result = ap (λ (z : TheCell). z.result) next ∙ ap (λ (z : ThePart). z.cell.result) (sym v.gives) in
      let same : v.event ≡ event_as cell.desk.event = same_event v.event (event_as cell.desk.event) (s.cells t).event v.event_is cell.event in
      not_over c cell.desk cell.stands
      (λ f. goes_on (plan_kind m.plan.program m.plan.script.hosts) b m.plan.script.batches s s' t v.event waiting agree agree' v.event_is there' result (waits_on p) (ap (λ (z : theory.Event actors.Actor). z.status) same ∙ f))

-- which entry that is: the one that is there, or else the one that is born
pub born_is : (st : Stores) (o b : Option Entry) (x e : Entry) → RoomInLine st o b → b ≡ Some x → option_or o b ≡ Some e → x ≡ e
born_is st None b x e r is both = cc
born_is st (Some y) None x e r is both = cc
born_is st (Some y) (Some z) x e r is both = absurd r

pub there_is : (o b : Option Entry) (x e : Entry) → o ≡ Some x → option_or o b ≡ Some e → x ≡ e
there_is None b x e is both = cc
there_is (Some y) b x e is both = cc

-- the entry in whose line the ticket is stands for the one that the theory has for it
module _ (m : Kept) (p : Path) (host : ℕ) (st st' : Stores) (born : Option Entry) (number : ℕ) (claim : theory.Claim) (col : Column Fields) (followed : ℕ) (en : theory.Entry Fields) (at : IsAt st p col host) (lines : LinesUp st st' p born number claim) where
  new_one : (r : Route) → is_some (col.store host) ≡ false → entry_for (plan_actors m.plan.program) p host col r ≡ Some en → new_entry (plan_actors m.plan.program) p ≡ en
  new_one Deliver h e = absurd (none_there h e)
    where
      none_there : is_some (col.store host) ≡ false → col.store host ≡ Some en → ⊥
      none_there h e = cc
  new_one Born h e = cc
  new_one Wait h e = cc
  new_one (Forward g) h e = cc

  nothing_at : (o : Option (theory.Entry Fields)) → Matches None o → is_some o ≡ false
  nothing_at None h = refl
  nothing_at (Some x) h = absurd h

  something_at : (e : Entry) (o : Option (theory.Entry Fields)) → Matches (Some e) o → is_some o ≡ true
  something_at e None h = absurd h
  something_at e (Some x) h = refl

  pub in_the_line : RoomInLine st (table.get st.store p) born → ((e : Entry) → born ≡ Some e → EntryStands e (new_entry (plan_actors m.plan.program) p)) → entry_for (plan_actors m.plan.program) p host col (route col host followed) ≡ Some en
      → EntryStands lines.entry (in_line en number claim)
  in_the_line room first e = by_store (table.get st.store p) born refl refl room
    where
      by_store : (o b : Option Entry) → table.get st.store p ≡ o → born ≡ b → RoomInLine st o b → EntryStands lines.entry (in_line en number claim)
      by_store (Some x) None is none r =
          let there = something_at x (col.store host) (subst (λ o. Matches o (col.store host)) is at.entry) in
          let delivered : entry_for (plan_actors m.plan.program) p host col (route col host followed) ≡ col.store host = ap (λ b. entry_for (plan_actors m.plan.program) p host col (if b then Deliver else route_by (col.gone host) followed)) there in
          lines.stands x en (ap (λ o. option_or o born) is) (stands_there (table.get st.store p) (col.store host) x en at.entry is (sym delivered ∙ e))
      by_store None (Some x) is new r =
          let away = nothing_at (col.store host) (subst (λ o. Matches o (col.store host)) is at.entry) in
          lines.stands x en (ap (λ o. option_or o born) is ∙ new) (subst (EntryStands x) (new_one (route col host followed) away e) (first x new))
      by_store (Some x) (Some y) is new r = absurd r
      by_store None None is none r = absurd r

module _ (laws : Laws) (m : Kept) (t k : ℕ) (p : Path) (w host : ℕ) where
  -- where a Queue finds what it is about
  pub record QueueAt : Type 0 where
    pub low : m.first ≤ t
    pub within : t < m.first + length m.cells
    pub host_in : host < length m.stores
    pub asks : (i : ℕ) (c : Cell Actor) → m.first + i ≡ t → slice_get m.cells i ≡ Some c → is_some (asked_in (mail_in c.outbox.mails k)) ≡ true

  pub queue_placed : IsEnabled m (record { worker = w; host = host; act = Queue t k p }) → QueueAt
  queue_placed on =
      let sys = plan_actors m.plan.program in
      let s = on.state in
      let l : Label = record { worker = w; host = host; act = Queue t k p } in
      let left = left_by sys m.plan.workers s on.next l refl on.enabled in
      let calm = queue_found sys host (part_of s t p) left.bench t k p (s.hands w) left.found in
      let v = queues sys t k p host (part_of s t p) left.bench.part calm.part in
      let kind = plan_kind m.plan.program m.plan.script.hosts in
      let bounds = (now laws m on.start s on.stands).bounds in
      let low = mailed_is kind m.plan.workers (begin_in m.plan on.start) m.plan.script.batches s bounds t k v.letter_at.mail v.letter_at.mail_is in
      let next = (laws m.plan on.start (on.stands.labels ++ l ∷ []) on.next on.stands.fits on.stands.begins (after laws m on.start s on.stands l on.next on.enabled)).bounds in
      let lined : theory.Entry Fields = in_line v.entry v.ask.number (record { ticket = t; peek = v.ask.peek }) in
      let lined_there : (on.next.columns p).store host ≡ Some lined =
      ap (λ (z : TheState). (z.columns p).store host) (sym left.gives) ∙ ap (λ (z : Column Fields). z.store host) (sym (set_here_path s.columns p left.bench.part.column)) ∙ ap (λ (z : ThePart). z.column.store host) (sym v.gives) ∙ at_host (s.columns p) host lined in
      let place = host_is kind m.plan.workers (begin_in m.plan on.start) m.plan.script.batches on.next next p host lined lined_there in
      let h = on.stands.shows in
      let many = h.stores.as_many in
      record {
        low = omega (arith, low.0, h.head.before);
        within = omega (arith, low.1, h.head.before, h.head.admitted, h.cells.as_many);
        host_in = omega (arith, place, many);
        asks = λ i c at there.
            let x : IsCell m.plan.program c (s.cells t) = subst (λ n. IsCell m.plan.program c (s.cells n)) at (h.cells.each i c there) in
            ap is_some (asks_of (mail_in c.outbox.mails k) ((s.cells t).mails k) v.ask host p (subst (Carries (mail_in c.outbox.mails k)) (sym (x.mails k)) (x.stands.mails k)) v.letter_at);
      }

  -- its event has not ended
  pub queue_goes_on : IsEnabled m (record { worker = w; host = host; act = Queue t k p }) → (i : ℕ) (c : Cell Actor) → m.first + i ≡ t → slice_get m.cells i ≡ Some c → is_over c.status ≡ false
  queue_goes_on on i c at there =
      let l : Label = record { worker = w; host = host; act = Queue t k p } in
      let known = now laws m on.start on.state on.stands in
      let known' = laws m.plan on.start (on.stands.labels ++ l ∷ []) on.next on.stands.fits on.stands.begins (after laws m on.start on.state on.stands l on.next on.enabled) in
      queue_on m (begin_in m.plan on.start) on.state on.next t k p w host i c on.stands.shows at there known.agree known'.agree on.enabled

  pub queue_taken : (i : ℕ) (c c' : Cell Actor) (st st' : Stores) (born : Option Entry) (number : ℕ) (peek : Bool) → m.first + i ≡ t → slice_get m.cells i ≡ Some c → TakesAndWaits c c' k (theory.Waiting p) → slice_get m.stores host ≡ Some st → PartToQueue m host p born
      → option_map (λ (a : Ask). a.number) (asked_in (mail_in c.outbox.mails k)) ≡ Some number → option_map (λ (a : Ask). a.peek) (asked_in (mail_in c.outbox.mails k)) ≡ Some peek → LinesUp st st' p born number (record { ticket = t; peek = peek })
      → Takes m (with_store (with_cell m i c') host st') (record { worker = w; host = host; act = Queue t k p })
  queue_taken i c c' st st' born number peek at there takes here part numbers peeks lines start s s' stands taking =
      let l : Label = record { worker = w; host = host; act = Queue t k p } in
      let reached = after laws m start s stands l s' taking in
      let known = now laws m start s stands in
      let known' = laws m.plan start (stands.labels ++ l ∷ []) s' stands.fits stands.begins reached in
      let over = queue_on m (begin_in m.plan start) s s' t k p w host i c stands.shows at there known.agree known'.agree taking in
      let x : IsCell m.plan.program c (s.cells t) = subst (λ n. IsCell m.plan.program c (s.cells n)) at (stands.shows.cells.each i c there) in
      let writes : Writes st st' p lines.entry = record { store = lines.store; gone = lines.gone } in
      record {
        fits = stands.fits;
        begins = stands.begins;
        labels = stands.labels ++ l ∷ [];
        reached = reached;
        shows = lined_up m (begin_in m.plan start) s s' t k p w host i c c' stands.shows at there st st' here lines.entry taking takes over writes
            (λ a en is finds.
            let the : LetterIs ((s.cells t).mails k) host p (theory.Enter a) = record { mail = record { host = host; path = p; letter = theory.Enter a }; mail_is = is; host_is = refl; path_is = refl; letter_is = refl } in
            let asks = asks_of (mail_in c.outbox.mails k) ((s.cells t).mails k) a host p (subst (Carries (mail_in c.outbox.mails k)) (sym (x.mails k)) (x.stands.mails k)) the in
            let one : number ≡ a.number = same_number number a.number (sym numbers ∙ ap (option_map (λ (z : Ask). z.number)) asks) in
            let two : peek ≡ a.peek = same_test peek a.peek (sym peeks ∙ ap (option_map (λ (z : Ask). z.peek)) asks) in
            let lined = in_the_line m p host st st' born number (record { ticket = t; peek = peek }) (s.columns p) a.followed en (stands.shows.stores.each host st here p) lines (part.room st here) part.first finds in
            subst (EntryStands lines.entry) (λ j. in_line en (one j) (record { ticket = t; peek = two j })) lined);
      }
