-- A label leaves of its ticket's mails all but its own, and takes back none that was sent.
use Rattle.std.proofs.Common.{◌≡◌, ◌≢◌, ◌∙◌, ◌⊎◌, inl, inr, ℕ, suc, ◌≤◌, ◌==◌, ◌&&◌, Bool, true, false, List, [], ◌∷◌, ◌++◌, Option, Some, None, refl, sym, ap, subst, arith}
use Rattle.std.specs.Prelude.{if◌then◌else◌, nat_eq}
use Rattle.std.specs.BTreeMap.{insert_entry}
use Rattle.wave_base.specs.declared.path.Step.{Step}
use Rattle.wave_base.specs.declared.path.Path.{Path}
use Rattle.wave_base.specs.declared.children.Child.{Child}
use Rattle.wave_base.specs.Paths.{is_above, parent_of, path_cmp, path_eq}
use Rattle.wave_states.specs.Actors.{Actors, Pause, Left, Go, Down, Over}
use Rattle.wave_states.specs.Labels.{Act, Admit, Commit, Queue, Grant, Visit, Start as Starting, Stop, Free, Pass, Land, ticket_of}
use Rattle.wave_states.specs.States as theory
use Rattle.wave_states.specs.States.{Enter, Entry, Event, Hand, Hold, Mail, Release, State, Transfer, Ended, Ready, Running, Waiting, hold_at, holds_as_peek, set}
use Rattle.wave_states.specs.Steps.{Bench, Part, act_bench, desk_back, after_end, after_grant, host_or, into_child, after_look, moved_on, over_by, over_here, over_there, part_of, after_pause, after_queue, segment_of, after_start, step, stop, after_stop, with_bench, with_body, with_event, with_hand, without_mail}
use Rattle.wave_states.specs.Desks.{Desk, give_up, kept_of, left_of, not_at, nothing_kept, release, send, with_held, with_status}
use Rattle.wave_theory.proofs.Basics.{differ, if_some, none_not, set_at, set_there, some_same}
use Rattle.wave_theory.proofs.Opened.{frees, grants, lands, passes, queues, starts, stopping, visits}
use Rattle.wave_effects.specs.Apart.{new_cells}
use Rattle.wave_machine.specs.inner.Index.{act_number}
use Rattle.wave_effects.proofs.CellParts.{same_event}
use Rattle.wave_effects.proofs.Headed.{commits}
use Rattle.wave_effects.proofs.Opening.{free_found, grant_found, land_found, left_by, pass_found, queue_found, visit_found}
use Rattle.wave_effects.proofs.Starting.{start_found}

-- ---- a desk on which more was sent
record SentMore {A F : Type 0} (d d' : Desk A F) : Type 0 where
  sent : d.event.sent ≤ d'.event.sent
  mails : (k : ℕ) → k ≤ d.event.sent → d'.mails k ≡ d.mails k

module _ {A F : Type 0} where
  more_self : (d : Desk A F) → SentMore d d
  more_self d = record { sent = omega arith; mails = λ k low. refl }

  more_send : (d d' : Desk A F) (m : Mail F) → SentMore d d' → SentMore d (send d' m)
  more_send d d' m x =
      let most = x.sent in
      record {
        sent = omega (arith, most);
        mails = λ k low. set_there nat_eq d'.mails (suc d'.event.sent) (Some m) k (differ (suc d'.event.sent) k (λ e. omega (arith, e, low, most))) ∙ x.mails k low;
      }

  more_release : (xs : List (Path × Hold)) (d d' : Desk A F) → SentMore d d' → SentMore d (release xs d')
  more_release [] d d' x = x
  more_release (y ∷ xs) d d' x = more_release xs d (send d' (record { host = y.1.host; path = y.0; letter = Release })) (more_send d d' _ x)

  more_give : (keep : Path → Bool) (d d' : Desk A F) → SentMore d d' → SentMore d (give_up keep d')
  more_give keep d d' x = more_release (left_of keep d'.event.held) d (record { event = with_held d'.event (kept_of keep d'.event.held); mails = d'.mails }) (record { sent = x.sent; mails = x.mails })

  more_ended : (d d' : Desk A F) → SentMore d d' → SentMore d (after_end d')
  more_ended d d' x = more_give nothing_kept d (record { event = with_status d'.event Ended; mails = d'.mails }) (record { sent = x.sent; mails = x.mails })

  more_child : (p : Path) (host : ℕ) (d : Desk A F) (en : Entry F) (f : F) (cs : List (Step × Child)) (s : Step) (peek : Bool) (o : Option Hold) → SentMore d (into_child p host d en f cs s peek o).0
  more_child p host d en f cs s peek None = more_send d d _ (more_self d)
  more_child p host d en f cs s peek (Some x) = more_send d d _ (more_self d)

-- what is left of a ticket is what was on its desk, on which more was sent
record FromDesk {A F R : Type 0} (d : Desk A F) (y : Part A F R) : Type 0 where
  desk : Desk A F
  more : SentMore d desk
  event : y.cell.event ≡ Some desk.event
  mails : (k : ℕ) → y.cell.mails k ≡ desk.mails k

module _ {A F R J : Type 0} (sys : Actors A F R J) (p : Path) (host : ℕ) (x : Part A F R) (d : Desk A F) where
  from_here : (en : Entry F) (r : R) → FromDesk d (over_here x host d en r)
  from_here en r = record { desk = after_end d; more = more_ended d d (more_self d); event = refl; mails = λ k. refl }

  from_there : (en : Entry F) (r : R) (g : ℕ) → FromDesk d (over_there p x host d en r g)
  from_there en r g =
      let kept : Desk A F = record { event = with_held d.event (kept_of (not_at p) d.event.held); mails = d.mails } in
      let mail : Mail F = record { host = g; path = p; letter = Transfer (moved_on en) } in
      record {
        desk = after_end (send kept mail);
        more = more_ended d (send kept mail) (more_send d kept mail (record { sent = omega arith; mails = λ k low. refl }));
        event = refl;
        mails = λ k. refl;
      }

  from_over : (en : Entry F) (r : R) (o : Option (Path × ℕ)) → FromDesk d (over_by p x host d en r o)
  from_over en r None = from_here en r
  from_over en r (Some m) = by_host (m.1 == host)
    where
      by_host : (b : Bool) → FromDesk d (if b then over_here x host d en r else over_there p x host d en r m.1)
      by_host true = from_here en r
      by_host false = from_there en r m.1

  from_pause : (en : Entry F) (f : F) (cs : List (Step × Child)) (peek : Bool) (u : Pause R) → FromDesk d (after_pause sys p host x d en f cs peek u)
  from_pause en f cs peek (Go s) =
      let y = into_child p host d en f cs s peek (hold_at d.event.held (p ++ s ∷ [])) in
      record {
        desk = give_up (is_above (p ++ s ∷ [])) y.0;
        more = more_give (is_above (p ++ s ∷ [])) d y.0 (more_child p host d en f cs s peek (hold_at d.event.held (p ++ s ∷ [])));
        event = refl;
        mails = λ k. refl;
      }
  from_pause en f cs peek (Down s) =
      let y = into_child p host d en f cs s false (hold_at d.event.held (p ++ s ∷ [])) in
      record { desk = y.0; more = more_child p host d en f cs s false (hold_at d.event.held (p ++ s ∷ [])); event = refl; mails = λ k. refl }
  from_pause en f cs peek Pause.Back =
      let mail : Mail F = record { host = host_or (hold_at d.event.held (parent_of p)) host; path = parent_of p; letter = theory.Back } in
      record { desk = send d mail; more = more_send d d mail (more_self d); event = refl; mails = λ k. refl }
  from_pause en f cs peek (Over r) = from_over (with_body en (Some (record { fields = f; children = cs }))) r (sys.moved r)

  from_look : (en : Entry F) (u : Pause R) (y : Part A F R) → after_look x host d en u ≡ Some y → FromDesk d y
  from_look en (Over r) y e = subst (FromDesk d) (some_same _ y e) (from_here en r)
  from_look en (Go s) y e = absurd (none_not e)
  from_look en (Down s) y e = absurd (none_not e)
  from_look en Pause.Back y e = absurd (none_not e)

  from_stop : (en : Entry F) (cs : List (Step × Child)) (left : Left A F R) (peek : Bool) (y : Part A F R) → after_stop sys p host x d en cs left peek ≡ Some y → FromDesk d y
  from_stop en cs left true y e = from_look en left.pause y e
  from_stop en cs left false y e = subst (FromDesk d) (some_same _ y e) (from_pause en left.fields cs (sys.peeks left.actor) left.pause)

-- ---- what a label leaves of its ticket
pub record KeepsOwn {A F R : Type 0} (c c' : theory.Cell A F R) (k : ℕ) : Type 0 where
  pub sent : (e e' : Event A) → c.event ≡ Some e → c'.event ≡ Some e' → e.sent ≤ e'.sent
  pub mails : (e : Event A) → c.event ≡ Some e → (j : ℕ) → j ≤ e.sent → j ≢ k → c'.mails j ≡ c.mails j
  pub own : (k ≡ 0) ⊎ ((x : Mail F) × (c.mails k ≡ Some x))

module _ {A F R : Type 0} (c c' : theory.Cell A F R) where
  abbrev SentSame : Type 0
  SentSame = (e e' : Event A) → c.event ≡ Some e → c'.event ≡ Some e' → e'.sent ≡ e.sent

  same_event_sent : c'.event ≡ c.event → SentSame
  same_event_sent h e e' u v = ap (λ (z : Event A). z.sent) (same_event e' e c'.event v (h ∙ u))

  same_with : (event event' : Event A) → c.event ≡ Some event → c'.event ≡ Some event' → event'.sent ≡ event.sent → SentSame
  same_with event event' is is' h e e' u v = ap (λ (z : Event A). z.sent) (same_event e' event' c'.event v is') ∙ h ∙ ap (λ (z : Event A). z.sent) (same_event event e c.event is u)

  own_set : (k : ℕ) (o : Option (Mail F)) (x : Mail F) → c.mails k ≡ Some x → ((j : ℕ) → c'.mails j ≡ set nat_eq c.mails k o j) → SentSame → KeepsOwn c c' k
  own_set k o x at are same = record {
    sent = λ e e' u v. let s = same e e' u v in omega (arith, s);
    mails = λ e u j low apart. are j ∙ set_there nat_eq c.mails k o j (differ k j (λ z. apart (sym z)));
    own = inr (x, at);
  }

  own_stays : ((j : ℕ) → c'.mails j ≡ c.mails j) → SentSame → KeepsOwn c c' 0
  own_stays are same = record { sent = λ e e' u v. let s = same e e' u v in omega (arith, s); mails = λ e u j low apart. are j; own = inl refl }

  own_left : (event : Event A) (d : Desk A F) (y : Part A F R) → c.event ≡ Some event → d.event.sent ≡ event.sent → ((j : ℕ) → d.mails j ≡ c.mails j) → FromDesk d y → y.cell ≡ c' → KeepsOwn c c' 0
  own_left event d y is sent mails f gives = record {
    sent = λ e e' u v.
        let a : e.sent ≡ event.sent = ap (λ (z : Event A). z.sent) (same_event e event c.event u is) in
        let b : e'.sent ≡ f.desk.event.sent = ap (λ (z : Event A). z.sent) (same_event e' f.desk.event c'.event v (ap (λ (z : theory.Cell A F R). z.event) (sym gives) ∙ f.event)) in
        let more = f.more.sent in
        omega (arith, a, b, more, sent);
    mails = λ e u j low apart.
        let a : e.sent ≡ event.sent = ap (λ (z : Event A). z.sent) (same_event e event c.event u is) in
        ap (λ (z : theory.Cell A F R). z.mails j) (sym gives) ∙ f.mails j ∙ f.more.mails j (omega (arith, low, a, sent)) ∙ mails j;
    own = inl refl;
  }

module _ {A F R J : Type 0} (sys : Actors A F R J) (workers : ℕ) (s s' : State A F R J) (w host : ℕ) where
  abbrev Took : Act → Type 0
  Took a = step sys workers s (record { worker = w; host = host; act = a }) ≡ Some s'

  at : (t : ℕ) (p : Path) (bench : Bench A F R) → with_bench s t p w bench ≡ s' → (k : ℕ) → KeepsOwn (s.cells t) bench.part.cell k → KeepsOwn (s.cells t) (s'.cells t) k
  at t p bench gives k h = subst (λ (x : theory.Cell A F R). KeepsOwn (s.cells t) x k) (sym (set_at s.cells t bench.part.cell) ∙ ap (λ (z : State A F R J). z.cells t) gives) h

  stop_part : (t : ℕ) (p : Path) (x : Part A F R) (y : Bench A F R) (o : Option (Hand A F)) → act_bench sys (Stop t p) host x o ≡ Some y → (g : Hand A F) × (stop sys p host g x ≡ Some y.part)
  stop_part t p x y None e = absurd (none_not e)
  stop_part t p x y (Some g) e = (g, by_found (stop sys p host g x) (if_some ((g.ticket == t) && path_eq g.path p) (with_hand None (stop sys p host g x)) y e).1)
    where
      by_found : (found : Option (Part A F R)) → with_hand None found ≡ Some y → found ≡ Some y.part
      by_found None k = absurd (none_not k)
      by_found (Some z) k = ap (λ (b : Bench A F R). Some b.part) (some_same (record { part = z; hand = None }) y k)

  pub own_by : (a : Act) → Took a → (new_cells a ≡ 1 → ⊥) → KeepsOwn (s.cells (ticket_of a)) (s'.cells (ticket_of a)) (act_number a)
  own_by (Admit t) e apart = absurd (apart refl)
  own_by (Commit t) e apart =
      subst (λ (z : State A F R J). KeepsOwn (s.cells t) (z.cells t) 0) (commits sys workers s s' w host t e).gives
      (own_stays (s.cells t) (s.cells t) (λ j. refl) (same_event_sent (s.cells t) (s.cells t) refl))
  own_by (Queue t k p) e apart =
      let left = left_by sys workers s s' (record { worker = w; host = host; act = Queue t k p }) refl e in
      let calm = queue_found sys host (part_of s t p) left.bench t k p (s.hands w) left.found in
      let v = queues sys t k p host (part_of s t p) left.bench.part calm.part in
      let y = after_queue t k p host (part_of s t p) v.event v.ask v.entry in
      at t p left.bench left.gives k
      (subst (λ (z : Part A F R). KeepsOwn (s.cells t) z.cell k) v.gives
      (own_set (s.cells t) y.cell k None v.letter_at.mail v.letter_at.mail_is (λ j. refl) (same_with (s.cells t) y.cell v.event (with_status v.event (Waiting p)) v.event_is refl refl)))
  own_by (Grant t p) e apart =
      let left = left_by sys workers s s' (record { worker = w; host = host; act = Grant t p }) refl e in
      let calm = grant_found sys host (part_of s t p) left.bench t 0 p (s.hands w) left.found in
      let v = grants t p host (part_of s t p) left.bench.part calm.part in
      let y = after_grant p host (part_of s t p) v.event v.entry v.claim in
      at t p left.bench left.gives 0
      (subst (λ (z : Part A F R). KeepsOwn (s.cells t) z.cell 0) v.gives
      (own_stays (s.cells t) y.cell (λ j. refl)
      (same_with (s.cells t) y.cell v.event (record { actor = v.event.actor; held = insert_entry path_cmp v.event.held p (record { host = host; peek = v.claim.peek }); sent = v.event.sent; status = Ready p }) v.event_is refl refl)))
  own_by (Visit t k p) e apart =
      let left = left_by sys workers s s' (record { worker = w; host = host; act = Visit t k p }) refl e in
      let calm = visit_found sys host (part_of s t p) left.bench t k p (s.hands w) left.found in
      let v = visits k p host (part_of s t p) left.bench.part calm.part in
      let c = with_event (without_mail (s.cells t) k) (with_status v.event (Ready p)) in
      at t p left.bench left.gives k
      (subst (λ (z : Part A F R). KeepsOwn (s.cells t) z.cell k) v.gives
      (own_set (s.cells t) c k None v.letter_at.mail v.letter_at.mail_is (λ j. refl) (same_with (s.cells t) c v.event (with_status v.event (Ready p)) v.event_is refl refl)))
  own_by (Starting t p) e apart =
      let left = left_by sys workers s s' (record { worker = w; host = host; act = Starting t p }) refl e in
      let begins = start_found sys host (part_of s t p) left.bench t p (s.hands w) left.found in
      let v = starts t p host (part_of s t p) left.bench begins.found in
      let y = after_start t p host (part_of s t p) v.event v.entry v.actor v.body in
      at t p left.bench left.gives 0
      (subst (λ (z : Bench A F R). KeepsOwn (s.cells t) z.part.cell 0) v.gives
      (own_stays (s.cells t) y.part.cell (λ j. refl) (same_with (s.cells t) y.part.cell v.event (record { actor = None; held = v.event.held; sent = v.event.sent; status = Running p }) v.event_is refl refl)))
  own_by (Stop t p) e apart =
      let left = left_by sys workers s s' (record { worker = w; host = host; act = Stop t p }) refl e in
      let found = stop_part t p (part_of s t p) left.bench (s.hands w) left.found in
      let v = stopping sys t p host found.0 (part_of s t p) left.bench.part found.1 in
      let d = desk_back (s.cells t) v.event (segment_of sys found.0).actor in
      at t p left.bench left.gives 0
      (own_left (s.cells t) left.bench.part.cell v.event d left.bench.part v.event_is refl (λ j. refl)
      (from_stop sys p host (part_of s t p) d v.entry found.0.body.children (segment_of sys found.0) (holds_as_peek v.event.held p) left.bench.part v.gives) refl)
  own_by (Free t k p) e apart =
      let left = left_by sys workers s s' (record { worker = w; host = host; act = Free t k p }) refl e in
      let calm = free_found sys host (part_of s t p) left.bench t k p (s.hands w) left.found in
      let v = frees t k p host (part_of s t p) left.bench.part calm.part in
      let c = without_mail (s.cells t) k in
      at t p left.bench left.gives k
      (subst (λ (z : Part A F R). KeepsOwn (s.cells t) z.cell k) v.gives
      (own_set (s.cells t) c k None v.letter_at.mail v.letter_at.mail_is (λ j. refl) (same_event_sent (s.cells t) c refl)))
  own_by (Pass t k p g) e apart =
      let left = left_by sys workers s s' (record { worker = w; host = host; act = Pass t k p g }) refl e in
      let calm = pass_found sys host (part_of s t p) left.bench t k p g (s.hands w) left.found in
      let v = passes k g p host (part_of s t p) left.bench.part calm.part in
      let on : Option (Mail F) = Some (record { host = g; path = p; letter = Enter (record { number = v.ask.number; followed = v.mark.number; peek = v.ask.peek }) }) in
      let c : theory.Cell A F R = record { event = (s.cells t).event; mails = set nat_eq (s.cells t).mails k on; result = (s.cells t).result } in
      at t p left.bench left.gives k
      (subst (λ (z : Part A F R). KeepsOwn (s.cells t) z.cell k) v.gives
      (own_set (s.cells t) c k on v.letter_at.mail v.letter_at.mail_is (λ j. refl) (same_event_sent (s.cells t) c refl)))
  own_by (Land t k p) e apart =
      let left = left_by sys workers s s' (record { worker = w; host = host; act = Land t k p }) refl e in
      let calm = land_found sys host (part_of s t p) left.bench t k p (s.hands w) left.found in
      let v = lands k p host (part_of s t p) left.bench.part calm.part in
      let c = without_mail (s.cells t) k in
      at t p left.bench left.gives k
      (subst (λ (z : Part A F R). KeepsOwn (s.cells t) z.cell k) v.gives
      (own_set (s.cells t) c k None v.letter_at.mail v.letter_at.mail_is (λ j. refl) (same_event_sent (s.cells t) c refl)))
