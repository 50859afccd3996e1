-- No record at the last level of classes has children: each label keeps that, where no actor goes down from there.
use Rattle.std.proofs.Common.{◌≡◌, ◌∙◌, ◌⊎◌, inl, inr, ℕ, suc, ◌+◌, ◌<◌, ◌≤◌, ◌==◌, ◌&&◌, Bool, true, false, List, [], ◌∷◌, ◌++◌, length, Option, Some, None, refl, sym, subst, cond, arith}
use Rattle.std.specs.Prelude.{nat_eq, nat_lt, is_none, slice_get}
use Rattle.wave_base.specs.declared.children.Child.{Child}
use Rattle.wave_base.specs.declared.path.Path.{Path}
use Rattle.wave_base.specs.declared.path.Step.{Step}
use Rattle.wave_base.specs.Kids.{child_at, with_child}
use Rattle.wave_base.specs.Paths.{path_eq, is_above, parent_of}
use Rattle.wave_states.specs.Actors.{Actors, Pause, Go, Down, Back, Over}
use Rattle.wave_states.specs.Labels.{Act, Label, Admit, Queue, Grant, Visit, Start, Stop, Free, Pass, Land, Commit, ticket_of, path_of, is_local}
use Rattle.wave_states.specs.States as theory
use Rattle.wave_states.specs.States.{Cell, Column, Entry, Hand, Hold, Letter, Enter, Release, Transfer, Mail, Record, State, Ended, hold_at, holds_as_peek, set}
use Rattle.wave_states.specs.Steps.{Bench, Part, Route, Deliver, Born, Wait, Forward, act_bench, after_admit, child_or_new, after_commit, desk_back, after_end, entry_for, host_or, into_child, keep_below, left_by, moved_on, new_cell, next_ticket, only_if, over_by, over_here, over_there, part_of, put_back, route, seen_by, segment_of, step, with_bench, with_body, with_entry}
use Rattle.wave_states.specs.Desks.{Desk, give_up, kept_of, left_of, not_at, nothing_kept, release, send, with_held, with_status}
use Rattle.wave_theory.proofs.Basics.{and_second, if_some, none_not, only_some, path_is, some_same, then_some}
use Rattle.wave_theory.proofs.Opened.{frees, grants, lands, passes, queues, starts, stopping, visits}
use Rattle.wave_effects.specs.inner.Leaving.{paused_by, stopped_by}
use Rattle.wave_effects.proofs.Leaves.{stopped_is}
use Rattle.wave_effects.proofs.Opening.{free_found, grant_found, land_found, left_by as left_after, pass_found, queue_found, visit_found}
use Rattle.wave_effects.proofs.Starting.{start_found}
use Rattle.wave_effects.proofs.Stopping.{stop_found}

-- a function that is set at a key has at each what is new, or what it had
set_any : {X : Type 0} (P : X → Type 0) (f : ℕ → Option X) (k : ℕ) (o : Option X) → ((q : ℕ) (x : X) → f q ≡ Some x → P x) → ((x : X) → o ≡ Some x → P x) → (q : ℕ) (x : X) → set nat_eq f k o q ≡ Some x → P x
set_any P f k o old new q x e = by_test (nat_eq k q) e
  where
    by_test : (b : Bool) → cond b o (f q) ≡ Some x → P x
    by_test true h = new x h
    by_test false h = old q x h

only_one : {X : Type 0} (P : X → Type 0) (a : X) → P a → (x : X) → Some a ≡ Some x → P x
only_one P a h x e = subst P (some_same a x e) h

no_one : {X : Type 0} (P : X → Type 0) (x : X) → None ≡ Some x → P x
no_one P x e = absurd (none_not e)

module _ {F : Type 0} where
  abbrev pub FlatRecord : Path → Record F → Type 0
  FlatRecord p r = 8 ≤ length p → r.children ≡ []

  abbrev pub FlatEntry : Path → Entry F → Type 0
  FlatEntry p en = (r : Record F) → en.body ≡ Some r → FlatRecord p r

  abbrev pub FlatMail : Mail F → Type 0
  FlatMail m = (en : Entry F) → m.letter ≡ Transfer en → FlatEntry m.path en

  abbrev pub FlatMails : (ℕ → Option (Mail F)) → Type 0
  FlatMails ms = (k : ℕ) (m : Mail F) → ms k ≡ Some m → FlatMail m

  abbrev pub FlatColumn : Path → Column F → Type 0
  FlatColumn p c = (h : ℕ) (en : Entry F) → c.store h ≡ Some en → FlatEntry p en

  enter_flat : (h : ℕ) (p : Path) (a : theory.Ask) → FlatMail (record { host = h; path = p; letter = Enter a })
  enter_flat h p a en e = cc

  visit_flat : (h : ℕ) (p : Path) → FlatMail (record { host = h; path = p; letter = Letter.Visit })
  visit_flat h p en e = cc

  back_flat : (h : ℕ) (p : Path) → FlatMail (record { host = h; path = p; letter = Letter.Back })
  back_flat h p en e = cc

  release_flat : (h : ℕ) (p : Path) → FlatMail (record { host = h; path = p; letter = Release })
  release_flat h p en e = cc

  same_transfer : (a b : Entry F) → Transfer a ≡ Transfer b → a ≡ b
  same_transfer a b e = cc

  transfer_flat : (h : ℕ) (p : Path) (en : Entry F) → FlatEntry p en → FlatMail (record { host = h; path = p; letter = Transfer en })
  transfer_flat h p en f x e = subst (FlatEntry p) (same_transfer en x e) f

  entry_set : (p : Path) (c : Column F) (h : ℕ) (en : Entry F) → FlatColumn p c → FlatEntry p en → FlatColumn p (with_entry c h (Some en))
  entry_set p c h en old new = set_any (FlatEntry p) c.store h (Some en) old (only_one (FlatEntry p) en new)

  mail_set : (ms : ℕ → Option (Mail F)) (k : ℕ) (m : Mail F) → FlatMails ms → FlatMail m → FlatMails (set nat_eq ms k (Some m))
  mail_set ms k m old new = set_any FlatMail ms k (Some m) old (only_one FlatMail m new)

  mail_out : (ms : ℕ → Option (Mail F)) (k : ℕ) → FlatMails ms → FlatMails (set nat_eq ms k None)
  mail_out ms k old = set_any FlatMail ms k None old (no_one FlatMail)

  -- what a Start takes, and what it leaves
  left_flat : (p : Path) (looks : Bool) (b : Record F) → FlatRecord p b → (r : Record F) → left_by looks b ≡ Some r → FlatRecord p r
  left_flat p true b h r e = subst (FlatRecord p) (some_same b r e) h
  left_flat p false b h r e = absurd (none_not e)

  seen_flat : (p : Path) (looks : Bool) (b : Record F) → FlatRecord p b → FlatRecord p (seen_by looks b)
  seen_flat p true b h deep = refl
  seen_flat p false b h deep = h deep

module _ {A F : Type 0} where
  abbrev pub FlatHand : Option (Hand A F) → Type 0
  FlatHand o = (g : Hand A F) → o ≡ Some g → FlatRecord g.path g.body

  no_hand : (g : Hand A F) → None ≡ Some g → FlatRecord g.path g.body
  no_hand g e = absurd (none_not e)

  abbrev pub FlatDesk : Desk A F → Type 0
  FlatDesk d = FlatMails d.mails

  sent_flat : (d : Desk A F) (m : Mail F) → FlatDesk d → FlatMail m → FlatDesk (send d m)
  sent_flat d m old new = mail_set d.mails (suc d.event.sent) m old new

  released_flat : (xs : List (Path × Hold)) (d : Desk A F) → FlatDesk d → FlatDesk (release xs d)
  released_flat [] d h = h
  released_flat (x ∷ xs) d h = released_flat xs (send d (record { host = x.1.host; path = x.0; letter = Release })) (sent_flat d (record { host = x.1.host; path = x.0; letter = Release }) h (release_flat x.1.host x.0))

  given_flat : (keep : Path → Bool) (d : Desk A F) → FlatDesk d → FlatDesk (give_up keep d)
  given_flat keep d h = released_flat (left_of keep d.event.held) (record { event = with_held d.event (kept_of keep d.event.held); mails = d.mails }) h

  ended_flat : (d : Desk A F) → FlatDesk d → FlatDesk (after_end d)
  ended_flat d h = given_flat nothing_kept (record { event = with_status d.event Ended; mails = d.mails }) h

module _ {A F R : Type 0} where
  pub record FlatPart (p : Path) (x : Part A F R) : Type 0 where
    pub mails : FlatMails x.cell.mails
    pub column : FlatColumn p x.column

  -- what a Stop puts back
  module _ (p : Path) (host : ℕ) (x : Part A F R) (d : Desk A F) (en : Entry F) (r : Record F) (peek : Bool) (part : FlatPart p x) (desk : FlatDesk d) (entry : FlatEntry p en) (body : FlatRecord p r) where
    body_flat : (q : Record F) → FlatRecord p q → FlatEntry p (with_body en (Some q))
    body_flat q f = only_one (FlatRecord p) q f

    put_flat : (z : Desk A F × Entry F) → FlatDesk z.0 → FlatEntry p z.1 → FlatPart p (put_back x host z)
    put_flat z f g = record { mails = f; column = entry_set p x.column host z.1 part.column g }

    over_flat : (o : R) (e : Entry F) → FlatEntry p e → FlatPart p (over_here x host d e o)
    over_flat o e f = record { mails = ended_flat d desk; column = entry_set p x.column host e part.column f }

    away_flat : (o : R) (to : ℕ) (e : Entry F) → FlatEntry p e → FlatPart p (over_there p x host d e o to)
    away_flat o to e f =
        let d' : Desk A F = record { event = with_held d.event (kept_of (not_at p) d.event.held); mails = d.mails } in
        let m : Mail F = record { host = to; path = p; letter = Transfer (moved_on e) } in
        record {
          mails = ended_flat (send d' m) (sent_flat d' m desk (transfer_flat to p (moved_on e) f));
          column = set_any (FlatEntry p) x.column.store host None part.column (no_one (FlatEntry p));
        }

    moved_flat : (o : R) (m : Option (Path × ℕ)) (e : Entry F) → FlatEntry p e → FlatPart p (over_by p x host d e o m)
    moved_flat o None e f = over_flat o e f
    moved_flat o (Some m) e f = by_place (m.1 == host)
      where
        by_place : (b : Bool) → FlatPart p (cond b (over_here x host d e o) (over_there p x host d e o m.1))
        by_place true = over_flat o e f
        by_place false = away_flat o m.1 e f

    child_flat : (s : Step) (look : Bool) (o : Option Hold) → length p < 8 → FlatDesk (into_child p host d en r.fields r.children s look o).0 × FlatEntry p (into_child p host d en r.fields r.children s look o).1
    child_flat s look (Some h) near = (sent_flat d (record { host = h.host; path = p ++ s ∷ []; letter = Letter.Visit }) desk (visit_flat h.host (p ++ s ∷ [])), body_flat (record { fields = r.fields; children = r.children }) body)
    child_flat s look None near =
        let c : Child = child_or_new (child_at r.children s) host in
        let a : theory.Ask = record { number = suc c.given; followed = 0; peek = look } in (
          sent_flat d (record { host = c.birth.0; path = p ++ s ∷ []; letter = Enter a }) desk (enter_flat c.birth.0 (p ++ s ∷ []) a),
          body_flat (record { fields = r.fields; children = with_child r.children s (record { given = suc c.given; birth = c.birth }) }) (λ deep. absurd (omega (arith, deep, near))),
        )

    module _ (moved : R → Option (Path × ℕ)) where
      paused_flat : (why : Pause R) → ((s : Step) → (why ≡ Go s) ⊎ (why ≡ Down s) → length p < 8) → FlatPart p (paused_by moved p host x d en r peek why)
      paused_flat (Go s) near =
          let c = child_flat s peek (hold_at d.event.held (p ++ s ∷ [])) (near s (inl refl)) in
          let y : Desk A F × Entry F = into_child p host d en r.fields r.children s peek (hold_at d.event.held (p ++ s ∷ [])) in
          put_flat (keep_below (p ++ s ∷ []) y) (given_flat (is_above (p ++ s ∷ [])) y.0 c.0) c.1
      paused_flat (Down s) near =
          let c = child_flat s false (hold_at d.event.held (p ++ s ∷ [])) (near s (inr refl)) in
          put_flat (into_child p host d en r.fields r.children s false (hold_at d.event.held (p ++ s ∷ []))) c.0 c.1
      paused_flat Back near =
          let m : Mail F = record { host = host_or (hold_at d.event.held (parent_of p)) host; path = parent_of p; letter = Letter.Back } in
          put_flat (send d m, with_body en (Some r)) (sent_flat d m desk (back_flat m.host (parent_of p))) (body_flat r body)
      paused_flat (Over o) near = moved_flat o (moved o) (with_body en (Some r)) (body_flat r body)

      stopped_flat : (why : Pause R) (looks : Bool) (y : Part A F R) → ((s : Step) → (why ≡ Go s) ⊎ (why ≡ Down s) → length p < 8) → stopped_by moved p host x d en r peek why looks ≡ Some y → FlatPart p y
      stopped_flat why false y near e = subst (FlatPart p) (some_same (paused_by moved p host x d en r peek why) y e) (paused_flat why near)
      stopped_flat (Go s) true y near e = absurd (none_not e)
      stopped_flat (Down s) true y near e = absurd (none_not e)
      stopped_flat Back true y near e = absurd (none_not e)
      stopped_flat (Over o) true y near e = subst (FlatPart p) (some_same (over_here x host d en o) y e) (over_flat o en entry)

-- ---- the labels of one context

module _ {A F R J : Type 0} (sys : Actors A F R J) where
  -- no actor in a hand goes down from the last level
  abbrev pub StaysAbove : Option (Hand A F) → Type 0
  StaysAbove o = (g : Hand A F) → o ≡ Some g → (s : Step) → ((segment_of sys g).pause ≡ Go s) ⊎ ((segment_of sys g).pause ≡ Down s) → length g.path < 8

  queue_entry : (p : Path) (host : ℕ) (c : Column F) (r : Route) (en : Entry F) → FlatColumn p c → entry_for sys p host c r ≡ Some en → FlatEntry p en
  queue_entry p host c Deliver en h e = h host en e
  queue_entry p host c Born en h e = subst (FlatEntry p) (some_same _ en e) (only_one (FlatRecord p) (record { fields = sys.initial p; children = [] }) (λ deep. refl))
  queue_entry p host c Wait en h e = absurd (none_not e)
  queue_entry p host c (Forward g) en h e = absurd (none_not e)

  module _ (host : ℕ) (x : Part A F R) (y : Bench A F R) (t : ℕ) (p : Path) (part : FlatPart p x) where
    bench_flat : FlatPart p y.part → y.hand ≡ None → FlatPart p y.part × FlatHand y.hand
    bench_flat f e = (f, subst FlatHand (sym e) no_hand)

    module _ (k : ℕ) where
      visit_kept : (o : Option (Hand A F)) → act_bench sys (Visit t k p) host x o ≡ Some y → FlatPart p y.part × FlatHand y.hand
      visit_kept o e =
          let calm = visit_found sys host x y t k p o e in
          let v = visits k p host x y.part calm.part in
          bench_flat (subst (FlatPart p) v.gives (record { mails = mail_out x.cell.mails k part.mails; column = part.column })) calm.hand

      free_kept : (o : Option (Hand A F)) → act_bench sys (Free t k p) host x o ≡ Some y → FlatPart p y.part × FlatHand y.hand
      free_kept o e =
          let calm = free_found sys host x y t k p o e in
          let v = frees t k p host x y.part calm.part in
          bench_flat (subst (FlatPart p) v.gives (record { mails = mail_out x.cell.mails k part.mails; column = entry_set p x.column host _ part.column (part.column host v.entry v.entry_is) })) calm.hand

      land_kept : (o : Option (Hand A F)) → act_bench sys (Land t k p) host x o ≡ Some y → FlatPart p y.part × FlatHand y.hand
      land_kept o e =
          let calm = land_found sys host x y t k p o e in
          let v = lands k p host x y.part calm.part in
          let entry : FlatEntry p v.entry = subst (λ q. FlatEntry q v.entry) v.letter_at.path_is (part.mails k v.letter_at.mail v.letter_at.mail_is v.entry v.letter_at.letter_is) in
          bench_flat (subst (FlatPart p) v.gives (record { mails = mail_out x.cell.mails k part.mails; column = entry_set p x.column host _ part.column entry })) calm.hand

      queue_kept : (o : Option (Hand A F)) → act_bench sys (Queue t k p) host x o ≡ Some y → FlatPart p y.part × FlatHand y.hand
      queue_kept o e =
          let calm = queue_found sys host x y t k p o e in
          let v = queues sys t k p host x y.part calm.part in
          bench_flat (subst (FlatPart p) v.gives (record { mails = mail_out x.cell.mails k part.mails; column = entry_set p x.column host _ part.column (queue_entry p host x.column (route x.column host v.ask.followed) v.entry part.column v.entry_is) })) calm.hand

      pass_kept : (g : ℕ) (o : Option (Hand A F)) → act_bench sys (Pass t k p g) host x o ≡ Some y → FlatPart p y.part × FlatHand y.hand
      pass_kept g o e =
          let calm = pass_found sys host x y t k p g o e in
          let v = passes k g p host x y.part calm.part in
          bench_flat (subst (FlatPart p) v.gives (record { mails = mail_set x.cell.mails k _ part.mails (enter_flat g p _); column = part.column })) calm.hand

    grant_kept : (o : Option (Hand A F)) → act_bench sys (Grant t p) host x o ≡ Some y → FlatPart p y.part × FlatHand y.hand
    grant_kept o e =
        let calm = grant_found sys host x y t 0 p o e in
        let v = grants t p host x y.part calm.part in
        bench_flat (subst (FlatPart p) v.gives (record { mails = part.mails; column = entry_set p x.column host _ part.column (part.column host v.entry v.entry_is) })) calm.hand

    start_kept : (o : Option (Hand A F)) → act_bench sys (Start t p) host x o ≡ Some y → FlatPart p y.part × FlatHand y.hand
    start_kept o e =
        let begins = start_found sys host x y t p o e in
        let v = starts t p host x y begins.found in
        let looks = holds_as_peek v.event.held p in
        let body : FlatRecord p v.body = part.column host v.entry v.entry_is v.body v.body_is in (
          subst (λ (b : Bench A F R). FlatPart p b.part) v.gives (record { mails = part.mails; column = entry_set p x.column host (with_body v.entry (left_by looks v.body)) part.column (left_flat p looks v.body body) }),
          subst (λ (b : Bench A F R). FlatHand b.hand) v.gives (λ g f. subst (λ (h : Hand A F). FlatRecord h.path h.body) (some_same _ g f) (seen_flat p looks v.body body)),
        )

    stop_kept : (o : Option (Hand A F)) → FlatHand o → StaysAbove o → act_bench sys (Stop t p) host x o ≡ Some y → FlatPart p y.part × FlatHand y.hand
    stop_kept None hand near e = absurd (none_not e)
    stop_kept (Some g) hand near e =
        let same : g.path ≡ p = path_is g.path p (and_second (g.ticket == t) (path_eq g.path p) (if_some ((g.ticket == t) && path_eq g.path p) _ y e).0) in
        let halted = stop_found sys host x y t p (Some g) g refl e in
        let v = stopping sys t p host g x y.part halted.found in
        let seg = segment_of sys g in
        let d : Desk A F = desk_back x.cell v.event seg.actor in
        let r : Record F = record { fields = seg.fields; children = g.body.children } in
        let looks = holds_as_peek v.event.held p in
        bench_flat (stopped_flat p host x d v.entry r (sys.peeks seg.actor) part part.mails (part.column host v.entry v.entry_is) (subst (λ q. 8 ≤ length q → g.body.children ≡ []) same (hand g refl))
        sys.moved seg.pause looks y.part (λ s f. subst (λ q. length q < 8) same (near g refl s f)) (sym (stopped_is sys p host x d v.entry g.body.children seg looks) ∙ v.gives)) halted.hand

  -- ---- the whole state

  pub record IsFlat (s : State A F R J) : Type 0 where
    pub mails : (t : ℕ) → FlatMails (s.cells t).mails
    pub columns : (p : Path) → FlatColumn p (s.columns p)
    pub hands : (w : ℕ) → FlatHand (s.hands w)

  abbrev pub AllStay : State A F R J → Type 0
  AllStay s = (w : ℕ) → StaysAbove (s.hands w)

  bench_at : (s : State A F R J) (t : ℕ) (p : Path) (w : ℕ) (y : Bench A F R) → IsFlat s → FlatPart p y.part × FlatHand y.hand → IsFlat (with_bench s t p w y)
  bench_at s t p w y h f = record {
    mails = λ u. by_ticket u (nat_eq t u);
    columns = λ q. by_path q (path_eq p q) refl;
    hands = λ v. by_worker v (nat_eq w v);
  }
    where
      by_ticket : (u : ℕ) (b : Bool) → FlatMails (cond b y.part.cell (s.cells u)).mails
      by_ticket u true = f.0.mails
      by_ticket u false = h.mails u

      by_path : (q : Path) (b : Bool) → path_eq p q ≡ b → FlatColumn q (cond b y.part.column (s.columns q))
      by_path q true e = subst (λ r. FlatColumn r y.part.column) (path_is p q e) f.0.column
      by_path q false e = h.columns q

      by_worker : (v : ℕ) (b : Bool) → FlatHand (cond b y.hand (s.hands v))
      by_worker v true = f.1
      by_worker v false = h.hands v

  module _ (workers : ℕ) (s s' : State A F R J) (flat : IsFlat s) (stay : AllStay s) where
    local_kept : (l : Label) → is_local l.act ≡ true → ((y : Bench A F R) → act_bench sys l.act l.host (part_of s (ticket_of l.act) (path_of l.act)) (s.hands l.worker) ≡ Some y → FlatPart (path_of l.act) y.part × FlatHand y.hand) → step sys workers s l ≡ Some s' → IsFlat s'
    local_kept l z h e =
        let left = left_after sys workers s s' l z e in
        subst IsFlat left.gives (bench_at s (ticket_of l.act) (path_of l.act) l.worker left.bench flat (h left.bench left.found))

    part_at : (t : ℕ) (p : Path) → FlatPart p (part_of s t p)
    part_at t p = record { mails = flat.mails t; column = flat.columns p }

    admit_kept : (w host t : ℕ) → step sys workers s (record { worker = w; host = host; act = Admit t }) ≡ Some s' → IsFlat s'
    unfolding step
    admit_kept w host t e =
        let i = if_some (nat_lt w workers) _ s' e in
        let j = if_some (is_none (s.hands w)) _ s' i.1 in
        let k = then_some (λ job. only_if ((host == 0) && (t == next_ticket s)) (after_admit sys s t job)) (slice_get s.head.known s.admitted) s' j.1 in
        let o = only_some ((host == 0) && (t == next_ticket s)) (after_admit sys s t k.0) s' k.2 in
        subst IsFlat o.1 (record { mails = λ u. by_ticket k.0 u (nat_eq t u); columns = flat.columns; hands = flat.hands })
      where
        by_ticket : (job : J) (u : ℕ) (b : Bool) → FlatMails (cond b (new_cell sys (sys.make job t) t) (s.cells u)).mails
        by_ticket job u true = mail_set (λ k. None) 1 _ (λ k m f. absurd (none_not f)) (enter_flat 0 [] _)
        by_ticket job u false = flat.mails u

    commit_kept : (w host t : ℕ) → step sys workers s (record { worker = w; host = host; act = Commit t }) ≡ Some s' → IsFlat s'
    unfolding step
    commit_kept w host t e =
        let i = if_some (nat_lt w workers) _ s' e in
        let j = if_some (is_none (s.hands w)) _ s' i.1 in
        let k = then_some (λ r. only_if ((host == 0) && (t == suc (s.before + s.head.done))) (after_commit sys s r)) (s.cells t).result s' j.1 in
        let o = only_some ((host == 0) && (t == suc (s.before + s.head.done))) (after_commit sys s k.0) s' k.2 in
        subst IsFlat o.1 (record { mails = flat.mails; columns = flat.columns; hands = flat.hands })

    pub step_kept : (l : Label) → step sys workers s l ≡ Some s' → IsFlat s'
    step_kept l = by_act l.worker l.host l.act
      where
        by_act : (w host : ℕ) (a : Act) → step sys workers s (record { worker = w; host = host; act = a }) ≡ Some s' → IsFlat s'
        by_act w host (Admit t) e = admit_kept w host t e
        by_act w host (Commit t) e = commit_kept w host t e
        by_act w host (Queue t k p) e = local_kept (record { worker = w; host = host; act = Queue t k p }) refl (λ y f. queue_kept host (part_of s t p) y t p (part_at t p) k (s.hands w) f) e
        by_act w host (Grant t p) e = local_kept (record { worker = w; host = host; act = Grant t p }) refl (λ y f. grant_kept host (part_of s t p) y t p (part_at t p) (s.hands w) f) e
        by_act w host (Visit t k p) e = local_kept (record { worker = w; host = host; act = Visit t k p }) refl (λ y f. visit_kept host (part_of s t p) y t p (part_at t p) k (s.hands w) f) e
        by_act w host (Start t p) e = local_kept (record { worker = w; host = host; act = Start t p }) refl (λ y f. start_kept host (part_of s t p) y t p (part_at t p) (s.hands w) f) e
        by_act w host (Stop t p) e = local_kept (record { worker = w; host = host; act = Stop t p }) refl (λ y f. stop_kept host (part_of s t p) y t p (part_at t p) (s.hands w) (flat.hands w) (stay w) f) e
        by_act w host (Free t k p) e = local_kept (record { worker = w; host = host; act = Free t k p }) refl (λ y f. free_kept host (part_of s t p) y t p (part_at t p) k (s.hands w) f) e
        by_act w host (Pass t k p g) e = local_kept (record { worker = w; host = host; act = Pass t k p g }) refl (λ y f. pass_kept host (part_of s t p) y t p (part_at t p) k g (s.hands w) f) e
        by_act w host (Land t k p) e = local_kept (record { worker = w; host = host; act = Land t k p }) refl (λ y f. land_kept host (part_of s t p) y t p (part_at t p) k (s.hands w) f) e
