-- What an enabled label finds: its mail, its claim in line, its event that is ready, its segment that is out; or the head's next job.
use Rattle.std.proofs.Common.{◌≡◌, ℕ, suc, ◌+◌, ◌≤◌, ◌==◌, ◌&&◌, true, Option, Some, None, refl, sym, ◌∙◌, ap, arith}
use Rattle.std.specs.Prelude.{if◌then◌else◌, nat_lt, slice_get}
use Rattle.wave_base.specs.declared.path.Path.{Path}
use Rattle.wave_base.specs.Paths.{path_eq}
use Rattle.wave_states.specs.Actors.{Actors}
use Rattle.wave_states.specs.States.{State, Claim, Entry, Event, Hand, Mail, Ready}
use Rattle.wave_states.specs.Labels.{Act, Label, Admit, Queue, Grant, Start, Stop, Free, Pass, Land, Commit, ticket_of, path_of}
use Rattle.wave_states.specs.Labels
use Rattle.wave_states.specs.Steps.{Bench, Part, step, step_by, act_bench, with_hand, with_bench, part_of, queue, grant, visit, start, free, pass, land, only_if, next_ticket, after_admit, after_commit}
use Rattle.wave_theory.proofs.Basics.{none_not, some_same, then_some, map_some, only_some, if_some, and_first, and_second, number_is, set_at}
use Rattle.wave_theory.proofs.Folds.{with_done_done}
use Rattle.wave_theory.proofs.Opened.{visits, grants, starts, frees, lands, passes, queues}

module _ {A F R J : Type 0} where
  -- what lets a label of the ticket be taken
  pub data Cause (s : State A F R J) (worker t : ℕ) : Type 0 where
    By_mail : (k : ℕ) → (m : Mail F) → (s.cells t).mails k ≡ Some m → Cause s worker t
    By_claim : (p : Path) → (host : ℕ) → (en : Entry F) → (c : Claim) → (s.columns p).store host ≡ Some en → en.waiting (suc en.served) ≡ Some c → c.ticket ≡ t → Cause s worker t
    By_status : (event : Event A) → (p : Path) → (s.cells t).event ≡ Some event → event.status ≡ Ready p → Cause s worker t
    By_hand : (h : Hand A F) → s.hands worker ≡ Some h → h.ticket ≡ t → Cause s worker t
    By_head : (j : J) → slice_get s.head.known s.admitted ≡ Some j → t ≡ next_ticket s → Cause s worker t
    By_result : (r : R) → (s.cells t).result ≡ Some r → t ≡ suc (s.before + s.head.done) → Cause s worker t

  -- what a label leaves in its worker's hand is of its ticket; no ticket is committed less
  pub record Leaves (s v : State A F R J) (worker t : ℕ) : Type 0 where
    pub hand : (h : Hand A F) → v.hands worker ≡ Some h → h.ticket ≡ t
    pub done : s.head.done ≤ v.head.done

module _ {A F R J : Type 0} (sys : Actors A F R J) where
  idle_of : {X : Type 0} (o : Option (Hand A F)) (r : Option X) (x : X) → (if Rattle.std.specs.Prelude.is_none o then r else None) ≡ Some x → (o ≡ None) × (r ≡ Some x)
  idle_of None r x e = (refl, e)
  idle_of (Some h) r x e = absurd (none_not e)

  module _ (s v : State A F R J) (w host : ℕ) where
    abbrev part : ℕ → Path → Part A F R
    part t p = part_of s t p

    -- of labels that leave the hand empty
    emptied : (o : Option (Part A F R)) (y : Bench A F R) → with_hand None o ≡ Some y → (z : Part A F R) × (o ≡ Some z) × (y.hand ≡ None)
    emptied o y e = (let m = map_some _ o y e in (m.0, m.1, ap (λ (u : Bench A F R). u.hand) m.2))

    hand_is : (t : ℕ) (p : Path) (y : Bench A F R) → v ≡ with_bench s t p w y → (h : Hand A F) → v.hands w ≡ Some h → y.hand ≡ Some h
    hand_is t p y e h f = sym (set_at s.hands w y.hand) ∙ sym (ap (λ (u : State A F R J). u.hands w) e) ∙ f

    local_leaves : (t : ℕ) (p : Path) (y : Bench A F R) → v ≡ with_bench s t p w y → ((h : Hand A F) → y.hand ≡ Some h → h.ticket ≡ t) → Leaves s v w t
    local_leaves t p y e k = record { hand = λ h f. k h (hand_is t p y e h f); done = upto _ _ (ap (λ (u : State A F R J). u.head.done) e) }
      where
        upto : (a c : ℕ) → c ≡ a → a ≤ c
        upto a c e = omega (arith, e)

    empty : (t : ℕ) (y : Bench A F R) → y.hand ≡ None → (h : Hand A F) → y.hand ≡ Some h → h.ticket ≡ t
    empty t y e h f = absurd (none_not (sym e ∙ f))

    -- what is known of a label that was taken
    abbrev Known : Act → Type 0
    Known a = Cause s w (ticket_of a) × Leaves s v w (ticket_of a)

    -- each of an idle worker
    queue_by : (t k : ℕ) (p : Path) (x : Part A F R) (o : Option (Hand A F)) (y : Bench A F R) → act_bench sys (Queue t k p) host x o ≡ Some y → (z : Part A F R) × (queue sys t k p host x ≡ Some z) × (y.hand ≡ None)
    queue_by t k p x None y e = emptied _ y e
    queue_by t k p x (Some h) y e = absurd (none_not e)

    grant_by : (t : ℕ) (p : Path) (x : Part A F R) (o : Option (Hand A F)) (y : Bench A F R) → act_bench sys (Grant t p) host x o ≡ Some y → (z : Part A F R) × (grant t p host x ≡ Some z) × (y.hand ≡ None)
    grant_by t p x None y e = emptied _ y e
    grant_by t p x (Some h) y e = absurd (none_not e)

    visit_by : (t k : ℕ) (p : Path) (x : Part A F R) (o : Option (Hand A F)) (y : Bench A F R) → act_bench sys (Labels.Visit t k p) host x o ≡ Some y → (z : Part A F R) × (visit k p host x ≡ Some z) × (y.hand ≡ None)
    visit_by t k p x None y e = emptied _ y e
    visit_by t k p x (Some h) y e = absurd (none_not e)

    free_by : (t k : ℕ) (p : Path) (x : Part A F R) (o : Option (Hand A F)) (y : Bench A F R) → act_bench sys (Free t k p) host x o ≡ Some y → (z : Part A F R) × (free t k p host x ≡ Some z) × (y.hand ≡ None)
    free_by t k p x None y e = emptied _ y e
    free_by t k p x (Some h) y e = absurd (none_not e)

    pass_by : (t k : ℕ) (p : Path) (g : ℕ) (x : Part A F R) (o : Option (Hand A F)) (y : Bench A F R) → act_bench sys (Pass t k p g) host x o ≡ Some y → (z : Part A F R) × (pass k p g host x ≡ Some z) × (y.hand ≡ None)
    pass_by t k p g x None y e = emptied _ y e
    pass_by t k p g x (Some h) y e = absurd (none_not e)

    land_by : (t k : ℕ) (p : Path) (x : Part A F R) (o : Option (Hand A F)) (y : Bench A F R) → act_bench sys (Land t k p) host x o ≡ Some y → (z : Part A F R) × (land k p host x ≡ Some z) × (y.hand ≡ None)
    land_by t k p x None y e = emptied _ y e
    land_by t k p x (Some h) y e = absurd (none_not e)

    start_by : (t : ℕ) (p : Path) (x : Part A F R) (o : Option (Hand A F)) (y : Bench A F R) → act_bench sys (Start t p) host x o ≡ Some y → start t p host x ≡ Some y
    start_by t p x None y e = e
    start_by t p x (Some h) y e = absurd (none_not e)

    -- a Stop is its hand's
    stop_by : (t : ℕ) (p : Path) (x : Part A F R) (o : Option (Hand A F)) (y : Bench A F R) → act_bench sys (Stop t p) host x o ≡ Some y → (h : Hand A F) × (o ≡ Some h) × (h.ticket ≡ t) × (y.hand ≡ None)
    stop_by t p x None y e = absurd (none_not e)
    stop_by t p x (Some h) y e =
        let i = if_some ((h.ticket == t) && path_eq h.path p) _ y e in
        (h, refl, number_is h.ticket t (and_first _ _ i.0), (emptied _ y i.1).2)

    pub known : (a : Act) → step_by sys s w host a ≡ Some v → Known a
    known (Admit t) e =
        let i = idle_of (s.hands w) _ v e in
        let r = then_some (λ j. only_if ((host == 0) && (t == next_ticket s)) (after_admit sys s t j)) (slice_get s.head.known s.admitted) v i.1 in
        let o = only_some ((host == 0) && (t == next_ticket s)) _ v r.2 in (
          By_head r.0 r.1 (number_is t (next_ticket s) (and_second (host == 0) _ o.0)),
          record { hand = λ h f. absurd (none_not (sym i.0 ∙ ap (λ (u : State A F R J). u.hands w) o.1 ∙ f)); done = upto _ _ (ap (λ (u : State A F R J). u.head.done) (sym o.1)) },
        )
      where
        upto : (a c : ℕ) → c ≡ a → a ≤ c
        upto a c e = omega (arith, e)
    known (Commit t) e =
        let i = idle_of (s.hands w) _ v e in
        let r = then_some (λ r. only_if ((host == 0) && (t == suc (s.before + s.head.done))) (after_commit sys s r)) (s.cells t).result v i.1 in
        let o = only_some ((host == 0) && (t == suc (s.before + s.head.done))) _ v r.2 in (
          By_result r.0 r.1 (number_is t (suc (s.before + s.head.done)) (and_second (host == 0) _ o.0)),
          record { hand = λ h f. absurd (none_not (sym i.0 ∙ ap (λ (u : State A F R J). u.hands w) o.1 ∙ f)); done = more _ _ (ap (λ (u : State A F R J). u.head.done) (sym o.1) ∙ with_done_done s.head (sys.created r.0)) },
        )
      where
        more : (a c : ℕ) → c ≡ suc a → a ≤ c
        more a c e = omega (arith, e)
    known (Queue t k p) e =
        let y = map_some _ (act_bench sys (Queue t k p) host (part t p) (s.hands w)) v e in
        let z = queue_by t k p (part t p) (s.hands w) y.0 y.1 in
        let m = (queues sys t k p host (part t p) z.0 z.1).letter_at in
        (By_mail k m.mail m.mail_is, local_leaves t p y.0 y.2 (empty t y.0 z.2))
    known (Grant t p) e =
        let y = map_some _ (act_bench sys (Grant t p) host (part t p) (s.hands w)) v e in
        let z = grant_by t p (part t p) (s.hands w) y.0 y.1 in
        let m = grants t p host (part t p) z.0 z.1 in
        (By_claim p host m.entry m.claim m.entry_is m.claim_is m.ticket_is, local_leaves t p y.0 y.2 (empty t y.0 z.2))
    known (Labels.Visit t k p) e =
        let y = map_some _ (act_bench sys (Labels.Visit t k p) host (part t p) (s.hands w)) v e in
        let z = visit_by t k p (part t p) (s.hands w) y.0 y.1 in
        let m = (visits k p host (part t p) z.0 z.1).letter_at in
        (By_mail k m.mail m.mail_is, local_leaves t p y.0 y.2 (empty t y.0 z.2))
    known (Start t p) e =
        let y = map_some _ (act_bench sys (Start t p) host (part t p) (s.hands w)) v e in
        let m = starts t p host (part t p) y.0 (start_by t p (part t p) (s.hands w) y.0 y.1) in (
          By_status m.event p m.event_is m.ready,
          local_leaves t p y.0 y.2 (λ h f. sym (ap (λ (u : Hand A F). u.ticket) (some_same _ h (ap (λ (u : Bench A F R). u.hand) m.gives ∙ f)))),
        )
    known (Stop t p) e =
        let y = map_some _ (act_bench sys (Stop t p) host (part t p) (s.hands w)) v e in
        let z = stop_by t p (part t p) (s.hands w) y.0 y.1 in
        (By_hand z.0 z.1 z.2, local_leaves t p y.0 y.2 (empty t y.0 z.3))
    known (Free t k p) e =
        let y = map_some _ (act_bench sys (Free t k p) host (part t p) (s.hands w)) v e in
        let z = free_by t k p (part t p) (s.hands w) y.0 y.1 in
        let m = (frees t k p host (part t p) z.0 z.1).letter_at in
        (By_mail k m.mail m.mail_is, local_leaves t p y.0 y.2 (empty t y.0 z.2))
    known (Pass t k p g) e =
        let y = map_some _ (act_bench sys (Pass t k p g) host (part t p) (s.hands w)) v e in
        let z = pass_by t k p g (part t p) (s.hands w) y.0 y.1 in
        let m = (passes k g p host (part t p) z.0 z.1).letter_at in
        (By_mail k m.mail m.mail_is, local_leaves t p y.0 y.2 (empty t y.0 z.2))
    known (Land t k p) e =
        let y = map_some _ (act_bench sys (Land t k p) host (part t p) (s.hands w)) v e in
        let z = land_by t k p (part t p) (s.hands w) y.0 y.1 in
        let m = (lands k p host (part t p) z.0 z.1).letter_at in
        (By_mail k m.mail m.mail_is, local_leaves t p y.0 y.2 (empty t y.0 z.2))

  -- of each enabled label
  pub cause_of : (workers : ℕ) (s v : State A F R J) (l : Label) → step sys workers s l ≡ Some v → Cause s l.worker (ticket_of l.act) × Leaves s v l.worker (ticket_of l.act)
  unfolding step
  cause_of workers s v l e = known s v l.worker l.host l.act (if_some (nat_lt l.worker workers) (step_by sys s l.worker l.host l.act) v e).1

  -- it is taken by one of the workers
  pub by_crew : (workers : ℕ) (s v : State A F R J) (l : Label) → step sys workers s l ≡ Some v → nat_lt l.worker workers ≡ true
  unfolding step
  by_crew workers s v l e = (if_some (nat_lt l.worker workers) (step_by sys s l.worker l.host l.act) v e).0
