-- By which host each label is taken.
use Rattle.wave_states.specs.Steps.{step}
use Rattle.std.proofs.Common.{◌≡◌, ◌≢◌, ℕ, ◌<◌, ◌≤◌, ◌⊎◌, inl, inr, true, Option, Some, None, List, refl, sym, ◌∙◌, ap, subst, arith, is_some, nat_lt, not, ◌&&◌, ◌==◌, ap₂}
use Rattle.wave_base.specs.declared.path.Path.{Path}
use Rattle.wave_base.specs.Paths.{path_eq}
use Rattle.wave_states.specs.States.{State, Cell, Entry}
use Rattle.wave_theory.proofs.Basics.{clash, none_not, bool_cases}
use Rattle.wave_theory.proofs.Order.{Way, IsWay, here}
use Rattle.wave_theory.proofs.Leaves.{Course}
use Rattle.wave_theory.proofs.Tracks.{owner}
use Rattle.wave_theory.proofs.Frames.{option_some, holds_spot}
use Rattle.wave_theory.proofs.Shows
use Rattle.std.specs.Prelude.{All}
use Rattle.wave_states.specs.Begins.{Begin}
use Rattle.wave_states.specs.Kinds.{Kind}
use Rattle.wave_states.specs.Owes.{Owes, IsBegin}
use Rattle.wave_states.specs.Owners.{IsOwner}
use Rattle.wave_theory.proofs.Courses.{View, view, view_real, done_at, entered_after, leaf_first, view_later, done_or_over}
use Rattle.wave_theory.proofs.Courses
use Rattle.wave_theory.proofs.GoodStates.{Heads, Good_state, ResultIs, result_of}
use Rattle.wave_theory.proofs.GoodStates
use Rattle.wave_theory.proofs.Basics.{map_some, if_some, set_at, set_at_path}
use Rattle.wave_theory.proofs.Order.{is_pending}
use Rattle.wave_states.specs.States.{Column, Hand, hold_at}
use Rattle.wave_states.specs.Labels.{Act, Label, Admit, Queue, Grant, Start, Stop, Free, Pass, Land, Commit, ticket_of, path_of}
use Rattle.wave_states.specs.Labels
use Rattle.wave_states.specs.Steps.{Bench, Part, step_by, act_bench, with_hand, part_of, with_bench, with_entry}
use Rattle.wave_theory.proofs.Opened.{queues, grants, starts, frees, passes, lands, stopping, coming_is, LetterIs}
use Rattle.wave_theory.proofs.Opened
use Rattle.wave_theory.proofs.Own.{shows_letter}
use Rattle.wave_theory.specs.Owners.{OwnerTakes, ByOwners, SendsOff}
use Rattle.wave_theory.proofs.Stopping
use Rattle.wave_theory.proofs.Outcome.{outcome}
use Rattle.wave_theory.proofs.Leaves.{IsCourse}
use Rattle.wave_states.specs.Steps.{stop}
use Rattle.wave_states.specs.States.{Event, Transfer}
use Rattle.wave_theory.proofs.Basics.{number_is, path_is, and_first, and_second}
use Rattle.wave_theory.proofs.Stages.{coming_done}

module _ {A F R J : Type 0} (kind : Kind A F R J) (owes : Owes kind) (b : Begin F) (batches : List (List J)) (begins : IsBegin kind b) (jobs : All (All kind.is_job) batches) where
  abbrev w : Way
  w = Courses.w kind owes b batches begins jobs

  abbrev course : Course kind.system
  course = Courses.course kind owes b batches begins jobs

  abbrev Is_real : ℕ → Type 0
  Is_real = Courses.Real kind owes b batches begins jobs

  law : IsWay w
  law = Courses.law kind owes b batches begins jobs

  module _ (s : State A F R J) (k : Good_state kind owes b batches begins jobs s) where
    x : Shows.Shows kind.system w course b.before Is_real s k.ghost
    x = k.shows

    owner_now : (s' : State A F R J) (t : ℕ) (p : Path) (v h : ℕ) (y : Bench A F R) → s' ≡ with_bench s t p v y → is_some (y.part.column.store h) ≡ true → IsOwner s' p h
    owner_now s' t p v h y e o = subst (λ u. IsOwner u p h) (sym e) (inl (ap (λ (c : Column F). is_some (c.store h)) (set_at_path s.columns p y.part.column) ∙ o))

    entry_now : (c : Column F) (h : ℕ) (en : Entry F) → is_some ((with_entry c h (Some en)).store h) ≡ true
    entry_now c h en = ap is_some (set_at c.store h (Some en))

    calm_is : (o : Option (Part A F R)) (y : Bench A F R) → with_hand None o ≡ Some y → (z : Part A F R) × (o ≡ Some z) × (y ≡ record { part = z; hand = None })
    calm_is o y e = map_some (λ (z : Part A F R). record { part = z; hand = None }) o y e

    -- where a Visit or a Back comes to
    visited : (t n : ℕ) (p : Path) (h : ℕ) (z : Part A F R) → Opened.Visits n p h (part_of s t p) z → is_some ((s.columns p).store h) ≡ true
    visited t n p h z q =
        let kn = GoodStates.known kind owes b batches begins jobs s k.ghost x t (λ i. none_not (sym (ap (λ (u : Cell A F R). u.event) i) ∙ q.event_is)) in
        let c : Shows.CellShows kind.system w course b.before Is_real k.ghost t (s.cells t) = x.cells t kn.0 kn.1 in
        let m = shows_letter kind.system w course b.before Is_real k.ghost t n h p q.letter (s.cells t) c q.letter_at in
        let y : Shows.ComingShows kind.system w course b.before Is_real k.ghost t n h p = (elim (coming_is q.letter q.coming) [
          | inl l ↦ subst (Shows.MailShows kind.system w course b.before Is_real k.ghost t n h p) l m
          | inr l ↦ subst (Shows.MailShows kind.system w course b.before Is_real k.ghost t n h p) l m
        ]) in
        let held = option_some (hold_at c.event.held p) (c.held p ∙ ap₂ (λ i j. i && not (is_pending j && path_eq (here w (k.ghost).lines t) p)) (subst (λ r. w.held t ((k.ghost).lines.pos t) r ≡ true) (sym y.place) (law.at_held t ((k.ghost).lines.pos t) (x.good.going t kn.1 (λ d. coming_done (sym y.stage ∙ d))))) y.stage) in
        let st = (c.where_held p held.0 held.1).1 in
        in_store p h st (by_holder kn.0 kn.1 y) y.host_is
      where
        by_holder : b.before < t → t ≤ (k.ghost).lines.admitted → Shows.ComingShows kind.system w course b.before Is_real k.ghost t n h p → (k.ghost).born p ≡ true
        by_holder lt la y = elim (bool_cases ((k.ghost).born p)) [
          | inl u ↦ u
          | inr u ↦ absurd (clash _ (subst (λ r. (k.ghost).lines.holds r t ≡ true) (sym y.place) (holds_spot kind.system w law course b.before Is_real k.ghost x.good t (first b.before t lt) la (λ d. coming_done (sym y.stage ∙ d)) (ap is_pending y.stage)))
              (sym ((x.entries p).holders t) ∙ ap (λ (u : Entry F). Shows.holds_claim u.holders t) ((x.entries p).unborn u)))
        ]
          where
            first : (a c : ℕ) → a < c → 1 ≤ c
            first a c l = omega (arith, l)

        in_store : (p : Path) (h : ℕ) → ((k.ghost).trail p).stored ≡ true → (k.ghost).born p ≡ true → h ≡ owner ((k.ghost).trail p) → is_some ((s.columns p).store h) ≡ true
        in_store p h st u e = (let c : Shows.Stays kind.system w course b.before Is_real k.ghost p (s.columns p) = subst (λ i. Shows.ColumnShows kind.system w course b.before Is_real i k.ghost p (s.columns p)) u (x.columns p) in
            ap (λ i. is_some ((s.columns p).store i)) e ∙ c.track.stored_is st)

    courses : IsCourse kind.system w course b.before Is_real
    courses = Courses.courses kind owes b batches begins jobs

    -- who owns the context before and after a Stop
    stop_takes : (s' : State A F R J) (v h : ℕ) (hd : Hand A F) → s.hands v ≡ Some hd → (y : Bench A F R) → with_hand None (stop kind.system hd.path h hd (part_of s hd.ticket hd.path)) ≡ Some y → s' ≡ with_bench s hd.ticket hd.path v y → OwnerTakes kind s s' (Stop hd.ticket hd.path) h
    stop_takes s' v h hd i y e f = (let z = calm_is _ y e in let q = stopping kind.system hd.ticket hd.path h hd (part_of s hd.ticket hd.path) z.0 z.1 in (
      inl (ap is_some q.entry_is),
      by z.0 z.2 (outcome kind.system hd.ticket hd.path h hd (part_of s hd.ticket hd.path) z.0 q
          (subst (λ (u : Event A). Shows.Once u.held) (sym (Stopping.same kind.system w law course b.before Is_real courses s k.ghost x hd v h i z.0 q)) (Stopping.c kind.system w law course b.before Is_real courses s k.ghost x hd v h i z.0 q).once)
          (Stopping.held_is kind.system w law course b.before Is_real courses s k.ghost x hd v h i z.0 q hd.path ∙ Stopping.held_p kind.system w law course b.before Is_real courses s k.ghost x hd v h i z.0 q)).owner,
    ))
      where
        by : (z : Part A F R) → y ≡ record { part = z; hand = None } → (is_some (z.column.store h) ≡ true) ⊎ ((to number : ℕ) × (u : Entry F) × (z.cell.mails number ≡ Some (record { host = to; path = hd.path; letter = Transfer u })) × (to ≢ h)) → IsOwner s' hd.path h ⊎ SendsOff s' hd.ticket hd.path h
        by z d (inl o) = inl (owner_now s' hd.ticket hd.path v h y f (ap (λ (u : Bench A F R). is_some (u.part.column.store h)) d ∙ o))
        by z d (inr o) = inr (record {
          to = o.0;
          number = o.1;
          entry = o.2;
          mail = ap (λ (u : State A F R J). (u.cells hd.ticket).mails o.1) f ∙ ap (λ (u : Cell A F R). u.mails o.1) (set_at s.cells hd.ticket y.part.cell) ∙ ap (λ (u : Bench A F R). u.part.cell.mails o.1) d ∙ o.3;
          other = o.4;
        })

    local : (s' : State A F R J) (v h : ℕ) (a : Act) (y : Bench A F R) (hd : Option (Hand A F)) → s.hands v ≡ hd → Labels.is_local a ≡ true → act_bench kind.system a h (part_of s (ticket_of a) (path_of a)) hd ≡ Some y → s' ≡ with_bench s (ticket_of a) (path_of a) v y → OwnerTakes kind s s' a h
    local s' v h (Admit t) y hd i l e f = tt
    local s' v h (Commit t) y hd i l e f = tt
    local s' v h (Pass t n p to) y hd i l e f = tt
    local s' v h (Queue t n p) y (Some a) i l e f = absurd (none_not e)
    local s' v h (Queue t n p) y None i l e f = (let z = calm_is _ y e in let q = queues kind.system t n p h (part_of s t p) z.0 z.1 in
        owner_now s' t p v h y f (subst (λ (u : Bench A F R). is_some (u.part.column.store h) ≡ true) (sym z.2) (subst (λ (u : Part A F R). is_some (u.column.store h) ≡ true) q.gives (entry_now (s.columns p) h _))))
    local s' v h (Grant t p) y (Some a) i l e f = absurd (none_not e)
    local s' v h (Grant t p) y None i l e f = (let z = calm_is _ y e in let q = grants t p h (part_of s t p) z.0 z.1 in
        owner_now s' t p v h y f (subst (λ (u : Bench A F R). is_some (u.part.column.store h) ≡ true) (sym z.2) (subst (λ (u : Part A F R). is_some (u.column.store h) ≡ true) q.gives (entry_now (s.columns p) h _))))
    local s' v h (Labels.Visit t n p) y (Some a) i l e f = absurd (none_not e)
    local s' v h (Labels.Visit t n p) y None i l e f = (let z = calm_is _ y e in let q = Opened.visits n p h (part_of s t p) z.0 z.1 in
        owner_now s' t p v h y f (subst (λ (u : Bench A F R). is_some (u.part.column.store h) ≡ true) (sym z.2) (subst (λ (u : Part A F R). is_some (u.column.store h) ≡ true) q.gives (visited t n p h z.0 q))))
    local s' v h (Start t p) y (Some a) i l e f = absurd (none_not e)
    local s' v h (Start t p) y None i l e f = (let q = starts t p h (part_of s t p) y e in
        owner_now s' t p v h y f (subst (λ (u : Bench A F R). is_some (u.part.column.store h) ≡ true) q.gives (entry_now (s.columns p) h _)))
    local s' v h (Stop t p) y None i l e f = absurd (none_not e)
    local s' v h (Stop t p) y (Some hd) i l e f = (let j = if_some ((hd.ticket == t) && path_eq hd.path p) _ y e in
        let et : hd.ticket ≡ t = number_is hd.ticket t (and_first _ _ j.0) in
        let ep : hd.path ≡ p = path_is hd.path p (and_second (hd.ticket == t) _ j.0) in
        subst (λ u. OwnerTakes kind s s' (Stop u p) h) et (subst (λ r. OwnerTakes kind s s' (Stop hd.ticket r) h) ep (stop_takes s' v h hd i y
        (subst (λ r. with_hand None (stop kind.system r h hd (part_of s hd.ticket r)) ≡ Some y) (sym ep) (subst (λ u. with_hand None (stop kind.system p h hd (part_of s u p)) ≡ Some y) (sym et) j.1))
        (subst (λ r. s' ≡ with_bench s hd.ticket r v y) (sym ep) (subst (λ u. s' ≡ with_bench s u p v y) (sym et) f)))))
    local s' v h (Free t n p) y (Some a) i l e f = absurd (none_not e)
    local s' v h (Free t n p) y None i l e f = (let z = calm_is _ y e in let q = frees t n p h (part_of s t p) z.0 z.1 in
        owner_now s' t p v h y f (subst (λ (u : Bench A F R). is_some (u.part.column.store h) ≡ true) (sym z.2) (subst (λ (u : Part A F R). is_some (u.column.store h) ≡ true) q.gives (entry_now (s.columns p) h _))))
    local s' v h (Land t n p) y (Some a) i l e f = absurd (none_not e)
    local s' v h (Land t n p) y None i l e f = (let z = calm_is _ y e in let q = lands n p h (part_of s t p) z.0 z.1 in
        owner_now s' t p v h y f (subst (λ (u : Bench A F R). is_some (u.part.column.store h) ≡ true) (sym z.2) (subst (λ (u : Part A F R). is_some (u.column.store h) ≡ true) q.gives (entry_now (s.columns p) h _))))

    by_act : (s' : State A F R J) (v h : ℕ) (a : Act) → step_by kind.system s v h a ≡ Some s' → OwnerTakes kind s s' a h
    by_act s' v h (Admit t) e = tt
    by_act s' v h (Commit t) e = tt
    by_act s' v h (Pass t n p to) e = tt
    by_act s' v h (Queue t n p) e = (let y = map_some _ _ s' e in local s' v h (Queue t n p) y.0 (s.hands v) refl refl y.1 y.2)
    by_act s' v h (Grant t p) e = (let y = map_some _ _ s' e in local s' v h (Grant t p) y.0 (s.hands v) refl refl y.1 y.2)
    by_act s' v h (Labels.Visit t n p) e = (let y = map_some _ _ s' e in local s' v h (Labels.Visit t n p) y.0 (s.hands v) refl refl y.1 y.2)
    by_act s' v h (Start t p) e = (let y = map_some _ _ s' e in local s' v h (Start t p) y.0 (s.hands v) refl refl y.1 y.2)
    by_act s' v h (Stop t p) e = (let y = map_some _ _ s' e in local s' v h (Stop t p) y.0 (s.hands v) refl refl y.1 y.2)
    by_act s' v h (Free t n p) e = (let y = map_some _ _ s' e in local s' v h (Free t n p) y.0 (s.hands v) refl refl y.1 y.2)
    by_act s' v h (Land t n p) e = (let y = map_some _ _ s' e in local s' v h (Land t n p) y.0 (s.hands v) refl refl y.1 y.2)

    pub by_owners : (workers : ℕ) → ByOwners kind workers b batches s
    unfolding step
    by_owners workers l s' e = by_act s' l.worker l.host l.act (if_some (nat_lt l.worker workers) (step_by kind.system s l.worker l.host l.act) s' e).1
