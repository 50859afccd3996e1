-- Whether a label can be taken: by an idle worker where it is in the list, and by another one where it is the Stop of what that has out.
use Rattle.std.proofs.Common.{◌≡◌, ◌∙◌, inl, inr, ℕ, ◌<◌, ◌&&◌, ◌==◌, Bool, true, false, List, [], ◌∷◌, map, Option, Some, None, is_none, is_some, refl, sym, ap, subst, true≢false, arith}
use Rattle.std.specs.FinMap as table
use Rattle.std.specs.Prelude.{◌↔◌, if◌then◌else◌, option_map, slice_get}
use Rattle.wave_base.specs.declared.path.Path.{Path}
use Rattle.wave_base.specs.declared.start.Start.{Start}
use Rattle.wave_base.specs.Paths.{path_eq}
use Rattle.wave_base.specs.PathLaws.{path_eq_equiv}
use Rattle.host_map.specs.Stores.{Stores}
use Rattle.wave_labels.specs.declared.label.Label as program
use Rattle.wave_labels.specs.Labels.{act_of, label_of}
use Rattle.wave_states.specs.Actors.{Actors}
use Rattle.wave_states.specs.Canonical.{enabled_for}
use Rattle.wave_states.specs.Labels.{Act, Label, Admit, Queue, Grant, Visit, Start as Begin, Stop, Free, Pass, Land, Commit, is_stop, path_of, ticket_of}
use Rattle.wave_states.specs.Owners.{IsOwner}
use Rattle.wave_states.specs.States.{Hand, State}
use Rattle.wave_states.specs.Steps.{act_bench, admit, commit, part_of, step, with_bench}
use Rattle.wave_theory.specs.Listed.{IsIn}
use Rattle.wave_theory.proofs.Basics.{and_first, and_second, if_some, none_not, number_is, number_self, path_is, some_same}
use Rattle.wave_theory.proofs.Frames.{option_some}
use Rattle.code_actor.specs.CodeActors.{Fields}
use Rattle.plan_actors.specs.PlanActors as actors
use Rattle.plan_actors.specs.PlanActors.{plan_actors, plan_kind}
use Rattle.plan_actors.specs.Plans.{begin_in}
use Rattle.wave_effects.specs.declared.kept.Out.{Out}
use Rattle.wave_machine.specs.declared.ready.Ready.{Ready}
use Rattle.wave_effects.specs.Machines.{IsOut, Kept, Shows, TheState}
use Rattle.wave_machine.specs.inner.Index.{IsIndex, by_none}
use Rattle.wave_machine.specs.inner.Updating.{has_at}
use Rattle.wave_machine.specs.inner.Listable.{CanList}
use Rattle.wave_machine.specs.inner.Takeable.{CanTake, is_stop_of}
use Rattle.wave_machine.proofs.Bridged.{in_mapped, taken_is, with_worker}
use Rattle.wave_effects.proofs.Stopped.{stopped_by}
use Rattle.wave_effects.proofs.Ending.{and_true, some_at}
use Rattle.wave_effects.proofs.Glancing.{matched, there_is}
use Rattle.wave_machine.proofs.Halves.{InOrder, Rises, in_order_too}
use Rattle.wave_machine.proofs.ListingOwn.{past_lists}
use Rattle.wave_effects.proofs.Reached.{has_it, host_is}
use Rattle.wave_effects.proofs.StoreParts.{TheEntry}

-- ---- a worker that has a segment out takes its Stop alone

module _ {A F R J : Type 0} (sys : Actors A F R J) (workers : ℕ) (s v : State A F R J) (w host : ℕ) (hand : Hand A F) (out : s.hands w ≡ Some hand) where
  none_by : (a : Act) → act_bench sys a host (part_of s (ticket_of a) (path_of a)) (Some hand) ≡ None → option_map (λ y. with_bench s (ticket_of a) (path_of a) w y) (act_bench sys a host (part_of s (ticket_of a) (path_of a)) (s.hands w)) ≡ Some v → ⊥
  none_by a none e = none_not (sym (ap (λ o. option_map (λ y. with_bench s (ticket_of a) (path_of a) w y) (act_bench sys a host (part_of s (ticket_of a) (path_of a)) o)) out ∙ ap (option_map (λ y. with_bench s (ticket_of a) (path_of a) w y)) none) ∙ e)

  pub only_stops : (a : Act) → is_stop a ≡ false → step sys workers s (record { worker = w; host = host; act = a }) ≡ Some v → ⊥
  unfolding step
  only_stops (Admit t) n e = none_not (subst (λ o. (if is_none o then admit sys s host t else None) ≡ Some v) out (if_some _ _ v e).1)
  only_stops (Commit t) n e = none_not (subst (λ o. (if is_none o then commit sys s host t else None) ≡ Some v) out (if_some _ _ v e).1)
  only_stops (Queue t k p) n e = none_by (Queue t k p) refl (if_some _ _ v e).1
  only_stops (Grant t p) n e = none_by (Grant t p) refl (if_some _ _ v e).1
  only_stops (Visit t k p) n e = none_by (Visit t k p) refl (if_some _ _ v e).1
  only_stops (Begin t p) n e = none_by (Begin t p) refl (if_some _ _ v e).1
  only_stops (Stop t p) n e = absurd (true≢false n)
  only_stops (Free t k p) n e = none_by (Free t k p) refl (if_some _ _ v e).1
  only_stops (Pass t k p g) n e = none_by (Pass t k p g) refl (if_some _ _ v e).1
  only_stops (Land t k p) n e = none_by (Land t k p) refl (if_some _ _ v e).1

-- ---- what is out

record InHand (o : Out) (h : Option (Hand actors.Actor Fields)) : Type 0 where
  hand : Hand actors.Actor Fields
  there : h ≡ Some hand
  ticket : hand.ticket ≡ o.ticket.0
  path : hand.path ≡ o.path

in_hand : (o : Out) (h : Option (Hand actors.Actor Fields)) → IsOut (Some o) h → InHand o h
in_hand o None is = absurd is
in_hand o (Some g) is = record { hand = g; there = refl; ticket = is.0; path = is.1 }

-- labels of one worker that stand for the same are the same
mapped_in : (w : ℕ) → ((a b : Ready) → with_worker w (by_none a) ≡ with_worker w (by_none b) → a ≡ b) → (rs : List Ready) (r : Ready) → IsIn (map (λ (x : Ready). with_worker w (by_none x)) rs) (with_worker w (by_none r)) → IsIn rs r
mapped_in w same [] r e = absurd e
mapped_in w same (x ∷ rs) r (inl e) = inl (same x r e)
mapped_in w same (x ∷ rs) r (inr e) = inr (mapped_in w same rs r e)

module _ (m : Kept) (start : Start) (s : TheState) (shows : Shows m s) (list : CanList m.plan start s) (take : CanTake m.plan start s) where
  abbrev Can : Label → Type 0
  Can l = is_some (step (plan_actors m.plan.program) m.plan.workers s l) ≡ true

  listed_can : (l : Label) → IsIn (enabled_for (plan_actors m.plan.program) m.plan.workers m.plan.script.hosts s l.worker) l ↔ Can l
  listed_can l = (λ e. ((take.listed.has l.worker l).0 e).0, λ e. (take.listed.has l.worker l).1 (e, refl))

  -- there is no such worker
  pub nobody_can : (l : Label) → None ≡ option_map is_none (slice_get m.hands l.worker) → Can l → ⊥
  nobody_can l none e = subst (λ ls. IsIn ls l) (sym (past_lists m start s shows list l.worker none)) ((listed_can l).1 e)

  module _ (tell : (a b : program.Label) → label_of a ≡ label_of b → a ≡ b) (index : List Ready) (indexed : IsIndex m index) (l : program.Label) (idle : slice_get m.hands l.worker.0 ≡ Some None) where
    abbrev asked : Ready
    asked = record { host = l.host; act = l.act }

    is : map (λ (r : Ready). with_worker l.worker.0 (by_none r)) index ≡ enabled_for (plan_actors m.plan.program) m.plan.workers m.plan.script.hosts s l.worker.0
    is = taken_is l.worker.0 m idle start s shows list index indexed

    ready_same : (a b : Ready) → with_worker l.worker.0 (by_none a) ≡ with_worker l.worker.0 (by_none b) → a ≡ b
    ready_same a b e =
        let same = tell (record { worker = l.worker; host = a.host; act = a.act }) (record { worker = l.worker; host = b.host; act = b.act }) e in
        λ i. record { host = (same i).host; act = (same i).act }

    pub idle_order : InOrder index
    idle_order = in_order_too l.worker.0 index (subst Rises (sym is) (take.listed.sorted l.worker.0))

    -- an idle worker takes what is in the list
    pub idle_can : IsIn index asked ↔ Can (label_of l)
    idle_can = (
      λ e. (listed_can (label_of l)).0 (subst (λ ls. IsIn ls (label_of l)) is (in_mapped (λ (r : Ready). with_worker l.worker.0 (by_none r)) index asked e)),
      λ e. mapped_in l.worker.0 ready_same index asked (subst (λ ls. IsIn ls (label_of l)) (sym is) ((listed_can (label_of l)).1 e)),
    )

  -- ---- the store of a host

  here_is : (p : Path) (h : ℕ) → has_at p (slice_get m.stores h) ≡ true → is_some ((s.columns p).store h) ≡ true
  here_is p h e = by_store (slice_get m.stores h) refl e
    where
      by_store : (o : Option Stores) → slice_get m.stores h ≡ o → has_at p o ≡ true → is_some ((s.columns p).store h) ≡ true
      by_store None at k = absurd (true≢false (sym k))
      by_store (Some x) at k = let found = there_is (table.get x.store p) k in matched (table.get x.store p) ((s.columns p).store h) found.0 (shows.stores.each h x at p).entry found.1

  has_here : (p : Path) (h : ℕ) → is_some ((s.columns p).store h) ≡ true → has_at p (slice_get m.stores h) ≡ true
  has_here p h e =
      let en = option_some ((s.columns p).store h) e in
      let within = host_is (plan_kind m.plan.program m.plan.script.hosts) m.plan.workers (begin_in m.plan start) m.plan.script.batches s list.known.bounds p h en.0 en.1 in
      let many = shows.stores.as_many in
      let x = some_at m.stores h (omega (arith, within, many)) in
      ap (has_at p) x.1 ∙ has_it (table.get x.0.store p) ((s.columns p).store h) en.0 (shows.stores.each h x.0 x.1 p).entry en.1

  module _ (w h : ℕ) (o : Out) (out : slice_get m.hands w ≡ Some (Some o)) where
    abbrev IsStop : Act → Type 0
    IsStop a = is_stop_of m.stores o h a ≡ true

    held : InHand o (s.hands w)
    held = in_hand o (s.hands w) (shows.hands.each w (Some o) out)

    -- a Stop is taken by the host that has the context, and only there
    stop_can : (t : ℕ) (p : Path) → IsStop (Stop t p) → Can (record { worker = w; host = h; act = Stop t p })
    stop_can t p is =
        let more = and_second (o.ticket.0 == t) (path_eq o.path p && has_at p (slice_get m.stores h)) is in
        let ticket : o.ticket.0 ≡ t = number_is o.ticket.0 t (and_first (o.ticket.0 == t) (path_eq o.path p && has_at p (slice_get m.stores h)) is) in
        let of : o.path ≡ p = path_is o.path p (and_first (path_eq o.path p) (has_at p (slice_get m.stores h)) more) in
        let stored : has_at p (slice_get m.stores h) ≡ true = and_second (path_eq o.path p) (has_at p (slice_get m.stores h)) more in
        let can = list.stoppable w held.hand held.there in
        let path : held.hand.path ≡ p = held.path ∙ of in
        let there : IsOwner s held.hand.path can.host = inl can.here in
        let here : IsOwner s p h = inl (here_is p h stored) in
        let same : can.host ≡ h = list.owner.one p can.host h (subst (λ q. IsOwner s q can.host) path there) here in
        let label : record { worker = w; host = can.host; act = Stop held.hand.ticket held.hand.path } ≡ record { worker = w; host = h; act = Stop t p } =
        λ i. record { worker = w; host = same i; act = Stop ((held.ticket ∙ ticket) i) (path i) } in
        subst Can label can.enabled

    can_stop : (t : ℕ) (p : Path) → Can (record { worker = w; host = h; act = Stop t p }) → IsStop (Stop t p)
    can_stop t p e =
        let l : Label = record { worker = w; host = h; act = Stop t p } in
        let v = option_some (step (plan_actors m.plan.program) m.plan.workers s l) e in
        let of = stopped_by (plan_actors m.plan.program) m.plan.workers s v.0 w h t p v.1 in
        let one : held.hand ≡ of.hand = some_same held.hand of.hand (sym held.there ∙ of.there) in
        let path : held.hand.path ≡ p = ap (λ (g : Hand actors.Actor Fields). g.path) one ∙ of.path in
        let can = list.stoppable w held.hand held.there in
        let there : IsOwner s held.hand.path can.host = inl can.here in
        let same : can.host ≡ h = list.owner.one p can.host h (subst (λ q. IsOwner s q can.host) path there) (take.owners l v.0 v.1).0 in
        let ticket : o.ticket.0 ≡ t = sym held.ticket ∙ ap (λ (g : Hand actors.Actor Fields). g.ticket) one ∙ of.ticket in
        let stored : has_at p (slice_get m.stores h) ≡ true = has_here p h (subst (λ n. is_some ((s.columns p).store n) ≡ true) same (subst (λ q. is_some ((s.columns q).store can.host) ≡ true) path can.here)) in
        and_true (o.ticket.0 == t) (path_eq o.path p && has_at p (slice_get m.stores h)) (subst (λ n. (o.ticket.0 == n) ≡ true) ticket (number_self o.ticket.0))
        (and_true (path_eq o.path p) (has_at p (slice_get m.stores h)) (subst (λ q. path_eq o.path q ≡ true) (sym held.path ∙ path) (path_eq_equiv.refl o.path)) stored)

    other_not : (a : Act) → is_stop a ≡ false → Can (record { worker = w; host = h; act = a }) → ⊥
    other_not a n e =
        let v = option_some (step (plan_actors m.plan.program) m.plan.workers s (record { worker = w; host = h; act = a })) e in
        only_stops (plan_actors m.plan.program) m.plan.workers s v.0 w h held.hand held.there a n v.1

    pub busy_can : (a : Act) → IsStop a ↔ Can (record { worker = w; host = h; act = a })
    busy_can (Stop t p) = (stop_can t p, can_stop t p)
    busy_can (Admit t) = (λ e. absurd (true≢false (sym e)), λ e. absurd (other_not (Admit t) refl e))
    busy_can (Queue t k p) = (λ e. absurd (true≢false (sym e)), λ e. absurd (other_not (Queue t k p) refl e))
    busy_can (Grant t p) = (λ e. absurd (true≢false (sym e)), λ e. absurd (other_not (Grant t p) refl e))
    busy_can (Visit t k p) = (λ e. absurd (true≢false (sym e)), λ e. absurd (other_not (Visit t k p) refl e))
    busy_can (Begin t p) = (λ e. absurd (true≢false (sym e)), λ e. absurd (other_not (Begin t p) refl e))
    busy_can (Free t k p) = (λ e. absurd (true≢false (sym e)), λ e. absurd (other_not (Free t k p) refl e))
    busy_can (Pass t k p g) = (λ e. absurd (true≢false (sym e)), λ e. absurd (other_not (Pass t k p g) refl e))
    busy_can (Land t k p) = (λ e. absurd (true≢false (sym e)), λ e. absurd (other_not (Land t k p) refl e))
    busy_can (Commit t) = (λ e. absurd (true≢false (sym e)), λ e. absurd (other_not (Commit t) refl e))
