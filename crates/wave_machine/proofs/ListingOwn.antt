-- What one worker can take is what is asked for, with its own Stop.
use Rattle.std.proofs.Common.{◌≡◌, ◌∙◌, ℕ, suc, ◌+◌, ◌-◌, ◌<◌, ◌≤◌, Bool, true, false, List, [], ◌∷◌, ◌++◌, is_some, is_none, Option, Some, None, refl, sym, ap, subst, arith, append-nil}
use Rattle.std.specs.Prelude.{flat_map, if◌then◌else◌, option_map, slice_get}
use Rattle.wave_base.specs.declared.outcome.EventResult.{EventResult}
use Rattle.wave_base.specs.declared.path.Path.{Path}
use Rattle.wave_base.specs.declared.script.Line.{Line}
use Rattle.wave_base.specs.declared.start.Start.{Start}
use Rattle.wave_base.specs.Fold.{tickets_from}
use Rattle.wave_states.specs.Actors.{Actors}
use Rattle.wave_states.specs.Canonical.{at_host, by_event, by_mail, by_mails, by_status, early, enabled_for, grants_of, late, mail_act, passes_of, runs_it, place, starts_of, stops, taken_as, taken_by, takes, tickets, to_mark}
use Rattle.wave_states.specs.Labels.{Act, Choice, Label, Admit, Queue, Grant, Start as Begin, Stop, Free, Pass, Land, Commit, is_stop}
use Rattle.wave_states.specs.Labels
use Rattle.wave_states.specs.States as theory
use Rattle.wave_states.specs.States.{Event, Hand, Mail}
use Rattle.wave_states.specs.Steps.{act_bench, admit, commit, next_ticket, part_of, step, step_by, stop, with_bench, with_hand}
use Rattle.wave_theory.proofs.Basics.{none_not, some_same}
use Rattle.code_actor.specs.CodeActors.{Fields}
use Rattle.plan_actors.specs.PlanActors as actors
use Rattle.plan_actors.specs.PlanActors.{plan_actors}
use Rattle.wave_effects.specs.declared.kept.Out.{Out}
use Rattle.wave_effects.specs.Machines.{IsOut, Kept, Shows, TheState}
use Rattle.wave_machine.specs.inner.Asking.{asked_in, in_order, runs_out, stop_if, stop_labels}
use Rattle.wave_effects.specs.Keeping.{place_in}
use Rattle.wave_machine.specs.inner.Listable.{CanList}
use Rattle.wave_machine.proofs.ListingLists.{flat_none}
use Rattle.wave_machine.proofs.ListingSteps.{step_is, taken_one}
use Rattle.wave_machine.proofs.ListingKinds.{slice_none, runs_same}
use Rattle.wave_machine.proofs.ListingCells.{none_of, past_is, slice_within, within_is}
use Rattle.wave_machine.proofs.ListingAll as all

module _ (m : Kept) (start : Start) (s : TheState) (shows : Shows m s) (list : CanList m.plan start s) where
  abbrev sys : Actors actors.Actor Fields EventResult Line
  sys = plan_actors m.plan.program

  abbrev can : Label → Bool
  can l = is_some (step sys m.plan.workers s l)

  abbrev T : Option ℕ → List Choice → List Label
  T o cs = taken_by sys m.plan.workers s o cs

  takes_append : (w : ℕ) (xs ys : List Choice) → takes sys m.plan.workers s w (xs ++ ys) ≡ takes sys m.plan.workers s w xs ++ takes sys m.plan.workers s w ys
  takes_append = all.takes_append m start s shows list

  takes_flat : {Y : Type 0} (w : ℕ) (f : Y → List Choice) (ys : List Y) → takes sys m.plan.workers s w (flat_map f ys) ≡ flat_map (λ y. takes sys m.plan.workers s w (f y)) ys
  takes_flat = all.takes_flat m start s shows list

  -- one worker's list
  module _ (w : ℕ) (within : w < m.plan.workers) where
    stop_not : (t h : ℕ) (p : Path) → runs_it (s.hands w) t p ≡ false → can (record { worker = w; host = h; act = Stop t p }) ≡ false
    stop_not t h p r =
        ap is_some (step_is sys m.plan.workers s w h (Stop t p) (within_is w m.plan.workers within))
        ∙ ap (λ o. is_some (option_map (with_bench s t p w) o)) (none (s.hands w) r)
      where
        none : (o : Option (Hand actors.Actor Fields)) → runs_it o t p ≡ false → act_bench sys (Stop t p) h (part_of s t p) o ≡ None
        none None e = refl
        none (Some g) e = ap (λ b. if b then with_hand None (stop sys p h g (part_of s t p)) else None) e

    stop_is : (t h : ℕ) (p : Path) → place_in m.stores p ≡ Some h → can (record { worker = w; host = h; act = Stop t p }) ≡ runs_out (slice_get m.hands w) t p
    stop_is t h p at = by_test (runs_it (s.hands w) t p) refl ∙ runs_same m start s shows list w t p
      where
        by_test : (b : Bool) → runs_it (s.hands w) t p ≡ b → can (record { worker = w; host = h; act = Stop t p }) ≡ runs_it (s.hands w) t p
        by_test true e = all.can_stop m start s shows list w t h p at e ∙ sym e
        by_test false e = stop_not t h p e ∙ sym e

    own_stops : (t h : ℕ) (p : Path) → place_in m.stores p ≡ Some h → stop_labels m.stores m.hands (w ∷ []) t p (Some h) ≡ takes sys m.plan.workers s w (record { host = h; act = Stop t p } ∷ [])
    own_stops t h p at = append-nil (stop_if (runs_out (slice_get m.hands w) t p) w h t p) ∙ sym (taken_one sys m.plan.workers s w h (Stop t p) (runs_out (slice_get m.hands w) t p) (stop_is t h p at))

    own_is : (idle : Option ℕ) → ((v : ℕ) → idle ≡ Some v → (v < m.plan.workers) × (s.hands v ≡ None)) → T idle (early s m.plan.script.hosts) ≡ takes sys m.plan.workers s w (early s m.plan.script.hosts) → T idle (late s) ≡ takes sys m.plan.workers s w (late s)
        → in_order (asked_in m idle (tickets_from w (w + 1 - w))) ≡ enabled_for sys m.plan.workers m.plan.script.hosts s w
    unfolding enabled_for
    own_is idle idles early_too late_too =
        let one : w + 1 - w ≡ 1 = omega arith in
        ap (λ n. in_order (asked_in m idle (tickets_from w n))) one
        ∙ all.in_order_is m start s shows list idle (w ∷ []) idles
        ∙ (λ i. (early_too i ++ all.stops_are m start s shows list idle (w ∷ []) idles (λ cs. takes sys m.plan.workers s w cs) (takes_flat w) own_stops i) ++ late_too i)
        ∙ ap (λ r. r ++ takes sys m.plan.workers s w (late s)) (sym (takes_append w (early s m.plan.script.hosts) (stops s m.plan.script.hosts)))
        ∙ sym (takes_append w (early s m.plan.script.hosts ++ stops s m.plan.script.hosts) (late s))

    pub idle_lists : s.hands w ≡ None → in_order (asked_in m (Some w) (tickets_from w (w + 1 - w))) ≡ enabled_for sys m.plan.workers m.plan.script.hosts s w
    idle_lists idle = own_is (Some w) (λ v e. let same : w ≡ v = some_same w v e in (subst (λ n. n < m.plan.workers) same within, subst (λ n. s.hands n ≡ None) same idle)) refl refl

    -- a worker that has a segment out can take a Stop alone
    module _ (g : Hand actors.Actor Fields) (busy : s.hands w ≡ Some g) where
      busy_not : (h : ℕ) (a : Act) → is_stop a ≡ false → can (record { worker = w; host = h; act = a }) ≡ false
      busy_not h a z = ap is_some (step_is sys m.plan.workers s w h a (within_is w m.plan.workers within)) ∙ by_act a z
        where
          by_act : (a : Act) → is_stop a ≡ false → is_some (step_by sys s w h a) ≡ false
          by_act (Admit t) z = ap (λ o. is_some (if is_none o then admit sys s h t else None)) busy
          by_act (Commit t) z = ap (λ o. is_some (if is_none o then commit sys s h t else None)) busy
          by_act (Queue t k p) z = ap (λ o. is_some (option_map (with_bench s t p w) (act_bench sys (Queue t k p) h (part_of s t p) o))) busy
          by_act (Grant t p) z = ap (λ o. is_some (option_map (with_bench s t p w) (act_bench sys (Grant t p) h (part_of s t p) o))) busy
          by_act (Labels.Visit t k p) z = ap (λ o. is_some (option_map (with_bench s t p w) (act_bench sys (Labels.Visit t k p) h (part_of s t p) o))) busy
          by_act (Begin t p) z = ap (λ o. is_some (option_map (with_bench s t p w) (act_bench sys (Begin t p) h (part_of s t p) o))) busy
          by_act (Free t k p) z = ap (λ o. is_some (option_map (with_bench s t p w) (act_bench sys (Free t k p) h (part_of s t p) o))) busy
          by_act (Pass t k p to) z = ap (λ o. is_some (option_map (with_bench s t p w) (act_bench sys (Pass t k p to) h (part_of s t p) o))) busy
          by_act (Land t k p) z = ap (λ o. is_some (option_map (with_bench s t p w) (act_bench sys (Land t k p) h (part_of s t p) o))) busy
          by_act (Stop t p) z = cc

      busy_one : (h : ℕ) (a : Act) → is_stop a ≡ false → takes sys m.plan.workers s w (record { host = h; act = a } ∷ []) ≡ []
      busy_one h a z = taken_one sys m.plan.workers s w h a false (busy_not h a z)

      no_mails : (f : ℕ → ℕ → Mail Fields → List Choice) → ((t k : ℕ) (mail : Mail Fields) → takes sys m.plan.workers s w (f t k mail) ≡ []) → takes sys m.plan.workers s w (by_mails s f) ≡ []
      no_mails f each =
          takes_flat w (λ t. by_event (s.cells t).event (λ e. flat_map (λ k. by_mail ((s.cells t).mails k) (f t k)) (tickets_from 1 e.sent))) (tickets s)
          ∙ flat_none (λ t. takes sys m.plan.workers s w (by_event (s.cells t).event (λ e. flat_map (λ k. by_mail ((s.cells t).mails k) (f t k)) (tickets_from 1 e.sent)))) (λ t. of_event t (s.cells t).event) (tickets s)
        where
          of_mail : (t k : ℕ) (o : Option (Mail Fields)) → takes sys m.plan.workers s w (by_mail o (f t k)) ≡ []
          of_mail t k None = refl
          of_mail t k (Some mail) = each t k mail

          of_event : (t : ℕ) (o : Option (Event actors.Actor)) → takes sys m.plan.workers s w (by_event o (λ e. flat_map (λ k. by_mail ((s.cells t).mails k) (f t k)) (tickets_from 1 e.sent))) ≡ []
          of_event t None = refl
          of_event t (Some e) = takes_flat w (λ k. by_mail ((s.cells t).mails k) (f t k)) (tickets_from 1 e.sent) ∙ flat_none (λ k. takes sys m.plan.workers s w (by_mail ((s.cells t).mails k) (f t k))) (λ k. of_mail t k ((s.cells t).mails k)) (tickets_from 1 e.sent)

      no_states : (f : ℕ → theory.Status → List Choice) → ((t : ℕ) (st : theory.Status) → takes sys m.plan.workers s w (f t st) ≡ []) → takes sys m.plan.workers s w (by_status s f) ≡ []
      no_states f each =
          takes_flat w (λ t. by_event (s.cells t).event (λ e. f t e.status)) (tickets s)
          ∙ flat_none (λ t. takes sys m.plan.workers s w (by_event (s.cells t).event (λ e. f t e.status))) (λ t. of_event t (s.cells t).event) (tickets s)
        where
          of_event : (t : ℕ) (o : Option (Event actors.Actor)) → takes sys m.plan.workers s w (by_event o (λ e. f t e.status)) ≡ []
          of_event t None = refl
          of_event t (Some e) = each t e.status

      no_place : (o : Option ℕ) (a : Act) → is_stop a ≡ false → takes sys m.plan.workers s w (at_host o a) ≡ []
      no_place None a z = refl
      no_place (Some h) a z = busy_one h a z

      no_grants : (t : ℕ) (st : theory.Status) → takes sys m.plan.workers s w (grants_of s m.plan.script.hosts t st) ≡ []
      no_grants t theory.Travelling = refl
      no_grants t (theory.Waiting p) = no_place (place s m.plan.script.hosts p) (Grant t p) refl
      no_grants t (theory.Ready p) = refl
      no_grants t (theory.Running p) = refl
      no_grants t theory.Ended = refl

      no_starts : (t : ℕ) (st : theory.Status) → takes sys m.plan.workers s w (starts_of s m.plan.script.hosts t st) ≡ []
      no_starts t theory.Travelling = refl
      no_starts t (theory.Waiting p) = refl
      no_starts t (theory.Ready p) = no_place (place s m.plan.script.hosts p) (Begin t p) refl
      no_starts t (theory.Running p) = refl
      no_starts t theory.Ended = refl

      no_passes : (t k : ℕ) (mail : Mail Fields) → takes sys m.plan.workers s w (passes_of s t k mail) ≡ []
      no_passes t k mail = by_mark ((s.columns mail.path).gone mail.host)
        where
          by_mark : (o : Option theory.Mark) → takes sys m.plan.workers s w (to_mark o (λ g. Pass t k mail.path g) mail.host) ≡ []
          by_mark None = refl
          by_mark (Some mark) = busy_one mail.host (Pass t k mail.path mark.to) refl

      no_early : [] ≡ takes sys m.plan.workers s w (early s m.plan.script.hosts)
      no_early =
          let a : List Choice = record { host = 0; act = Admit (next_ticket s) } ∷ [] in
          let q : List Choice = by_mails s (mail_act (λ t k p. Queue t k p)) in
          let g : List Choice = by_status s (grants_of s m.plan.script.hosts) in
          let v : List Choice = by_mails s (mail_act (λ t k p. Labels.Visit t k p)) in
          let b : List Choice = by_status s (starts_of s m.plan.script.hosts) in
          sym (takes_append w (((a ++ q) ++ g) ++ v) b
          ∙ ap (λ r. r ++ takes sys m.plan.workers s w b) (takes_append w ((a ++ q) ++ g) v ∙ ap (λ r. r ++ takes sys m.plan.workers s w v) (takes_append w (a ++ q) g ∙ ap (λ r. r ++ takes sys m.plan.workers s w g) (takes_append w a q)))
          ∙ (λ i. (((busy_one 0 (Admit (next_ticket s)) refl i ++ no_mails (mail_act (λ t k p. Queue t k p)) (λ t k mail. busy_one mail.host (Queue t k mail.path) refl) i) ++ no_states (grants_of s m.plan.script.hosts) no_grants i)
          ++ no_mails (mail_act (λ t k p. Labels.Visit t k p)) (λ t k mail. busy_one mail.host (Labels.Visit t k mail.path) refl) i) ++ no_states (starts_of s m.plan.script.hosts) no_starts i))

      no_late : [] ≡ takes sys m.plan.workers s w (late s)
      no_late =
          let f : List Choice = by_mails s (mail_act (λ t k p. Free t k p)) in
          let p : List Choice = by_mails s (passes_of s) in
          let l : List Choice = by_mails s (mail_act (λ t k p. Land t k p)) in
          let c : List Choice = record { host = 0; act = Commit (suc (s.before + s.head.done)) } ∷ [] in
          sym (takes_append w ((f ++ p) ++ l) c
          ∙ ap (λ r. r ++ takes sys m.plan.workers s w c) (takes_append w (f ++ p) l ∙ ap (λ r. r ++ takes sys m.plan.workers s w l) (takes_append w f p))
          ∙ (λ i. ((no_mails (mail_act (λ t k p. Free t k p)) (λ t k mail. busy_one mail.host (Free t k mail.path) refl) i ++ no_mails (passes_of s) no_passes i)
          ++ no_mails (mail_act (λ t k p. Land t k p)) (λ t k mail. busy_one mail.host (Land t k mail.path) refl) i) ++ busy_one 0 (Commit (suc (s.before + s.head.done))) refl i))

      pub busy_lists : in_order (asked_in m None (tickets_from w (w + 1 - w))) ≡ enabled_for sys m.plan.workers m.plan.script.hosts s w
      busy_lists = own_is None (λ v e. absurd (none_not e)) no_early no_late

  -- a worker past the plan's number can take nothing
  past_not : (w : ℕ) → m.plan.workers ≤ w → (c : Choice) → can (taken_as w c) ≡ false
  unfolding step
  past_not w far c = ap (λ b. is_some (if b then step_by sys s w c.host c.act else None)) (past_is w m.plan.workers far)

  pub nobody_lists : (w : ℕ) → m.plan.workers ≤ w → [] ≡ enabled_for sys m.plan.workers m.plan.script.hosts s w
  unfolding enabled_for
  nobody_lists w far = sym (none_of can (taken_as w) (past_not w far) (early s m.plan.script.hosts ++ stops s m.plan.script.hosts ++ late s))

  -- a worker that there is
  pub own_lists : (w : ℕ) (idle : Bool) → Some idle ≡ option_map is_none (slice_get m.hands w) → in_order (asked_in m (if idle then Some w else None) (tickets_from w (w + 1 - w))) ≡ enabled_for sys m.plan.workers m.plan.script.hosts s w
  own_lists w idle e = by_hand (slice_get m.hands w) refl e
    where
      by_out : (out : Option Out) (hand : Option (Hand actors.Actor Fields)) → IsOut out hand → s.hands w ≡ hand → w < m.plan.workers → in_order (asked_in m (if is_none out then Some w else None) (tickets_from w (w + 1 - w))) ≡ enabled_for sys m.plan.workers m.plan.script.hosts s w
      by_out None None h z within = idle_lists w within z
      by_out (Some out) (Some g) h z within = busy_lists w within g z
      by_out None (Some g) h z within = absurd h
      by_out (Some out) None h z within = absurd h

      by_hand : (o : Option (Option Out)) → slice_get m.hands w ≡ o → Some idle ≡ option_map is_none o → in_order (asked_in m (if idle then Some w else None) (tickets_from w (w + 1 - w))) ≡ enabled_for sys m.plan.workers m.plan.script.hosts s w
      by_hand None at k = absurd (none_not (sym k))
      by_hand (Some out) at k =
          let many = shows.hands.as_many in
          let place = slice_within m.hands w out at in
          let within : w < m.plan.workers = omega (arith, many, place) in
          ap (λ b. in_order (asked_in m (if b then Some w else None) (tickets_from w (w + 1 - w)))) (some_same idle (is_none out) k) ∙ by_out out (s.hands w) (shows.hands.each w out at) refl within

  -- and one that there is not
  pub past_lists : (w : ℕ) → None ≡ option_map is_none (slice_get m.hands w) → [] ≡ enabled_for sys m.plan.workers m.plan.script.hosts s w
  past_lists w e = by_hand (slice_get m.hands w) refl e
    where
      by_hand : (o : Option (Option Out)) → slice_get m.hands w ≡ o → None ≡ option_map is_none o → [] ≡ enabled_for sys m.plan.workers m.plan.script.hosts s w
      by_hand None at k =
          let many = shows.hands.as_many in
          let place = slice_none m.hands w at in
          let far : m.plan.workers ≤ w = omega (arith, many, place) in
          nobody_lists w far
      by_hand (Some out) at k = absurd (none_not k)
