-- The canonical list has what is enabled.
use Rattle.std.proofs.Common.{◌≡◌, ℕ, ◌<◌, ◌≤◌, inl, inr, true, Option, Some, None, List, refl, sym, ◌∙◌, ap, subst, arith, is_some, nat_lt, ◌&&◌, ◌==◌, ◌↔◌, [], ◌∷◌, ◌++◌, ◌+◌, ◌⊎◌, Bool, false}
use Rattle.wave_base.specs.declared.path.Path.{Path}
use Rattle.wave_base.specs.Paths.{path_eq}
use Rattle.wave_states.specs.States.{State, Entry, Event}
use Rattle.wave_theory.proofs.Basics.{clash, none_not, bool_cases, some_same, options, map_some, if_some, number_is, path_is, and_first, and_second}
use Rattle.wave_theory.proofs.Order.{Way, here, There}
use Rattle.wave_theory.proofs.Leaves.{Course}
use Rattle.wave_theory.proofs.Frames.{option_some}
use Rattle.wave_theory.proofs.Shows
use Rattle.std.specs.Prelude.{All, if◌then◌else◌}
use Rattle.wave_states.specs.Begins.{Begin}
use Rattle.wave_states.specs.Kinds.{Kind}
use Rattle.wave_states.specs.Owes.{Owes, IsBegin}
use Rattle.wave_theory.proofs.Courses
use Rattle.wave_theory.proofs.GoodStates.{Good_state}
use Rattle.wave_theory.proofs.Basics.{map_some, if_some}
use Rattle.wave_states.specs.States.{Hand}
use Rattle.wave_states.specs.Labels.{Act, Label, Admit, Queue, Grant, Start, Stop, Free, Pass, Land, Commit, ticket_of, path_of}
use Rattle.wave_states.specs.Labels
use Rattle.wave_states.specs.Steps.{Bench, Part, with_bench, step_by, act_bench, with_hand, part_of, step, stop}
use Rattle.wave_theory.proofs.Opened.{passes, lands, stopping}
use Rattle.wave_theory.proofs.Own.{shows_letter}
use Rattle.std.specs.Prelude.{filter, flat_map, map, is_none, option_map}
use Rattle.wave_states.specs.States.{Status, Mark, Travelling, Waiting, Ready, Running, Ended, Transfer}
use Rattle.wave_states.specs.Labels.{Choice, is_stop}
use Rattle.wave_states.specs.Steps.{admit, commit}
use Rattle.wave_states.specs.Canonical.{below, takes, at_host, by_event, runs_it, by_status, stops_of, early, stops, late, idle_in, taken_as, taken_by, stop_by, enabled_labels, enabled_for}
use Rattle.wave_states.specs.Canonical
use Rattle.wave_theory.specs.Hands.{CanStop}
use Rattle.wave_states.specs.Runs.{Finished}
use Rattle.wave_theory.specs.Listed.{IsIn, Listed, LowerAreOut, EmptyAtEnd}
use Rattle.wave_theory.specs.OneHost.{OneHost}
use Rattle.wave_theory.proofs.Able
use Rattle.wave_theory.proofs.Choosing.{by_less, filter_in, flat_in, in_filter, in_flat, in_from, in_left, in_map, in_or, in_right, is_lowest, less_by, lowest, map_in, un_if, unmap}
use Rattle.wave_theory.proofs.Choices

module _ {A F R J : Type 0} (kind : Kind A F R J) (owes : Owes kind) (b : Begin F) (batches : List (List J)) (begins : IsBegin kind b) (jobs : All (All kind.is_job) batches) where
  abbrev w : Way
  w = Courses.w kind owes b batches begins jobs

  abbrev course : Course kind.system
  course = Courses.course kind owes b batches begins jobs

  abbrev Is_real : ℕ → Type 0
  Is_real = Courses.Real kind owes b batches begins jobs

  module _ (s : State A F R J) (k : Good_state kind owes b batches begins jobs s) where
    abbrev x : Shows.Shows kind.system w course b.before Is_real s k.ghost
    x = Choices.x kind owes b batches begins jobs s k

    abbrev g : Shows.Ghost F
    g = k.ghost

    abbrev calm_is : (o : Option (Part A F R)) (y : Bench A F R) → with_hand None o ≡ Some y → (z : Part A F R) × (o ≡ Some z) × (y ≡ record { part = z; hand = None })
    calm_is = Choices.calm_is kind owes b batches begins jobs s k

    abbrev Found_in : ℕ → Act → Type 0
    Found_in h a = IsIn (early s kind.hosts) (record { host = h; act = a }) ⊎ IsIn (late s) (record { host = h; act = a })

    module _ (workers : ℕ) where
      -- all but a Stop want an idle worker
      busy_not : (v h : ℕ) (g : Hand A F) (a : Act) → s.hands v ≡ Some g → is_some (option_map (with_bench s (ticket_of a) (path_of a) v) (act_bench kind.system a h (part_of s (ticket_of a) (path_of a)) (s.hands v))) ≡ true → is_some (option_map (with_bench s (ticket_of a) (path_of a) v) (act_bench kind.system a h (part_of s (ticket_of a) (path_of a)) (Some g))) ≡ true
      busy_not v h g a z e = subst (λ o. is_some (option_map (with_bench s (ticket_of a) (path_of a) v) (act_bench kind.system a h (part_of s (ticket_of a) (path_of a)) o)) ≡ true) z e

      wants_idle : (v h : ℕ) (a : Act) → is_stop a ≡ false → is_some (step_by kind.system s v h a) ≡ true → s.hands v ≡ None
      wants_idle v h a n e = by (s.hands v) refl a n e
        where
          by : (o : Option (Hand A F)) → s.hands v ≡ o → (a : Act) → is_stop a ≡ false → is_some (step_by kind.system s v h a) ≡ true → s.hands v ≡ None
          by None z a n e = z
          by (Some g) z (Admit t) n e = absurd (clash false (subst (λ o. is_some (if is_none o then admit kind.system s h t else None) ≡ true) z e) refl)
          by (Some g) z (Commit t) n e = absurd (clash false (subst (λ o. is_some (if is_none o then commit kind.system s h t else None) ≡ true) z e) refl)
          by (Some g) z (Stop t p) n e = absurd (clash true refl n)
          by (Some g) z (Queue t k p) n e = absurd (clash false (busy_not v h g (Queue t k p) z e) refl)
          by (Some g) z (Grant t p) n e = absurd (clash false (busy_not v h g (Grant t p) z e) refl)
          by (Some g) z (Labels.Visit t k p) n e = absurd (clash false (busy_not v h g (Labels.Visit t k p) z e) refl)
          by (Some g) z (Start t p) n e = absurd (clash false (busy_not v h g (Start t p) z e) refl)
          by (Some g) z (Free t k p) n e = absurd (clash false (busy_not v h g (Free t k p) z e) refl)
          by (Some g) z (Pass t k p to) n e = absurd (clash false (busy_not v h g (Pass t k p to) z e) refl)
          by (Some g) z (Land t k p) n e = absurd (clash false (busy_not v h g (Land t k p) z e) refl)

      abbrev idler : Option ℕ
      idler = idle_in s.hands (below workers)

      abbrev can : Label → Bool
      can l = is_some (step kind.system workers s l)

      -- from the list
      from_takes : (v : ℕ) (cs : List Choice) (l : Label) → IsIn (takes kind.system workers s v cs) l → (can l ≡ true) × (l.worker ≡ v)
      from_takes v cs l i = (let y = filter_in can (map (taken_as v) cs) l i in let m = map_in (taken_as v) cs l y.0 in (y.1, sym (ap (λ (u : Label). u.worker) m.2)))

      from_taken : (cs : List Choice) (o : Option ℕ) → idler ≡ o → (l : Label) → IsIn (taken_by kind.system workers s o cs) l → (can l ≡ true) × LowerAreOut s l.worker
      from_taken cs None e l i = absurd i
      from_taken cs (Some v) e l i = (let y = from_takes v cs l i in (y.0, subst (LowerAreOut s) (sym y.1) (λ u m. (lowest s.hands workers 0 v e).2 u (omega arith) m)))

      stop_act : (c : Choice) → IsIn (by_status s (stops_of s kind.hosts)) c → is_stop c.act ≡ true
      stop_act c i = (let t = flat_in (λ u. by_event (s.cells u).event (λ y. stops_of s kind.hosts u y.status)) (Canonical.tickets s) c i in of_event t.0 (s.cells t.0).event t.2)
        where
          of_host : (t : ℕ) (p : Path) (o : Option ℕ) → IsIn (at_host o (Stop t p)) c → is_stop c.act ≡ true
          of_host t p None i = absurd i
          of_host t p (Some h) (inl e) = ap (λ (u : Choice). is_stop u.act) (sym e)
          of_host t p (Some h) (inr i) = absurd i

          of_status : (t : ℕ) (st : Status) → IsIn (stops_of s kind.hosts t st) c → is_stop c.act ≡ true
          of_status t (Running p) i = of_host t p (Canonical.place s kind.hosts p) i
          of_status t (Waiting p) i = absurd i
          of_status t (Ready p) i = absurd i
          of_status t Travelling i = absurd i
          of_status t Ended i = absurd i

          of_event : (t : ℕ) (o : Option (Event A)) → IsIn (by_event o (λ y. stops_of s kind.hosts t y.status)) c → is_stop c.act ≡ true
          of_event t None i = absurd i
          of_event t (Some e) i = of_status t e.status i

      abbrev runners : Choice → List ℕ
      runners c = filter (λ v. runs_it (s.hands v) (ticket_of c.act) (path_of c.act)) (below workers)

      from_stops : (l : Label) → IsIn (flat_map (stop_by kind.system workers s) (stops s kind.hosts)) l → (can l ≡ true) × (is_stop l.act ≡ true)
      from_stops l i =
          let c = flat_in (stop_by kind.system workers s) (stops s kind.hosts) l i in
          let y = filter_in can (map (λ v. taken_as v c.0) (runners c.0)) l c.2 in
          let m = map_in (λ v. taken_as v c.0) (runners c.0) l y.0 in
          (y.1, ap (λ (u : Label). is_stop u.act) (sym m.2) ∙ stop_act c.0 c.1)

      -- into the list
      into_takes : (xs : List Choice) (v h : ℕ) (a : Act) → can (record { worker = v; host = h; act = a }) ≡ true → IsIn xs (record { host = h; act = a }) → IsIn (takes kind.system workers s v xs) (record { worker = v; host = h; act = a })
      into_takes xs v h a c i = in_filter can (map (taken_as v) xs) (record { worker = v; host = h; act = a }) (in_map (taken_as v) xs (record { host = h; act = a }) i) c

      into_taken : (xs : List Choice) (v h : ℕ) (a : Act) (o : Option ℕ) → o ≡ Some v → can (record { worker = v; host = h; act = a }) ≡ true → IsIn xs (record { host = h; act = a }) → IsIn (taken_by kind.system workers s o xs) (record { worker = v; host = h; act = a })
      into_taken xs v h a o e c i = subst (λ u. IsIn (taken_by kind.system workers s u xs) (record { worker = v; host = h; act = a })) (sym e) (into_takes xs v h a c i)

      -- a Stop is of a ticket that is running there
      record RunsThere (v h t : ℕ) (p : Path) : Type 0 where
        choice : IsIn (stops s kind.hosts) (record { host = h; act = Stop t p })
        runs : runs_it (s.hands v) t p ≡ true

      runs_there : (v h t : ℕ) (p : Path) → is_some (step_by kind.system s v h (Stop t p)) ≡ true → RunsThere v h t p
      runs_there v h t p e = by (s.hands v) refl (unmap _ _ e)
        where
          by : (o : Option (Hand A F)) → s.hands v ≡ o → is_some (act_bench kind.system (Stop t p) h (part_of s t p) o) ≡ true → RunsThere v h t p
          by None z n = absurd (clash false n refl)
          by (Some hd) z n =
              let i = un_if ((hd.ticket == t) && path_eq hd.path p) (with_hand None (stop kind.system p h hd (part_of s t p))) n in
              let y = option_some _ i.1 in
              let c = calm_is _ y.0 y.1 in
              let q = stopping kind.system t p h hd (part_of s t p) c.0 c.1 in
              record {
                choice = Choices.in_status kind owes b batches begins jobs s k (stops_of s kind.hosts) t q.event (record { host = h; act = Stop t p }) q.event_is (subst (λ u. IsIn (stops_of s kind.hosts t u) (record { host = h; act = Stop t p })) (sym (running hd z i.0 q.event q.event_is)) (Choices.at_place kind owes b batches begins jobs s k p h (Stop t p) (ap is_some q.entry_is)));
                runs = subst (λ o. runs_it o t p ≡ true) (sym z) i.0;
              }
            where
              running : (hd : Hand A F) → s.hands v ≡ Some hd → ((hd.ticket == t) && path_eq hd.path p) ≡ true → (ev : Event A) → (s.cells t).event ≡ Some ev → ev.status ≡ Running p
              running hd z m ev ee = by_status_of ev.status (subst (λ (u : Event A). Shows.StatusShows u.status There true p) (some_same _ _ (sym sh.event_is ∙ ee))
                  (subst (λ o. Shows.StatusShows sh.event.status There o p) out (subst (λ u. Shows.StatusShows sh.event.status u ((g).out t) p) stage (subst (λ r. Shows.StatusShows sh.event.status ((g).lines.stage t) ((g).out t) r) spot sh.status))))
                where
                  hs : Shows.HandShows kind.system w course b.before Is_real k.ghost v hd
                  hs = x.hands v hd z

                  same : hd.ticket ≡ t
                  same = number_is hd.ticket t (and_first (hd.ticket == t) (path_eq hd.path p) m)

                  sh : Shows.CellShows kind.system w course b.before Is_real k.ghost t (s.cells t)
                  sh = x.cells t (subst (λ i. b.before < i) same hs.later) (subst (λ i. i ≤ (g).lines.admitted) same hs.known)

                  stage : (g).lines.stage t ≡ There
                  stage = subst (λ i. (g).lines.stage i ≡ There) same hs.stage

                  out : (g).out t ≡ true
                  out = subst (λ i. (g).out i ≡ true) same hs.out

                  spot : here w (g).lines t ≡ p
                  spot = subst (λ i. here w (g).lines i ≡ p) same (sym hs.place ∙ path_is hd.path p (and_second (hd.ticket == t) (path_eq hd.path p) m))

                  by_status_of : (st : Status) → Shows.StatusShows st There true p → st ≡ Running p
                  by_status_of (Running r) u = ap Running u.0
                  by_status_of (Ready r) u = absurd (clash true refl (u.1))
                  by_status_of (Waiting r) u = absurd u
                  by_status_of Travelling u = absurd u
                  by_status_of Ended u = absurd u

      step_is : (l : Label) → can l ≡ true → (nat_lt l.worker workers ≡ true) × (is_some (step_by kind.system s l.worker l.host l.act) ≡ true)
      unfolding step
      step_is l e = un_if (nat_lt l.worker workers) (step_by kind.system s l.worker l.host l.act) e

      stop_in : (v h t : ℕ) (p : Path) → can (record { worker = v; host = h; act = Stop t p }) ≡ true → IsIn (stops s kind.hosts) (record { host = h; act = Stop t p })
      stop_in v h t p e = (runs_there v h t p (step_is (record { worker = v; host = h; act = Stop t p }) e).1).choice

      into_stops : (v h t : ℕ) (p : Path) → can (record { worker = v; host = h; act = Stop t p }) ≡ true → IsIn (flat_map (stop_by kind.system workers s) (stops s kind.hosts)) (record { worker = v; host = h; act = Stop t p })
      into_stops v h t p e =
          let y = step_is (record { worker = v; host = h; act = Stop t p }) e in
          let r = runs_there v h t p y.1 in
          in_flat (stop_by kind.system workers s) (stops s kind.hosts) (record { host = h; act = Stop t p }) (record { worker = v; host = h; act = Stop t p }) r.choice
          (in_filter can (map (λ u. taken_as u (record { host = h; act = Stop t p })) (runners (record { host = h; act = Stop t p }))) (record { worker = v; host = h; act = Stop t p })
          (in_map (λ u. taken_as u (record { host = h; act = Stop t p })) (runners (record { host = h; act = Stop t p })) v (in_filter (λ u. runs_it (s.hands u) t p) (below workers) v (in_from workers 0 v (omega arith) (upto v workers (less_by v workers y.0))) r.runs)) e)
        where
          upto : (a c : ℕ) → a < c → a < 0 + c
          upto a c l = omega (arith, l)

      abbrev early_part : List Label
      early_part = taken_by kind.system workers s idler (early s kind.hosts)

      abbrev stop_part : List Label
      stop_part = flat_map (stop_by kind.system workers s) (stops s kind.hosts)

      abbrev late_part : List Label
      late_part = taken_by kind.system workers s idler (late s)

      -- what is not a Stop is early or late
      where_is : (v h : ℕ) (a : Act) → is_stop a ≡ false → can (record { worker = v; host = h; act = a }) ≡ true → Found_in h a
      where_is v h a n c = (let y = step_is (record { worker = v; host = h; act = a }) c in Choices.found_in kind owes b batches begins jobs s k h a n (Choices.step_may kind owes b batches begins jobs s k workers v (wants_idle v h a n y.1) h a y.1))

      pub listed : Listed kind workers b batches s
      unfolding enabled_labels
      listed l = (there, back)
        where
          there : IsIn (early_part ++ stop_part ++ late_part) l → (can l ≡ true) × (is_stop l.act ≡ false → LowerAreOut s l.worker)
          there i = elim (in_or (early_part ++ stop_part) late_part l i) [
            | inr n ↦ (let r = from_taken (late s) idler refl l n in (r.0, λ e. r.1))
            | inl j ↦ elim (in_or early_part stop_part l j) [
              | inl n ↦ (let r = from_taken (early s kind.hosts) idler refl l n in (r.0, λ e. r.1))
              | inr n ↦ (let r = from_stops l n in (r.0, λ e. absurd (clash _ r.1 e)))
            ]
          ]

          plain : (a : Act) → is_stop a ≡ false → can (record { worker = l.worker; host = l.host; act = a }) ≡ true → LowerAreOut s l.worker → IsIn (early_part ++ stop_part ++ late_part) (record { worker = l.worker; host = l.host; act = a })
          plain a z c lower =
              let y = step_is (record { worker = l.worker; host = l.host; act = a }) c in
              let d = is_lowest s.hands workers 0 l.worker (omega arith) (upto l.worker workers (less_by l.worker workers y.0)) (wants_idle l.worker l.host a z y.1) (λ v i m. lower v m) in
              elim (where_is l.worker l.host a z c) [
                | inl f ↦ in_left (early_part ++ stop_part) late_part _ (in_left early_part stop_part _ (into_taken (early s kind.hosts) l.worker l.host a idler d c f))
                | inr f ↦ in_right (early_part ++ stop_part) late_part _ (into_taken (late s) l.worker l.host a idler d c f)
              ]
            where
              upto : (a c : ℕ) → a < c → a < 0 + c
              upto a c l = omega (arith, l)

          by_kind : (a : Act) → can (record { worker = l.worker; host = l.host; act = a }) ≡ true → (is_stop a ≡ false → LowerAreOut s l.worker) → IsIn (early_part ++ stop_part ++ late_part) (record { worker = l.worker; host = l.host; act = a })
          by_kind (Stop t p) c y = in_left (early_part ++ stop_part) late_part _ (in_right early_part stop_part _ (into_stops l.worker l.host t p c))
          by_kind (Admit t) c y = plain (Admit t) refl c (y refl)
          by_kind (Commit t) c y = plain (Commit t) refl c (y refl)
          by_kind (Queue t n p) c y = plain (Queue t n p) refl c (y refl)
          by_kind (Grant t p) c y = plain (Grant t p) refl c (y refl)
          by_kind (Labels.Visit t n p) c y = plain (Labels.Visit t n p) refl c (y refl)
          by_kind (Start t p) c y = plain (Start t p) refl c (y refl)
          by_kind (Free t n p) c y = plain (Free t n p) refl c (y refl)
          by_kind (Pass t n p to) c y = plain (Pass t n p to) refl c (y refl)
          by_kind (Land t n p) c y = plain (Land t n p) refl c (y refl)

          back : (can l ≡ true) × (is_stop l.act ≡ false → LowerAreOut s l.worker) → IsIn (early_part ++ stop_part ++ late_part) l
          back y = by_kind l.act y.0 y.1

      pub listed_for : (v : ℕ) (l : Label) → IsIn (enabled_for kind.system workers kind.hosts s v) l ↔ ((can l ≡ true) × (l.worker ≡ v))
      unfolding enabled_for
      listed_for v l = (from_takes v all l, λ y. subst (λ u. IsIn (takes kind.system workers s u all) l) y.1 (into_takes all l.worker l.host l.act y.0 (by_kind l.act y.0)))
        where
          all : List Choice
          all = early s kind.hosts ++ stops s kind.hosts ++ late s

          plain : (a : Act) → is_stop a ≡ false → can (record { worker = l.worker; host = l.host; act = a }) ≡ true → IsIn (early s kind.hosts ++ stops s kind.hosts ++ late s) (record { host = l.host; act = a })
          plain a z c = elim (where_is l.worker l.host a z c) [
            | inl f ↦ in_left (early s kind.hosts ++ stops s kind.hosts) (late s) _ (in_left (early s kind.hosts) (stops s kind.hosts) _ f)
            | inr f ↦ in_right (early s kind.hosts ++ stops s kind.hosts) (late s) _ f
          ]

          by_kind : (a : Act) → can (record { worker = l.worker; host = l.host; act = a }) ≡ true → IsIn (early s kind.hosts ++ stops s kind.hosts ++ late s) (record { host = l.host; act = a })
          by_kind (Stop t p) c = in_left (early s kind.hosts ++ stops s kind.hosts) (late s) _ (in_right (early s kind.hosts) (stops s kind.hosts) _ (stop_in l.worker l.host t p c))
          by_kind (Admit t) c = plain (Admit t) refl c
          by_kind (Commit t) c = plain (Commit t) refl c
          by_kind (Queue t n p) c = plain (Queue t n p) refl c
          by_kind (Grant t p) c = plain (Grant t p) refl c
          by_kind (Labels.Visit t n p) c = plain (Labels.Visit t n p) refl c
          by_kind (Start t p) c = plain (Start t p) refl c
          by_kind (Free t n p) c = plain (Free t n p) refl c
          by_kind (Pass t n p to) c = plain (Pass t n p to) refl c
          by_kind (Land t n p) c = plain (Land t n p) refl c

      -- the list is empty exactly in a finished state
      nothing_in : {X : Type 0} (xs : List X) → ((x : X) → IsIn xs x → ⊥) → xs ≡ []
      nothing_in [] n = refl
      nothing_in (x ∷ xs) n = absurd (n x (inl refl))

      -- where nobody has a segment out, worker 0 can take what another one can
      first_can : 0 < workers → ((v : ℕ) → s.hands v ≡ None) → (l : Label) → can l ≡ true → can (record { worker = 0; host = l.host; act = l.act }) ≡ true
      unfolding step
      first_can some_worker idle l c = Able.if_can (nat_lt 0 workers) _ (by_less 0 workers some_worker) (Choices.may_step kind owes b batches begins jobs s k workers 0 (idle 0) l.host l.act (Choices.step_may kind owes b batches begins jobs s k workers l.worker (idle l.worker) l.host l.act (step_is l c).1))

      pub empty_at_end : 0 < workers → ((v : ℕ) (hd : Hand A F) → s.hands v ≡ Some hd → CanStop kind.system workers s v hd) → EmptyAtEnd kind workers b batches s
      empty_at_end some_worker stoppable = (over, λ fin. nothing_in (enabled_labels kind.system workers kind.hosts s) (λ l i. none_not (sym (fin.none l) ∙ (option_some (step kind.system workers s l) ((listed l).0 i).0).1)))
        where
          over : enabled_labels kind.system workers kind.hosts s ≡ [] → Finished kind.system workers s
          over e = record { none = λ l. none_for l (step kind.system workers s l) refl; idle = idle }
            where
              not_in : (l : Label) → IsIn (enabled_labels kind.system workers kind.hosts s) l → ⊥
              not_in l i = subst (λ ls. IsIn ls l) e i

              idle : (v : ℕ) → s.hands v ≡ None
              idle v = by (s.hands v) refl
                where
                  by : (o : Option (Hand A F)) → s.hands v ≡ o → s.hands v ≡ None
                  by None z = z
                  by (Some hd) z = (let c = stoppable v hd z in absurd (not_in (record { worker = v; host = c.host; act = Stop hd.ticket hd.path }) ((listed _).1 (c.enabled, λ n. absurd (clash true refl n)))))

              none_below : (v : ℕ) → v < 0 → is_some (s.hands v) ≡ true
              none_below v l = absurd (omega (arith, l))

              none_for : (l : Label) (o : Option (State A F R J)) → step kind.system workers s l ≡ o → o ≡ None
              none_for l None z = refl
              none_for l (Some u) z = absurd (elim (bool_cases (is_stop l.act)) [
                | inl n ↦ not_in l ((listed l).1 (ap is_some z, λ m. absurd (clash _ n m)))
                | inr n ↦ not_in (record { worker = 0; host = l.host; act = l.act }) ((listed _).1 (first_can some_worker idle l (ap is_some z), λ m. none_below))
              ])

      -- one host
      pub one_host : OneHost kind workers b batches s
      unfolding step
      one_host one v h t n p = (λ to. none_of (λ y e. pass_not to y (if_some (nat_lt v workers) _ y e).1), none_of (λ y e. land_not y (if_some (nat_lt v workers) _ y e).1))
        where
          none_of : {X : Type 0} {o : Option X} → ((y : X) → o ≡ Some y → ⊥) → o ≡ None
          none_of {X} {o} n = elim (options o) [ inl e ↦ e | inr y ↦ absurd (n y.0 y.1) ]

          stays : (q : Path) → (g).born q ≡ true → Shows.Stays kind.system w course b.before Is_real k.ghost q (s.columns q)
          stays q e = subst (λ i. Shows.ColumnShows kind.system w course b.before Is_real i k.ghost q (s.columns q)) e (x.columns q)

          unmoved : (q : Path) → (g).born q ≡ true → 0 < ((g).trail q).last → ⊥
          unmoved q u l = (stays q u).track.neighbours 0 l (one_value ((g).trail q).at kind.hosts one ((k.alive).housed q 0 (omega arith)) ((k.alive).housed q 1 (omega (arith, l))))
            where
              one_value : (f : ℕ → ℕ) (n : ℕ) → n ≡ 1 → f 0 < n → f 1 < n → f 0 ≡ f 1
              one_value f n e l m = omega (arith, e, l, m)

          no_mark : (q : Path) (h : ℕ) (m : Mark) → (s.columns q).gone h ≡ Some m → ⊥
          no_mark q h m e = elim (bool_cases ((g).born q)) [
            | inl u ↦ (let y = (stays q u).track.mark_is h m e in unmoved q u (past y.0 ((g).trail q).last y.1))
            | inr u ↦ (let c : Shows.Unborn kind.system w course b.before Is_real k.ghost q (s.columns q) = subst (λ i. Shows.ColumnShows kind.system w course b.before Is_real i k.ghost q (s.columns q)) u (x.columns q) in none_not (sym (c.empty.no_marks h) ∙ e))
          ]
            where
              past : (a c : ℕ) → a < c → 0 < c
              past a c l = omega (arith, l)

          pass_not : (to : ℕ) (y : State A F R J) → step_by kind.system s v h (Pass t n p to) ≡ Some y → ⊥
          pass_not to y e = by (s.hands v) (map_some _ _ y e).0 (map_some _ _ y e).1
            where
              by : (o : Option (Hand A F)) (z : Bench A F R) → act_bench kind.system (Pass t n p to) h (part_of s t p) o ≡ Some z → ⊥
              by (Some a) z e = none_not e
              by None z e = (let c = calm_is _ z e in let q = passes n to p h (part_of s t p) c.0 c.1 in no_mark p h q.mark q.mark_is)

          land_not : (y : State A F R J) → step_by kind.system s v h (Land t n p) ≡ Some y → ⊥
          land_not y e = by (s.hands v) (map_some _ _ y e).0 (map_some _ _ y e).1
            where
              by : (o : Option (Hand A F)) (z : Bench A F R) → act_bench kind.system (Land t n p) h (part_of s t p) o ≡ Some z → ⊥
              by (Some a) z e = none_not e
              by None z e =
                  let c = calm_is _ z e in
                  let q = lands n p h (part_of s t p) c.0 c.1 in
                  let kn = Choices.known_mail kind owes b batches begins jobs s k t n q.letter_at.mail q.letter_at.mail_is in
                  let m = shows_letter kind.system w course b.before Is_real k.ghost t n h p (Transfer q.entry) (s.cells t) (x.cells t kn.0 kn.1) q.letter_at in
                  let u = born_of p t m.0.holds in
                  unmoved p u ((stays p u).track.has_moved m.1)
                where
                  born_of : (q : Path) (b' : ℕ) → (g).lines.holds q b' ≡ true → (g).born q ≡ true
                  born_of q b' h = elim (bool_cases ((g).born q)) [ inl e ↦ e | inr e ↦ absurd (clash _ h (sym ((x.entries q).holders b') ∙ ap (λ (u : Entry F). Shows.holds_claim u.holders b') ((x.entries q).unborn e))) ]
