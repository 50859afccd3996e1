-- What can be taken is among the choices of its kind.
use Rattle.wave_theory.proofs.Found.{found}
use Rattle.std.proofs.Common.{◌≡◌, ℕ, ◌<◌, ◌≤◌, inl, inr, true, Option, Some, None, List, refl, sym, ◌∙◌, ap, subst, arith, is_some, ◌&&◌, ◌==◌, ap₂, [], ◌∷◌, ◌++◌, ◌+◌, suc, ◌⊎◌, Bool, false}
use Rattle.wave_base.specs.declared.path.Path.{Path}
use Rattle.wave_states.specs.States.{State, Cell, Entry, Event, Mail, Letter, Claim}
use Rattle.wave_theory.proofs.Basics.{clash, none_not, some_same, then_some, map_some, only_some, number_is, and_first, and_second}
use Rattle.wave_theory.proofs.Order.{Way, here, Lined}
use Rattle.wave_theory.proofs.Leaves.{Course}
use Rattle.wave_theory.proofs.Tracks.{owner}
use Rattle.wave_theory.proofs.Frames.{option_some}
use Rattle.wave_theory.proofs.Shows
use Rattle.std.specs.Prelude.{All, if◌then◌else◌, slice_get}
use Rattle.wave_states.specs.Begins.{Begin}
use Rattle.wave_states.specs.Kinds.{Kind}
use Rattle.wave_states.specs.Owes.{Owes, IsBegin}
use Rattle.wave_theory.proofs.Courses
use Rattle.wave_theory.proofs.GoodStates.{Good_state}
use Rattle.wave_theory.proofs.GoodStates
use Rattle.wave_theory.proofs.Basics.{map_some}
use Rattle.wave_states.specs.Labels.{Act, Admit, Queue, Grant, Start, Stop, Free, Pass, Land, Commit, ticket_of, path_of}
use Rattle.wave_states.specs.Labels
use Rattle.wave_states.specs.Steps.{Bench, Part, step_by, act_bench, with_hand, part_of}
use Rattle.wave_theory.proofs.Opened.{queues, grants, starts, frees, passes, lands, LetterIs}
use Rattle.wave_theory.proofs.Opened
use Rattle.std.specs.Prelude.{flat_map, is_none, option_map}
use Rattle.wave_base.specs.Fold.{tickets_from}
use Rattle.wave_states.specs.States.{Status, Mark, Travelling, Waiting, Ready, Running, Ended}
use Rattle.wave_states.specs.Labels.{Choice, is_stop}
use Rattle.wave_states.specs.Steps.{admit, commit, after_admit, after_commit, next_ticket, only_if}
use Rattle.wave_states.specs.Canonical.{below, at_host, by_event, by_mail, to_mark, by_status, grants_of, starts_of, by_mails, mail_act, passes_of, early, late}
use Rattle.wave_states.specs.Canonical
use Rattle.wave_theory.specs.Listed.{IsIn}
use Rattle.wave_theory.proofs.Able
use Rattle.wave_theory.proofs.Told
use Rattle.wave_theory.proofs.Choosing.{choice_is, forward_to, host_found, in_flat, in_from, in_left, in_right, unmap}

module _ {A F R J : Type 0} (kind : Kind A F R J) (owes : Owes kind) (b : Begin F) (batches : List (List J)) (begins : IsBegin kind b) (jobs : All (All kind.is_job) batches) where
  abbrev pub w : Way
  w = Courses.w kind owes b batches begins jobs

  abbrev pub course : Course kind.system
  course = Courses.course kind owes b batches begins jobs

  abbrev pub Is_real : ℕ → Type 0
  Is_real = Courses.Real kind owes b batches begins jobs

  module _ (s : State A F R J) (k : Good_state kind owes b batches begins jobs s) where
    pub x : Shows.Shows kind.system w course b.before Is_real s k.ghost
    x = k.shows

    abbrev pub g : Shows.Ghost F
    g = k.ghost

    known_event : (t : ℕ) (e : Event A) → (s.cells t).event ≡ Some e → (b.before < t) × (t ≤ (g).lines.admitted)
    known_event t e q = GoodStates.known kind owes b batches begins jobs s k.ghost x t (λ i. none_not (sym (ap (λ (u : Cell A F R). u.event) i) ∙ q))

    pub known_mail : (t i : ℕ) (m : Mail F) → (s.cells t).mails i ≡ Some m → (b.before < t) × (t ≤ (g).lines.admitted)
    known_mail t i m q = GoodStates.known kind owes b batches begins jobs s k.ghost x t (λ e. none_not (sym (ap (λ (u : Cell A F R). u.mails i) e) ∙ q))

    in_tickets : (t : ℕ) → (b.before < t) × (t ≤ (g).lines.admitted) → IsIn (Canonical.tickets s) t
    in_tickets t l = subst (λ i. IsIn (tickets_from (suc i) s.admitted) t) (sym x.before) (in_from s.admitted (suc b.before) t l.0 (omega (arith, l.1, x.admitted)))

    pub in_status : (f : ℕ → Status → List Choice) (t : ℕ) (e : Event A) (c : Choice) → (s.cells t).event ≡ Some e → IsIn (f t e.status) c → IsIn (by_status s f) c
    in_status f t e c q i = in_flat (λ u. by_event (s.cells u).event (λ y. f u y.status)) (Canonical.tickets s) t c (in_tickets t (known_event t e q)) (subst (λ o. IsIn (by_event o (λ y. f t y.status)) c) (sym q) i)

    in_mails : (f : ℕ → ℕ → Mail F → List Choice) (t n : ℕ) (m : Mail F) (c : Choice) → (s.cells t).mails n ≡ Some m → IsIn (f t n m) c → IsIn (by_mails s f) c
    in_mails f t n m c q i = in_flat (λ u. by_event (s.cells u).event (λ e. flat_map (λ j. by_mail ((s.cells u).mails j) (f u j)) (tickets_from 1 e.sent))) (Canonical.tickets s) t c (in_tickets t kn)
        (subst (λ o. IsIn (by_event o (λ e. flat_map (λ j. by_mail ((s.cells t).mails j) (f t j)) (tickets_from 1 e.sent))) c) (sym sh.event_is)
        (in_flat (λ j. by_mail ((s.cells t).mails j) (f t j)) (tickets_from 1 sh.event.sent) n c (in_from sh.event.sent 1 n (above n (λ z. none_not (sym ((k.alive).no_zero t) ∙ ap (s.cells t).mails (sym z) ∙ q))) (upto n sh.event.sent (λ l. none_not (sym (sh.unused n l) ∙ q))))
        (subst (λ o. IsIn (by_mail o (f t n)) c) (sym q) i)))
      where
        kn : (b.before < t) × (t ≤ (g).lines.admitted)
        kn = known_mail t n m q

        sh : Shows.CellShows kind.system w course b.before Is_real k.ghost t (s.cells t)
        sh = x.cells t kn.0 kn.1

        above : (n : ℕ) → (n ≡ 0 → ⊥) → 1 ≤ n
        above n e = grind arith

        upto : (n d : ℕ) → (d < n → ⊥) → n < 1 + d
        upto n d e = grind arith

    place_is : (p : Path) (h : ℕ) → is_some ((s.columns p).store h) ≡ true → Canonical.place s kind.hosts p ≡ Some h
    place_is p h e = host_found (s.columns p) (below kind.hosts) h (in_from kind.hosts 0 h (omega arith) (below_hosts h own)) e (λ a u. Told.owner_is kind owes b batches begins jobs s k p a (inl u) ∙ sym own)
      where
        own : h ≡ owner ((g).trail p)
        own = Told.owner_is kind owes b batches begins jobs s k p h (inl e)

        below_hosts : (h : ℕ) → h ≡ owner ((g).trail p) → h < 0 + kind.hosts
        below_hosts h e = (let l : owner ((g).trail p) < kind.hosts = (k.alive).housed p ((g).trail p).last (omega arith) in omega (arith, l, e))

    pub at_place : (p : Path) (h : ℕ) (a : Act) → is_some ((s.columns p).store h) ≡ true → IsIn (at_host (Canonical.place s kind.hosts p) a) (record { host = h; act = a })
    at_place p h a e = subst (λ o. IsIn (at_host o a) (record { host = h; act = a })) (sym (place_is p h e)) (inl refl)

    pub calm_is : (o : Option (Part A F R)) (y : Bench A F R) → with_hand None o ≡ Some y → (z : Part A F R) × (o ≡ Some z) × (y ≡ record { part = z; hand = None })
    calm_is o y e = map_some (λ (z : Part A F R). record { part = z; hand = None }) o y e

    abbrev pub Found_in : ℕ → Act → Type 0
    Found_in h a = IsIn (early s kind.hosts) (record { host = h; act = a }) ⊎ IsIn (late s) (record { host = h; act = a })

    abbrev queue_list : List Choice
    queue_list = by_mails s (mail_act (λ t n p. Queue t n p))

    abbrev grant_list : List Choice
    grant_list = by_status s (grants_of s kind.hosts)

    abbrev visit_list : List Choice
    visit_list = by_mails s (mail_act (λ t n p. Labels.Visit t n p))

    abbrev start_list : List Choice
    start_list = by_status s (starts_of s kind.hosts)

    abbrev free_list : List Choice
    free_list = by_mails s (mail_act (λ t n p. Free t n p))

    abbrev pass_list : List Choice
    pass_list = by_mails s (passes_of s)

    abbrev land_list : List Choice
    land_list = by_mails s (mail_act (λ t n p. Land t n p))

    abbrev first_choice : Choice
    first_choice = record { host = 0; act = Admit (next_ticket s) }

    abbrev last_choice : Choice
    last_choice = record { host = 0; act = Commit (suc (s.before + s.head.done)) }

    -- whether an idle worker may take it
    abbrev pub may_take : ℕ → Act → Bool
    may_take host (Admit t) = is_some (admit kind.system s host t)
    may_take host (Commit t) = is_some (commit kind.system s host t)
    may_take host a = is_some (act_bench kind.system a host (part_of s (ticket_of a) (path_of a)) None)

    in_early : (h : ℕ) (a : Act) → IsIn (first_choice ∷ queue_list ++ grant_list ++ visit_list ++ start_list) (record { host = h; act = a }) → Found_in h a
    in_early h a i = inl i

    in_late : (h : ℕ) (a : Act) → IsIn (free_list ++ pass_list ++ land_list ++ last_choice ∷ []) (record { host = h; act = a }) → Found_in h a
    in_late h a i = inr i

    of_mail : (f : ℕ → ℕ → Path → Act) (t n : ℕ) (p : Path) (h : ℕ) (l : Letter F) → LetterIs ((s.cells t).mails n) h p l → IsIn (by_mails s (mail_act f)) (record { host = h; act = f t n p })
    of_mail f t n p h l q = in_mails (mail_act f) t n q.mail (record { host = h; act = f t n p }) q.mail_is (inl (choice_is q.mail.host h (f t n q.mail.path) (f t n p) q.host_is (ap (f t n) q.path_is)))

    pub found_in : (h : ℕ) (a : Act) → is_stop a ≡ false → may_take h a ≡ true → Found_in h a
    found_in h (Stop t p) e m = absurd (clash true refl e)
    found_in h (Admit t) e m =
        let y = option_some (admit kind.system s h t) m in
        let j = then_some (λ j. only_if ((h == 0) && (t == next_ticket s)) (after_admit kind.system s t j)) (slice_get s.head.known s.admitted) y.0 y.1 in
        let o = only_some ((h == 0) && (t == next_ticket s)) (after_admit kind.system s t j.0) y.0 j.2 in
        in_early h (Admit t) (in_left ((first_choice ∷ queue_list) ++ grant_list ++ visit_list) start_list _ (in_left ((first_choice ∷ queue_list) ++ grant_list) visit_list _ (in_left (first_choice ∷ queue_list) grant_list _ (inl (choice_is 0 h (Admit (next_ticket s)) (Admit t) (sym (number_is h 0 (and_first (h == 0) (t == next_ticket s) o.0))) (ap Admit (sym (number_is t (next_ticket s) (and_second (h == 0) (t == next_ticket s) o.0)))))))))
    found_in h (Commit t) e m =
        let y = option_some (commit kind.system s h t) m in
        let r = then_some (λ r. only_if ((h == 0) && (t == suc (s.before + s.head.done))) (after_commit kind.system s r)) (s.cells t).result y.0 y.1 in
        let o = only_some ((h == 0) && (t == suc (s.before + s.head.done))) (after_commit kind.system s r.0) y.0 r.2 in
        in_late h (Commit t) (in_right (free_list ++ pass_list ++ land_list) (last_choice ∷ []) _ (inl (choice_is 0 h (Commit (suc (s.before + s.head.done))) (Commit t)
        (sym (number_is h 0 (and_first (h == 0) (t == suc (s.before + s.head.done)) o.0))) (ap Commit (sym (number_is t (suc (s.before + s.head.done)) (and_second (h == 0) (t == suc (s.before + s.head.done)) o.0)))))))
    found_in h (Queue t n p) e m = (let y = option_some _ m in let z = calm_is _ y.0 y.1 in let q = queues kind.system t n p h (part_of s t p) z.0 z.1 in
        in_early h (Queue t n p) (in_left ((first_choice ∷ queue_list) ++ grant_list ++ visit_list) start_list _ (in_left ((first_choice ∷ queue_list) ++ grant_list) visit_list _ (in_left (first_choice ∷ queue_list) grant_list _ (inr (of_mail (λ t n p. Queue t n p) t n p h _ q.letter_at))))))
    found_in h (Labels.Visit t n p) e m = (let y = option_some _ m in let z = calm_is _ y.0 y.1 in let q = Opened.visits n p h (part_of s t p) z.0 z.1 in
        in_early h (Labels.Visit t n p) (in_left ((first_choice ∷ queue_list) ++ grant_list ++ visit_list) start_list _ (in_right ((first_choice ∷ queue_list) ++ grant_list) visit_list _ (of_mail (λ t n p. Labels.Visit t n p) t n p h q.letter q.letter_at))))
    found_in h (Free t n p) e m = (let y = option_some _ m in let z = calm_is _ y.0 y.1 in let q = frees t n p h (part_of s t p) z.0 z.1 in
        in_late h (Free t n p) (in_left (free_list ++ pass_list ++ land_list) (last_choice ∷ []) _ (in_left (free_list ++ pass_list) land_list _ (in_left free_list pass_list _ (of_mail (λ t n p. Free t n p) t n p h _ q.letter_at)))))
    found_in h (Land t n p) e m = (let y = option_some _ m in let z = calm_is _ y.0 y.1 in let q = lands n p h (part_of s t p) z.0 z.1 in
        in_late h (Land t n p) (in_left (free_list ++ pass_list ++ land_list) (last_choice ∷ []) _ (in_right (free_list ++ pass_list) land_list _ (of_mail (λ t n p. Land t n p) t n p h _ q.letter_at))))
    found_in h (Pass t n p to) e m = (let y = option_some _ m in let z = calm_is _ y.0 y.1 in let q = passes n to p h (part_of s t p) z.0 z.1 in
        in_late h (Pass t n p to) (in_left (free_list ++ pass_list ++ land_list) (last_choice ∷ []) _ (in_left (free_list ++ pass_list) land_list _ (in_right free_list pass_list _ (in_mails (passes_of s) t n q.letter_at.mail (record { host = h; act = Pass t n p to }) q.letter_at.mail_is
        (in_passes t n p to h q.letter_at.mail q.mark q.letter_at.host_is q.letter_at.path_is q.mark_is (forward_to (s.columns p) h q.ask.followed to q.mark q.mark_is q.route_is)))))))
      where
        in_passes : (t n : ℕ) (p : Path) (to h : ℕ) (m : Mail F) (mark : Mark) → m.host ≡ h → m.path ≡ p → (s.columns p).gone h ≡ Some mark → mark.to ≡ to → IsIn (passes_of s t n m) (record { host = h; act = Pass t n p to })
        in_passes t n p to h m mark eh ep eg et = subst (λ o. IsIn (to_mark o (λ u. Pass t n m.path u) m.host) (record { host = h; act = Pass t n p to })) (sym (ap₂ (λ a c. (s.columns a).gone c) ep eh ∙ eg)) (inl (choice_is m.host h (Pass t n m.path mark.to) (Pass t n p to) eh (ap₂ (λ a c. Pass t n a c) ep et)))
    found_in h (Start t p) e m = (let y = option_some _ m in let q = starts t p h (part_of s t p) y.0 y.1 in
        in_early h (Start t p) (in_right ((first_choice ∷ queue_list) ++ grant_list ++ visit_list) start_list _ (in_status (starts_of s kind.hosts) t q.event (record { host = h; act = Start t p }) q.event_is
        (subst (λ u. IsIn (starts_of s kind.hosts t u) (record { host = h; act = Start t p })) (sym q.ready) (at_place p h (Start t p) (ap is_some q.entry_is))))))
    found_in h (Grant t p) e m = (let y = option_some _ m in let z = calm_is _ y.0 y.1 in let q = grants t p h (part_of s t p) z.0 z.1 in
        in_early h (Grant t p) (in_left ((first_choice ∷ queue_list) ++ grant_list ++ visit_list) start_list _ (in_left ((first_choice ∷ queue_list) ++ grant_list) visit_list _ (in_right (first_choice ∷ queue_list) grant_list _ (in_status (grants_of s kind.hosts) t q.event (record { host = h; act = Grant t p }) q.event_is
        (subst (λ u. IsIn (grants_of s kind.hosts t u) (record { host = h; act = Grant t p })) (sym (waiting_is t p h q.event q.entry q.claim q.event_is q.entry_is q.claim_is q.ticket_is)) (at_place p h (Grant t p) (ap is_some q.entry_is))))))))
      where
        waiting_is : (t : ℕ) (p : Path) (h : ℕ) (e : Event A) (en : Entry F) (c : Claim) → (s.cells t).event ≡ Some e → (s.columns p).store h ≡ Some en → en.waiting (suc en.served) ≡ Some c → c.ticket ≡ t → e.status ≡ Waiting p
        waiting_is t p h e en c ee se ce te = by e.status (subst (λ (u : Event A). Shows.StatusShows u.status Lined ((g).out t) p) (some_same _ _ (sym sh.event_is ∙ ee)) (subst (λ u. Shows.StatusShows sh.event.status u ((g).out t) p) stage (subst (λ r. Shows.StatusShows sh.event.status ((g).lines.stage t) ((g).out t) r) spot sh.status)))
          where
            kn : (b.before < t) × (t ≤ (g).lines.admitted)
            kn = known_event t e ee

            sh : Shows.CellShows kind.system w course b.before Is_real k.ghost t (s.cells t)
            sh = x.cells t kn.0 kn.1

            y : Shows.WaitShows kind.system w course b.before Is_real k.ghost p (suc en.served) c
            y = (x.entries p).waits (suc en.served) c (ap (λ (u : Entry F). u.waiting (suc en.served)) (sym (found kind.system w course b.before Is_real k.ghost p (s.columns p) h en (x.columns p) se).entry_is) ∙ ce)

            stage : (g).lines.stage t ≡ Lined
            stage = subst (λ i. (g).lines.stage i ≡ Lined) te y.stage

            spot : here w (g).lines t ≡ p
            spot = subst (λ i. here w (g).lines i ≡ p) te y.place

            by : (st : Status) → Shows.StatusShows st Lined ((g).out t) p → st ≡ Waiting p
            by (Waiting r) z = ap Waiting z.0
            by (Ready r) z = absurd z
            by (Running r) z = absurd z
            by Travelling z = absurd z
            by Ended z = absurd z

    -- what may be taken is enabled for an idle worker, and the other way round
    module _ (workers v : ℕ) (idle : s.hands v ≡ None) where
      may_bench : (a : Act) (h : ℕ) (f : Bench A F R → State A F R J) → is_some (option_map f (act_bench kind.system a h (part_of s (ticket_of a) (path_of a)) (s.hands v))) ≡ true → is_some (act_bench kind.system a h (part_of s (ticket_of a) (path_of a)) None) ≡ true
      may_bench a h f e = subst (λ o. is_some (act_bench kind.system a h (part_of s (ticket_of a) (path_of a)) o) ≡ true) idle (unmap f _ e)

      bench_may : (a : Act) (h : ℕ) (f : Bench A F R → State A F R J) → is_some (act_bench kind.system a h (part_of s (ticket_of a) (path_of a)) None) ≡ true → is_some (option_map f (act_bench kind.system a h (part_of s (ticket_of a) (path_of a)) (s.hands v))) ≡ true
      bench_may a h f e = Able.map_can f _ (subst (λ o. is_some (act_bench kind.system a h (part_of s (ticket_of a) (path_of a)) o) ≡ true) (sym idle) e)

      pub may_step : (h : ℕ) (a : Act) → may_take h a ≡ true → is_some (step_by kind.system s v h a) ≡ true
      may_step h (Admit t) e = subst (λ o. is_some (if is_none o then admit kind.system s h t else None) ≡ true) (sym idle) e
      may_step h (Commit t) e = subst (λ o. is_some (if is_none o then commit kind.system s h t else None) ≡ true) (sym idle) e
      may_step h (Queue t n p) e = bench_may (Queue t n p) h _ e
      may_step h (Grant t p) e = bench_may (Grant t p) h _ e
      may_step h (Labels.Visit t n p) e = bench_may (Labels.Visit t n p) h _ e
      may_step h (Start t p) e = bench_may (Start t p) h _ e
      may_step h (Stop t p) e = bench_may (Stop t p) h _ e
      may_step h (Free t n p) e = bench_may (Free t n p) h _ e
      may_step h (Pass t n p to) e = bench_may (Pass t n p to) h _ e
      may_step h (Land t n p) e = bench_may (Land t n p) h _ e

      pub step_may : (h : ℕ) (a : Act) → is_some (step_by kind.system s v h a) ≡ true → may_take h a ≡ true
      step_may h (Admit t) e = subst (λ o. is_some (if is_none o then admit kind.system s h t else None) ≡ true) idle e
      step_may h (Commit t) e = subst (λ o. is_some (if is_none o then commit kind.system s h t else None) ≡ true) idle e
      step_may h (Queue t n p) e = may_bench (Queue t n p) h _ e
      step_may h (Grant t p) e = may_bench (Grant t p) h _ e
      step_may h (Labels.Visit t n p) e = may_bench (Labels.Visit t n p) h _ e
      step_may h (Start t p) e = may_bench (Start t p) h _ e
      step_may h (Stop t p) e = may_bench (Stop t p) h _ e
      step_may h (Free t n p) e = may_bench (Free t n p) h _ e
      step_may h (Pass t n p to) e = may_bench (Pass t n p to) h _ e
      step_may h (Land t n p) e = may_bench (Land t n p) h _ e
