-- Every state that a list of labels leads to shows the lines and the fold.
use Rattle.wave_base.specs.Tree.{there}
use Rattle.std.proofs.Common.{◌≡◌, ℕ, suc, ◌+◌, ◌<◌, ◌≤◌, ◌==◌, ◌&&◌, inl, inr, nat_eq, nat_lt, Bool, true, false, Option, Some, None, is_some, List, [], ◌∷◌, refl, sym, ◌∙◌, ap, ap₂, subst, arith, zero}
use Rattle.std.specs.Prelude.{if◌then◌else◌, slice_get}
use Rattle.wave_base.specs.declared.path.Path.{Path}
use Rattle.wave_base.specs.Paths.{path_eq}
use Rattle.wave_states.specs.States.{State, Cell, Event, Hand, Mail, set}
use Rattle.wave_states.specs.Steps.{Bench, Part, with_bench, stop, admit, after_admit, after_commit, commit, part_of}
use Rattle.wave_theory.proofs.Basics.{clash, some_same, none_not, number_is, number_cases, path_is, set_at, set_there, and_first, and_second, differ, not_same}
use Rattle.wave_theory.proofs.Order.{Way, IsWay}
use Rattle.wave_theory.proofs.Leaves.{Course, IsCourse}
use Rattle.wave_theory.proofs.Alive
use Rattle.wave_theory.proofs.Tallies
use Rattle.wave_theory.specs.Counted.{taken_count}
use Rattle.wave_states.specs.Labels.{is_pass}
use Rattle.wave_theory.proofs.Deeds
use Rattle.wave_theory.proofs.Shows
use Rattle.std.specs.Prelude.{All}
use Rattle.wave_base.specs.Fold.{Progress}
use Rattle.wave_states.specs.Begins.{Begin, start_state, has_moved}
use Rattle.wave_states.specs.Kinds.{Kind}
use Rattle.wave_states.specs.Owes.{Owes, IsBegin}
use Rattle.wave_states.specs.Labels.{Act, Label, Admit, Queue, Grant, Start, Stop, Free, Pass, Land, Commit, ticket_of, path_of}
use Rattle.wave_states.specs.Labels
use Rattle.wave_states.specs.Steps.{step, step_by, act_bench, with_hand, only_if, next_ticket}
use Rattle.wave_states.specs.Runs.{run}
use Rattle.wave_states.specs.Alone.{fold_alone}
use Rattle.wave_theory.proofs.Basics.{then_some, map_some, only_some, if_some}
use Rattle.wave_theory.proofs.Opened.{queues, grants, starts, frees, passes, lands, stopping}
use Rattle.wave_theory.proofs.Opened
use Rattle.wave_theory.proofs.Courses.{Real}
use Rattle.wave_theory.proofs.Courses
use Rattle.wave_theory.proofs.Folds
use Rattle.wave_theory.proofs.Queueing
use Rattle.wave_theory.proofs.Granting
use Rattle.wave_theory.proofs.Visiting
use Rattle.wave_theory.proofs.Starting
use Rattle.wave_theory.proofs.Freeing
use Rattle.wave_theory.proofs.PassingOn
use Rattle.wave_theory.proofs.Admitting
use Rattle.wave_theory.proofs.Paused
use Rattle.wave_theory.proofs.Beginning
use Rattle.wave_theory.proofs.Tracks
use Rattle.wave_theory.proofs.GoodStates

module _ {A F R J : Type 0} (kind : Kind A F R J) (owes : Owes kind) (b : Begin F) (batches : List (List J)) (begins : IsBegin kind b) (jobs : All (All kind.is_job) batches) where
  abbrev w : Way
  w = Courses.w kind owes b batches begins jobs

  abbrev course : Course kind.system
  course = Courses.course kind owes b batches begins jobs

  abbrev law : IsWay w
  law = GoodStates.law kind owes b batches begins jobs

  abbrev Is_real : ℕ → Type 0
  Is_real = Courses.Real kind owes b batches begins jobs

  abbrev courses : IsCourse kind.system w course b.before Is_real
  courses = GoodStates.courses kind owes b batches begins jobs

  abbrev at : ℕ → Progress F R J
  at n = fold_alone kind.system b batches n

  abbrev Shown : State A F R J → Shows.Ghost F → Type 0
  Shown s g = Shows.Shows kind.system w course b.before Is_real s g

  abbrev Heads : (s : State A F R J) → Type 0
  Heads = GoodStates.Heads kind owes b batches begins jobs

  abbrev Good_state : (s : State A F R J) → Type 0
  Good_state = GoodStates.Good_state kind owes b batches begins jobs

  -- how many labels were taken so far, the Passes aside
  abbrev total : State A F R J → (ℕ → ℕ) → ℕ
  total s c = Tallies.sum_to s.admitted (λ i. c (suc b.before + i)) + s.head.done

  abbrev Goes : (s : State A F R J) (n : ℕ) → Type 0
  Goes = GoodStates.Goes kind owes b batches begins jobs

  -- what a label does
  abbrev Turned : State A F R J → Shows.Ghost F → Shows.Ghost F → Act → Type 0
  Turned s g g' a = Deeds.Turn kind.system w course b.before Is_real s g g' a

  abbrev Next : (s s' : State A F R J) (g : Shows.Ghost F) (n : ℕ) (a : Act) → Type 0
  Next = GoodStates.Next kind owes b batches begins jobs

  abbrev known : (s : State A F R J) (g : Shows.Ghost F) → Shown s g → (t : ℕ) → (s.cells t ≡ record { event = None; mails = λ k. None; result = None } → ⊥) → (b.before < t) × (t ≤ g.lines.admitted)
  known = GoodStates.known kind owes b batches begins jobs

  abbrev event_there : (c : Cell A F R) (e : Event A) → c.event ≡ Some e → c ≡ record { event = None; mails = λ k. None; result = None } → ⊥
  event_there = GoodStates.event_there kind owes b batches begins jobs

  abbrev mail_there : (c : Cell A F R) (k : ℕ) (m : Mail F) → c.mails k ≡ Some m → c ≡ record { event = None; mails = λ k. None; result = None } → ⊥
  mail_there = GoodStates.mail_there kind owes b batches begins jobs

  -- the state after a label that leaves the hand
  module _ (s s' : State A F R J) (g : Shows.Ghost F) (x : Shown s g) (h : Heads s) (al : Alive.Alive kind.system w course b.before Is_real s g) (c : ℕ → ℕ) (tc : Tallies.Tally kind.system w course b.before Is_real g c) (v host : ℕ) where
    abbrev Then : Act → Type 0
    Then a = Next s s' g (total s c) a

    index_of : (t : ℕ) → b.before < t → t ≤ g.lines.admitted → (i : ℕ) × (i < s.admitted) × (t ≡ suc b.before + i)
    index_of t l m = by b.before t s.admitted l (subst (λ i. t ≤ i) x.admitted m)
      where
        by : (a t n : ℕ) → a < t → t ≤ a + n → (i : ℕ) × (i < n) × (t ≡ suc a + i)
        by a zero n l m = absurd (omega (arith, l))
        by zero (suc t) n l m = (t, omega (arith, m), omega arith)
        by (suc a) (suc t) n l m = (let r = by a t n (omega (arith, l)) (omega (arith, m)) in (r.0, r.1, omega (arith, r.2)))

    total_more : (t : ℕ) → b.before < t → t ≤ g.lines.admitted → Tallies.sum_to s.admitted (λ i. set nat_eq c t (suc (c t)) (suc b.before + i)) + s.head.done ≡ suc (total s c)
    total_more t l m = (let i = index_of t l m in
        ap (λ n. n + s.head.done) (Tallies.sum_one s.admitted (λ j. c (suc b.before + j)) (λ j. set nat_eq c t (suc (c t)) (suc b.before + j)) i.0 i.1
        (subst (λ u. set nat_eq c t (suc (c t)) u ≡ suc (c u)) i.2 (set_at c t (suc (c t))))
        (λ j n z. set_there nat_eq c t (suc (c t)) (suc b.before + j) (apart t i.0 j i.2 z))) ∙ plus _ _)
      where
        plus : (a d : ℕ) → suc a + d ≡ suc (a + d)
        plus a d = omega arith

        apart : (t i j : ℕ) → t ≡ suc b.before + i → nat_eq i j ≡ false → nat_eq t (suc b.before + j) ≡ false
        apart t i j e z = differ t (suc b.before + j) (λ y. not_same i j z (same_index b.before i j (sym e ∙ y)))
          where
            same_index : (a i j : ℕ) → suc a + i ≡ suc a + j → i ≡ j
            same_index a i j e = omega (arith, e)

    next_by : (a : Act) → is_pass a ≡ false → (t : ℕ) (p : Path) (y : Bench A F R) (g' : Shows.Ghost F) → Turned s g g' a → s' ≡ with_bench s t p v y → Shown (with_bench s t p v y) g' → Alive.Alive kind.system w course b.before Is_real (with_bench s t p v y) g' → (is_some (s.cells t).result ≡ true → is_some y.part.cell.result ≡ true) →
        (b.before < t) × (t ≤ g.lines.admitted) → Tallies.Tally kind.system w course b.before Is_real g' (set nat_eq c t (suc (c t))) → Then a
    next_by a ia t p y g' tn e k al' r kn tl = subst (λ u. Next s u g (total s c) a) (sym e) (record { good = record { ghost = g'; shows = k; heads = GoodStates.heads_after kind owes b batches begins jobs s t p v y h r; alive = al'; tally = set nat_eq c t (suc (c t)); tallied = tl }; counts = total_more t kn.0 kn.1 ∙ sym (ap (λ i. if i then total s c else suc (total s c)) ia); turn = tn })

    next_same : (a : Act) → is_pass a ≡ true → (t : ℕ) (p : Path) (y : Bench A F R) (g' : Shows.Ghost F) → Turned s g g' a → s' ≡ with_bench s t p v y → Shown (with_bench s t p v y) g' → Alive.Alive kind.system w course b.before Is_real (with_bench s t p v y) g' → (is_some (s.cells t).result ≡ true → is_some y.part.cell.result ≡ true) →
        Tallies.Tally kind.system w course b.before Is_real g' c → Then a
    next_same a ia t p y g' tn e k al' r tl = subst (λ u. Next s u g (total s c) a) (sym e) (record { good = record { ghost = g'; shows = k; heads = GoodStates.heads_after kind owes b batches begins jobs s t p v y h r; alive = al'; tally = c; tallied = tl }; counts = sym (ap (λ i. if i then total s c else suc (total s c)) ia); turn = tn })

    calm_is : (o : Option (Part A F R)) (y : Bench A F R) → with_hand None o ≡ Some y → (z : Part A F R) × (o ≡ Some z) × (y ≡ record { part = z; hand = None })
    calm_is o y e = map_some (λ (z : Part A F R). record { part = z; hand = None }) o y e

    local : (a : Act) (y : Bench A F R) (hd : Option (Hand A F)) → s.hands v ≡ hd → Labels.is_local a ≡ true → act_bench kind.system a host (part_of s (ticket_of a) (path_of a)) hd ≡ Some y → s' ≡ with_bench s (ticket_of a) (path_of a) v y → Then a
    local (Admit t) y hd k l e f = absurd (clash false l refl)
    local (Commit t) y hd k l e f = absurd (clash false l refl)
    local (Queue t n p) y (Some a) k l e f = absurd (none_not e)
    local (Queue t n p) y None k l e f = (let z = calm_is _ y e in let q = queues kind.system t n p host (part_of s t p) z.0 z.1 in let kn = known s g x t (event_there (s.cells t) q.event q.event_is) in
        next_by (Queue t n p) refl t p (record { part = z.0; hand = None }) _ (Queueing.queue_turn kind.system w law course b.before Is_real s g x t n p host v z.0 q kn.0 kn.1) (f ∙ ap (with_bench s t p v) z.2) (Queueing.queue_shows kind.system w law course b.before Is_real s g x t n p host v z.0 q kn.0 kn.1) (Queueing.queue_alive kind.system w law course b.before Is_real s g x t n p host v z.0 q kn.0 kn.1 al k) (λ r. subst (λ (u : Part A F R). is_some u.cell.result ≡ true) q.gives r) kn (Queueing.queue_tally kind.system w law course b.before Is_real s g x t n p host v z.0 q kn.0 kn.1 c tc))
    local (Grant t p) y (Some a) k l e f = absurd (none_not e)
    local (Grant t p) y None k l e f = (let z = calm_is _ y e in let q = grants t p host (part_of s t p) z.0 z.1 in let kn = known s g x t (event_there (s.cells t) q.event q.event_is) in
        next_by (Grant t p) refl t p (record { part = z.0; hand = None }) _ (Granting.grant_turn kind.system w law course b.before Is_real courses s g x t p host v z.0 q) (f ∙ ap (with_bench s t p v) z.2) (Granting.grant_shows kind.system w law course b.before Is_real courses s g x t p host v z.0 q) (Granting.grant_alive kind.system w law course b.before Is_real courses s g x t p host v z.0 q al k) (λ r. subst (λ (u : Part A F R). is_some u.cell.result ≡ true) q.gives r) kn (Granting.grant_tally kind.system w law course b.before Is_real courses s g x t p host v z.0 q c tc))
    local (Labels.Visit t n p) y (Some a) k l e f = absurd (none_not e)
    local (Labels.Visit t n p) y None k l e f = (let z = calm_is _ y e in let q = Opened.visits n p host (part_of s t p) z.0 z.1 in let kn = known s g x t (event_there (s.cells t) q.event q.event_is) in
        next_by (Labels.Visit t n p) refl t p (record { part = z.0; hand = None }) _ (Visiting.visit_turn kind.system w law course b.before Is_real courses s g x t n p host v z.0 q kn.0 kn.1) (f ∙ ap (with_bench s t p v) z.2) (Visiting.visit_shows kind.system w law course b.before Is_real courses s g x t n p host v z.0 q kn.0 kn.1) (Visiting.visit_alive kind.system w law course b.before Is_real courses s g x t n p host v z.0 q kn.0 kn.1 al k) (λ r. subst (λ (u : Part A F R). is_some u.cell.result ≡ true) q.gives r) kn (Visiting.visit_tally kind.system w law course b.before Is_real courses s g x t n p host v z.0 q kn.0 kn.1 c tc))
    local (Start t p) y (Some a) k l e f = absurd (none_not e)
    local (Start t p) y None k l e f = (let q = starts t p host (part_of s t p) y e in let kn = known s g x t (event_there (s.cells t) q.event q.event_is) in
        next_by (Start t p) refl t p y _ (Starting.start_turn kind.system w law course b.before Is_real courses s g x t p host v y q kn.0 kn.1) f (Starting.start_shows kind.system w law course b.before Is_real courses s g x t p host v y q kn.0 kn.1) (Starting.start_alive kind.system w law course b.before Is_real courses s g x t p host v y q kn.0 kn.1 al k) (λ r. subst (λ (u : Bench A F R). is_some u.part.cell.result ≡ true) q.gives r) kn (Starting.start_tally kind.system w law course b.before Is_real courses s g x t p host v y q kn.0 kn.1 c tc))
    local (Stop t p) y None k l e f = absurd (none_not e)
    local (Stop t p) y (Some hd) k l e f = (let i = if_some ((hd.ticket == t) && path_eq hd.path p) _ y e in
        stop_next hd k y (with_hand_is t p hd i.1) (f ∙ ap₂ (λ a r. with_bench s a r v y) (sym (number_is hd.ticket t (and_first _ _ i.0))) (sym (path_is hd.path p (and_second (hd.ticket == t) _ i.0)))) (number_is hd.ticket t (and_first _ _ i.0)) (path_is hd.path p (and_second (hd.ticket == t) _ i.0)))
      where
        with_hand_is : (t : ℕ) (p : Path) (hd : Hand A F) → with_hand None (stop kind.system p host hd (part_of s t p)) ≡ Some y → with_hand None (stop kind.system p host hd (part_of s t p)) ≡ Some y
        with_hand_is t p hd e = e

        stop_next : (hd : Hand A F) → s.hands v ≡ Some hd → (y : Bench A F R) → with_hand None (stop kind.system p host hd (part_of s t p)) ≡ Some y → s' ≡ with_bench s hd.ticket hd.path v y → hd.ticket ≡ t → hd.path ≡ p → Then (Stop t p)
        stop_next hd k y e f et ep = subst (λ a. Then (Stop a p)) et (subst (λ r. Then (Stop hd.ticket r)) ep (let e' : with_hand None (stop kind.system hd.path host hd (part_of s hd.ticket hd.path)) ≡ Some y = subst (λ r. with_hand None (stop kind.system r host hd (part_of s hd.ticket r)) ≡ Some y) (sym ep) (subst (λ a. with_hand None (stop kind.system p host hd (part_of s a p)) ≡ Some y) (sym et) e) in
            let z = calm_is _ y e' in let q = stopping kind.system hd.ticket hd.path host hd (part_of s hd.ticket hd.path) z.0 z.1 in
            let n = Paused.stop_keeps kind.system w law course b.before Is_real courses s g x hd v host k z.0 q in
            next_by (Stop hd.ticket hd.path) refl hd.ticket hd.path (record { part = z.0; hand = None }) n.ghost n.turn (f ∙ ap (with_bench s hd.ticket hd.path v) z.2) n.shows (n.alive al) (λ r. absurd (clash _ r (ap is_some (Paused.no_result kind.system w law course b.before Is_real courses s g x hd v host k z.0 q)))) ((x.hands v hd k).later, (x.hands v hd k).known) (n.tally al c tc)))
    local (Free t n p) y (Some a) k l e f = absurd (none_not e)
    local (Free t n p) y None k l e f = (let z = calm_is _ y e in let q = frees t n p host (part_of s t p) z.0 z.1 in let kn = known s g x t (mail_there (s.cells t) n q.letter_at.mail q.letter_at.mail_is) in
        next_by (Free t n p) refl t p (record { part = z.0; hand = None }) _ (Freeing.free_turn kind.system w law course b.before Is_real courses s g x t n p host v z.0 q kn.0 kn.1) (f ∙ ap (with_bench s t p v) z.2) (Freeing.free_shows kind.system w law course b.before Is_real courses s g x t n p host v z.0 q kn.0 kn.1) (Freeing.free_alive kind.system w law course b.before Is_real courses s g x t n p host v z.0 q kn.0 kn.1 al k) (λ r. subst (λ (u : Part A F R). is_some u.cell.result ≡ true) q.gives r) kn (Freeing.free_tally kind.system w law course b.before Is_real courses s g x t n p host v z.0 q kn.0 kn.1 c tc))
    local (Pass t n p to) y (Some a) k l e f = absurd (none_not e)
    local (Pass t n p to) y None k l e f = (let z = calm_is _ y e in let q = passes n to p host (part_of s t p) z.0 z.1 in let kn = known s g x t (mail_there (s.cells t) n q.letter_at.mail q.letter_at.mail_is) in
        next_same (Pass t n p to) refl t p (record { part = z.0; hand = None }) _ (PassingOn.pass_turn kind.system w law course b.before Is_real courses s g x t n to p host v z.0 q kn.0 kn.1) (f ∙ ap (with_bench s t p v) z.2) (PassingOn.pass_shows kind.system w law course b.before Is_real courses s g x t n to p host v z.0 q kn.0 kn.1) (PassingOn.pass_alive kind.system w law course b.before Is_real courses s g x t n to p host v z.0 q kn.0 kn.1 al k) (λ r. subst (λ (u : Part A F R). is_some u.cell.result ≡ true) q.gives r) tc)
    local (Land t n p) y (Some a) k l e f = absurd (none_not e)
    local (Land t n p) y None k l e f = (let z = calm_is _ y e in let q = lands n p host (part_of s t p) z.0 z.1 in let kn = known s g x t (mail_there (s.cells t) n q.letter_at.mail q.letter_at.mail_is) in
        next_by (Land t n p) refl t p (record { part = z.0; hand = None }) _ (Freeing.land_turn kind.system w law course b.before Is_real courses s g x t n p host v z.0 q kn.0 kn.1) (f ∙ ap (with_bench s t p v) z.2) (Freeing.land_shows kind.system w law course b.before Is_real courses s g x t n p host v z.0 q kn.0 kn.1) (Freeing.land_alive kind.system w law course b.before Is_real courses s g x t n p host v z.0 q kn.0 kn.1 al k) (λ r. subst (λ (u : Part A F R). is_some u.cell.result ≡ true) q.gives r) kn (Freeing.land_tally kind.system w law course b.before Is_real courses s g x t n p host v z.0 q kn.0 kn.1 c tc))

    admit_next : (t : ℕ) → admit kind.system s host t ≡ Some s' → Then (Admit t)
    admit_next t e =
        let j = then_some (λ j. only_if ((host == 0) && (t == next_ticket s)) (after_admit kind.system s t j)) (slice_get s.head.known s.admitted) s' e in
        let o = only_some ((host == 0) && (t == next_ticket s)) (after_admit kind.system s t j.0) s' j.2 in
        let n : t ≡ suc g.lines.admitted = number_is t (next_ticket s) (and_second (host == 0) _ o.0) ∙ ap (λ i. suc (i + s.admitted)) x.before ∙ ap suc (sym x.admitted) in
        subst (λ u. Next s u g (total s c) (Admit t)) o.1 (record {
          turn = Admitting.admit_turn kind.system w law course b.before Is_real courses s g x j.0 (GoodStates.first_is kind owes b batches begins jobs s g x h j.0 j.1) t n;
          good = record {
            ghost = Admitting.with_ticket kind.system w law course b.before Is_real courses g;
            shows = Admitting.admit_shows kind.system w law course b.before Is_real courses s g x j.0 (GoodStates.first_is kind owes b batches begins jobs s g x h j.0 j.1) t n;
            alive = Admitting.admit_alive kind.system w law course b.before Is_real courses s g x j.0 (GoodStates.first_is kind owes b batches begins jobs s g x h j.0 j.1) t n al;
            heads = record {
              head_is = h.head_is;
              few = omega (arith, h.few);
              over = λ i l. elim (number_cases t (suc b.before + i)) [
                | inr m ↦ ap (λ (u : Cell A F R). is_some u.result) (set_there nat_eq s.cells t _ (suc b.before + i) m) ∙ h.over i l
                | inl m ↦ absurd (let fw = h.few in let ad = x.admitted in omega (arith, n))
              ];
            };
            tally = set nat_eq c (suc g.lines.admitted) 1;
            tallied = Admitting.admit_tally kind.system w law course b.before Is_real courses s g x j.0 (GoodStates.first_is kind owes b batches begins jobs s g x h j.0 j.1) c tc;
          };
          counts = ap (λ n. n + s.head.done) (Tallies.sum_more s.admitted (λ i. set nat_eq c (suc g.lines.admitted) 1 (suc b.before + i)) ∙ ap₂ (λ a d. a + d)
              (Tallies.sum_same s.admitted (λ i. set nat_eq c (suc g.lines.admitted) 1 (suc b.before + i)) (λ i. c (suc b.before + i)) (λ i l. set_there nat_eq c (suc g.lines.admitted) 1 (suc b.before + i) (differ (suc g.lines.admitted) (suc b.before + i) (λ y. omega (arith, y, l, x.admitted)))))
              (subst (λ u. set nat_eq c (suc g.lines.admitted) 1 u ≡ 1) (let z : suc g.lines.admitted ≡ suc b.before + s.admitted = omega (arith, x.admitted) in z) (set_at c (suc g.lines.admitted) 1))) ∙ plus _ _;
        })
      where
        plus : (a d : ℕ) → (a + 1) + d ≡ suc (a + d)
        plus a d = omega arith

    commit_next : (t : ℕ) → commit kind.system s host t ≡ Some s' → Then (Commit t)
    commit_next t e =
        let r = then_some (λ r. only_if ((host == 0) && (t == suc (s.before + s.head.done))) (after_commit kind.system s r)) (s.cells t).result s' e in
        let o = only_some ((host == 0) && (t == suc (s.before + s.head.done))) (after_commit kind.system s r.0) s' r.2 in
        let n : t ≡ suc (b.before + s.head.done) = number_is t (suc (s.before + s.head.done)) (and_second (host == 0) _ o.0) ∙ ap (λ i. suc (i + s.head.done)) x.before in
        subst (λ u. Next s u g (total s c) (Commit t)) o.1 (record {
          turn = Admitting.commit_turn kind.system w law course b.before Is_real courses s g t;
          good = record {
            ghost = g;
            shows = Admitting.commit_shows kind.system w law course b.before Is_real courses s g r.0 x;
            alive = record { one = al.one; out = al.out; away = al.away; few = al.few; kids = al.kids; housed = al.housed; no_zero = al.no_zero };
            heads = GoodStates.commit_heads kind owes b batches begins jobs s g x h r.0 (ap (λ i. (s.cells i).result) (sym n) ∙ r.1);
            tally = c;
            tallied = tc;
          };
          counts = ap (λ n. Tallies.sum_to s.admitted (λ i. c (suc b.before + i)) + n) (Folds.with_done_done s.head (kind.system.created r.0)) ∙ plus _ _;
        })
      where
        plus : (a d : ℕ) → a + suc d ≡ suc (a + d)
        plus a d = omega arith

    pub step_next : (a : Act) → step_by kind.system s v host a ≡ Some s' → Then a
    step_next (Admit t) e = admit_next t (GoodStates.idle_of kind owes b batches begins jobs (s.hands v) _ s' e).1
    step_next (Commit t) e = commit_next t (GoodStates.idle_of kind owes b batches begins jobs (s.hands v) _ s' e).1
    step_next (Queue t n p) e = (let y = map_some _ _ s' e in local (Queue t n p) y.0 (s.hands v) refl refl y.1 y.2)
    step_next (Grant t p) e = (let y = map_some _ _ s' e in local (Grant t p) y.0 (s.hands v) refl refl y.1 y.2)
    step_next (Labels.Visit t n p) e = (let y = map_some _ _ s' e in local (Labels.Visit t n p) y.0 (s.hands v) refl refl y.1 y.2)
    step_next (Start t p) e = (let y = map_some _ _ s' e in local (Start t p) y.0 (s.hands v) refl refl y.1 y.2)
    step_next (Stop t p) e = (let y = map_some _ _ s' e in local (Stop t p) y.0 (s.hands v) refl refl y.1 y.2)
    step_next (Free t n p) e = (let y = map_some _ _ s' e in local (Free t n p) y.0 (s.hands v) refl refl y.1 y.2)
    step_next (Pass t n p to) e = (let y = map_some _ _ s' e in local (Pass t n p to) y.0 (s.hands v) refl refl y.1 y.2)
    step_next (Land t n p) e = (let y = map_some _ _ s' e in local (Land t n p) y.0 (s.hands v) refl refl y.1 y.2)

  -- every state that a list of labels leads to
  pub run_good : (workers : ℕ) (s s' : State A F R J) (ls : List Label) (k : Good_state s) → run kind.system workers s ls ≡ Some s' → Goes s' (taken_count ls + total s k.tally)
  unfolding run step
  run_good workers s s' [] k e = subst (λ u. Goes u (0 + total s k.tally)) (some_same s s' e) (record { good = k; counts = (let z : (n : ℕ) → n ≡ 0 + n = λ n. omega arith in z (total s k.tally)) })
  run_good workers s s' (l ∷ ls) k e =
      let v = then_some (λ v. run kind.system workers v ls) (step kind.system workers s l) s' e in
      let i = if_some (nat_lt l.worker workers) (step_by kind.system s l.worker l.host l.act) v.0 v.1 in
      let n = step_next s v.0 k.ghost k.shows k.heads k.alive k.tally k.tallied l.worker l.host l.act i.1 in
      let r = run_good workers v.0 s' ls n.good v.2 in
      record { good = r.good; counts = r.counts ∙ ap (λ m. taken_count ls + m) n.counts ∙ one_or (is_pass l.act) (taken_count ls) (total s k.tally) }
    where
      one_or : (i : Bool) (a d : ℕ) → a + (if i then d else suc d) ≡ (if i then a else suc a) + d
      one_or true a d = refl
      one_or false a d = omega arith

  first_heads : Heads (start_state b batches)
  first_heads = record { head_is = ap (λ n. (at n).head) (sym (Folds.zero_done kind.system b batches)); few = subst (λ n. n ≤ 0) (sym (Folds.zero_done kind.system b batches)) (omega arith); over = λ i l. absurd (not_below i (subst (λ n. i < n) (Folds.zero_done kind.system b batches) l)) }
    where
      not_below : (i : ℕ) → i < 0 → ⊥
      not_below i l = omega arith

  first_alive : 0 < kind.hosts → Alive.Alive kind.system w course b.before Is_real (start_state b batches) (Beginning.ghost₀ kind owes b batches begins jobs)
  first_alive some_host = record { one = λ t l m. absurd (apart b.before t l m); out = λ t e. absurd (clash true refl (sym e)); away = λ p u e. absurd (stored_at p u (there b.tree p) refl e); few = λ p. subst (λ i. Beginning.at_root kind owes b batches begins jobs p ≤ i) (sym (Beginning.rank_start kind owes b batches begins jobs p)) (upto (Beginning.at_root kind owes b batches begins jobs p)); kids = λ q st c e. inl (Beginning.kid_there kind owes b batches begins jobs q st c e); housed = λ p. Beginning.housed₀ kind owes b batches begins jobs some_host p; no_zero = λ t. refl }
    where
      stored_at : (p : Path) → there b.tree p ≡ true → (i : Bool) → there b.tree p ≡ i → ((if i then Beginning.moved_trail kind owes b batches begins jobs (has_moved b p) p else Tracks.unborn 0)).stored ≡ false → ⊥
      stored_at p u false d e = clash _ u d
      stored_at p u true d e = by (has_moved b p) e
        where
          by : (j : Bool) → (Beginning.moved_trail kind owes b batches begins jobs j p).stored ≡ false → ⊥
          by true e = clash true refl e
          by false e = clash true refl e

      upto : (n : ℕ) → n ≤ n
      upto n = omega arith

      apart : (a t : ℕ) → a < t → t ≤ a → ⊥
      apart a t l m = omega arith

  pub first_good : 0 < kind.hosts → Goes (start_state b batches) 0
  first_good some_host = record { good = record { ghost = Beginning.ghost₀ kind owes b batches begins jobs; shows = Beginning.start_shows kind owes b batches begins jobs; heads = first_heads; alive = first_alive some_host; tally = λ t. 0; tallied = record { counted = λ t l m. absurd (apart b.before t l m); stale = λ t l m e. absurd (apart b.before t l m) } }; counts = ap₂ (λ a d. a + d) (Tallies.sum_zero (λ i. 0)) (Folds.zero_done kind.system b batches) }
    where
      apart : (a t : ℕ) → a < t → t ≤ a → ⊥
      apart a t l m = omega arith

  pub first_ghost : (some_host : 0 < kind.hosts) → (first_good some_host).good.ghost ≡ Beginning.ghost₀ kind owes b batches begins jobs
  unfolding first_good
  first_ghost some_host = refl

  pub reached_by : 0 < kind.hosts → (workers : ℕ) (s : State A F R J) (ls : List Label) → run kind.system workers (start_state b batches) ls ≡ Some s → Goes s (taken_count ls)
  reached_by some_host workers s ls e = (let f = first_good some_host in let r = run_good workers (start_state b batches) s ls f.good e in
      record { good = r.good; counts = r.counts ∙ ap (λ n. taken_count ls + n) f.counts ∙ none_more (taken_count ls) })
    where
      none_more : (a : ℕ) → a + 0 ≡ a
      none_more a = omega arith

  pub reached : 0 < kind.hosts → (workers : ℕ) (s : State A F R J) (ls : List Label) → run kind.system workers (start_state b batches) ls ≡ Some s → Good_state s
  reached some_host workers s ls e = (reached_by some_host workers s ls e).good
