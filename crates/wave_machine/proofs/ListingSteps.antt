-- What an idle worker can take, told by mail, status and entry.
use Rattle.std.proofs.Common.{◌≡◌, ◌∙◌, ℕ, suc, ◌+◌, ◌&&◌, ◌==◌, Bool, true, false, not, cond, List, [], ◌∷◌, is_some, is_none, Option, Some, None, refl, sym, ap}
use Rattle.std.specs.Prelude.{nat_eq, nat_lt, if◌then◌else◌, option_and_then, option_map, slice_get}
use Rattle.wave_base.specs.declared.path.Path.{Path}
use Rattle.wave_base.specs.Paths.{path_eq}
use Rattle.context_queue.specs.Entries.{next_in}
use Rattle.wave_states.specs.Actors.{Actors}
use Rattle.wave_states.specs.Canonical.{mail_act, passes_of, takes, to_mark}
use Rattle.wave_states.specs.Labels.{Act, Choice, Label, Admit, Queue, Grant, Start, Stop, Free, Pass, Land, Commit, ticket_of, path_of, is_local}
use Rattle.wave_states.specs.Labels
use Rattle.wave_states.specs.States.{State, Ask, Claim, Column, Entry, Event, Letter, Enter, Visit, Back, Release, Transfer, Mail, Mark, ask_in, entry_in, is_coming, is_release}
use Rattle.wave_states.specs.States
use Rattle.wave_states.specs.Steps.{Part, Route, after_grant, after_queue, with_event, without_mail, with_entry, with_holders, others, column_joined, Deliver, Born, Wait, Forward, act_bench, admit, after_admit, commit, after_commit, entry_for, free, grant, land, letter_at, mail_for, may_join, next_ticket, only_if, part_of, pass, passed_on, queue, route, route_by, step, step_by, visit, with_bench}
use Rattle.wave_states.specs.Desks.{with_status}
use Rattle.wave_theory.proofs.Basics.{number_self, path_self}
use Rattle.wave_theory.proofs.Reading.{step_local}
use Rattle.wave_machine.specs.inner.Asking.{enter_act, is_claim, label_at, of_kind}

some_map : {X Y : Type 0} (f : X → Y) (o : Option X) → is_some (option_map f o) ≡ is_some o
some_map f None = refl
some_map f (Some x) = refl

then_is : {X Y : Type 0} (f : X → Option Y) (o : Option X) (x : X) → o ≡ Some x → is_some (option_and_then f o) ≡ is_some (f x)
then_is f o x e = ap (λ r. is_some (option_and_then f r)) e

then_made : {X Y : Type 0} (f : X → Y) (o : Option X) → is_some (option_and_then (λ x. Some (f x)) o) ≡ is_some o
then_made f None = refl
then_made f (Some x) = refl

then_never : {X Y : Type 0} (f : X → Option Y) (o : Option X) → ((x : X) → is_some (f x) ≡ false) → is_some (option_and_then f o) ≡ false
then_never f None h = refl
then_never f (Some x) h = h x

only_is : {X : Type 0} (b : Bool) (x : X) → is_some (only_if b x) ≡ b
only_is true x = refl
only_is false x = refl

both_true : (a b : Bool) → a ≡ true → b ≡ true → (a && b) ≡ true
both_true a b e f = λ i. e i && f i

pub letter_there : {F : Type 0} (o : Option (Mail F)) (m : Mail F) → o ≡ Some m → mail_for m.host m.path o ≡ Some m.letter
letter_there o m e = ap (mail_for m.host m.path) e ∙ ap (λ b. if b then Some m.letter else None) (both_true (m.host == m.host) (path_eq m.path m.path) (number_self m.host) (path_self m.path))

-- an Enter gets in line, or is passed on
abbrev pub is_in : Route → Bool
is_in Deliver = true
is_in Born = true
is_in Wait = false
is_in (Forward g) = false

-- what a mail can do, by its letter and its route
abbrev pub followed_in : {F : Type 0} → Letter F → ℕ
followed_in (Enter a) = a.followed
followed_in _ = 0

abbrev pub act_for : {F : Type 0} → ℕ → ℕ → Path → Letter F → Route → Option Act
act_for t k p (Enter a) r = enter_act t k p r
act_for t k p Visit r = Some (Labels.Visit t k p)
act_for t k p Back r = Some (Labels.Visit t k p)
act_for t k p Release r = Some (Free t k p)
act_for t k p (Transfer en) r = Some (Land t k p)

-- who is next, by the entry
abbrev pub is_next_at : {F : Type 0} → ℕ → Option (Entry F) → Bool
is_next_at t None = false
is_next_at t (Some en) = is_claim t (next_in en)

queue_of_enter : (w h t k : ℕ) (p : Path) (r : Route) → cond (is_in r) (record { worker = w; host = h; act = Queue t k p } ∷ []) [] ≡ of_kind 1 (label_at w h (enter_act t k p r))
queue_of_enter w h t k p Deliver = refl
queue_of_enter w h t k p Born = refl
queue_of_enter w h t k p Wait = refl
queue_of_enter w h t k p (Forward g) = refl

-- an Enter is neither a Visit nor a Free nor a Land
other_of_enter : (w h t k n : ℕ) (p : Path) (r : Route) → (1 == n) ≡ false → (7 == n) ≡ false → [] ≡ of_kind n (label_at w h (enter_act t k p r))
other_of_enter w h t k n p Deliver e f = ap (λ b. cond b (record { worker = w; host = h; act = Queue t k p } ∷ []) []) (sym e)
other_of_enter w h t k n p Born e f = ap (λ b. cond b (record { worker = w; host = h; act = Queue t k p } ∷ []) []) (sym e)
other_of_enter w h t k n p Wait e f = refl
other_of_enter w h t k n p (Forward g) e f = ap (λ b. cond b (record { worker = w; host = h; act = Pass t k p g } ∷ []) []) (sym f)

module _ {A F R J : Type 0} (sys : Actors A F R J) where
  entered_is : (p : Path) (host f : ℕ) (c : Column F) → is_some (entry_for sys p host c (route c host f)) ≡ is_in (route c host f)
  entered_is p host f c = by_here (is_some (c.store host)) refl
    where
      by_route : (o : Option Mark) (b : Bool) (d : Bool) → is_some (entry_for sys p host c (if b then Born else Wait)) ≡ is_in (if b then Born else Wait)
      by_route o true d = refl
      by_route o false d = refl

      by_forward : (g : ℕ) (b : Bool) → is_some (entry_for sys p host c (if b then Forward g else Wait)) ≡ is_in (if b then Forward g else Wait)
      by_forward g true = refl
      by_forward g false = refl

      by_mark : (o : Option Mark) → is_some (entry_for sys p host c (route_by o f)) ≡ is_in (route_by o f)
      by_mark None = by_route None (nat_eq f 0) true
      by_mark (Some m) = by_forward m.to (nat_lt f m.number)

      by_here : (b : Bool) → is_some (c.store host) ≡ b → is_some (entry_for sys p host c (if b then Deliver else route_by (c.gone host) f)) ≡ is_in (if b then Deliver else route_by (c.gone host) f)
      by_here true e = e
      by_here false e = by_mark (c.gone host)

  module _ (workers : ℕ) (s : State A F R J) where
    pub step_is : (w host : ℕ) (a : Act) → nat_lt w workers ≡ true → step sys workers s (record { worker = w; host = host; act = a }) ≡ step_by sys s w host a
    unfolding step
    step_is w host a within = ap (λ b. if b then step_by sys s w host a else None) within

    -- one label at most
    pub taken_one : (w h : ℕ) (a : Act) (b : Bool) → is_some (step sys workers s (record { worker = w; host = h; act = a })) ≡ b → takes sys workers s w (record { host = h; act = a } ∷ []) ≡ cond b (record { worker = w; host = h; act = a } ∷ []) []
    taken_one w h a b e = ap (λ b. cond b (record { worker = w; host = h; act = a } ∷ []) []) e

    module _ (w : ℕ) (within : nat_lt w workers ≡ true) (idle : s.hands w ≡ None) where
      abbrev pub can : Act → ℕ → Bool
      can a h = is_some (step sys workers s (record { worker = w; host = h; act = a }))

      local_can : (h : ℕ) (a : Act) → is_local a ≡ true → can a h ≡ is_some (act_bench sys a h (part_of s (ticket_of a) (path_of a)) None)
      local_can h a z =
          let bench = act_bench sys a h (part_of s (ticket_of a) (path_of a)) in
          ap is_some (step_local sys workers s (record { worker = w; host = h; act = a }) z)
          ∙ ap (λ b. is_some (if b then option_map (λ y. with_bench s (ticket_of a) (path_of a) w y) (bench (s.hands w)) else None)) within
          ∙ some_map (λ y. with_bench s (ticket_of a) (path_of a) w y) (bench (s.hands w))
          ∙ ap (λ o. is_some (bench o)) idle

      -- the next ticket
      pub admit_can : can (Admit (next_ticket s)) 0 ≡ is_some (slice_get s.head.known s.admitted)
      admit_can =
          ap is_some (step_is w 0 (Admit (next_ticket s)) within)
          ∙ ap (λ o. is_some (if is_none o then admit sys s 0 (next_ticket s) else None)) idle
          ∙ ap (λ b. is_some (option_and_then (λ j. only_if b (after_admit sys s (next_ticket s) j)) (slice_get s.head.known s.admitted))) (both_true (0 == 0) (next_ticket s == next_ticket s) refl (number_self (next_ticket s)))
          ∙ then_made (after_admit sys s (next_ticket s)) (slice_get s.head.known s.admitted)

      -- the next to be committed
      pub commit_can : can (Commit (suc (s.before + s.head.done))) 0 ≡ is_some (s.cells (suc (s.before + s.head.done))).result
      commit_can =
          let t = suc (s.before + s.head.done) in
          ap is_some (step_is w 0 (Commit t) within)
          ∙ ap (λ o. is_some (if is_none o then commit sys s 0 t else None)) idle
          ∙ ap (λ b. is_some (option_and_then (λ r. only_if b (after_commit sys s r)) (s.cells t).result)) (both_true (0 == 0) (t == t) refl (number_self t))
          ∙ then_made (after_commit sys s) (s.cells t).result

      module _ (t : ℕ) (event : Event A) (is : (s.cells t).event ≡ Some event) where
        -- who is next in the line, and gets in
        pub grant_can : (h : ℕ) (p : Path) → can (Grant t p) h ≡ is_next_at t ((s.columns p).store h)
        grant_can h p =
            local_can h (Grant t p) refl
            ∙ some_map (λ z. record { part = z; hand = None }) (grant t p h (part_of s t p))
            ∙ then_is (λ (e : Event A). option_and_then (λ en. option_and_then (λ c. only_if ((c.ticket == t) && may_join c.peek en.holders) (after_grant p h (part_of s t p) e en c)) (en.waiting (suc en.served))) ((s.columns p).store h)) (s.cells t).event event is
            ∙ by_entry ((s.columns p).store h)
          where
            joins : (c : Claim) (b : Bool) → ((c.ticket == t) && b) ≡ is_claim t (only_if b c)
            joins c true = and_true (c.ticket == t)
              where
                and_true : (a : Bool) → (a && true) ≡ a
                and_true true = refl
                and_true false = refl
            joins c false = and_false (c.ticket == t)
              where
                and_false : (a : Bool) → (a && false) ≡ false
                and_false true = refl
                and_false false = refl

            by_claim : {Y : Type 0} (en : Entry F) (y : Claim → Y) (o : Option Claim) → is_some (option_and_then (λ c. only_if ((c.ticket == t) && may_join c.peek en.holders) (y c)) o) ≡ is_claim t (option_and_then (λ c. only_if (may_join c.peek en.holders) c) o)
            by_claim en y None = refl
            by_claim en y (Some c) = only_is ((c.ticket == t) && may_join c.peek en.holders) (y c) ∙ joins c (may_join c.peek en.holders)

            by_entry : (o : Option (Entry F)) → is_some (option_and_then (λ en. option_and_then (λ c. only_if ((c.ticket == t) && may_join c.peek en.holders) (after_grant p h (part_of s t p) event en c)) (en.waiting (suc en.served))) o) ≡ is_next_at t o
            by_entry None = refl
            by_entry (Some en) = by_claim en (after_grant p h (part_of s t p) event en) (en.waiting (suc en.served))

        module _ (k : ℕ) (m : Mail F) (there : (s.cells t).mails k ≡ Some m) where
          abbrev p : Path
          p = m.path

          abbrev h : ℕ
          h = m.host

          abbrev x : Part A F R
          x = part_of s t m.path

          letter : (l : Letter F) → m.letter ≡ l → letter_at (s.cells t) k m.host m.path ≡ Some l
          letter l e = letter_there ((s.cells t).mails k) m there ∙ ap Some e

          calm_can : (a : Act) → is_local a ≡ true → (o : Option (Part A F R)) → act_bench sys a h (part_of s (ticket_of a) (path_of a)) None ≡ option_map (λ (z : Part A F R). record { part = z; hand = None }) o → can a h ≡ is_some o
          calm_can a z o e = local_can h a z ∙ ap is_some e ∙ some_map (λ (z : Part A F R). record { part = z; hand = None }) o

          queue_can : (l : Letter F) → m.letter ≡ l → can (Queue t k p) h ≡ is_some (option_and_then (λ a. option_and_then (λ en. Some (after_queue t k p h x event a en)) (entry_for sys p h x.column (route x.column h a.followed))) (ask_in l))
          queue_can l e =
              calm_can (Queue t k p) refl (queue sys t k p h x) refl
              ∙ then_is (λ (v : Event A). option_and_then (λ (m : Letter F). option_and_then (λ a. option_and_then (λ en. Some (after_queue t k p h x v a en)) (entry_for sys p h x.column (route x.column h a.followed))) (ask_in m)) (letter_at x.cell k h p)) (s.cells t).event event is
              ∙ then_is (λ (m : Letter F). option_and_then (λ a. option_and_then (λ en. Some (after_queue t k p h x event a en)) (entry_for sys p h x.column (route x.column h a.followed))) (ask_in m)) (letter_at x.cell k h p) l (letter l e)

          visit_can : (l : Letter F) → m.letter ≡ l → can (Labels.Visit t k p) h ≡ is_coming l
          visit_can l e =
              calm_can (Labels.Visit t k p) refl (visit k p h x) refl
              ∙ then_is (λ (v : Event A). option_and_then (λ (m : Letter F). only_if (is_coming m) (record { cell = with_event (without_mail x.cell k) (with_status v (States.Ready p)); column = x.column })) (letter_at x.cell k h p)) (s.cells t).event event is
              ∙ then_is (λ (m : Letter F). only_if (is_coming m) (record { cell = with_event (without_mail x.cell k) (with_status event (States.Ready p)); column = x.column })) (letter_at x.cell k h p) l (letter l e)
              ∙ only_is (is_coming l) (record { cell = with_event (without_mail x.cell k) (with_status event (States.Ready p)); column = x.column })

          free_can : (l : Letter F) (en : Entry F) → m.letter ≡ l → x.column.store h ≡ Some en → can (Free t k p) h ≡ is_release l
          free_can l en e here =
              calm_can (Free t k p) refl (free t k p h x) refl
              ∙ then_is (λ (v : Entry F). option_and_then (λ (m : Letter F). only_if (is_release m) (record { cell = without_mail x.cell k; column = with_entry x.column h (Some (with_holders v (others t v.holders))) })) (letter_at x.cell k h p)) (x.column.store h) en here
              ∙ then_is (λ (m : Letter F). only_if (is_release m) (record { cell = without_mail x.cell k; column = with_entry x.column h (Some (with_holders en (others t en.holders))) })) (letter_at x.cell k h p) l (letter l e)
              ∙ only_is (is_release l) (record { cell = without_mail x.cell k; column = with_entry x.column h (Some (with_holders en (others t en.holders))) })

          free_not : (l : Letter F) → m.letter ≡ l → is_release l ≡ false → can (Free t k p) h ≡ false
          free_not l e other =
              calm_can (Free t k p) refl (free t k p h x) refl
              ∙ then_never (λ (v : Entry F). option_and_then (λ (m : Letter F). only_if (is_release m) (record { cell = without_mail x.cell k; column = with_entry x.column h (Some (with_holders v (others t v.holders))) })) (letter_at x.cell k h p)) (x.column.store h)
              (λ v. then_is (λ (m : Letter F). only_if (is_release m) (record { cell = without_mail x.cell k; column = with_entry x.column h (Some (with_holders v (others t v.holders))) })) (letter_at x.cell k h p) l (letter l e)
              ∙ only_is (is_release l) (record { cell = without_mail x.cell k; column = with_entry x.column h (Some (with_holders v (others t v.holders))) }) ∙ other)

          pass_can : (g : ℕ) (l : Letter F) → m.letter ≡ l → can (Pass t k p g) h ≡ is_some (option_and_then (λ a. passed_on k g p x a (x.column.gone h) (route x.column h a.followed)) (ask_in l))
          pass_can g l e =
              calm_can (Pass t k p g) refl (pass k p g h x) refl
              ∙ then_is (λ (m : Letter F). option_and_then (λ a. passed_on k g p x a (x.column.gone h) (route x.column h a.followed)) (ask_in m)) (letter_at x.cell k h p) l (letter l e)

          land_can : (l : Letter F) → m.letter ≡ l → can (Land t k p) h ≡ is_some (entry_in l)
          land_can l e =
              calm_can (Land t k p) refl (land k p h x) refl
              ∙ then_is (λ (m : Letter F). option_and_then (λ en. Some (record { cell = without_mail x.cell k; column = column_joined x.column h (with_holders en []) })) (entry_in m)) (letter_at x.cell k h p) l (letter l e)
              ∙ then_made (λ en. record { cell = without_mail x.cell k; column = column_joined x.column h (with_holders en []) }) (entry_in l)

          -- the label of what the mail can do
          abbrev pub mail_label : Letter F → List Label
          mail_label l = label_at w h (act_for t k p l (route x.column h (followed_in l)))

          pub queues : (l : Letter F) → m.letter ≡ l → takes sys workers s w (mail_act (λ t k p. Queue t k p) t k m) ≡ of_kind 1 (mail_label l)
          queues (Enter a) e =
              taken_one w h (Queue t k p) (is_in (route x.column h a.followed)) (queue_can (Enter a) e ∙ then_made (λ en. after_queue t k p h x event a en) (entry_for sys p h x.column (route x.column h a.followed)) ∙ entered_is p h a.followed x.column)
              ∙ queue_of_enter w h t k p (route x.column h a.followed)
          queues Visit e = taken_one w h (Queue t k p) false (queue_can Visit e)
          queues Back e = taken_one w h (Queue t k p) false (queue_can Back e)
          queues Release e = taken_one w h (Queue t k p) false (queue_can Release e)
          queues (Transfer en) e = taken_one w h (Queue t k p) false (queue_can (Transfer en) e)

          pub visits : (l : Letter F) → m.letter ≡ l → takes sys workers s w (mail_act (λ t k p. Labels.Visit t k p) t k m) ≡ of_kind 3 (mail_label l)
          visits (Enter a) e = taken_one w h (Labels.Visit t k p) false (visit_can (Enter a) e) ∙ other_of_enter w h t k 3 p (route x.column h a.followed) refl refl
          visits Visit e = taken_one w h (Labels.Visit t k p) true (visit_can Visit e)
          visits Back e = taken_one w h (Labels.Visit t k p) true (visit_can Back e)
          visits Release e = taken_one w h (Labels.Visit t k p) false (visit_can Release e)
          visits (Transfer en) e = taken_one w h (Labels.Visit t k p) false (visit_can (Transfer en) e)

          pub frees : (m.letter ≡ Release → (en : Entry F) × (x.column.store h ≡ Some en)) → (l : Letter F) → m.letter ≡ l → takes sys workers s w (mail_act (λ t k p. Free t k p) t k m) ≡ of_kind 6 (mail_label l)
          frees here (Enter a) e = taken_one w h (Free t k p) false (free_not (Enter a) e refl) ∙ other_of_enter w h t k 6 p (route x.column h a.followed) refl refl
          frees here Visit e = taken_one w h (Free t k p) false (free_not Visit e refl)
          frees here Back e = taken_one w h (Free t k p) false (free_not Back e refl)
          frees here Release e = let en = here e in taken_one w h (Free t k p) true (free_can Release en.0 e en.1)
          frees here (Transfer en) e = taken_one w h (Free t k p) false (free_not (Transfer en) e refl)

          pub lands : (l : Letter F) → m.letter ≡ l → takes sys workers s w (mail_act (λ t k p. Land t k p) t k m) ≡ of_kind 8 (mail_label l)
          lands (Enter a) e = taken_one w h (Land t k p) false (land_can (Enter a) e) ∙ other_of_enter w h t k 8 p (route x.column h a.followed) refl refl
          lands Visit e = taken_one w h (Land t k p) false (land_can Visit e)
          lands Back e = taken_one w h (Land t k p) false (land_can Back e)
          lands Release e = taken_one w h (Land t k p) false (land_can Release e)
          lands (Transfer en) e = taken_one w h (Land t k p) true (land_can (Transfer en) e)

          -- an Enter follows a mark that is here, and that it has not followed
          by_gone : (a : Ask) → m.letter ≡ Enter a → (o : Option Mark) → x.column.gone h ≡ o
              → takes sys workers s w (to_mark o (λ g. Pass t k p g) h) ≡ of_kind 7 (label_at w h (enter_act t k p (if is_some (x.column.store h) then Deliver else route_by o a.followed)))
          by_gone a e None z = none_passes (is_some (x.column.store h)) (nat_eq a.followed 0)
            where
              none_passes : (b d : Bool) → [] ≡ of_kind 7 (label_at w h (enter_act t k p (if b then Deliver else (if d then Born else Wait))))
              none_passes true d = refl
              none_passes false true = refl
              none_passes false false = refl
          by_gone a e (Some mark) z =
              taken_one w h (Pass t k p mark.to) (not (is_some (x.column.store h)) && nat_lt a.followed mark.number)
              (pass_can mark.to (Enter a) e
              ∙ ap (λ o. is_some (passed_on k mark.to p x a o (if is_some (x.column.store h) then Deliver else route_by o a.followed))) z
              ∙ follows (is_some (x.column.store h)) (nat_lt a.followed mark.number))
              ∙ passes_it (is_some (x.column.store h)) (nat_lt a.followed mark.number)
            where
              follows : (here newer : Bool) → is_some (passed_on k mark.to p x a (Some mark) (if here then Deliver else (if newer then Forward mark.to else Wait))) ≡ (not here && newer)
              follows true newer = refl
              follows false true = only_is (mark.to == mark.to) (record {
                cell = record { event = x.cell.event; mails = States.set nat_eq x.cell.mails k (Some (record { host = mark.to; path = p; letter = Enter (record { number = a.number; followed = mark.number; peek = a.peek }) })); result = x.cell.result };
                column = x.column;
              }) ∙ number_self mark.to
              follows false false = refl

              passes_it : (here newer : Bool) → cond (not here && newer) (record { worker = w; host = h; act = Pass t k p mark.to } ∷ []) [] ≡ of_kind 7 (label_at w h (enter_act t k p (if here then Deliver else (if newer then Forward mark.to else Wait))))
              passes_it true newer = refl
              passes_it false true = refl
              passes_it false false = refl

          other_marks : (l : Letter F) → m.letter ≡ l → ask_in l ≡ None → (o : Option Mark) → takes sys workers s w (to_mark o (λ g. Pass t k p g) h) ≡ []
          other_marks l e asks None = refl
          other_marks l e asks (Some mark) = taken_one w h (Pass t k p mark.to) false (pass_can mark.to l e ∙ ap (λ o. is_some (option_and_then (λ a. passed_on k mark.to p x a (x.column.gone h) (route x.column h a.followed)) o)) asks)

          pub passes : (l : Letter F) → m.letter ≡ l → takes sys workers s w (passes_of s t k m) ≡ of_kind 7 (mail_label l)
          passes (Enter a) e = by_gone a e (x.column.gone h) refl
          passes Visit e = other_marks Visit e refl (x.column.gone h)
          passes Back e = other_marks Back e refl (x.column.gone h)
          passes Release e = other_marks Release e refl (x.column.gone h)
          passes (Transfer en) e = other_marks (Transfer en) e refl (x.column.gone h)
