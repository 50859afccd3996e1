-- When a label is enabled.
use Rattle.wave_states.specs.Steps.{step}
use Rattle.std.proofs.Common.{◌≡◌, ℕ, suc, ◌+◌, ◌==◌, ◌&&◌, nat_eq, nat_lt, Bool, true, false, Option, Some, None, is_some, [], refl, sym, ◌∙◌, ap, subst, arith}
use Rattle.std.specs.Prelude.{if◌then◌else◌, cond, slice_get}
use Rattle.std.specs.List.{list_any, AllByRecursion, filter}
use Rattle.std.specs.Map.{lookup}
use Rattle.wave_base.specs.declared.path.Path.{Path}
use Rattle.wave_base.specs.Paths.{path_eq}
use Rattle.std.specs.BTreeMap.{insert_entry}
use Rattle.std.specs.BTreeSet.{insert_key}
use Rattle.wave_states.specs.Actors.{Actors}
use Rattle.wave_states.specs.States.{State, Cell, Column, Claim, Entry, Event, Record, Letter, Mail, Mark, Ask, Ready}
use Rattle.wave_states.specs.Steps.{Bench, Part, Forward, start, free, land, pass, admit, commit, part_of, route}
use Rattle.wave_theory.proofs.Basics.{clash, number_self, path_self, and_both}
use Rattle.wave_states.specs.Labels.{Act, Label, Admit, Queue, Grant, Start, Stop, Free, Pass, Land, Commit, ticket_of, path_of}
use Rattle.wave_states.specs.Labels
use Rattle.wave_theory.specs.NeverStuck.{CanTake}
use Rattle.wave_states.specs.States.{ask_in, is_coming, is_release, entry_in}
use Rattle.wave_states.specs.Steps.{step_by, act_bench, only_if, next_ticket, mail_for, letter_at, visit, grant, queue, entry_for, passed_on, may_join, ready_at, Deliver, Born, Wait, route_by}
use Rattle.std.specs.Prelude.{option_map, option_and_then}

pub then_can : {X Y : Type 0} (f : X → Option Y) (o : Option X) (x : X) → o ≡ Some x → is_some (f x) ≡ true → is_some (option_and_then f o) ≡ true
then_can f o x e k = subst (λ i. is_some (option_and_then f i) ≡ true) (sym e) k

pub only_can : {X : Type 0} (i : Bool) (x : X) → i ≡ true → is_some (only_if i x) ≡ true
only_can i x e = subst (λ j. is_some (only_if j x) ≡ true) (sym e) refl

pub map_can : {X Y : Type 0} (f : X → Y) (o : Option X) → is_some o ≡ true → is_some (option_map f o) ≡ true
map_can f None e = e
map_can f (Some x) e = refl

pub if_can : {X : Type 0} (i : Bool) (o : Option X) → i ≡ true → is_some o ≡ true → is_some (if i then o else None) ≡ true
if_can true o e k = k
if_can false o e k = absurd (clash false e refl)

module _ {A F R : Type 0} where
  pub letter_there : (c : Cell A F R) (k : ℕ) (m : Mail F) → c.mails k ≡ Some m → letter_at c k m.host m.path ≡ Some m.letter
  letter_there c k m e = ap (mail_for m.host m.path) e ∙ ap (λ i. if i then Some m.letter else None) (and_both (m.host == m.host) (path_eq m.path m.path) (number_self m.host) (path_self m.path))

  pub visit_can : (x : Part A F R) (k : ℕ) (p : Path) (h : ℕ) (e : Event A) (m : Letter F) → x.cell.event ≡ Some e → letter_at x.cell k h p ≡ Some m → is_coming m ≡ true → is_some (visit k p h x) ≡ true
  visit_can x k p h e m ee me c = then_can _ x.cell.event e ee (then_can _ (letter_at x.cell k h p) m me (only_can (is_coming m) _ c))

  pub grant_can : (x : Part A F R) (t : ℕ) (p : Path) (h : ℕ) (e : Event A) (en : Entry F) (c : Claim) → x.cell.event ≡ Some e → x.column.store h ≡ Some en → en.waiting (suc en.served) ≡ Some c → c.ticket ≡ t → en.holders ≡ [] → is_some (grant t p h x) ≡ true
  grant_can x t p h e en c ee se ce te he = then_can _ x.cell.event e ee (then_can _ (x.column.store h) en se (then_can _ (en.waiting (suc en.served)) c ce (only_can ((c.ticket == t) && may_join c.peek en.holders) _
      (and_both (c.ticket == t) (may_join c.peek en.holders) (subst (λ i. nat_eq c.ticket i ≡ true) te (number_self c.ticket)) (ap (may_join c.peek) he ∙ none_there c.peek)))))
    where
      none_there : (i : Bool) → may_join i [] ≡ true
      none_there true = refl
      none_there false = refl

  pub start_can : (x : Part A F R) (t : ℕ) (p : Path) (h : ℕ) (e : Event A) (en : Entry F) (a : A) (b : Record F) → x.cell.event ≡ Some e → x.column.store h ≡ Some en → e.actor ≡ Some a → en.body ≡ Some b → e.status ≡ Ready p → is_some (start t p h x) ≡ true
  start_can x t p h e en a b ee se ae be re = then_can _ x.cell.event e ee (then_can _ (x.column.store h) en se (then_can _ e.actor a ae (then_can _ en.body b be (only_can (ready_at e.status p) _ (ap (λ i. ready_at i p) re ∙ path_self p)))))

  pub free_can : (x : Part A F R) (t k : ℕ) (p : Path) (h : ℕ) (en : Entry F) (m : Letter F) → x.column.store h ≡ Some en → letter_at x.cell k h p ≡ Some m → is_release m ≡ true → is_some (free t k p h x) ≡ true
  free_can x t k p h en m se me c = then_can _ (x.column.store h) en se (then_can _ (letter_at x.cell k h p) m me (only_can (is_release m) _ c))

  pub land_can : (x : Part A F R) (k : ℕ) (p : Path) (h : ℕ) (m : Letter F) (en : Entry F) → letter_at x.cell k h p ≡ Some m → entry_in m ≡ Some en → is_some (land k p h x) ≡ true
  land_can x k p h m en me e = then_can _ (letter_at x.cell k h p) m me (then_can _ (entry_in m) en e refl)

  pub pass_can : (x : Part A F R) (k : ℕ) (p : Path) (g h : ℕ) (m : Letter F) (a : Ask) (mark : Mark) → letter_at x.cell k h p ≡ Some m → ask_in m ≡ Some a → x.column.gone h ≡ Some mark → route x.column h a.followed ≡ Forward g → is_some (pass k p g h x) ≡ true
  pass_can x k p g h m a mark me ae ge re = then_can _ (letter_at x.cell k h p) m me (then_can _ (ask_in m) a ae (subst (λ o. is_some (passed_on k g p x a o (route x.column h a.followed)) ≡ true) (sym ge) (subst (λ r. is_some (passed_on k g p x a (Some mark) r) ≡ true) (sym re) (only_can (g == g) _ (number_self g)))))

module _ {F : Type 0} where
  -- the mark that a Pass follows is there
  pub forward_mark : (c : Column F) (h f g : ℕ) → route c h f ≡ Forward g → is_some (c.gone h) ≡ true
  forward_mark c h f g e = by (is_some (c.store h)) (c.gone h) e
    where
      deliver_not : Deliver ≡ Forward g → ⊥
      deliver_not e = grind arith

      wait_not : Wait ≡ Forward g → ⊥
      wait_not e = grind arith

      born_not : Born ≡ Forward g → ⊥
      born_not e = grind arith

      none_by : (i : Bool) → (if i then Born else Wait) ≡ Forward g → ⊥
      none_by true e = born_not e
      none_by false e = wait_not e

      by : (i : Bool) (o : Option Mark) → (if i then Deliver else route_by o f) ≡ Forward g → is_some o ≡ true
      by true o e = absurd (deliver_not e)
      by false None e = absurd (none_by (nat_eq f 0) e)
      by false (Some m) e = refl

  pub not_deliver : (c : Column F) (h f : ℕ) → is_some (c.store h) ≡ false → route c h f ≡ Deliver → ⊥
  not_deliver c h f n e = by (c.gone h) (sym (ap (λ i. if i then Deliver else route_by (c.gone h) f) n) ∙ e)
    where
      wait_not : Wait ≡ Deliver → ⊥
      wait_not e = grind arith

      born_not : Born ≡ Deliver → ⊥
      born_not e = grind arith

      forward_not : (g : ℕ) → Forward g ≡ Deliver → ⊥
      forward_not g e = grind arith

      none_by : (i : Bool) → (if i then Born else Wait) ≡ Deliver → ⊥
      none_by true e = born_not e
      none_by false e = wait_not e

      some_by : (i : Bool) (g : ℕ) → (if i then Forward g else Wait) ≡ Deliver → ⊥
      some_by true g e = forward_not g e
      some_by false g e = wait_not e

      by : (o : Option Mark) → route_by o f ≡ Deliver → ⊥
      by None e = none_by (nat_eq f 0) e
      by (Some m) e = some_by (nat_lt f m.number) m.to e

module _ {A F R J : Type 0} (sys : Actors A F R J) where
  pub queue_can : (x : Part A F R) (t k : ℕ) (p : Path) (h : ℕ) (e : Event A) (m : Letter F) (a : Ask) (en : Entry F) → x.cell.event ≡ Some e → letter_at x.cell k h p ≡ Some m → ask_in m ≡ Some a → entry_for sys p h x.column (route x.column h a.followed) ≡ Some en → is_some (queue sys t k p h x) ≡ true
  queue_can x t k p h e m a en ee me ae re = then_can _ x.cell.event e ee (then_can _ (letter_at x.cell k h p) m me (then_can _ (ask_in m) a ae (then_can _ (entry_for sys p h x.column (route x.column h a.followed)) en re refl)))

  module _ (workers : ℕ) (s : State A F R J) (v : ℕ) (less : nat_lt v workers ≡ true) (idle : s.hands v ≡ None) where
    pub can_take : (t h : ℕ) (act : Act) → ticket_of act ≡ t → is_some (step_by sys s v h act) ≡ true → CanTake sys workers s v t
    unfolding step
    can_take t h act e k = record { host = h; act = act; of_ticket = e; enabled = if_can (nat_lt v workers) _ less k }

    on_bench : (act : Act) (h : ℕ) (f : Bench A F R → State A F R J) → is_some (act_bench sys act h (part_of s (ticket_of act) (path_of act)) None) ≡ true → is_some (option_map f (act_bench sys act h (part_of s (ticket_of act) (path_of act)) (s.hands v))) ≡ true
    on_bench act h f k = map_can f _ (subst (λ o. is_some (act_bench sys act h (part_of s (ticket_of act) (path_of act)) o) ≡ true) (sym idle) k)

    pub take_visit : (t k : ℕ) (p : Path) (h : ℕ) → is_some (visit k p h (part_of s t p)) ≡ true → CanTake sys workers s v t
    take_visit t k p h e = can_take t h (Labels.Visit t k p) refl (on_bench (Labels.Visit t k p) h _ (map_can _ _ e))

    pub take_grant : (t : ℕ) (p : Path) (h : ℕ) → is_some (grant t p h (part_of s t p)) ≡ true → CanTake sys workers s v t
    take_grant t p h e = can_take t h (Grant t p) refl (on_bench (Grant t p) h _ (map_can _ _ e))

    pub take_start : (t : ℕ) (p : Path) (h : ℕ) → is_some (start t p h (part_of s t p)) ≡ true → CanTake sys workers s v t
    take_start t p h e = can_take t h (Start t p) refl (on_bench (Start t p) h _ e)

    pub take_free : (t k : ℕ) (p : Path) (h : ℕ) → is_some (free t k p h (part_of s t p)) ≡ true → CanTake sys workers s v t
    take_free t k p h e = can_take t h (Free t k p) refl (on_bench (Free t k p) h _ (map_can _ _ e))

    pub take_land : (t k : ℕ) (p : Path) (h : ℕ) → is_some (land k p h (part_of s t p)) ≡ true → CanTake sys workers s v t
    take_land t k p h e = can_take t h (Land t k p) refl (on_bench (Land t k p) h _ (map_can _ _ e))

    pub take_pass : (t k : ℕ) (p : Path) (g h : ℕ) → is_some (pass k p g h (part_of s t p)) ≡ true → CanTake sys workers s v t
    take_pass t k p g h e = can_take t h (Pass t k p g) refl (on_bench (Pass t k p g) h _ (map_can _ _ e))

    pub take_queue : (t k : ℕ) (p : Path) (h : ℕ) → is_some (queue sys t k p h (part_of s t p)) ≡ true → CanTake sys workers s v t
    take_queue t k p h e = can_take t h (Queue t k p) refl (on_bench (Queue t k p) h _ (map_can _ _ e))

    pub take_commit : (t : ℕ) (r : R) → (s.cells t).result ≡ Some r → t ≡ suc (s.before + s.head.done) → CanTake sys workers s v t
    take_commit t r e n = can_take t 0 (Commit t) refl (subst (λ o. is_some (if Rattle.std.specs.Prelude.is_none o then commit sys s 0 t else None) ≡ true) (sym idle) (then_can _ (s.cells t).result r e (only_can ((0 == 0) && (t == suc (s.before + s.head.done))) _ (subst (λ i. nat_eq t i ≡ true) n (number_self t)))))

    pub take_admit : (t : ℕ) (j : J) → slice_get s.head.known s.admitted ≡ Some j → t ≡ next_ticket s → CanTake sys workers s v t
    take_admit t j e n = can_take t 0 (Admit t) refl (subst (λ o. is_some (if Rattle.std.specs.Prelude.is_none o then admit sys s 0 t else None) ≡ true) (sym idle) (then_can _ (slice_get s.head.known s.admitted) j e (only_can ((0 == 0) && (t == next_ticket s)) _ (subst (λ i. nat_eq t i ≡ true) n (number_self t)))))
