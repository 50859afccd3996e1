-- What is asked for of one ticket, by kind.
use Rattle.std.proofs.Common.{◌≡◌, ◌∙◌, ℕ, zero, suc, ◌+◌, ◌<◌, ◌≤◌, ◌&&◌, ◌==◌, Bool, true, false, cond, List, [], ◌∷◌, ◌++◌, length, map, is_none, Option, Some, None, Result, Ok, Err, refl, sym, ap, subst, arith, append_assoc, append-nil}
use Rattle.std.specs.Prelude.{IfOk, filter, flat_map, nat_lt, if◌then◌else◌, slice_get}
use Rattle.std.proofs.lemmas.List.Concat.{flat_map-append}
use Rattle.std.proofs.lemmas.List.Elements.{filter-append}
use Rattle.std.proofs.lemmas.Bool.Decides.{nat_tests}
use Rattle.wave_base.specs.Fold.{tickets_from}
use Rattle.host_map.specs.Stores.{Stores}
use Rattle.migration_core.specs.declared.mail.Letter.{Letter}
use Rattle.migration_core.specs.declared.mail.Letter.TheVariants as letter
use Rattle.event_cells.specs.declared.cell.Cell.{Cell}
use Rattle.event_cells.specs.declared.outbox.Envelope.{Envelope}
use Rattle.event_cells.specs.declared.status.Status as S
use Rattle.event_cells.specs.declared.status.Status.TheVariants as status
use Rattle.event_cells.specs.Cells.{is_over}
use Rattle.event_cells.specs.Keeps.{Sending, is_empty, mail_in}
use Rattle.wave_states.specs.Canonical.{below, idle_in}
use Rattle.wave_states.specs.Labels.{Act, Choice, Label, Admit, Queue, Grant, Start as Begin, Stop, Free, Pass, Land, Commit, is_stop}
use Rattle.wave_states.specs.Labels
use Rattle.wave_states.specs.States.{Hand}
use Rattle.wave_states.specs.Steps.{Route, Deliver, Born, Wait, Forward}
use Rattle.wave_theory.proofs.Basics.{none_not, some_same}
use Rattle.wave_theory.specs.Listed.{kind_rank}
use Rattle.code_actor.specs.CodeActors.{Fields}
use Rattle.plan_actors.specs.PlanActors as actors
use Rattle.plan_actors.specs.PlanActors.{plan_actors}
use Rattle.wave_effects.specs.declared.actor.Actor.{Actor}
use Rattle.wave_effects.specs.declared.kept.Out.{Out}
use Rattle.wave_machine.specs.inner.Asking.{by_taker, cell_labels, enter_act, grant_labels, is_next, label_at, mail_act as act_of_mail, mail_labels, mails_labels, of_kind, route_at, runs_out, start_labels, status_labels, stop_if, stop_labels, stops_labels}
use Rattle.wave_effects.specs.Keeping.{place_in}
use Rattle.wave_machine.proofs.ListingLists.{filter_flat, flat_none, flat_same}

-- ---- what is of which kind

abbrev pub is_kind : ℕ → Label → Bool
is_kind n l = kind_rank l.act == n

pub unless : (l : Label) (b : Bool) → b ≡ false → cond b (l ∷ []) [] ≡ []
unless l b e = ap (λ c. cond c (l ∷ []) []) e

module _ (stores : List Stores) (n : ℕ) where
  -- a mail asks for none of these
  pub mail_not : (1 == n) ≡ false → (3 == n) ≡ false → (6 == n) ≡ false → (7 == n) ≡ false → (8 == n) ≡ false → (w t k : ℕ) (o : Option Envelope) → of_kind n (mail_labels stores w t k o) ≡ []
  mail_not q v f p l w t k None = refl
  mail_not q v f p l w t k (Some e) = by_letter e.letter
    where
      by_route : (r : Route) → of_kind n (label_at w e.to.0 (enter_act t k e.path r)) ≡ []
      by_route Deliver = unless (record { worker = w; host = e.to.0; act = Queue t k e.path }) (1 == n) q
      by_route Born = unless (record { worker = w; host = e.to.0; act = Queue t k e.path }) (1 == n) q
      by_route Wait = refl
      by_route (Forward g) = unless (record { worker = w; host = e.to.0; act = Pass t k e.path g }) (7 == n) p

      by_letter : (x : Letter) → of_kind n (label_at w e.to.0 (act_of_mail stores t k e.to.0 e.path x)) ≡ []
      by_letter (letter.Enter number followed peek) = by_route (route_at (slice_get stores e.to.0) e.path followed)
      by_letter letter.Visit = unless (record { worker = w; host = e.to.0; act = Labels.Visit t k e.path }) (3 == n) v
      by_letter letter.Back = unless (record { worker = w; host = e.to.0; act = Labels.Visit t k e.path }) (3 == n) v
      by_letter letter.Release = unless (record { worker = w; host = e.to.0; act = Free t k e.path }) (6 == n) f
      by_letter (letter.Transfer en) = unless (record { worker = w; host = e.to.0; act = Land t k e.path }) (8 == n) l

  pub mails_not : (1 == n) ≡ false → (3 == n) ≡ false → (6 == n) ≡ false → (7 == n) ≡ false → (8 == n) ≡ false → (w t : ℕ) (o : Sending) → of_kind n (mails_labels stores w t o) ≡ []
  mails_not q v f p l w t o =
      filter_flat (is_kind n) (λ k. mail_labels stores w t k (mail_in o.mails k)) (tickets_from 1 o.sent)
      ∙ flat_none (λ k. of_kind n (mail_labels stores w t k (mail_in o.mails k))) (λ k. mail_not q v f p l w t k (mail_in o.mails k)) (tickets_from 1 o.sent)

  -- nor does a status
  pub status_not : (2 == n) ≡ false → (4 == n) ≡ false → (w t : ℕ) (st : S.Status) → of_kind n (status_labels stores w t st) ≡ []
  status_not g b w t status.Travelling = refl
  status_not g b w t (status.Waiting p) = by_place (place_in stores p)
    where
      by_next : (h : ℕ) (d : Bool) → of_kind n (if d then record { worker = w; host = h; act = Grant t p } ∷ [] else []) ≡ []
      by_next h true = unless (record { worker = w; host = h; act = Grant t p }) (2 == n) g
      by_next h false = refl

      by_place : (o : Option ℕ) → of_kind n (grant_labels stores w t p o) ≡ []
      by_place None = refl
      by_place (Some h) = by_next h (is_next t p (slice_get stores h))
  status_not g b w t (status.Ready p) = by_place (place_in stores p)
    where
      by_place : (o : Option ℕ) → of_kind n (start_labels stores w t p o) ≡ []
      by_place None = refl
      by_place (Some h) = unless (record { worker = w; host = h; act = Begin t p }) (4 == n) b
  status_not g b w t (status.Running p) = refl
  status_not g b w t status.Ended = refl

  module _ (hands : List (Option Out)) where
    pub stops_not : (5 == n) ≡ false → (ws : List ℕ) (t : ℕ) (st : S.Status) → of_kind n (stops_labels stores hands ws t st) ≡ []
    stops_not x ws t status.Travelling = refl
    stops_not x ws t (status.Waiting p) = refl
    stops_not x ws t (status.Ready p) = refl
    stops_not x ws t status.Ended = refl
    stops_not x ws t (status.Running p) = by_place (place_in stores p)
      where
        by_out : (h w : ℕ) (d : Bool) → of_kind n (stop_if d w h t p) ≡ []
        by_out h w true = unless (record { worker = w; host = h; act = Stop t p }) (5 == n) x
        by_out h w false = refl

        by_place : (o : Option ℕ) → of_kind n (stop_labels stores hands ws t p o) ≡ []
        by_place None = refl
        by_place (Some h) =
            filter_flat (is_kind n) (λ w. stop_if (runs_out (slice_get hands w) t p) w h t p) ws
            ∙ flat_none (λ w. of_kind n (stop_if (runs_out (slice_get hands w) t p) w h t p)) (λ w. by_out h w (runs_out (slice_get hands w) t p)) ws

pub stops_all : (stores : List Stores) (hands : List (Option Out)) (ws : List ℕ) (t : ℕ) (st : S.Status) → of_kind 5 (stops_labels stores hands ws t st) ≡ stops_labels stores hands ws t st
stops_all stores hands ws t status.Travelling = refl
stops_all stores hands ws t (status.Waiting p) = refl
stops_all stores hands ws t (status.Ready p) = refl
stops_all stores hands ws t status.Ended = refl
stops_all stores hands ws t (status.Running p) = by_place (place_in stores p)
  where
    by_out : (h w : ℕ) (d : Bool) → of_kind 5 (stop_if d w h t p) ≡ stop_if d w h t p
    by_out h w true = refl
    by_out h w false = refl

    by_place : (o : Option ℕ) → of_kind 5 (stop_labels stores hands ws t p o) ≡ stop_labels stores hands ws t p o
    by_place None = refl
    by_place (Some h) =
        filter_flat (is_kind 5) (λ w. stop_if (runs_out (slice_get hands w) t p) w h t p) ws
        ∙ flat_same (λ w. of_kind 5 (stop_if (runs_out (slice_get hands w) t p) w h t p)) (λ w. stop_if (runs_out (slice_get hands w) t p) w h t p) (λ w. by_out h w (runs_out (slice_get hands w) t p)) ws

-- ---- a cell, part by part

module _ (stores : List Stores) (hands : List (Option Out)) (idle : Option ℕ) (ws : List ℕ) (t : ℕ) (c : Cell Actor) where
  abbrev pub open_labels : List Label
  open_labels = stops_labels stores hands ws t c.status ++ by_taker idle (λ w. status_labels stores w t c.status ++ mails_labels stores w t c.outbox)

  -- one that is done asks for nothing
  pub done_none : is_over c.status ≡ true → is_empty c.outbox.mails ≡ true → open_labels ≡ []
  done_none over empty = by_idle idle
    where
      no_mail : (ms : List (ℕ × Envelope)) → is_empty ms ≡ true → (k : ℕ) → mail_in ms k ≡ None
      no_mail [] e k = refl
      no_mail (x ∷ ms) e k = cc

      no_mails : (w : ℕ) → mails_labels stores w t c.outbox ≡ []
      no_mails w = flat_none (λ k. mail_labels stores w t k (mail_in c.outbox.mails k)) (λ k. ap (mail_labels stores w t k) (no_mail c.outbox.mails empty k)) (tickets_from 1 c.outbox.sent)

      no_stops : (st : S.Status) → is_over st ≡ true → stops_labels stores hands ws t st ≡ []
      no_stops status.Ended e = refl
      no_stops status.Travelling e = cc
      no_stops (status.Waiting p) e = cc
      no_stops (status.Ready p) e = cc
      no_stops (status.Running p) e = cc

      no_status : (w : ℕ) (st : S.Status) → is_over st ≡ true → status_labels stores w t st ≡ []
      no_status w status.Ended e = refl
      no_status w status.Travelling e = cc
      no_status w (status.Waiting p) e = cc
      no_status w (status.Ready p) e = cc
      no_status w (status.Running p) e = cc

      by_idle : (o : Option ℕ) → stops_labels stores hands ws t c.status ++ by_taker o (λ w. status_labels stores w t c.status ++ mails_labels stores w t c.outbox) ≡ []
      by_idle None = ap (λ r. r ++ []) (no_stops c.status over)
      by_idle (Some w) = λ i. no_stops c.status over i ++ (no_status w c.status over i ++ no_mails w i)

  pub cell_is : cell_labels stores hands idle ws t c ≡ open_labels
  cell_is = by_test (is_over c.status) (is_empty c.outbox.mails) refl refl
    where
      by_test : (a b : Bool) → is_over c.status ≡ a → is_empty c.outbox.mails ≡ b → (if a && b then [] else open_labels) ≡ open_labels
      by_test true true e f = sym (done_none e f)
      by_test true false e f = refl
      by_test false b e f = refl

  pub pieces : (n : ℕ) → of_kind n (cell_labels stores hands idle ws t c) ≡ of_kind n (stops_labels stores hands ws t c.status) ++ by_taker idle (λ w. of_kind n (status_labels stores w t c.status) ++ of_kind n (mails_labels stores w t c.outbox))
  pieces n =
      ap (of_kind n) cell_is
      ∙ filter-append (is_kind n) (stops_labels stores hands ws t c.status) (by_taker idle (λ w. status_labels stores w t c.status ++ mails_labels stores w t c.outbox))
      ∙ ap (λ r. of_kind n (stops_labels stores hands ws t c.status) ++ r) (by_idle idle)
    where
      by_idle : (o : Option ℕ) → of_kind n (by_taker o (λ w. status_labels stores w t c.status ++ mails_labels stores w t c.outbox)) ≡ by_taker o (λ w. of_kind n (status_labels stores w t c.status) ++ of_kind n (mails_labels stores w t c.outbox))
      by_idle None = refl
      by_idle (Some w) = filter-append (is_kind n) (status_labels stores w t c.status) (mails_labels stores w t c.outbox)

  pub only_mails : (n : ℕ) → (5 == n) ≡ false → (2 == n) ≡ false → (4 == n) ≡ false → of_kind n (cell_labels stores hands idle ws t c) ≡ by_taker idle (λ w. of_kind n (mails_labels stores w t c.outbox))
  only_mails n x g b = pieces n ∙ ap (λ r. r ++ by_taker idle (λ w. of_kind n (status_labels stores w t c.status) ++ of_kind n (mails_labels stores w t c.outbox))) (stops_not stores n hands x ws t c.status) ∙ by_idle idle
    where
      by_idle : (o : Option ℕ) → by_taker o (λ w. of_kind n (status_labels stores w t c.status) ++ of_kind n (mails_labels stores w t c.outbox)) ≡ by_taker o (λ w. of_kind n (mails_labels stores w t c.outbox))
      by_idle None = refl
      by_idle (Some w) = ap (λ r. r ++ of_kind n (mails_labels stores w t c.outbox)) (status_not stores n g b w t c.status)

  pub only_status : (n : ℕ) → (5 == n) ≡ false → (1 == n) ≡ false → (3 == n) ≡ false → (6 == n) ≡ false → (7 == n) ≡ false → (8 == n) ≡ false → of_kind n (cell_labels stores hands idle ws t c) ≡ by_taker idle (λ w. of_kind n (status_labels stores w t c.status))
  only_status n x q v f p l = pieces n ∙ ap (λ r. r ++ by_taker idle (λ w. of_kind n (status_labels stores w t c.status) ++ of_kind n (mails_labels stores w t c.outbox))) (stops_not stores n hands x ws t c.status) ∙ by_idle idle
    where
      by_idle : (o : Option ℕ) → by_taker o (λ w. of_kind n (status_labels stores w t c.status) ++ of_kind n (mails_labels stores w t c.outbox)) ≡ by_taker o (λ w. of_kind n (status_labels stores w t c.status))
      by_idle None = refl
      by_idle (Some w) = ap (λ r. of_kind n (status_labels stores w t c.status) ++ r) (mails_not stores n q v f p l w t c.outbox) ∙ append-nil (of_kind n (status_labels stores w t c.status))

  pub only_stops : of_kind 5 (cell_labels stores hands idle ws t c) ≡ stops_labels stores hands ws t c.status
  only_stops =
      pieces 5
      ∙ ap (λ r. r ++ by_taker idle (λ w. of_kind 5 (status_labels stores w t c.status) ++ of_kind 5 (mails_labels stores w t c.outbox))) (stops_all stores hands ws t c.status)
      ∙ ap (λ r. stops_labels stores hands ws t c.status ++ r) (by_idle idle)
      ∙ append-nil (stops_labels stores hands ws t c.status)
    where
      by_idle : (o : Option ℕ) → by_taker o (λ w. of_kind 5 (status_labels stores w t c.status) ++ of_kind 5 (mails_labels stores w t c.outbox)) ≡ []
      by_idle None = refl
      by_idle (Some w) = λ i. status_not stores 5 refl refl w t c.status i ++ mails_not stores 5 refl refl refl refl refl w t c.outbox i

  pub no_head : (n : ℕ) → (5 == n) ≡ false → (1 == n) ≡ false → (3 == n) ≡ false → (6 == n) ≡ false → (7 == n) ≡ false → (8 == n) ≡ false → (2 == n) ≡ false → (4 == n) ≡ false → of_kind n (cell_labels stores hands idle ws t c) ≡ []
  no_head n x q v f p l g b = only_status n x q v f p l ∙ by_idle idle
    where
      by_idle : (o : Option ℕ) → by_taker o (λ w. of_kind n (status_labels stores w t c.status)) ≡ []
      by_idle None = refl
      by_idle (Some w) = status_not stores n g b w t c.status

pub flat_flat : {X Y Z : Type 0} (g : Y → List Z) (f : X → List Y) (xs : List X) → flat_map g (flat_map f xs) ≡ flat_map (λ x. flat_map g (f x)) xs
flat_flat g f [] = refl
flat_flat g f (x ∷ xs) = flat_map-append g (f x) (flat_map f xs) ∙ ap (λ r. flat_map g (f x) ++ r) (flat_flat g f xs)

pub slice_after : {X : Type 0} (xs ys : List X) → slice_get (xs ++ ys) (length xs) ≡ slice_get ys 0
slice_after [] ys = refl
slice_after (x ∷ xs) ys = slice_after xs ys

-- ten lists one after the other
pub ten : {X : Type 0} (a q g v b s f p l c : List X) → a ++ (q ++ (g ++ (v ++ (b ++ (s ++ (f ++ (p ++ (l ++ (c ++ []))))))))) ≡ (((((a ++ q) ++ g) ++ v) ++ b) ++ s) ++ (((f ++ p) ++ l) ++ c)
ten a q g v b s f p l c = simp (append_assoc, append-nil)

pub slice_within : {X : Type 0} (xs : List X) (i : ℕ) (x : X) → slice_get xs i ≡ Some x → i < length xs
slice_within [] i x e = absurd (none_not e)
slice_within (y ∷ ys) zero x e = omega arith
slice_within (y ∷ ys) (suc i) x e = let l = slice_within ys i x e in omega (arith, l)

-- the lowest idle worker is one, and idle
pub idle_one : (hands : ℕ → Option (Hand actors.Actor Fields)) (n a w : ℕ) → idle_in hands (tickets_from a n) ≡ Some w → (w < a + n) × (hands w ≡ None)
idle_one hands zero a w e = absurd (none_not e)
idle_one hands (suc n) a w e = by_hand (hands a) refl e (idle_one hands n (suc a) w)
  where
    more : (w a n : ℕ) → w < suc a + n → w < a + suc n
    more w a n l = omega (arith, l)

    first : (w a n : ℕ) → a ≡ w → w < a + suc n
    first w a n e = omega (arith, e)

    by_hand : (o : Option (Hand actors.Actor Fields)) → hands a ≡ o → (if is_none o then Some a else idle_in hands (tickets_from (suc a) n)) ≡ Some w → (idle_in hands (tickets_from (suc a) n) ≡ Some w → (w < suc a + n) × (hands w ≡ None)) → (w < a + suc n) × (hands w ≡ None)
    by_hand None z k rest = (first w a n (some_same a w k), subst (λ u. hands u ≡ None) (some_same a w k) z)
    by_hand (Some h) z k rest = let r = rest k in (more w a n r.0, r.1)

pub idle_lowest : (hands : ℕ → Option (Hand actors.Actor Fields)) (n w : ℕ) → idle_in hands (below n) ≡ Some w → (w < n) × (hands w ≡ None)
idle_lowest hands n w e = let r = idle_one hands n 0 w e in let low = r.0 in (omega (arith, low), r.1)

-- those that pass, one by one
pub map_as : {X Y : Type 0} (f : Y → X) (p q : Y → Bool) → ((y : Y) → p y ≡ q y) → (ys : List Y) → map f (filter p ys) ≡ flat_map (λ y. if q y then f y ∷ [] else []) ys
map_as f p q h [] = refl
map_as f p q h (y ∷ ys) = ap (λ b. map f (cond b (y ∷ filter p ys) (filter p ys))) (h y) ∙ by_test (q y) (map_as f p q h ys)
  where
    by_test : (b : Bool) → map f (filter p ys) ≡ flat_map (λ z. if q z then f z ∷ [] else []) ys → map f (cond b (y ∷ filter p ys) (filter p ys)) ≡ (if b then f y ∷ [] else []) ++ flat_map (λ z. if q z then f z ∷ [] else []) ys
    by_test true e = ap (λ r. f y ∷ r) e
    by_test false e = e

pub none_of : {X Y : Type 0} (p : X → Bool) (g : Y → X) → ((y : Y) → p (g y) ≡ false) → (ys : List Y) → filter p (map g ys) ≡ []
none_of p g h [] = refl
none_of p g h (y ∷ ys) = ap (λ b. cond b (g y ∷ filter p (map g ys)) (filter p (map g ys))) (h y) ∙ none_of p g h ys

pub past_is : (a b : ℕ) → b ≤ a → nat_lt a b ≡ false
past_is a b l = grind (arith, nat_tests)

pub within_is : (a b : ℕ) → a < b → nat_lt a b ≡ true
within_is a b l = grind (arith, nat_tests)

-- what holds of the value of an Ok
pub if_ok : {X E : Type 0} {P Q : X → Type 0} (r : Result X E) → ((x : X) → P x → Q x) → IfOk r P → IfOk r Q
if_ok (Ok x) f p = f x p
if_ok (Err e) f p = tt
