-- Labels but Admit and Commit change one cell, one column and one hand, so they commute.
use Rattle.wave_states.specs.Steps.{step}
use Rattle.std.proofs.Common.{◌≡◌, ◌≢◌, ◌⊎◌, ◌&&◌, inl, inr, ℕ, ◌==◌, nat_eq, nat_lt, Bool, true, false, Option, Some, None, List, [], ◌∷◌, refl, sym, ◌∙◌, ap, ap₂, subst}
use Rattle.std.specs.Prelude.{if◌then◌else◌, option_map, option_and_then}
use Rattle.std.specs.List.{filter}
use Rattle.wave_base.specs.declared.path.Path.{Path}
use Rattle.wave_base.specs.Paths.{path_eq}
use Rattle.wave_states.specs.Actors.{Actors, Pause, Go, Down, Back, Over}
use Rattle.wave_states.specs.States.{State, Column, Claim, Entry, Event, Hand, Record, Letter, set, holds_as_peek, is_release}
use Rattle.wave_states.specs.Labels.{Label, Act, Admit, Commit, Queue, Grant, Start, Stop, Free, Visit, Land, Pass, ticket_of, path_of, is_local, is_start}
use Rattle.wave_states.specs.Steps.{Part, Bench, step_by, act_bench, part_of, with_bench, with_hand, calm, stop, after_stop, after_look, free, only_if, with_entry, with_body, with_holders, others, left_by, after_start, ready_at, letter_at, without_mail, segment_of, desk_back, over_here}
use Rattle.wave_theory.specs.Independent.{Independent, Peeks, IsLight}
use Rattle.wave_theory.proofs.Basics.{bool_cases, clash, some_same, none_not, then_some, map_some, only_some, if_some, and_first, number_is, number_self, number_cases, not_same, path_is, path_self, path_cases, set_set, set_apart, set_noop, set_twice, set_twice_path, set_here, set_there, set_at_path}

-- what a label has in the hand
data Hands {A F R : Type 0} (t : ℕ) (starts : Bool) (g : Option (Hand A F)) (y : Bench A F R) : Type 0 where
  Calm : g ≡ None → y.hand ≡ None → Hands t starts g y
  Starts : starts ≡ true → Hands t starts g y
  Stops : (x : Hand A F) → g ≡ Some x → x.ticket ≡ t → Hands t starts g y

filter_swap : {X : Type 0} (f g : X → Bool) (xs : List X) → filter f (filter g xs) ≡ filter g (filter f xs)
filter_swap f g [] = refl
filter_swap f g (x ∷ xs) = elim (bool_cases (f x)) [
  | inl u ↦ elim (bool_cases (g x)) [
    | inl v ↦ rw (u, v) (rw u (ap (λ l. x ∷ l) (filter_swap f g xs)))
    | inr v ↦ rw (u, v) (filter_swap f g xs)
  ]
  | inr u ↦ elim (bool_cases (g x)) [
    | inl v ↦ rw (u, v) (rw u (filter_swap f g xs))
    | inr v ↦ rw (u, v) (filter_swap f g xs)
  ]
]

module _ {A F R J : Type 0} (sys : Actors A F R J) where
  calm_case : (o : Option (Part A F R)) (t : ℕ) (u : Bool) (y : Bench A F R) → with_hand None o ≡ Some y → Hands t u None y
  calm_case o t u y e = let r = map_some (λ x. record { part = x; hand = None }) o y e in Calm refl (ap (λ z. z.hand) r.2)

  hands : (a : Act) (h : ℕ) (x : Part A F R) (g : Option (Hand A F)) (y : Bench A F R) → act_bench sys a h x g ≡ Some y → Hands (ticket_of a) (is_start a) g y
  hands (Start t p) h x g y e = Starts refl
  hands (Stop t p) h x None y e = absurd (none_not e)
  hands (Stop t p) h x (Some g) y e = Stops g refl (number_is g.ticket t (and_first _ _ (if_some ((g.ticket == t) && path_eq g.path p) _ y e).0))
  hands (Admit t) h x None y e = calm_case (calm sys (Admit t) h x) t false y e
  hands (Commit t) h x None y e = calm_case (calm sys (Commit t) h x) t false y e
  hands (Queue t k p) h x None y e = calm_case (calm sys (Queue t k p) h x) t false y e
  hands (Grant t p) h x None y e = calm_case (calm sys (Grant t p) h x) t false y e
  hands (Visit t k p) h x None y e = calm_case (calm sys (Visit t k p) h x) t false y e
  hands (Free t k p) h x None y e = calm_case (calm sys (Free t k p) h x) t false y e
  hands (Pass t k p q) h x None y e = calm_case (calm sys (Pass t k p q) h x) t false y e
  hands (Land t k p) h x None y e = calm_case (calm sys (Land t k p) h x) t false y e
  hands (Admit t) h x (Some g) y e = absurd (none_not e)
  hands (Commit t) h x (Some g) y e = absurd (none_not e)
  hands (Queue t k p) h x (Some g) y e = absurd (none_not e)
  hands (Grant t p) h x (Some g) y e = absurd (none_not e)
  hands (Visit t k p) h x (Some g) y e = absurd (none_not e)
  hands (Free t k p) h x (Some g) y e = absurd (none_not e)
  hands (Pass t k p q) h x (Some g) y e = absurd (none_not e)
  hands (Land t k p) h x (Some g) y e = absurd (none_not e)

  pub local_step : (s : State A F R J) (w h : ℕ) (a : Act) → is_local a ≡ true → step_by sys s w h a ≡ option_map (λ x. with_bench s (ticket_of a) (path_of a) w x) (act_bench sys a h (part_of s (ticket_of a) (path_of a)) (s.hands w))
  local_step s w h (Admit t) u = absurd (clash false u refl)
  local_step s w h (Commit t) u = absurd (clash false u refl)
  local_step s w h (Queue t k p) u = refl
  local_step s w h (Grant t p) u = refl
  local_step s w h (Visit t k p) u = refl
  local_step s w h (Start t p) u = refl
  local_step s w h (Stop t p) u = refl
  local_step s w h (Free t k p) u = refl
  local_step s w h (Pass t k p g) u = refl
  local_step s w h (Land t k p) u = refl

  -- in one hand, both labels are calm
  one_hand : (g : Option (Hand A F)) (t t' : ℕ) (u u' : Bool) (y y' : Bench A F R) → t ≢ t' → u ≡ false → u' ≡ false → Hands t u g y → Hands t' u' g y' → (g ≡ None) × (y.hand ≡ None) × (y'.hand ≡ None)
  one_hand g t t' u u' y y' apart f f' (Starts e) b = absurd (clash u e f)
  one_hand g t t' u u' y y' apart f f' (Calm e k) (Starts e') = absurd (clash u' e' f')
  one_hand g t t' u u' y y' apart f f' (Stops x e k) (Starts e') = absurd (clash u' e' f')
  one_hand g t t' u u' y y' apart f f' (Calm e k) (Calm e' k') = (e, k, k')
  one_hand g t t' u u' y y' apart f f' (Calm e k) (Stops x e' k') = absurd (none_not (sym e ∙ e'))
  one_hand g t t' u u' y y' apart f f' (Stops x e k) (Calm e' k') = absurd (none_not (sym e' ∙ e))
  one_hand g t t' u u' y y' apart f f' (Stops x e k) (Stops x' e' k') = absurd (apart (sym k ∙ ap (λ z. z.ticket) (some_same x x' (sym e ∙ e')) ∙ k'))

  -- what the two labels leave of the contexts, taken in either order: each is still what it was after the other, and they end alike
  pub record Apart (s : State A F R J) (a a' : Act) (h h' : ℕ) (g g' : Option (Hand A F)) (y y' : Bench A F R) : Type 0 where
    pub first : Bench A F R
    pub second : Bench A F R
    pub second_is : act_bench sys a' h' (record { cell = s.cells (ticket_of a'); column = set path_eq s.columns (path_of a) y.part.column (path_of a') }) g' ≡ Some second
    pub first_is : act_bench sys a h (record { cell = s.cells (ticket_of a); column = set path_eq s.columns (path_of a') y'.part.column (path_of a) }) g ≡ Some first
    pub cell : first.part.cell ≡ y.part.cell
    pub cell' : second.part.cell ≡ y'.part.cell
    pub hand : first.hand ≡ y.hand
    pub hand' : second.hand ≡ y'.hand
    pub columns : set path_eq (set path_eq s.columns (path_of a') y'.part.column) (path_of a) first.part.column ≡ set path_eq (set path_eq s.columns (path_of a) y.part.column) (path_of a') second.part.column

  independent_by : (s s₁ s₂ : State A F R J) (l l' : Label) → is_local l.act ≡ true → is_local l'.act ≡ true →
      ticket_of l.act ≢ ticket_of l'.act → (y y' : Bench A F R) →
      Apart s l.act l'.act l.host l'.host (s.hands l.worker) (s.hands l'.worker) y y' →
      (l.worker ≢ l'.worker) ⊎ ((l.worker ≡ l'.worker) × (s.hands l.worker ≡ None) × (y.hand ≡ None) × (y'.hand ≡ None)) →
      s₁ ≡ with_bench s (ticket_of l.act) (path_of l.act) l.worker y →
      s₂ ≡ with_bench s (ticket_of l'.act) (path_of l'.act) l'.worker y' →
      (v : State A F R J) × (step_by sys s₁ l'.worker l'.host l'.act ≡ Some v) × (step_by sys s₂ l.worker l.host l.act ≡ Some v)
  independent_by s s₁ s₂ l l' lo lo' nt y y' ap' apart k k' = (
    with_bench (with_bench s t p w y) t' p' w' ap'.second,
    subst (λ z. step_by sys z w' l'.host l'.act ≡ Some (with_bench (with_bench s t p w y) t' p' w' ap'.second)) (sym k)
        (local_step (with_bench s t p w y) w' l'.host l'.act lo' ∙ ap (option_map (λ x. with_bench (with_bench s t p w y) t' p' w' x))
        (ap₂ (act_bench sys l'.act l'.host) (λ i. record { cell = set_apart nat_eq s.cells t t' y.part.cell number_is nt i; column = set path_eq s.columns p y.part.column p' }) there_same ∙ ap'.second_is)),
    subst (λ z. step_by sys z w l.host l.act ≡ Some (with_bench (with_bench s t p w y) t' p' w' ap'.second)) (sym k')
        (local_step (with_bench s t' p' w' y') w l.host l.act lo ∙ ap (option_map (λ x. with_bench (with_bench s t' p' w' y') t p w x))
        (ap₂ (act_bench sys l.act l.host) (λ i. record { cell = set_apart nat_eq s.cells t' t y'.part.cell number_is (λ z. nt (sym z)) i; column = set path_eq s.columns p' y'.part.column p }) here_same ∙ ap'.first_is)
        ∙ ap Some (λ i. record { before = s.before; head = s.head; admitted = s.admitted; cells = cells_same i; columns = ap'.columns i; hands = hands_same i })),
  )
    where
      t : ℕ
      t = ticket_of l.act

      t' : ℕ
      t' = ticket_of l'.act

      p : Path
      p = path_of l.act

      p' : Path
      p' = path_of l'.act

      w : ℕ
      w = l.worker

      w' : ℕ
      w' = l'.worker

      there_same : set nat_eq s.hands w y.hand w' ≡ s.hands w'
      there_same = elim apart [ inl z ↦ set_apart nat_eq s.hands w w' y.hand number_is z | inr z ↦ ap (λ f. f w') (set_noop s.hands w y.hand (z.1 ∙ sym z.2)) ]

      here_same : set nat_eq s.hands w' y'.hand w ≡ s.hands w
      here_same = elim apart [ inl z ↦ set_apart nat_eq s.hands w' w y'.hand number_is (λ v. z (sym v)) | inr z ↦ ap (λ f. f w) (set_noop s.hands w' y'.hand (subst (λ v. s.hands v ≡ None) z.0 z.1 ∙ sym z.3)) ]

      cells_same : set nat_eq (set nat_eq s.cells t' y'.part.cell) t ap'.first.part.cell ≡ set nat_eq (set nat_eq s.cells t y.part.cell) t' ap'.second.part.cell
      cells_same = ap (λ c. set nat_eq (set nat_eq s.cells t' y'.part.cell) t c) ap'.cell ∙ set_set nat_eq s.cells t' t y'.part.cell y.part.cell number_is (λ z. nt (sym z))
          ∙ ap (λ c. set nat_eq (set nat_eq s.cells t y.part.cell) t' c) (sym ap'.cell')

      hands_plain : set nat_eq (set nat_eq s.hands w' y'.hand) w y.hand ≡ set nat_eq (set nat_eq s.hands w y.hand) w' y'.hand
      hands_plain = elim apart [
        | inl z ↦ set_set nat_eq s.hands w' w y'.hand y.hand number_is (λ v. z (sym v))
        | inr z ↦ (let a : set nat_eq s.hands w y.hand ≡ s.hands = set_noop s.hands w y.hand (z.1 ∙ sym z.2) in
            let b : set nat_eq s.hands w' y'.hand ≡ s.hands = set_noop s.hands w' y'.hand (subst (λ v. s.hands v ≡ None) z.0 z.1 ∙ sym z.3) in
            ap (λ f. set nat_eq f w y.hand) b ∙ a ∙ sym b ∙ ap (λ f. set nat_eq f w' y'.hand) (sym a))
      ]

      hands_same : set nat_eq (set nat_eq s.hands w' y'.hand) w ap'.first.hand ≡ set nat_eq (set nat_eq s.hands w y.hand) w' ap'.second.hand
      hands_same = ap (λ c. set nat_eq (set nat_eq s.hands w' y'.hand) w c) ap'.hand ∙ hands_plain ∙ ap (λ c. set nat_eq (set nat_eq s.hands w y.hand) w' c) (sym ap'.hand')

  -- on different contexts
  apart_paths : (s : State A F R J) (a a' : Act) (h h' : ℕ) (g g' : Option (Hand A F)) (y y' : Bench A F R) → path_of a ≢ path_of a' →
      act_bench sys a h (part_of s (ticket_of a) (path_of a)) g ≡ Some y → act_bench sys a' h' (part_of s (ticket_of a') (path_of a')) g' ≡ Some y' → Apart s a a' h h' g g' y y'
  apart_paths s a a' h h' g g' y y' np e e' = record {
    first = y;
    second = y';
    second_is = ap (λ c. act_bench sys a' h' (record { cell = s.cells (ticket_of a'); column = c }) g') (set_apart path_eq s.columns (path_of a) (path_of a') y.part.column path_is np) ∙ e';
    first_is = ap (λ c. act_bench sys a h (record { cell = s.cells (ticket_of a); column = c }) g) (set_apart path_eq s.columns (path_of a') (path_of a) y'.part.column path_is (λ z. np (sym z))) ∙ e;
    cell = refl;
    cell' = refl;
    hand = refl;
    hand' = refl;
    columns = set_set path_eq s.columns (path_of a') (path_of a) y'.part.column y.part.column path_is (λ z. np (sym z));
  }

  -- a label that does little to its entry: it drops the ticket from its holders, or nothing
  abbrev leave : ℕ → Bool → List Claim → List Claim
  leave t drops hs = if drops then others t hs else hs

  record Light (t : ℕ) (a : Act) (h : ℕ) (x : Part A F R) (g : Option (Hand A F)) (y : Bench A F R) : Type 0 where
    entry : Entry F
    store_is : x.column.store h ≡ Some entry
    drops : Bool
    column_is : y.part.column ≡ with_entry x.column h (Some (with_holders entry (leave t drops entry.holders)))
    again : (c : Column F) (en : Entry F) → c.store h ≡ Some en → en.body ≡ entry.body →
        act_bench sys a h (record { cell = x.cell; column = c }) g ≡ Some (record { part = record { cell = y.part.cell; column = with_entry c h (Some (with_holders en (leave t drops en.holders))) }; hand = y.hand })

  light_free : (t k : ℕ) (p : Path) (h : ℕ) (x : Part A F R) (g : Option (Hand A F)) (y : Bench A F R) → act_bench sys (Free t k p) h x g ≡ Some y → Light t (Free t k p) h x g y
  light_free t k p h x (Some g) y e = absurd (none_not e)
  light_free t k p h x None y e =
      let r = map_some (λ (z : Part A F R). record { part = z; hand = None }) (free t k p h x) y e in
      let b = then_some (λ en. option_and_then (λ m. only_if (is_release m) (record { cell = without_mail x.cell k; column = with_entry x.column h (Some (with_holders en (others t en.holders))) })) (letter_at x.cell k h p)) (x.column.store h) r.0 r.1 in
      let d = then_some (λ m. only_if (is_release m) (record { cell = without_mail x.cell k; column = with_entry x.column h (Some (with_holders b.0 (others t (b.0).holders))) })) (letter_at x.cell k h p) r.0 b.2 in
      let o = only_some (is_release d.0) _ r.0 d.2 in
      light_free_by b.0 d.0 r.0 b.1 d.1 o.0 o.1 r.2
    where
      light_free_by : (en : Entry F) (m : Letter F) (z : Part A F R) → x.column.store h ≡ Some en → letter_at x.cell k h p ≡ Some m → is_release m ≡ true →
          record { cell = without_mail x.cell k; column = with_entry x.column h (Some (with_holders en (others t en.holders))) } ≡ z → y ≡ record { part = z; hand = None } → Light t (Free t k p) h x None y
      light_free_by en m z e1 e2 e3 e4 e5 = record {
        entry = en;
        store_is = e1;
        drops = true;
        column_is = ap (λ (v : Bench A F R). v.part.column) e5 ∙ ap (λ (v : Part A F R). v.column) (sym e4);
        again = λ c en' st same. rw st (rw e2 (rw e3 (ap Some (λ i. record { part = record { cell = (ap (λ (v : Part A F R). v.cell) e4 ∙ ap (λ (v : Bench A F R). v.part.cell) (sym e5)) i; column = with_entry c h (Some (with_holders en' (others t en'.holders))) }; hand = (sym e5 i).hand }))));
      }

  light_start : (s : State A F R J) (t : ℕ) (p : Path) (h : ℕ) (g : Option (Hand A F)) (y : Bench A F R) → Peeks s t p → act_bench sys (Start t p) h (part_of s t p) g ≡ Some y → Light t (Start t p) h (part_of s t p) g y
  light_start s t p h (Some g) y k e = absurd (none_not e)
  light_start s t p h None y k e =
      let x : Part A F R = part_of s t p in
      let last : Event A → Entry F → A → Record F → Option (Bench A F R) = λ ev en a b. only_if (ready_at ev.status p) (after_start t p h x ev en a b) in
      let r1 = then_some (λ ev. option_and_then (λ en. option_and_then (λ a. option_and_then (λ b. last ev en a b) en.body) ev.actor) (x.column.store h)) x.cell.event y e in
      let r2 = then_some (λ en. option_and_then (λ a. option_and_then (λ b. last r1.0 en a b) en.body) (r1.0).actor) (x.column.store h) y r1.2 in
      let r3 = then_some (λ a. option_and_then (λ b. last r1.0 r2.0 a b) (r2.0).body) (r1.0).actor y r2.2 in
      let r4 = then_some (λ b. last r1.0 r2.0 r3.0 b) (r2.0).body y r3.2 in
      let o = only_some (ready_at (r1.0).status p) _ y r4.2 in
      let peek : holds_as_peek (r1.0).held p ≡ true = subst (λ (v : Event A). holds_as_peek v.held p ≡ true) (some_same k.event r1.0 (sym k.is_event ∙ r1.1)) k.peek in
      light_start_by s t p h y r1.0 r2.0 r3.0 r4.0 r1.1 r2.1 r3.1 r4.1 o.0 o.1 peek
    where
      light_start_by : (s : State A F R J) (t : ℕ) (p : Path) (h : ℕ) (y : Bench A F R) (ev : Event A) (en : Entry F) (a : A) (b : Record F) → (s.cells t).event ≡ Some ev → (s.columns p).store h ≡ Some en → ev.actor ≡ Some a → en.body ≡ Some b →
          ready_at ev.status p ≡ true → after_start t p h (part_of s t p) ev en a b ≡ y → holds_as_peek ev.held p ≡ true → Light t (Start t p) h (part_of s t p) None y
      light_start_by s t p h y ev en a b e1 e2 e3 e4 e5 e6 peek = record {
        entry = en;
        store_is = e2;
        drops = false;
        column_is = ap (λ (z : Bench A F R). z.part.column) (sym e6) ∙ ap (λ o. with_entry (s.columns p) h (Some (with_body en o))) (ap (λ v. left_by v b) peek ∙ sym e4);
        again = λ c en' st same. rw e1 (rw st (rw e3 (rw (same ∙ e4) (rw e5 (
            ap Some (λ i. record { part = record { cell = (e6 i).part.cell; column = with_entry c h (Some (with_body en' (ap (λ v. left_by v b) peek i))) }; hand = (e6 i).hand }))))));
      }

  light_stop : (s : State A F R J) (t : ℕ) (p : Path) (h : ℕ) (g : Option (Hand A F)) (y : Bench A F R) → Peeks s t p → act_bench sys (Stop t p) h (part_of s t p) g ≡ Some y → Light t (Stop t p) h (part_of s t p) g y
  light_stop s t p h None y k e = absurd (none_not e)
  light_stop s t p h (Some g) y k e =
      let i = if_some ((g.ticket == t) && path_eq g.path p) _ y e in
      let r = map_some (λ (z : Part A F R). record { part = z; hand = None }) (stop sys p h g (part_of s t p)) y i.1 in
      let r1 = then_some (λ ev. option_and_then (λ en. after_stop sys p h (part_of s t p) (desk_back (s.cells t) ev (segment_of sys g).actor) en g.body.children (segment_of sys g) (holds_as_peek ev.held p)) ((s.columns p).store h)) (s.cells t).event r.0 r.1 in
      let r2 = then_some (λ en. after_stop sys p h (part_of s t p) (desk_back (s.cells t) r1.0 (segment_of sys g).actor) en g.body.children (segment_of sys g) (holds_as_peek (r1.0).held p)) ((s.columns p).store h) r.0 r1.2 in
      let peek : holds_as_peek (r1.0).held p ≡ true = subst (λ (v : Event A). holds_as_peek v.held p ≡ true) (some_same k.event r1.0 (sym k.is_event ∙ r1.1)) k.peek in
      by_pause (segment_of sys g).pause refl i.0 r1.0 r2.0 r1.1 r2.1 peek r.0
      (subst (λ v. after_stop sys p h (part_of s t p) (desk_back (s.cells t) r1.0 (segment_of sys g).actor) r2.0 g.body.children (segment_of sys g) v ≡ Some r.0) peek r2.2) r.2
    where
      by_pause : (v : Pause R) → (segment_of sys g).pause ≡ v → ((g.ticket == t) && path_eq g.path p) ≡ true → (ev : Event A) (en : Entry F) → (s.cells t).event ≡ Some ev → (s.columns p).store h ≡ Some en → holds_as_peek ev.held p ≡ true →
          (z : Part A F R) → after_look (part_of s t p) h (desk_back (s.cells t) ev (segment_of sys g).actor) en (segment_of sys g).pause ≡ Some z → y ≡ record { part = z; hand = None } → Light t (Stop t p) h (part_of s t p) (Some g) y
      by_pause (Go q) v i ev en e1 e2 peek z l f = absurd (none_not (subst (λ u. after_look (part_of s t p) h (desk_back (s.cells t) ev (segment_of sys g).actor) en u ≡ Some z) v l))
      by_pause (Down q) v i ev en e1 e2 peek z l f = absurd (none_not (subst (λ u. after_look (part_of s t p) h (desk_back (s.cells t) ev (segment_of sys g).actor) en u ≡ Some z) v l))
      by_pause Back v i ev en e1 e2 peek z l f = absurd (none_not (subst (λ u. after_look (part_of s t p) h (desk_back (s.cells t) ev (segment_of sys g).actor) en u ≡ Some z) v l))
      by_pause (Over r) v i ev en e1 e2 peek z l f =
          let k : over_here (part_of s t p) h (desk_back (s.cells t) ev (segment_of sys g).actor) en r ≡ z = some_same _ z (subst (λ u. after_look (part_of s t p) h (desk_back (s.cells t) ev (segment_of sys g).actor) en u ≡ Some z) v l) in
          record {
            entry = en;
            store_is = e2;
            drops = false;
            column_is = ap (λ (b : Bench A F R). b.part.column) f ∙ ap (λ (b : Part A F R). b.column) (sym k);
            again = λ c en' st same. rw i (rw e1 (rw st (rw peek (rw v (ap Some (λ j. record { part = record { cell = ((ap (λ (b : Part A F R). b.cell) k ∙ ap (λ (b : Bench A F R). b.part.cell) (sym f)) j); column = with_entry c h (Some en') }; hand = (sym f j).hand }))))));
          }

  light : (s : State A F R J) (a : Act) (h : ℕ) (g : Option (Hand A F)) (y : Bench A F R) → IsLight s a → act_bench sys a h (part_of s (ticket_of a) (path_of a)) g ≡ Some y → Light (ticket_of a) a h (part_of s (ticket_of a) (path_of a)) g y
  light s (Start t p) h g y k e = light_start s t p h g y k e
  light s (Stop t p) h g y k e = light_stop s t p h g y k e
  light s (Free t k p) h g y u e = light_free t k p h _ g y e
  light s (Admit t) h g y k e = absurd k
  light s (Commit t) h g y k e = absurd k
  light s (Queue t k p) h g y u e = absurd u
  light s (Grant t p) h g y k e = absurd k
  light s (Visit t k p) h g y u e = absurd u
  light s (Pass t k p q) h g y u e = absurd u
  light s (Land t k p) h g y u e = absurd u

  leave_swap : (t t' : ℕ) (d d' : Bool) (hs : List Claim) → leave t d (leave t' d' hs) ≡ leave t' d' (leave t d hs)
  leave_swap t t' true true hs = filter_swap _ _ hs
  leave_swap t t' true false hs = refl
  leave_swap t t' false true hs = refl
  leave_swap t t' false false hs = refl

  -- an entry of which holders are dropped, at one host and at another
  abbrev drop_at : Column F → ℕ → Entry F → ℕ → Bool → Column F
  drop_at c h en t d = with_entry c h (Some (with_holders en (leave t d en.holders)))

  -- after the one, the other finds its entry, with the same body
  found : (c : Column F) (h h' : ℕ) (en en' : Entry F) (t : ℕ) (d : Bool) → c.store h ≡ Some en → c.store h' ≡ Some en' →
      (v : Entry F) × ((drop_at c h en t d).store h' ≡ Some v) × (v.body ≡ en'.body) × (((h ≡ h') × (v ≡ with_holders en' (leave t d en'.holders))) ⊎ ((nat_eq h h' ≡ false) × (v ≡ en')))
  found c h h' en en' t d e e' = elim (number_cases h h') [
    | inr n ↦ (en', set_there nat_eq c.store h _ h' n ∙ e', refl, inr (n, refl))
    | inl n ↦ (let same : en ≡ en' = some_same en en' (sym e ∙ ap c.store n ∙ e') in
        (with_holders en' (leave t d en'.holders), set_here nat_eq c.store h _ h' (subst (λ i. nat_eq h i ≡ true) n (number_self h)) ∙ ap (λ v. Some (with_holders v (leave t d v.holders))) same, refl, inl (n, refl)))
  ]

  drop_swap : (c : Column F) (h h' : ℕ) (en en' v v' : Entry F) (t t' : ℕ) (d d' : Bool) →
      ((h ≡ h') × (v ≡ with_holders en' (leave t d en'.holders))) ⊎ ((nat_eq h h' ≡ false) × (v ≡ en')) →
      ((h' ≡ h) × (v' ≡ with_holders en (leave t' d' en.holders))) ⊎ ((nat_eq h' h ≡ false) × (v' ≡ en)) → c.store h ≡ Some en → c.store h' ≡ Some en' →
      drop_at (drop_at c h en t d) h' v t' d' ≡ drop_at (drop_at c h' en' t' d') h v' t d
  drop_swap c h h' en en' v v' t t' d d' (inl a) (inr b) e e' = absurd (not_same h' h b.0 (sym a.0))
  drop_swap c h h' en en' v v' t t' d d' (inr a) (inl b) e e' = absurd (not_same h h' a.0 (sym b.0))
  drop_swap c h h' en en' v v' t t' d d' (inr a) (inr b) e e' = λ i. record {
    store = ((ap (λ u. (drop_at (drop_at c h en t d) h' u t' d').store) a.1
        ∙ set_set nat_eq c.store h h' (Some (with_holders en (leave t d en.holders))) (Some (with_holders en' (leave t' d' en'.holders))) number_is (not_same h h' a.0)
        ∙ ap (λ u. (drop_at (drop_at c h' en' t' d') h u t d).store) (sym b.1)) i);
    gone = c.gone;
  }
  drop_swap c h h' en en' v v' t t' d d' (inl a) (inl b) e e' =
      let same : en ≡ en' = some_same en en' (sym e ∙ ap c.store a.0 ∙ e') in
      λ i. record {
        store = ((ap (λ u. (drop_at (drop_at c h en t d) h' u t' d').store) a.1
            ∙ ap (λ u. set nat_eq (drop_at c u en t d).store h' (Some (with_holders en' (leave t' d' (leave t d en'.holders))))) a.0
            ∙ set_twice c.store h' _ _
            ∙ ap (λ u. set nat_eq c.store h' (Some (with_holders en' u))) (leave_swap t' t d' d en'.holders)
            ∙ sym (set_twice c.store h' (Some (with_holders en' (leave t' d' en'.holders))) _)
            ∙ ap (λ u. set nat_eq (drop_at c h' en' t' d').store u (Some (with_holders en' (leave t d (leave t' d' en'.holders))))) b.0
            ∙ ap (λ u. set nat_eq (drop_at c h' en' t' d').store h (Some (with_holders u (leave t d (leave t' d' u.holders))))) (sym same)
            ∙ ap (λ u. (drop_at (drop_at c h' en' t' d') h u t d).store) (sym b.1)) i);
        gone = c.gone;
      }

  apart_light : (s : State A F R J) (a a' : Act) (h h' : ℕ) (g g' : Option (Hand A F)) (y y' : Bench A F R) → path_of a ≡ path_of a' →
      Light (ticket_of a) a h (part_of s (ticket_of a) (path_of a)) g y → Light (ticket_of a') a' h' (part_of s (ticket_of a') (path_of a')) g' y' → Apart s a a' h h' g g' y y'
  apart_light s a a' h h' g g' y y' same k k' = record {
    first = record { part = record { cell = y.part.cell; column = drop_at (drop_at c h' k'.entry t' k'.drops) h there.0 t k.drops }; hand = y.hand };
    second = record { part = record { cell = y'.part.cell; column = drop_at (drop_at c h k.entry t k.drops) h' here.0 t' k'.drops }; hand = y'.hand };
    second_is = ap (λ u. act_bench sys a' h' (record { cell = s.cells t'; column = u }) g') (column_now a a' y same ∙ k.column_is)
        ∙ k'.again (drop_at c h k.entry t k.drops) here.0 here.1 here.2;
    first_is = ap (λ u. act_bench sys a h (record { cell = s.cells t; column = u }) g) (column_now a' a y' (sym same) ∙ back)
        ∙ k.again (drop_at c h' k'.entry t' k'.drops) there.0 there.1 there.2;
    cell = refl;
    cell' = refl;
    hand = refl;
    hand' = refl;
    columns = ap (λ u. set path_eq (set path_eq s.columns u y'.part.column) (path_of a) (drop_at (drop_at c h' k'.entry t' k'.drops) h there.0 t k.drops)) (sym same)
        ∙ set_twice_path s.columns (path_of a) y'.part.column _
        ∙ ap (set path_eq s.columns (path_of a)) (sym (drop_swap c h h' k.entry k'.entry here.0 there.0 t t' k.drops k'.drops here.3 there.3 k.store_is store'))
        ∙ sym (set_twice_path s.columns (path_of a) y.part.column _)
        ∙ ap (λ u. set path_eq (set path_eq s.columns (path_of a) y.part.column) u (drop_at (drop_at c h k.entry t k.drops) h' here.0 t' k'.drops)) same;
  }
    where
      t : ℕ
      t = ticket_of a

      t' : ℕ
      t' = ticket_of a'

      c : Column F
      c = s.columns (path_of a)

      store' : c.store h' ≡ Some k'.entry
      store' = ap (λ u. (s.columns u).store h') same ∙ k'.store_is

      here : (v : Entry F) × ((drop_at c h k.entry t k.drops).store h' ≡ Some v) × (v.body ≡ k'.entry.body) × (((h ≡ h') × (v ≡ with_holders k'.entry (leave t k.drops k'.entry.holders))) ⊎ ((nat_eq h h' ≡ false) × (v ≡ k'.entry)))
      here = found c h h' k.entry k'.entry t k.drops k.store_is store'

      there : (v : Entry F) × ((drop_at c h' k'.entry t' k'.drops).store h ≡ Some v) × (v.body ≡ k.entry.body) × (((h' ≡ h) × (v ≡ with_holders k.entry (leave t' k'.drops k.entry.holders))) ⊎ ((nat_eq h' h ≡ false) × (v ≡ k.entry)))
      there = found c h' h k'.entry k.entry t' k'.drops store' k.store_is

      column_now : (a a' : Act) (y : Bench A F R) → path_of a ≡ path_of a' → set path_eq s.columns (path_of a) y.part.column (path_of a') ≡ y.part.column
      column_now a a' y e = subst (λ u. set path_eq s.columns (path_of a) y.part.column u ≡ y.part.column) e (set_at_path s.columns (path_of a) y.part.column)

      back : y'.part.column ≡ drop_at c h' k'.entry t' k'.drops
      back = k'.column_is ∙ ap (λ u. drop_at (s.columns u) h' k'.entry t' k'.drops) (sym same)

  if_true : (b : Bool) (o o' : Option (State A F R J)) → b ≡ true → o ≡ o' → (if b then o else None) ≡ o'
  if_true b o o' e k = rw e k

  pub independent : Independent sys
  unfolding step
  independent workers s s₁ s₂ l l' lo lo' nt free where_ e e' =
      let q = if_some (nat_lt l.worker workers) _ s₁ e in
      let q' = if_some (nat_lt l'.worker workers) _ s₂ e' in
      let y = map_some (λ x. with_bench s (ticket_of l.act) (path_of l.act) l.worker x) (act_bench sys l.act l.host (part_of s (ticket_of l.act) (path_of l.act)) (s.hands l.worker)) s₁ (sym (local_step s l.worker l.host l.act lo) ∙ q.1) in
      let y' = map_some (λ x. with_bench s (ticket_of l'.act) (path_of l'.act) l'.worker x) (act_bench sys l'.act l'.host (part_of s (ticket_of l'.act) (path_of l'.act)) (s.hands l'.worker)) s₂ (sym (local_step s l'.worker l'.host l'.act lo') ∙ q'.1) in
      let r = independent_by s s₁ s₂ l l' lo lo' nt y.0 y'.0 (ways y.0 y'.0 y.1 y'.1)
      (elim (number_cases l.worker l'.worker) [
        | inr d ↦ inl (not_same _ _ d)
        | inl d ↦ elim free [
          | inl z ↦ inl z
          | inr f ↦ (let r = one_hand (s.hands l.worker) (ticket_of l.act) (ticket_of l'.act) (is_start l.act) (is_start l'.act) y.0 y'.0 nt f.0 f.1
              (hands l.act l.host _ _ y.0 y.1) (subst (λ v. Hands (ticket_of l'.act) (is_start l'.act) (s.hands v) y'.0) (sym d) (hands l'.act l'.host _ _ y'.0 y'.1)) in
              inr (d, r.0, r.1, r.2))
        ]
      ])
      y.2 y'.2 in
      record { state = r.0; there = if_true _ _ _ q'.0 r.1; here = if_true _ _ _ q.0 r.2 }
    where
      ways : (y y' : Bench A F R) → act_bench sys l.act l.host (part_of s (ticket_of l.act) (path_of l.act)) (s.hands l.worker) ≡ Some y → act_bench sys l'.act l'.host (part_of s (ticket_of l'.act) (path_of l'.act)) (s.hands l'.worker) ≡ Some y' →
          Apart s l.act l'.act l.host l'.host (s.hands l.worker) (s.hands l'.worker) y y'
      ways y y' e e' = elim where_ [
        | inl np ↦ apart_paths s l.act l'.act l.host l'.host _ _ y y' np e e'
        | inr k ↦ elim (path_cases (path_of l.act) (path_of l'.act)) [
          | inl same ↦ apart_light s l.act l'.act l.host l'.host _ _ y y' same (light s l.act l.host _ y k.0 e) (light s l'.act l'.host _ y' k.1 e')
          | inr d ↦ apart_paths s l.act l'.act l.host l'.host _ _ y y' (λ z. clash _ (subst (λ u. path_eq (path_of l.act) u ≡ true) z (path_self (path_of l.act))) d) e e'
        ]
      ]
