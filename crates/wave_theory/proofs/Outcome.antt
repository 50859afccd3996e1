-- What a label leaves of the entries, and what a Stop leaves of its event: how many mails were sent, and how much it holds.
use Rattle.std.proofs.Common.{◌≡◌, ◌≢◌, ℕ, suc, ◌+◌, ◌≤◌, ◌⊎◌, ◌==◌, inl, inr, nat_eq, Bool, true, false, Option, Some, None, is_some, List, [], ◌∷◌, ◌++◌, length, refl, sym, ◌∙◌, ap, ap₂, subst, arith}
use Rattle.std.specs.Prelude.{if◌then◌else◌, cond}
use Rattle.wave_base.specs.declared.path.Step.{Step}
use Rattle.wave_base.specs.declared.path.Path.{Path}
use Rattle.wave_base.specs.declared.children.Child.{Child}
use Rattle.wave_base.specs.Paths.{path_eq, is_above, parent_of}
use Rattle.wave_states.specs.Actors.{Actors, Pause, Go, Down, Over}
use Rattle.wave_states.specs.States.{Claim, Entry, Event, Hand, Hold, Letter, Enter, Visit, Release, Transfer, Mail, Ask, Travelling, Ended, set, hold_at, holds_as_peek}
use Rattle.wave_states.specs.Steps.{Part, keep_below, into_child, after_end, with_body, with_entry, put_back, over_here, over_there, over_by, after_pause, after_stop, after_look, desk_back, host_or, moved_on, segment_of}
use Rattle.wave_states.specs.Desks.{Desk, send, release, give_up, kept_of, left_of, nothing_kept, not_at, with_held, with_status}
use Rattle.wave_theory.proofs.Basics.{clash, some_same, none_not, bool_cases, number_cases, set_at, set_there, path_is, not_same}
use Rattle.wave_theory.proofs.Opened.{Stopping}
use Rattle.wave_theory.proofs.Held.{hold_cons, none_some}
use Rattle.wave_theory.proofs.Desks.{keep_release}
use Rattle.wave_theory.proofs.Shows.{Once}

suc_plus : (a c : ℕ) → suc a + c ≡ suc (a + c)
suc_plus a c = omega arith

-- of the held paths, those that are kept and those that are left
kept_left : (keep : Path → Bool) (held : List (Path × Hold)) → length (kept_of keep held) + length (left_of keep held) ≡ length held
kept_left keep [] = refl
kept_left keep (x ∷ xs) = elim (bool_cases (keep x.0)) [
  | inl e ↦ rw e (suc_plus (length (kept_of keep xs)) (length (left_of keep xs)) ∙ ap suc (kept_left keep xs))
  | inr e ↦ rw e (plus (length (kept_of keep xs)) (length (left_of keep xs)) ∙ ap suc (kept_left keep xs))
]
  where
    plus : (a c : ℕ) → a + suc c ≡ suc (a + c)
    plus a c = omega arith

-- but for one, where each stands once
all_kept : (p : Path) (held : List (Path × Hold)) → hold_at held p ≡ None → length (kept_of (not_at p) held) ≡ length held
all_kept p [] e = refl
all_kept p (x ∷ xs) e = (let z = none_some (path_eq p x.0) x.1 (hold_at xs p) (sym (hold_cons x xs p) ∙ e) in rw z.0 (ap suc (all_kept p xs z.1)))

one_left : (p : Path) (held : List (Path × Hold)) → Once held → is_some (hold_at held p) ≡ true → suc (length (kept_of (not_at p) held)) ≡ length held
one_left p [] o e = absurd (clash false e refl)
one_left p (x ∷ xs) o e = elim (bool_cases (path_eq p x.0)) [
  | inl z ↦ rw z (ap suc (all_kept p xs (subst (λ q. hold_at xs q ≡ None) (sym (path_is p x.0 z)) o.0)))
  | inr z ↦ rw z (ap suc (one_left p xs o.1 (sym (ap is_some (hold_cons x xs p ∙ ap (λ b. cond b (Some x.1) (hold_at xs p)) z)) ∙ e)))
]

module _ {A F : Type 0} where
  released : (xs : List (Path × Hold)) (d : Desk A F) → ((release xs d).event.sent ≡ d.event.sent + length xs) × ((release xs d).event.held ≡ d.event.held) × ((release xs d).event.status ≡ d.event.status)
  released [] d = (none_more _, refl, refl)
    where
      none_more : (a : ℕ) → a ≡ a + 0
      none_more a = omega arith
  released (x ∷ xs) d = (let r = released xs (send d (record { host = x.1.host; path = x.0; letter = Release })) in (r.0 ∙ plus _ _, r.1, r.2))
    where
      plus : (a c : ℕ) → suc a + c ≡ a + suc c
      plus a c = omega arith

  given_up : (keep : Path → Bool) (d : Desk A F) → ((give_up keep d).event.sent + length (give_up keep d).event.held ≡ d.event.sent + length d.event.held) × ((give_up keep d).event.status ≡ d.event.status)
  given_up keep d = (let r = released (left_of keep d.event.held) (record { event = with_held d.event (kept_of keep d.event.held); mails = d.mails }) in
      (ap₂ (λ a c. a + length c) r.0 r.1 ∙ plus _ _ _ (kept_left keep d.event.held), r.2))
    where
      plus : {t : ℕ} (a k l : ℕ) → k + l ≡ t → (a + l) + k ≡ a + t
      plus a k l e = omega (arith, e)

module _ {F : Type 0} where
  -- a mail that is there was, or is of this kind
  abbrev Adds : (Mail F → Type 0) → (ℕ → Option (Mail F)) → (ℕ → Option (Mail F)) → Type 0
  Adds Q f f' = (i : ℕ) (m : Mail F) → f' i ≡ Some m → (f i ≡ Some m) ⊎ Q m

  -- a mail that carries an entry carries one with these holders
  abbrev Carries : List Claim → Mail F → Type 0
  Carries hs m = (en : Entry F) → m.letter ≡ Transfer en → en.holders ≡ hs

  release_not : (en : Entry F) → ◌≡◌ {A = Letter F} Release (Transfer en) → ⊥
  release_not en e = grind arith

  visit_not : (en : Entry F) → ◌≡◌ {A = Letter F} Visit (Transfer en) → ⊥
  visit_not en e = grind arith

  back_not : (en : Entry F) → ◌≡◌ {A = Letter F} Letter.Back (Transfer en) → ⊥
  back_not en e = grind arith

  enter_not : (a : Ask) (en : Entry F) → ◌≡◌ {A = Letter F} (Enter a) (Transfer en) → ⊥
  enter_not a en e = grind arith

  transfer_is : (x y : Entry F) → ◌≡◌ {A = Letter F} (Transfer x) (Transfer y) → x ≡ y
  transfer_is x y e = cc

module _ {A F : Type 0} where
  adds_send : (Q : Mail F → Type 0) (f : ℕ → Option (Mail F)) (d : Desk A F) (m : Mail F) → Q m → Adds Q f d.mails → Adds Q f (send d m).mails
  adds_send Q f d m q a i x e = elim (number_cases (suc d.event.sent) i) [
    | inl z ↦ inr (subst Q (some_same _ _ (sym (set_at d.mails (suc d.event.sent) (Some m)) ∙ subst (λ j. set nat_eq d.mails (suc d.event.sent) (Some m) j ≡ Some x) (sym z) e)) q)
    | inr z ↦ a i x (sym (set_there nat_eq d.mails (suc d.event.sent) (Some m) i z) ∙ e)
  ]

  adds_release : (Q : Mail F → Type 0) (f : ℕ → Option (Mail F)) (xs : List (Path × Hold)) (d : Desk A F) → ((h : ℕ) (q : Path) → Q (record { host = h; path = q; letter = Release })) → Adds Q f d.mails → Adds Q f (release xs d).mails
  adds_release Q f [] d q a = a
  adds_release Q f (x ∷ xs) d q a = adds_release Q f xs _ q (adds_send Q f d _ (q x.1.host x.0) a)

  adds_give : (Q : Mail F → Type 0) (f : ℕ → Option (Mail F)) (keep : Path → Bool) (d : Desk A F) → ((h : ℕ) (q : Path) → Q (record { host = h; path = q; letter = Release })) → Adds Q f d.mails → Adds Q f (give_up keep d).mails
  adds_give Q f keep d q a = adds_release Q f (left_of keep d.event.held) _ q a

-- how a Stop leaves its event, and the entry
pub record Outcome {A F R : Type 0} (p : Path) (x : Part A F R) (event : Event A) (en : Entry F) (h : ℕ) (y : Part A F R) : Type 0 where
  pub after : Event A
  pub after_is : y.cell.event ≡ Some after
  -- it goes on with one mail more than it gives up; or it ends, and each mail gives something up
  pub goes : ((after.status ≡ Travelling) × (after.sent + length after.held ≡ suc (event.sent + length event.held))) ⊎ ((after.status ≡ Ended) × (after.sent + length after.held ≡ event.sent + length event.held))
  pub mails : (i : ℕ) (m : Mail F) → y.cell.mails i ≡ Some m → (x.cell.mails i ≡ Some m) ⊎ ((e : Entry F) → m.letter ≡ Transfer e → e.holders ≡ en.holders)
  pub store : (i : ℕ) (e : Entry F) → y.column.store i ≡ Some e → (x.column.store i ≡ Some e) ⊎ (e.holders ≡ en.holders)
  -- the entry stays, or is under way to another host
  pub owner : (is_some (y.column.store h) ≡ true) ⊎ ((to number : ℕ) × (e : Entry F) × (y.cell.mails number ≡ Some (record { host = to; path = p; letter = Transfer e })) × (to ≢ h))

module _ {A F R J : Type 0} (sys : Actors A F R J) where
  module _ (p : Path) (x : Part A F R) (event : Event A) (en : Entry F) (h : ℕ) (f : F) (cs : List (Step × Child)) (a : A) (once : Once event.held) (held : is_some (hold_at event.held p) ≡ true) where
    abbrev d : Desk A F
    d = desk_back x.cell event a

    abbrev Fine : Part A F R → Type 0
    Fine y = Outcome p x event en h y

    store_put : (e : Entry F) → e.holders ≡ en.holders → (i : ℕ) (u : Entry F) → (with_entry x.column h (Some e)).store i ≡ Some u → (x.column.store i ≡ Some u) ⊎ (u.holders ≡ en.holders)
    store_put e k i u z = elim (number_cases h i) [
      | inr n ↦ inl (sym (set_there nat_eq x.column.store h (Some e) i n) ∙ z)
      | inl n ↦ inr (ap (λ (v : Entry F). v.holders) (sym (some_same _ _ (sym (set_at x.column.store h (Some e)) ∙ subst (λ j. set nat_eq x.column.store h (Some e) j ≡ Some u) (sym n) z))) ∙ k)
    ]

    put_there : (e : Entry F) → is_some ((with_entry x.column h (Some e)).store h) ≡ true
    put_there e = ap is_some (set_at x.column.store h (Some e))

    no_change : Adds (Carries {F = F} en.holders) x.cell.mails (d).mails
    no_change i m e = inl e

    free_of : (h : ℕ) (q : Path) → Carries {F = F} en.holders (record { host = h; path = q; letter = Release })
    free_of h q e z = absurd (release_not e z)

    -- into a child
    into_it : (s : Step) (peek : Bool) (o : Option Hold) → (((into_child p h d en f cs s peek o).0).event.sent ≡ suc event.sent) × (((into_child p h d en f cs s peek o).0).event.held ≡ event.held) × (((into_child p h d en f cs s peek o).0).event.status ≡ Travelling) ×
        Adds (Carries {F = F} en.holders) x.cell.mails ((into_child p h d en f cs s peek o).0).mails × (((into_child p h d en f cs s peek o).1).holders ≡ en.holders)
    into_it s peek None = (refl, refl, refl, adds_send (Carries {F = F} en.holders) x.cell.mails d _ (λ e z. absurd (enter_not _ e z)) no_change, refl)
    into_it s peek (Some i) = (refl, refl, refl, adds_send (Carries {F = F} en.holders) x.cell.mails d _ (λ e z. absurd (visit_not e z)) no_change, refl)

    down : (s : Step) (peek : Bool) (o : Option Hold) → Fine (put_back x h (into_child p h d en f cs s peek o))
    down s peek o = (let r = into_it s peek o in record {
      after = ((into_child p h d en f cs s peek o).0).event;
      after_is = refl;
      goes = inl (r.2, ap₂ (λ i j. i + length j) r.0 r.1 ∙ suc_plus event.sent (length event.held));
      mails = r.3;
      store = store_put _ r.4;
      owner = inl (put_there _);
    })

    go : (s : Step) (peek : Bool) (o : Option Hold) → Fine (put_back x h (keep_below (p ++ s ∷ []) (into_child p h d en f cs s peek o)))
    go s peek o = (let r = into_it s peek o in let g = given_up (is_above (p ++ s ∷ [])) (into_child p h d en f cs s peek o).0 in record {
      after = (give_up (is_above (p ++ s ∷ [])) (into_child p h d en f cs s peek o).0).event;
      after_is = refl;
      goes = inl (g.1 ∙ r.2, g.0 ∙ ap₂ (λ i j. i + length j) r.0 r.1 ∙ suc_plus event.sent (length event.held));
      mails = adds_give (Carries {F = F} en.holders) x.cell.mails (is_above (p ++ s ∷ [])) _ free_of r.3;
      store = store_put _ r.4;
      owner = inl (put_there _);
    })

    over : (e : Entry F) → e.holders ≡ en.holders → (r : R) → Fine (over_here x h d e r)
    over e k r = (let g = given_up nothing_kept (record { event = with_status (d).event Ended; mails = (d).mails }) in record {
      after = (after_end d).event;
      after_is = refl;
      goes = inr (g.1, g.0);
      mails = adds_give (Carries {F = F} en.holders) x.cell.mails nothing_kept (record { event = with_status (d).event Ended; mails = (d).mails }) free_of no_change;
      store = store_put e k;
      owner = inl (put_there e);
    })

    away : (e : Entry F) → e.holders ≡ en.holders → (r : R) (to : ℕ) → to ≢ h → Fine (over_there p x h d e r to)
    away e k r to other = (let d' : Desk A F = send (record { event = with_held (d).event (kept_of (not_at p) event.held); mails = (d).mails }) (record { host = to; path = p; letter = Transfer (moved_on e) }) in
        let g = given_up nothing_kept (record { event = with_status d'.event Ended; mails = d'.mails }) in record {
          after = (after_end d').event;
          after_is = refl;
          goes = inr (g.1, g.0 ∙ plus _ _ _ (one_left p event.held once held));
          mails = adds_give (Carries {F = F} en.holders) x.cell.mails nothing_kept (record { event = with_status d'.event Ended; mails = d'.mails }) free_of (adds_send (Carries {F = F} en.holders) x.cell.mails (record { event = with_held (d).event (kept_of (not_at p) event.held); mails = (d).mails }) _ (λ u z. ap (λ (v : Entry F). v.holders) (sym (transfer_is _ _ z)) ∙ k) no_change);
          store = λ i u z. elim (number_cases h i) [
            | inr n ↦ inl (sym (set_there nat_eq x.column.store h None i n) ∙ z)
            | inl n ↦ absurd (none_not (sym (set_at x.column.store h None) ∙ subst (λ j. set nat_eq x.column.store h None j ≡ Some u) (sym n) z))
          ];
          owner = inr (to, suc event.sent, moved_on e, keep_release (left_of nothing_kept (kept_of (not_at p) event.held)) (record { event = with_held (with_status d'.event Ended) (kept_of nothing_kept (kept_of (not_at p) event.held)); mails = d'.mails }) (suc event.sent) (upto (suc event.sent)) ∙ set_at x.cell.mails (suc event.sent) _, other);
        })
      where
        upto : (a : ℕ) → a ≤ a
        upto a = omega arith

        plus : (a c t : ℕ) → suc c ≡ t → suc a + c ≡ a + t
        plus a c t e = omega (arith, e)

    over_one : (e : Entry F) → e.holders ≡ en.holders → (r : R) (m : Option (Path × ℕ)) → Fine (over_by p x h d e r m)
    over_one e k r None = over e k r
    over_one e k r (Some m) = by (m.1 == h) refl
      where
        by : (i : Bool) → (m.1 == h) ≡ i → Fine (if i then over_here x h d e r else over_there p x h d e r m.1)
        by true z = over e k r
        by false z = away e k r m.1 (not_same m.1 h z)

    pauses : (peek : Bool) (u : Pause R) → Fine (after_pause sys p h x d en f cs peek u)
    pauses peek (Go s) = go s peek (hold_at event.held (p ++ s ∷ []))
    pauses peek (Down s) = down s false (hold_at event.held (p ++ s ∷ []))
    pauses peek Pause.Back = record {
      after = (send d (record { host = host_or (hold_at event.held (parent_of p)) h; path = parent_of p; letter = Letter.Back })).event;
      after_is = refl;
      goes = inl (refl, suc_plus event.sent (length event.held));
      mails = adds_send (Carries {F = F} en.holders) x.cell.mails d _ (λ e z. absurd (back_not e z)) no_change;
      store = store_put _ refl;
      owner = inl (put_there _);
    }
    pauses peek (Over r) = over_one (with_body en (Some (record { fields = f; children = cs }))) refl r (sys.moved r)

    looking : (u : Pause R) (y : Part A F R) → after_look x h d en u ≡ Some y → Fine y
    looking (Over r) y e = subst Fine (some_same _ y e) (over en refl r)
    looking (Go s) y e = absurd (none_not e)
    looking (Down s) y e = absurd (none_not e)
    looking Pause.Back y e = absurd (none_not e)

  pub outcome : (t : ℕ) (p : Path) (h : ℕ) (g : Hand A F) (x y : Part A F R) (q : Stopping sys t p h g x y) → Once q.event.held → is_some (hold_at q.event.held p) ≡ true → Outcome p x q.event q.entry h y
  outcome t p h g x y q once held = by (holds_as_peek q.event.held p) q.gives
    where
      by : (i : Bool) → after_stop sys p h x (desk_back x.cell q.event (segment_of sys g).actor) q.entry g.body.children (segment_of sys g) i ≡ Some y → Outcome p x q.event q.entry h y
      by true e = looking p x q.event q.entry h (segment_of sys g).fields g.body.children (segment_of sys g).actor once held (segment_of sys g).pause y e
      by false e = subst (Outcome p x q.event q.entry h) (some_same _ y e) (pauses p x q.event q.entry h (segment_of sys g).fields g.body.children (segment_of sys g).actor once held (sys.peeks (segment_of sys g).actor) (segment_of sys g).pause)
