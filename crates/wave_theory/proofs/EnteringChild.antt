-- An event goes into a child that it doesn't hold: an Enter under the next number.
use Rattle.std.proofs.Common.{◌≡◌, ◌≢◌, ℕ, suc, ◌<◌, ◌≤◌, ◌⊎◌, ◌&&◌, ◌||◌, not, inl, inr, nat_eq, Bool, true, false, Option, Some, None, is_some, List, [], ◌∷◌, ◌++◌, refl, sym, ◌∙◌, ap, subst, arith}
use Rattle.std.specs.Prelude.{cond}
use Rattle.wave_base.specs.declared.path.Step.{Step}
use Rattle.wave_base.specs.declared.path.Path.{Path}
use Rattle.wave_base.specs.declared.children.Child.{Child}
use Rattle.wave_base.specs.Paths.{path_eq, parent_of, is_above, step_eq, step_cmp}
use Rattle.wave_base.specs.Kids.{child_at, with_child}
use Rattle.std.specs.BTreeSet.{insert_key}
use Rattle.wave_states.specs.Actors.{Actors, Left}
use Rattle.wave_states.specs.States.{State, Entry, Event, Hand, Hold, Record, Enter, Mail, Travelling, set, hold_at, steps_of}
use Rattle.wave_states.specs.Steps.{Part, put_back, child_or_new, with_body, part_of}
use Rattle.wave_states.specs.Desks.{Desk, send, give_up, left_of}
use Rattle.wave_theory.proofs.Basics.{bool_cases, clash, some_same, some_not, options, path_self, path_cases, set_at, set_there, set_at_path}
use Rattle.wave_theory.proofs.Order.{Way, IsWay, rank, Entering, Good, visits}
use Rattle.wave_theory.proofs.Ranks.{comes}
use Rattle.wave_theory.proofs.Stops.{next_number, entering_good}
use Rattle.wave_theory.proofs.Leaves.{Course, IsCourse, Segment}
use Rattle.wave_theory.proofs.Tracks.{Trail, unborn}
use Rattle.wave_theory.proofs.Maps.{child_put, steps_put}
use Rattle.wave_theory.proofs.Paths.{path_swap, parent_child, child_not_root, step_is, step_self, last_step}
use Rattle.wave_theory.proofs.Opened.{Stopping}
use Rattle.wave_theory.proofs.Found.{Found, changed}
use Rattle.wave_theory.proofs.Held.{number_in}
use Rattle.wave_theory.proofs.Desks.{DeskShows, send_desk}
use Rattle.wave_theory.proofs.Alive
use Rattle.wave_theory.proofs.Tracks
use Rattle.wave_theory.proofs.Deeds
use Rattle.wave_states.specs.Labels
use Rattle.wave_theory.proofs.Shows
use Rattle.wave_theory.proofs.Stages.{entering_coming, entering_lined}
use Rattle.wave_theory.proofs.Stopping
use Rattle.wave_theory.proofs.GoingOn

module _ {A F R J : Type 0} (sys : Actors A F R J) (w : Way) (law : IsWay w) (course : Course sys) (low : ℕ) (is_real : ℕ → Type 0) (courses : IsCourse sys w course low is_real) where
  abbrev Change : Type 0
  Change = Stopping.Change sys w law course low is_real courses

  abbrev changed_by : Shows.Ghost F → ℕ → Path → Change → Shows.Ghost F
  changed_by = Stopping.changed_by sys w law course low is_real courses

  module _ (s : State A F R J) (g : Shows.Ghost F) (x : Shows.Shows sys w course low is_real s g) (hd : Hand A F) (v h : ℕ) (hand_is : s.hands v ≡ Some hd) (y : Part A F R) (q : Stopping sys hd.ticket hd.path h hd (part_of s hd.ticket hd.path) y) where
    abbrev t : ℕ
    t = hd.ticket

    abbrev p : Path
    p = hd.path

    abbrev k : ℕ
    k = g.lines.pos hd.ticket

    abbrev hs : Shows.HandShows sys w course low is_real g v hd
    hs = Stopping.hs sys w law course low is_real courses s g x hd v h hand_is y q

    abbrev en : Shows.EntryShows sys w course low is_real g p
    en = Stopping.en sys w law course low is_real courses s g x hd v h hand_is y q

    abbrev f : Found sys w course low is_real g p (s.columns p) h q.entry
    f = Stopping.f sys w law course low is_real courses s g x hd v h hand_is y q

    abbrev holds_p : g.lines.holds p t ≡ true
    holds_p = Stopping.holds_p sys w law course low is_real courses s g x hd v h hand_is y q

    abbrev held_is : (r : Path) → is_some (hold_at q.event.held r) ≡ w.held t k r
    held_is = Stopping.held_is sys w law course low is_real courses s g x hd v h hand_is y q

    abbrev seg : Segment sys w course t k
    seg = Stopping.seg sys w law course low is_real courses s g x hd v h hand_is y q

    abbrev left : Left A F R
    left = sys.segment (seg).actor (course.leaf t k (w.place t k)).0 (course.leaf t k (w.place t k)).1

    abbrev IsChange : (z : Change) → Type 0
    IsChange = Stopping.IsChange sys w law course low is_real courses s g x hd v h hand_is y q

    abbrev kids_by : (z : Change) → ((u : Step) (a : Child) → child_at z.body.children u ≡ Some a → (child_at (g.body p).children u ≡ Some a) ⊎ (0 < a.given)) → Deeds.Kids sys w course low is_real s g (changed_by g t p z) t p
    kids_by = Stopping.kids_by sys w law course low is_real courses s g x hd v h hand_is y q

    abbrev Lives : (z : Change) → Type 0
    Lives = Stopping.Lives sys w law course low is_real courses s g x hd v h hand_is y q

    -- the desk with these held paths, after the change
    abbrev desk_with : List (Path × Hold) → Desk A F
    desk_with hl = record { event = record { actor = Some (left).actor; held = hl; sent = q.event.sent; status = Travelling }; mails = (s.cells t).mails }

    abbrev PutBack : (z : Change) → Type 0
    PutBack = Stopping.PutBack sys w law course low is_real courses s g x hd v h hand_is y q

    abbrev keeps : Bool → Path → Step → Path → Bool
    keeps true P st r = is_above (P ++ st ∷ []) r && w.held t k r
    keeps false P st r = w.held t k r

    abbrev InFacts : (P : Path) (st : Step) (peek go : Bool) → Type 0
    InFacts = GoingOn.InFacts sys w law course low is_real courses s g x hd v h hand_is y q

    abbrev finish : Bool → Path → Desk A F → Desk A F
    finish true r d = give_up (is_above r) d
    finish false r d = d

    abbrev parting_now : Bool → Path → Path → ℕ
    parting_now true a r = number_in (left_of (is_above a) q.event.held) (suc q.event.sent) (g.parting t r) r
    parting_now false a r = g.parting t r

    abbrev child_trail : Option Child → Trail → Trail
    child_trail None r = unborn h
    child_trail (Some a) r = r

    abbrev child_trail_some : (o : Option Child) (a : Child) (r : Trail) → o ≡ Some a → child_trail o r ≡ r
    child_trail_some = GoingOn.child_trail_some sys w law course low is_real courses s g x hd v h hand_is y q

    abbrev child_trail_none : (o : Option Child) (r : Trail) → o ≡ None → child_trail o r ≡ unborn h
    child_trail_none = GoingOn.child_trail_none sys w law course low is_real courses s g x hd v h hand_is y q

    module _ (st : Step) (peek go : Bool) (i : InFacts p st peek go) where
      abbrev child_path : Path
      child_path = p ++ st ∷ []

      abbrev off : w.looks t p ≡ false
      off = GoingOn.off sys w law course low is_real courses s g x hd v h hand_is y q st peek go i

      abbrev whole : hd.body ≡ g.body p
      whole = GoingOn.whole sys w law course low is_real courses s g x hd v h hand_is y q st peek go i

      abbrev apart_p : path_eq child_path p ≡ false
      apart_p = GoingOn.apart_p sys w law course low is_real courses s g x hd v h hand_is y q st peek go i

      abbrev child_parting : Alive.Alive sys w course low is_real s g → (m : Mail F) → (r : Path) → g.lines.holds r t ≡ true → w.held t (suc k) r ≡ false → Alive.PartingThere (finish go child_path (send (desk_with q.event.held) m)).mails (parting_now go child_path r) r
      child_parting = GoingOn.child_parting sys w law course low is_real courses s g x hd v h hand_is y q st peek go i

      abbrev child_zero : (m : Mail F) → (s.cells t).mails 0 ≡ None → (finish go child_path (send (desk_with q.event.held) m)).mails 0 ≡ None
      child_zero = GoingOn.child_zero sys w law course low is_real courses s g x hd v h hand_is y q st peek go i

      abbrev kid_housed : Alive.Alive sys w course low is_real s g → (o : Option Child) (i : ℕ) → i ≤ (child_trail o (g.trail child_path)).last → (child_trail o (g.trail child_path)).at i < course.hosts
      kid_housed = GoingOn.kid_housed sys w law course low is_real courses s g x hd v h hand_is y q st peek go i

      abbrev child_main : (m : Mail F) → (finish go child_path (send (desk_with q.event.held) m)).mails (suc q.event.sent) ≡ Some m
      child_main = GoingOn.child_main sys w law course low is_real courses s g x hd v h hand_is y q st peek go i

      -- a child that is not held: an Enter under the next number
      module _ (none : hold_at q.event.held child_path ≡ None) where
        fresh_now : w.fresh t (suc k) ≡ true
        fresh_now = i.fresh_is ∙ ap not (sym (held_is child_path) ∙ ap is_some none)

        abbrev pub kid : Child
        kid = child_or_new (child_at hd.body.children st) h

        abbrev pub next_kid : Child
        next_kid = record { given = suc (kid).given; birth = (kid).birth }

        abbrev pub body_new : Record F
        body_new = record { fields = (left).fields; children = with_child hd.body.children st next_kid }

        abbrev pub z_new : Change
        z_new = record {
          stage = Entering;
          given = set path_eq g.lines.given child_path (suc (g.lines.given child_path));
          main = suc q.event.sent;
          parting = parting_now go child_path;
          entry = with_body q.entry (Some body_new);
          body = body_new;
          trail = set path_eq g.trail child_path (child_trail (child_at hd.body.children st) (g.trail child_path));
        }

        kid_given : (kid).given ≡ g.lines.given child_path
        kid_given = GoingOn.child_given sys w law course low is_real courses s g x hd v h hand_is y q (child_at hd.body.children st) h 0 ∙ ap (λ u. Shows.given_of u st) whole ∙ en.given st

        trail_off : (r : Path) → path_eq child_path r ≡ false → (z_new).trail r ≡ g.trail r
        trail_off r d = set_there path_eq g.trail child_path _ r d

        stranger : child_at hd.body.children st ≡ None → child_at (g.body p).children st ≡ None
        stranger e = ap (λ u. child_at u.children st) (sym whole) ∙ e

        trail_or : (r : Path) → ((z_new).trail r ≡ g.trail r) ⊎ ((child_path ≡ r) × (child_at hd.body.children st ≡ None))
        trail_or r = elim (path_cases child_path r) [
          | inr d ↦ inl (trail_off r d)
          | inl d ↦ elim (options (child_at hd.body.children st)) [
            | inl e ↦ inr (d, e)
            | inr e ↦ inl (subst (λ a. (z_new).trail a ≡ g.trail a) d (set_at_path g.trail child_path _ ∙ child_trail_some _ e.0 (g.trail child_path) e.1))
          ]
        ]

        -- where something is born, its trail stays
        trail_born : (r : Path) → g.born r ≡ true → (z_new).trail r ≡ g.trail r
        trail_born r b = elim (trail_or r) [ inl e ↦ e | inr e ↦ absurd (clash _ b (subst (λ a. g.born a ≡ false) e.0 (en.strangers st (stranger e.1)))) ]

        trail_held : (r : Path) → g.lines.holds r t ≡ true → (z_new).trail r ≡ g.trail r
        trail_held r m = trail_born r (elim (bool_cases (g.born r)) [ inl b ↦ b | inr b ↦ absurd (clash _ m (sym ((x.entries r).holders t) ∙ ap (λ u. Shows.holds_claim u.holders t) ((x.entries r).unborn b))) ])

        enter_now : Shows.EnterShows sys w course low is_real (changed_by g t p z_new) t (suc q.event.sent) (kid).birth.0 child_path (record { number = suc (kid).given; followed = 0; peek = peek })
        enter_now = record {
          stage = set_at g.lines.stage t Entering;
          place = sym i.place_is ∙ ap (w.place t) (sym (set_at g.lines.pos t (suc k)));
          number = ap suc kid_given ∙ sym (subst (λ r. rank w r t ≡ suc (g.lines.given r)) i.place_is (next_number law g.lines t x.good (omega (arith, hs.later)) hs.known hs.stage i.more fresh_now));
          peek = sym (i.looks_is fresh_now);
          main = sym (set_at g.main t (suc q.event.sent));
          followed = omega arith;
          host_is = by (child_at hd.body.children st) refl;
        }
          where
            by : (o : Option Child) → child_at hd.body.children st ≡ o → (child_or_new o h).birth.0 ≡ ((z_new).trail child_path).at 0
            by None e = sym (ap (λ r. r.at 0) (set_at_path g.trail child_path _ ∙ child_trail_none _ (g.trail child_path) e))
            by (Some a) e = en.births st a (ap (λ u. child_at u.children st) (sym whole) ∙ e) ∙ sym (ap (λ r. r.at 0) (set_at_path g.trail child_path _ ∙ child_trail_some _ a (g.trail child_path) e))

        desk_new : DeskShows sys w course low is_real (changed_by g t p z_new) t (send (desk_with q.event.held) (record { host = (kid).birth.0; path = child_path; letter = Enter (record { number = suc (kid).given; followed = 0; peek = peek }) })) (λ r. w.held t k r) (Some (left).actor) Travelling
        desk_new = send_desk sys w course low is_real (changed_by g t p z_new) t (desk_with q.event.held) (λ r. w.held t k r) (Some (left).actor) Travelling _
            (Stopping.base_desk sys w law course low is_real courses s g x hd v h hand_is y q z_new (record { trail = λ r m n. trail_held r m; parting = λ r e. GoingOn.parting_old sys w law course low is_real courses s g x hd v h hand_is y q go child_path r e }) q.event.held (λ r. w.held t k r) held_is (λ r a e. (e, trail_held r (Stopping.holds_held sys w law course low is_real courses s g x hd v h hand_is y q r (sym (held_is r) ∙ ap is_some e)))) (Stopping.once_held sys w law course low is_real courses s g x hd v h hand_is y q)) enter_now

        in_hand_new : (a : Path) → keeps go p st a ≡ (w.held t (suc k) a && not (true && path_eq (w.place t (suc k)) a))
        in_hand_new a = sym (ap (λ j. j && not (path_eq (w.place t (suc k)) a)) (i.held_is a) ∙ ap (λ j. (keeps go p st a || (j && path_eq a child_path)) && not (path_eq (w.place t (suc k)) a)) fresh_now
            ∙ ap (λ r. (keeps go p st a || path_eq a child_path) && not (path_eq r a)) i.place_is ∙ ap (λ j. (keeps go p st a || j) && not (path_eq child_path a)) (path_swap a child_path) ∙ (elim (path_cases child_path a) [
              | inr d ↦ ap (λ j. (keeps go p st a || j) && not j) d ∙ plain (keeps go p st a)
              | inl d ↦ subst (λ r. ((keeps go p st r || path_eq child_path r) && not (path_eq child_path r)) ≡ keeps go p st r) d (ap (λ j. (keeps go p st child_path || path_eq child_path child_path) && not j) (path_self child_path) ∙ none_there (keeps go p st child_path || path_eq child_path child_path) (keeps go p st child_path) (not_kept go))
            ]))
          where
            plain : (a : Bool) → ((a || false) && true) ≡ a
            plain a = grind arith

            none_there : (a b : Bool) → b ≡ false → (a && false) ≡ b
            none_there a b e = grind arith

            child_off : w.held t k child_path ≡ false
            child_off = sym (held_is child_path) ∙ ap is_some none

            not_kept : (j : Bool) → keeps j p st child_path ≡ false
            not_kept false = child_off
            not_kept true = ap (λ u. is_above child_path child_path && u) child_off ∙ and_none (is_above child_path child_path)
              where
                and_none : (a : Bool) → (a && false) ≡ false
                and_none a = grind arith

        other_step : (u : Step) → (st ≡ u → ⊥) → path_eq child_path (p ++ u ∷ []) ≡ false
        other_step u n = elim (path_cases child_path (p ++ u ∷ [])) [ inr d ↦ d | inl d ↦ absurd (n (last_step p st u d)) ]

        step_or : (u : Step) → ((step_eq u st ≡ true) × (st ≡ u)) ⊎ ((step_eq u st ≡ false) × (path_eq child_path (p ++ u ∷ []) ≡ false))
        step_or u = elim (bool_cases (step_eq u st)) [
          | inl e ↦ inl (e, sym (step_is u st e))
          | inr e ↦ inr (e, other_step u (λ n. clash _ (subst (λ a. step_eq a st ≡ true) n (step_self st)) e))
        ]

        put_back_new : PutBack z_new
        put_back_new = record {
          looks = off;
          entry = refl;
          given = λ u. ap (λ o. (child_or_new o 0).given) (child_put hd.body.children st u next_kid) ∙ (elim (step_or u) [
            | inl e ↦ ap (λ j. (child_or_new (cond j (Some next_kid) (child_at hd.body.children u)) 0).given) e.0 ∙ ap suc kid_given ∙ sym (subst (λ a. (z_new).given (p ++ a ∷ []) ≡ suc (g.lines.given child_path)) e.1 (set_at_path g.lines.given child_path _))
            | inr e ↦ ap (λ j. (child_or_new (cond j (Some next_kid) (child_at hd.body.children u)) 0).given) e.0 ∙ ap (λ a. Shows.given_of a u) whole ∙ en.given u ∙ sym (set_there path_eq g.lines.given child_path _ (p ++ u ∷ []) e.1)
          ]);
          births = λ u a e. elim (step_or u) [
            | inl n ↦ (let y : next_kid ≡ a = some_same _ a (ap (λ j. cond j (Some next_kid) (child_at hd.body.children u)) (sym n.0) ∙ sym (child_put hd.body.children st u next_kid) ∙ e) in
                ap (λ j. j.birth.0) (sym y) ∙ subst (λ b. (kid).birth.0 ≡ ((z_new).trail (p ++ b ∷ [])).at 0) n.1 enter_now.host_is)
            | inr n ↦ en.births u a (ap (λ j. child_at j.children u) (sym whole) ∙ ap (λ j. cond j (Some next_kid) (child_at hd.body.children u)) (sym n.0) ∙ sym (child_put hd.body.children st u next_kid) ∙ e) ∙ ap (λ r. r.at 0) (sym (trail_off (p ++ u ∷ []) n.1))
          ];
          strangers = λ u e. elim (step_or u) [
            | inl n ↦ absurd (some_not (ap (λ j. cond j (Some next_kid) (child_at hd.body.children u)) (sym n.0) ∙ sym (child_put hd.body.children st u next_kid) ∙ e))
            | inr n ↦ en.strangers u (ap (λ j. child_at j.children u) (sym whole) ∙ ap (λ j. cond j (Some next_kid) (child_at hd.body.children u)) (sym n.0) ∙ sym (child_put hd.body.children st u next_kid) ∙ e)
          ];
          moves = ap (λ (u : Entry F). u.moves) f.entry_is ∙ en.moves ∙ ap (λ r. r.last) (sym (trail_off p apart_p));
        }

        abbrev pub y_new : Part A F R
        y_new = put_back (part_of s t p) h (finish go child_path (send (desk_with q.event.held) (record { host = (kid).birth.0; path = child_path; letter = Enter (record { number = suc (kid).given; followed = 0; peek = peek }) })), with_body q.entry (Some body_new))

        pub is_new : y ≡ y_new → IsChange z_new
        is_new ye = record {
          good = subst (λ r. Good w (record { admitted = g.lines.admitted; pos = set nat_eq g.lines.pos t (suc k); stage = set nat_eq g.lines.stage t Entering; served = g.lines.served; given = set path_eq g.lines.given r (suc (g.lines.given r)); holds = g.lines.holds })) i.place_is (entering_good law g.lines t x.good (omega (arith, hs.later)) hs.known hs.stage i.more fresh_now);
          given_ok = λ r u d. set_there path_eq g.lines.given child_path _ (r ++ u ∷ []) (elim (path_cases child_path (r ++ u ∷ [])) [ inr n ↦ n | inl n ↦ absurd (clash _ (subst (λ a. path_eq p a ≡ true) (sym (parent_child p st) ∙ ap parent_of n ∙ parent_child r u) (path_self p)) d) ]);
          trail_ok = λ r d. elim (trail_or r) [
            | inl e ↦ inl e
            | inr e ↦ inr (subst (λ a. (g.lines.given a ≡ 0) × (g.born a ≡ false) × ((z_new).trail a).last ≡ 0 × ((parent_of a ≡ p) × (a ≢ []))) e.0 (
              sym (en.given st) ∙ ap (λ o. (child_or_new o 0).given) (stranger e.1),
              en.strangers st (stranger e.1),
              ap (λ a. a.last) (set_at_path g.trail child_path _ ∙ child_trail_none _ (g.trail child_path) e.1),
              (parent_child p st, child_not_root p st),
            ))
          ];
          birth_ok = ap (λ r. r.at 0) (trail_off p apart_p);
          longer_ok = inl (trail_off p apart_p);
          body_ok = λ e. absurd (clash _ e off);
          like = record { fields = sym i.fields; steps = steps_put hd.body.children st next_kid ∙ ap (λ u. insert_key step_cmp (steps_of u.children) st) whole ∙ ap (λ u. insert_key step_cmp u st) (Stopping.like sys w law course low is_real courses s g x hd v h hand_is y q).steps ∙ sym (i.steps_new fresh_now) };
          cell = subst (λ (u : Part A F R). Shows.CellShows sys w course low is_real (changed_by g t p z_new) t u.cell) (sym ye)
              (Stopping.goes_on_cell sys w law course low is_real courses s g x hd v h hand_is y q z_new (finish go child_path _) (keeps go p st) (s.cells t).result (GoingOn.finished sys w law course low is_real courses s g x hd v h hand_is y q st peek go i z_new refl _ refl refl desk_new) (inr refl) in_hand_new ((Stopping.c sys w law course low is_real courses s g x hd v h hand_is y q).result ∙ seg.no_result ∙ sym i.no_result));
          entry = Stopping.entry_back sys w law course low is_real courses s g x hd v h hand_is y q z_new put_back_new;
          column = subst (λ (u : Part A F R). Shows.ColumnShows sys w course low is_real (g.born p) (changed_by g t p z_new) p u.column) (sym ye)
              (changed sys w course low is_real g (changed_by g t p z_new) p (s.columns p) h q.entry (with_body q.entry (Some body_new)) f refl (trail_off p apart_p) (set_at_path g.entry p _));
        }

        pub turn_new : Deeds.Turn sys w course low is_real s g (changed_by g t p z_new) (Labels.Stop t p)
        turn_new = record {
          deed = Deeds.Goes_in st (child_trail (child_at hd.body.children st) (g.trail child_path));
          suits = tt;
          is = refl;
          fits = record {
            stopped = record { stage = hs.stage; place = sym hs.place; born = f.born; stored = f.stored };
            more = i.more;
            fresh = fresh_now;
            next = i.place_is;
            latest = x.good.latest t p holds_p off;
            number = subst (λ r. rank w r t ≡ suc (g.lines.given r)) i.place_is (next_number law g.lines t x.good (omega (arith, hs.later)) hs.known hs.stage i.more fresh_now);
            trail = elim (options (child_at hd.body.children st)) [
              | inl e ↦ inr (child_trail_none _ (g.trail child_path) e ∙ ap unborn f.host_is, sym (en.given st) ∙ ap (λ o. (child_or_new o 0).given) (stranger e), en.strangers st (stranger e))
              | inr a ↦ inl (a.0, ap (λ u. child_at u.children st) (sym whole) ∙ a.1, child_trail_some _ a.0 (g.trail child_path) a.1)
            ];
            main = λ e u. set_at g.main t (suc q.event.sent) ∙ ap (λ (a : Event A). suc a.sent) (some_same q.event e (sym q.event_is ∙ u));
          };
          kids = kids_by z_new (λ u a e. elim (step_or u) [
            | inl n ↦ (let y : next_kid ≡ a = some_same _ a (ap (λ j. cond j (Some next_kid) (child_at hd.body.children u)) (sym n.0) ∙ sym (child_put hd.body.children st u next_kid) ∙ e) in inr (subst (λ (j : Child). 0 < j.given) y (omega arith)))
            | inr n ↦ inl (ap (λ j. child_at j.children u) (sym whole) ∙ ap (λ j. cond j (Some next_kid) (child_at hd.body.children u)) (sym n.0) ∙ sym (child_put hd.body.children st u next_kid) ∙ e)
          ]);
        }

        pub lives_new : y ≡ y_new → Alive.Alive sys w course low is_real s g → Lives z_new
        lives_new ye a = record {
          waiting = refl;
          entering = λ e. record { mail = mail_new; there = ap (λ (u : Part A F R). u.cell.mails (suc q.event.sent)) ye ∙ child_main mail_new; ask = record { number = suc (kid).given; followed = 0; peek = peek }; letter = refl };
          coming = λ e. absurd (entering_coming e);
          parting = λ r h n. subst (λ (u : Part A F R). Alive.PartingThere u.cell.mails (parting_now go child_path r) r) (sym ye) (child_parting a mail_new r h n);
          lined = λ e. absurd (entering_lined e);
          away = λ e. absurd (clash _ f.stored (ap (λ j. j.stored) (sym (trail_off p apart_p)) ∙ e));
          kids = λ u o e. elim (step_or u) [ inl n ↦ inr (record { ticket = t; first = omega (arith, hs.later); known = hs.known; comes = subst (λ i. visits w t (p ++ i ∷ []) ≡ true) n.1 comes_now }) | inr n ↦ elim (a.kids p u o (ap (λ j. child_at j.children u) (sym whole) ∙ ap (λ j. cond j (Some next_kid) (child_at hd.body.children u)) (sym n.0) ∙ sym (child_put hd.body.children st u next_kid) ∙ ap (λ (b : Record F). child_at b.children u) (sym (set_at_path g.body p body_new)) ∙ e)) [ inl m ↦ inl m | inr m ↦ inr (record { ticket = m.ticket; first = m.first; known = m.known; comes = m.comes }) ] ];
          housed = Tracks.housed_set course.hosts g.trail child_path (child_trail (child_at hd.body.children st) (g.trail child_path)) a.housed (λ i m. kid_housed a (child_at hd.body.children st) i m);
          no_zero = ap (λ (u : Part A F R). u.cell.mails 0) ye ∙ child_zero mail_new (a.no_zero t);
          waits_next = λ f o. refl;
          stale = λ e. absurd (entering_coming e);
        }
          where
            comes_now : visits w t child_path ≡ true
            comes_now = subst (λ r. visits w t r ≡ true) i.place_is (comes law t (suc k) (w.place t (suc k)) (omega (arith, i.more)) (law.held_entered t (suc k) (w.place t (suc k)) (law.at_held t (suc k) i.more)))

            mail_new : Mail F
            mail_new = record { host = (kid).birth.0; path = child_path; letter = Enter (record { number = suc (kid).given; followed = 0; peek = peek }) }
