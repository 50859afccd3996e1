-- A Stop keeps what the state shows, whatever its pause.
use Rattle.std.proofs.Common.{◌≡◌, ℕ, ◌==◌, inl, inr, nat_eq, Bool, true, false, Option, Some, None, [], ◌∷◌, ◌++◌, refl, sym, ◌∙◌, ap, subst, suc}
use Rattle.std.specs.Prelude.{if◌then◌else◌}
use Rattle.wave_base.specs.declared.path.Step.{Step}
use Rattle.wave_base.specs.declared.path.Path.{Path}
use Rattle.wave_states.specs.Actors.{Actors, Left, Pause, Go, Down, Over}
use Rattle.wave_states.specs.States.{State, Hand, Hold, hold_at, holds_as_peek, set}
use Rattle.wave_states.specs.Steps.{Part, with_bench, after_stop, after_look, after_pause, into_child, over_here, over_there, over_by, put_back, desk_back, with_body, part_of}
use Rattle.wave_states.specs.Desks.{Desk}
use Rattle.wave_theory.proofs.Basics.{bool_cases, some_same, number_self, number_cases, not_same}
use Rattle.wave_theory.proofs.Order.{Way, IsWay}
use Rattle.wave_theory.proofs.Leaves.{Course, IsCourse, Segment}
use Rattle.wave_theory.proofs.Opened.{Stopping}
use Rattle.wave_theory.proofs.Alive
use Rattle.wave_theory.proofs.Tallies
use Rattle.wave_theory.proofs.Deeds
use Rattle.wave_states.specs.Labels
use Rattle.wave_theory.proofs.Shows
use Rattle.wave_theory.proofs.Leaves.{Follows}
use Rattle.wave_theory.proofs.EnteringChild
use Rattle.wave_theory.proofs.GoingOn
use Rattle.wave_theory.proofs.MovingAway
use Rattle.wave_theory.proofs.Parting
use Rattle.wave_theory.proofs.Stopping

same_pair : {X Y : Type 0} (a c : X) (b d : Y) → a ≡ c → b ≡ d → ◌≡◌ {A = X × Y} (a, b) (c, d)
same_pair a c b d e f = λ i. (e i, f i)

module _ {A F R J : Type 0} (sys : Actors A F R J) (w : Way) (law : IsWay w) (course : Course sys) (low : ℕ) (is_real : ℕ → Type 0) (courses : IsCourse sys w course low is_real) where
  module _ (s : State A F R J) (g : Shows.Ghost F) (x : Shows.Shows sys w course low is_real s g) (hd : Hand A F) (v h : ℕ) (hand_is : s.hands v ≡ Some hd) (y : Part A F R) (q : Stopping sys hd.ticket hd.path h hd (part_of s hd.ticket hd.path) y) where
    abbrev t : ℕ
    t = hd.ticket

    abbrev p : Path
    p = hd.path

    abbrev pub Turned : Shows.Ghost F → Type 0
    Turned g' = Deeds.Turn sys w course low is_real s g g' (Labels.Stop hd.ticket hd.path)

    abbrev Changed : Type 0
    Changed = (z : Stopping.Change sys w law course low is_real courses) × Stopping.IsChange sys w law course low is_real courses s g x hd v h hand_is y q z × (Alive.Alive sys w course low is_real s g → Stopping.Lives sys w law course low is_real courses s g x hd v h hand_is y q z) × Turned (Stopping.changed_by sys w law course low is_real courses g t p z)

    abbrev left : Left A F R
    left = Stopping.left sys w law course low is_real courses s g x hd v h hand_is y q

    abbrev seg : Segment sys w course hd.ticket (g.lines.pos hd.ticket)
    seg = Stopping.seg sys w law course low is_real courses s g x hd v h hand_is y q

    place_is : hd.path ≡ w.place hd.ticket (g.lines.pos hd.ticket)
    place_is = (Stopping.hs sys w law course low is_real courses s g x hd v h hand_is y q).place

    abbrev desk : Desk A F
    desk = Stopping.desk_with sys w law course low is_real courses s g x hd v h hand_is y q q.event.held

    gives : after_stop sys p h (part_of s t p) desk q.entry hd.body.children left (w.looks t p) ≡ Some y
    gives = subst (λ i. after_stop sys p h (part_of s t p) desk q.entry hd.body.children left i ≡ Some y) (Stopping.peek_is sys w law course low is_real courses s g x hd v h hand_is y q)
        (subst (λ (l : Left A F R). after_stop sys p h (part_of s t p) (desk_back (s.cells t) q.event l.actor) q.entry hd.body.children l (holds_as_peek q.event.held p) ≡ Some y) (Stopping.segment_is sys w law course low is_real courses s g x hd v h hand_is y q) q.gives)

    follows : (u : Pause R) → (left).pause ≡ u → Follows sys w course t (g.lines.pos t) left u
    follows u e = subst (Follows sys w course t (g.lines.pos t) left) e seg.follows

    -- into a child
    into_it : (st : Step) (peek go : Bool) (i : GoingOn.InFacts sys w law course low is_real courses s g x hd v h hand_is y q p st peek go) → (o : Option Hold) → hold_at q.event.held (p ++ st ∷ []) ≡ o →
        y ≡ put_back (part_of s t p) h (GoingOn.finish sys w law course low is_real courses s g x hd v h hand_is y q go (p ++ st ∷ []) (into_child p h desk q.entry (left).fields hd.body.children st peek o).0, (into_child p h desk q.entry (left).fields hd.body.children st peek o).1) → Changed
    into_it st peek go i None e k = (EnteringChild.z_new sys w law course low is_real courses s g x hd v h hand_is y q st peek go i e, EnteringChild.is_new sys w law course low is_real courses s g x hd v h hand_is y q st peek go i e k, EnteringChild.lives_new sys w law course low is_real courses s g x hd v h hand_is y q st peek go i e k, EnteringChild.turn_new sys w law course low is_real courses s g x hd v h hand_is y q st peek go i e)
    into_it st peek go i (Some a) e k = (GoingOn.z_old sys w law course low is_real courses s g x hd v h hand_is y q st peek go i a e, GoingOn.is_old sys w law course low is_real courses s g x hd v h hand_is y q st peek go i a e k, GoingOn.lives_old sys w law course low is_real courses s g x hd v h hand_is y q st peek go i a e k, GoingOn.turn_old sys w law course low is_real courses s g x hd v h hand_is y q st peek go i a e)

    over_it : w.looks t p ≡ false → (r : R) → Parting.EndFacts sys w law course low is_real courses s g x hd v h hand_is y q p r → (m : Option (Path × ℕ)) → sys.moved r ≡ m → y ≡ over_by p (part_of s t p) h desk (with_body q.entry (Some (record { fields = (left).fields; children = hd.body.children }))) r m → Changed
    over_it off r i None mv k = (Parting.z_end sys w law course low is_real courses s g x hd v h hand_is y q r i off, Parting.is_end sys w law course low is_real courses s g x hd v h hand_is y q r i off k, Parting.lives_end sys w law course low is_real courses s g x hd v h hand_is y q r i off k, Parting.turn_end sys w law course low is_real courses s g x hd v h hand_is y q r i off (inl mv))
    over_it off r i (Some m) mv k = elim (number_cases m.1 h) [
      | inl e ↦ (Parting.z_end sys w law course low is_real courses s g x hd v h hand_is y q r i off, Parting.is_end sys w law course low is_real courses s g x hd v h hand_is y q r i off (k ∙ choose_first m.1 e), Parting.lives_end sys w law course low is_real courses s g x hd v h hand_is y q r i off (k ∙ choose_first m.1 e), Parting.turn_end sys w law course low is_real courses s g x hd v h hand_is y q r i off (inr (mv ∙ ap Some (same_pair m.0 hd.path m.1 _ (i.moves m.0 m.1 mv).0 (e ∙ (Stopping.f sys w law course low is_real courses s g x hd v h hand_is y q).host_is)))))
      | inr e ↦ (MovingAway.z_moved sys w law course low is_real courses s g x hd v h hand_is y q r i off m.1 (not_same m.1 h e), MovingAway.is_moved sys w law course low is_real courses s g x hd v h hand_is y q r i off m.1 (not_same m.1 h e) (k ∙ choose_second m.1 e), MovingAway.lives_moved sys w law course low is_real courses s g x hd v h hand_is y q r i off m.1 (not_same m.1 h e) (i.moves m.0 m.1 mv).1 (k ∙ choose_second m.1 e), MovingAway.turn_moved sys w law course low is_real courses s g x hd v h hand_is y q r i off m.1 (not_same m.1 h e) (mv ∙ ap Some (same_pair m.0 hd.path m.1 m.1 (i.moves m.0 m.1 mv).0 refl)))
    ]
      where
        here : Part A F R
        here = over_here (part_of s t p) h desk (with_body q.entry (Some (record { fields = (left).fields; children = hd.body.children }))) r

        there : ℕ → Part A F R
        there to = over_there p (part_of s t p) h desk (with_body q.entry (Some (record { fields = (left).fields; children = hd.body.children }))) r to

        choose_first : (to : ℕ) → to ≡ h → (if to == h then here else there to) ≡ here
        choose_first to e = ap (λ i. if i then here else there to) (subst (λ a. nat_eq to a ≡ true) e (number_self to))

        choose_second : (to : ℕ) → nat_eq to h ≡ false → (if to == h then here else there to) ≡ there to
        choose_second to e = ap (λ i. if i then here else there to) e

    pub change : Changed
    change = elim (bool_cases (w.looks t p)) [
      | inl looks_on ↦ looked_case looks_on (seg.ends (subst (λ r. w.looks t r ≡ true) place_is looks_on)) (subst (λ i. after_stop sys p h (part_of s t p) desk q.entry hd.body.children left i ≡ Some y) looks_on gives)
      | inr off ↦ plain_case off (left).pause refl (some_same _ y (subst (λ i. after_stop sys p h (part_of s t p) desk q.entry hd.body.children left i ≡ Some y) off gives))
    ]
      where
        looked_case : w.looks t p ≡ true → (r : R) × ((left).pause ≡ Over r) → after_look (part_of s t p) h desk q.entry (left).pause ≡ Some y → Changed
        looked_case looks_on r e = (let i = Parting.end_facts sys w law course low is_real courses s g x hd v h hand_is y q r.0 (follows (Over r.0) r.1) in
            (Parting.z_look sys w law course low is_real courses s g x hd v h hand_is y q r.0 i looks_on, Parting.is_look sys w law course low is_real courses s g x hd v h hand_is y q r.0 i looks_on (sym (some_same _ y (subst (λ u. after_look (part_of s t p) h desk q.entry u ≡ Some y) r.1 e))), Parting.lives_look sys w law course low is_real courses s g x hd v h hand_is y q r.0 i looks_on (sym (some_same _ y (subst (λ u. after_look (part_of s t p) h desk q.entry u ≡ Some y) r.1 e))), Parting.turn_look sys w law course low is_real courses s g x hd v h hand_is y q r.0 i looks_on))

        plain_case : w.looks t p ≡ false → (u : Pause R) → (left).pause ≡ u → after_pause sys p h (part_of s t p) desk q.entry (left).fields hd.body.children (sys.peeks (left).actor) (left).pause ≡ y → Changed
        plain_case off (Go st) e k = into_it st (sys.peeks (left).actor) true (GoingOn.go_facts sys w law course low is_real courses s g x hd v h hand_is y q st (follows (Go st) e)) (hold_at q.event.held (p ++ st ∷ [])) refl
            (sym k ∙ ap (after_pause sys p h (part_of s t p) desk q.entry (left).fields hd.body.children (sys.peeks (left).actor)) e)
        plain_case off (Down st) e k = into_it st false false (GoingOn.down_facts sys w law course low is_real courses s g x hd v h hand_is y q st (follows (Down st) e)) (hold_at q.event.held (p ++ st ∷ [])) refl
            (sym k ∙ ap (after_pause sys p h (part_of s t p) desk q.entry (left).fields hd.body.children (sys.peeks (left).actor)) e)
        plain_case off Pause.Back e k = (let i = GoingOn.back_facts sys w law course low is_real courses s g x hd v h hand_is y q (follows Pause.Back e) in
            (GoingOn.z_back sys w law course low is_real courses s g x hd v h hand_is y q i, GoingOn.is_back sys w law course low is_real courses s g x hd v h hand_is y q i (sym k ∙ ap (after_pause sys p h (part_of s t p) desk q.entry (left).fields hd.body.children (sys.peeks (left).actor)) e), GoingOn.lives_back sys w law course low is_real courses s g x hd v h hand_is y q i (sym k ∙ ap (after_pause sys p h (part_of s t p) desk q.entry (left).fields hd.body.children (sys.peeks (left).actor)) e), GoingOn.turn_back sys w law course low is_real courses s g x hd v h hand_is y q i))
        plain_case off (Over r) e k = over_it off r (Parting.end_facts sys w law course low is_real courses s g x hd v h hand_is y q r (follows (Over r) e)) (sys.moved r) refl
            (sym k ∙ ap (after_pause sys p h (part_of s t p) desk q.entry (left).fields hd.body.children (sys.peeks (left).actor)) e)

    pub record Stopped_state : Type 0 where
      pub ghost : Shows.Ghost F
      pub shows : Shows.Shows sys w course low is_real (with_bench s hd.ticket hd.path v (record { part = y; hand = None })) ghost
      pub turn : Turned ghost
      pub alive : Alive.Alive sys w course low is_real s g → Alive.Alive sys w course low is_real (with_bench s hd.ticket hd.path v (record { part = y; hand = None })) ghost
      pub tally : Alive.Alive sys w course low is_real s g → (n : ℕ → ℕ) → Tallies.Tally sys w course low is_real g n → Tallies.Tally sys w course low is_real ghost (set nat_eq n t (suc (n t)))

    pub stop_keeps : Stopped_state
    stop_keeps = by change
      where
        by : Changed → Stopped_state
        by z = record {
          ghost = Stopping.changed_by sys w law course low is_real courses g t p z.0;
          shows = Stopping.stop_shows sys w law course low is_real courses s g x hd v h hand_is y q z.0 z.1;
          turn = z.3;
          alive = λ a. Stopping.stop_alive sys w law course low is_real courses s g x hd v h hand_is y q z.0 z.1 (z.2 a) a;
          tally = λ a n u. Stopping.stop_tally sys w law course low is_real courses s g x hd v h hand_is y q z.0 z.1 (z.2 a) n u;
        }

    -- it had no result before
    pub no_result : (s.cells hd.ticket).result ≡ None
    no_result = (Stopping.c sys w law course low is_real courses s g x hd v h hand_is y q).result ∙ (Stopping.seg sys w law course low is_real courses s g x hd v h hand_is y q).no_result
