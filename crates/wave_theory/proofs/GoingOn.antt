-- An event goes on: into a child, with the Visit to one that it holds, or back to the parent.
use Rattle.std.proofs.Common.{◌≡◌, ℕ, suc, ◌<◌, ◌≤◌, ◌⊎◌, ◌&&◌, ◌||◌, not, inl, inr, Bool, true, false, Option, Some, None, is_some, List, [], ◌∷◌, ◌++◌, refl, sym, ◌∙◌, ap, ap₂, subst, arith}
use Rattle.std.specs.Prelude.{cond}
use Rattle.wave_base.specs.declared.path.Step.{Step}
use Rattle.wave_base.specs.declared.path.Path.{Path}
use Rattle.wave_base.specs.declared.children.Child.{Child}
use Rattle.wave_base.specs.Paths.{path_eq, is_above, step_cmp, parent_of}
use Rattle.wave_base.specs.Kids.{child_at}
use Rattle.std.specs.BTreeSet.{insert_key}
use Rattle.wave_states.specs.Actors.{Actors, Left}
use Rattle.wave_states.specs.States.{State, Entry, Hand, Hold, Record, Visit, Mail, Travelling, hold_at, steps_of, Back}
use Rattle.wave_states.specs.Steps.{Part, put_back, child_or_new, with_body, part_of, host_or}
use Rattle.wave_states.specs.Desks.{Desk, send, give_up, kept_of, left_of, with_held}
use Rattle.wave_theory.proofs.Basics.{bool_cases, clash, none_not, some_not, path_cases, set_at, set_at_path}
use Rattle.wave_theory.proofs.Order.{Way, IsWay, Coming}
use Rattle.wave_theory.proofs.Stops.{coming_good}
use Rattle.wave_theory.proofs.Leaves.{Course, IsCourse, Segment, Enters, Returns}
use Rattle.wave_theory.proofs.Tracks.{Trail, unborn}
use Rattle.wave_theory.proofs.Maps.{hold_filter}
use Rattle.wave_theory.proofs.Paths.{child_differs, above_self}
use Rattle.wave_theory.proofs.Opened.{Stopping}
use Rattle.wave_theory.proofs.Found.{Found, changed}
use Rattle.wave_theory.proofs.Held.{number_in, number_out}
use Rattle.wave_theory.proofs.Desks.{DeskShows, send_desk, give_up_desk, keep_release, give_up_there, sent_there}
use Rattle.wave_theory.proofs.Alive
use Rattle.wave_theory.proofs.Deeds
use Rattle.wave_states.specs.Labels
use Rattle.wave_theory.proofs.Shows
use Rattle.wave_theory.proofs.Stages.{coming_lined, entering_coming}
use Rattle.wave_theory.proofs.Stopping
use Rattle.wave_theory.proofs.Frames.{option_some, option_none}

module _ {A F R J : Type 0} (sys : Actors A F R J) (w : Way) (law : IsWay w) (course : Course sys) (low : ℕ) (is_real : ℕ → Type 0) (courses : IsCourse sys w course low is_real) where
  abbrev Change : Type 0
  Change = Stopping.Change sys w law course low is_real courses

  abbrev changed_by : Shows.Ghost F → ℕ → Path → Change → Shows.Ghost F
  changed_by = Stopping.changed_by sys w law course low is_real courses

  module _ (s : State A F R J) (g : Shows.Ghost F) (x : Shows.Shows sys w course low is_real s g) (hd : Hand A F) (v h : ℕ) (hand_is : s.hands v ≡ Some hd) (y : Part A F R) (q : Stopping sys hd.ticket hd.path h hd (part_of s hd.ticket hd.path) y) where
    abbrev t : ℕ
    t = hd.ticket

    abbrev p : Path
    p = hd.path

    abbrev k : ℕ
    k = g.lines.pos hd.ticket

    abbrev hs : Shows.HandShows sys w course low is_real g v hd
    hs = Stopping.hs sys w law course low is_real courses s g x hd v h hand_is y q

    abbrev en : Shows.EntryShows sys w course low is_real g p
    en = Stopping.en sys w law course low is_real courses s g x hd v h hand_is y q

    abbrev f : Found sys w course low is_real g p (s.columns p) h q.entry
    f = Stopping.f sys w law course low is_real courses s g x hd v h hand_is y q

    abbrev held_is : (r : Path) → is_some (hold_at q.event.held r) ≡ w.held t k r
    held_is = Stopping.held_is sys w law course low is_real courses s g x hd v h hand_is y q

    abbrev seg : Segment sys w course t k
    seg = Stopping.seg sys w law course low is_real courses s g x hd v h hand_is y q

    abbrev left : Left A F R
    left = sys.segment (seg).actor (course.leaf t k (w.place t k)).0 (course.leaf t k (w.place t k)).1

    abbrev IsChange : (z : Change) → Type 0
    IsChange = Stopping.IsChange sys w law course low is_real courses s g x hd v h hand_is y q

    abbrev same_kids : (z : Change) → z.body.children ≡ (g.body p).children → Alive.Alive sys w course low is_real s g → Alive.Kids sys w course low is_real (changed_by g t p z) p
    same_kids = Stopping.same_kids sys w law course low is_real courses s g x hd v h hand_is y q

    abbrev Lives : (z : Change) → Type 0
    Lives = Stopping.Lives sys w law course low is_real courses s g x hd v h hand_is y q

    abbrev old_there : Alive.Alive sys w course low is_real s g → (r : Path) → g.lines.holds r t ≡ true → w.held t k r ≡ false → Alive.PartingThere (s.cells t).mails (g.parting t r) r × (g.parting t r ≤ q.event.sent)
    old_there = Stopping.old_there sys w law course low is_real courses s g x hd v h hand_is y q

    -- the desk with these held paths, after the change
    abbrev desk_with : List (Path × Hold) → Desk A F
    desk_with hl = record { event = record { actor = Some (left).actor; held = hl; sent = q.event.sent; status = Travelling }; mails = (s.cells t).mails }

    abbrev zero_sent : (d : Desk A F) (m : Mail F) → (send d m).mails 0 ≡ d.mails 0
    zero_sent = Stopping.zero_sent sys w law course low is_real courses s g x hd v h hand_is y q

    abbrev holds_held : (r : Path) → w.held t k r ≡ true → g.lines.holds r t ≡ true
    holds_held = Stopping.holds_held sys w law course low is_real courses s g x hd v h hand_is y q

    abbrev pub keeps : Bool → Path → Step → Path → Bool
    keeps true P st r = is_above (P ++ st ∷ []) r && w.held t k r
    keeps false P st r = w.held t k r

    -- the ticket's own run goes into a child of P
    pub record InFacts (P : Path) (st : Step) (peek go : Bool) : Type 0 where
      pub more : suc k ≤ w.last t
      pub place_is : w.place t (suc k) ≡ P ++ st ∷ []
      pub fresh_is : w.fresh t (suc k) ≡ not (w.held t k (P ++ st ∷ []))
      pub held_is : (r : Path) → w.held t (suc k) r ≡ (keeps go P st r || (w.fresh t (suc k) && path_eq r (P ++ st ∷ [])))
      pub fields : (course.leaf t (suc k) P).0 ≡ (left).fields
      pub steps_old : w.fresh t (suc k) ≡ false → (course.leaf t (suc k) P).1 ≡ (course.leaf t k P).1
      pub steps_new : w.fresh t (suc k) ≡ true → (course.leaf t (suc k) P).1 ≡ insert_key step_cmp (course.leaf t k P).1 st
      pub looks_is : w.fresh t (suc k) ≡ true → w.looks t (P ++ st ∷ []) ≡ peek
      pub no_result : course.result t (suc k) ≡ None

    pub go_facts : (st : Step) → Enters sys w course t k st (sys.peeks (left).actor) (λ r. is_above (w.place t k ++ st ∷ []) r && w.held t k r) → InFacts p st (sys.peeks (left).actor) true
    go_facts st e = subst (λ P. InFacts P st (sys.peeks (left).actor) true) (sym hs.place) (record { more = e.more; place_is = e.place_is; fresh_is = e.fresh_is; held_is = e.held_is; fields = seg.fields_next; steps_old = e.steps_old; steps_new = e.steps_new; looks_is = e.looks_is; no_result = e.no_result })

    pub down_facts : (st : Step) → Enters sys w course t k st false (λ r. w.held t k r) → InFacts p st false false
    down_facts st e = subst (λ P. InFacts P st false false) (sym hs.place) (record { more = e.more; place_is = e.place_is; fresh_is = e.fresh_is; held_is = e.held_is; fields = seg.fields_next; steps_old = e.steps_old; steps_new = e.steps_new; looks_is = e.looks_is; no_result = e.no_result })

    abbrev pub finish : Bool → Path → Desk A F → Desk A F
    finish true r d = give_up (is_above r) d
    finish false r d = d

    abbrev pub parting_now : Bool → Path → Path → ℕ
    parting_now true a r = number_in (left_of (is_above a) q.event.held) (suc q.event.sent) (g.parting t r) r
    parting_now false a r = g.parting t r

    pub parting_old : (go : Bool) (a r : Path) → w.held t k r ≡ false → parting_now go a r ≡ g.parting t r
    parting_old false a r e = refl
    parting_old true a r e = number_out (left_of (is_above a) q.event.held) (suc q.event.sent) (g.parting t r) r
        (hold_filter (λ i. not (is_above a i)) q.event.held r ∙ ap (λ o. cond (not (is_above a r)) o None) (option_none _ (held_is r ∙ e)) ∙ cond_none (not (is_above a r)))
      where
        cond_none : (i : Bool) → ◌≡◌ {A = Option Hold} (cond i None None) None
        cond_none true = refl
        cond_none false = refl

    pub child_given : (o : Option Child) (a i : ℕ) → (child_or_new o a).given ≡ (child_or_new o i).given
    child_given None a i = refl
    child_given (Some u) a i = refl

    abbrev pub child_trail : Option Child → Trail → Trail
    child_trail None r = unborn h
    child_trail (Some a) r = r

    pub child_trail_some : (o : Option Child) (a : Child) (r : Trail) → o ≡ Some a → child_trail o r ≡ r
    child_trail_some None a r e = absurd (none_not e)
    child_trail_some (Some u) a r e = refl

    pub child_trail_none : (o : Option Child) (r : Trail) → o ≡ None → child_trail o r ≡ unborn h
    child_trail_none None r e = refl
    child_trail_none (Some u) r e = absurd (some_not e)

    module _ (st : Step) (peek go : Bool) (i : InFacts p st peek go) where
      abbrev pub child_path : Path
      child_path = p ++ st ∷ []

      pub off : w.looks t p ≡ false
      off = Stopping.looks_off sys w law course low is_real courses s g x hd v h hand_is y q i.more

      pub whole : hd.body ≡ g.body p
      whole = hs.whole off

      pub apart_p : path_eq child_path p ≡ false
      apart_p = child_differs p st

      -- the desk after the main mail, and then after the releases
      pub finished : (z : Change) → z.parting ≡ parting_now go child_path → (d : Desk A F) → d.event.held ≡ q.event.held → d.event.sent ≡ suc q.event.sent → DeskShows sys w course low is_real (changed_by g t p z) t d (λ r. w.held t k r) (Some (left).actor) Travelling →
          DeskShows sys w course low is_real (changed_by g t p z) t (finish go child_path d) (keeps go p st) (Some (left).actor) Travelling
      finished z e d dh ds x = by go refl
        where
          by : (j : Bool) → go ≡ j → DeskShows sys w course low is_real (changed_by g t p z) t (finish j child_path d) (keeps j p st) (Some (left).actor) Travelling
          by false n = x
          by true n = give_up_desk sys w course low is_real (changed_by g t p z) t (is_above child_path) d (λ r. w.held t k r) (Some (left).actor) Travelling (λ r. g.parting t r) x (λ r a m. (
            holds_held r m,
            ap (λ j. w.held t j r) (set_at g.lines.pos t (suc k)) ∙ i.held_is r ∙ gone r a n,
            ap₂ (λ u j. number_in (left_of (is_above child_path) u) j (g.parting t r) r) dh ds ∙ sym (ap (λ j. j r) (set_at g.parting t z.parting ∙ e) ∙ ap (λ j. parting_now j child_path r) n),
          ))
            where
              gone : (r : Path) → is_above child_path r ≡ false → go ≡ true → (keeps go p st r || (w.fresh t (suc k) && path_eq r child_path)) ≡ false
              gone r a n = ap (λ j. keeps j p st r || (w.fresh t (suc k) && path_eq r child_path)) n ∙ ap (λ j. (j && w.held t k r) || (w.fresh t (suc k) && path_eq r child_path)) a ∙ both_off (w.fresh t (suc k)) (path_eq r child_path) (elim (path_cases r child_path) [
                | inr d ↦ d
                | inl d ↦ absurd (clash _ (subst (λ j. is_above child_path j ≡ true) (sym d) (above_self child_path)) a)
              ])
                where
                  both_off : (a b : Bool) → b ≡ false → (false || (a && b)) ≡ false
                  both_off a b e = grind arith

      -- what is under way when the event has gone into the child
      pub child_parting : Alive.Alive sys w course low is_real s g → (m : Mail F) → (r : Path) → g.lines.holds r t ≡ true → w.held t (suc k) r ≡ false → Alive.PartingThere (finish go child_path (send (desk_with q.event.held) m)).mails (parting_now go child_path r) r
      child_parting a m r h n = by go refl (bool_cases (w.held t k r))
        where
          gone : w.held t (suc k) r ≡ false → keeps go p st r ≡ false
          gone n = first_off (keeps go p st r) _ (sym (i.held_is r) ∙ n)
            where
              first_off : (a b : Bool) → (a || b) ≡ false → a ≡ false
              first_off a b e = grind arith

          by : (j : Bool) → go ≡ j → ((w.held t k r ≡ true) ⊎ (w.held t k r ≡ false)) → Alive.PartingThere (finish j child_path (send (desk_with q.event.held) m)).mails (parting_now j child_path r) r
          by false e (inl u) = absurd (clash _ u (sym (ap (λ j. keeps j p st r) e) ∙ gone n))
          by false e (inr u) = (let o = old_there a r h u in sent_there (desk_with q.event.held) m (g.parting t r) r o.0 o.1)
          by true e (inl u) = give_up_there (is_above child_path) (send (desk_with q.event.held) m) (g.parting t) r (inl (second_off (is_above child_path r) (w.held t k r) u (sym (ap (λ j. keeps j p st r) e) ∙ gone n), held_is r ∙ u))
            where
              second_off : (a b : Bool) → b ≡ true → (a && b) ≡ false → a ≡ false
              second_off a b e f = grind arith
          by true e (inr u) = (let o = old_there a r h u in give_up_there (is_above child_path) (send (desk_with q.event.held) m) (g.parting t) r (inr (option_none _ (held_is r ∙ u), sent_there (desk_with q.event.held) m (g.parting t r) r o.0 o.1, upto (g.parting t r) q.event.sent o.1)))
            where
              upto : (a b : ℕ) → a ≤ b → a ≤ suc b
              upto a b l = omega arith

      pub child_zero : (m : Mail F) → (s.cells t).mails 0 ≡ None → (finish go child_path (send (desk_with q.event.held) m)).mails 0 ≡ None
      child_zero m e = by go
        where
          by : (j : Bool) → (finish j child_path (send (desk_with q.event.held) m)).mails 0 ≡ None
          by false = Stopping.zero_sent sys w law course low is_real courses s g x hd v h hand_is y q (desk_with q.event.held) m ∙ e
          by true = keep_release (left_of (is_above child_path) q.event.held) (record { event = with_held (send (desk_with q.event.held) m).event (kept_of (is_above child_path) q.event.held); mails = (send (desk_with q.event.held) m).mails }) 0 (omega arith) ∙ Stopping.zero_sent sys w law course low is_real courses s g x hd v h hand_is y q (desk_with q.event.held) m ∙ e

      pub kid_housed : Alive.Alive sys w course low is_real s g → (o : Option Child) (i : ℕ) → i ≤ (child_trail o (g.trail child_path)).last → (child_trail o (g.trail child_path)).at i < course.hosts
      kid_housed a None i m = subst (λ u. u < course.hosts) (sym f.host_is) (a.housed p (g.trail p).last (omega arith))
      kid_housed a (Some u) i m = a.housed child_path i m

      pub child_main : (m : Mail F) → (finish go child_path (send (desk_with q.event.held) m)).mails (suc q.event.sent) ≡ Some m
      child_main m = by go
        where
          by : (j : Bool) → (finish j child_path (send (desk_with q.event.held) m)).mails (suc q.event.sent) ≡ Some m
          by false = set_at (s.cells t).mails (suc q.event.sent) (Some m)
          by true = keep_release (left_of (is_above child_path) q.event.held) (record { event = with_held (send (desk_with q.event.held) m).event (kept_of (is_above child_path) q.event.held); mails = (send (desk_with q.event.held) m).mails }) (suc q.event.sent) (omega arith) ∙ set_at (s.cells t).mails (suc q.event.sent) (Some m)

      -- a child that is held: a Visit
      module _ (x' : Hold) (some : hold_at q.event.held child_path ≡ Some x') where
        stale : w.fresh t (suc k) ≡ false
        stale = i.fresh_is ∙ ap not (sym (held_is child_path) ∙ ap is_some some)

        abbrev pub body_old : Record F
        body_old = record { fields = (left).fields; children = hd.body.children }

        abbrev pub z_old : Change
        z_old = record { stage = Coming; given = g.lines.given; main = suc q.event.sent; parting = parting_now go child_path; entry = with_body q.entry (Some body_old); body = body_old; trail = g.trail }

        visit_now : Shows.ComingShows sys w course low is_real (changed_by g t p z_old) t (suc q.event.sent) x'.host child_path
        visit_now = record {
          stage = set_at g.lines.stage t Coming;
          place = sym i.place_is ∙ ap (w.place t) (sym (set_at g.lines.pos t (suc k)));
          main = sym (set_at g.main t (suc q.event.sent));
          host_is = (Stopping.where_held sys w law course low is_real courses s g x hd v h hand_is y q child_path x' some).0;
        }

        desk_old : DeskShows sys w course low is_real (changed_by g t p z_old) t (send (desk_with q.event.held) (record { host = x'.host; path = child_path; letter = Visit })) (λ r. w.held t k r) (Some (left).actor) Travelling
        desk_old = send_desk sys w course low is_real (changed_by g t p z_old) t (desk_with q.event.held) (λ r. w.held t k r) (Some (left).actor) Travelling _
            (Stopping.base_desk sys w law course low is_real courses s g x hd v h hand_is y q z_old (record { trail = λ r m n. refl; parting = λ r e. parting_old go child_path r e }) q.event.held (λ r. w.held t k r) held_is (λ r a e. (e, refl)) (Stopping.once_held sys w law course low is_real courses s g x hd v h hand_is y q)) visit_now

        abbrev pub y_old : Part A F R
        y_old = put_back (part_of s t p) h (finish go child_path (send (desk_with q.event.held) (record { host = x'.host; path = child_path; letter = Visit })), with_body q.entry (Some body_old))

        pub is_old : y ≡ y_old → IsChange z_old
        is_old ye = record {
          good = coming_good law g.lines t x.good (omega (arith, hs.later)) hs.known hs.stage i.more stale;
          given_ok = λ r u d. refl;
          trail_ok = λ r d. inl refl;
          birth_ok = refl;
          longer_ok = inl refl;
          body_ok = λ e. absurd (clash _ e off);
          like = record { fields = sym i.fields; steps = ap (λ u. steps_of u.children) whole ∙ (Stopping.like sys w law course low is_real courses s g x hd v h hand_is y q).steps ∙ sym (i.steps_old stale) };
          cell = subst (λ (u : Part A F R). Shows.CellShows sys w course low is_real (changed_by g t p z_old) t u.cell) (sym ye)
              (Stopping.goes_on_cell sys w law course low is_real courses s g x hd v h hand_is y q z_old (finish go child_path _) (keeps go p st) (s.cells t).result (finished z_old refl _ refl refl desk_old) (inl refl)
              (λ a. sym (ap (λ j. j && true) (i.held_is a) ∙ ap (λ j. (keeps go p st a || (j && path_eq a child_path)) && true) stale ∙ plain (keeps go p st a))) ((Stopping.c sys w law course low is_real courses s g x hd v h hand_is y q).result ∙ seg.no_result ∙ sym i.no_result));
          entry = Stopping.entry_back sys w law course low is_real courses s g x hd v h hand_is y q z_old (record {
            looks = off;
            entry = refl;
            given = λ u. ap (λ a. Shows.given_of a u) whole ∙ en.given u;
            births = λ u a e. en.births u a (ap (λ j. child_at j.children u) (sym whole) ∙ e);
            strangers = λ u e. en.strangers u (ap (λ j. child_at j.children u) (sym whole) ∙ e);
            moves = ap (λ (u : Entry F). u.moves) f.entry_is ∙ en.moves;
          });
          column = subst (λ (u : Part A F R). Shows.ColumnShows sys w course low is_real (g.born p) (changed_by g t p z_old) p u.column) (sym ye)
              (changed sys w course low is_real g (changed_by g t p z_old) p (s.columns p) h q.entry (with_body q.entry (Some body_old)) f refl refl (set_at_path g.entry p _));
        }
          where
            plain : (a : Bool) → ((a || false) && true) ≡ a
            plain a = grind arith

        pub turn_old : Deeds.Turn sys w course low is_real s g (changed_by g t p z_old) (Labels.Stop t p)
        turn_old = record {
          deed = Deeds.Goes_on;
          suits = tt;
          is = refl;
          fits = record { stopped = record { stage = hs.stage; place = sym hs.place; born = f.born; stored = f.stored }; more = i.more; stale = stale };
          kids = Stopping.kids_by sys w law course low is_real courses s g x hd v h hand_is y q z_old (λ u a e. inl (ap (λ (b : Record F). child_at b.children u) (sym whole) ∙ e));
        }

        pub lives_old : y ≡ y_old → Alive.Alive sys w course low is_real s g → Lives z_old
        lives_old ye a = record {
          waiting = refl;
          entering = λ e. absurd (entering_coming (sym e));
          coming = λ e. record { mail = mail_old; there = ap (λ (u : Part A F R). u.cell.mails (suc q.event.sent)) ye ∙ child_main mail_old; coming = inl refl };
          parting = λ r h n. subst (λ (u : Part A F R). Alive.PartingThere u.cell.mails (parting_now go child_path r) r) (sym ye) (child_parting a mail_old r h n);
          lined = λ e. absurd (coming_lined e);
          away = λ e. absurd (clash _ f.stored e);
          kids = same_kids z_old (ap (λ (u : Record F). u.children) whole) a;
          housed = a.housed;
          no_zero = ap (λ (u : Part A F R). u.cell.mails 0) ye ∙ child_zero mail_old (a.no_zero t);
          waits_next = λ f o. refl;
          stale = λ e. stale;
        }
          where
            mail_old : Mail F
            mail_old = record { host = x'.host; path = child_path; letter = Visit }

    -- back from a call
    pub record BackFacts (P : Path) : Type 0 where
      pub more : suc k ≤ w.last t
      pub place_is : w.place t (suc k) ≡ parent_of P
      pub stale : w.fresh t (suc k) ≡ false
      pub held_is : (r : Path) → w.held t (suc k) r ≡ w.held t k r
      pub fields : (course.leaf t (suc k) P).0 ≡ (left).fields
      pub steps : (course.leaf t (suc k) P).1 ≡ (course.leaf t k P).1
      pub no_result : course.result t (suc k) ≡ None

    pub back_facts : Returns sys w course t k → BackFacts p
    back_facts e = subst BackFacts (sym hs.place) (record { more = e.more; place_is = e.place_is; stale = e.not_fresh; held_is = e.held_is; fields = seg.fields_next; steps = e.steps_old; no_result = e.no_result })

    module _ (i : BackFacts p) where
      off_b : w.looks t p ≡ false
      off_b = Stopping.looks_off sys w law course low is_real courses s g x hd v h hand_is y q i.more

      whole_b : hd.body ≡ g.body p
      whole_b = hs.whole off_b

      abbrev pub body_back : Record F
      body_back = record { fields = (left).fields; children = hd.body.children }

      abbrev pub z_back : Change
      z_back = record { stage = Coming; given = g.lines.given; main = suc q.event.sent; parting = g.parting t; entry = with_body q.entry (Some body_back); body = body_back; trail = g.trail }

      parent_held : w.held t k (parent_of p) ≡ true
      parent_held = sym (i.held_is (parent_of p)) ∙ subst (λ r. w.held t (suc k) r ≡ true) i.place_is (law.at_held t (suc k) i.more)

      parent_hold : (a : Hold) × (hold_at q.event.held (parent_of p) ≡ Some a)
      parent_hold = option_some _ (held_is (parent_of p) ∙ parent_held)

      abbrev pub mail_back : Mail F
      mail_back = record { host = host_or (hold_at q.event.held (parent_of p)) h; path = parent_of p; letter = Back }

      back_now : Shows.ComingShows sys w course low is_real (changed_by g t p z_back) t (suc q.event.sent) (host_or (hold_at q.event.held (parent_of p)) h) (parent_of p)
      back_now = record {
        stage = set_at g.lines.stage t Coming;
        place = sym i.place_is ∙ ap (w.place t) (sym (set_at g.lines.pos t (suc k)));
        main = sym (set_at g.main t (suc q.event.sent));
        host_is = ap (λ o. host_or o h) parent_hold.1 ∙ (Stopping.where_held sys w law course low is_real courses s g x hd v h hand_is y q (parent_of p) parent_hold.0 parent_hold.1).0;
      }

      abbrev pub y_back : Part A F R
      y_back = put_back (part_of s t p) h (send (desk_with q.event.held) mail_back, with_body q.entry (Some body_back))

      pub is_back : y ≡ y_back → IsChange z_back
      is_back ye = record {
        good = coming_good law g.lines t x.good (omega (arith, hs.later)) hs.known hs.stage i.more i.stale;
        given_ok = λ r u d. refl;
        trail_ok = λ r d. inl refl;
        birth_ok = refl;
        longer_ok = inl refl;
        body_ok = λ e. absurd (clash _ e off_b);
        like = record { fields = sym i.fields; steps = ap (λ u. steps_of u.children) whole_b ∙ (Stopping.like sys w law course low is_real courses s g x hd v h hand_is y q).steps ∙ sym i.steps };
        cell = subst (λ (u : Part A F R). Shows.CellShows sys w course low is_real (changed_by g t p z_back) t u.cell) (sym ye)
            (Stopping.goes_on_cell sys w law course low is_real courses s g x hd v h hand_is y q z_back (send (desk_with q.event.held) mail_back) (λ r. w.held t k r) (s.cells t).result
            (send_desk sys w course low is_real (changed_by g t p z_back) t (desk_with q.event.held) (λ r. w.held t k r) (Some (left).actor) Travelling mail_back
            (Stopping.base_desk sys w law course low is_real courses s g x hd v h hand_is y q z_back (record { trail = λ r m n. refl; parting = λ r e. refl }) q.event.held (λ r. w.held t k r) held_is (λ r a e. (e, refl)) (Stopping.once_held sys w law course low is_real courses s g x hd v h hand_is y q)) back_now)
            (inl refl) (λ a. sym (ap (λ j. j && true) (i.held_is a) ∙ plain (w.held t k a))) ((Stopping.c sys w law course low is_real courses s g x hd v h hand_is y q).result ∙ seg.no_result ∙ sym i.no_result));
        entry = Stopping.entry_back sys w law course low is_real courses s g x hd v h hand_is y q z_back (record {
          looks = off_b;
          entry = refl;
          given = λ u. ap (λ a. Shows.given_of a u) whole_b ∙ en.given u;
          births = λ u a e. en.births u a (ap (λ j. child_at j.children u) (sym whole_b) ∙ e);
          strangers = λ u e. en.strangers u (ap (λ j. child_at j.children u) (sym whole_b) ∙ e);
          moves = ap (λ (u : Entry F). u.moves) f.entry_is ∙ en.moves;
        });
        column = subst (λ (u : Part A F R). Shows.ColumnShows sys w course low is_real (g.born p) (changed_by g t p z_back) p u.column) (sym ye)
            (changed sys w course low is_real g (changed_by g t p z_back) p (s.columns p) h q.entry (with_body q.entry (Some body_back)) f refl refl (set_at_path g.entry p _));
      }
        where
          plain : (a : Bool) → (a && true) ≡ a
          plain a = grind arith

      pub turn_back : Deeds.Turn sys w course low is_real s g (changed_by g t p z_back) (Labels.Stop t p)
      turn_back = record {
        deed = Deeds.Goes_on;
        suits = tt;
        is = refl;
        fits = record { stopped = record { stage = hs.stage; place = sym hs.place; born = f.born; stored = f.stored }; more = i.more; stale = i.stale };
        kids = Stopping.kids_by sys w law course low is_real courses s g x hd v h hand_is y q z_back (λ u a e. inl (ap (λ (b : Record F). child_at b.children u) (sym whole_b) ∙ e));
      }

      pub lives_back : y ≡ y_back → Alive.Alive sys w course low is_real s g → Lives z_back
      lives_back ye a = record {
        waiting = refl;
        entering = λ e. absurd (entering_coming (sym e));
        coming = λ e. record { mail = mail_back; there = ap (λ (u : Part A F R). u.cell.mails (suc q.event.sent)) ye ∙ set_at (s.cells t).mails (suc q.event.sent) (Some mail_back); coming = inr refl };
        parting = λ r h n. subst (λ (u : Part A F R). Alive.PartingThere u.cell.mails (g.parting t r) r) (sym ye) (let o = old_there a r h (sym (i.held_is r) ∙ n) in sent_there (desk_with q.event.held) mail_back (g.parting t r) r o.0 o.1);
        lined = λ e. absurd (coming_lined e);
        away = λ e. absurd (clash _ f.stored e);
        kids = same_kids z_back (ap (λ (u : Record F). u.children) whole_b) a;
        housed = a.housed;
        no_zero = ap (λ (u : Part A F R). u.cell.mails 0) ye ∙ zero_sent (desk_with q.event.held) mail_back ∙ a.no_zero t;
        waits_next = λ f o. refl;
        stale = λ e. i.stale;
      }
