-- An event is over and moves its context to another host.
use Rattle.std.proofs.Common.{◌≡◌, ℕ, suc, ◌<◌, ◌≤◌, ◌&&◌, not, inl, inr, nat_eq, Bool, true, false, Some, None, is_some, List, [], ◌∷◌, ◌++◌, refl, sym, ◌∙◌, ap, subst, arith}
use Rattle.std.specs.Prelude.{if◌then◌else◌, cond}
use Rattle.wave_base.specs.declared.path.Path.{Path}
use Rattle.wave_base.specs.Paths.{path_eq}
use Rattle.wave_base.specs.Kids.{child_at}
use Rattle.wave_states.specs.Actors.{Actors, Left}
use Rattle.wave_states.specs.States.{State, Entry, Hand, Hold, Record, Transfer, Mail, Travelling, Ended, set, hold_at}
use Rattle.wave_states.specs.Steps.{Part, after_end, over_there, cell_of, moved_on, with_body, column_left, part_of}
use Rattle.wave_states.specs.Desks.{Desk, send, kept_of, left_of, nothing_kept, not_at, with_status, with_held}
use Rattle.wave_theory.proofs.Basics.{bool_cases, clash, none_not, path_self, path_cases, set_at, set_there, set_at_path, and_first, and_second, differ}
use Rattle.wave_theory.proofs.Order.{Way, IsWay, Done}
use Rattle.wave_theory.proofs.Stops.{done_good}
use Rattle.wave_theory.proofs.Leaves.{Course, IsCourse, Segment}
use Rattle.wave_theory.proofs.Tracks.{owner, Track, depart_track, sent_on}
use Rattle.wave_theory.proofs.Maps.{hold_filter}
use Rattle.wave_theory.proofs.Paths.{path_swap, child_differs}
use Rattle.wave_theory.proofs.Opened.{Stopping}
use Rattle.wave_theory.proofs.Found.{Found}
use Rattle.wave_theory.proofs.Frames.{not_is, option_none}
use Rattle.wave_theory.proofs.Held.{once_filter, number_in}
use Rattle.wave_theory.proofs.Desks.{DeskShows, send_desk, keep_release, give_up_there, sent_there}
use Rattle.wave_theory.proofs.Alive
use Rattle.wave_theory.proofs.Tracks
use Rattle.wave_theory.proofs.Deeds
use Rattle.wave_states.specs.Labels
use Rattle.wave_theory.proofs.Shows
use Rattle.wave_theory.proofs.Stages.{done_coming, done_entering, done_lined}
use Rattle.wave_theory.proofs.Stopping
use Rattle.wave_theory.proofs.Parting

module _ {A F R J : Type 0} (sys : Actors A F R J) (w : Way) (law : IsWay w) (course : Course sys) (low : ℕ) (is_real : ℕ → Type 0) (courses : IsCourse sys w course low is_real) where
  abbrev Change : Type 0
  Change = Stopping.Change sys w law course low is_real courses

  abbrev changed_by : Shows.Ghost F → ℕ → Path → Change → Shows.Ghost F
  changed_by = Stopping.changed_by sys w law course low is_real courses

  module _ (s : State A F R J) (g : Shows.Ghost F) (x : Shows.Shows sys w course low is_real s g) (hd : Hand A F) (v h : ℕ) (hand_is : s.hands v ≡ Some hd) (y : Part A F R) (q : Stopping sys hd.ticket hd.path h hd (part_of s hd.ticket hd.path) y) where
    abbrev t : ℕ
    t = hd.ticket

    abbrev p : Path
    p = hd.path

    abbrev k : ℕ
    k = g.lines.pos hd.ticket

    abbrev hs : Shows.HandShows sys w course low is_real g v hd
    hs = Stopping.hs sys w law course low is_real courses s g x hd v h hand_is y q

    abbrev en : Shows.EntryShows sys w course low is_real g p
    en = Stopping.en sys w law course low is_real courses s g x hd v h hand_is y q

    abbrev f : Found sys w course low is_real g p (s.columns p) h q.entry
    f = Stopping.f sys w law course low is_real courses s g x hd v h hand_is y q

    abbrev seg : Segment sys w course t k
    seg = Stopping.seg sys w law course low is_real courses s g x hd v h hand_is y q

    abbrev left : Left A F R
    left = sys.segment (seg).actor (course.leaf t k (w.place t k)).0 (course.leaf t k (w.place t k)).1

    abbrev IsChange : (z : Change) → Type 0
    IsChange = Stopping.IsChange sys w law course low is_real courses s g x hd v h hand_is y q

    abbrev same_kids : (z : Change) → z.body.children ≡ (g.body p).children → Alive.Alive sys w course low is_real s g → Alive.Kids sys w course low is_real (changed_by g t p z) p
    same_kids = Stopping.same_kids sys w law course low is_real courses s g x hd v h hand_is y q

    abbrev Lives : (z : Change) → Type 0
    Lives = Stopping.Lives sys w law course low is_real courses s g x hd v h hand_is y q

    abbrev zero_sent : (d : Desk A F) (m : Mail F) → (send d m).mails 0 ≡ d.mails 0
    zero_sent = Stopping.zero_sent sys w law course low is_real courses s g x hd v h hand_is y q

    abbrev zero_ended : (d : Desk A F) → (after_end d).mails 0 ≡ d.mails 0
    zero_ended = Stopping.zero_ended sys w law course low is_real courses s g x hd v h hand_is y q

    abbrev old_there : Alive.Alive sys w course low is_real s g → (r : Path) → g.lines.holds r t ≡ true → w.held t k r ≡ false → Alive.PartingThere (s.cells t).mails (g.parting t r) r × (g.parting t r ≤ q.event.sent)
    old_there = Stopping.old_there sys w law course low is_real courses s g x hd v h hand_is y q

    -- the desk with these held paths, after the change
    abbrev desk_with : List (Path × Hold) → Desk A F
    desk_with hl = record { event = record { actor = Some (left).actor; held = hl; sent = q.event.sent; status = Travelling }; mails = (s.cells t).mails }

    abbrev KeepsOld : (z : Change) → Type 0
    KeepsOld = Stopping.KeepsOld sys w law course low is_real courses s g x hd v h hand_is y q

    abbrev base_desk : (z : Change) → KeepsOld z → (hl : List (Path × Hold)) (now : Path → Bool) → ((r : Path) → is_some (hold_at hl r) ≡ now r) →
        ((r : Path) (i : Hold) → hold_at hl r ≡ Some i → (hold_at q.event.held r ≡ Some i) × (z.trail r ≡ g.trail r)) → Shows.Once hl →
        DeskShows sys w course low is_real (changed_by g t p z) t (desk_with hl) now (Some (left).actor) Travelling
    base_desk = Stopping.base_desk sys w law course low is_real courses s g x hd v h hand_is y q

    abbrev once_held : Shows.Once q.event.held
    once_held = Stopping.once_held sys w law course low is_real courses s g x hd v h hand_is y q

    abbrev PutBack : (z : Change) → Type 0
    PutBack = Stopping.PutBack sys w law course low is_real courses s g x hd v h hand_is y q

    abbrev entry_back : (z : Change) → PutBack z → Shows.EntryShows sys w course low is_real (changed_by g t p z) p
    entry_back = Stopping.entry_back sys w law course low is_real courses s g x hd v h hand_is y q

    abbrev EndFacts : (P : Path) (r : R) → Type 0
    EndFacts = Parting.EndFacts sys w law course low is_real courses s g x hd v h hand_is y q

    abbrev nothing_held : k ≡ w.last t → (r : Path) → w.held t (suc k) r ≡ false
    nothing_held = Parting.nothing_held sys w law course low is_real courses s g x hd v h hand_is y q

    abbrev ended_cell : (z : Change) (d : Desk A F) (r : R) → DeskShows sys w course low is_real (changed_by g t p z) t d (λ a. false) (Some (left).actor) Ended → z.stage ≡ Done → k ≡ w.last t → course.result t (suc k) ≡ Some r →
        Shows.CellShows sys w course low is_real (changed_by g t p z) t (cell_of d (Some r))
    ended_cell = Parting.ended_cell sys w law course low is_real courses s g x hd v h hand_is y q

    -- all that is held is released
    abbrev all_parting : List (Path × Hold) → ℕ → Path → ℕ
    all_parting hl n r = number_in (left_of nothing_kept hl) n (g.parting t r) r

    abbrev ended_desk : (z : Change) (d : Desk A F) (now : Path → Bool) → DeskShows sys w course low is_real (changed_by g t p z) t d now (Some (left).actor) Travelling → k ≡ w.last t →
        ((r : Path) → now r ≡ true → (w.held t k r ≡ true) × (z.parting r ≡ all_parting d.event.held d.event.sent r)) →
        DeskShows sys w course low is_real (changed_by g t p z) t (after_end d) (λ a. false) (Some (left).actor) Ended
    ended_desk = Parting.ended_desk sys w law course low is_real courses s g x hd v h hand_is y q

    module _ (r : R) (i : EndFacts p r) where
      module _ (no : w.looks t p ≡ false) where
        abbrev whole_e : hd.body ≡ g.body p
        whole_e = Parting.whole_e sys w law course low is_real courses s g x hd v h hand_is y q r i no

        abbrev body_end : Record F
        body_end = record { fields = (left).fields; children = hd.body.children }

        abbrev like_end : Shows.Like sys w course low is_real body_end (course.leaf t (suc k) p)
        like_end = Parting.like_end sys w law course low is_real courses s g x hd v h hand_is y q r i no

        -- a move to another host
        module _ (to : ℕ) (other : to ≡ h → ⊥) where
          abbrev pub entry_sent : Entry F
          entry_sent = moved_on (with_body q.entry (Some body_end))

          abbrev pub rest : List (Path × Hold)
          rest = kept_of (not_at p) q.event.held

          abbrev pub parting_moved : Path → ℕ
          parting_moved a = if path_eq p a then suc q.event.sent else all_parting rest (suc q.event.sent) a

          abbrev pub z_moved : Change
          z_moved = record { stage = Done; given = g.lines.given; main = g.main t; parting = parting_moved; entry = entry_sent; body = body_end; trail = set path_eq g.trail p (sent_on (g.trail p) to) }

          abbrev pub transfer : Mail F
          transfer = record { host = to; path = p; letter = Transfer entry_sent }

          abbrev pub y_moved : Part A F R
          y_moved = over_there p (part_of s t p) h (desk_with q.event.held) (with_body q.entry (Some body_end)) r to

          trail_off_m : (a : Path) → path_eq p a ≡ false → (z_moved).trail a ≡ g.trail a
          trail_off_m a d = set_there path_eq g.trail p _ a d

          trail_at_m : (z_moved).trail p ≡ sent_on (g.trail p) to
          trail_at_m = set_at_path g.trail p _

          rest_at : (a : Path) → hold_at rest a ≡ cond (not (path_eq p a)) (hold_at q.event.held a) None
          rest_at a = hold_filter (not_at p) q.event.held a

          rest_is : (a : Path) (b : Hold) → hold_at rest a ≡ Some b → (path_eq p a ≡ false) × (hold_at q.event.held a ≡ Some b)
          rest_is a b e = by (path_eq p a) refl (sym (rest_at a) ∙ e)
            where
              by : (j : Bool) → path_eq p a ≡ j → cond (not j) (hold_at q.event.held a) None ≡ Some b → (path_eq p a ≡ false) × (hold_at q.event.held a ≡ Some b)
              by true d e = absurd (none_not e)
              by false d e = (d, e)

          rest_now : (a : Path) → is_some (hold_at rest a) ≡ (not (path_eq p a) && w.held t k a)
          rest_now a = ap is_some (rest_at a) ∙ by (path_eq p a) ∙ ap (λ j. not (path_eq p a) && j) (Stopping.held_is sys w law course low is_real courses s g x hd v h hand_is y q a)
            where
              by : (j : Bool) → is_some (cond (not j) (hold_at q.event.held a) None) ≡ (not j && is_some (hold_at q.event.held a))
              by true = refl
              by false = refl

          rest_none : (a : Path) → w.held t k a ≡ false → hold_at rest a ≡ None
          rest_none a e = option_none _ (rest_now a ∙ ap (λ j. not (path_eq p a) && j) e ∙ and_none (not (path_eq p a)))
            where
              and_none : (j : Bool) → (j && false) ≡ false
              and_none j = grind arith

          old_m : KeepsOld z_moved
          old_m = record {
            trail = λ a m n. trail_off_m a (Stopping.not_held_p sys w law course low is_real courses s g x hd v h hand_is y q a n);
            parting = λ a e. ap (λ j. if j then suc q.event.sent else all_parting rest (suc q.event.sent) a) (Stopping.not_held_p sys w law course low is_real courses s g x hd v h hand_is y q a e) ∙ Parting.all_off sys w law course low is_real courses s g x hd v h hand_is y q rest (suc q.event.sent) a (rest_none a e);
          }

          transfer_now : Shows.MailShows sys w course low is_real (changed_by g t p z_moved) t (suc q.event.sent) to p (Transfer entry_sent)
          transfer_now = (
            record {
              holds = Stopping.holds_p sys w law course low is_real courses s g x hd v h hand_is y q;
              not_held = ap (λ j. w.held t j p) (set_at g.lines.pos t (suc k)) ∙ nothing_held i.last_is p;
              number_is = sym (ap (λ j. j p) (set_at g.parting t parting_moved) ∙ ap (λ j. if j then suc q.event.sent else all_parting rest (suc q.event.sent) p) (path_self p));
              host_is = sym (ap owner trail_at_m ∙ set_at (g.trail p).at (suc (g.trail p).last) to);
            },
            ap (λ j. j.stored) trail_at_m,
            sym (set_at_path g.entry p entry_sent),
            no,
          )

          moves_now : q.entry.moves ≡ (g.trail p).last
          moves_now = ap (λ (u : Entry F). u.moves) f.entry_is ∙ en.moves

          pub is_moved : y ≡ y_moved → IsChange z_moved
          is_moved ye = record {
            good = done_good law g.lines t x.good (omega (arith, hs.later)) hs.known hs.stage i.last_is;
            given_ok = λ a u d. refl;
            trail_ok = λ a d. inl (trail_off_m a d);
            birth_ok = ap (λ j. j.at 0) trail_at_m ∙ set_there nat_eq (g.trail p).at (suc (g.trail p).last) to 0 (differ (suc (g.trail p).last) 0 (λ e. omega arith));
            longer_ok = inr (no, subst (λ j. (g.trail p).last ≤ j) (sym (ap (λ j. j.last) trail_at_m)) (omega arith), λ a l. ap (λ j. j.at a) trail_at_m ∙ set_there nat_eq (g.trail p).at (suc (g.trail p).last) to a (differ (suc (g.trail p).last) a (λ e. omega arith)));
            body_ok = λ e. absurd (clash _ e no);
            like = like_end;
            cell = subst (λ (u : Part A F R). Shows.CellShows sys w course low is_real (changed_by g t p z_moved) t u.cell) (sym ye)
                (ended_cell z_moved (after_end (send (desk_with rest) transfer)) r
                (ended_desk z_moved (send (desk_with rest) transfer) (λ a. not (path_eq p a) && w.held t k a)
                (send_desk sys w course low is_real (changed_by g t p z_moved) t (desk_with rest) (λ a. not (path_eq p a) && w.held t k a) (Some (left).actor) Travelling transfer
                (base_desk z_moved old_m rest (λ a. not (path_eq p a) && w.held t k a) rest_now (λ a b e. let u = rest_is a b e in (u.1, trail_off_m a u.0)) (once_filter (not_at p) q.event.held once_held)) transfer_now)
                i.last_is (λ a m. (and_second (not (path_eq p a)) _ m, ap (λ j. if j then suc q.event.sent else all_parting rest (suc q.event.sent) a) (not_is (path_eq p a) (and_first _ _ m))))) refl i.last_is i.result_is);
            entry = entry_back z_moved (record {
              looks = no;
              entry = refl;
              given = λ u. ap (λ a. Shows.given_of a u) whole_e ∙ en.given u;
              births = λ u a e. en.births u a (ap (λ j. child_at j.children u) (sym whole_e) ∙ e) ∙ ap (λ j. j.at 0) (sym (trail_off_m (p ++ u ∷ []) (path_swap p (p ++ u ∷ []) ∙ child_differs p u)));
              strangers = λ u e. en.strangers u (ap (λ j. child_at j.children u) (sym whole_e) ∙ e);
              moves = ap suc moves_now ∙ ap (λ j. j.last) (sym trail_at_m);
            });
            column = subst (λ j. Shows.ColumnShows sys w course low is_real j (changed_by g t p z_moved) p y.column) (sym f.born) (subst (λ (u : Part A F R). Shows.Stays sys w course low is_real (changed_by g t p z_moved) p u.column) (sym ye) (record {
              track = subst (λ j. Track (column_left (s.columns p) h to (suc q.entry.moves)) j) (sym trail_at_m)
                  (subst (λ j. Track (column_left (s.columns p) h to (suc j)) (sent_on (g.trail p) to)) (sym moves_now) (subst (λ j. Track (column_left (s.columns p) j to (suc (g.trail p).last)) (sent_on (g.trail p) to)) (sym f.host_is)
                  (depart_track (s.columns p) (g.trail p) to f.stays.track f.stored (λ e. other (e ∙ sym f.host_is)))));
              there = λ e. absurd (clash _ e (ap (λ j. j.stored) trail_at_m));
            }));
          }

          pub turn_moved : sys.moved r ≡ Some (p, to) → Deeds.Turn sys w course low is_real s g (changed_by g t p z_moved) (Labels.Stop t p)
          turn_moved moved_to = record {
            deed = Deeds.Moves to;
            suits = tt;
            is = refl;
            fits = record { stopped = record { stage = hs.stage; place = sym hs.place; born = f.born; stored = f.stored }; last = i.last_is; result = r; result_is = i.result_is; move_is = record { moved = moved_to; other = λ e. other (e ∙ sym f.host_is); stored = f.stored; latest = x.good.latest t p (Stopping.holds_p sys w law course low is_real courses s g x hd v h hand_is y q) no } };
            kids = Stopping.kids_by sys w law course low is_real courses s g x hd v h hand_is y q z_moved (λ u a e. inl (ap (λ (b : Record F). child_at b.children u) (sym whole_e) ∙ e));
          }

          pub lives_moved : to < course.hosts → y ≡ y_moved → Alive.Alive sys w course low is_real s g → Lives z_moved
          lives_moved within ye a = record {
            waiting = refl;
            entering = λ e. absurd (done_entering e);
            coming = λ e. absurd (done_coming e);
            parting = λ b m n. subst (λ (u : Part A F R). Alive.PartingThere u.cell.mails (parting_moved b) b) (sym ye) (elim (path_cases p b) [
              | inl d ↦ subst (λ u. Alive.PartingThere (after_end (send (desk_with rest) transfer)).mails (parting_moved u) u) d (subst (λ j. Alive.PartingThere (after_end (send (desk_with rest) transfer)).mails j p) (sym (ap (λ j. if j then suc q.event.sent else all_parting rest (suc q.event.sent) p) (path_self p))) (record {
                mail = transfer;
                there = keep_release (left_of nothing_kept rest) (record { event = with_held (with_status (send (desk_with rest) transfer).event Ended) (kept_of nothing_kept rest); mails = (send (desk_with rest) transfer).mails }) (suc q.event.sent) (omega arith) ∙ set_at (s.cells t).mails (suc q.event.sent) (Some transfer);
                path_is = refl;
                letter = inr (entry_sent, refl);
              }))
              | inr d ↦ subst (λ j. Alive.PartingThere (after_end (send (desk_with rest) transfer)).mails j b) (sym (ap (λ j. if j then suc q.event.sent else all_parting rest (suc q.event.sent) b) d)) (give_up_there nothing_kept (record { event = with_status (send (desk_with rest) transfer).event Ended; mails = (send (desk_with rest) transfer).mails }) (g.parting t) b (elim (bool_cases (w.held t k b)) [
                | inl u ↦ inl (refl, rest_now b ∙ ap (λ j. not j && w.held t k b) d ∙ u)
                | inr u ↦ (let o = old_there a b m u in inr (rest_none b u, sent_there (desk_with rest) transfer (g.parting t b) b o.0 o.1, upto (g.parting t b) q.event.sent o.1))
              ]))
            ]);
            lined = λ e. absurd (done_lined e);
            away = λ e. nothing_held i.last_is p;
            kids = same_kids z_moved (ap (λ (u : Record F). u.children) whole_e) a;
            housed = Tracks.housed_set course.hosts g.trail p (sent_on (g.trail p) to) a.housed (Tracks.housed_sent course.hosts (g.trail p) to within (a.housed p));
            no_zero = ap (λ (u : Part A F R). u.cell.mails 0) ye ∙ zero_ended (send (desk_with rest) transfer) ∙ zero_sent (desk_with rest) transfer ∙ a.no_zero t;
            waits_next = λ f o. refl;
            stale = λ e. absurd (done_coming e);
          }
            where
              upto : (a b : ℕ) → a ≤ b → a ≤ suc b
              upto a b l = omega arith
