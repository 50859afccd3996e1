-- Grants keep what the state shows.
use Rattle.std.proofs.Common.{◌≡◌, ℕ, zero, suc, ◌<◌, ◌≤◌, ◌&&◌, ◌||◌, not, inl, inr, nat_eq, Bool, true, false, Some, None, is_some, refl, sym, ◌∙◌, ap, subst, arith, ap₂}
use Rattle.std.specs.Prelude.{cond}
use Rattle.std.specs.List.{AllByRecursion}
use Rattle.wave_base.specs.declared.path.Path.{Path}
use Rattle.wave_base.specs.Paths.{path_eq, path_cmp}
use Rattle.std.specs.BTreeMap.{insert_entry}
use Rattle.wave_states.specs.Actors.{Actors}
use Rattle.wave_states.specs.States.{State, Claim, Entry, Hold, Ready, set, hold_at}
use Rattle.wave_states.specs.Steps.{Part, with_bench, after_grant, let_in, part_of}
use Rattle.wave_theory.proofs.Basics.{clash, some_same, none_not, number_self, number_cases, not_same, path_is, path_self, path_cases, set_at, set_there, set_at_path}
use Rattle.wave_theory.proofs.Order.{Way, IsWay, visits, rank, Lined, There, is_pending, here, let_at}
use Rattle.wave_theory.proofs.Ranks.{rank_in, rank_less, rank_up_to}
use Rattle.wave_theory.proofs.Turns.{grant_good, Joins, add_was, add_here, add_off}
use Rattle.wave_theory.proofs.Leaves.{Course, IsCourse, fresh_leaf, frames}
use Rattle.wave_theory.proofs.Tracks.{owner}
use Rattle.wave_theory.proofs.Maps.{hold_put}
use Rattle.wave_theory.proofs.Held.{once_insert}
use Rattle.wave_theory.proofs.Paths.{path_swap}
use Rattle.wave_theory.proofs.Opened.{Grants}
use Rattle.wave_theory.proofs.Own.{mail_own, status_out}
use Rattle.wave_theory.proofs.Found.{Found, found, changed, claims_append, all_append, joining}
use Rattle.wave_theory.proofs.Frames.{update, at_spot, entered_spot, visits_of, option_none}
use Rattle.wave_theory.proofs.Ranks.{rank_same}
use Rattle.wave_theory.proofs.Alive
use Rattle.wave_theory.proofs.Tallies
use Rattle.wave_theory.proofs.Deeds
use Rattle.wave_states.specs.Labels
use Rattle.wave_theory.proofs.Shows
use Rattle.wave_theory.proofs.Stages.{lined_coming, lined_done, lined_entering, lined_there, there_coming, there_entering, there_lined}

module _ {A F R J : Type 0} (sys : Actors A F R J) (w : Way) (law : IsWay w) (course : Course sys) (low : ℕ) (is_real : ℕ → Type 0) (courses : IsCourse sys w course low is_real) where
  -- Grant
  abbrev let_in_now : Shows.Ghost F → ℕ → Path → Claim → Shows.Ghost F
  let_in_now g t p c = record { lines = let_at w g.lines t; out = g.out; worker = g.worker; main = g.main; parting = g.parting; entry = set path_eq g.entry p (let_in (g.entry p) c); body = g.body; born = g.born; trail = g.trail }

  module _ (s : State A F R J) (g : Shows.Ghost F) (x : Shows.Shows sys w course low is_real s g) (t : ℕ) (p : Path) (h v : ℕ) (y : Part A F R) (q : Grants t p h (part_of s t p) y) where
    fg : Found sys w course low is_real g p (s.columns p) h q.entry
    fg = found sys w course low is_real g p (s.columns p) h q.entry (x.columns p) q.entry_is

    eg : Shows.EntryShows sys w course low is_real g p
    eg = x.entries p

    wait_c : Shows.WaitShows sys w course low is_real g p (suc (g.entry p).served) q.claim
    wait_c = eg.waits (suc (g.entry p).served) q.claim (subst (λ (z : Entry F). z.waiting (suc z.served) ≡ Some q.claim) fg.entry_is q.claim_is)

    -- of the ticket
    pub record Waiting_now : Type 0 where
      pub known : t ≤ g.lines.admitted
      pub later : low < t
      pub stage : g.lines.stage t ≡ Lined
      pub place : here w g.lines t ≡ p
      pub number : suc (g.entry p).served ≡ rank w p t
      pub peek : q.claim.peek ≡ w.looks t p

    now : Waiting_now
    now = record {
      known = subst (λ a. a ≤ g.lines.admitted) q.ticket_is wait_c.known;
      later = subst (λ a. low < a) q.ticket_is wait_c.later;
      stage = subst (λ a. g.lines.stage a ≡ Lined) q.ticket_is wait_c.stage;
      place = subst (λ a. here w g.lines a ≡ p) q.ticket_is wait_c.place;
      number = subst (λ a. suc (g.entry p).served ≡ rank w p a) q.ticket_is wait_c.number;
      peek = subst (λ a. q.claim.peek ≡ w.looks a p) q.ticket_is wait_c.peek;
    }

    cg : Shows.CellShows sys w course low is_real g t (s.cells t)
    cg = x.cells t now.later now.known

    abbrev gg : Shows.Ghost F
    gg = let_in_now g t p q.claim

    out_g : g.out t ≡ false
    out_g = status_out cg.event.status (g.lines.stage t) (g.out t) _ cg.status (λ z. lined_there (sym now.stage ∙ z))

    joins : Joins law g.lines t p
    joins b e = (let j = joining (λ i. w.looks i p) q.claim.peek q.entry.holders q.joins (subst (λ (z : Entry F). AllByRecursion (λ c. c.peek ≡ w.looks c.ticket p) z.holders) (sym fg.entry_is) eg.peeks) b
        (ap (λ (z : Entry F). Shows.holds_claim z.holders b) fg.entry_is ∙ eg.holders b ∙ e) in
        (j.0, sym now.peek ∙ j.1))

    calm_before : Shows.IsCalm sys w course low is_real g.lines p
    calm_before b e = (joins b e).0

    rank_is : rank w p t ≡ suc (g.lines.served p)
    rank_is = sym now.number ∙ ap suc eg.served

    stage_g : (gg).lines.stage t ≡ There
    stage_g = set_at g.lines.stage t There

    going : g.lines.pos t ≤ w.last t
    going = x.good.going t now.known (λ e. lined_done (sym now.stage ∙ e))

    -- the context is in the state in which the ticket's own run finds it
    found_like : Shows.Like sys w course low is_real (g.body p) (course.leaf t (g.lines.pos t) p)
    found_like = on t now.later rank_is now.known (subst (λ r. course.leaf t (g.lines.pos t) r ≡ course.leaf t 0 r) now.place (fresh_leaf sys law courses t (g.lines.pos t) going (x.good.is_fresh t now.known (ap is_pending now.stage)))) vis
      where
        vis : visits w t p ≡ true
        vis = subst (λ r. visits w t r ≡ true) now.place (visits_of sys w law course low is_real g x.good t (here w g.lines t) now.known (entered_spot sys w law course low is_real g x.good t now.known (λ e. lined_done (sym now.stage ∙ e))))

        on : (b : ℕ) → low < b → rank w p b ≡ suc (g.lines.served p) → b ≤ g.lines.admitted → course.leaf b (g.lines.pos t) p ≡ course.leaf b 0 p → visits w b p ≡ true → Shows.Like sys w course low is_real (g.body p) (course.leaf b (g.lines.pos t) p)
        on zero l r k e vb = absurd (omega arith)
        on (suc b) l r k e vb = subst (Shows.Like sys w course low is_real (g.body p)) (sym e) (x.kept.calm p b calm_before (less_one _ _ _ (rank_in w p b vb) r) (omega arith))
          where
            less_one : (a b c : ℕ) → a ≡ suc b → a ≡ suc c → b ≡ c
            less_one a b c e f = omega arith

    kept_g : Shows.Kept sys w course low is_real gg
    kept_g = record {
      held = λ r b e. elim (add_was g.lines.holds p t r b (subst (λ i. set path_eq g.lines.holds i (set nat_eq (g.lines.holds i) t true) r b ≡ true) now.place e)) [
        | inl z ↦ subst (λ i. Shows.Like sys w course low is_real (g.body r) (course.leaf i (g.lines.pos i) r)) z.1 (subst (λ i. Shows.Like sys w course low is_real (g.body i) (course.leaf t (g.lines.pos t) i)) z.0 found_like)
        | inr z ↦ x.kept.held r b z
      ];
      calm = λ r m c e l. elim (path_cases p r) [
        | inr d ↦ x.kept.calm r m (λ b u. c b (ap (λ i. set path_eq g.lines.holds i (set nat_eq (g.lines.holds i) t true) r b) now.place ∙ ap (λ f. f b) (set_there path_eq g.lines.holds p _ r d) ∙ u)) (e ∙ ap (λ i. set path_eq g.lines.served i (suc (g.lines.served i)) r) now.place ∙ set_there path_eq g.lines.served p _ r d) l
        | inl d ↦ subst (λ i. Shows.Like sys w course low is_real (g.body i) (course.leaf (suc m) 0 i)) d (after_look m
            (c t (subst (λ i. (gg).lines.holds i t ≡ true) d (ap (λ i. set path_eq g.lines.holds i (set nat_eq (g.lines.holds i) t true) p t) now.place ∙ add_here g.lines.holds p t)))
            (subst (λ i. rank w i m ≡ (gg).lines.served i) (sym d) e ∙ ap (λ i. set path_eq g.lines.served i (suc (g.lines.served i)) p) now.place ∙ set_at_path g.lines.served p _) d)
      ];
    }
      where
        after_look : (m : ℕ) {r : Path} → w.looks t r ≡ true → rank w p m ≡ suc (g.lines.served p) → p ≡ r → Shows.Like sys w course low is_real (g.body p) (course.leaf (suc m) 0 p)
        after_look m {r} lk e d = subst (Shows.Like sys w course low is_real (g.body p)) (sym path) found_like
          where
            looks : w.looks t (here w g.lines t) ≡ true
            looks = subst (λ i. w.looks t i ≡ true) (sym d ∙ sym now.place) lk

            last_is : g.lines.pos t ≡ w.last t
            last_is = law.looks_last t (g.lines.pos t) going looks

            vis : visits w t p ≡ true
            vis = subst (λ r. visits w t r ≡ true) now.place (visits_of sys w law course low is_real g x.good t (here w g.lines t) now.known (entered_spot sys w law course low is_real g x.good t now.known (λ e. lined_done (sym now.stage ∙ e))))

            later : t ≤ m
            later = not_before t m _ _ (λ l. rank_less w p m t l vis) (rank_is ∙ sym e)
              where
                not_before : (t m x y : ℕ) → (m < t → y < x) → x ≡ y → t ≤ m
                not_before t m x y f e = grind arith

            path : course.leaf (suc m) 0 p ≡ course.leaf t (g.lines.pos t) p
            path = frames sys law courses t m p later (rank_is ∙ sym e) ∙ courses.chained t p ∙ ap (λ i. course.leaf t (suc i) p) (sym last_is)
                ∙ subst (λ i. course.leaf t (suc (g.lines.pos t)) i ≡ course.leaf t (g.lines.pos t) i) now.place ((courses.segment t (g.lines.pos t) cg.real going).unchanged looks)

    pub frame_g : Shows.Frame sys w course low is_real g gg t p v
    frame_g = record {
      admitted = omega arith;
      stage = λ b n. set_there nat_eq g.lines.stage t There b n;
      pos = λ b n. refl;
      out = λ b n. refl;
      worker = λ b n. refl;
      main = λ b n. refl;
      parting = λ b r n. refl;
      holds = λ b r n. other_holds b r n;
      holds_there = λ b r d. ap (λ f. f b) (ap (λ i. set path_eq g.lines.holds i (set nat_eq (g.lines.holds i) t true) r) now.place ∙ set_there path_eq g.lines.holds p _ r d);
      entry = λ r d. set_there path_eq g.entry p _ r d;
      body = λ r d. refl;
      born = λ r d. refl;
      served = λ r d. ap (λ i. set path_eq g.lines.served i (suc (g.lines.served i)) r) now.place ∙ set_there path_eq g.lines.served p _ r d;
      given = λ r i d. refl;
      trail = λ r d. inl refl;
      birth = refl;
      longer = λ b n. inl refl;
      entry_moving = λ b n m u. absurd (clash _ fg.stored u);
      body_shared = λ b n m. refl;
      born_known = λ r i z u. subst (λ a. g.born a ≡ false) z ((x.entries r).strangers i u);
      lined = λ r d z u. absurd (clash _ (subst (λ a. path_eq p a ≡ true) (sym now.place ∙ u) (path_self p)) d);
      away = λ r d z u. absurd (clash _ z out_g);
      hand = λ u n z i. absurd (clash _ z out_g);
    }
      where
        other_holds : (b : ℕ) (r : Path) → nat_eq t b ≡ false → set path_eq g.lines.holds (here w g.lines t) (set nat_eq (g.lines.holds (here w g.lines t)) t true) r b ≡ g.lines.holds r b
        other_holds b r n = elim (path_cases (here w g.lines t) r) [
          | inr d ↦ ap (λ f. f b) (set_there path_eq g.lines.holds (here w g.lines t) (set nat_eq (g.lines.holds (here w g.lines t)) t true) r d)
          | inl d ↦ subst (λ i. set path_eq g.lines.holds (here w g.lines t) (set nat_eq (g.lines.holds (here w g.lines t)) t true) i b ≡ g.lines.holds i b) d (ap (λ f. f b) (set_at_path g.lines.holds (here w g.lines t) (set nat_eq (g.lines.holds (here w g.lines t)) t true)) ∙ set_there nat_eq (g.lines.holds (here w g.lines t)) t true b n)
        ]

    entry_now_g : (gg).entry p ≡ let_in (g.entry p) q.claim
    entry_now_g = set_at_path g.entry p _

    holds_now : (b : ℕ) → (gg).lines.holds p b ≡ set nat_eq (g.lines.holds p) t true b
    holds_now b = ap (λ f. f b) (ap (λ i. set path_eq g.lines.holds i (set nat_eq (g.lines.holds i) t true) p) now.place ∙ set_at_path g.lines.holds p _)

    entry_g : Shows.EntryShows sys w course low is_real gg p
    entry_g = record {
      served = ap (λ z. z.served) entry_now_g ∙ ap suc eg.served ∙ sym (ap (λ i. set path_eq g.lines.served i (suc (g.lines.served i)) p) now.place ∙ set_at_path g.lines.served p _);
      holders = λ b. ap (λ z. Shows.holds_claim z.holders b) entry_now_g ∙ claims_append (g.entry p).holders q.claim b ∙ or_set b ∙ sym (holds_now b);
      peeks = subst (λ z. AllByRecursion (λ c. c.peek ≡ w.looks c.ticket p) z.holders) (sym entry_now_g) (all_append _ (g.entry p).holders q.claim eg.peeks (now.peek ∙ ap (λ i. w.looks i p) (sym q.ticket_is)));
      later = λ b e. elim (number_cases t b) [
        | inl z ↦ subst (λ i. low < i) z now.later
        | inr z ↦ eg.later b (sym (set_there nat_eq (g.lines.holds p) t true b z) ∙ sym (holds_now b) ∙ e)
      ];
      waits = λ j cl z. waits_now j cl (ap (λ u. u.waiting j) (sym entry_now_g) ∙ z);
      away = λ z. let i = eg.away (ap (λ u. u.body) (sym entry_now_g) ∙ z) in absurd (clash _ (calm_before i.ticket i.holds) i.looks);
      body = λ r z. eg.body r (ap (λ u. u.body) (sym entry_now_g) ∙ z);
      given = eg.given;
      births = eg.births;
      strangers = eg.strangers;
      unborn = λ z. absurd (clash _ fg.born z);
      moves = ap (λ z. z.moves) entry_now_g ∙ eg.moves;
    }
      where
        or_set : (b : ℕ) → (Shows.holds_claim (g.entry p).holders b || nat_eq q.claim.ticket b) ≡ set nat_eq (g.lines.holds p) t true b
        or_set b = elim (number_cases t b) [
          | inl z ↦ subst (λ i. (Shows.holds_claim (g.entry p).holders i || nat_eq q.claim.ticket i) ≡ set nat_eq (g.lines.holds p) t true i) z
              (ap (λ i. Shows.holds_claim (g.entry p).holders t || nat_eq i t) q.ticket_is ∙ ap (λ i. Shows.holds_claim (g.entry p).holders t || i) (number_self t) ∙ or_true (Shows.holds_claim (g.entry p).holders t) ∙ sym (set_at (g.lines.holds p) t true))
          | inr z ↦ ap (λ i. Shows.holds_claim (g.entry p).holders b || nat_eq i b) q.ticket_is ∙ ap (λ i. Shows.holds_claim (g.entry p).holders b || i) z ∙ or_none (Shows.holds_claim (g.entry p).holders b) ∙ eg.holders b ∙ sym (set_there nat_eq (g.lines.holds p) t true b z)
        ]
          where
            or_true : (a : Bool) → (a || true) ≡ true
            or_true a = grind arith

            or_none : (a : Bool) → (a || false) ≡ a
            or_none a = grind arith

        waits_now : (j : ℕ) (cl : Claim) → set nat_eq (g.entry p).waiting (suc (g.entry p).served) None j ≡ Some cl → Shows.WaitShows sys w course low is_real gg p j cl
        waits_now j cl z = elim (number_cases (suc (g.entry p).served) j) [
          | inl u ↦ absurd (none_not (sym (set_at (g.entry p).waiting (suc (g.entry p).served) None) ∙ subst (λ i. set nat_eq (g.entry p).waiting (suc (g.entry p).served) None i ≡ Some cl) (sym u) z))
          | inr u ↦ (let i = eg.waits j cl (sym (set_there nat_eq (g.entry p).waiting (suc (g.entry p).served) None j u) ∙ z) in
              record {
                known = i.known;
                later = i.later;
                place = i.place;
                number = i.number;
                peek = i.peek;
                stage = elim (number_cases t cl.ticket) [
                  | inr n ↦ set_there nat_eq g.lines.stage t There cl.ticket n ∙ i.stage
                  | inl n ↦ absurd (not_same (suc (g.entry p).served) j u (now.number ∙ ap (rank w p) n ∙ sym i.number))
                ];
              })
        ]

    cell_g : Shows.CellShows sys w course low is_real gg t (after_grant p h (part_of s t p) q.event q.entry q.claim).cell
    cell_g = record {
      event = record { actor = q.event.actor; held = insert_entry path_cmp q.event.held p (record { host = h; peek = q.claim.peek }); sent = q.event.sent; status = Ready p };
      event_is = refl;
      status = subst (λ z. Shows.StatusShows (Ready p) z (g.out t) (here w g.lines t)) (sym stage_g) (sym now.place, out_g);
      actor = λ z. ap (λ u. u.actor) same ∙ cg.actor z;
      held = λ r. ap is_some (hold_put q.event.held p r (record { host = h; peek = q.claim.peek })) ∙ by r (path_eq r p) refl;
      where_held = λ r i z. where_now r i (path_eq r p) refl (sym (hold_put q.event.held p r (record { host = h; peek = q.claim.peek })) ∙ z);
      once = once_insert q.event.held p (record { host = h; peek = q.claim.peek }) (option_none (hold_at q.event.held p) (old p ∙ ap (λ u. w.held t (g.lines.pos t) p && not (path_eq u p)) now.place ∙ ap (λ u. w.held t (g.lines.pos t) p && not u) (path_self p) ∙ and_none (w.held t (g.lines.pos t) p))) (subst (λ u. Shows.Once u.held) (sym same) cg.once);
      result = cg.result;
      mails = λ i m z. mail_own sys w course low is_real g gg t i m.host m.path m.letter (record { no_enter = λ a u. lined_entering (sym now.stage ∙ u.stage); no_coming = λ u. lined_coming (sym now.stage ∙ u.stage) })
          (λ u. record {
            not_held = λ a. a;
            parting = refl;
            holds = ap (λ a. set path_eq g.lines.holds a (set nat_eq (g.lines.holds a) t true) m.path t) now.place ∙ add_off g.lines.holds p t m.path t u.holds;
            trail = refl;
            entry = λ a. elim (path_cases p m.path) [
              | inr d ↦ set_there path_eq g.entry p _ m.path d
              | inl d ↦ absurd (clash _ (subst (λ b. (g.trail b).stored ≡ true) d fg.stored) a)
            ];
          }) (cg.mails i m z);
      unused = λ i l. cg.unused i (subst (λ u. u.sent < i) same l);
      real = cg.real;
    }
      where
        same : q.event ≡ cg.event
        same = some_same _ _ (sym q.event_is ∙ cg.event_is)

        old : (r : Path) → is_some (hold_at q.event.held r) ≡ (w.held t (g.lines.pos t) r && not (path_eq (here w g.lines t) r))
        old r = ap (λ u. is_some (hold_at u.held r)) same ∙ cg.held r ∙ ap (λ u. w.held t (g.lines.pos t) r && not (is_pending u && path_eq (here w g.lines t) r)) now.stage

        and_none : (a : Bool) → (a && false) ≡ false
        and_none a = grind arith

        by : (r : Path) (i : Bool) → path_eq r p ≡ i → is_some (cond i (Some (record { host = h; peek = q.claim.peek })) (hold_at q.event.held r)) ≡ (w.held t (g.lines.pos t) r && not (is_pending (set nat_eq g.lines.stage t There t) && path_eq (here w g.lines t) r))
        by r true e = sym (ap (λ u. w.held t (g.lines.pos t) r && not (is_pending u && path_eq (here w g.lines t) r)) stage_g ∙ and_true _ (subst (λ a. w.held t (g.lines.pos t) a ≡ true) (now.place ∙ sym (path_is r p e)) (at_spot sys w law course low is_real g x.good t now.known (λ z. lined_done (sym now.stage ∙ z)))))
          where
            and_true : (a : Bool) → a ≡ true → (a && true) ≡ true
            and_true a e = grind arith
        by r false e = old r ∙ ap (λ u. w.held t (g.lines.pos t) r && not u) (ap (λ a. path_eq a r) now.place ∙ path_swap p r ∙ e) ∙ sym (ap (λ u. w.held t (g.lines.pos t) r && not (is_pending u && path_eq (here w g.lines t) r)) stage_g)

        where_now : (r : Path) (i : Hold) (j : Bool) → path_eq r p ≡ j → cond j (Some (record { host = h; peek = q.claim.peek })) (hold_at q.event.held r) ≡ Some i → (i.host ≡ owner (g.trail r)) × ((g.trail r).stored ≡ true) × (i.peek ≡ w.looks t r)
        where_now r i true e z = subst (λ a. (i.host ≡ owner (g.trail a)) × ((g.trail a).stored ≡ true) × (i.peek ≡ w.looks t a)) (sym (path_is r p e))
            (subst (λ (a : Hold). (a.host ≡ owner (g.trail p)) × ((g.trail p).stored ≡ true) × (a.peek ≡ w.looks t p)) (some_same _ i z) (fg.host_is, fg.stored, now.peek))
        where_now r i false e z = cg.where_held r i (ap (λ a. hold_at a.held r) (sym same) ∙ z)

    column_g : Shows.ColumnShows sys w course low is_real (g.born p) gg p (after_grant p h (part_of s t p) q.event q.entry q.claim).column
    column_g = changed sys w course low is_real g gg p (s.columns p) h q.entry (let_in q.entry q.claim) fg refl refl (entry_now_g ∙ ap (λ z. let_in z q.claim) (sym fg.entry_is))

    pub grant_shows : Shows.Shows sys w course low is_real (with_bench s t p v (record { part = y; hand = None })) gg
    grant_shows = update sys w law course low is_real s g gg t p v (record { part = y; hand = None }) x frame_g
        (grant_good law g.lines t x.good (omega (arith, now.later)) now.known now.stage (ap (λ r. rank w r t) now.place ∙ rank_is ∙ ap (λ r. suc (g.lines.served r)) (sym now.place)) (subst (Joins law g.lines t) (sym now.place) joins)) kept_g refl now.later now.known
        (subst (λ (z : Part A F R). Shows.CellShows sys w course low is_real gg t z.cell) q.gives cell_g) entry_g
        (subst (λ (z : Part A F R). Shows.ColumnShows sys w course low is_real (g.born p) gg p z.column) q.gives column_g) (λ hd z. absurd (none_not z)) x.root

    served_g : (gg).lines.served p ≡ suc (g.lines.served p)
    served_g = ap (λ i. set path_eq g.lines.served i (suc (g.lines.served i)) p) now.place ∙ set_at_path g.lines.served p _

    pub grant_turn : Deeds.Turn sys w course low is_real s g gg (Labels.Grant t p)
    grant_turn = record { deed = Deeds.Lets_in; suits = tt; is = refl; fits = record { stage = now.stage; place = now.place; number = rank_is; calm = calm_before }; kids = λ r i a z. inl z }

    pub grant_tally : (n : ℕ → ℕ) → Tallies.Tally sys w course low is_real g n → Tallies.Tally sys w course low is_real gg (set nat_eq n t (suc (n t)))
    grant_tally n y = Tallies.tally_update sys w course low is_real g gg t p v n frame_g refl now.later now.known y
        (Tallies.stage_more sys w course low is_real g gg t refl (λ i l. ap (Tallies.over_part (w.fresh t i)) (ap (λ f. f t) (set_there path_eq g.lines.holds (here w g.lines t) _ (w.place t i) (Tallies.place_new law t i (g.lines.pos t) l going fresh_now))))
        (ap₂ (λ u o. Tallies.stage_part (w.fresh t (g.lines.pos t)) u o) stage_g out_g ∙ ap (λ f. Tallies.stage_part f There false) fresh_now ∙ sym (ap (λ u. suc (Tallies.stage_part (w.fresh t (g.lines.pos t)) u (g.out t))) now.stage)))
        (λ z. absurd (there_coming (sym stage_g ∙ z)))
      where
        fresh_now : w.fresh t (g.lines.pos t) ≡ true
        fresh_now = x.good.is_fresh t now.known (ap is_pending now.stage)

    pub grant_alive : Alive.Alive sys w course low is_real s g → s.hands v ≡ None → Alive.Alive sys w course low is_real (with_bench s t p v (record { part = y; hand = None })) gg
    grant_alive a idle = Alive.alive_update sys w course low is_real s g gg t p v (record { part = y; hand = None }) x frame_g refl now.known now.later a
        (λ b cl n z vb. ap (λ (u : Entry F). u.waiting (rank w p b)) entry_now_g ∙ set_there nat_eq (g.entry p).waiting (suc (g.entry p).served) None (rank w p b) (elim (number_cases (suc (g.entry p).served) (rank w p b)) [
          | inr i ↦ i
          | inl i ↦ absurd (not_same t b n (rank_same w p t b vt vb (sym now.number ∙ i)))
        ]) ∙ z)
        (λ hd z. absurd (none_not (sym idle ∙ z)))
        (subst (λ (z : Part A F R). Alive.AliveOne sys w course low is_real gg t z.cell.mails) q.gives (record {
          entering = λ z. absurd (there_entering (sym stage_g ∙ z));
          coming = λ z. absurd (there_coming (sym stage_g ∙ z));
          parting = λ r hd n. (a.one t now.later now.known).parting r (elim (add_was g.lines.holds p t r t (subst (λ i. set path_eq g.lines.holds i (set nat_eq (g.lines.holds i) t true) r t ≡ true) now.place hd)) [
            | inr i ↦ i
            | inl i ↦ absurd (clash _ (subst (λ j. w.held t (g.lines.pos t) j ≡ true) (now.place ∙ i.0) (at_spot sys w law course low is_real g x.good t now.known (λ z. lined_done (sym now.stage ∙ z)))) n)
          ]) n;
          lined = λ z. absurd (there_lined (sym stage_g ∙ z));
        }))
        (λ z. absurd (clash _ z out_g)) (λ r d hd n. n) (λ b e. absurd (clash _ fg.stored e)) (subst (λ i. i ≤ rank w p g.lines.admitted) (sym served_g) (subst (λ i. i ≤ rank w p g.lines.admitted) rank_is (rank_up_to w p t g.lines.admitted now.known))) (λ e. e) (Alive.kids_same sys w course low is_real g gg p refl (λ st e. e) refl (a.kids p)) a.housed (subst (λ (z : Part A F R). z.cell.mails 0 ≡ None) q.gives (a.no_zero t)) law
      where
        vt : visits w t p ≡ true
        vt = subst (λ r. visits w t r ≡ true) now.place (visits_of sys w law course low is_real g x.good t (here w g.lines t) now.known (entered_spot sys w law course low is_real g x.good t now.known (λ z. lined_done (sym now.stage ∙ z))))
