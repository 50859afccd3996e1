-- How often one Enter is passed on.
use Rattle.std.proofs.Common.{◌≡◌, ℕ, suc, ◌+◌, ◌<◌, ◌≤◌, ◌⊎◌, ◌&&◌, nat_eq, nat_lt, inl, inr, Bool, true, false, Option, Some, None, is_some, List, [], ◌∷◌, ◌++◌, refl, sym, ◌∙◌, ap, subst, arith}
use Rattle.std.specs.Prelude.{All, if◌then◌else◌}
use Rattle.wave_base.specs.declared.path.Path.{Path}
use Rattle.wave_base.specs.Paths.{path_eq}
use Rattle.wave_states.specs.States.{State, Cell, Entry, Hand, Mail, Ask, Enter, set}
use Rattle.wave_states.specs.Labels.{Act, Label, Admit, Queue, Grant, Start, Stop, Free, Pass, Land, Commit, ticket_of, path_of, is_pass}
use Rattle.wave_states.specs.Labels
use Rattle.wave_states.specs.Begins.{Begin, start_state}
use Rattle.wave_states.specs.Kinds.{Kind}
use Rattle.wave_states.specs.Owes.{Owes, IsBegin}
use Rattle.wave_states.specs.Steps.{Bench, Part, step, step_by, act_bench, with_bench, part_of, route_by, Forward}
use Rattle.wave_states.specs.Steps
use Rattle.wave_states.specs.Runs.{run}
use Rattle.wave_theory.proofs.Basics.{clash, none_not, some_same, map_some, if_some, bool_cases, number_cases, number_is, path_is, path_cases, set_at, set_there, set_at_path, and_first, and_second, differ}
use Rattle.wave_theory.proofs.Order.{Way, IsWay, Entering, Lined, Coming, There, Done}
use Rattle.wave_theory.proofs.Leaves.{Course}
use Rattle.wave_theory.proofs.Tracks.{Trail, sent_on, arrived}
use Rattle.wave_theory.proofs.Opened.{passes}
use Rattle.wave_theory.proofs.Frames.{entered_spot}
use Rattle.wave_theory.proofs.Own.{shows_letter}
use Rattle.wave_theory.proofs.Courses
use Rattle.wave_theory.proofs.Shows
use Rattle.wave_theory.proofs.Deeds.{Outline, outline, Deed, done_by}
use Rattle.wave_theory.proofs.Deeds
use Rattle.wave_theory.proofs.Passing
use Rattle.wave_theory.proofs.Told
use Rattle.wave_theory.proofs.GoodStates.{Good_state, Next}
use Rattle.wave_theory.proofs.GoodStates
use Rattle.wave_theory.proofs.Along
use Rattle.wave_theory.specs.Counted.{is_pass_of, passed_to}
use Rattle.wave_theory.specs.Numbers.{HasEntry}
use Rattle.wave_theory.proofs.Stages.{coming_entering, done_entering, entering_done, lined_entering, there_entering}

pub passed_on : (t : ℕ) (p : Path) (ls : List Label) (l : Label) → passed_to t p (ls ++ l ∷ []) ≡ passed_to t p ls + (if is_pass_of t p l.act then 1 else 0)
passed_on t p [] l = by (is_pass_of t p l.act)
  where
    by : (i : Bool) → ◌≡◌ {A = ℕ} (if i then 1 else 0) (0 + (if i then 1 else 0))
    by true = refl
    by false = refl
passed_on t p (m ∷ ls) l = by (is_pass_of t p m.act) (passed_on t p ls l)
  where
    by : (i : Bool) → passed_to t p (ls ++ l ∷ []) ≡ passed_to t p ls + (if is_pass_of t p l.act then 1 else 0) → (if i then suc (passed_to t p (ls ++ l ∷ [])) else passed_to t p (ls ++ l ∷ [])) ≡ (if i then suc (passed_to t p ls) else passed_to t p ls) + (if is_pass_of t p l.act then 1 else 0)
    by true e = ap suc e ∙ one _ _
      where
        one : (a c : ℕ) → suc (a + c) ≡ suc a + c
        one a c = omega arith
    by false e = e

-- only Passes are counted
not_pass : (t : ℕ) (p : Path) (a : Act) → is_pass a ≡ false → is_pass_of t p a ≡ false
not_pass t p (Pass u k q to) e = absurd (clash true refl e)
not_pass t p (Admit u) e = refl
not_pass t p (Queue u k q) e = refl
not_pass t p (Grant u q) e = refl
not_pass t p (Labels.Visit u k q) e = refl
not_pass t p (Start u q) e = refl
not_pass t p (Stop u q) e = refl
not_pass t p (Free u k q) e = refl
not_pass t p (Land u k q) e = refl
not_pass t p (Commit u) e = refl

module _ {A F R J : Type 0} (kind : Kind A F R J) (owes : Owes kind) (b : Begin F) (batches : List (List J)) (begins : IsBegin kind b) (jobs : All (All kind.is_job) batches) where
  abbrev w : Way
  w = Courses.w kind owes b batches begins jobs

  abbrev course : Course kind.system
  course = Courses.course kind owes b batches begins jobs

  law : IsWay w
  law = Courses.law kind owes b batches begins jobs

  abbrev Is_real : ℕ → Type 0
  Is_real = Courses.Real kind owes b batches begins jobs

  abbrev Good : State A F R J → Type 0
  Good s = Good_state kind owes b batches begins jobs s

  module _ (some_host : 0 < kind.hosts) (workers : ℕ) where
    -- the ticket has not sent an Enter to the context yet
    abbrev NotSent : Shows.Ghost F → ℕ → Path → Type 0
    NotSent g t p = (w.entered t (g.lines.pos t) p ≡ false) ⊎ (g.lines.admitted < t)

    pub record Often (ls : List Label) (s : State A F R J) (k : Good s) : Type 0 where
      pub none : (t : ℕ) (p : Path) → NotSent k.ghost t p → passed_to t p ls ≡ 0
      pub under_way : (t i : ℕ) (m : Mail F) (a : Ask) → (s.cells t).mails i ≡ Some m → m.letter ≡ Enter a → passed_to t m.path ls ≤ a.followed
      pub few : (t : ℕ) (p : Path) → passed_to t p ls ≤ ((k.ghost).trail p).last

    module _ (ls : List Label) (s s' : State A F R J) (k : Good s) (l : Label) (h : Often ls s k) (e : step kind.system workers s l ≡ Some s') (n : Along.Follows kind owes b batches begins jobs some_host workers s s' k l) where
      abbrev g : Shows.Ghost F
      g = k.ghost

      abbrev o : Outline
      o = outline k.ghost

      abbrev o' : Outline
      o' = done_by w (outline k.ghost) (ticket_of l.act) (path_of l.act) (n.turn).deed

      is : outline (n.good).ghost ≡ o'
      is = (n.turn).is

      by_it : step_by kind.system s l.worker l.host l.act ≡ Some s'
      unfolding step
      by_it = (if_some (nat_lt l.worker workers) (step_by kind.system s l.worker l.host l.act) s' e).1

      -- what was entered stays entered
      later : (t : ℕ) (p : Path) → w.entered t ((g).lines.pos t) p ≡ true → w.entered t (set nat_eq (g).lines.pos (ticket_of l.act) (suc ((g).lines.pos (ticket_of l.act))) t) p ≡ true
      later t p q = elim (number_cases (ticket_of l.act) t) [
        | inr d ↦ subst (λ i. w.entered t i p ≡ true) (sym (set_there nat_eq (g).lines.pos (ticket_of l.act) _ t d)) q
        | inl d ↦ subst (λ u. w.entered u ((g).lines.pos u) p ≡ true → w.entered u (set nat_eq (g).lines.pos (ticket_of l.act) (suc ((g).lines.pos (ticket_of l.act))) u) p ≡ true) d (λ z. subst (λ i. w.entered (ticket_of l.act) i p ≡ true) (sym (set_at (g).lines.pos (ticket_of l.act) _)) (law.kept (ticket_of l.act) ((g).lines.pos (ticket_of l.act)) p z)) q
      ]

      entered_on : (d : Deed) → Deeds.Fits kind.system w course b.before Is_real s k.ghost (n.good).ghost (ticket_of l.act) (path_of l.act) d → (t : ℕ) (p : Path) → t ≤ (g).lines.admitted → w.entered t ((g).lines.pos t) p ≡ true → w.entered t ((done_by w o (ticket_of l.act) (path_of l.act) d).pos t) p ≡ true
      entered_on Deeds.Admits f t p la q = subst (λ i. w.entered t i p ≡ true) (sym (set_there nat_eq (g).lines.pos (suc (g).lines.admitted) 0 t (differ (suc (g).lines.admitted) t (λ z. past _ _ la z)))) q
        where
          past : (a c : ℕ) → a ≤ c → suc c ≡ a → ⊥
          past a c l e = omega (arith, l, e)
      entered_on Deeds.Lines_up f t p la q = q
      entered_on Deeds.Lets_in f t p la q = q
      entered_on Deeds.Arrives f t p la q = q
      entered_on Deeds.Rests f t p la q = q
      entered_on Deeds.Lands f t p la q = q
      entered_on Deeds.Goes_on f t p la q = later t p q
      entered_on Deeds.Ends f t p la q = later t p q
      entered_on (Deeds.Goes_in st r) f t p la q = later t p q
      entered_on (Deeds.Moves to) f t p la q = later t p q

      not_yet : (t : ℕ) (p : Path) → NotSent (n.good).ghost t p → NotSent k.ghost t p
      not_yet t p q = elim (below_or (g).lines.admitted t) [
        | inl m ↦ inr m
        | inr la ↦ elim (bool_cases (w.entered t ((g).lines.pos t) p)) [
          | inr z ↦ inl z
          | inl z ↦ elim q [
            | inl y ↦ absurd (clash _ (subst (λ i. w.entered t i p ≡ true) (sym (ap (λ (u : Outline). u.pos t) is)) (entered_on (n.turn).deed (n.turn).fits t p la z)) y)
            | inr y ↦ inr (fewer t y)
          ]
        ]
      ]
        where
          below_or : (a c : ℕ) → (a < c) ⊎ (c ≤ a)
          below_or a c = grind arith

          fewer : (u : ℕ) → ((n.good).ghost).lines.admitted < u → (g).lines.admitted < u
          fewer u m = elim (Deeds.how_many kind.system w course b.before Is_real s k.ghost (n.good).ghost (ticket_of l.act) (path_of l.act) (n.turn).deed (n.turn).fits) [
            | inl z ↦ subst (λ i. i < u) (ap (λ (u : Outline). u.admitted) is ∙ z) m
            | inr z ↦ less _ _ _ (ap (λ (u : Outline). u.admitted) is ∙ z.0) m
          ]
            where
              less : (a c u : ℕ) → a ≡ suc c → a < u → c < u
              less a c u e l = omega (arith, e, l)

      -- a trail grows
      trail_on : (d : Deed) → Deeds.Fits kind.system w course b.before Is_real s k.ghost (n.good).ghost (ticket_of l.act) (path_of l.act) d → (p : Path) → ((g).trail p).last ≤ ((done_by w o (ticket_of l.act) (path_of l.act) d).trail p).last
      trail_on d f p = by d f
        where
          upto : (a : ℕ) → a ≤ a
          upto a = omega arith

          at_one : (q : Path) (r : Trail) → ((g).trail q).last ≤ r.last → ((g).trail p).last ≤ (set path_eq (g).trail q r p).last
          at_one q r m = elim (path_cases q p) [
            | inr z ↦ subst (λ (u : Trail). ((g).trail p).last ≤ u.last) (sym (set_there path_eq (g).trail q r p z)) (upto _)
            | inl z ↦ subst (λ u. ((g).trail u).last ≤ (set path_eq (g).trail q r u).last) z (subst (λ (u : Trail). ((g).trail q).last ≤ u.last) (sym (set_at_path (g).trail q r)) m)
          ]

          by : (d : Deed) → Deeds.Fits kind.system w course b.before Is_real s k.ghost (n.good).ghost (ticket_of l.act) (path_of l.act) d → ((g).trail p).last ≤ ((done_by w o (ticket_of l.act) (path_of l.act) d).trail p).last
          by Deeds.Admits f = upto _
          by Deeds.Lets_in f = upto _
          by Deeds.Arrives f = upto _
          by Deeds.Rests f = upto _
          by Deeds.Goes_on f = upto _
          by Deeds.Ends f = upto _
          by Deeds.Lands f = at_one (path_of l.act) (arrived ((g).trail (path_of l.act))) (upto _)
          by (Deeds.Moves to) f = at_one (path_of l.act) (sent_on ((g).trail (path_of l.act)) to) (one_more _)
            where
              one_more : (a : ℕ) → a ≤ suc a
              one_more a = omega arith
          by Deeds.Lines_up f = at_one (path_of l.act) (Deeds.grown ((g).born (path_of l.act)) ((g).trail (path_of l.act))) (same ((g).born (path_of l.act)) refl)
            where
              same : (i : Bool) → (g).born (path_of l.act) ≡ i → ((g).trail (path_of l.act)).last ≤ (Deeds.grown i ((g).trail (path_of l.act))).last
              same true z = upto _
              same false z = subst (λ a. a ≤ 0) (sym (f.unborn z)) (upto 0)
          by (Deeds.Goes_in st r) f = at_one (path_of l.act ++ st ∷ []) r (elim f.trail [
            | inl y ↦ subst (λ (u : Trail). ((g).trail (path_of l.act ++ st ∷ [])).last ≤ u.last) (sym y.2) (upto _)
            | inr y ↦ subst (λ (u : Trail). ((g).trail (path_of l.act ++ st ∷ [])).last ≤ u.last) (sym y.0) (subst (λ a. a ≤ 0) (sym (unborn_last y.2)) (upto 0))
          ])
            where
              unborn_last : (g).born (path_of l.act ++ st ∷ []) ≡ false → ((g).trail (path_of l.act ++ st ∷ [])).last ≡ 0
              unborn_last z = (let c : Shows.Unborn kind.system w course b.before Is_real k.ghost (path_of l.act ++ st ∷ []) (s.columns (path_of l.act ++ st ∷ [])) = subst (λ i. Shows.ColumnShows kind.system w course b.before Is_real i k.ghost (path_of l.act ++ st ∷ []) (s.columns (path_of l.act ++ st ∷ []))) z (k.shows.columns (path_of l.act ++ st ∷ [])) in c.last)

      few_on : (t : ℕ) (p : Path) → passed_to t p ls ≤ (((n.good).ghost).trail p).last
      few_on t p = subst (λ (u : Outline). passed_to t p ls ≤ (u.trail p).last) (sym is) (trans _ _ _ (h.few t p) (trail_on (n.turn).deed (n.turn).fits p))
        where
          trans : (a c d : ℕ) → a ≤ c → c ≤ d → a ≤ d
          trans a c d l m = omega (arith, l, m)

      -- what a mail of the state after the label shows
      shown : (t i : ℕ) (m : Mail F) (a : Ask) → (s'.cells t).mails i ≡ Some m → m.letter ≡ Enter a → Shows.EnterShows kind.system w course b.before Is_real (n.good).ghost t i m.host m.path a
      shown t i m a z q = (let kn = GoodStates.known kind owes b batches begins jobs s' (n.good).ghost (n.good).shows t (λ y. none_not (sym (ap (λ (u : Cell A F R). u.mails i) y) ∙ z)) in
          subst (Shows.MailShows kind.system w course b.before Is_real (n.good).ghost t i m.host m.path) q (((n.good).shows.cells t kn.0 kn.1).mails i m z))

      none_more : (a : ℕ) → a + 0 ≡ a
      none_more a = omega arith

      -- where it is no Pass
      module _ (np : is_pass l.act ≡ false) where
        same : (t : ℕ) (p : Path) → passed_to t p (ls ++ l ∷ []) ≡ passed_to t p ls
        same t p = passed_on t p ls l ∙ ap (λ i. passed_to t p ls + (if i then 1 else 0)) (not_pass t p l.act np) ∙ none_more _

        own : (d : Deed) → (n.turn).deed ≡ d → Deeds.Suits l.act d → Deeds.Fits kind.system w course b.before Is_real s k.ghost (n.good).ghost (ticket_of l.act) (path_of l.act) d → (i : ℕ) (m : Mail F) (a : Ask) → (s'.cells (ticket_of l.act)).mails i ≡ Some m → m.letter ≡ Enter a → passed_to (ticket_of l.act) m.path ls ≤ a.followed
        own d q su f i m a z y = by d q su f
          where
            stage_is : (d : Deed) → (n.turn).deed ≡ d → (done_by w o (ticket_of l.act) (path_of l.act) d).stage (ticket_of l.act) ≡ Entering
            stage_is d q = sym (ap (λ (u : Outline). u.stage (ticket_of l.act)) (is ∙ ap (done_by w o (ticket_of l.act) (path_of l.act)) q)) ∙ (shown (ticket_of l.act) i m a z y).stage

            nothing : (c d : ℕ) → c ≡ 0 → c ≤ d
            nothing c d e = omega (arith, e)

            by : (d : Deed) → (n.turn).deed ≡ d → Deeds.Suits l.act d → Deeds.Fits kind.system w course b.before Is_real s k.ghost (n.good).ghost (ticket_of l.act) (path_of l.act) d → passed_to (ticket_of l.act) m.path ls ≤ a.followed
            by Deeds.Admits q su f = nothing _ _ (h.none (ticket_of l.act) m.path (inr (subst (λ u. (g).lines.admitted < u) (sym f.0) (above _))))
              where
                above : (a : ℕ) → a < suc a
                above a = omega arith
            by Deeds.Rests q su f = h.under_way (ticket_of l.act) i m a (Passing.mails_kept kind owes b batches begins jobs 0 s s' l.worker l.host l.act by_it np (inl su) i m z) y
            by Deeds.Lands q su f = h.under_way (ticket_of l.act) i m a (Passing.mails_kept kind owes b batches begins jobs 0 s s' l.worker l.host l.act by_it np (inr su) i m z) y
            by (Deeds.Goes_in st r) q su f = nothing _ _ (h.none (ticket_of l.act) m.path (inl (subst (λ u. w.entered (ticket_of l.act) ((g).lines.pos (ticket_of l.act)) u ≡ false) (sym at_child) (law.once (ticket_of l.act) ((g).lines.pos (ticket_of l.act)) f.more f.fresh))))
              where
                at_child : m.path ≡ w.place (ticket_of l.act) (suc ((g).lines.pos (ticket_of l.act)))
                at_child = (shown (ticket_of l.act) i m a z y).place ∙ ap (w.place (ticket_of l.act)) (ap (λ (u : Outline). u.pos (ticket_of l.act)) (is ∙ ap (done_by w o (ticket_of l.act) (path_of l.act)) q) ∙ set_at (g).lines.pos (ticket_of l.act) _)
            by Deeds.Lines_up q su f = absurd (lined_entering (sym (set_at (g).lines.stage (ticket_of l.act) Lined) ∙ stage_is Deeds.Lines_up q))
            by Deeds.Lets_in q su f = absurd (there_entering (sym (set_at (g).lines.stage (ticket_of l.act) There) ∙ stage_is Deeds.Lets_in q))
            by Deeds.Arrives q su f = absurd (there_entering (sym (set_at (g).lines.stage (ticket_of l.act) There) ∙ stage_is Deeds.Arrives q))
            by Deeds.Goes_on q su f = absurd (coming_entering (sym (set_at (g).lines.stage (ticket_of l.act) Coming) ∙ stage_is Deeds.Goes_on q))
            by Deeds.Ends q su f = absurd (done_entering (sym (set_at (g).lines.stage (ticket_of l.act) Done) ∙ stage_is Deeds.Ends q))
            by (Deeds.Moves to) q su f = absurd (done_entering (sym (set_at (g).lines.stage (ticket_of l.act) Done) ∙ stage_is (Deeds.Moves to) q))

        next_plain : Often (ls ++ l ∷ []) s' n.good
        next_plain = record {
          none = λ t p q. same t p ∙ h.none t p (not_yet t p q);
          under_way = λ t i m a z q. subst (λ c. c ≤ a.followed) (sym (same t m.path)) (elim (number_cases (ticket_of l.act) t) [
            | inr d ↦ h.under_way t i m a (sym (ap (λ (c : Cell A F R). c.mails i) (Passing.cells_off kind owes b batches begins jobs 0 s s' l.worker l.host l.act by_it t d)) ∙ z) q
            | inl d ↦ subst (λ u. passed_to u m.path ls ≤ a.followed) d (own (n.turn).deed refl (n.turn).suits (n.turn).fits i m a (subst (λ u. (s'.cells u).mails i ≡ Some m) (sym d) z) q)
          ]);
          few = λ t p. subst (λ c. c ≤ (((n.good).ghost).trail p).last) (sym (same t p)) (few_on t p);
        }

      -- a Pass
      module _ (t j : ℕ) (p₀ : Path) (to : ℕ) (a_is : l.act ≡ Pass t j p₀ to) where
        record Before_it : Type 0 where
          known : (b.before < t) × (t ≤ (g).lines.admitted)
          sent : w.entered t ((g).lines.pos t) p₀ ≡ true
          mail : Mail F
          ask : Ask
          mail_is : (s.cells t).mails j ≡ Some mail
          letter_is : mail.letter ≡ Enter ask
          path_is : mail.path ≡ p₀
          now : Mail F
          now_ask : Ask
          now_is : (s'.cells t).mails j ≡ Some now
          now_letter : now.letter ≡ Enter now_ask
          now_path : now.path ≡ p₀
          higher : ask.followed < now_ask.followed

        before_it : Before_it
        before_it = (let y = map_some _ _ s' (subst (λ a. step_by kind.system s l.worker l.host a ≡ Some s') a_is by_it) in by (s.hands l.worker) y.0 y.1 y.2)
          where
            by : (hd : Option (Hand A F)) (y : Bench A F R) → act_bench kind.system (Pass t j p₀ to) l.host (part_of s t p₀) hd ≡ Some y → s' ≡ with_bench s t p₀ l.worker y → Before_it
            by (Some hd) y q d = absurd (none_not q)
            by None y q d =
                let z = map_some (λ (x : Part A F R). record { part = x; hand = None }) _ y q in let f = passes j to p₀ l.host (part_of s t p₀) z.0 z.1 in
                let kn = GoodStates.known kind owes b batches begins jobs s k.ghost k.shows t (λ x. none_not (sym (ap (λ (u : Cell A F R). u.mails j) x) ∙ f.letter_at.mail_is)) in
                let ep : Shows.EnterShows kind.system w course b.before Is_real k.ghost t j l.host p₀ f.ask = shows_letter kind.system w course b.before Is_real k.ghost t j l.host p₀ (Enter f.ask) (s.cells t) (k.shows.cells t kn.0 kn.1) f.letter_at in
                record {
                  known = kn;
                  sent = subst (λ r. w.entered t ((g).lines.pos t) r ≡ true) (sym ep.place) (entered_spot kind.system w law course b.before Is_real k.ghost k.shows.good t kn.1 (λ x. entering_done (sym ep.stage ∙ x)));
                  mail = f.letter_at.mail;
                  ask = f.ask;
                  mail_is = f.letter_at.mail_is;
                  letter_is = f.letter_at.letter_is;
                  path_is = f.letter_at.path_is;
                  now = record { host = to; path = p₀; letter = Enter (record { number = f.ask.number; followed = f.mark.number; peek = f.ask.peek }) };
                  now_ask = record { number = f.ask.number; followed = f.mark.number; peek = f.ask.peek };
                  now_is = ap (λ (u : State A F R J). (u.cells t).mails j) d ∙ ap (λ (u : Cell A F R). u.mails j) (set_at s.cells t y.part.cell) ∙ ap (λ (u : Bench A F R). u.part.cell.mails j) z.2 ∙ ap (λ (u : Part A F R). u.cell.mails j) (sym f.gives) ∙ set_at (s.cells t).mails j _;
                  now_letter = refl;
                  now_path = refl;
                  higher = Passing.forward_more kind owes b batches begins jobs 0 (is_some ((s.columns p₀).store l.host)) f.mark f.ask.followed to (subst (λ o. (if is_some ((s.columns p₀).store l.host) then Steps.Deliver else route_by o f.ask.followed) ≡ Forward to) f.mark_is f.route_is);
                }

        abbrev bi : Before_it
        bi = before_it

        counted : (u : ℕ) (p : Path) → passed_to u p (ls ++ l ∷ []) ≡ passed_to u p ls + (if (nat_eq t u && path_eq p₀ p) then 1 else 0)
        counted u p = passed_on u p ls l ∙ ap (λ a. passed_to u p ls + (if is_pass_of u p a then 1 else 0)) a_is

        elsewhere : (u : ℕ) (p : Path) → (nat_eq t u && path_eq p₀ p) ≡ false → passed_to u p (ls ++ l ∷ []) ≡ passed_to u p ls
        elsewhere u p z = counted u p ∙ ap (λ i. passed_to u p ls + (if i then 1 else 0)) z ∙ none_more _

        -- the Enter itself
        at_now : passed_to t p₀ (ls ++ l ∷ []) ≤ (bi).now_ask.followed
        at_now = subst (λ c. c ≤ (bi).now_ask.followed) (sym (counted t p₀)) (one_more _ _ _ _ (both t p₀) (subst (λ r. passed_to t r ls ≤ (bi).ask.followed) (bi).path_is (h.under_way t j (bi).mail (bi).ask (bi).mail_is (bi).letter_is)) (bi).higher)
          where
            both : (t : ℕ) (p : Path) → (if (nat_eq t t && path_eq p p) then 1 else 0) ≤ 1
            both t p = by (nat_eq t t && path_eq p p)
              where
                by : (i : Bool) → (if i then 1 else 0) ≤ 1
                by true = omega arith
                by false = omega arith

            one_more : (c i f m : ℕ) → i ≤ 1 → c ≤ f → f < m → c + i ≤ m
            one_more c i f m x y z = omega (arith, x, y, z)

        ticket_is : ticket_of l.act ≡ t
        ticket_is = ap ticket_of a_is

        next_pass : Often (ls ++ l ∷ []) s' n.good
        next_pass = record {
          none = λ u p q. elim (bool_cases (nat_eq t u && path_eq p₀ p)) [
            | inr z ↦ elsewhere u p z ∙ h.none u p (not_yet u p q)
            | inl z ↦ absurd (sent_already u p (number_is t u (and_first _ _ z)) (path_is p₀ p (and_second (nat_eq t u) _ z)) (not_yet u p q))
          ];
          under_way = λ u i m a z q. elim (number_cases t u) [
            | inr d ↦ subst (λ c. c ≤ a.followed) (sym (elsewhere u m.path (ap (λ i. i && path_eq p₀ m.path) d))) (h.under_way u i m a (sym (ap (λ (c : Cell A F R). c.mails i) (Passing.cells_off kind owes b batches begins jobs 0 s s' l.worker l.host l.act by_it u (subst (λ x. nat_eq x u ≡ false) (sym ticket_is) d))) ∙ z) q)
            | inl d ↦ subst (λ x. passed_to x m.path (ls ++ l ∷ []) ≤ a.followed) d (own_now i m a (subst (λ x. (s'.cells x).mails i ≡ Some m) (sym d) z) q)
          ];
          few = λ u p. elim (bool_cases (nat_eq t u && path_eq p₀ p)) [
            | inr z ↦ subst (λ c. c ≤ (((n.good).ghost).trail p).last) (sym (elsewhere u p z)) (few_on u p)
            | inl z ↦ subst (λ r. passed_to u r (ls ++ l ∷ []) ≤ (((n.good).ghost).trail r).last) (path_is p₀ p (and_second (nat_eq t u) _ z)) (subst (λ x. passed_to x p₀ (ls ++ l ∷ []) ≤ (((n.good).ghost).trail p₀).last) (number_is t u (and_first _ _ z)) few_now)
          ];
        }
          where
            past : (a c : ℕ) → a ≤ c → c < a → ⊥
            past a c l m = omega (arith, l, m)

            sent_already : (u : ℕ) (p : Path) → t ≡ u → p₀ ≡ p → NotSent k.ghost u p → ⊥
            sent_already u p d z q = elim q [
              | inl y ↦ clash _ (bi).sent (subst (λ x. w.entered x ((g).lines.pos x) p₀ ≡ false) (sym d) (subst (λ r. w.entered u ((g).lines.pos u) r ≡ false) (sym z) y))
              | inr y ↦ past _ _ (bi).known.1 (subst (λ x. (g).lines.admitted < x) (sym d) y)
            ]

            own_now : (i : ℕ) (m : Mail F) (a : Ask) → (s'.cells t).mails i ≡ Some m → m.letter ≡ Enter a → passed_to t m.path (ls ++ l ∷ []) ≤ a.followed
            own_now i m a z q = (let x = shown t i m a z q in let y = shown t j (bi).now (bi).now_ask (bi).now_is (bi).now_letter in
                let same : (bi).now ≡ m = some_same (bi).now m (sym (bi).now_is ∙ ap (s'.cells t).mails (y.main ∙ sym x.main) ∙ z) in
                let asks : (bi).now_ask ≡ a = Passing.enter_same kind owes b batches begins jobs 0 (bi).now_ask a (sym (bi).now_letter ∙ ap (λ (u : Mail F). u.letter) same ∙ q) in
                subst (λ (u : Ask). passed_to t m.path (ls ++ l ∷ []) ≤ u.followed) asks (subst (λ r. passed_to t r (ls ++ l ∷ []) ≤ (bi).now_ask.followed) (sym (bi).now_path ∙ ap (λ (u : Mail F). u.path) same) at_now))

            few_now : passed_to t p₀ (ls ++ l ∷ []) ≤ (((n.good).ghost).trail p₀).last
            few_now = trans _ _ _ at_now (subst (λ r. (bi).now_ask.followed ≤ (((n.good).ghost).trail r).last) (bi).now_path (shown t j (bi).now (bi).now_ask (bi).now_is (bi).now_letter).followed)
              where
                trans : (a c d : ℕ) → a ≤ c → c ≤ d → a ≤ d
                trans a c d l m = omega (arith, l, m)

    often_next : (ls : List Label) (s s' : State A F R J) (k : Good s) (l : Label) → Along.from_start kind owes b batches begins jobs some_host workers ls s → Often ls s k → step kind.system workers s l ≡ Some s' → (n : Along.Follows kind owes b batches begins jobs some_host workers s s' k l) → Often (ls ++ l ∷ []) s' n.good
    often_next ls s s' k l r h e n = by (is_pass l.act) refl
      where
        by : (i : Bool) → is_pass l.act ≡ i → Often (ls ++ l ∷ []) s' n.good
        by false q = next_plain ls s s' k l h e n q
        by true q = (let z = Passing.pass_form kind owes b batches begins jobs 0 l.act q in next_pass ls s s' k l h e n z.0 z.1 z.2 z.3 z.4)

    often_first : Often [] (start_state b batches) (Along.first kind owes b batches begins jobs some_host workers)
    often_first = record { none = λ t p q. refl; under_way = λ t i m a z q. nothing a.followed; few = λ t p. nothing _ }
      where
        nothing : (a : ℕ) → 0 ≤ a
        nothing a = omega arith

    pub each : (ls : List Label) (s : State A F R J) → run kind.system workers (start_state b batches) ls ≡ Some s → (t : ℕ) (p : Path) (en : Entry F) → HasEntry s p en → passed_to t p ls ≤ en.moves
    each ls s e t p en q = by (Along.along kind owes b batches begins jobs some_host workers Often often_next often_first ls s e)
      where
        by : Along.Along kind owes b batches begins jobs some_host workers Often often_next ls s → passed_to t p ls ≤ en.moves
        by a = subst (λ c. passed_to t p ls ≤ c) (sym (ap (λ (u : Entry F). u.moves) (Told.entry_same kind owes b batches begins jobs s a.good p en q) ∙ (a.good.shows.entries p).moves)) (a.holds.few t p)
