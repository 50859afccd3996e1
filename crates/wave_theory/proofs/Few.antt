-- No context is sent on more often than the jobs move one.
use Rattle.std.proofs.Common.{◌≡◌, ℕ, zero, suc, ◌+◌, ◌<◌, ◌≤◌, ◌⊎◌, inl, inr, true, false, Some, None, List, [], ◌∷◌, ◌++◌, sym, ◌∙◌, ap, subst, arith}
use Rattle.std.specs.Prelude.{All, if◌then◌else◌}
use Rattle.wave_base.specs.declared.path.Path.{Path}
use Rattle.wave_base.specs.Paths.{path_eq}
use Rattle.wave_base.specs.Tree.{there}
use Rattle.wave_base.specs.Fold.{Progress, next_job}
use Rattle.wave_states.specs.Kinds.{Kind}
use Rattle.wave_states.specs.States.{State, set}
use Rattle.wave_states.specs.Labels.{Label, ticket_of, path_of}
use Rattle.wave_states.specs.Steps.{step}
use Rattle.wave_states.specs.Runs.{run}
use Rattle.wave_states.specs.Alone.{job_after}
use Rattle.wave_states.specs.Work.{work_after}
use Rattle.wave_states.specs.Begins.{Begin, start_state, is_root}
use Rattle.wave_states.specs.Owes.{Owes, IsBegin}
use Rattle.wave_theory.proofs.Basics.{clash, none_not, bool_cases, path_cases, set_there, set_at_path}
use Rattle.wave_theory.proofs.Order.{Way, IsWay, visits, rank, Stage, There, Done, here}
use Rattle.wave_theory.proofs.Ranks.{rank_less, rank_every, rank_up_to}
use Rattle.wave_theory.proofs.Leaves.{Course}
use Rattle.wave_theory.proofs.Tracks.{Trail, arrived}
use Rattle.wave_theory.proofs.Frames.{entered_spot, visits_of, holds_spot}
use Rattle.wave_theory.proofs.Courses
use Rattle.wave_theory.proofs.Shows
use Rattle.wave_theory.proofs.Deeds.{Outline, outline, Deed, done_by}
use Rattle.wave_theory.proofs.Deeds
use Rattle.wave_theory.proofs.Beginning
use Rattle.wave_theory.proofs.Homes
use Rattle.wave_theory.proofs.HomesKept
use Rattle.wave_theory.proofs.Sites
use Rattle.wave_theory.proofs.Live
use Rattle.wave_theory.proofs.GoodStates.{Good_state}
use Rattle.wave_theory.proofs.Reached
use Rattle.wave_theory.proofs.Along
use Rattle.wave_theory.specs.Counted.{most_moves}
use Rattle.wave_theory.proofs.Stages.{there_done}

module _ {A F R J : Type 0} (kind : Kind A F R J) (owes : Owes kind) (b : Begin F) (batches : List (List J)) (begins : IsBegin kind b) (jobs : All (All kind.is_job) batches) where
  abbrev w : Way
  w = Courses.w kind owes b batches begins jobs

  abbrev course : Course kind.system
  course = Courses.course kind owes b batches begins jobs

  abbrev Is_real : ℕ → Type 0
  Is_real = Courses.Real kind owes b batches begins jobs

  law : IsWay w
  law = Courses.law kind owes b batches begins jobs

  abbrev Good : State A F R J → Type 0
  Good s = Good_state kind owes b batches begins jobs s

  abbrev early : Path → ℕ
  early p = if is_root p then b.before else 0

  rank_early : (p : Path) → rank w p b.before ≡ early p
  rank_early p = Beginning.rank_start kind owes b batches begins jobs p

  abbrev Came : (Path → ℕ) → (Path → Trail) → Path → Type 0
  Came served trail p = (there b.tree p ≡ true) ⊎ (early p < served p) ⊎ ((trail p).last ≡ 0)

  -- a context that has an entry was there, or a ticket came, or it was never sent on
  abbrev pub FewOf : Outline → Type 0
  FewOf o = (p : Path) → o.births p ≡ true → Came o.served o.trail p

  module _ (s : State A F R J) (k : Good s) (g' : Shows.Ghost F) (h : FewOf (outline k.ghost)) where
    abbrev g : Shows.Ghost F
    g = k.ghost

    abbrev o : Outline
    o = outline k.ghost

    -- the ticket whose segment ends was let in
    was_served : (t : ℕ) (p : Path) → (g).lines.stage t ≡ There → here w (g).lines t ≡ p → early p < (g).lines.served p
    was_served t p st pl = (let kn = Homes.known_by_shows kind owes b batches begins jobs s k.ghost k.shows t (λ z. there_done (sym st ∙ z)) in
        let v : visits w t p ≡ true = subst (λ r. visits w t r ≡ true) pl (visits_of kind.system w law course b.before Is_real k.ghost k.shows.good t (here w (g).lines t) kn.1 (entered_spot kind.system w law course b.before Is_real k.ghost k.shows.good t kn.1 (λ z. there_done (sym st ∙ z)))) in
        let ho = subst (λ r. (g).lines.holds r t ≡ true) pl (holds_spot kind.system w law course b.before Is_real k.ghost k.shows.good t (first _ _ kn.0) kn.1 (λ z. there_done (sym st ∙ z)) (ap Rattle.wave_theory.proofs.Order.is_pending st)) in
        less _ _ _ _ (rank_early p) (rank_less w p b.before t kn.0 v) ((k.shows.good.grants t p (first _ _ kn.0) v).0 (k.shows.good.let_in t p ho)))
      where
        first : (a t : ℕ) → a < t → 1 ≤ t
        first a t l = omega (arith, l)

        less : (r e r' n : ℕ) → r ≡ e → r < r' → r' ≤ n → e < n
        less r e r' n z l m = omega (arith, z, l, m)

    by_deed : (t : ℕ) (p : Path) (d : Deed) → Deeds.Fits kind.system w course b.before Is_real s k.ghost g' t p d → FewOf (done_by w o t p d)
    by_deed t p Deeds.Admits f q e = h q e
    by_deed t p Deeds.Lines_up f q e = elim (path_cases p q) [
      | inr d ↦ elim (h q (sym (set_there path_eq (g).born p true q d) ∙ e)) [
        | inl z ↦ inl z
        | inr z ↦ inr (elim z [ inl y ↦ inl y | inr y ↦ inr (ap (λ (r : Trail). r.last) (set_there path_eq (g).trail p _ q d) ∙ y) ])
      ]
      | inl d ↦ subst (λ r. Came (g).lines.served (set path_eq (g).trail p (Deeds.grown ((g).born p) ((g).trail p))) r) d (at_p (bool_cases ((g).born p)))
    ]
      where
        at_p : ((g).born p ≡ true) ⊎ ((g).born p ≡ false) → Came (g).lines.served (set path_eq (g).trail p (Deeds.grown ((g).born p) ((g).trail p))) p
        at_p (inr u) = inr (inr (ap (λ (r : Trail). r.last) (set_at_path (g).trail p _) ∙ ap (λ i. (Deeds.grown i ((g).trail p)).last) u))
        at_p (inl u) = elim (h p u) [
          | inl z ↦ inl z
          | inr z ↦ inr (elim z [ inl y ↦ inl y | inr y ↦ inr (ap (λ (r : Trail). r.last) (set_at_path (g).trail p _) ∙ ap (λ i. (Deeds.grown i ((g).trail p)).last) u ∙ y) ])
        ]
    by_deed t p Deeds.Lets_in f q e = elim (h q e) [
      | inl z ↦ inl z
      | inr z ↦ inr (elim z [ inl y ↦ inl (more (here w (g).lines t) q y) | inr y ↦ inr y ])
    ]
      where
        more : (r q : Path) → early q < (g).lines.served q → early q < set path_eq (g).lines.served r (suc ((g).lines.served r)) q
        more r q l = elim (path_cases r q) [
          | inr d ↦ subst (λ n. early q < n) (sym (set_there path_eq (g).lines.served r _ q d)) l
          | inl d ↦ subst (λ u. early u < set path_eq (g).lines.served r (suc ((g).lines.served r)) u) d (subst (λ n. early r < n) (sym (set_at_path (g).lines.served r _)) (up _ _ (subst (λ u. early u < (g).lines.served u) (sym d) l)))
        ]
          where
            up : (a c : ℕ) → a < c → a < suc c
            up a c l = omega (arith, l)
    by_deed t p Deeds.Arrives f q e = h q e
    by_deed t p Deeds.Rests f q e = h q e
    by_deed t p Deeds.Lands f q e = elim (h q e) [
      | inl z ↦ inl z
      | inr z ↦ inr (elim z [ inl y ↦ inl y | inr y ↦ inr (lasts q y) ])
    ]
      where
        lasts : (q : Path) → ((g).trail q).last ≡ 0 → (set path_eq (g).trail p (arrived ((g).trail p)) q).last ≡ 0
        lasts q y = elim (path_cases p q) [
          | inr d ↦ ap (λ (r : Trail). r.last) (set_there path_eq (g).trail p _ q d) ∙ y
          | inl d ↦ subst (λ u. (set path_eq (g).trail p (arrived ((g).trail p)) u).last ≡ 0) d (ap (λ (r : Trail). r.last) (set_at_path (g).trail p _) ∙ ap (λ u. ((g).trail u).last) d ∙ y)
        ]
    by_deed t p Deeds.Goes_on f q e = h q e
    by_deed t p Deeds.Ends f q e = h q e
    by_deed t p (Deeds.Goes_in st r) f q e = elim (path_cases (p ++ st ∷ []) q) [
      | inr d ↦ elim (h q e) [
        | inl z ↦ inl z
        | inr z ↦ inr (elim z [ inl y ↦ inl y | inr y ↦ inr (ap (λ (r : Trail). r.last) (set_there path_eq (g).trail (p ++ st ∷ []) r q d) ∙ y) ])
      ]
      | inl d ↦ subst (λ u. Came (g).lines.served (set path_eq (g).trail (p ++ st ∷ []) r) u) d (at_child (subst (λ u. (g).born u ≡ true) (sym d) e))
    ]
      where
        same_trail : (r ≡ (g).trail (p ++ st ∷ [])) → (g).born (p ++ st ∷ []) ≡ true → Came (g).lines.served (set path_eq (g).trail (p ++ st ∷ []) r) (p ++ st ∷ [])
        same_trail z u = elim (h (p ++ st ∷ []) u) [
          | inl y ↦ inl y
          | inr y ↦ inr (elim y [ inl v ↦ inl v | inr v ↦ inr (ap (λ (i : Trail). i.last) (set_at_path (g).trail (p ++ st ∷ []) r ∙ z) ∙ v) ])
        ]

        at_child : (g).born (p ++ st ∷ []) ≡ true → Came (g).lines.served (set path_eq (g).trail (p ++ st ∷ []) r) (p ++ st ∷ [])
        at_child u = elim f.trail [ inl z ↦ same_trail z.2 u | inr z ↦ absurd (clash _ u z.2) ]
    by_deed t p (Deeds.Moves to) f q e = elim (path_cases p q) [
      | inr d ↦ elim (h q e) [
        | inl z ↦ inl z
        | inr z ↦ inr (elim z [ inl y ↦ inl y | inr y ↦ inr (ap (λ (r : Trail). r.last) (set_there path_eq (g).trail p _ q d) ∙ y) ])
      ]
      | inl d ↦ inr (inl (subst (λ u. early u < (g).lines.served u) d (was_served t p f.stopped.stage f.stopped.place)))
    ]

  module _ (some_host : 0 < kind.hosts) (workers : ℕ) where
    abbrev Held : List Label → (s : State A F R J) → Good s → Type 0
    Held ls s k = Homes.Homes kind owes b batches begins jobs k.ghost × FewOf (outline k.ghost)

    held_next : (ls : List Label) (s s' : State A F R J) (k : Good s) (l : Label) → Along.from_start kind owes b batches begins jobs some_host workers ls s → Held ls s k → step kind.system workers s l ≡ Some s' → (n : Along.Follows kind owes b batches begins jobs some_host workers s s' k l) → Held (ls ++ l ∷ []) s' n.good
    held_next ls s s' k l r h e n = (HomesKept.homes_next kind owes b batches begins jobs s k.ghost (n.good).ghost l.act k.shows n.turn h.0, subst FewOf (sym (n.turn).is) (by_deed s k (n.good).ghost h.1 (ticket_of l.act) (path_of l.act) (n.turn).deed (n.turn).fits))

    pub record Counting (s : State A F R J) : Type 0 where
      pub good : Good s
      pub homes : Homes.Homes kind owes b batches begins jobs good.ghost
      pub few : FewOf (outline good.ghost)

    pub counting : (ls : List Label) (s : State A F R J) → run kind.system workers (start_state b batches) ls ≡ Some s → Counting s
    counting ls s e = by (Along.along kind owes b batches begins jobs some_host workers Held held_next first ls s e)
      where
        on : (C : Shows.Ghost F → Type 0) → C (Beginning.ghost₀ kind owes b batches begins jobs) → C ((Along.first kind owes b batches begins jobs some_host workers).ghost)
        on C c = subst C (sym (Reached.first_ghost kind owes b batches begins jobs some_host)) c

        first : Held [] (start_state b batches) (Along.first kind owes b batches begins jobs some_host workers)
        first = (on (λ g. Homes.Homes kind owes b batches begins jobs g) (HomesKept.homes_first kind owes b batches begins jobs), on (λ g. FewOf (outline g)) (λ p e. inl e))

        by : Along.Along kind owes b batches begins jobs some_host workers Held held_next ls s → Counting s
        by a = record { good = a.good; homes = (a.holds).0; few = (a.holds).1 }

  module _ (s : State A F R J) (k : Good s) (homes : Homes.Homes kind owes b batches begins jobs k.ghost) (few : FewOf (outline k.ghost)) (n : ℕ) (over : job_after kind.system b batches n ≡ None) where
    index_below : (i : ℕ) (j : J) → job_after kind.system b batches i ≡ Some j → suc i ≤ n
    index_below i j e = elim (split i n) [
      | inl l ↦ l
      | inr d ↦ absurd (none_not (sym over ∙ sym (ap (λ (v : Progress F R J). next_job v.head) (Live.over_stays kind owes b batches begins jobs n d.0 over)) ∙ ap (job_after kind.system b batches) (sym d.1) ∙ e))
    ]
      where
        split : (i n : ℕ) → (suc i ≤ n) ⊎ ((d : ℕ) × (i ≡ d + n))
        split i zero = inr (i, omega arith)
        split zero (suc n) = inl (omega arith)
        split (suc i) (suc n) = elim (split i n) [ inl l ↦ inl (omega (arith, l)) | inr d ↦ inr (d.0, omega (arith, d.1)) ]

    -- how often a context was sent on
    pub moved_few : (p : Path) → (k.ghost).born p ≡ true → ((k.ghost).trail p).last ≤ most_moves b (work_after kind.system b batches n)
    moved_few p u = elim (few p u) [
      | inl th ↦ elim (equal_or (early p) ((k.ghost).lines.served p) (homes.of.from p)) [
        | inl z ↦ subst (λ m. m ≤ most_moves b (work_after kind.system b batches n)) (sym (homes.of.begun p z (Homes.there_same kind owes b batches begins jobs p ∙ th)).1) (Sites.shifts_few kind owes b batches begins jobs n 0 p (omega arith))
        | inr l ↦ by_ticket l
      ]
      | inr z ↦ elim z [ inl l ↦ by_ticket l | inr e ↦ subst (λ m. m ≤ most_moves b (work_after kind.system b batches n)) (sym e) (omega arith) ]
    ]
      where
        equal_or : (a c : ℕ) → a ≤ c → (c ≡ a) ⊎ (a < c)
        equal_or a c l = grind arith

        by_ticket : early p < (k.ghost).lines.served p → ((k.ghost).trail p).last ≤ most_moves b (work_after kind.system b batches n)
        by_ticket l =
            let a = rank_every w p (k.ghost).lines.admitted ((k.ghost).lines.served p) (positive _ _ l) ((k.alive).few p) in
            let gr = (k.shows.good.grants a.0 p a.1 a.3).1 (subst (λ m. m ≤ (k.ghost).lines.served p) (sym a.4) (upto _)) in
            let y = HomesKept.sent_so_often kind owes b batches begins jobs s k.ghost k.shows homes.of (k.alive).few a.0 p (later a.0 (subst (λ m. early p < m) (sym a.4) l)) a.2 gr.entered in
            subst (λ m. m ≤ most_moves b (work_after kind.system b batches n)) (sym y.5) (Sites.shifts_few kind owes b batches begins jobs n y.0 p (trans _ _ _ y.4 (index_below y.1 y.2 y.3)))
          where
            positive : (a c : ℕ) → a < c → 1 ≤ c
            positive a c l = omega (arith, l)

            upto : (a : ℕ) → a ≤ a
            upto a = omega arith

            trans : (a c d : ℕ) → a ≤ c → c ≤ d → a ≤ d
            trans a c d l m = omega (arith, l, m)

            later : (a : ℕ) → early p < rank w p a → b.before < a
            later a m = above b.before a (rank w p a) (rank w p b.before) (early p) (λ l. rank_up_to w p a b.before l) (rank_early p) m
              where
                above : (c a ra rc e : ℕ) → (a ≤ c → ra ≤ rc) → rc ≡ e → e < ra → c < a
                above c a ra rc e f k m = elim (below_or c a) [ inl z ↦ z | inr z ↦ absurd (let y = f z in omega (arith, y, k, m)) ]
                  where
                    below_or : (a c : ℕ) → (a < c) ⊎ (c ≤ a)
                    below_or a c = grind arith
