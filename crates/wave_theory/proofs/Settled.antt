-- In a finished state each context lies where the fold has it at last.
use Rattle.std.proofs.Common.{◌≡◌, ℕ, zero, suc, ◌+◌, ◌<◌, ◌≤◌, ◌⊎◌, ◌||◌, inl, inr, Bool, true, false, Option, Some, None, List, [], ◌∷◌, ◌++◌, sym, ◌∙◌, ap, subst, arith}
use Rattle.std.specs.Prelude.{All, if◌then◌else◌}
use Rattle.std.specs.List.{list_any, filter}
use Rattle.wave_base.specs.declared.path.Step.{Step}
use Rattle.wave_base.specs.declared.path.Path.{Path}
use Rattle.wave_base.specs.Paths.{path_eq, is_above}
use Rattle.wave_base.specs.Tree.{Tree, there}
use Rattle.wave_base.specs.Fold.{Progress}
use Rattle.wave_base.proofs.Trees.{there-enter}
use Rattle.wave_states.specs.Actors.{Actors, Pause, Go, Down, Over}
use Rattle.wave_states.specs.States.{State}
use Rattle.wave_states.specs.Labels.{Label}
use Rattle.wave_states.specs.Begins.{Begin, start_state, is_root}
use Rattle.wave_states.specs.Kinds.{Kind}
use Rattle.wave_states.specs.Owes.{Owes, IsBegin}
use Rattle.wave_states.specs.Owners.{IsOwner}
use Rattle.wave_states.specs.Alone.{Alone, has, into, goes_on, next_alone, segment_if, segment_alone, after_segments, fold_alone, job_after, tree_with, places_alone}
use Rattle.wave_states.specs.Steps.{step}
use Rattle.wave_states.specs.Runs.{run, Finished}
use Rattle.wave_theory.proofs.Basics.{none_not, options}
use Rattle.wave_theory.proofs.Order.{Way, visits, rank}
use Rattle.wave_theory.proofs.Ranks.{rank_every, rank_up_to}
use Rattle.wave_theory.proofs.Ways.{none_yet, next_is}
use Rattle.wave_theory.proofs.Plans.{first_of, last_of}
use Rattle.wave_theory.proofs.Paths.{has_append}
use Rattle.wave_theory.proofs.Found.{found}
use Rattle.wave_theory.proofs.Frames.{option_some}
use Rattle.wave_theory.proofs.Courses
use Rattle.wave_theory.proofs.Beginning
use Rattle.wave_theory.proofs.Shows
use Rattle.wave_theory.proofs.Folds
use Rattle.wave_theory.proofs.Homes.{is_done, spot_of}
use Rattle.wave_theory.proofs.Homes
use Rattle.wave_theory.proofs.HomesKept
use Rattle.wave_theory.proofs.Sites
use Rattle.wave_theory.proofs.Live
use Rattle.wave_theory.proofs.Told
use Rattle.wave_theory.proofs.GoodStates.{Good_state}
use Rattle.wave_theory.proofs.Reached
use Rattle.wave_theory.proofs.Along

module _ {A F R J : Type 0} (sys : Actors A F R J) where
  -- the tree has what it had, and what was entered
  abbrev Grown : Tree F → Alone A F R → Type 0
  Grown tree y = (p : Path) → there y.tree p ≡ (there tree p || has y.entered p)

  grown_step : (tree : Tree F) (y : Alone A F R) → Grown tree y → Grown tree (next_alone sys y)
  grown_step tree y g p = by y.result
    where
      or_three : (a c d e : Bool) → d ≡ (a || c) → (e || d) ≡ (a || (c || e))
      or_three a c d e f = grind arith

      into_it : (st : Step) (peek : Bool) (kept : List Path) (i : Bool) → there (into y (segment_alone sys y).actor (segment_alone sys y).fields (y.at ++ st ∷ []) peek kept i).tree p ≡ (there tree p || has (into y (segment_alone sys y).actor (segment_alone sys y).fields (y.at ++ st ∷ []) peek kept i).entered p)
      into_it st peek kept true = g p
      into_it st peek kept false = there-enter (tree_with y (segment_alone sys y).fields) (y.at ++ st ∷ []) p ∙ or_three (there tree p) (has y.entered p) (there y.tree p) (path_eq p (y.at ++ st ∷ [])) (g p)
          ∙ ap (λ i. there tree p || i) (sym (has_append y.entered (y.at ++ st ∷ []) p))

      by_pause : (u : Pause R) → there (goes_on sys y (segment_alone sys y).actor (segment_alone sys y).fields u).tree p ≡ (there tree p || has (goes_on sys y (segment_alone sys y).actor (segment_alone sys y).fields u).entered p)
      by_pause (Go st) = into_it st (sys.peeks (segment_alone sys y).actor) (filter (is_above (y.at ++ st ∷ [])) y.held) (has y.held (y.at ++ st ∷ []))
      by_pause (Down st) = into_it st false y.held (has y.held (y.at ++ st ∷ []))
      by_pause Pause.Back = g p
      by_pause (Over r) = g p

      by : (o : Option R) → there (segment_if sys y o).tree p ≡ (there tree p || has (segment_if sys y o).entered p)
      by None = by_pause (segment_alone sys y).pause
      by (Some r) = g p

  grown_after : (tree : Tree F) (y : Alone A F R) → Grown tree y → (k : ℕ) → Grown tree (after_segments sys k y)
  grown_after tree y g zero = subst (Grown tree) (sym (none_yet sys y)) g
  grown_after tree y g (suc k) = subst (Grown tree) (sym (next_is sys k y)) (grown_step tree (after_segments sys k y) (grown_after tree y g k))

module _ {A F R J : Type 0} (kind : Kind A F R J) (owes : Owes kind) (b : Begin F) (batches : List (List J)) (begins : IsBegin kind b) (jobs : All (All kind.is_job) batches) where
  abbrev w : Way
  w = Courses.w kind owes b batches begins jobs

  abbrev Is_real : ℕ → Type 0
  Is_real = Courses.Real kind owes b batches begins jobs

  abbrev Good : State A F R J → Type 0
  Good s = Good_state kind owes b batches begins jobs s

  abbrev at : ℕ → Progress F R J
  at n = fold_alone kind.system b batches n

  abbrev HomesAre : Shows.Ghost F → Type 0
  HomesAre g = Homes.Homes kind owes b batches begins jobs g

  -- the contexts that have a host are those of the tree
  pub tree_there : (n : ℕ) (p : Path) → there (at n).tree p ≡ there (places_alone kind.system b batches n) p
  tree_there zero p = sym (Homes.there_same kind owes b batches begins jobs p)
  tree_there (suc n) p = elim (options (job_after kind.system b batches n)) [
    | inl e ↦ ap (λ (v : Progress F R J). there v.tree p) (Folds.stays kind.system b batches n e) ∙ tree_there n p ∙ or_none (there (places_alone kind.system b batches n) p) ∙ ap (λ o. there (places_alone kind.system b batches n) p || list_any (path_eq p) (Sites.entered_by kind owes b batches begins jobs n o)) (sym e) ∙ sym (Sites.there_next kind owes b batches begins jobs n p)
    | inr j ↦ ap (λ (v : Tree F). there v p) (Courses.tree_after kind owes b batches begins jobs n j.0 j.1) ∙ all_of n j.0 j.1
        ∙ ap (λ i. i || has (Sites.ran kind owes b batches begins jobs n j.0).entered p) (tree_there n p) ∙ ap (λ o. there (places_alone kind.system b batches n) p || list_any (path_eq p) (Sites.entered_by kind owes b batches begins jobs n o)) (sym j.1) ∙ sym (Sites.there_next kind owes b batches begins jobs n p)
  ]
    where
      or_none : (a : Bool) → a ≡ (a || false)
      or_none a = grind arith

      or_swap : (a c : Bool) → (c || a) ≡ (a || (c || false))
      or_swap a c = grind arith

      all_of : (n : ℕ) (j : J) → job_after kind.system b batches n ≡ Some j → there (after_segments kind.system (suc (last_of kind owes b batches begins jobs n j)) (first_of kind owes b batches begins jobs n j)).tree p ≡ (there (at n).tree p || has (Sites.ran kind owes b batches begins jobs n j).entered p)
      all_of n j e = grown_after kind.system (at n).tree (first_of kind owes b batches begins jobs n j) (λ q. there-enter (at n).tree [] q ∙ or_swap (there (at n).tree q) (path_eq q [])) (suc (last_of kind owes b batches begins jobs n j)) p
          ∙ ap (λ ps. there (at n).tree p || has ps p) (sym (Courses.entered_after kind owes b batches begins jobs n j e))

  -- the homes, along a run
  module _ (some_host : 0 < kind.hosts) (workers : ℕ) where
    abbrev HasHomes : List Label → (s : State A F R J) → Good s → Type 0
    HasHomes ls s k = HomesAre k.ghost

    homes_next : (ls : List Label) (s s' : State A F R J) (k : Good s) (l : Label) → Along.from_start kind owes b batches begins jobs some_host workers ls s → HasHomes ls s k → step kind.system workers s l ≡ Some s' → (n : Along.Follows kind owes b batches begins jobs some_host workers s s' k l) → HasHomes (ls ++ l ∷ []) s' n.good
    homes_next ls s s' k l r h e n = HomesKept.homes_next kind owes b batches begins jobs s k.ghost (n.good).ghost l.act k.shows n.turn h

    pub record Homed (s : State A F R J) : Type 0 where
      pub good : Good s
      pub homes : HomesAre good.ghost

    pub homed : (ls : List Label) (s : State A F R J) → run kind.system workers (start_state b batches) ls ≡ Some s → Homed s
    homed ls s e = by (Along.along kind owes b batches begins jobs some_host workers HasHomes homes_next (subst HomesAre (sym (Reached.first_ghost kind owes b batches begins jobs some_host)) (HomesKept.homes_first kind owes b batches begins jobs)) ls s e)
      where
        by : Along.Along kind owes b batches begins jobs some_host workers HasHomes homes_next ls s → Homed s
        by a = record { good = a.good; homes = a.holds }

  module _ (s : State A F R J) (k : Good s) (h : HomesAre k.ghost) (workers : ℕ) (some_worker : 0 < workers) (fin : Finished kind.system workers s) where
    served_all : (p : Path) → rank w p (b.before + s.head.done) ≡ (k.ghost).lines.served p
    served_all p = ap (rank w p) (sym (Live.admitted_is kind owes b batches begins jobs s k workers some_worker fin)) ∙ Live.all_served kind owes b batches begins jobs s k workers some_worker fin p

    abbrev early : Path → ℕ
    early p = if is_root p then b.before else 0

    -- the last ticket that came, or none
    pub at_last : (p : Path) → there (places_alone kind.system b batches s.head.done) p ≡ true → Homes.Sits kind owes b batches begins jobs (spot_of ((k.ghost).trail p)) s.head.done p
    at_last p th = by (equal_or (early p) ((k.ghost).lines.served p) (h.of.from p))
      where
        equal_or : (a c : ℕ) → a ≤ c → (c ≡ a) ⊎ (a < c)
        equal_or a c l = grind arith

        settle : (a d : ℕ) → s.head.done ≡ d + a → rank w p (b.before + a) ≡ (k.ghost).lines.served p → Homes.Sits kind owes b batches begins jobs (spot_of ((k.ghost).trail p)) a p → Homes.Sits kind owes b batches begins jobs (spot_of ((k.ghost).trail p)) s.head.done p
        settle a d e r y = (let z = Sites.between kind owes b batches begins jobs d a p (ap (λ n. rank w p (b.before + n)) (sym e) ∙ served_all p ∙ sym r) in
            (y.0 ∙ sym z.0 ∙ ap (λ n. (places_alone kind.system b batches n).fields p) (sym e), y.1 ∙ sym z.1 ∙ ap (Sites.shifts kind owes b batches begins jobs p) (sym e)))

        root_early : rank w p b.before ≡ early p
        root_early = Beginning.rank_start kind owes b batches begins jobs p

        by : ((k.ghost).lines.served p ≡ early p) ⊎ (early p < (k.ghost).lines.served p) → Homes.Sits kind owes b batches begins jobs (spot_of ((k.ghost).trail p)) s.head.done p
        by (inl z) = (let y = Sites.between kind owes b batches begins jobs s.head.done 0 p (ap (rank w p) (let q : b.before + (s.head.done + 0) ≡ b.before + s.head.done = omega arith in q) ∙ served_all p ∙ z ∙ sym root_early ∙ ap (rank w p) (let q : b.before ≡ b.before + 0 = omega arith in q)) in
            let e : s.head.done ≡ s.head.done + 0 = omega arith in
            settle 0 s.head.done e (ap (rank w p) (let q : b.before + 0 ≡ b.before = omega arith in q) ∙ root_early ∙ sym z) (h.of.begun p z (sym y.2 ∙ ap (λ n. there (places_alone kind.system b batches n) p) (sym e) ∙ th)))
        by (inr l) = (let a = rank_every w p (k.ghost).lines.admitted ((k.ghost).lines.served p) (positive _ _ l) ((k.alive).few p) in
            let lb : b.before < a.0 = later a.0 (subst (λ n. early p < n) (sym a.4) l) in
            let r = (k.shows.cells a.0 lb a.2).real in
            let sit : Homes.Sits kind owes b batches begins jobs (spot_of ((k.ghost).trail p)) (suc r.index) p = subst (λ u. Homes.At kind owes b batches begins jobs u (spot_of ((k.ghost).trail p)) r.index p) (ap is_done (ap (k.ghost).lines.stage (sym r.ticket_is) ∙ Live.stage_done kind owes b batches begins jobs s k workers some_worker fin a.0 a.2))
            (h.of.last p r.index r.job r.job_is (subst (λ u. visits w u p ≡ true) r.ticket_is a.3) (sym (ap (rank w p) r.ticket_is) ∙ a.4)) in
            let d = difference (suc r.index) s.head.done (within a.0 r.index r.ticket_is (subst (λ n. a.0 ≤ n) (Live.admitted_is kind owes b batches begins jobs s k workers some_worker fin) a.2)) in
            settle (suc r.index) d.0 d.1 (ap (rank w p) (let q : b.before + suc r.index ≡ suc b.before + r.index = omega arith in q) ∙ sym (ap (rank w p) r.ticket_is) ∙ a.4) sit)
          where
            positive : (a c : ℕ) → a < c → 1 ≤ c
            positive a c l = omega (arith, l)

            within : (a i : ℕ) → a ≡ suc b.before + i → a ≤ b.before + s.head.done → suc i ≤ s.head.done
            within a i e l = omega (arith, e, l)

            later : (a : ℕ) → early p < rank w p a → b.before < a
            later a m = above b.before a (rank w p a) (rank w p b.before) (early p) (λ l. rank_up_to w p a b.before l) root_early m
              where
                above : (c a ra rc e : ℕ) → (a ≤ c → ra ≤ rc) → rc ≡ e → e < ra → c < a
                above c a ra rc e f k m = elim (below_or c a) [ inl z ↦ z | inr z ↦ absurd (let y = f z in omega (arith, y, k, m)) ]
                  where
                    below_or : (a c : ℕ) → (a < c) ⊎ (c ≤ a)
                    below_or a c = grind arith

            difference : (a n : ℕ) → a ≤ n → (d : ℕ) × (n ≡ d + a)
            difference zero n l = (n, omega arith)
            difference (suc a) zero l = absurd (omega (arith, l))
            difference (suc a) (suc n) l = (let r = difference a n (omega (arith, l)) in (r.0, omega (arith, r.1)))

    pub places : (p : Path) (host : ℕ) → IsOwner s p host → host ≡ (places_alone kind.system b batches s.head.done).fields p
    places p host o = Told.owner_is kind owes b batches begins jobs s k p host o ∙ (at_last p (sym (tree_there s.head.done p) ∙ sym (Live.born_there kind owes b batches begins jobs s k workers some_worker fin p) ∙ born o)).0
      where
        born : IsOwner s p host → (k.ghost).born p ≡ true
        born (inl e) = (let q = option_some ((s.columns p).store host) e in (found kind.system w (Courses.course kind owes b batches begins jobs) b.before Is_real k.ghost p (s.columns p) host q.0 (k.shows.columns p) q.1).born)
        born (inr e) = absurd (none_not (sym ((Live.no_mails_left kind owes b batches begins jobs s k workers some_worker fin) e.ticket e.number) ∙ e.mail))
