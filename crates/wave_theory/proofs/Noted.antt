-- What the labels so far tell of a state, noted from the first label on.
use Rattle.std.proofs.Common.{◌≡◌, ◌≢◌, ℕ, zero, suc, ◌+◌, ◌<◌, ◌≤◌, ◌⊎◌, ◌==◌, ◌&&◌, nat_eq, nat_lt, inl, inr, Bool, true, false, Some, None, is_some, List, [], ◌∷◌, ◌++◌, length, refl, sym, ◌∙◌, ap, subst, arith}
use Rattle.std.specs.Prelude.{All, if◌then◌else◌, slice_get}
use Rattle.wave_base.specs.declared.path.Step.{Step}
use Rattle.wave_base.specs.declared.path.Path.{Path}
use Rattle.wave_base.specs.Paths.{path_eq}
use Rattle.wave_base.specs.Tree.{there}
use Rattle.wave_states.specs.States.{State, Entry, Record, set}
use Rattle.wave_states.specs.Labels.{Act, Label, Admit, Queue, Grant, Start, Stop, Free, Pass, Land, Commit, ticket_of, path_of}
use Rattle.wave_states.specs.Labels
use Rattle.wave_states.specs.Begins.{Begin, start_state, is_root, has_moved}
use Rattle.wave_states.specs.Kinds.{Kind}
use Rattle.wave_states.specs.Owes.{Owes, IsBegin}
use Rattle.wave_states.specs.Owners.{IsOwner, first_trail}
use Rattle.wave_states.specs.Steps.{step, step_by, after_admit, after_commit, only_if, next_ticket}
use Rattle.wave_states.specs.Runs.{run}
use Rattle.wave_theory.proofs.Basics.{clash, none_not, then_some, map_some, only_some, if_some, bool_cases, options, path_cases, set_there, set_at_path, differ}
use Rattle.wave_theory.proofs.Order.{Way, visits, Stage, Entering, Done, here}
use Rattle.wave_theory.proofs.Leaves.{Course}
use Rattle.wave_theory.proofs.Tracks.{owner, unborn}
use Rattle.wave_theory.proofs.Frames.{entered_spot, visits_of}
use Rattle.wave_theory.proofs.Courses
use Rattle.wave_theory.proofs.Shows
use Rattle.wave_theory.proofs.Deeds.{Outline, outline, Deed, done_by}
use Rattle.wave_theory.proofs.Deeds
use Rattle.wave_theory.proofs.Homes
use Rattle.wave_theory.proofs.Told
use Rattle.wave_theory.proofs.Beginning
use Rattle.wave_theory.proofs.GoodStates.{Good_state}
use Rattle.wave_theory.proofs.GoodStates
use Rattle.wave_theory.proofs.Reached
use Rattle.wave_theory.proofs.Along
use Rattle.std.proofs.lemmas.Bool.Decides.{nat_tests}
use Rattle.wave_theory.proofs.Settled
use Rattle.wave_theory.proofs.Sites
use Rattle.wave_theory.specs.Came.{AreFirst, Came, senders_from}
use Rattle.wave_theory.specs.Trails.{Traced}
use Rattle.wave_theory.specs.Owners.{OneOwner}
use Rattle.wave_theory.specs.Bounds.{Bounds, NothingAt}
use Rattle.wave_theory.proofs.Stages.{entering_done, lined_done}
use Rattle.wave_theory.proofs.Arrivals.{hosts_of, list_of}
use Rattle.wave_theory.proofs.Arrivals
use Rattle.wave_theory.proofs.Whereabouts

module _ {A F R J : Type 0} (kind : Kind A F R J) (owes : Owes kind) (b : Begin F) (batches : List (List J)) (begins : IsBegin kind b) (jobs : All (All kind.is_job) batches) where
  abbrev w : Way
  w = Courses.w kind owes b batches begins jobs

  abbrev course : Course kind.system
  course = Courses.course kind owes b batches begins jobs

  abbrev Is_real : ℕ → Type 0
  Is_real = Courses.Real kind owes b batches begins jobs

  abbrev Good : State A F R J → Type 0
  Good s = Good_state kind owes b batches begins jobs s

  abbrev early : Path → ℕ
  early p = if is_root p then b.before else 0

  abbrev Firsts : (ts : List ℕ) (n : ℕ) (p : Path) → Type 0
  Firsts = Arrivals.Firsts kind owes b batches begins jobs

  module _ (some_host : 0 < kind.hosts) (workers : ℕ) where
    abbrev Noted : (ls : List Label) (s : State A F R J) (k : Good s) → Type 0
    Noted = Arrivals.Noted kind owes b batches begins jobs some_host workers

    module _ (ls : List Label) (s s' : State A F R J) (k : Good s) (l : Label) (r : Along.from_start kind owes b batches begins jobs some_host workers ls s) (h : Noted ls s k) (e : step kind.system workers s l ≡ Some s') (n : Along.Follows kind owes b batches begins jobs some_host workers s s' k l) where
      abbrev g : Shows.Ghost F
      g = k.ghost

      abbrev o : Outline
      o = outline k.ghost

      abbrev by_it : step_by kind.system s l.worker l.host l.act ≡ Some s'
      by_it = Arrivals.by_it kind owes b batches begins jobs some_host workers ls s s' k l r h e n

      abbrev known_by : (t : ℕ) → (g).lines.stage t ≢ Done → (b.before < t) × (t ≤ (g).lines.admitted)
      known_by = Arrivals.known_by kind owes b batches begins jobs some_host workers ls s s' k l r h e n

      abbrev comes_here : (t : ℕ) (v : Stage) → (g).lines.stage t ≡ v → (v ≡ Done → ⊥) → (b.before < t) × (Is_real t) × (visits w t (here w (g).lines t) ≡ true)
      comes_here = Arrivals.comes_here kind owes b batches begins jobs some_host workers ls s s' k l r h e n

      hands_off : (v host : ℕ) (a : Act) → step_by kind.system s v host a ≡ Some s' → (u : ℕ) → nat_eq v u ≡ false → s'.hands u ≡ s.hands u
      hands_off v host (Admit t) q u d =
          let j = then_some (λ j. only_if ((host == 0) && (t == next_ticket s)) (after_admit kind.system s t j)) (slice_get s.head.known s.admitted) s' (GoodStates.idle_of kind owes b batches begins jobs (s.hands v) _ s' q).1 in
          let z = only_some ((host == 0) && (t == next_ticket s)) (after_admit kind.system s t j.0) s' j.2 in ap (λ (y : State A F R J). y.hands u) (sym z.1)
      hands_off v host (Commit t) q u d =
          let j = then_some (λ c. only_if ((host == 0) && (t == suc (s.before + s.head.done))) (after_commit kind.system s c)) (s.cells t).result s' (GoodStates.idle_of kind owes b batches begins jobs (s.hands v) _ s' q).1 in
          let z = only_some ((host == 0) && (t == suc (s.before + s.head.done))) (after_commit kind.system s j.0) s' j.2 in ap (λ (y : State A F R J). y.hands u) (sym z.1)
      hands_off v host (Queue t i p) q u d = (let y = map_some _ _ s' q in ap (λ (z : State A F R J). z.hands u) y.2 ∙ set_there nat_eq s.hands v _ u d)
      hands_off v host (Grant t p) q u d = (let y = map_some _ _ s' q in ap (λ (z : State A F R J). z.hands u) y.2 ∙ set_there nat_eq s.hands v _ u d)
      hands_off v host (Labels.Visit t i p) q u d = (let y = map_some _ _ s' q in ap (λ (z : State A F R J). z.hands u) y.2 ∙ set_there nat_eq s.hands v _ u d)
      hands_off v host (Start t p) q u d = (let y = map_some _ _ s' q in ap (λ (z : State A F R J). z.hands u) y.2 ∙ set_there nat_eq s.hands v _ u d)
      hands_off v host (Stop t p) q u d = (let y = map_some _ _ s' q in ap (λ (z : State A F R J). z.hands u) y.2 ∙ set_there nat_eq s.hands v _ u d)
      hands_off v host (Free t i p) q u d = (let y = map_some _ _ s' q in ap (λ (z : State A F R J). z.hands u) y.2 ∙ set_there nat_eq s.hands v _ u d)
      hands_off v host (Pass t i p to) q u d = (let y = map_some _ _ s' q in ap (λ (z : State A F R J). z.hands u) y.2 ∙ set_there nat_eq s.hands v _ u d)
      hands_off v host (Land t i p) q u d = (let y = map_some _ _ s' q in ap (λ (z : State A F R J). z.hands u) y.2 ∙ set_there nat_eq s.hands v _ u d)

      idle_next : (v : ℕ) → workers ≤ v → s'.hands v ≡ None
      unfolding step
      idle_next v q = hands_off l.worker l.host l.act by_it v (differ l.worker v (λ z. past _ _ _ (less l.worker workers (if_some (nat_lt l.worker workers) (step_by kind.system s l.worker l.host l.act) s' e).0) q z)) ∙ h.idle v q
        where
          less : (a c : ℕ) → nat_lt a c ≡ true → a < c
          less a c e = grind (arith, nat_tests)

          past : (a c d : ℕ) → a < c → c ≤ d → a ≡ d → ⊥
          past a c d x y z = omega (arith, x, y, z)

      root_by : (d : Deed) → (done_by w o (ticket_of l.act) (path_of l.act) d).given [] ≡ (done_by w o (ticket_of l.act) (path_of l.act) d).admitted
      root_by Deeds.Admits = set_at_path (g).lines.given [] _ ∙ ap suc h.root
      root_by (Deeds.Goes_in st q) = set_there path_eq (g).lines.given (path_of l.act ++ st ∷ []) _ [] (not_child (path_of l.act) st) ∙ h.root
        where
          not_child : (a : Path) (i : Step) → path_eq (a ++ i ∷ []) [] ≡ false
          not_child [] i = refl
          not_child (u ∷ a) i = refl
      root_by Deeds.Lines_up = h.root
      root_by Deeds.Lets_in = h.root
      root_by Deeds.Arrives = h.root
      root_by Deeds.Rests = h.root
      root_by Deeds.Lands = h.root
      root_by Deeds.Goes_on = h.root
      root_by Deeds.Ends = h.root
      root_by (Deeds.Moves to) = h.root

      abbrev Comer : Path → ℕ → Type 0
      Comer p m = (there b.tree p ≡ true) ⊎ ((t : ℕ) × (b.before < t) × (t ≤ m) × (visits w t p ≡ true))

      grown_by : (d : Deed) → Deeds.Fits kind.system w course b.before Is_real s k.ghost (n.good).ghost (ticket_of l.act) (path_of l.act) d → (p : Path) → (done_by w o (ticket_of l.act) (path_of l.act) d).births p ≡ true → Comer p (done_by w o (ticket_of l.act) (path_of l.act) d).admitted
      grown_by Deeds.Admits f p q = elim (h.grown p q) [ inl z ↦ inl z | inr z ↦ inr (z.0, z.1, more _ _ z.2, z.3) ]
        where
          more : (a c : ℕ) → a ≤ c → a ≤ suc c
          more a c l = omega (arith, l)
      grown_by Deeds.Lines_up f p q = elim (path_cases (path_of l.act) p) [
        | inr d ↦ h.grown p (sym (set_there path_eq (g).born (path_of l.act) true p d) ∙ q)
        | inl d ↦ (let c = comes_here (ticket_of l.act) Entering f.stage entering_done in let kn = known_by (ticket_of l.act) (λ z. entering_done (sym f.stage ∙ z)) in
            inr (ticket_of l.act, c.0, kn.1, subst (λ u. visits w (ticket_of l.act) u ≡ true) (f.place ∙ d) c.2))
      ]
      grown_by Deeds.Lets_in f p q = h.grown p q
      grown_by Deeds.Arrives f p q = h.grown p q
      grown_by Deeds.Rests f p q = h.grown p q
      grown_by Deeds.Lands f p q = h.grown p q
      grown_by Deeds.Goes_on f p q = h.grown p q
      grown_by Deeds.Ends f p q = h.grown p q
      grown_by (Deeds.Goes_in st r₀) f p q = h.grown p q
      grown_by (Deeds.Moves to) f p q = h.grown p q

      births_grow : (d : Deed) (p : Path) → (g).born p ≡ true → (done_by w o (ticket_of l.act) (path_of l.act) d).births p ≡ true
      births_grow Deeds.Lines_up p q = elim (path_cases (path_of l.act) p) [
        | inr d ↦ set_there path_eq (g).born (path_of l.act) true p d ∙ q
        | inl d ↦ subst (λ u. set path_eq (g).born (path_of l.act) true u ≡ true) d (set_at_path (g).born (path_of l.act) true)
      ]
      births_grow Deeds.Admits p q = q
      births_grow Deeds.Lets_in p q = q
      births_grow Deeds.Arrives p q = q
      births_grow Deeds.Rests p q = q
      births_grow Deeds.Lands p q = q
      births_grow Deeds.Goes_on p q = q
      births_grow Deeds.Ends p q = q
      births_grow (Deeds.Goes_in st r₀) p q = q
      births_grow (Deeds.Moves to) p q = q

      pub born_on : (p : Path) → (g).born p ≡ true → ((n.good).ghost).born p ≡ true
      born_on p q = ap (λ (u : Outline). u.births p) (n.turn).is ∙ births_grow (n.turn).deed p q

      pub noted_next : Noted (ls ++ l ∷ []) s' n.good
      noted_next = record {
        came = Arrivals.came_next kind owes b batches begins jobs some_host workers ls s s' k l r h e n;
        sent = Arrivals.sent_next kind owes b batches begins jobs some_host workers ls s s' k l r h e n;
        trace = Whereabouts.trace_next kind owes b batches begins jobs some_host workers ls s s' k l r h e n;
        root = ap (λ (u : Outline). u.given []) (n.turn).is ∙ root_by (n.turn).deed ∙ sym (ap (λ (u : Outline). u.admitted) (n.turn).is);
        grown = λ p q. subst (Comer p) (sym (ap (λ (u : Outline). u.admitted) (n.turn).is)) (grown_by (n.turn).deed (n.turn).fits p (sym (ap (λ (u : Outline). u.births p) (n.turn).is) ∙ q));
        old = λ p q. born_on p (h.old p q);
        idle = idle_next;
      }

    noted_first : Noted [] (start_state b batches) (Along.first kind owes b batches begins jobs some_host workers)
    noted_first = record {
      came = λ p. on (λ g. Firsts [] (g.lines.served p) p) (record { each = λ i t e. absurd (none_not e); many = none_more (early p) });
      sent = λ p. on (λ g. Firsts [] (g.lines.given p) p) (record { each = λ i t e. absurd (none_not e); many = none_more (early p) });
      trace = λ p. on (λ g. first_trail b p ≡ list_of (g.born p) (g.trail p)) (at_begin p (there b.tree p) refl (has_moved b p) refl);
      root = on (λ g. g.lines.given [] ≡ g.lines.admitted) refl;
      grown = λ p. on (λ g. g.born p ≡ true → (there b.tree p ≡ true) ⊎ ((t : ℕ) × (b.before < t) × (t ≤ g.lines.admitted) × (visits w t p ≡ true))) (λ e. inl e);
      old = λ p. on (λ g. there b.tree p ≡ true → g.born p ≡ true) (λ e. e);
      idle = λ v l. refl;
    }
      where
        on : (C : Shows.Ghost F → Type 0) → C (Beginning.ghost₀ kind owes b batches begins jobs) → C ((Along.first kind owes b batches begins jobs some_host workers).ghost)
        on C c = subst C (sym (Reached.first_ghost kind owes b batches begins jobs some_host)) c

        none_more : (a : ℕ) → a ≡ a + 0
        none_more a = omega arith

        trail_at : (p : Path) (j : Bool) → has_moved b p ≡ j → (if has_moved b p then 0 ∷ b.places.fields p ∷ [] else b.places.fields p ∷ []) ≡ hosts_of (Beginning.moved_trail kind owes b batches begins jobs (has_moved b p) p)
        trail_at p true m = ap (λ i. if i then 0 ∷ b.places.fields p ∷ [] else b.places.fields p ∷ []) m ∙ sym (ap (λ i. hosts_of (Beginning.moved_trail kind owes b batches begins jobs i p)) m)
        trail_at p false m = ap (λ i. if i then 0 ∷ b.places.fields p ∷ [] else b.places.fields p ∷ []) m ∙ sym (ap (λ i. hosts_of (Beginning.moved_trail kind owes b batches begins jobs i p)) m)

        at_begin : (p : Path) (i : Bool) → there b.tree p ≡ i → (j : Bool) → has_moved b p ≡ j → first_trail b p ≡ list_of (there b.tree p) (if there b.tree p then Beginning.moved_trail kind owes b batches begins jobs (has_moved b p) p else unborn 0)
        at_begin p true e j m = ap (λ i. if i then (if has_moved b p then 0 ∷ b.places.fields p ∷ [] else b.places.fields p ∷ []) else []) e ∙ trail_at p j m ∙ sym (ap (λ i. list_of i (if i then Beginning.moved_trail kind owes b batches begins jobs (has_moved b p) p else unborn 0)) e)
        at_begin p false e j m = ap (λ i. if i then (if has_moved b p then 0 ∷ b.places.fields p ∷ [] else b.places.fields p ∷ []) else []) e ∙ sym (ap (λ i. list_of i (if i then Beginning.moved_trail kind owes b batches begins jobs (has_moved b p) p else unborn 0)) e)

    pub record Note (ls : List Label) (s : State A F R J) : Type 0 where
      pub good : Good s
      pub noted : Noted ls s good

    pub noting : (ls : List Label) (s : State A F R J) → run kind.system workers (start_state b batches) ls ≡ Some s → Note ls s
    noting ls s e = by (Along.along kind owes b batches begins jobs some_host workers Noted noted_by noted_first ls s e)
      where
        noted_by : (ls : List Label) (s s' : State A F R J) (k : Good s) (l : Label) → Along.from_start kind owes b batches begins jobs some_host workers ls s → Noted ls s k → step kind.system workers s l ≡ Some s' → (n : Along.Follows kind owes b batches begins jobs some_host workers s s' k l) → Noted (ls ++ l ∷ []) s' n.good
        noted_by ls s s' k l r h e n = noted_next ls s s' k l r h e n

        by : Along.Along kind owes b batches begins jobs some_host workers Noted noted_by ls s → Note ls s
        by a = record { good = a.good; noted = a.holds }

    -- the laws
    module _ (ls : List Label) (s : State A F R J) (e : run kind.system workers (start_state b batches) ls ≡ Some s) where
      abbrev note : Note ls s
      note = noting ls s e

      firsts_are : (p : Path) (ts : List ℕ) (n : ℕ) → Firsts ts n p → AreFirst kind b batches p ts
      firsts_are p ts n f i t q = (let c = f.each i t q in Told.number_of kind owes b batches begins jobs s (note).good t p (early p + suc i) c.later c.real c.comes (sym c.number))

      pub came : Came kind workers b batches ls s
      came = (let k = (note).good in let h = (note).noted in record {
        granted_first = λ p. firsts_are p _ _ (h.came p);
        served = λ p en q. ap (λ (u : Entry F). u.served) (Told.entry_same kind owes b batches begins jobs s k p en q) ∙ (k.shows.entries p).served ∙ (h.came p).many;
        sent_first = λ p. firsts_are p _ _ (h.sent p);
        given = λ p st en r se be.
            let same : r ≡ (k.ghost).body p = (k.shows.entries p).body r (ap (λ (u : Entry F). u.body) (sym (Told.entry_same kind owes b batches begins jobs s k p en se)) ∙ be) in
            ap (λ (u : Record F). Shows.given_of u st) same ∙ (k.shows.entries p).given st ∙ (h.sent (p ++ st ∷ [])).many ∙ ap (λ i. (if i then b.before else 0) + length (senders_from kind.system workers (p ++ st ∷ []) (Some (start_state b batches)) ls)) (not_root p st) ∙ none_before (length (senders_from kind.system workers (p ++ st ∷ []) (Some (start_state b batches)) ls));
        at_root = same _ _ _ _ _ (h.sent []).many h.root k.shows.admitted;
      })
        where
          not_root : (p : Path) (st : Step) → is_root (p ++ st ∷ []) ≡ false
          not_root [] st = refl
          not_root (u ∷ p) st = refl

          none_before : (a : ℕ) → 0 + a ≡ a
          none_before a = omega arith

          same : (v l a m x : ℕ) → v ≡ x + l → v ≡ a → a ≡ x + m → m ≡ l
          same v l a m x p q r = omega (arith, p, q, r)

      pub traced : Traced kind workers b batches ls s
      traced p = (let k = (note).good in let h = (note).noted in elim (bool_cases ((k.ghost).born p)) [
        | inr u ↦ inl (h.trace p ∙ ap (λ i. list_of i ((k.ghost).trail p)) u, Told.unborn_is kind owes b batches begins jobs s k p u)
        | inl u ↦ inr (record { at = ((k.ghost).trail p).at; last = ((k.ghost).trail p).last }, Told.trail_is kind owes b batches begins jobs s k p u, h.trace p ∙ ap (λ i. list_of i ((k.ghost).trail p)) u)
      ])

      owned : (p : Path) → (((note).good).ghost).born p ≡ true → (h : ℕ) × IsOwner s p h
      owned p u = (let t = Told.trail_is kind owes b batches begins jobs s (note).good p u in (owner ((((note).good).ghost).trail p), t.owned))

      born_of : (p : Path) (h : ℕ) → IsOwner s p h → (((note).good).ghost).born p ≡ true
      born_of p h q = elim (bool_cases ((((note).good).ghost).born p)) [ inl u ↦ u | inr u ↦ absurd ((Told.unborn_is kind owes b batches begins jobs s (note).good p u).not_coming h q) ]

      pub one_owner : OneOwner kind workers b batches s
      one_owner = record {
        one = Told.one_owner kind owes b batches begins jobs s (note).good;
        begun = λ p q. owned p ((note).noted.old p q);
        stays = λ l v p h q z.
            let n = Along.step_follows kind owes b batches begins jobs some_host workers s v (note).good l q in
            let u = born_on ls s v (note).good l e (note).noted q n p (born_of p h z) in
            (owner (((n.good).ghost).trail p), (Told.trail_is kind owes b batches begins jobs v n.good p u).owned);
      }

      nothing : (p : Path) → (((note).good).ghost).born p ≡ false → (h : ℕ) → NothingAt s p h
      nothing p u h = (let t = Told.unborn_is kind owes b batches begins jobs s (note).good p u in (t.no_entry h, t.no_mark h))

      pub bounds : Bounds kind workers b batches s
      bounds = (let k = (note).good in let t = Told.bounds kind owes b batches begins jobs s k in record {
        cells = t.cells;
        mails = t.mails;
        from_one = k.alive.no_zero;
        entered = λ p q. nothing p (not_born p q);
        children = t.children;
        elsewhere = outside;
        waiting = λ p en j q l. ap (λ (u : Entry F). u.waiting j) (Told.entry_same kind owes b batches begins jobs s k p en q) ∙ no_claim p j (subst (λ (u : Entry F). j ≤ u.served) (Told.entry_same kind owes b batches begins jobs s k p en q) l);
        hands = (note).noted.idle;
      })
        where
          not_born : (p : Path) → there (Rattle.wave_states.specs.Alone.fold_alone kind.system b batches s.admitted).tree p ≡ false → (((note).good).ghost).born p ≡ false
          not_born p q = elim (bool_cases ((((note).good).ghost).born p)) [
            | inr u ↦ u
            | inl u ↦ absurd (clash _ (by ((note).noted.grown p u)) (sym (Settled.tree_there kind owes b batches begins jobs s.admitted p) ∙ q))
          ]
            where
              none_more : s.admitted + 0 ≡ s.admitted
              none_more = omega arith

              difference : (a n : ℕ) → a ≤ n → (d : ℕ) × (n ≡ d + a)
              difference zero n l = (n, omega arith)
              difference (suc a) zero l = absurd (omega (arith, l))
              difference (suc a) (suc n) l = (let r = difference a n (omega (arith, l)) in (r.0, omega (arith, r.1)))

              index_in : (t i : ℕ) → t ≡ suc b.before + i → t ≤ b.before + s.admitted → suc i ≤ s.admitted
              index_in t i e l = omega (arith, e, l)

              by : (there b.tree p ≡ true) ⊎ ((t : ℕ) × (b.before < t) × (t ≤ (((note).good).ghost).lines.admitted) × (visits w t p ≡ true)) → there (Rattle.wave_states.specs.Alone.places_alone kind.system b batches s.admitted) p ≡ true
              by (inl z) = subst (λ n. there (Rattle.wave_states.specs.Alone.places_alone kind.system b batches n) p ≡ true) none_more (Sites.there_later kind owes b batches begins jobs s.admitted 0 p (Homes.there_same kind owes b batches begins jobs p ∙ z))
              by (inr z) = (let r = ((note).good.shows.cells z.0 z.1 z.2).real in
                  let d = difference (suc r.index) s.admitted (index_in z.0 r.index r.ticket_is (subst (λ m. z.0 ≤ m) (note).good.shows.admitted z.2)) in
                  subst (λ n. there (Rattle.wave_states.specs.Alone.places_alone kind.system b batches n) p ≡ true) (sym d.1) (Sites.there_later kind owes b batches begins jobs d.0 (suc r.index) p (Sites.there_entered kind owes b batches begins jobs r.index r.job p r.job_is (subst (λ u. visits w u p ≡ true) r.ticket_is z.3))))

          no_claim : (p : Path) (j : ℕ) → j ≤ ((((note).good).ghost).entry p).served → ((((note).good).ghost).entry p).waiting j ≡ None
          no_claim p j l = elim (options (((((note).good).ghost).entry p).waiting j)) [
            | inl z ↦ z
            | inr z ↦ (let y = ((note).good.shows.entries p).waits j z.0 z.1 in
                let gr = ((note).good.shows.good.grants (z.0).ticket p (first _ _ y.later) (subst (λ u. visits w (z.0).ticket u ≡ true) y.place (visits_of kind.system w (Arrivals.law kind owes b batches begins jobs) course b.before Is_real ((note).good).ghost (note).good.shows.good (z.0).ticket (here w (((note).good).ghost).lines (z.0).ticket) y.known (entered_spot kind.system w (Arrivals.law kind owes b batches begins jobs) course b.before Is_real ((note).good).ghost (note).good.shows.good (z.0).ticket y.known (λ d. lined_done (sym y.stage ∙ d)))))).1
                (subst (λ m. m ≤ (((note).good).ghost).lines.served p) y.number (subst (λ m. j ≤ m) ((note).good.shows.entries p).served l)) in
                absurd (gr.past (ap Rattle.wave_theory.proofs.Order.is_pending y.stage) y.place))
          ]
            where
              first : (a t : ℕ) → a < t → 1 ≤ t
              first a t l = omega (arith, l)

          outside : (p : Path) (h : ℕ) → kind.hosts ≤ h → NothingAt s p h
          outside p h l = elim (bool_cases ((((note).good).ghost).born p)) [
            | inr u ↦ nothing p u h
            | inl u ↦ (let t = Told.trail_is kind owes b batches begins jobs s (note).good p u in (
              elim (options ((s.columns p).store h)) [
                | inl z ↦ z
                | inr z ↦ absurd (past _ _ _ ((note).good.alive.housed p ((((note).good).ghost).trail p).last (upto _)) (t.owner h (inl (ap is_some z.1))) l)
              ],
              elim (options ((s.columns p).gone h)) [
                | inl z ↦ z
                | inr z ↦ (let m = t.marks h z.0 z.1 in absurd (past _ _ _ ((note).good.alive.housed p m.0 (under _ _ m.1)) (sym m.2) l))
              ],
            ))
          ]
            where
              upto : (a : ℕ) → a ≤ a
              upto a = omega arith

              under : (a c : ℕ) → a < c → a ≤ c
              under a c l = omega (arith, l)

              past : (a c d : ℕ) → a < c → d ≡ a → c ≤ d → ⊥
              past a c d l e m = omega (arith, l, e, m)
