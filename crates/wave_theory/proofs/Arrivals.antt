-- What is noted of the labels so far: each label keeps who was let in, and whose Enter was sent.
use Rattle.std.proofs.Common.{◌≡◌, ◌≢◌, ℕ, zero, suc, ◌+◌, ◌<◌, ◌≤◌, ◌⊎◌, ◌==◌, ◌&&◌, nat_eq, nat_lt, inl, inr, Bool, true, false, Option, Some, None, is_some, List, [], ◌∷◌, ◌++◌, length, map, refl, sym, ◌∙◌, ap, ap₂, subst, arith}
use Rattle.std.specs.Prelude.{All, if◌then◌else◌, slice_get}
use Rattle.std.proofs.lemmas.List.{append-nil, append_assoc}
use Rattle.wave_base.specs.declared.path.Path.{Path}
use Rattle.wave_base.specs.Paths.{path_eq}
use Rattle.wave_base.specs.Tree.{there}
use Rattle.wave_base.specs.Fold.{tickets_from}
use Rattle.wave_states.specs.Actors.{Actors}
use Rattle.wave_states.specs.States.{State, Cell, Event, Mail, Ask, Hand, Letter, Enter, set, ask_in}
use Rattle.wave_states.specs.Labels.{Act, Label, Admit, Pass, ticket_of, path_of, is_pass}
use Rattle.wave_states.specs.Begins.{Begin, start_state, is_root}
use Rattle.wave_states.specs.Kinds.{Kind}
use Rattle.wave_states.specs.Owes.{Owes, IsBegin}
use Rattle.wave_states.specs.Owners.{trail_step, trail_from, first_trail}
use Rattle.wave_states.specs.Steps.{Bench, Part, step, step_by, act_bench, with_bench, part_of, after_admit, only_if, next_ticket, new_cell}
use Rattle.wave_states.specs.Runs.{run}
use Rattle.wave_theory.proofs.Basics.{none_not, some_same, then_some, map_some, only_some, if_some, number_cases, path_cases, path_self, set_at, set_there, set_at_path, differ}
use Rattle.wave_theory.proofs.Order.{Way, IsWay, visits, rank, Stage, Entering, Lined, Coming, There, Done, here}
use Rattle.wave_theory.proofs.NewTickets.{root_number, root_visited}
use Rattle.wave_theory.proofs.Leaves.{Course}
use Rattle.wave_theory.proofs.Tracks.{Trail, sent_on}
use Rattle.wave_theory.proofs.Opened.{ask_is, passes}
use Rattle.wave_theory.proofs.Frames.{entered_spot, visits_of}
use Rattle.wave_theory.proofs.Courses
use Rattle.wave_theory.proofs.Shows
use Rattle.wave_theory.proofs.Deeds.{Outline, outline, Deed, done_by, Suits}
use Rattle.wave_theory.proofs.Deeds
use Rattle.wave_theory.proofs.Forms.{grant_form, admit_form, grants_none}
use Rattle.wave_theory.proofs.Homes
use Rattle.wave_theory.proofs.Passing
use Rattle.wave_theory.proofs.GoodStates.{Good_state}
use Rattle.wave_theory.proofs.GoodStates
use Rattle.wave_theory.proofs.Along
use Rattle.wave_theory.specs.Came.{grants_at, granted_by, is_enter_to, sent_by, sender_by, senders_from}
use Rattle.wave_theory.proofs.Stages.{lined_done, there_done}

-- the last of a list, or one before it
slice_last : (ts : List ℕ) (t i u : ℕ) → slice_get (ts ++ t ∷ []) i ≡ Some u → (slice_get ts i ≡ Some u) ⊎ ((i ≡ length ts) × (t ≡ u))
slice_last [] t zero u e = inr (refl, some_same t u e)
slice_last [] t (suc i) u e = absurd (none_not e)
slice_last (x ∷ ts) t zero u e = inl e
slice_last (x ∷ ts) t (suc i) u e = elim (slice_last ts t i u e) [ inl z ↦ inl z | inr z ↦ inr (ap suc z.0, z.1) ]

longer : {X : Type 0} (xs : List X) (x : X) → length (xs ++ x ∷ []) ≡ suc (length xs)
longer [] x = refl
longer (y ∷ xs) x = ap suc (longer xs x)

pub granted_more : (p : Path) (ls : List Label) (l : Label) → grants_at p (ls ++ l ∷ []) ≡ grants_at p ls ++ granted_by p l.act
granted_more p [] l = append-nil (granted_by p l.act)
granted_more p (m ∷ ls) l = ap (λ ts. granted_by p m.act ++ ts) (granted_more p ls l) ∙ sym (append_assoc (granted_by p m.act) (grants_at p ls) (granted_by p l.act))

-- the hosts of a trail
abbrev pub hosts_of : Trail → List ℕ
hosts_of r = map r.at (tickets_from 0 (suc r.last))

abbrev pub list_of : Bool → Trail → List ℕ
list_of true r = hosts_of r
list_of false r = []

upto_more : (f : ℕ → ℕ) (n a : ℕ) → map f (tickets_from a (suc n)) ≡ map f (tickets_from a n) ++ f (a + n) ∷ []
upto_more f zero a = ap (λ i. f i ∷ []) (let z : a ≡ a + 0 = omega arith in z)
upto_more f (suc n) a = ap (λ ts. f a ∷ ts) (upto_more f n (suc a) ∙ ap (λ i. map f (tickets_from (suc a) n) ++ f i ∷ []) (let z : suc a + n ≡ a + suc n = omega arith in z))

map_same : (f h : ℕ → ℕ) (n a : ℕ) → ((i : ℕ) → i < a + n → f i ≡ h i) → map f (tickets_from a n) ≡ map h (tickets_from a n)
map_same f h zero a e = refl
map_same f h (suc n) a e = ap₂ (λ x xs. x ∷ xs) (e a (omega arith)) (map_same f h n (suc a) (λ i l. e i (omega (arith, l))))

pub hosts_sent : (r : Trail) (to : ℕ) → hosts_of (sent_on r to) ≡ hosts_of r ++ to ∷ []
hosts_sent r to = upto_more (set nat_eq r.at (suc r.last) to) (suc r.last) 0 ∙ ap₂ (λ xs x. xs ++ x ∷ []) (map_same (set nat_eq r.at (suc r.last) to) r.at (suc r.last) 0 (λ i l. set_there nat_eq r.at (suc r.last) to i (differ (suc r.last) i (λ e. past r.last i e l)))) (ap (set nat_eq r.at (suc r.last) to) (let z : 0 + suc r.last ≡ suc r.last = omega arith in z) ∙ set_at r.at (suc r.last) to)
  where
    past : (a i : ℕ) → suc a ≡ i → i < 0 + suc a → ⊥
    past a i e l = omega (arith, e, l)

module _ {A F R J : Type 0} (sys : Actors A F R J) (workers : ℕ) where
  pub senders_more : (p : Path) (ls : List Label) (s₀ s s' : State A F R J) (l : Label) → run sys workers s₀ ls ≡ Some s → step sys workers s l ≡ Some s' → senders_from sys workers p (Some s₀) (ls ++ l ∷ []) ≡ senders_from sys workers p (Some s₀) ls ++ sender_by p (ticket_of l.act) s (Some s')
  unfolding run
  senders_more p [] s₀ s s' l e f = (let z : s₀ ≡ s = some_same s₀ s e in
      subst (λ u. sender_by p (ticket_of l.act) u (step sys workers u l) ++ senders_from sys workers p (step sys workers u l) [] ≡ sender_by p (ticket_of l.act) s (Some s')) (sym z)
      (subst (λ o. sender_by p (ticket_of l.act) s o ++ senders_from sys workers p o [] ≡ sender_by p (ticket_of l.act) s (Some s')) (sym f) (append-nil (sender_by p (ticket_of l.act) s (Some s')))))
  senders_more p (m ∷ ls) s₀ s s' l e f =
      let u = then_some (λ u. run sys workers u ls) (step sys workers s₀ m) s e in
      subst (λ o. sender_by p (ticket_of m.act) s₀ o ++ senders_from sys workers p o (ls ++ l ∷ []) ≡ (sender_by p (ticket_of m.act) s₀ o ++ senders_from sys workers p o ls) ++ sender_by p (ticket_of l.act) s (Some s')) (sym u.1)
      (ap (λ ts. sender_by p (ticket_of m.act) s₀ (Some u.0) ++ ts) (senders_more p ls u.0 s s' l u.2 f) ∙ sym (append_assoc (sender_by p (ticket_of m.act) s₀ (Some u.0)) (senders_from sys workers p (Some u.0) ls) (sender_by p (ticket_of l.act) s (Some s'))))

  pub trail_more : (p : Path) (trail : List ℕ) (ls : List Label) (s₀ s s' : State A F R J) (l : Label) → run sys workers s₀ ls ≡ Some s → step sys workers s l ≡ Some s' → trail_from sys workers p trail (Some s₀) (ls ++ l ∷ []) ≡ trail_step sys workers p (trail_from sys workers p trail (Some s₀) ls) l (Some s')
  unfolding run
  trail_more p trail [] s₀ s s' l e f = (let z : s₀ ≡ s = some_same s₀ s e in
      subst (λ u. trail_from sys workers p (trail_step sys workers p trail l (step sys workers u l)) (step sys workers u l) [] ≡ trail_step sys workers p trail l (Some s')) (sym z)
      (subst (λ o. trail_from sys workers p (trail_step sys workers p trail l o) o [] ≡ trail_step sys workers p trail l (Some s')) (sym f) refl))
  trail_more p trail (m ∷ ls) s₀ s s' l e f =
      let u = then_some (λ u. run sys workers u ls) (step sys workers s₀ m) s e in
      subst (λ o. trail_from sys workers p (trail_step sys workers p trail m o) o (ls ++ l ∷ []) ≡ trail_step sys workers p (trail_from sys workers p (trail_step sys workers p trail m o) o ls) l (Some s')) (sym u.1)
      (trail_more p (trail_step sys workers p trail m (Some u.0)) ls u.0 s s' l u.2 f)

module _ {A F R J : Type 0} (kind : Kind A F R J) (owes : Owes kind) (b : Begin F) (batches : List (List J)) (begins : IsBegin kind b) (jobs : All (All kind.is_job) batches) where
  abbrev pub w : Way
  w = Courses.w kind owes b batches begins jobs

  abbrev course : Course kind.system
  course = Courses.course kind owes b batches begins jobs

  pub law : IsWay w
  law = Courses.law kind owes b batches begins jobs

  abbrev pub Is_real : ℕ → Type 0
  Is_real = Courses.Real kind owes b batches begins jobs

  abbrev pub Good : State A F R J → Type 0
  Good s = Good_state kind owes b batches begins jobs s

  abbrev pub early : Path → ℕ
  early p = if is_root p then b.before else 0

  -- the ticket that comes as the i-th of this run
  pub record Comes (p : Path) (t i : ℕ) : Type 0 where
    pub later : b.before < t
    pub real : Is_real t
    pub comes : visits w t p ≡ true
    pub number : rank w p t ≡ early p + suc i

  pub record Firsts (ts : List ℕ) (n : ℕ) (p : Path) : Type 0 where
    pub each : (i t : ℕ) → slice_get ts i ≡ Some t → Comes p t i
    pub many : n ≡ early p + length ts

  firsts_more : (ts : List ℕ) (n : ℕ) (p : Path) (t : ℕ) → Firsts ts n p → b.before < t → Is_real t → visits w t p ≡ true → rank w p t ≡ suc n → Firsts (ts ++ t ∷ []) (suc n) p
  firsts_more ts n p t f lt r v e = record {
    each = λ i u z. elim (slice_last ts t i u z) [
      | inl y ↦ f.each i u y
      | inr y ↦ subst (λ a. Comes p a i) y.1 (record { later = lt; real = r; comes = v; number = next _ _ _ _ _ e f.many y.0 })
    ];
    many = one_more _ _ _ _ f.many (longer ts t);
  }
    where
      next : (k n l a i : ℕ) → k ≡ suc n → n ≡ a + l → i ≡ l → k ≡ a + suc i
      next k n l a i x y z = omega (arith, x, y, z)

      one_more : (n a l m : ℕ) → n ≡ a + l → m ≡ suc l → suc n ≡ a + m
      one_more n a l m x y = omega (arith, x, y)

  firsts_same : (ts ts' : List ℕ) (n n' : ℕ) (p : Path) → ts' ≡ ts → n' ≡ n → Firsts ts n p → Firsts ts' n' p
  firsts_same ts ts' n n' p e f h = subst (λ x. Firsts x n' p) (sym e) (subst (λ x. Firsts ts x p) (sym f) h)

  module _ (some_host : 0 < kind.hosts) (workers : ℕ) where
    pub record Noted (ls : List Label) (s : State A F R J) (k : Good s) : Type 0 where
      pub came : (p : Path) → Firsts (grants_at p ls) ((k.ghost).lines.served p) p
      pub sent : (p : Path) → Firsts (senders_from kind.system workers p (Some (start_state b batches)) ls) ((k.ghost).lines.given p) p
      pub trace : (p : Path) → trail_from kind.system workers p (first_trail b p) (Some (start_state b batches)) ls ≡ list_of ((k.ghost).born p) ((k.ghost).trail p)
      pub root : (k.ghost).lines.given [] ≡ (k.ghost).lines.admitted
      pub grown : (p : Path) → (k.ghost).born p ≡ true → (there b.tree p ≡ true) ⊎ ((t : ℕ) × (b.before < t) × (t ≤ (k.ghost).lines.admitted) × (visits w t p ≡ true))
      pub old : (p : Path) → there b.tree p ≡ true → (k.ghost).born p ≡ true
      pub idle : (v : ℕ) → workers ≤ v → s.hands v ≡ None

    module _ (ls : List Label) (s s' : State A F R J) (k : Good s) (l : Label) (r : Along.from_start kind owes b batches begins jobs some_host workers ls s) (h : Noted ls s k) (e : step kind.system workers s l ≡ Some s') (n : Along.Follows kind owes b batches begins jobs some_host workers s s' k l) where
      abbrev pub g : Shows.Ghost F
      g = k.ghost

      abbrev o : Outline
      o = outline k.ghost

      pub by_it : step_by kind.system s l.worker l.host l.act ≡ Some s'
      unfolding step
      by_it = (if_some (nat_lt l.worker workers) (step_by kind.system s l.worker l.host l.act) s' e).1

      pub known_by : (t : ℕ) → (g).lines.stage t ≢ Done → (b.before < t) × (t ≤ (g).lines.admitted)
      known_by t m = Homes.known_by_shows kind owes b batches begins jobs s k.ghost k.shows t m

      -- a ticket at its context
      pub comes_here : (t : ℕ) (v : Stage) → (g).lines.stage t ≡ v → (v ≡ Done → ⊥) → (b.before < t) × (Is_real t) × (visits w t (here w (g).lines t) ≡ true)
      comes_here t v q m = (let kn = known_by t (λ z. m (sym q ∙ z)) in (kn.0, (k.shows.cells t kn.0 kn.1).real, visits_of kind.system w law course b.before Is_real k.ghost k.shows.good t (here w (g).lines t) kn.1 (entered_spot kind.system w law course b.before Is_real k.ghost k.shows.good t kn.1 (λ z. m (sym q ∙ z)))))

      -- who was let in
      came_by : (a : Act) (d : Deed) → Suits a d → Deeds.Fits kind.system w course b.before Is_real s k.ghost (n.good).ghost (ticket_of a) (path_of a) d → (p : Path) → Firsts (grants_at p ls ++ granted_by p a) ((done_by w o (ticket_of a) (path_of a) d).served p) p
      came_by a Deeds.Lets_in su f p = (let q = grant_form a su in subst (λ u. Deeds.Fits kind.system w course b.before Is_real s k.ghost (n.good).ghost (ticket_of u) (path_of u) Deeds.Lets_in → Firsts (grants_at p ls ++ granted_by p u) ((done_by w o (ticket_of u) (path_of u) Deeds.Lets_in).served p) p) (sym q.2) (granting q.0 q.1) f)
        where
          granting : (t : ℕ) (q : Path) → Deeds.LetsIn kind.system w course b.before Is_real k.ghost t q → Firsts (grants_at p ls ++ (if path_eq q p then t ∷ [] else [])) (set path_eq (g).lines.served (here w (g).lines t) (suc ((g).lines.served (here w (g).lines t))) p) p
          granting t q f = elim (path_cases q p) [
            | inr d ↦ firsts_same (grants_at p ls) _ ((g).lines.served p) _ p (ap (λ i. grants_at p ls ++ (if i then t ∷ [] else [])) d ∙ append-nil (grants_at p ls)) (ap (λ u. set path_eq (g).lines.served u (suc ((g).lines.served u)) p) f.place ∙ set_there path_eq (g).lines.served q _ p d) (h.came p)
            | inl d ↦ subst (λ u. Firsts (grants_at u ls ++ (if path_eq q u then t ∷ [] else [])) (set path_eq (g).lines.served (here w (g).lines t) (suc ((g).lines.served (here w (g).lines t))) u) u) d
                (let c = comes_here t Lined f.stage lined_done in firsts_same (grants_at q ls ++ t ∷ []) _ (suc ((g).lines.served q)) _ q (ap (λ i. grants_at q ls ++ (if i then t ∷ [] else [])) (path_self q)) (ap (λ u. set path_eq (g).lines.served u (suc ((g).lines.served u)) q) f.place ∙ set_at_path (g).lines.served q _)
                (firsts_more (grants_at q ls) ((g).lines.served q) q t (h.came q) c.0 c.1 (subst (λ u. visits w t u ≡ true) f.place c.2) f.number))
          ]
      came_by a Deeds.Admits su f p = firsts_same (grants_at p ls) _ ((g).lines.served p) _ p (ap (λ ts. grants_at p ls ++ ts) (grants_none a Deeds.Admits refl su p) ∙ append-nil (grants_at p ls)) refl (h.came p)
      came_by a Deeds.Lines_up su f p = firsts_same (grants_at p ls) _ ((g).lines.served p) _ p (ap (λ ts. grants_at p ls ++ ts) (grants_none a Deeds.Lines_up refl su p) ∙ append-nil (grants_at p ls)) refl (h.came p)
      came_by a Deeds.Arrives su f p = firsts_same (grants_at p ls) _ ((g).lines.served p) _ p (ap (λ ts. grants_at p ls ++ ts) (grants_none a Deeds.Arrives refl su p) ∙ append-nil (grants_at p ls)) refl (h.came p)
      came_by a Deeds.Rests su f p = firsts_same (grants_at p ls) _ ((g).lines.served p) _ p (ap (λ ts. grants_at p ls ++ ts) (grants_none a Deeds.Rests refl su p) ∙ append-nil (grants_at p ls)) refl (h.came p)
      came_by a Deeds.Lands su f p = firsts_same (grants_at p ls) _ ((g).lines.served p) _ p (ap (λ ts. grants_at p ls ++ ts) (grants_none a Deeds.Lands refl su p) ∙ append-nil (grants_at p ls)) refl (h.came p)
      came_by a Deeds.Goes_on su f p = firsts_same (grants_at p ls) _ ((g).lines.served p) _ p (ap (λ ts. grants_at p ls ++ ts) (grants_none a Deeds.Goes_on refl su p) ∙ append-nil (grants_at p ls)) refl (h.came p)
      came_by a Deeds.Ends su f p = firsts_same (grants_at p ls) _ ((g).lines.served p) _ p (ap (λ ts. grants_at p ls ++ ts) (grants_none a Deeds.Ends refl su p) ∙ append-nil (grants_at p ls)) refl (h.came p)
      came_by a (Deeds.Goes_in st q) su f p = firsts_same (grants_at p ls) _ ((g).lines.served p) _ p (ap (λ ts. grants_at p ls ++ ts) (grants_none a (Deeds.Goes_in st q) refl su p) ∙ append-nil (grants_at p ls)) refl (h.came p)
      came_by a (Deeds.Moves to) su f p = firsts_same (grants_at p ls) _ ((g).lines.served p) _ p (ap (λ ts. grants_at p ls ++ ts) (grants_none a (Deeds.Moves to) refl su p) ∙ append-nil (grants_at p ls)) refl (h.came p)

      pub came_next : (p : Path) → Firsts (grants_at p (ls ++ l ∷ [])) (((n.good).ghost).lines.served p) p
      came_next p = firsts_same _ (grants_at p (ls ++ l ∷ [])) _ (((n.good).ghost).lines.served p) p (granted_more p ls l) (ap (λ (u : Outline). u.served p) (n.turn).is) (came_by l.act (n.turn).deed (n.turn).suits (n.turn).fits p)

      -- a new mail that is an Enter
      enter_case : (p : Path) (m : Option (Mail F)) → ((y : Mail F) (c : Ask) → m ≡ Some y → y.letter ≡ Enter c → ⊥) → is_enter_to p m ≡ false
      enter_case p None f = refl
      enter_case p (Some y) f = by (ask_in y.letter) refl
        where
          by : (c : Option Ask) → ask_in y.letter ≡ c → (is_some (ask_in y.letter) && path_eq y.path p) ≡ false
          by None q = ap (λ u. is_some u && path_eq y.path p) q
          by (Some c) q = absurd (f y c refl (ask_is y.letter c q))

      sender_none : (p : Path) (t : ℕ) → is_enter_to p ((s'.cells t).mails (suc (sent_by (s.cells t).event))) ≡ false → sender_by p t s (Some s') ≡ []
      sender_none p t q = ap (λ i. if i then t ∷ [] else []) q

      -- a ticket with an Enter under way is on its way
      entering_now : (t i : ℕ) (y : Mail F) (c : Ask) → (s'.cells t).mails i ≡ Some y → y.letter ≡ Enter c → ((n.good).ghost).lines.stage t ≡ Entering
      entering_now t i y c m q = (let kn = GoodStates.known kind owes b batches begins jobs s' (n.good).ghost (n.good).shows t (λ z. none_not (sym (ap (λ (u : Cell A F R). u.mails i) z) ∙ m)) in
          (subst (Shows.MailShows kind.system w course b.before Is_real (n.good).ghost t i y.host y.path) q (((n.good).shows.cells t kn.0 kn.1).mails i y m)).stage)

      -- no mail has a number past those that were sent
      past_sent : (t i : ℕ) (y : Mail F) → sent_by (s.cells t).event < i → (s.cells t).mails i ≡ Some y → ⊥
      past_sent t i y m q = (let kn = GoodStates.known kind owes b batches begins jobs s k.ghost k.shows t (λ z. none_not (sym (ap (λ (u : Cell A F R). u.mails i) z) ∙ q)) in
          let c = k.shows.cells t kn.0 kn.1 in none_not (sym (c.unused i (subst (λ (u : Option (Event A)). sent_by u < i) c.event_is m)) ∙ q))

      pass_keeps : (t j : ℕ) (p : Path) (to : ℕ) → step_by kind.system s l.worker l.host (Pass t j p to) ≡ Some s' → (i : ℕ) (y : Mail F) → sent_by (s.cells t).event < i → (s'.cells t).mails i ≡ Some y → (s.cells t).mails i ≡ Some y
      pass_keeps t j p to q i y m z = (let u = map_some _ _ s' q in by (s.hands l.worker) u.0 u.1 u.2)
        where
          by : (hd : Option (Hand A F)) (u : Bench A F R) → act_bench kind.system (Pass t j p to) l.host (part_of s t p) hd ≡ Some u → s' ≡ with_bench s t p l.worker u → (s.cells t).mails i ≡ Some y
          by (Some hd) u q d = absurd (none_not q)
          by None u q d = (let c = map_some (λ (x : Part A F R). record { part = x; hand = None }) _ u q in let f = passes j to p l.host (part_of s t p) c.0 c.1 in
              elim (number_cases j i) [
                | inl x ↦ absurd (past_sent t j f.letter_at.mail (subst (λ a. sent_by (s.cells t).event < a) (sym x) m) f.letter_at.mail_is)
                | inr x ↦ sym (set_there nat_eq (s.cells t).mails j _ i x) ∙ ap (λ (a : Part A F R). a.cell.mails i) f.gives ∙ ap (λ (a : Bench A F R). a.part.cell.mails i) (sym c.2) ∙ sym (ap (λ (a : State A F R J). (a.cells t).mails i) d ∙ ap (λ (a : Cell A F R). a.mails i) (set_at s.cells t u.part.cell)) ∙ z
              ])

      kept_mail : (Suits l.act Deeds.Rests) ⊎ (Suits l.act Deeds.Lands) → (y : Mail F) → (s'.cells (ticket_of l.act)).mails (suc (sent_by (s.cells (ticket_of l.act)).event)) ≡ Some y → ⊥
      kept_mail su y q = by (is_pass l.act) refl
        where
          over : (a : ℕ) → a < suc a
          over a = omega arith

          by : (i : Bool) → is_pass l.act ≡ i → ⊥
          by false np = past_sent (ticket_of l.act) (suc (sent_by (s.cells (ticket_of l.act)).event)) y (over _) (Passing.mails_kept kind owes b batches begins jobs 0 s s' l.worker l.host l.act by_it np su (suc (sent_by (s.cells (ticket_of l.act)).event)) y q)
          by true np = (let z = Passing.pass_form kind owes b batches begins jobs 0 l.act np in
              past_sent z.0 (suc (sent_by (s.cells z.0).event)) y (over _) (pass_keeps z.0 z.1 z.2 z.3 (subst (λ a. step_by kind.system s l.worker l.host a ≡ Some s') z.4 by_it) (suc (sent_by (s.cells z.0).event)) y (over _) (subst (λ a. (s'.cells (ticket_of a)).mails (suc (sent_by (s.cells (ticket_of a)).event)) ≡ Some y) z.4 q)))

      stage_now : (t : ℕ) → ((n.good).ghost).lines.stage t ≡ (done_by w o (ticket_of l.act) (path_of l.act) (n.turn).deed).stage t
      stage_now t = ap (λ (u : Outline). u.stage t) (n.turn).is

      -- who sends no Enter
      quiet : (p : Path) (v : Stage) → ((n.good).ghost).lines.stage (ticket_of l.act) ≡ v → (v ≡ Entering → ⊥) → sender_by p (ticket_of l.act) s (Some s') ≡ []
      quiet p v q m = sender_none p (ticket_of l.act) (enter_case p _ (λ y c z x. m (sym q ∙ entering_now (ticket_of l.act) _ y c z x)))

      sent_same : (p : Path) (m : ℕ) → m ≡ (g).lines.given p → sender_by p (ticket_of l.act) s (Some s') ≡ [] → Firsts (senders_from kind.system workers p (Some (start_state b batches)) ls ++ sender_by p (ticket_of l.act) s (Some s')) m p
      sent_same p m q z = firsts_same (senders_from kind.system workers p (Some (start_state b batches)) ls) _ ((g).lines.given p) m p (ap (λ ts. senders_from kind.system workers p (Some (start_state b batches)) ls ++ ts) z ∙ append-nil _) q (h.sent p)

      -- who sends one, to q
      sent_new : (q : Path) (y : Mail F) (c : Ask) → (s'.cells (ticket_of l.act)).mails (suc (sent_by (s.cells (ticket_of l.act)).event)) ≡ Some y → y.letter ≡ Enter c → y.path ≡ q → b.before < ticket_of l.act → Is_real (ticket_of l.act) → visits w (ticket_of l.act) q ≡ true → rank w q (ticket_of l.act) ≡ suc ((g).lines.given q) → (p : Path) →
          Firsts (senders_from kind.system workers p (Some (start_state b batches)) ls ++ sender_by p (ticket_of l.act) s (Some s')) (set path_eq (g).lines.given q (suc ((g).lines.given q)) p) p
      sent_new q y c m z x lt rl v rk p = elim (path_cases q p) [
        | inr d ↦ sent_same p _ (set_there path_eq (g).lines.given q _ p d) (sender_none p (ticket_of l.act) (is_enter p ∙ d))
        | inl d ↦ subst (λ u. Firsts (senders_from kind.system workers u (Some (start_state b batches)) ls ++ sender_by u (ticket_of l.act) s (Some s')) (set path_eq (g).lines.given q (suc ((g).lines.given q)) u) u) d
            (firsts_same (senders_from kind.system workers q (Some (start_state b batches)) ls ++ ticket_of l.act ∷ []) _ (suc ((g).lines.given q)) _ q (ap (λ i. senders_from kind.system workers q (Some (start_state b batches)) ls ++ (if i then ticket_of l.act ∷ [] else [])) (is_enter q ∙ path_self q)) (set_at_path (g).lines.given q _)
            (firsts_more (senders_from kind.system workers q (Some (start_state b batches)) ls) ((g).lines.given q) q (ticket_of l.act) (h.sent q) lt rl v rk))
      ]
        where
          is_enter : (p : Path) → is_enter_to p ((s'.cells (ticket_of l.act)).mails (suc (sent_by (s.cells (ticket_of l.act)).event))) ≡ path_eq q p
          is_enter p = ap (is_enter_to p) m ∙ ap (λ (u : Letter F). is_some (ask_in u) && path_eq y.path p) z ∙ ap (λ u. path_eq u p) x

      sent_by_deed : (d : Deed) → (n.turn).deed ≡ d → Suits l.act d → Deeds.Fits kind.system w course b.before Is_real s k.ghost (n.good).ghost (ticket_of l.act) (path_of l.act) d → (p : Path) → Firsts (senders_from kind.system workers p (Some (start_state b batches)) ls ++ sender_by p (ticket_of l.act) s (Some s')) ((done_by w o (ticket_of l.act) (path_of l.act) d).given p) p
      sent_by_deed Deeds.Lines_up q su f p = sent_same p _ refl (quiet p Lined (stage_now (ticket_of l.act) ∙ ap (λ d. (done_by w o (ticket_of l.act) (path_of l.act) d).stage (ticket_of l.act)) q ∙ set_at (g).lines.stage (ticket_of l.act) Lined) (λ z. grind arith))
      sent_by_deed Deeds.Lets_in q su f p = sent_same p _ refl (quiet p There (stage_now (ticket_of l.act) ∙ ap (λ d. (done_by w o (ticket_of l.act) (path_of l.act) d).stage (ticket_of l.act)) q ∙ set_at (g).lines.stage (ticket_of l.act) There) (λ z. grind arith))
      sent_by_deed Deeds.Arrives q su f p = sent_same p _ refl (quiet p There (stage_now (ticket_of l.act) ∙ ap (λ d. (done_by w o (ticket_of l.act) (path_of l.act) d).stage (ticket_of l.act)) q ∙ set_at (g).lines.stage (ticket_of l.act) There) (λ z. grind arith))
      sent_by_deed Deeds.Goes_on q su f p = sent_same p _ refl (quiet p Coming (stage_now (ticket_of l.act) ∙ ap (λ d. (done_by w o (ticket_of l.act) (path_of l.act) d).stage (ticket_of l.act)) q ∙ set_at (g).lines.stage (ticket_of l.act) Coming) (λ z. grind arith))
      sent_by_deed Deeds.Ends q su f p = sent_same p _ refl (quiet p Done (stage_now (ticket_of l.act) ∙ ap (λ d. (done_by w o (ticket_of l.act) (path_of l.act) d).stage (ticket_of l.act)) q ∙ set_at (g).lines.stage (ticket_of l.act) Done) (λ z. grind arith))
      sent_by_deed (Deeds.Moves to) q su f p = sent_same p _ refl (quiet p Done (stage_now (ticket_of l.act) ∙ ap (λ d. (done_by w o (ticket_of l.act) (path_of l.act) d).stage (ticket_of l.act)) q ∙ set_at (g).lines.stage (ticket_of l.act) Done) (λ z. grind arith))
      sent_by_deed Deeds.Rests q su f p = sent_same p _ refl (sender_none p (ticket_of l.act) (enter_case p _ (λ y c z x. kept_mail (inl su) y z)))
      sent_by_deed Deeds.Lands q su f p = sent_same p _ refl (sender_none p (ticket_of l.act) (enter_case p _ (λ y c z x. kept_mail (inr su) y z)))
      sent_by_deed Deeds.Admits q su f p = admitting
        where
          later : b.before < ticket_of l.act
          later = subst (λ i. b.before < i) (sym f.0) (above _ _ _ k.shows.admitted)
            where
              above : (a x m : ℕ) → a ≡ x + m → x < suc a
              above a x m e = omega (arith, e)

          now : ticket_of l.act ≤ ((n.good).ghost).lines.admitted
          now = subst (λ i. ticket_of l.act ≤ i) (sym (ap (λ (u : Outline). u.admitted) ((n.turn).is ∙ ap (done_by w o (ticket_of l.act) (path_of l.act)) q))) (subst (λ i. i ≤ suc (g).lines.admitted) (sym f.0) (upto (suc (g).lines.admitted)))
            where
              upto : (a : ℕ) → a ≤ a
              upto a = omega arith

          none_yet : (s.cells (ticket_of l.act)).event ≡ None
          none_yet = ap (λ (u : Cell A F R). u.event) (k.shows.no_cells (ticket_of l.act) (λ x y. past _ _ y f.0))
            where
              past : (a c : ℕ) → a ≤ c → a ≡ suc c → ⊥
              past a c l e = omega (arith, l, e)

          mail_new : (t : ℕ) → l.act ≡ Admit t → (c : Ask) × ((s'.cells (ticket_of l.act)).mails 1 ≡ Some (record { host = 0; path = []; letter = Enter c }))
          mail_new t z =
              let i = (GoodStates.idle_of kind owes b batches begins jobs (s.hands l.worker) _ s' (subst (λ a. step_by kind.system s l.worker l.host a ≡ Some s') z by_it)).1 in
              let j = then_some (λ j. only_if ((l.host == 0) && (t == next_ticket s)) (after_admit kind.system s t j)) (slice_get s.head.known s.admitted) s' i in
              let u = only_some ((l.host == 0) && (t == next_ticket s)) (after_admit kind.system s t j.0) s' j.2 in (
                record { number = t; followed = 0; peek = kind.system.peeks (kind.system.make j.0 t) },
                ap (λ a. (s'.cells (ticket_of a)).mails 1) z ∙ ap (λ (a : State A F R J). (a.cells t).mails 1) (sym u.1) ∙ ap (λ (a : Cell A F R). a.mails 1) (set_at s.cells t (new_cell kind.system (kind.system.make j.0 t) t)) ∙ set_at (λ i. None) 1 (Some (record { host = 0; path = []; letter = Enter (record { number = t; followed = 0; peek = kind.system.peeks (kind.system.make j.0 t) }) })),
              )

          admitting : Firsts (senders_from kind.system workers p (Some (start_state b batches)) ls ++ sender_by p (ticket_of l.act) s (Some s')) (set path_eq (g).lines.given [] (suc ((g).lines.given [])) p) p
          admitting = (let a = admit_form l.act su in let m = mail_new a.0 a.1 in
              sent_new [] (record { host = 0; path = []; letter = Enter m.0 }) m.0 (ap (λ (i : Option (Event A)). (s'.cells (ticket_of l.act)).mails (suc (sent_by i))) none_yet ∙ m.1) refl refl later ((n.good).shows.cells (ticket_of l.act) later now).real (root_visited law (ticket_of l.act)) (root_number law (ticket_of l.act) ∙ f.0 ∙ ap suc (sym h.root)) p)
      sent_by_deed (Deeds.Goes_in st r₀) q su f p = going
        where
          kn : (b.before < ticket_of l.act) × (Is_real (ticket_of l.act)) × (visits w (ticket_of l.act) (here w (g).lines (ticket_of l.act)) ≡ true)
          kn = comes_here (ticket_of l.act) There f.stopped.stage there_done

          known : (b.before < ticket_of l.act) × (ticket_of l.act ≤ (g).lines.admitted)
          known = known_by (ticket_of l.act) (λ z. there_done (sym f.stopped.stage ∙ z))

          now : ticket_of l.act ≤ ((n.good).ghost).lines.admitted
          now = subst (λ i. ticket_of l.act ≤ i) (sym (ap (λ (u : Outline). u.admitted) ((n.turn).is ∙ ap (done_by w o (ticket_of l.act) (path_of l.act)) q))) known.1

          stage_in : ((n.good).ghost).lines.stage (ticket_of l.act) ≡ Entering
          stage_in = stage_now (ticket_of l.act) ∙ ap (λ d. (done_by w o (ticket_of l.act) (path_of l.act) d).stage (ticket_of l.act)) q ∙ set_at (g).lines.stage (ticket_of l.act) Entering

          pos_in : ((n.good).ghost).lines.pos (ticket_of l.act) ≡ suc ((g).lines.pos (ticket_of l.act))
          pos_in = ap (λ (u : Outline). u.pos (ticket_of l.act)) ((n.turn).is ∙ ap (done_by w o (ticket_of l.act) (path_of l.act)) q) ∙ set_at (g).lines.pos (ticket_of l.act) _

          comes_child : visits w (ticket_of l.act) (path_of l.act ++ st ∷ []) ≡ true
          comes_child = subst (λ u. visits w (ticket_of l.act) u ≡ true) f.next (Rattle.wave_theory.proofs.Ranks.comes law (ticket_of l.act) (suc ((g).lines.pos (ticket_of l.act))) (w.place (ticket_of l.act) (suc ((g).lines.pos (ticket_of l.act)))) (upto _ _ f.more)
              (law.held_entered (ticket_of l.act) (suc ((g).lines.pos (ticket_of l.act))) _ (law.at_held (ticket_of l.act) (suc ((g).lines.pos (ticket_of l.act))) f.more)))
            where
              upto : (a c : ℕ) → a ≤ c → a ≤ suc c
              upto a c l = omega (arith, l)

          going : Firsts (senders_from kind.system workers p (Some (start_state b batches)) ls ++ sender_by p (ticket_of l.act) s (Some s')) (set path_eq (g).lines.given (path_of l.act ++ st ∷ []) (suc ((g).lines.given (path_of l.act ++ st ∷ []))) p) p
          going = (let c = k.shows.cells (ticket_of l.act) known.0 known.1 in
              let there = ((n.good).alive.one (ticket_of l.act) known.0 now).entering stage_in in
              let number : ((n.good).ghost).main (ticket_of l.act) ≡ suc (sent_by (s.cells (ticket_of l.act)).event) = f.main c.event c.event_is ∙ ap (λ (u : Option (Event A)). suc (sent_by u)) (sym c.event_is) in
              let m = sym (ap (s'.cells (ticket_of l.act)).mails number) ∙ there.there in
              let y : Shows.EnterShows kind.system w course b.before Is_real (n.good).ghost (ticket_of l.act) (((n.good).ghost).main (ticket_of l.act)) (there.mail).host (there.mail).path there.ask = subst (Shows.MailShows kind.system w course b.before Is_real (n.good).ghost (ticket_of l.act) (((n.good).ghost).main (ticket_of l.act)) (there.mail).host (there.mail).path) there.letter (((n.good).shows.cells (ticket_of l.act) known.0 now).mails (((n.good).ghost).main (ticket_of l.act)) there.mail there.there) in
              sent_new (path_of l.act ++ st ∷ []) there.mail there.ask m there.letter (y.place ∙ ap (w.place (ticket_of l.act)) pos_in ∙ f.next) known.0 kn.1 comes_child f.number p)

      pub sent_next : (p : Path) → Firsts (senders_from kind.system workers p (Some (start_state b batches)) (ls ++ l ∷ [])) (((n.good).ghost).lines.given p) p
      sent_next p = firsts_same _ (senders_from kind.system workers p (Some (start_state b batches)) (ls ++ l ∷ [])) _ (((n.good).ghost).lines.given p) p (senders_more kind.system workers p ls (start_state b batches) s s' l r e) (ap (λ (u : Outline). u.given p) (n.turn).is) (sent_by_deed (n.turn).deed refl (n.turn).suits (n.turn).fits p)
