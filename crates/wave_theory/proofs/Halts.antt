-- How many segments of each ticket came to their end: as many as its Stops.
use Rattle.std.proofs.Common.{◌≡◌, ℕ, suc, ◌<◌, ◌≤◌, nat_eq, inl, inr, Bool, true, false, Some, List, [], ◌∷◌, ◌++◌, refl, sym, ◌∙◌, ap, subst, arith}
use Rattle.std.specs.Prelude.{All, if◌then◌else◌}
use Rattle.wave_base.specs.declared.path.Path.{Path}
use Rattle.wave_states.specs.States.{State, set}
use Rattle.wave_states.specs.Labels.{Act, Label, Admit, Queue, Grant, Start, Stop, Free, Pass, Land, Commit, ticket_of, path_of}
use Rattle.wave_states.specs.Labels
use Rattle.wave_states.specs.Steps.{step}
use Rattle.wave_states.specs.Runs.{run}
use Rattle.wave_states.specs.Begins.{Begin, start_state}
use Rattle.wave_states.specs.Kinds.{Kind}
use Rattle.wave_states.specs.Owes.{Owes, IsBegin}
use Rattle.wave_theory.proofs.Basics.{clash, number_cases, number_self, set_at, set_there, differ}
use Rattle.wave_theory.proofs.Order.{Way, Stage, There}
use Rattle.wave_theory.proofs.Leaves.{Course}
use Rattle.wave_theory.proofs.Courses
use Rattle.wave_theory.proofs.Shows
use Rattle.wave_theory.proofs.Deeds.{Outline, outline, Deed, done_by, Suits}
use Rattle.wave_theory.proofs.Deeds
use Rattle.wave_theory.proofs.Forms.{stop_form, admit_form}
use Rattle.wave_theory.proofs.Homes
use Rattle.wave_theory.proofs.GoodStates.{Good_state}
use Rattle.wave_theory.proofs.Reached
use Rattle.wave_theory.proofs.Along
use Rattle.wave_theory.specs.Holding.{is_stop_of, stops}
use Rattle.wave_theory.proofs.Stages.{there_done}

pub stops_more : (t : ℕ) (ls : List Label) (l : Label) → stops t (ls ++ l ∷ []) ≡ (if is_stop_of t l.act then suc (stops t ls) else stops t ls)
stops_more t [] l = refl
stops_more t (m ∷ ls) l = ap (λ n. if is_stop_of t m.act then suc n else n) (stops_more t ls l) ∙ swap (is_stop_of t m.act) (is_stop_of t l.act) (stops t ls)
  where
    swap : (i j : Bool) (n : ℕ) → (if i then suc (if j then suc n else n) else (if j then suc n else n)) ≡ (if j then suc (if i then suc n else n) else (if i then suc n else n))
    swap true true n = refl
    swap true false n = refl
    swap false true n = refl
    swap false false n = refl

-- the other deeds leave the positions
abbrev pub still : Deed → Bool
still Deeds.Lines_up = true
still Deeds.Lets_in = true
still Deeds.Arrives = true
still Deeds.Rests = true
still Deeds.Lands = true
still Deeds.Admits = false
still Deeds.Goes_on = false
still Deeds.Ends = false
still (Deeds.Goes_in s r) = false
still (Deeds.Moves to) = false

no_stop : (a : Act) (d : Deed) → still d ≡ true → Suits a d → (t : ℕ) → is_stop_of t a ≡ false
no_stop (Admit u) d e s t = refl
no_stop (Queue u k p) d e s t = refl
no_stop (Grant u p) d e s t = refl
no_stop (Labels.Visit u k p) d e s t = refl
no_stop (Start u p) d e s t = refl
no_stop (Free u k p) d e s t = refl
no_stop (Pass u k p g) d e s t = refl
no_stop (Land u k p) d e s t = refl
no_stop (Commit u) d e s t = refl
no_stop (Stop u p) d e s t = absurd (off d e s)
  where
    off : (d : Deed) → still d ≡ true → Suits (Stop u p) d → ⊥
    off Deeds.Goes_on e s = clash false e refl
    off Deeds.Ends e s = clash false e refl
    off (Deeds.Goes_in st r) e s = clash false e refl
    off (Deeds.Moves to) e s = clash false e refl
    off Deeds.Admits e s = s
    off Deeds.Lines_up e s = s
    off Deeds.Lets_in e s = s
    off Deeds.Arrives e s = s
    off Deeds.Rests e s = s
    off Deeds.Lands e s = s

module _ {A F R J : Type 0} (kind : Kind A F R J) (owes : Owes kind) (b : Begin F) (batches : List (List J)) (begins : IsBegin kind b) (jobs : All (All kind.is_job) batches) where
  abbrev w : Way
  w = Courses.w kind owes b batches begins jobs

  abbrev course : Course kind.system
  course = Courses.course kind owes b batches begins jobs

  abbrev Is_real : ℕ → Type 0
  Is_real = Courses.Real kind owes b batches begins jobs

  abbrev Good : State A F R J → Type 0
  Good s = Good_state kind owes b batches begins jobs s

  -- so many segments of each admitted ticket are over
  pub record HaltsOf (n pos : ℕ → ℕ) (admitted : ℕ) : Type 0 where
    pub each : (t : ℕ) → b.before < t → t ≤ admitted → pos t ≡ n t
    pub none : (t : ℕ) → admitted < t → n t ≡ 0

  module _ (some_host : 0 < kind.hosts) (workers : ℕ) where
    abbrev pub Halts : (ls : List Label) (s : State A F R J) → Good s → Type 0
    Halts ls s k = HaltsOf (λ t. stops t ls) (k.ghost).lines.pos (k.ghost).lines.admitted

    module _ (ls : List Label) (s s' : State A F R J) (k : Good s) (l : Label) (r : Along.from_start kind owes b batches begins jobs some_host workers ls s) (h : Halts ls s k) (e : step kind.system workers s l ≡ Some s') (n : Along.Follows kind owes b batches begins jobs some_host workers s s' k l) where
      abbrev g : Shows.Ghost F
      g = k.ghost

      abbrev o : Outline
      o = outline k.ghost

      abbrev counts : Act → ℕ → ℕ
      counts a t = if is_stop_of t a then suc (stops t ls) else stops t ls

      to_list : {pos : ℕ → ℕ} {m : ℕ} → HaltsOf (counts l.act) pos m → HaltsOf (λ t. stops t (ls ++ l ∷ [])) pos m
      to_list y = record { each = λ t a c. y.each t a c ∙ sym (stops_more t ls l); none = λ t a. stops_more t ls l ∙ y.none t a }

      -- a Stop of the ticket
      stopping : (t : ℕ) (p : Path) → k.ghost.lines.stage t ≡ There → (v : Stage) → HaltsOf (counts (Stop t p)) (set nat_eq (g).lines.pos t (suc ((g).lines.pos t))) (g).lines.admitted
      stopping t p st v = record {
        each = λ u a c. elim (number_cases t u) [
          | inl z ↦ subst (λ i. set nat_eq (g).lines.pos t (suc ((g).lines.pos t)) i ≡ counts (Stop t p) i) z (set_at (g).lines.pos t _ ∙ ap suc (h.each t kn.0 kn.1) ∙ sym (ap (λ i. if i then suc (stops t ls) else stops t ls) (number_self t)))
          | inr z ↦ set_there nat_eq (g).lines.pos t _ u z ∙ h.each u a c ∙ sym (ap (λ i. if i then suc (stops u ls) else stops u ls) z)
        ];
        none = λ u a. ap (λ i. if i then suc (stops u ls) else stops u ls) (differ t u (λ z. past _ _ _ kn.1 a z)) ∙ h.none u a;
      }
        where
          kn : (b.before < t) × (t ≤ (g).lines.admitted)
          kn = Homes.known_by_shows kind owes b batches begins jobs s k.ghost k.shows t (λ z. there_done (sym st ∙ z))

          past : (a c d : ℕ) → a ≤ c → c < d → a ≡ d → ⊥
          past a c d x y z = omega (arith, x, y, z)

      stop_by : (a : Act) (d : Deed) → Rattle.wave_theory.proofs.Forms.ends_segment d ≡ true → Suits a d → (k.ghost).lines.stage (ticket_of a) ≡ There → HaltsOf (counts a) (set nat_eq (g).lines.pos (ticket_of a) (suc ((g).lines.pos (ticket_of a)))) (g).lines.admitted
      stop_by a d z su st = (let q = stop_form a d z su in subst (λ u. (k.ghost).lines.stage (ticket_of u) ≡ There → HaltsOf (counts u) (set nat_eq (g).lines.pos (ticket_of u) (suc ((g).lines.pos (ticket_of u)))) (g).lines.admitted) (sym q.2) (λ y. stopping q.0 q.1 y There) st)

      resting : (a : Act) (d : Deed) → still d ≡ true → Suits a d → HaltsOf (counts a) (g).lines.pos (g).lines.admitted
      resting a d z su = record {
        each = λ t x y. h.each t x y ∙ sym (ap (λ i. if i then suc (stops t ls) else stops t ls) (no_stop a d z su t));
        none = λ t x. ap (λ i. if i then suc (stops t ls) else stops t ls) (no_stop a d z su t) ∙ h.none t x;
      }

      by : (a : Act) (d : Deed) → Suits a d → Deeds.Fits kind.system w course b.before Is_real s k.ghost (n.good).ghost (ticket_of a) (path_of a) d → HaltsOf (counts a) (done_by w o (ticket_of a) (path_of a) d).pos (done_by w o (ticket_of a) (path_of a) d).admitted
      by a Deeds.Admits su f = (let q = admit_form a su in record {
        each = λ t x y. elim (number_cases (suc (g).lines.admitted) t) [
          | inl z ↦ subst (λ i. set nat_eq (g).lines.pos (suc (g).lines.admitted) 0 i ≡ counts a i) z (set_at (g).lines.pos (suc (g).lines.admitted) 0 ∙ sym (ap (λ u. counts u (suc (g).lines.admitted)) q.1 ∙ h.none (suc (g).lines.admitted) (omega arith)))
          | inr z ↦ set_there nat_eq (g).lines.pos (suc (g).lines.admitted) 0 t z ∙ h.each t x (less _ _ y z) ∙ sym (ap (λ u. counts u t) q.1)
        ];
        none = λ t x. ap (λ u. counts u t) q.1 ∙ h.none t (omega (arith, x));
      })
        where
          less : (m t : ℕ) → t ≤ suc m → nat_eq (suc m) t ≡ false → t ≤ m
          less m t l z = at_most m t l (λ y. Rattle.wave_theory.proofs.Basics.not_same (suc m) t z y)
            where
              at_most : (m t : ℕ) → t ≤ suc m → (suc m ≡ t → ⊥) → t ≤ m
              at_most m t l z = grind arith
      by a Deeds.Lines_up su f = resting a Deeds.Lines_up refl su
      by a Deeds.Lets_in su f = resting a Deeds.Lets_in refl su
      by a Deeds.Arrives su f = resting a Deeds.Arrives refl su
      by a Deeds.Rests su f = resting a Deeds.Rests refl su
      by a Deeds.Lands su f = resting a Deeds.Lands refl su
      by a Deeds.Goes_on su f = stop_by a Deeds.Goes_on refl su f.stopped.stage
      by a Deeds.Ends su f = stop_by a Deeds.Ends refl su f.stopped.stage
      by a (Deeds.Goes_in st q) su f = stop_by a (Deeds.Goes_in st q) refl su f.stopped.stage
      by a (Deeds.Moves to) su f = stop_by a (Deeds.Moves to) refl su f.stopped.stage

      pub halts_now : Halts (ls ++ l ∷ []) s' n.good
      halts_now = subst (λ (u : Outline). HaltsOf (λ t. stops t (ls ++ l ∷ [])) u.pos u.admitted) (sym (n.turn).is) (to_list (by l.act (n.turn).deed (n.turn).suits (n.turn).fits))

    halts_next : (ls : List Label) (s s' : State A F R J) (k : Good s) (l : Label) → Along.from_start kind owes b batches begins jobs some_host workers ls s → Halts ls s k → step kind.system workers s l ≡ Some s' → (n : Along.Follows kind owes b batches begins jobs some_host workers s s' k l) → Halts (ls ++ l ∷ []) s' n.good
    halts_next ls s s' k l r h e n = halts_now ls s s' k l r h e n

    pub record Halted (ls : List Label) (s : State A F R J) : Type 0 where
      pub good : Good s
      pub halts : Halts ls s good

    pub halting : (ls : List Label) (s : State A F R J) → run kind.system workers (start_state b batches) ls ≡ Some s → Halted ls s
    halting ls s e = by (Along.along kind owes b batches begins jobs some_host workers Halts halts_next first ls s e)
      where
        first : Halts [] (start_state b batches) (Along.first kind owes b batches begins jobs some_host workers)
        first = subst (λ (g : Shows.Ghost F). HaltsOf (λ t. 0) g.lines.pos g.lines.admitted) (sym (Reached.first_ghost kind owes b batches begins jobs some_host)) (record { each = λ t l m. absurd (apart b.before t l m); none = λ t l. refl })
          where
            apart : (a t : ℕ) → a < t → t ≤ a → ⊥
            apart a t l m = omega (arith, l, m)

        by : Along.Along kind owes b batches begins jobs some_host workers Halts halts_next ls s → Halted ls s
        by a = record { good = a.good; halts = a.holds }
