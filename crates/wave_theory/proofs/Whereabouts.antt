-- Each label keeps what is noted of where each context was.
use Rattle.std.proofs.Common.{◌≡◌, ℕ, suc, ◌<◌, nat_eq, inl, inr, Bool, true, false, Option, Some, None, is_some, List, [], ◌∷◌, ◌++◌, refl, sym, ◌∙◌, ap, ap₂, subst, arith}
use Rattle.std.specs.Prelude.{All, if◌then◌else◌, is_none}
use Rattle.wave_base.specs.declared.path.Path.{Path}
use Rattle.wave_base.specs.Paths.{path_eq}
use Rattle.wave_states.specs.States.{State, Column, Entry, Mark, set}
use Rattle.wave_states.specs.Labels.{Act, Label, Queue, Stop, ticket_of, path_of}
use Rattle.wave_states.specs.Begins.{Begin, start_state}
use Rattle.wave_states.specs.Kinds.{Kind}
use Rattle.wave_states.specs.Owes.{Owes, IsBegin}
use Rattle.wave_states.specs.Owners.{IsOwner, trail_by, trail_from, first_trail, born_at, to_of}
use Rattle.wave_states.specs.Steps.{step}
use Rattle.wave_theory.proofs.Basics.{clash, options, path_cases, path_self, set_at, set_there, set_at_path, differ}
use Rattle.wave_theory.proofs.Order.{Way}
use Rattle.wave_theory.proofs.Leaves.{Course}
use Rattle.wave_theory.proofs.Paths.{child_differs}
use Rattle.wave_theory.proofs.Tracks.{Trail, owner, sent_on, arrived, born}
use Rattle.wave_theory.proofs.Courses
use Rattle.wave_theory.proofs.Shows
use Rattle.wave_theory.proofs.Deeds.{Outline, outline, Deed, done_by, Suits}
use Rattle.wave_theory.proofs.Deeds
use Rattle.wave_theory.proofs.Forms.{queue_form, stop_form, ends_segment, leaves_trails, trail_stays}
use Rattle.wave_theory.proofs.Hosts
use Rattle.wave_theory.proofs.Told
use Rattle.wave_theory.proofs.GoodStates.{Good_state}
use Rattle.wave_theory.proofs.Along
use Rattle.wave_theory.specs.Owners.{OwnerTakes}
use Rattle.wave_theory.proofs.Arrivals.{hosts_of, hosts_sent, list_of}
use Rattle.wave_theory.proofs.Arrivals

module _ {A F R J : Type 0} (kind : Kind A F R J) (owes : Owes kind) (b : Begin F) (batches : List (List J)) (begins : IsBegin kind b) (jobs : All (All kind.is_job) batches) where
  abbrev w : Way
  w = Courses.w kind owes b batches begins jobs

  abbrev course : Course kind.system
  course = Courses.course kind owes b batches begins jobs

  abbrev Is_real : ℕ → Type 0
  Is_real = Courses.Real kind owes b batches begins jobs

  abbrev Good : State A F R J → Type 0
  Good s = Good_state kind owes b batches begins jobs s

  module _ (some_host : 0 < kind.hosts) (workers : ℕ) where
    abbrev Noted : (ls : List Label) (s : State A F R J) (k : Good s) → Type 0
    Noted = Arrivals.Noted kind owes b batches begins jobs some_host workers

    module _ (ls : List Label) (s s' : State A F R J) (k : Good s) (l : Label) (r : Along.from_start kind owes b batches begins jobs some_host workers ls s) (h : Noted ls s k) (e : step kind.system workers s l ≡ Some s') (n : Along.Follows kind owes b batches begins jobs some_host workers s s' k l) where
      abbrev g : Shows.Ghost F
      g = k.ghost

      abbrev o : Outline
      o = outline k.ghost

      -- where the contexts were
      takes : OwnerTakes kind s s' l.act l.host
      takes = Hosts.by_owners kind owes b batches begins jobs s k workers l s' e

      abbrev next_trail : Act → Path → List ℕ → List ℕ
      next_trail a p tr = if path_eq (path_of a) p then trail_by tr a l.host (s'.columns p) else tr

      elsewhere : (a : Act) (p : Path) (tr : List ℕ) → path_eq (path_of a) p ≡ false → next_trail a p tr ≡ tr
      elsewhere a p tr d = ap (λ i. if i then trail_by tr a l.host (s'.columns p) else tr) d

      plain : (d : Deed) → leaves_trails d ≡ true → Suits l.act d → (p : Path) (tr : List ℕ) → next_trail l.act p tr ≡ tr
      plain d q su p tr = by (path_eq (path_of l.act) p)
        where
          by : (i : Bool) → (if i then trail_by tr l.act l.host (s'.columns p) else tr) ≡ tr
          by true = trail_stays l.act d q su tr l.host (s'.columns p)
          by false = refl

      store_some : (c : Column F) (h : ℕ) (tr : List ℕ) (t : ℕ) (p : Path) → is_some (c.store h) ≡ true → trail_by tr (Stop t p) h c ≡ tr
      store_some c h tr t p q = by (c.store h) q
        where
          by : (o : Option (Rattle.wave_states.specs.States.Entry F)) → is_some o ≡ true → (if is_none o then tr ++ to_of (c.gone h) else tr) ≡ tr
          by (Some x) q = refl
          by None q = absurd (clash false q refl)

      store_none : (c : Column F) (h : ℕ) (tr : List ℕ) (t : ℕ) (p : Path) (m : Mark) → c.store h ≡ None → c.gone h ≡ Some m → trail_by tr (Stop t p) h c ≡ tr ++ m.to ∷ []
      store_none c h tr t p m q z = ap (λ o. if is_none o then tr ++ to_of (c.gone h) else tr) q ∙ ap (λ o. tr ++ to_of o) z

      column_now : (p : Path) → ((n.good).ghost).born p ≡ true → Shows.Stays kind.system w course b.before Is_real (n.good).ghost p (s'.columns p)
      column_now p q = subst (λ i. Shows.ColumnShows kind.system w course b.before Is_real i (n.good).ghost p (s'.columns p)) q ((n.good).shows.columns p)

      -- a Stop that leaves its context where it is
      stop_stays : (d : Deed) → ends_segment d ≡ true → (n.turn).deed ≡ d → Suits l.act d → Deeds.Stopped kind.system w course b.before Is_real k.ghost (ticket_of l.act) (path_of l.act) → ((n.good).ghost).trail (path_of l.act) ≡ (g).trail (path_of l.act) → ((n.good).ghost).born (path_of l.act) ≡ true → (p : Path) (tr : List ℕ) → next_trail l.act p tr ≡ tr
      stop_stays d q x su f same bo p tr = elim (path_cases (path_of l.act) p) [
        | inr z ↦ elsewhere l.act p tr z
        | inl z ↦ subst (λ u. next_trail l.act u tr ≡ tr) z (ap (λ i. if i then trail_by tr l.act l.host (s'.columns (path_of l.act)) else tr) (path_self (path_of l.act)) ∙ by (stop_form l.act d q su))
      ]
        where
          by : (t : ℕ) × (p : Path) × (l.act ≡ Stop t p) → trail_by tr l.act l.host (s'.columns (path_of l.act)) ≡ tr
          by a = (let own : IsOwner s a.1 l.host = (subst (λ u. OwnerTakes kind s s' u l.host) a.2 takes).0 in
              let at : l.host ≡ owner ((g).trail (path_of l.act)) = Told.owner_is kind owes b batches begins jobs s k a.1 l.host own ∙ ap (λ u. owner ((g).trail (path_of u))) (sym a.2) in
              let some : is_some ((s'.columns (path_of l.act)).store l.host) ≡ true = ap (λ i. is_some ((s'.columns (path_of l.act)).store i)) (at ∙ ap owner (sym same)) ∙ (column_now (path_of l.act) bo).track.stored_is (ap (λ (u : Trail). u.stored) same ∙ f.stored) in
              subst (λ u. trail_by tr u l.host (s'.columns (path_of l.act)) ≡ tr) (sym a.2) (store_some (s'.columns (path_of l.act)) l.host tr a.0 a.1 some))

      abbrev list_at : Path → List ℕ
      list_at p = list_of ((g).born p) ((g).trail p)

      outline_by : (d : Deed) → (n.turn).deed ≡ d → outline (n.good).ghost ≡ done_by w o (ticket_of l.act) (path_of l.act) d
      outline_by d q = (n.turn).is ∙ ap (done_by w o (ticket_of l.act) (path_of l.act)) q

      traced_by : (d : Deed) → (n.turn).deed ≡ d → Suits l.act d → Deeds.Fits kind.system w course b.before Is_real s k.ghost (n.good).ghost (ticket_of l.act) (path_of l.act) d → (p : Path) →
          next_trail l.act p (list_at p) ≡ list_of ((done_by w o (ticket_of l.act) (path_of l.act) d).births p) ((done_by w o (ticket_of l.act) (path_of l.act) d).trail p)
      traced_by Deeds.Admits q su f p = plain Deeds.Admits refl su p (list_at p)
      traced_by Deeds.Lets_in q su f p = plain Deeds.Lets_in refl su p (list_at p)
      traced_by Deeds.Arrives q su f p = plain Deeds.Arrives refl su p (list_at p)
      traced_by Deeds.Rests q su f p = plain Deeds.Rests refl su p (list_at p)
      traced_by Deeds.Lands q su f p = plain Deeds.Lands refl su p (list_at p) ∙ (elim (path_cases (path_of l.act) p) [
        | inr z ↦ sym (ap (list_of ((g).born p)) (set_there path_eq (g).trail (path_of l.act) _ p z))
        | inl z ↦ subst (λ u. list_at u ≡ list_of ((g).born u) (set path_eq (g).trail (path_of l.act) (arrived ((g).trail (path_of l.act))) u)) z (same ((g).born (path_of l.act)) ∙ sym (ap (list_of ((g).born (path_of l.act))) (set_at_path (g).trail (path_of l.act) _)))
      ])
        where
          same : (i : Bool) → list_of i ((g).trail (path_of l.act)) ≡ list_of i (arrived ((g).trail (path_of l.act)))
          same true = refl
          same false = refl
      traced_by Deeds.Goes_on q su f p = stop_stays Deeds.Goes_on refl q su f.stopped (ap (λ (u : Outline). u.trail (path_of l.act)) (outline_by Deeds.Goes_on q)) (ap (λ (u : Outline). u.births (path_of l.act)) (outline_by Deeds.Goes_on q) ∙ f.stopped.born) p (list_at p)
      traced_by Deeds.Ends q su f p = stop_stays Deeds.Ends refl q su f.stopped (ap (λ (u : Outline). u.trail (path_of l.act)) (outline_by Deeds.Ends q)) (ap (λ (u : Outline). u.births (path_of l.act)) (outline_by Deeds.Ends q) ∙ f.stopped.born) p (list_at p)
      traced_by (Deeds.Goes_in st r₀) q su f p = stop_stays (Deeds.Goes_in st r₀) refl q su f.stopped (ap (λ (u : Outline). u.trail (path_of l.act)) (outline_by (Deeds.Goes_in st r₀) q) ∙ set_there path_eq (g).trail (path_of l.act ++ st ∷ []) r₀ (path_of l.act) (child_differs (path_of l.act) st)) (ap (λ (u : Outline). u.births (path_of l.act)) (outline_by (Deeds.Goes_in st r₀) q) ∙ f.stopped.born) p (list_at p) ∙ (elim (path_cases (path_of l.act ++ st ∷ []) p) [
        | inr z ↦ sym (ap (list_of ((g).born p)) (set_there path_eq (g).trail (path_of l.act ++ st ∷ []) r₀ p z))
        | inl z ↦ subst (λ u. list_at u ≡ list_of ((g).born u) (set path_eq (g).trail (path_of l.act ++ st ∷ []) r₀ u)) z ((elim f.trail [
          | inl y ↦ ap (list_of ((g).born (path_of l.act ++ st ∷ []))) (sym y.2)
          | inr y ↦ ap (λ i. list_of i ((g).trail (path_of l.act ++ st ∷ []))) y.2 ∙ sym (ap (λ i. list_of i r₀) y.2)
        ]) ∙ sym (ap (list_of ((g).born (path_of l.act ++ st ∷ []))) (set_at_path (g).trail (path_of l.act ++ st ∷ []) r₀)))
      ])
      traced_by Deeds.Lines_up q su f p = elim (path_cases (path_of l.act) p) [
        | inr z ↦ elsewhere l.act p (list_at p) z ∙ sym (ap₂ list_of (set_there path_eq (g).born (path_of l.act) true p z) (set_there path_eq (g).trail (path_of l.act) _ p z))
        | inl z ↦ subst (λ u. next_trail l.act u (list_at u) ≡ list_of (set path_eq (g).born (path_of l.act) true u) (set path_eq (g).trail (path_of l.act) (Deeds.grown ((g).born (path_of l.act)) ((g).trail (path_of l.act))) u)) z
            (ap (λ i. if i then trail_by (list_at (path_of l.act)) l.act l.host (s'.columns (path_of l.act)) else list_at (path_of l.act)) (path_self (path_of l.act)) ∙ by (queue_form l.act su) ((g).born (path_of l.act)) refl ∙ sym (ap₂ list_of (set_at_path (g).born (path_of l.act) true) (set_at_path (g).trail (path_of l.act) _)))
      ]
        where
          by : (t i : ℕ) × (p : Path) × (l.act ≡ Queue t i p) → (j : Bool) → (g).born (path_of l.act) ≡ j → trail_by (list_at (path_of l.act)) l.act l.host (s'.columns (path_of l.act)) ≡ hosts_of (Deeds.grown ((g).born (path_of l.act)) ((g).trail (path_of l.act)))
          by a j d = ap (λ u. trail_by (list_at (path_of l.act)) u l.host (s'.columns (path_of l.act))) a.3 ∙ ap (λ i. born_at (list_of i ((g).trail (path_of l.act))) l.host) d ∙ at_born j d ∙ sym (ap (λ i. hosts_of (Deeds.grown i ((g).trail (path_of l.act)))) d)
            where
              at_born : (j : Bool) → (g).born (path_of l.act) ≡ j → born_at (list_of j ((g).trail (path_of l.act))) l.host ≡ hosts_of (Deeds.grown j ((g).trail (path_of l.act)))
              at_born true d = refl
              at_born false d = (let own : IsOwner s' a.2 l.host = subst (λ u. OwnerTakes kind s s' u l.host) a.3 takes in
                  let trail_is : ((n.good).ghost).trail (path_of l.act) ≡ born ((g).trail (path_of l.act)) = ap (λ (u : Outline). u.trail (path_of l.act)) (outline_by Deeds.Lines_up q) ∙ set_at_path (g).trail (path_of l.act) _ ∙ ap (λ i. Deeds.grown i ((g).trail (path_of l.act))) d in
                  ap (λ i. i ∷ []) (Told.owner_is kind owes b batches begins jobs s' (n.good) a.2 l.host own ∙ ap (λ u. owner (((n.good).ghost).trail (path_of u))) (sym a.3) ∙ ap owner trail_is))
      traced_by (Deeds.Moves to) q su f p = elim (path_cases (path_of l.act) p) [
        | inr z ↦ elsewhere l.act p (list_at p) z ∙ sym (ap (list_of ((g).born p)) (set_there path_eq (g).trail (path_of l.act) _ p z))
        | inl z ↦ subst (λ u. next_trail l.act u (list_at u) ≡ list_of ((g).born u) (set path_eq (g).trail (path_of l.act) (sent_on ((g).trail (path_of l.act)) to) u)) z
            (ap (λ i. if i then trail_by (list_at (path_of l.act)) l.act l.host (s'.columns (path_of l.act)) else list_at (path_of l.act)) (path_self (path_of l.act)) ∙ by (stop_form l.act (Deeds.Moves to) refl su)
            ∙ sym (ap₂ list_of f.stopped.born (set_at_path (g).trail (path_of l.act) _) ∙ hosts_sent ((g).trail (path_of l.act)) to ∙ ap (λ i. list_of i ((g).trail (path_of l.act)) ++ to ∷ []) (sym f.stopped.born)))
      ]
        where
          trail_is : ((n.good).ghost).trail (path_of l.act) ≡ sent_on ((g).trail (path_of l.act)) to
          trail_is = ap (λ (u : Outline). u.trail (path_of l.act)) (outline_by (Deeds.Moves to) q) ∙ set_at_path (g).trail (path_of l.act) _

          born_is : ((n.good).ghost).born (path_of l.act) ≡ true
          born_is = ap (λ (u : Outline). u.births (path_of l.act)) (outline_by (Deeds.Moves to) q) ∙ f.stopped.born

          track : Rattle.wave_theory.proofs.Tracks.Track (s'.columns (path_of l.act)) (sent_on ((g).trail (path_of l.act)) to)
          track = subst (Rattle.wave_theory.proofs.Tracks.Track (s'.columns (path_of l.act))) trail_is (column_now (path_of l.act) born_is).track

          last_at : set nat_eq ((g).trail (path_of l.act)).at (suc ((g).trail (path_of l.act)).last) to ((g).trail (path_of l.act)).last ≡ owner ((g).trail (path_of l.act))
          last_at = set_there nat_eq ((g).trail (path_of l.act)).at (suc ((g).trail (path_of l.act)).last) to ((g).trail (path_of l.act)).last (differ (suc ((g).trail (path_of l.act)).last) ((g).trail (path_of l.act)).last (λ e. never _ e))
            where
              never : (a : ℕ) → suc a ≡ a → ⊥
              never a e = omega (arith, e)

          no_store : (c : ℕ) → (s'.columns (path_of l.act)).store c ≡ None
          no_store c = elim (options ((s'.columns (path_of l.act)).store c)) [ inl z ↦ z | inr z ↦ absurd (clash _ (track.store_is c (ap is_some z.1)).0 refl) ]

          marked : (c : ℕ) → c ≡ owner ((g).trail (path_of l.act)) → (m : Mark) × ((s'.columns (path_of l.act)).gone c ≡ Some m) × (m.to ≡ to)
          marked c z = elim (options ((s'.columns (path_of l.act)).gone c)) [
            | inl x ↦ absurd (elim (track.no_mark c x) [
              | inl y ↦ clash _ y.0 refl
              | inr y ↦ y ((g).trail (path_of l.act)).last (under _) (last_at ∙ sym z)
            ])
            | inr x ↦ (let m = track.mark_is c x.0 x.1 in
                let same : m.0 ≡ ((g).trail (path_of l.act)).last = latest m.0 _ m.1 (λ i. m.5 ((g).trail (path_of l.act)).last i (under _) (last_at ∙ sym z)) in
                (x.0, x.1, m.4 ∙ ap (λ i. set nat_eq ((g).trail (path_of l.act)).at (suc ((g).trail (path_of l.act)).last) to (suc i)) same ∙ set_at ((g).trail (path_of l.act)).at (suc ((g).trail (path_of l.act)).last) to))
          ]
            where
              under : (a : ℕ) → a < suc a
              under a = omega arith

              latest : (a c : ℕ) → a < suc c → (a < c → ⊥) → a ≡ c
              latest a c l n = grind arith

          by : (t : ℕ) × (p : Path) × (l.act ≡ Stop t p) → trail_by (list_at (path_of l.act)) l.act l.host (s'.columns (path_of l.act)) ≡ list_at (path_of l.act) ++ to ∷ []
          by a = (let own : IsOwner s a.1 l.host = (subst (λ u. OwnerTakes kind s s' u l.host) a.2 takes).0 in
              let at : l.host ≡ owner ((g).trail (path_of l.act)) = Told.owner_is kind owes b batches begins jobs s k a.1 l.host own ∙ ap (λ u. owner ((g).trail (path_of u))) (sym a.2) in
              let m = marked l.host at in
              ap (λ u. trail_by (list_at (path_of l.act)) u l.host (s'.columns (path_of l.act))) a.2 ∙ store_none (s'.columns (path_of l.act)) l.host (list_at (path_of l.act)) a.0 a.1 m.0 (no_store l.host) m.1 ∙ ap (λ i. list_at (path_of l.act) ++ i ∷ []) m.2)

      pub trace_next : (p : Path) → trail_from kind.system workers p (first_trail b p) (Some (start_state b batches)) (ls ++ l ∷ []) ≡ list_of (((n.good).ghost).born p) (((n.good).ghost).trail p)
      trace_next p = Arrivals.trail_more kind.system workers p (first_trail b p) ls (start_state b batches) s s' l r e ∙ ap (next_trail l.act p) (h.trace p) ∙ traced_by (n.turn).deed refl (n.turn).suits (n.turn).fits p ∙ sym (ap (λ (u : Outline). list_of (u.births p) (u.trail p)) (n.turn).is)
