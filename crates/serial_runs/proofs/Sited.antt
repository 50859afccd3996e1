-- The fold has a context at one host for each number of times that it was sent on.
use Rattle.std.proofs.Common.{◌≡◌, ℕ, zero, suc, ◌+◌, ◌<◌, ◌≤◌, ◌⊎◌, inl, inr, nat_eq, Bool, true, false, Option, Some, None, List, refl, sym, ◌∙◌, ap, subst, arith}
use Rattle.std.specs.Prelude.{All, if◌then◌else◌}
use Rattle.wave_base.specs.declared.path.Path.{Path}
use Rattle.wave_base.specs.Paths.{path_eq}
use Rattle.wave_base.specs.Tree.{Tree, there}
use Rattle.wave_base.specs.Places.{with_move}
use Rattle.wave_states.specs.Kinds.{Kind}
use Rattle.wave_states.specs.Owes.{Owes, IsBegin}
use Rattle.wave_states.specs.Begins.{Begin, has_moved}
use Rattle.wave_states.specs.Alone.{job_after}
use Rattle.wave_theory.proofs.Basics.{options, clash, number_is, number_cases, path_cases}
use Rattle.wave_theory.proofs.Sites

module _ {A F R J : Type 0} (kind : Kind A F R J) (owes : Owes kind) (b : Begin F) (batches : List (List J)) (begins : IsBegin kind b) (jobs : All (All kind.is_job) batches) where
  abbrev pub places : ℕ → Tree ℕ
  places n = Sites.places kind owes b batches begins jobs n

  abbrev pub grown : ℕ → Tree ℕ
  grown n = Sites.grown kind owes b batches begins jobs n

  abbrev pub shifts : Path → ℕ → ℕ
  shifts p n = Sites.shifts kind owes b batches begins jobs p n

  abbrev shift : Path → ℕ → ℕ
  shift p n = Sites.shift kind owes b batches begins jobs p n

  -- a job that does not send it on leaves it where it found it
  still : (n : ℕ) (p : Path) → shift p n ≡ 0 → (places (suc n)).fields p ≡ (grown n).fields p
  still n p z = elim (options (job_after kind.system b batches n)) [
    | inl e ↦ ap (λ (v : Tree ℕ). v.fields p) (Sites.places_next kind owes b batches begins jobs n) ∙ ap (λ o. (with_move (grown n) (Sites.move_by kind owes b batches begins jobs n o)).fields p) e
    | inr j ↦ by j.0 j.1 (kind.system.moved (Sites.ran kind owes b batches begins jobs n j.0).result) refl
  ]
    where
      by : (j : J) → job_after kind.system b batches n ≡ Some j → (m : Option (Path × ℕ)) → kind.system.moved (Sites.ran kind owes b batches begins jobs n j).result ≡ m → (places (suc n)).fields p ≡ (grown n).fields p
      by j e None m = (Sites.elsewhere kind owes b batches begins jobs n j e p (λ h f. none_some (sym m ∙ f))).0
        where
          none_some : {X : Type 0} {x : X} → None ≡ Some x → ⊥
          none_some q = Rattle.wave_theory.proofs.Basics.none_not q
      by j e (Some x) m = elim (path_cases x.0 p) [
        | inr d ↦ (Sites.elsewhere kind owes b batches begins jobs n j e p (λ h f. apart x h d (Rattle.wave_theory.proofs.Basics.some_same x (p, h) (sym m ∙ f)))).0
        | inl d ↦ (let y = Sites.moved_there kind owes b batches begins jobs n j e p x.1 (m ∙ ap Some (λ i. (d i, x.1))) in y.0 ∙ sym (same _ _ (sym y.1 ∙ z)))
      ]
        where
          apart : (x : Path × ℕ) (h : ℕ) → path_eq x.0 p ≡ false → x ≡ (p, h) → ⊥
          apart x h d e = clash _ (subst (λ q. path_eq q p ≡ true) (sym (ap (λ (u : Path × ℕ). u.0) e)) (Rattle.wave_theory.proofs.Basics.path_self p)) d

          same : (a h : ℕ) → ◌≡◌ {A = ℕ} (if nat_eq a h then 0 else 1) 0 → a ≡ h
          same a h e = elim (number_cases a h) [ inl q ↦ q | inr q ↦ absurd (let g : Bool → ℕ = λ i. if i then 0 else 1 in one_zero (sym (ap g q) ∙ e)) ]
            where
              one_zero : ◌≡◌ {A = ℕ} 1 0 → ⊥
              one_zero e = omega (arith, e)

  shifts_more : (d m : ℕ) (p : Path) → shifts p m ≤ shifts p (d + m)
  shifts_more zero m p = subst (λ n. shifts p m ≤ shifts p n) (let z : m ≡ 0 + m = omega arith in z) (upto (shifts p m))
    where
      upto : (n : ℕ) → n ≤ n
      upto n = omega arith
  shifts_more (suc d) m p = (let l = shifts_more d m p in let e = Sites.shifts_next kind owes b batches begins jobs (d + m) p in let z : suc (d + m) ≡ suc d + m = omega arith in
      subst (λ n. shifts p m ≤ shifts p n) z (over _ _ _ _ l e))
    where
      over : (a c s t : ℕ) → a ≤ c → t ≡ c + s → a ≤ t
      over a c s t l e = omega (arith, l, e)

  keeps : (d m : ℕ) (p : Path) → there (places m) p ≡ true → shifts p (d + m) ≡ shifts p m → (grown (d + m)).fields p ≡ (places m).fields p
  keeps zero m p th e = (let z : 0 + m ≡ m = omega arith in ap (λ n. (grown n).fields p) z ∙ Sites.grown_old kind owes b batches begins jobs m p th)
  keeps (suc d) m p th e =
      let z : suc d + m ≡ suc (d + m) = omega arith in
      let l = shifts_more d m p in
      let n = Sites.shifts_next kind owes b batches begins jobs (d + m) p in
      let q = between _ _ _ _ l n (sym (ap (shifts p) z) ∙ e) in
      ap (λ n. (grown n).fields p) z ∙ Sites.grown_old kind owes b batches begins jobs (suc (d + m)) p (subst (λ n. there (places n) p ≡ true) z (Sites.there_later kind owes b batches begins jobs (suc d) m p th)) ∙ still (d + m) p q.1 ∙ keeps d m p th q.0
    where
      between : (a c s t : ℕ) → a ≤ c → t ≡ c + s → t ≡ a → (c ≡ a) × (s ≡ 0)
      between a c s t l e f = (omega (arith, l, e, f), omega (arith, l, e, f))

  -- two jobs that find it sent on as often find it at one host
  ordered : (m n : ℕ) (p : Path) → m < n → there (places (suc m)) p ≡ true → shifts p m ≡ shifts p n → (grown m).fields p ≡ (grown n).fields p
  ordered m n p l th e =
      let d = difference (suc m) n (up m n l) in
      let a = shifts_more d.0 (suc m) p in
      let s = Sites.shifts_next kind owes b batches begins jobs m p in
      let q = between _ _ _ _ s (subst (λ i. shifts p (suc m) ≤ shifts p i) (sym d.1) a) e in
      sym (still m p q.1) ∙ sym (keeps d.0 (suc m) p th (ap (shifts p) (sym d.1) ∙ sym e ∙ q.0)) ∙ ap (λ i. (grown i).fields p) (sym d.1)
    where
      between : (a c s t : ℕ) → t ≡ a + s → t ≤ c → a ≡ c → (a ≡ t) × (s ≡ 0)
      between a c s t e l f = (omega (arith, l, e, f), omega (arith, l, e, f))

      up : (a n : ℕ) → a < n → suc a ≤ n
      up a n q = omega (arith, q)

      difference : (a n : ℕ) → a ≤ n → (d : ℕ) × (n ≡ d + a)
      difference zero n l = (n, omega arith)
      difference (suc a) zero l = absurd (omega (arith, l))
      difference (suc a) (suc n) l = (let r = difference a n (omega (arith, l)) in (r.0, omega (arith, r.1)))

  pub one_site : (m n : ℕ) (p : Path) → there (places (suc m)) p ≡ true → there (places (suc n)) p ≡ true → shifts p m ≡ shifts p n → (grown m).fields p ≡ (grown n).fields p
  one_site m n p tm tn e = elim (compare m n) [
    | inl q ↦ ap (λ i. (grown i).fields p) q
    | inr q ↦ elim q [
      | inl l ↦ ordered m n p l tm e
      | inr l ↦ sym (ordered n m p l tn (sym e))
    ]
  ]
    where
      compare : (a b : ℕ) → (a ≡ b) ⊎ ((a < b) ⊎ (b < a))
      compare a b = grind arith

  -- Where a context was before it was sent on for the last time: at host 0 where the run begins with the root elsewhere; or where the
  -- job after n others found it.
  pub record Stood (host i : ℕ) (p : Path) : Type 0 where
    pub index : ℕ
    pub there_then : there (places (suc index)) p ≡ true
    pub host_is : host ≡ (grown index).fields p
    pub often : i ≡ shifts p index

  abbrev pub Seen : ℕ → ℕ → Path → Type 0
  Seen host i p = ((has_moved b p ≡ true) × (i ≡ 0) × (host ≡ 0)) ⊎ Stood host i p

  pub one_seen : (h g i : ℕ) (p : Path) → Seen h i p → Seen g i p → h ≡ g
  one_seen h g i p (inl x) (inl y) = x.2 ∙ sym y.2
  one_seen h g i p (inl x) (inr y) = absurd (never (has_moved b p) _ x.0 (sym y.often ∙ x.1))
    where
      never : (m : Bool) (n : ℕ) → m ≡ true → (if m then 1 else 0) + n ≡ 0 → ⊥
      never m n e f = (let z : 1 + n ≡ 0 = ap (λ u. (if u then 1 else 0) + n) (sym e) ∙ f in omega (arith, z))
  one_seen h g i p (inr x) (inl y) = absurd (never (has_moved b p) _ y.0 (sym x.often ∙ y.1))
    where
      never : (m : Bool) (n : ℕ) → m ≡ true → (if m then 1 else 0) + n ≡ 0 → ⊥
      never m n e f = (let z : 1 + n ≡ 0 = ap (λ u. (if u then 1 else 0) + n) (sym e) ∙ f in omega (arith, z))
  one_seen h g i p (inr x) (inr y) = x.host_is ∙ one_site x.index y.index p x.there_then y.there_then (sym x.often ∙ y.often) ∙ sym y.host_is
