-- The fold gives each known job its place, and each place comes from one origin.
use Rattle.std.proofs.Common.{◌≡◌, ℕ, zero, suc, ◌+◌, ◌-◌, ◌<◌, ◌≤◌, ◌⊎◌, inl, inr, nat_lt, Bool, true, false, Option, Some, None, List, [], ◌∷◌, ◌++◌, length, refl, sym, ◌∙◌, ap, ap₂, subst, arith}
use Rattle.std.specs.Prelude.{if◌then◌else◌, slice_get, option_and_then, unwrap_or}
use Rattle.std.proofs.lemmas.List.{append_assoc}
use Rattle.wave_base.specs.Fold.{Head, Progress, next_batch, begun, with_job, next_job}
use Rattle.wave_states.specs.Kinds.{Kind}
use Rattle.wave_states.specs.States.{State}
use Rattle.wave_states.specs.Begins.{Begin}
use Rattle.wave_states.specs.Alone.{fold_alone, run_alone}
use Rattle.wave_theory.specs.Results.{Results, Tickets}
use Rattle.wave_theory.proofs.Basics.{none_not, some_same, then_some}
use Rattle.serial_runs.specs.Origins.{Origin, Line, Created, line_at, created_at, IsFrom, Origins}

-- lists, by their places
pub get_left : {X : Type 0} (xs ys : List X) (i : ℕ) (x : X) → slice_get xs i ≡ Some x → slice_get (xs ++ ys) i ≡ Some x
get_left [] ys i x e = absurd (none_not e)
get_left (z ∷ xs) ys zero x e = e
get_left (z ∷ xs) ys (suc i) x e = get_left xs ys i x e

get_right : {X : Type 0} (xs ys : List X) (d : ℕ) (x : X) → slice_get ys d ≡ Some x → slice_get (xs ++ ys) (length xs + d) ≡ Some x
get_right [] ys d x e = subst (λ i. slice_get ys i ≡ Some x) (let z : d ≡ 0 + d = omega arith in z) e
get_right (z ∷ xs) ys d x e = subst (λ i. slice_get (z ∷ xs ++ ys) i ≡ Some x) (let q : suc (length xs + d) ≡ suc (length xs) + d = omega arith in q) (get_right xs ys d x e)

get_either : {X : Type 0} (xs ys : List X) (i : ℕ) (x : X) → slice_get (xs ++ ys) i ≡ Some x → (slice_get xs i ≡ Some x) ⊎ ((d : ℕ) × (i ≡ length xs + d) × (slice_get ys d ≡ Some x))
get_either [] ys i x e = inr (i, omega arith, e)
get_either (z ∷ xs) ys zero x e = inl e
get_either (z ∷ xs) ys (suc i) x e = elim (get_either xs ys i x e) [ inl y ↦ inl y | inr y ↦ inr (y.0, omega (arith, y.1), y.2) ]

get_within : {X : Type 0} (xs : List X) (i : ℕ) (x : X) → slice_get xs i ≡ Some x → i < length xs
get_within [] i x e = absurd (none_not e)
get_within (z ∷ xs) zero x e = omega arith
get_within (z ∷ xs) (suc i) x e = (let l = get_within xs i x e in omega (arith, l))

get_some : {X : Type 0} (xs : List X) (i : ℕ) → i < length xs → (x : X) × (slice_get xs i ≡ Some x)
get_some [] i l = absurd (omega (arith, l))
get_some (z ∷ xs) zero l = (z, refl)
get_some (z ∷ xs) (suc i) l = get_some xs i (omega (arith, l))

long_append : {X : Type 0} (xs ys : List X) → length (xs ++ ys) ≡ length xs + length ys
long_append [] ys = omega arith
long_append (z ∷ xs) ys = (let e = long_append xs ys in omega (arith, e))

-- so many origins, by number
abbrev tags : (ℕ → Origin) → ℕ → ℕ → List Origin
tags f a zero = []
tags f a (suc n) = f a ∷ tags f (suc a) n

long_tags : (f : ℕ → Origin) (a n : ℕ) → length (tags f a n) ≡ n
long_tags f a zero = refl
long_tags f a (suc n) = ap suc (long_tags f (suc a) n)

get_tag : (f : ℕ → Origin) (a n i : ℕ) → i < n → slice_get (tags f a n) i ≡ Some (f (a + i))
get_tag f a zero i l = absurd (omega (arith, l))
get_tag f a (suc n) zero l = ap (λ m. Some (f m)) (let z : a ≡ a + 0 = omega arith in z)
get_tag f a (suc n) (suc i) l = get_tag f (suc a) n i (omega (arith, l)) ∙ ap (λ m. Some (f m)) (let z : suc a + i ≡ a + suc i = omega arith in z)

tag_is : (f : ℕ → Origin) (n i : ℕ) (o : Origin) → slice_get (tags f 0 n) i ≡ Some o → (i < n) × (o ≡ f i)
tag_is f n i o e =
    let l : i < n = subst (λ m. i < m) (long_tags f 0 n) (get_within (tags f 0 n) i o e) in
    (l, some_same o (f i) (sym e ∙ get_tag f 0 n i l ∙ ap (λ m. Some (f m)) (let z : 0 + i ≡ i = omega arith in z)))

-- origins differ by their numbers
abbrev place_in : Origin → ℕ
place_in (Line x y) = y
place_in (Created t k) = k

-- Known jobs and their origins, where a relation says which job may come from where.
record Block {J : Type 0} (From : Origin → ℕ → J → Type 0) (known : List J) (os : List Origin) : Type 0 where
  as_many : length os ≡ length known
  from : (i : ℕ) (o : Origin) (j : J) → slice_get os i ≡ Some o → slice_get known i ≡ Some j → From o i j
  once : (i k : ℕ) (o : Origin) → slice_get os i ≡ Some o → slice_get os k ≡ Some o → i ≡ k

module _ {J : Type 0} (From From' : Origin → ℕ → J → Type 0) (more : (o : Origin) (i : ℕ) (j : J) → From o i j → From' o i j) where
  -- some jobs more, from new origins
  add : (known : List J) (os : List Origin) (js : List J) (f : ℕ → Origin) → Block From known os → ((i k : ℕ) → f i ≡ f k → i ≡ k) → ((d i : ℕ) (j : J) → From (f d) i j → ⊥) →
      ((d : ℕ) (j : J) → slice_get js d ≡ Some j → From' (f d) (length known + d) j) → Block From' (known ++ js) (os ++ tags f 0 (length js))
  add known os js f h apart new there = record {
    as_many = long_append os (tags f 0 (length js)) ∙ ap₂ (λ a c. a + c) h.as_many (long_tags f 0 (length js)) ∙ sym (long_append known js);
    from = λ i o j e z. elim (get_either os (tags f 0 (length js)) i o e) [
      | inl y ↦ (let x = known_at i o y in more o i j (subst (From o i) (some_same x.0 j (sym (get_left known js i x.0 x.1) ∙ z)) (h.from i o x.0 y x.1)))
      | inr y ↦ (let t = tag_is f (length js) y.0 o y.2 in
          let x = get_some js y.0 t.0 in
          let at : i ≡ length known + y.0 = y.1 ∙ ap (λ n. n + y.0) h.as_many in
          subst (λ u. From' u i j) (sym t.1) (subst (λ n. From' (f y.0) n j) (sym at) (there y.0 j (x.1 ∙ ap Some (some_same x.0 j (sym (get_right known js y.0 x.0 x.1) ∙ ap (slice_get (known ++ js)) (sym at) ∙ z))))))
    ];
    once = λ i k o e z. elim (get_either os (tags f 0 (length js)) i o e) [
      | inl y ↦ elim (get_either os (tags f 0 (length js)) k o z) [
        | inl x ↦ h.once i k o y x
        | inr x ↦ absurd (not_new i o y x.0 (tag_is f (length js) x.0 o x.2).1)
      ]
      | inr y ↦ elim (get_either os (tags f 0 (length js)) k o z) [
        | inl x ↦ absurd (not_new k o x y.0 (tag_is f (length js) y.0 o y.2).1)
        | inr x ↦ y.1 ∙ ap (λ n. length os + n) (apart y.0 x.0 (sym (tag_is f (length js) y.0 o y.2).1 ∙ (tag_is f (length js) x.0 o x.2).1)) ∙ sym x.1
      ]
    ];
  }
    where
      known_at : (i : ℕ) (o : Origin) → slice_get os i ≡ Some o → (j : J) × (slice_get known i ≡ Some j)
      known_at i o e = get_some known i (subst (λ n. i < n) h.as_many (get_within os i o e))

      not_new : (i : ℕ) (o : Origin) → slice_get os i ≡ Some o → (d : ℕ) → o ≡ f d → ⊥
      not_new i o e d q = (let x = known_at i o e in new d i x.0 (subst (λ u. From u i x.0) q (h.from i o x.0 e x.1)))

module _ {A F R J : Type 0} (kind : Kind A F R J) (b : Begin F) (batches : List (List J)) where
  abbrev at : ℕ → Progress F R J
  at n = fold_alone kind.system b batches n

  -- what the job after u others created, by the results
  abbrev made_at : List R → ℕ → ℕ → Option J
  made_at rs u k = option_and_then (λ r. slice_get (kind.system.created r) k) (slice_get rs u)

  abbrev From : List R → List (List J) → Origin → ℕ → J → Type 0
  From rs began (Line x y) i j = line_at began x y ≡ Some j
  From rs began (Created t k) i j = (u : ℕ) × (t ≡ suc b.before + u) × (u < i) × (made_at rs u k ≡ Some j)

  record Sourced (h : Head J) (rs : List R) : Type 0 where
    began : List (List J)
    cut : batches ≡ began ++ h.later
    origins : List Origin
    block : Block (From rs began) h.known origins
    lines : (x y : ℕ) (j : J) → line_at began x y ≡ Some j → (i : ℕ) × (slice_get origins i ≡ Some (Line x y))
    calls : (u k : ℕ) (j : J) → made_at rs u k ≡ Some j → (i : ℕ) × (slice_get origins i ≡ Some (Created (suc b.before + u) k))
    done : length rs ≡ h.done
    few : h.done ≤ length h.known

  line_then : (began : List (List J)) (x y : ℕ) (j : J) → line_at began x y ≡ Some j → (ls : List J) × (slice_get began x ≡ Some ls) × (slice_get ls y ≡ Some j)
  line_then began x y j e = then_some (λ ls. slice_get ls y) (slice_get began x) j e

  line_by : (began : List (List J)) (x y : ℕ) (ls : List J) (j : J) → slice_get began x ≡ Some ls → slice_get ls y ≡ Some j → line_at began x y ≡ Some j
  line_by began x y ls j e f = ap (option_and_then (λ us. slice_get us y)) e ∙ f

  -- the lines of one batch more
  module _ (h : Head J) (rs : List R) (x : Sourced h rs) (ls : List J) (rest : List (List J)) (e : h.later ≡ ls ∷ rest) where
    n : ℕ
    n = length x.began

    here : slice_get (x.began ++ ls ∷ []) (length x.began + 0) ≡ Some ls
    here = get_right x.began (ls ∷ []) 0 ls refl

    next_place : length x.began + 0 ≡ length x.began
    next_place = omega arith

    one_batch : Sourced (record { known = h.known ++ ls; later = rest; done = h.done }) rs
    one_batch = record {
      began = x.began ++ ls ∷ [];
      cut = x.cut ∙ ap (λ u. x.began ++ u) e ∙ sym (append_assoc x.began (ls ∷ []) rest);
      origins = x.origins ++ tags (Line (length x.began)) 0 (length ls);
      block = add (From rs x.began) (From rs (x.began ++ ls ∷ [])) more h.known x.origins ls (Line (length x.began)) x.block (λ i k q. ap place_in q) new
          (λ d j q. line_by (x.began ++ ls ∷ []) (length x.began) d ls j (ap (slice_get (x.began ++ ls ∷ [])) (sym next_place) ∙ here) q);
      lines = λ a y j q. line_found a y j (line_then (x.began ++ ls ∷ []) a y j q);
      calls = λ u k j q. let z = x.calls u k j q in (z.0, get_left x.origins _ z.0 _ z.1);
      done = x.done;
      few = up _ _ _ _ x.few (long_append h.known ls);
    }
      where
        up : (a c d m : ℕ) → a ≤ c → m ≡ c + d → a ≤ m
        up a c d m l q = omega (arith, l, q)

        more : (o : Origin) (i : ℕ) (j : J) → From rs x.began o i j → From rs (x.began ++ ls ∷ []) o i j
        more (Line a y) i j q = (let z = line_then x.began a y j q in line_by (x.began ++ ls ∷ []) a y z.0 j (get_left x.began (ls ∷ []) a z.0 z.1) z.2)
        more (Created t k) i j q = q

        new : (d i : ℕ) (j : J) → From rs x.began (Line (length x.began) d) i j → ⊥
        new d i j q = (let z = line_then x.began (length x.began) d j q in below (length x.began) (get_within x.began (length x.began) z.0 z.1))
          where
            below : (a : ℕ) → a < a → ⊥
            below a l = omega (arith, l)

        line_found : (a y : ℕ) (j : J) → (us : List J) × (slice_get (x.began ++ ls ∷ []) a ≡ Some us) × (slice_get us y ≡ Some j) → (i : ℕ) × (slice_get (x.origins ++ tags (Line (length x.began)) 0 (length ls)) i ≡ Some (Line a y))
        line_found a y j z = elim (get_either x.began (ls ∷ []) a z.0 z.1) [
          | inl q ↦ (let o = x.lines a y j (line_by x.began a y z.0 j q z.2) in (o.0, get_left x.origins _ o.0 _ o.1))
          | inr q ↦ last q.0 q.1 q.2
        ]
          where
            last : (d : ℕ) → a ≡ length x.began + d → slice_get (ls ∷ []) d ≡ Some z.0 → (i : ℕ) × (slice_get (x.origins ++ tags (Line (length x.began)) 0 (length ls)) i ≡ Some (Line a y))
            last zero q f = (let same : ls ≡ z.0 = some_same ls z.0 f in
                let within : y < length ls = subst (λ (us : List J). y < length us) (sym same) (get_within z.0 y j z.2) in
                (length x.origins + y, get_right x.origins _ y _ (get_tag (Line (length x.began)) 0 (length ls) y within) ∙ ap Some (ap₂ (λ c d. Line c d) (sym next_place ∙ sym q) (let r : 0 + y ≡ y = omega arith in r))))
            last (suc d) q f = absurd (none_not f)

  next_of : (h : Head J) (rs : List R) → Sourced h rs → Sourced (next_batch h) rs
  next_of h rs x = by (nat_lt h.done (length h.known))
    where
      with_later : (bs : List (List J)) → h.later ≡ bs → Sourced (begun h bs) rs
      with_later [] e = x
      with_later (ls ∷ rest) e = one_batch h rs x ls rest e

      by : (i : Bool) → Sourced (if i then h else begun h h.later) rs
      by true = x
      by false = with_later h.later refl

  -- what one job more creates
  module _ (h : Head J) (rs : List R) (x : Sourced h rs) (r : R) (less : h.done < length h.known) where
    made_here : (k : ℕ) → made_at (rs ++ r ∷ []) (length rs) k ≡ slice_get (kind.system.created r) k
    made_here k = ap (λ n. option_and_then (λ u. slice_get (kind.system.created u) k) (slice_get (rs ++ r ∷ []) n)) (let z : length rs ≡ length rs + 0 = omega arith in z) ∙ ap (option_and_then (λ u. slice_get (kind.system.created u) k)) (get_right rs (r ∷ []) 0 r refl)

    one_job : Sourced (record { known = h.known ++ kind.system.created r; later = h.later; done = suc h.done }) (rs ++ r ∷ [])
    one_job = record {
      began = x.began;
      cut = x.cut;
      origins = x.origins ++ tags (Created (suc b.before + length rs)) 0 (length (kind.system.created r));
      block = add (From rs x.began) (From (rs ++ r ∷ []) x.began) more h.known x.origins (kind.system.created r) (Created (suc b.before + length rs)) x.block (λ i k q. ap place_in q) new
          (λ d j q. (length rs, refl, far _ _ _ _ less x.done, made_here d ∙ q));
      lines = λ a y j q. let z = x.lines a y j q in (z.0, get_left x.origins _ z.0 _ z.1);
      calls = λ u k j q. call_found u k j (then_some (λ v. slice_get (kind.system.created v) k) (slice_get (rs ++ r ∷ []) u) j q);
      done = long_append rs (r ∷ []) ∙ (let z : length rs + 1 ≡ suc (length rs) = omega arith in z) ∙ ap suc x.done;
      few = up _ _ _ _ less (long_append h.known (kind.system.created r));
    }
      where
        up : (a c d m : ℕ) → a < c → m ≡ c + d → suc a ≤ m
        up a c d m l q = omega (arith, l, q)

        far : (a c d n : ℕ) → a < c → n ≡ a → n < c + d
        far a c d n l q = omega (arith, l, q)

        more : (o : Origin) (i : ℕ) (j : J) → From rs x.began o i j → From (rs ++ r ∷ []) x.began o i j
        more (Line a y) i j q = q
        more (Created t k) i j q = (let z = then_some (λ v. slice_get (kind.system.created v) k) (slice_get rs q.0) j q.3 in
            (q.0, q.1, q.2, ap (option_and_then (λ v. slice_get (kind.system.created v) k)) (get_left rs (r ∷ []) q.0 z.0 z.1) ∙ z.2))

        new : (d i : ℕ) (j : J) → From rs x.began (Created (suc b.before + length rs) d) i j → ⊥
        new d i j q = (let z = then_some (λ v. slice_get (kind.system.created v) d) (slice_get rs q.0) j q.3 in below b.before (length rs) q.0 q.1 (get_within rs q.0 z.0 z.1))
          where
            below : (c a u : ℕ) → suc c + a ≡ suc c + u → u < a → ⊥
            below c a u e l = omega (arith, e, l)

        call_found : (u k : ℕ) (j : J) → (v : R) × (slice_get (rs ++ r ∷ []) u ≡ Some v) × (slice_get (kind.system.created v) k ≡ Some j) → (i : ℕ) × (slice_get (x.origins ++ tags (Created (suc b.before + length rs)) 0 (length (kind.system.created r))) i ≡ Some (Created (suc b.before + u) k))
        call_found u k j z = elim (get_either rs (r ∷ []) u z.0 z.1) [
          | inl q ↦ (let o = x.calls u k j (ap (option_and_then (λ v. slice_get (kind.system.created v) k)) q ∙ z.2) in (o.0, get_left x.origins _ o.0 _ o.1))
          | inr q ↦ last q.0 q.1 q.2
        ]
          where
            last : (d : ℕ) → u ≡ length rs + d → slice_get (r ∷ []) d ≡ Some z.0 → (i : ℕ) × (slice_get (x.origins ++ tags (Created (suc b.before + length rs)) 0 (length (kind.system.created r))) i ≡ Some (Created (suc b.before + u) k))
            last zero q f = (let same : r ≡ z.0 = some_same r z.0 f in
                let within : k < length (kind.system.created r) = get_within (kind.system.created r) k j (ap (λ v. slice_get (kind.system.created v) k) same ∙ z.2) in (
                  length x.origins + k,
                  get_right x.origins _ k _ (get_tag (Created (suc b.before + length rs)) 0 (length (kind.system.created r)) k within)
                      ∙ ap Some (ap₂ (λ c d. Created c d) (let w : suc b.before + length rs ≡ suc b.before + u = omega (arith, q) in w) (let w : 0 + k ≡ k = omega arith in w)),
                ))
            last (suc d) q f = absurd (none_not f)

  sourced : (n : ℕ) → Sourced (at n).head (at n).results
  sourced zero = next_of (record { known = []; later = batches; done = 0 }) [] (record {
    began = [];
    cut = refl;
    origins = [];
    block = record { as_many = refl; from = λ i o j e z. absurd (none_not e); once = λ i k o e z. absurd (none_not e) };
    lines = λ a y j q. absurd (none_not q);
    calls = λ u k j q. absurd (none_not q);
    done = refl;
    few = omega arith;
  })
  sourced (suc n) = by (next_job (at n).head) refl (sourced n)
    where
      by : (o : Option J) → next_job (at n).head ≡ o → Sourced (at n).head (at n).results → Sourced (with_job (suc b.before) (run_alone kind.system) kind.system.created (at n) o).head (with_job (suc b.before) (run_alone kind.system) kind.system.created (at n) o).results
      by None e x = x
      by (Some j) e x =
          let r : R = (run_alone kind.system (suc b.before + (at n).head.done) (at n).tree j).result in
          next_of (record { known = (at n).head.known ++ kind.system.created r; later = (at n).head.later; done = suc (at n).head.done }) ((at n).results ++ r ∷ [])
          (one_job (at n).head (at n).results x r (get_within (at n).head.known (at n).head.done j e))

  -- at a state
  pub origins : (s : State A F R J) → s.before ≡ b.before → Results kind b batches s → Tickets kind b batches s → Origins kind b batches s
  origins s before results tickets = by (sourced s.head.done)
    where
      by : Sourced (at s.head.done).head (at s.head.done).results → Origins kind b batches s
      by x = record {
        begun = x.began;
        cut = x.cut ∙ ap (λ (h : Head J). x.began ++ h.later) (sym tickets.head_is);
        origin = λ t. origin_of t;
        from = λ i j e. let o = origin_for i (get_within s.head.known i j e) in
            subst (λ u. IsFrom kind s x.began u (suc b.before + i) j) (sym (origin_at i o.0 o.1)) (to_state i j o.0 (x.block.from i o.0 j o.1 (ap (λ (h : Head J). slice_get h.known i) (sym tickets.head_is) ∙ e)));
        one = λ i k l m e. let o = origin_for i l in let u = origin_for k m in
            x.block.once i k o.0 o.1 (u.1 ∙ ap Some (sym (origin_at k u.0 u.1) ∙ sym e ∙ origin_at i o.0 o.1));
        lines = λ a y j e. let z = x.lines a y j e in (z.0, known_for z.0 (Line a y) z.1, origin_at z.0 (Line a y) z.1);
        calls = λ u k j l e. let z = x.calls u k j (made_same u l k ∙ e) in (z.0, known_for z.0 (Created (suc b.before + u) k) z.1, origin_at z.0 (Created (suc b.before + u) k) z.1);
      }
        where
          origin_of : ℕ → Origin
          origin_of t = unwrap_or (slice_get x.origins (t - suc b.before)) (Line 0 0)

          origin_at : (i : ℕ) (o : Origin) → slice_get x.origins i ≡ Some o → unwrap_or (slice_get x.origins ((suc b.before + i) - suc b.before)) (Line 0 0) ≡ o
          origin_at i o e = ap (λ n. unwrap_or (slice_get x.origins n) (Line 0 0)) (let z : (suc b.before + i) - suc b.before ≡ i = omega arith in z) ∙ ap (λ u. unwrap_or u (Line 0 0)) e

          many : length x.origins ≡ length s.head.known
          many = x.block.as_many ∙ ap (λ (h : Head J). length h.known) (sym tickets.head_is)

          origin_for : (i : ℕ) → i < length s.head.known → (o : Origin) × (slice_get x.origins i ≡ Some o)
          origin_for i l = get_some x.origins i (subst (λ n. i < n) (sym many) l)

          known_for : (i : ℕ) (o : Origin) → slice_get x.origins i ≡ Some o → i < length s.head.known
          known_for i o e = subst (λ n. i < n) many (get_within x.origins i o e)

          same_done : length (at s.head.done).results ≡ s.head.done
          same_done = x.done ∙ ap (λ (h : Head J). h.done) (sym tickets.head_is)

          -- what the fold has as created, the cells have
          made_same : (u : ℕ) → u < s.head.done → (k : ℕ) → made_at (at s.head.done).results u k ≡ created_at kind s (suc b.before + u) k
          made_same u l k = (let r = results s.head.done u (upto s.head.done) l in
              ap (option_and_then (λ v. slice_get (kind.system.created v) k)) (r.2 ∙ sym r.1))
            where
              upto : (n : ℕ) → n ≤ n
              upto n = omega arith

          to_state : (i : ℕ) (j : J) (o : Origin) → From (at s.head.done).results x.began o i j → IsFrom kind s x.began o (suc b.before + i) j
          to_state i j (Line a y) f = f
          to_state i j (Created t k) f =
              let z = then_some (λ v. slice_get (kind.system.created v) k) (slice_get (at s.head.done).results f.0) j f.3 in
              let l : f.0 < s.head.done = subst (λ n. f.0 < n) same_done (get_within (at s.head.done).results f.0 z.0 z.1) in
              (earlier _ _ _ _ f.1 f.2, committed _ _ _ _ _ f.1 before l, ap (λ n. created_at kind s n k) f.1 ∙ sym (made_same f.0 l k) ∙ f.3)
            where
              earlier : (t c u i : ℕ) → t ≡ suc c + u → u < i → t < suc c + i
              earlier t c u i e l = omega (arith, e, l)

              committed : (t c u d a : ℕ) → t ≡ suc c + u → a ≡ c → u < d → t ≤ a + d
              committed t c u d a e f l = omega (arith, e, f, l)
