-- Parts that lead on: tokens that are alike are spelled alike, and what begins a part is the front of what another spells, or nothing.
use Rattle.std.proofs.Common.{◌≡◌, ℕ, zero, suc, ◌⊎◌, inl, inr, ⊎_elim, List, [], ◌∷◌, ◌++◌, Option, Some, None, IsSome, refl, sym, ◌∙◌, ap, subst, append_assoc, append-nil}
use Rattle.mace_lexer.specs.declared.token.Token.{Token}
use Rattle.mace_grammar.specs.Part.{Part, never, pure, one, ◌>>=◌, ◌or◌, SpellsAll, many, SpellsMaybe, maybe, nested_part, deep_part}
use Rattle.mace_hints.specs.Hints.{hint_of}

-- ---- tokens that hints don't tell apart

abbrev pub Alike : List Token → List Token → Type 0
Alike [] [] = Unit {0}
Alike (t ∷ ts) (u ∷ us) = (hint_of t.word ≡ hint_of u.word) × Alike ts us
Alike _ _ = ⊥

pub alike_nil : (us : List Token) → Alike [] us → us ≡ []
alike_nil [] h = refl
alike_nil (u ∷ us) h = absurd h

pub alike_split : (u v ws : List Token) → Alike (u ++ v) ws → (x : List Token) × (y : List Token) × (ws ≡ x ++ y) × Alike u x × Alike v y
alike_split [] v ws h = ([], ws, refl, tt, h)
alike_split (t ∷ u) v [] h = absurd h
alike_split (t ∷ u) v (w ∷ ws) h = let (x, y, e, k, l) = alike_split u v ws h.1 in (w ∷ x, y, ap (λ z. w ∷ z) e, (h.0, k), l)

-- ---- parts

-- some tokens behind these make a spelling
abbrev pub Completes : {A : Type 0} → Part A → List Token → Type 0
Completes {A} q us = (more : List Token) × (a : A) × q.Spells a (us ++ more)

abbrev pub HasSome : {A : Type 0} → Part A → Type 0
HasSome {A} q = (a : A) × (ts : List Token) × q.Spells a ts

pub record Leads {A : Type 0} (p q : Part A) : Type 0 where
  pub spells : (a : A) (ts us : List Token) → p.Spells a ts → Alike ts us → (b : A) × q.Spells b us
  pub begins : (ts us : List Token) → p.Begins ts → Alike ts us → (us ≡ []) ⊎ Completes q us

-- the same, and something spells the second
pub record Live {A : Type 0} (p q : Part A) : Type 0 where
  pub leads : Leads p q
  pub some : HasSome q

-- ---- nothing, no tokens, and one

pub leads_never : {A : Type 0} (p : Part A) → Leads never p
leads_never p = record {
  spells = λ a ts us s h. absurd s;
  begins = λ ts us b h. inl (alike_nil us (subst (λ l. Alike l us) b h));
}

pub leads_pure : {A : Type 0} (x y : A) → Leads (pure x) (pure y)
leads_pure x y = record {
  spells = λ a ts us s h. (y, (refl, alike_nil us (subst (λ l. Alike l us) s.1 h)));
  begins = λ ts us b h. inl (alike_nil us (subst (λ l. Alike l us) b h));
}

pub live_pure : {A : Type 0} (x y : A) → Live (pure x) (pure y)
live_pure x y = record { leads = leads_pure x y; some = (y, [], (refl, refl)) }

there : {A : Type 0} (o : Option A) → IsSome o → (a : A) × (o ≡ Some a)
there (Some a) h = (a, refl)
there None h = cc

is_there : {A : Type 0} (o : Option A) (a : A) → o ≡ Some a → IsSome o
is_there o a h = subst (λ x. IsSome x) (sym h) refl

module _ {A : Type 0} (f g : Token → Option A) (keeps : (t u : Token) → hint_of t.word ≡ hint_of u.word → IsSome (f t) → IsSome (g u)) where
  kept : (t : Token) (us : List Token) → Alike (t ∷ []) us → IsSome (f t) → (a : A) × (one g).Spells a us
  kept t [] h k = absurd h
  kept t (u ∷ []) h k = let (a, e) = there (g u) (keeps t u h.0 k) in (a, (u, refl, e))
  kept t (u ∷ v ∷ us) h k = absurd h.1

  pub leads_one : Leads (one f) (one g)
  leads_one = record {
    spells = λ a ts us s h. let (t, e, k) = s in kept t us (subst (λ l. Alike l us) e h) (is_there (f t) a k);
    begins = λ ts us b h. ⊎_elim
        (λ e. inl (alike_nil us (subst (λ l. Alike l us) e h)))
        (λ s. let (t, e, k) = s in let (a, x) = kept t us (subst (λ l. Alike l us) e h) k in inr ([], a, subst (λ l. (one g).Spells a l) (sym (append-nil us)) x))
        b;
  }

pub some_one : {A : Type 0} (f : Token → Option A) (t : Token) → IsSome (f t) → HasSome (one f)
some_one f t h = let (a, e) = there (f t) h in (a, t ∷ [], (t, refl, e))

-- ---- one behind the other

module _ {A B : Type 0} (p : Part A) (q : A → Part B) (some : (a : A) → HasSome (q a)) where
  after_first : (us : List Token) → (us ≡ []) ⊎ Completes p us → (us ≡ []) ⊎ Completes (p >>= q) us
  after_first us c = ⊎_elim
      (λ e. inl e)
      (λ s. let (more, a, x) = s in let (b, ws, y) = some a in inr (more ++ ws, b, (a, us ++ more, ws, sym (append_assoc us more ws), x, y)))
      c

  behind_first : (a : A) (x y us : List Token) → us ≡ x ++ y → p.Spells a x → (y ≡ []) ⊎ Completes (q a) y → Completes (p >>= q) us
  behind_first a x y us e s c = ⊎_elim
      (λ n. let (b, ws, z) = some a in
      let same : us ++ ws ≡ x ++ ws = ap (λ l. l ++ ws) (e ∙ ap (λ l. x ++ l) n ∙ append-nil x) in
      (ws, b, (a, x, ws, same, s, z)))
      (λ k. let (more, b, z) = k in (more, b, (a, x, y ++ more, ap (λ l. l ++ more) e ∙ append_assoc x y more, s, z)))
      c

  some_then : HasSome p → HasSome (p >>= q)
  some_then s = let (a, ts, x) = s in let (b, ws, y) = some a in (b, ts ++ ws, (a, ts, ws, refl, x, y))

module _ {A B : Type 0} (p p' : Part A) (q q' : A → Part B) (P : Leads p p') (Q : (a b : A) → Live (q a) (q' b)) where
  pub leads_in_turn : Leads (p >>= q) (p' >>= q')
  leads_in_turn = record {
    spells = λ b ts us s h.
        let (a, u, v, e, su, sv) = s in
        let (x, y, e2, hx, hy) = alike_split u v us (subst (λ l. Alike l us) e h) in
        let (a2, sx) = P.spells a u x su hx in
        let (b2, sy) = (Q a a2).leads.spells b v y sv hy in
        (b2, (a2, x, y, e2, sx, sy));
    begins = λ ts us c h. ⊎_elim
        (λ k. after_first p' q' (λ a. (Q a a).some) us (P.begins ts us k h))
        (λ s. let (a, u, v, e, su, bv) = s in
        let (x, y, e2, hx, hy) = alike_split u v us (subst (λ l. Alike l us) e h) in
        let (a2, sx) = P.spells a u x su hx in
        inr (behind_first p' q' (λ a. (Q a a).some) a2 x y us e2 sx ((Q a a2).leads.begins v y bv hy)))
        c;
  }

pub leads_then : {A B : Type 0} {p p' : Part A} {q q' : A → Part B} → Leads p p' → ((a b : A) → Live (q a) (q' b)) → Leads (p >>= q) (p' >>= q')
leads_then {p = p} {p' = p'} {q = q} {q' = q'} P Q = leads_in_turn p p' q q' P Q

pub live_then : {A B : Type 0} {p p' : Part A} {q q' : A → Part B} → Live p p' → ((a b : A) → Live (q a) (q' b)) → Live (p >>= q) (p' >>= q')
live_then {p = p} {p' = p'} {q = q} {q' = q'} P Q = record { leads = leads_in_turn p p' q q' P.leads Q; some = some_then p' q' (λ a. (Q a a).some) P.some }

-- behind a part whose value stays where its tokens are alike
pub same_then : {A B : Type 0} (p : Part A) (q q' : A → Part B) → Live p p → ((a : A) (ts us : List Token) → p.Spells a ts → Alike ts us → p.Spells a us) → ((a : A) → Live (q a) (q' a)) → Live (p >>= q) (p >>= q')
same_then p q q' P S Q = record {
  leads = record {
    spells = λ b ts us s h.
        let (a, u, v, e, su, sv) = s in
        let (x, y, e2, hx, hy) = alike_split u v us (subst (λ l. Alike l us) e h) in
        let (b2, sy) = (Q a).leads.spells b v y sv hy in
        (b2, (a, x, y, e2, S a u x su hx, sy));
    begins = λ ts us c h. ⊎_elim
        (λ k. after_first p q' (λ a. (Q a).some) us (P.leads.begins ts us k h))
        (λ s. let (a, u, v, e, su, bv) = s in
        let (x, y, e2, hx, hy) = alike_split u v us (subst (λ l. Alike l us) e h) in
        inr (behind_first p q' (λ a. (Q a).some) a x y us e2 (S a u x su hx) ((Q a).leads.begins v y bv hy)))
        c;
  };
  some = some_then p q' (λ a. (Q a).some) P.some;
}

-- ---- one of two

pub leads_or : {A : Type 0} {p p' q q' : Part A} → Leads p p' → Leads q q' → Leads (p or q) (p' or q')
leads_or {p = p} {p' = p'} {q = q} {q' = q'} P Q = record {
  spells = λ a ts us s h. ⊎_elim (λ k. let (b, x) = P.spells a ts us k h in (b, inl x)) (λ k. let (b, x) = Q.spells a ts us k h in (b, inr x)) s;
  begins = λ ts us c h. ⊎_elim (λ k. left us (P.begins ts us k h)) (λ k. right us (Q.begins ts us k h)) c;
}
  where
    left : (us : List Token) → (us ≡ []) ⊎ Completes p' us → (us ≡ []) ⊎ Completes (p' or q') us
    left us c = ⊎_elim (λ e. inl e) (λ s. let (more, a, x) = s in inr (more, a, inl x)) c

    right : (us : List Token) → (us ≡ []) ⊎ Completes q' us → (us ≡ []) ⊎ Completes (p' or q') us
    right us c = ⊎_elim (λ e. inl e) (λ s. let (more, a, x) = s in inr (more, a, inr x)) c

pub some_left : {A : Type 0} (p q : Part A) → HasSome p → HasSome (p or q)
some_left p q s = let (a, ts, x) = s in (a, ts, inl x)

pub some_right : {A : Type 0} (p q : Part A) → HasSome q → HasSome (p or q)
some_right p q s = let (a, ts, x) = s in (a, ts, inr x)

pub live_or : {A : Type 0} {p p' q q' : Part A} → Live p p' → Live q q' → Live (p or q) (p' or q')
live_or {p' = p'} {q' = q'} P Q = record { leads = leads_or P.leads Q.leads; some = some_left p' q' P.some }

-- ---- what may be left out, and any number

module _ {A : Type 0} (p p' : Part A) (P : Leads p p') where
  maybe_spells : (o : Option A) (ts us : List Token) → SpellsMaybe p o ts → Alike ts us → (b : Option A) × SpellsMaybe p' b us
  maybe_spells None ts us s h = (None, alike_nil us (subst (λ l. Alike l us) s h))
  maybe_spells (Some a) ts us s h = let (b, x) = P.spells a ts us s h in (Some b, x)

  maybe_begins : (us : List Token) → (us ≡ []) ⊎ Completes p' us → (us ≡ []) ⊎ Completes (maybe p') us
  maybe_begins us c = ⊎_elim (λ e. inl e) (λ s. let (more, a, x) = s in inr (more, Some a, x)) c

  all_spells : (items : List A) (ts us : List Token) → SpellsAll p items ts → Alike ts us → (others : List A) × SpellsAll p' others us
  all_spells [] ts us s h = ([], alike_nil us (subst (λ l. Alike l us) s h))
  all_spells (a ∷ items) ts us s h =
      let (u, v, e, su, sv) = s in
      let (x, y, e2, hx, hy) = alike_split u v us (subst (λ l. Alike l us) e h) in
      let (b, sx) = P.spells a u x su hx in
      let (others, sy) = all_spells items v y sv hy in
      (b ∷ others, (x, y, e2, sx, sy))

  one_more : (items : List A) (u : List Token) (a : A) (v : List Token) → SpellsAll p' items u → p'.Spells a v → SpellsAll p' (items ++ a ∷ []) (u ++ v)
  one_more [] u a v s x = (v, [], ap (λ l. l ++ v) s ∙ sym (append-nil v), x, refl)
  one_more (b ∷ items) u a v s x =
      let (f, g, e, sf, sg) = s in
      (f, g ++ v, ap (λ l. l ++ v) e ∙ append_assoc f g v, sf, one_more items g a v sg x)

  many_begins : (items : List A) (x y us : List Token) → us ≡ x ++ y → SpellsAll p' items x → (y ≡ []) ⊎ Completes p' y → Completes (many p') us
  many_begins items x y us e s c = ⊎_elim
      (λ n. let same : us ++ [] ≡ x = append-nil us ∙ e ∙ ap (λ l. x ++ l) n ∙ append-nil x in ([], items, subst (λ l. SpellsAll p' items l) (sym same) s))
      (λ k. let (more, a, z) = k in
      let same : us ++ more ≡ x ++ (y ++ more) = ap (λ l. l ++ more) e ∙ append_assoc x y more in
      (more, items ++ a ∷ [], subst (λ l. SpellsAll p' (items ++ a ∷ []) l) (sym same) (one_more items x a (y ++ more) s z)))
      c

  pub live_maybe' : Live (maybe p) (maybe p')
  live_maybe' = record {
    leads = record { spells = maybe_spells; begins = λ ts us c h. maybe_begins us (P.begins ts us c h) };
    some = (None, [], refl);
  }

  pub live_many' : Live (many p) (many p')
  live_many' = record {
    leads = record {
      spells = all_spells;
      begins = λ ts us c h.
          let (items, u, v, e, su, bv) = c in
          let (x, y, e2, hx, hy) = alike_split u v us (subst (λ l. Alike l us) e h) in
          let (others, sx) = all_spells items u x su hx in
          inr (many_begins others x y us e2 sx (P.begins v y bv hy));
    };
    some = ([], [], refl);
  }

pub live_maybe : {A : Type 0} {p p' : Part A} → Leads p p' → Live (maybe p) (maybe p')
live_maybe {p = p} {p' = p'} P = live_maybe' p p' P

pub live_many : {A : Type 0} {p p' : Part A} → Leads p p' → Live (many p) (many p')
live_many {p = p} {p' = p'} P = live_many' p p' P

-- ---- what leads back to itself

module _ {A : Type 0} (body : Part A → Part A) (step : (p q : Part A) → Leads p q → HasSome q → Leads (body p) (body q)) (some : (p : Part A) → HasSome (body p)) where
  one_deeper : (n : ℕ) → Leads (nested_part body n) (nested_part body (suc n))
  one_deeper zero = record {
    spells = λ a ts us s h. absurd s;
    begins = λ ts us b h. inl (alike_nil us (subst (λ l. Alike l us) b h));
  }
  one_deeper (suc n) = step (nested_part body n) (nested_part body (suc n)) (one_deeper n) (some (nested_part body n))

  deep_begins : (n : ℕ) (us : List Token) → (us ≡ []) ⊎ Completes (nested_part body n) us → (us ≡ []) ⊎ Completes (deep_part body) us
  deep_begins n us c = ⊎_elim (λ e. inl e) (λ s. let (more, a, x) = s in inr (more, a, (n, x))) c

  pub live_deep : Live (deep_part body) (deep_part body)
  live_deep = record {
    leads = record {
      spells = λ a ts us s h. let (n, x) = s in let (b, y) = (one_deeper n).spells a ts us x h in (b, (suc n, y));
      begins = λ ts us c h. let (n, x) = c in deep_begins (suc n) us ((one_deeper n).begins ts us x h);
    };
    some = let (a, ts, x) = some never in (a, ts, (suc zero, x));
  }
