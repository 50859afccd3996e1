-- Code in parts is fit: its loops lie one in the other, each with its tick, and so has each call into a child.
use Rattle.std.proofs.Common.{◌≡◌, ℕ, suc, ◌+◌, ◌<◌, ◌≤◌, ◌⊎◌, inl, inr, List, [], ◌∷◌, ◌++◌, length, map, true, false, Option, Some, None, refl, sym, ap, ◌∙◌, subst, arith, length-append}
use Rattle.std.specs.Prelude.{slice_get, option_and_then}
use Rattle.std.specs.Option.{option_map}
use Rattle.std.proofs.lemmas.Bool.{cases_lt}
use Rattle.std.proofs.lemmas.Option.{slice_get_within, slice_get-map}
use Rattle.service_code.specs.declared.instr.Instr.{Instr}
use Rattle.service_verify.specs.Fit.{jump_of, is_tick, is_call_down, Jumps, TicksAt, IsTicked, IsTickedCall}
use Rattle.code_scheme.specs.Scheme.{Line}
use Rattle.code_scheme.proofs.Places.{StandsAt, stands_back}

some_same : (a b : ℕ) → Some a ≡ Some b → a ≡ b
some_same a b e = cc

none_not : {X : Type 0} {a : X} → None ≡ Some a → ⊥
none_not e = cc

no_call : true ≡ false → ⊥
no_call e = cc

module _ (ls : List Line) where
  pub code : List Instr
  code = map (λ (l : Line). l.instr) ls

  pub code_is : code ≡ map (λ (l : Line). l.instr) ls
  unfolding code
  code_is = refl

  there : (n : ℕ) (l : Line) → slice_get ls n ≡ Some l → slice_get code n ≡ Some l.instr
  unfolding code
  there n l e = slice_get-map (λ (l : Line). l.instr) ls n ∙ ap (option_map (λ (l : Line). l.instr)) e

  jumps_as : (p q : ℕ) (l : Line) → slice_get ls p ≡ Some l → Jumps code p q → jump_of l.instr ≡ Some q
  jumps_as p q l is h = sym (ap (option_and_then jump_of) (there p l is)) ∙ h

  -- a call into a child at n
  pub CallsAt : ℕ → Type 0
  CallsAt n = (k : Instr) × (slice_get code n ≡ Some k) × (is_call_down k ≡ true)

  calls_as : (n : ℕ) (l : Line) → slice_get ls n ≡ Some l → CallsAt n → is_call_down l.instr ≡ true
  unfolding CallsAt
  calls_as n l is h = let e : Some l.instr ≡ Some h.0 = sym (there n l is) ∙ h.1 in let same : l.instr ≡ h.0 = cc in ap is_call_down same ∙ h.2

  -- one jump back among the instructions from a to e
  pub record Looped (a e j i k : ℕ) : Type 0 where
    pub from : i ≤ k
    pub to : k ≤ j
    pub tick : TicksAt code k
    pub passes : (p q : ℕ) → Jumps code p q → i ≤ p → p < k → q ≤ k ⊎ j < q
    pub enters : (p q : ℕ) → Jumps code p q → a ≤ p → p < e → p < i ⊎ j < p → q ≤ i ⊎ j < q

  -- a call into a child, behind its tick, where no jump goes
  pub record Called (a e n : ℕ) : Type 0 where
    pub inside : a < n
    pub tick : (k : ℕ) × (n ≡ suc k) × TicksAt code k
    pub no_jump : (j : ℕ) → a ≤ j → j < e → Jumps code j n → ⊥

  -- instructions whose jumps stay among them, and whose loops and calls are fit
  pub record Part (a e : ℕ) : Type 0 where
    pub le : a ≤ e
    pub within : (p q : ℕ) → Jumps code p q → a ≤ p → p < e → (a ≤ q) × (q ≤ e)
    pub loops : (j i : ℕ) → Jumps code j i → i ≤ j → a ≤ j → j < e → (k : ℕ) × Looped a e j i k
    pub calls : (n : ℕ) → CallsAt n → a ≤ n → n < e → Called a e n

  pub nothing : (a e : ℕ) → a ≡ e → Part a e
  nothing a e s = record { le = omega (arith, s); within = λ p q h l m. absurd (omega (arith, l, m, s)); loops = λ j i h b l m. absurd (omega (arith, l, m, s)); calls = λ n h l m. absurd (omega (arith, l, m, s)) }

  pub plain : (a e : ℕ) (l : Line) → e ≡ a + 1 → slice_get ls a ≡ Some l → jump_of l.instr ≡ None → is_call_down l.instr ≡ false → Part a e
  plain a e l s is no_jump not_call = record {
    le = omega (arith, s);
    within = λ p q h b c. absurd (never p q h (omega (arith, b, c, s)));
    loops = λ j i h d b c. absurd (never j i h (omega (arith, b, c, s)));
    calls = λ n h b c. let e' : n ≡ a = omega (arith, b, c, s) in absurd (no_call (sym (calls_as a l is (subst CallsAt e' h)) ∙ not_call));
  }
    where
      never : (p q : ℕ) → Jumps code p q → p ≡ a → ⊥
      never p q h e = none_not (sym no_jump ∙ jumps_as a q l is (subst (λ p. Jumps code p q) e h))

  -- a tick and a call into a child
  down_part : (a : ℕ) (l m : Line) → slice_get ls a ≡ Some l → slice_get ls (a + 1) ≡ Some m → is_tick l.instr ≡ true → jump_of l.instr ≡ None → is_call_down l.instr ≡ false → jump_of m.instr ≡ None → Part a (a + 1 + 1)
  down_part a l m isl ism tick no_l not_call no_m = record {
    le = omega arith;
    within = λ p q h b c. absurd (never p q h b c);
    loops = λ j i h d b c. absurd (never j i h b c);
    calls = λ n h b c. called n h (cases_lt a n) b c;
  }
    where
      never : (p q : ℕ) → Jumps code p q → a ≤ p → p < a + 1 + 1 → ⊥
      never p q h b c = elim (cases_lt a p) [
        | inl x ↦ none_not (sym no_m ∙ jumps_as (a + 1) q m ism (subst (λ p. Jumps code p q) (omega (arith, x, c)) h))
        | inr x ↦ none_not (sym no_l ∙ jumps_as a q l isl (subst (λ p. Jumps code p q) (omega (arith, x, b)) h))
      ]

      called : (n : ℕ) → CallsAt n → a < n ⊎ n ≤ a → a ≤ n → n < a + 1 + 1 → Called a (a + 1 + 1) n
      called n h (inl x) b c = record { inside = x; tick = (a, omega (arith, x, c), (l.instr, there a l isl, tick)); no_jump = λ j u w e. never j n e u w }
      called n h (inr x) b c = let e' : n ≡ a = omega (arith, x, b) in absurd (no_call (sym (calls_as a l isl (subst CallsAt e' h)) ∙ not_call))

  pub part_then : (a b c : ℕ) → Part a b → Part b c → Part a c
  part_then a b c x y = record {
    le = omega (arith, x.le, y.le);
    within = λ p q h l m. elim (cases_lt p b) [ inl z ↦ (let w = x.within p q h l z in (w.0, omega (arith, w.1, y.le))) | inr z ↦ (let w = y.within p q h z m in (omega (arith, w.0, x.le), w.1)) ];
    loops = λ j i h d l m. elim (cases_lt j b) [
      | inl z ↦ (let w = x.loops j i h d l z in (
        w.0,
        record {
          from = w.1.from;
          to = w.1.to;
          tick = w.1.tick;
          passes = w.1.passes;
          enters = λ p q g u v o. elim (cases_lt p b) [ inl s ↦ w.1.enters p q g u s o | inr s ↦ inr (let t = y.within p q g s v in omega (arith, t.0, z)) ];
        },
      ))
      | inr z ↦ (let w = y.loops j i h d z m in (
        w.0,
        record {
          from = w.1.from;
          to = w.1.to;
          tick = w.1.tick;
          passes = w.1.passes;
          enters = λ p q g u v o. elim (cases_lt p b) [ inl s ↦ inl (let t = x.within p q g u s in let r = y.within j i h z m in omega (arith, t.1, r.0)) | inr s ↦ w.1.enters p q g s v o ];
        },
      ))
    ];
    calls = λ n h l m. elim (cases_lt n b) [
      | inl z ↦ (let w = x.calls n h l z in record {
        inside = w.inside;
        tick = w.tick;
        no_jump = λ j u v e. elim (cases_lt j b) [ inl s ↦ w.no_jump j u s e | inr s ↦ (let t = y.within j n e s v in omega (arith, t.0, z)) ];
      })
      | inr z ↦ (let w = y.calls n h z m in record {
        inside = omega (arith, w.inside, x.le);
        tick = w.tick;
        no_jump = λ j u v e. elim (cases_lt j b) [ inl s ↦ (let t = x.within j n e u s in omega (arith, t.1, w.inside)) | inr s ↦ w.no_jump j s v e ];
      })
    ];
  }

  -- a jump forward to where another part begins
  pub jump_then : (p q e : ℕ) (l : Line) → slice_get ls p ≡ Some l → jump_of l.instr ≡ Some q → is_call_down l.instr ≡ false → p < q → Part (p + 1) e → Part q e → Part p e
  jump_then p q e l is jump not_call lt x y = record {
    le = omega (arith, x.le);
    within = λ r s h b c. elim (cases_lt p r) [ inl z ↦ (let w = x.within r s h (omega (arith, z)) c in (omega (arith, w.0), w.1)) | inr z ↦ (let t = here r s h (omega (arith, b, z)) in (omega (arith, t, lt), omega (arith, t, y.le))) ];
    loops = λ j i h d b c. elim (cases_lt p j) [
      | inr z ↦ absurd (let t = here j i h (omega (arith, b, z)) in omega (arith, t, d, lt, z))
      | inl z ↦ (let w = x.loops j i h d (omega (arith, z)) c in (
        w.0,
        record {
          from = w.1.from;
          to = w.1.to;
          tick = w.1.tick;
          passes = w.1.passes;
          enters = λ r s g u v o. elim (cases_lt p r) [ inl f ↦ w.1.enters r s g (omega (arith, f)) v o | inr f ↦ (let t = here r s g (omega (arith, u, f)) in elim (cases_lt j q) [ inl m ↦ inr (omega (arith, t, m)) | inr m ↦ inl (let n = y.within j i h m c in omega (arith, t, n.0)) ]) ];
        },
      ))
    ];
    calls = λ n h b c. elim (cases_lt p n) [
      | inr z ↦ absurd (let e' : n ≡ p = omega (arith, b, z) in no_call (sym (calls_as p l is (subst CallsAt e' h)) ∙ not_call))
      | inl z ↦ (let w = x.calls n h (omega (arith, z)) c in record {
        inside = z;
        tick = w.tick;
        no_jump = λ j u v g. elim (cases_lt p j) [ inl f ↦ w.no_jump j (omega (arith, f)) v g | inr f ↦ (let t = here j n g (omega (arith, u, f)) in let o = y.calls n h (omega (arith, t)) c in omega (arith, t, o.inside)) ];
      })
    ];
  }
    where
      here : (r s : ℕ) → Jumps code r s → r ≡ p → s ≡ q
      here r s h e = some_same s q (sym (jumps_as p s l is (subst (λ r. Jumps code r s) e h)) ∙ jump)

  -- a loop: its test, a jump past the end, a tick and the block, and a jump back
  pub loop_part : (a t b : ℕ) (x y z : Line) → Part a t → slice_get ls t ≡ Some x → jump_of x.instr ≡ Some (b + 1) → is_call_down x.instr ≡ false → slice_get ls (t + 1) ≡ Some y → is_tick y.instr ≡ true → Part (t + 1) b → slice_get ls b ≡ Some z → jump_of z.instr ≡ Some a → is_call_down z.instr ≡ false → t + 1 < b + 1 → t + 1 < b → Part a (b + 1)
  loop_part a t b x y z cond isx out not_x isy tick block isz back not_z lt some = record {
    le = omega (arith, cond.le, lt);
    within = λ p q h l m. elim (where_is p m) [
      | inl c ↦ (let w = cond.within p q h l c in (w.0, omega (arith, w.1, lt)))
      | inr (inl e) ↦ (let g = at_test p q h e in (omega (arith, g, cond.le, lt), omega (arith, g)))
      | inr (inr (inl c)) ↦ (let w = block.within p q h c.0 c.1 in (omega (arith, w.0, cond.le), omega (arith, w.1)))
      | inr (inr (inr e)) ↦ (let g = at_end p q h e in (omega (arith, g), omega (arith, g, cond.le, lt)))
    ];
    loops = λ j i h d l m. elim (where_is j m) [
      | inl c ↦ (let w = cond.loops j i h d l c in let r = cond.within j i h l c in (
        w.0,
        record {
          from = w.1.from;
          to = w.1.to;
          tick = w.1.tick;
          passes = w.1.passes;
          enters = λ p q g u v o. elim (where_is p v) [
            | inl s ↦ w.1.enters p q g u s o
            | inr (inl e) ↦ inr (let n = at_test p q g e in omega (arith, n, c, lt))
            | inr (inr (inl s)) ↦ inr (let n = block.within p q g s.0 s.1 in omega (arith, n.0, c))
            | inr (inr (inr e)) ↦ inl (let n = at_end p q g e in omega (arith, n, r.0))
          ];
        },
      ))
      | inr (inl e) ↦ absurd (let n = at_test j i h e in omega (arith, n, d, e, lt))
      | inr (inr (inl c)) ↦ (let w = block.loops j i h d c.0 c.1 in let r = block.within j i h c.0 c.1 in (
        w.0,
        record {
          from = w.1.from;
          to = w.1.to;
          tick = w.1.tick;
          passes = w.1.passes;
          enters = λ p q g u v o. elim (where_is p v) [
            | inl s ↦ inl (let n = cond.within p q g u s in omega (arith, n.1, r.0))
            | inr (inl e) ↦ inr (let n = at_test p q g e in omega (arith, n, c.1))
            | inr (inr (inl s)) ↦ w.1.enters p q g s.0 s.1 o
            | inr (inr (inr e)) ↦ inl (let n = at_end p q g e in omega (arith, n, r.0, cond.le))
          ];
        },
      ))
      | inr (inr (inr e)) ↦ (
        t + 1,
        (let n = at_end j i h e in record {
          from = omega (arith, n, cond.le);
          to = omega (arith, e, some);
          tick = (y.instr, there (t + 1) y isy, tick);
          passes = λ p q g u v. elim (where_is p (omega (arith, v, lt))) [
            | inl s ↦ inl (let w = cond.within p q g (omega (arith, n, u)) s in omega (arith, w.1))
            | inr (inl f) ↦ inr (let w = at_test p q g f in omega (arith, w, e))
            | inr (inr (inl s)) ↦ absurd (omega (arith, s.0, v))
            | inr (inr (inr f)) ↦ absurd (omega (arith, f, v, some))
          ];
          enters = λ p q g u v o. absurd (elim o [ inl s ↦ omega (arith, s, n, u) | inr s ↦ omega (arith, s, e, v) ]);
        }),
      )
    ];
    calls = λ n h l m. elim (where_is n m) [
      | inl c ↦ (let w = cond.calls n h l c in record {
        inside = w.inside;
        tick = w.tick;
        no_jump = λ j u v g. elim (where_is j v) [
          | inl s ↦ w.no_jump j u s g
          | inr (inl e) ↦ (let r = at_test j n g e in omega (arith, r, c, lt))
          | inr (inr (inl s)) ↦ (let r = block.within j n g s.0 s.1 in omega (arith, r.0, c))
          | inr (inr (inr e)) ↦ (let r = at_end j n g e in omega (arith, r, w.inside))
        ];
      })
      | inr (inl e) ↦ absurd (no_call (sym (calls_as t x isx (subst CallsAt e h)) ∙ not_x))
      | inr (inr (inl c)) ↦ (let w = block.calls n h c.0 c.1 in record {
        inside = omega (arith, w.inside, cond.le);
        tick = w.tick;
        no_jump = λ j u v g. elim (where_is j v) [
          | inl s ↦ (let r = cond.within j n g u s in omega (arith, r.1, w.inside))
          | inr (inl e) ↦ (let r = at_test j n g e in omega (arith, r, c.1))
          | inr (inr (inl s)) ↦ w.no_jump j s.0 s.1 g
          | inr (inr (inr e)) ↦ (let r = at_end j n g e in omega (arith, r, w.inside, cond.le))
        ];
      })
      | inr (inr (inr e)) ↦ absurd (no_call (sym (calls_as b z isz (subst CallsAt e h)) ∙ not_z))
    ];
  }
    where
      where_is : (p : ℕ) → p < b + 1 → (p < t) ⊎ ((p ≡ t) ⊎ (((t + 1 ≤ p) × (p < b)) ⊎ (p ≡ b)))
      where_is p m = elim (cases_lt p t) [
        | inl c ↦ inl c
        | inr c ↦ inr (elim (cases_lt t p) [
          | inr d ↦ inl (omega (arith, c, d))
          | inl d ↦ inr (elim (cases_lt p b) [ inl f ↦ inl (omega (arith, d), f) | inr f ↦ inr (omega (arith, f, m)) ])
        ])
      ]

      at_test : (p q : ℕ) → Jumps code p q → p ≡ t → q ≡ b + 1
      at_test p q h e = some_same q (b + 1) (sym (jumps_as t q x isx (subst (λ p. Jumps code p q) e h)) ∙ out)

      at_end : (p q : ℕ) → Jumps code p q → p ≡ b → q ≡ a
      at_end p q h e = some_same q a (sym (jumps_as b q z isz (subst (λ p. Jumps code p q) e h)) ∙ back)

  pub ends_at : (a b c : ℕ) → b ≡ c → Part a b → Part a c
  ends_at a b c e x = subst (λ n. Part a n) e x

  pub then_line : (a e : ℕ) (ca : List Line) (l : Line) → a + length (ca ++ l ∷ []) ≡ e → jump_of l.instr ≡ None → is_call_down l.instr ≡ false → StandsAt ls a (ca ++ l ∷ []) → Part a (a + length ca) → Part a e
  then_line a e ca l s no_jump not_call h x =
      part_then a (a + length ca) e x (plain (a + length ca) e l (omega (arith, sym s, length-append ca (l ∷ []))) (stands_back ls a ca (l ∷ []) h).0 no_jump not_call)

  pub own_part : (a : ℕ) (ca : List Line) (l m : Line) → jump_of l.instr ≡ None → is_call_down l.instr ≡ false → jump_of m.instr ≡ None → is_call_down m.instr ≡ false → StandsAt ls a (ca ++ l ∷ m ∷ []) → Part a (a + length ca) → Part a (a + length (ca ++ l ∷ m ∷ []))
  own_part a ca l m no_l not_l no_m not_m h x =
      let hb = stands_back ls a ca (l ∷ m ∷ []) h in
      part_then a (a + length ca) _ x (part_then (a + length ca) (a + length ca + 1) _ (plain _ _ l refl hb.0 no_l not_l) (plain (a + length ca + 1) _ m (omega (arith, length-append ca (l ∷ m ∷ []))) hb.1.0 no_m not_m))

  pub child_part : (a : ℕ) (ca : List Line) (l m : Line) → is_tick l.instr ≡ true → jump_of l.instr ≡ None → is_call_down l.instr ≡ false → jump_of m.instr ≡ None → StandsAt ls a (ca ++ l ∷ m ∷ []) → Part a (a + length ca) → Part a (a + length (ca ++ l ∷ m ∷ []))
  child_part a ca l m tick no_l not_l no_m h x =
      let hb = stands_back ls a ca (l ∷ m ∷ []) h in
      ends_at a (a + length ca + 1 + 1) _ (omega (arith, length-append ca (l ∷ m ∷ [])))
      (part_then a (a + length ca) (a + length ca + 1 + 1) x (down_part (a + length ca) l m hb.0 hb.1.0 tick no_l not_l no_m))

  -- of a whole function
  inside : (j i : ℕ) → Jumps code j i → j < length ls
  unfolding code
  inside j i h = at_line (slice_get ls j) refl
    where
      at_line : (o : Option Line) → slice_get ls j ≡ o → j < length ls
      at_line None e = absurd (none_not (sym (ap (option_and_then jump_of) (slice_get-map (λ (l : Line). l.instr) ls j ∙ ap (option_map (λ (l : Line). l.instr)) e)) ∙ h))
      at_line (Some l) e = slice_get_within ls j l e

  pub whole_loops : Part 0 (length ls) → (j i : ℕ) → Jumps code j i → i ≤ j → (k : ℕ) × IsTicked code j i k
  whole_loops x j i h le =
      let m = inside j i h in
      let w = x.loops j i h le (omega arith) m in
      (w.0, record { from = w.1.from; to = w.1.to; tick = w.1.tick; passes = w.1.passes; enters = λ p q g o. w.1.enters p q g (omega arith) (inside p q g) o })

  pub whole_calls : Part 0 (length ls) → (n : ℕ) (k : Instr) → slice_get code n ≡ Some k → is_call_down k ≡ true → IsTickedCall code n
  unfolding code CallsAt
  whole_calls x n k is call = at_line (slice_get ls n) refl
    where
      at_line : (o : Option Line) → slice_get ls n ≡ o → IsTickedCall code n
      at_line None e = absurd (none_not (sym (slice_get-map (λ (l : Line). l.instr) ls n ∙ ap (option_map (λ (l : Line). l.instr)) e) ∙ is))
      at_line (Some l) e =
          let w = x.calls n (k, is, call) (omega arith) (slice_get_within ls n l e) in
          record { tick = w.tick; no_jump = λ j h. w.no_jump j (omega arith) (inside j n h) h }
