-- What a reader with one token of sight has to do with a part of the grammar.
use Rattle.std.proofs.Common.{◌≡◌, ℕ, suc, ◌<◌, ◌≤◌, List, [], ◌∷◌, ◌++◌, length, Ok, Err, Bool, true, false, refl, sym, ◌∙◌, ap, subst, arith, append_assoc, append-nil}
use Rattle.mace_lexer.specs.declared.token.Token.{Token}
use Rattle.mace_grammar.specs.declared.class.Class.{Class}
use Rattle.mace_grammar.specs.inner.Run.{Outcome, Reader, rest_of, has, sees}
use Rattle.mace_grammar.proofs.Same.{Same}
use Rattle.mace_grammar.specs.Part.{Part}
use Rattle.mace_grammar.proofs.ClassSets.{disjoint, has-left, has_not, apart, subset, subset_has, subset_not, if_empty}
use Rattle.mace_grammar.proofs.Outcomes.{left, rest_shorter}

module _ (class : Token → Class) where
  -- how a spelling can begin
  abbrev pub Heads : List Class → Bool → List Token → Type 0
  Heads first empty [] = empty ≡ true
  Heads first empty (t ∷ ts) = has first (class t) ≡ true

  -- What the reader reads is spelled by small, and where it is stuck the words before are begun by small. Of fewer than m words it reads
  -- what is spelled by large, if no token follows that goes on with it, and passes all that large begins. A front of what begins large begins it.
  pub record Reads {A : Type 0} (m : ℕ) (small large : Part A) (run : Reader A) (first : List Class) (empty : Bool) (goes_on : List Class) : Type 0 where
    pub sound : (ts rest : List Token) (a : A) → run ts ≡ Ok (a, rest) → (front : List Token) × (ts ≡ front ++ rest) × small.Spells a front
    pub stuck : (ts rest : List Token) → run ts ≡ Err rest → (front : List Token) × (ts ≡ front ++ rest) × small.Begins front
    pub none : large.Begins []
    pub begun : (a : A) (front : List Token) → large.Spells a front → large.Begins front
    pub heads : (a : A) (front : List Token) → large.Spells a front → Heads first empty front
    pub starts : (front : List Token) → large.Begins front → Heads first true front
    pub complete : (a : A) (front rest : List Token) → length (front ++ rest) < m → large.Spells a front → sees class goes_on rest ≡ false → run (front ++ rest) ≡ Ok (a, rest)
    pub reach : (front rest : List Token) → length (front ++ rest) < m → large.Begins front → left (run (front ++ rest)) ≤ length rest
    pub closed : (front back : List Token) → large.Begins (front ++ back) → large.Begins front

  pub shorter : {A : Type 0} (m : ℕ) (p p' : Part A) (run : Reader A) (f : List Class) (e : Bool) (g : List Class) → Reads m p p' run f e g → (ts : List Token) → left (run ts) ≤ length ts
  shorter {A = A} m p p' run f e g r ts = go (run ts) refl
    where
      go : (o : Outcome A) → run ts ≡ o → left o ≤ length ts
      go (Ok x) h = let s = r.sound ts x.1 x.0 h in rest_shorter ts s.0 x.1 s.1
      go (Err x) h = let s = r.stuck ts x h in rest_shorter ts s.0 x s.1

  -- nothing goes on with the first part where the second stands, or where it is empty and what follows doesn't go on
  pub held : (f g g' : List Class) (d : Bool) (v rest : List Token) → disjoint f g ≡ true → Heads f d v → sees class (g' ++ if_empty d g) rest ≡ false → sees class g (v ++ rest) ≡ false
  held f g g' d (t ∷ v) rest x h s = apart f g (class t) x h
  held f g g' true [] [] x h s = refl
  held f g g' true [] (t ∷ rest) x h s = (has_not g' g (class t) s).1
  held f g g' false [] rest x h s = cc

  pub less_sees : (f g : List Class) (rest : List Token) → sees class (f ++ g) rest ≡ false → (sees class f rest ≡ false) × (sees class g rest ≡ false)
  less_sees f g [] e = (refl, refl)
  less_sees f g (t ∷ rest) e = has_not f g (class t) e

  pub more_heads : (f g : List Class) (u : List Token) → Heads f true u → Heads (f ++ g) true u
  more_heads f g [] h = refl
  more_heads f g (t ∷ u) h = has-left f g (class t) h

  -- ---- another form of a part, larger sets, and another reader

  pub reads_same : {A : Type 0} (m : ℕ) (p p' q q' : Part A) (run : Reader A) (f g : List Class) (e : Bool) → Same p q → Same p' q' → Reads m p p' run f e g → Reads m q q' run f e g
  reads_same m p p' q q' run f g e S S' P = record {
    sound = λ ts rest a h. let s = P.sound ts rest a h in (s.0, s.1, S.spells a s.0 s.2);
    stuck = λ ts rest h. let s = P.stuck ts rest h in (s.0, s.1, S.begins s.0 s.2);
    none = S'.begins [] P.none;
    begun = λ a front s. S'.begins front (P.begun a front (S'.spells_back a front s));
    heads = λ a front s. P.heads a front (S'.spells_back a front s);
    starts = λ front b. P.starts front (S'.begins_back front b);
    complete = λ a front rest l s k. P.complete a front rest l (S'.spells_back a front s) k;
    reach = λ front rest l b. P.reach front rest l (S'.begins_back front b);
    closed = λ front back b. S'.begins front (P.closed front back (S'.begins_back (front ++ back) b));
  }

  wide_heads : (f f' : List Class) (e : Bool) (u : List Token) → subset f f' ≡ true → Heads f e u → Heads f' e u
  wide_heads f f' e [] h k = k
  wide_heads f f' e (t ∷ u) h k = subset_has f f' (class t) h k

  wide_sees : (g g' : List Class) (u : List Token) → subset g g' ≡ true → sees class g' u ≡ false → sees class g u ≡ false
  wide_sees g g' [] h k = refl
  wide_sees g g' (t ∷ u) h k = subset_not g g' (class t) h k

  -- larger sets do as well
  pub wider : {A : Type 0} {m : ℕ} {p p' : Part A} {run : Reader A} {f f' goes goes' : List Class} {e : Bool} → Reads m p p' run f e goes → subset f f' ≡ true → subset goes goes' ≡ true → Reads m p p' run f' e goes'
  wider {f = f} {f' = f'} {goes = goes} {goes' = goes'} {e = e} P x y = record {
    sound = P.sound;
    stuck = P.stuck;
    none = P.none;
    begun = P.begun;
    heads = λ a front s. wide_heads f f' e front x (P.heads a front s);
    starts = λ front b. wide_heads f f' true front x (P.starts front b);
    complete = λ a front rest l s k. P.complete a front rest l s (wide_sees goes goes' rest y k);
    reach = P.reach;
    closed = P.closed;
  }

  -- another reader that does the same
  pub another : {A : Type 0} {m : ℕ} {p p' : Part A} {run run' : Reader A} {f goes : List Class} {e : Bool} → Reads m p p' run f e goes → ((ts : List Token) → run ts ≡ run' ts) → Reads m p p' run' f e goes
  another {p = p} {p' = p'} {run = run} {run' = run'} P same = record {
    sound = λ ts rest a h. P.sound ts rest a (same ts ∙ h);
    stuck = λ ts rest h. P.stuck ts rest (same ts ∙ h);
    none = P.none;
    begun = P.begun;
    heads = P.heads;
    starts = P.starts;
    complete = λ a front rest l s k. sym (same (front ++ rest)) ∙ P.complete a front rest l s k;
    reach = λ front rest l b. subst (λ o. left o ≤ length rest) (same (front ++ rest)) (P.reach front rest l b);
    closed = P.closed;
  }

  -- ---- the verdict on a whole list of tokens

  module _ {A : Type 0} (p : Part A) (run : Reader A) (f goes : List Class) (e : Bool) (ts : List Token) (R : Reads (suc (length ts)) p p run f e goes) where
    -- what is spelled is read
    pub whole_only : (a : A) → p.Spells a ts → run ts ≡ Ok (a, [])
    whole_only a s = subst (λ w. run w ≡ Ok (a, [])) (append-nil ts) (R.complete a ts [] (omega (arith, ap length (append-nil ts))) s refl)

    pub whole_found : (a : A) → run ts ≡ Ok (a, []) → p.Spells a ts
    whole_found a e = let s = R.sound ts [] a e in subst (λ w. p.Spells a w) (sym (s.1 ∙ append-nil s.0)) s.2

    -- the tokens before the place begin the part
    pub front_begins : (o : Outcome A) → run ts ≡ o → (rest : List Token) → rest ≡ rest_of o → (front : List Token) × (ts ≡ front ++ rest) × p.Begins front
    front_begins (Ok x) e rest k = let s = R.sound ts x.1 x.0 e in (s.0, rw k s.1, R.begun x.0 s.0 s.2)
    front_begins (Err r) e rest k = let s = R.stuck ts r e in (s.0, rw k s.1, s.2)

    -- and with the token at the place they don't
    pub front_ends : (front : List Token) (t : Token) (rest : List Token) → ts ≡ front ++ (t ∷ rest) → left (run ts) ≡ suc (length rest) → p.Begins (front ++ (t ∷ [])) → ⊥
    front_ends front t rest e l b =
        let w : ts ≡ (front ++ (t ∷ [])) ++ rest = e ∙ sym (append_assoc front (t ∷ []) rest) in
        let r = R.reach (front ++ (t ∷ [])) rest (omega (arith, ap length w)) b in
        let l2 = ap (λ z. left (run z)) w in
        omega (arith, r, l2, l)

-- ---- another way to tell tokens apart, which tells the first tokens alike

module _ (class class' : Token → Class) {A : Type 0} (m : ℕ) (p p' : Part A) (run : Reader A) (f : List Class) (same : (t : Token) → has f (class t) ≡ has f (class' t)) (R : Reads class m p p' run f false []) where
  heads_classed : (e : Bool) (front : List Token) → Heads class f e front → Heads class' f e front
  heads_classed e [] h = h
  heads_classed e (t ∷ ts) h = sym (same t) ∙ h

  sees_nothing : (rest : List Token) → sees class [] rest ≡ false
  sees_nothing [] = refl
  sees_nothing (t ∷ rest) = refl

  pub reads_classed : Reads class' m p p' run f false []
  reads_classed = record {
    sound = R.sound;
    stuck = R.stuck;
    none = R.none;
    begun = R.begun;
    heads = λ a front s. heads_classed false front (R.heads a front s);
    starts = λ front b. heads_classed true front (R.starts front b);
    complete = λ a front rest l s k. R.complete a front rest l s (sees_nothing rest);
    reach = R.reach;
    closed = R.closed;
  }
