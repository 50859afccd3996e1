-- The first pass keeps the rule, and so do passes that are joined and split.
use Rattle.std.proofs.Common.{◌≡◌, ◌≢◌, ◌⊎◌, ℕ, ◌+◌, ◌%◌, ◌<◌, ◌≤◌, List, [], ◌∷◌, ◌++◌, length, get_or, set, Some, None, sym, refl, ap, ◌∙◌, subst, ⊎_elim, arith, le_refl}
use Rattle.std.specs.Prelude.{Option}
use Rattle.std.proofs.lemmas.List.Elements.{All-nil}
use mathlib.Core.Option.{some}
use lib.ListN.{get_elem?}
use Rattle.atomic_table.specs.Table.{State, opening, Splits, Joins}
use Rattle.atomic_table.proofs.Lists.{at_set, set_else, at_longer}
use Rattle.kept_lock.specs.declared.view.View.{View}
use Rattle.kept_lock.specs.declared.view.Account.{Account}
use Rattle.kept_lock.specs.declared.view.Place.TheVariants.{Outside}
use Rattle.kept_lock.specs.Rule.{first_view, spent_view, Has, Fits, Keeps}
use Rattle.kept_lock.specs.Plays.{split_left, split_right, told_of}
use Rattle.kept_lock.proofs.Entries.{starts_nil, at_end, at_one}
use Rattle.kept_lock.proofs.Growing.{Without, accounts_both, outside_closing, without_both}
use Rattle.kept_lock.proofs.Growing

module _ {V N E : Type 0} (history : V → List E) (owner : E → ℕ) (stands : V → N → Type 0) where
  abbrev W : Type 0
  W = View N E

  abbrev St : Type 0
  St = State (Option V) W

  abbrev Rule : N → St → Type 0
  Rule = Keeps history owner stands

  abbrev word : St → ℕ
  word s = get_or s.words 0 0

  abbrev Aside : (s : St) (holder id : ℕ) → Type 0
  Aside = Growing.Aside history owner stands

  abbrev aside : (key : N) (s : St) (r : Rule key s) (id : ℕ) (v : W) → get_elem? s.views id ≡ some v → v.place ≡ Outside → word s % 2 ≡ 1 → Aside s r.holder id
  aside = Growing.aside history owner stands

  pub opens : (key : N) (y : V) → stands y key → history y ≡ [] → Rule key (opening (0 ∷ []) (Some y ∷ []) (first_view key))
  opens key y is none_yet = let v : W = first_view key in record {
    history = [];
    holder = 0;
    one_word = refl;
    one_slot = refl;
    fits = λ j u h. let t = at_one v u j h.0 in subst (λ (z : ℕ × W). Fits owner key [] 0 0 z.0 z.1) (λ i. (sym t.0 i, t.1 i)) (record {
      named = refl;
      agrees = (starts_nil [], refl);
      accounts = All-nil _;
      told = starts_nil [];
      inside = λ ne. absurd (ne refl);
    });
    apart = λ i j u w g h _. (at_one v u i g.0).0 ∙ sym (at_one v w j h.0).0;
    retired = λ i j u w g h. subst (λ (z : W). Without w.known.number z.known.accounts) (at_one v u i g.0).1 (All-nil _);
    unused = λ i u h _ n l. let p : u.known.passes ≡ 1 = sym (ap (λ (z : W). z.known.passes) (at_one v u i h.0).1) in record {
      entries = refl;
      live = λ j w g same. let q : w.known.number ≡ 0 = sym (ap (λ (z : W). z.known.number) (at_one v w j g.0).1) in absurd (omega arith);
      spent = λ j w g. subst (λ (z : W). Without n z.known.accounts) (at_one v w j g.0).1 (All-nil _);
    };
    home = λ _. (y, refl, is, none_yet);
    closing = λ j u h c. absurd (outside_closing (ap (λ (z : W). z.place) (at_one v u j h.0).1 ∙ c));
    held = λ odd. absurd (omega arith);
  }

  -- the view that a pass had before a join, in which w was joined to one
  record BehindJoin (views : List W) (w : W) (j : ℕ) (u : W) : Type 0 where
    old : W
    has : Has views j old
    number : old.known.number ≡ u.known.number
    passes : old.known.passes ≡ u.known.passes
    without : (n : ℕ) → Without n old.known.accounts → w.known.number ≢ n → Without n w.known.accounts → Without n u.known.accounts

  pub joins : (key : N) (id : ℕ) (v : W) (other : ℕ) (w : W) → v.name ≡ Some key → v.place ≡ Outside → w.name ≡ Some key → w.place ≡ Outside
      → Joins (Rule key) id v other w (told_of v w) spent_view
  joins key id v other w named out named' out' s r at apart there =
      let b : W = told_of v w in let vs : List W = set s.views id b in
      let has : Has s.views id v = (at, (key, named)) in
      let theirs : Has s.views other w = (sym (set_else s.views id other b apart) ∙ there, (key, named')) in
      let f = r.fits id v has in let f' = r.fits other w theirs in
      let left : (j : ℕ) (u : W) → Has (set vs other spent_view) j u → (j ≢ other) × (get_elem? vs j ≡ some u) = λ j u h. ⊎_elim
      (λ (t : (j ≡ other) × (spent_view ≡ u)). absurd (let p : None ≡ Some h.1.0 = ap (λ (z : W). z.name) t.1 ∙ h.1.1 in cc))
      (λ (t : (j ≢ other) × (get_elem? vs j ≡ some u)). t)
      (at_set vs other j spent_view u h.0) in
      let was : (j : ℕ) (u : W) → Has (set vs other spent_view) j u → BehindJoin s.views w j u = λ j u h. ⊎_elim
      (λ (t : (j ≡ id) × (b ≡ u)). record {
        old = v;
        has = (subst (λ (z : ℕ). get_elem? s.views z ≡ some v) (sym t.0) at, (key, named));
        number = ap (λ (z : W). z.known.number) t.1;
        passes = ap (λ (z : W). z.known.passes) t.1;
        without = λ n own not theirs'. subst (λ (z : W). Without n z.known.accounts) t.1 (without_both n v.known w.known own not theirs');
      })
      (λ (t : (j ≢ id) × (get_elem? s.views j ≡ some u)). record { old = u; has = (t.1, h.1); number = refl; passes = refl; without = λ n own _ _. own })
      (at_set s.views id j b u (left j u h).1) in
      let alone : (j : ℕ) (u : W) → Has (set vs other spent_view) j u → w.known.number ≢ u.known.number = λ j u h same. let p = was j u h in
      (left j u h).0 (r.apart j other p.old w p.has theirs (p.number ∙ sym same)) in record {
        history = r.history;
        holder = r.holder;
        one_word = r.one_word;
        one_slot = r.one_slot;
        fits = λ j u h. ⊎_elim
            (λ (t : (j ≡ id) × (b ≡ u)). subst (λ (z : ℕ × W). Fits owner key r.history (word s) r.holder z.0 z.1) (λ i. (sym t.0 i, t.1 i)) (record {
              named = named;
              agrees = f.agrees;
              accounts = accounts_both owner r.history v.known w.known f.accounts f'.agrees.1 f'.accounts;
              told = f'.agrees.0;
              inside = λ o. absurd (o out);
            }))
            (λ (t : (j ≢ id) × (get_elem? s.views j ≡ some u)). r.fits j u (t.1, h.1))
            (at_set s.views id j b u (left j u h).1);
        apart = λ i j u z g h same. let p = was i u g in let q = was j z h in r.apart i j p.old q.old p.has q.has (p.number ∙ same ∙ sym q.number);
        retired = λ i j u z g h. let p = was i u g in let q = was j z h in p.without z.known.number
            (subst (λ (n : ℕ). Without n p.old.known.accounts) q.number (r.retired i j p.old q.old p.has q.has))
            (alone j z h)
            (subst (λ (n : ℕ). Without n w.known.accounts) q.number (r.retired other j w q.old theirs q.has));
        unused = λ i u g none m l. let p = was i u g in let n = r.unused i p.old p.has (p.number ∙ none) m (subst (λ (z : ℕ). z ≤ m) (sym p.passes) l) in record {
          entries = n.entries;
          live = λ j z h. let q = was j z h in λ same. n.live j q.old q.has (q.number ∙ same);
          spent = λ j z h. let q = was j z h in q.without m (n.spent j q.old q.has) (n.live other w theirs) (n.spent other w theirs);
        };
        home = r.home;
        closing = λ j u h c. ⊎_elim
            (λ (t : (j ≡ id) × (b ≡ u)). absurd (outside_closing (sym out ∙ (ap (λ (z : W). z.place) t.1 ∙ c))))
            (λ (t : (j ≢ id) × (get_elem? s.views j ≡ some u)). r.closing j u (t.1, h.1) c)
            (at_set s.views id j b u (left j u h).1);
        held = λ odd. let h = aside key s r id v at out odd in let h' = aside key s r other w theirs.0 out' odd in
            (h.view, (set_else vs other r.holder spent_view h'.other ∙ (set_else s.views id r.holder b h.other ∙ h.has.0), h.has.1), h.out);
      }

  pub splits : (key : N) (id : ℕ) (v : W) → v.name ≡ Some key → v.place ≡ Outside → v.known.number ≡ 0 → Splits (Rule key) id v (split_left v) (split_right v)
  splits key id v named out first s r at =
      let a : W = split_left v in let b : W = split_right v in let vs : List W = set s.views id a in
      let has : Has s.views id v = (at, (key, named)) in let f = r.fits id v has in
      let free = r.unused id v has first v.known.passes (le_refl v.known.passes) in
      let place : (j : ℕ) (u : W) → get_elem? (vs ++ b ∷ []) j ≡ some u → (get_elem? vs j ≡ some u) ⊎ ((j ≡ length vs) × (b ≡ u)) = λ j u e. at_end vs b u j e in
      -- of an old pass all but the count is as it was
      let old : (j : ℕ) (u : W) → Has vs j u → (o : W) × Has s.views j o × (o.known.number ≡ u.known.number) × (o.known.accounts ≡ u.known.accounts) = λ j u h. ⊎_elim
      (λ (t : (j ≡ id) × (a ≡ u)). (v, (subst (λ (z : ℕ). get_elem? s.views z ≡ some v) (sym t.0) at, (key, named)), ap (λ (z : W). z.known.number) t.1, ap (λ (z : W). z.known.accounts) t.1))
      (λ (t : (j ≢ id) × (get_elem? s.views j ≡ some u)). (u, (t.1, h.1), refl, refl))
      (at_set s.views id j a u h.0) in
      let fresh : (j : ℕ) (u : W) → Has vs j u → u.known.number ≢ v.known.passes = λ j u h same. let o = old j u h in free.live j o.0 o.1 (o.2 ∙ same) in record {
        history = r.history;
        holder = r.holder;
        one_word = r.one_word;
        one_slot = r.one_slot;
        fits = λ j u h. ⊎_elim
            (λ t. ⊎_elim
            (λ (x : (j ≡ id) × (a ≡ u)). subst (λ (z : ℕ × W). Fits owner key r.history (word s) r.holder z.0 z.1) (λ i. (sym x.0 i, x.1 i)) (record { named = named; agrees = f.agrees; accounts = f.accounts; told = f.told; inside = f.inside }))
            (λ (x : (j ≢ id) × (get_elem? s.views j ≡ some u)). r.fits j u (x.1, h.1))
            (at_set s.views id j a u t))
            (λ (x : (j ≡ length vs) × (b ≡ u)). subst (λ (z : W). Fits owner key r.history (word s) r.holder j z) x.1 (record {
              named = named;
              agrees = (f.agrees.0, free.entries);
              accounts = All-nil _;
              told = starts_nil r.history;
              inside = λ o. absurd (o refl);
            }))
            (place j u h.0);
        apart = λ i j u w g h same. ⊎_elim
            (λ t. ⊎_elim
            (λ t'. let p = old i u (t, g.1) in let q = old j w (t', h.1) in r.apart i j p.0 q.0 p.1 q.1 (p.2 ∙ same ∙ sym q.2))
            (λ (x : (j ≡ length vs) × (b ≡ w)). absurd (fresh i u (t, g.1) (same ∙ sym (ap (λ (z : W). z.known.number) x.1))))
            (place j w h.0))
            (λ (x : (i ≡ length vs) × (b ≡ u)). ⊎_elim
            (λ t'. absurd (fresh j w (t', h.1) (sym same ∙ sym (ap (λ (z : W). z.known.number) x.1))))
            (λ (y : (j ≡ length vs) × (b ≡ w)). x.0 ∙ sym y.0)
            (place j w h.0))
            (place i u g.0);
        retired = λ i j u w g h. ⊎_elim
            (λ t. let p = old i u (t, g.1) in subst (λ (z : List (Account E)). Without w.known.number z) p.3 (⊎_elim
            (λ t'. let q = old j w (t', h.1) in subst (λ (n : ℕ). Without n p.0.known.accounts) q.2 (r.retired i j p.0 q.0 p.1 q.1))
            (λ (y : (j ≡ length vs) × (b ≡ w)). subst (λ (z : W). Without z.known.number p.0.known.accounts) y.1 (free.spent i p.0 p.1))
            (place j w h.0)))
            (λ (x : (i ≡ length vs) × (b ≡ u)). subst (λ (z : W). Without w.known.number z.known.accounts) x.1 (All-nil _))
            (place i u g.0);
        unused = λ i u g none m l. ⊎_elim
            (λ t. ⊎_elim
            (λ (x : (i ≡ id) × (a ≡ u)). let up : u.known.passes ≡ v.known.passes + 1 = sym (ap (λ (z : W). z.known.passes) x.1) in let past : v.known.passes < m = omega arith in
            let n = r.unused id v has first m (omega arith) in record {
              entries = n.entries;
              live = λ j w h. ⊎_elim
                  (λ t'. let q = old j w (t', h.1) in λ same. n.live j q.0 q.1 (q.2 ∙ same))
                  (λ (y : (j ≡ length vs) × (b ≡ w)). λ same. let z : v.known.passes ≡ w.known.number = ap (λ (z : W). z.known.number) y.1 in absurd (omega arith))
                  (place j w h.0);
              spent = λ j w h. ⊎_elim
                  (λ t'. let q = old j w (t', h.1) in subst (λ (z : List (Account E)). Without m z) q.3 (n.spent j q.0 q.1))
                  (λ (y : (j ≡ length vs) × (b ≡ w)). subst (λ (z : W). Without m z.known.accounts) y.1 (All-nil _))
                  (place j w h.0);
            })
            (λ (x : (i ≢ id) × (get_elem? s.views i ≡ some u)). absurd (x.0 (r.apart i id u v (x.1, g.1) has (none ∙ sym first))))
            (at_set s.views id i a u t))
            (λ (x : (i ≡ length vs) × (b ≡ u)). let z : v.known.passes ≡ u.known.number = ap (λ (z : W). z.known.number) x.1 in let some_passes = free.live id v has in absurd (omega arith))
            (place i u g.0);
        home = r.home;
        closing = λ j u h c. ⊎_elim
            (λ t. ⊎_elim
            (λ (x : (j ≡ id) × (a ≡ u)). absurd (outside_closing (sym out ∙ (ap (λ (z : W). z.place) x.1 ∙ c))))
            (λ (x : (j ≢ id) × (get_elem? s.views j ≡ some u)). r.closing j u (x.1, h.1) c)
            (at_set s.views id j a u t))
            (λ (x : (j ≡ length vs) × (b ≡ u)). absurd (outside_closing (ap (λ (z : W). z.place) x.1 ∙ c)))
            (place j u h.0);
        held = λ odd. let h = aside key s r id v at out odd in
            (h.view, (at_longer vs (b ∷ []) r.holder h.view (set_else s.views id r.holder a h.other ∙ h.has.0), h.has.1), h.out);
      }
