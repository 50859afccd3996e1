-- What the rule says of the other passes stays true where one pass makes the history grow.
use Rattle.std.proofs.Common.{◌≡◌, ◌≢◌, ℕ, ◌%◌, ◌≤◌, List, [], ◌++◌, length, get_or, set, sym, refl, ap, ◌∙◌, subst, ⊎_elim, arith, length-set, get_or-set_same}
use Rattle.std.specs.Prelude.{Option, All}
use Rattle.std.proofs.lemmas.List.{append-nil}
use Rattle.std.proofs.lemmas.List.Elements.{All-nil, All-cons, All-append}
use mathlib.Core.Option.{some, none, some-injective}
use lib.ListN.{get_elem?}
use Rattle.atomic_table.specs.Table.{State}
use Rattle.atomic_table.proofs.Lists.{at_set, set_again}
use Rattle.kept_lock.specs.declared.view.View.{View}
use Rattle.kept_lock.specs.declared.view.Known.{Known}
use Rattle.kept_lock.specs.declared.view.Account.{Account}
use Rattle.kept_lock.specs.declared.view.Place.{Place}
use Rattle.kept_lock.specs.declared.view.Place.TheVariants.{Outside, Inside, Closing}
use Rattle.kept_lock.specs.History.{entries_of}
use Rattle.kept_lock.specs.Knowing.{Accounts, account_of, with_accounts}
use Rattle.kept_lock.specs.Rule.{Has, Fits, IsHome, Keeps}
use Rattle.kept_lock.proofs.Entries.{grown_none, grown_accounts, starts_longer, word_at}

-- no account is of this pass
abbrev pub Without : {E : Type 0} → ℕ → List (Account E) → Type 0
Without {E} number accounts = All (λ (a : Account E). a.number ≢ number) accounts

-- the accounts of two passes, once one is joined to the other
pub without_both : {E : Type 0} → (n : ℕ) (v w : Known E) → Without n v.accounts → w.number ≢ n → Without n w.accounts → Without n (with_accounts v w).accounts
without_both {E} n v w own not theirs = let P : Account E → Type 0 = λ a. a.number ≢ n in
    All-cons P (account_of w) (w.accounts ++ v.accounts) not (All-append P w.accounts v.accounts theirs own)

pub accounts_both : {E : Type 0} → (owner : E → ℕ) (log : List E) (v w : Known E) → Accounts owner v log → entries_of owner w.number log ≡ w.made → Accounts owner w log → Accounts owner (with_accounts v w) log
accounts_both {E} owner log v w own made theirs = let P : Account E → Type 0 = λ a. entries_of owner a.number log ≡ a.made in
    All-cons P (account_of w) (w.accounts ++ v.accounts) made (All-append P w.accounts v.accounts theirs own)

pub not_outside : (p q : Place) → p ≡ q → q ≢ Outside → p ≢ Outside
not_outside p q e n o = n (sym e ∙ o)

pub inside_out : Inside ≢ Outside
inside_out e = cc

pub closing_out : Closing ≢ Outside
closing_out e = cc

pub inside_closing : Inside ≢ Closing
inside_closing e = cc

pub outside_closing : Outside ≢ Closing
outside_closing e = cc

module _ {V N E : Type 0} (history : V → List E) (owner : E → ℕ) (stands : V → N → Type 0) where
  abbrev pub W : Type 0
  W = View N E

  abbrev pub St : Type 0
  St = State (Option V) W

  abbrev pub Rule : N → St → Type 0
  Rule = Keeps history owner stands

  abbrev pub Homes : Type 0
  Homes = List (mathlib.Core.Option.Option (Option V))

  abbrev pub Home : N → List E → Homes → Type 0
  Home = IsHome history stands

  abbrev pub word : St → ℕ
  word s = get_or s.words 0 0

  -- the view that a pass had before a step, with the same number, count and accounts
  record Behind (views : List W) (j : ℕ) (u : W) : Type 0 where
    old : W
    has : Has views j old
    number : old.known.number ≡ u.known.number
    passes : old.known.passes ≡ u.known.passes
    accounts : old.known.accounts ≡ u.known.accounts

  behind_set : (views : List W) (id : ℕ) (v w : W) → Has views id v → w.known.number ≡ v.known.number → w.known.passes ≡ v.known.passes → w.known.accounts ≡ v.known.accounts
      → (j : ℕ) (u : W) → Has (set views id w) j u → Behind views j u
  behind_set views id v w at number passes accounts j u h = ⊎_elim
      (λ (t : (j ≡ id) × (w ≡ u)). record {
        old = v;
        has = (subst (λ (z : ℕ). get_elem? views z ≡ some v) (sym t.0) at.0, at.1);
        number = sym number ∙ ap (λ (z : W). z.known.number) t.1;
        passes = sym passes ∙ ap (λ (z : W). z.known.passes) t.1;
        accounts = sym accounts ∙ ap (λ (z : W). z.known.accounts) t.1;
      })
      (λ (t : (j ≢ id) × (get_elem? views j ≡ some u)). record { old = u; has = (t.1, h.1); number = refl; passes = refl; accounts = refl })
      (at_set views id j w u h.0)

  -- what the rule says of the other passes stays true where the history grows by entries of one
  still_fits : (key : N) (s : St) (r : Rule key s) (more : List E) (id : ℕ) (v : W) (x holder j : ℕ) (u : W)
      → All (λ e. owner e ≡ v.known.number) more → Has s.views id v → j ≢ id → Has s.views j u
      → (u.place ≢ Outside → (x % 2 ≡ 1) × (j ≡ holder) × (u.known.seen ≡ r.history ++ more))
      → Fits owner key (r.history ++ more) x holder j u
  still_fits key s r more id v x holder j u own at other has inside =
      let f = r.fits j u has in
      let apart : v.known.number ≢ u.known.number = λ same. other (r.apart j id u v has at (sym same)) in record {
        named = f.named;
        agrees = (starts_longer r.history more u.known.seen f.agrees.0, grown_none owner v.known.number u.known.number r.history more apart own ∙ f.agrees.1);
        accounts = grown_accounts owner v.known.number r.history more u.known.accounts own (r.retired j id u v has at) f.accounts;
        told = starts_longer r.history more u.told f.told;
        inside = inside;
      }

  -- the table after a step of the pass id, in which the history may grow by entries of that pass
  pub grown_rule : (key : N) (s : St) (r : Rule key s) (id : ℕ) (v w : W) (x : ℕ) (homes : Homes) (more : List E) (holder : ℕ)
      → Has s.views id v
      → w.known.number ≡ v.known.number → w.known.passes ≡ v.known.passes → w.known.accounts ≡ v.known.accounts
      → All (λ e. owner e ≡ v.known.number) more
      → length homes ≡ 1
      → Fits owner key (r.history ++ more) x holder id w
      → ((j : ℕ) (u : W) → j ≢ id → Has s.views j u → u.place ≢ Outside → (x % 2 ≡ 1) × (j ≡ holder) × (u.known.seen ≡ r.history ++ more))
      → (x % 2 ≡ 0 → Home key (r.history ++ more) homes)
      → (w.place ≡ Closing → Home key (r.history ++ more) homes)
      → ((j : ℕ) (u : W) → j ≢ id → Has s.views j u → u.place ≡ Closing → Home key (r.history ++ more) homes)
      → (x % 2 ≡ 1 → (u : W) × Has (set s.views id w) holder u × (u.place ≢ Outside))
      → Rule key (record { words = set s.words 0 x; homes = homes; views = set s.views id w })
  grown_rule key s r id v w x homes more holder at number passes accounts own slot mine others at_home shut shut_others held =
      let s' : St = record { words = set s.words 0 x; homes = homes; views = set s.views id w } in
      let here : word s' ≡ x = get_or-set_same s.words 0 x 0 (let o = r.one_word in omega arith) in
      let parity : word s' % 2 ≡ x % 2 = ap (λ (z : ℕ). z % 2) here in
      let was : (j : ℕ) (u : W) → Has s'.views j u → Behind s.views j u = behind_set s.views id v w at number passes accounts in record {
        history = r.history ++ more;
        holder = holder;
        one_word = length-set s.words 0 x ∙ r.one_word;
        one_slot = slot;
        fits = λ j u h. subst (λ (z : ℕ). Fits owner key (r.history ++ more) z holder j u) (sym here) (⊎_elim
            (λ (t : (j ≡ id) × (w ≡ u)). subst (λ (z : ℕ × W). Fits owner key (r.history ++ more) x holder z.0 z.1) (λ i. (sym t.0 i, t.1 i)) mine)
            (λ (t : (j ≢ id) × (get_elem? s.views j ≡ some u)). still_fits key s r more id v x holder j u own at t.0 (t.1, h.1) (others j u t.0 (t.1, h.1)))
            (at_set s.views id j w u h.0));
        apart = λ i j u z g h same. let p = was i u g in let q = was j z h in r.apart i j p.old q.old p.has q.has (p.number ∙ same ∙ sym q.number);
        retired = λ i j u z g h. let p = was i u g in let q = was j z h in
            subst (λ (t : ℕ × List (Account E)). Without t.0 t.1) (λ i. (q.number i, p.accounts i)) (r.retired i j p.old q.old p.has q.has);
        unused = λ i u g none m l. let p = was i u g in let n = r.unused i p.old p.has (p.number ∙ none) m (subst (λ (z : ℕ). z ≤ m) (sym p.passes) l) in record {
          entries = grown_none owner v.known.number m r.history more (n.live id v at) own ∙ n.entries;
          live = λ j z h. let q = was j z h in λ same. n.live j q.old q.has (q.number ∙ same);
          spent = λ j z h. let q = was j z h in subst (λ (t : List (Account E)). Without m t) q.accounts (n.spent j q.old q.has);
        };
        home = λ even. at_home (sym parity ∙ even);
        closing = λ j u h c. ⊎_elim
            (λ (t : (j ≡ id) × (w ≡ u)). shut (ap (λ (z : W). z.place) t.1 ∙ c))
            (λ (t : (j ≢ id) × (get_elem? s.views j ≡ some u)). shut_others j u t.0 (t.1, h.1) c)
            (at_set s.views id j w u h.0);
        held = λ odd. held (sym parity ∙ odd);
      }

  -- the same where the history stays
  pub moved_rule : (key : N) (s : St) (r : Rule key s) (id : ℕ) (v w : W) (x : ℕ) (homes : Homes) (holder : ℕ)
      → Has s.views id v
      → w.known.number ≡ v.known.number → w.known.passes ≡ v.known.passes → w.known.accounts ≡ v.known.accounts
      → length homes ≡ 1
      → Fits owner key r.history x holder id w
      → ((j : ℕ) (u : W) → j ≢ id → Has s.views j u → u.place ≢ Outside → (x % 2 ≡ 1) × (j ≡ holder) × (u.known.seen ≡ r.history))
      → (x % 2 ≡ 0 → Home key r.history homes)
      → (w.place ≡ Closing → Home key r.history homes)
      → ((j : ℕ) (u : W) → j ≢ id → Has s.views j u → u.place ≡ Closing → Home key r.history homes)
      → (x % 2 ≡ 1 → (u : W) × Has (set s.views id w) holder u × (u.place ≢ Outside))
      → Rule key (record { words = set s.words 0 x; homes = homes; views = set s.views id w })
  moved_rule key s r id v w x homes holder at number passes accounts slot mine others at_home shut shut_others held =
      let whole : r.history ≡ r.history ++ [] = sym (append-nil r.history) in
      grown_rule key s r id v w x homes [] holder at number passes accounts (All-nil _) slot
      (subst (λ l. Fits owner key l x holder id w) whole mine)
      (λ j u other has out. let i = others j u other has out in (i.0, i.1, i.2 ∙ whole))
      (λ even. subst (λ l. Home key l homes) whole (at_home even))
      (λ c. subst (λ l. Home key l homes) whole (shut c))
      (λ j u other has c. subst (λ l. Home key l homes) whole (shut_others j u other has c))
      held

  -- a step that changes nothing
  pub unchanged : (key : N) (s : St) (id : ℕ) (v : W) → Rule key s → get_elem? s.views id ≡ some v → Rule key (record { words = set s.words 0 (word s); homes = s.homes; views = set s.views id v })
  unchanged key s id v r at = subst (λ (z : List ℕ × List W). Rule key (record { words = z.0; homes = s.homes; views = z.1 }))
      (λ i. (sym (set_again s.words 0 (word s) (word_at s.words r.one_word)) i, sym (set_again s.views id v at) i)) r

  -- while the word is even no pass is inside
  pub nobody : (key : N) (s : St) (r : Rule key s) → word s % 2 ≡ 0 → (j : ℕ) (u : W) → Has s.views j u → u.place ≢ Outside → ⊥
  nobody key s r rests j u has out = let odd = ((r.fits j u has).inside out).0 in absurd (omega arith)

  -- while a pass is inside no other is
  pub nobody_else : (key : N) (s : St) (r : Rule key s) (id : ℕ) (v : W) → Has s.views id v → v.place ≢ Outside → (j : ℕ) (u : W) → j ≢ id → Has s.views j u → u.place ≢ Outside → ⊥
  nobody_else key s r id v at out j u other has out' = other (((r.fits j u has).inside out').1 ∙ sym ((r.fits id v at).inside out).1)

  -- whoever is inside is another than a pass that is outside
  pub record Aside (s : St) (holder id : ℕ) : Type 0 where
    pub view : W
    pub has : Has s.views holder view
    pub out : view.place ≢ Outside
    pub other : holder ≢ id

  pub aside : (key : N) (s : St) (r : Rule key s) (id : ℕ) (v : W) → get_elem? s.views id ≡ some v → v.place ≡ Outside → word s % 2 ≡ 1 → Aside s r.holder id
  aside key s r id v at out odd = let h = r.held odd in record {
    view = h.0;
    has = h.1;
    out = h.2;
    other = λ same. h.2 (ap (λ (z : W). z.place) (some-injective h.0 v (sym h.1.0 ∙ subst (λ (z : ℕ). get_elem? s.views z ≡ some v) (sym same) at)) ∙ out);
  }
