-- Each step of a pass keeps the rule, and what is left when the lock is shut.
use Rattle.std.proofs.Common.{◌≡◌, ◌≢◌, ℕ, ◌+◌, ◌%◌, ◌^◌, eqb, List, [], ◌∷◌, ◌++◌, get_or, set, Some, None, sym, refl, ap, ◌∙◌, subst, arith, length-set, eq-eqb, ne_eqb}
use Rattle.std.specs.Prelude.{Option, All}
use mathlib.Core.Logic.{dite}
use mathlib.Core.Option.{some, none, some-injective}
use native.Mathlib.Decide.{ℕ_discrete}
use prog.Atomic.{either}
use lib.ListN.{get_elem?}
use Rattle.atomic_table.specs.Table.{State, Me, keeps, takes, gives, rest, put_back, step, stepped, Allows, Final, Seen}
use Rattle.atomic_table.proofs.Lists.{set_here, set_else}
use Rattle.kept_lock.specs.declared.view.View.{View}
use Rattle.kept_lock.specs.declared.view.Place.TheVariants.{Outside, Inside, Closing}
use Rattle.kept_lock.specs.History.{StartsWith, later_than}
use Rattle.kept_lock.specs.Knowing.{Agrees, Accounts}
use Rattle.kept_lock.specs.Rule.{Has, IsHome, Keeps}
use Rattle.kept_lock.specs.Plays.{placed_at, outside_at, heard, stands_for, Claimed, history_out, Released, Shut, Closes, Heard}
use Rattle.kept_lock.specs.Seats.{IsOutside}
use Rattle.kept_lock.specs.Visits.{Meets}
use Rattle.kept_lock.proofs.Entries.{grown_own, grown_accounts, starts_whole, starts_nil, at_within, later_than-append, longer_begins, longer_first, longer_second}
use Rattle.kept_lock.proofs.Growing.{closing_out, inside_closing, inside_out, not_outside, outside_closing}
use Rattle.kept_lock.proofs.Growing

module _ {V N E : Type 0} (history : V → List E) (owner : E → ℕ) (stands : V → N → Type 0) where
  abbrev W : Type 0
  W = View N E

  abbrev St : Type 0
  St = State (Option V) W

  abbrev M : Type 0
  M = Me (Option V) W

  abbrev Rule : N → St → Type 0
  Rule = Keeps history owner stands

  abbrev Homes : Type 0
  Homes = List (mathlib.Core.Option.Option (Option V))

  abbrev Home : N → List E → Homes → Type 0
  Home = IsHome history stands

  abbrev word : St → ℕ
  word s = get_or s.words 0 0

  abbrev nobody : (key : N) (s : St) (r : Rule key s) → word s % 2 ≡ 0 → (j : ℕ) (u : W) → Has s.views j u → u.place ≢ Outside → ⊥
  nobody = Growing.nobody history owner stands

  pub claims : (key : N) (slots id : ℕ) (me : M) (found next : ℕ) → IsOutside key me.0 → me.1 ≡ [] → found % 2 ≡ 0 → next ≡ found + 1
      → Allows (Rule key) slots id me 0 (λ n. either (eqb n found) next n) (Claimed history owner stands (step slots 0 found next none) me)
  claims key slots id me found next out empty even up s r _ at small = dite (ℕ_discrete (word s) found)
      (λ hit. let v : W = me.0 in let has : Has s.views id v = (at, (key, out.0)) in
      let rests : word s % 2 ≡ 0 = ap (λ (z : ℕ). z % 2) hit ∙ even in let h = r.home rests in let y : V = h.0 in
      let w : W = placed_at v Inside (history y) in let f = r.fits id v has in (
        w,
        takes 0 (Some y),
        h.1,
        subst (λ (z : ℕ). Rule key (stepped s 0 z id me.1 w (takes 0 (Some y)))) (sym (ap (λ b. either b next (word s)) (eq-eqb (word s) found hit)))
            (Growing.moved_rule history owner stands key s r id v w next (set s.homes 0 none) id has refl refl refl (length-set s.homes 0 none ∙ r.one_slot)
            (record {
              named = out.0;
              agrees = (subst (λ l. StartsWith r.history l) (sym h.3) (starts_whole r.history), f.agrees.1);
              accounts = f.accounts;
              told = starts_nil r.history;
              inside = λ _. (omega arith, refl, h.3);
            })
            (λ j u _ g o. absurd (nobody key s r rests j u g o))
            (λ z. absurd (omega arith))
            (λ c. absurd (inside_closing c))
            (λ j u _ g c. absurd (nobody key s r rests j u g (not_outside u.place Closing c closing_out)))
            (λ _. (w, (set_here s.views id w (at_within s.views id v at), (key, out.0)), inside_out))),
        (
          (λ _. record {
            value = y;
            now = ap (λ l. (w, (0, Some y) ∷ l)) empty;
            stands_for_name = subst (λ o. stands_for stands y o) (sym out.0) h.2;
            agrees = subst (λ l. Agrees owner v.known l) (sym h.3) f.agrees;
            accounts = subst (λ l. Accounts owner v.known l) (sym h.3) f.accounts;
          }),
          (λ miss. absurd (miss hit)),
        ),
      ))
      (λ miss. (
        me.0,
        keeps,
        tt,
        subst (λ (z : ℕ). Rule key (stepped s 0 z id me.1 me.0 keeps)) (sym (ap (λ b. either b next (word s)) (ne_eqb (word s) found miss))) (Growing.unchanged history owner stands key s id me.0 r at),
        ((λ hit. absurd (miss hit)), (λ _. refl)),
      ))

  pub releases : (key : N) (slots id : ℕ) (me : M) (y : V) (more : List E) → me.0.name ≡ Some key → me.0.place ≡ Inside → me.1 ≡ (0, Some y) ∷ [] → stands y key
      → history y ≡ me.0.known.seen ++ more → All (λ e. owner e ≡ me.0.known.number) more
      → Allows (Rule key) slots id me 0 (λ n. (n + 1) % 2 ^ 64) (Released history (step slots 0 1 0 none) me)
  releases key slots id me y more named inside carried is grown own s r _ at small =
      let v : W = me.0 in let has : Has s.views id v = (at, (key, named)) in let f = r.fits id v has in
      let out : v.place ≢ Outside = not_outside v.place Inside inside inside_out in
      let i = f.inside out in let odd = i.0 in
      let x : ℕ = (word s + 1) % 2 ^ 64 in
      let even : x % 2 ≡ 0 = omega arith in
      let w : W = outside_at v (history y) in
      let whole : history y ≡ r.history ++ more = grown ∙ ap (λ l. l ++ more) i.2 in
      let homes : Homes = set s.homes 0 (some (Some y)) in
      let home : Home key (r.history ++ more) homes = (y, set_here s.homes 0 (some (Some y)) (let o = r.one_slot in omega arith), is, whole) in
      let news : more ≡ later_than v.known.seen (history y) = sym (later_than-append v.known.seen more) ∙ ap (λ l. later_than v.known.seen l) (sym grown) in
      let out_with : history y ≡ history_out history me.1 = ap (history_out history) (sym carried) in (
        w,
        gives,
        tt,
        subst (λ c. Rule key (record { words = set s.words 0 x; homes = put_back s.homes c; views = set s.views id w })) (sym carried)
            (Growing.grown_rule history owner stands key s r id v w x homes more r.holder has refl refl refl own (length-set s.homes 0 (some (Some y)) ∙ r.one_slot)
            (record {
              named = named;
              agrees = (
                subst (λ l. StartsWith (r.history ++ more) l) (sym whole) (starts_whole (r.history ++ more)),
                grown_own owner v.known.number r.history more own ∙ (λ j. f.agrees.1 j ++ news j),
              );
              accounts = grown_accounts owner v.known.number r.history more v.known.accounts own (r.retired id id v v has has) f.accounts;
              told = starts_nil (r.history ++ more);
              inside = λ ne. absurd (ne refl);
            })
            (λ j u other g o. absurd (Growing.nobody_else history owner stands key s r id v has out j u other g o))
            (λ _. home)
            (λ c. absurd (outside_closing c))
            (λ j u other g c. absurd (Growing.nobody_else history owner stands key s r id v has out j u other g (not_outside u.place Closing c closing_out)))
            (λ z. absurd (omega arith))),
        λ j. (outside_at v (out_with j), rest (carried j)),
      )

  pub closes : (key : N) (slots id : ℕ) (me : M) (found next : ℕ) → IsOutside key me.0 → found % 2 ≡ 0 → next ≡ found + 1
      → Allows (Rule key) slots id me 0 (λ n. either (eqb n found) next n) (Closes owner (step slots 0 found next none) me)
  closes key slots id me found next out even up s r _ at small = dite (ℕ_discrete (word s) found)
      (λ hit. let v : W = me.0 in let has : Has s.views id v = (at, (key, out.0)) in
      let rests : word s % 2 ≡ 0 = ap (λ (z : ℕ). z % 2) hit ∙ even in
      let w : W = placed_at v Closing r.history in let f = r.fits id v has in (
        w,
        keeps,
        tt,
        subst (λ (z : ℕ). Rule key (stepped s 0 z id me.1 w keeps)) (sym (ap (λ b. either b next (word s)) (eq-eqb (word s) found hit)))
            (Growing.moved_rule history owner stands key s r id v w next s.homes id has refl refl refl r.one_slot
            (record {
              named = out.0;
              agrees = (starts_whole r.history, f.agrees.1);
              accounts = f.accounts;
              told = starts_nil r.history;
              inside = λ _. (omega arith, refl, refl);
            })
            (λ j u _ g o. absurd (nobody key s r rests j u g o))
            (λ z. absurd (omega arith))
            (λ _. r.home rests)
            (λ j u _ g c. r.home rests)
            (λ _. (w, (set_here s.views id w (at_within s.views id v at), (key, out.0)), closing_out))),
        ((λ _. record { history = r.history; now = refl; agrees = f.agrees; accounts = f.accounts }), (λ miss. absurd (miss hit))),
      ))
      (λ miss. (
        me.0,
        keeps,
        tt,
        subst (λ (z : ℕ). Rule key (stepped s 0 z id me.1 me.0 keeps)) (sym (ap (λ b. either b next (word s)) (ne_eqb (word s) found miss))) (Growing.unchanged history owner stands key s id me.0 r at),
        ((λ hit. absurd (miss hit)), (λ _. refl)),
      ))

  pub hears : (key : N) (slots id : ℕ) (me : M) → me.0.name ≡ Some key → me.0.place ≡ Outside
      → Allows (Rule key) slots id me 0 (λ n. n) (Heard (step slots 0 0 0 none) me)
  hears key slots id me named out s r _ at small = let v : W = me.0 in let has : Has s.views id v = (at, (key, named)) in let f = r.fits id v has in
      let w : W = heard v in (
        w,
        keeps,
        tt,
        Growing.moved_rule history owner stands key s r id v w (word s) s.homes r.holder has refl refl refl r.one_slot
            (record {
              named = named;
              agrees = (longer_begins v.known.seen v.told r.history f.agrees.0 f.told, f.agrees.1);
              accounts = f.accounts;
              told = starts_nil r.history;
              inside = λ o. absurd (o out);
            })
            (λ j u _ g o. (r.fits j u g).inside o)
            r.home
            (λ c. absurd (outside_closing (sym out ∙ c)))
            (λ j u _ g c. r.closing j u g c)
            (λ odd. let h = Growing.aside history owner stands key s r id v at out odd in (h.view, (set_else s.views id r.holder w h.other ∙ h.has.0, h.has.1), h.out)),
        record {
          now = refl;
          own = longer_first v.known.seen v.told r.history f.agrees.0 f.told;
          told = longer_second v.known.seen v.told r.history f.agrees.0 f.told;
        },
      )

  -- the same, for answers, where what a goal has is only equal to what the lemma wants
  pub claims_as : (key name : N) (slots id : ℕ) (me before : M) (found next : ℕ) → key ≡ name → me ≡ before → IsOutside name before.0 → before.1 ≡ [] → found % 2 ≡ 0 → next ≡ found + 1
      → Allows (Rule key) slots id me 0 (λ n. either (eqb n found) next n) (Claimed history owner stands (step slots 0 found next none) me)
  claims_as key name slots id me before found next same is out empty even up =
      claims key slots id me found next (subst (λ (z : N × M). IsOutside z.0 z.1.0) (λ i. (sym same i, sym is i)) out) (ap (λ (z : M). z.1) is ∙ empty) even up

  pub releases_as : (key name : N) (slots id : ℕ) (me before : M) (y : V) (more : List E) → key ≡ name → before.1 ≡ (0, None) ∷ [] → me ≡ (before.0, (0, Some y) ∷ rest before.1)
      → before.0.name ≡ Some name → before.0.place ≡ Inside → stands y name → history y ≡ before.0.known.seen ++ more → All (λ e. owner e ≡ before.0.known.number) more
      → Allows (Rule key) slots id me 0 (λ n. (n + 1) % 2 ^ 64) (Released history (step slots 0 1 0 none) me)
  releases_as key name slots id me before y more same out is named inside stand grown own =
      let carried : me ≡ (before.0, (0, Some y) ∷ []) = is ∙ ap (λ (c : List (ℕ × Option V)). (before.0, (0, Some y) ∷ rest c)) out in
      subst (λ (z : N × M). Allows (Rule z.0) slots id z.1 0 (λ n. (n + 1) % 2 ^ 64) (Released history (step slots 0 1 0 none) z.1)) (λ i. (sym same i, sym carried i))
      (releases name slots id (before.0, (0, Some y) ∷ []) y more named inside refl stand grown own)

  pub closes_as : (key name : N) (slots id : ℕ) (me before : M) (found next : ℕ) → key ≡ name → me ≡ before → IsOutside name before.0 → found % 2 ≡ 0 → next ≡ found + 1
      → Allows (Rule key) slots id me 0 (λ n. either (eqb n found) next n) (Closes owner (step slots 0 found next none) me)
  closes_as key name slots id me before found next same is out even up =
      closes key slots id me found next (subst (λ (z : N × M). IsOutside z.0 z.1.0) (λ i. (sym same i, sym is i)) out) even up

  -- the value that is in its place, once the pass has shut the lock
  shut_home : (key : N) (id : ℕ) (me after : M) (s : St) (r : Rule key s) → get_elem? s.views id ≡ some after.0 → (shut : Shut owner me after) → me.0.name ≡ Some key
      → (r.history ≡ shut.history) × Home key r.history s.homes
  shut_home key id me after s r at shut named =
      let w : W = placed_at me.0 Closing shut.history in
      let has : Has s.views id w = (at ∙ ap (λ (m : M). some m.0) shut.now, (key, named)) in
      (sym ((r.fits id w has).inside closing_out).2, r.closing id w has refl)

  pub ends : (key name : N) (id : ℕ) (me after : M) (ws : List ℕ) (xs : List (Option V)) → key ≡ name → Final (Seen (Rule key) id after.0) ws xs → Shut owner me after → me.0.name ≡ Some name
      → (y : V) × (get_elem? xs 0 ≡ some (Some y)) × Meets history owner stands name me.0.known y
  ends key name id me after ws xs same last shut named =
      let s : St = last.0 in let r : Rule key s = last.1.0 in
      let t = shut_home key id me after s r last.1.1 shut (named ∙ ap Some (sym same)) in let home = t.1 in
      let log : shut.history ≡ history home.0 = sym t.0 ∙ sym home.3 in (
        home.0,
        last.4 0 (Some home.0) home.1,
        record {
          stands_for_name = subst (λ (n : N). stands home.0 n) same home.2;
          agrees = subst (λ l. Agrees owner me.0.known l) log shut.agrees;
          accounts = subst (λ l. Accounts owner me.0.known l) log shut.accounts;
        },
      )

  -- the same of the value that was found there
  pub ends_at : (key name : N) (id : ℕ) (me after : M) (ws : List ℕ) (xs : List (Option V)) (y : V) → key ≡ name → Final (Seen (Rule key) id after.0) ws xs → Shut owner me after → me.0.name ≡ Some name
      → get_elem? xs 0 ≡ some (Some y) → Meets history owner stands name me.0.known y
  ends_at key name id me after ws xs y same last shut named here =
      let e = ends key name id me after ws xs same last shut named in
      let value : Some e.0 ≡ Some y = some-injective (Some e.0) (Some y) (sym e.1 ∙ here) in
      let same_value : e.0 ≡ y = cc in
      subst (λ (z : V). Meets history owner stands name me.0.known z) same_value e.2
