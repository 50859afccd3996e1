-- How far the pairs of a map were read.
use Rattle.std.proofs.Common.{◌≡◌, ◌<◌, ℕ, ℤ, List, [], ◌∷◌, ◌++◌, length, Some, None, All, FitsSigned, w64, refl, sym, ap, subst, ◌∙◌, append_assoc, append-nil, arith}
use Rattle.std.specs.BTreeMap.{insert_entry}
use Rattle.std.specs.Fmt.{signed_decimal}
use Rattle.std.specs.List.{AllByRecursion}
use Rattle.std.specs.List.Sorted.{IsStrictlySortedBy}
use Rattle.std.specs.Map.{keys_of}
use Rattle.std.specs.Ordering.{int_cmp, ordering_reverse, match_ordering}
use Rattle.std.specs.declared.cmp.Ordering.{Ordering}
use Rattle.std.specs.declared.cmp.Ordering.TheVariants.{Less, Equal, Greater}
use Rattle.std.proofs.lemmas.Cmp.{int_cmp_total}
use Rattle.std.proofs.lemmas.List.{map-append}
use Rattle.std.proofs.lemmas.List.Elements.{All-nil, All-cons, All-head, All-tail}
use Rattle.wave_base.specs.declared.value.Value.TheVariants as value
use Rattle.wave_base.proofs.Places.{sorted_none}
use Rattle.wave_base.specs.Tables.{IsTable, with_pair}
use Rattle.wave_text.specs.ValueTexts.{pair_text, pairs_text}
use Rattle.wave_text.specs.Splits.{HasNone, ArePartsAt}
use Rattle.wave_text.proofs.SplitLemmas.{nowhere}
use Rattle.snapshot_text.specs.Shots.{IsValue}
use Rattle.snapshot_text.specs.inner.Guesses.{behind_first, AreNumbers, IsPairAtOf, IsTableOf}
use Rattle.snapshot_text.proofs.NumberLemmas.{number_no_colon, pair_spelled, pair_no_comma, joined, pairs_joined, Fit}

abbrev Both : ℤ × ℤ → Type 0
Both p = FitsSigned w64 p.0 × FitsSigned w64 p.1

pub fit_of : (ps : List (ℤ × ℤ)) → All (λ (p : ℤ × ℤ). FitsSigned w64 p.0 × FitsSigned w64 p.1) ps → Fit ps
fit_of [] h = tt
fit_of (p ∷ ps) h = (let b = All-head Both p ps h in (record { key = b.0; value = b.1 }, fit_of ps (All-tail Both p ps h)))

-- ---- one pair

pub pair_front : (text front rest : List ℕ) → ArePartsAt 58 text front rest → (p : ℤ × ℤ) → AreNumbers p → text ≡ pair_text p → (front ≡ signed_decimal p.0) × (behind_first rest ≡ signed_decimal p.1)
pair_front text front rest a p n e =
    let c = a.cut (signed_decimal p.0) (32 ∷ signed_decimal p.1) (number_no_colon p.0 n.key) (e ∙ pair_spelled p) in
    (c.0, ap behind_first c.1)

-- ---- the table so far

pub record IsTableTo (text : List ℕ) (table : List (ℤ × ℤ)) (rest : List ℕ) : Type 0 where
  pub is_table : IsTable table
  pub fits : All (λ (p : ℤ × ℤ). FitsSigned w64 p.0 × FitsSigned w64 p.1) table
  pub only : (ps : List (ℤ × ℤ)) → IsValue (value.Map ps) → text ≡ pairs_text ps → (us : List (ℤ × ℤ)) × (ps ≡ table ++ us) × Fit us × (rest ≡ joined us)

pub none_read : (text : List ℕ) → IsTableTo text [] text
none_read text = record { is_table = record { rises = sorted_none; short = omega arith }; fits = All-nil Both; only = λ ps v e. (ps, refl, fit_of ps v.1, e ∙ pairs_joined ps) }

joined_some : (p : ℤ × ℤ) (ps : List (ℤ × ℤ)) → joined (p ∷ ps) ≡ [] → ⊥
joined_some p [] e = nowhere 58 (signed_decimal p.0) (32 ∷ signed_decimal p.1) (subst (HasNone 58) (sym e ∙ pair_spelled p) refl)
joined_some p (q ∷ qs) e = nowhere 44 (pair_text p) (32 ∷ joined (q ∷ qs)) (subst (HasNone 44) (sym e) refl)

-- the pair that stands next
pub record IsNextPair (us : List (ℤ × ℤ)) (pair after : List ℕ) : Type 0 where
  pub first : ℤ × ℤ
  pub others : List (ℤ × ℤ)
  pub are : us ≡ first ∷ others
  pub fits : AreNumbers first
  pub others_fit : Fit others
  pub pair_is : pair ≡ pair_text first
  pub after_is : behind_first after ≡ joined others

pub next_pair : (rest pair after : List ℕ) → ArePartsAt 44 rest pair after → (us : List (ℤ × ℤ)) → 0 < length rest → Fit us → rest ≡ joined us → IsNextPair us pair after
next_pair rest pair after a [] some f e = absurd (omega (arith, some, ap length e))
next_pair rest pair after a (p ∷ []) some f e =
    let w = a.whole (subst (HasNone 44) (sym e) (pair_no_comma p f.0)) in
    record { first = p; others = []; are = refl; fits = f.0; others_fit = tt; pair_is = w.0 ∙ e; after_is = ap behind_first w.1 }
next_pair rest pair after a (p ∷ q ∷ qs) some f e =
    let c = a.cut (pair_text p) (32 ∷ joined (q ∷ qs)) (pair_no_comma p f.0) e in
    record { first = p; others = q ∷ qs; are = refl; fits = f.0; others_fit = f.1; pair_is = c.0; after_is = ap behind_first c.1 }

-- ---- a pair whose key is above all that are there goes to the end

at_end : (P : ℤ → Type 0) (t : List ℤ) (e : ℤ) (u : List ℤ) → AllByRecursion P (t ++ e ∷ u) → P e
at_end P [] e u h = h.0
at_end P (x ∷ t) e u h = at_end P t e u h.1

all_before : (t : List ℤ) (e : ℤ) (u : List ℤ) → IsStrictlySortedBy int_cmp (t ++ e ∷ u) → AllByRecursion (λ q. int_cmp q e ≡ Less) t
unfolding IsStrictlySortedBy
all_before [] e u h = tt
all_before (x ∷ t) e u h = (at_end (λ y. int_cmp x y ≡ Less) t e u h.0, all_before t e u h.1)

insert_last : (es : List (ℤ × ℤ)) (k v : ℤ) → AllByRecursion (λ q. int_cmp q k ≡ Less) (keys_of es) → with_pair es k v ≡ es ++ (k, v) ∷ []
insert_last [] k v h = refl
insert_last (e ∷ es) k v h =
    let above = int_cmp_total.antisymm k e.0 ∙ ap ordering_reverse h.0 in
    ap (λ o. match_ordering o ((k, v) ∷ e ∷ es) ((e.0, v) ∷ es) (e ∷ insert_entry int_cmp es k v)) above ∙ ap (λ es. e ∷ es) (insert_last es k v h.1)

pub put_last : (table us : List (ℤ × ℤ)) (k v : ℤ) → IsTable (table ++ (k, v) ∷ us) → with_pair table k v ≡ table ++ (k, v) ∷ []
put_last table us k v t =
    insert_last table k v (all_before (keys_of table) k (keys_of us) (subst (IsStrictlySortedBy int_cmp) (map-append (λ (p : ℤ × ℤ). p.0) table ((k, v) ∷ us)) t.rises))

-- ---- one pair more

all_with : (table : List (ℤ × ℤ)) (k v : ℤ) → FitsSigned w64 k × FitsSigned w64 v → All Both table → All Both (with_pair table k v)
all_with [] k v b h = All-cons Both (k, v) [] b (All-nil Both)
all_with (e ∷ es) k v b h =
    let head = All-head Both e es h in
    let tail = All-tail Both e es h in
    by_order (int_cmp k e.0) head tail (all_with es k v b tail)
  where
    by_order : (o : Ordering) → Both e → All Both es → All Both (with_pair es k v) → All Both (match_ordering o ((k, v) ∷ e ∷ es) ((e.0, v) ∷ es) (e ∷ with_pair es k v))
    by_order Less head tail more = All-cons Both (k, v) (e ∷ es) b h
    by_order Equal head tail more = All-cons Both (e.0, v) es (head.0, b.1) tail
    by_order Greater head tail more = All-cons Both e (with_pair es k v) head more

pub pair_read : (text rest pair after : List ℕ) (table : List (ℤ × ℤ)) (k v : ℤ) → IsTableTo text table rest → 0 < length rest → ArePartsAt 44 rest pair after → IsPairAtOf pair (Some (k, v)) → AreNumbers (k, v) → IsTable (with_pair table k v)
    → IsTableTo text (with_pair table k v) (behind_first after)
pair_read text rest pair after table k v t some a of n whole = record {
  is_table = whole;
  fits = all_with table k v (n.key, n.value) t.fits;
  only = λ ps good e.
      let w = t.only ps good e in
      let x = next_pair rest pair after a w.0 some w.2 w.3 in
      let found : Some (k, v) ≡ Some x.first = of x.first x.fits x.pair_is in
      let same : (k, v) ≡ x.first = cc in
      let all : ps ≡ table ++ (k, v) ∷ x.others = w.1 ∙ ap (λ us. table ++ us) (x.are ∙ ap (λ p. p ∷ x.others) (sym same)) in
      let last = put_last table x.others k v (subst IsTable all good.0) in
      (x.others, all ∙ sym (append_assoc table ((k, v) ∷ []) x.others) ∙ ap (λ z. z ++ x.others) (sym last), x.others_fit, x.after_is);
}

-- ---- the end

pub all_read : (text : List ℕ) (table : List (ℤ × ℤ)) → IsTableTo text table [] → IsTableOf text (Some table)
all_read text table t ps good e = (let w = t.only ps good e in by_more w.0 w.1 w.3)
  where
    by_more : (us : List (ℤ × ℤ)) → ps ≡ table ++ us → [] ≡ joined us → Some table ≡ Some ps
    by_more [] f g = ap (λ z. Some z) (sym (append-nil table) ∙ sym f)
    by_more (u ∷ us) f g = absurd (joined_some u us (sym g))

pub pair_missed : (text rest pair after : List ℕ) (table : List (ℤ × ℤ)) → IsTableTo text table rest → 0 < length rest → ArePartsAt 44 rest pair after → IsPairAtOf pair None → IsTableOf text None
pair_missed text rest pair after table t some a of ps good e =
    let w = t.only ps good e in
    let x = next_pair rest pair after a w.0 some w.2 w.3 in
    cc (of x.first x.fits x.pair_is)
