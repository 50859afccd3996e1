-- The pairs of a map, as the reader of the form finds them.
use Rattle.std.proofs.Common.{◌≡◌, ℕ, true, false, List, [], ◌∷◌, ◌++◌, refl, sym, ap, subst, ◌∙◌}
use Rattle.std.specs.Prelude.{◌&&◌}
use Rattle.std.proofs.lemmas.Bool.{and_parts}
use Rattle.wave_text.specs.Splits.{HasNone, IsSplit}
use Rattle.wave_text.proofs.SplitLemmas.{one_split, nowhere, none-append}
use Rattle.snapshot_text.specs.Forms.{is_plain, is_below, pair_text, pairs_text, are_pairs}
use Rattle.snapshot_text.specs.inner.Fronts.{BeginsNot, IsPair, IsPairOf, IsNoPair, IsFirstPair, IsNoFirstPair, ArePairsOf, IsMapText, IsMapTextBehind}
use Rattle.snapshot_text.proofs.ByteLemmas.{plain_no_comma, plain_no_colon, plain_no_brace}

-- ---- one pair

pub pair_parts : (text front rest key value : List ℕ) → IsSplit 58 text front rest → IsPair text key value → (front ≡ key) × (rest ≡ 32 ∷ value)
pair_parts text front rest key value s p = one_split 58 front rest key (32 ∷ value) s.first (plain_no_colon key p.key_is) (sym s.spelled ∙ p.spelled)

pub no_space : (text front rest : List ℕ) → IsSplit 58 text front rest → BeginsNot 32 rest → IsNoPair text
no_space text front rest s h key value p = h value (pair_parts text front rest key value s p).1

pub pair_is : (text front rest value : List ℕ) → IsSplit 58 text front rest → rest ≡ 32 ∷ value → (is_plain front && is_plain value) ≡ true → IsPairOf text front
pair_is text front rest value s e f =
    let k = and_parts (is_plain front) (is_plain value) f in
    (value, record { spelled = s.spelled ∙ ap (λ r. front ++ 58 ∷ r) e; key_is = k.0; value_is = k.1 })

pub not_plain : (text front rest value : List ℕ) → IsSplit 58 text front rest → rest ≡ 32 ∷ value → (is_plain front && is_plain value) ≡ false → IsNoPair text
not_plain text front rest value s e h key v p =
    let parts = pair_parts text front rest key v s p in
    let whole : 32 ∷ value ≡ 32 ∷ v = sym e ∙ parts.1 in
    let same : value ≡ v = cc in
    absurd (cc (sym h ∙ (λ i. (ap is_plain parts.0 ∙ p.key_is) i && (ap is_plain same ∙ p.value_is) i)))

pair_no_comma : (text key value : List ℕ) → IsPair text key value → HasNone 44 text
pair_no_comma text key value p = subst (HasNone 44) (sym p.spelled) (none-append 44 key (58 ∷ 32 ∷ value) (plain_no_comma key p.key_is) (plain_no_comma value p.value_is))

-- ---- the first of several pairs

alone : (text key more : List ℕ) (f : IsFirstPair text key more) → IsPair (pair_text (key, f.value)) key f.value
alone text key more f = record { spelled = refl; key_is = f.key_is; value_is = f.value_is }

pub first_parts : (text pair rest key more : List ℕ) → IsSplit 44 text pair rest → (f : IsFirstPair text key more) → IsPair pair key f.value × (rest ≡ 32 ∷ more)
first_parts text pair rest key more s f =
    let o = one_split 44 pair rest (pair_text (key, f.value)) (32 ∷ more) s.first (pair_no_comma (pair_text (key, f.value)) key f.value (alone text key more f)) (sym s.spelled ∙ f.spelled) in
    (record { spelled = o.0; key_is = f.key_is; value_is = f.value_is }, o.1)

pub no_comma : (text : List ℕ) → HasNone 44 text → IsNoFirstPair text
no_comma text h key more f = nowhere 44 (pair_text (key, f.value)) (32 ∷ more) (subst (HasNone 44) f.spelled h)

pub first_no_pair : (text pair rest : List ℕ) → IsSplit 44 text pair rest → IsNoPair pair → IsNoFirstPair text
first_no_pair text pair rest s h key more f = h key f.value (first_parts text pair rest key more s f).0

pub first_no_space : (text pair rest : List ℕ) → IsSplit 44 text pair rest → BeginsNot 32 rest → IsNoFirstPair text
first_no_space text pair rest s h key more f = h more (first_parts text pair rest key more s f).1

one_first : (text key more key' more' : List ℕ) → IsFirstPair text key more → IsFirstPair text key' more' → (key ≡ key') × (more ≡ more')
one_first text key more key' more' f g =
    let o = one_split 44 (pair_text (key, f.value)) (32 ∷ more) (pair_text (key', g.value)) (32 ∷ more') (pair_no_comma (pair_text (key, f.value)) key f.value (alone text key more f))
    (pair_no_comma (pair_text (key', g.value)) key' g.value (alone text key' more' g)) (sym f.spelled ∙ g.spelled) in
    let k = one_split 58 key (32 ∷ f.value) key' (32 ∷ g.value) (plain_no_colon key f.key_is) (plain_no_colon key' g.key_is) o.0 in
    let rest : 32 ∷ more ≡ 32 ∷ more' = o.1 in
    (k.0, cc)

-- ---- all pairs

-- what is known of pairs that are not alone
record AreMore (text : List ℕ) (p q : List ℕ × List ℕ) (qs : List (List ℕ × List ℕ)) : Type 0 where
  key_is : is_plain p.0 ≡ true
  value_is : is_plain p.1 ≡ true
  first : IsFirstPair text p.0 (pairs_text (q ∷ qs))
  below : is_below p.0 q.0 ≡ true
  others : ArePairsOf (pairs_text (q ∷ qs)) (q ∷ qs)

more_of : (text : List ℕ) (p q : List ℕ × List ℕ) (qs : List (List ℕ × List ℕ)) → ArePairsOf text (p ∷ q ∷ qs) → AreMore text p q qs
more_of text p q qs a =
    let b = and_parts (is_plain p.0 && is_plain p.1 && is_below p.0 q.0) (are_pairs (q ∷ qs)) a.pairs_are in
    let k = and_parts (is_plain p.0 && is_plain p.1) (is_below p.0 q.0) b.0 in
    let v = and_parts (is_plain p.0) (is_plain p.1) k.0 in
    record {
      key_is = v.0;
      value_is = v.1;
      first = record { value = p.1; spelled = a.spelled; key_is = v.0; value_is = v.1 };
      below = k.1;
      others = record { spelled = refl; pairs_are = b.1 };
    }

one_of : (text : List ℕ) (p : List ℕ × List ℕ) → ArePairsOf text (p ∷ []) → IsPair text p.0 p.1
one_of text p a = (let k = and_parts (is_plain p.0) (is_plain p.1) a.pairs_are in record { spelled = a.spelled; key_is = k.0; value_is = k.1 })

of_one : (text key : List ℕ) (p : IsPairOf text key) → ArePairsOf text ((key, p.0) ∷ [])
of_one text key p = record { spelled = p.1.spelled; pairs_are = λ i. p.1.key_is i && p.1.value_is i }

of_more : (text key more : List ℕ) → IsFirstPair text key more → (m : IsMapTextBehind key more) → (v : List ℕ) × ArePairsOf text ((key, v) ∷ m.0 ∷ m.1)
of_more text key more f m = (
  f.value,
  record {
    spelled = f.spelled ∙ ap (λ z. pair_text (key, f.value) ++ 44 ∷ 32 ∷ z) m.2.spelled;
    pairs_are = λ i. f.key_is i && f.value_is i && m.3 i && m.2.pairs_are i;
  },
)

lone : (text key more : List ℕ) (p : List ℕ × List ℕ) → IsFirstPair text key more → ArePairsOf text (p ∷ []) → ⊥
lone text key more p f a = no_comma text (pair_no_comma text p.0 p.1 (one_of text p a)) key more f

-- the pairs behind the first one
behind_first : (text key more : List ℕ) → IsFirstPair text key more → (p : List ℕ × List ℕ) (ps : List (List ℕ × List ℕ)) → ArePairsOf text (p ∷ ps) → (p.0 ≡ key) × IsMapTextBehind key more
behind_first text key more f p [] a = absurd (lone text key more p f a)
behind_first text key more f p (q ∷ qs) a =
    let m = more_of text p q qs a in
    let o = one_first text p.0 (pairs_text (q ∷ qs)) key more m.first f in
    (o.0, (q, qs, subst (λ t. ArePairsOf t (q ∷ qs)) o.1 m.others, ap (λ k. is_below k q.0) (sym o.0) ∙ m.below))

pub down : (last text key more : List ℕ) → IsFirstPair text key more → IsMapTextBehind last text → (is_below last key ≡ true) × IsMapTextBehind key more
down last text key more f m =
    let b = behind_first text key more f m.0 m.1 m.2 in
    (ap (is_below last) (sym b.0) ∙ m.3, b.1)

pub up : (last text key more : List ℕ) → IsFirstPair text key more → is_below last key ≡ true → IsMapTextBehind key more → IsMapTextBehind last text
up last text key more f below m = (let o = of_more text key more f m in ((key, o.0), m.0 ∷ m.1, o.1, below))

-- one pair alone
pub last_is : (last text key : List ℕ) → IsPairOf text key → is_below last key ≡ true → IsMapTextBehind last text
last_is last text key p below = ((key, p.0), [], of_one text key p, below)

pub is_last : (last text : List ℕ) → IsNoFirstPair text → IsMapTextBehind last text → (p : List ℕ × List ℕ) × IsPair text p.0 p.1 × (is_below last p.0 ≡ true)
is_last last text none m = by_pairs m.0 m.1 m.2 m.3
  where
    by_pairs : (p : List ℕ × List ℕ) (ps : List (List ℕ × List ℕ)) → ArePairsOf text (p ∷ ps) → is_below last p.0 ≡ true → (p : List ℕ × List ℕ) × IsPair text p.0 p.1 × (is_below last p.0 ≡ true)
    by_pairs p [] a b = (p, one_of text p a, b)
    by_pairs p (q ∷ qs) a b = absurd (none p.0 (pairs_text (q ∷ qs)) (more_of text p q qs a).first)

pub same_key : (text key other value : List ℕ) → IsPairOf text key → IsPair text other value → key ≡ other
same_key text key other value p q = (one_split 58 key (32 ∷ p.0) other (32 ∷ value) (plain_no_colon key p.1.key_is) (plain_no_colon other q.key_is) (sym p.1.spelled ∙ q.spelled)).0

-- ---- a map

pub map_more : (text key more : List ℕ) → IsFirstPair text key more → IsMapTextBehind key more → IsMapText text
map_more text key more f m = (let o = of_more text key more f m in ((key, o.0) ∷ m.0 ∷ m.1, o.1))

pub more_map : (text key more : List ℕ) → IsFirstPair text key more → IsMapText text → IsMapTextBehind key more
more_map text key more f m = by_pairs m.0 m.1
  where
    by_pairs : (ps : List (List ℕ × List ℕ)) → ArePairsOf text ps → IsMapTextBehind key more
    by_pairs [] a = absurd (nowhere 44 (pair_text (key, f.value)) (32 ∷ more) (subst (HasNone 44) (sym a.spelled ∙ f.spelled) refl))
    by_pairs (p ∷ ps) a = (behind_first text key more f p ps a).1

pub map_one : (text key : List ℕ) → IsPairOf text key → IsMapText text
map_one text key p = ((key, p.0) ∷ [], of_one text key p)

pub map_none : (text : List ℕ) → text ≡ [] → IsMapText text
map_none text e = ([], record { spelled = e; pairs_are = refl })

pub one_map : (text : List ℕ) → IsNoFirstPair text → IsNoPair text → IsMapText text → text ≡ []
one_map text first none m = by_pairs m.0 m.1
  where
    by_pairs : (ps : List (List ℕ × List ℕ)) → ArePairsOf text ps → text ≡ []
    by_pairs [] a = a.spelled
    by_pairs (p ∷ []) a = absurd (none p.0 p.1 (one_of text p a))
    by_pairs (p ∷ q ∷ qs) a = absurd (first p.0 (pairs_text (q ∷ qs)) (more_of text p q qs a).first)

pub pairs_no_brace : (ps : List (List ℕ × List ℕ)) → are_pairs ps ≡ true → HasNone 125 (pairs_text ps)
pairs_no_brace [] h = refl
pairs_no_brace (p ∷ []) h = (let k = and_parts (is_plain p.0) (is_plain p.1) h in none-append 125 p.0 (58 ∷ 32 ∷ p.1) (plain_no_brace p.0 k.0) (plain_no_brace p.1 k.1))
pairs_no_brace (p ∷ q ∷ qs) h =
    let a : ArePairsOf (pairs_text (p ∷ q ∷ qs)) (p ∷ q ∷ qs) = record { spelled = refl; pairs_are = h } in
    let m = more_of (pairs_text (p ∷ q ∷ qs)) p q qs a in
    none-append 125 (pair_text p) (44 ∷ 32 ∷ pairs_text (q ∷ qs))
    (none-append 125 p.0 (58 ∷ 32 ∷ p.1) (plain_no_brace p.0 m.key_is) (plain_no_brace p.1 m.value_is)) (pairs_no_brace (q ∷ qs) m.others.pairs_are)
