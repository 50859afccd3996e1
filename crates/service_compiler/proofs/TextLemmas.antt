-- The texts of a set of byte lists; and a text's number, which stays when more texts come behind.
use Rattle.std.proofs.Common.{◌≡◌, ℕ, zero, suc, ◌+◌, ◌<◌, ◌≤◌, ◌||◌, Bool, true, false, cond, not, if◌then◌else◌, nat_eq, nat_lt, List, [], ◌∷◌, ◌++◌, length, get_or, Option, Some, None, Vec, Global, refl, sym, ap, ◌∙◌, subst, arith, length-append}
use Rattle.std.specs.List.{list_any, position_or_len}
use Rattle.std.specs.Prelude.{All}
use Rattle.std.specs.Cmp.Lexicographic.{pointwise}
use Rattle.std.proofs.lemmas.Bool.Decides.{nat_tests}
use Rattle.std.proofs.lemmas.Cmp.{nat_list_eq_equiv}
use Rattle.std.proofs.lemmas.List.Elements.{All-push}
use Rattle.indexmap.specs.IndexSet.{insert_key}
use Rattle.wave_base.specs.Names.{same_bytes}
use Rattle.wave_base.specs.Text.{IsText}
use Rattle.code_scheme.specs.Texts.{with_text, with_texts, place_of_text}
use Rattle.service_compiler.specs.Kept.{texts_of, AreTexts}
use Rattle.service_compiler.specs.inner.Drafts.{GoOn}

abbrev pub same_items : Vec ℕ Global → Vec ℕ Global → Bool
same_items x y = pointwise nat_eq x.items y.items

not_cond : (b : Bool) (n m : ℕ) → n ≡ m → cond (not b) (1 + n) zero ≡ (if b then zero else suc m)
not_cond true n m e = refl
not_cond false n m e = omega (arith, e)

pub place_is : (ks : List (Vec ℕ Global)) (t : List ℕ) → position_or_len (λ k. pointwise nat_eq t k.items) ks ≡ place_of_text (texts_of ks) t
place_is [] t = refl
place_is (k ∷ ks) t = not_cond (same_bytes t k.items) (position_or_len (λ k. pointwise nat_eq t k.items) ks) (place_of_text (texts_of ks) t) (place_is ks t)

pub place_within : (ts : List (List ℕ)) (t : List ℕ) → place_of_text ts t ≤ length ts
place_within [] t = omega arith
place_within (u ∷ us) t = by (same_bytes t u) (place_within us t)
  where
    by : (b : Bool) → place_of_text us t ≤ length us → (if b then zero else suc (place_of_text us t)) ≤ suc (length us)
    by true h = omega arith
    by false h = omega (arith, h)

pub length_texts : (ks : List (Vec ℕ Global)) → length (texts_of ks) ≡ length ks
length_texts [] = refl
length_texts (k ∷ ks) = ap suc (length_texts ks)

found_is : (b : Bool) (n m : ℕ) → cond b (Some n) None ≡ Some m → n ≡ m
found_is true n m e = cc
found_is false n m e = cc

lost_is : (b : Bool) (n : ℕ) → cond b (Some n) None ≡ None → b ≡ false
lost_is true n e = cc
lost_is false n e = refl

none_less : (n m : ℕ) → nat_lt n m ≡ false → n ≤ m → n ≡ m
none_less n m e le = grind (arith, nat_tests)

pub found_place : (ks : List (Vec ℕ Global)) (t : List ℕ) (result : Option ℕ) (place : ℕ) → result ≡ cond (nat_lt (position_or_len (λ k. pointwise nat_eq t k.items) ks) (length ks)) (Some (position_or_len (λ k. pointwise nat_eq t k.items) ks)) None → result ≡ Some place → place ≡ place_of_text (texts_of ks) t
found_place ks t result place is some = sym (found_is _ _ place (sym is ∙ some)) ∙ place_is ks t

pub lost_place : (ks : List (Vec ℕ Global)) (t : List ℕ) (result : Option ℕ) (long : ℕ) → result ≡ cond (nat_lt (position_or_len (λ k. pointwise nat_eq t k.items) ks) (length ks)) (Some (position_or_len (λ k. pointwise nat_eq t k.items) ks)) None → result ≡ None → long ≡ length ks → long ≡ place_of_text (texts_of ks) t
lost_place ks t result long is none e =
    let p = place_is ks t in
    let le : position_or_len (λ k. pointwise nat_eq t k.items) ks ≤ length ks = omega (arith, p, place_within (texts_of ks) t, length_texts ks) in
    e ∙ sym (none_less _ _ (lost_is _ _ (sym is ∙ none)) le) ∙ p

any_texts : (t : List ℕ) (ks : List (Vec ℕ Global)) → list_any (λ k. pointwise nat_eq t k.items) ks ≡ list_any (same_bytes t) (texts_of ks)
any_texts t [] = refl
any_texts t (k ∷ ks) = ap (λ b. same_bytes t k.items || b) (any_texts t ks)

texts_push : (ks : List (Vec ℕ Global)) (k : Vec ℕ Global) → texts_of (ks ++ k ∷ []) ≡ texts_of ks ++ k.items ∷ []
texts_push [] k = refl
texts_push (x ∷ ks) k = ap (λ l. x.items ∷ l) (texts_push ks k)

pub noted_texts : (ks : List (Vec ℕ Global)) (k : Vec ℕ Global) → texts_of (insert_key same_items ks k) ≡ with_text (texts_of ks) k.items
noted_texts ks k = by (list_any (same_items k) ks) ∙ ap (λ b. if b then texts_of ks else texts_of ks ++ k.items ∷ []) (any_texts k.items ks)
  where
    by : (b : Bool) → texts_of (if b then ks else ks ++ k ∷ []) ≡ (if b then texts_of ks else texts_of ks ++ k.items ∷ [])
    by true = refl
    by false = texts_push ks k

pub noted_are : (ts : List (List ℕ)) (t : List ℕ) → All IsText ts → IsText t → All IsText (with_text ts t)
noted_are ts t h k = by (list_any (same_bytes t) ts)
  where
    by : (b : Bool) → All IsText (if b then ts else ts ++ t ∷ [])
    by true = h
    by false = All-push IsText ts t h k

-- a text more
pub texts_more : (ks : List (Vec ℕ Global)) (k : Vec ℕ Global) → AreTexts ks → IsText k.items → AreTexts (insert_key same_items ks k)
texts_more ks k are h = subst (All IsText) (sym (noted_texts ks k)) (noted_are (texts_of ks) k.items are h)

-- there is at most one text more
pub one_more : (ts : List (List ℕ)) (t : List ℕ) → length (with_text ts t) ≤ length ts + 1
one_more ts t = by (list_any (same_bytes t) ts)
  where
    by : (b : Bool) → length (if b then ts else ts ++ t ∷ []) ≤ length ts + 1
    by true = omega arith
    by false = omega (arith, length-append ts (t ∷ []))

texts_get : (ks : List (Vec ℕ Global)) (i : ℕ) (x : Vec ℕ Global) → get_or (texts_of ks) i x.items ≡ (get_or ks i x).items
texts_get [] i x = refl
texts_get (k ∷ ks) zero x = refl
texts_get (k ∷ ks) (suc i) x = texts_get ks i x

pub item_text : (ks : List (Vec ℕ Global)) (i : ℕ) (x : Vec ℕ Global) → AreTexts ks → i < length ks → x ≡ get_or ks i x → IsText x.items
item_text ks i x h lt at =
    let long : i < length (texts_of ks) = omega (arith, lt, length_texts ks) in
    subst IsText (texts_get ks i x ∙ ap (λ (k : Vec ℕ Global). k.items) (sym at)) (h i x.items long)

-- ---- numbers that stay

number_pushed : (ts : List (List ℕ)) (t : List ℕ) → place_of_text (ts ++ t ∷ []) t ≡ place_of_text ts t
number_pushed [] t = ap (λ b. if b then zero else suc zero) (nat_list_eq_equiv.refl t)
number_pushed (u ∷ ts) t = ap (λ n. if same_bytes t u then zero else suc n) (number_pushed ts t)

number_noted : (ts : List (List ℕ)) (t : List ℕ) → place_of_text (with_text ts t) t ≡ place_of_text ts t
number_noted ts t = by (list_any (same_bytes t) ts)
  where
    by : (b : Bool) → place_of_text (if b then ts else ts ++ t ∷ []) t ≡ place_of_text ts t
    by true = refl
    by false = number_pushed ts t

-- a text that is among others stays among them, with its number
module _ (t : List ℕ) where
  among_front : (ts us : List (List ℕ)) → list_any (same_bytes t) ts ≡ true → list_any (same_bytes t) (ts ++ us) ≡ true
  among_front [] us h = cc
  among_front (u ∷ ts) us h = by (same_bytes t u) h (among_front ts us)
    where
      by : (b : Bool) → (b || list_any (same_bytes t) ts) ≡ true → (list_any (same_bytes t) ts ≡ true → list_any (same_bytes t) (ts ++ us) ≡ true) → (b || list_any (same_bytes t) (ts ++ us)) ≡ true
      by true h k = refl
      by false h k = k h

  number_front : (ts us : List (List ℕ)) → list_any (same_bytes t) ts ≡ true → place_of_text (ts ++ us) t ≡ place_of_text ts t
  number_front [] us h = cc
  number_front (u ∷ ts) us h = by (same_bytes t u) h (number_front ts us)
    where
      by : (b : Bool) → (b || list_any (same_bytes t) ts) ≡ true → (list_any (same_bytes t) ts ≡ true → place_of_text (ts ++ us) t ≡ place_of_text ts t) → (if b then zero else suc (place_of_text (ts ++ us) t)) ≡ (if b then zero else suc (place_of_text ts t))
      by true h k = refl
      by false h k = ap suc (k h)

  among_with : (ts : List (List ℕ)) (u : List ℕ) → list_any (same_bytes t) ts ≡ true → list_any (same_bytes t) (with_text ts u) ≡ true
  among_with ts u h = by (list_any (same_bytes u) ts)
    where
      by : (b : Bool) → list_any (same_bytes t) (if b then ts else ts ++ u ∷ []) ≡ true
      by true = h
      by false = among_front ts (u ∷ []) h

  number_with : (ts : List (List ℕ)) (u : List ℕ) → list_any (same_bytes t) ts ≡ true → place_of_text (with_text ts u) t ≡ place_of_text ts t
  number_with ts u h = by (list_any (same_bytes u) ts)
    where
      by : (b : Bool) → place_of_text (if b then ts else ts ++ u ∷ []) t ≡ place_of_text ts t
      by true = refl
      by false = number_front ts (u ∷ []) h

  number_kept : (ts us : List (List ℕ)) → list_any (same_bytes t) ts ≡ true → place_of_text (with_texts ts us) t ≡ place_of_text ts t
  number_kept ts [] h = refl
  number_kept ts (u ∷ us) h = number_kept (with_text ts u) us (among_with ts u h) ∙ number_with ts u h

  among_pushed : (ts : List (List ℕ)) → list_any (same_bytes t) (ts ++ t ∷ []) ≡ true
  among_pushed [] = ap (λ b. b || false) (nat_list_eq_equiv.refl t)
  among_pushed (u ∷ ts) = by (same_bytes t u) (among_pushed ts)
    where
      by : (b : Bool) → list_any (same_bytes t) (ts ++ t ∷ []) ≡ true → (b || list_any (same_bytes t) (ts ++ t ∷ [])) ≡ true
      by true h = refl
      by false h = h

  among_noted : (ts : List (List ℕ)) → list_any (same_bytes t) (with_text ts t) ≡ true
  among_noted ts = by (list_any (same_bytes t) ts) refl
    where
      by : (b : Bool) → list_any (same_bytes t) ts ≡ b → list_any (same_bytes t) (if b then ts else ts ++ t ∷ []) ≡ true
      by true h = h
      by false h = among_pushed ts

  -- the number that a text is given is the one that it has among all
  pub number_stays : (ts all : List (List ℕ)) → GoOn (with_text ts t) all → place_of_text ts t ≡ place_of_text all t
  number_stays ts all go = sym (number_noted ts t) ∙ sym (number_kept (with_text ts t) go.more (among_noted ts)) ∙ ap (λ x. place_of_text x t) (sym go.are)
