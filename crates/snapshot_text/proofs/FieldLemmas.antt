-- How far the values of fields were read.
use Rattle.std.proofs.Common.{◌≡◌, ◌+◌, ◌<◌, ◌≤◌, ℕ, zero, suc, true, List, [], ◌∷◌, ◌++◌, length, map, drop, take, get_or, Some, None, All, refl, sym, ap, subst, ◌∙◌, append_assoc, append-nil, drop-cons, arith}
use Rattle.std.specs.List.{list_all}
use Rattle.std.proofs.lemmas.Bool.{and_parts}
use Rattle.std.proofs.lemmas.List.{drop_all, map-append, take_more}
use Rattle.std.proofs.lemmas.List.Elements.{All-nil, All-cons, All-head, All-tail, All-append}
use Rattle.wave_base.specs.declared.shape.FieldInfo.{FieldInfo}
use Rattle.wave_base.specs.declared.value.Value.{Value}
use Rattle.wave_base.specs.Names.{is_word}
use Rattle.wave_base.specs.Values.{kind_of}
use Rattle.wave_text.specs.ValueTexts.{value_text}
use Rattle.path_text.specs.ShotTexts.{field_text, fields_text}
use Rattle.wave_text.specs.Splits.{ArePartsAt}
use Rattle.snapshot_text.specs.Shots.{IsValue}
use Rattle.snapshot_text.specs.inner.Fronts.{Ends}
use Rattle.snapshot_text.specs.inner.Guesses.{behind_first, IsFrontOf, IsSeen, IsUnseen, AreGoodFor, AreValuesOf}
use Rattle.snapshot_text.proofs.ByteLemmas.{word_no_equals}

-- the values of the fields from the i-th on
pub record AreMore (fields : List FieldInfo) (done vs : List Value) (rest : List ℕ) : Type 0 where
  pub more : List Value
  pub all : vs ≡ done ++ more
  pub good : AreGoodFor fields more
  pub left : rest ≡ behind_first (fields_text fields more)

pub record AreReadTo (fields : List FieldInfo) (text : List ℕ) (i : ℕ) (done : List Value) (rest : List ℕ) : Type 0 where
  pub kinds : map kind_of done ≡ map (λ f. f.kind) (take i fields)
  pub values : All IsValue done
  pub only : (vs : List Value) → AreGoodFor fields vs → text ≡ behind_first (fields_text fields vs) → AreMore (drop i fields) done vs rest

pub ends_fields : (fields : List FieldInfo) (vs : List Value) → Ends (fields_text fields vs)
ends_fields [] vs = tt
ends_fields (f ∷ fs) [] = tt
ends_fields (f ∷ fs) (v ∷ vs) = refl

-- the text of a field in its parts
field_spelled : (f : FieldInfo) (v : Value) (rest : List ℕ) → field_text f v ++ rest ≡ 32 ∷ (f.name ++ 61 ∷ (value_text v ++ rest))
field_spelled f v rest = ap (λ z. 32 ∷ z) (append_assoc (f.name ++ 61 ∷ []) (value_text v) rest ∙ append_assoc f.name (61 ∷ []) (value_text v ++ rest))

module _ (f : FieldInfo) (fs : List FieldInfo) (word : is_word f.name ≡ true) (rest front value : List ℕ) (a : ArePartsAt 61 rest front value) where
  -- the value of the next field
  next_value : (done vs more : List Value) → vs ≡ done ++ more → AreGoodFor (f ∷ fs) more → rest ≡ behind_first (fields_text (f ∷ fs) more)
      → (v : Value) × (us : List Value) × (more ≡ v ∷ us) × AreGoodFor fs us × IsFrontOf f.kind value v (fields_text fs us)
  next_value done vs [] all good e = (let kinds = good.kinds in cc)
  next_value done vs (v ∷ us) all good e =
      let kinds : kind_of v ∷ map kind_of us ≡ f.kind ∷ map (λ g. g.kind) fs = good.kinds in
      let kind : kind_of v ≡ f.kind = cc in
      let others : map kind_of us ≡ map (λ g. g.kind) fs = cc in
      let c = a.cut f.name (value_text v ++ fields_text fs us) (word_no_equals f.name word) (e ∙ ap behind_first (field_spelled f v (fields_text fs us))) in (
        v,
        us,
        refl,
        record { kinds = others; values = All-tail IsValue v us good.values },
        record { spelled = c.1; fits = All-head IsValue v us good.values; kind_is = kind; ends = ends_fields fs us },
      )

  pub more_after : (done vs : List Value) (v : Value) (after : List ℕ) → IsSeen f.kind value v after → AreMore (f ∷ fs) done vs rest → AreMore fs (done ++ v ∷ []) vs after
  more_after done vs v after seen m =
      let n = next_value done vs m.more m.all m.good m.left in
      let o = seen.only n.0 (fields_text fs n.1) n.4 in
      record {
        more = n.1;
        all = m.all ∙ ap (λ z. done ++ z) (n.2 ∙ ap (λ x. x ∷ n.1) o.0) ∙ sym (append_assoc done (v ∷ []) n.1);
        good = n.3;
        left = o.1;
      }

  pub none_after : (done vs : List Value) → IsUnseen f.kind value → AreMore (f ∷ fs) done vs rest → ⊥
  none_after done vs unseen m = (let n = next_value done vs m.more m.all m.good m.left in unseen n.0 (fields_text fs n.1) n.4)

-- ---- the field at a place

name_at : (fields : List FieldInfo) (i : ℕ) (f : FieldInfo) → i < length fields → f ≡ get_or fields i f → list_all is_word (map (λ g. g.name) fields) ≡ true → is_word f.name ≡ true
name_at [] i f below at h = absurd (omega arith)
name_at (g ∷ gs) zero f below at h = subst (λ (x : FieldInfo). is_word x.name ≡ true) (sym at) (and_parts (is_word g.name) (list_all is_word (map (λ x. x.name) gs)) h).0
name_at (g ∷ gs) (suc i) f below at h = name_at gs i f (omega arith) at (and_parts (is_word g.name) (list_all is_word (map (λ x. x.name) gs)) h).1

module _ (fields : List FieldInfo) (names : list_all is_word (map (λ f. f.name) fields) ≡ true) (text : List ℕ) (i : ℕ) (done : List Value) (rest : List ℕ) (t : AreReadTo fields text i done rest)
    (f : FieldInfo) (below : i < length fields) (at : f ≡ get_or fields i f) (front value : List ℕ) (a : ArePartsAt 61 rest front value) where
  next : drop i fields ≡ f ∷ drop (i + 1) fields
  next = (let one : i + 1 ≡ suc i = omega arith in drop-cons fields i f below ∙ (λ j. sym at j ∷ drop (sym one j) fields))

  more_at : (vs : List Value) → AreGoodFor fields vs → text ≡ behind_first (fields_text fields vs) → AreMore (f ∷ drop (i + 1) fields) done vs rest
  more_at vs g e = subst (λ fs. AreMore fs done vs rest) next (t.only vs g e)

  pub value_read : (done' : List Value) (v : Value) (after : List ℕ) → done' ≡ done ++ v ∷ [] → IsSeen f.kind value v after → AreReadTo fields text (i + 1) done' after
  value_read done' v after is seen = subst (λ d. AreReadTo fields text (i + 1) d after) (sym is) (record {
    kinds = map-append kind_of done (v ∷ []) ∙ (λ j. t.kinds j ++ seen.kind_is j ∷ []) ∙ sym (map-append (λ g. g.kind) (take i fields) (f ∷ [])) ∙ ap (map (λ g. g.kind)) (ap (λ x. take i fields ++ x ∷ []) at ∙ sym (take_more fields i f below));
    values = All-append IsValue done (v ∷ []) t.values (All-cons IsValue v [] seen.fits (All-nil IsValue));
    only = λ vs g e. more_after f (drop (i + 1) fields) (name_at fields i f below at names) rest front value a done vs v after seen (more_at vs g e);
  })

  pub value_missed : IsUnseen f.kind value → AreValuesOf fields text None
  value_missed unseen vs g e = absurd (none_after f (drop (i + 1) fields) (name_at fields i f below at names) rest front value a done vs unseen (more_at vs g e))

pub all_read : (fields : List FieldInfo) (text : List ℕ) (i : ℕ) (done : List Value) (rest : List ℕ) → length fields ≤ i → AreReadTo fields text i done rest → AreValuesOf fields text (Some done)
all_read fields text i done rest end t vs g e = (let m = t.only vs g e in by_more m.more m.all (m.good.kinds ∙ ap (map (λ f. f.kind)) (drop_all i fields end)))
  where
    by_more : (us : List Value) → vs ≡ done ++ us → map kind_of us ≡ [] → Some done ≡ Some vs
    by_more [] f h = ap (λ z. Some z) (sym (append-nil done) ∙ sym f)
    by_more (u ∷ us) f h = cc
