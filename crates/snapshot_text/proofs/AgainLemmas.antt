-- The line of a shot has the form, with the steps of its path.
use Rattle.std.proofs.Common.{◌≡◌, ℕ, zero, suc, ℤ, true, false, List, [], ◌∷◌, ◌++◌, length, map, slice_get, Some, None, All, FitsSigned, w64, refl, sym, ap, subst, ◌∙◌, append_assoc, lit<, arith}
use Rattle.std.specs.Prelude.{◌&&◌, nat_le, codes}
use Rattle.std.specs.Fmt.{signed_decimal}
use Rattle.std.specs.List.{list_all}
use Rattle.std.specs.List.Sorted.{IsStrictlySortedBy}
use Rattle.std.specs.Map.{keys_of}
use Rattle.std.specs.Ordering.{int_cmp}
use Rattle.std.proofs.lemmas.Bool.{and_parts}
use Rattle.std.proofs.lemmas.Bool.Decides.{nat_tests}
use Rattle.std.proofs.lemmas.List.Elements.{All-nil, All-cons, All-head, All-tail}
use Rattle.wave_base.specs.declared.path.Step.{Step}
use Rattle.wave_base.specs.declared.shape.ClassInfo.{ClassInfo}
use Rattle.wave_base.specs.declared.shape.FieldInfo.{FieldInfo}
use Rattle.wave_base.specs.declared.shape.Shape.{Shape}
use Rattle.wave_base.specs.declared.shot.Shot.{Shot}
use Rattle.wave_base.specs.declared.value.Value.{Value}
use Rattle.wave_base.specs.declared.value.Value.TheVariants as value
use Rattle.wave_base.specs.Names.{HasNames, is_word, is_name}
use Rattle.wave_base.specs.Shapes.{class_of, class_name, name_in, is_class, parent_class, parent_in, declared_fields, is_path_from}
use Rattle.wave_text.specs.ValueTexts.{value_text}
use Rattle.wave_text.specs.Words.{without_minus}
use Rattle.wave_text.proofs.ReadBack.{whole_again}
use Rattle.path_text.specs.declared.written.Written.{Written}
use Rattle.wave_text.specs.Splits.{HasNone}
use Rattle.path_text.specs.inner.Fronts.{AreParts}
use Rattle.path_text.specs.Paths.{path_of}
use Rattle.path_text.specs.PathTexts.{written_step, path_text}
use Rattle.path_text.specs.ShotTexts.{field_text, fields_text, shot_text}
use Rattle.path_text.specs.Steps.{is_key, is_step, steps_text, HasSteps}
use Rattle.path_text.proofs.Again.{path_again}
use Rattle.wave_text.proofs.SplitLemmas.{nowhere}
use Rattle.path_text.proofs.FrontLemmas.{word_has_none, key_has_none, one_front}
use Rattle.snapshot_text.specs.Forms as forms
use Rattle.snapshot_text.specs.Forms.{Literal, Number, Truth, Text, Map, IsLiteral, literal_text, Field, IsField, is_plain_step, are_pairs, HasForm}
use Rattle.snapshot_text.specs.Shots.{IsValue, IsShot}
use Rattle.snapshot_text.proofs.BelowLemmas.{plain_again, below_again}
use Rattle.snapshot_text.proofs.FitLemmas.{field_words}
use Rattle.journal_text.proofs.SolidLemmas.{solid_has_none, path_solid}
use Rattle.snapshot_text.specs.inner.Fronts.{IsRun}
use Rattle.snapshot_text.specs.Verdicts.{IsLineOf, HasUnknownPath}
use Rattle.snapshot_text.proofs.FieldLemmas.{ends_fields}
use Rattle.snapshot_text.proofs.FormLemmas.{form_parts}
use Rattle.snapshot_text.proofs.LiteralLemmas.{same_rest}
use Rattle.snapshot_text.proofs.MapLemmas.{fit_of}
use Rattle.snapshot_text.proofs.NumberLemmas.{pair_spelled, joined, pairs_joined, Fit}

-- ---- values

abbrev texts_of : List (ℤ × ℤ) → List (List ℕ × List ℕ)
texts_of ps = map (λ (p : ℤ × ℤ). (signed_decimal p.0, signed_decimal p.1)) ps

joined_as : (ps : List (ℤ × ℤ)) → joined ps ≡ forms.pairs_text (texts_of ps)
joined_as [] = refl
joined_as (p ∷ []) = pair_spelled p
joined_as (p ∷ q ∷ ps) = λ i. pair_spelled p i ++ 44 ∷ 32 ∷ joined_as (q ∷ ps) i

pairs_are : (ps : List (ℤ × ℤ)) → Fit ps → IsStrictlySortedBy int_cmp (keys_of ps) → are_pairs (texts_of ps) ≡ true
unfolding IsStrictlySortedBy
pairs_are [] f s = refl
pairs_are (p ∷ []) f s = λ i. plain_again p.0 f.0.key i && plain_again p.1 f.0.value i
pairs_are (p ∷ q ∷ ps) f s =
    λ i. plain_again p.0 f.0.key i && plain_again p.1 f.0.value i && below_again p.0 q.0 f.0.key f.1.0.key s.0.0 i && pairs_are (q ∷ ps) f.1 s.1 i

abbrev literal_of : Value → Literal
literal_of (value.Int z) = Number (signed_decimal z)
literal_of (value.Bool b) = Truth b
literal_of (value.Str t) = Text t
literal_of (value.Map m) = Map (texts_of m)

value_as : (v : Value) → value_text v ≡ literal_text (literal_of v)
value_as (value.Int z) = refl
value_as (value.Bool b) = refl
value_as (value.Str t) = refl
value_as (value.Map m) = ap (λ z. 123 ∷ (z ++ 125 ∷ [])) (pairs_joined m ∙ joined_as m)

literal_is : (v : Value) → IsValue v → IsLiteral (literal_of v)
literal_is (value.Int z) h = plain_again z h
literal_is (value.Bool b) h = tt
literal_is (value.Str t) h = h.printable
literal_is (value.Map m) h = pairs_are m (fit_of m h.1) h.0.rises

-- ---- fields

abbrev fields_of : List FieldInfo → List Value → List Field
fields_of [] vs = []
fields_of (f ∷ fs) [] = []
fields_of (f ∷ fs) (v ∷ vs) = record { name = f.name; literal = literal_of v } ∷ fields_of fs vs

field_as : (f : FieldInfo) (v : Value) → field_text f v ≡ forms.field_text (record { name = f.name; literal = literal_of v })
field_as f v = ap (λ z. 32 ∷ z) (append_assoc f.name (61 ∷ []) (value_text v) ∙ ap (λ z. f.name ++ 61 ∷ z) (value_as v))

fields_as : (fs : List FieldInfo) (vs : List Value) → fields_text fs vs ≡ forms.fields_text (fields_of fs vs)
fields_as [] vs = refl
fields_as (f ∷ fs) [] = refl
fields_as (f ∷ fs) (v ∷ vs) = λ i. field_as f v i ++ fields_as fs vs i

fields_are : (fs : List FieldInfo) (vs : List Value) → list_all is_word (map (λ f. f.name) fs) ≡ true → All IsValue vs → All IsField (fields_of fs vs)
fields_are [] vs w h = All-nil IsField
fields_are (f ∷ fs) [] w h = All-nil IsField
fields_are (f ∷ fs) (v ∷ vs) w h =
    let k = and_parts (is_word f.name) (list_all is_word (map (λ g. g.name) fs)) w in
    All-cons IsField (record { name = f.name; literal = literal_of v }) (fields_of fs vs) (record { name = k.0; literal = literal_is v (All-head IsValue v vs h) }) (fields_are fs vs k.1 (All-tail IsValue v vs h))

-- ---- steps

pub word_at : (classes : List ClassInfo) (n : ℕ) (info : ClassInfo) → slice_get classes n ≡ Some info → list_all is_name (map (λ c. c.name) classes) ≡ true → is_word info.name ≡ true
word_at [] n info e h = cc
word_at (x ∷ xs) zero info e h =
    let same : x ≡ info = cc in
    let name = (and_parts (is_name x.name) (list_all is_name (map (λ c. c.name) xs)) h).0 in
    subst (λ (c : ClassInfo). is_word c.name ≡ true) same (and_parts (is_word x.name) (nat_le (length x.name) 64) name).0
word_at (x ∷ xs) (suc n) info e h = word_at xs n info e (and_parts (is_name x.name) (list_all is_name (map (λ c. c.name) xs)) h).1

module _ (shape : Shape) (names : HasNames shape) where
  class_word : (c n : ℕ) → is_class c (parent_class shape n) ≡ true → is_word (class_name shape n) ≡ true
  class_word c n h =
      elim (slice_get shape.classes n) as (λ o. slice_get shape.classes n ≡ o → is_class c (parent_in o) ≡ true → is_word (name_in o) ≡ true) [
        | None ↦ λ e k. absurd (false_true k)
        | Some info ↦ λ e k. word_at shape.classes n info e names.classes.names_all
      ] refl h
    where
      false_true : false ≡ true → ⊥
      false_true k = cc

  pub steps_plain : (c : ℕ) (p : List Step) → is_path_from shape c p ≡ true → All (λ (s : Step). FitsSigned w64 s.key) p → list_all is_plain_step (map (written_step shape) p) ≡ true
  steps_plain c [] h f = refl
  steps_plain c (s ∷ p) h f =
      let parts = and_parts (is_class c (parent_class shape s.class.0)) (is_path_from shape s.class.0 p) h in
      let fits = All-head (λ (s : Step). FitsSigned w64 s.key) s p f in
      let again = whole_again s.key fits in
      let short : nat_le (length (without_minus (signed_decimal s.key))) 19 ≡ true = grind (arith, nat_tests, again.2) in
      (λ i. ((class_word c s.class.0 parts.0 i && (again.0 i && short i)) && plain_again s.key fits i) && list_all is_plain_step (map (written_step shape) p)) ∙ steps_plain s.class.0 p parts.1 (All-tail (λ (s : Step). FitsSigned w64 s.key) s p f)

  -- ---- the line

  pub has_form : (s : Shot) → IsShot shape s → HasForm (shot_text shape s) (map (written_step shape) s.path)
  has_form s h = record {
    fields = fields_of (declared_fields shape (class_of s.path)) s.fields;
    spelled = ap (λ z. codes "at " ++ (path_text shape s.path ++ z)) (fields_as (declared_fields shape (class_of s.path)) s.fields);
    steps_are = steps_plain 0 s.path h.path.path h.path.keys.keys;
    fields_are = fields_are (declared_fields shape (class_of s.path)) s.fields (field_words shape names (class_of s.path)) h.values;
  }

-- ---- one text has one list of steps

parts_of : (s : Written) (ss : List Written) → is_step s ≡ true → AreParts (steps_text (s ∷ ss)) s.name s.key (steps_text ss)
parts_of s ss h =
    let form = and_parts (is_word s.name) (is_key s.key) h in
    record {
      behind = s.name ++ 91 ∷ (s.key ++ 93 ∷ steps_text ss);
      inner = s.key ++ 93 ∷ steps_text ss;
      slash = ap (λ r. 47 ∷ r) (append_assoc s.name (91 ∷ (s.key ++ 93 ∷ [])) (steps_text ss) ∙ ap (λ r. s.name ++ 91 ∷ r) (append_assoc s.key (93 ∷ []) (steps_text ss)));
      bracket = record { spelled = refl; first = word_has_none s.name form.0 };
      close = record { spelled = refl; first = key_has_none s.key form.1 };
    }

one_steps : (xs ys : List Written) → list_all is_step xs ≡ true → list_all is_step ys ≡ true → steps_text xs ≡ steps_text ys → xs ≡ ys
one_steps [] [] f g e = refl
one_steps [] (b ∷ ys) f g e = cc
one_steps (a ∷ xs) [] f g e = cc
one_steps (a ∷ xs) (b ∷ ys) f g e =
    let k = and_parts (is_step a) (list_all is_step xs) f in
    let l = and_parts (is_step b) (list_all is_step ys) g in
    let o = one_front (steps_text (a ∷ xs)) a.name a.key (steps_text xs) (parts_of a xs k.0) b (steps_text ys) (record { spelled = e; form = l.0 }) in
    let rest = one_steps xs ys k.1 l.1 o.2 in
    λ i. record { name = o.0 i; key = o.1 i } ∷ rest i

-- the root's text is no other path's
not_root : (b : Written) (ys : List Written) → is_step b ≡ true → 47 ∷ [] ≡ steps_text (b ∷ ys) → ⊥
unfolding parts_of
not_root b ys h e =
    let form = and_parts (is_word b.name) (is_key b.key) h in
    let whole : 47 ∷ [] ≡ 47 ∷ (b.name ++ 91 ∷ (b.key ++ 93 ∷ steps_text ys)) = e ∙ (parts_of b ys h).slash in
    nowhere 91 b.name (b.key ++ 93 ∷ steps_text ys) (subst (HasNone 91) (same_rest 47 [] (b.name ++ 91 ∷ (b.key ++ 93 ∷ steps_text ys)) whole) refl)

first_step : (b : Written) (ys : List Written) → list_all is_step (b ∷ ys) ≡ true → is_step b ≡ true
first_step b ys h = (and_parts (is_step b) (list_all is_step ys) h).0

pub one_path : (text : List ℕ) (xs ys : List Written) → HasSteps text xs → HasSteps text ys → xs ≡ ys
one_path text [] [] f g = refl
one_path text [] (b ∷ ys) f g = absurd (not_root b ys (first_step b ys g.form) (sym f.spelled ∙ g.spelled))
one_path text (a ∷ xs) [] f g = absurd (not_root a xs (first_step a xs f.form) (sym g.spelled ∙ f.spelled))
one_path text (a ∷ xs) (b ∷ ys) f g = one_steps (a ∷ xs) (b ∷ ys) f.form g.form (sym f.spelled ∙ g.spelled)

module _ (shape : Shape) (names : HasNames shape) where
  -- the path of a line of a shot is one of the shape
  pub known_path : (line : List ℕ) (s : Shot) → IsLineOf shape line s → HasUnknownPath shape line → ⊥
  known_path line s l h =
      let fields : List ℕ = fields_text (declared_fields shape (class_of s.path)) s.fields in
      let solid : HasNone 32 (path_text shape s.path) = solid_has_none 32 (lit< tt) (path_text shape s.path) (path_solid shape names s.path l.fits.path.path l.fits.path.keys) in
      let run : IsRun (path_text shape s.path ++ fields) (path_text shape s.path) fields = record { spelled = refl; solid = solid; ends = ends_fields (declared_fields shape (class_of s.path)) s.fields } in
      let parts = form_parts line (path_text shape s.path ++ fields) (path_text shape s.path) fields l.spelled run h.steps h.form in
      let again = path_again shape names s.path (path_text shape s.path) l.fits.path.path l.fits.path.keys.short l.fits.path.keys.keys refl in
      let same = one_path (path_text shape s.path) h.steps again.steps parts.0 again.spelled in
      let found : None ≡ Some s.path = sym h.path_is ∙ ap (path_of shape) same ∙ again.path in
      cc
