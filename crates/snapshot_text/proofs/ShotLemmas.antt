-- The line of a shot: its parts, and that no line feed stands in it.
use Rattle.std.proofs.Common.{◌≡◌, ◌<◌, ◌≤◌, ℕ, true, false, cond, List, [], ◌∷◌, ◌++◌, map, Option, Some, None, All, refl, sym, ap, subst, ◌∙◌, lit<, arith}
use Rattle.std.specs.Prelude.{◌==◌, ◌&&◌, ◌||◌, codes}
use Rattle.std.specs.List.{list_all}
use Rattle.std.proofs.lemmas.Bool.{and_parts}
use Rattle.std.proofs.lemmas.Bool.Decides.{nat_tests}
use Rattle.std.proofs.lemmas.List.Elements.{All-head, All-tail}
use Rattle.wave_base.specs.Text.{escaped_byte, escaped_text}
use Rattle.wave_base.specs.declared.path.Path.{Path}
use Rattle.wave_base.specs.declared.shape.FieldInfo.{FieldInfo}
use Rattle.wave_base.specs.declared.shape.Shape.{Shape}
use Rattle.wave_base.specs.declared.shot.Shot.{Shot}
use Rattle.wave_base.specs.declared.value.Value.{Value}
use Rattle.wave_base.specs.declared.value.Value.TheVariants as value
use Rattle.wave_base.specs.Names.{HasNames, is_word}
use Rattle.wave_base.specs.Shapes.{class_of, declared_fields}
use Rattle.wave_base.specs.Text.{IsPrintable}
use Rattle.wave_text.specs.ValueTexts.{value_text, pairs_text}
use Rattle.wave_text.specs.Splits.{is_other, HasNone, IsSplit, ArePartsAt}
use Rattle.path_text.specs.Found.{IsPath, IsPathOf}
use Rattle.path_text.specs.PathTexts.{path_text}
use Rattle.path_text.specs.ShotTexts.{field_text, fields_text, shot_text}
use Rattle.wave_text.proofs.SplitLemmas.{one_split, none-append}
use Rattle.journal_text.proofs.SolidLemmas.{solid_has_none, path_solid, word_solid}
use Rattle.snapshot_text.specs.Shots.{IsValue, IsShot}
use Rattle.snapshot_text.specs.Verdicts.{IsLineOf}
use Rattle.snapshot_text.specs.inner.Guesses.{behind_first, AreGoodFor, AreValuesOf, IsShotOf}
use Rattle.snapshot_text.proofs.FieldLemmas.{ends_fields}
use Rattle.snapshot_text.proofs.FitLemmas.{field_words}
use Rattle.snapshot_text.proofs.MapLemmas.{fit_of}
use Rattle.snapshot_text.proofs.NumberLemmas.{number_has_none, pairs_joined, joined_no_feed}
use Rattle.snapshot_text.proofs.ValueLemmas.{run_found}

-- ---- no line feed

printable_no_feed : (b : ℕ) → IsPrintable b → is_other 10 b ≡ true
printable_no_feed b h = (let low : 32 ≤ b = h.0 in grind (arith, nat_tests))

byte_no_feed : (b : ℕ) → IsPrintable b → HasNone 10 (escaped_byte b)
byte_no_feed b h =
    elim (b == 34 || b == 92) as (λ t. HasNone 10 (cond t (92 ∷ b ∷ []) (b ∷ []))) [
      | true ↦ ap (λ t. t && true) (printable_no_feed b h)
      | false ↦ ap (λ t. t && true) (printable_no_feed b h)
    ]

escaped_no_feed : (t : List ℕ) → All IsPrintable t → HasNone 10 (escaped_text t)
escaped_no_feed [] h = refl
escaped_no_feed (b ∷ bs) h = none-append 10 (escaped_byte b) (escaped_text bs) (byte_no_feed b (All-head IsPrintable b bs h)) (escaped_no_feed bs (All-tail IsPrintable b bs h))

value_no_feed : (v : Value) → IsValue v → HasNone 10 (value_text v)
value_no_feed (value.Int z) h = number_has_none 10 (lit< tt) z h
value_no_feed (value.Bool true) h = refl
value_no_feed (value.Bool false) h = refl
value_no_feed (value.Str t) h = none-append 10 (34 ∷ escaped_text t) (34 ∷ []) (escaped_no_feed t h.printable) refl
value_no_feed (value.Map m) h =
    none-append 10 (123 ∷ pairs_text m) (125 ∷ []) (subst (HasNone 10) (sym (pairs_joined m)) (joined_no_feed m (fit_of m h.1))) refl

fields_no_feed : (fields : List FieldInfo) (vs : List Value) → list_all is_word (map (λ f. f.name) fields) ≡ true → All IsValue vs → HasNone 10 (fields_text fields vs)
fields_no_feed [] vs w h = refl
fields_no_feed (f ∷ fs) [] w h = refl
fields_no_feed (f ∷ fs) (v ∷ vs) w h =
    let k = and_parts (is_word f.name) (list_all is_word (map (λ g. g.name) fs)) w in
    let name : HasNone 10 f.name = solid_has_none 10 (lit< tt) f.name (word_solid f.name k.0) in
    none-append 10 (field_text f v) (fields_text fs vs)
    (none-append 10 ((32 ∷ f.name) ++ 61 ∷ []) (value_text v) (none-append 10 (32 ∷ f.name) (61 ∷ []) name refl) (value_no_feed v (All-head IsValue v vs h)))
    (fields_no_feed fs vs k.1 (All-tail IsValue v vs h))

module _ (shape : Shape) (names : HasNames shape) where
  pub path_has_none : (b : ℕ) → b < 33 → (p : Path) → IsPath shape p → HasNone b (path_text shape p)
  path_has_none b low p h = solid_has_none b low (path_text shape p) (path_solid shape names p h.path h.keys)

  pub path_in : (s : Shot) → IsShot shape s → IsPath shape s.path
  path_in s h = h.path

  pub shot_no_feed : (s : Shot) → IsShot shape s → HasNone 10 (shot_text shape s)
  shot_no_feed s h =
      none-append 10 (codes "at " ++ path_text shape s.path) (fields_text (declared_fields shape (class_of s.path)) s.fields)
      (none-append 10 (codes "at ") (path_text shape s.path) refl (path_has_none 10 (lit< tt) s.path (path_in s h)))
      (fields_no_feed (declared_fields shape (class_of s.path)) s.fields (field_words shape names (class_of s.path)) h.values)

  -- the line at the front of a text
  pub front_shot : (text line after : List ℕ) → IsSplit 10 text line after → (s : Shot) (rest : List ℕ) → IsShot shape s → text ≡ shot_text shape s ++ 10 ∷ rest → (line ≡ shot_text shape s) × (after ≡ rest)
  front_shot text line after p s rest h e = one_split 10 line after (shot_text shape s) rest p.first (shot_no_feed s h) (sym p.spelled ∙ e)

  -- ---- the parts of a line

  module _ (line word behind path rest : List ℕ) (first : ArePartsAt 32 line word behind) (second : ArePartsAt 32 behind path rest) where
    pub line_parts : (s : Shot) → IsLineOf shape line s → (path ≡ path_text shape s.path) × (rest ≡ behind_first (fields_text (declared_fields shape (class_of s.path)) s.fields))
    line_parts s h =
        let fields : List ℕ = fields_text (declared_fields shape (class_of s.path)) s.fields in
        let c = first.cut (97 ∷ 116 ∷ []) (path_text shape s.path ++ fields) refl h.spelled in
        run_found behind path rest second (path_text shape s.path) fields (path_has_none 32 (lit< tt) s.path (path_in s h.fits)) (ends_fields (declared_fields shape (class_of s.path)) s.fields) c.1

    pub no_path : IsPathOf shape path None → IsShotOf shape line None
    no_path of s h = (let found : None ≡ Some s.path = of s.path (path_in s h.fits) (line_parts s h).0 in cc)

    module _ (p : Path) (of_path : IsPathOf shape path (Some p)) (fields : List FieldInfo) (at : fields ≡ declared_fields shape (class_of p)) where
      same_path : (s : Shot) → IsLineOf shape line s → p ≡ s.path
      same_path s h = (let found : Some p ≡ Some s.path = of_path s.path (path_in s h.fits) (line_parts s h).0 in cc)

      fields_are : (s : Shot) → IsLineOf shape line s → fields ≡ declared_fields shape (class_of s.path)
      fields_are s h = at ∙ ap (λ q. declared_fields shape (class_of q)) (same_path s h)

      values_are : (o : Option (List Value)) → AreValuesOf fields rest o → (s : Shot) → IsLineOf shape line s → o ≡ Some s.fields
      values_are o of s h =
          let f = fields_are s h in
          of s.fields (subst (λ fs. AreGoodFor fs s.fields) (sym f) (record { kinds = h.fits.kinds; values = h.fits.values })) ((line_parts s h).1 ∙ ap (λ fs. behind_first (fields_text fs s.fields)) (sym f))

      pub no_values : AreValuesOf fields rest None → IsShotOf shape line None
      no_values of s h = (let found : None ≡ Some s.fields = values_are None of s h in cc)

      pub shot_seen : (vs : List Value) → AreValuesOf fields rest (Some vs) → IsShotOf shape line (Some (record { path = p; fields = vs }))
      shot_seen vs of s h =
          let found : Some vs ≡ Some s.fields = values_are (Some vs) of s h in
          let same : vs ≡ s.fields = cc in
          λ i. Some (record { path = same_path s h i; fields = same i })
      -- ---- the line is written just so
