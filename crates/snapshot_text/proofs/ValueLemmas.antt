-- The value at the front of a text, as the reader of shots takes it.
use Rattle.std.proofs.Common.{◌≡◌, ℕ, ℤ, List, [], ◌∷◌, ◌++◌, Some, None, FitsSigned, w64, refl, sym, ap, subst, ◌∙◌, append_assoc, append-nil, lit<}
use Rattle.std.specs.Fmt.{signed_decimal}
use Rattle.wave_base.specs.declared.value.Kind.TheVariants as k
use Rattle.wave_base.specs.declared.value.Value.{Value}
use Rattle.wave_base.specs.declared.value.Value.TheVariants.{Int, Bool as Truth, Str, Map}
use Rattle.wave_base.specs.Values.{kind_of}
use Rattle.wave_text.specs.ValueTexts.{value_text, pairs_text}
use Rattle.wave_text.specs.Splits.{HasNone, ArePartsAt}
use Rattle.snapshot_text.specs.Shots.{IsValue}
use Rattle.snapshot_text.specs.inner.Fronts.{Ends}
use Rattle.snapshot_text.specs.inner.Guesses.{behind_first, IsNumberOf, IsTableOf, IsSeen, IsUnseen}
use Rattle.snapshot_text.proofs.NumberLemmas.{number_has_none, pairs_joined, joined_no_brace}
use Rattle.snapshot_text.proofs.MapLemmas.{fit_of}

-- the bytes before the first space, and those behind it
pub run_found : (text front rest : List ℕ) → ArePartsAt 32 text front rest → (run left : List ℕ) → HasNone 32 run → Ends left → text ≡ run ++ left → (front ≡ run) × (rest ≡ behind_first left)
run_found text front rest a run [] none ends e =
    let all : text ≡ run = e ∙ append-nil run in
    let w = a.whole (subst (HasNone 32) (sym all) none) in
    (w.0 ∙ all, w.1)
run_found text front rest a run (b ∷ left) none ends e = a.cut run left none (e ∙ ap (λ x. run ++ x ∷ left) ends)

-- ---- whole numbers

module _ (text front rest : List ℕ) (a : ArePartsAt 32 text front rest) where
  int_by : (v : Value) (left : List ℕ) → text ≡ value_text v ++ left → IsValue v → kind_of v ≡ k.Int → Ends left → (z : ℤ) × (v ≡ Int z) × FitsSigned w64 z × (front ≡ signed_decimal z) × (rest ≡ behind_first left)
  int_by (Int z) left e f h ends = (let r = run_found text front rest a (signed_decimal z) left (number_has_none 32 (lit< tt) z f) ends e in (z, refl, f, r.0, r.1))
  int_by (Truth b) left e f h ends = cc
  int_by (Str t) left e f h ends = cc
  int_by (Map m) left e f h ends = cc

  pub int_seen : (z : ℤ) → IsNumberOf front (Some z) → FitsSigned w64 z → IsSeen k.Int text (Int z) rest
  int_seen z of f = record {
    fits = f;
    kind_is = refl;
    only = λ other left h.
        let r = int_by other left h.spelled h.fits h.kind_is h.ends in
        let found : Some z ≡ Some r.0 = of r.0 r.2 r.3 in
        let same : r.0 ≡ z = cc in
        (r.1 ∙ ap (λ n. Int n) same, r.4);
  }

  pub int_unseen : IsNumberOf front None → IsUnseen k.Int text
  int_unseen of v left h =
      let r = int_by v left h.spelled h.fits h.kind_is h.ends in
      let found : None ≡ Some r.0 = of r.0 r.2 r.3 in
      cc

-- ---- truth values

-- ---- texts

-- ---- maps

module _ (text pairs rest : List ℕ) (a : ArePartsAt 125 (behind_first text) pairs rest) where
  map_by : (v : Value) (left : List ℕ) → text ≡ value_text v ++ left → IsValue v → kind_of v ≡ k.Map → (m : List (ℤ × ℤ)) × (v ≡ Map m) × IsValue (Map m) × (pairs ≡ pairs_text m) × (rest ≡ left)
  map_by (Int z) left e f h = cc
  map_by (Truth b) left e f h = cc
  map_by (Str t) left e f h = cc
  map_by (Map m) left e f h =
      let none : HasNone 125 (pairs_text m) = subst (HasNone 125) (sym (pairs_joined m)) (joined_no_brace m (fit_of m f.1)) in
      let c = a.cut (pairs_text m) left none (ap behind_first e ∙ append_assoc (pairs_text m) (125 ∷ []) left) in
      (m, refl, f, c.0, c.1)

  pub map_seen : (m : List (ℤ × ℤ)) → IsTableOf pairs (Some m) → IsValue (Map m) → IsSeen k.Map text (Map m) (behind_first rest)
  map_seen m of f = record {
    fits = f;
    kind_is = refl;
    only = λ other left h.
        let r = map_by other left h.spelled h.fits h.kind_is in
        let found : Some m ≡ Some r.0 = of r.0 r.2 r.3 in
        let same : r.0 ≡ m = cc in
        (r.1 ∙ ap (λ n. Map n) same, ap behind_first r.4);
  }

  pub map_unseen : IsTableOf pairs None → IsUnseen k.Map text
  map_unseen of v left h =
      let r = map_by v left h.spelled h.fits h.kind_is in
      let found : None ≡ Some r.0 = of r.0 r.2 r.3 in
      cc
