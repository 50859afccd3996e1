-- Labels whose paths are named by numbers.
use Rattle.std.proofs.Common.{◌≡◌, ◌∙◌, suc, List, [], ◌∷◌, ◌++◌, slice_get, Some, refl, sym, ap, ap₂, append-nil}
use Rattle.std.proofs.lemmas.List.{get_or_append_left, map-append}
use Rattle.std.proofs.lemmas.Option.{get_or_from_slice_get}
use Rattle.wave_base.specs.declared.path.Path.{Path}
use Rattle.wave_labels.specs.declared.label.Label.{Label}
use Rattle.label_log.specs.declared.entry.Entry.{Entry}
use Rattle.label_log.specs.declared.kept.Kept.{Kept}
use Rattle.label_log.specs.inner.Entries.{AreNumbered, Grows, label_at, labels_in, path_in, whole_labels}
use Rattle.label_log.specs.inner.Keeping.{IsKept, kept_labels}

module _ (paths more : List Path) where
  labels_on : (es : List Entry) → AreNumbered paths es → labels_in (paths ++ more) es ≡ labels_in paths es
  labels_on [] are = refl
  labels_on (e ∷ es) are =
      ap₂ (λ p ls. label_at e p ∷ ls) (get_or_append_left paths more [] e.path (are 0 e refl)) (labels_on es (λ i x at. are (suc i) x at))

-- entries stand for the same labels among more paths
pub labels_more : (paths after : List Path) (es : List Entry) → Grows paths after → AreNumbered paths es → labels_in after es ≡ labels_in paths es
labels_more paths after es grows are = ap (λ ps. labels_in ps es) grows.1 ∙ labels_on paths grows.0 es are

-- further numbers leave the labels that are kept
pub kept_more : (k after : Kept) → Grows k.paths.keys after.paths.keys → after.entries.items ≡ k.entries.items → after.whole.items ≡ k.whole.items → IsKept k → kept_labels after ≡ kept_labels k
kept_more k after grows entries whole is =
    ap₂ (λ es ws. labels_in after.paths.keys es ++ whole_labels ws) entries whole
    ∙ ap (λ ls. ls ++ whole_labels k.whole.items) (labels_more k.paths.keys after.paths.keys k.entries.items grows is)

-- one label more, whose path has a number
pub labels_push : (paths : List Path) (es es' : List Entry) (whole : List (Entry × Path)) (e : Entry) (p : Path) (l : Label) → es' ≡ es ++ e ∷ [] → whole ≡ [] → slice_get paths e.path ≡ Some p → label_at e p ≡ l
    → labels_in paths es' ++ whole_labels whole ≡ (labels_in paths es ++ whole_labels whole) ++ l ∷ []
labels_push paths es es' whole e p l more none has is =
    ap₂ (λ xs ws. labels_in paths xs ++ whole_labels ws) more none
    ∙ append-nil (labels_in paths (es ++ e ∷ []))
    ∙ map-append (λ (x : Entry). label_at x (path_in paths x.path)) es (e ∷ [])
    ∙ ap (λ x. labels_in paths es ++ x ∷ []) (ap (label_at e) (get_or_from_slice_get paths e.path p [] has) ∙ is)
    ∙ ap (λ xs. xs ++ l ∷ []) (sym (append-nil (labels_in paths es)))
    ∙ ap (λ ws. (labels_in paths es ++ whole_labels ws) ++ l ∷ []) (sym none)
