-- What the shots of a start show at their paths.
use Rattle.std.proofs.Common.{◌≡◌, Bool, true, false, if◌then◌else◌, List, [], ◌∷◌, true≢false, refl, sym, ap, subst, ◌∙◌}
use Rattle.std.specs.Prelude.{◌||◌}
use Rattle.std.specs.List.{list_any, AllByRecursion}
use Rattle.std.specs.List.Sorted.{IsStrictlySortedBy}
use Rattle.std.specs.Ordering.{is_eq}
use Rattle.std.specs.declared.cmp.Ordering.TheVariants.{Less}
use Rattle.wave_base.specs.declared.path.Path.{Path}
use Rattle.wave_base.specs.declared.shape.Shape.{Shape}
use Rattle.wave_base.specs.declared.shot.Shot.{Shot}
use Rattle.wave_base.specs.Paths.{path_eq, path_cmp}
use Rattle.wave_base.specs.PathLaws.{path_eq_equiv, path_eq_ties}
use Rattle.wave_base.specs.Shapes.{initial_fields}
use Rattle.wave_base.specs.Starts.{shown_fields}
use Rattle.wave_base.specs.Trees.{HasKinds}
use Rattle.snapshot_text.specs.Shots.{paths_of}
use Rattle.checkpoint_store.proofs.OrderLemmas.{rec_both}

module _ (shape : Shape) where
  at_head : (s : Shot) (ss : List Shot) → shown_fields shape (s ∷ ss) s.path ≡ s.fields
  at_head s ss = ap (λ b. if b then s.fields else shown_fields shape ss s.path) (path_eq_equiv.refl s.path)

  behind_head : (s : Shot) (ss : List Shot) (p : Path) → path_cmp s.path p ≡ Less → shown_fields shape (s ∷ ss) p ≡ shown_fields shape ss p
  behind_head s ss p e = ap (λ b. if b then s.fields else shown_fields shape ss p) (path_eq_ties s.path p ∙ ap is_eq e)

  abbrev Shows : List Shot → Path → Type 0
  Shows ss p = HasKinds shape p (shown_fields shape ss p)

  pub kinds_shown : (ss : List Shot) → IsStrictlySortedBy path_cmp (paths_of ss) → AllByRecursion (λ (s : Shot). HasKinds shape s.path s.fields) ss → AllByRecursion (Shows ss) (paths_of ss)
  unfolding IsStrictlySortedBy
  kinds_shown [] o h = tt
  kinds_shown (s ∷ ss) o h = (
    subst (HasKinds shape s.path) (sym (at_head s ss)) h.0,
    rec_both (λ p. path_cmp s.path p ≡ Less) (Shows ss) (Shows (s ∷ ss)) (λ p e k. subst (HasKinds shape p) (sym (behind_head s ss p e)) k) (paths_of ss) o.0 (kinds_shown ss o.1 h.1),
  )

  pub shown_kinds : (ss : List Shot) → IsStrictlySortedBy path_cmp (paths_of ss) → AllByRecursion (Shows ss) (paths_of ss) → AllByRecursion (λ (s : Shot). HasKinds shape s.path s.fields) ss
  unfolding IsStrictlySortedBy
  shown_kinds [] o h = tt
  shown_kinds (s ∷ ss) o h = (
    subst (HasKinds shape s.path) (at_head s ss) h.0,
    shown_kinds ss o.1 (rec_both (λ p. path_cmp s.path p ≡ Less) (Shows (s ∷ ss)) (Shows ss) (λ p e k. subst (HasKinds shape p) (behind_head s ss p e) k) (paths_of ss) o.0 h.1),
  )

  pub shown_absent : (ss : List Shot) (p : Path) → list_any (path_eq p) (paths_of ss) ≡ false → shown_fields shape ss p ≡ initial_fields shape p
  shown_absent [] p e = refl
  shown_absent (s ∷ ss) p e = by_path (path_eq s.path p) refl (shown_absent ss p)
    where
      same : (b : Bool) → path_eq s.path p ≡ b → (b || list_any (path_eq p) (paths_of ss)) ≡ false
      same b f = sym (ap (λ b. b || list_any (path_eq p) (paths_of ss)) (path_eq_equiv.symm p s.path ∙ f)) ∙ e

      by_path : (b : Bool) → path_eq s.path p ≡ b → (list_any (path_eq p) (paths_of ss) ≡ false → shown_fields shape ss p ≡ initial_fields shape p) → (if b then s.fields else shown_fields shape ss p) ≡ initial_fields shape p
      by_path true f rest = absurd (true≢false (same true f))
      by_path false f rest = rest (same false f)
