-- What is wrong with a line is one thing.
use Rattle.std.proofs.Common.{◌≡◌, ℕ, true, false, List, Some, None, map, refl, sym, ap, subst, ◌∙◌}
use Rattle.wave_base.specs.declared.path.Path.{Path}
use Rattle.wave_base.specs.declared.shape.Shape.{Shape}
use Rattle.wave_base.specs.declared.shot.Shot.{Shot}
use Rattle.path_text.specs.declared.written.Written.{Written}
use Rattle.wave_base.specs.Names.{HasNames}
use Rattle.path_text.specs.Paths.{path_of}
use Rattle.path_text.specs.PathTexts.{written_step}
use Rattle.snapshot_text.specs.declared.error.Fault.{Fault}
use Rattle.snapshot_text.specs.declared.error.Fault.TheVariants as fault
use Rattle.snapshot_text.specs.Forms.{HasForm, HasNoForm}
use Rattle.snapshot_text.specs.Shots.{comes_next, paths_of}
use Rattle.snapshot_text.specs.Verdicts.{IsLineOf, IsLineOfNone, IsFault}
use Rattle.snapshot_text.specs.inner.Fronts.{HasOnlyForm}
use Rattle.snapshot_text.specs.inner.Guesses.{IsOnlyLineOf}
use Rattle.snapshot_text.specs.inner.Tails.{IsNextLine, IsOnlyFault}
use Rattle.snapshot_text.proofs.AgainLemmas.{has_form, known_path}

module _ (shape : Shape) (before : List Shot) (line : List ℕ) where
  pub no_form : IsLineOfNone shape line → HasNoForm line → IsOnlyFault shape before line fault.Syntax
  no_form none form = record { fault = form; only = only; not_next = λ s h n. none s h }
    where
      only : (g : Fault) → IsFault shape before line g → g ≡ fault.Syntax
      only fault.Syntax h = refl
      only fault.Class h = absurd (form h.steps h.form)
      only fault.Field h = absurd (form h.steps h.form)
      only fault.Order h = absurd (none h.shot h.line_of)

  module _ (steps : List Written) (form : HasOnlyForm line steps) (none : IsLineOfNone shape line) where
    pub no_path : path_of shape steps ≡ None → IsOnlyFault shape before line fault.Class
    no_path missed = record { fault = record { steps = steps; form = form.form; path_is = missed }; only = only; not_next = λ s h n. none s h }
      where
        only : (g : Fault) → IsFault shape before line g → g ≡ fault.Class
        only fault.Syntax h = absurd (h steps form.form)
        only fault.Class h = refl
        only fault.Field h = (let found : None ≡ Some h.path = sym missed ∙ ap (path_of shape) (sym (form.only h.steps h.form)) ∙ h.path_is in cc)
        only fault.Order h = absurd (none h.shot h.line_of)

    pub other_fields : (p : Path) → path_of shape steps ≡ Some p → IsOnlyFault shape before line fault.Field
    other_fields p found = record { fault = record { steps = steps; path = p; form = form.form; path_is = found; none = none }; only = only; not_next = λ s h n. none s h }
      where
        only : (g : Fault) → IsFault shape before line g → g ≡ fault.Field
        only fault.Syntax h = absurd (h steps form.form)
        only fault.Class h = (let missed : Some p ≡ None = sym found ∙ ap (path_of shape) (sym (form.only h.steps h.form)) ∙ h.path_is in cc)
        only fault.Field h = refl
        only fault.Order h = absurd (none h.shot h.line_of)

  -- a line of a shot has the form, and its path is one of the shape
  pub shot_form : HasNames shape → (s : Shot) → IsLineOf shape line s → HasNoForm line → ⊥
  shot_form names s l none = none (map (written_step shape) s.path) (subst (λ t. HasForm t (map (written_step shape) s.path)) (sym l.spelled) (has_form shape names s l.fits))

  pub out_of_order : HasNames shape → (s : Shot) → IsOnlyLineOf shape line s → comes_next (paths_of before) s.path ≡ false → IsOnlyFault shape before line fault.Order
  out_of_order names s l order = record { fault = record { shot = s; line_of = l.line_of; order = order }; only = only; not_next = not_next }
    where
      only : (g : Fault) → IsFault shape before line g → g ≡ fault.Order
      only fault.Syntax h = absurd (shot_form names s l.line_of h)
      only fault.Class h = absurd (known_path shape names line s l.line_of h)
      only fault.Field h = absurd (h.none s l.line_of)
      only fault.Order h = refl

      not_next : (t : Shot) → IsLineOf shape line t → comes_next (paths_of before) t.path ≡ true → ⊥
      not_next t h n = (let same : t.path ≡ s.path = ap (λ (x : Shot). x.path) (l.only t h) in cc (sym n ∙ ap (comes_next (paths_of before)) same ∙ order))

  -- a line of a shot that comes next has none
  pub no_fault : HasNames shape → (s : Shot) → IsNextLine shape before line s → (g : Fault) → IsFault shape before line g → ⊥
  no_fault names s l fault.Syntax h = shot_form names s l.line_of.line_of h
  no_fault names s l fault.Class h = known_path shape names line s l.line_of.line_of h
  no_fault names s l fault.Field h = h.none s l.line_of.line_of
  no_fault names s l fault.Order h =
      let same : h.shot.path ≡ s.path = ap (λ (x : Shot). x.path) (l.line_of.only h.shot h.line_of) in
      cc (sym h.order ∙ ap (comes_next (paths_of before)) same ∙ l.next)
