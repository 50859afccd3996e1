-- The line at the front of a text, by what it looks like.
use Rattle.std.proofs.Common.{◌≡◌, ◌+◌, inl, inr, ℕ, List, ◌∷◌, ◌++◌, length, refl, sym, ap, subst, ◌∙◌, arith}
use Rattle.wave_base.specs.Memory.{the_refusal}
use Rattle.wave_base.specs.declared.path.Path.{Path}
use Rattle.wave_base.specs.declared.shape.Shape.{Shape}
use Rattle.wave_text.specs.Splits.{HasNone, IsSplit}
use Rattle.wave_text.proofs.SplitLemmas.{nowhere}
use Rattle.checkpoint_store.specs.declared.error.CheckError.{CheckError}
use Rattle.checkpoint_store.specs.declared.error.CheckError.TheVariants as error
use Rattle.checkpoint_store.specs.declared.error.Fault.{Fault}
use Rattle.checkpoint_store.specs.declared.form.Form.{Form}
use Rattle.checkpoint_store.specs.declared.form.Form.TheVariants as form
use Rattle.checkpoint_store.specs.Dues.{Due, First, Counts, Classes, ClassOf, PlaceOf, Last, HasForm, IsDue, other, IsFault}
use Rattle.checkpoint_store.specs.Refusals.{error_at}
use Rattle.checkpoint_store.specs.Verdicts.{BeginsWrong}
use Rattle.checkpoint_store.specs.inner.Steps.{HasNoNumbers, HasNoPlace, LooksLike, form_of, other_of, IsFaultBy, BeginsWrongBy, IsRefusal, BeginsOther, IsRefusalBy, IsRefusalFor, StopsWith}
use Rattle.checkpoint_store.proofs.StopLemmas.{Passes, one_line, stops_behind, stops_here, stops_in}

looks_form : (due : Due) (line : List ℕ) → LooksLike (form_of due) line → HasForm due line
looks_form First line h = absurd h
looks_form Counts line h = h
looks_form Classes line h = h
looks_form (ClassOf c) line h = h
looks_form (PlaceOf p) line h = h
looks_form Last line h = absurd h

other_same : (due : Due) → other_of (form_of due) ≡ other due
other_same First = refl
other_same Counts = refl
other_same Classes = refl
other_same (ClassOf c) = refl
other_same (PlaceOf p) = refl
other_same Last = refl

module _ (shape : Shape) (hosts : ℕ) where
  form_looks : (due : Due) (line : List ℕ) → (IsDue shape hosts due line → ⊥) → HasForm due line → LooksLike (form_of due) line
  form_looks First line n h = n h
  form_looks Counts line n h = h
  form_looks Classes line n h = h
  form_looks (ClassOf c) line n h = h
  form_looks (PlaceOf p) line n h = h
  form_looks Last line n h = n h

  fault_by : (due : Due) (line : List ℕ) (f : Fault) → (IsDue shape hosts due line → ⊥) → IsFaultBy (form_of due) line f → IsFault shape hosts due line f
  fault_by due line f n (inl a) = inl (λ h. a.0 (form_looks due line n h), a.1)
  fault_by due line f n (inr a) = inr (looks_form due line a.0, n, a.1 ∙ other_same due)

  wrong_by : (due : Due) (text : List ℕ) (f : Fault) → BeginsOther shape hosts due text → BeginsWrongBy (form_of due) text f → BeginsWrong shape hosts due text f
  wrong_by due text f n (inl a) = inl a
  wrong_by due text f n (inr a) = inr (a.0, a.1, a.2, fault_by due a.0 f (λ h. n a.1 (a.0, a.2, h)) a.3)

pub refused_by : (form : Form) (text : List ℕ) (n : ℕ) (f : Fault) (e : CheckError) → BeginsWrongBy form text f → e ≡ error_at f n → IsRefusalBy form text n e
refused_by form text n f e w is shape hosts due same other =
    inr (f, wrong_by shape hosts due text f other (subst (λ x. BeginsWrongBy x text f) (sym same) w), is)

pub wanting_by : (form : Form) (text : List ℕ) (n : ℕ) (e : CheckError) → e ≡ error.OutOfMemory the_refusal → IsRefusalBy form text n e
wanting_by form text n e is shape hosts due same other = inl is

-- ---- no line of the kind begins the text

pub open_other : (shape : Shape) (hosts : ℕ) (due : Due) (text : List ℕ) → HasNone 10 text → BeginsOther shape hosts due text
open_other shape hosts due text none rest b = nowhere 10 b.0 rest (subst (HasNone 10) b.1.spelled none)

pub line_other : (shape : Shape) (hosts : ℕ) (due : Due) (text line rest : List ℕ) → IsSplit 10 text line rest → (IsDue shape hosts due line → ⊥) → BeginsOther shape hosts due text
line_other shape hosts due text line rest s n left b = n (subst (IsDue shape hosts due) (sym (one_line text line rest b.0 left s b.1).0) b.2)

pub open_refused : (form : Form) (wanted text : List ℕ) (n : ℕ) (e : CheckError) → HasNone 10 text → IsRefusalBy form text n e → IsRefusalFor form wanted text n e
open_refused form wanted text n e none r shape hosts due same only = r shape hosts due same (open_other shape hosts due text none)

pub line_refused : (form : Form) (wanted text line rest : List ℕ) (n : ℕ) (e : CheckError) → IsSplit 10 text line rest → (line ≡ wanted → ⊥) → IsRefusalBy form text n e → IsRefusalFor form wanted text n e
line_refused form wanted text line rest n e s differ r shape hosts due same only =
    r shape hosts due same (line_other shape hosts due text line rest s (λ h. differ (only line h)))

no_numbers : (shape : Shape) (line : List ℕ) → HasNoNumbers line → IsDue shape 0 Counts line → ⊥
no_numbers shape line n h = n h.0 h.1 h.2

pub numbers_refused : (shape : Shape) (text line rest : List ℕ) (n : ℕ) (e : CheckError) → IsSplit 10 text line rest → HasNoNumbers line → IsRefusalBy form.Numbers text n e → IsRefusal shape 0 Counts text n e
numbers_refused shape text line rest n e s none r = r shape 0 Counts refl (line_other shape 0 Counts text line rest s (no_numbers shape line none))

pub place_refused : (shape : Shape) (hosts : ℕ) (p : Path) (text line rest : List ℕ) (n : ℕ) (e : CheckError) → IsSplit 10 text line rest → HasNoPlace shape hosts p line → IsRefusalBy form.Place text n e → IsRefusal shape hosts (PlaceOf p) text n e
place_refused shape hosts p text line rest n e s none r = r shape hosts (PlaceOf p) refl (line_other shape hosts (PlaceOf p) text line rest s none)

-- ---- behind lines that were passed

module _ (shape : Shape) (hosts : ℕ) where
  -- this line is refused, and the whole with it
  pub stops_with : (done : List Due) (due : Due) (more : List Due) (text rest : List ℕ) (before n : ℕ) (e : CheckError) → Passes shape hosts done text rest → IsRefusal shape hosts due rest n e → n ≡ before + (length done + 1)
      → StopsWith shape hosts (done ++ due ∷ more) text before e
  stops_with done due more text rest before n e p (inl w) same = inl w
  stops_with done due more text rest before n e p (inr r) same =
      inr (r.0, length done + 1, stops_behind shape hosts done (due ∷ more) text rest r.0 1 p (stops_here shape hosts due more rest r.0 r.1), r.2 ∙ ap (error_at r.0) same)

  -- a later part is refused
  pub stops_after : (done more : List Due) (text rest : List ℕ) (before : ℕ) (e : CheckError) → Passes shape hosts done text rest → StopsWith shape hosts more rest (before + length done) e → StopsWith shape hosts (done ++ more) text before e
  stops_after done more text rest before e p (inl w) = inl w
  stops_after done more text rest before e p (inr r) =
      let same : before + length done + r.1 ≡ before + (length done + r.1) = omega arith in
      inr (r.0, length done + r.1, stops_behind shape hosts done more text rest r.0 r.1 p r.2, r.3 ∙ ap (error_at r.0) same)

  -- an earlier one
  pub stops_before : (done more : List Due) (text : List ℕ) (before : ℕ) (e : CheckError) → StopsWith shape hosts done text before e → StopsWith shape hosts (done ++ more) text before e
  stops_before done more text before e (inl w) = inl w
  stops_before done more text before e (inr r) = inr (r.0, r.1, stops_in shape hosts done more text r.0 r.1 r.2, r.3)
