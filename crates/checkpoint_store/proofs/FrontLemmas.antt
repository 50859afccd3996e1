-- The front of a checkpoint: its lines one after the other, and that a text has one front alone.
use Rattle.std.proofs.Common.{◌≡◌, ℕ, List, [], ◌∷◌, ◌++◌, map, refl, sym, ap, ◌∙◌, append_assoc, arith}
use Rattle.std.specs.List.{AllByRecursion}
use Rattle.std.proofs.lemmas.List.Elements.{recursion_from_All}
use Rattle.wave_base.specs.declared.shape.ClassInfo.{ClassInfo}
use Rattle.wave_base.specs.declared.shape.Shape.{Shape}
use Rattle.wave_base.specs.Names.{HasNames}
use Rattle.wave_base.specs.Shapes.{IsShape}
use Rattle.wave_text.proofs.SplitLemmas.{one_split}
use Rattle.checkpoint_store.specs.declared.error.Fault.{Fault}
use Rattle.checkpoint_store.specs.declared.numbers.Numbers.{Numbers}
use Rattle.checkpoint_store.specs.CheckpointTexts.{first_line, numbers_text, count_text, class_text, lines_text, front_text}
use Rattle.checkpoint_store.specs.Dues.{Due, ClassOf, front_dues}
use Rattle.checkpoint_store.specs.Verdicts.{StopsAt, HasFront}
use Rattle.checkpoint_store.proofs.FormLemmas.{Fits, one_numbers}
use Rattle.checkpoint_store.proofs.LineLemmas.{IsDeclared, declared, numbers_none, count_none, class_none}
use Rattle.checkpoint_store.proofs.StopLemmas.{Passes, passes_one, not_passed, one_stop}

abbrev pub class_dues : List ClassInfo → List Due
class_dues cs = map (λ c. ClassOf c) cs

abbrev pub classes_text : Shape → List ClassInfo → List ℕ
classes_text shape cs = lines_text (map (class_text shape) cs)

module _ (shape : Shape) where
  pub passes_classes : (cs : List ClassInfo) → AllByRecursion (IsDeclared shape) cs → (rest : List ℕ) → Passes shape 0 (class_dues cs) (classes_text shape cs ++ rest) rest
  passes_classes [] h rest = refl
  passes_classes (c ∷ cs) h rest = (
    classes_text shape cs ++ rest,
    (class_text shape c, record { spelled = append_assoc (class_text shape c) (10 ∷ classes_text shape cs) rest; first = class_none shape c h.0 }, refl),
    passes_classes cs h.1 rest,
  )

  module _ (is : IsShape shape) (names : HasNames shape) where
    classes_declared : AllByRecursion (IsDeclared shape) shape.classes
    classes_declared = recursion_from_All (IsDeclared shape) shape.classes (declared shape is names)

    class_fits : (cs : List ClassInfo) → AllByRecursion (IsDeclared shape) cs → AllByRecursion (Fits shape) (class_dues cs)
    class_fits [] h = tt
    class_fits (c ∷ cs) h = (h.0, class_fits cs h.1)

    pub front_fits : AllByRecursion (Fits shape) (front_dues shape)
    front_fits = (tt, (tt, (tt, class_fits shape.classes classes_declared)))

    pub front_passes : (n : Numbers) (text rest : List ℕ) → HasFront shape n text rest → Passes shape 0 (front_dues shape) text rest
    front_passes n text rest f = (
      numbers_text n ++ 10 ∷ (count_text shape ++ 10 ∷ (classes_text shape shape.classes ++ rest)),
      (first_line, record { spelled = f.spelled ∙ whole; first = refl }, refl),
      (
        count_text shape ++ 10 ∷ (classes_text shape shape.classes ++ rest),
        (numbers_text n, record { spelled = refl; first = numbers_none n f.range }, (n, f.range, refl)),
        (
          classes_text shape shape.classes ++ rest,
          (count_text shape, record { spelled = refl; first = count_none shape is.few_classes }, refl),
          passes_classes shape.classes classes_declared rest,
        ),
      ),
    )
      where
        whole : front_text shape n ++ rest ≡ first_line ++ 10 ∷ (numbers_text n ++ 10 ∷ (count_text shape ++ 10 ∷ (classes_text shape shape.classes ++ rest)))
        whole =
            append_assoc first_line (10 ∷ (numbers_text n ++ 10 ∷ (count_text shape ++ 10 ∷ classes_text shape shape.classes))) rest
            ∙ ap (λ t. first_line ++ 10 ∷ t)
            (append_assoc (numbers_text n) (10 ∷ (count_text shape ++ 10 ∷ classes_text shape shape.classes)) rest
            ∙ ap (λ t. numbers_text n ++ 10 ∷ t) (append_assoc (count_text shape) (10 ∷ classes_text shape shape.classes) rest))

    one_line_two : (n m : Numbers) (text rest left : List ℕ) → HasFront shape n text rest → HasFront shape m text left → numbers_text n ≡ numbers_text m
    one_line_two n m text rest left f g =
        let whole : first_line ++ 10 ∷ ((numbers_text n ++ 10 ∷ (count_text shape ++ 10 ∷ classes_text shape shape.classes)) ++ rest) ≡ first_line ++ 10 ∷ ((numbers_text m ++ 10 ∷ (count_text shape ++ 10 ∷ classes_text shape shape.classes)) ++ left) =
        sym (append_assoc first_line (10 ∷ (numbers_text n ++ 10 ∷ (count_text shape ++ 10 ∷ classes_text shape shape.classes))) rest)
        ∙ sym f.spelled ∙ g.spelled ∙ append_assoc first_line (10 ∷ (numbers_text m ++ 10 ∷ (count_text shape ++ 10 ∷ classes_text shape shape.classes))) left in
        let behind = (one_split 10 first_line ((numbers_text n ++ 10 ∷ (count_text shape ++ 10 ∷ classes_text shape shape.classes)) ++ rest) first_line ((numbers_text m ++ 10 ∷ (count_text shape ++ 10 ∷ classes_text shape shape.classes)) ++ left) refl refl whole).1 in
        (one_split 10 (numbers_text n) ((count_text shape ++ 10 ∷ classes_text shape shape.classes) ++ rest) (numbers_text m) ((count_text shape ++ 10 ∷ classes_text shape shape.classes) ++ left) (numbers_none n f.range) (numbers_none m g.range)
        (sym (append_assoc (numbers_text n) (10 ∷ (count_text shape ++ 10 ∷ classes_text shape shape.classes)) rest) ∙ behind ∙ append_assoc (numbers_text m) (10 ∷ (count_text shape ++ 10 ∷ classes_text shape shape.classes)) left)).0

    pub one_front : (n m : Numbers) (text rest left : List ℕ) → HasFront shape n text rest → HasFront shape m text left → (n ≡ m) × (rest ≡ left)
    one_front n m text rest left f g = (
      one_numbers n m f.range g.range (one_line_two n m text rest left f g),
      passes_one shape 0 (front_dues shape) text rest left (front_passes n text rest f) (front_passes m text left g),
    )

    -- a text with a front stops nowhere in it
    pub front_goes : (n : Numbers) (text rest : List ℕ) (f : Fault) (line : ℕ) → HasFront shape n text rest → StopsAt shape 0 (front_dues shape) text f line → ⊥
    front_goes n text rest f line h s = not_passed shape 0 is names (omega arith) (front_dues shape) front_fits text rest f line (front_passes n text rest h) s

    pub one_front_stop : (text : List ℕ) (f g : Fault) (n m : ℕ) → StopsAt shape 0 (front_dues shape) text f n → StopsAt shape 0 (front_dues shape) text g m → (f ≡ g) × (n ≡ m)
    one_front_stop text f g n m a b = one_stop shape 0 is names (omega arith) (front_dues shape) front_fits text f g n m a b
