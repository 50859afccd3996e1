-- Where the functions of a service stand in its program.
use Rattle.std.proofs.Common.{◌≡◌, ℕ, zero, suc, ◌+◌, ◌<◌, List, [], ◌∷◌, ◌++◌, length, Some, refl, ap, ◌∙◌, arith}
use Rattle.std.specs.Prelude.{slice_get, map}
use Rattle.wave_base.specs.declared.shape.EventInfo.{EventInfo}
use Rattle.wave_base.specs.declared.shape.Shape.{Shape}
use Rattle.resolved_service.specs.declared.service.Event.{Event}
use Rattle.resolved_service.specs.declared.service.Method.{Method}
use Rattle.resolved_service.specs.declared.service.Resolved.{Resolved}
use Rattle.code_scheme.specs.Programs.{method_function, event_function, event_functions, numbers_from, scheme_program}
use Rattle.code_scheme.specs.Texts.{Text, service_texts}

pub get_front : {A B : Type 0} (g : A → B) (xs : List A) (rest : List B) (n : ℕ) (x : A) → slice_get xs n ≡ Some x → slice_get (map g xs ++ rest) n ≡ Some (g x)
get_front g [] rest n x e = cc
get_front g (y ∷ xs) rest zero x e = let same : y ≡ x = cc in ap (λ z. Some (g z)) same
get_front g (y ∷ xs) rest (suc n) x e = get_front g xs rest n x e

pub get_back : {A B : Type 0} (g : A → B) (xs : List A) (rest : List B) (n : ℕ) → slice_get (map g xs ++ rest) (length xs + n) ≡ slice_get rest n
get_back g [] rest n = let e : 0 + n ≡ n = omega arith in ap (slice_get rest) e
get_back g (x ∷ xs) rest n = let e : suc (length xs) + n ≡ suc (length xs + n) = omega arith in ap (slice_get (g x ∷ (map g xs ++ rest))) e ∙ get_back g xs rest n

pub get_event : (methods : List Method) (texts : List Text) (is : List EventInfo) (es : List Event) (n : ℕ) (i : EventInfo) (e : Event) → slice_get is n ≡ Some i → slice_get es n ≡ Some e → slice_get (event_functions methods texts is es) n ≡ Some (event_function methods texts i e)
get_event methods texts [] es n i e a b = cc
get_event methods texts (j ∷ is) [] n i e a b = cc
get_event methods texts (j ∷ is) (d ∷ es) zero i e a b = let p : j ≡ i = cc in let q : d ≡ e = cc in λ x. Some (event_function methods texts (p x) (q x))
get_event methods texts (j ∷ is) (d ∷ es) (suc n) i e a b = get_event methods texts is es n i e a b

pub get_number : (from k n : ℕ) → n < k → slice_get (numbers_from from k) n ≡ Some (from + n)
get_number from zero n h = absurd (omega arith)
get_number from (suc k) zero h = let e : from ≡ from + 0 = omega arith in ap (λ m. Some m) e
get_number from (suc k) (suc n) h = let e : suc from + n ≡ from + suc n = omega arith in get_number (suc from) k n (omega arith) ∙ ap (λ m. Some m) e

pub there_is : {A : Type 0} (xs : List A) (n : ℕ) → n < length xs → (x : A) × (slice_get xs n ≡ Some x)
there_is [] n h = absurd (omega arith)
there_is (x ∷ xs) zero h = (x, refl)
there_is (x ∷ xs) (suc n) h = there_is xs n (omega arith)

module _ (shape : Shape) (service : Resolved) where
  pub program_shape : (scheme_program shape service).shape ≡ shape
  unfolding scheme_program
  program_shape = refl

  pub method_made : (m : ℕ) (method : Method) → slice_get service.methods m ≡ Some method → slice_get (scheme_program shape service).functions m ≡ Some (method_function service.methods (scheme_program shape service).texts method)
  unfolding scheme_program
  method_made m method e = get_front (method_function service.methods (service_texts service)) service.methods (event_functions service.methods (service_texts service) shape.events service.events) m method e

  pub event_made : (n : ℕ) (i : EventInfo) (e : Event) → slice_get shape.events n ≡ Some i → slice_get service.events n ≡ Some e → slice_get (scheme_program shape service).functions (length service.methods + n) ≡ Some (event_function service.methods (scheme_program shape service).texts i e)
  unfolding scheme_program
  event_made n i e a b =
      get_back (method_function service.methods (service_texts service)) service.methods (event_functions service.methods (service_texts service) shape.events service.events) n
      ∙ get_event service.methods (service_texts service) shape.events service.events n i e a b

  pub number_made : (n : ℕ) → n < length service.events → slice_get (scheme_program shape service).events n ≡ Some (length service.methods + n)
  unfolding scheme_program
  number_made n h = get_number (length service.methods) (length service.events) n h
