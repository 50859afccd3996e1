-- The program of a service: its functions are its methods and then its events, each in text order.
use Rattle.std.specs.Prelude.{◌≡◌, ◌<◌, ◌≤◌, ℕ, zero, suc, min, true, false, List, [], ◌∷◌, ◌++◌, length, map, Some, slice_get}
use Rattle.wave_base.specs.declared.limits.TheConstants.{INSTRUCTIONS}
use Rattle.wave_base.specs.declared.shape.EventInfo.{EventInfo}
use Rattle.wave_base.specs.declared.shape.Shape.{Shape}
use Rattle.resolved_service.specs.declared.service.Event.{Event}
use Rattle.resolved_service.specs.declared.service.Method.{Method}
use Rattle.resolved_service.specs.declared.service.Resolved.{Resolved}
use Rattle.service_code.specs.declared.program.Function.{Function}
use Rattle.service_code.specs.declared.program.Program.{Program}
use Rattle.code_scheme.specs.Heights.{method_height, event_height}
use Rattle.code_scheme.specs.Scheme.{Line, method_code, event_code}
use Rattle.code_scheme.specs.Texts.{Text, service_texts}

abbrev pub method_function : List Method → List Text → Method → Function
method_function methods texts m = record {
  name = m.name;
  class = m.class;
  is_event = false;
  args = m.params;
  result = m.result;
  locals = m.locals;
  stack = method_height methods m;
  code = map (λ (l : Line). l.instr) (method_code methods texts m);
  places = map (λ (l : Line). l.place) (method_code methods texts m);
}

-- an event runs from the root; its name, parameters and reply are those of the shape
abbrev pub event_function : List Method → List Text → EventInfo → Event → Function
event_function methods texts info e = record {
  name = info.name;
  class = record { 0 = 0 };
  is_event = true;
  args = info.params;
  result = info.reply;
  locals = e.locals;
  stack = event_height methods e;
  code = map (λ (l : Line). l.instr) (event_code methods texts e);
  places = map (λ (l : Line). l.place) (event_code methods texts e);
}

abbrev pub event_functions : List Method → List Text → List EventInfo → List Event → List Function
event_functions methods texts [] es = []
event_functions methods texts (i ∷ is) [] = []
event_functions methods texts (i ∷ is) (e ∷ es) = event_function methods texts i e ∷ event_functions methods texts is es

-- so many numbers from n on
abbrev pub numbers_from : ℕ → ℕ → List ℕ
numbers_from n zero = []
numbers_from n (suc k) = n ∷ numbers_from (suc n) k

abbrev pub functions_with : Shape → Resolved → List Text → List Function
functions_with shape service texts =
    map (method_function service.methods texts) service.methods ++ event_functions service.methods texts shape.events service.events

unfoldable pub scheme_program : Shape → Resolved → Program
scheme_program shape service = record {
  shape = shape;
  functions = functions_with shape service (service_texts service);
  texts = service_texts service;
  events = numbers_from (length service.methods) (length service.events);
}

-- the length that is told: 4,294,967,295 stands for that many or more
abbrev pub told_length : ℕ → ℕ
told_length n = min n 4294967295

-- the first function that has more instructions than a function may have, and the length that is told of it
pub record IsTooLong (shape : Shape) (service : Resolved) (number size : ℕ) : Type 0 where
  pub function : Function
  pub is_there : slice_get (scheme_program shape service).functions number ≡ Some function
  pub too_long : INSTRUCTIONS < length function.code
  pub size_is : size ≡ told_length (length function.code)
  pub first : (n : ℕ) (f : Function) → n < number → slice_get (scheme_program shape service).functions n ≡ Some f → length f.code ≤ INSTRUCTIONS
