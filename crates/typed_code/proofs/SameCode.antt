-- The program of a service, read off the look of its methods and events.
use Rattle.std.proofs.Common.{◌≡◌, ℕ, zero, suc, ◌+◌, max, Bool, true, false, List, [], ◌∷◌, ◌++◌, length, Option, Some, None, is_some, map, slice_get, refl, sym, ◌∙◌, ap}
use Rattle.std.specs.Option.{option_map}
use Rattle.std.proofs.lemmas.List.{length-map}
use Rattle.wave_base.specs.declared.shape.EventInfo.{EventInfo}
use Rattle.wave_base.specs.declared.shape.Shape.{Shape}
use Rattle.wave_base.specs.declared.span.Span.{Span}
use Rattle.resolved_service.specs.declared.service.Event.{Event}
use Rattle.resolved_service.specs.declared.service.Last.{Last}
use Rattle.resolved_service.specs.declared.service.Method.{Method}
use Rattle.resolved_service.specs.declared.service.Phase.{Phase}
use Rattle.resolved_service.specs.declared.service.Resolved.{Resolved}
use Rattle.resolved_service.specs.Steps.{steps_in, surely_ends}
use Rattle.resolved_service.specs.View.{tree_of}
use Rattle.type_rules.specs.Functions.{LastView, MethodView, PhaseView, EventView}
use Rattle.type_rules.specs.Services.{ResolvedView}
use Rattle.type_rules.specs.Views.{last_view, method_view, phase_view, event_view, resolved_view}
use Rattle.service_code.specs.declared.instr.Instr.TheVariants as i
use Rattle.service_code.specs.declared.program.Function.{Function}
use Rattle.service_code.specs.declared.program.Program.{Program}
use Rattle.code_scheme.specs.declared.line.Line.{Line}
use Rattle.code_scheme.specs.Heights.{tree_height, steps_height, last_height, phases_height, method_height, event_height}
use Rattle.code_scheme.specs.Programs.{method_function, event_function, event_functions, numbers_from, functions_with, scheme_program}
use Rattle.code_scheme.specs.Scheme.{line, gives_in, body_then, tree_code, steps_code, return_code, reply_code, phases_code, method_code, event_code}
use Rattle.code_scheme.specs.Texts.{Text, with_texts, tree_uses, steps_uses, last_uses, phases_uses, methods_uses, events_uses, service_texts}
use Rattle.typed_code.proofs.Gives.{SameGives, same_tree, same_steps, tall_tree, tall_steps}

-- ---- the texts

abbrev last_texts : Option LastView → List Text
last_texts None = []
last_texts (Some l) = tree_uses l.value

abbrev methods_texts : List MethodView → List Text
methods_texts [] = []
methods_texts (m ∷ ms) = (steps_uses m.body ++ last_texts m.last) ++ methods_texts ms

abbrev phases_texts : List PhaseView → List Text
phases_texts [] = []
phases_texts (f ∷ fs) = tree_uses f.key ++ steps_uses f.body ++ phases_texts fs

abbrev events_texts : List EventView → List Text
events_texts [] = []
events_texts (e ∷ es) = (steps_uses e.here ++ phases_texts e.phases ++ last_texts e.last) ++ events_texts es

abbrev texts_seen : ResolvedView → List Text
texts_seen v = with_texts [] (methods_texts v.methods ++ events_texts v.events)

last_texts_are : (l : Option Last) → last_uses l ≡ last_texts (option_map last_view l)
last_texts_are None = refl
last_texts_are (Some l) = refl

methods_texts_are : (ms : List Method) → methods_uses ms ≡ methods_texts (map method_view ms)
methods_texts_are [] = refl
methods_texts_are (m ∷ ms) = λ k. (steps_uses (steps_in m.body) ++ last_texts_are m.last k) ++ methods_texts_are ms k

phases_texts_are : (fs : List Phase) → phases_uses fs ≡ phases_texts (map phase_view fs)
phases_texts_are [] = refl
phases_texts_are (f ∷ fs) = λ k. tree_uses (tree_of f.key) ++ steps_uses (steps_in f.body) ++ phases_texts_are fs k

events_texts_are : (es : List Event) → events_uses es ≡ events_texts (map event_view es)
events_texts_are [] = refl
events_texts_are (e ∷ es) = λ k. (steps_uses (steps_in e.here) ++ phases_texts_are e.phases k ++ last_texts_are e.last k) ++ events_texts_are es k

texts_are : (r : Resolved) → service_texts r ≡ texts_seen (resolved_view r)
unfolding service_texts
texts_are r = λ k. with_texts [] (methods_texts_are r.methods k ++ events_texts_are r.events k)

-- ---- the code

module _ (methods : List Method) where
  abbrev last_tall : Option LastView → ℕ
  last_tall None = 0
  last_tall (Some l) = tree_height methods l.value

  abbrev phases_tall : List PhaseView → ℕ
  phases_tall [] = 0
  phases_tall (f ∷ fs) = max (tree_height methods f.key) (max (steps_height methods f.body) (phases_tall fs))

  module _ (texts : List Text) where
    abbrev return_seen : ℕ → Span → Bool → Option LastView → List Line
    return_seen n at true None = []
    return_seen n at false None = line i.Return at ∷ []
    return_seen n at ended (Some l) = tree_code methods texts n l.value ++ line i.Return l.at ∷ []

    abbrev reply_seen : ℕ → Span → Bool → Option LastView → List Line
    reply_seen n at true None = []
    reply_seen n at false None = line i.End at ∷ []
    reply_seen n at ended (Some l) = tree_code methods texts n l.value ++ line i.Reply l.at ∷ []

    abbrev phases_seen : ℕ → Bool → List PhaseView → Span → Option LastView → List Line
    phases_seen n ended [] at last = reply_seen n at ended last
    phases_seen n ended (f ∷ fs) at last =
        tree_code methods texts n f.key ++ line (i.Go (record { 0 = f.class })) f.at
        ∷ (steps_code methods texts (n + length (tree_code methods texts n f.key) + 1) f.body
        ++ phases_seen (n + length (tree_code methods texts n f.key) + 1 + length (steps_code methods texts (n + length (tree_code methods texts n f.key) + 1) f.body)) (surely_ends f.body) fs at last)

    abbrev method_lines : MethodView → List Line
    method_lines m = body_then (steps_code methods texts 0 m.body) (λ n. return_seen n m.at (surely_ends m.body) m.last)

    abbrev event_lines : EventView → List Line
    event_lines e = body_then (steps_code methods texts 0 e.here) (λ n. phases_seen n (surely_ends e.here) e.phases e.at e.last)

    abbrev method_seen : MethodView → Function
    method_seen m = record {
      name = m.name;
      class = record { 0 = m.class };
      is_event = false;
      args = m.params;
      result = m.result;
      locals = m.locals;
      stack = max (steps_height methods m.body) (last_tall m.last);
      code = map (λ (l : Line). l.instr) (method_lines m);
      places = map (λ (l : Line). l.place) (method_lines m);
    }

    abbrev event_seen : EventInfo → EventView → Function
    event_seen info e = record {
      name = info.name;
      class = record { 0 = 0 };
      is_event = true;
      args = info.params;
      result = info.reply;
      locals = e.locals;
      stack = max (steps_height methods e.here) (max (phases_tall e.phases) (last_tall e.last));
      code = map (λ (l : Line). l.instr) (event_lines e);
      places = map (λ (l : Line). l.place) (event_lines e);
    }

    abbrev events_seen : List EventInfo → List EventView → List Function
    events_seen [] es = []
    events_seen (x ∷ xs) [] = []
    events_seen (x ∷ xs) (e ∷ es) = event_seen x e ∷ events_seen xs es

    return_is : (n : ℕ) (at : Span) (ended : Bool) (l : Option Last) → return_code methods texts n at ended l ≡ return_seen n at ended (option_map last_view l)
    return_is n at true None = refl
    return_is n at false None = refl
    return_is n at true (Some l) = refl
    return_is n at false (Some l) = refl

    reply_is : (n : ℕ) (at : Span) (ended : Bool) (l : Option Last) → reply_code methods texts n at ended l ≡ reply_seen n at ended (option_map last_view l)
    reply_is n at true None = refl
    reply_is n at false None = refl
    reply_is n at true (Some l) = refl
    reply_is n at false (Some l) = refl

    phases_are : (n : ℕ) (ended : Bool) (fs : List Phase) (at : Span) (l : Option Last) → phases_code methods texts n ended fs at l ≡ phases_seen n ended (map phase_view fs) at (option_map last_view l)
    phases_are n ended [] at l = reply_is n at ended l
    phases_are n ended (f ∷ fs) at l = λ k.
        tree_code methods texts n (tree_of f.key) ++ line (i.Go f.class) f.at
        ∷ (steps_code methods texts (n + length (tree_code methods texts n (tree_of f.key)) + 1) (steps_in f.body)
        ++ phases_are (n + length (tree_code methods texts n (tree_of f.key)) + 1 + length (steps_code methods texts (n + length (tree_code methods texts n (tree_of f.key)) + 1) (steps_in f.body))) (surely_ends (steps_in f.body)) fs at l k)

    tall_last : (l : Option Last) → last_height methods l ≡ last_tall (option_map last_view l)
    tall_last None = refl
    tall_last (Some l) = refl

    tall_phases : (fs : List Phase) → phases_height methods fs ≡ phases_tall (map phase_view fs)
    tall_phases [] = refl
    tall_phases (f ∷ fs) = λ k. max (tree_height methods (tree_of f.key)) (max (steps_height methods (steps_in f.body)) (tall_phases fs k))

    method_code_is : (m : Method) → method_code methods texts m ≡ method_lines (method_view m)
    unfolding method_code
    method_code_is m = λ k. steps_code methods texts 0 (steps_in m.body) ++ return_is (length (steps_code methods texts 0 (steps_in m.body))) m.at (surely_ends (steps_in m.body)) m.last k

    method_tall : (m : Method) → method_height methods m ≡ max (steps_height methods (steps_in m.body)) (last_tall (option_map last_view m.last))
    unfolding method_height
    method_tall m = λ k. max (steps_height methods (steps_in m.body)) (tall_last m.last k)

    event_code_is : (e : Event) → event_code methods texts e ≡ event_lines (event_view e)
    unfolding event_code
    event_code_is e = λ k. steps_code methods texts 0 (steps_in e.here) ++ phases_are (length (steps_code methods texts 0 (steps_in e.here))) (surely_ends (steps_in e.here)) e.phases e.at e.last k

    event_tall : (e : Event) → event_height methods e ≡ max (steps_height methods (steps_in e.here)) (max (phases_tall (map phase_view e.phases)) (last_tall (option_map last_view e.last)))
    unfolding event_height
    event_tall e = λ k. max (steps_height methods (steps_in e.here)) (max (tall_phases e.phases k) (tall_last e.last k))

    method_is : (m : Method) → method_function methods texts m ≡ method_seen (method_view m)
    method_is m = λ k. record {
      name = m.name;
      class = m.class;
      is_event = false;
      args = m.params;
      result = m.result;
      locals = m.locals;
      stack = method_tall m k;
      code = map (λ (l : Line). l.instr) (method_code_is m k);
      places = map (λ (l : Line). l.place) (method_code_is m k);
    }

    event_is : (x : EventInfo) (e : Event) → event_function methods texts x e ≡ event_seen x (event_view e)
    event_is x e = λ k. record {
      name = x.name;
      class = record { 0 = 0 };
      is_event = true;
      args = x.params;
      result = x.reply;
      locals = e.locals;
      stack = event_tall e k;
      code = map (λ (l : Line). l.instr) (event_code_is e k);
      places = map (λ (l : Line). l.place) (event_code_is e k);
    }

    methods_are : (ms : List Method) → map (method_function methods texts) ms ≡ map method_seen (map method_view ms)
    methods_are [] = refl
    methods_are (m ∷ ms) = λ k. method_is m k ∷ methods_are ms k

    events_are : (xs : List EventInfo) (es : List Event) → event_functions methods texts xs es ≡ events_seen xs (map event_view es)
    events_are [] es = refl
    events_are (x ∷ xs) [] = refl
    events_are (x ∷ xs) (e ∷ es) = λ k. event_is x e k ∷ events_are xs es k

-- ---- of the methods it asks only which of them give a value

module _ (a b : List Method) (same : SameGives a b) (texts : List Text) where
  return_same : (n : ℕ) (at : Span) (ended : Bool) (l : Option LastView) → return_seen a texts n at ended l ≡ return_seen b texts n at ended l
  return_same n at true None = refl
  return_same n at false None = refl
  return_same n at true (Some l) = λ k. same_tree a b same texts n l.value k ++ line i.Return l.at ∷ []
  return_same n at false (Some l) = λ k. same_tree a b same texts n l.value k ++ line i.Return l.at ∷ []

  reply_same : (n : ℕ) (at : Span) (ended : Bool) (l : Option LastView) → reply_seen a texts n at ended l ≡ reply_seen b texts n at ended l
  reply_same n at true None = refl
  reply_same n at false None = refl
  reply_same n at true (Some l) = λ k. same_tree a b same texts n l.value k ++ line i.Reply l.at ∷ []
  reply_same n at false (Some l) = λ k. same_tree a b same texts n l.value k ++ line i.Reply l.at ∷ []

  phases_same : (n : ℕ) (ended : Bool) (fs : List PhaseView) (at : Span) (l : Option LastView) → phases_seen a texts n ended fs at l ≡ phases_seen b texts n ended fs at l
  phases_same n ended [] at l = reply_same n at ended l
  phases_same n ended (f ∷ fs) at l = λ k.
      same_tree a b same texts n f.key k ++ line (i.Go (record { 0 = f.class })) f.at
      ∷ (same_steps a b same texts (n + length (same_tree a b same texts n f.key k) + 1) f.body k
      ++ phases_same (n + length (same_tree a b same texts n f.key k) + 1 + length (same_steps a b same texts (n + length (same_tree a b same texts n f.key k) + 1) f.body k)) (surely_ends f.body) fs at l k)

  last_same : (l : Option LastView) → last_tall a l ≡ last_tall b l
  last_same None = refl
  last_same (Some l) = tall_tree a b same l.value

  phases_tall_same : (fs : List PhaseView) → phases_tall a fs ≡ phases_tall b fs
  phases_tall_same [] = refl
  phases_tall_same (f ∷ fs) = λ k. max (tall_tree a b same f.key k) (max (tall_steps a b same f.body k) (phases_tall_same fs k))

  method_lines_same : (m : MethodView) → method_lines a texts m ≡ method_lines b texts m
  method_lines_same m = λ k. same_steps a b same texts 0 m.body k ++ return_same (length (same_steps a b same texts 0 m.body k)) m.at (surely_ends m.body) m.last k

  event_lines_same : (e : EventView) → event_lines a texts e ≡ event_lines b texts e
  event_lines_same e = λ k. same_steps a b same texts 0 e.here k ++ phases_same (length (same_steps a b same texts 0 e.here k)) (surely_ends e.here) e.phases e.at e.last k

  method_same : (m : MethodView) → method_seen a texts m ≡ method_seen b texts m
  method_same m = λ k. record {
    name = m.name;
    class = record { 0 = m.class };
    is_event = false;
    args = m.params;
    result = m.result;
    locals = m.locals;
    stack = max (tall_steps a b same m.body k) (last_same m.last k);
    code = map (λ (l : Line). l.instr) (method_lines_same m k);
    places = map (λ (l : Line). l.place) (method_lines_same m k);
  }

  event_same : (x : EventInfo) (e : EventView) → event_seen a texts x e ≡ event_seen b texts x e
  event_same x e = λ k. record {
    name = x.name;
    class = record { 0 = 0 };
    is_event = true;
    args = x.params;
    result = x.reply;
    locals = e.locals;
    stack = max (tall_steps a b same e.here k) (max (phases_tall_same e.phases k) (last_same e.last k));
    code = map (λ (l : Line). l.instr) (event_lines_same e k);
    places = map (λ (l : Line). l.place) (event_lines_same e k);
  }

  methods_same : (ms : List MethodView) → map (method_seen a texts) ms ≡ map (method_seen b texts) ms
  methods_same [] = refl
  methods_same (m ∷ ms) = λ k. method_same m k ∷ methods_same ms k

  events_same : (xs : List EventInfo) (es : List EventView) → events_seen a texts xs es ≡ events_seen b texts xs es
  events_same [] es = refl
  events_same (x ∷ xs) [] = refl
  events_same (x ∷ xs) (e ∷ es) = λ k. event_same x e k ∷ events_same xs es k

-- ---- and the whole

abbrev program_seen : List Method → Shape → ResolvedView → Program
program_seen methods shape v = record {
  shape = shape;
  functions = map (method_seen methods (texts_seen v)) v.methods ++ events_seen methods (texts_seen v) shape.events v.events;
  texts = texts_seen v;
  events = numbers_from (length v.methods) (length v.events);
}

program_is : (shape : Shape) (r : Resolved) → scheme_program shape r ≡ program_seen r.methods shape (resolved_view r)
unfolding scheme_program
program_is shape r =
    (λ k. record {
      shape = shape;
      functions = functions_with shape r (texts_are r k);
      texts = texts_are r k;
      events = numbers_from (sym (length-map r.methods method_view) k) (sym (length-map r.events event_view) k);
    })
    ∙ (λ k. record {
      shape = shape;
      functions = methods_are r.methods (texts_seen (resolved_view r)) r.methods k ++ events_are r.methods (texts_seen (resolved_view r)) shape.events r.events k;
      texts = texts_seen (resolved_view r);
      events = numbers_from (length (map method_view r.methods)) (length (map event_view r.events));
    })

program_same : (a b : List Method) → SameGives a b → (shape : Shape) (v : ResolvedView) → program_seen a shape v ≡ program_seen b shape v
program_same a b same shape v = λ k. record {
  shape = shape;
  functions = methods_same a b same (texts_seen v) v.methods k ++ events_same a b same (texts_seen v) shape.events v.events k;
  texts = texts_seen v;
  events = numbers_from (length v.methods) (length v.events);
}

gives_seen : Option MethodView → Bool
gives_seen None = false
gives_seen (Some m) = is_some m.result

gives_is : (ms : List Method) (n : ℕ) → gives_in (slice_get ms n) ≡ gives_seen (slice_get (map method_view ms) n)
unfolding gives_seen
gives_is [] n = refl
gives_is (m ∷ ms) zero = refl
gives_is (m ∷ ms) (suc n) = gives_is ms n

alike : (a b : Resolved) → resolved_view a ≡ resolved_view b → SameGives a.methods b.methods
alike a b e n = gives_is a.methods n ∙ ap (λ (v : ResolvedView). gives_seen (slice_get v.methods n)) e ∙ sym (gives_is b.methods n)

pub same_programs : (shape : Shape) (a b : Resolved) → resolved_view a ≡ resolved_view b → scheme_program shape a ≡ scheme_program shape b
same_programs shape a b e =
    program_is shape a ∙ program_same a.methods b.methods (alike a b e) shape (resolved_view a) ∙ ap (program_seen b.methods shape) e ∙ sym (program_is shape b)
