-- Functions that are added one after the other, and the first of them that is too long.
use Rattle.std.proofs.Common.{◌≡◌, ℕ, zero, suc, ◌+◌, ◌<◌, ◌≤◌, List, [], ◌∷◌, ◌++◌, length, map, take, drop, get_or, Some, refl, sym, ap, ◌∙◌, subst, arith, append_assoc, length-append}
use Rattle.std.specs.Prelude.{slice_get}
use Rattle.std.proofs.lemmas.List.{append-nil, length-map, map-append, take-append-drop}
use Rattle.std.proofs.lemmas.List.Elements.{All-nil, All-push}
use Rattle.wave_base.specs.declared.limits.TheConstants.{INSTRUCTIONS}
use Rattle.wave_base.specs.declared.shape.EventInfo.{EventInfo}
use Rattle.wave_base.specs.declared.shape.Shape.{Shape}
use Rattle.resolved_service.specs.declared.service.Event.{Event}
use Rattle.resolved_service.specs.declared.service.Method.{Method}
use Rattle.resolved_service.specs.declared.service.Resolved.{Resolved}
use Rattle.service_code.specs.declared.program.Function.{Function}
use Rattle.code_scheme.specs.declared.line.Line.{Line}
use Rattle.code_scheme.specs.Programs.{told_length, method_function, event_function, event_functions, numbers_from, functions_with, scheme_program}
use Rattle.code_scheme.specs.Scheme.{method_code, event_code}
use Rattle.code_scheme.specs.Texts.{Text, with_texts, method_uses, event_uses, methods_uses, events_uses, service_texts}
use Rattle.service_compiler.specs.declared.error.CompileError.{CompileError}
use Rattle.service_compiler.specs.declared.error.CompileError.TheVariants.{CodeTooLong, OutOfMemory}
use Rattle.service_compiler.specs.Faults.{Refuses}
use Rattle.service_compiler.specs.inner.Drafts.{Draft, new_draft, GoOn}
use Rattle.service_compiler.specs.inner.Functions.{AreShort, IsReady, Writes, Adds, IsFirstLong, HasLong, IsRefused, IsLong}
use Rattle.service_compiler.proofs.Drafts.{with_more, earlier}
use Rattle.service_compiler.proofs.Notes.{item_more, uses_next}

-- ---- one function more

go_self : (texts : List Text) → GoOn texts texts
go_self texts = record { more = []; are = refl }

module _ (c0 c1 : Draft) (uses : List Text) (code : List Text → List Line) (due : List Text → Function) (ready : IsReady c0) (writes : Writes c0 c1 uses code) (long : (all : List Text) → length (due all).code ≡ length (code all)) where
  abbrev used : List Text
  used = with_texts c0.texts uses

  code_short : c1.count ≤ INSTRUCTIONS → (all : List Text) → GoOn used all → length (code all) ≤ INSTRUCTIONS
  code_short short all go = let h = (writes.holds all go).count_is in omega (arith, short, h)

  -- it is not too long
  pub function_added : (c2 : Draft) (function : Function) → c1.count ≤ INSTRUCTIONS → ((all : List Text) → length (code all) ≤ INSTRUCTIONS → c1.lines ≡ code all → function ≡ due all) → c2 ≡ new_draft (c1.functions ++ function ∷ []) c1.texts →
      Adds c0 c2 uses (λ all. due all ∷ [])
  function_added c2 function short is added = record {
    ready = record {
      begins = added ∙ (λ i. new_draft (sym added i).functions (sym added i).texts);
      short = subst AreShort (sym functions) (All-push (λ (f : Function). length f.code ≤ INSTRUCTIONS) c0.functions function ready.short
          (let l = long used in let s = code_short short used (go_self used) in omega (arith, l, s, ap (λ (f : Function). length f.code) (function_is used (go_self used)))));
    };
    texts = texts;
    functions = λ all go. functions ∙ ap (λ f. c0.functions ++ f ∷ []) (function_is all (subst (λ t. GoOn t all) texts go));
  }
    where
      texts : c2.texts ≡ used
      texts = ap (λ (d : Draft). d.texts) added ∙ (writes.holds used (go_self used)).texts_are (code_short short used (go_self used))

      functions : c2.functions ≡ c0.functions ++ function ∷ []
      functions = ap (λ (d : Draft). d.functions) added ∙ ap (λ fs. fs ++ function ∷ []) writes.functions

      function_is : (all : List Text) → GoOn used all → function ≡ due all
      function_is all go = let s = code_short short all go in is all s ((writes.holds all go).lines_are s)

  -- it is
  pub function_refused : (e : CompileError) → IsLong (length c1.functions) c1.count e → IsRefused c0 uses (λ all. due all ∷ []) e
  function_refused (OutOfMemory _) h = record { long = λ all go. tt }
  function_refused (CodeTooLong f n) h = record {
    long = λ all go.
        let count = (writes.holds all go).count_is in
        let l = long all in
        let number : length c0.functions ≡ f = sym (h.0 ∙ ap length writes.functions) in
        subst (λ k. IsFirstLong (c0.functions ++ due all ∷ []) k n) number (record {
          function = due all;
          is_there = behind c0.functions (due all);
          too_long = omega (arith, h.2, count, l);
          size_is = h.1 ∙ count ∙ ap told_length (sym l);
          first = before c0.functions (due all ∷ []) ready.short;
        });
  }
    where
      behind : (made : List Function) (f : Function) → slice_get (made ++ f ∷ []) (length made) ≡ Some f
      behind [] f = refl
      behind (g ∷ made) f = behind made f

      same : (made rest : List Function) (n : ℕ) (g : Function) → n < length made → slice_get (made ++ rest) n ≡ Some g → get_or made n g ≡ g
      same [] rest n g lt e = absurd (omega (arith, lt))
      same (x ∷ made) rest zero g lt e = cc
      same (x ∷ made) rest (suc n) g lt e = same made rest n g (omega (arith, lt)) e

      before : (made rest : List Function) → AreShort made → (n : ℕ) (g : Function) → n < length made → slice_get (made ++ rest) n ≡ Some g → length g.code ≤ INSTRUCTIONS
      before made rest short n g lt e = subst (λ (x : Function). length x.code ≤ INSTRUCTIONS) (same made rest n g lt e) (short n g lt)

pub method_long : (methods : List Method) (m : Method) (texts : List Text) → length (method_function methods texts m).code ≡ length (method_code methods texts m)
method_long methods m texts = length-map (method_code methods texts m) (λ (l : Line). l.instr)

pub event_long : (methods : List Method) (i : EventInfo) (e : Event) (texts : List Text) → length (event_function methods texts i e).code ≡ length (event_code methods texts e)
event_long methods i e texts = length-map (event_code methods texts e) (λ (l : Line). l.instr)

-- ---- functions one after the other

pub adds_none : (d : Draft) → IsReady d → Adds d d [] (λ all. [])
adds_none d ready = record { ready = ready; texts = refl; functions = λ all go. sym (append-nil d.functions) }

pub adds_then : {c0 c1 c2 : Draft} {u v : List Text} {f g : List Text → List Function} → Adds c0 c1 u f → Adds c1 c2 v g → Adds c0 c2 (u ++ v) (λ all. f all ++ g all)
adds_then {c0} {c1} {c2} {u} {v} {f} {g} a b = record {
  ready = b.ready;
  texts = b.texts ∙ ap (λ t. with_texts t v) a.texts ∙ sym (with_more c0.texts u v);
  functions = λ all go.
      b.functions all go ∙ ap (λ fs. fs ++ g all) (a.functions all (earlier c1.texts v all (subst (λ t. GoOn t all) b.texts go)))
      ∙ append_assoc c0.functions (f all) (g all);
}

pub adds_same : {c0 c1 : Draft} {u v : List Text} {f g : List Text → List Function} → u ≡ v → ((all : List Text) → f all ≡ g all) → Adds c0 c1 u f → Adds c0 c1 v g
adds_same {c0} {c1} {u} {v} {f} {g} same are a = record {
  ready = a.ready;
  texts = a.texts ∙ ap (with_texts c0.texts) same;
  functions = λ all go. a.functions all go ∙ ap (λ fs. c0.functions ++ fs) (are all);
}

pub adds_count : {c0 c1 : Draft} {u : List Text} {f : List Text → List Function} → Adds c0 c1 u f → length c1.functions ≡ length c0.functions + length (f c1.texts)
adds_count {c0} {c1} {u} {f} a = ap length (a.functions c1.texts (go_self c1.texts)) ∙ length-append c0.functions (f c1.texts)

-- ---- the first that is too long

front_there : (a b : List Function) (n : ℕ) (f : Function) → slice_get a n ≡ Some f → slice_get (a ++ b) n ≡ Some f
front_there [] b n f e = cc
front_there (x ∷ a) b zero f e = e
front_there (x ∷ a) b (suc n) f e = front_there a b n f e

front_only : (a b : List Function) (k : ℕ) (g : Function) → slice_get a k ≡ Some g → (n : ℕ) (f : Function) → n < k → slice_get (a ++ b) n ≡ Some f → slice_get a n ≡ Some f
front_only [] b k g e n f lt h = cc
front_only (x ∷ a) b zero g e n f lt h = absurd (omega (arith, lt))
front_only (x ∷ a) b (suc k) g e zero f lt h = h
front_only (x ∷ a) b (suc k) g e (suc n) f lt h = front_only a b k g e n f (omega (arith, lt)) h

long_front : (a b : List Function) (e : CompileError) → HasLong a e → HasLong (a ++ b) e
long_front a b (OutOfMemory _) h = tt
long_front a b (CodeTooLong k size) h = record {
  function = h.function;
  is_there = front_there a b k h.function h.is_there;
  too_long = h.too_long;
  size_is = h.size_is;
  first = λ n f lt e. h.first n f lt (front_only a b k h.function h.is_there n f lt e);
}

-- behind those that are refused others are no matter
pub refused_front : {c0 : Draft} {u : List Text} {f : List Text → List Function} (v : List Text) (g : List Text → List Function) (e : CompileError) → IsRefused c0 u f e → IsRefused c0 (u ++ v) (λ all. f all ++ g all) e
refused_front {c0} {u} {f} v g e h = record {
  long = λ all go.
      let front = earlier (with_texts c0.texts u) v all (subst (λ t. GoOn t all) (with_more c0.texts u v) go) in
      subst (λ fs. HasLong fs e) (append_assoc c0.functions (f all) (g all)) (long_front (c0.functions ++ f all) (g all) e (h.long all front));
}

-- those that are added before are not too long
pub refused_then : {c0 c1 : Draft} {u v : List Text} {f g : List Text → List Function} (e : CompileError) → Adds c0 c1 u f → IsRefused c1 v g e → IsRefused c0 (u ++ v) (λ all. f all ++ g all) e
refused_then {c0} {c1} {u} {v} {f} {g} e a h = record {
  long = λ all go.
      let back : GoOn (with_texts c1.texts v) all = subst (λ t. GoOn t all) (with_more c0.texts u v ∙ ap (λ t. with_texts t v) (sym a.texts)) go in
      subst (λ fs. HasLong fs e) (ap (λ fs. fs ++ g all) (a.functions all (earlier c1.texts v all back)) ∙ append_assoc c0.functions (f all) (g all)) (h.long all back);
}

pub refused_same : {c0 : Draft} {u v : List Text} {f g : List Text → List Function} (e : CompileError) → u ≡ v → ((all : List Text) → f all ≡ g all) → IsRefused c0 u f e → IsRefused c0 v g e
refused_same {c0} {u} {v} {f} {g} e same are h = record {
  long = λ all go. subst (λ fs. HasLong (c0.functions ++ fs) e) (are all) (h.long all (subst (λ t. GoOn (with_texts c0.texts t) all) (sym same) go));
}

-- ---- methods and events by their places

uses_append : {A : Type 0} (one : A → List Text) (all : List A → List Text) → all [] ≡ [] → ((x : A) (xs : List A) → all (x ∷ xs) ≡ one x ++ all xs) → (xs ys : List A) → all xs ++ all ys ≡ all (xs ++ ys)
uses_append one all none more [] ys = ap (λ l. l ++ all ys) none
uses_append one all none more (x ∷ xs) ys =
    ap (λ l. l ++ all ys) (more x xs) ∙ append_assoc (one x) (all xs) (all ys) ∙ ap (λ l. one x ++ l) (uses_append one all none more xs ys) ∙ sym (more x (xs ++ ys))

module _ (methods : List Method) (xs : List Method) (k : ℕ) where
  abbrev made : List Method → List Text → List Function
  made ms all = map (method_function methods all) ms

  module _ (x : Method) (lt : k < length xs) (at : x ≡ get_or xs k x) where
    pub methods_next : {c0 c1 c2 : Draft} → Adds c0 c1 (methods_uses (take k xs)) (made (take k xs)) → Adds c1 c2 (method_uses x) (λ all. method_function methods all x ∷ []) → Adds c0 c2 (methods_uses (take (k + 1) xs)) (made (take (k + 1) xs))
    methods_next a b =
        adds_same (uses_next method_uses methods_uses refl (λ y ys. refl) xs k x lt at) (λ all. sym (map-append (method_function methods all) (take k xs) (x ∷ [])) ∙ ap (map (method_function methods all)) (sym (item_more xs k x lt at)))
        (adds_then a b)

    pub methods_refused : {c0 c1 : Draft} (e : CompileError) → Adds c0 c1 (methods_uses (take k xs)) (made (take k xs)) → IsRefused c1 (method_uses x) (λ all. method_function methods all x ∷ []) e → IsRefused c0 (methods_uses xs) (made xs) e
    methods_refused e a h =
        let rest = drop (k + 1) xs in
        refused_same e (uses_append method_uses methods_uses refl (λ y ys. refl) (take (k + 1) xs) rest ∙ ap methods_uses (take-append-drop (k + 1) xs))
        (λ all. sym (map-append (method_function methods all) (take (k + 1) xs) rest) ∙ ap (map (method_function methods all)) (take-append-drop (k + 1) xs))
        (refused_front (methods_uses rest) (made rest) e
        (refused_same e (uses_next method_uses methods_uses refl (λ y ys. refl) xs k x lt at) (λ all. sym (map-append (method_function methods all) (take k xs) (x ∷ [])) ∙ ap (map (method_function methods all)) (sym (item_more xs k x lt at)))
        (refused_then e a h)))

module _ (methods : List Method) (texts : List Text) where
  events_split : (is : List EventInfo) (es : List Event) (k : ℕ) → event_functions methods texts (take k is) (take k es) ++ event_functions methods texts (drop k is) (drop k es) ≡ event_functions methods texts is es
  events_split is es zero = refl
  events_split [] es (suc k) = refl
  events_split (i ∷ is) [] (suc k) = none is k
    where
      none : (is : List EventInfo) (k : ℕ) → event_functions methods texts (drop k is) [] ≡ []
      none [] zero = refl
      none [] (suc k) = refl
      none (j ∷ is) zero = refl
      none (j ∷ is) (suc k) = none is k
  events_split (i ∷ is) (e ∷ es) (suc k) = ap (λ fs. event_function methods texts i e ∷ fs) (events_split is es k)

  events_next_suc : (is : List EventInfo) (es : List Event) (k : ℕ) (i : EventInfo) (e : Event) → k < length is → k < length es → i ≡ get_or is k i → e ≡ get_or es k e →
      event_functions methods texts (take k is) (take k es) ++ event_function methods texts i e ∷ [] ≡ event_functions methods texts (take (suc k) is) (take (suc k) es)
  events_next_suc [] es k i e lt ht at bt = absurd (omega (arith, lt))
  events_next_suc (j ∷ is) [] k i e lt ht at bt = absurd (omega (arith, ht))
  events_next_suc (j ∷ is) (d ∷ es) zero i e lt ht at bt = λ x. event_function methods texts (at x) (bt x) ∷ []
  events_next_suc (j ∷ is) (d ∷ es) (suc k) i e lt ht at bt = ap (λ l. event_function methods texts j d ∷ l) (events_next_suc is es k i e (omega (arith, lt)) (omega (arith, ht)) at bt)

  events_next : (is : List EventInfo) (es : List Event) (k : ℕ) (i : EventInfo) (e : Event) → k < length is → k < length es → i ≡ get_or is k i → e ≡ get_or es k e →
      event_functions methods texts (take k is) (take k es) ++ event_function methods texts i e ∷ [] ≡ event_functions methods texts (take (k + 1) is) (take (k + 1) es)
  events_next is es k i e lt ht at bt = let s : suc k ≡ k + 1 = omega arith in events_next_suc is es k i e lt ht at bt ∙ ap (λ n. event_functions methods texts (take n is) (take n es)) s

  pub events_few : (is : List EventInfo) (es : List Event) → length (event_functions methods texts is es) ≤ length es
  events_few [] es = omega arith
  events_few (i ∷ is) [] = omega arith
  events_few (i ∷ is) (d ∷ es) = omega (arith, events_few is es)

module _ (methods : List Method) (is : List EventInfo) (es : List Event) (k : ℕ) where
  abbrev given : List EventInfo → List Event → List Text → List Function
  given infos events all = event_functions methods all infos events

  module _ (i : EventInfo) (e : Event) (lt : k < length is) (ht : k < length es) (at : i ≡ get_or is k i) (bt : e ≡ get_or es k e) where
    pub next_event : {c0 c1 c2 : Draft} → Adds c0 c1 (events_uses (take k es)) (given (take k is) (take k es)) → Adds c1 c2 (event_uses e) (λ all. event_function methods all i e ∷ []) → Adds c0 c2 (events_uses (take (k + 1) es)) (given (take (k + 1) is) (take (k + 1) es))
    next_event a b =
        adds_same (uses_next event_uses events_uses refl (λ y ys. refl) es k e ht bt) (λ all. events_next methods all is es k i e lt ht at bt) (adds_then a b)

    pub events_refused : {c0 c1 : Draft} (error : CompileError) → Adds c0 c1 (events_uses (take k es)) (given (take k is) (take k es)) → IsRefused c1 (event_uses e) (λ all. event_function methods all i e ∷ []) error → IsRefused c0 (events_uses es) (given is es) error
    events_refused error a h =
        refused_same error (uses_append event_uses events_uses refl (λ y ys. refl) (take (k + 1) es) (drop (k + 1) es) ∙ ap events_uses (take-append-drop (k + 1) es))
        (λ all. events_split methods all is es (k + 1))
        (refused_front (events_uses (drop (k + 1) es)) (given (drop (k + 1) is) (drop (k + 1) es)) error
        (refused_same error (uses_next event_uses events_uses refl (λ y ys. refl) es k e ht bt) (λ all. events_next methods all is es k i e lt ht at bt) (refused_then error a h)))

numbers_next_suc : (first k : ℕ) → numbers_from first k ++ ((first + k) ∷ []) ≡ numbers_from first (suc k)
numbers_next_suc first zero = let e : first + 0 ≡ first = omega arith in ap (λ n. n ∷ []) e
numbers_next_suc first (suc k) =
    let e : first + suc k ≡ suc first + k = omega arith in
    ap (λ n. first ∷ (numbers_from (suc first) k ++ n ∷ [])) e ∙ ap (λ l. first ∷ l) (numbers_next_suc (suc first) k)

pub numbers_next : (first k : ℕ) (xs ys : List ℕ) → xs ≡ numbers_from first k → ys ≡ xs ++ ((first + k) ∷ []) → ys ≡ numbers_from first (k + 1)
numbers_next first k xs ys e g = let s : suc k ≡ k + 1 = omega arith in g ∙ ap (λ l. l ++ ((first + k) ∷ [])) e ∙ numbers_next_suc first k ∙ ap (numbers_from first) s

-- ---- all of a program

module _ (shape : Shape) (service : Resolved) where
  abbrev uses : List Text
  uses = methods_uses service.methods ++ events_uses service.events

  abbrev all_functions : List Text → List Function
  all_functions all = functions_with shape service all

  pub refuses : (e : CompileError) → IsRefused (new_draft [] []) uses all_functions e → Refuses shape service e
  unfolding scheme_program service_texts
  refuses (OutOfMemory _) h = tt
  refuses (CodeTooLong k size) h =
      let long = h.long (service_texts service) (go_self (service_texts service)) in
      record {
        function = long.function;
        is_there = long.is_there;
        too_long = long.too_long;
        size_is = long.size_is;
        first = long.first;
      }

  pub texts_are : (d : Draft) → Adds (new_draft [] []) d uses all_functions → d.texts ≡ service_texts service
  unfolding service_texts
  texts_are d a = a.texts

  pub program_is : (d : Draft) → Adds (new_draft [] []) d uses all_functions → (functions : List Function) (lists : List Text) (numbers : List ℕ) → functions ≡ d.functions → lists ≡ d.texts → numbers ≡ numbers_from (length service.methods) (length service.events) →
      record { shape = shape; functions = functions; texts = lists; events = numbers } ≡ scheme_program shape service
  unfolding scheme_program
  program_is d a functions lists numbers f t n = λ i. record {
    shape = shape;
    functions = (f ∙ a.functions d.texts (go_self d.texts) ∙ ap all_functions (texts_are d a)) i;
    texts = (t ∙ texts_are d a) i;
    events = n i;
  }

  -- what is due, said of what a call is given
  module _ (c0 c1 : Draft) (ms : List Method) (is : List EventInfo) (es : List Event) (none : c0 ≡ new_draft [] []) (methods_are : ms ≡ service.methods) (infos_are : is ≡ shape.events) (events_are : es ≡ service.events) where
    abbrev given_uses : List Text
    given_uses = methods_uses ms ++ events_uses es

    abbrev given_functions : List Text → List Function
    given_functions all = map (method_function ms all) ms ++ event_functions ms all is es

    said : (P : Draft → List Text → (List Text → List Function) → Type 0) → P c0 given_uses given_functions → P (new_draft [] []) uses all_functions
    said P h =
        subst (λ (x : (d : Draft) × (a : List Method) × (b : List EventInfo) × List Event). P x.0 (methods_uses x.1 ++ events_uses x.3) (λ all. map (method_function x.1 all) x.1 ++ event_functions x.1 all x.2 x.3))
        (λ i. (none i, methods_are i, infos_are i, events_are i)) h

    pub all_added : (c2 : Draft) → Adds c0 c1 (methods_uses ms) (λ all. map (method_function ms all) ms) → Adds c1 c2 (events_uses es) (λ all. event_functions ms all is es) → Adds (new_draft [] []) c2 uses all_functions
    all_added c2 a b = said (λ d u f. Adds d c2 u f) (adds_then a b)

    pub methods_refuse : (e : CompileError) → IsRefused c0 (methods_uses ms) (λ all. map (method_function ms all) ms) e → Refuses shape service e
    methods_refuse e h = refuses e (said (λ d u f. IsRefused d u f e) (refused_front (events_uses es) (λ all. event_functions ms all is es) e h))

    pub events_refuse : (e : CompileError) → Adds c0 c1 (methods_uses ms) (λ all. map (method_function ms all) ms) → IsRefused c1 (events_uses es) (λ all. event_functions ms all is es) e → Refuses shape service e
    events_refuse e a h = refuses e (said (λ d u f. IsRefused d u f e) (refused_then e a h))

-- no functions yet
pub ready_new : (d : Draft) → d ≡ new_draft [] [] → IsReady d
ready_new d is = subst IsReady (sym is) (record { begins = refl; short = All-nil (λ (f : Function). length f.code ≤ INSTRUCTIONS) })
