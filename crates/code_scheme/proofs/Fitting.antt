-- The program of a checked service is fit, and the verifier accepts it.
use Rattle.std.proofs.Common.{◌≡◌, ℕ, zero, suc, ◌+◌, ◌-◌, ◌<◌, ◌≤◌, inl, inr, ◌||◌, max, List, [], ◌∷◌, ◌++◌, length, map, if◌then◌else◌, Bool, true, false, Option, Some, None, refl, sym, ap, ◌∙◌, subst, arith, length-append}
use Rattle.std.specs.Prelude.{slice_get, Ok}
use Rattle.std.specs.List.{list_any, AllByRecursion}
use Rattle.std.specs.Cmp.Lexicographic.{nat_list_eq_equiv}
use Rattle.std.proofs.lemmas.Bool.{cases_lt}
use Rattle.std.proofs.lemmas.List.Elements.{All-from_recursion}
use Rattle.std.proofs.lemmas.Option.{slice_get_within}
use Rattle.wave_base.specs.declared.shape.EventInfo.{EventInfo}
use Rattle.wave_base.specs.declared.shape.Shape.{Shape}
use Rattle.wave_base.specs.declared.value.Kind.{Kind}
use Rattle.wave_base.specs.Names.{same_bytes}
use Rattle.resolved_service.specs.declared.service.Event.{Event}
use Rattle.resolved_service.specs.declared.service.Last.{Last}
use Rattle.resolved_service.specs.declared.service.Method.{Method}
use Rattle.resolved_service.specs.declared.service.Resolved.{Resolved}
use Rattle.resolved_service.specs.Steps.{steps_in, surely_ends}
use Rattle.service_code.specs.declared.instr.Instr.{Instr}
use Rattle.service_code.specs.declared.program.Function.{Function}
use Rattle.service_code.specs.declared.program.Program.{Program}
use Rattle.service_verify.specs.Fit.{Jumps, IsTicked, IsTickedCall, is_call_down, FitsFunction, FitsEvent, IsFit}
use Rattle.service_verify.specs.declared.point.Point.{Point}
use Rattle.service_verify.specs.Points.{Table, judged_function, IsVerified}
use Rattle.code_scheme.specs.Heights.{steps_height, last_height, phases_height, method_height, event_height}
use Rattle.code_scheme.specs.Programs.{method_function, event_function, event_functions, numbers_from, functions_with, scheme_program}
use Rattle.code_scheme.specs.Scheme.{Line, steps_code, return_code, phases_code, method_code, event_code}
use Rattle.code_scheme.specs.Texts.{Text, with_text, with_texts, steps_uses, last_uses, phases_uses, method_uses, methods_uses, event_uses, events_uses, service_texts}
use Rattle.code_scheme.specs.Typed.{InMethod, InEvent, IsTypedLast, AreTypedPhases, IsTypedMethod, IsTypedEvent, IsTyped}
use Rattle.code_scheme.proofs.Fixed.{Among, among_front, among_back, max_left, max_right, pt}
use Rattle.code_scheme.proofs.Judging.{behind_statements, return_ends, phases_none, phases_ends, accepted}
use Rattle.code_scheme.proofs.Made.{get_back, there_is, program_shape, method_made, event_made, number_made}
use Rattle.code_scheme.proofs.Parts.{whole_loops, whole_calls, code_is}
use Rattle.code_scheme.proofs.StatementParts.{method_part, event_part}
use Rattle.code_scheme.proofs.Places.{StandsAt, stands_front, stands_back, stands_all}
use Rattle.code_scheme.proofs.Shutting.{Shut, runs_at}
use Rattle.code_scheme.proofs.Sizes.{method_some, event_some}
use Rattle.code_scheme.proofs.Stating.{steps_flow}

-- ---- the texts that are used are among the program's

any_front : (t : Text) (ts us : List Text) → list_any (same_bytes t) ts ≡ true → list_any (same_bytes t) (ts ++ us) ≡ true
any_front t [] us h = cc
any_front t (u ∷ ts) us h = by (same_bytes t u) h (λ rest. any_front t ts us rest)
  where
    by : (b : Bool) → (b || list_any (same_bytes t) ts) ≡ true → (list_any (same_bytes t) ts ≡ true → list_any (same_bytes t) (ts ++ us) ≡ true) → (b || list_any (same_bytes t) (ts ++ us)) ≡ true
    by true h rest = refl
    by false h rest = rest h

any_last : (t : Text) (ts : List Text) → list_any (same_bytes t) (ts ++ t ∷ []) ≡ true
any_last t [] = ap (λ b. b || false) (nat_list_eq_equiv.refl t)
any_last t (u ∷ ts) = by (same_bytes t u) (any_last t ts)
  where
    by : (b : Bool) → list_any (same_bytes t) (ts ++ t ∷ []) ≡ true → (b || list_any (same_bytes t) (ts ++ t ∷ [])) ≡ true
    by true h = refl
    by false h = h

in_new : (ts : List Text) (t : Text) → list_any (same_bytes t) (with_text ts t) ≡ true
in_new ts t = by (list_any (same_bytes t) ts) refl
  where
    by : (b : Bool) → list_any (same_bytes t) ts ≡ b → list_any (same_bytes t) (if b then ts else ts ++ t ∷ []) ≡ true
    by true e = e
    by false e = any_last t ts

in_one : (ts : List Text) (u t : Text) → list_any (same_bytes t) ts ≡ true → list_any (same_bytes t) (with_text ts u) ≡ true
in_one ts u t h = by (list_any (same_bytes u) ts)
  where
    by : (b : Bool) → list_any (same_bytes t) (if b then ts else ts ++ u ∷ []) ≡ true
    by true = h
    by false = any_front t ts (u ∷ []) h

in_more : (ts us : List Text) (t : Text) → list_any (same_bytes t) ts ≡ true → list_any (same_bytes t) (with_texts ts us) ≡ true
in_more ts [] t h = h
in_more ts (u ∷ us) t h = in_more (with_text ts u) us t (in_one ts u t h)

all_among : (ts us : List Text) → Among (with_texts ts us) us
unfolding Among
all_among ts [] = tt
all_among ts (u ∷ us) = (in_more (with_text ts u) us u (in_new ts u), all_among (with_text ts u) us)

method_among : (T : List Text) (ms : List Method) → Among T (methods_uses ms) → (n : ℕ) (m : Method) → slice_get ms n ≡ Some m → Among T (method_uses m)
method_among T [] h n m e = cc
method_among T (x ∷ ms) h zero m e = let same : x ≡ m = cc in subst (λ m. Among T (method_uses m)) same (among_front T (method_uses x) (methods_uses ms) h)
method_among T (x ∷ ms) h (suc n) m e = method_among T ms (among_back T (method_uses x) (methods_uses ms) h) n m e

event_among : (T : List Text) (es : List Event) → Among T (events_uses es) → (n : ℕ) (x : Event) → slice_get es n ≡ Some x → Among T (event_uses x)
event_among T [] h n x e = cc
event_among T (y ∷ es) h zero x e = let same : y ≡ x = cc in subst (λ x. Among T (event_uses x)) same (among_front T (event_uses y) (events_uses es) h)
event_among T (y ∷ es) h (suc n) x e = event_among T es (among_back T (event_uses y) (events_uses es) h) n x e

-- ---- each function is a method's or an event's

pub data Origin (shape : Shape) (service : Resolved) (n : ℕ) (f : Function) : Type 0 where
  of_method : (m : Method) → slice_get service.methods n ≡ Some m → f ≡ method_function service.methods (scheme_program shape service).texts m → Origin shape service n f
  of_event : (k : ℕ) (i : EventInfo) (e : Event) → n ≡ length service.methods + k → slice_get shape.events k ≡ Some i → slice_get service.events k ≡ Some e → f ≡ event_function service.methods (scheme_program shape service).texts i e → Origin shape service n f

some_same : {A : Type 0} (a b : A) → Some a ≡ Some b → a ≡ b
some_same a b e = cc

event_inverse : (methods : List Method) (texts : List Text) (is : List EventInfo) (es : List Event) (k : ℕ) (f : Function) → slice_get (event_functions methods texts is es) k ≡ Some f → (i : EventInfo) × (e : Event) × (slice_get is k ≡ Some i) × (slice_get es k ≡ Some e) × (f ≡ event_function methods texts i e)
event_inverse methods texts [] es k f h = cc
event_inverse methods texts (i ∷ is) [] k f h = cc
event_inverse methods texts (i ∷ is) (e ∷ es) zero f h = (i, e, refl, refl, sym (some_same _ _ h))
event_inverse methods texts (i ∷ is) (e ∷ es) (suc k) f h = event_inverse methods texts is es k f h

pub origin : (shape : Shape) (service : Resolved) (n : ℕ) (f : Function) → slice_get (scheme_program shape service).functions n ≡ Some f → Origin shape service n f
unfolding scheme_program
origin shape service n f h = elim (cases_lt n (length service.methods)) [
  | inl lt ↦ (let m = there_is service.methods n lt in of_method m.0 m.1 (some_same _ _ (sym h ∙ method_made shape service n m.0 m.1)))
  | inr ge ↦ (let k = n - length service.methods in let e : length service.methods + k ≡ n = omega (arith, ge) in
      let v = event_inverse service.methods (service_texts service) shape.events service.events k f
      (sym (get_back (method_function service.methods (service_texts service)) service.methods (event_functions service.methods (service_texts service) shape.events service.events) k) ∙ ap (slice_get (functions_with shape service (service_texts service))) e ∙ h) in
      of_event k v.0 v.1 (sym e) v.2 v.3 v.4)
]

-- ---- the verifier accepts it

module _ (shape : Shape) (service : Resolved) (typed : IsTyped shape service) where
  used : Among (scheme_program shape service).texts (methods_uses service.methods ++ events_uses service.events)
  unfolding scheme_program service_texts
  used = all_among [] (methods_uses service.methods ++ events_uses service.events)

  method_typed : (n : ℕ) (m : Method) → slice_get service.methods n ≡ Some m → IsTypedMethod (scheme_program shape service).shape service.methods n m
  method_typed n m e = subst (λ s. IsTypedMethod s service.methods n m) (sym (program_shape shape service)) (typed.methods n m e)

  event_typed : (k : ℕ) (i : EventInfo) (e : Event) → slice_get shape.events k ≡ Some i → slice_get service.events k ≡ Some e → IsTypedEvent (scheme_program shape service).shape service.methods i e
  event_typed k i e a b = subst (λ s. IsTypedEvent s service.methods i e) (sym (program_shape shape service)) (typed.events k i e a b)

  method_verified : (n : ℕ) (m : Method) → slice_get service.methods n ≡ Some m → (u : Table) × (judged_function (scheme_program shape service) n (method_function service.methods (scheme_program shape service).texts m) ≡ Ok u)
  unfolding method_code method_height
  method_verified n m e =
      accepted program n f ls (pt m.class []) refl refl
      (subst (λ k. Shut program n f ls 0 k (pt m.class [])) (sym (length-append cb rest))
      (behind_statements program n f ls service.methods (method_made shape service) n (omega arith) 0 (length cb) (length cb + length rest) (pt m.class []) (pt m.class []) ended
      (runs_at program n f ls ended 0 (0 + length cb) (length cb) (pt m.class []) (pt m.class []) none_more (steps_flow program n f ls service.methods (method_made shape service) n (omega arith) m.class (InMethod m.result) (refl, refl) (steps_in m.body) t.body (among_front program.texts (steps_uses (steps_in m.body)) (last_uses m.last) uses) 0 h0 (stands_front ls 0 cb rest has)))
      (none ended m.result m.last t.last)
      (on ended t.last (subst (λ x. StandsAt ls x rest) none_more (stands_back ls 0 cb rest has)))))
    where
      program : Program
      program = scheme_program shape service

      f : Function
      f = method_function service.methods program.texts m

      ls : List Line
      ls = method_code service.methods program.texts m

      cb : List Line
      cb = steps_code service.methods program.texts 0 (steps_in m.body)

      rest : List Line
      rest = return_code service.methods program.texts (length cb) m.at (surely_ends (steps_in m.body)) m.last

      ended : Bool
      ended = surely_ends (steps_in m.body)

      t : IsTypedMethod program.shape service.methods n m
      t = method_typed n m e

      uses : Among program.texts (method_uses m)
      uses = method_among program.texts service.methods (among_front program.texts (methods_uses service.methods) (events_uses service.events) used) n m e

      h0 : steps_height service.methods (steps_in m.body) ≤ f.stack
      h0 = max_left (steps_height service.methods (steps_in m.body)) (last_height service.methods m.last)

      h1 : last_height service.methods m.last ≤ f.stack
      h1 = max_right (steps_height service.methods (steps_in m.body)) (last_height service.methods m.last)

      has : StandsAt ls 0 (cb ++ rest)
      has = stands_all ls []

      none_more : 0 + length cb ≡ length cb
      none_more = omega arith

      none : (b : Bool) (result : Option Kind) (last : Option Last) → IsTypedLast program.shape service.methods n m.locals m.class.0 b result last → b ≡ true → length cb ≡ length cb + length (return_code service.methods program.texts (length cb) m.at b last)
      none true result None typed e = omega arith
      none true None (Some last) typed e = absurd typed
      none true (Some kind) (Some last) typed e = absurd typed
      none false result last typed e = cc

      on : (b : Bool) → IsTypedLast program.shape service.methods n m.locals m.class.0 b m.result m.last → StandsAt ls (length cb) (return_code service.methods program.texts (length cb) m.at b m.last) → b ≡ false → Shut program n f ls (length cb) (length cb + length (return_code service.methods program.texts (length cb) m.at b m.last)) (pt m.class [])
      on true last has e = cc
      on false last has e = return_ends program n f ls service.methods (method_made shape service) n (omega arith) m.class m.last m.result last refl refl (among_back program.texts (steps_uses (steps_in m.body)) (last_uses m.last) uses) (length cb) m.at h1 has

  event_verified : (k : ℕ) (info : EventInfo) (x : Event) → slice_get shape.events k ≡ Some info → slice_get service.events k ≡ Some x → (u : Table) × (judged_function (scheme_program shape service) (length service.methods + k) (event_function service.methods (scheme_program shape service).texts info x) ≡ Ok u)
  unfolding event_code event_height
  event_verified k info x is_info is_event =
      accepted program n f ls p refl refl
      (subst (λ k. Shut program n f ls 0 k p) (sym (length-append cb rest))
      (behind_statements program n f ls service.methods (method_made shape service) (length service.methods) (omega arith) 0 (length cb) (length cb + length rest) p p ended
      (runs_at program n f ls ended 0 (0 + length cb) (length cb) p p none_more (steps_flow program n f ls service.methods (method_made shape service) (length service.methods) (omega arith) (record { 0 = 0 }) (InEvent info.reply) (refl, refl) (steps_in x.here) t.here (among_front program.texts (steps_uses (steps_in x.here)) (phases_uses x.phases) front) 0 (omega (arith, h0)) (stands_front ls 0 cb rest has)))
      (none ended t.phases)
      (on ended t.phases (subst (λ y. StandsAt ls y rest) none_more (stands_back ls 0 cb rest has)))))
    where
      program : Program
      program = scheme_program shape service

      n : ℕ
      n = length service.methods + k

      f : Function
      f = event_function service.methods program.texts info x

      p : Point
      p = pt (record { 0 = 0 }) []

      ls : List Line
      ls = event_code service.methods program.texts x

      cb : List Line
      cb = steps_code service.methods program.texts 0 (steps_in x.here)

      rest : List Line
      rest = phases_code service.methods program.texts (length cb) (surely_ends (steps_in x.here)) x.phases x.at x.last

      ended : Bool
      ended = surely_ends (steps_in x.here)

      t : IsTypedEvent program.shape service.methods info x
      t = event_typed k info x is_info is_event

      uses : Among program.texts (event_uses x)
      uses = event_among program.texts service.events (among_back program.texts (methods_uses service.methods) (events_uses service.events) used) k x is_event

      front : Among program.texts (steps_uses (steps_in x.here) ++ phases_uses x.phases)
      front = among_front program.texts (steps_uses (steps_in x.here) ++ phases_uses x.phases) (last_uses x.last) uses

      a : ℕ
      a = steps_height service.methods (steps_in x.here)

      b : ℕ
      b = phases_height service.methods x.phases

      d : ℕ
      d = last_height service.methods x.last

      h0 : a ≤ f.stack
      h0 = max_left a (max b d)

      h1 : max b d ≤ f.stack
      h1 = max_right a (max b d)

      h2 : b ≤ max b d
      h2 = max_left b d

      h3 : d ≤ max b d
      h3 = max_right b d

      has : StandsAt ls 0 (cb ++ rest)
      has = stands_all ls []

      none_more : 0 + length cb ≡ length cb
      none_more = omega arith

      none : (b : Bool) → AreTypedPhases program.shape service.methods (length service.methods) x.locals 0 b x.phases info.reply x.last → b ≡ true → length cb ≡ length cb + length (phases_code service.methods program.texts (length cb) b x.phases x.at x.last)
      none true typed e = omega (arith, ap length (phases_none program n f ls service.methods (method_made shape service) (length service.methods) (omega arith) x.phases 0 x.last info.reply typed (length cb) x.at))
      none false typed e = cc

      on : (b : Bool) → AreTypedPhases program.shape service.methods (length service.methods) x.locals 0 b x.phases info.reply x.last → StandsAt ls (length cb) (phases_code service.methods program.texts (length cb) b x.phases x.at x.last) → b ≡ false → Shut program n f ls (length cb) (length cb + length (phases_code service.methods program.texts (length cb) b x.phases x.at x.last)) p
      on true typed has e = cc
      on false typed has e = phases_ends program n f ls service.methods (method_made shape service) (length service.methods) (omega arith) x.phases (record { 0 = 0 }) x.last info.reply typed refl refl (among_back program.texts (steps_uses (steps_in x.here)) (phases_uses x.phases) front) (among_back program.texts (steps_uses (steps_in x.here) ++ phases_uses x.phases) (last_uses x.last) uses) (length cb) x.at (omega (arith, h1, h2)) (omega (arith, h1, h3)) has

  pub scheme_verified : IsVerified (scheme_program shape service)
  scheme_verified = record { each = λ n f h. by n f (origin shape service n f h) }
    where
      by : (n : ℕ) (f : Function) → Origin shape service n f → (u : Table) × (judged_function (scheme_program shape service) n f ≡ Ok u)
      by n f (of_method m e is) = subst (λ f. (u : Table) × (judged_function (scheme_program shape service) n f ≡ Ok u)) (sym is) (method_verified n m e)
      by n f (of_event k i x at a b is) = subst (λ n. (u : Table) × (judged_function (scheme_program shape service) n f ≡ Ok u)) (sym at) (subst (λ f. (u : Table) × (judged_function (scheme_program shape service) (length service.methods + k) f ≡ Ok u)) (sym is) (event_verified k i x a b))

  -- ---- it is fit

  map_long : {A : Type 0} (g : Line → A) (ks : List Line) → length (map g ks) ≡ length ks
  map_long g [] = refl
  map_long g (k ∷ ks) = ap suc (map_long g ks)

  root_below : 0 < length shape.classes
  root_below = slice_get_within shape.classes 0 typed.shape_is.root.0 typed.shape_is.root.1

  method_fits : (T : List Text) (n : ℕ) (m : Method) → slice_get service.methods n ≡ Some m → FitsFunction shape (method_function service.methods T m)
  method_fits T n m e =
      let ls = method_code service.methods T m in
      let part = method_part service.methods T m in
      let t = typed.methods n m e in
      record {
        some = subst (λ k. 0 < k) (sym (map_long (λ (l : Line). l.instr) ls)) (method_some service.methods T m);
        places = map_long (λ (l : Line). l.place) ls ∙ sym (map_long (λ (l : Line). l.instr) ls);
        class = t.class;
        root = λ h. cc;
        locals = t.locals;
        loops = subst (λ c. (j i : ℕ) → Jumps c j i → i ≤ j → (k : ℕ) × IsTicked c j i k) (code_is ls) (whole_loops ls part);
        calls = subst (λ c. (n : ℕ) (k : Instr) → slice_get c n ≡ Some k → is_call_down k ≡ true → IsTickedCall c n) (code_is ls) (whole_calls ls part);
      }

  event_fits : (T : List Text) (k : ℕ) (info : EventInfo) (x : Event) → slice_get shape.events k ≡ Some info → slice_get service.events k ≡ Some x → FitsFunction shape (event_function service.methods T info x)
  event_fits T k info x a b =
      let ls = event_code service.methods T x in
      let part = event_part service.methods T x in
      let t = typed.events k info x a b in
      record {
        some = subst (λ k. 0 < k) (sym (map_long (λ (l : Line). l.instr) ls)) (event_some service.methods T x);
        places = map_long (λ (l : Line). l.place) ls ∙ sym (map_long (λ (l : Line). l.instr) ls);
        class = root_below;
        root = λ h. refl;
        locals = t.locals;
        loops = subst (λ c. (j i : ℕ) → Jumps c j i → i ≤ j → (k : ℕ) × IsTicked c j i k) (code_is ls) (whole_loops ls part);
        calls = subst (λ c. (n : ℕ) (k : Instr) → slice_get c n ≡ Some k → is_call_down k ≡ true → IsTickedCall c n) (code_is ls) (whole_calls ls part);
      }

  all_from : {A : Type 0} (P : A → Type 0) (xs : List A) → ((n : ℕ) (x : A) → slice_get xs n ≡ Some x → P x) → AllByRecursion P xs
  all_from P [] h = tt
  all_from P (x ∷ xs) h = (h 0 x refl, all_from P xs (λ n y e. h (suc n) y e))

  numbers_long : (from k : ℕ) → length (numbers_from from k) ≡ k
  numbers_long from zero = refl
  numbers_long from (suc k) = ap suc (numbers_long (suc from) k)

  pub scheme_fit : IsFit (scheme_program shape service)
  unfolding scheme_program
  scheme_fit = record {
    shape = typed.shape_is;
    functions = All-from_recursion (FitsFunction shape) (scheme_program shape service).functions (all_from (FitsFunction shape) (scheme_program shape service).functions (λ n f h. by n f (origin shape service n f h)));
    events = numbers_long (length service.methods) (length service.events) ∙ typed.count;
    each = each;
  }
    where
      by : (n : ℕ) (f : Function) → Origin shape service n f → FitsFunction shape f
      by n f (of_method m e is) = subst (FitsFunction shape) (sym is) (method_fits (scheme_program shape service).texts n m e)
      by n f (of_event k i x at a b is) = subst (FitsFunction shape) (sym is) (event_fits (scheme_program shape service).texts k i x a b)

      each : (n : ℕ) (info : EventInfo) (number : ℕ) → slice_get shape.events n ≡ Some info → slice_get (scheme_program shape service).events n ≡ Some number → FitsEvent (scheme_program shape service) info number
      each n info number a b =
          let lt : n < length service.events = subst (λ k. n < k) (sym typed.count) (slice_get_within shape.events n info a) in
          let x = there_is service.events n lt in
          let at : length service.methods + n ≡ number = some_same _ _ (sym (number_made shape service n lt) ∙ b) in
          record {
            function = event_function service.methods (scheme_program shape service).texts info x.0;
            is_there = ap (slice_get (scheme_program shape service).functions) (sym at) ∙ event_made shape service n info x.0 a x.1;
            is_event = refl;
            args = refl;
            result = refl;
          }
