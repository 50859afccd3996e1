-- The code of a method and of an event, from its first line on.
use Rattle.std.proofs.Common.{◌≡◌, ℕ, zero, suc, ◌+◌, Bool, true, false, List, [], ◌∷◌, ◌++◌, length, get_or, Option, Some, None, refl, sym, ap, subst, ◌∙◌, arith, append_assoc, length-append}
use Rattle.wave_base.specs.declared.span.Span.{Span}
use Rattle.resolved_service.specs.declared.service.Event.{Event}
use Rattle.resolved_service.specs.declared.service.Last.{Last}
use Rattle.resolved_service.specs.declared.service.Method.{Method}
use Rattle.resolved_service.specs.declared.service.Phase.{Phase}
use Rattle.resolved_service.specs.Steps.{steps_in, surely_ends}
use Rattle.resolved_service.specs.View.{tree_of}
use Rattle.service_code.specs.declared.instr.Instr.{Instr}
use Rattle.service_code.specs.declared.instr.Instr.TheVariants as i
use Rattle.code_scheme.specs.declared.line.Line.{Line}
use Rattle.code_scheme.specs.Scheme.{line, tree_code, steps_code, return_code, reply_code, phases_code, method_code, event_code}
use Rattle.code_scheme.specs.Texts.{Text, with_texts, tree_uses, steps_uses, last_uses, phases_uses, method_uses, event_uses}
use Rattle.service_compiler.specs.inner.Drafts.{Draft, Holds, Emits, EmitsSteps, Puts}
use Rattle.service_compiler.specs.inner.Fronts.{last_code, phases_front, ended_behind}
use Rattle.service_compiler.specs.inner.Functions.{IsReady, Writes}
use Rattle.service_compiler.proofs.Drafts.{emits_then, emits_same}

-- nothing is written where a function begins
begins : (d : Draft) → IsReady d → Holds d d.texts []
begins d ready = record { count_is = ap (λ (x : Draft). x.count) ready.begins; texts_are = λ short. refl; lines_are = λ short. ap (λ (x : Draft). x.lines) ready.begins }

written : {c d : Draft} {u : List Text} {f : List Text → ℕ → List Line} {code : List Text → List Line} → IsReady c → Emits c d u f → ((all : List Text) → f all 0 ≡ code all) → Writes c d u code
written {c} {d} {u} {f} {code} ready e same = record {
  functions = e.functions;
  holds = λ all go. subst (Holds d (with_texts c.texts u)) (same all) (e.holds all c.texts [] go (begins c ready));
}

module _ (methods : List Method) where
  -- ---- how a function ends

  pub ends_with_value : {c d : Draft} (taken : Instr) (bare : Line) (ended : Bool) (last : Last) → Emits c d (tree_uses (tree_of last.value)) (λ all n. tree_code methods all n (tree_of last.value) ++ line taken last.at ∷ []) →
      Emits c d (last_uses (Some last)) (λ all n. last_code methods all taken bare n ended (Some last))
  ends_with_value taken bare true last e = e
  ends_with_value taken bare false last e = e

  pub ends_bare : {c d : Draft} (taken : Instr) (bare : Line) (ended : Bool) → ended ≡ false → Puts c d (bare ∷ []) → Emits c d (last_uses None) (λ all n. last_code methods all taken bare n ended None)
  ends_bare taken bare true is e = cc
  ends_bare taken bare false is e = e

  -- a method ends so, and an event
  pub as_return : {c d : Draft} (at : Span) (ended : Bool) (last : Option Last) → Emits c d (last_uses last) (λ all n. last_code methods all i.Return (line i.Return at) n ended last) →
      Emits c d (last_uses last) (λ all n. return_code methods all n at ended last)
  as_return at true None e = e
  as_return at false None e = e
  as_return at true (Some last) e = e
  as_return at false (Some last) e = e

  pub as_reply : {c d : Draft} (at : Span) (ended : Bool) (last : Option Last) → Emits c d (last_uses last) (λ all n. last_code methods all i.Reply (line i.End at) n ended last) →
      Emits c d (last_uses last) (λ all n. reply_code methods all n at ended last)
  as_reply at true None e = e
  as_reply at false None e = e
  as_reply at true (Some last) e = e
  as_reply at false (Some last) e = e

module _ (methods : List Method) (texts : List Text) where
  -- all phases, and the reply
  whole_front : (fs : List Phase) (ended : Bool) (n : ℕ) (at : Span) (last : Option Last) → phases_front methods texts n fs ++ reply_code methods texts (n + length (phases_front methods texts n fs)) at (ended_behind ended fs) last ≡ phases_code methods texts n ended fs at last
  whole_front [] ended n at last = let e : n + 0 ≡ n = omega arith in ap (λ m. reply_code methods texts m at ended last) e
  whole_front (f ∷ fs) ended n at last =
      let ck = tree_code methods texts n (tree_of f.key) in
      let cb = steps_code methods texts (n + length ck + 1) (steps_in f.body) in
      let on = surely_ends (steps_in f.body) in
      let l = line (i.Go f.class) f.at in
      let cf = ck ++ l ∷ cb in
      let cs = phases_front methods texts (n + length cf) fs in
      let p : n + length cf ≡ n + length ck + 1 + length cb = omega (arith, length-append ck (l ∷ cb)) in
      let e : n + length (cf ++ cs) ≡ n + length cf + length cs = omega (arith, length-append cf cs) in
      ap (λ m. (cf ++ cs) ++ reply_code methods texts m at (ended_behind on fs) last) e
      ∙ append_assoc cf cs (reply_code methods texts (n + length cf + length cs) at (ended_behind on fs) last)
      ∙ ap (λ x. cf ++ x) (whole_front fs on (n + length cf) at last ∙ ap (λ m. phases_code methods texts m on fs at last) p)
      ∙ append_assoc ck (l ∷ cb) (phases_code methods texts (n + length ck + 1 + length cb) on fs at last)

module _ (methods : List Method) where
  pub method_written : {c0 c1 c2 : Draft} (m : Method) → IsReady c0 → EmitsSteps methods c0 c1 (steps_in m.body) → Emits c1 c2 (last_uses m.last) (λ all n. return_code methods all n m.at (surely_ends (steps_in m.body)) m.last) →
      Writes c0 c2 (method_uses m) (λ all. method_code methods all m)
  unfolding method_code
  method_written m ready a b =
      written ready (emits_then a b) (λ all.
      let cb = steps_code methods all 0 (steps_in m.body) in
      let n : 0 + length cb ≡ length cb = omega arith in
      ap (λ k. cb ++ return_code methods all k m.at (surely_ends (steps_in m.body)) m.last) n)

  pub event_written : {c0 c1 c2 c3 : Draft} (x : Event) → IsReady c0 → EmitsSteps methods c0 c1 (steps_in x.here) → Emits c1 c2 (phases_uses x.phases) (λ all n. phases_front methods all n x.phases) →
      Emits c2 c3 (last_uses x.last) (λ all n. reply_code methods all n x.at (ended_behind (surely_ends (steps_in x.here)) x.phases) x.last) → Writes c0 c3 (event_uses x) (λ all. event_code methods all x)
  unfolding event_code
  event_written x ready a b d =
      let ended = surely_ends (steps_in x.here) in
      written ready (emits_same (sym (append_assoc (steps_uses (steps_in x.here)) (phases_uses x.phases) (last_uses x.last))) (λ all n. refl) (emits_then a (emits_then b d))) (λ all.
      let cb = steps_code methods all 0 (steps_in x.here) in
      let n : 0 + length cb ≡ length cb = omega arith in
      ap (λ l. cb ++ l) (whole_front methods all x.phases ended (0 + length cb) x.at x.last ∙ ap (λ k. phases_code methods all k ended x.phases x.at x.last) n))

-- the last phase tells
pub last_tells : (fs : List Phase) (n : ℕ) (f : Phase) (ended : Bool) → length fs ≡ suc n → f ≡ get_or fs n f → surely_ends (steps_in f.body) ≡ ended_behind ended fs
last_tells [] n f ended l at = absurd (omega arith)
last_tells (g ∷ []) zero f ended l at = ap (λ (x : Phase). surely_ends (steps_in x.body)) at
last_tells (g ∷ []) (suc n) f ended l at = absurd (omega arith)
last_tells (g ∷ h ∷ fs) zero f ended l at = absurd (omega arith)
last_tells (g ∷ h ∷ fs) (suc n) f ended l at = last_tells (h ∷ fs) n f (surely_ends (steps_in g.body)) (omega arith) at
