-- Lines that are added one after the other, whatever lines there are.
use Rattle.std.proofs.Common.{◌≡◌, ℕ, ◌+◌, ◌<◌, ◌≤◌, min, List, [], ◌∷◌, ◌++◌, length, refl, sym, ap, subst, ◌∙◌, arith, append_assoc, length-append}
use Rattle.std.proofs.lemmas.List.{append-nil}
use Rattle.wave_base.specs.declared.limits.TheConstants.{INSTRUCTIONS}
use Rattle.wave_base.specs.declared.span.Span.{Span}
use Rattle.service_code.specs.declared.instr.Instr.{Instr}
use Rattle.code_scheme.specs.declared.line.Line.{Line}
use Rattle.code_scheme.specs.Programs.{told_length}
use Rattle.code_scheme.specs.Scheme.{line}
use Rattle.code_scheme.specs.Texts.{Text, with_text, with_texts, place_of_text}
use Rattle.service_compiler.specs.inner.Drafts.{Draft, Holds, GoOn, Emits, Puts}
use Rattle.service_compiler.proofs.TextLemmas.{number_stays}

-- ---- texts one after the other

pub with_more : (ts a b : List Text) → with_texts ts (a ++ b) ≡ with_texts (with_texts ts a) b
with_more ts [] b = refl
with_more ts (t ∷ a) b = with_more (with_text ts t) a b

-- what goes on from more texts goes on from the first of them
pub earlier : (a b all : List Text) → GoOn (with_texts a b) all → GoOn a all
earlier a b all go = record { more = b ++ go.more; are = go.are ∙ sym (with_more a b go.more) }

-- ---- pieces one after the other

pub emits_none : (d : Draft) → Emits d d [] (λ all n. [])
emits_none d = record { functions = refl; holds = λ all texts lines go h. subst (Holds d texts) (sym (append-nil lines)) h }

pub emits_then : {c0 c1 c2 : Draft} {u v : List Text} {f g : List Text → ℕ → List Line} → Emits c0 c1 u f → Emits c1 c2 v g → Emits c0 c2 (u ++ v) (λ all n. f all n ++ g all (n + length (f all n)))
emits_then {c0} {c1} {c2} {u} {v} {f} {g} a b = record {
  functions = b.functions ∙ a.functions;
  holds = λ all texts lines go h.
      let two : GoOn (with_texts (with_texts texts u) v) all = subst (λ t. GoOn t all) (with_more texts u v) go in
      let piece = f all (length lines) in
      let mid = lines ++ piece in
      let one = a.holds all texts lines (earlier (with_texts texts u) v all two) h in
      let long : length mid ≡ length lines + length piece = length-append lines piece in
      let same : mid ++ g all (length mid) ≡ lines ++ (piece ++ g all (length lines + length piece)) = ap (λ k. mid ++ g all k) long ∙ append_assoc lines piece (g all (length lines + length piece)) in
      subst (λ t. Holds c2 t (lines ++ (piece ++ g all (length lines + length piece)))) (sym (with_more texts u v))
      (subst (Holds c2 (with_texts (with_texts texts u) v)) same (b.holds all (with_texts texts u) mid two one));
}

-- the same lines, said otherwise
pub emits_same : {c0 c1 : Draft} {u v : List Text} {f g : List Text → ℕ → List Line} → u ≡ v → ((all : List Text) (n : ℕ) → f all n ≡ g all n) → Emits c0 c1 u f → Emits c0 c1 v g
emits_same {c0} {c1} {u} {v} {f} {g} same are e = subst (λ w. Emits c0 c1 w g) same (record {
  functions = e.functions;
  holds = λ all texts lines go h. subst (λ piece. Holds c1 (with_texts texts u) (lines ++ piece)) (are all (length lines)) (e.holds all texts lines go h);
})

-- a piece, and lines that use no text
pub emits_put : {c0 c1 c2 : Draft} {u : List Text} {f : List Text → ℕ → List Line} {ls : List Line} → Emits c0 c1 u f → Puts c1 c2 ls → Emits c0 c2 u (λ all n. f all n ++ ls)
emits_put {c0} {c1} {c2} {u} a b = emits_same (append-nil u) (λ all n. refl) (emits_then a b)

-- no lines, and then a piece
pub none_then : {c0 c1 c2 : Draft} {u : List Text} {f : List Text → ℕ → List Line} → Puts c0 c1 [] → Emits c1 c2 u f → Emits c0 c2 u f
none_then {c0} {c1} {c2} {u} {f} a b = emits_same refl (λ all n. let e : n + 0 ≡ n = omega arith in ap (f all) e) (emits_then a b)

-- ---- what is written, and what is kept of it

-- lines that are written anew are as many as before, and where they are kept they are these
pub written_anew : (c d : Draft) (texts : List Text) (ls new ms : List Line) → Holds c texts ls → d ≡ record c { lines = new } → length ms ≡ length ls → (length ls ≤ INSTRUCTIONS → c.lines ≡ ls → new ≡ ms) → Holds d texts ms
written_anew c d texts ls new ms h is long are = subst (λ x. Holds x texts ms) (sym is) (record {
  count_is = h.count_is ∙ ap told_length (sym long);
  texts_are = λ short. h.texts_are (omega (arith, short, long));
  lines_are = λ short. let s : length ls ≤ INSTRUCTIONS = omega (arith, short, long) in are s (h.lines_are s);
})

-- ---- one line more

told_next : (n k : ℕ) → n ≡ told_length k → min (n + 1) 4294967295 ≡ told_length (k + 1)
told_next n k e = omega (arith, e)

module _ (d new : Draft) (t : Text) (names : ℕ → Instr) (at : Span) where
  -- a line that names a text
  pub use_kept : length d.lines < INSTRUCTIONS → new ≡ record { functions = d.functions; texts = with_text d.texts t; lines = d.lines ++ line (names (place_of_text d.texts t)) at ∷ []; count = min (d.count + 1) 4294967295 } →
      Emits d new (t ∷ []) (λ all n. line (names (place_of_text all t)) at ∷ [])
  use_kept room is = record {
    functions = ap (λ (x : Draft). x.functions) is;
    holds = λ all texts lines go h.
        let more = line (names (place_of_text all t)) at in
        let long : length (lines ++ more ∷ []) ≡ length lines + 1 = length-append lines (more ∷ []) in
        subst (λ x. Holds x (with_text texts t) (lines ++ more ∷ [])) (sym is) (record {
          count_is = told_next d.count (length lines) h.count_is ∙ ap told_length (sym long);
          texts_are = λ short. ap (λ x. with_text x t) (h.texts_are (omega (arith, short, long)));
          lines_are = λ short. let s : length lines ≤ INSTRUCTIONS = omega (arith, short, long) in λ i. h.lines_are s i ++ line (names ((ap (λ x. place_of_text x t) (h.texts_are s) ∙ number_stays t texts all go) i)) at ∷ [];
        });
  }

  -- it is counted alone
  pub use_counted : INSTRUCTIONS ≤ length d.lines → new ≡ record d { count = min (d.count + 1) 4294967295 } → Emits d new (t ∷ []) (λ all n. line (names (place_of_text all t)) at ∷ [])
  use_counted full is = record {
    functions = ap (λ (x : Draft). x.functions) is;
    holds = λ all texts lines go h.
        let more = line (names (place_of_text all t)) at in
        let long : length (lines ++ more ∷ []) ≡ length lines + 1 = length-append lines (more ∷ []) in
        let none : length (lines ++ more ∷ []) ≤ INSTRUCTIONS → ⊥ = λ short. let s : length lines ≤ INSTRUCTIONS = omega (arith, short, long) in omega (arith, short, long, full, ap length (h.lines_are s)) in
        subst (λ x. Holds x (with_text texts t) (lines ++ more ∷ [])) (sym is) (record {
          count_is = told_next d.count (length lines) h.count_is ∙ ap told_length (sym long);
          texts_are = λ short. absurd (none short);
          lines_are = λ short. absurd (none short);
        });
  }
