-- Jumps of the code of a program in the making, written after what they pass. Where there are too many lines it is no matter what they are.
use Rattle.std.proofs.Common.{◌≡◌, ℕ, ◌+◌, ◌≤◌, Bool, true, false, List, [], ◌∷◌, ◌++◌, length, refl, sym, ap, subst, ◌∙◌, arith, length-append}
use Rattle.std.specs.Prelude.{slice_set}
use Rattle.std.proofs.lemmas.List.{length-set}
use Rattle.wave_base.specs.declared.limits.TheConstants.{INSTRUCTIONS}
use Rattle.wave_base.specs.declared.span.Span.{Span}
use Rattle.service_code.specs.declared.instr.Instr.TheVariants as i
use Rattle.code_scheme.specs.declared.line.Line.{Line}
use Rattle.code_scheme.specs.Scheme.{line, if_code, else_code, while_code}
use Rattle.code_scheme.specs.Texts.{Text, with_texts}
use Rattle.service_compiler.specs.inner.Drafts.{Draft, Holds, GoOn, Emits, Puts}
use Rattle.service_compiler.specs.inner.Fronts.{back_code}
use Rattle.service_compiler.proofs.Drafts.{with_more, earlier, written_anew}
use Rattle.service_compiler.proofs.Seams.{choice_emitted, if_emitted, ended_emitted, while_emitted}

front_short : (a b : List Line) → length (a ++ b) ≤ INSTRUCTIONS → length a ≤ INSTRUCTIONS
front_short a b h = omega (arith, h, length-append a b)

-- the place of the line that comes next, where lines are kept
place_is : (c : Draft) (texts : List Text) (ls : List Line) (place : ℕ) → Holds c texts ls → place ≡ length c.lines → length ls ≤ INSTRUCTIONS → place ≡ length ls
place_is c texts ls place h at short = at ∙ ap length (h.lines_are short)

-- one jump, over one piece
pub if_emits : {c0 c1 c2 c3 c4 : Draft} {u v : List Text} {ct ca : List Text → ℕ → List Line} {x : Line} (at : Span) (test end : ℕ) →
    Emits c0 c1 u ct → test ≡ length c1.lines → Puts c1 c2 (x ∷ []) → Emits c2 c3 v ca → end ≡ length c3.lines →
    c4 ≡ record c3 { lines = slice_set c3.lines test (line (i.JumpFalse end) at) } →
    Emits c0 c4 (u ++ v) (λ all n. if_code n at (ct all n) (ca all (n + length (ct all n) + 1)))
if_emits {c0} {c1} {c2} {c3} {c4} {u} {v} {ct} {ca} {x} at test end e1 m1 e2 e3 m3 is = record {
  functions = ap (λ (d : Draft). d.functions) is ∙ e3.functions ∙ e2.functions ∙ e1.functions;
  holds = λ all texts lines go h.
      let go3 : GoOn (with_texts (with_texts texts u) v) all = subst (λ t. GoOn t all) (with_more texts u v) go in
      let go1 = earlier (with_texts texts u) v all go3 in
      let p = ct all (length lines) in
      let l1 = lines ++ p in
      let l2 = l1 ++ x ∷ [] in
      let l3 = l2 ++ ca all (length l2) in
      let h1 = e1.holds all texts lines go1 h in
      let h3 = e3.holds all (with_texts texts u) l2 go3 (e2.holds all (with_texts texts u) l1 go1 h1) in
      let due = lines ++ if_code (length lines) at p (ca all (length lines + length p + 1)) in
      let long = sym (ap length (if_emitted lines l1 l2 l3 p (ca all) x at (length l1) (length l3) refl refl refl refl refl)) ∙ length-set l3 (length l1) (line (i.JumpFalse (length l3)) at) in
      subst (λ t. Holds c4 t due) (sym (with_more texts u v))
      (written_anew c3 c4 (with_texts (with_texts texts u) v) l3 (slice_set c3.lines test (line (i.JumpFalse end) at)) due h3 is long (λ short are.
      let short1 = front_short l1 (x ∷ []) (front_short l2 (ca all (length l2)) short) in
      ap (λ ls. slice_set ls test (line (i.JumpFalse end) at)) are
      ∙ if_emitted lines l1 l2 l3 p (ca all) x at test end refl (place_is c1 (with_texts texts u) l1 test h1 m1 short1) refl refl (place_is c3 (with_texts (with_texts texts u) v) l3 end h3 m3 short)));
}

-- one jump, over the first of two pieces
pub ended_emits : {c0 c1 c2 c3 c4 c5 : Draft} {u v w : List Text} {ct ca cb : List Text → ℕ → List Line} {x : Line} (at : Span) (test skip : ℕ) →
    Emits c0 c1 u ct → test ≡ length c1.lines → Puts c1 c2 (x ∷ []) → Emits c2 c3 v ca → skip ≡ length c3.lines → Emits c3 c4 w cb →
    c5 ≡ record c4 { lines = slice_set c4.lines test (line (i.JumpFalse skip) at) } →
    Emits c0 c5 (u ++ v ++ w) (λ all n. else_code n at (ct all n) true (ca all (n + length (ct all n) + 1)) (cb all (n + length (ct all n) + 1 + length (ca all (n + length (ct all n) + 1)))))
ended_emits {c0} {c1} {c2} {c3} {c4} {c5} {u} {v} {w} {ct} {ca} {cb} {x} at test skip e1 m1 e2 e3 m3 e4 is = record {
  functions = ap (λ (d : Draft). d.functions) is ∙ e4.functions ∙ e3.functions ∙ e2.functions ∙ e1.functions;
  holds = λ all texts lines go h.
      let t1 = with_texts texts u in
      let t3 = with_texts t1 v in
      let t4 = with_texts t3 w in
      let same : with_texts texts (u ++ v ++ w) ≡ t4 = with_more texts (u ++ v) w ∙ ap (λ t. with_texts t w) (with_more texts u v) in
      let go4 : GoOn t4 all = subst (λ t. GoOn t all) same go in
      let go3 = earlier t3 w all go4 in
      let go1 = earlier t1 v all go3 in
      let p = ct all (length lines) in
      let l1 = lines ++ p in
      let l2 = l1 ++ x ∷ [] in
      let l3 = l2 ++ ca all (length l2) in
      let l4 = l3 ++ cb all (length l3) in
      let h1 = e1.holds all texts lines go1 h in
      let h3 = e3.holds all t1 l2 go3 (e2.holds all t1 l1 go1 h1) in
      let h4 = e4.holds all t3 l3 go4 h3 in
      let a = ca all (length lines + length p + 1) in
      let due = lines ++ else_code (length lines) at p true a (cb all (length lines + length p + 1 + length a)) in
      let long = sym (ap length (ended_emitted lines l1 l2 l3 l4 p (ca all) (cb all) x at (length l1) (length l3) refl refl refl refl refl refl)) ∙ length-set l4 (length l1) (line (i.JumpFalse (length l3)) at) in
      subst (λ t. Holds c5 t due) (sym same)
      (written_anew c4 c5 t4 l4 (slice_set c4.lines test (line (i.JumpFalse skip) at)) due h4 is long (λ short are.
      let short3 = front_short l3 (cb all (length l3)) short in
      let short1 = front_short l1 (x ∷ []) (front_short l2 (ca all (length l2)) short3) in
      ap (λ ls. slice_set ls test (line (i.JumpFalse skip) at)) are
      ∙ ended_emitted lines l1 l2 l3 l4 p (ca all) (cb all) x at test skip refl (place_is c1 t1 l1 test h1 m1 short1) refl refl (place_is c3 t3 l3 skip h3 m3 short3) refl));
}

-- two jumps, over one piece each
pub choice_emits : {c0 c1 c2 c3 c4 c5 c6 : Draft} {u v w : List Text} {ct ca cb : List Text → ℕ → List Line} {x y : Line} (at : Span) (test skip other end : ℕ) →
    Emits c0 c1 u ct → test ≡ length c1.lines → Puts c1 c2 (x ∷ []) → Emits c2 c3 v ca → skip ≡ length c3.lines → Puts c3 c4 (y ∷ []) → other ≡ length c4.lines → Emits c4 c5 w cb → end ≡ length c5.lines →
    c6 ≡ record c5 { lines = slice_set (slice_set c5.lines test (line (i.JumpFalse other) at)) skip (line (i.Jump end) at) } →
    Emits c0 c6 (u ++ v ++ w) (λ all n. else_code n at (ct all n) false (ca all (n + length (ct all n) + 1)) (cb all (n + length (ct all n) + 1 + length (ca all (n + length (ct all n) + 1)) + 1)))
choice_emits {c0} {c1} {c2} {c3} {c4} {c5} {c6} {u} {v} {w} {ct} {ca} {cb} {x} {y} at test skip other end e1 m1 e2 e3 m3 e4 m4 e5 m5 is = record {
  functions = ap (λ (d : Draft). d.functions) is ∙ e5.functions ∙ e4.functions ∙ e3.functions ∙ e2.functions ∙ e1.functions;
  holds = λ all texts lines go h.
      let t1 = with_texts texts u in
      let t3 = with_texts t1 v in
      let t5 = with_texts t3 w in
      let same : with_texts texts (u ++ v ++ w) ≡ t5 = with_more texts (u ++ v) w ∙ ap (λ t. with_texts t w) (with_more texts u v) in
      let go5 : GoOn t5 all = subst (λ t. GoOn t all) same go in
      let go3 = earlier t3 w all go5 in
      let go1 = earlier t1 v all go3 in
      let p = ct all (length lines) in
      let l1 = lines ++ p in
      let l2 = l1 ++ x ∷ [] in
      let l3 = l2 ++ ca all (length l2) in
      let l4 = l3 ++ y ∷ [] in
      let l5 = l4 ++ cb all (length l4) in
      let h1 = e1.holds all texts lines go1 h in
      let h3 = e3.holds all t1 l2 go3 (e2.holds all t1 l1 go1 h1) in
      let h4 = e4.holds all t3 l3 go3 h3 in
      let h5 = e5.holds all t3 l4 go5 h4 in
      let a = ca all (length lines + length p + 1) in
      let due = lines ++ else_code (length lines) at p false a (cb all (length lines + length p + 1 + length a + 1)) in
      let anew = λ (ls : List Line) (test skip other end : ℕ). slice_set (slice_set ls test (line (i.JumpFalse other) at)) skip (line (i.Jump end) at) in
      let first = slice_set l5 (length l1) (line (i.JumpFalse (length l4)) at) in
      let long = sym (ap length (choice_emitted lines l1 l2 l3 l4 l5 p (ca all) (cb all) x y at (length l1) (length l3) (length l4) (length l5) refl refl refl refl refl refl refl refl refl))
      ∙ length-set first (length l3) (line (i.Jump (length l5)) at) ∙ length-set l5 (length l1) (line (i.JumpFalse (length l4)) at) in
      subst (λ t. Holds c6 t due) (sym same)
      (written_anew c5 c6 t5 l5 (anew c5.lines test skip other end) due h5 is long (λ short are.
      let short4 = front_short l4 (cb all (length l4)) short in
      let short3 = front_short l3 (y ∷ []) short4 in
      let short1 = front_short l1 (x ∷ []) (front_short l2 (ca all (length l2)) short3) in
      ap (λ ls. anew ls test skip other end) are
      ∙ choice_emitted lines l1 l2 l3 l4 l5 p (ca all) (cb all) x y at test skip other end
      refl (place_is c1 t1 l1 test h1 m1 short1) refl refl (place_is c3 t3 l3 skip h3 m3 short3) refl (place_is c4 t3 l4 other h4 m4 short4) refl (place_is c5 t5 l5 end h5 m5 short)));
}

back_long : (ended : Bool) (a b : ℕ) (at : Span) → length (back_code ended a at) ≡ length (back_code ended b at)
back_long true a b at = refl
back_long false a b at = refl

-- a loop: its test's jump leads behind the way back
pub while_emits : {c0 c1 c2 c3 c4 c5 c6 : Draft} {u v : List Text} {ct ca : List Text → ℕ → List Line} {x : Line} (ended : Bool) (at : Span) (start test end : ℕ) →
    start ≡ length c0.lines → Emits c0 c1 u ct → test ≡ length c1.lines → Puts c1 c2 (x ∷ []) → Puts c2 c3 (line i.Tick at ∷ []) → Emits c3 c4 v ca → Puts c4 c5 (back_code ended start at) → end ≡ length c5.lines →
    c6 ≡ record c5 { lines = slice_set c5.lines test (line (i.JumpFalse end) at) } →
    Emits c0 c6 (u ++ v) (λ all n. while_code n at (ct all n) ended (ca all (n + length (ct all n) + 1 + 1)))
while_emits {c0} {c1} {c2} {c3} {c4} {c5} {c6} {u} {v} {ct} {ca} {x} ended at start test end m0 e1 m1 e2 e3 e4 e5 m5 is = record {
  functions = ap (λ (d : Draft). d.functions) is ∙ e5.functions ∙ e4.functions ∙ e3.functions ∙ e2.functions ∙ e1.functions;
  holds = λ all texts lines go h.
      let t1 = with_texts texts u in
      let t4 = with_texts t1 v in
      let go4 : GoOn t4 all = subst (λ t. GoOn t all) (with_more texts u v) go in
      let go1 = earlier t1 v all go4 in
      let p = ct all (length lines) in
      let l1 = lines ++ p in
      let l2 = l1 ++ x ∷ [] in
      let l3 = l2 ++ line i.Tick at ∷ [] in
      let l4 = l3 ++ ca all (length l3) in
      let l5 = λ (start : ℕ). l4 ++ back_code ended start at in
      let h1 = e1.holds all texts lines go1 h in
      let h4 = e4.holds all t1 l3 go4 (e3.holds all t1 l2 go1 (e2.holds all t1 l1 go1 h1)) in
      let h5 = e5.holds all t4 l4 go4 h4 in
      let due = lines ++ while_code (length lines) at p ended (ca all (length lines + length p + 1 + 1)) in
      let right = l5 (length lines) in
      let same : length right ≡ length (l5 start) = length-append l4 (back_code ended (length lines) at) ∙ ap (λ k. length l4 + k) (back_long ended (length lines) start at) ∙ sym (length-append l4 (back_code ended start at)) in
      let long = sym (ap length (while_emitted lines l1 l2 l3 l4 right p ended (ca all) x at (length lines) (length l1) (length right) refl refl refl refl refl refl refl refl))
      ∙ length-set right (length l1) (line (i.JumpFalse (length right)) at) ∙ same in
      subst (λ t. Holds c6 t due) (sym (with_more texts u v))
      (written_anew c5 c6 t4 (l5 start) (slice_set c5.lines test (line (i.JumpFalse end) at)) due h5 is long (λ short are.
      let short4 = front_short l4 (back_code ended start at) short in
      let short1 = front_short l1 (x ∷ []) (front_short l2 (line i.Tick at ∷ []) (front_short l3 (ca all (length l3)) short4)) in
      ap (λ ls. slice_set ls test (line (i.JumpFalse end) at)) are
      ∙ while_emitted lines l1 l2 l3 l4 (l5 start) p ended (ca all) x at start test end
      (place_is c0 texts lines start h m0 (front_short lines p short1)) refl (place_is c1 t1 l1 test h1 m1 short1) refl refl refl refl (place_is c5 t4 (l5 start) end h5 m5 short)));
}
