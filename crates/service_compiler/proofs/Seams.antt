-- Jumps in lists of lines, written after what they pass.
use Rattle.std.proofs.Common.{◌≡◌, ℕ, ◌+◌, Bool, true, false, List, [], ◌∷◌, ◌++◌, length, sym, ap, ap₂, ◌∙◌, arith, append_assoc, length-append}
use Rattle.std.specs.Prelude.{slice_set}
use Rattle.std.proofs.Math.Seq.{set-append_seam}
use Rattle.std.proofs.lemmas.List.{append-nil}
use Rattle.wave_base.specs.declared.span.Span.{Span}
use Rattle.service_code.specs.declared.instr.Instr.TheVariants as i
use Rattle.code_scheme.specs.declared.line.Line.{Line}
use Rattle.code_scheme.specs.Scheme.{line, if_code, else_code, while_code}
use Rattle.service_compiler.specs.inner.Fronts.{back_code}

long_after : (base c ca : List Line) → c ≡ base ++ ca → length c ≡ length base + length ca
long_after base c ca e = ap length e ∙ length-append base ca

-- a choice: the test's jump leads behind the first piece and its jump, and that one behind the second piece; both are written last
pub choice_emitted : (base c1 c2 c3 c4 c5 : List Line) (ct : List Line) (ca cb : ℕ → List Line) (x y : Line) (at : Span) (test skip other end : ℕ) → c1 ≡ base ++ ct → test ≡ length c1 → c2 ≡ c1 ++ x ∷ [] → c3 ≡ c2 ++ ca (length c2) → skip ≡ length c3 → c4 ≡ c3 ++ y ∷ [] → other ≡ length c4 → c5 ≡ c4 ++ cb (length c4) → end ≡ length c5 →
    slice_set (slice_set c5 test (line (i.JumpFalse other) at)) skip (line (i.Jump end) at) ≡ base ++ else_code (length base) at ct false (ca (length base + length ct + 1)) (cb (length base + length ct + 1 + length (ca (length base + length ct + 1)) + 1))
choice_emitted base c1 c2 c3 c4 c5 ct ca cb x y at test skip other end e1 m1 e2 e3 m3 e4 m4 e5 m5 =
    let n = length base in
    let l1 = long_after base c1 ct e1 in
    let l2 : length c2 ≡ n + length ct + 1 = omega (arith, ap length e2, length-append c1 (x ∷ []), l1) in
    let a = ca (n + length ct + 1) in
    let e3' : c3 ≡ c2 ++ a = e3 ∙ ap (λ k. c2 ++ ca k) l2 in
    let l3 = long_after c2 c3 a e3' in
    let l4 : length c4 ≡ n + length ct + 1 + length a + 1 = omega (arith, ap length e4, length-append c3 (y ∷ []), l3, l2) in
    let b = cb (n + length ct + 1 + length a + 1) in
    let e5' : c5 ≡ c4 ++ b = e5 ∙ ap (λ k. c4 ++ cb k) l4 in
    let l5 = long_after c4 c5 b e5' in
    let j1 = line (i.JumpFalse other) at in
    let j2 = line (i.Jump end) at in
    let s1 : other ≡ n + length ct + 1 + length a + 1 = m4 ∙ l4 in
    let s2 : end ≡ n + length ct + 1 + length a + 1 + length b = omega (arith, m5, l5, l4) in
    let all : c5 ≡ c1 ++ x ∷ (a ++ y ∷ b) =
    e5' ∙ ap (λ c. c ++ b) (e4 ∙ ap (λ c. c ++ y ∷ []) (e3' ∙ ap (λ c. c ++ a) e2))
    ∙ append_assoc ((c1 ++ x ∷ []) ++ a) (y ∷ []) b
    ∙ append_assoc (c1 ++ x ∷ []) a (y ∷ b)
    ∙ append_assoc c1 (x ∷ []) (a ++ y ∷ b) in
    let k : skip ≡ length (c1 ++ j1 ∷ a) = omega (arith, m3, l3, l2, l1, length-append c1 (j1 ∷ a)) in
    ap (λ c. slice_set c skip j2) (ap₂ (λ c k. slice_set c k j1) all m1 ∙ set-append_seam c1 x (a ++ y ∷ b) j1 ∙ sym (append_assoc c1 (j1 ∷ a) (y ∷ b)))
    ∙ ap (λ k. slice_set ((c1 ++ j1 ∷ a) ++ y ∷ b) k j2) k
    ∙ set-append_seam (c1 ++ j1 ∷ a) y b j2
    ∙ append_assoc c1 (j1 ∷ a) (j2 ∷ b)
    ∙ (λ j. e1 j ++ line (i.JumpFalse (s1 j)) at ∷ (a ++ line (i.Jump (s2 j)) at ∷ b))
    ∙ append_assoc base ct _

-- a choice of one block
pub if_emitted : (base c1 c2 c3 : List Line) (ct : List Line) (ca : ℕ → List Line) (x : Line) (at : Span) (test end : ℕ) → c1 ≡ base ++ ct → test ≡ length c1 → c2 ≡ c1 ++ x ∷ [] → c3 ≡ c2 ++ ca (length c2) → end ≡ length c3 →
    slice_set c3 test (line (i.JumpFalse end) at) ≡ base ++ if_code (length base) at ct (ca (length base + length ct + 1))
if_emitted base c1 c2 c3 ct ca x at test end e1 m1 e2 e3 m3 =
    let n = length base in
    let l1 = long_after base c1 ct e1 in
    let l2 : length c2 ≡ n + length ct + 1 = omega (arith, ap length e2, length-append c1 (x ∷ []), l1) in
    let b = ca (n + length ct + 1) in
    let e3' : c3 ≡ c2 ++ b = e3 ∙ ap (λ k. c2 ++ ca k) l2 in
    let l3 = long_after c2 c3 b e3' in
    let s : end ≡ n + length ct + 1 + length b = omega (arith, m3, l3, l2) in
    let all : c3 ≡ c1 ++ x ∷ b = e3' ∙ ap (λ c. c ++ b) e2 ∙ append_assoc c1 (x ∷ []) b in
    ap₂ (λ c k. slice_set c k (line (i.JumpFalse end) at)) all m1
    ∙ set-append_seam c1 x b (line (i.JumpFalse end) at)
    ∙ (λ j. e1 j ++ line (i.JumpFalse (s j)) at ∷ b)
    ∙ append_assoc base ct _

-- a choice of two blocks, where the first surely ends
pub ended_emitted : (base c1 c2 c3 c4 : List Line) (ct : List Line) (ca cb : ℕ → List Line) (x : Line) (at : Span) (test skip : ℕ) → c1 ≡ base ++ ct → test ≡ length c1 → c2 ≡ c1 ++ x ∷ [] → c3 ≡ c2 ++ ca (length c2) → skip ≡ length c3 → c4 ≡ c3 ++ cb (length c3) →
    slice_set c4 test (line (i.JumpFalse skip) at) ≡ base ++ else_code (length base) at ct true (ca (length base + length ct + 1)) (cb (length base + length ct + 1 + length (ca (length base + length ct + 1))))
ended_emitted base c1 c2 c3 c4 ct ca cb x at test skip e1 m1 e2 e3 m3 e4 =
    let n = length base in
    let l1 = long_after base c1 ct e1 in
    let l2 : length c2 ≡ n + length ct + 1 = omega (arith, ap length e2, length-append c1 (x ∷ []), l1) in
    let a = ca (n + length ct + 1) in
    let e3' : c3 ≡ c2 ++ a = e3 ∙ ap (λ k. c2 ++ ca k) l2 in
    let l3 : length c3 ≡ n + length ct + 1 + length a = omega (arith, long_after c2 c3 a e3', l2) in
    let b = cb (n + length ct + 1 + length a) in
    let e4' : c4 ≡ c3 ++ b = e4 ∙ ap (λ k. c3 ++ cb k) l3 in
    let j1 = line (i.JumpFalse skip) at in
    let s : skip ≡ n + length ct + 1 + length a = m3 ∙ l3 in
    let all : c4 ≡ c1 ++ x ∷ (a ++ b) =
    e4' ∙ ap (λ c. c ++ b) (e3' ∙ ap (λ c. c ++ a) e2)
    ∙ append_assoc (c1 ++ x ∷ []) a b
    ∙ append_assoc c1 (x ∷ []) (a ++ b) in
    ap₂ (λ c k. slice_set c k j1) all m1
    ∙ set-append_seam c1 x (a ++ b) j1
    ∙ (λ j. e1 j ++ line (i.JumpFalse (s j)) at ∷ (a ++ b))
    ∙ append_assoc base ct _

going_emitted : (base c1 c2 c3 c4 c5 : List Line) (ct : List Line) (ca : ℕ → List Line) (x : Line) (at : Span) (start test end : ℕ) → start ≡ length base → c1 ≡ base ++ ct → test ≡ length c1 → c2 ≡ c1 ++ x ∷ [] → c3 ≡ c2 ++ line i.Tick at ∷ [] → c4 ≡ c3 ++ ca (length c3) → c5 ≡ c4 ++ line (i.Jump start) at ∷ [] → end ≡ length c5 →
    slice_set c5 test (line (i.JumpFalse end) at) ≡ base ++ while_code (length base) at ct false (ca (length base + length ct + 1 + 1))
going_emitted base c1 c2 c3 c4 c5 ct ca x at start test end m0 e1 m1 e2 e3 e4 e5 m5 =
    let n = length base in
    let l1 = long_after base c1 ct e1 in
    let l2 : length c2 ≡ n + length ct + 1 = omega (arith, ap length e2, length-append c1 (x ∷ []), l1) in
    let l3 : length c3 ≡ n + length ct + 1 + 1 = omega (arith, ap length e3, length-append c2 (line i.Tick at ∷ []), l2) in
    let a = ca (n + length ct + 1 + 1) in
    let e4' : c4 ≡ c3 ++ a = e4 ∙ ap (λ k. c3 ++ ca k) l3 in
    let l4 = long_after c3 c4 a e4' in
    let back = line (i.Jump start) at in
    let l5 : length c5 ≡ length c4 + 1 = omega (arith, ap length e5, length-append c4 (back ∷ [])) in
    let s : end ≡ n + length ct + 1 + 1 + length a + 1 = omega (arith, m5, l5, l4, l3) in
    let out = line (i.JumpFalse end) at in
    let tail = line i.Tick at ∷ (a ++ back ∷ []) in
    let all : c5 ≡ c1 ++ x ∷ tail =
    e5 ∙ ap (λ c. c ++ back ∷ []) (e4' ∙ ap (λ c. c ++ a) (e3 ∙ ap (λ c. c ++ line i.Tick at ∷ []) e2))
    ∙ append_assoc ((c1 ++ x ∷ []) ++ line i.Tick at ∷ []) a (back ∷ [])
    ∙ append_assoc (c1 ++ x ∷ []) (line i.Tick at ∷ []) (a ++ back ∷ [])
    ∙ append_assoc c1 (x ∷ []) tail in
    ap₂ (λ c k. slice_set c k out) all m1
    ∙ set-append_seam c1 x tail out
    ∙ (λ j. e1 j ++ line (i.JumpFalse (s j)) at ∷ line i.Tick at ∷ (a ++ line (i.Jump (m0 j)) at ∷ []))
    ∙ append_assoc base ct _

-- a loop whose block surely ends
once_emitted : (base c1 c2 c3 c4 : List Line) (ct : List Line) (ca : ℕ → List Line) (x : Line) (at : Span) (test end : ℕ) → c1 ≡ base ++ ct → test ≡ length c1 → c2 ≡ c1 ++ x ∷ [] → c3 ≡ c2 ++ line i.Tick at ∷ [] → c4 ≡ c3 ++ ca (length c3) → end ≡ length c4 →
    slice_set c4 test (line (i.JumpFalse end) at) ≡ base ++ while_code (length base) at ct true (ca (length base + length ct + 1 + 1))
once_emitted base c1 c2 c3 c4 ct ca x at test end e1 m1 e2 e3 e4 m4 =
    let n = length base in
    let l1 = long_after base c1 ct e1 in
    let l2 : length c2 ≡ n + length ct + 1 = omega (arith, ap length e2, length-append c1 (x ∷ []), l1) in
    let l3 : length c3 ≡ n + length ct + 1 + 1 = omega (arith, ap length e3, length-append c2 (line i.Tick at ∷ []), l2) in
    let a = ca (n + length ct + 1 + 1) in
    let e4' : c4 ≡ c3 ++ a = e4 ∙ ap (λ k. c3 ++ ca k) l3 in
    let s : end ≡ n + length ct + 1 + 1 + length a = omega (arith, m4, long_after c3 c4 a e4', l3) in
    let out = line (i.JumpFalse end) at in
    let tail = line i.Tick at ∷ a in
    let all : c4 ≡ c1 ++ x ∷ tail =
    e4' ∙ ap (λ c. c ++ a) (e3 ∙ ap (λ c. c ++ line i.Tick at ∷ []) e2)
    ∙ append_assoc (c1 ++ x ∷ []) (line i.Tick at ∷ []) a
    ∙ append_assoc c1 (x ∷ []) tail in
    ap₂ (λ c k. slice_set c k out) all m1
    ∙ set-append_seam c1 x tail out
    ∙ (λ j. e1 j ++ line (i.JumpFalse (s j)) at ∷ line i.Tick at ∷ a)
    ∙ append_assoc base ct _

pub while_emitted : (base c1 c2 c3 c4 c5 : List Line) (ct : List Line) (ended : Bool) (ca : ℕ → List Line) (x : Line) (at : Span) (start test end : ℕ) → start ≡ length base → c1 ≡ base ++ ct → test ≡ length c1 → c2 ≡ c1 ++ x ∷ [] → c3 ≡ c2 ++ line i.Tick at ∷ [] → c4 ≡ c3 ++ ca (length c3) → c5 ≡ c4 ++ back_code ended start at → end ≡ length c5 →
    slice_set c5 test (line (i.JumpFalse end) at) ≡ base ++ while_code (length base) at ct ended (ca (length base + length ct + 1 + 1))
while_emitted base c1 c2 c3 c4 c5 ct true ca x at start test end m0 e1 m1 e2 e3 e4 e5 m5 =
    let same : c5 ≡ c4 = e5 ∙ append-nil c4 in
    ap (λ c. slice_set c test (line (i.JumpFalse end) at)) same
    ∙ once_emitted base c1 c2 c3 c4 ct ca x at test end e1 m1 e2 e3 e4 (m5 ∙ ap length same)
while_emitted base c1 c2 c3 c4 c5 ct false ca x at start test end m0 e1 m1 e2 e3 e4 e5 m5 = going_emitted base c1 c2 c3 c4 c5 ct ca x at start test end m0 e1 m1 e2 e3 e4 e5 m5
