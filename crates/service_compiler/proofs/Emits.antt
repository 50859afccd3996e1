-- Trees, statements and phases, one after the other; and what leads a statement's operands to it.
use Rattle.std.proofs.Common.{◌≡◌, ℕ, ◌+◌, ◌<◌, false, true, List, [], ◌∷◌, ◌++◌, length, map, take, get_or, refl, sym, ap, subst, ◌∙◌, arith, append_assoc, length-append}
use Rattle.std.proofs.lemmas.List.{append-nil}
use Rattle.wave_base.specs.declared.span.Span.{Span}
use Rattle.wave_base.specs.declared.value.Value.{Value}
use Rattle.resolved_service.specs.declared.expr.Expr.{Expr}
use Rattle.resolved_service.specs.declared.service.Method.{Method}
use Rattle.resolved_service.specs.declared.service.Phase.{Phase}
use Rattle.resolved_service.specs.declared.stmt.Stmt.{Stmt}
use Rattle.resolved_service.specs.Steps.{Step, PutLocal, PutField, Send, For, Steps, step_of, steps_in}
use Rattle.resolved_service.specs.View.{Tree, tree_of, trees_of}
use Rattle.service_code.specs.declared.instr.Instr.TheVariants as i
use Rattle.code_scheme.specs.declared.line.Line.{Line}
use Rattle.code_scheme.specs.Scheme.{line, literal_instr, and_code, or_code, else_code, loop_at, tree_code, trees_code, two_code, step_code, steps_code}
use Rattle.code_scheme.specs.Texts.{Text, place_of_text, value_uses, tree_uses, trees_uses, step_uses, steps_uses, phases_uses}
use Rattle.service_compiler.specs.inner.Drafts.{Draft, Emits, Puts, EmitsTree, EmitsTrees, EmitsStep, EmitsSteps}
use Rattle.service_compiler.specs.inner.Fronts.{phase_code, phases_front, loop_code}
use Rattle.service_compiler.specs.inner.Operands.{both_code, operands_code, operands_uses}
use Rattle.service_compiler.proofs.Drafts.{emits_then, emits_same, emits_put, none_then}
use Rattle.service_compiler.proofs.Notes.{item_more, uses_next}

-- ---- the same tree, said otherwise

pub tree_is : (methods : List Method) {c0 c1 : Draft} {s t : Tree} → s ≡ t → EmitsTree methods c0 c1 t → EmitsTree methods c0 c1 s
tree_is methods {c0} {c1} is e = subst (EmitsTree methods c0 c1) (sym is) e

pub step_is : (methods : List Method) {c0 c1 : Draft} {s t : Step} → s ≡ t → EmitsStep methods c0 c1 t → EmitsStep methods c0 c1 s
step_is methods {c0} {c1} is e = subst (EmitsStep methods c0 c1) (sym is) e

pub literal_is : {c0 c1 : Draft} {v w : Value} (at : Span) → v ≡ w → Emits c0 c1 (value_uses w) (λ all n. line (literal_instr all w) at ∷ []) → Emits c0 c1 (value_uses v) (λ all n. line (literal_instr all v) at ∷ [])
literal_is {c0} {c1} at is e = subst (λ v. Emits c0 c1 (value_uses v) (λ all n. line (literal_instr all v) at ∷ [])) (sym is) e

-- ---- the code of items, one after the other

module _ {A : Type 0} (one : ℕ → A → List Line) (all : ℕ → List A → List Line) (none : (n : ℕ) → all n [] ≡ []) (more : (n : ℕ) (x : A) (xs : List A) → all n (x ∷ xs) ≡ one n x ++ all (n + length (one n x)) xs) where
  code_push : (xs : List A) (x : A) (n : ℕ) → all n (xs ++ x ∷ []) ≡ all n xs ++ one (n + length (all n xs)) x
  code_push [] x n =
      let e : n ≡ n + length (all n []) = omega (arith, ap length (none n)) in
      more n x [] ∙ ap (λ l. one n x ++ l) (none (n + length (one n x))) ∙ append-nil (one n x)
      ∙ ap (λ m. one m x) e ∙ ap (λ l. l ++ one (n + length (all n [])) x) (sym (none n))
  code_push (y ∷ xs) x n =
      let cy = one n y in
      let cs = all (n + length cy) xs in
      let e : n + length cy + length cs ≡ n + length (all n (y ∷ xs)) = omega (arith, ap length (more n y xs), length-append cy cs) in
      more n y (xs ++ x ∷ [])
      ∙ ap (λ l. cy ++ l) (code_push xs x (n + length cy))
      ∙ sym (append_assoc cy cs (one (n + length cy + length cs) x))
      ∙ (λ j. sym (more n y xs) j ++ one (e j) x)

  pub code_next : (xs : List A) (k : ℕ) (x : A) → k < length xs → x ≡ get_or xs k x → (n : ℕ) → all n (take k xs) ++ one (n + length (all n (take k xs))) x ≡ all n (take (k + 1) xs)
  code_next xs k x lt at n = sym (code_push (take k xs) x n) ∙ ap (all n) (sym (item_more xs k x lt at))

module _ (methods : List Method) {c0 c1 c2 : Draft} where
  pub exprs_next : (xs : List Expr) (k : ℕ) (x : Expr) → k < length xs → x ≡ get_or xs k x →
      EmitsTrees methods c0 c1 (trees_of (map tree_of (take k xs))) → EmitsTree methods c1 c2 (tree_of x) → EmitsTrees methods c0 c2 (trees_of (map tree_of (take (k + 1) xs)))
  exprs_next xs k x lt at a b =
      emits_same (uses_next (λ e. tree_uses (tree_of e)) (λ es. trees_uses (trees_of (map tree_of es))) refl (λ y ys. refl) xs k x lt at)
      (λ all. code_next (λ n e. tree_code methods all n (tree_of e)) (λ n es. trees_code methods all n (trees_of (map tree_of es))) (λ n. refl) (λ n y ys. refl) xs k x lt at)
      (emits_then a b)

  pub stmts_next : (xs : List Stmt) (k : ℕ) (x : Stmt) → k < length xs → x ≡ get_or xs k x →
      EmitsSteps methods c0 c1 (steps_in (take k xs)) → EmitsStep methods c1 c2 (step_of x) → EmitsSteps methods c0 c2 (steps_in (take (k + 1) xs))
  stmts_next xs k x lt at a b =
      emits_same (uses_next (λ s. step_uses (step_of s)) (λ ss. steps_uses (steps_in ss)) refl (λ y ys. refl) xs k x lt at)
      (λ all. code_next (λ n s. step_code methods all n (step_of s)) (λ n ss. steps_code methods all n (steps_in ss)) (λ n. refl) (λ n y ys. refl) xs k x lt at)
      (emits_then a b)

  pub phases_next : (xs : List Phase) (k : ℕ) (x : Phase) → k < length xs → x ≡ get_or xs k x →
      Emits c0 c1 (phases_uses (take k xs)) (λ all n. phases_front methods all n (take k xs)) → Emits c1 c2 (tree_uses (tree_of x.key) ++ steps_uses (steps_in x.body)) (λ all n. phase_code methods all n x) →
      Emits c0 c2 (phases_uses (take (k + 1) xs)) (λ all n. phases_front methods all n (take (k + 1) xs))
  phases_next xs k x lt at a b =
      emits_same (uses_next (λ (f : Phase). tree_uses (tree_of f.key) ++ steps_uses (steps_in f.body)) phases_uses refl (λ y ys. refl) xs k x lt at)
      (λ all. code_next (phase_code methods all) (phases_front methods all) (λ n. refl) (λ n y ys. refl) xs k x lt at)
      (emits_then a b)

-- ---- `&&` and `||` are choices

pub and_choice : (n : ℕ) (at : Span) (ca cb : List Line) → else_code n at ca false cb (line (i.PushBool false) at ∷ []) ≡ and_code n at ca cb
and_choice n at ca cb = refl

pub or_choice : (n : ℕ) (at : Span) (ca : List Line) (cb : ℕ → List Line) → else_code n at ca false (line (i.PushBool true) at ∷ []) (cb (n + length ca + 1 + 1 + 1)) ≡ or_code n at ca (cb (n + length ca + 3))
or_choice n at ca cb =
    let e : n + length ca + 1 + 1 + 1 ≡ n + length ca + 3 = omega arith in
    ap (λ k. ca ++ line (i.JumpFalse k) at ∷ line (i.PushBool true) at ∷ line (i.Jump (k + length (cb k))) at ∷ cb k) e

-- ---- a statement behind its operands

module _ (methods : List Method) {c0 c1 c2 : Draft} where
  -- lines take them
  pub put_step : {s t : Step} {ls : List Line} → s ≡ t → Emits c0 c1 (operands_uses s) (λ all n. operands_code methods all n s) → Puts c1 c2 ls →
      operands_uses t ≡ step_uses t → ((all : List Text) (n : ℕ) → operands_code methods all n t ++ ls ≡ step_code methods all n t) → EmitsStep methods c0 c2 s
  put_step {s} {t} is a b uses code =
      step_is methods is (emits_same uses code (emits_put (subst (λ x. Emits c0 c1 (operands_uses x) (λ all n. operands_code methods all n x)) is a) b))

  put_two : {s t : Step} {l : Line} (k e : Tree) → s ≡ t → Emits c0 c1 (operands_uses s) (λ all n. operands_code methods all n s) → Puts c1 c2 (l ∷ []) →
      operands_uses t ≡ step_uses t → ((all : List Text) (n : ℕ) → operands_code methods all n t ≡ both_code methods all n k e) → ((all : List Text) (n : ℕ) → two_code methods all n k e l ≡ step_code methods all n t) → EmitsStep methods c0 c2 s
  put_two {s} {t} {l} k e is a b uses both two =
      put_step is a b uses (λ all n.
      let ck = tree_code methods all n k in
      ap (λ ls. ls ++ l ∷ []) (both all n) ∙ append_assoc ck (tree_code methods all (n + length ck) e) (l ∷ []) ∙ two all n)

  pub put_local : {s : Step} {at : Span} {slot : ℕ} {k e : Tree} → s ≡ PutLocal at slot k e → Emits c0 c1 (operands_uses s) (λ all n. operands_code methods all n s) → Puts c1 c2 (line (i.PutLocal slot) at ∷ []) → EmitsStep methods c0 c2 s
  put_local {s} {at} {slot} {k} {e} is a b = put_two k e is a b refl (λ all n. refl) (λ all n. refl)

  pub put_field : {s : Step} {at : Span} {field : ℕ} {k e : Tree} → s ≡ PutField at field k e → Emits c0 c1 (operands_uses s) (λ all n. operands_code methods all n s) → Puts c1 c2 (line (i.PutField field) at ∷ []) → EmitsStep methods c0 c2 s
  put_field {s} {at} {field} {k} {e} is a b = put_two k e is a b refl (λ all n. refl) (λ all n. refl)

  -- it has them among its jumps
  pub whole_step : {s t : Step} → s ≡ t → Emits c0 c1 (operands_uses s) (λ all n. operands_code methods all n s) → operands_uses t ≡ [] → ((all : List Text) (n : ℕ) → operands_code methods all n t ≡ []) →
      EmitsStep methods c1 c2 t → EmitsStep methods c0 c2 s
  whole_step {s} {t} is a none empty b =
      step_is methods is (none_then (emits_same none empty (subst (λ x. Emits c0 c1 (operands_uses x) (λ all n. operands_code methods all n x)) is a)) b)

  -- a text is sent
  pub send_step : {s : Step} {at : Span} {label : Text} {e : Tree} → s ≡ Send at label e → Emits c0 c1 (operands_uses s) (λ all n. operands_code methods all n s) →
      Emits c1 c2 (label ∷ []) (λ all n. line (i.Send (place_of_text all label)) at ∷ []) → EmitsStep methods c0 c2 s
  send_step {s} is a b = step_is methods is (emits_then (subst (λ x. Emits c0 c1 (operands_uses x) (λ all n. operands_code methods all n x)) is a) b)

  -- a loop over numbers turns
  pub for_step : {s : Step} {at : Span} {counter : ℕ} {from to : Tree} {body : Steps} → s ≡ For at counter from to body → Emits c0 c1 (operands_uses s) (λ all n. operands_code methods all n s) →
      Emits c1 c2 (steps_uses body) (λ all n. loop_code methods all n counter at body) → EmitsStep methods c0 c2 s
  for_step {s} {at} {counter} {from} {to} {body} is a b =
      step_is methods is
      (emits_same refl (λ all n. for_code (tree_code methods all n from) (tree_code methods all (n + length (tree_code methods all n from) + 1) to) (line (i.Store counter) at) (line (i.Store (counter + 1)) at) n (λ k. loop_code methods all k counter at body))
      (emits_then (subst (λ x. Emits c0 c1 (operands_uses x) (λ all n. operands_code methods all n x)) is a) b))
    where
      for_code : (first bound : List Line) (l m : Line) (n : ℕ) (loop : ℕ → List Line) →
          (first ++ l ∷ (bound ++ m ∷ [])) ++ loop (n + length (first ++ l ∷ (bound ++ m ∷ []))) ≡ first ++ l ∷ (bound ++ m ∷ loop (loop_at n (length first) (length bound)))
      for_code first bound l m n loop =
          let k = loop_at n (length first) (length bound) in
          let e : n + length (first ++ l ∷ (bound ++ m ∷ [])) ≡ k = omega (arith, length-append first (l ∷ (bound ++ m ∷ [])), length-append bound (m ∷ [])) in
          ap (λ k. (first ++ l ∷ (bound ++ m ∷ [])) ++ loop k) e
          ∙ append_assoc first (l ∷ (bound ++ m ∷ [])) (loop k)
          ∙ ap (λ x. first ++ l ∷ x) (append_assoc bound (m ∷ []) (loop k))
