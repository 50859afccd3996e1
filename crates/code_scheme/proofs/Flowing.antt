-- The kinds at each instruction of the scheme's code: what the verifier asks for is there.
use Rattle.std.proofs.Common.{◌≡◌, ℕ, suc, ◌+◌, ◌<◌, ◌≤◌, ◌&&◌, max, List, [], ◌∷◌, ◌++◌, length, true, false, Option, Some, refl, sym, ap, ◌∙◌, subst, arith, length-append}
use Rattle.std.specs.Prelude.{slice_get, option_to_list, is_some, nat_lt, ◌==◌, Ok}
use Rattle.wave_base.specs.declared.path.Class.{Class}
use Rattle.wave_base.specs.declared.span.Span.{Span}
use Rattle.wave_base.specs.declared.value.Kind.{Kind}
use Rattle.wave_base.specs.declared.value.Kind.TheVariants as k
use Rattle.wave_base.specs.declared.value.Value.{Value}
use Rattle.wave_base.specs.declared.value.Value.TheVariants as v
use Rattle.wave_base.specs.Shapes.{kinds_of_class}
use Rattle.wave_base.specs.Values.{kind_of}
use Rattle.value_ops.specs.Operators.{takes_of}
use Rattle.resolved_service.specs.declared.service.Method.{Method}
use Rattle.resolved_service.specs.View.{Tree, Const, Local, Field, Above, Op, And, Or, Call, Child, Trees, no_trees, tree}
use Rattle.service_code.specs.declared.instr.Instr.TheVariants as i
use Rattle.service_code.specs.declared.program.Function.{Function}
use Rattle.service_code.specs.declared.program.Program.{Program}
use Rattle.service_verify.specs.declared.error.Rule.TheVariants as rule
use Rattle.service_verify.specs.Rules.{judged_item, must, levels_above, operands, an_int, is_method_of, calls, effect_of}
use Rattle.code_scheme.specs.Heights.{one_if, tree_height, trees_height}
use Rattle.code_scheme.specs.Programs.{method_function}
use Rattle.code_scheme.specs.Scheme.{Line, line, gives_in, leaves_value, and_code, or_code, literal_instr, tree_code, trees_code}
use Rattle.code_scheme.specs.Texts.{place_of_text, value_uses, tree_uses, trees_uses}
use Rattle.code_scheme.specs.Typed.{IsLiteral, IsMethod, IsChild, HasKind, HaveKinds}
use Rattle.code_scheme.proofs.Flow.{Flow, flow_none, flow_then, flow_choice, flow_at}
use Rattle.code_scheme.proofs.Places.{StandsAt, stands_front, stands_back}
use Rattle.code_scheme.proofs.Fixed.{pushed_kinds, number_self, below_is, max_left, max_right, pushed_long, operands_left, Among, among_front, among_back, among_one, text_found, pt, line_flow, jump_after, choice_after, tick_flow, bool_flow, int_flow, load_flow, row_flow}

module _ (program : Program) (number : ℕ) (function : Function) (ls : List Line) (methods : List Method)
    (made : (m : ℕ) (method : Method) → slice_get methods m ≡ Some method → slice_get program.functions m ≡ Some (method_function methods program.texts method)) (limit : ℕ) (low : limit ≤ number) where
  own_effect : (class m : ℕ) (result : Option Kind) (is : IsMethod methods class m result) → m < limit → effect_of program number function class (i.Call m) ≡ Ok (record { takes = operands is.method.params ++ []; gives = result })
  unfolding effect_of
  own_effect class m result is lt =
      ap (λ o. judged_item rule.Call o (λ f. must rule.Call (is_method_of program number function class class f && nat_lt m number) (calls program number function class f []))) (made m is.method is.is_there)
      ∙ ap (λ n. must rule.Call ((n == class) && nat_lt m number) (Ok (record { takes = operands is.method.params ++ []; gives = is.method.result }))) is.class_is
      ∙ ap (λ b. must rule.Call (b && nat_lt m number) (Ok (record { takes = operands is.method.params ++ []; gives = is.method.result }))) (number_self class)
      ∙ ap (λ b. must rule.Call b (Ok (record { takes = operands is.method.params ++ []; gives = is.method.result }))) (below_is m number (omega (arith, lt, low)))
      ∙ ap (λ o. Ok (record { takes = operands is.method.params ++ []; gives = o })) is.result_is

  down_effect : (class child m : ℕ) (result : Option Kind) (is : IsMethod methods child m result) → IsChild program.shape class child → effect_of program number function class (i.CallDown (record { 0 = child }) m) ≡ Ok (record { takes = operands is.method.params ++ an_int ∷ []; gives = result })
  unfolding effect_of
  down_effect class child m result is below =
      ap (λ b. must rule.Call b (judged_item rule.Call (slice_get program.functions m) (λ f. must rule.Call (is_method_of program number function class child f) (calls program number function class f (an_int ∷ []))))) below
      ∙ ap (λ o. judged_item rule.Call o (λ f. must rule.Call (is_method_of program number function class child f) (calls program number function class f (an_int ∷ [])))) (made m is.method is.is_there)
      ∙ ap (λ n. must rule.Call (n == child) (Ok (record { takes = operands is.method.params ++ an_int ∷ []; gives = is.method.result }))) is.class_is
      ∙ ap (λ b. must rule.Call b (Ok (record { takes = operands is.method.params ++ an_int ∷ []; gives = is.method.result }))) (number_self child)
      ∙ ap (λ o. Ok (record { takes = operands is.method.params ++ an_int ∷ []; gives = o })) is.result_is

  module _ (c : Class) where
    literal_flow : (x : Value) (kind : Kind) → (kind_of x ≡ kind) × IsLiteral x → Among program.texts (value_uses x) → (pc pc' : ℕ) (at : Span) (s : List Kind) → pc' ≡ pc + 1 → slice_get ls pc ≡ Some (line (literal_instr program.texts x) at) → suc (length s) ≤ function.stack → Flow program number function ls pc pc' (pt c s) (pt c (kind ∷ s))
    unfolding effect_of
    literal_flow (v.Int n) kind typed among pc pc' at s e is h = subst (λ kind. Flow program number function ls pc pc' (pt c s) (pt c (kind ∷ s))) typed.0 (int_flow program number function ls c pc pc' n at s e is h)
    literal_flow (v.Bool b) kind typed among pc pc' at s e is h = subst (λ kind. Flow program number function ls pc pc' (pt c s) (pt c (kind ∷ s))) typed.0 (bool_flow program number function ls c pc pc' b at s e is h)
    literal_flow (v.Str t) kind typed among pc pc' at s e is h =
        subst (λ kind. Flow program number function ls pc pc' (pt c s) (pt c (kind ∷ s))) typed.0
        (line_flow program number function ls c pc pc' (line (i.PushText (place_of_text program.texts t)) at) [] (Some k.Text) s s e is (ap (λ o. judged_item rule.Field o (λ t. Ok (record { takes = []; gives = Some k.Text }))) (text_found program.texts t (among_one program.texts t among))) refl h refl refl (λ n. refl))
    literal_flow (v.Map m) kind typed among pc pc' at s e is h =
        subst (λ kind. Flow program number function ls pc pc' (pt c s) (pt c (kind ∷ s))) typed.0
        (line_flow program number function ls c pc pc' (line i.PushEmpty at) [] (Some k.Map) s s e is refl refl h refl refl (λ n. refl))

    field_flow : (pc pc' x : ℕ) (kind : Kind) (at : Span) (s : List Kind) → pc' ≡ pc + 1 → slice_get ls pc ≡ Some (line (i.Field x) at) → slice_get (kinds_of_class program.shape c.0) x ≡ Some kind → suc (length s) ≤ function.stack → Flow program number function ls pc pc' (pt c s) (pt c (kind ∷ s))
    unfolding effect_of
    field_flow pc pc' x kind at s e is there h = line_flow program number function ls c pc pc' (line (i.Field x) at) [] (Some kind) s s e is (ap (λ o. judged_item rule.Field o (λ kind. Ok (record { takes = []; gives = Some kind }))) there) refl h refl refl (λ n. refl)

    above_flow : (pc pc' level x d : ℕ) (kind : Kind) (at : Span) (s : List Kind) → pc' ≡ pc + 1 → slice_get ls pc ≡ Some (line (i.Above level x) at) → slice_get (levels_above program.shape c.0) level ≡ Some d → slice_get (kinds_of_class program.shape d) x ≡ Some kind → suc (length s) ≤ function.stack → Flow program number function ls pc pc' (pt c s) (pt c (kind ∷ s))
    unfolding effect_of
    above_flow pc pc' level x d kind at s e is up there h =
        line_flow program number function ls c pc pc' (line (i.Above level x) at) [] (Some kind) s s e is
        (ap (λ o. judged_item rule.Field o (λ c. judged_item rule.Field (slice_get (kinds_of_class program.shape c) x) (λ kind. Ok (record { takes = []; gives = Some kind })))) up
        ∙ ap (λ o. judged_item rule.Field o (λ kind. Ok (record { takes = []; gives = Some kind }))) there) refl h refl refl (λ n. refl)

    -- a call's own part, behind its arguments
    pub own_flow : (pc m : ℕ) (result : Option Kind) (at : Span) (s : List Kind) (ca : List Line) (is : IsMethod methods c.0 m result) → m < limit → StandsAt ls pc (ca ++ line i.Tick at ∷ line (i.Call m) at ∷ []) → length is.method.params + length s ≤ function.stack → length (option_to_list result ++ s) ≤ function.stack →
        Flow program number function ls pc (pc + length ca) (pt c s) (pt c (pushed_kinds is.method.params s)) → Flow program number function ls pc (pc + length (ca ++ line i.Tick at ∷ line (i.Call m) at ∷ [])) (pt c s) (pt c (option_to_list result ++ s))
    own_flow pc m result at s ca is lt has h h' args =
        let pa = pc + length ca in
        let tail = stands_back ls pc ca _ has in
        let ks = pushed_kinds is.method.params s in
        flow_then program number function ls pc pa _ (pt c s) (pt c ks) (pt c (option_to_list result ++ s)) args
        (flow_then program number function ls pa (pa + 1) _ (pt c ks) (pt c ks) (pt c (option_to_list result ++ s))
        (tick_flow program number function ls c pa (pa + 1) at ks refl tail.0 (omega (arith, h, pushed_long is.method.params s)))
        (line_flow program number function ls c (pa + 1) _ (line (i.Call m) at) (operands is.method.params ++ []) result ks s (omega (arith, length-append ca (line i.Tick at ∷ line (i.Call m) at ∷ []))) tail.1.0 (own_effect c.0 m result is lt) (operands_left is.method.params [] s) h' refl refl (λ n. refl)))

    pub child_flow : (pc child m : ℕ) (result : Option Kind) (at : Span) (s : List Kind) (ck ca : List Line) (is : IsMethod methods child m result) → IsChild program.shape c.0 child → StandsAt ls pc (ck ++ (ca ++ line i.Tick at ∷ line (i.CallDown (record { 0 = child }) m) at ∷ [])) → length is.method.params + suc (length s) ≤ function.stack → length (option_to_list result ++ s) ≤ function.stack →
        Flow program number function ls pc (pc + length ck) (pt c s) (pt c (k.Int ∷ s)) → Flow program number function ls (pc + length ck) (pc + length ck + length ca) (pt c (k.Int ∷ s)) (pt c (pushed_kinds is.method.params (k.Int ∷ s))) →
        Flow program number function ls pc (pc + length (ck ++ (ca ++ line i.Tick at ∷ line (i.CallDown (record { 0 = child }) m) at ∷ []))) (pt c s) (pt c (option_to_list result ++ s))
    child_flow pc child m result at s ck ca is below has h h' key args =
        let pk = pc + length ck in
        let pa = pk + length ca in
        let rest = line i.Tick at ∷ line (i.CallDown (record { 0 = child }) m) at ∷ [] in
        let tail = stands_back ls pk ca _ (stands_back ls pc ck _ has) in
        let ks = pushed_kinds is.method.params (k.Int ∷ s) in
        flow_then program number function ls pc pk _ (pt c s) (pt c (k.Int ∷ s)) (pt c (option_to_list result ++ s)) key
        (flow_then program number function ls pk pa _ (pt c (k.Int ∷ s)) (pt c ks) (pt c (option_to_list result ++ s)) args
        (flow_then program number function ls pa (pa + 1) _ (pt c ks) (pt c ks) (pt c (option_to_list result ++ s))
        (tick_flow program number function ls c pa (pa + 1) at ks refl tail.0 (omega (arith, h, pushed_long is.method.params (k.Int ∷ s))))
        (line_flow program number function ls c (pa + 1) _ (line (i.CallDown (record { 0 = child }) m) at) (operands is.method.params ++ an_int ∷ []) result ks s (omega (arith, length-append ck (ca ++ rest), length-append ca rest)) tail.1.0 (down_effect c.0 child m result is below) (operands_left is.method.params (an_int ∷ []) (k.Int ∷ s)) h' refl refl (λ n. refl))))

    pub kinds_height : (ts : Trees) (ks : List Kind) → HaveKinds program.shape methods limit function.locals c.0 ts ks → length ks ≤ trees_height methods ts
    kinds_height no_trees [] typed = omega arith
    kinds_height no_trees (kind ∷ ks) typed = absurd typed
    kinds_height (tree t ts) [] typed = absurd typed
    kinds_height (tree t ts) (kind ∷ ks) typed = omega (arith, kinds_height ts ks typed.1, max_right (tree_height methods t) (suc (trees_height methods ts)))

    gives_result : {class m : ℕ} {kind : Kind} → IsMethod methods class m (Some kind) → gives_in (slice_get methods m) ≡ true
    gives_result is = ap gives_in is.is_there ∙ ap is_some is.result_is

    mutual
      pub tree_flow : (e : Tree) (kind : Kind) → HasKind program.shape methods limit function.locals c.0 e kind → Among program.texts (tree_uses e) → (pc : ℕ) (s : List Kind) → length s + tree_height methods e ≤ function.stack → StandsAt ls pc (tree_code methods program.texts pc e) →
          Flow program number function ls pc (pc + length (tree_code methods program.texts pc e)) (pt c s) (pt c (kind ∷ s))
      tree_flow (Const at x) kind typed among pc s h has = literal_flow x kind typed among pc _ at s refl has.0 (omega (arith, h))
      tree_flow (Local at x) kind typed among pc s h has = load_flow program number function ls c pc _ x kind at s refl has.0 typed (omega (arith, h))
      tree_flow (Field at x) kind typed among pc s h has = field_flow pc _ x kind at s refl has.0 typed (omega (arith, h))
      tree_flow (Above at level x) kind typed among pc s h has = above_flow pc _ level x typed.0 kind at s refl has.0 typed.1 typed.2 (omega (arith, h))
      tree_flow (Op at r args) kind typed among pc s h has =
          let ca = trees_code methods program.texts pc args in
          let m = max_left (trees_height methods args) 1 in
          let n = max_right (trees_height methods args) 1 in
          flow_then program number function ls pc (pc + length ca) _ (pt c s) (pt c (pushed_kinds (takes_of r) s)) (pt c (kind ∷ s))
          (trees_flow args (takes_of r) typed.2 among pc s (omega (arith, h, m)) (stands_front ls pc ca _ has))
          (subst (λ kind. Flow program number function ls (pc + length ca) (pc + length (ca ++ line (i.Op r) at ∷ [])) (pt c (pushed_kinds (takes_of r) s)) (pt c (kind ∷ s))) typed.1
          (row_flow program number function ls c (pc + length ca) _ r at s (omega (arith, length-append ca (line (i.Op r) at ∷ []))) (stands_back ls pc ca _ has).0 typed.0 (omega (arith, h, n))))
      tree_flow (And at x y) kind typed among pc s h has =
          let ca = tree_code methods program.texts pc x in
          let pa = pc + length ca in
          let cb = tree_code methods program.texts (pa + 1) y in
          let pb = pa + 1 + length cb in
          let f = pb + 1 in
          let tail = line (i.Jump (f + 1)) at ∷ line (i.PushBool false) at ∷ [] in
          let hb = stands_back ls pc ca (line (i.JumpFalse f) at ∷ (cb ++ tail)) has in
          let ht = stands_back ls (pa + 1) cb tail hb.1 in
          let h0 = max_left (tree_height methods x) (max (tree_height methods y) 1) in
          let h1 = max_right (tree_height methods x) (max (tree_height methods y) 1) in
          let h2 = max_left (tree_height methods y) 1 in
          let h3 = max_right (tree_height methods y) 1 in
          subst (λ kind. Flow program number function ls pc (pc + length (and_code pc at ca cb)) (pt c s) (pt c (kind ∷ s))) typed.0
          (flow_at program number function ls pc (f + 1) _ (pt c s) (pt c (k.Bool ∷ s)) (omega (arith, length-append ca (line (i.JumpFalse f) at ∷ (cb ++ tail)), length-append cb tail))
          (flow_then program number function ls pc pa (f + 1) (pt c s) (pt c (k.Bool ∷ s)) (pt c (k.Bool ∷ s)) (tree_flow x k.Bool typed.1 (among_front program.texts (tree_uses x) (tree_uses y) among) pc s (omega (arith, h, h0)) (stands_front ls pc ca _ has))
          (flow_choice program number function ls pa pb f (f + 1) (pt c (k.Bool ∷ s)) (pt c s) (pt c (k.Bool ∷ s)) _ _ hb.0 refl (choice_after program number function ls c f s (omega (arith, h)))
          (tree_flow y k.Bool typed.2 (among_back program.texts (tree_uses x) (tree_uses y) among) (pa + 1) s (omega (arith, h, h1, h2)) (stands_front ls (pa + 1) cb tail hb.1))
          ht.0 refl (jump_after program number function ls c (f + 1) (k.Bool ∷ s) (omega (arith, h, h1, h3))) refl (bool_flow program number function ls c f (f + 1) false at s refl ht.1.0 (omega (arith, h, h1, h3))))))
      tree_flow (Or at x y) kind typed among pc s h has =
          let ca = tree_code methods program.texts pc x in
          let pa = pc + length ca in
          let f = pa + 3 in
          let cb = tree_code methods program.texts f y in
          let x' = f + length cb in
          let tail = line (i.PushBool true) at ∷ line (i.Jump x') at ∷ cb in
          let hb = stands_back ls pc ca (line (i.JumpFalse f) at ∷ tail) has in
          let e3 : pa + 1 + 1 + 1 ≡ f = omega arith in
          let h0 = max_left (tree_height methods x) (max (tree_height methods y) 1) in
          let h1 = max_right (tree_height methods x) (max (tree_height methods y) 1) in
          let h2 = max_left (tree_height methods y) 1 in
          let h3 = max_right (tree_height methods y) 1 in
          subst (λ kind. Flow program number function ls pc (pc + length (or_code pc at ca cb)) (pt c s) (pt c (kind ∷ s))) typed.0
          (flow_at program number function ls pc x' _ (pt c s) (pt c (k.Bool ∷ s)) (omega (arith, length-append ca (line (i.JumpFalse f) at ∷ tail)))
          (flow_then program number function ls pc pa x' (pt c s) (pt c (k.Bool ∷ s)) (pt c (k.Bool ∷ s)) (tree_flow x k.Bool typed.1 (among_front program.texts (tree_uses x) (tree_uses y) among) pc s (omega (arith, h, h0)) (stands_front ls pc ca _ has))
          (flow_choice program number function ls pa (pa + 1 + 1) f x' (pt c (k.Bool ∷ s)) (pt c s) (pt c (k.Bool ∷ s)) _ _ hb.0 refl (choice_after program number function ls c f s (omega (arith, h)))
          (bool_flow program number function ls c (pa + 1) (pa + 1 + 1) true at s refl hb.1.0 (omega (arith, h, h1, h3)))
          hb.1.1.0 refl (jump_after program number function ls c x' (k.Bool ∷ s) (omega (arith, h, h1, h3))) (sym e3) (tree_flow y k.Bool typed.2 (among_back program.texts (tree_uses x) (tree_uses y) among) f s (omega (arith, h, h1, h2)) (subst (λ n. StandsAt ls n cb) e3 hb.1.1.1)))))
      tree_flow (Call at m args) kind typed among pc s h has =
          let ca = trees_code methods program.texts pc args in
          let is = typed.1.0 in
          let h0 = max_left (trees_height methods args) (one_if (leaves_value methods (Call at m args))) in
          let h1 = max_right (trees_height methods args) (one_if (leaves_value methods (Call at m args))) in
          let one : one_if (leaves_value methods (Call at m args)) ≡ 1 = ap one_if (gives_result is) in
          own_flow pc m (Some kind) at s ca is typed.0 has (omega (arith, h, h0, kinds_height args is.method.params typed.1.1)) (omega (arith, h, h1, one)) (trees_flow args is.method.params typed.1.1 among pc s (omega (arith, h, h0)) (stands_front ls pc ca _ has))
      tree_flow (Child at cls m key args) kind typed among pc s h has =
          let ck = tree_code methods program.texts pc key in
          let pk = pc + length ck in
          let ca = trees_code methods program.texts pk args in
          let is = typed.2.0 in
          let a = tree_height methods key in
          let b = suc (trees_height methods args) in
          let d = one_if (leaves_value methods (Child at cls m key args)) in
          let h0 = max_left a (max b d) in
          let h1 = max_right a (max b d) in
          let h2 = max_left b d in
          let h3 = max_right b d in
          let one : d ≡ 1 = ap one_if (gives_result is) in
          let hk = stands_back ls pc ck _ has in
          child_flow pc cls m (Some kind) at s ck ca is typed.0 has (omega (arith, h, h1, h2, kinds_height args is.method.params typed.2.1)) (omega (arith, h, h1, h3, one))
          (tree_flow key k.Int typed.1 (among_front program.texts (tree_uses key) (trees_uses args) among) pc s (omega (arith, h, h0)) (stands_front ls pc ck _ has))
          (trees_flow args is.method.params typed.2.1 (among_back program.texts (tree_uses key) (trees_uses args) among) pk (k.Int ∷ s) (omega (arith, h, h1, h2)) (stands_front ls pk ca _ hk))

      pub trees_flow : (ts : Trees) (ks : List Kind) → HaveKinds program.shape methods limit function.locals c.0 ts ks → Among program.texts (trees_uses ts) → (pc : ℕ) (s : List Kind) → length s + trees_height methods ts ≤ function.stack → StandsAt ls pc (trees_code methods program.texts pc ts) →
          Flow program number function ls pc (pc + length (trees_code methods program.texts pc ts)) (pt c s) (pt c (pushed_kinds ks s))
      trees_flow no_trees [] typed among pc s h has = flow_none program number function ls pc _ (pt c s) (omega arith)
      trees_flow no_trees (kind ∷ ks) typed among pc s h has = absurd typed
      trees_flow (tree t ts) [] typed among pc s h has = absurd typed
      trees_flow (tree t ts) (kind ∷ ks) typed among pc s h has =
          let ct = tree_code methods program.texts pc t in
          let pt' = pc + length ct in
          let cs = trees_code methods program.texts pt' ts in
          let h0 = max_left (tree_height methods t) (suc (trees_height methods ts)) in
          let h1 = max_right (tree_height methods t) (suc (trees_height methods ts)) in
          flow_at program number function ls pc (pt' + length cs) _ (pt c s) (pt c (pushed_kinds ks (kind ∷ s))) (omega (arith, length-append ct cs))
          (flow_then program number function ls pc pt' (pt' + length cs) (pt c s) (pt c (kind ∷ s)) (pt c (pushed_kinds ks (kind ∷ s)))
          (tree_flow t kind typed.0 (among_front program.texts (tree_uses t) (trees_uses ts) among) pc s (omega (arith, h, h0)) (stands_front ls pc ct cs has))
          (trees_flow ts ks typed.1 (among_back program.texts (tree_uses t) (trees_uses ts) among) pt' (kind ∷ s) (omega (arith, h, h1)) (stands_back ls pc ct cs has)))
