-- The kinds at each instruction of statements and functions.
use Rattle.std.proofs.Common.{◌≡◌, ℕ, suc, ◌+◌, ◌<◌, ◌≤◌, ◌⊎◌, inl, inr, max, pos, List, [], ◌∷◌, ◌++◌, length, map, Bool, true, false, not, Option, Some, None, refl, sym, ap, ◌∙◌, subst, arith, length-append}
use Rattle.std.specs.Prelude.{slice_get, is_some, is_none, option_to_list, Ok}
use Rattle.std.specs.List.{list_any}
use Rattle.wave_base.specs.declared.operators.TheConstants.{OPERATORS}
use Rattle.wave_base.specs.declared.path.Class.{Class}
use Rattle.wave_base.specs.declared.shape.EventInfo.{EventInfo}
use Rattle.wave_base.specs.declared.span.Span.{Span}
use Rattle.wave_base.specs.declared.value.Kind.{Kind}
use Rattle.wave_base.specs.declared.value.Kind.TheVariants as k
use Rattle.wave_base.specs.Names.{same_bytes}
use Rattle.wave_base.specs.Shapes.{kinds_of_class}
use Rattle.value_ops.specs.Operators.{takes_of, gives_of}
use Rattle.resolved_service.specs.declared.service.Method.{Method}
use Rattle.resolved_service.specs.Meaning.{row_add, row_lt}
use Rattle.resolved_service.specs.Steps.{Step, SetLocal, SetField, PutLocal, PutField, CutLocal, CutField, If, While, For, Require, Send, Spawn, Do, Return, Finish, Steps, no_steps, step, no_else, otherwise, is_end, surely_ends}
use Rattle.resolved_service.specs.View.{Tree, Const, Local, Field, Above, Op, And, Or, Call, Child}
use Rattle.service_code.specs.declared.instr.Instr.TheVariants as i
use Rattle.service_code.specs.declared.program.Function.{Function}
use Rattle.service_code.specs.declared.program.Program.{Program}
use Rattle.service_verify.specs.declared.error.Rule.TheVariants as rule
use Rattle.service_verify.specs.declared.point.Point.{Point}
use Rattle.service_verify.specs.Rules.{judged_item, must, operands, any, an_int, a_bool, effect_of, left_below, ends, class_after, next_of}
use Rattle.code_scheme.specs.Heights.{one_if, tree_height, trees_height, maybe_height, step_height, steps_height}
use Rattle.code_scheme.specs.Programs.{method_function}
use Rattle.code_scheme.specs.Scheme.{Line, line, gives_in, leaves_value, pop_code, finish_instr, behind, while_code, test_code, turn_code, loop_at, block_at, tree_code, trees_code, two_code, maybe_code, step_code, steps_code}
use Rattle.code_scheme.specs.Texts.{Text, place_of_text, tree_uses, trees_uses, maybe_uses, step_uses, steps_uses}
use Rattle.code_scheme.specs.Typed.{Within, InMethod, InEvent, NoneBehind, IsMethod, HasKind, IsSilent, IsTypedReturn, IsTypedFinish, IsTypedStep, AreTyped}
use Rattle.code_scheme.proofs.Choosing.{while_flow, if_flow, else_flow}
use Rattle.code_scheme.proofs.Flow.{Flow, flow_none, flow_then, flow_at}
use Rattle.code_scheme.proofs.Places.{StandsAt, stands_front, stands_back, while_lines, else_lines, turn_lines}
use Rattle.code_scheme.proofs.Shutting.{Shut, Runs, shut_line, flow_shut, flow_runs, runs_at}
use Rattle.service_verify.specs.Rules.{takes_for_map, takes_only}
use Rattle.code_scheme.proofs.Fixed.{pushed_kinds, kind_self, max_left, max_right, operands_only, Among, among_front, among_back, among_one, text_found, takes_two, gives_two, pt, after_end, line_flow, int_flow, load_flow, store_flow, row_flow}
use Rattle.code_scheme.proofs.Flowing.{own_flow, child_flow, kinds_height, tree_flow, trees_flow}

-- a function of this kind
abbrev pub IsIn : Within → Function → Type 0
IsIn (InMethod result) f = (f.is_event ≡ false) × (f.result ≡ result)
IsIn (InEvent reply) f = (f.is_event ≡ true) × (f.result ≡ reply)

module _ (program : Program) (number : ℕ) (function : Function) (ls : List Line) (methods : List Method)
    (made : (m : ℕ) (method : Method) → slice_get methods m ≡ Some method → slice_get program.functions m ≡ Some (method_function methods program.texts method)) (limit : ℕ) (low : limit ≤ number) where
  module _ (c : Class) where
    -- a value, and an instruction that takes it
    use_flow : (e : Tree) (kind : Kind) → HasKind program.shape methods limit function.locals c.0 e kind → Among program.texts (tree_uses e) → (pc : ℕ) (l : Line) (takes : List (Option Kind)) → tree_height methods e ≤ function.stack → StandsAt ls pc (tree_code methods program.texts pc e ++ l ∷ []) →
        effect_of program number function c.0 l.instr ≡ Ok (record { takes = takes; gives = None }) → left_below takes (kind ∷ []) ≡ Ok [] → ends l.instr ≡ false → class_after l.instr c ≡ c → ((n : ℕ) → next_of l.instr n ≡ suc n ∷ []) →
        Flow program number function ls pc (pc + length (tree_code methods program.texts pc e ++ l ∷ [])) (pt c []) (pt c [])
    use_flow e kind typed among pc l takes h has effect left no_end class next =
        let ce = tree_code methods program.texts pc e in
        flow_then program number function ls pc (pc + length ce) _ (pt c []) (pt c (kind ∷ [])) (pt c [])
        (tree_flow program number function ls methods made limit low c e kind typed among pc [] (omega (arith, h)) (stands_front ls pc ce _ has))
        (line_flow program number function ls c (pc + length ce) _ l takes None (kind ∷ []) [] (omega (arith, length-append ce (l ∷ []))) (stands_back ls pc ce _ has).0 effect left (omega arith) no_end class next)

    two_flow : (e e' : Tree) → HasKind program.shape methods limit function.locals c.0 e k.Int → HasKind program.shape methods limit function.locals c.0 e' k.Int → Among program.texts (tree_uses e ++ tree_uses e') → (pc : ℕ) (l : Line) → max (tree_height methods e) (suc (tree_height methods e')) ≤ function.stack → StandsAt ls pc (two_code methods program.texts pc e e' l) →
        effect_of program number function c.0 l.instr ≡ Ok (record { takes = an_int ∷ an_int ∷ []; gives = None }) → ends l.instr ≡ false → class_after l.instr c ≡ c → ((n : ℕ) → next_of l.instr n ≡ suc n ∷ []) →
        Flow program number function ls pc (pc + length (two_code methods program.texts pc e e' l)) (pt c []) (pt c [])
    two_flow e e' typed typed' among pc l h has effect no_end class next =
        let ce = tree_code methods program.texts pc e in
        let pe = pc + length ce in
        let ce' = tree_code methods program.texts pe e' in
        let hb = stands_back ls pc ce _ has in
        let h0 = max_left (tree_height methods e) (suc (tree_height methods e')) in
        let h1 = max_right (tree_height methods e) (suc (tree_height methods e')) in
        flow_then program number function ls pc pe _ (pt c []) (pt c (k.Int ∷ [])) (pt c [])
        (tree_flow program number function ls methods made limit low c e k.Int typed (among_front program.texts (tree_uses e) (tree_uses e') among) pc [] (omega (arith, h, h0)) (stands_front ls pc ce _ has))
        (flow_then program number function ls pe (pe + length ce') _ (pt c (k.Int ∷ [])) (pt c (k.Int ∷ k.Int ∷ [])) (pt c [])
        (tree_flow program number function ls methods made limit low c e' k.Int typed' (among_back program.texts (tree_uses e) (tree_uses e') among) pe (k.Int ∷ []) (omega (arith, h, h1)) (stands_front ls pe ce' _ hb))
        (line_flow program number function ls c (pe + length ce') _ l (an_int ∷ an_int ∷ []) None (k.Int ∷ k.Int ∷ []) [] (omega (arith, length-append ce (ce' ++ l ∷ []), length-append ce' (l ∷ []))) (stands_back ls pe ce' _ hb).0 effect refl (omega arith) no_end class next))

    same_left : (kind : Kind) → left_below (Some kind ∷ []) (kind ∷ []) ≡ Ok []
    same_left kind = ap (λ b. must rule.Kind b (Ok [])) (kind_self kind)

    -- a value, and an instruction that ends the function with it
    pub value_shut : (e : Tree) (kind : Kind) → HasKind program.shape methods limit function.locals c.0 e kind → Among program.texts (tree_uses e) → (pc : ℕ) (l : Line) → tree_height methods e ≤ function.stack → StandsAt ls pc (tree_code methods program.texts pc e ++ l ∷ []) →
        effect_of program number function c.0 l.instr ≡ Ok (record { takes = Some kind ∷ []; gives = None }) → ((n : ℕ) → next_of l.instr n ≡ []) → Shut program number function ls pc (pc + length (tree_code methods program.texts pc e ++ l ∷ [])) (pt c [])
    value_shut e kind typed among pc l h has effect none =
        let ce = tree_code methods program.texts pc e in
        flow_shut program number function ls pc (pc + length ce) _ (pt c []) (pt c (kind ∷ [])) (tree_flow program number function ls methods made limit low c e kind typed among pc [] (omega (arith, h)) (stands_front ls pc ce _ has))
        (shut_line program number function ls (pc + length ce) _ (pt c (kind ∷ [])) _ l (omega (arith, length-append ce (l ∷ []))) (stands_back ls pc ce _ has).0 none (after_end program number function c l.instr (Some kind ∷ []) (kind ∷ []) effect (same_left kind)))

    -- an instruction that ends the function without one
    pub line_shut : (pc : ℕ) (l : Line) → slice_get ls pc ≡ Some l → effect_of program number function c.0 l.instr ≡ Ok (record { takes = []; gives = None }) → ((n : ℕ) → next_of l.instr n ≡ []) → Shut program number function ls pc (pc + 1) (pt c [])
    line_shut pc l is effect none = shut_line program number function ls pc (pc + 1) (pt c []) _ l refl is none (after_end program number function c l.instr [] [] effect refl)

    pub return_effect : function.is_event ≡ false → (result : Option Kind) → function.result ≡ result → effect_of program number function c.0 i.Return ≡ Ok (record { takes = map (λ k. Some k) (option_to_list result); gives = None })
    unfolding effect_of
    return_effect no_event result is = ap (λ b. must rule.Call (not b) (takes_only (map (λ k. Some k) (option_to_list function.result)))) no_event ∙ ap (λ o. takes_only (map (λ k. Some k) (option_to_list o))) is

    pub reply_effect : function.is_event ≡ true → (kind : Kind) → function.result ≡ Some kind → effect_of program number function c.0 i.Reply ≡ Ok (record { takes = Some kind ∷ []; gives = None })
    unfolding effect_of
    reply_effect event kind is = ap (λ b. must rule.Call b (judged_item rule.Kind function.result (λ kind. takes_only (Some kind ∷ [])))) event ∙ ap (λ o. judged_item rule.Kind o (λ kind. takes_only (Some kind ∷ []))) is

    pub end_effect : function.is_event ≡ true → function.result ≡ None → effect_of program number function c.0 i.End ≡ Ok (record { takes = []; gives = None })
    unfolding effect_of
    end_effect event is = ap (λ b. must rule.Call b (must rule.Kind (is_none function.result) (takes_only []))) event ∙ ap (λ o. must rule.Kind (is_none o) (takes_only [])) is

    return_flow : (w : Within) → IsIn w function → (e : Option Tree) → IsTypedReturn program.shape methods limit function.locals c.0 w e → Among program.texts (maybe_uses e) → (pc : ℕ) (at : Span) → maybe_height methods e ≤ function.stack → StandsAt ls pc (maybe_code methods program.texts pc e ++ line i.Return at ∷ []) →
        Shut program number function ls pc (pc + length (maybe_code methods program.texts pc e ++ line i.Return at ∷ [])) (pt c [])
    return_flow (InMethod None) is None typed among pc at h has = line_shut pc (line i.Return at) has.0 (return_effect is.0 None is.1) (λ n. refl)
    return_flow (InMethod None) is (Some e) typed among pc at h has = absurd typed
    return_flow (InMethod (Some kind)) is None typed among pc at h has = absurd typed
    return_flow (InMethod (Some kind)) is (Some e) typed among pc at h has = value_shut e kind typed among pc (line i.Return at) h has (return_effect is.0 (Some kind) is.1) (λ n. refl)
    return_flow (InEvent reply) is e typed among pc at h has = absurd typed

    finish_flow : (w : Within) → IsIn w function → (e : Option Tree) → IsTypedFinish program.shape methods limit function.locals c.0 w e → Among program.texts (maybe_uses e) → (pc : ℕ) (at : Span) → maybe_height methods e ≤ function.stack → StandsAt ls pc (maybe_code methods program.texts pc e ++ line (finish_instr e) at ∷ []) →
        Shut program number function ls pc (pc + length (maybe_code methods program.texts pc e ++ line (finish_instr e) at ∷ [])) (pt c [])
    finish_flow (InMethod result) is e typed among pc at h has = absurd typed
    finish_flow (InEvent None) is None typed among pc at h has = line_shut pc (line i.End at) has.0 (end_effect is.0 is.1) (λ n. refl)
    finish_flow (InEvent None) is (Some e) typed among pc at h has = absurd typed
    finish_flow (InEvent (Some kind)) is None typed among pc at h has = absurd typed
    finish_flow (InEvent (Some kind)) is (Some e) typed among pc at h has = value_shut e kind typed among pc (line i.Reply at) h has (reply_effect is.0 kind is.1) (λ n. refl)

    store_effect : (x : ℕ) (kind : Kind) → slice_get function.locals x ≡ Some kind → effect_of program number function c.0 (i.Store x) ≡ Ok (record { takes = Some kind ∷ []; gives = None })
    unfolding effect_of
    store_effect x kind there = ap (λ o. judged_item rule.Field o (λ kind. Ok (record { takes = Some kind ∷ []; gives = None }))) there

    set_effect : (x : ℕ) (kind : Kind) → slice_get (kinds_of_class program.shape c.0) x ≡ Some kind → effect_of program number function c.0 (i.SetField x) ≡ Ok (record { takes = Some kind ∷ []; gives = None })
    unfolding effect_of
    set_effect x kind there = ap (λ o. judged_item rule.Field o (λ kind. Ok (record { takes = Some kind ∷ []; gives = None }))) there

    put_local_effect : (x : ℕ) → slice_get function.locals x ≡ Some k.Map → effect_of program number function c.0 (i.PutLocal x) ≡ Ok (record { takes = an_int ∷ an_int ∷ []; gives = None })
    unfolding effect_of
    put_local_effect x there = ap (λ o. judged_item rule.Field o (takes_for_map (an_int ∷ an_int ∷ []))) there

    put_field_effect : (x : ℕ) → slice_get (kinds_of_class program.shape c.0) x ≡ Some k.Map → effect_of program number function c.0 (i.PutField x) ≡ Ok (record { takes = an_int ∷ an_int ∷ []; gives = None })
    unfolding effect_of
    put_field_effect x there = ap (λ o. judged_item rule.Field o (takes_for_map (an_int ∷ an_int ∷ []))) there

    cut_local_effect : (x : ℕ) → slice_get function.locals x ≡ Some k.Map → effect_of program number function c.0 (i.CutLocal x) ≡ Ok (record { takes = an_int ∷ []; gives = None })
    unfolding effect_of
    cut_local_effect x there = ap (λ o. judged_item rule.Field o (takes_for_map (an_int ∷ []))) there

    cut_field_effect : (x : ℕ) → slice_get (kinds_of_class program.shape c.0) x ≡ Some k.Map → effect_of program number function c.0 (i.CutField x) ≡ Ok (record { takes = an_int ∷ []; gives = None })
    unfolding effect_of
    cut_field_effect x there = ap (λ o. judged_item rule.Field o (takes_for_map (an_int ∷ []))) there

    require_effect : effect_of program number function c.0 i.Require ≡ Ok (record { takes = a_bool ∷ []; gives = None })
    unfolding effect_of
    require_effect = refl

    pop_effect : effect_of program number function c.0 i.Pop ≡ Ok (record { takes = any ∷ []; gives = None })
    unfolding effect_of
    pop_effect = refl

    send_effect : (t : Text) → list_any (same_bytes t) program.texts ≡ true → effect_of program number function c.0 (i.Send (place_of_text program.texts t)) ≡ Ok (record { takes = any ∷ []; gives = None })
    unfolding effect_of
    send_effect t h = ap (λ o. judged_item rule.Field o (λ t. Ok (record { takes = any ∷ []; gives = None }))) (text_found program.texts t h)

    spawn_effect : (event : ℕ) (info : EventInfo) → slice_get program.shape.events event ≡ Some info → effect_of program number function c.0 (i.Spawn event) ≡ Ok (record { takes = operands info.params; gives = None })
    unfolding effect_of
    spawn_effect event info there = ap (λ o. judged_item rule.Call o (λ (e : EventInfo). Ok (record { takes = operands e.params; gives = None }))) there

    gives_some : {class m : ℕ} {result : Option Kind} → IsMethod methods class m result → gives_in (slice_get methods m) ≡ is_some result
    gives_some is = ap gives_in is.is_there ∙ ap is_some is.result_is

    leaves_true : (e : Tree) (kind : Kind) → HasKind program.shape methods limit function.locals c.0 e kind → leaves_value methods e ≡ true
    leaves_true (Const at x) kind typed = refl
    leaves_true (Local at x) kind typed = refl
    leaves_true (Field at x) kind typed = refl
    leaves_true (Above at l x) kind typed = refl
    leaves_true (Op at r args) kind typed = refl
    leaves_true (And at x y) kind typed = refl
    leaves_true (Or at x y) kind typed = refl
    leaves_true (Call at m args) kind typed = gives_some typed.1.0
    leaves_true (Child at cls m key args) kind typed = gives_some typed.2.0

    do_flow : (e : Tree) (at : Span) → ((kind : Kind) × HasKind program.shape methods limit function.locals c.0 e kind) ⊎ IsSilent program.shape methods limit function.locals c.0 e → Among program.texts (tree_uses e) → (pc : ℕ) → tree_height methods e ≤ function.stack → StandsAt ls pc (tree_code methods program.texts pc e ++ pop_code (leaves_value methods e) at) →
        Flow program number function ls pc (pc + length (tree_code methods program.texts pc e ++ pop_code (leaves_value methods e) at)) (pt c []) (pt c [])
    do_flow e at (inl (kind, typed)) among pc h has =
        subst (λ b. Flow program number function ls pc (pc + length (tree_code methods program.texts pc e ++ pop_code b at)) (pt c []) (pt c [])) (sym (leaves_true e kind typed))
        (use_flow e kind typed among pc (line i.Pop at) (any ∷ []) h (subst (λ b. StandsAt ls pc (tree_code methods program.texts pc e ++ pop_code b at)) (leaves_true e kind typed) has) pop_effect refl refl refl (λ n. refl))
    do_flow (Call at' m args) at (inr silent) among pc h has =
        let ca = trees_code methods program.texts pc args in
        let code = ca ++ line i.Tick at' ∷ line (i.Call m) at' ∷ [] in
        let is = silent.1.0 in
        let h0 = max_left (trees_height methods args) (one_if (leaves_value methods (Call at' m args))) in
        let hc = stands_front ls pc code _ has in
        subst (λ b. Flow program number function ls pc (pc + length (code ++ pop_code b at)) (pt c []) (pt c [])) (sym (gives_some is))
        (flow_at program number function ls pc (pc + length code) _ (pt c []) (pt c []) (omega (arith, length-append code []))
        (own_flow program number function ls methods made limit low c pc m None at' [] ca is silent.0 hc (omega (arith, h, h0, kinds_height program number function ls methods made limit low c args is.method.params silent.1.1)) (omega arith)
        (trees_flow program number function ls methods made limit low c args is.method.params silent.1.1 among pc [] (omega (arith, h, h0)) (stands_front ls pc ca _ hc))))
    do_flow (Child at' cls m key args) at (inr silent) among pc h has =
        let ck = tree_code methods program.texts pc key in
        let pk = pc + length ck in
        let ca = trees_code methods program.texts pk args in
        let code = ck ++ (ca ++ line i.Tick at' ∷ line (i.CallDown (record { 0 = cls }) m) at' ∷ []) in
        let is = silent.2.0 in
        let a = tree_height methods key in
        let b = suc (trees_height methods args) in
        let d = one_if (leaves_value methods (Child at' cls m key args)) in
        let h0 = max_left a (max b d) in
        let h1 = max_right a (max b d) in
        let h2 = max_left b d in
        let hc = stands_front ls pc code _ has in
        subst (λ b. Flow program number function ls pc (pc + length (code ++ pop_code b at)) (pt c []) (pt c [])) (sym (gives_some is))
        (flow_at program number function ls pc (pc + length code) _ (pt c []) (pt c []) (omega (arith, length-append code []))
        (child_flow program number function ls methods made limit low c pc cls m None at' [] ck ca is silent.0 hc (omega (arith, h, h1, h2, kinds_height program number function ls methods made limit low c args is.method.params silent.2.1)) (omega arith)
        (tree_flow program number function ls methods made limit low c key k.Int silent.1 (among_front program.texts (tree_uses key) (trees_uses args) among) pc [] (omega (arith, h, h0)) (stands_front ls pc ck _ hc))
        (trees_flow program number function ls methods made limit low c args is.method.params silent.2.1 (among_back program.texts (tree_uses key) (trees_uses args) among) pk (k.Int ∷ []) (omega (arith, h, h1, h2)) (stands_front ls pk ca _ (stands_back ls pc ck _ hc)))))
    do_flow (Const at' x) at (inr silent) among pc h has = absurd silent
    do_flow (Local at' x) at (inr silent) among pc h has = absurd silent
    do_flow (Field at' x) at (inr silent) among pc h has = absurd silent
    do_flow (Above at' l x) at (inr silent) among pc h has = absurd silent
    do_flow (Op at' r args) at (inr silent) among pc h has = absurd silent
    do_flow (And at' x y) at (inr silent) among pc h has = absurd silent
    do_flow (Or at' x y) at (inr silent) among pc h has = absurd silent

    for_flow : (pc : ℕ) (at : Span) (counter : ℕ) (cf ct : List Line) (b : Bool) (cb : List Line) → slice_get function.locals counter ≡ Some k.Int → slice_get function.locals (counter + 1) ≡ Some k.Int → slice_get function.locals (counter + 2) ≡ Some k.Int → 2 ≤ function.stack →
        StandsAt ls pc (cf ++ line (i.Store counter) at ∷ (ct ++ line (i.Store (counter + 1)) at ∷ while_code (loop_at pc (length cf) (length ct)) at (test_code counter at) b (turn_code counter at b cb))) →
        Flow program number function ls pc (pc + length cf) (pt c []) (pt c (k.Int ∷ [])) → Flow program number function ls (pc + length cf + 1) (pc + length cf + 1 + length ct) (pt c []) (pt c (k.Int ∷ [])) → Runs program number function ls b (block_at (loop_at pc (length cf) (length ct))) (block_at (loop_at pc (length cf) (length ct)) + length cb) (pt c []) (pt c []) →
        Flow program number function ls pc (pc + length (cf ++ line (i.Store counter) at ∷ (ct ++ line (i.Store (counter + 1)) at ∷ while_code (loop_at pc (length cf) (length ct)) at (test_code counter at) b (turn_code counter at b cb)))) (pt c []) (pt c [])
    for_flow pc at counter cf ct b cb slot0 slot1 slot2 two has x y z =
        flow_at program number function ls pc (m + length loop) _ p0 p0 (omega (arith, length-append cf (line (i.Store counter) at ∷ (ct ++ line (i.Store (counter + 1)) at ∷ loop)), length-append ct (line (i.Store (counter + 1)) at ∷ loop)))
        (flow_then program number function ls pc (pc + length cf) _ p0 p1 p0 x
        (flow_then program number function ls (pc + length cf) pf _ p1 p0 p0 (store_flow program number function ls c (pc + length cf) pf counter k.Int at [] refl l0.0 slot0 (omega arith))
        (flow_then program number function ls pf (pf + length ct) _ p0 p1 p0 y
        (flow_then program number function ls (pf + length ct) m _ p1 p0 p0 (store_flow program number function ls c (pf + length ct) m (counter + 1) k.Int at [] refl l1.0 slot1 (omega arith))
        (while_flow program number function ls c m at test b turn l1.1 tests (turns b z stands.1))))))
      where
        p0 : Point
        p0 = pt c []

        p1 : Point
        p1 = pt c (k.Int ∷ [])

        pf : ℕ
        pf = pc + length cf + 1

        m : ℕ
        m = pf + length ct + 1

        test : List Line
        test = test_code counter at

        turn : List Line
        turn = turn_code counter at b cb

        loop : List Line
        loop = while_code m at test b turn

        last : List Line
        last = line (i.Load counter) at ∷ line (i.PushInt (pos 1)) at ∷ line (i.Op row_add) at ∷ line (i.Store counter) at ∷ []

        b0 : ℕ
        b0 = m + 3 + 1 + 1

        l0 : StandsAt ls (pc + length cf) (line (i.Store counter) at ∷ (ct ++ line (i.Store (counter + 1)) at ∷ loop))
        l0 = stands_back ls pc cf _ has

        l1 : StandsAt ls (pf + length ct) (line (i.Store (counter + 1)) at ∷ loop)
        l1 = stands_back ls pf ct _ l0.1

        stands : StandsAt ls m test × StandsAt ls (m + 3 + 1 + 1) turn
        stands = while_lines ls m at test b turn l1.1

        lt : StandsAt ls m test
        lt = stands.0

        row_at : (pc' pc'' r : ℕ) (kind : Kind) → takes_of r ≡ k.Int ∷ k.Int ∷ [] → gives_of r ≡ kind → r < OPERATORS → pc'' ≡ pc' + 1 → slice_get ls pc' ≡ Some (line (i.Op r) at) → Flow program number function ls pc' pc'' (pt c (k.Int ∷ k.Int ∷ [])) (pt c (kind ∷ []))
        row_at pc' pc'' r kind takes gives row e is = subst (λ kind. Flow program number function ls pc' pc'' (pt c (k.Int ∷ k.Int ∷ [])) (pt c (kind ∷ []))) gives (subst (λ ks. Flow program number function ls pc' pc'' (pt c (pushed_kinds ks [])) (pt c (gives_of r ∷ []))) takes (row_flow program number function ls c pc' pc'' r at [] e is row (omega (arith, two))))

        tests : Flow program number function ls m (m + 3) p0 (pt c (k.Bool ∷ []))
        tests =
            flow_then program number function ls m (m + 1) (m + 3) p0 p1 (pt c (k.Bool ∷ [])) (load_flow program number function ls c m (m + 1) counter k.Int at [] refl lt.0 slot0 (omega (arith, two)))
            (flow_then program number function ls (m + 1) (m + 1 + 1) (m + 3) p1 (pt c (k.Int ∷ k.Int ∷ [])) (pt c (k.Bool ∷ [])) (load_flow program number function ls c (m + 1) (m + 1 + 1) (counter + 1) k.Int at (k.Int ∷ []) refl lt.1.0 slot1 (omega (arith, two)))
            (row_at (m + 1 + 1) (m + 3) row_lt k.Bool takes_two.0 gives_two.0 (omega arith) (omega arith) lt.1.1.0))

        turns : (b : Bool) → Runs program number function ls b (b0 + 1 + 1) (b0 + 1 + 1 + length cb) p0 p0 → StandsAt ls b0 (turn_code counter at b cb) → Runs program number function ls b b0 (b0 + length (turn_code counter at b cb)) p0 p0
        turns true z lb =
            runs_at program number function ls true b0 (b0 + 1 + 1 + length cb) _ p0 p0 (omega arith)
            (flow_shut program number function ls b0 (b0 + 1) _ p0 p1 (load_flow program number function ls c b0 (b0 + 1) counter k.Int at [] refl lb.0 slot0 (omega (arith, two)))
            (flow_shut program number function ls (b0 + 1) (b0 + 1 + 1) _ p1 p0 (store_flow program number function ls c (b0 + 1) (b0 + 1 + 1) (counter + 2) k.Int at [] refl lb.1.0 slot2 (omega arith)) z))
        turns false z lb =
            let e0 = b0 + 1 + 1 + length cb in
            let le = stands_back ls (b0 + 1 + 1) cb last lb.1.1 in
            flow_at program number function ls b0 (e0 + 1 + 1 + 1 + 1) _ p0 p0 (omega (arith, length-append cb last))
            (flow_then program number function ls b0 (b0 + 1) _ p0 p1 p0 (load_flow program number function ls c b0 (b0 + 1) counter k.Int at [] refl lb.0 slot0 (omega (arith, two)))
            (flow_then program number function ls (b0 + 1) (b0 + 1 + 1) _ p1 p0 p0 (store_flow program number function ls c (b0 + 1) (b0 + 1 + 1) (counter + 2) k.Int at [] refl lb.1.0 slot2 (omega arith))
            (flow_then program number function ls (b0 + 1 + 1) e0 _ p0 p0 p0 z
            (flow_then program number function ls e0 (e0 + 1) _ p0 p1 p0 (load_flow program number function ls c e0 (e0 + 1) counter k.Int at [] refl le.0 slot0 (omega (arith, two)))
            (flow_then program number function ls (e0 + 1) (e0 + 1 + 1) _ p1 (pt c (k.Int ∷ k.Int ∷ [])) p0 (int_flow program number function ls c (e0 + 1) (e0 + 1 + 1) (pos 1) at (k.Int ∷ []) refl le.1.0 (omega (arith, two)))
            (flow_then program number function ls (e0 + 1 + 1) (e0 + 1 + 1 + 1) _ (pt c (k.Int ∷ k.Int ∷ [])) p1 p0 (row_at (e0 + 1 + 1) (e0 + 1 + 1 + 1) row_add k.Int takes_two.1 gives_two.1 (omega arith) refl le.1.1.0)
            (store_flow program number function ls c (e0 + 1 + 1 + 1) (e0 + 1 + 1 + 1 + 1) counter k.Int at [] refl le.1.1.1.0 slot0 (omega arith))))))))

    module _ (w : Within) (is_in : IsIn w function) where
      mutual
        pub step_flow : (x : Step) → IsTypedStep program.shape methods limit function.locals c.0 w x → Among program.texts (step_uses x) → (pc : ℕ) → step_height methods x ≤ function.stack → StandsAt ls pc (step_code methods program.texts pc x) →
            Runs program number function ls (is_end x) pc (pc + length (step_code methods program.texts pc x)) (pt c []) (pt c [])
        step_flow (SetLocal at x e) typed among pc h has = use_flow e typed.0 typed.2 among pc (line (i.Store x) at) (Some typed.0 ∷ []) h has (store_effect x typed.0 typed.1) (same_left typed.0) refl refl (λ n. refl)
        step_flow (SetField at x e) typed among pc h has = use_flow e typed.0 typed.2 among pc (line (i.SetField x) at) (Some typed.0 ∷ []) h has (set_effect x typed.0 typed.1) (same_left typed.0) refl refl (λ n. refl)
        step_flow (PutLocal at x key e) typed among pc h has = two_flow key e typed.1 typed.2 among pc (line (i.PutLocal x) at) h has (put_local_effect x typed.0) refl refl (λ n. refl)
        step_flow (PutField at x key e) typed among pc h has = two_flow key e typed.1 typed.2 among pc (line (i.PutField x) at) h has (put_field_effect x typed.0) refl refl (λ n. refl)
        step_flow (CutLocal at x key) typed among pc h has = use_flow key k.Int typed.1 among pc (line (i.CutLocal x) at) (an_int ∷ []) h has (cut_local_effect x typed.0) refl refl refl (λ n. refl)
        step_flow (CutField at x key) typed among pc h has = use_flow key k.Int typed.1 among pc (line (i.CutField x) at) (an_int ∷ []) h has (cut_field_effect x typed.0) refl refl refl (λ n. refl)
        step_flow (If at test body no_else) typed among pc h has =
            let ct = tree_code methods program.texts pc test in
            let ca = steps_code methods program.texts (pc + length ct + 1) body in
            let l0 = stands_back ls pc ct _ has in
            let am = among_front program.texts (tree_uses test ++ steps_uses body) [] among in
            let h0 = max_left (tree_height methods test) (max (steps_height methods body) 0) in
            let h1 = max_right (tree_height methods test) (max (steps_height methods body) 0) in
            let h2 = max_left (steps_height methods body) 0 in
            if_flow program number function ls c pc at ct ca (surely_ends body) has
            (tree_flow program number function ls methods made limit low c test k.Bool typed.0 (among_front program.texts (tree_uses test) (steps_uses body) am) pc [] (omega (arith, h, h0)) (stands_front ls pc ct _ has))
            (steps_flow body typed.1 (among_back program.texts (tree_uses test) (steps_uses body) am) (pc + length ct + 1) (omega (arith, h, h1, h2)) l0.1)
        step_flow (If at test body (otherwise ss)) typed among pc h has =
            let ct = tree_code methods program.texts pc test in
            let ca = steps_code methods program.texts (pc + length ct + 1) body in
            let a = surely_ends body in
            let f = behind a (pc + length ct + 1 + length ca) in
            let cb = steps_code methods program.texts f ss in
            let l = else_lines ls pc at ct a ca cb has in
            let am = among_front program.texts (tree_uses test ++ steps_uses body) (steps_uses ss) among in
            let h0 = max_left (tree_height methods test) (max (steps_height methods body) (steps_height methods ss)) in
            let h1 = max_right (tree_height methods test) (max (steps_height methods body) (steps_height methods ss)) in
            let h2 = max_left (steps_height methods body) (steps_height methods ss) in
            let h3 = max_right (steps_height methods body) (steps_height methods ss) in
            else_flow program number function ls c pc at ct a (surely_ends ss) ca cb has
            (tree_flow program number function ls methods made limit low c test k.Bool typed.0 (among_front program.texts (tree_uses test) (steps_uses body) am) pc [] (omega (arith, h, h0)) l.0)
            (steps_flow body typed.1 (among_back program.texts (tree_uses test) (steps_uses body) am) (pc + length ct + 1) (omega (arith, h, h1, h2)) l.1)
            (steps_flow ss typed.2 (among_back program.texts (tree_uses test ++ steps_uses body) (steps_uses ss) among) f (omega (arith, h, h1, h3)) l.2)
        step_flow (While at test body) typed among pc h has =
            let ct = tree_code methods program.texts pc test in
            let pb = pc + length ct + 1 + 1 in
            let ca = steps_code methods program.texts pb body in
            let l = while_lines ls pc at ct (surely_ends body) ca has in
            let h0 = max_left (tree_height methods test) (steps_height methods body) in
            let h1 = max_right (tree_height methods test) (steps_height methods body) in
            while_flow program number function ls c pc at ct (surely_ends body) ca has (tree_flow program number function ls methods made limit low c test k.Bool typed.0 (among_front program.texts (tree_uses test) (steps_uses body) among) pc [] (omega (arith, h, h0)) l.0)
            (steps_flow body typed.1 (among_back program.texts (tree_uses test) (steps_uses body) among) pb (omega (arith, h, h1)) l.1)
        step_flow (For at counter from to body) typed among pc h has =
            let cf = tree_code methods program.texts pc from in
            let pf = pc + length cf + 1 in
            let ct = tree_code methods program.texts pf to in
            let m = loop_at pc (length cf) (length ct) in
            let e = surely_ends body in
            let cb = steps_code methods program.texts (block_at m) body in
            let l0 = stands_back ls pc cf _ has in
            let l1 = stands_back ls pf ct _ l0.1 in
            let lw = while_lines ls m at (test_code counter at) e (turn_code counter at e cb) l1.1 in
            let b = steps_height methods body in
            let t = tree_height methods to in
            let f = tree_height methods from in
            let h0 = max_left f (max t (max 2 b)) in
            let h1 = max_right f (max t (max 2 b)) in
            let h2 = max_left t (max 2 b) in
            let h3 = max_right t (max 2 b) in
            let h4 = max_left 2 b in
            let h5 = max_right 2 b in
            let am = among_front program.texts (tree_uses from ++ tree_uses to) (steps_uses body) among in
            for_flow pc at counter cf ct e cb typed.0 typed.1 typed.2 (omega (arith, h, h1, h3, h4)) has
            (tree_flow program number function ls methods made limit low c from k.Int typed.3 (among_front program.texts (tree_uses from) (tree_uses to) am) pc [] (omega (arith, h, h0)) (stands_front ls pc cf _ has))
            (tree_flow program number function ls methods made limit low c to k.Int typed.4 (among_back program.texts (tree_uses from) (tree_uses to) am) pf [] (omega (arith, h, h1, h2)) (stands_front ls pf ct _ l0.1))
            (steps_flow body typed.5 (among_back program.texts (tree_uses from ++ tree_uses to) (steps_uses body) among) (block_at m) (omega (arith, h, h1, h3, h5)) (turn_lines ls (m + 3 + 1 + 1) at counter e cb lw.1))
        step_flow (Require at e) typed among pc h has = use_flow e k.Bool typed among pc (line i.Require at) (a_bool ∷ []) h has require_effect refl refl refl (λ n. refl)
        step_flow (Send at label e) typed among pc h has =
            use_flow e typed.0 typed.1 (among_front program.texts (tree_uses e) (label ∷ []) among) pc (line (i.Send (place_of_text program.texts label)) at) (any ∷ []) h has
            (send_effect label (among_one program.texts label (among_back program.texts (tree_uses e) (label ∷ []) among))) refl refl refl (λ n. refl)
        step_flow (Spawn at event args) typed among pc h has =
            let ca = trees_code methods program.texts pc args in
            let ks = pushed_kinds typed.0.params [] in
            flow_then program number function ls pc (pc + length ca) _ (pt c []) (pt c ks) (pt c []) (trees_flow program number function ls methods made limit low c args typed.0.params typed.2 among pc [] (omega (arith, h)) (stands_front ls pc ca _ has))
            (line_flow program number function ls c (pc + length ca) _ (line (i.Spawn event) at) (operands typed.0.params) None ks [] (omega (arith, length-append ca (line (i.Spawn event) at ∷ []))) (stands_back ls pc ca _ has).0 (spawn_effect event typed.0 typed.1) (operands_only typed.0.params []) (omega arith) refl refl (λ n. refl))
        step_flow (Do at e) typed among pc h has = do_flow e at typed among pc h has
        step_flow (Return at e) typed among pc h has = return_flow w is_in e typed among pc at h has
        step_flow (Finish at e) typed among pc h has = finish_flow w is_in e typed among pc at h has

        pub steps_flow : (ss : Steps) → AreTyped program.shape methods limit function.locals c.0 w ss → Among program.texts (steps_uses ss) → (pc : ℕ) → steps_height methods ss ≤ function.stack → StandsAt ls pc (steps_code methods program.texts pc ss) →
            Runs program number function ls (surely_ends ss) pc (pc + length (steps_code methods program.texts pc ss)) (pt c []) (pt c [])
        steps_flow no_steps typed among pc h has = flow_none program number function ls pc _ (pt c []) (omega arith)
        steps_flow (step x no_steps) typed among pc h has =
            let cx = step_code methods program.texts pc x in
            let h0 = max_left (step_height methods x) 0 in
            runs_at program number function ls (is_end x) pc (pc + length cx) _ (pt c []) (pt c []) (omega (arith, length-append cx []))
            (step_flow x typed.0 (among_front program.texts (step_uses x) [] among) pc (omega (arith, h, h0)) (stands_front ls pc cx [] has))
        steps_flow (step x (step y ss)) typed among pc h has =
            let cx = step_code methods program.texts pc x in
            let px = pc + length cx in
            let cs = steps_code methods program.texts px (step y ss) in
            let h0 = max_left (step_height methods x) (steps_height methods (step y ss)) in
            let h1 = max_right (step_height methods x) (steps_height methods (step y ss)) in
            runs_at program number function ls (surely_ends (step y ss)) pc (px + length cs) _ (pt c []) (pt c []) (omega (arith, length-append cx cs))
            (flow_runs program number function ls (surely_ends (step y ss)) pc px (px + length cs) (pt c []) (pt c []) (pt c [])
            (goes_on (is_end x) typed.2 (step_flow x typed.0 (among_front program.texts (step_uses x) (steps_uses (step y ss)) among) pc (omega (arith, h, h0)) (stands_front ls pc cx cs has)))
            (steps_flow (step y ss) typed.1 (among_back program.texts (step_uses x) (steps_uses (step y ss)) among) px (omega (arith, h, h1)) (stands_back ls pc cx cs has)))
          where
            goes_on : (b : Bool) → NoneBehind b (step y ss) → Runs program number function ls b pc (pc + length (step_code methods program.texts pc x)) (pt c []) (pt c []) → Flow program number function ls pc (pc + length (step_code methods program.texts pc x)) (pt c []) (pt c [])
            goes_on true none r = absurd none
            goes_on false none r = r
