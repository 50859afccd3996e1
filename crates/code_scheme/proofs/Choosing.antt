-- The kinds at each instruction of loops and choices.
use Rattle.std.proofs.Common.{◌≡◌, ℕ, ◌+◌, List, [], ◌∷◌, ◌++◌, length, Bool, true, false, ◌&&◌, Some, refl, arith, length-append}
use Rattle.std.specs.Prelude.{slice_get}
use Rattle.wave_base.specs.declared.path.Class.{Class}
use Rattle.wave_base.specs.declared.span.Span.{Span}
use Rattle.wave_base.specs.declared.value.Kind.TheVariants as k
use Rattle.service_code.specs.declared.instr.Instr.TheVariants as i
use Rattle.service_code.specs.declared.program.Function.{Function}
use Rattle.service_code.specs.declared.program.Program.{Program}
use Rattle.code_scheme.specs.Scheme.{Line, line, if_code, behind, else_code, while_code}
use Rattle.code_scheme.proofs.Flow.{Flow, flow_none, flow_then, flow_choice, flow_skip, flow_loop, flow_at}
use Rattle.code_scheme.proofs.Places.{StandsAt, stands_back}
use Rattle.code_scheme.proofs.Shutting.{Runs, flow_shut, shut_flow, shut_both, flow_past, flow_runs, runs_at}
use Rattle.code_scheme.proofs.Fixed.{pt, jump_after, choice_after, tick_flow}

module _ (program : Program) (number : ℕ) (function : Function) (ls : List Line) (c : Class) where
  pub while_flow : (pc : ℕ) (at : Span) (ct : List Line) (b : Bool) (ca : List Line) → StandsAt ls pc (while_code pc at ct b ca) → Flow program number function ls pc (pc + length ct) (pt c []) (pt c (k.Bool ∷ [])) → Runs program number function ls b (pc + length ct + 1 + 1) (pc + length ct + 1 + 1 + length ca) (pt c []) (pt c []) →
      Flow program number function ls pc (pc + length (while_code pc at ct b ca)) (pt c []) (pt c [])
  while_flow pc at ct true ca has test body =
      let pt' = pc + length ct in
      let x = pt' + 1 + 1 + length ca in
      let l0 = stands_back ls pc ct _ has in
      flow_at program number function ls pc x _ (pt c []) (pt c []) (omega (arith, length-append ct (line (i.JumpFalse x) at ∷ line i.Tick at ∷ ca)))
      (flow_then program number function ls pc pt' x (pt c []) (pt c (k.Bool ∷ [])) (pt c []) test
      (shut_flow program number function ls pt' x (pt c (k.Bool ∷ [])) (pt c []) _ l0.0 refl (choice_after program number function ls c x [] (omega arith))
      (flow_shut program number function ls (pt' + 1) (pt' + 1 + 1) x (pt c []) (pt c []) (tick_flow program number function ls c (pt' + 1) (pt' + 1 + 1) at [] refl l0.1.0 (omega arith)) body)
      x (pt c []) (flow_none program number function ls x x (pt c []) refl)))
  while_flow pc at ct false ca has test body =
      let pt' = pc + length ct in
      let b = pt' + 1 + 1 + length ca in
      let x = b + 1 in
      let l0 = stands_back ls pc ct _ has in
      let l1 = stands_back ls (pt' + 1 + 1) ca _ l0.1.1 in
      flow_at program number function ls pc x _ (pt c []) (pt c []) (omega (arith, length-append ct (line (i.JumpFalse x) at ∷ line i.Tick at ∷ (ca ++ line (i.Jump pc) at ∷ [])), length-append ca (line (i.Jump pc) at ∷ [])))
      (flow_loop program number function ls pc pt' b x (pt c []) (pt c (k.Bool ∷ [])) _ _ test l0.0 refl (choice_after program number function ls c x [] (omega arith))
      (flow_then program number function ls (pt' + 1) (pt' + 1 + 1) b (pt c []) (pt c []) (pt c []) (tick_flow program number function ls c (pt' + 1) (pt' + 1 + 1) at [] refl l0.1.0 (omega arith)) body)
      l1.0 refl (jump_after program number function ls c pc [] (omega arith)) refl)

  -- a choice by its code, whose first side surely ends or not
  pub if_flow : (pc : ℕ) (at : Span) (ct ca : List Line) (a : Bool) → StandsAt ls pc (if_code pc at ct ca) → Flow program number function ls pc (pc + length ct) (pt c []) (pt c (k.Bool ∷ [])) → Runs program number function ls a (pc + length ct + 1) (pc + length ct + 1 + length ca) (pt c []) (pt c []) →
      Flow program number function ls pc (pc + length (if_code pc at ct ca)) (pt c []) (pt c [])
  if_flow pc at ct ca a has test one =
      let pt' = pc + length ct in
      let x = pt' + 1 + length ca in
      let l0 = stands_back ls pc ct _ has in
      flow_at program number function ls pc x _ (pt c []) (pt c []) (omega (arith, length-append ct (line (i.JumpFalse x) at ∷ ca)))
      (flow_then program number function ls pc pt' x (pt c []) (pt c (k.Bool ∷ [])) (pt c []) test (by a one l0.0))
    where
      by : (a : Bool) → Runs program number function ls a (pc + length ct + 1) (pc + length ct + 1 + length ca) (pt c []) (pt c []) → slice_get ls (pc + length ct) ≡ Some (line (i.JumpFalse (pc + length ct + 1 + length ca)) at) →
          Flow program number function ls (pc + length ct) (pc + length ct + 1 + length ca) (pt c (k.Bool ∷ [])) (pt c [])
      by true one l = shut_flow program number function ls (pc + length ct) (pc + length ct + 1 + length ca) (pt c (k.Bool ∷ [])) (pt c []) _ l refl (choice_after program number function ls c _ [] (omega arith)) one _ (pt c []) (flow_none program number function ls _ _ (pt c []) refl)
      by false one l = flow_skip program number function ls (pc + length ct) (pc + length ct + 1 + length ca) (pt c (k.Bool ∷ [])) (pt c []) _ l refl (choice_after program number function ls c _ [] (omega arith)) one

  pub else_flow : (pc : ℕ) (at : Span) (ct : List Line) (a b : Bool) (ca cb : List Line) → StandsAt ls pc (else_code pc at ct a ca cb) → Flow program number function ls pc (pc + length ct) (pt c []) (pt c (k.Bool ∷ [])) → Runs program number function ls a (pc + length ct + 1) (pc + length ct + 1 + length ca) (pt c []) (pt c []) →
      Runs program number function ls b (behind a (pc + length ct + 1 + length ca)) (behind a (pc + length ct + 1 + length ca) + length cb) (pt c []) (pt c []) → Runs program number function ls (a && b) pc (pc + length (else_code pc at ct a ca cb)) (pt c []) (pt c [])
  else_flow pc at ct true b ca cb has test one other =
      let pt' = pc + length ct in
      let f = pt' + 1 + length ca in
      let l0 = stands_back ls pc ct _ has in
      runs_at program number function ls b pc (f + length cb) _ (pt c []) (pt c []) (omega (arith, length-append ct (line (i.JumpFalse f) at ∷ (ca ++ cb)), length-append ca cb))
      (flow_runs program number function ls b pc pt' (f + length cb) (pt c []) (pt c (k.Bool ∷ [])) (pt c []) test (by b other l0.0))
    where
      by : (b : Bool) → Runs program number function ls b (pc + length ct + 1 + length ca) (pc + length ct + 1 + length ca + length cb) (pt c []) (pt c []) → slice_get ls (pc + length ct) ≡ Some (line (i.JumpFalse (pc + length ct + 1 + length ca)) at) →
          Runs program number function ls b (pc + length ct) (pc + length ct + 1 + length ca + length cb) (pt c (k.Bool ∷ [])) (pt c [])
      by true other l = shut_both program number function ls (pc + length ct) (pc + length ct + 1 + length ca) (pt c (k.Bool ∷ [])) (pt c []) _ l refl (choice_after program number function ls c _ [] (omega arith)) one _ other
      by false other l = shut_flow program number function ls (pc + length ct) (pc + length ct + 1 + length ca) (pt c (k.Bool ∷ [])) (pt c []) _ l refl (choice_after program number function ls c _ [] (omega arith)) one _ (pt c []) other
  else_flow pc at ct false b ca cb has test one other =
      let pt' = pc + length ct in
      let pa = pt' + 1 + length ca in
      let f = pa + 1 in
      let x = f + length cb in
      let l0 = stands_back ls pc ct _ has in
      let l1 = stands_back ls (pt' + 1) ca _ l0.1 in
      flow_at program number function ls pc x _ (pt c []) (pt c []) (omega (arith, length-append ct (line (i.JumpFalse f) at ∷ (ca ++ line (i.Jump x) at ∷ cb)), length-append ca (line (i.Jump x) at ∷ cb)))
      (flow_then program number function ls pc pt' x (pt c []) (pt c (k.Bool ∷ [])) (pt c []) test (by b other l0.0 l1.0))
    where
      by : (b : Bool) → Runs program number function ls b (pc + length ct + 1 + length ca + 1) (pc + length ct + 1 + length ca + 1 + length cb) (pt c []) (pt c []) → slice_get ls (pc + length ct) ≡ Some (line (i.JumpFalse (pc + length ct + 1 + length ca + 1)) at) → slice_get ls (pc + length ct + 1 + length ca) ≡ Some (line (i.Jump (pc + length ct + 1 + length ca + 1 + length cb)) at) →
          Flow program number function ls (pc + length ct) (pc + length ct + 1 + length ca + 1 + length cb) (pt c (k.Bool ∷ [])) (pt c [])
      by true other l m = flow_past program number function ls (pc + length ct) (pc + length ct + 1 + length ca) (pc + length ct + 1 + length ca + 1) _ (pt c (k.Bool ∷ [])) (pt c []) (pt c []) _ _ l refl (choice_after program number function ls c _ [] (omega arith)) one m refl (jump_after program number function ls c _ [] (omega arith)) refl other
      by false other l m = flow_choice program number function ls (pc + length ct) (pc + length ct + 1 + length ca) (pc + length ct + 1 + length ca + 1) _ (pt c (k.Bool ∷ [])) (pt c []) (pt c []) _ _ l refl (choice_after program number function ls c _ [] (omega arith)) one m refl (jump_after program number function ls c _ [] (omega arith)) refl other
