-- The code of each function has an instruction.
use Rattle.std.proofs.Common.{◌≡◌, ℕ, ◌+◌, ◌<◌, List, [], ◌∷◌, ◌++◌, length, Bool, true, false, Option, Some, None, refl, arith, length-append}
use Rattle.wave_base.specs.declared.span.Span.{Span}
use Rattle.resolved_service.specs.declared.service.Event.{Event}
use Rattle.resolved_service.specs.declared.service.Last.{Last}
use Rattle.resolved_service.specs.declared.service.Method.{Method}
use Rattle.resolved_service.specs.declared.service.Phase.{Phase}
use Rattle.resolved_service.specs.Steps.{Step, SetLocal, SetField, PutLocal, PutField, CutLocal, CutField, If, While, For, Require, Send, Spawn, Do, Return, Finish, Steps, no_steps, step, no_else, otherwise, steps_in, is_end, surely_ends}
use Rattle.resolved_service.specs.View.{tree_of}
use Rattle.service_code.specs.declared.instr.Instr.TheVariants as i
use Rattle.code_scheme.specs.Scheme.{Line, line, finish_instr, maybe_code, test_then, step_code, steps_code, tree_code, return_code, reply_code, phases_code, method_code, event_code}
use Rattle.code_scheme.specs.Texts.{Text}

module _ (methods : List Method) where
  -- code that surely ends has an instruction
  ends_some : (T : List Text) (n : ℕ) (ss : Steps) → surely_ends ss ≡ true → 0 < length (steps_code methods T n ss)
  ends_some T n no_steps h = cc
  ends_some T n (step s no_steps) h = omega (arith, end_some s h, length-append (step_code methods T n s) [])
    where
      then_some : (c : List Line) (l : Line) (more : List Line) → 0 < length (c ++ l ∷ more)
      then_some c l more = omega (arith, length-append c (l ∷ more))

      end_some : (s : Step) → is_end s ≡ true → 0 < length (step_code methods T n s)
      end_some (Return at e) h = then_some (maybe_code methods T n e) (line i.Return at) []
      end_some (Finish at e) h = then_some (maybe_code methods T n e) (line (finish_instr e) at) []
      end_some (If at test body (otherwise ss)) h = else_some (surely_ends body)
        where
          else_some : (b : Bool) → 0 < length (test_then methods T n at (tree_code methods T n test) b (steps_code methods T (n + length (tree_code methods T n test) + 1) body) (otherwise ss))
          else_some true = then_some (tree_code methods T n test) _ _
          else_some false = then_some (tree_code methods T n test) _ _
      end_some (If at test body no_else) h = cc
      end_some (SetLocal at x e) h = cc
      end_some (SetField at x e) h = cc
      end_some (PutLocal at x k e) h = cc
      end_some (PutField at x k e) h = cc
      end_some (CutLocal at x k) h = cc
      end_some (CutField at x k) h = cc
      end_some (While at test body) h = cc
      end_some (For at counter from to body) h = cc
      end_some (Require at e) h = cc
      end_some (Send at label e) h = cc
      end_some (Spawn at event args) h = cc
      end_some (Do at e) h = cc
  ends_some T n (step s (step t ss)) h =
      omega (arith, ends_some T (n + length (step_code methods T n s)) (step t ss) h, length-append (step_code methods T n s) (steps_code methods T (n + length (step_code methods T n s)) (step t ss)))

  -- so statements and what stands behind them have one
  some_of : (b : Bool) (cb rest : List Line) → (b ≡ true → 0 < length cb) → (b ≡ false → 0 < length rest) → 0 < length (cb ++ rest)
  some_of true cb rest h g = omega (arith, h refl, length-append cb rest)
  some_of false cb rest h g = omega (arith, g refl, length-append cb rest)

  return_some : (T : List Text) (n : ℕ) (at : Span) (b : Bool) (last : Option Last) → b ≡ false → 0 < length (return_code methods T n at b last)
  return_some T n at true None e = cc
  return_some T n at false None e = omega arith
  return_some T n at true (Some last) e = cc
  return_some T n at false (Some last) e = omega (arith, length-append (tree_code methods T n (tree_of last.value)) (line i.Return last.at ∷ []))

  pub method_some : (T : List Text) (m : Method) → 0 < length (method_code methods T m)
  unfolding method_code
  method_some T m =
      let cb = steps_code methods T 0 (steps_in m.body) in
      let b = surely_ends (steps_in m.body) in
      some_of b cb (return_code methods T (length cb) m.at b m.last) (ends_some T 0 (steps_in m.body)) (return_some T (length cb) m.at b m.last)

  reply_some : (T : List Text) (n : ℕ) (at : Span) (b : Bool) (last : Option Last) → b ≡ false → 0 < length (reply_code methods T n at b last)
  reply_some T n at true None e = cc
  reply_some T n at false None e = omega arith
  reply_some T n at true (Some last) e = cc
  reply_some T n at false (Some last) e = omega (arith, length-append (tree_code methods T n (tree_of last.value)) (line i.Reply last.at ∷ []))

  phases_some : (T : List Text) (fs : List Phase) (n : ℕ) (at : Span) (b : Bool) (last : Option Last) → b ≡ false → 0 < length (phases_code methods T n b fs at last)
  phases_some T [] n at b last e = reply_some T n at b last e
  phases_some T (f ∷ fs) n at b last e =
      let ck = tree_code methods T n (tree_of f.key) in
      let cb = steps_code methods T (n + length ck + 1) (steps_in f.body) in
      let rest = phases_code methods T (n + length ck + 1 + length cb) (surely_ends (steps_in f.body)) fs at last in
      omega (arith, length-append ck (line (i.Go f.class) f.at ∷ (cb ++ rest)))

  pub event_some : (T : List Text) (x : Event) → 0 < length (event_code methods T x)
  unfolding event_code
  event_some T x =
      let cb = steps_code methods T 0 (steps_in x.here) in
      let b = surely_ends (steps_in x.here) in
      some_of b cb (phases_code methods T (length cb) b x.phases x.at x.last) (ends_some T 0 (steps_in x.here)) (phases_some T x.phases (length cb) x.at b x.last)
