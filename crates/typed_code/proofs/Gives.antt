-- Of the methods of a service, code and heights ask only which of them give a value.
use Rattle.std.proofs.Common.{◌≡◌, ℕ, suc, ◌+◌, max, Bool, List, [], ◌∷◌, ◌++◌, length, slice_get, Option, Some, None, refl}
use Rattle.resolved_service.specs.declared.service.Method.{Method}
use Rattle.resolved_service.specs.Steps.{Step, SetLocal, SetField, PutLocal, PutField, CutLocal, CutField, If, While, For, Require, Send, Spawn, Do, Return, Finish, Steps, no_steps, step, Else, no_else, otherwise, surely_ends}
use Rattle.resolved_service.specs.View.{Tree, Const, Local, Field, Above, Op, And, Or, Call, Child, Trees, no_trees, tree}
use Rattle.service_code.specs.declared.instr.Instr.TheVariants as i
use Rattle.wave_base.specs.declared.span.Span.{Span}
use Rattle.code_scheme.specs.declared.line.Line.{Line}
use Rattle.code_scheme.specs.Heights.{one_if, tree_height, trees_height, maybe_height, step_height, steps_height, else_height}
use Rattle.code_scheme.specs.Scheme.{line, gives_in, leaves_value, pop_code, finish_instr, and_code, or_code, behind, else_code, while_code, test_code, turn_code, loop_at, block_at, tree_code, trees_code, two_code, maybe_code, step_code, steps_code, test_then}
use Rattle.code_scheme.specs.Texts.{Text, place_of_text}

abbrev pub SameGives : List Method → List Method → Type 0
SameGives a b = (n : ℕ) → gives_in (slice_get a n) ≡ gives_in (slice_get b n)

module _ (a b : List Method) (same : SameGives a b) where
  leaves : (t : Tree) → leaves_value a t ≡ leaves_value b t
  leaves (Const at literal) = refl
  leaves (Local at slot) = refl
  leaves (Field at f) = refl
  leaves (Above at level f) = refl
  leaves (Op at row args) = refl
  leaves (And at x y) = refl
  leaves (Or at x y) = refl
  leaves (Call at m args) = same m
  leaves (Child at c m key args) = same m

  module _ (texts : List Text) where
    mutual
      pub same_tree : (n : ℕ) (t : Tree) → tree_code a texts n t ≡ tree_code b texts n t
      same_tree n (Const at literal) = refl
      same_tree n (Local at slot) = refl
      same_tree n (Field at f) = refl
      same_tree n (Above at level f) = refl
      same_tree n (Op at row args) = λ k. same_trees n args k ++ line (i.Op row) at ∷ []
      same_tree n (And at x y) = λ k. and_code n at (same_tree n x k) (same_tree (n + length (same_tree n x k) + 1) y k)
      same_tree n (Or at x y) = λ k. or_code n at (same_tree n x k) (same_tree (n + length (same_tree n x k) + 3) y k)
      same_tree n (Call at m args) = λ k. same_trees n args k ++ line i.Tick at ∷ line (i.Call m) at ∷ []
      same_tree n (Child at c m key args) = λ k.
          same_tree n key k ++ (same_trees (n + length (same_tree n key k)) args k ++ line i.Tick at ∷ line (i.CallDown (record { 0 = c }) m) at ∷ [])

      same_trees : (n : ℕ) (ts : Trees) → trees_code a texts n ts ≡ trees_code b texts n ts
      same_trees n no_trees = refl
      same_trees n (tree t ts) = λ k. same_tree n t k ++ same_trees (n + length (same_tree n t k)) ts k

    same_two : (n : ℕ) (x y : Tree) (last : Line) → two_code a texts n x y last ≡ two_code b texts n x y last
    same_two n x y last = λ k. same_tree n x k ++ (same_tree (n + length (same_tree n x k)) y k ++ last ∷ [])

    same_maybe : (n : ℕ) (e : Option Tree) → maybe_code a texts n e ≡ maybe_code b texts n e
    same_maybe n None = refl
    same_maybe n (Some e) = same_tree n e

    mutual
      same_step : (n : ℕ) (s : Step) → step_code a texts n s ≡ step_code b texts n s
      same_step n (SetLocal at slot e) = λ k. same_tree n e k ++ line (i.Store slot) at ∷ []
      same_step n (SetField at f e) = λ k. same_tree n e k ++ line (i.SetField f) at ∷ []
      same_step n (PutLocal at slot key e) = same_two n key e (line (i.PutLocal slot) at)
      same_step n (PutField at f key e) = same_two n key e (line (i.PutField f) at)
      same_step n (CutLocal at slot key) = λ k. same_tree n key k ++ line (i.CutLocal slot) at ∷ []
      same_step n (CutField at f key) = λ k. same_tree n key k ++ line (i.CutField f) at ∷ []
      same_step n (If at test body other) = λ k. same_then n at other (surely_ends body) (same_tree n test k) (same_steps (n + length (same_tree n test k) + 1) body k) k
      same_step n (While at test body) = λ k. while_code n at (same_tree n test k) (surely_ends body) (same_steps (n + length (same_tree n test k) + 1 + 1) body k)
      same_step n (For at counter from to body) = λ k.
          same_tree n from k ++ line (i.Store counter) at
          ∷ (same_tree (n + length (same_tree n from k) + 1) to k ++ line (i.Store (counter + 1)) at
          ∷ while_code (loop_at n (length (same_tree n from k)) (length (same_tree (n + length (same_tree n from k) + 1) to k))) at (test_code counter at) (surely_ends body)
          (turn_code counter at (surely_ends body) (same_steps (block_at (loop_at n (length (same_tree n from k)) (length (same_tree (n + length (same_tree n from k) + 1) to k)))) body k)))
      same_step n (Require at e) = λ k. same_tree n e k ++ line i.Require at ∷ []
      same_step n (Send at label e) = λ k. same_tree n e k ++ line (i.Send (place_of_text texts label)) at ∷ []
      same_step n (Spawn at event args) = λ k. same_trees n args k ++ line (i.Spawn event) at ∷ []
      same_step n (Do at e) = λ k. same_tree n e k ++ pop_code (leaves e k) at
      same_step n (Return at e) = λ k. same_maybe n e k ++ line i.Return at ∷ []
      same_step n (Finish at e) = λ k. same_maybe n e k ++ line (finish_instr e) at ∷ []

      pub same_steps : (n : ℕ) (ss : Steps) → steps_code a texts n ss ≡ steps_code b texts n ss
      same_steps n no_steps = refl
      same_steps n (step s ss) = λ k. same_step n s k ++ same_steps (n + length (same_step n s k)) ss k

      same_then : (n : ℕ) (at : Span) (other : Else) (ended : Bool) (ct ca : List Line) → test_then a texts n at ct ended ca other ≡ test_then b texts n at ct ended ca other
      same_then n at no_else ended ct ca = refl
      same_then n at (otherwise ss) ended ct ca = λ k. else_code n at ct ended ca (same_steps (behind ended (n + length ct + 1 + length ca)) ss k)

  mutual
    pub tall_tree : (t : Tree) → tree_height a t ≡ tree_height b t
    tall_tree (Const at literal) = refl
    tall_tree (Local at slot) = refl
    tall_tree (Field at f) = refl
    tall_tree (Above at level f) = refl
    tall_tree (Op at row args) = λ k. max (tall_trees args k) 1
    tall_tree (And at x y) = λ k. max (tall_tree x k) (max (tall_tree y k) 1)
    tall_tree (Or at x y) = λ k. max (tall_tree x k) (max (tall_tree y k) 1)
    tall_tree (Call at m args) = λ k. max (tall_trees args k) (one_if (same m k))
    tall_tree (Child at c m key args) = λ k. max (tall_tree key k) (max (suc (tall_trees args k)) (one_if (same m k)))

    tall_trees : (ts : Trees) → trees_height a ts ≡ trees_height b ts
    tall_trees no_trees = refl
    tall_trees (tree t ts) = λ k. max (tall_tree t k) (suc (tall_trees ts k))

  tall_maybe : (e : Option Tree) → maybe_height a e ≡ maybe_height b e
  tall_maybe None = refl
  tall_maybe (Some e) = tall_tree e

  mutual
    tall_step : (s : Step) → step_height a s ≡ step_height b s
    tall_step (SetLocal at slot e) = tall_tree e
    tall_step (SetField at f e) = tall_tree e
    tall_step (PutLocal at slot key e) = λ k. max (tall_tree key k) (suc (tall_tree e k))
    tall_step (PutField at f key e) = λ k. max (tall_tree key k) (suc (tall_tree e k))
    tall_step (CutLocal at slot key) = tall_tree key
    tall_step (CutField at f key) = tall_tree key
    tall_step (If at test body other) = λ k. max (tall_tree test k) (max (tall_steps body k) (tall_else other k))
    tall_step (While at test body) = λ k. max (tall_tree test k) (tall_steps body k)
    tall_step (For at counter from to body) = λ k. max (tall_tree from k) (max (tall_tree to k) (max 2 (tall_steps body k)))
    tall_step (Require at e) = tall_tree e
    tall_step (Send at label e) = tall_tree e
    tall_step (Spawn at event args) = tall_trees args
    tall_step (Do at e) = tall_tree e
    tall_step (Return at e) = tall_maybe e
    tall_step (Finish at e) = tall_maybe e

    pub tall_steps : (ss : Steps) → steps_height a ss ≡ steps_height b ss
    tall_steps no_steps = refl
    tall_steps (step s ss) = λ k. max (tall_step s k) (tall_steps ss k)

    tall_else : (e : Else) → else_height a e ≡ else_height b e
    tall_else no_else = refl
    tall_else (otherwise ss) = tall_steps ss
