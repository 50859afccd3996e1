-- Heights of stacks: counted up to 65,535, of items one after the other, and never above the length of the code.
use Rattle.std.proofs.Common.{◌≡◌, ℕ, suc, ◌+◌, ◌-◌, ◌^◌, ◌<◌, ◌≤◌, max, min, List, [], ◌∷◌, ◌++◌, length, map, take, get_or, Option, Some, None, Bool, true, false, pos, ap, arith, length-append}
use Rattle.std.proofs.lemmas.List.{length-take}
use Rattle.wave_base.specs.declared.span.Span.{Span}
use Rattle.resolved_service.specs.declared.expr.Expr.{Expr}
use Rattle.resolved_service.specs.declared.service.Event.{Event}
use Rattle.resolved_service.specs.declared.service.Last.{Last}
use Rattle.resolved_service.specs.declared.service.Method.{Method}
use Rattle.resolved_service.specs.declared.service.Phase.{Phase}
use Rattle.resolved_service.specs.Meaning.{row_add}
use Rattle.resolved_service.specs.Steps.{Step, SetLocal, SetField, PutLocal, PutField, CutLocal, CutField, If, While, For, Require, Send, Spawn, Do, Return, Finish, Steps, no_steps, step, Else, no_else, otherwise, steps_in, surely_ends}
use Rattle.resolved_service.specs.View.{Tree, Const, Local, Field, Above, Op, And, Or, Call, Child, Trees, no_trees, tree, tree_of, trees_of}
use Rattle.service_code.specs.declared.instr.Instr.TheVariants as i
use Rattle.code_scheme.specs.declared.line.Line.{Line}
use Rattle.code_scheme.specs.Heights.{one_if, tree_height, trees_height, maybe_height, step_height, steps_height, else_height, last_height, method_height, phases_height, event_height}
use Rattle.code_scheme.specs.Scheme.{line, leaves_value, finish_instr, behind, pop_code, test_then, and_code, or_code, if_code, else_code, test_code, turn_code, while_code, loop_at, block_at, tree_code, trees_code, two_code, maybe_code, step_code, steps_code, return_code, reply_code, phases_code, method_code, event_code}
use Rattle.code_scheme.specs.Texts.{Text, place_of_text}
use Rattle.service_compiler.proofs.Notes.{item_more}

-- ---- how long pieces of code are

more_long : (a b : List Line) (l : Line) → length (a ++ l ∷ b) ≡ length a + (length b + 1)
more_long a b l = let e = length-append a (l ∷ b) in omega (arith, e)

and_long : (n : ℕ) (at : Span) (ca cb : List Line) → length ca + length cb < length (and_code n at ca cb)
and_long n at ca cb =
    let last = line (i.Jump (n + length ca + 1 + length cb + 1 + 1)) at ∷ line (i.PushBool false) at ∷ [] in
    omega (arith, more_long ca (cb ++ last) (line (i.JumpFalse (n + length ca + 1 + length cb + 1)) at), length-append cb last)

or_long : (n : ℕ) (at : Span) (ca cb : List Line) → length ca + length cb < length (or_code n at ca cb)
or_long n at ca cb =
    let other = n + length ca + 3 in
    omega (arith, more_long ca (line (i.PushBool true) at ∷ line (i.Jump (other + length cb)) at ∷ cb) (line (i.JumpFalse other) at))

if_long : (n : ℕ) (at : Span) (ct ca : List Line) → length ct + length ca < length (if_code n at ct ca)
if_long n at ct ca = omega (arith, more_long ct ca (line (i.JumpFalse (n + length ct + 1 + length ca)) at))

else_long : (n : ℕ) (at : Span) (ct : List Line) (ended : Bool) (ca cb : List Line) → length ct + length ca + length cb < length (else_code n at ct ended ca cb)
else_long n at ct true ca cb = omega (arith, more_long ct (ca ++ cb) (line (i.JumpFalse (n + length ct + 1 + length ca)) at), length-append ca cb)
else_long n at ct false ca cb =
    let other = n + length ct + 1 + length ca + 1 in
    let jump = line (i.Jump (other + length cb)) at in
    omega (arith, more_long ct (ca ++ jump ∷ cb) (line (i.JumpFalse other) at), more_long ca cb jump)

while_long : (n : ℕ) (at : Span) (ct : List Line) (ended : Bool) (ca : List Line) → length ct + length ca + 1 < length (while_code n at ct ended ca)
while_long n at ct true ca =
    omega (arith, more_long ct (line i.Tick at ∷ ca) (line (i.JumpFalse (n + length ct + 1 + 1 + length ca)) at))
while_long n at ct false ca =
    let back = line (i.Jump n) at in
    omega (arith, more_long ct (line i.Tick at ∷ (ca ++ back ∷ [])) (line (i.JumpFalse (n + length ct + 1 + 1 + length ca + 1)) at), more_long ca [] back)

turn_long : (counter : ℕ) (at : Span) (ended : Bool) (cb : List Line) → length cb < length (turn_code counter at ended cb)
turn_long counter at true cb = omega arith
turn_long counter at false cb =
    let next = line (i.PushInt (pos 1)) at ∷ line (i.Op row_add) at ∷ line (i.Store counter) at ∷ [] in
    omega (arith, more_long cb next (line (i.Load counter) at))

pop_long : (leaves : Bool) (at : Span) → length (pop_code leaves at) ≡ one_if leaves
pop_long true at = omega arith
pop_long false at = omega arith

-- ---- no code is shorter than its stack is high

most_one : (b : Bool) → one_if b ≤ 1
most_one true = omega arith
most_one false = omega arith

module _ (methods : List Method) (texts : List Text) where
  abbrev tree_lines : Tree → ℕ → ℕ
  tree_lines t n = length (tree_code methods texts n t)

  abbrev trees_lines : Trees → ℕ → ℕ
  trees_lines ts n = length (trees_code methods texts n ts)

  abbrev steps_lines : Steps → ℕ → ℕ
  steps_lines ss n = length (steps_code methods texts n ss)

  tree_some : (t : Tree) (n : ℕ) → 0 < tree_lines t n
  tree_some (Const at v) n = omega arith
  tree_some (Local at s) n = omega arith
  tree_some (Field at f) n = omega arith
  tree_some (Above at l f) n = omega arith
  tree_some (Op at row args) n = omega (arith, more_long (trees_code methods texts n args) [] (line (i.Op row) at))
  tree_some (And at a b) n = let ca = tree_code methods texts n a in omega (arith, and_long n at ca (tree_code methods texts (n + length ca + 1) b))
  tree_some (Or at a b) n = let ca = tree_code methods texts n a in omega (arith, or_long n at ca (tree_code methods texts (n + length ca + 3) b))
  tree_some (Call at m args) n = omega (arith, more_long (trees_code methods texts n args) (line (i.Call m) at ∷ []) (line i.Tick at))
  tree_some (Child at c m key args) n =
      let ck = tree_code methods texts n key in
      let ca = trees_code methods texts (n + length ck) args in
      let last = line i.Tick at ∷ line (i.CallDown (record { 0 = c }) m) at ∷ [] in
      omega (arith, length-append ck (ca ++ last), length-append ca last)

  mutual
    tree_within : (t : Tree) (n : ℕ) → tree_height methods t ≤ tree_lines t n
    tree_within (Const at v) n = omega arith
    tree_within (Local at s) n = omega arith
    tree_within (Field at f) n = omega arith
    tree_within (Above at l f) n = omega arith
    tree_within (Op at row args) n = omega (arith, more_long (trees_code methods texts n args) [] (line (i.Op row) at), trees_within args n)
    tree_within (And at a b) n =
        let ca = tree_code methods texts n a in
        let m = n + length ca + 1 in
        omega (arith, and_long n at ca (tree_code methods texts m b), tree_within a n, tree_within b m)
    tree_within (Or at a b) n =
        let ca = tree_code methods texts n a in
        let m = n + length ca + 3 in
        omega (arith, or_long n at ca (tree_code methods texts m b), tree_within a n, tree_within b m)
    tree_within (Call at m args) n =
        omega (arith, more_long (trees_code methods texts n args) (line (i.Call m) at ∷ []) (line i.Tick at), trees_within args n, most_one (leaves_value methods (Call at m args)))
    tree_within (Child at c m key args) n =
        let ck = tree_code methods texts n key in
        let k = n + length ck in
        let ca = trees_code methods texts k args in
        let last = line i.Tick at ∷ line (i.CallDown (record { 0 = c }) m) at ∷ [] in
        omega (arith, length-append ck (ca ++ last), length-append ca last, tree_within key n, trees_within args k, most_one (leaves_value methods (Child at c m key args)))

    trees_within : (ts : Trees) (n : ℕ) → trees_height methods ts ≤ trees_lines ts n
    trees_within no_trees n = omega arith
    trees_within (tree t ts) n =
        let ct = tree_code methods texts n t in
        omega (arith, length-append ct (trees_code methods texts (n + length ct) ts), tree_within t n, tree_some t n, trees_within ts (n + length ct))

  two_within : (k e : Tree) (n : ℕ) (l : Line) → max (tree_height methods k) (suc (tree_height methods e)) ≤ length (two_code methods texts n k e l)
  two_within k e n l =
      let ck = tree_code methods texts n k in
      let m = n + length ck in
      let ce = tree_code methods texts m e in
      omega (arith, length-append ck (ce ++ l ∷ []), more_long ce [] l, tree_within k n, tree_some k n, tree_within e m)

  maybe_within : (e : Option Tree) (n : ℕ) → maybe_height methods e ≤ length (maybe_code methods texts n e)
  maybe_within None n = omega arith
  maybe_within (Some e) n = tree_within e n

  one_within : (h : ℕ) (ls : List Line) (l : Line) → h ≤ length ls → h ≤ length (ls ++ l ∷ [])
  one_within h ls l le = omega (arith, le, more_long ls [] l)

  mutual
    step_within : (s : Step) (n : ℕ) → step_height methods s ≤ length (step_code methods texts n s)
    step_within (SetLocal at slot e) n = one_within _ _ (line (i.Store slot) at) (tree_within e n)
    step_within (SetField at f e) n = one_within _ _ (line (i.SetField f) at) (tree_within e n)
    step_within (PutLocal at slot k e) n = two_within k e n (line (i.PutLocal slot) at)
    step_within (PutField at f k e) n = two_within k e n (line (i.PutField f) at)
    step_within (CutLocal at slot k) n = one_within _ _ (line (i.CutLocal slot) at) (tree_within k n)
    step_within (CutField at f k) n = one_within _ _ (line (i.CutField f) at) (tree_within k n)
    step_within (If at test body other) n =
        let ct = tree_code methods texts n test in
        let m = n + length ct + 1 in
        let ca = steps_code methods texts m body in
        let l = then_within at ct (surely_ends body) ca other n in
        omega (arith, l, tree_within test n, steps_within body m)
    step_within (While at test body) n =
        let ct = tree_code methods texts n test in
        let m = n + length ct + 1 + 1 in
        omega (arith, while_long n at ct (surely_ends body) (steps_code methods texts m body), tree_within test n, steps_within body m)
    step_within (For at counter from to body) n =
        let cf = tree_code methods texts n from in
        let m = n + length cf + 1 in
        let ct = tree_code methods texts m to in
        let w = loop_at n (length cf) (length ct) in
        let cb = steps_code methods texts (block_at w) body in
        let ended = surely_ends body in
        let turn = turn_code counter at ended cb in
        let cw = while_code w at (test_code counter at) ended turn in
        let store = line (i.Store (counter + 1)) at in
        omega (
          arith,
          more_long cf (ct ++ store ∷ cw) (line (i.Store counter) at),
          more_long ct cw store,
          while_long w at (test_code counter at) ended turn,
          turn_long counter at ended cb,
          tree_within from n,
          tree_within to m,
          steps_within body (block_at w),
        )
    step_within (Require at e) n = one_within _ _ (line i.Require at) (tree_within e n)
    step_within (Send at label e) n = one_within _ _ (line (i.Send (place_of_text texts label)) at) (tree_within e n)
    step_within (Spawn at event args) n = one_within _ _ (line (i.Spawn event) at) (trees_within args n)
    step_within (Do at e) n = omega (arith, length-append (tree_code methods texts n e) (pop_code (leaves_value methods e) at), tree_within e n)
    step_within (Return at e) n = one_within _ _ (line i.Return at) (maybe_within e n)
    step_within (Finish at e) n = one_within _ _ (line (finish_instr e) at) (maybe_within e n)

    steps_within : (ss : Steps) (n : ℕ) → steps_height methods ss ≤ steps_lines ss n
    steps_within no_steps n = omega arith
    steps_within (step s ss) n =
        let cs = step_code methods texts n s in
        omega (arith, length-append cs (steps_code methods texts (n + length cs) ss), step_within s n, steps_within ss (n + length cs))

    then_within : (at : Span) (ct : List Line) (ended : Bool) (ca : List Line) (other : Else) (n : ℕ) → length ct + length ca + else_height methods other ≤ length (test_then methods texts n at ct ended ca other)
    then_within at ct ended ca no_else n = omega (arith, if_long n at ct ca)
    then_within at ct ended ca (otherwise ss) n =
        let m = behind ended (n + length ct + 1 + length ca) in
        omega (arith, else_long n at ct ended ca (steps_code methods texts m ss), steps_within ss m)

  return_within : (ended : Bool) (last : Option Last) (at : Span) (n : ℕ) → last_height methods last ≤ length (return_code methods texts n at ended last)
  return_within ended None at n = omega arith
  return_within true (Some last) at n = one_within _ _ (line i.Return last.at) (tree_within (tree_of last.value) n)
  return_within false (Some last) at n = one_within _ _ (line i.Return last.at) (tree_within (tree_of last.value) n)

  reply_within : (ended : Bool) (last : Option Last) (at : Span) (n : ℕ) → last_height methods last ≤ length (reply_code methods texts n at ended last)
  reply_within ended None at n = omega arith
  reply_within true (Some last) at n = one_within _ _ (line i.Reply last.at) (tree_within (tree_of last.value) n)
  reply_within false (Some last) at n = one_within _ _ (line i.Reply last.at) (tree_within (tree_of last.value) n)

  phases_within : (ended : Bool) (fs : List Phase) (at : Span) (last : Option Last) (n : ℕ) → max (phases_height methods fs) (last_height methods last) ≤ length (phases_code methods texts n ended fs at last)
  phases_within ended [] at last n = let l = reply_within ended last at n in omega (arith, l)
  phases_within ended (f ∷ fs) at last n =
      let ck = tree_code methods texts n (tree_of f.key) in
      let m = n + length ck + 1 in
      let cb = steps_code methods texts m (steps_in f.body) in
      let rest = phases_code methods texts (m + length cb) (surely_ends (steps_in f.body)) fs at last in
      let l = phases_within (surely_ends (steps_in f.body)) fs at last (m + length cb) in
      omega (arith, more_long ck (cb ++ rest) (line (i.Go f.class) f.at), length-append cb rest, tree_within (tree_of f.key) n, steps_within (steps_in f.body) m, l)

  pub method_within : (m : Method) → method_height methods m ≤ length (method_code methods texts m)
  unfolding method_height method_code
  method_within m =
      let cb = steps_code methods texts 0 (steps_in m.body) in
      let ended = surely_ends (steps_in m.body) in
      omega (arith, length-append cb (return_code methods texts (length cb) m.at ended m.last), steps_within (steps_in m.body) 0, return_within ended m.last m.at (length cb))

  pub event_within : (e : Event) → event_height methods e ≤ length (event_code methods texts e)
  unfolding event_height event_code
  event_within e =
      let cb = steps_code methods texts 0 (steps_in e.here) in
      let ended = surely_ends (steps_in e.here) in
      omega (arith, length-append cb (phases_code methods texts (length cb) ended e.phases e.at e.last), steps_within (steps_in e.here) 0, phases_within ended e.phases e.at e.last (length cb))

-- ---- what passes 65,535 counts as that

pub capped_max : (x y a b : ℕ) → x ≡ min a 65535 → y ≡ min b 65535 → max x y ≡ min (max a b) 65535
capped_max x y a b e f = omega (arith, e, f)

-- short code is not as high as that
pub capped_same : (x a size : ℕ) → x ≡ min a 65535 → a ≤ size → size ≤ 65535 → x ≡ a
capped_same x a size e le short = omega (arith, e, le, short)

-- the highest of items one after the other
module _ {A : Type 0} (f : A → ℕ) (all : List A → ℕ) (none : all [] ≡ 0) (more : (x : A) (xs : List A) → all (x ∷ xs) ≡ max (f x) (all xs)) where
  highest_push : (xs : List A) (x : A) → all (xs ++ x ∷ []) ≡ max (all xs) (f x)
  highest_push [] x = omega (arith, more x [], none)
  highest_push (y ∷ xs) x = omega (arith, more y (xs ++ x ∷ []), more y xs, highest_push xs x)

  pub highest_next : (xs : List A) (k : ℕ) (x : A) → k < length xs → x ≡ get_or xs k x → (h0 h1 h2 : ℕ) → h0 ≡ min (all (take k xs)) 65535 → h1 ≡ min (f x) 65535 → h2 ≡ max h1 h0 → h2 ≡ min (all (take (k + 1) xs)) 65535
  highest_next xs k x lt at h0 h1 h2 e g is = omega (arith, e, g, is, highest_push (take k xs) x, ap all (item_more xs k x lt at))

-- operands that lie on one another
module _ (methods : List Method) where
  operands_push : (es : List Expr) (e : Expr) → trees_height methods (trees_of (map tree_of (es ++ e ∷ []))) ≡ max (trees_height methods (trees_of (map tree_of es))) (length es + max (tree_height methods (tree_of e)) 1)
  operands_push [] e = omega arith
  operands_push (x ∷ es) e = omega (arith, operands_push es e)

  pub operands_next : (es : List Expr) (k : ℕ) (e : Expr) → k < length es → e ≡ get_or es k e → (h0 below h1 : ℕ) → h0 ≡ min (trees_height methods (trees_of (map tree_of (take k es)))) 65535 → below ≡ min k 65535 → h1 ≡ min (tree_height methods (tree_of e)) 65535 →
      max (min (max h1 1 + below) (2 ^ 16 - 1)) h0 ≡ min (trees_height methods (trees_of (map tree_of (take (k + 1) es)))) 65535
  operands_next es k e lt at h0 below h1 a b d =
      omega (arith, a, b, d, operands_push (take k es) e, length-take k es, lt, ap (λ xs. trees_height methods (trees_of (map tree_of xs))) (item_more es k e lt at))
