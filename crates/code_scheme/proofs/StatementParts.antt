-- The code of expressions, statements, methods and events in parts.
use Rattle.std.proofs.Common.{◌≡◌, ℕ, ◌+◌, ◌<◌, pos, List, [], ◌∷◌, ◌++◌, length, Bool, true, false, Option, Some, None, refl, sym, subst, arith, length-append}
use Rattle.std.specs.Prelude.{slice_get}
use Rattle.wave_base.specs.declared.span.Span.{Span}
use Rattle.wave_base.specs.declared.value.Value.{Value}
use Rattle.wave_base.specs.declared.value.Value.TheVariants as v
use Rattle.resolved_service.specs.declared.service.Event.{Event}
use Rattle.resolved_service.specs.declared.service.Last.{Last}
use Rattle.resolved_service.specs.declared.service.Method.{Method}
use Rattle.resolved_service.specs.declared.service.Phase.{Phase}
use Rattle.resolved_service.specs.Meaning.{row_add}
use Rattle.resolved_service.specs.Steps.{Step, SetLocal, SetField, PutLocal, PutField, CutLocal, CutField, If, While, For, Require, Send, Spawn, Do, Return, Finish, Steps, no_steps, step, no_else, otherwise, steps_in, surely_ends}
use Rattle.resolved_service.specs.View.{Tree, Const, Local, Field, Above, Op, And, Or, Call, Child, Trees, no_trees, tree, tree_of}
use Rattle.service_code.specs.declared.instr.Instr.TheVariants as i
use Rattle.service_verify.specs.Fit.{jump_of, is_tick, is_call_down}
use Rattle.code_scheme.specs.Scheme.{Line, line, leaves_value, pop_code, behind, else_code, while_code, test_code, turn_code, loop_at, block_at, literal_instr, tree_code, trees_code, two_code, step_code, steps_code, return_code, reply_code, method_code, phases_code, event_code}
use Rattle.code_scheme.specs.Texts.{Text, place_of_text}
use Rattle.code_scheme.proofs.Places.{StandsAt, stands_front, stands_back, stands_all, while_lines, else_lines, turn_lines}
use Rattle.code_scheme.proofs.Parts

module _ (ls : List Line) where
  abbrev Part : (a e : ℕ) → Type 0
  Part = Parts.Part ls

  abbrev nothing : (a e : ℕ) → a ≡ e → Part a e
  nothing = Parts.nothing ls

  abbrev plain : (a e : ℕ) (l : Line) → e ≡ a + 1 → slice_get ls a ≡ Some l → jump_of l.instr ≡ None → is_call_down l.instr ≡ false → Part a e
  plain = Parts.plain ls

  abbrev part_then : (a b c : ℕ) → Part a b → Part b c → Part a c
  part_then = Parts.part_then ls

  abbrev jump_then : (p q e : ℕ) (l : Line) → slice_get ls p ≡ Some l → jump_of l.instr ≡ Some q → is_call_down l.instr ≡ false → p < q → Part (p + 1) e → Part q e → Part p e
  jump_then = Parts.jump_then ls

  abbrev ends_at : (a b c : ℕ) → b ≡ c → Part a b → Part a c
  ends_at = Parts.ends_at ls

  abbrev then_line : (a e : ℕ) (ca : List Line) (l : Line) → a + length (ca ++ l ∷ []) ≡ e → jump_of l.instr ≡ None → is_call_down l.instr ≡ false → StandsAt ls a (ca ++ l ∷ []) → Part a (a + length ca) → Part a e
  then_line = Parts.then_line ls

  abbrev own_part : (a : ℕ) (ca : List Line) (l m : Line) → jump_of l.instr ≡ None → is_call_down l.instr ≡ false → jump_of m.instr ≡ None → is_call_down m.instr ≡ false → StandsAt ls a (ca ++ l ∷ m ∷ []) → Part a (a + length ca) → Part a (a + length (ca ++ l ∷ m ∷ []))
  own_part = Parts.own_part ls

  abbrev child_part : (a : ℕ) (ca : List Line) (l m : Line) → is_tick l.instr ≡ true → jump_of l.instr ≡ None → is_call_down l.instr ≡ false → jump_of m.instr ≡ None → StandsAt ls a (ca ++ l ∷ m ∷ []) → Part a (a + length ca) → Part a (a + length (ca ++ l ∷ m ∷ []))
  child_part = Parts.child_part ls

  module _ (methods : List Method) (texts : List Text) where
    literal_plain : (x : Value) → (jump_of (literal_instr texts x) ≡ None) × (is_call_down (literal_instr texts x) ≡ false)
    literal_plain (v.Int n) = (refl, refl)
    literal_plain (v.Bool b) = (refl, refl)
    literal_plain (v.Str t) = (refl, refl)
    literal_plain (v.Map m) = (refl, refl)

    mutual
      pub tree_part : (e : Tree) (pc : ℕ) → StandsAt ls pc (tree_code methods texts pc e) → Part pc (pc + length (tree_code methods texts pc e))
      tree_part (Const at x) pc h = let p = literal_plain x in plain pc _ _ (omega arith) h.0 p.0 p.1
      tree_part (Local at x) pc h = plain pc _ _ (omega arith) h.0 refl refl
      tree_part (Field at f) pc h = plain pc _ _ (omega arith) h.0 refl refl
      tree_part (Above at l f) pc h = plain pc _ _ (omega arith) h.0 refl refl
      tree_part (Op at r args) pc h = then_line pc _ (trees_code methods texts pc args) (line (i.Op r) at) refl refl refl h (trees_part args pc (stands_front ls pc (trees_code methods texts pc args) _ h))
      tree_part (And at a b) pc h =
          let ca = tree_code methods texts pc a in
          let pa = pc + length ca in
          let cb = tree_code methods texts (pa + 1) b in
          let pb = pa + 1 + length cb in
          let tail = line (i.Jump (pb + 1 + 1)) at ∷ line (i.PushBool false) at ∷ [] in
          let hb = stands_back ls pc ca (line (i.JumpFalse (pb + 1)) at ∷ (cb ++ tail)) h in
          let ht = stands_back ls (pa + 1) cb tail hb.1 in
          let push = plain (pb + 1) (pb + 1 + 1) _ refl ht.1.0 refl refl in
          ends_at pc (pb + 1 + 1) _ (omega (arith, length-append ca (line (i.JumpFalse (pb + 1)) at ∷ (cb ++ tail)), length-append cb tail))
          (part_then pc pa _ (tree_part a pc (stands_front ls pc ca _ h))
          (jump_then pa (pb + 1) _ _ hb.0 refl refl (omega arith) (part_then (pa + 1) pb _ (tree_part b (pa + 1) (stands_front ls (pa + 1) cb tail hb.1)) (jump_then pb (pb + 1 + 1) _ _ ht.0 refl refl (omega arith) push (nothing _ _ refl))) push))
      tree_part (Or at a b) pc h =
          let ca = tree_code methods texts pc a in
          let pa = pc + length ca in
          let cb = tree_code methods texts (pa + 3) b in
          let tail = line (i.PushBool true) at ∷ line (i.Jump (pa + 3 + length cb)) at ∷ cb in
          let hb = stands_back ls pc ca (line (i.JumpFalse (pa + 3)) at ∷ tail) h in
          let e3 : pa + 1 + 1 + 1 ≡ pa + 3 = omega arith in
          let pb = tree_part b (pa + 3) (subst (λ n. StandsAt ls n cb) e3 hb.1.1.1) in
          let jump = jump_then (pa + 1 + 1) (pa + 3 + length cb) _ _ hb.1.1.0 refl refl (omega arith) (subst (λ n. Part n (pa + 3 + length cb)) (sym e3) pb) (nothing _ _ refl) in
          ends_at pc (pa + 3 + length cb) _ (omega (arith, length-append ca (line (i.JumpFalse (pa + 3)) at ∷ tail)))
          (part_then pc pa _ (tree_part a pc (stands_front ls pc ca _ h)) (jump_then pa (pa + 3) _ _ hb.0 refl refl (omega arith) (part_then (pa + 1) (pa + 1 + 1) _ (plain _ _ _ refl hb.1.0 refl refl) jump) pb))
      tree_part (Call at m args) pc h = own_part pc (trees_code methods texts pc args) (line i.Tick at) (line (i.Call m) at) refl refl refl refl h (trees_part args pc (stands_front ls pc (trees_code methods texts pc args) _ h))
      tree_part (Child at c m key args) pc h =
          let ck = tree_code methods texts pc key in
          let ca = trees_code methods texts (pc + length ck) args in
          let tail = line i.Tick at ∷ line (i.CallDown (record { 0 = c }) m) at ∷ [] in
          let hk = stands_back ls pc ck _ h in
          ends_at pc _ _ (omega (arith, length-append ck (ca ++ tail)))
          (part_then pc (pc + length ck) (pc + length ck + length (ca ++ tail)) (tree_part key pc (stands_front ls pc ck _ h)) (child_part (pc + length ck) ca (line i.Tick at) (line (i.CallDown (record { 0 = c }) m) at) refl refl refl refl hk (trees_part args (pc + length ck) (stands_front ls (pc + length ck) ca _ hk))))

      pub trees_part : (ts : Trees) (pc : ℕ) → StandsAt ls pc (trees_code methods texts pc ts) → Part pc (pc + length (trees_code methods texts pc ts))
      trees_part no_trees pc h = nothing pc _ (omega arith)
      trees_part (tree t ts) pc h =
          let ct = tree_code methods texts pc t in
          let cs = trees_code methods texts (pc + length ct) ts in
          ends_at pc (pc + length ct + length cs) _ (omega (arith, length-append ct cs)) (part_then pc (pc + length ct) _ (tree_part t pc (stands_front ls pc ct cs h)) (trees_part ts (pc + length ct) (stands_back ls pc ct cs h)))

    while_part : (pc : ℕ) (at : Span) (ct : List Line) (b : Bool) (ca : List Line) → StandsAt ls pc (while_code pc at ct b ca) → Part pc (pc + length ct) → Part (pc + length ct + 1 + 1) (pc + length ct + 1 + 1 + length ca) → Part pc (pc + length (while_code pc at ct b ca))
    while_part pc at ct true ca h x y =
        let pt = pc + length ct in
        let b = pt + 1 + 1 + length ca in
        let ht = stands_back ls pc ct (line (i.JumpFalse b) at ∷ line i.Tick at ∷ ca) h in
        ends_at pc b _ (omega (arith, length-append ct (line (i.JumpFalse b) at ∷ line i.Tick at ∷ ca)))
        (part_then pc pt b x (jump_then pt b b _ ht.0 refl refl (omega arith) (part_then (pt + 1) (pt + 1 + 1) b (plain _ _ _ refl ht.1.0 refl refl) y) (nothing b b refl)))
    while_part pc at ct false ca h x y =
        let pt = pc + length ct in
        let b = pt + 1 + 1 + length ca in
        let tail = line (i.Jump pc) at ∷ [] in
        let ht = stands_back ls pc ct (line (i.JumpFalse (b + 1)) at ∷ line i.Tick at ∷ (ca ++ tail)) h in
        let hb = stands_back ls (pt + 1 + 1) ca tail ht.1.1 in
        ends_at pc (b + 1) _ (omega (arith, length-append ct (line (i.JumpFalse (b + 1)) at ∷ line i.Tick at ∷ (ca ++ tail)), length-append ca tail))
        (Parts.loop_part ls pc pt b _ _ _ x ht.0 refl refl ht.1.0 refl (part_then (pt + 1) (pt + 1 + 1) b (plain _ _ _ refl ht.1.0 refl refl) y) hb.0 refl refl (omega arith) (omega arith))

    else_part : (pc : ℕ) (at : Span) (ct : List Line) (b : Bool) (ca cb : List Line) → StandsAt ls pc (else_code pc at ct b ca cb) → Part pc (pc + length ct) → Part (pc + length ct + 1) (pc + length ct + 1 + length ca) → Part (behind b (pc + length ct + 1 + length ca)) (behind b (pc + length ct + 1 + length ca) + length cb) → Part pc (pc + length (else_code pc at ct b ca cb))
    else_part pc at ct true ca cb h x y z =
        let pt = pc + length ct in
        let pa = pt + 1 + length ca in
        let ha = stands_back ls pc ct (line (i.JumpFalse pa) at ∷ (ca ++ cb)) h in
        ends_at pc (pa + length cb) _ (omega (arith, length-append ct (line (i.JumpFalse pa) at ∷ (ca ++ cb)), length-append ca cb))
        (part_then pc pt _ x (jump_then pt pa _ _ ha.0 refl refl (omega arith) (part_then (pt + 1) pa _ y z) z))
    else_part pc at ct false ca cb h x y z =
        let pt = pc + length ct in
        let pa = pt + 1 + length ca in
        let e = pa + 1 + length cb in
        let ha = stands_back ls pc ct (line (i.JumpFalse (pa + 1)) at ∷ (ca ++ line (i.Jump e) at ∷ cb)) h in
        let hb = stands_back ls (pt + 1) ca (line (i.Jump e) at ∷ cb) ha.1 in
        ends_at pc e _ (omega (arith, length-append ct (line (i.JumpFalse (pa + 1)) at ∷ (ca ++ line (i.Jump e) at ∷ cb)), length-append ca (line (i.Jump e) at ∷ cb)))
        (part_then pc pt _ x (jump_then pt (pa + 1) _ _ ha.0 refl refl (omega arith) (part_then (pt + 1) pa _ y (jump_then pa e _ _ hb.0 refl refl (omega arith) z (nothing _ _ refl))) z))

    two_lines : (a b : ℕ) (l m : Line) → b ≡ a + 1 + 1 → StandsAt ls a (l ∷ m ∷ []) → jump_of l.instr ≡ None → is_call_down l.instr ≡ false → jump_of m.instr ≡ None → is_call_down m.instr ≡ false → Part a b
    two_lines a b l m e h u u' w w' = part_then a (a + 1) b (plain a (a + 1) l refl h.0 u u') (plain (a + 1) b m e h.1.0 w w')

    for_part : (pc : ℕ) (at : Span) (counter : ℕ) (cf ct : List Line) (b : Bool) (cb : List Line) → StandsAt ls pc (cf ++ line (i.Store counter) at ∷ (ct ++ line (i.Store (counter + 1)) at ∷ while_code (loop_at pc (length cf) (length ct)) at (test_code counter at) b (turn_code counter at b cb))) →
        Part pc (pc + length cf) → Part (pc + length cf + 1) (pc + length cf + 1 + length ct) → Part (block_at (loop_at pc (length cf) (length ct))) (block_at (loop_at pc (length cf) (length ct)) + length cb) →
        Part pc (pc + length (cf ++ line (i.Store counter) at ∷ (ct ++ line (i.Store (counter + 1)) at ∷ while_code (loop_at pc (length cf) (length ct)) at (test_code counter at) b (turn_code counter at b cb))))
    for_part pc at counter cf ct b cb h x y z =
        ends_at pc (m + length loop) _ (omega (arith, length-append cf (line (i.Store counter) at ∷ (ct ++ line (i.Store (counter + 1)) at ∷ loop)), length-append ct (line (i.Store (counter + 1)) at ∷ loop)))
        (part_then pc (pc + length cf) _ x (part_then (pc + length cf) p1 _ (plain _ _ _ refl l0.0 refl refl) (part_then p1 (p1 + length ct) _ y (part_then (p1 + length ct) m _ (plain _ _ _ refl l1.0 refl refl)
        (while_part m at test b turn l1.1
        (part_then m (m + 1 + 1) _ (two_lines m (m + 1 + 1) _ _ refl (stands.0.0, (stands.0.1.0, tt)) refl refl refl refl) (plain (m + 1 + 1) (m + 3) _ (omega arith) stands.0.1.1.0 refl refl))
        (turns b z stands.1))))))
      where
        p1 : ℕ
        p1 = pc + length cf + 1

        m : ℕ
        m = p1 + length ct + 1

        test : List Line
        test = test_code counter at

        turn : List Line
        turn = turn_code counter at b cb

        loop : List Line
        loop = while_code m at test b turn

        last : List Line
        last = line (i.Load counter) at ∷ line (i.PushInt (pos 1)) at ∷ line (i.Op row_add) at ∷ line (i.Store counter) at ∷ []

        b0 : ℕ
        b0 = m + 3 + 1 + 1

        e0 : ℕ
        e0 = b0 + 1 + 1 + length cb

        l0 : StandsAt ls (pc + length cf) (line (i.Store counter) at ∷ (ct ++ line (i.Store (counter + 1)) at ∷ loop))
        l0 = stands_back ls pc cf _ h

        l1 : StandsAt ls (p1 + length ct) (line (i.Store (counter + 1)) at ∷ loop)
        l1 = stands_back ls p1 ct _ l0.1

        stands : StandsAt ls m test × StandsAt ls (m + 3 + 1 + 1) turn
        stands = while_lines ls m at test b turn l1.1

        turns : (b : Bool) → Part (b0 + 1 + 1) (b0 + 1 + 1 + length cb) → StandsAt ls b0 (turn_code counter at b cb) → Part b0 (b0 + length (turn_code counter at b cb))
        turns true z lb =
            ends_at b0 (b0 + 1 + 1 + length cb) _ (omega arith)
            (part_then b0 (b0 + 1 + 1) _ (two_lines b0 (b0 + 1 + 1) _ _ refl (lb.0, (lb.1.0, tt)) refl refl refl refl) z)
        turns false z lb =
            let le = stands_back ls (b0 + 1 + 1) cb last lb.1.1 in
            ends_at b0 (e0 + 1 + 1 + 1 + 1) _ (omega (arith, length-append cb last))
            (part_then b0 (b0 + 1 + 1) _ (two_lines b0 (b0 + 1 + 1) _ _ refl (lb.0, (lb.1.0, tt)) refl refl refl refl) (part_then (b0 + 1 + 1) e0 _ z
            (part_then e0 (e0 + 1 + 1) _ (two_lines e0 _ _ _ refl (le.0, (le.1.0, tt)) refl refl refl refl) (two_lines (e0 + 1 + 1) _ _ _ refl (le.1.1.0, (le.1.1.1.0, tt)) refl refl refl refl))))

    two_part : (pc : ℕ) (a b : Tree) (l : Line) → jump_of l.instr ≡ None → is_call_down l.instr ≡ false → StandsAt ls pc (two_code methods texts pc a b l) → Part pc (pc + length (two_code methods texts pc a b l))
    two_part pc a b l no_jump not_call h =
        let ca = tree_code methods texts pc a in
        let cb = tree_code methods texts (pc + length ca) b in
        let hb = stands_back ls pc ca (cb ++ l ∷ []) h in
        ends_at pc (pc + length ca + length (cb ++ l ∷ [])) _ (omega (arith, length-append ca (cb ++ l ∷ [])))
        (part_then pc (pc + length ca) _ (tree_part a pc (stands_front ls pc ca _ h)) (then_line (pc + length ca) _ cb l refl no_jump not_call hb (tree_part b (pc + length ca) (stands_front ls (pc + length ca) cb _ hb))))

    use_part : (pc : ℕ) (e : Tree) (l : Line) → jump_of l.instr ≡ None → is_call_down l.instr ≡ false → StandsAt ls pc (tree_code methods texts pc e ++ l ∷ []) → Part pc (pc + length (tree_code methods texts pc e ++ l ∷ []))
    use_part pc e l no_jump not_call h = then_line pc _ (tree_code methods texts pc e) l refl no_jump not_call h (tree_part e pc (stands_front ls pc (tree_code methods texts pc e) _ h))

    pop_part : (pc : ℕ) (e : Tree) (at : Span) (b : Bool) → StandsAt ls pc (tree_code methods texts pc e ++ pop_code b at) → Part pc (pc + length (tree_code methods texts pc e ++ pop_code b at))
    pop_part pc e at true h = use_part pc e (line i.Pop at) refl refl h
    pop_part pc e at false h = ends_at pc (pc + length (tree_code methods texts pc e)) _ (omega (arith, length-append (tree_code methods texts pc e) [])) (tree_part e pc (stands_front ls pc (tree_code methods texts pc e) [] h))

    mutual
      pub step_part : (s : Step) (pc : ℕ) → StandsAt ls pc (step_code methods texts pc s) → Part pc (pc + length (step_code methods texts pc s))
      step_part (SetLocal at x e) pc h = use_part pc e (line (i.Store x) at) refl refl h
      step_part (SetField at f e) pc h = use_part pc e (line (i.SetField f) at) refl refl h
      step_part (PutLocal at x key e) pc h = two_part pc key e (line (i.PutLocal x) at) refl refl h
      step_part (PutField at f key e) pc h = two_part pc key e (line (i.PutField f) at) refl refl h
      step_part (CutLocal at x key) pc h = use_part pc key (line (i.CutLocal x) at) refl refl h
      step_part (CutField at f key) pc h = use_part pc key (line (i.CutField f) at) refl refl h
      step_part (If at test body no_else) pc h =
          let ct = tree_code methods texts pc test in
          let pt = pc + length ct in
          let ca = steps_code methods texts (pt + 1) body in
          let ha = stands_back ls pc ct _ h in
          ends_at pc (pt + 1 + length ca) _ (omega (arith, length-append ct (line (i.JumpFalse (pt + 1 + length ca)) at ∷ ca)))
          (part_then pc pt _ (tree_part test pc (stands_front ls pc ct _ h)) (jump_then pt (pt + 1 + length ca) _ _ ha.0 refl refl (omega arith) (steps_part body (pt + 1) ha.1) (nothing _ _ refl)))
      step_part (If at test body (otherwise ss)) pc h =
          let ct = tree_code methods texts pc test in
          let a = surely_ends body in
          let ca = steps_code methods texts (pc + length ct + 1) body in
          let f = behind a (pc + length ct + 1 + length ca) in
          let cb = steps_code methods texts f ss in
          let l = else_lines ls pc at ct a ca cb h in
          else_part pc at ct a ca cb h (tree_part test pc l.0) (steps_part body (pc + length ct + 1) l.1) (steps_part ss f l.2)
      step_part (While at test body) pc h =
          let ct = tree_code methods texts pc test in
          let ca = steps_code methods texts (pc + length ct + 1 + 1) body in
          let l = while_lines ls pc at ct (surely_ends body) ca h in
          while_part pc at ct (surely_ends body) ca h (tree_part test pc l.0) (steps_part body (pc + length ct + 1 + 1) l.1)
      step_part (For at counter from to body) pc h =
          let cf = tree_code methods texts pc from in
          let ct = tree_code methods texts (pc + length cf + 1) to in
          let m = loop_at pc (length cf) (length ct) in
          let b = surely_ends body in
          let cb = steps_code methods texts (block_at m) body in
          let l0 = stands_back ls pc cf (line (i.Store counter) at ∷ (ct ++ line (i.Store (counter + 1)) at ∷ while_code m at (test_code counter at) b (turn_code counter at b cb))) h in
          let l1 = stands_back ls (pc + length cf + 1) ct (line (i.Store (counter + 1)) at ∷ while_code m at (test_code counter at) b (turn_code counter at b cb)) l0.1 in
          let lw = while_lines ls m at (test_code counter at) b (turn_code counter at b cb) l1.1 in
          for_part pc at counter cf ct b cb h (tree_part from pc (stands_front ls pc cf _ h)) (tree_part to (pc + length cf + 1) (stands_front ls (pc + length cf + 1) ct _ l0.1))
          (steps_part body (block_at m) (turn_lines ls (m + 3 + 1 + 1) at counter b cb lw.1))
      step_part (Require at e) pc h = use_part pc e (line i.Require at) refl refl h
      step_part (Send at l e) pc h = use_part pc e (line (i.Send (place_of_text texts l)) at) refl refl h
      step_part (Spawn at event args) pc h = then_line pc _ (trees_code methods texts pc args) (line (i.Spawn event) at) refl refl refl h (trees_part args pc (stands_front ls pc (trees_code methods texts pc args) _ h))
      step_part (Do at e) pc h = pop_part pc e at (leaves_value methods e) h
      step_part (Return at None) pc h = plain pc _ (line i.Return at) (omega arith) h.0 refl refl
      step_part (Return at (Some e)) pc h = use_part pc e (line i.Return at) refl refl h
      step_part (Finish at None) pc h = plain pc _ (line i.End at) (omega arith) h.0 refl refl
      step_part (Finish at (Some e)) pc h = use_part pc e (line i.Reply at) refl refl h

      pub steps_part : (ss : Steps) (pc : ℕ) → StandsAt ls pc (steps_code methods texts pc ss) → Part pc (pc + length (steps_code methods texts pc ss))
      steps_part no_steps pc h = nothing pc _ (omega arith)
      steps_part (step s ss) pc h =
          let ca = step_code methods texts pc s in
          let cb = steps_code methods texts (pc + length ca) ss in
          ends_at pc (pc + length ca + length cb) _ (omega (arith, length-append ca cb)) (part_then pc (pc + length ca) _ (step_part s pc (stands_front ls pc ca cb h)) (steps_part ss (pc + length ca) (stands_back ls pc ca cb h)))

    pub return_part : (b : Bool) (last : Option Last) (at : Span) (pc : ℕ) → StandsAt ls pc (return_code methods texts pc at b last) → Part pc (pc + length (return_code methods texts pc at b last))
    return_part true None at pc h = nothing pc _ (omega arith)
    return_part false None at pc h = plain pc _ (line i.Return at) (omega arith) h.0 refl refl
    return_part true (Some last) at pc h = use_part pc (tree_of last.value) (line i.Return last.at) refl refl h
    return_part false (Some last) at pc h = use_part pc (tree_of last.value) (line i.Return last.at) refl refl h

    reply_part : (b : Bool) (last : Option Last) (at : Span) (pc : ℕ) → StandsAt ls pc (reply_code methods texts pc at b last) → Part pc (pc + length (reply_code methods texts pc at b last))
    reply_part true None at pc h = nothing pc _ (omega arith)
    reply_part false None at pc h = plain pc _ (line i.End at) (omega arith) h.0 refl refl
    reply_part true (Some last) at pc h = use_part pc (tree_of last.value) (line i.Reply last.at) refl refl h
    reply_part false (Some last) at pc h = use_part pc (tree_of last.value) (line i.Reply last.at) refl refl h

    pub phases_part : (b : Bool) (fs : List Phase) (last : Option Last) (at : Span) (pc : ℕ) → StandsAt ls pc (phases_code methods texts pc b fs at last) → Part pc (pc + length (phases_code methods texts pc b fs at last))
    phases_part b [] last at pc h = reply_part b last at pc h
    phases_part b (f ∷ fs) last at pc h =
        let ck = tree_code methods texts pc (tree_of f.key) in
        let pk = pc + length ck in
        let cb = steps_code methods texts (pk + 1) (steps_in f.body) in
        let rest = phases_code methods texts (pk + 1 + length cb) (surely_ends (steps_in f.body)) fs at last in
        let h0 = stands_back ls pc ck (line (i.Go f.class) f.at ∷ (cb ++ rest)) h in
        ends_at pc (pk + 1 + length cb + length rest) _ (omega (arith, length-append ck (line (i.Go f.class) f.at ∷ (cb ++ rest)), length-append cb rest))
        (part_then pc pk _ (tree_part (tree_of f.key) pc (stands_front ls pc ck _ h)) (part_then pk (pk + 1) _ (plain pk (pk + 1) _ refl h0.0 refl refl)
        (part_then (pk + 1) (pk + 1 + length cb) _ (steps_part (steps_in f.body) (pk + 1) (stands_front ls (pk + 1) cb rest h0.1)) (phases_part (surely_ends (steps_in f.body)) fs last at (pk + 1 + length cb) (stands_back ls (pk + 1) cb rest h0.1)))))

pub method_part : (methods : List Method) (texts : List Text) (m : Method) → Parts.Part (method_code methods texts m) 0 (length (method_code methods texts m))
unfolding method_code
method_part methods texts m =
    let ls = method_code methods texts m in
    let cb = steps_code methods texts 0 (steps_in m.body) in
    let b = surely_ends (steps_in m.body) in
    let rest = return_code methods texts (length cb) m.at b m.last in
    let h = stands_all ls [] in
    let e : 0 + length cb ≡ length cb = omega arith in
    Parts.ends_at ls 0 (length cb + length rest) _ (sym (length-append cb rest))
    (Parts.part_then ls 0 (length cb) _ (Parts.ends_at ls 0 (0 + length cb) _ e (steps_part ls methods texts (steps_in m.body) 0 (stands_front ls 0 cb rest h)))
    (return_part ls methods texts b m.last m.at (length cb) (subst (λ n. StandsAt ls n rest) e (stands_back ls 0 cb rest h))))

pub event_part : (methods : List Method) (texts : List Text) (e : Event) → Parts.Part (event_code methods texts e) 0 (length (event_code methods texts e))
unfolding event_code
event_part methods texts m =
    let ls = event_code methods texts m in
    let cb = steps_code methods texts 0 (steps_in m.here) in
    let b = surely_ends (steps_in m.here) in
    let rest = phases_code methods texts (length cb) b m.phases m.at m.last in
    let h = stands_all ls [] in
    let e : 0 + length cb ≡ length cb = omega arith in
    Parts.ends_at ls 0 (length cb + length rest) _ (sym (length-append cb rest))
    (Parts.part_then ls 0 (length cb) _ (Parts.ends_at ls 0 (0 + length cb) _ e (steps_part ls methods texts (steps_in m.here) 0 (stands_front ls 0 cb rest h)))
    (phases_part ls methods texts b m.phases m.last m.at (length cb) (subst (λ n. StandsAt ls n rest) e (stands_back ls 0 cb rest h))))
