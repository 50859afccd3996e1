-- Expressions, statements, calls and phases do so, where the service fits its shape.
use Rattle.std.proofs.Common.{◌≡◌, ℕ, zero, suc, ◌≤◌, Bool, true, false, List, [], ◌∷◌, All, Option, Some, None, refl, sym, subst}
use Rattle.wave_base.proofs.Lists.{all_at}
use Rattle.wave_base.specs.declared.path.Path.{Path}
use Rattle.wave_base.specs.declared.shape.Shape.{Shape}
use Rattle.wave_base.specs.declared.span.Span.{Span}
use Rattle.wave_base.specs.declared.value.Value.{Value}
use Rattle.wave_base.specs.Shapes.{class_of}
use Rattle.wave_base.specs.Tree.{Tree as Contexts}
use Rattle.value_ops.specs.Kinds.{Answer}
use Rattle.value_ops.specs.Operators.{apply_row}
use Rattle.resolved_service.specs.declared.service.Event.{Event}
use Rattle.resolved_service.specs.declared.service.Last.{Last}
use Rattle.resolved_service.specs.declared.service.Method.{Method}
use Rattle.resolved_service.specs.declared.service.Phase.{Phase}
use Rattle.resolved_service.specs.Fits.{count_of, IsMethod, FitsTree, FitsTrees, FitsMaybe, FitsStep, FitsSteps, FitsElse, FitsLast, FitsMethod, FitsPhases, FitsEvent}
use Rattle.resolved_service.specs.Meaning as m
use Rattle.resolved_service.specs.Meaning.{State, Outcome, Done, Trapped, Left, Act, and_then, ◌>>=◌, ◌>>◌, give, answer, with_world, tick, enter_at, release, back, choose, get_local, set_local, put_field, demand, leave, value, values, while_turns, for_test, for_body, effect, effects, else_effect, maybe_value, last_value, with_locals, run_method, call_act, worth, phases_run, event_run}
use Rattle.resolved_service.specs.Steps.{Step, SetLocal, SetField, PutLocal, PutField, CutLocal, CutField, If, While, For, Require, Send, Spawn, Do, Return, Finish, Steps, no_steps, step, Else, no_else, otherwise, steps_in}
use Rattle.resolved_service.specs.View.{Tree, Const, Local, Field, Above, Op, And, Or, Call, Child, Trees, no_trees, tree, tree_of}
use Rattle.resolved_service.specs.World.{World, is_true, key_of, child}
use Rattle.service_eval.proofs.PathLemmas.{class_of-child}
use Rattle.meaning_laws.proofs.Keeping.{At, Good, Safe, Ends, ends_good, ends_then, then_at, safe_then, safe_answer, safe_choose, safe_demand, safe_tick, enters_child, rises, releases, puts, sends, spawns}

module _ (shape : Shape) (first : Contexts (List Value)) (g : ℕ) (methods : List Method) where
  abbrev pub IsFine : (ℕ → Path → List Value → Act (Option Value)) → Type 0
  IsFine call = (m count : ℕ) (p : Path) (given : List Value) → IsMethod methods (class_of p) m count → Safe shape first g false p (call m p given)

  class_below : (p : Path) (class : ℕ) (key : Value) → class_of (child p class key) ≡ class
  class_below p class key = class_of-child p (record { class = record { 0 = class }; key = key_of key })

  -- a row's answer, and then one thing more
  answered : (may : Bool) (p : Path) (a : Answer Value) (at : Span) (f : Value → Act (Unit {0})) → ((v : Value) → Safe shape first g may p (f v)) → Safe shape first g may p (answer a at >>= f)
  answered may p a at f h st k = safe_then shape first g may p (answer a at st) f (safe_answer shape first g may p a at st k) h

  module _ (may : Bool) (call : ℕ → Path → List Value → Act (Option Value)) (fine : IsFine call) (p : Path) where
    mutual
      pub safe_value : (t : Tree) → FitsTree shape methods (class_of p) t → Safe shape first g may p (value call p t)
      safe_value (Const at v) f st h = h
      safe_value (Local at s) f st h = h
      safe_value (Field at i) f st h = h
      safe_value (Above at l i) f st h = h
      safe_value (Op at row ts) f st h = safe_then shape first g may p (values call p ts st) (λ ops. answer (apply_row row ops) at) (safe_values ts f st h) (λ ops. safe_answer shape first g may p (apply_row row ops) at)
      safe_value (And at a b) f st h = safe_then shape first g may p (value call p a st) _ (safe_value a f.0 st h) (λ x. safe_choose shape first g may p (is_true x) (value call p b) _ (safe_value b f.1) (λ st h. h))
      safe_value (Or at a b) f st h = safe_then shape first g may p (value call p a st) _ (safe_value a f.0 st h) (λ x. safe_choose shape first g may p (is_true x) _ (value call p b) (λ st h. h) (safe_value b f.1))
      safe_value (Call at m ts) f st h =
          safe_then shape first g may p (values call p ts st) _ (safe_values ts f.1 st h) (λ given st h. safe_then shape first g may p (tick at st) (λ _. call m p given >>= (λ r. give (worth r))) (safe_tick shape first g may p at st h)
          (λ u st h. then_at shape first g may p p (call m p given st) (λ r. give (worth r)) (fine m (count_of ts) p given f.0 st h) (λ r st h. h)))
      safe_value (Child at c m key ts) f st h =
          safe_then shape first g may p (value call p key st) _ (safe_value key f.2 st h) (λ k st h. safe_then shape first g may p (values call p ts st) _ (safe_values ts f.3 st h) (λ given st h.
          safe_then shape first g may p (tick at st) (λ _. enter_at (child p c k) at >> (call m (child p c k) given >>= (λ r. back >> give (worth r)))) (safe_tick shape first g may p at st h)
          (λ u st h. then_at shape first g may p (child p c k) (enter_at (child p c k) at st) (λ _. call m (child p c k) given >>= (λ r. back >> give (worth r))) (enters_child shape first g p c k at st h f.0)
          (λ u st h. then_at shape first g may p (child p c k) (call m (child p c k) given st) (λ r. back >> give (worth r))
          (fine m (count_of ts) (child p c k) given (subst (λ n. IsMethod methods n m (count_of ts)) (sym (class_below p c k)) f.1) st h) (λ r st h. rises shape first g p c k st.world h)))))

      pub safe_values : (ts : Trees) → FitsTrees shape methods (class_of p) ts → Safe shape first g may p (values call p ts)
      safe_values no_trees f st h = h
      safe_values (tree t ts) f st h = safe_then shape first g may p (value call p t st) _ (safe_value t f.0 st h) (λ v st h. safe_then shape first g may p (values call p ts st) (λ vs. give (v ∷ vs)) (safe_values ts f.1 st h) (λ vs st h. h))

  safe_turns : (may : Bool) (p : Path) (n : ℕ) (test : Act Value) (body : Act (Unit {0})) (at : Span) → Safe shape first g may p test → Safe shape first g may p body → Safe shape first g may p (while_turns n test body at)
  unfolding while_turns
  safe_turns may p zero test body at h k st x = safe_then shape first g may p (test st) _ (h st x) (λ t. safe_choose shape first g may p (is_true t) (tick at) (give tt) (safe_tick shape first g may p at) (λ st h. h))
  safe_turns may p (suc n) test body at h k st x =
      safe_then shape first g may p (test st) _ (h st x) (λ t. safe_choose shape first g may p (is_true t) (tick at >> (body >> while_turns n test body at)) (give tt)
      (λ st x. safe_then shape first g may p (tick at st) (λ _. body >> while_turns n test body at) (safe_tick shape first g may p at st x) (λ u st x. safe_then shape first g may p (body st) (λ _. while_turns n test body at) (k st x) (λ u. safe_turns may p n test body at h k)))
      (λ st h. h))

  safe_for : (may : Bool) (p : Path) (counter : ℕ) (at : Span) (body : Act (Unit {0})) → Safe shape first g may p body → Safe shape first g may p (for_body counter at body)
  safe_for may p counter at body h st k = safe_then shape first g may p (body _) _ (h _ k) (λ u st k. answered may p _ at (set_local counter) (λ v st k. k) st k)

  module _ (old : g ≤ 4) (call : ℕ → Path → List Value → Act (Option Value)) (fine : IsFine call) (n : ℕ) (p : Path) where
    safe_maybe : (e : Option Tree) → FitsMaybe shape methods (class_of p) e → Safe shape first g true p (maybe_value call n p e)
    safe_maybe None f st h = h
    safe_maybe (Some e) f st h = safe_then shape first g true p (value call p e st) (λ x. give (Some x)) (safe_value true call fine p e f st h) (λ x st h. h)

    mutual
      pub safe_effect : (s : Step) → FitsStep shape methods (class_of p) s → Safe shape first g true p (effect call n p s)
      safe_effect (SetLocal at slot e) f st h = safe_then shape first g true p (value call p e st) _ (safe_value true call fine p e f st h) (λ v st h. h)
      safe_effect (SetField at i e) f st h = safe_then shape first g true p (value call p e st) _ (safe_value true call fine p e f.1 st h) (λ v st h. puts shape first g p i v st.world h)
      safe_effect (PutLocal at slot key e) f st h =
          safe_then shape first g true p (value call p key st) _ (safe_value true call fine p key f.0 st h) (λ k st h. safe_then shape first g true p (value call p e st) _ (safe_value true call fine p e f.1 st h) (λ x st h. answered true p _ at (set_local slot) (λ v st h. h) st h))
      safe_effect (PutField at i key e) f st h =
          safe_then shape first g true p (value call p key st) _ (safe_value true call fine p key f.1 st h) (λ k st h. safe_then shape first g true p (value call p e st) _ (safe_value true call fine p e f.2 st h) (λ x st h.
          answered true p _ at (put_field i p) (λ v st h. puts shape first g p i v st.world h) st h))
      safe_effect (CutLocal at slot key) f st h = safe_then shape first g true p (value call p key st) _ (safe_value true call fine p key f st h) (λ k st h. answered true p _ at (set_local slot) (λ v st h. h) st h)
      safe_effect (CutField at i key) f st h = safe_then shape first g true p (value call p key st) _ (safe_value true call fine p key f.1 st h) (λ k st h. answered true p _ at (put_field i p) (λ v st h. puts shape first g p i v st.world h) st h)
      safe_effect (If at test body other) f st h = safe_then shape first g true p (value call p test st) _ (safe_value true call fine p test f.0 st h) (λ t. safe_choose shape first g true p (is_true t) (effects call n p body) (else_effect call n p other) (safe_effects body f.1) (safe_else other f.2))
      safe_effect (While at test body) f st h = safe_turns true p n (value call p test) (effects call n p body) at (safe_value true call fine p test f.0) (safe_effects body f.1) st h
      safe_effect (For at counter from to body) f st h =
          safe_then shape first g true p (value call p from st) _ (safe_value true call fine p from f.0 st h) (λ a st h. safe_then shape first g true p (value call p to _) _ (safe_value true call fine p to f.1 _ h) (λ b st h.
          safe_turns true p n (for_test counter at) (for_body counter at (effects call n p body)) at (λ st h. safe_answer shape first g true p _ at st h) (safe_for true p counter at (effects call n p body) (safe_effects body f.2)) _ h))
      safe_effect (Require at test) f st h = safe_then shape first g true p (value call p test st) _ (safe_value true call fine p test f st h) (λ t. safe_demand shape first g true p (is_true t) at)
      safe_effect (Send at label e) f st h = safe_then shape first g true p (value call p e st) _ (safe_value true call fine p e f st h) (λ x st h. sends shape first g true p label x at st h)
      safe_effect (Spawn at event args) f st h = safe_then shape first g true p (values call p args st) _ (safe_values true call fine p args f st h) (λ given st h. spawns shape first g true p event given at st old h)
      safe_effect (Do at e) f st h = safe_then shape first g true p (value call p e st) _ (safe_value true call fine p e f st h) (λ v st h. h)
      safe_effect (Return at e) f st h = safe_then shape first g true p (maybe_value call n p e st) (leave m.Returned) (safe_maybe e f st h) (λ r st h. (refl, h))
      safe_effect (Finish at e) f st h = safe_then shape first g true p (maybe_value call n p e st) (leave m.Finished) (safe_maybe e f st h) (λ r st h. h.0)

      pub safe_effects : (ss : Steps) → FitsSteps shape methods (class_of p) ss → Safe shape first g true p (effects call n p ss)
      safe_effects no_steps f st h = h
      safe_effects (step s ss) f st h = safe_then shape first g true p (effect call n p s st) (λ _. effects call n p ss) (safe_effect s f.0 st h) (λ u. safe_effects ss f.1)

      pub safe_else : (e : Else) → FitsElse shape methods (class_of p) e → Safe shape first g true p (else_effect call n p e)
      safe_else no_else f st h = h
      safe_else (otherwise ss) f st h = safe_effects ss f st h

    pub safe_last : (last : Option Last) → FitsLast shape methods (class_of p) last → Safe shape first g true p (last_value call n p last)
    safe_last None f st h = h
    safe_last (Some last) f st h = safe_then shape first g true p (value call p (tree_of last.value) st) (λ x. give (Some x)) (safe_value true call fine p (tree_of last.value) f st h) (λ x st h. h)

  safe_locals : (p : Path) (locals : List Value) (o : Outcome (Option Value)) → Good shape first g true p o → Good shape first g false p (with_locals locals o)
  safe_locals p locals (Done r st) h = h
  safe_locals p locals (Trapped k at w) h = h
  safe_locals p locals (Left (m.Returned r) st) h = h.1
  safe_locals p locals (Left (m.Finished r) st) h = h

  module _ (old : g ≤ 4) (fit : All (FitsMethod shape methods) methods) where
    pub safe_called : (n : ℕ) → IsFine (call_act methods n)
    unfolding call_act
    safe_called zero m count p given is st h = h.0
    safe_called (suc n) m count p given is st h = subst (λ o. Good shape first g false p (run_method (call_act methods n) n o p given st)) (sym is.is_there) (by_method (safe_called n) is.method is.class_is (all_at (FitsMethod shape methods) methods m is.method is.is_there fit))
      where
        by_method : IsFine (call_act methods n) → (x : Method) → x.class.0 ≡ class_of p → FitsMethod shape methods x → Good shape first g false p (run_method (call_act methods n) n (Some x) p given st)
        by_method fine x e f =
            safe_locals p st.locals _ (safe_then shape first g true p (effects (call_act methods n) n p (steps_in x.body) _) (λ _. last_value (call_act methods n) n p x.last)
            (safe_effects old (call_act methods n) fine n p (steps_in x.body) (subst (λ c. FitsSteps shape methods c (steps_in x.body)) e f.body) _ h)
            (λ u. safe_last old (call_act methods n) fine n p x.last (subst (λ c. FitsLast shape methods c x.last) e f.last)))

    pub ends_phases : (n : ℕ) (phases : List Phase) (last : Option Last) (p : Path) → FitsPhases shape methods (class_of p) phases last → (st : State) → At shape first g p st.world → Ends shape first g (phases_run (call_act methods n) n phases last p st)
    ends_phases n [] last p f st h = ends_good shape first g true p _ (safe_last old (call_act methods n) (safe_called n) n p last f st h)
    ends_phases n (x ∷ xs) last p f st h =
        ends_then shape first g true p (value (call_act methods n) p (tree_of x.key) st) _ (safe_value true (call_act methods n) (safe_called n) p (tree_of x.key) f.1 st h) (λ k st h.
        let q = child p x.class.0 k in
        let c = class_below p x.class.0 k in
        ends_then shape first g false q (enter_at q x.at st) _ (enters_child shape first g p x.class.0 k x.at st h f.0) (λ u st h.
        ends_then shape first g true q (effects (call_act methods n) n q (steps_in x.body) _) _ (safe_effects old (call_act methods n) (safe_called n) n q (steps_in x.body) (subst (λ c. FitsSteps shape methods c (steps_in x.body)) (sym c) f.2) _ (releases shape first g q q st.world h)) (λ u st h.
        ends_phases n xs last q (subst (λ c. FitsPhases shape methods c xs last) (sym c) f.3) st h)))

    pub ends_event : (n : ℕ) (e : Event) (given : List Value) (w : World) → FitsEvent shape methods e → At shape first g [] w → Ends shape first g (event_run methods n e given w)
    ends_event n e given w f h =
        ends_then shape first g true [] (effects (call_act methods n) n [] (steps_in e.here) _) _ (safe_effects old (call_act methods n) (safe_called n) n [] (steps_in e.here) f.here _ h)
        (λ u st h. ends_phases n e.phases e.last [] f.phases st h)
