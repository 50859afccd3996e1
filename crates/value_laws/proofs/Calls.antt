-- A call on bounded contexts leaves such contexts, and tells, sends and creates nothing else: an induction over what the meaning recurses on.
use Rattle.std.proofs.Common.{◌≡◌, ℕ, zero, suc, ◌+◌, true, false, List, [], ◌∷◌, get_or, slice_get, Option, Some, None, All, FitsSigned, w64, refl}
use Rattle.std.proofs.lemmas.List.Elements.{All-cons, All-head, All-nil, All-tail}
use Rattle.wave_base.proofs.Lists.{all_at}
use Rattle.wave_base.specs.declared.call.Call.{Call as CallOf}
use Rattle.wave_base.specs.declared.path.Path.{Path}
use Rattle.wave_base.specs.declared.path.Step.{Step as PathStep}
use Rattle.wave_base.specs.declared.value.Value.{Value}
use Rattle.wave_base.specs.declared.value.Value.TheVariants.{Bool as Truth}
use Rattle.wave_base.specs.declared.limits.TheConstants.{TICKS}
use Rattle.wave_base.specs.Tree as t
use Rattle.value_ops.specs.Operators.{apply_row}
use Rattle.resolved_service.specs.declared.service.Event.{Event}
use Rattle.resolved_service.specs.declared.service.Last.{Last}
use Rattle.resolved_service.specs.declared.service.Method.{Method}
use Rattle.resolved_service.specs.declared.service.Phase.{Phase}
use Rattle.resolved_service.specs.declared.service.Resolved.{Resolved}
use Rattle.resolved_service.specs.Jobs.{call_meaning, event_end, first_world, meant_by, meant_event, outcome_of_reply}
use Rattle.resolved_service.specs.Meaning.{State, Returned, Finished, Outcome, Done, Trapped, Left, Act, give, tick, enter_at, set_local, put_field, row_put, row_cut, worth, value, values, for_test, for_body, maybe_value, effect, effects, else_effect, last_value, with_locals, with_blanks, run_method, call_act, phases_run, event_run}
use Rattle.resolved_service.specs.Steps.{Step, SetLocal, SetField, PutLocal, PutField, CutLocal, CutField, If, While, For, Require, Send, Spawn, Do, Return, Finish, Steps, no_steps, step, Else, no_else, otherwise, steps_in}
use Rattle.resolved_service.specs.View.{Tree, Const, Local, Field, Above, Op, And, Or, Call, Child, Trees, no_trees, tree, tree_of}
use Rattle.resolved_service.specs.World.{World, nothing, is_true, child, releasing, read_field}
use Rattle.snapshot_text.specs.Shots.{IsValue}
use Rattle.wave_meaning.specs.Meaning.{call_ran}
use Rattle.value_laws.proofs.Acts.{IsBounded, Sound, IsMaybe, Any, Good, Safe, then_good, choose_good, answer_good, answered, set_good, back_good, enter_good, send_good, spawn_good, demand_good, tick_good, field_is, above_is, put_good, while_good, for_good, test_good, child_is, one_of, two_are, three_are, with_blanks_are, nothing_is}
use Rattle.value_laws.proofs.Rows.{row_given}
use Rattle.value_laws.specs.Services.{BoundedTree, BoundedTrees, BoundedMaybe, BoundedStep, BoundedSteps, BoundedElse, BoundedLast, BoundedMethod, BoundedPhase, BoundedEvent, BoundedService}
use Rattle.value_laws.specs.Values.{IsKeyed, AreValues, BoundedContexts, BoundedCall, BoundedMessage, BoundedOutcome, BoundedRan}

worth_is : (r : Option Value) → IsMaybe r → IsValue (worth r)
worth_is None h = nothing_is
worth_is (Some v) h = h

-- ---- expressions and statements, where the calls that are met are good

module _ (call : ℕ → Path → List Value → Act (Option Value)) (calls : (m : ℕ) (q : Path) (given : List Value) → IsKeyed q → AreValues given → Safe IsMaybe (call m q given)) where
  module _ (p : Path) (keyed : IsKeyed p) where
    mutual
      value_good : (t : Tree) → BoundedTree t → Safe IsValue (value call p t)
      value_good (Const at v) b st h = (b, h)
      value_good (Local at slot) b st h = (one_of st.locals slot h.locals, h)
      value_good (Field at f) b st h = (field_is f p st.world h.world, h)
      value_good (Above at level f) b st h = (above_is level f p st.world h.world, h)
      value_good (Op at row ts) b st h = then_good AreValues IsValue (values call p ts st) _ (values_good ts b st h) (λ xs g. answer_good (apply_row row xs) at (row_given row xs g))
      value_good (And at x y) b st h =
          then_good IsValue IsValue (value call p x st) _ (value_good x b.0 st h) (λ v _. choose_good IsValue (is_true v) (value call p y) (give (Truth false)) (value_good y b.1) (λ st h. (tt, h)))
      value_good (Or at x y) b st h =
          then_good IsValue IsValue (value call p x st) _ (value_good x b.0 st h) (λ v _. choose_good IsValue (is_true v) (give (Truth true)) (value call p y) (λ st h. (tt, h)) (value_good y b.1))
      value_good (Call at m ts) b st h =
          then_good AreValues IsValue (values call p ts st) _ (values_good ts b st h)
          (λ given g st h. then_good Any IsValue (tick at st) _ (tick_good at st h)
          (λ u _ st h. then_good IsMaybe IsValue (call m p given st) _ (calls m p given keyed g st h) (λ r e st h. (worth_is r e, h))))
      value_good (Child at class m key ts) b st h =
          then_good IsValue IsValue (value call p key st) _ (value_good key b.0 st h)
          (λ c f st h. then_good AreValues IsValue (values call p ts st) _ (values_good ts b.1 st h)
          (λ given g st h. then_good Any IsValue (tick at st) _ (tick_good at st h)
          (λ u _ st h. then_good Any IsValue (enter_at (child p class c) at st) _ (enter_good (child p class c) at (child_is p class c keyed f) st h)
          (λ u _ st h. then_good IsMaybe IsValue (call m (child p class c) given st) _ (calls m (child p class c) given (child_is p class c keyed f) g st h)
          (λ r e st h. back_good IsValue (worth r) st (worth_is r e) h)))))

      values_good : (ts : Trees) → BoundedTrees ts → Safe AreValues (values call p ts)
      values_good no_trees b st h = (All-nil IsValue, h)
      values_good (tree t ts) b st h =
          then_good IsValue AreValues (value call p t st) _ (value_good t b.0 st h)
          (λ v f st h. then_good AreValues AreValues (values call p ts st) _ (values_good ts b.1 st h) (λ vs fs st h. (All-cons IsValue v vs f fs, h)))

    module _ (n : ℕ) where
      maybe_good : (o : Option Tree) → BoundedMaybe o → Safe IsMaybe (maybe_value call n p o)
      maybe_good None b st h = (tt, h)
      maybe_good (Some t) b st h = then_good IsValue IsMaybe (value call p t st) _ (value_good t b st h) (λ x f st h. (f, h))

      mutual
        effect_good : (s : Step) → BoundedStep s → Safe Any (effect call n p s)
        effect_good (SetLocal at slot t) b st h = then_good IsValue Any (value call p t st) _ (value_good t b st h) (set_good slot)
        effect_good (SetField at f t) b st h = then_good IsValue Any (value call p t st) _ (value_good t b st h) (put_good f p)
        effect_good (PutLocal at slot key t) b st h =
            then_good IsValue Any (value call p key st) _ (value_good key b.0 st h)
            (λ x f st h. then_good IsValue Any (value call p t st) _ (value_good t b.1 st h)
            (λ y g st h. answered row_put (get_or st.locals slot nothing ∷ x ∷ y ∷ []) at (three_are _ _ _ (one_of st.locals slot h.locals) f g) (set_local slot) (set_good slot) st h))
        effect_good (PutField at f key t) b st h =
            then_good IsValue Any (value call p key st) _ (value_good key b.0 st h)
            (λ x e st h. then_good IsValue Any (value call p t st) _ (value_good t b.1 st h)
            (λ y g st h. answered row_put (read_field f p st.world ∷ x ∷ y ∷ []) at (three_are _ _ _ (field_is f p st.world h.world) e g) (put_field f p) (put_good f p) st h))
        effect_good (CutLocal at slot key) b st h =
            then_good IsValue Any (value call p key st) _ (value_good key b st h)
            (λ x f st h. answered row_cut (get_or st.locals slot nothing ∷ x ∷ []) at (two_are _ _ (one_of st.locals slot h.locals) f) (set_local slot) (set_good slot) st h)
        effect_good (CutField at f key) b st h =
            then_good IsValue Any (value call p key st) _ (value_good key b st h)
            (λ x e st h. answered row_cut (read_field f p st.world ∷ x ∷ []) at (two_are _ _ (field_is f p st.world h.world) e) (put_field f p) (put_good f p) st h)
        effect_good (If at test body other) b st h =
            then_good IsValue Any (value call p test st) _ (value_good test b.0 st h)
            (λ t _. choose_good Any (is_true t) (effects call n p body) (else_effect call n p other) (effects_good body b.1) (else_good other b.2))
        effect_good (While at test body) b st h = while_good n (value call p test) (effects call n p body) at (value_good test b.0) (effects_good body b.1) st h
        effect_good (For at counter from to body) b st h =
            then_good IsValue Any (value call p from st) _ (value_good from b.0 st h)
            (λ x f st h. then_good IsValue Any (value call p to _) _ (value_good to b.1 _ (set_good counter x f st h).1)
            (λ y g st h. while_good n (for_test counter at) (for_body counter at (effects call n p body)) at (test_good counter at) (for_good counter at (effects call n p body) (effects_good body b.2)) _ (set_good (counter + 1) y g st h).1))
        effect_good (Require at t) b st h = then_good IsValue Any (value call p t st) _ (value_good t b st h) (λ x _. demand_good (is_true x) at)
        effect_good (Send at label t) b st h = then_good IsValue Any (value call p t st) _ (value_good t b.1 st h) (λ x f. send_good label x at b.0 f)
        effect_good (Spawn at event ts) b st h = then_good AreValues Any (values call p ts st) _ (values_good ts b st h) (λ given g. spawn_good event given at g)
        effect_good (Do at t) b st h = then_good IsValue Any (value call p t st) _ (value_good t b st h) (λ v _ st h. (tt, h))
        effect_good (Return at o) b st h = then_good IsMaybe Any (maybe_value call n p o st) _ (maybe_good o b st h) (λ r e st h. (e, h))
        effect_good (Finish at o) b st h = then_good IsMaybe Any (maybe_value call n p o st) _ (maybe_good o b st h) (λ r e st h. (e, h))

        effects_good : (ss : Steps) → BoundedSteps ss → Safe Any (effects call n p ss)
        effects_good no_steps b st h = (tt, h)
        effects_good (step s ss) b st h = then_good Any Any (effect call n p s st) _ (effect_good s b.0 st h) (λ u _. effects_good ss b.1)

        else_good : (o : Else) → BoundedElse o → Safe Any (else_effect call n p o)
        else_good no_else b st h = (tt, h)
        else_good (otherwise ss) b st h = effects_good ss b st h

      last_good : (last : Option Last) → BoundedLast last → Safe IsMaybe (last_value call n p last)
      last_good None b st h = (tt, h)
      last_good (Some last) b st h = then_good IsValue IsMaybe (value call p (tree_of last.value) st) _ (value_good (tree_of last.value) b st h) (λ x f st h. (f, h))

  -- ---- methods and phases

  returned : (locals : List Value) → AreValues locals → (o : Outcome (Option Value)) → Good IsMaybe o → Good IsMaybe (with_locals locals o)
  returned locals l (Done r st) h = (h.0, record { locals = l; world = (h.1).world })
  returned locals l (Trapped k at w) h = h
  returned locals l (Left (Returned r) st) h = (h.0, record { locals = l; world = (h.1).world })
  returned locals l (Left (Finished r) st) h = (h.0, record { locals = l; world = (h.1).world })

  method_good : (n : ℕ) (o : Option Method) → ((m : Method) → o ≡ Some m → BoundedMethod m) → (p : Path) (given : List Value) → IsKeyed p → AreValues given → Safe IsMaybe (run_method call n o p given)
  method_good n None b p given keyed g st h = (tt, h)
  method_good n (Some m) b p given keyed g st h =
      let bounded = b m refl in
      returned st.locals h.locals _
      (then_good Any IsMaybe (effects call n p (steps_in m.body) (record { locals = with_blanks given m.locals; world = st.world })) _
      (effects_good p keyed n (steps_in m.body) bounded.body _ (record { locals = with_blanks_are given m.locals g; world = h.world }))
      (λ u _. last_good p keyed n m.last bounded.last))

  released : (q : Path) (st : State) → Sound st → Sound (record { locals = st.locals; world = releasing q st.world })
  released q st h = record { locals = h.locals; world = record { tree = (h.world).tree; entered = (h.world).entered; messages = (h.world).messages; created = (h.world).created } }

  phases_good : (n : ℕ) (fs : List Phase) (last : Option Last) → All BoundedPhase fs → BoundedLast last → (p : Path) → IsKeyed p → Safe IsMaybe (phases_run call n fs last p)
  phases_good n [] last bs b p keyed st h = last_good p keyed n last b st h
  phases_good n (f ∷ fs) last bs b p keyed st h =
      let first : BoundedPhase f = All-head BoundedPhase f fs bs in
      then_good IsValue IsMaybe (value call p (tree_of f.key) st) _ (value_good p keyed (tree_of f.key) first.key st h)
      (λ c g st h. then_good Any IsMaybe (enter_at (child p f.class.0 c) f.at st) _ (enter_good (child p f.class.0 c) f.at (child_is p f.class.0 c keyed g) st h)
      (λ u _ st h. then_good Any IsMaybe (effects call n (child p f.class.0 c) (steps_in f.body) _) _ (effects_good (child p f.class.0 c) (child_is p f.class.0 c keyed g) n (steps_in f.body) first.body _ (released (child p f.class.0 c) st h))
      (λ u _. phases_good n fs last (All-tail BoundedPhase f fs bs) b (child p f.class.0 c) (child_is p f.class.0 c keyed g))))

-- ---- calls and events

module _ (service : Resolved) (bounded : BoundedService service) where
  called_good : (n m : ℕ) (q : Path) (given : List Value) → IsKeyed q → AreValues given → Safe IsMaybe (call_act service.methods n m q given)
  unfolding call_act
  called_good zero m q given keyed g st h = h.world
  called_good (suc n) m q given keyed g st h =
      method_good (call_act service.methods n) (called_good n) n (slice_get service.methods m) (λ x e. all_at BoundedMethod service.methods m x e bounded.methods) q given keyed g st h

  root_keyed : IsKeyed []
  root_keyed = All-nil (λ (s : PathStep). FitsSigned w64 s.key)

  event_good : (n : ℕ) (e : Event) (given : List Value) (w : World) → BoundedEvent e → AreValues given → IsBounded w → Good IsMaybe (event_run service.methods n e given w)
  event_good n e given w b g h =
      then_good Any IsMaybe (effects (call_act service.methods n) n [] (steps_in e.here) (record { locals = with_blanks given e.locals; world = w })) _
      (effects_good (call_act service.methods n) (called_good n) [] root_keyed n (steps_in e.here) b.here _ (record { locals = with_blanks_are given e.locals g; world = h }))
      (λ u _. phases_good (call_act service.methods n) (called_good n) n e.phases e.last b.phases b.last [] root_keyed)

  first_good : (generation : ℕ) (before : t.Tree (List Value)) → BoundedContexts before → IsBounded (first_world generation before)
  first_good generation before h = record { tree = h; entered = All-cons IsKeyed [] [] root_keyed (All-nil IsKeyed); messages = All-nil BoundedMessage; created = All-nil BoundedCall }

  replied_is : (r : Option Value) → IsMaybe r → BoundedOutcome (outcome_of_reply r)
  replied_is None h = tt
  replied_is (Some x) h = h

  ended_is : (r : Option Value) (w : World) → IsMaybe r → IsBounded w → BoundedRan (event_end r w).ran
  ended_is r w f h = record { tree = h.tree; result = record { outcome = replied_is r f; messages = h.messages; created = h.created }; entered = h.entered }

  meant_is : (o : Outcome (Option Value)) → Good IsMaybe o → BoundedRan (meant_by o).ran
  meant_is (Done r st) h = ended_is r st.world h.0 (h.1).world
  meant_is (Left (Returned r) st) h = ended_is r st.world h.0 (h.1).world
  meant_is (Left (Finished r) st) h = ended_is r st.world h.0 (h.1).world
  meant_is (Trapped k at w) h = record { tree = h.tree; result = record { outcome = tt; messages = All-nil BoundedMessage; created = All-nil BoundedCall }; entered = h.entered }

  pub calls_bounded : (before : t.Tree (List Value)) (call : CallOf) → BoundedContexts before → BoundedCall call → BoundedRan (call_ran service before call)
  unfolding call_meaning
  calls_bounded before call h g = by (slice_get service.events call.event) refl
    where
      by : (o : Option Event) → slice_get service.events call.event ≡ o → BoundedRan (meant_event service o call before).ran
      by None e = record { tree = h; result = record { outcome = tt; messages = All-nil BoundedMessage; created = All-nil BoundedCall }; entered = All-nil IsKeyed }
      by (Some x) e =
          meant_is (event_run service.methods TICKS x call.args (first_world call.generation before))
          (event_good TICKS x call.args (first_world call.generation before) (all_at BoundedEvent service.events call.event x e bounded.events) g (first_good call.generation before h))
