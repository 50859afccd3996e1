-- What is still to be done comes to the same from outcomes that are alike.
use Rattle.std.proofs.Common.{◌≡◌, ℕ, suc, pos, true, false, List, [], ◌∷◌, ◌++◌, take, drop, get_or, refl, ap, sym, ◌∙◌, arith}
use Rattle.wave_base.specs.declared.limits.TheConstants.{TICKS}
use Rattle.wave_base.specs.declared.path.Path.{Path}
use Rattle.wave_base.specs.declared.span.Span.{Span}
use Rattle.wave_base.specs.declared.value.Value.{Value}
use Rattle.wave_base.specs.declared.value.Value.TheVariants.{Int, Bool as Truth}
use Rattle.value_ops.specs.Operators.{apply_row}
use Rattle.resolved_service.specs.declared.service.Method.{Method}
use Rattle.resolved_service.specs.Meaning.{Returned, Finished, Outcome, Done, Trapped, Left, Act, ◌>>=◌, give, answer, tick, enter_at, choose, set_local, put_field, row_add, row_put, row_cut, value, values, while_turns, for_test, for_body, effect, effects, call_act, worth}
use Rattle.resolved_service.specs.Steps.{Steps}
use Rattle.resolved_service.specs.View.{Tree}
use Rattle.resolved_service.specs.World.{nothing, is_true, child, read_field, set_field}
use Rattle.service_eval.specs.inner.Items.{End, SetLocal, SetField, PutLocal, PutField, CutLocal, CutField, Branch, Require, Send, Spawn, Drop, Returns, Finishes, Item, Eval, Evals, Apply, AndThen, OrElse, Invoke, Child, Block, Begin, Finish, Turns, Check, Counts, Again, Return}
use Rattle.service_eval.specs.inner.Machines.{rest_at, own, act, finish, turn_on, next, path_after, after_return, come_of}
use Rattle.service_eval.specs.inner.Traces.{uncounted_outcome}
use Rattle.service_eval.proofs.Likeness.{Few, Same, counted, Like, then_like, give_like, choose_like, answered, answer_like, tick_like, enter_like, send_like, spawn_like, demand_like, calls, same_value, same_values, same_effect, same_effects, same_while, same_for}

module _ (methods : List Method) (p : Path) where
  finish_like : (what : End) (at : Span) (vs : List Value) → Like TICKS (finish (call_act methods TICKS) TICKS p at vs what) (finish (call_act methods TICKS) TICKS p at vs what)
  unfolding set_field read_field
  finish_like (SetLocal slot) at vs st c h = (refl, h)
  finish_like (SetField f) at vs st c h = (refl, h)
  finish_like (PutLocal slot) at vs st c h = answered TICKS (apply_row row_put (get_or st.locals slot nothing ∷ get_or vs 0 nothing ∷ get_or vs 1 nothing ∷ [])) at (set_local slot) (λ v st c h. (refl, h)) st c h
  finish_like (PutField f) at vs st c h = answered TICKS (apply_row row_put (read_field f p st.world ∷ get_or vs 0 nothing ∷ get_or vs 1 nothing ∷ [])) at (put_field f p) (λ v st c h. (refl, h)) st c h
  finish_like (CutLocal slot) at vs st c h = answered TICKS (apply_row row_cut (get_or st.locals slot nothing ∷ get_or vs 0 nothing ∷ [])) at (set_local slot) (λ v st c h. (refl, h)) st c h
  finish_like (CutField f) at vs st c h = answered TICKS (apply_row row_cut (read_field f p st.world ∷ get_or vs 0 nothing ∷ [])) at (put_field f p) (λ v st c h. (refl, h)) st c h
  finish_like (Branch body other) at vs st c h =
      let here = effects (call_act methods TICKS) TICKS p body in
      let there = effects (call_act methods TICKS) TICKS p other in
      choose_like TICKS (is_true (get_or vs 0 nothing)) here here there there (same_effects methods TICKS p body TICKS (omega arith)) (same_effects methods TICKS p other TICKS (omega arith)) st c h
  finish_like Require at vs st c h = demand_like TICKS (is_true (get_or vs 0 nothing)) at st c h
  finish_like (Send label) at vs st c h = send_like TICKS label (get_or vs 0 nothing) at st c h
  finish_like (Spawn event) at vs st c h = spawn_like TICKS event vs at st c h
  finish_like Drop at vs st c h = (refl, h)
  finish_like Returns at vs st c h = (refl, h)
  finish_like Finishes at vs st c h = (refl, h)

  -- an act, and then values put upon those that lay there
  then_give : {A : Type 0} (a : Act A) (f : A → List Value) → Like TICKS a a → Like TICKS (a >>= (λ x. give (f x))) (a >>= (λ x. give (f x)))
  then_give a f h st c l = then_like TICKS (a st) (a (counted c st)) _ _ (h st c l) (λ x. give_like TICKS (f x))

  abbrev here : Steps → Act (Unit {0})
  here body = effects (call_act methods TICKS) TICKS p body

  abbrev found : Tree → Act Value
  found t = value (call_act methods TICKS) p t

  turn_like : (at : Span) (test : Tree) (body : Steps) (t : Value) → Like TICKS (turn_on (found test) (here body) at t) (turn_on (found test) (here body) at t)
  turn_like at test body t =
      let again : Act (Unit {0}) = here body >>= (λ _. while_turns TICKS (found test) (here body) at) in
      choose_like TICKS (is_true t) (tick at >>= (λ _. again)) (tick at >>= (λ _. again)) (give tt) (give tt)
      (tick_like TICKS at (λ _. again) (λ _. again) (λ i e st c h. then_like i (here body st) (here body (counted c st)) (λ _. while_turns TICKS (found test) (here body) at) (λ _. while_turns TICKS (found test) (here body) at) (same_effects methods TICKS p body i (omega arith) st c h) (λ u. same_while methods TICKS p test body at i (omega arith))))
      (give_like TICKS tt)

  counts_like : (at : Span) (counter : ℕ) (body : Steps) (vs : List Value) → Like TICKS (act methods p (Counts at counter body) vs) (act methods p (Counts at counter body) vs)
  counts_like at counter body vs = then_give (while_turns TICKS (for_test counter at) (for_body counter at (here body)) at) (λ _. vs) (same_for methods TICKS p counter body at TICKS (omega arith))

  act_like : (item : Item) (vs : List Value) → Like TICKS (act methods p item vs) (act methods p item vs)
  act_like (Eval t) vs = then_give (found t) (λ v. vs ++ v ∷ []) (same_value methods TICKS p t TICKS (omega arith))
  act_like (Evals ts) vs = then_give (values (call_act methods TICKS) p ts) (λ more. vs ++ more) (same_values methods TICKS p ts TICKS (omega arith))
  act_like (Apply at row base) vs = then_give (answer (apply_row row (drop base vs)) at) (λ v. take base vs ++ v ∷ []) (answer_like TICKS (apply_row row (drop base vs)) at)
  act_like (AndThen right base) vs =
      then_give (choose (is_true (own 0 base vs)) (found right) (give (Truth false))) (λ v. take base vs ++ v ∷ [])
      (choose_like TICKS (is_true (own 0 base vs)) (found right) (found right) (give (Truth false)) (give (Truth false)) (same_value methods TICKS p right TICKS (omega arith)) (give_like TICKS (Truth false)))
  act_like (OrElse right base) vs =
      then_give (choose (is_true (own 0 base vs)) (give (Truth true)) (found right)) (λ v. take base vs ++ v ∷ [])
      (choose_like TICKS (is_true (own 0 base vs)) (give (Truth true)) (give (Truth true)) (found right) (found right) (give_like TICKS (Truth true)) (same_value methods TICKS p right TICKS (omega arith)))
  act_like (Invoke at method base) vs =
      tick_like TICKS at _ _ (λ i e st c h. then_like i (call_act methods TICKS method p (drop base vs) st) (call_act methods TICKS method p (drop base vs) (counted c st)) _ _ (calls methods TICKS method p (drop base vs) i e st c h) (λ r. give_like i (take base vs ++ worth r ∷ [])))
  act_like (Child at class method base) vs =
      let q = child p class (own 0 base vs) in
      tick_like TICKS at _ _
      (λ i e st c h. then_like i (enter_at q at st) (enter_at q at (counted c st)) _ _ (enter_like i q at st c h)
      (λ u st c h. then_like i (call_act methods TICKS method q (drop (suc base) vs) st) (call_act methods TICKS method q (drop (suc base) vs) (counted c st)) _ _ (calls methods TICKS method q (drop (suc base) vs) i e st c h) (λ r st c h. (refl, h))))
  act_like (Block steps) vs = then_give (here steps) (λ _. vs) (same_effects methods TICKS p steps TICKS (omega arith))
  act_like (Begin s) vs = then_give (effect (call_act methods TICKS) TICKS p s) (λ _. vs) (same_effect methods TICKS p s TICKS (omega arith))
  act_like (Finish at what base) vs = then_give (finish (call_act methods TICKS) TICKS p at (drop base vs) what) (λ _. take base vs) (finish_like what at (drop base vs))
  act_like (Turns at test body) vs = then_give (while_turns TICKS (found test) (here body) at) (λ _. vs) (same_while methods TICKS p test body at TICKS (omega arith))
  act_like (Check at test body base) vs = then_give (turn_on (found test) (here body) at (own 0 base vs)) (λ _. take base vs) (turn_like at test body (own 0 base vs))
  act_like (Counts at counter body) vs = counts_like at counter body vs
  act_like (Again at counter body) vs =
      λ st c h. then_like TICKS (next counter at st) (next counter at (counted c st)) _ _ (answered TICKS (apply_row row_add (get_or st.locals counter nothing ∷ Int (pos 1) ∷ [])) at (set_local counter) (λ v st c h. (refl, h)) st c h)
      (λ u. counts_like at counter body vs)
  act_like (Return locals below up) vs = give_like TICKS vs

  returned_like : (locals below : List Value) (o o' : Outcome (List Value)) → Same TICKS o o' → Same TICKS (after_return locals below o) (after_return locals below o')
  returned_like locals below o o' h = (plainly o ∙ ap (λ x. uncounted_outcome (after_return locals below x)) h.0 ∙ sym (plainly o'), few o h.1)
    where
      few : (o : Outcome (List Value)) → Few TICKS o → Few TICKS (after_return locals below o)
      few (Done vs st) h = h
      few (Trapped t at w) h = tt
      few (Left (Returned r) st) h = h
      few (Left (Finished r) st) h = h

      plainly : (o : Outcome (List Value)) → uncounted_outcome (after_return locals below o) ≡ uncounted_outcome (after_return locals below (uncounted_outcome o))
      plainly (Done vs st) = refl
      plainly (Trapped t at w) = refl
      plainly (Left (Returned r) st) = refl
      plainly (Left (Finished r) st) = refl

-- the items that act
module _ (methods : List Method) where
  pub come_like : (items : List Item) (p : Path) (o o' : Outcome (List Value)) → Same TICKS o o' → come_of methods items p o ≡ come_of methods items p o'
  come_like [] p o o' h = (then_like TICKS o o' (λ vs. give (rest_at p vs)) (λ vs. give (rest_at p vs)) h (λ vs. give_like TICKS (rest_at p vs))).0
  come_like (Return locals below up ∷ items) p o o' h = come_like items (path_after up p) (after_return locals below o) (after_return locals below o') (returned_like methods p locals below o o' h)
  come_like (Eval t ∷ items) p o o' h = come_like items p _ _ (then_like TICKS o o' _ _ h (act_like methods p (Eval t)))
  come_like (Evals ts ∷ items) p o o' h = come_like items p _ _ (then_like TICKS o o' _ _ h (act_like methods p (Evals ts)))
  come_like (Apply at row base ∷ items) p o o' h = come_like items p _ _ (then_like TICKS o o' _ _ h (act_like methods p (Apply at row base)))
  come_like (AndThen right base ∷ items) p o o' h = come_like items p _ _ (then_like TICKS o o' _ _ h (act_like methods p (AndThen right base)))
  come_like (OrElse right base ∷ items) p o o' h = come_like items p _ _ (then_like TICKS o o' _ _ h (act_like methods p (OrElse right base)))
  come_like (Invoke at method base ∷ items) p o o' h = come_like items p _ _ (then_like TICKS o o' _ _ h (act_like methods p (Invoke at method base)))
  come_like (Child at class method base ∷ items) p o o' h = come_like items p _ _ (then_like TICKS o o' _ _ h (act_like methods p (Child at class method base)))
  come_like (Block steps ∷ items) p o o' h = come_like items p _ _ (then_like TICKS o o' _ _ h (act_like methods p (Block steps)))
  come_like (Begin s ∷ items) p o o' h = come_like items p _ _ (then_like TICKS o o' _ _ h (act_like methods p (Begin s)))
  come_like (Finish at what base ∷ items) p o o' h = come_like items p _ _ (then_like TICKS o o' _ _ h (act_like methods p (Finish at what base)))
  come_like (Turns at test body ∷ items) p o o' h = come_like items p _ _ (then_like TICKS o o' _ _ h (act_like methods p (Turns at test body)))
  come_like (Check at test body base ∷ items) p o o' h = come_like items p _ _ (then_like TICKS o o' _ _ h (act_like methods p (Check at test body base)))
  come_like (Counts at counter body ∷ items) p o o' h = come_like items p _ _ (then_like TICKS o o' _ _ h (act_like methods p (Counts at counter body)))
  come_like (Again at counter body ∷ items) p o o' h = come_like items p _ _ (then_like TICKS o o' _ _ h (act_like methods p (Again at counter body)))
