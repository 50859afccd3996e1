-- Statements: their expressions first, and then what is done with their values.
use Rattle.std.proofs.Common.{◌≡◌, ℕ, ◌+◌, Bool, true, false, List, [], ◌∷◌, ◌++◌, length, Option, Some, refl, sym, ap, ◌∙◌, append_assoc}
use Rattle.wave_base.specs.declared.limits.TheConstants.{TICKS}
use Rattle.wave_base.specs.declared.path.Path.{Path}
use Rattle.wave_base.specs.declared.span.Span.{Span}
use Rattle.wave_base.specs.declared.value.Value.{Value}
use Rattle.resolved_service.specs.declared.service.Method.{Method}
use Rattle.resolved_service.specs.Meaning.{State, Returned, Finished, Outcome, Done, Trapped, Left, Act, and_then, ◌>>=◌, ◌>>◌, give, with_world, leave, choose, set_local, put_field, value, values, while_turns, for_test, for_body, effect, effects, else_effect, call_act}
use Rattle.resolved_service.specs.Steps as s
use Rattle.resolved_service.specs.Steps.{Step, Steps, no_steps, step, Else}
use Rattle.resolved_service.specs.View.{Tree, Trees}
use Rattle.resolved_service.specs.World.{is_true, spawning}
use Rattle.service_eval.specs.inner.Items.{End, SetLocal, SetField, PutLocal, PutField, CutLocal, CutField, Branch, Require, Send, Spawn, Drop, Returns, Finishes, Eval, Evals, Block, Begin, Finish, Counts, else_steps}
use Rattle.service_eval.specs.inner.Machines.{Mach, Rest, on_top, act, finish, come_of, comes_to}
use Rattle.service_eval.proofs.ElseLemmas.{else_is}
use Rattle.service_eval.proofs.Outcomes.{assoc, feeds, below, upon}

module _ (methods : List Method) (m : Mach) where
  abbrev vs : List Value
  vs = m.values

  abbrev k : ℕ → Path → List Value → Act (Option Value)
  k = call_act methods TICKS

  abbrev go : Outcome (List Value) → Outcome Rest
  go = come_of methods m.items m.path

  abbrev push : Value → Act (List Value)
  push v = give (m.values ++ v ∷ [])

  abbrev under : Unit {0} → Act (List Value)
  under u = give m.values

  abbrev ends : Span → End → List Value → Act (Unit {0})
  ends at what xs = finish (call_act methods TICKS) TICKS m.path at xs what

  abbrev finishes : Span → End → List Value → Act (List Value)
  finishes at what = act methods m.path (Finish at what (length m.values))

  pub block_parts : (first : Step) (others : Steps) → comes_to methods (on_top (Block (step first others)) m) ≡ comes_to methods (on_top (Begin first) (on_top (Block others) m))
  block_parts first others =
      ap go
      (assoc (effect k TICKS m.path first m.state) (λ _. effects k TICKS m.path others) under
      ∙ sym (assoc (effect k TICKS m.path first m.state) under (act methods m.path (Block others))))

  last_is : (o : Outcome (Unit {0})) → and_then o (λ _. give tt) ≡ o
  last_is (Done u st) = refl
  last_is (Trapped t at w) = refl
  last_is (Left l st) = refl

  -- the last of some statements
  pub block_last : (first : Step) → comes_to methods (on_top (Block (step first no_steps)) m) ≡ comes_to methods (on_top (Begin first) m)
  block_last first = ap go (ap (λ o. and_then o under) (last_is (effect k TICKS m.path first m.state)))

  -- what lies there is cut off again
  ended : (at : Span) (what : End) (xs : List Value) (st : State) → and_then (ends at what xs st) under ≡ finishes at what (m.values ++ xs) st
  ended at what xs st i = and_then (ends at what (sym (upon vs xs) i) st) (λ _. give (sym (below vs xs) i))

  one_is : (e : Tree) (at : Span) (what : End) (f : Value → Act (Unit {0})) (st : State) → ((v : Value) (st : State) → f v st ≡ ends at what (v ∷ []) st) → and_then (and_then (value k m.path e st) f) under ≡ and_then (and_then (value k m.path e st) push) (finishes at what)
  one_is e at what f st h =
      assoc (value k m.path e st) f under
      ∙ feeds (value k m.path e st) (λ v st. and_then (f v st) under) (λ v. vs ++ v ∷ []) (finishes at what)
      (λ v st. ap (λ o. and_then o under) (h v st) ∙ ended at what (v ∷ []) st)

  -- a statement of one expression
  one : (first : Step) (e : Tree) (at : Span) (what : End) (f : Value → Act (Unit {0})) → effect (call_act methods TICKS) TICKS m.path first m.state ≡ and_then (value (call_act methods TICKS) m.path e m.state) f → ((v : Value) (st : State) → f v st ≡ ends at what (v ∷ []) st) → comes_to methods (on_top (Begin first) m) ≡ comes_to methods (on_top (Eval e) (on_top (Finish at what (length m.values)) m))
  one first e at what f is h = ap go (ap (λ o. and_then o under) is ∙ one_is e at what f m.state h)

  pub set_local_parts : (at : Span) (slot : ℕ) (e : Tree) → comes_to methods (on_top (Begin (s.SetLocal at slot e)) m) ≡ comes_to methods (on_top (Eval e) (on_top (Finish at (SetLocal slot) (length m.values)) m))
  set_local_parts at slot e = one (s.SetLocal at slot e) e at (SetLocal slot) (set_local slot) refl (λ v st. refl)

  pub set_field_parts : (at : Span) (f : ℕ) (e : Tree) → comes_to methods (on_top (Begin (s.SetField at f e)) m) ≡ comes_to methods (on_top (Eval e) (on_top (Finish at (SetField f) (length m.values)) m))
  set_field_parts at f e = one (s.SetField at f e) e at (SetField f) (put_field f m.path) refl (λ v st. refl)

  pub cut_local_parts : (at : Span) (slot : ℕ) (e : Tree) → comes_to methods (on_top (Begin (s.CutLocal at slot e)) m) ≡ comes_to methods (on_top (Eval e) (on_top (Finish at (CutLocal slot) (length m.values)) m))
  cut_local_parts at slot e = one (s.CutLocal at slot e) e at (CutLocal slot) (λ v. ends at (CutLocal slot) (v ∷ [])) refl (λ v st. refl)

  pub cut_field_parts : (at : Span) (f : ℕ) (e : Tree) → comes_to methods (on_top (Begin (s.CutField at f e)) m) ≡ comes_to methods (on_top (Eval e) (on_top (Finish at (CutField f) (length m.values)) m))
  cut_field_parts at f e = one (s.CutField at f e) e at (CutField f) (λ v. ends at (CutField f) (v ∷ [])) refl (λ v st. refl)

  pub require_parts : (at : Span) (e : Tree) → comes_to methods (on_top (Begin (s.Require at e)) m) ≡ comes_to methods (on_top (Eval e) (on_top (Finish at Require (length m.values)) m))
  require_parts at e = one (s.Require at e) e at Require (λ v. ends at Require (v ∷ [])) refl (λ v st. refl)

  pub send_parts : (at : Span) (label : List ℕ) (e : Tree) → comes_to methods (on_top (Begin (s.Send at label e)) m) ≡ comes_to methods (on_top (Eval e) (on_top (Finish at (Send label) (length m.values)) m))
  send_parts at label e = one (s.Send at label e) e at (Send label) (λ v. ends at (Send label) (v ∷ [])) refl (λ v st. refl)

  pub do_parts : (at : Span) (e : Tree) → comes_to methods (on_top (Begin (s.Do at e)) m) ≡ comes_to methods (on_top (Eval e) (on_top (Finish at Drop (length m.values)) m))
  do_parts at e = one (s.Do at e) e at Drop (λ v. give tt) refl (λ v st. refl)

  pub return_parts : (at : Span) (e : Tree) → comes_to methods (on_top (Begin (s.Return at (Some e))) m) ≡ comes_to methods (on_top (Eval e) (on_top (Finish at Returns (length m.values)) m))
  return_parts at e = one (s.Return at (Some e)) e at Returns (λ v. leave Returned (Some v)) (assoc (value k m.path e m.state) (λ v. give (Some v)) (leave Returned)) (λ v st. refl)

  pub finish_parts : (at : Span) (e : Tree) → comes_to methods (on_top (Begin (s.Finish at (Some e))) m) ≡ comes_to methods (on_top (Eval e) (on_top (Finish at Finishes (length m.values)) m))
  finish_parts at e = one (s.Finish at (Some e)) e at Finishes (λ v. leave Finished (Some v)) (assoc (value k m.path e m.state) (λ v. give (Some v)) (leave Finished)) (λ v st. refl)

  chosen : (b : Bool) (body : Steps) (other : Else) (st : State) → choose b (effects k TICKS m.path body) (else_effect k TICKS m.path other) st ≡ choose b (effects k TICKS m.path body) (effects k TICKS m.path (else_steps other)) st
  chosen true body other st = refl
  chosen false body other st = else_is k TICKS m.path other st

  pub if_parts : (at : Span) (e : Tree) (body : Steps) (other : Else) → comes_to methods (on_top (Begin (s.If at e body other)) m) ≡ comes_to methods (on_top (Eval e) (on_top (Finish at (Branch body (else_steps other)) (length m.values)) m))
  if_parts at e body other =
      one (s.If at e body other) e at (Branch body (else_steps other)) (λ t. choose (is_true t) (effects k TICKS m.path body) (else_effect k TICKS m.path other)) refl (λ v st. chosen (is_true v) body other st)

  pub spawn_parts : (at : Span) (event : ℕ) (ts : Trees) → comes_to methods (on_top (Begin (s.Spawn at event ts)) m) ≡ comes_to methods (on_top (Evals ts) (on_top (Finish at (Spawn event) (length m.values)) m))
  spawn_parts at event ts =
      ap go
      (assoc (values k m.path ts m.state) (λ given st. with_world (spawning event given st.world) at st) under
      ∙ feeds (values k m.path ts m.state) (λ given st. and_then (with_world (spawning event given st.world) at st) under) (λ more. vs ++ more) (finishes at (Spawn event)) (λ given st. ended at (Spawn event) given st))

  -- a statement of two expressions
  two : (first : Step) (a b : Tree) (at : Span) (what : End) → effect (call_act methods TICKS) TICKS m.path first m.state ≡ and_then (value (call_act methods TICKS) m.path a m.state) (λ x. value (call_act methods TICKS) m.path b >>= (λ y. finish (call_act methods TICKS) TICKS m.path at (x ∷ y ∷ []) what)) → comes_to methods (on_top (Begin first) m) ≡ comes_to methods (on_top (Eval a) (on_top (Eval b) (on_top (Finish at what (length m.values)) m)))
  two first a b at what is =
      ap go
      (ap (λ o. and_then o under) is
      ∙ assoc (value k m.path a m.state) (λ x. value k m.path b >>= (λ y. ends at what (x ∷ y ∷ []))) under
      ∙ feeds (value k m.path a m.state) (λ x st. and_then ((value k m.path b >>= (λ y. ends at what (x ∷ y ∷ []))) st) under) (λ x. vs ++ x ∷ []) (λ ws st. and_then (act methods m.path (Eval b) ws st) (finishes at what))
      (λ x st.
      assoc (value k m.path b st) (λ y. ends at what (x ∷ y ∷ [])) under
      ∙ feeds (value k m.path b st) (λ y st. and_then (ends at what (x ∷ y ∷ []) st) under) (λ y. (vs ++ x ∷ []) ++ y ∷ []) (finishes at what)
      (λ y st. ended at what (x ∷ y ∷ []) st ∙ ap (λ ws. finishes at what ws st) (sym (append_assoc vs (x ∷ []) (y ∷ [])))))
      ∙ sym (assoc (and_then (value k m.path a m.state) push) (act methods m.path (Eval b)) (finishes at what)))

  pub put_local_parts : (at : Span) (slot : ℕ) (a b : Tree) → comes_to methods (on_top (Begin (s.PutLocal at slot a b)) m) ≡ comes_to methods (on_top (Eval a) (on_top (Eval b) (on_top (Finish at (PutLocal slot) (length m.values)) m)))
  put_local_parts at slot a b = two (s.PutLocal at slot a b) a b at (PutLocal slot) refl

  pub put_field_parts : (at : Span) (f : ℕ) (a b : Tree) → comes_to methods (on_top (Begin (s.PutField at f a b)) m) ≡ comes_to methods (on_top (Eval a) (on_top (Eval b) (on_top (Finish at (PutField f) (length m.values)) m)))
  put_field_parts at f a b = two (s.PutField at f a b) a b at (PutField f) refl

  -- a loop over numbers
  module _ (at : Span) (counter : ℕ) (from to : Tree) (body : Steps) where
    abbrev turns : Act (Unit {0})
    turns = while_turns TICKS (for_test counter at) (for_body counter at (effects (call_act methods TICKS) TICKS m.path body)) at

    abbrev upper : Act (Unit {0})
    upper = value (call_act methods TICKS) m.path to >>= (λ b. set_local (counter + 1) b >> turns)

    upper_is : (st : State) → and_then (upper st) under ≡ and_then (and_then (and_then (value k m.path to st) push) (finishes at (SetLocal (counter + 1)))) (act methods m.path (Counts at counter body))
    upper_is st =
        ap (λ o. and_then o under) (sym (assoc (value k m.path to st) (set_local (counter + 1)) (λ _. turns)))
        ∙ assoc (and_then (value k m.path to st) (set_local (counter + 1))) (λ _. turns) under
        ∙ sym (assoc (and_then (value k m.path to st) (set_local (counter + 1))) under (act methods m.path (Counts at counter body)))
        ∙ ap (λ o. and_then o (act methods m.path (Counts at counter body))) (one_is to at (SetLocal (counter + 1)) (set_local (counter + 1)) st (λ v st. refl))

    abbrev then_upper : Outcome (List Value) → Outcome (List Value)
    then_upper o = and_then (and_then (and_then o (act methods m.path (Eval to))) (finishes at (SetLocal (counter + 1)))) (act methods m.path (Counts at counter body))

    lower_first : (o : Outcome (Unit {0})) → and_then o (λ _ st. and_then (upper st) under) ≡ then_upper (and_then o under)
    lower_first (Done u st) = upper_is st
    lower_first (Trapped t at w) = refl
    lower_first (Left l st) = refl

    pub for_parts : comes_to methods (on_top (Begin (s.For at counter from to body)) m) ≡ comes_to methods (on_top (Eval from) (on_top (Finish at (SetLocal counter) (length m.values)) (on_top (Eval to) (on_top (Finish at (SetLocal (counter + 1)) (length m.values)) (on_top (Counts at counter body) m)))))
    for_parts =
        ap go
        (ap (λ o. and_then o under) (sym (assoc (value k m.path from m.state) (set_local counter) (λ _. upper)))
        ∙ assoc (and_then (value k m.path from m.state) (set_local counter)) (λ _. upper) under
        ∙ lower_first (and_then (value k m.path from m.state) (set_local counter))
        ∙ ap then_upper (one_is from at (SetLocal counter) (set_local counter) m.state (λ v st. refl)))
