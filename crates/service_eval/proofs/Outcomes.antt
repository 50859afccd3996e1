-- One act after the other.
use Rattle.std.proofs.Common.{◌≡◌, suc, List, [], ◌∷◌, ◌++◌, length, take, drop, get_or, Option, refl, ap, ◌∙◌}
use Rattle.std.proofs.Math.Seq.{take-append_seam, drop-append_seam}
use Rattle.wave_base.specs.declared.path.Path.{Path}
use Rattle.wave_base.specs.declared.span.Span.{Span}
use Rattle.wave_base.specs.declared.trap.TrapKind.{TrapKind}
use Rattle.wave_base.specs.declared.value.Value.{Value}
use Rattle.resolved_service.specs.declared.service.Method.{Method}
use Rattle.resolved_service.specs.Meaning.{State, Returned, Finished, Outcome, Done, Trapped, Left, Act, and_then, give}
use Rattle.resolved_service.specs.World.{World, nothing}
use Rattle.service_eval.specs.declared.stop.Stop.{Stop}
use Rattle.service_eval.specs.declared.stop.Stop.TheVariants as stop
use Rattle.service_eval.specs.inner.Items.{Item, Eval, Evals, Apply, AndThen, OrElse, Invoke, Child, Block, Begin, Finish, Turns, Check, Counts, Again, Return, to_return}
use Rattle.service_eval.specs.inner.Machines.{resume, come_of, own}
use Rattle.service_eval.specs.inner.Traces.{uncounted_world, uncounted_outcome, Traps, Ends, Fails}

pub assoc : {A B C : Type 0} (o : Outcome A) (f : A → Act B) (g : B → Act C) → and_then (and_then o f) g ≡ and_then o (λ a st. and_then (f a st) g)
assoc (Done a st) f g = refl
assoc (Trapped k at w) f g = refl
assoc (Left l st) f g = refl

pub regroup : {A B : Type 0} (o : Outcome A) (f g : A → Act B) → ((a : A) (st : State) → f a st ≡ g a st) → and_then o f ≡ and_then o g
regroup (Done a st) f g h = h a st
regroup (Trapped k at w) f g h = refl
regroup (Left l st) f g h = refl

-- a value is put down, and then taken up
pub feeds : {A B C : Type 0} (o : Outcome A) (f : A → Act B) (view : A → C) (g : C → Act B) → ((a : A) (st : State) → f a st ≡ g (view a) st) → and_then o f ≡ and_then (and_then o (λ a. give (view a))) g
feeds (Done a st) f view g h = h a st
feeds (Trapped k at w) f view g h = refl
feeds (Left l st) f view g h = refl

pub traps_then : {A B : Type 0} (o : Outcome A) (f : A → Act B) (e : Stop) (w : World) → Traps o e w → Traps (and_then o f) e w
traps_then o f (stop.OutOfMemory _) w h = tt
traps_then o f (stop.Trapped t) w h = ap (λ o. and_then o f) h
traps_then o f (stop.Ended r) w h = h

pub fails_then : {A B : Type 0} (o : Outcome A) (f : A → Act B) (e : Stop) (w : World) → Fails (uncounted_outcome o) e w → Fails (uncounted_outcome (and_then o f)) e w
fails_then o f (stop.OutOfMemory _) w h = tt
fails_then (Done a st) f (stop.Trapped t) w h = absurd cc
fails_then (Trapped k at v) f (stop.Trapped t) w h =
    let a : k ≡ t.kind = cc in let b : at ≡ t.at = cc in let c : uncounted_world v ≡ uncounted_world w = cc in λ i. Trapped (a i) (b i) (c i)
fails_then (Left l st) f (stop.Trapped t) w h = absurd cc
fails_then {A} (Done a st) f (stop.Ended r) w h = let is : ◌≡◌ {A = Outcome A} (uncounted_outcome (Done a st)) (Left h.why h.state) = h.is in absurd cc
fails_then {A} (Trapped k at v) f (stop.Ended r) w h = let is : ◌≡◌ {A = Outcome A} (uncounted_outcome (Trapped k at v)) (Left h.why h.state) = h.is in absurd cc
fails_then {A} (Left l st) f (stop.Ended r) w h =
    let is : ◌≡◌ {A = Outcome A} (uncounted_outcome (Left l st)) (Left h.why h.state) = h.is in
    let a : l ≡ h.why = cc in
    let b : record { locals = st.locals; world = uncounted_world st.world } ≡ h.state = cc in
    record { why = h.why; state = h.state; is = λ i. Left (a i) (b i); replies = h.replies; leaves = h.leaves }

pub traps_fail : {A : Type 0} (o : Outcome A) (e : Stop) (w : World) → Traps o e w → Fails (uncounted_outcome o) e w
traps_fail o (stop.OutOfMemory _) w h = tt
traps_fail o (stop.Trapped t) w h = ap uncounted_outcome h
traps_fail o (stop.Ended r) w h = absurd h

-- a trap ends all
pub trap_through : (methods : List Method) (items : List Item) (p : Path) (k : TrapKind) (at : Span) (w : World) → resume methods items p (Trapped k at w) ≡ Trapped k at w
trap_through methods [] p k at w = refl
trap_through methods (Return locals below up ∷ items) p k at w = trap_through methods items _ k at w
trap_through methods (Eval t ∷ items) p k at w = trap_through methods items p k at w
trap_through methods (Evals ts ∷ items) p k at w = trap_through methods items p k at w
trap_through methods (Apply a row base ∷ items) p k at w = trap_through methods items p k at w
trap_through methods (AndThen right base ∷ items) p k at w = trap_through methods items p k at w
trap_through methods (OrElse right base ∷ items) p k at w = trap_through methods items p k at w
trap_through methods (Invoke a method base ∷ items) p k at w = trap_through methods items p k at w
trap_through methods (Child a class method base ∷ items) p k at w = trap_through methods items p k at w
trap_through methods (Block steps ∷ items) p k at w = trap_through methods items p k at w
trap_through methods (Begin s ∷ items) p k at w = trap_through methods items p k at w
trap_through methods (Finish a what base ∷ items) p k at w = trap_through methods items p k at w
trap_through methods (Turns a test body ∷ items) p k at w = trap_through methods items p k at w
trap_through methods (Check a test body base ∷ items) p k at w = trap_through methods items p k at w
trap_through methods (Counts a counter body ∷ items) p k at w = trap_through methods items p k at w
trap_through methods (Again a counter body ∷ items) p k at w = trap_through methods items p k at w

pub fails_through : (methods : List Method) (items : List Item) (p : Path) (o : Outcome (List Value)) (e : Stop) (w : World) → Traps o e w → Fails (come_of methods items p o) e w
fails_through methods items p o (stop.OutOfMemory _) w h = tt
fails_through methods items p o (stop.Trapped t) w h = ap (come_of methods items p) h ∙ ap uncounted_outcome (trap_through methods items p t.kind t.at w)
fails_through methods items p o (stop.Ended r) w h = absurd h

-- a method that returns early goes on at its return
pub return_through : (methods : List Method) (items : List Item) (p : Path) (r : Option Value) (st : State) → come_of methods items p (Left (Returned r) st) ≡ come_of methods (to_return items) p (Left (Returned r) st)
return_through methods [] p r st = refl
return_through methods (Return locals below up ∷ items) p r st = refl
return_through methods (Eval t ∷ items) p r st = return_through methods items p r st
return_through methods (Evals ts ∷ items) p r st = return_through methods items p r st
return_through methods (Apply a row base ∷ items) p r st = return_through methods items p r st
return_through methods (AndThen right base ∷ items) p r st = return_through methods items p r st
return_through methods (OrElse right base ∷ items) p r st = return_through methods items p r st
return_through methods (Invoke a method base ∷ items) p r st = return_through methods items p r st
return_through methods (Child a class method base ∷ items) p r st = return_through methods items p r st
return_through methods (Block steps ∷ items) p r st = return_through methods items p r st
return_through methods (Begin s ∷ items) p r st = return_through methods items p r st
return_through methods (Finish a what base ∷ items) p r st = return_through methods items p r st
return_through methods (Turns a test body ∷ items) p r st = return_through methods items p r st
return_through methods (Check a test body base ∷ items) p r st = return_through methods items p r st
return_through methods (Counts a counter body ∷ items) p r st = return_through methods items p r st
return_through methods (Again a counter body ∷ items) p r st = return_through methods items p r st

-- a finish ends all
pub finish_through : (methods : List Method) (items : List Item) (p : Path) (r : Option Value) (st : State) → Ends (come_of methods items p (Left (Finished r) st)) r st.world
finish_through methods [] p r st = record { why = Finished r; state = record { locals = st.locals; world = uncounted_world st.world }; is = refl; replies = refl; leaves = refl }
finish_through methods (Return locals below up ∷ items) p r st = finish_through methods items _ r (record { locals = locals; world = st.world })
finish_through methods (Eval t ∷ items) p r st = finish_through methods items p r st
finish_through methods (Evals ts ∷ items) p r st = finish_through methods items p r st
finish_through methods (Apply a row base ∷ items) p r st = finish_through methods items p r st
finish_through methods (AndThen right base ∷ items) p r st = finish_through methods items p r st
finish_through methods (OrElse right base ∷ items) p r st = finish_through methods items p r st
finish_through methods (Invoke a method base ∷ items) p r st = finish_through methods items p r st
finish_through methods (Child a class method base ∷ items) p r st = finish_through methods items p r st
finish_through methods (Block steps ∷ items) p r st = finish_through methods items p r st
finish_through methods (Begin s ∷ items) p r st = finish_through methods items p r st
finish_through methods (Finish a what base ∷ items) p r st = finish_through methods items p r st
finish_through methods (Turns a test body ∷ items) p r st = finish_through methods items p r st
finish_through methods (Check a test body base ∷ items) p r st = finish_through methods items p r st
finish_through methods (Counts a counter body ∷ items) p r st = finish_through methods items p r st
finish_through methods (Again a counter body ∷ items) p r st = finish_through methods items p r st

-- values upon those that lie below
module _ (vs xs : List Value) where
  pub below : take (length vs) (vs ++ xs) ≡ vs
  below = take-append_seam vs xs

  pub upon : drop (length vs) (vs ++ xs) ≡ xs
  upon = drop-append_seam vs xs

  pub first_upon : (x : Value) → own 0 (length vs) (vs ++ x ∷ xs) ≡ x
  first_upon x = ap (λ ys. get_or ys 0 nothing) (drop-append_seam vs (x ∷ xs))

pub rest_upon : (vs xs : List Value) (x : Value) → drop (suc (length vs)) (vs ++ x ∷ xs) ≡ xs
rest_upon [] xs x = refl
rest_upon (v ∷ vs) xs x = rest_upon vs xs x
