-- The code follows an outcome, where the rest of a body may be left out.
use Rattle.std.proofs.Common.{◌≡◌, ℕ, suc, ◌+◌, ◌≤◌, List, ◌∷◌, ◌++◌, Bool, true, false, ◌&&◌, Option, refl, arith}
use Rattle.std.specs.Prelude.{option_to_list}
use Rattle.wave_base.specs.declared.path.Path.{Path}
use Rattle.wave_base.specs.declared.span.Span.{Span}
use Rattle.wave_base.specs.declared.value.Value.{Value}
use Rattle.wave_base.specs.declared.value.Value.TheVariants as v
use Rattle.resolved_service.specs.Jobs.{outcome_of_reply}
use Rattle.resolved_service.specs.Meaning as m
use Rattle.resolved_service.specs.Meaning.{State, Leave, Outcome, Done, Trapped, Left, Act, and_then, choose, value, while_turns, effect, effects, else_effect, maybe_value}
use Rattle.resolved_service.specs.Steps.{Step, SetLocal, SetField, PutLocal, PutField, CutLocal, CutField, If, While, For, Require, Send, Spawn, Do, Return, Finish, Steps, no_steps, step, no_else, otherwise, is_end, surely_ends}
use Rattle.resolved_service.specs.World.{is_true}
use Rattle.service_code.specs.declared.instr.Instr.TheVariants as i
use Rattle.service_code.specs.declared.program.Program.{Program}
use Rattle.service_verify.specs.Fit.{IsFit}
use Rattle.service_verify.specs.Points.{IsVerified}
use Rattle.service_verify.specs.Tours.{Tour}
use Rattle.code_scheme.specs.Typed.{Within, InMethod, InEvent}
use Rattle.code_scheme.proofs.Follow.{Here, IsOver, trap_result, At, Leads, Follows, on_to, place_is, moving, steps_on, IsLine}
use Rattle.code_scheme.proofs.Places.{next}
use Rattle.code_scheme.proofs.Values.{Returned}

pub assoc : {A B C : Type 0} (o : Outcome A) (f : A → Act B) (g : B → Act C) → and_then (and_then o f) g ≡ and_then o (λ a st. and_then (f a st) g)
assoc (Done a st) f g = refl
assoc (Trapped k at w) f g = refl
assoc (Left l st) f g = refl

-- ---- what surely ends goes on to nothing

abbrev pub NeverDone : {A : Type 0} → Outcome A → Type 0
NeverDone (Done a st) = ⊥
NeverDone _ = Unit {0}

never_then : {A B : Type 0} (o : Outcome A) (f : A → Act B) → ((a : A) (st : State) → NeverDone (f a st)) → NeverDone (and_then o f)
never_then (Done a st) f h = h a st
never_then (Trapped k at w) f h = tt
never_then (Left l st) f h = tt

pub never_first : {A B : Type 0} (o : Outcome A) (f : A → Act B) → NeverDone o → NeverDone (and_then o f)
never_first (Done a st) f h = absurd h
never_first (Trapped k at w) f h = tt
never_first (Left l st) f h = tt

never_choose : {A : Type 0} (b : Bool) (f g : Act A) (st : State) → NeverDone (f st) → NeverDone (g st) → NeverDone (choose b f g st)
never_choose true f g st h k = h
never_choose false f g st h k = k

both_true : (a b : Bool) → (a && b) ≡ true → (a ≡ true) × (b ≡ true)
both_true true b h = (refl, h)
both_true false b h = absurd cc

module _ (call : ℕ → Path → List Value → Act (Option Value)) (n : ℕ) (p : Path) where
  mutual
    pub never_effect : (s : Step) → is_end s ≡ true → (st : State) → NeverDone (effect call n p s st)
    never_effect (Return at e) h st = never_then (maybe_value call n p e st) (m.leave m.Returned) (λ r st. tt)
    never_effect (Finish at e) h st = never_then (maybe_value call n p e st) (m.leave m.Finished) (λ r st. tt)
    never_effect (If at test body (otherwise ss)) h st =
        let b = both_true (surely_ends body) (surely_ends ss) h in
        never_then (value call p test st) (λ t. choose (is_true t) (effects call n p body) (effects call n p ss)) (λ t st. never_choose (is_true t) (effects call n p body) (effects call n p ss) st (never_effects body b.0 st) (never_effects ss b.1 st))
    never_effect (If at test body no_else) h st = cc
    never_effect (SetLocal at x e) h st = cc
    never_effect (SetField at x e) h st = cc
    never_effect (PutLocal at x k e) h st = cc
    never_effect (PutField at x k e) h st = cc
    never_effect (CutLocal at x k) h st = cc
    never_effect (CutField at x k) h st = cc
    never_effect (While at test body) h st = cc
    never_effect (For at counter from to body) h st = cc
    never_effect (Require at e) h st = cc
    never_effect (Send at label e) h st = cc
    never_effect (Spawn at event args) h st = cc
    never_effect (Do at e) h st = cc

    pub never_effects : (ss : Steps) → surely_ends ss ≡ true → (st : State) → NeverDone (effects call n p ss st)
    never_effects no_steps h st = cc
    never_effects (step s no_steps) h st = never_first (effect call n p s st) (λ u. effects call n p no_steps) (never_effect s h st)
    never_effects (step s (step t ss)) h st = never_then (effect call n p s st) (λ u. effects call n p (step t ss)) (λ u st. never_effects (step t ss) h st)

module _ (program : Program) (fit : IsFit program) (verified : IsVerified program) where
  -- before an instruction that ends its method, with these values on the stack
  pub record AtReturn (h : Here) (s : List Value) (st : State) (d : Tour) : Type 0 where
    pub pc : ℕ
    pub place : Span
    pub is_line : IsLine program fit verified h.fn pc i.Return place
    pub is_at : At program fit verified h pc s st d

  -- where the rest is left out: a method is about to return, and an event is over
  abbrev pub Leaving : Within → Here → ℕ → List Value → Leave → State → Tour → Type 0
  Leaving (InMethod result) h t s (m.Returned r) st d = AtReturn h (option_to_list r ++ s) st d × Returned t result r st
  Leaving (InEvent reply) h t s (m.Finished r) st d = IsOver (record { outcome = outcome_of_reply r; messages = st.world.messages; created = st.world.created }) st.world d
  Leaving _ h t s l st d = ⊥

  pub leaving_lower : (w : Within) (h : Here) (t t' : ℕ) (s : List Value) → t ≤ t' → (l : Leave) (st : State) (d : Tour) → Leaving w h t s l st d → Leaving w h t' s l st d
  leaving_lower (InMethod result) h t t' s le (m.Returned r) st d k = (k.0, (omega (arith, k.1.0, le), k.1.1))
  leaving_lower (InMethod result) h t t' s le (m.Finished r) st d k = absurd k
  leaving_lower (InEvent reply) h t t' s le (m.Returned r) st d k = absurd k
  leaving_lower (InEvent reply) h t t' s le (m.Finished r) st d k = k

  -- it comes to where the value and the state say; or it traps; or the rest is left out, and this is known
  abbrev pub PerformsTo : {A : Type 0} → Tour → (A → State → Tour → Type 0) → (A → State → Type 0) → (Leave → State → Tour → Type 0) → Outcome A → Type 0
  PerformsTo c next Known Leaves (Done a st) = (d : Tour) × Leads program fit verified c d × next a st d × Known a st
  PerformsTo c next Known Leaves (Trapped k at w) = (d : Tour) × Leads program fit verified c d × IsOver (trap_result k at) w d
  PerformsTo c next Known Leaves (Left l st) = (d : Tour) × Leads program fit verified c d × Leaves l st d

  pub record Performs {A : Type 0} (c : Tour) (next : A → State → Tour → Type 0) (Known : A → State → Type 0) (Leaves : Leave → State → Tour → Type 0) (o : Outcome A) : Type 0 where
    pub is : PerformsTo c next Known Leaves o

  pub performs : {A : Type 0} (c : Tour) (next : A → State → Tour → Type 0) (K : A → State → Type 0) (L : Leave → State → Tour → Type 0) (o : Outcome A) → Follows program fit verified c next K o → Performs c next K L o
  performs c next K L (Done a st) f = record { is = f.is }
  performs c next K L (Trapped k at w) f = record { is = f.is }
  performs c next K L (Left l st) f = absurd f.is

  pub lead_to : {A : Type 0} (c d : Tour) (next : A → State → Tour → Type 0) (K : A → State → Type 0) (L : Leave → State → Tour → Type 0) (o : Outcome A) → Leads program fit verified c d → Performs d next K L o → Performs c next K L o
  lead_to c d next K L (Done a st) l f = record { is = (f.is.0, on_to program fit verified c d f.is.0 l f.is.1, f.is.2, f.is.3) }
  lead_to c d next K L (Trapped k at w) l f = record { is = (f.is.0, on_to program fit verified c d f.is.0 l f.is.1, f.is.2) }
  lead_to c d next K L (Left x st) l f = record { is = (f.is.0, on_to program fit verified c d f.is.0 l f.is.1, f.is.2) }

  -- what is never left, and then what may be
  pub bind_to : {A B : Type 0} (c : Tour) (next : A → State → Tour → Type 0) (K : A → State → Type 0) (next' : B → State → Tour → Type 0) (K' : B → State → Type 0) (L : Leave → State → Tour → Type 0) (o : Outcome A) (f : A → Act B) →
      Follows program fit verified c next K o → ((a : A) (st : State) (d : Tour) → next a st d → K a st → Performs d next' K' L (f a st)) → Performs c next' K' L (and_then o f)
  bind_to c next K next' K' L (Done a st) f s g = lead_to c s.is.0 next' K' L (f a st) s.is.1 (g a st s.is.0 s.is.2 s.is.3)
  bind_to c next K next' K' L (Trapped k at w) f s g = record { is = s.is }
  bind_to c next K next' K' L (Left l st) f s g = absurd s.is

  -- both may be left
  pub bind_on : {A B : Type 0} (c : Tour) (next : A → State → Tour → Type 0) (K : A → State → Type 0) (L : Leave → State → Tour → Type 0) (next' : B → State → Tour → Type 0) (K' : B → State → Type 0) (L' : Leave → State → Tour → Type 0) (o : Outcome A) (f : A → Act B) →
      Performs c next K L o → ((l : Leave) (st : State) (d : Tour) → L l st d → L' l st d) → ((a : A) (st : State) (d : Tour) → next a st d → K a st → Performs d next' K' L' (f a st)) → Performs c next' K' L' (and_then o f)
  bind_on c next K L next' K' L' (Done a st) f s k g = lead_to c s.is.0 next' K' L' (f a st) s.is.1 (g a st s.is.0 s.is.2 s.is.3)
  bind_on c next K L next' K' L' (Trapped t at w) f s k g = record { is = s.is }
  bind_on c next K L next' K' L' (Left l st) f s k g = record { is = (s.is.0, s.is.1, k l st s.is.0 s.is.2) }

  -- another end, and other facts
  pub ends_to : {A : Type 0} (c : Tour) (next : A → State → Tour → Type 0) (K : A → State → Type 0) (L : Leave → State → Tour → Type 0) (next' : A → State → Tour → Type 0) (K' : A → State → Type 0) (L' : Leave → State → Tour → Type 0) (o : Outcome A) →
      Performs c next K L o → ((l : Leave) (st : State) (d : Tour) → L l st d → L' l st d) → ((a : A) (st : State) (d : Tour) → next a st d → K a st → next' a st d × K' a st) → Performs c next' K' L' o
  ends_to c next K L next' K' L' (Done a st) s k g = let b = g a st s.is.0 s.is.2 s.is.3 in record { is = (s.is.0, s.is.1, b.0, b.1) }
  ends_to c next K L next' K' L' (Trapped t at w) s k g = record { is = s.is }
  ends_to c next K L next' K' L' (Left l st) s k g = record { is = (s.is.0, s.is.1, k l st s.is.0 s.is.2) }

  -- what goes on to nothing comes to any end
  pub never_ends : {A : Type 0} (c : Tour) (next : A → State → Tour → Type 0) (K : A → State → Type 0) (L : Leave → State → Tour → Type 0) (next' : A → State → Tour → Type 0) (K' : A → State → Type 0) (o : Outcome A) → NeverDone o → Performs c next K L o → Performs c next' K' L o
  never_ends c next K L next' K' (Done a st) never s = absurd never
  never_ends c next K L next' K' (Trapped t at w) never s = record { is = s.is }
  never_ends c next K L next' K' (Left l st) never s = record { is = s.is }

  -- one of two ways, by the last value
  pub picks_on : {A : Type 0} (h : Here) (pc to : ℕ) (x : Value) (s : List Value) (st : State) (c : Tour) → At program fit verified h pc (x ∷ s) st c → (at : Span) → IsLine program fit verified h.fn pc (i.JumpFalse to) at →
      (next' : A → State → Tour → Type 0) (K : A → State → Type 0) (L : Leave → State → Tour → Type 0) (fa fb : Act A) →
      ((d : Tour) → At program fit verified h (pc + 1) s st d → Performs d next' K L (fa st)) →
      ((d : Tour) → At program fit verified h to s st d → Performs d next' K L (fb st)) →
      Performs c next' K L (choose (is_true x) fa fb st)
  picks_on h pc to (v.Bool true) s st c a at l next' K L fa fb ra rb =
      let r = steps_on program fit verified h pc (v.Bool true ∷ s) st c a (i.JumpFalse to) at l h (suc pc) s st.locals refl in
      lead_to c r.0 next' K L (fa st) r.1 (ra r.0 (place_is program fit verified h (suc pc) (pc + 1) s st r.0 (next pc) r.2))
  picks_on h pc to (v.Bool false) s st c a at l next' K L fa fb ra rb =
      let r = steps_on program fit verified h pc (v.Bool false ∷ s) st c a (i.JumpFalse to) at l h to s st.locals refl in
      lead_to c r.0 next' K L (fb st) r.1 (rb r.0 r.2)
  picks_on h pc to (v.Int n) s st c a at l next' K L fa fb ra rb = absurd (moving program fit verified h pc (v.Int n ∷ s) st c a (i.JumpFalse to) at l)
  picks_on h pc to (v.Str n) s st c a at l next' K L fa fb ra rb = absurd (moving program fit verified h pc (v.Str n ∷ s) st c a (i.JumpFalse to) at l)
  picks_on h pc to (v.Map n) s st c a at l next' K L fa fb ra rb = absurd (moving program fit verified h pc (v.Map n ∷ s) st c a (i.JumpFalse to) at l)
