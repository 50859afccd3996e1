-- What an instruction takes and gives, and the rules that it may break.
use Rattle.std.specs.Prelude.{ℕ, zero, suc, Bool, true, false, not, ◌&&◌, ◌==◌, nat_lt, List, [], ◌∷◌, ◌++◌, map, reverse, Option, Some, None, is_none, option_to_list, Result, Ok, Err, slice_get}
use Rattle.wave_base.specs.declared.limits.TheConstants.{CLASS_DEPTH}
use Rattle.wave_base.specs.declared.operators.TheConstants.{OPERATORS}
use Rattle.wave_base.specs.declared.path.Class.{Class}
use Rattle.wave_base.specs.declared.shape.Shape.{Shape}
use Rattle.wave_base.specs.declared.value.Kind.{Kind}
use Rattle.wave_base.specs.declared.value.Kind.TheVariants as k
use Rattle.wave_base.specs.Shapes.{is_child_class, parent_class, kinds_of_class}
use Rattle.value_ops.specs.Operators.{takes_of, gives_of}
use Rattle.service_code.specs.declared.instr.Instr.{Instr}
use Rattle.service_code.specs.declared.instr.Instr.TheVariants.{PushInt, PushBool, PushText, PushEmpty, Load, Store, Field, SetField, Above, Op, PutLocal, PutField, CutLocal, CutField, Jump, JumpFalse, Tick, Call, CallDown, Return, Pop, Require, Send, Spawn, Go, Reply, End}
use Rattle.service_code.specs.declared.program.Function.{Function}
use Rattle.service_code.specs.declared.program.Program.{Program}
use Rattle.service_verify.specs.declared.error.Rule.{Rule}
use Rattle.service_verify.specs.declared.error.Rule.TheVariants as rule

-- a value, or the rule that is broken
abbrev pub Judged : Type 0 → Type 0
Judged A = Result A Rule

-- what is there, or the rule is broken
abbrev pub judged_item : {A B : Type 0} → Rule → Option A → (A → Judged B) → Judged B
judged_item r None go = Err r
judged_item r (Some x) go = go x

-- the test holds, or the rule is broken
abbrev pub must : {B : Type 0} → Rule → Bool → Judged B → Judged B
must r true go = go
must r false go = Err r

abbrev pub judged_then : {A B : Type 0} → Judged A → (A → Judged B) → Judged B
judged_then (Ok x) go = go x
judged_then (Err r) go = Err r

abbrev pub kind_eq : Kind → Kind → Bool
kind_eq k.Int k.Int = true
kind_eq k.Bool k.Bool = true
kind_eq k.Text k.Text = true
kind_eq k.Map k.Map = true
kind_eq _ _ = false

-- the classes above a class, from the nearest one
abbrev pub classes_above : Shape → ℕ → Option Class → List ℕ
classes_above shape zero c = []
classes_above shape (suc n) None = []
classes_above shape (suc n) (Some c) = c.0 ∷ classes_above shape n (parent_class shape c.0)

-- the classes above a class, from the root: at each level one
unfoldable pub levels_above : Shape → ℕ → List ℕ
levels_above shape c = reverse (classes_above shape CLASS_DEPTH (parent_class shape c))

-- what an instruction takes from the stack, the top first, each of a kind or of any; and what it gives
pub record Effect : Type 0 where
  pub takes : List (Option Kind)
  pub gives : Option Kind

abbrev pub takes_only : List (Option Kind) → Judged Effect
takes_only ks = Ok (record { takes = ks; gives = None })

abbrev pub gives_only : Kind → Judged Effect
gives_only k = Ok (record { takes = []; gives = Some k })

-- operands as they lie on the stack, the last on top
abbrev pub operands : List Kind → List (Option Kind)
operands ks = reverse (map (λ k. Some k) ks)

-- a map takes a key, and a value first where there is one
abbrev pub takes_for_map : List (Option Kind) → Kind → Judged Effect
takes_for_map ks kind = must rule.Kind (kind_eq kind k.Map) (takes_only ks)

abbrev pub any : Option Kind
any = None

abbrev pub an_int : Option Kind
an_int = Some k.Int

abbrev pub a_bool : Option Kind
a_bool = Some k.Bool

-- an instruction of the function with this number, in a context of this class
module _ (program : Program) (number : ℕ) (function : Function) (class : ℕ) where
  abbrev pub local : ℕ → (Kind → Judged Effect) → Judged Effect
  local s go = judged_item rule.Field (slice_get function.locals s) go

  abbrev pub field_of : ℕ → ℕ → (Kind → Judged Effect) → Judged Effect
  field_of c f go = judged_item rule.Field (slice_get (kinds_of_class program.shape c) f) go

  abbrev pub text : ℕ → Judged Effect → Judged Effect
  text i go = judged_item rule.Field (slice_get program.texts i) (λ t. go)

  -- a method of a class
  abbrev pub is_method_of : ℕ → Function → Bool
  is_method_of c f = not f.is_event && (f.class.0 == c)

  abbrev pub calls : Function → List (Option Kind) → Judged Effect
  calls f below = Ok (record { takes = operands f.args ++ below; gives = f.result })

  unfoldable pub effect_of : Instr → Judged Effect
  effect_of (PushInt n) = gives_only k.Int
  effect_of (PushBool b) = gives_only k.Bool
  effect_of (PushText i) = text i (gives_only k.Text)
  effect_of PushEmpty = gives_only k.Map
  effect_of (Load s) = local s (λ kind. gives_only kind)
  effect_of (Store s) = local s (λ kind. takes_only (Some kind ∷ []))
  effect_of (Field f) = field_of class f (λ kind. gives_only kind)
  effect_of (SetField f) = field_of class f (λ kind. takes_only (Some kind ∷ []))
  effect_of (Above l f) = judged_item rule.Field (slice_get (levels_above program.shape class) l) (λ c. field_of c f (λ kind. gives_only kind))
  effect_of (Op r) = must rule.Field (nat_lt r OPERATORS) (Ok (record { takes = operands (takes_of r); gives = Some (gives_of r) }))
  effect_of (PutLocal s) = local s (takes_for_map (an_int ∷ an_int ∷ []))
  effect_of (PutField f) = field_of class f (takes_for_map (an_int ∷ an_int ∷ []))
  effect_of (CutLocal s) = local s (takes_for_map (an_int ∷ []))
  effect_of (CutField f) = field_of class f (takes_for_map (an_int ∷ []))
  effect_of (Jump i) = takes_only []
  effect_of (JumpFalse i) = takes_only (a_bool ∷ [])
  effect_of Tick = takes_only []
  effect_of (Call g) = judged_item rule.Call (slice_get program.functions g) (λ f. must rule.Call (is_method_of class f && nat_lt g number) (calls f []))
  effect_of (CallDown c g) = must rule.Call (is_child_class program.shape class c.0) (judged_item rule.Call (slice_get program.functions g) (λ f. must rule.Call (is_method_of c.0 f) (calls f (an_int ∷ []))))
  effect_of Return = must rule.Call (not function.is_event) (takes_only (map (λ k. Some k) (option_to_list function.result)))
  effect_of Pop = takes_only (any ∷ [])
  effect_of Require = takes_only (a_bool ∷ [])
  effect_of (Send i) = text i (takes_only (any ∷ []))
  effect_of (Spawn e) = judged_item rule.Call (slice_get program.shape.events e) (λ e. takes_only (operands e.params))
  effect_of (Go c) = must rule.Call (function.is_event && is_child_class program.shape class c.0) (takes_only (an_int ∷ []))
  effect_of Reply = must rule.Call function.is_event (judged_item rule.Kind function.result (λ kind. takes_only (Some kind ∷ [])))
  effect_of End = must rule.Call function.is_event (must rule.Kind (is_none function.result) (takes_only []))

-- the kind is the one that is asked for
abbrev pub suits : Option Kind → Kind → Bool
suits None kind = true
suits (Some k) kind = kind_eq k kind

-- the kinds that are left below what is taken
abbrev pub left_below : List (Option Kind) → List Kind → Judged (List Kind)
left_below [] ks = Ok ks
left_below (w ∷ ws) [] = Err rule.Stack
left_below (w ∷ ws) (k ∷ ks) = must rule.Kind (suits w k) (left_below ws ks)

-- it ends its function
abbrev pub ends : Instr → Bool
ends Return = true
ends Reply = true
ends End = true
ends _ = false

-- the class after it
abbrev pub class_after : Instr → Class → Class
class_after (Go c) class = c
class_after _ class = class

-- the instructions that may come next
abbrev pub next_of : Instr → ℕ → List ℕ
next_of (Jump i) n = i ∷ []
next_of (JumpFalse i) n = suc n ∷ i ∷ []
next_of Return n = []
next_of Reply n = []
next_of End n = []
next_of _ n = suc n ∷ []
