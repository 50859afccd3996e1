-- The kinds at each instruction of the scheme's code: what the verifier asks for is there.
use Rattle.std.proofs.Common.{◌≡◌, ℕ, zero, suc, ◌+◌, ◌<◌, ◌≤◌, ◌||◌, not, max, List, [], ◌∷◌, ◌++◌, length, map, reverse, if◌then◌else◌, Bool, true, false, Option, Some, None, refl, sym, ap, ◌∙◌, arith, append_assoc}
use Rattle.std.specs.Prelude.{slice_get, option_to_list, nat_lt, nat_le, ◌==◌, Ok}
use Rattle.std.specs.List.{list_any}
use Rattle.std.proofs.lemmas.Bool.Decides.{nat_tests}
use Rattle.std.proofs.lemmas.List.{reverse-append, append-nil}
use Rattle.wave_base.specs.declared.operators.TheConstants.{OPERATORS}
use Rattle.wave_base.specs.declared.path.Class.{Class}
use Rattle.wave_base.specs.declared.span.Span.{Span}
use Rattle.wave_base.specs.declared.value.Kind.{Kind}
use Rattle.wave_base.specs.declared.value.Kind.TheVariants as k
use Rattle.wave_base.specs.Names.{same_bytes}
use Rattle.value_ops.specs.Operators.{operators, takes_of, gives_of}
use Rattle.resolved_service.specs.Meaning.{row_add, row_lt}
use Rattle.service_code.specs.declared.instr.Instr.{Instr}
use Rattle.service_code.specs.declared.instr.Instr.TheVariants as i
use Rattle.service_code.specs.declared.program.Function.{Function}
use Rattle.service_code.specs.declared.program.Program.{Program}
use Rattle.service_verify.specs.declared.error.Rule.TheVariants as rule
use Rattle.service_verify.specs.declared.point.Point.{Point}
use Rattle.service_verify.specs.Points.{is_empty, kept_stack, point_after}
use Rattle.service_verify.specs.Rules.{judged_item, must, judged_then, kind_eq, operands, a_bool, effect_of, left_below, ends, class_after, next_of}
use Rattle.code_scheme.specs.Scheme.{Line, line}
use Rattle.code_scheme.specs.Texts.{Text, place_of_text}
use Rattle.code_scheme.proofs.Flow.{Flow, flow_line}
use Rattle.code_scheme.proofs.Finding.{same_text}

-- operands one on another, the last on top
abbrev pub pushed_kinds : List Kind → List Kind → List Kind
pushed_kinds [] s = s
pushed_kinds (kind ∷ kinds) s = pushed_kinds kinds (kind ∷ s)

pub kind_self : (kind : Kind) → kind_eq kind kind ≡ true
kind_self k.Int = refl
kind_self k.Bool = refl
kind_self k.Text = refl
kind_self k.Map = refl

pub number_self : (n : ℕ) → (n == n) ≡ true
number_self n = grind (arith, nat_tests)

pub below_is : (n m : ℕ) → n < m → nat_lt n m ≡ true
below_is n m h = grind (arith, nat_tests)

pub most_is : (n m : ℕ) → n ≤ m → nat_le n m ≡ true
most_is n m h = grind (arith, nat_tests)

pub max_left : (a b : ℕ) → a ≤ max a b
max_left a b = omega arith

pub max_right : (a b : ℕ) → b ≤ max a b
max_right a b = omega arith

reverse_more : {A : Type 0} (x : A) (xs : List A) → reverse (x ∷ xs) ≡ reverse xs ++ x ∷ []
reverse_more x xs = reverse-append (x ∷ []) xs

pub pushed_long : (ks s : List Kind) → length (pushed_kinds ks s) ≡ length ks + length s
pushed_long [] s = omega arith
pushed_long (kind ∷ ks) s = omega (arith, pushed_long ks (kind ∷ s))

-- what takes these operands finds them
pub operands_left : (ks : List Kind) (w : List (Option Kind)) (s : List Kind) → left_below (operands ks ++ w) (pushed_kinds ks s) ≡ left_below w s
operands_left [] w s = refl
operands_left (kind ∷ ks) w s =
    ap (λ l. left_below (l ++ w) (pushed_kinds ks (kind ∷ s))) (reverse_more (Some kind) (map (λ k. Some k) ks))
    ∙ ap (λ l. left_below l (pushed_kinds ks (kind ∷ s))) (append_assoc (operands ks) (Some kind ∷ []) w)
    ∙ operands_left ks (Some kind ∷ w) (kind ∷ s)
    ∙ ap (λ b. must rule.Kind b (left_below w s)) (kind_self kind)

pub operands_only : (ks s : List Kind) → left_below (operands ks) (pushed_kinds ks s) ≡ Ok s
operands_only ks s = ap (λ l. left_below l (pushed_kinds ks s)) (sym (append-nil (operands ks))) ∙ operands_left ks [] s

-- texts that are among the program's
module _ (texts : List Text) where
  unfoldable pub Among : List Text → Type 0
  Among [] = Unit {0}
  Among (t ∷ ts) = (list_any (same_bytes t) texts ≡ true) × Among ts

  pub among_front : (a b : List Text) → Among (a ++ b) → Among a
  unfolding Among
  among_front [] b h = tt
  among_front (t ∷ a) b h = (h.0, among_front a b h.1)

  pub among_back : (a b : List Text) → Among (a ++ b) → Among b
  unfolding Among
  among_back [] b h = h
  among_back (t ∷ a) b h = among_back a b h.1

  pub among_one : (t : Text) → Among (t ∷ []) → list_any (same_bytes t) texts ≡ true
  unfolding Among
  among_one t h = h.0

pub text_found : (texts : List Text) (t : Text) → list_any (same_bytes t) texts ≡ true → slice_get texts (place_of_text texts t) ≡ Some t
text_found [] t h = cc
text_found (u ∷ us) t h = by (same_bytes t u) refl h (λ rest. text_found us t rest)
  where
    by : (b : Bool) → same_bytes t u ≡ b → (b || list_any (same_bytes t) us) ≡ true → (list_any (same_bytes t) us ≡ true → slice_get us (place_of_text us t) ≡ Some t) → slice_get (u ∷ us) (if b then zero else suc (place_of_text us t)) ≡ Some t
    by true e h rest = ap (λ x. Some x) (sym (same_text t u e))
    by false e h rest = rest h

pub takes_two : (takes_of row_lt ≡ k.Int ∷ k.Int ∷ []) × (takes_of row_add ≡ k.Int ∷ k.Int ∷ [])
unfolding takes_of operators
takes_two = (refl, refl)

pub gives_two : (gives_of row_lt ≡ k.Bool) × (gives_of row_add ≡ k.Int)
unfolding gives_of operators
gives_two = (refl, refl)

abbrev pub pt : Class → List Kind → Point
pt c s = record { class = c; stack = s }

module _ (program : Program) (number : ℕ) (function : Function) where
  kept_is : (ins : Instr) (ks : List Kind) → length ks ≤ function.stack → ends ins ≡ false → kept_stack function ins ks ≡ Ok ks
  kept_is ins ks h e =
      ap (λ b. must rule.Stack b (must rule.Stack (not (ends ins) || is_empty ks) (Ok ks))) (most_is (length ks) function.stack h)
      ∙ ap (λ b. must rule.Stack (not b || is_empty ks) (Ok ks)) e

  -- an instruction that finds what it takes
  pub after_line : (c c' : Class) (ins : Instr) (takes : List (Option Kind)) (gives : Option Kind) (s below : List Kind) → effect_of program number function c.0 ins ≡ Ok (record { takes = takes; gives = gives }) → left_below takes s ≡ Ok below → length (option_to_list gives ++ below) ≤ function.stack → ends ins ≡ false → class_after ins c ≡ c' →
      point_after program number function ins (pt c s) ≡ Ok (pt c' (option_to_list gives ++ below))
  unfolding point_after
  after_line c c' ins takes gives s below effect left high no_end class =
      ap (λ o. judged_then o (λ e. judged_then (left_below e.takes s) (λ below. judged_then (kept_stack function ins (option_to_list e.gives ++ below)) (λ stack. Ok (record { class = class_after ins c; stack = stack }))))) effect
      ∙ ap (λ o. judged_then o (λ below. judged_then (kept_stack function ins (option_to_list gives ++ below)) (λ stack. Ok (record { class = class_after ins c; stack = stack })))) left
      ∙ ap (λ o. judged_then o (λ stack. Ok (record { class = class_after ins c; stack = stack }))) (kept_is ins (option_to_list gives ++ below) high no_end)
      ∙ ap (λ d. Ok (record { class = d; stack = option_to_list gives ++ below })) class

  -- what ends a function finds its stack empty
  pub after_end : (c : Class) (ins : Instr) (takes : List (Option Kind)) (s : List Kind) → effect_of program number function c.0 ins ≡ Ok (record { takes = takes; gives = None }) → left_below takes s ≡ Ok [] → point_after program number function ins (pt c s) ≡ Ok (pt (class_after ins c) [])
  unfolding point_after
  after_end c ins takes s effect left =
      ap (λ o. judged_then o (λ e. judged_then (left_below e.takes s) (λ below. judged_then (kept_stack function ins (option_to_list e.gives ++ below)) (λ stack. Ok (record { class = class_after ins c; stack = stack }))))) effect
      ∙ ap (λ o. judged_then o (λ below. judged_then (kept_stack function ins below) (λ stack. Ok (record { class = class_after ins c; stack = stack })))) left
      ∙ ap (λ b. judged_then (must rule.Stack b (must rule.Stack (not (ends ins) || true) (Ok []))) (λ stack. Ok (record { class = class_after ins c; stack = stack }))) (most_is 0 function.stack (omega arith))
      ∙ ap (λ b. judged_then (must rule.Stack b (Ok [])) (λ stack. Ok (record { class = class_after ins c; stack = stack }))) (or_true (not (ends ins)))
    where
      or_true : (b : Bool) → (b || true) ≡ true
      or_true true = refl
      or_true false = refl

  module _ (ls : List Line) (c : Class) where
    pub line_flow : (pc pc' : ℕ) (l : Line) (takes : List (Option Kind)) (gives : Option Kind) (s below : List Kind) → pc' ≡ pc + 1 → slice_get ls pc ≡ Some l → effect_of program number function c.0 l.instr ≡ Ok (record { takes = takes; gives = gives }) → left_below takes s ≡ Ok below → length (option_to_list gives ++ below) ≤ function.stack → ends l.instr ≡ false → class_after l.instr c ≡ c → ((n : ℕ) → next_of l.instr n ≡ suc n ∷ []) →
        Flow program number function ls pc pc' (pt c s) (pt c (option_to_list gives ++ below))
    line_flow pc pc' l takes gives s below e is effect left high no_end class next = flow_line program number function ls pc pc' (pt c s) (pt c (option_to_list gives ++ below)) l e is next (after_line c c l.instr takes gives s below effect left high no_end class)

    pub jump_after : (x : ℕ) (s : List Kind) → length s ≤ function.stack → point_after program number function (i.Jump x) (pt c s) ≡ Ok (pt c s)
    unfolding effect_of
    jump_after x s h = after_line c c (i.Jump x) [] None s s refl refl h refl refl

    pub choice_after : (x : ℕ) (s : List Kind) → length s ≤ function.stack → point_after program number function (i.JumpFalse x) (pt c (k.Bool ∷ s)) ≡ Ok (pt c s)
    unfolding effect_of
    choice_after x s h = after_line c c (i.JumpFalse x) (a_bool ∷ []) None (k.Bool ∷ s) s refl refl h refl refl

    pub tick_flow : (pc pc' : ℕ) (at : Span) (s : List Kind) → pc' ≡ pc + 1 → slice_get ls pc ≡ Some (line i.Tick at) → length s ≤ function.stack → Flow program number function ls pc pc' (pt c s) (pt c s)
    unfolding effect_of
    tick_flow pc pc' at s e is h = line_flow pc pc' (line i.Tick at) [] None s s e is refl refl h refl refl (λ n. refl)

    pub bool_flow : (pc pc' : ℕ) (b : Bool) (at : Span) (s : List Kind) → pc' ≡ pc + 1 → slice_get ls pc ≡ Some (line (i.PushBool b) at) → suc (length s) ≤ function.stack → Flow program number function ls pc pc' (pt c s) (pt c (k.Bool ∷ s))
    unfolding effect_of
    bool_flow pc pc' b at s e is h = line_flow pc pc' (line (i.PushBool b) at) [] (Some k.Bool) s s e is refl refl h refl refl (λ n. refl)

    pub int_flow : (pc pc' : ℕ) (z : _) (at : Span) (s : List Kind) → pc' ≡ pc + 1 → slice_get ls pc ≡ Some (line (i.PushInt z) at) → suc (length s) ≤ function.stack → Flow program number function ls pc pc' (pt c s) (pt c (k.Int ∷ s))
    unfolding effect_of
    int_flow pc pc' z at s e is h = line_flow pc pc' (line (i.PushInt z) at) [] (Some k.Int) s s e is refl refl h refl refl (λ n. refl)

    pub load_flow : (pc pc' x : ℕ) (kind : Kind) (at : Span) (s : List Kind) → pc' ≡ pc + 1 → slice_get ls pc ≡ Some (line (i.Load x) at) → slice_get function.locals x ≡ Some kind → suc (length s) ≤ function.stack → Flow program number function ls pc pc' (pt c s) (pt c (kind ∷ s))
    unfolding effect_of
    load_flow pc pc' x kind at s e is there h = line_flow pc pc' (line (i.Load x) at) [] (Some kind) s s e is (ap (λ o. judged_item rule.Field o (λ kind. Ok (record { takes = []; gives = Some kind }))) there) refl h refl refl (λ n. refl)

    pub store_flow : (pc pc' x : ℕ) (kind : Kind) (at : Span) (s : List Kind) → pc' ≡ pc + 1 → slice_get ls pc ≡ Some (line (i.Store x) at) → slice_get function.locals x ≡ Some kind → length s ≤ function.stack → Flow program number function ls pc pc' (pt c (kind ∷ s)) (pt c s)
    unfolding effect_of
    store_flow pc pc' x kind at s e is there h = line_flow pc pc' (line (i.Store x) at) (Some kind ∷ []) None (kind ∷ s) s e is (ap (λ o. judged_item rule.Field o (λ kind. Ok (record { takes = Some kind ∷ []; gives = None }))) there) (ap (λ b. must rule.Kind b (Ok s)) (kind_self kind)) h refl refl (λ n. refl)

    pub row_flow : (pc pc' r : ℕ) (at : Span) (s : List Kind) → pc' ≡ pc + 1 → slice_get ls pc ≡ Some (line (i.Op r) at) → r < OPERATORS → suc (length s) ≤ function.stack → Flow program number function ls pc pc' (pt c (pushed_kinds (takes_of r) s)) (pt c (gives_of r ∷ s))
    unfolding effect_of
    row_flow pc pc' r at s e is row h =
        line_flow pc pc' (line (i.Op r) at) (operands (takes_of r)) (Some (gives_of r)) (pushed_kinds (takes_of r) s) s e is (ap (λ b. must rule.Field b (Ok (record { takes = operands (takes_of r); gives = Some (gives_of r) }))) (below_is r OPERATORS row)) (operands_only (takes_of r) s) h refl refl (λ n. refl)
