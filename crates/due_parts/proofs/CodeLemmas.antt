-- Only one answer is due for the code of a typed service.
use Rattle.std.proofs.Common.{◌≡◌, ℕ, ◌≤◌, ◌<◌, ◌⊎◌, ◌++◌, inl, inr, length, codes, Some, slice_get, sym, ◌∙◌, subst, ap, arith}
use Rattle.std.proofs.lemmas.Bool.{cases_lt}
use Rattle.wave_base.proofs.Lists.{all_at}
use Rattle.wave_base.specs.declared.limits.TheConstants.{INSTRUCTIONS}
use Rattle.wave_base.specs.declared.shape.Shape.{Shape}
use Rattle.mace_ast.specs.Decls.{ServiceTree}
use Rattle.resolved_service.specs.declared.service.Resolved.{Resolved}
use Rattle.type_rules.specs.Known.{shape_of}
use Rattle.type_rules.specs.Services.{resolve_service}
use Rattle.type_rules.specs.Views.{resolved_view}
use Rattle.context_types.specs.declared.Typed.{Typed}
use Rattle.service_code.specs.declared.program.Function.{Function}
use Rattle.service_code.specs.declared.program.Program.{Program}
use Rattle.service_code.specs.Listing.{function_name}
use Rattle.code_scheme.specs.Programs.{IsTooLong, scheme_program}
use Rattle.typed_code.proofs.SameCode.{same_programs}
use Rattle.due_parts.specs.declared.answer.Answer.{Answer}
use Rattle.due_parts.specs.Answers.{Only, refusal}
use Rattle.due_parts.specs.Services.{AreShort, IsDueCoded, IsLong}
use Rattle.due_parts.specs.Served.{IsTypedTree}

same_functions : (shape : Shape) (a b : Resolved) → resolved_view a ≡ resolved_view b → (scheme_program shape a).functions ≡ (scheme_program shape b).functions
same_functions shape a b e = ap (λ (p : Program). p.functions) (same_programs shape a b e)

-- none is too long where all are short
not_short : (shape : Shape) (a b : Resolved) → resolved_view a ≡ resolved_view b → (n size : ℕ) → IsTooLong shape a n size → AreShort shape b → ⊥
not_short shape a b e n size long short =
    let small : length long.function.code ≤ INSTRUCTIONS = all_at (λ (f : Function). length f.code ≤ INSTRUCTIONS) (scheme_program shape b).functions n long.function (ap (λ fs. slice_get fs n) (sym (same_functions shape a b e)) ∙ long.is_there) short in
    let big : INSTRUCTIONS < length long.function.code = long.too_long in
    omega (arith, small, big)

not_before : (shape : Shape) (a b : Resolved) → resolved_view a ≡ resolved_view b → (n m size more : ℕ) → IsTooLong shape a n size → IsTooLong shape b m more → n < m → ⊥
not_before shape a b e n m size more x y lt =
    let small : length x.function.code ≤ INSTRUCTIONS = y.first n x.function lt (ap (λ fs. slice_get fs n) (sym (same_functions shape a b e)) ∙ x.is_there) in
    let big : INSTRUCTIONS < length x.function.code = x.too_long in
    omega (arith, small, big)

-- the first one that is too long is the same
same_long : (shape : Shape) (a b : Resolved) → resolved_view a ≡ resolved_view b → (n m size more : ℕ) (x : IsTooLong shape a n size) (y : IsTooLong shape b m more) → x.function ≡ y.function
same_long shape a b e n m size more x y = by_order (cases_lt n m) (cases_lt m n)
  where
    same_number : n ≡ m → x.function ≡ y.function
    same_number is =
        let there : Some x.function ≡ Some y.function = sym x.is_there ∙ ap (λ fs. slice_get fs n) (same_functions shape a b e) ∙ ap (slice_get (scheme_program shape b).functions) is ∙ y.is_there in
        cc

    by_order : n < m ⊎ m ≤ n → m < n ⊎ n ≤ m → x.function ≡ y.function
    by_order (inl lt) o = absurd (not_before shape a b e n m size more x y lt)
    by_order (inr ge) (inl lt) = absurd (not_before shape b a (sym e) m n more size y x lt)
    by_order (inr ge) (inr le) = same_number (omega (arith, ge, le))

same_told : (shape : Shape) (a b : Resolved) (x y : Answer) → resolved_view a ≡ resolved_view b → IsLong shape a x → IsLong shape b y → x ≡ y
same_told shape a b x y e p q = p.due_is ∙ ap (λ f. refusal 3 (codes "C1 CodeTooLong " ++ function_name shape f)) (same_long shape a b e p.number q.number p.size q.size p.long q.long) ∙ sym q.due_is

module _ (P : ServiceTree → Answer → Type 0) (tree : ServiceTree) where
  -- a function is too long
  pub only_long : (service : Resolved) (due : Answer) → resolved_view service ≡ resolve_service tree → IsLong (shape_of tree) service due → Only (IsDueCoded P tree) due
  only_long service due is long = record {
    is_due = record { service = service; resolved = is; due_is = inl long };
    only = λ other h. others other h.service h.resolved h.due_is;
  }
    where
      others : (other : Answer) (s : Resolved) → resolved_view s ≡ resolve_service tree → IsLong (shape_of tree) s other ⊎ (AreShort (shape_of tree) s × P tree other) → other ≡ due
      others other s e (inl h) = same_told (shape_of tree) s service other due (e ∙ sym is) h long
      others other s e (inr h) = absurd (not_short (shape_of tree) service s (is ∙ sym e) long.number long.size long.long h.0)

  -- none is
  pub is_coded : (typed : Typed) (due : Answer) → IsTypedTree tree typed → AreShort typed.shape typed.resolved → P tree due → IsDueCoded P tree due
  is_coded typed due t short h = record { service = typed.resolved; resolved = t.resolved_is; due_is = inr (subst (λ s. AreShort s typed.resolved) t.shape_is short, h) }

  pub only_coded : (typed : Typed) (due : Answer) → IsTypedTree tree typed → AreShort typed.shape typed.resolved → Only (P tree) due → Only (IsDueCoded P tree) due
  only_coded typed due t short o = record {
    is_due = record { service = typed.resolved; resolved = t.resolved_is; due_is = inr (fits, o.is_due) };
    only = λ other h. others other h.service h.resolved h.due_is;
  }
    where
      fits : AreShort (shape_of tree) typed.resolved
      fits = subst (λ s. AreShort s typed.resolved) t.shape_is short

      others : (other : Answer) (s : Resolved) → resolved_view s ≡ resolve_service tree → IsLong (shape_of tree) s other ⊎ (AreShort (shape_of tree) s × P tree other) → other ≡ due
      others other s e (inl h) = absurd (not_short (shape_of tree) s typed.resolved (e ∙ sym t.resolved_is) h.number h.size h.long fits)
      others other s e (inr h) = o.only other h.1
