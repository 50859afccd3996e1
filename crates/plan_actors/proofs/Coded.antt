-- What the code of a call owes to the fold of a script.
use Rattle.std.proofs.Common.{◌≡◌, ◌≤◌, ℕ, ◌||◌, inl, inr, true, false, [], None, refl, sym, ◌∙◌, ap, subst, arith}
use Rattle.std.specs.Prelude.{All, unwrap_or}
use Rattle.std.specs.List.{list_any}
use Rattle.std.specs.List.Sorted.{IsStrictlySortedBy}
use Rattle.wave_base.specs.declared.call.Call.{Call}
use Rattle.wave_base.specs.declared.limits.TheConstants.{GENERATION}
use Rattle.wave_base.specs.declared.outcome.EventResult.{EventResult}
use Rattle.wave_base.specs.declared.outcome.Outcome.{Outcome}
use Rattle.wave_base.specs.declared.outcome.Outcome.TheVariants as out
use Rattle.wave_base.specs.declared.path.Path.{Path}
use Rattle.wave_base.specs.Fold.{Ran}
use Rattle.wave_base.specs.Paths.{path_eq, path_cmp, parent_of}
use Rattle.wave_base.specs.Places.{move_in}
use Rattle.wave_base.specs.Tree.{Tree, there}
use Rattle.wave_base.specs.Trees.{FitsShape, HasKinds}
use Rattle.std.proofs.lemmas.List.Elements.{recursion_from_All}
use Rattle.script_fold.specs.Owed.{Owed}
use Rattle.service_code.specs.declared.program.Program.{Program}
use Rattle.service_verify.specs.Fit.{IsFit}
use Rattle.service_verify.specs.Points.{IsVerified}
use Rattle.service_verify.specs.Standing.{HasFields, HasTree}
use Rattle.service_verify.specs.Tours.{code_tour}
use Rattle.wave_states.specs.Alone.{has, first_alone, run_alone}
use Rattle.wave_theory.proofs.Alone.{first_fine}
use Rattle.wave_theory.proofs.Plans.{RanOk, ran_ok, fine_after}
use Rattle.wave_theory.proofs.Basics.{bool_cases, clash, path_is}
use Rattle.wave_theory.proofs.Paths.{or_is, or_left, or_right}
use Rattle.code_actor.specs.CodeActors as code
use Rattle.code_actor.specs.CodeActors.{Fields, no_result, code_actors, code_kind}
use Rattle.code_actor.specs.Follows.{IsWhole}
use Rattle.code_actor.proofs.Segmented.{initial_has}
use Rattle.code_actor.proofs.Whole.{whole, owes}
use Rattle.plan_actors.specs.Calls.{code_ran, IsTree}
use Rattle.plan_actors.proofs.Joining.{after_joined}
use Rattle.plan_actors.proofs.Order.{at_path}
use Rattle.plan_actors.proofs.Spawning.{EventEnd, event_end, is_event_end}

-- an event's end moves nothing
unmoved : (o : Outcome) → is_event_end o ≡ true → move_in o ≡ None
unmoved out.Done e = refl
unmoved (out.Reply x) e = refl
unmoved (out.Trapped t) e = refl
unmoved (out.Moved p h) e = absurd (clash false e refl)
unmoved (out.Absent p) e = refl
unmoved (out.Shots s) e = refl

within : (a b : ℕ) → a ≡ 0 → a ≤ b
within a b e = omega (arith, e)

module _ (program : Program) (fit : IsFit program) (verified : IsVerified program) where
  -- an event alone, whole, is what its code does
  pub alone_is : (ticket : ℕ) (tree : Tree Fields) (call : Call) → code.IsJob program call → HasTree program tree → run_alone (code_actors program) ticket tree call ≡ code_ran program tree call
  alone_is ticket tree call job has =
      let w : IsWhole (run_alone (code_actors program) ticket tree call) _ (code_tour program call tree) = whole program fit verified call ticket tree job has in
      let result : (run_alone (code_actors program) ticket tree call).result ≡ unwrap_or (code_tour program call tree).result no_result = sym (ap (λ o. unwrap_or o no_result) w.result) in
      λ i. record { tree = w.tree i; result = result i; entered = w.entered i }

  -- a tree of the shape with its root
  pub begins : (tree : Tree Fields) → FitsShape program.shape tree → there tree [] ≡ true → IsTree program tree
  begins tree fits root = record {
    ordered = fits.ordered;
    root = root;
    parents = λ p e. at_path (λ p. there tree (parent_of p) ≡ true) tree.paths (recursion_from_All (λ p. there tree (parent_of p) ≡ true) tree.paths fits.parents) p e;
    fields = λ p. elim (bool_cases (there tree p)) [
      | inl e ↦ at_path (λ p. HasKinds program.shape p (tree.fields p)) tree.paths (recursion_from_All (λ p. HasKinds program.shape p (tree.fields p)) tree.paths fits.kinds) p e
      | inr e ↦ subst (HasFields program.shape p) (sym (fits.absent p e)) (initial_has program.shape fit.shape p)
    ];
  }

  module _ (tree : Tree Fields) (call : Call) (is : IsTree program tree) (job : code.IsJob program call) where
    same : run_alone (code_actors program) 0 tree call ≡ code_ran program tree call
    same = alone_is 0 tree call job is.fields

    -- what is there after it was there before, or was entered
    pub joined : (p : Path) → there (code_ran program tree call).tree p ≡ (there tree p || list_any (path_eq p) (code_ran program tree call).entered)
    joined p = subst (λ (x : Ran Fields EventResult). there x.tree p ≡ (there tree p || list_any (path_eq p) x.entered)) same (after_joined (code_actors program) tree call 0 (code.enough_segments program) p)

    ok : RanOk (code_kind program 1) (owes program fit verified 1) (run_alone (code_actors program) 0 tree call)
    ok = ran_ok (code_kind program 1) (owes program fit verified 1) 0 tree call job is.fields is.ordered

    closed : (p : Path) → list_any (path_eq p) (run_alone (code_actors program) 0 tree call).entered ≡ true → (p ≡ [] → ⊥) → list_any (path_eq (parent_of p)) (run_alone (code_actors program) 0 tree call).entered ≡ true
    closed p e n = (fine_after (code_kind program 1) (owes program fit verified 1) (first_alone (code_actors program) call 0 tree)
        (first_fine (code_kind program 1) (owes program fit verified 1) call 0 tree job is.fields) (code.enough_segments program)).closed p e n

    pub kept : IsTree program (code_ran program tree call).tree
    kept = record {
      ordered = subst (λ (x : Ran Fields EventResult). IsStrictlySortedBy path_cmp x.tree.paths) same ok.ordered;
      root = joined [] ∙ or_left _ _ is.root;
      parents = λ p e. elim (bool_cases (path_eq p [])) [
        | inl z ↦ subst (λ q. there (code_ran program tree call).tree (parent_of q) ≡ true) (sym (path_is p [] z)) (joined [] ∙ or_left _ _ is.root)
        | inr z ↦ joined (parent_of p) ∙ (elim (or_is _ _ (sym (joined p) ∙ e)) [
          | inl u ↦ or_left _ _ (is.parents p u)
          | inr u ↦ or_right (there tree (parent_of p)) _ (subst (λ (x : Ran Fields EventResult). list_any (path_eq p) x.entered ≡ true → list_any (path_eq (parent_of p)) x.entered ≡ true) same (λ v. closed p v (λ y. absurd (clash (path_eq p []) (ap (λ q. path_eq q []) y) z))) u)
        ])
      ];
      fields = subst (λ (x : Ran Fields EventResult). HasTree program x.tree) same ok.fitting;
    }

    pub created : All (code.IsJob program) (code_ran program tree call).result.created
    created = subst (λ (x : Ran Fields EventResult). All (code.IsJob program) x.result.created) same ok.created

    pub ended : EventEnd call.generation (code_ran program tree call).result
    ended = subst (λ (x : Ran Fields EventResult). EventEnd call.generation x.result) same (event_end program call tree (run_alone (code_actors program) 0 tree call).result (whole program fit verified call 0 tree job is.fields).result)

  -- what a runner of calls owes
  pub code_owes : Owed program.shape (code_ran program) (IsTree program) (code.IsJob program)
  code_owes = record {
    begins = begins;
    asked = λ c is first. (is, within c.generation GENERATION first);
    kept = kept;
    created = created;
    few = λ t c is job. (ended t c is job).spawned.few;
    later = λ t c is job. (ended t c is job).spawned.later;
    last = λ c job. job.1;
    joined = λ t c p is job. joined t c is job p;
    ordered = λ t c is job o. (kept t c is job).ordered;
    unmoved = λ t c is job. unmoved (code_ran program t c).result.outcome (ended t c is job).own;
  }
