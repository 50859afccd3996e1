-- Code keeps the shape of a tree: what it enters is of the shape, and what is absent has its initial fields.
use Rattle.std.proofs.Common.{◌≡◌, ℕ, zero, suc, ◌||◌, ◌⊎◌, inl, inr, Bool, true, false, if◌then◌else◌, List, [], ◌∷◌, ◌++◌, Option, Some, None, length, true≢false, refl, sym, ap, ◌∙◌}
use Rattle.std.specs.Prelude.{All}
use Rattle.std.specs.List.{filter, list_any}
use Rattle.std.proofs.lemmas.List.Elements.{All-nil, All-cons, recursion_from_All}
use Rattle.wave_base.specs.declared.call.Call.{Call}
use Rattle.wave_base.specs.declared.outcome.EventResult.{EventResult}
use Rattle.wave_base.specs.declared.path.Path.{Path}
use Rattle.wave_base.specs.declared.shape.Shape.{Shape}
use Rattle.wave_base.proofs.Trees.{there-enter}
use Rattle.wave_base.specs.Paths.{path_eq, is_above, parent_of}
use Rattle.wave_base.specs.PathLaws.{path_eq_decides, path_eq_equiv}
use Rattle.wave_base.specs.Shapes.{is_path, initial_fields}
use Rattle.wave_base.specs.Tree.{Tree, there, children_of}
use Rattle.wave_base.specs.Trees.{FitsShape, HasKinds}
use Rattle.script_fold.specs.Owed.{Owed, KeepsShape}
use Rattle.service_code.specs.declared.program.Program.{Program}
use Rattle.service_verify.specs.Fit.{IsFit}
use Rattle.service_verify.specs.Points.{IsVerified}
use Rattle.service_verify.specs.Segments.{Event}
use Rattle.wave_states.specs.Actors.{Pause, Go, Down, Back, Over}
use Rattle.wave_states.specs.Alone.{Alone, has, into, tree_with, goes_on, segment_alone, segment_if, next_alone, first_alone, after_segments, ended_alone}
use Rattle.wave_states.specs.Kinds.{Kind}
use Rattle.wave_states.specs.Owes.{Owes, Keeps}
use Rattle.wave_theory.proofs.Alone.{Stands, Fine, at_held, first_fine}
use Rattle.wave_theory.proofs.Basics.{none_not}
use Rattle.wave_theory.proofs.Paths.{has_append}
use Rattle.wave_theory.proofs.Plans.{fine_after}
use Rattle.code_actor.specs.CodeActors.{Fields, code_actors, code_kind, IsJob}
use Rattle.code_actor.proofs.Whole.{whole, owes}
use Rattle.plan_actors.specs.Calls.{code_ran, IsTree}
use Rattle.plan_actors.proofs.Coded.{code_owes, begins}
use Rattle.plan_actors.proofs.Order.{at_path}

-- what holds of each path that is there holds of all
all_of : (P : Path → Type 0) (ps : List Path) → ((p : Path) → list_any (path_eq p) ps ≡ true → P p) → All P ps
all_of P [] h = All-nil P
all_of P (q ∷ ps) h = All-cons P q ps (h q (ap (λ b. b || list_any (path_eq q) ps) (path_eq_equiv.refl q))) (all_of P ps (λ p e. h p (or_right (path_eq p q) (list_any (path_eq p) ps) e)))
  where
    or_right : (a b : Bool) → b ≡ true → (a || b) ≡ true
    or_right true b e = refl
    or_right false b e = e

or_cases : (a b : Bool) → (a || b) ≡ true → (a ≡ true) ⊎ (b ≡ true)
or_cases true b e = inl refl
or_cases false b e = inr e

-- a tree of the shape with its root
abbrev pub HasShape : Shape → Tree Fields → Type 0
HasShape shape tree = FitsShape shape tree × (there tree [] ≡ true)

module _ (program : Program) where
  abbrev Event_alone : Type 0
  Event_alone = Alone Event Fields EventResult

  -- what was entered is there; what is there is of the shape; and what is absent has its initial fields
  record Shaped (x : Event_alone) : Type 0 where
    entered : (p : Path) → has x.entered p ≡ true → there x.tree p ≡ true
    paths : (p : Path) → there x.tree p ≡ true → is_path program.shape p ≡ true
    absent : (p : Path) → there x.tree p ≡ false → x.tree.fields p ≡ initial_fields program.shape p

  put_absent : (x : Event_alone) (f : Fields) → Shaped x → there x.tree x.at ≡ true → (p : Path) → there x.tree p ≡ false → (tree_with x f).fields p ≡ initial_fields program.shape p
  put_absent x f h here p e = by (path_eq x.at p) refl
    where
      by : (b : Bool) → path_eq x.at p ≡ b → (if b then f else x.tree.fields p) ≡ initial_fields program.shape p
      by true s = absurd (true≢false (sym here ∙ ap (there x.tree) ((path_eq_decides x.at p).0 s) ∙ e))
      by false s = h.absent p e

  into_shaped : (x : Event_alone) (a : Event) (f : Fields) (q : Path) (peek : Bool) (kept : List Path) → Shaped x → there x.tree x.at ≡ true → is_path program.shape q ≡ true → (was : Bool) → Shaped (into x a f q peek kept was)
  into_shaped x a f q peek kept h here path true = record { entered = h.entered; paths = h.paths; absent = put_absent x f h here }
  into_shaped x a f q peek kept h here path false = record {
    entered = λ p e. there-enter (tree_with x f) q p ∙ more p (or_cases (has x.entered p) (path_eq p q) (sym (has_append x.entered q p) ∙ e));
    paths = λ p e. is_one p (or_cases (path_eq p q) (there x.tree p) (sym (there-enter (tree_with x f) q p) ∙ e));
    absent = λ p e. put_absent x f h here p (out (path_eq p q) (there x.tree p) (sym (there-enter (tree_with x f) q p) ∙ e));
  }
    where
      right : (a b : Bool) → b ≡ true → (a || b) ≡ true
      right true b e = refl
      right false b e = e

      left : (a b : Bool) → a ≡ true → (a || b) ≡ true
      left a b e = ap (λ c. c || b) e

      out : (a b : Bool) → (a || b) ≡ false → b ≡ false
      out true b e = absurd (true≢false e)
      out false b e = e

      more : (p : Path) → (has x.entered p ≡ true) ⊎ (path_eq p q ≡ true) → (path_eq p q || there x.tree p) ≡ true
      more p (inl e) = right (path_eq p q) (there x.tree p) (h.entered p e)
      more p (inr e) = left (path_eq p q) (there x.tree p) e

      is_one : (p : Path) → (path_eq p q ≡ true) ⊎ (there x.tree p ≡ true) → is_path program.shape p ≡ true
      is_one p (inl e) = ap (is_path program.shape) ((path_eq_decides p q).0 e) ∙ path
      is_one p (inr e) = h.paths p e

  module _ (fit : IsFit program) (verified : IsVerified program) where
    abbrev kind : Kind Event Fields EventResult Call
    kind = code_kind program 0

    owed : Owes (code_kind program 0)
    owed = owes program fit verified 0

    goes_shaped : (x : Event_alone) (n : ℕ) (a : Event) (f : Fields) (why : Pause EventResult) → Shaped x → there x.tree x.at ≡ true → Keeps kind a x.at n why → Shaped (goes_on (code_actors program) x a f why)
    goes_shaped x n a f (Go s) h here k = into_shaped x a f (x.at ++ s ∷ []) ((code_actors program).peeks a) (filter (is_above (x.at ++ s ∷ [])) x.held) h here k.1.box.is_path (has x.held (x.at ++ s ∷ []))
    goes_shaped x n a f (Down s) h here k = into_shaped x a f (x.at ++ s ∷ []) false x.held h here k.box.is_path (has x.held (x.at ++ s ∷ []))
    goes_shaped x n a f Back h here k = record { entered = h.entered; paths = h.paths; absent = put_absent x f h here }
    goes_shaped x n a f (Over r) h here k = record { entered = h.entered; paths = h.paths; absent = put_absent x f h here }

    next_shaped : (x : Event_alone) → Fine kind owed x → Shaped x → Shaped (next_alone (code_actors program) x)
    next_shaped x fine h = by x.result refl
      where
        running : (base : Path) → Stands kind owed x base → Shaped (segment_if (code_actors program) x None)
        running base s =
            let here : there x.tree x.at ≡ true = h.entered x.at (s.held_entered x.at (at_held kind owed x base s)) in
            let left = segment_alone (code_actors program) x in
            goes_shaped x (length s.below) left.actor left.fields left.pause h here (owed.keeps x.actor x.at (length s.below) (x.tree.fields x.at) (children_of x.tree x.at) s.ready (fine.fitting x.at))

        by : (o : Option EventResult) → x.result ≡ o → Shaped (segment_if (code_actors program) x o)
        by (Some r) e = h
        by None e = elim fine.phase [ inl u ↦ running u.1 u.2 | inr u ↦ absurd (none_not (sym e ∙ u.1)) ]

    module _ (tree : Tree Fields) (call : Call) (is : HasShape program.shape tree) (job : IsJob program call) where
      known : IsTree program tree
      known = begins program fit verified tree is.0 is.1

      first_shaped : Shaped (first_alone (code_actors program) call 0 tree)
      first_shaped = record {
        entered = λ p e. there-enter tree [] p ∙ root p e;
        paths = λ p e. of_shape p (or_cases (path_eq p []) (there tree p) (sym (there-enter tree [] p) ∙ e));
        absent = λ p e. is.0.absent p (out (path_eq p []) (there tree p) (sym (there-enter tree [] p) ∙ e));
      }
        where
          out : (a b : Bool) → (a || b) ≡ false → b ≡ false
          out true b e = absurd (true≢false e)
          out false b e = e

          root : (p : Path) → list_any (path_eq p) ([] ∷ []) ≡ true → (path_eq p [] || there tree p) ≡ true
          root [] e = refl
          root (s ∷ p) e = absurd (true≢false (sym e))

          of_shape : (p : Path) → (path_eq p [] ≡ true) ⊎ (there tree p ≡ true) → is_path program.shape p ≡ true
          of_shape p (inl e) = ap (is_path program.shape) ((path_eq_decides p []).0 e)
          of_shape p (inr e) = at_path (λ q. is_path program.shape q ≡ true) tree.paths (recursion_from_All (λ q. is_path program.shape q ≡ true) tree.paths is.0.paths) p e

      all_shaped : (n : ℕ) → Shaped (after_segments (code_actors program) n (first_alone (code_actors program) call 0 tree))
      unfolding after_segments
      all_shaped zero = first_shaped
      all_shaped (suc n) = next_shaped (after_segments (code_actors program) n (first_alone (code_actors program) call 0 tree)) (fine_after kind owed (first_alone (code_actors program) call 0 tree) (first_fine kind owed call 0 tree job known.fields) n) (all_shaped n)

      pub shape_kept : HasShape program.shape (code_ran program tree call).tree
      shape_kept =
          let after : Tree Fields = (code_ran program tree call).tree in
          let w = whole program fit verified call 0 tree job known.fields in
          let x : Shaped (ended_alone (code_actors program) 0 tree call) = all_shaped ((code_actors program).enough call 0 tree) in
          let kept : IsTree program after = (code_owes program fit verified).kept tree call known job in (
            record {
              ordered = kept.ordered;
              paths = all_of (λ p. is_path program.shape p ≡ true) after.paths (λ p e. x.paths p (ap (λ (t : Tree Fields). there t p) w.tree ∙ e));
              parents = all_of (λ p. there after (parent_of p) ≡ true) after.paths kept.parents;
              kinds = all_of (λ p. HasKinds program.shape p (after.fields p)) after.paths (λ p e. kept.fields p);
              absent = λ p e. ap (λ (t : Tree Fields). t.fields p) (sym w.tree) ∙ x.absent p (ap (λ (t : Tree Fields). there t p) w.tree ∙ e);
            },
            kept.root,
          )

    -- on trees of the shape, code owes what a fold asks for, and keeps the shape
    pub shape_owes : Owed program.shape (code_ran program) (HasShape program.shape) (IsJob program)
    shape_owes =
        let o = code_owes program fit verified in
        let known : (t : Tree Fields) → HasShape program.shape t → IsTree program t = λ t is. begins program fit verified t is.0 is.1 in
        record {
          begins = λ t fits root. (fits, root);
          asked = o.asked;
          kept = λ t c is job. shape_kept t c is job;
          created = λ t c is job. o.created t c (known t is) job;
          few = λ t c is job. o.few t c (known t is) job;
          later = λ t c is job. o.later t c (known t is) job;
          last = o.last;
          joined = λ t c p is job. o.joined t c p (known t is) job;
          ordered = λ t c is job. o.ordered t c (known t is) job;
          unmoved = λ t c is job. o.unmoved t c (known t is) job;
        }

    pub shape_keeps : KeepsShape program.shape (code_ran program) (HasShape program.shape) (IsJob program)
    shape_keeps t c is job fits = (shape_kept t c is job).0
