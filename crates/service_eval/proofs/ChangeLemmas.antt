-- Statements that change a variable: what they mean, what of them comes first, and what they come to.
use Rattle.std.proofs.Common.{◌≡◌, ◌≤◌, ◌<◌, ℕ, List, [], ◌∷◌, ◌++◌, drop, get_or, length, Bor, Option, Result, Ok, Err, refl, sym, ap, subst, ◌∙◌}
use Rattle.wave_base.specs.declared.limits.TheConstants.{TICKS}
use Rattle.wave_base.specs.declared.path.Path.{Path}
use Rattle.wave_base.specs.declared.shape.Shape.{Shape}
use Rattle.wave_base.specs.declared.span.Span.{Span}
use Rattle.wave_base.specs.declared.value.Value.{Value}
use Rattle.wave_base.specs.Shapes.{class_of}
use Rattle.context_tree.specs.Contexts.{Contexts}
use Rattle.resolved_service.specs.declared.expr.Expr.{Expr}
use Rattle.resolved_service.specs.declared.service.Method.{Method}
use Rattle.resolved_service.specs.declared.stmt.Action.{Action}
use Rattle.resolved_service.specs.declared.stmt.Action.TheVariants as action
use Rattle.resolved_service.specs.Fits.{FitsStep}
use Rattle.resolved_service.specs.Meaning.{State, Act, and_then, ◌>>=◌, value, effect, call_act}
use Rattle.resolved_service.specs.Steps.{SetLocal, SetField, PutLocal, PutField, CutLocal, CutField, action_step}
use Rattle.resolved_service.specs.View.{tree_of}
use Rattle.resolved_service.specs.World.{nothing}
use Rattle.service_eval.specs.declared.assignments.Assignment.{Assignment}
use Rattle.service_eval.specs.declared.assignments.Assignment.TheVariants as assignment
use Rattle.service_eval.specs.declared.code.Code.{Code}
use Rattle.service_eval.specs.declared.edits.Edit.TheVariants as edit
use Rattle.service_eval.specs.declared.machine.Machine.{Machine}
use Rattle.service_eval.specs.declared.stop.Stop.{Stop}
use Rattle.service_eval.specs.declared.work.StatementEnd.TheVariants as ending
use Rattle.service_eval.specs.declared.work.Variable.{Variable}
use Rattle.service_eval.specs.declared.work.Variable.TheVariants as variable
use Rattle.service_eval.specs.inner.Changes.{changing, step_in, IsOther}
use Rattle.service_eval.specs.inner.Items as i
use Rattle.service_eval.specs.inner.Items.{End, Item, Eval, Begin, Finish, end_of}
use Rattle.service_eval.specs.inner.Machines.{Mach, finish, on_top, before_all, cut_to, in_state, comes_to}
use Rattle.service_eval.specs.inner.Ready.{FitsItems}
use Rattle.service_eval.specs.inner.Turns.{mach, Goes, Does}
use Rattle.service_eval.specs.inner.Traces.{Traps}
use Rattle.service_eval.proofs.BlockLemmas as l
use Rattle.service_eval.specs.inner.Weight.{load}
use Rattle.service_eval.proofs.FinishLemmas.{finished, not_finished}
use Rattle.service_eval.proofs.LighterTurns.{finished_lighter, one_lighter, two_lighter}

-- what a statement means
module _ (call : ℕ → Path → List Value → Act (Option Value)) (n : ℕ) (p : Path) (at : Span) (st : State) where
  pub set_means : (v : Variable) (e : Bor Expr) → effect call n p (step_in at (assignment.Set v e)) st ≡ and_then (value call p (tree_of e.now) st) (λ x. changing p at v (edit.Set x))
  set_means (variable.Local slot) e = refl
  set_means (variable.Field f) e = refl

  pub put_means : (v : Variable) (k e : Bor Expr) → effect call n p (step_in at (assignment.Put v k e)) st ≡ and_then (value call p (tree_of k.now) st) (λ x. value call p (tree_of e.now) >>= (λ y. changing p at v (edit.Put x y)))
  put_means (variable.Local slot) k e = refl
  put_means (variable.Field f) k e = refl

  pub cut_means : (v : Variable) (k : Bor Expr) → effect call n p (step_in at (assignment.Cut v k)) st ≡ and_then (value call p (tree_of k.now) st) (λ x. changing p at v (edit.Cut x))
  cut_means (variable.Local slot) k = refl
  cut_means (variable.Field f) k = refl

  -- and what it does with the values of its expressions
  module _ (vs : List Value) where
    pub set_ends : (v : Variable) → finish call n p at vs (end_of (ending.Set v)) st ≡ changing p at v (edit.Set (get_or vs 0 nothing)) st
    set_ends (variable.Local slot) = refl
    set_ends (variable.Field f) = refl

    pub put_ends : (v : Variable) → finish call n p at vs (end_of (ending.Put v)) st ≡ changing p at v (edit.Put (get_or vs 0 nothing) (get_or vs 1 nothing)) st
    put_ends (variable.Local slot) = refl
    put_ends (variable.Field f) = refl

    pub cut_ends : (v : Variable) → finish call n p at vs (end_of (ending.Cut v)) st ≡ changing p at v (edit.Cut (get_or vs 0 nothing)) st
    cut_ends (variable.Local slot) = refl
    cut_ends (variable.Field f) = refl

-- what is none of the six changes no variable
pub other_is : (a : Action) (at : Span) → ((slot : ℕ) (e : Expr) → a ≡ action.SetLocal slot e → ⊥) → ((slot : ℕ) (e : Expr) → a ≡ action.SetField slot e → ⊥) → ((slot : ℕ) (k e : Expr) → a ≡ action.PutLocal slot k e → ⊥) → ((slot : ℕ) (k e : Expr) → a ≡ action.PutField slot k e → ⊥) → ((slot : ℕ) (e : Expr) → a ≡ action.CutLocal slot e → ⊥) → ((slot : ℕ) (e : Expr) → a ≡ action.CutField slot e → ⊥) → IsOther (action_step a at)
other_is (action.SetLocal slot e) at h1 h2 h3 h4 h5 h6 = absurd (h1 slot e refl)
other_is (action.SetField slot e) at h1 h2 h3 h4 h5 h6 = absurd (h2 slot e refl)
other_is (action.PutLocal slot k e) at h1 h2 h3 h4 h5 h6 = absurd (h3 slot k e refl)
other_is (action.PutField slot k e) at h1 h2 h3 h4 h5 h6 = absurd (h4 slot k e refl)
other_is (action.CutLocal slot e) at h1 h2 h3 h4 h5 h6 = absurd (h5 slot e refl)
other_is (action.CutField slot e) at h1 h2 h3 h4 h5 h6 = absurd (h6 slot e refl)
other_is (action.If' e s body other) at h1 h2 h3 h4 h5 h6 = tt
other_is (action.While' e s body) at h1 h2 h3 h4 h5 h6 = tt
other_is (action.For' n from to s body) at h1 h2 h3 h4 h5 h6 = tt
other_is (action.Require e) at h1 h2 h3 h4 h5 h6 = tt
other_is (action.Send label e) at h1 h2 h3 h4 h5 h6 = tt
other_is (action.Spawn n es) at h1 h2 h3 h4 h5 h6 = tt
other_is (action.Do e) at h1 h2 h3 h4 h5 h6 = tt
other_is (action.Return e) at h1 h2 h3 h4 h5 h6 = tt
other_is (action.Finish e) at h1 h2 h3 h4 h5 h6 = tt

-- what of it comes first
abbrev pub begun : Span → Assignment → ℕ → List Item
begun at (assignment.Set v e) base = Eval (tree_of e.now) ∷ Finish at (end_of (ending.Set v)) base ∷ []
begun at (assignment.Put v k e) base = Eval (tree_of k.now) ∷ Eval (tree_of e.now) ∷ Finish at (end_of (ending.Put v)) base ∷ []
begun at (assignment.Cut v k) base = Eval (tree_of k.now) ∷ Finish at (end_of (ending.Cut v)) base ∷ []

pub begun_parts : (methods : List Method) (m : Mach) (at : Span) (a : Assignment) → comes_to methods (on_top (Begin (step_in at a)) m) ≡ comes_to methods (before_all (begun at a (length m.values)) m)
begun_parts methods m at (assignment.Set (variable.Local slot) e) = l.set_local_parts methods m at slot (tree_of e.now)
begun_parts methods m at (assignment.Set (variable.Field f) e) = l.set_field_parts methods m at f (tree_of e.now)
begun_parts methods m at (assignment.Put (variable.Local slot) k e) = l.put_local_parts methods m at slot (tree_of k.now) (tree_of e.now)
begun_parts methods m at (assignment.Put (variable.Field f) k e) = l.put_field_parts methods m at f (tree_of k.now) (tree_of e.now)
begun_parts methods m at (assignment.Cut (variable.Local slot) k) = l.cut_local_parts methods m at slot (tree_of k.now)
begun_parts methods m at (assignment.Cut (variable.Field f) k) = l.cut_field_parts methods m at f (tree_of k.now)

pub begun_lighter : (methods : List Method) (m : Mach) (at : Span) (a : Assignment) (base : ℕ) → load methods (before_all (begun at a base) m) < load methods (on_top (Begin (step_in at a)) m)
begun_lighter methods m at (assignment.Set (variable.Local slot) e) base = one_lighter methods m (SetLocal at slot (tree_of e.now)) (tree_of e.now) at (i.SetLocal slot) base (λ n. refl) (λ n. refl)
begun_lighter methods m at (assignment.Set (variable.Field f) e) base = one_lighter methods m (SetField at f (tree_of e.now)) (tree_of e.now) at (i.SetField f) base (λ n. refl) (λ n. refl)
begun_lighter methods m at (assignment.Put (variable.Local slot) k e) base = two_lighter methods m (PutLocal at slot (tree_of k.now) (tree_of e.now)) (tree_of k.now) (tree_of e.now) at (i.PutLocal slot) base (λ n. refl) (λ n. refl)
begun_lighter methods m at (assignment.Put (variable.Field f) k e) base = two_lighter methods m (PutField at f (tree_of k.now) (tree_of e.now)) (tree_of k.now) (tree_of e.now) at (i.PutField f) base (λ n. refl) (λ n. refl)
begun_lighter methods m at (assignment.Cut (variable.Local slot) k) base = one_lighter methods m (CutLocal at slot (tree_of k.now)) (tree_of k.now) at (i.CutLocal slot) base (λ n. refl) (λ n. refl)
begun_lighter methods m at (assignment.Cut (variable.Field f) k) base = one_lighter methods m (CutField at f (tree_of k.now)) (tree_of k.now) at (i.CutField f) base (λ n. refl) (λ n. refl)

pub begun_fits : (shape : Shape) (methods : List Method) (p : Path) (at : Span) (a : Assignment) (base : ℕ) (items : List Item) → FitsStep shape methods (class_of p) (step_in at a) → FitsItems shape methods items p → FitsItems shape methods (begun at a base ++ items) p
begun_fits shape methods p at (assignment.Set (variable.Local slot) e) base items h rest = (h, (tt, rest))
begun_fits shape methods p at (assignment.Set (variable.Field f) e) base items h rest = (h.1, (tt, rest))
begun_fits shape methods p at (assignment.Put (variable.Local slot) k e) base items h rest = (h.0, (h.1, (tt, rest)))
begun_fits shape methods p at (assignment.Put (variable.Field f) k e) base items h rest = (h.1, (h.2, (tt, rest)))
begun_fits shape methods p at (assignment.Cut (variable.Local slot) k) base items h rest = (h, (tt, rest))
begun_fits shape methods p at (assignment.Cut (variable.Field f) k) base items h rest = (h.1, (tt, rest))

-- the values were taken, and then the change was made
pub change_turn : (code : Code) (contexts contexts' : Contexts) (m m1 m' : Machine) (at : Span) (base : ℕ) (what : End) (change : Act (Unit {0})) (r : Result (Unit {0}) Stop) → mach code contexts m1 ≡ cut_to base (mach code contexts m) → finish (call_act code.methods.now TICKS) TICKS m.path at (drop base m.values.items) what (mach code contexts m).state ≡ change (mach code contexts m).state → Does code contexts m1 change r contexts' m' → Goes code contexts m (Finish at what base) r contexts' m'
change_turn code contexts contexts' m m1 m' at base what change (Ok u) took is h =
    let M = mach code contexts m in
    let M' = mach code contexts' m' in (
      finished code.methods.now M at base what M'.state (is ∙ ap (λ (x : Mach). change x.state) (sym took) ∙ h.0) ∙ ap (comes_to code.methods.now) (ap (in_state M'.state) (sym took) ∙ sym h.1),
      h.2,
      subst (λ (x : Mach). load code.methods.now x < load code.methods.now (on_top (Finish at what base) M)) (sym (h.1 ∙ ap (in_state M'.state) took))
          (finished_lighter code.methods.now M at what base M'.state (subst (λ (x : Mach). M'.state.world.ticks ≤ x.state.world.ticks) took h.3)),
    )
change_turn code contexts contexts' m m1 m' at base what change (Err e) took is h =
    let M = mach code contexts m in
    let M' = mach code contexts' m' in
    (not_finished code.methods.now M at base what e M'.state.world (subst (λ o. Traps o e M'.state.world) (sym (is ∙ ap (λ (x : Mach). change x.state) (sym took))) h.0), h.1)
