-- An event goes down into a child.
use Rattle.std.proofs.Common.{◌≡◌, ℕ, ℤ, true, List, [], ◌∷◌, ◌++◌, Ok, sym, ap, subst, ◌∙◌, arith, w64, FitsSigned, to_z, of_z}
use Rattle.std.proofs.lemmas.Int.{to_z-of_z}
use Rattle.std.proofs.lemmas.List.Elements.{All-filter}
use Rattle.wave_base.specs.declared.path.Class.{Class}
use Rattle.wave_base.specs.declared.path.Path.{Path}
use Rattle.wave_base.specs.declared.shape.Shape.{Shape}
use Rattle.wave_base.specs.declared.value.Value.{Value}
use Rattle.wave_base.specs.Paths.{is_above, parent_of}
use Rattle.wave_base.specs.Shapes.{is_path, class_of}
use Rattle.wave_base.specs.Tree.{there}
use Rattle.resolved_service.specs.declared.service.Method.{Method}
use Rattle.resolved_service.specs.Fits.{IsChildClass}
use Rattle.resolved_service.specs.World.{World, key_of, child, after_change, entering, releasing}
use Rattle.service_eval.specs.inner.Machines.{Mach}
use Rattle.service_eval.specs.inner.Ready.{FitsItems, Ready}
use Rattle.service_eval.proofs.CallTurns.{Entered, entered}
use Rattle.service_eval.proofs.PathLemmas.{is_path-child, parent_of-child}

-- the path that is entered, by the key's value
pub is_child : (p : Path) (class : Class) (key : ℤ) (v : Value) (q : Path) → FitsSigned w64 key → q ≡ p ++ record { class = class; key = to_z w64 (of_z w64 key) } ∷ [] → key ≡ key_of v → q ≡ child p class.0 v
is_child p class key v q fits e k = e ∙ ap (λ z. p ++ record { class = class; key = z } ∷ []) (to_z-of_z w64 key fits ∙ k)

module _ (shape : Shape) (methods : List Method) (m : Mach) (r : Ready shape methods m) (none : m.items ≡ []) (class : ℕ) (v : Value) (fits : IsChildClass shape (class_of m.path) class) where
  pub down_path : is_path shape (child m.path class v) ≡ true
  down_path = is_path-child shape m.path (record { class = record { 0 = class }; key = key_of v }) r.path fits

  pub down_parent : there m.state.world.tree (parent_of (child m.path class v)) ≡ true
  down_parent = subst (λ p. there m.state.world.tree p ≡ true) (sym (parent_of-child m.path (record { class = record { 0 = class }; key = key_of v }))) r.here

  pub down_known : (w : World) → entering (child m.path class v) m.state.world ≡ Ok (after_change w) → Entered shape (child m.path class v) m.state.world w
  down_known w e = entered shape (child m.path class v) m.state.world w r.holds r.held down_path down_parent e

  pub down_ready : (w : World) (vs : List Value) → entering (child m.path class v) m.state.world ≡ Ok (after_change w) → Ready shape methods (record { items = m.items; values = vs; path = child m.path class v; state = record { locals = m.state.locals; world = releasing (child m.path class v) w } })
  down_ready w vs e =
      let k = down_known w e in
      record {
        items = subst (λ is. FitsItems shape methods is (child m.path class v)) (sym none) tt;
        holds = k.holds;
        path = down_path;
        held = All-filter (is_above (child m.path class v)) (λ q. there w.tree q ≡ true) w.held k.held;
        here = k.here;
        early = omega (arith, r.early, k.generation);
        few = omega (arith, r.few, k.ticks);
      }
