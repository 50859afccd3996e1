-- What can trap of methods and events that have their names resolved, and of a whole service, stands at such places.
use Rattle.std.proofs.Common.{◌≡◌, inl, inr, ℕ, zero, suc, List, [], ◌∷◌, ◌++◌, map, slice_get, Option, Some, None, refl, sym, ap, subst}
use Rattle.std.specs.List.{Contains}
use Rattle.std.specs.Option.{option_map}
use Rattle.std.proofs.lemmas.List.Elements.{All-contains, All-from_recursion}
use Rattle.wave_base.specs.declared.span.Span.{Span}
use Rattle.wave_base.specs.declared.trap.Trap.{Trap}
use Rattle.wave_base.specs.declared.trap.TrapKind.TheVariants as k
use Rattle.resolved_service.specs.declared.service.Event.{Event}
use Rattle.resolved_service.specs.declared.service.Last.{Last}
use Rattle.resolved_service.specs.declared.service.Method.{Method}
use Rattle.resolved_service.specs.declared.service.Phase.{Phase}
use Rattle.resolved_service.specs.declared.service.Resolved.{Resolved}
use Rattle.type_rules.specs.Functions.{LastView, MethodView, PhaseView, EventView}
use Rattle.type_rules.specs.Services.{ResolvedView}
use Rattle.type_rules.specs.Views.{last_view, method_view, phase_view, event_view, resolved_view}
use Rattle.trap_laws.specs.Traps.{ComesOf, event_traps, last_traps, method_traps, phases_traps, traps_at, steps_traps, tree_traps}
use Rattle.mace_grammar.proofs.Parts.{Each, none_not, some_same}
use Rattle.trap_laws.proofs.Placed.{Placed}

abbrev pub last_of : Option LastView → List Trap
last_of None = []
last_of (Some l) = tree_traps l.value

abbrev pub method_of : MethodView → List Trap
method_of m = steps_traps m.body ++ last_of m.last

abbrev pub phases_of : List PhaseView → List Trap
phases_of [] = []
phases_of (f ∷ fs) = traps_at f.at (k.Reach ∷ []) ++ tree_traps f.key ++ steps_traps f.body ++ phases_of fs

abbrev pub event_of : EventView → List Trap
event_of e = steps_traps e.here ++ phases_of e.phases ++ last_of e.last

-- they are those of what is viewed so
last_same : (o : Option Last) → last_of (option_map last_view o) ≡ last_traps o
last_same None = refl
last_same (Some l) = refl

phases_same : (fs : List Phase) → phases_of (map phase_view fs) ≡ phases_traps fs
phases_same [] = refl
phases_same (f ∷ fs) = ap (λ ts. traps_at f.at (k.Reach ∷ []) ++ tree_traps (phase_view f).key ++ steps_traps (phase_view f).body ++ ts) (phases_same fs)

method_same : (m : Method) → method_of (method_view m) ≡ method_traps m
method_same m = ap (λ ts. steps_traps (method_view m).body ++ ts) (last_same m.last)

event_same : (e : Event) → event_of (event_view e) ≡ event_traps e
event_same e = λ i. steps_traps (event_view e).here ++ phases_same e.phases i ++ last_same e.last i

module _ (P : Span → Type 0) where
  abbrev pub MethodPlaced : MethodView → Type 0
  MethodPlaced m = Placed P (method_of m)

  abbrev pub EventPlaced : EventView → Type 0
  EventPlaced e = Placed P (event_of e)

  pub record ServicePlaced (v : ResolvedView) : Type 0 where
    pub methods : Each MethodPlaced v.methods
    pub events : Each EventPlaced v.events

  one_of : {X Y : Type 0} (f : X → Y) (S : Y → Type 0) (xs : List X) (i : ℕ) (x : X) → Each S (map f xs) → slice_get xs i ≡ Some x → S (f x)
  one_of f S [] i x ss e = absurd (none_not e)
  one_of f S (y ∷ ys) zero x ss e = subst (λ z. S (f z)) (some_same y x e) ss.0
  one_of f S (y ∷ ys) (suc i) x ss e = one_of f S ys i x ss.1 e

  among : (ts : List Trap) (t : Trap) → Placed P ts → Contains ts t → P t.at
  among ts t ps c = All-contains (λ (t : Trap). P t.at) ts t (All-from_recursion (λ (t : Trap). P t.at) ts ps) c

  -- and so do all that can come of the service
  pub comes_of : (service : Resolved) (v : ResolvedView) → resolved_view service ≡ v → ServicePlaced v → (number : ℕ) (trap : Trap) → ComesOf service number trap → P trap.at
  comes_of service v same placed number trap (inl (e, is, c)) =
      among (event_traps e) trap (subst (Placed P) (event_same e) (one_of event_view EventPlaced service.events number e (subst ServicePlaced (sym same) placed).events is)) c
  comes_of service v same placed number trap (inr (i, m, is, c)) =
      among (method_traps m) trap (subst (Placed P) (method_same m) (one_of method_view MethodPlaced service.methods i m (subst ServicePlaced (sym same) placed).methods is)) c
