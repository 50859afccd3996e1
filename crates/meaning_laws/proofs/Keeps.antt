-- A call keeps the tree that it runs on well.
use Rattle.std.proofs.Common.{◌≡◌, ◌||◌, ℕ, suc, Bool, true, false, List, [], ◌∷◌, Option, Some, None, refl, sym, ap, ◌∙◌, arith}
use Rattle.std.specs.Prelude.{slice_get}
use Rattle.std.specs.List.{list_any}
use Rattle.std.proofs.lemmas.List.Elements.{All-nil, All-cons}
use Rattle.wave_base.proofs.Lists.{all_at}
use Rattle.wave_base.specs.declared.limits.TheConstants.{TICKS}
use Rattle.wave_base.specs.declared.call.Call.{Call}
use Rattle.wave_base.specs.declared.call.Message.{Message}
use Rattle.wave_base.specs.declared.path.Path.{Path}
use Rattle.wave_base.specs.declared.shape.Shape.{Shape}
use Rattle.wave_base.specs.declared.value.Value.{Value}
use Rattle.wave_base.specs.Paths.{path_eq}
use Rattle.wave_base.specs.PathLaws.{path_eq_decides}
use Rattle.wave_base.specs.Places.{move_of}
use Rattle.wave_base.specs.Tree.{Tree, there}
use Rattle.resolved_service.specs.declared.service.Event.{Event}
use Rattle.resolved_service.specs.declared.service.Resolved.{Resolved}
use Rattle.resolved_service.specs.Fits.{FitsService, FitsEvent}
use Rattle.resolved_service.specs.Jobs.{call_meaning, meant_by, meant_event, first_world, outcome_of_reply, event_end}
use Rattle.resolved_service.specs.Meaning as m
use Rattle.resolved_service.specs.World.{World}
use Rattle.resolved_service.specs.Meaning.{Outcome, Done, Trapped, Left, event_run}
use Rattle.service_eval.specs.Worlds.{Holds}
use Rattle.meaning_laws.specs.Kept.{IsEarly, IsKept}
use Rattle.meaning_laws.proofs.Keeping.{At, Kept, Ends}
use Rattle.meaning_laws.proofs.Safely.{ends_event}

module _ (shape : Shape) (t : Tree (List Value)) (g : ℕ) where
  no_move : (reply : Option Value) (messages : List Message) (created : List Call) → move_of (record { outcome = outcome_of_reply reply; messages = messages; created = created }) ≡ None
  no_move None messages created = refl
  no_move (Some x) messages created = refl

  ends_kept : (reply : Option Value) (w : World) → Kept shape t g w → IsKept shape t g (event_end reply w)
  ends_kept reply w h = record {
    tree = h.holds;
    early = h.early;
    few = h.few;
    later = h.later;
    joined = h.joined;
    ordered = h.ordered;
    unmoved = no_move reply w.messages w.created;
  }

  kept_by : (o : Outcome (Option Value)) → Ends shape t g o → IsKept shape t g (meant_by o)
  kept_by (Done reply st) h = ends_kept reply st.world h
  kept_by (Left (m.Returned reply) st) h = ends_kept reply st.world h
  kept_by (Left (m.Finished reply) st) h = ends_kept reply st.world h
  kept_by (Trapped k at w) h = record {
    tree = h.holds;
    early = All-nil IsEarly;
    few = omega arith;
    later = All-nil (λ (d : Call). d.generation ≡ suc g);
    joined = h.joined;
    ordered = h.ordered;
    unmoved = refl;
  }

or_false : (a : Bool) → (a || false) ≡ a
or_false true = refl
or_false false = refl

or_true : (a : Bool) → (a || true) ≡ true
or_true true = refl
or_true false = refl

-- the root is there already
root_joined : (t : Tree (List Value)) (p : Path) → there t [] ≡ true → there t p ≡ (there t p || list_any (path_eq p) ([] ∷ []))
root_joined t p root = by_root (path_eq p []) refl
  where
    by_root : (b : Bool) → path_eq p [] ≡ b → there t p ≡ (there t p || (b || false))
    by_root true e = ap (there t) ((path_eq_decides p []).0 e) ∙ root ∙ sym (or_true (there t p))
    by_root false e = sym (or_false (there t p))

-- an event begins at the root, which is there
begins_at : (shape : Shape) (t : Tree (List Value)) (g : ℕ) → Holds shape t → At shape t g [] (first_world g t)
begins_at shape t g h = (
  record {
    same = refl;
    holds = h;
    held_there = All-cons (λ q. there t q ≡ true) [] [] h.root (All-nil (λ q. there t q ≡ true));
    joined = λ p. root_joined t p h.root;
    ordered = λ o. o;
    few = omega arith;
    later = All-nil (λ (d : Call). d.generation ≡ suc g);
    early = All-nil IsEarly;
  },
  h.root,
)

module _ (shape : Shape) (service : Resolved) (fit : FitsService shape service) where
  kept_event : (t : Tree (List Value)) (c : Call) → Holds shape t → IsEarly c → (o : Option Event) → slice_get service.events c.event ≡ o → IsKept shape t c.generation (meant_event service o c t)
  kept_event t c h early None e = record {
    tree = h;
    early = All-nil IsEarly;
    few = omega arith;
    later = All-nil (λ (d : Call). d.generation ≡ suc c.generation);
    joined = λ p. sym (or_false (there t p));
    ordered = λ o. o;
    unmoved = refl;
  }
  kept_event t c h early (Some x) e =
      kept_by shape t c.generation (event_run service.methods TICKS x c.args (first_world c.generation t))
      (ends_event shape t c.generation service.methods early fit.methods TICKS x c.args (first_world c.generation t) (all_at (FitsEvent shape service.methods) service.events c.event x e fit.events) (begins_at shape t c.generation h))

  pub kept_call : (t : Tree (List Value)) (c : Call) → Holds shape t → IsEarly c → IsKept shape t c.generation (call_meaning service t c)
  unfolding call_meaning
  kept_call t c h early = kept_event t c h early (slice_get service.events c.event) refl
