-- Worlds after a message, a created event, and where there is no room for one.
use Rattle.std.proofs.Common.{◌≡◌, ℕ, suc, ◌<◌, ◌≤◌, true, false, nat_lt, ◌==◌, List, [], ◌∷◌, ◌++◌, length, Result, Ok, Err, refl, sym, subst, arith}
use Rattle.std.proofs.lemmas.Bool.Decides.{nat_tests}
use Rattle.wave_base.specs.declared.path.Path.{Path}
use Rattle.wave_base.specs.declared.span.Span.{Span}
use Rattle.wave_base.specs.declared.trap.TrapKind.{TrapKind}
use Rattle.wave_base.specs.declared.trap.TrapKind.TheVariants.{Sends, Spawns, Generation, Reach}
use Rattle.wave_base.specs.declared.value.Value.{Value}
use Rattle.value_ops.specs.Kinds.{Answer}
use Rattle.resolved_service.specs.World.{World, has, after_change, with_entered, entering, sending, spawning}
use Rattle.service_eval.specs.declared.stop.Stop.{Stop}
use Rattle.service_eval.specs.declared.stop.Stop.TheVariants.{Trapped}
use Rattle.service_eval.specs.inner.Traces.{Changes, Enters}

pub below_is : (a b : ℕ) → a < b → nat_lt a b ≡ true
below_is a b h = grind (arith, nat_tests)

pub below_not : (a b : ℕ) → b ≤ a → nat_lt a b ≡ false
below_not a b h = grind (arith, nat_tests)

pub equal_is : (a b : ℕ) → a ≡ b → (a == b) ≡ true
equal_is a b h = grind (arith, nat_tests)

pub equal_not : (a b : ℕ) → (a ≡ b → ⊥) → (a == b) ≡ false
equal_not a b h = grind (arith, nat_tests)

-- a trap that is handed on
pub refuses : (answer : Answer World) (k : TrapKind) (at : Span) (w : World) (r : Result (Unit {0}) Stop) → answer ≡ Err k → r ≡ Err (Trapped (record { kind = k; at = at })) → Changes answer at w r w
refuses answer k at w r e h = subst (λ r. Changes answer at w r w) (sym h) (e, refl, refl)

pub enters_refuses : (q : Path) (k : TrapKind) (at : Span) (w : World) (r : Result (Unit {0}) Stop) → entering q w ≡ Err k → r ≡ Err (Trapped (record { kind = k; at = at })) → Enters q w at r w
enters_refuses q k at w r e h = subst (λ r. Enters q w at r w) (sym h) (e, refl, refl)

module _ (label : List ℕ) (value : Value) (w : World) where
  pub sends_no_more : 64 ≤ length w.messages → sending label value w ≡ Err Sends
  unfolding sending
  sends_no_more h = rw (below_not (length w.messages) 64 h) refl

  pub sends_one_more : length w.messages < 64 → sending label value w ≡ Ok (record w { messages = w.messages ++ record { label = label; value = value } ∷ [] })
  unfolding sending
  sends_one_more h = rw (below_is (length w.messages) 64 h) refl

module _ (event : ℕ) (args : List Value) (w : World) where
  pub last_generation : w.generation ≡ 4 → spawning event args w ≡ Err Generation
  unfolding spawning
  last_generation h = rw (equal_is w.generation 4 h) refl

  pub spawns_no_more : (w.generation ≡ 4 → ⊥) → 4 ≤ length w.created → spawning event args w ≡ Err Spawns
  unfolding spawning
  spawns_no_more g h = rw (equal_not w.generation 4 g, below_not (length w.created) 4 h) refl

  pub spawns_one_more : (w.generation ≡ 4 → ⊥) → length w.created < 4 → spawning event args w ≡ Ok (record w { created = w.created ++ record { event = event; args = args; generation = suc w.generation } ∷ [] })
  unfolding spawning
  spawns_one_more g h = rw (equal_not w.generation 4 g, below_is (length w.created) 4 h) refl

module _ (q : Path) (w : World) where
  pub enters_again : has w.held q ≡ true → entering q w ≡ Ok (after_change w)
  unfolding entering
  enters_again h = rw h refl

  pub enters_no_more : has w.held q ≡ false → 256 ≤ length w.entered → entering q w ≡ Err Reach
  unfolding entering
  enters_no_more h l = rw (h, below_not (length w.entered) 256 l) refl

  pub enters_new : has w.held q ≡ false → length w.entered < 256 → entering q w ≡ Ok (after_change (with_entered q w))
  unfolding entering
  enters_new h l = rw (h, below_is (length w.entered) 256 l) refl
