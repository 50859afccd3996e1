use Rattle.std.proofs.Common.{◌≡◌, ◌≤◌, ◌<◌, ◌+◌, ℕ, true, false, length, refl, ap, sym, ◌∙◌, arith, add-one}
use Rattle.std.specs.Prelude.{nat_lt, ◌==◌, Err}
use Rattle.std.proofs.lemmas.Bool.Decides.{nat_tests}
use Rattle.wave_base.specs.declared.limits.TheConstants.{GENERATION, SPAWNS}
use Rattle.wave_base.specs.declared.call.Call.{Call}
use Rattle.wave_base.specs.declared.trap.TrapKind.TheVariants as trap
use Rattle.deferred_out.specs.Refused.{call_of}
use Rattle.deferred_out.specs.declared.outputs.SpawnError.TheVariants.{Generation, Spawns}
use Rattle.service_vm.proofs.DoingFrames.{spawn_runs, spawn_old, spawn_full}
use Rattle.service_vm.proofs.Doing.{trap_over}
use Rattle.service_vm.proofs.run.Run.spawn.Goals as goal

room : (n m : ℕ) → n ≤ m → (n ≡ m → ⊥) → nat_lt n m ≡ true
room n m le apart = let lt : n < m = omega (arith, le, apart) in grind (arith, nat_tests)

full : (n m : ℕ) → n ≡ m → nat_lt n m ≡ false
full n m e = grind (arith, nat_tests)

other : (n m : ℕ) → (n ≡ m → ⊥) → (n == m) ≡ false
other n m apart = grind (arith, nat_tests)

same : (n m : ℕ) → n ≡ m → (n == m) ≡ true
same n m e = grind (arith, nat_tests)

pub returns-in-Ok-clause-does : goal.returns-in-Ok-clause-does
returns-in-Ok-clause-does c program e fields known counted at =
    let self = c.args.self.now in
    let made : Call = record { event = c.args.event; args = c.in_ok-args.args; generation = self.generation + 1 } in
    let young : (self.generation ≡ GENERATION) → ⊥ = λ is. let h = (c.spawn.ensures.generation).1 is in cc (c.in-Ok.is, h) in
    spawn_runs self c.args.event c.args.count at c.take.new.self c.in_ok-args.args c.in_ok-args.ensures.values c.in_ok-args.ensures.rest c.advance.new.self c.spawn.new.self made
    (other self.generation GENERATION young)
    (room (length self.outputs.created) SPAWNS c.requires.few.few_created (λ is. let h = (c.spawn.ensures.spawns).1 (young, is) in cc (c.in-Ok.is, h)))
    c.in-Ok.ensures.ok
    (ap (λ g. record { event = c.args.event; args = c.in_ok-args.args; generation = g }) (add-one self.generation))
    c.advance.ensures program e fields known counted

pub returns-in-Err-Generation-clause-does : goal.returns-in-Err-Generation-clause-does
returns-in-Err-Generation-clause-does c program e fields known counted at =
    let self = c.args.self.now in
    let last = record self { frames = c.take.new.self; outputs = c.spawn.new.self } in
    let back = ap call_of (sym c.in-Err-Generation.field-0-is) ∙ c.in-Err-Generation.ensures.back in
    let is = (c.spawn.ensures.generation).0 (c.in-Err-Generation.is ∙ ap (λ e. Err e) (c.in-Err-Generation.field-0-is ∙ ap (λ m. Generation m) back)) in
    spawn_old self c.args.event c.args.count at c.take.new.self c.in_ok-args.args c.in_ok-args.ensures.values c.in_ok-args.ensures.rest (trap_over trap.Generation at) last
    (same self.generation GENERATION is) (λ fields. refl) program e fields known counted

pub returns-in-Err-Spawns-clause-does : goal.returns-in-Err-Spawns-clause-does
returns-in-Err-Spawns-clause-does c program e fields known counted at =
    let self = c.args.self.now in
    let last = record self { frames = c.take.new.self; outputs = c.spawn.new.self } in
    let back = ap call_of (sym c.in-Err-Spawns.field-0-is) ∙ c.in-Err-Spawns.ensures.back in
    let is = (c.spawn.ensures.spawns).0 (c.in-Err-Spawns.is ∙ ap (λ e. Err e) (c.in-Err-Spawns.field-0-is ∙ ap (λ m. Spawns m) back)) in
    spawn_full self c.args.event c.args.count at c.take.new.self c.in_ok-args.args c.in_ok-args.ensures.values c.in_ok-args.ensures.rest (trap_over trap.Spawns at) last
    (other self.generation GENERATION is.0) (full (length self.outputs.created) SPAWNS is.1) (λ fields. refl) program e fields known counted
