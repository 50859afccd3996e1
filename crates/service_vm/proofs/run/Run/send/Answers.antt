use Rattle.std.proofs.Common.{◌≡◌, ◌≤◌, ◌<◌, ℕ, true, false, length, ap, sym, refl, ◌∙◌, arith}
use Rattle.std.specs.Prelude.{nat_lt, Err}
use Rattle.std.proofs.lemmas.Bool.Decides.{nat_tests}
use Rattle.wave_base.specs.declared.limits.TheConstants.{MESSAGES}
use Rattle.wave_base.specs.declared.trap.TrapKind.TheVariants.{Sends}
use Rattle.deferred_out.specs.Refused.{message_of}
use Rattle.deferred_out.specs.declared.outputs.SendError.TheVariants.{Sends as Full}
use Rattle.service_vm.proofs.DoingFrames.{send_runs, send_traps}
use Rattle.service_vm.proofs.Doing.{trap_over}
use Rattle.service_vm.proofs.run.Run.send.Goals as goal

room : (n m : ℕ) → n ≤ m → (n ≡ m → ⊥) → nat_lt n m ≡ true
room n m le apart = let lt : n < m = omega (arith, le, apart) in grind (arith, nat_tests)

full : (n m : ℕ) → n ≡ m → nat_lt n m ≡ false
full n m e = grind (arith, nat_tests)

pub returns-in-Ok-clause-does : goal.returns-in-Ok-clause-does
returns-in-Ok-clause-does c program i fields known at =
    let self = c.args.self.now in
    send_runs self i at c.pop-value.new.self c.args.label c.pop-value.result c.pop-value.ensures c.advance.new.self c.send.new.self
    (room (length self.outputs.messages) MESSAGES c.requires.few.few_messages (λ e. let h = c.send.ensures.sends.1 e in cc (c.in-Ok.is, h)))
    c.in-Ok.ensures.ok c.advance.ensures program fields known

pub returns-in-Err-Sends-clause-does : goal.returns-in-Err-Sends-clause-does
returns-in-Err-Sends-clause-does c program i fields known at =
    let self = c.args.self.now in
    let back : c.in-Err-Sends.field-0-0 ≡ record { label = c.args.label; value = c.pop-value.result } = ap message_of (sym c.in-Err-Sends.field-0-is) ∙ c.in-Err-Sends.ensures.back in
    let is : c.send.result ≡ Err (Full (record { label = c.args.label; value = c.pop-value.result })) = c.in-Err-Sends.is ∙ ap (λ e. Err e) (c.in-Err-Sends.field-0-is ∙ ap (λ m. Full m) back) in
    send_traps self i at c.pop-value.new.self c.args.label c.pop-value.result c.pop-value.ensures (trap_over Sends at) (record self { frames = c.pop-value.new.self; outputs = c.send.new.self }) (record self { frames = c.pop-value.new.self; outputs = c.send.new.self })
    (full (length self.outputs.messages) MESSAGES (c.send.ensures.sends.0 is))
    (λ fields. refl) (λ fields. refl) program fields known
