use Rattle.std.proofs.Common.{◌≡◌, [], ◌∷◌, ◌++◌, Some, refl, ap, sym, ◌∙◌, subst, rules, w64, to_z, of_z}
use Rattle.std.specs.Prelude.{nat_lt}
use Rattle.wave_base.specs.declared.limits.TheConstants.{CONTEXTS}
use Rattle.wave_base.specs.declared.trap.TrapKind.TheVariants.{Reach}
use Rattle.wave_base.specs.declared.pause.Pause.TheVariants as pause
use Rattle.service_code.specs.declared.instr.Instr.TheVariants as instr
use Rattle.service_verify.specs.Steps.{is_held}
use Rattle.service_vm.specs.inner.Acts.{Did, Entering}
use Rattle.service_vm.proofs.DoingFrames.{entering_is, go_did, go_traps}
use Rattle.service_vm.proofs.Doing.{trap_over}
use Rattle.service_vm.proofs.run.Run.go.Goals as goal

pub returns-then-not-branch-clause-does : goal.returns-then-not-branch-clause-does
returns-then-not-branch-clause-does c program fields at =
    let k : to_z w64 (of_z w64 c.pop_int-key.result) ≡ c.pop_int-key.result = search rules in
    let self = c.args.self.now in
    let en = entering_is (record self { frames = c.pop_int-key.new.self }) c.enter.new.self c.child-child.result c.in_ok-enter.field-0 c.in_ok-enter.ensures.entered c.in_ok-enter.ensures.is_held c.in_ok-enter.ensures.held c.in_ok-enter.ensures.full c.in_ok-enter.ensures.new in
    go_traps self c.enter.new.self c.args.class c.pop_int-key.result at c.pop_int-key.new.self c.child-child.result (trap_over Reach at) c.enter.new.self
    c.pop_int-key.ensures
    (c.child-child.ensures ∙ ap (λ z. self.path ++ record { class = c.args.class; key = z } ∷ []) k)
    (subst (λ b. Entering (is_held self.held c.child-child.result) (nat_lt self.entered CONTEXTS) (record self { frames = c.pop_int-key.new.self }) c.child-child.result b c.enter.new.self) c.if-not-branch.true en)
    (λ fields. refl) program fields

pub returns-clause-does : goal.returns-clause-does
returns-clause-does c program fields at =
    let k : to_z w64 (of_z w64 c.pop_int-key.result) ≡ c.pop_int-key.result = search rules in
    let self = c.args.self.now in
    let en = entering_is (record self { frames = c.pop_int-key.new.self }) c.enter.new.self c.child-child.result c.in_ok-enter.field-0 c.in_ok-enter.ensures.entered c.in_ok-enter.ensures.is_held c.in_ok-enter.ensures.held c.in_ok-enter.ensures.full c.in_ok-enter.ensures.new in
    let last = record c.enter.new.self { frames = c.advance.new.self; path = c.child-child.result; held = c.keep_below.new.self } in
    subst (λ z. Did program self (instr.Go c.args.class) at fields (Some (pause.Go (record { class = c.args.class; key = z }))) last fields) (sym k)
    (go_did self c.enter.new.self c.args.class c.pop_int-key.result at c.pop_int-key.new.self c.advance.new.self c.child-child.result c.keep_below.new.self
    c.pop_int-key.ensures
    (c.child-child.ensures ∙ ap (λ z. self.path ++ record { class = c.args.class; key = z } ∷ []) k)
    (subst (λ b. Entering (is_held self.held c.child-child.result) (nat_lt self.entered CONTEXTS) (record self { frames = c.pop_int-key.new.self }) c.child-child.result b c.enter.new.self) c.if-not-branch.false en)
    c.advance.ensures c.keep_below.ensures program fields)
