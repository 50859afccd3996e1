use Rattle.std.proofs.Common.{◌≡◌, [], ◌∷◌, ◌++◌, length, Some, refl, ap, sym, ◌∙◌, subst, rules, w64, to_z, of_z}
use Rattle.std.specs.Prelude.{is_some, nat_lt}
use Rattle.wave_base.specs.declared.limits.TheConstants.{CONTEXTS}
use Rattle.wave_base.specs.declared.trap.TrapKind.TheVariants.{Reach}
use Rattle.wave_base.specs.declared.pause.Pause.TheVariants as pause
use Rattle.wave_base.specs.declared.value.Value.TheVariants as v
use Rattle.service_code.specs.declared.instr.Instr.TheVariants as instr
use Rattle.service_verify.specs.Steps.{taken_values, is_held}
use Rattle.service_vm.specs.inner.Acts.{Did, Entering}
use Rattle.service_vm.specs.Frames.{Frames}
use Rattle.service_vm.proofs.DoingFrames.{entering_is, down_did, down_traps}
use Rattle.service_vm.proofs.Doing.{entered_frames, trap_over}
use Rattle.service_vm.proofs.Seen.{key_there}
use Rattle.service_vm.proofs.run.Run.call_down.Goals as goal

pub begin-requires-clause-args : goal.begin-requires-clause-args
begin-requires-clause-args c =
    let self = c.args.self.now in
    let n = length c.args.function.now.args in
    let t = key_there n self.frames.top.stack c.requires.args in
    let there : taken_values c.len.result [] self.frames.top.stack ≡ Some (t.args, v.Int t.key ∷ t.rest) = ap (λ m. taken_values m [] self.frames.top.stack) c.len.ensures ∙ t.is in
    let k = c.take_key-key.ensures.key t.args t.rest t.key there in
    let left : taken_values n [] c.take_key-key.new.self.top.stack ≡ Some (t.args, t.rest) = ap (λ m. taken_values m [] c.take_key-key.new.self.top.stack) (sym c.len.ensures) ∙ k.1 in
    let en = entering_is (record self { frames = c.take_key-key.new.self }) c.enter.new.self c.child-child.result c.in_ok-enter.field-0 c.in_ok-enter.ensures.entered c.in_ok-enter.ensures.is_held c.in_ok-enter.ensures.held c.in_ok-enter.ensures.full c.in_ok-enter.ensures.new in
    let same = entered_frames _ _ (record self { frames = c.take_key-key.new.self }) c.enter.new.self c.child-child.result c.in_ok-enter.field-0 en in
    ap (λ (s : Frames). is_some (taken_values n [] s.top.stack)) same ∙ ap is_some left

pub returns-then-not-branch-clause-does : goal.returns-then-not-branch-clause-does
returns-then-not-branch-clause-does c program fields known at =
    let self = c.args.self.now in
    let n = length c.args.function.now.args in
    let t = key_there n self.frames.top.stack c.requires.args in
    let there : taken_values c.len.result [] self.frames.top.stack ≡ Some (t.args, v.Int t.key ∷ t.rest) = ap (λ m. taken_values m [] self.frames.top.stack) c.len.ensures ∙ t.is in
    let k = c.take_key-key.ensures.key t.args t.rest t.key there in
    let left : taken_values n [] c.take_key-key.new.self.top.stack ≡ Some (t.args, t.rest) = ap (λ m. taken_values m [] c.take_key-key.new.self.top.stack) (sym c.len.ensures) ∙ k.1 in
    let en = entering_is (record self { frames = c.take_key-key.new.self }) c.enter.new.self c.child-child.result c.in_ok-enter.field-0 c.in_ok-enter.ensures.entered c.in_ok-enter.ensures.is_held c.in_ok-enter.ensures.held c.in_ok-enter.ensures.full c.in_ok-enter.ensures.new in
    let z : to_z w64 (of_z w64 c.take_key-key.result) ≡ c.take_key-key.result = search rules in
    down_traps self c.enter.new.self c.args.class t.key at c.take_key-key.new.self c.args.number c.args.function.now t.args t.rest c.child-child.result (trap_over Reach at) c.enter.new.self t.is
    (c.child-child.ensures ∙ ap (λ z. self.path ++ record { class = c.args.class; key = z } ∷ []) (z ∙ k.0))
    (subst (λ b. Entering (is_held self.held c.child-child.result) (nat_lt self.entered CONTEXTS) (record self { frames = c.take_key-key.new.self }) c.child-child.result b c.enter.new.self) c.if-not-branch.true en)
    (λ fields. refl) program fields known

pub returns-clause-does : goal.returns-clause-does
returns-clause-does c program fields known at =
    let self = c.args.self.now in
    let n = length c.args.function.now.args in
    let t = key_there n self.frames.top.stack c.requires.args in
    let there : taken_values c.len.result [] self.frames.top.stack ≡ Some (t.args, v.Int t.key ∷ t.rest) = ap (λ m. taken_values m [] self.frames.top.stack) c.len.ensures ∙ t.is in
    let k = c.take_key-key.ensures.key t.args t.rest t.key there in
    let left : taken_values n [] c.take_key-key.new.self.top.stack ≡ Some (t.args, t.rest) = ap (λ m. taken_values m [] c.take_key-key.new.self.top.stack) (sym c.len.ensures) ∙ k.1 in
    let en = entering_is (record self { frames = c.take_key-key.new.self }) c.enter.new.self c.child-child.result c.in_ok-enter.field-0 c.in_ok-enter.ensures.entered c.in_ok-enter.ensures.is_held c.in_ok-enter.ensures.held c.in_ok-enter.ensures.full c.in_ok-enter.ensures.new in
    let z : to_z w64 (of_z w64 c.take_key-key.result) ≡ c.take_key-key.result = search rules in
    let last = record c.enter.new.self { frames = c.begin.new.self; path = c.child-child.result } in
    subst (λ z. Did program self (instr.CallDown c.args.class c.args.number) at fields (Some (pause.Down (record { class = c.args.class; key = z }))) last fields) (sym (z ∙ k.0))
    (down_did self c.enter.new.self c.args.class t.key at c.take_key-key.new.self c.args.number c.args.function.now c.begin.new.self t.args t.rest c.child-child.result t.is c.take_key-key.ensures.rest left
    (c.child-child.ensures ∙ ap (λ z. self.path ++ record { class = c.args.class; key = z } ∷ []) (z ∙ k.0))
    (subst (λ b. Entering (is_held self.held c.child-child.result) (nat_lt self.entered CONTEXTS) (record self { frames = c.take_key-key.new.self }) c.child-child.result b c.enter.new.self) c.if-not-branch.false en)
    c.in_ok-begin.ensures program fields known)
