use Rattle.std.proofs.Common.{◌≡◌, rules, ◌∙◌, FitsSigned, w64, to_z, of_z, None, Err, refl, sym, ap, subst}
use Rattle.std.proofs.lemmas.Int.{to_z-of_z}
use Rattle.wave_base.specs.declared.value.Value.TheVariants.{Map}
use Rattle.wave_base.specs.Tables.{value_at}
use Rattle.service_eval.specs.inner.Wants.{IsNewKey}
use Rattle.service_eval.proofs.EditLemmas.{put_answer, put_no_map, put_no_key, put_no_value, put_ints, alters_not}
use Rattle.service_eval.proofs.edits.put.Goals as goal

pub returns-in_default-clause-alters : goal.returns-in_default-clause-alters
returns-in_default-clause-alters c = alters_not _ c.args.at _ _ _ (put_no_map c.args.map.now _ _ (λ m h. c.in_default.not-Map m h)) c.absent.ensures refl

pub returns-in_default-key-clause-alters : goal.returns-in_default-key-clause-alters
returns-in_default-key-clause-alters c =
    alters_not _ c.args.at _ _ _
    (ap (λ v. put_answer v c.args.key.now c.args.new.now) c.in-Map.is ∙ put_no_key c.in-Map.table c.args.key.now c.args.new.now (λ n h. c.in_default-key.not-Int n h))
    c.absent-in_default-key.ensures (sym c.in-Map.is)

pub returns-in_default-new-clause-alters : goal.returns-in_default-new-clause-alters
returns-in_default-new-clause-alters c =
    alters_not _ c.args.at _ _ _
    (ap (λ v. put_answer v c.args.key.now c.args.new.now) c.in-Map.is ∙ ap (λ k. put_answer (Map c.in-Map.table) k c.args.new.now) c.in-Int.is
    ∙ put_no_value c.in-Map.table c.in-Int.key c.args.new.now (λ n h. c.in_default-new.not-Int n h))
    c.absent-in_default-new.ensures (sym c.in-Map.is)

pub returns-in-Err-Trap-clause-alters : goal.returns-in-Err-Trap-clause-alters
returns-in-Err-Trap-clause-alters c =
    let key : FitsSigned w64 c.in-Int.key = search rules in
    let new : FitsSigned w64 c.in-Int-new.new = search rules in (
      put_ints _ _ _ _ _ _ _ _ c.in-Map.is c.in-Int.is c.in-Int-new.is (to_z-of_z w64 c.in-Int.key key) (to_z-of_z w64 c.in-Int-new.new new)
          ∙ (c.in-Err-Trap.ensures.trap c.in-Err-Trap.kind).0 (ap Err c.in-Err-Trap.field-0-is),
      refl,
      ap Map c.in-Err-Trap.ensures.err ∙ sym c.in-Map.is,
    )

pub returns-in-Err-OutOfMemory-clause-memory : goal.returns-in-Err-OutOfMemory-clause-memory
returns-in-Err-OutOfMemory-clause-memory c =
    let key : FitsSigned w64 c.in-Int.key = search rules in
    let new : value_at c.in-Map.table (to_z w64 (of_z w64 c.in-Int.key)) ≡ None = c.in-Err-OutOfMemory.ensures.memory (ap Err c.in-Err-OutOfMemory.field-0-is) in
    subst (λ v. IsNewKey v c.args.key.now) (sym c.in-Map.is)
    (subst (IsNewKey (Map c.in-Map.table)) (sym c.in-Int.is) (subst (λ k. value_at c.in-Map.table k ≡ None) (to_z-of_z w64 c.in-Int.key key) new))
