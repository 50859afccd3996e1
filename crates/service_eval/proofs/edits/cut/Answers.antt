use Rattle.std.proofs.Common.{rules, ◌∙◌, FitsSigned, w64, Ok, refl, sym, ap}
use Rattle.std.proofs.lemmas.Int.{to_z-of_z}
use Rattle.wave_base.specs.declared.value.Value.TheVariants.{Map}
use Rattle.service_eval.proofs.EditLemmas.{cut_answer, cut_no_map, cut_no_key, cut_ints, alters_not}
use Rattle.service_eval.proofs.edits.cut.Goals as goal

pub returns-in_default-clause-alters : goal.returns-in_default-clause-alters
returns-in_default-clause-alters c = alters_not _ c.args.at _ _ _ (cut_no_map c.args.map.now _ (λ m h. c.in_default.not-Map m h)) c.absent.ensures refl

pub returns-in_default-key-clause-alters : goal.returns-in_default-key-clause-alters
returns-in_default-key-clause-alters c =
    alters_not _ c.args.at _ _ _
    (ap (λ v. cut_answer v c.args.key.now) c.in-Map.is ∙ cut_no_key c.in-Map.table c.args.key.now (λ n h. c.in_default-key.not-Int n h))
    c.absent-in_default-key.ensures (sym c.in-Map.is)

pub returns-clause-alters : goal.returns-clause-alters
returns-clause-alters c =
    let key : FitsSigned w64 c.in-Int.key = search rules in
    cut_ints _ _ _ _ _ c.in-Map.is c.in-Int.is (to_z-of_z w64 c.in-Int.key key) ∙ ap (λ m. Ok (Map m)) (sym c.cut.ensures.without)
