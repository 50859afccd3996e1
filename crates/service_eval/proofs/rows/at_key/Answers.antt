use Rattle.std.proofs.Common.{◌≡◌, [], ◌∷◌, Ok, sym, ap, subst, ◌∙◌, w64}
use Rattle.std.proofs.lemmas.Int.{to_z-of_z}
use Rattle.wave_base.specs.declared.value.Value.TheVariants.{Int, Map}
use Rattle.wave_base.specs.Tables.{without}
use Rattle.value_ops.specs.Answers.{MayWantMemory}
use Rattle.value_ops.specs.Operators.{apply_row}
use Rattle.value_ops.proofs.RowLemmas.{reads_map}
use Rattle.service_eval.proofs.MapRows.{cut_gives, cut_may}
use Rattle.service_eval.proofs.rows.at_key.Goals as goal

pub read_map-requires-clause-reads : goal.read_map-requires-clause-reads
read_map-requires-clause-reads c = reads_map c.args.row c.requires c.if-row-ne-CUT.true

pub returns-in-Ok : goal.returns-in-Ok
returns-in-Ok c =
    let cut : c.cut.new.self ≡ without c.args.map.now c.args.key = c.cut.ensures.without ∙ (λ i. without (c.in-Ok.ensures i) (to_z-of_z w64 c.args.key c.ranges.key i)) in
    subst (λ n. apply_row n (Map c.args.map.now ∷ Int c.args.key ∷ []) ≡ Ok (Map c.cut.new.self)) (sym c.if-row-ne-CUT.false) (cut_gives c.args.map.now c.args.key ∙ ap (λ m. Ok (Map m)) (sym cut))

pub returns-in-Err : goal.returns-in-Err
returns-in-Err c = subst (λ n. MayWantMemory (apply_row n (Map c.args.map.now ∷ Int c.args.key ∷ []))) (sym c.if-row-ne-CUT.false) (cut_may c.args.map.now c.args.key)
