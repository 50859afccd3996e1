use Rattle.std.proofs.Common.{◌≡◌, ◌↔◌, ℤ, Bool, true, false, List, [], ◌∷◌, Result, Err, sym, ap, subst, ◌∙◌, w64, FitsSigned, to_z, of_z}
use Rattle.std.proofs.lemmas.Int.{to_z-of_z}
use Rattle.wave_base.specs.declared.trap.TrapKind.{TrapKind}
use Rattle.wave_base.specs.declared.value.Value.TheVariants.{Int, Map}
use Rattle.wave_base.specs.Tables.{is_full}
use Rattle.value_ops.specs.declared.error.OpError.{OpError}
use Rattle.value_ops.specs.declared.error.OpError.TheVariants.{Trap}
use Rattle.value_ops.specs.Operators.{apply_row}
use Rattle.service_eval.specs.inner.Answers.{Gives}
use Rattle.service_eval.proofs.MapRows.{put_traps, put_may, answers_err}
use Rattle.service_eval.proofs.rows.with_pair.Goals as goal

pub returns-then-is_full : goal.returns-then-is_full
returns-then-is_full c =
    let full : is_full c.args.map.now c.args.key ≡ true = ap (is_full c.args.map.now) (sym (to_z-of_z w64 c.args.key c.ranges.key)) ∙ sym c.is_full.ensures ∙ c.if-is_full.true in
    subst (λ a. Gives a c.args.at c.trapping.result) (sym (put_traps c.args.map.now c.args.key c.args.value full)) c.trapping.ensures

-- there is room for the pair
room : (m : List (ℤ × ℤ)) (key : ℤ) (b : Bool) → FitsSigned w64 key → b ≡ is_full m (to_z w64 (of_z w64 key)) → b ≡ false → is_full m key ≡ false
room m key b fits is h = ap (is_full m) (sym (to_z-of_z w64 key fits)) ∙ sym is ∙ h

pub returns-in-Err : goal.returns-in-Err
returns-in-Err c = put_may c.args.map.now c.args.key c.args.value (room c.args.map.now c.args.key c.is_full.result c.ranges.key c.is_full.ensures c.if-is_full.false)

-- the row's answer to the copy is that to the map
module _ (m more : List (ℤ × ℤ)) (key value : ℤ) (same : more ≡ m) (fits_key : FitsSigned w64 key) (fits_value : FitsSigned w64 value) where
  copied : apply_row 20 (Map more ∷ Int (to_z w64 (of_z w64 key)) ∷ Int (to_z w64 (of_z w64 value)) ∷ []) ≡ apply_row 20 (Map m ∷ Int key ∷ Int value ∷ [])
  copied = λ i. apply_row 20 (Map (same i) ∷ Int (to_z-of_z w64 key fits_key i) ∷ Int (to_z-of_z w64 value fits_value i) ∷ [])

pub returns-in-Ok-put_pair : goal.returns-in-Ok-put_pair
returns-in-Ok-put_pair c = sym (copied c.args.map.now c.in-Ok.more c.args.key c.args.value c.in-Ok.ensures c.ranges.key c.ranges.value) ∙ c.in-Ok-put_pair.ensures.ok

pub returns-in-Err-put_pair : goal.returns-in-Err-put_pair
returns-in-Err-put_pair c =
    let given = apply_row 20 (Map c.args.map.now ∷ Int c.args.key ∷ Int c.args.value ∷ []) in
    let e = c.in-Err-put_pair.e in
    let may = put_may c.args.map.now c.args.key c.args.value (room c.args.map.now c.args.key c.is_full.result c.ranges.key c.is_full.ensures c.if-is_full.false) in
    c.with_place.ensures given
    (answers_err given e (subst (λ x. (trap : TrapKind) → ◌↔◌ (◌≡◌ {A = Result (Unit {0}) OpError} (Err e) (Err (Trap trap))) (x ≡ Err trap)) (copied c.args.map.now c.in-Ok.more c.args.key c.args.value c.in-Ok.ensures c.ranges.key c.ranges.value) c.in-Err-put_pair.ensures.trap) may)
