use Rattle.std.proofs.Common.{◌≡◌, length, sym, ap, ◌∙◌, rules, arith}
use Rattle.std.specs.Prelude.{codes}
use Rattle.snapshot_text.specs.Forms.{is_plain_digits}
use Rattle.checkpoint_store.proofs.FormLemmas.{three_words, place_line_is}
use Rattle.checkpoint_store.proofs.form.is_place.Goals as goal

pub returns-then-is_plain_digits : goal.returns-then-is_plain_digits
returns-then-is_plain_digits c =
    let len : length c.args.words.now ≡ 3 = omega arith in
    let words = three_words c.args.words.now c.place-item.result c.path-item.result c.host-item.result len c.place-item.is c.path-item.is c.host-item.is in
    let word : c.as_slice.result.now ≡ codes "place" = search rules in
    place_line_is c.args.words.now c.place-item.result c.path-item.result c.host-item.result c.as_slice-then-is_plain_digits.result.now c.is_plain_path.result words (sym c.as_slice.ensures ∙ word)
    (sym (ap is_plain_digits c.as_slice-then-eq.ensures) ∙ sym c.if-is_plain_digits.ensures) c.as_slice-then-is_plain_digits.ensures c.is_plain_path.ensures
