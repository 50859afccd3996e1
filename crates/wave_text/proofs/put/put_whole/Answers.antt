use Rattle.std.proofs.Common.{◌++◌, ap, ◌∙◌, w64}
use Rattle.std.proofs.lemmas.Int.{to_z-of_z}
use Rattle.std.specs.Fmt.{signed_decimal}
use Rattle.wave_text.proofs.PairLemmas.{on_ok}
use Rattle.wave_text.proofs.put.put_whole.Goals as goal

pub returns : goal.returns
returns c =
    on_ok c.put_bytes.result c.put_bytes.ensures
    (λ e. e ∙ ap (λ t. c.args.out.now.items ++ t) (c.as_bytes.ensures.value ∙ c.format.ensures.text ∙ ap signed_decimal (to_z-of_z w64 c.args.n c.ranges.n)))
