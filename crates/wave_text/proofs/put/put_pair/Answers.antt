use Rattle.std.proofs.Common.{rules, ◌++◌, FitsSigned, w64, ap, ◌∙◌}
use Rattle.std.proofs.lemmas.Int.{to_z-of_z}
use Rattle.std.specs.Fmt.{signed_decimal}
use Rattle.wave_text.proofs.PairLemmas.{on_ok, three_parts}
use Rattle.wave_text.proofs.put.put_pair.Goals as goal

pub returns : goal.returns
returns c =
    let key : FitsSigned w64 c.args.pair.now.0 = search rules in
    let value : FitsSigned w64 c.args.pair.now.1 = search rules in
    on_ok c.put_whole-2.result c.put_whole-2.ensures
    (λ e. three_parts c.args.out.now.items c.put_whole.new.out.items c.put_bytes.new.out.items c.put_whole-2.new.out.items c.args.pair.now.0 c.args.pair.now.1
    (c.in_ok-put_whole.ensures ∙ ap (λ k. c.args.out.now.items ++ signed_decimal k) (to_z-of_z w64 c.args.pair.now.0 key)) c.in_ok-put_bytes.ensures
    (e ∙ ap (λ k. c.put_bytes.new.out.items ++ signed_decimal k) (to_z-of_z w64 c.args.pair.now.1 value)))
