use Rattle.std.proofs.Common.{◌∙◌}
use Rattle.wave_gen.proofs.PutLemmas.{load_put}
use Rattle.wave_gen.proofs.load.generate.Goals as goal

pub returns : goal.returns
returns c =
    c.from_vec.ensures ∙ load_put c.args.n c.new-text.result.items c.put_market.new.out.items c.put_bytes.new.out.items c.put_lines.new.out.items c.put_bytes-2.new.out.items
    c.new-text.ensures.items c.in_ok-put_market.ensures c.in_ok-put_bytes.ensures c.in_ok-put_lines.ensures c.in_ok-put_bytes-2.ensures
