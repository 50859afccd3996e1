use Rattle.std.proofs.Common.{◌≡◌, false, codes, rules}
use Rattle.wave_base.specs.Names.{same_bytes}
use Rattle.script_reader.proofs.LiteralLemmas.{number_run}
use Rattle.script_reader.proofs.spelling.run_literal.Goals as goal

pub returns : goal.returns
returns c =
    let not_true : same_bytes c.args.bytes.now (codes "true") ≡ false = search rules in
    let not_false : same_bytes c.args.bytes.now (codes "false") ≡ false = search rules in
    number_run c.args.bytes.now c.of.result c.requires not_true not_false c.of.ensures
