use Rattle.std.proofs.Common.{rules, ◌≡◌, ◌∙◌, true, arith}
use Rattle.wave_base.specs.Names.{is_digits}
use Rattle.command_words.proofs.NumberLemmas.{reads_number}
use Rattle.command_words.proofs.values.number_of.Goals as goal

pub returns-then-is_digits : goal.returns-then-is_digits
returns-then-is_digits c =
    let digits : is_digits c.args.word.now ≡ true = search rules in
    c.ok.ensures.value ∙ reads_number c.args.word.now c.parse.result (omega arith) digits c.parse.ensures.value.0
