use Rattle.std.proofs.Common.{◌∙◌, subst}
use Rattle.std.proofs.lemmas.Str.{IsUtf8-from_ascii}
use Rattle.std.specs.Int.{w64}
use Rattle.std.specs.Str.Parse.{ParsesSigned}
use Rattle.wave_text.proofs.NumberLemmas.{reads_whole, ascii_whole}
use Rattle.wave_text.proofs.numbers.whole_of.Goals as goal

pub returns-in-Ok : goal.returns-in-Ok
returns-in-Ok c = c.ok.ensures.value ∙ reads_whole c.args.text.now c.parse.result c.requires (subst (λ bs. ParsesSigned w64 10 bs c.parse.result) c.in-Ok.ensures.cases.0 c.parse.ensures.value.0)

pub returns-in-Err : goal.returns-in-Err
returns-in-Err c = absurd (c.in-Err.ensures.cases.0 (IsUtf8-from_ascii c.args.text.now (ascii_whole c.args.text.now c.requires)))
