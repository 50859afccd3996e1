use Rattle.std.proofs.Common.{◌∙◌, ap, subst}
use Rattle.wave_base.specs.declared.trap.TrapKind.TheVariants.{Overflow}
use Rattle.value_ops.specs.Meanings.{or_trap}
use Rattle.std.proofs.lemmas.Str.{IsUtf8-from_ascii}
use Rattle.std.specs.Int.{w64}
use Rattle.std.specs.Str.Parse.{ParsesSigned}
use Rattle.value_ops.proofs.NumberLemmas.{reads_number, ascii_number}
use Rattle.value_ops.proofs.numbers.value_of.Goals as goal

pub returns-in-Ok : goal.returns-in-Ok
returns-in-Ok c = ap (or_trap Overflow) c.ok.ensures.value ∙ reads_number c.args.text.now c.parse.result c.requires (subst (λ bs. ParsesSigned w64 10 bs c.parse.result) c.in-Ok.ensures.cases.0 c.parse.ensures.value.0)

pub returns-in-Err : goal.returns-in-Err
returns-in-Err c = absurd (c.in-Err.ensures.cases.0 (IsUtf8-from_ascii c.args.text.now (ascii_number c.args.text.now c.requires)))
