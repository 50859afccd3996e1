use Rattle.std.proofs.Common.{◌<◌, ◌^◌, ◌∙◌, ap, sym, subst, arith}
use Rattle.std.proofs.lemmas.Fmt.{parse-decimal, IsAscii-decimal}
use Rattle.std.proofs.lemmas.Str.{IsUtf8-from_ascii}
use Rattle.std.specs.Result.{result_ok}
use Rattle.std.specs.Str.{IsAscii}
use Rattle.std.specs.Str.Parse.{ParsesUnsigned}
use Rattle.wave_text.proofs.numbers.u32_of.Goals as goal

pub returns-in-Ok : goal.returns-in-Ok
returns-in-Ok c n h e =
    let wide : n < 2 ^ 64 = omega arith in
    c.ok.ensures.value ∙ ap result_ok (parse-decimal 32 n c.args.text.now c.parse.result h wide e (subst (λ bs. ParsesUnsigned 32 10 bs c.parse.result) c.in-Ok.ensures.cases.0 c.parse.ensures.value.0))

pub returns-in-Err : goal.returns-in-Err
returns-in-Err c n h e =
    let wide : n < 2 ^ 64 = omega arith in
    absurd (c.in-Err.ensures.cases.0 (IsUtf8-from_ascii c.args.text.now (subst IsAscii (sym e) (IsAscii-decimal n wide))))
