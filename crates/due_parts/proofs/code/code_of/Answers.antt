use Rattle.std.proofs.Common.{subst}
use Rattle.code_scheme.specs.Programs.{IsTooLong}
use Rattle.service_compiler.specs.Faults.{Refuses}
use Rattle.due_parts.proofs.NameLemmas.{long_named}
use Rattle.due_parts.proofs.code.code_of.Goals as goal

pub returns-in_ok-refused_code-in-Err-CodeTooLong : goal.returns-in_ok-refused_code-in-Err-CodeTooLong
returns-in_ok-refused_code-in-Err-CodeTooLong c =
    let typed = c.args.typed.now in
    let e = c.in-Err-CodeTooLong in
    let long = subst (Refuses c.in_ok-copy.field-0 typed.resolved) e.field-0-is e.ensures.refused in
    long_named typed.shape typed.resolved e.function e.field-0-1 c.in_ok-refused_code-in-Err-CodeTooLong.field-0 (subst (λ s. IsTooLong s typed.resolved e.function e.field-0-1) c.in_ok-copy.ensures long)
    c.in_ok-refused_code-in-Err-CodeTooLong.ensures
