use Rattle.std.proofs.Common.{inr}
use Rattle.std.proofs.lemmas.Result.{err_from_is_err_and}
use Rattle.service_reader.proofs.ReadLemmas.{read_so, refused}
use Rattle.service_reader.proofs.parsing.spelled_service.Goals as goal

pub returns-in_err-parse : goal.returns-in_err-parse
returns-in_err-parse c =
    let p = err_from_is_err_and c.from_residual.result c.from_residual.ensures.1 in
    let e = c.in_err-parse.ensures in
    rw (p.1, p.2) (refused c.args.text.now c.args.tokens.now c.in_err-parse.field-0.0 c.requires.short c.requires.tokens (record { only = e.only; expected = e.expected; deep = e.deep }) e.error)

pub returns : goal.returns
returns c =
    let e = c.in_ok-parse.ensures in
    inr (read_so c.args.text.now c.args.tokens.now c.in_ok-parse.field-0 c.requires.short c.requires.tokens (record { only = e.only; expected = e.expected; deep = e.deep }) e.tree e.nest)
