use Rattle.std.proofs.Common.{sym, subst, ◌∙◌, arith}
use Rattle.std.proofs.lemmas.Bool.{false≢true}
use Rattle.script_reader.proofs.FormLemmas.{cons_of}
use Rattle.script_reader.proofs.LiteralLemmas.{AreSomeTo, some_none, some_more, some_all, more_part, more_some}
use Rattle.script_reader.proofs.spelling.are_literals.Goals as goal

pub loop-rest-preserved : goal.loop-rest-preserved
loop-rest-preserved c =
    let rest = cons_of c.loop-rest.rest.now c.piece-item.result (omega arith) c.piece-item.is in
    some_more c.args.pieces.now _ c.piece-item.result (subst (AreSomeTo c.args.pieces.now) rest c.loop-rest.invariant) (sym c.if-not-spells_literal.ensures) _ (more_part _ c.in-More.ensures)

pub loop-rest-init : goal.loop-rest-init
loop-rest-init c = some_none c.args.pieces.now (λ e. false≢true (sym c.if-is_close.false ∙ c.is_close.ensures.1 e))

pub returns-in-End-clause-some : goal.returns-in-End-clause-some
returns-in-End-clause-some c =
    let rest = cons_of c.loop-rest.rest.now c.piece-item.result (omega arith) c.piece-item.is in
    λ e. some_all c.args.pieces.now _ c.piece-item.result (subst (AreSomeTo c.args.pieces.now) rest c.loop-rest.invariant) (sym c.if-not-spells_literal.ensures) (sym c.in-End.ensures)

pub returns-in_default-after-clause-none : goal.returns-in_default-after-clause-none
returns-in_default-after-clause-none c = λ e ls k. more_some _ c.in_default-after.len_below c.in-More.ensures
