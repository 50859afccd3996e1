use Rattle.std.proofs.Common.{◌≡◌, true, Ok, sym, ◌∙◌, ap, map}
use Rattle.std.proofs.lemmas.Result.{err_from_is_err_and}
use Rattle.std.proofs.lemmas.List.{map_push}
use Rattle.mace_ast.specs.Stmts.{stmt_tree}
use Rattle.mace_grammar.specs.Words.{edition_of}
use Rattle.mace_grammar.specs.declared.class.TheConstants.{STMT_STARTS}
use Rattle.mace_grammar.specs.inner.Classes.{kind}
use Rattle.mace_grammar.specs.inner.Run.{sees}
use Rattle.mace_grammar.specs.inner.Readers as reader
use Rattle.mace_parser.proofs.Progress.{takes_stmt}
use Rattle.mace_parser.proofs.Turns.{list_goes_on, list_ends, list_done}
use Rattle.mace_parser.proofs.Steps.{if_fails, else_fails, if_gives, while_fails, while_gives, for_fails, for_gives}
use Rattle.mace_parser.proofs.reader.Reader.+stmt.Goals as goal

pub stmts-returns-in_err-next : goal.stmts-returns-in_err-next
stmts-returns-in_err-next t c =
    let p = err_from_is_err_and c.from_residual.result c.from_residual.ensures.1 in
    let s : sees (kind (edition_of c.args.self.version)) STMT_STARTS c.turns.rest.now ≡ true = sym c.sees_any.ensures ∙ c.turns-test.true in
    rw (p.1, p.2) (list_ends (edition_of c.args.self.version) STMT_STARTS (reader.stmt_at (edition_of c.args.self.version) c.args.self.depth) c.in_err-next.field-0.0 (map stmt_tree c.turns.found.items) c.turns.rest.now (reader.stmts_in (edition_of c.args.self.version) (reader.stmt_at (edition_of c.args.self.version) c.args.self.depth) c.args.tokens.now) s c.in_err-next.ensures c.turns.invariant)

pub stmts-turns-preserved : goal.stmts-turns-preserved
stmts-turns-preserved t c =
    let s : sees (kind (edition_of c.args.self.version)) STMT_STARTS c.turns.rest.now ≡ true = sym c.sees_any.ensures ∙ c.turns-test.true in
    list_goes_on (edition_of c.args.self.version) STMT_STARTS (reader.stmt_at (edition_of c.args.self.version) c.args.self.depth) (takes_stmt c.args.self.version c.args.self.depth) (map stmt_tree c.turns.found.items) (map stmt_tree c.push.new.items.items) c.turns.rest.now c.in_ok-next.after.now (stmt_tree c.in_ok-next.next) (reader.stmts_in (edition_of c.args.self.version) (reader.stmt_at (edition_of c.args.self.version) c.args.self.depth) c.args.tokens.now) s c.in_ok-next.ensures (rw c.in_ok-push.ensures.items (map_push stmt_tree c.turns.found.items c.in_ok-next.next)) c.turns.invariant

pub stmts-turns-smaller : goal.stmts-turns-smaller
stmts-turns-smaller t c = (takes_stmt c.args.self.version c.args.self.depth).fewer c.turns.rest.now c.in_ok-next.after.now (stmt_tree c.in_ok-next.next) c.in_ok-next.ensures

pub stmts-returns : goal.stmts-returns
stmts-returns t c = list_done (edition_of c.args.self.version) STMT_STARTS (reader.stmt_at (edition_of c.args.self.version) c.args.self.depth) (map stmt_tree c.turns.found.items) c.turns.rest.now (reader.stmts_in (edition_of c.args.self.version) (reader.stmt_at (edition_of c.args.self.version) c.args.self.depth) c.args.tokens.now) (sym c.sees_any.ensures ∙ c.turns-test.false) c.turns.invariant

pub if_stmt-returns-in_err-body : goal.if_stmt-returns-in_err-body
if_stmt-returns-in_err-body t c =
    let p = err_from_is_err_and c.from_residual-in_err-body.result c.from_residual-in_err-body.ensures.1 in
    rw (p.1, p.2) (if_fails (edition_of c.args.self.version) c.args.self.depth (reader.stmt_at (edition_of c.args.self.version) c.args.self.depth) c.args.tokens.now c.in_ok-at.ensures c.in_ok-test.ensures c.in_err-body.field-0.0 c.in_err-body.ensures)

pub if_stmt-returns-in_err-other : goal.if_stmt-returns-in_err-other
if_stmt-returns-in_err-other t c =
    let p = err_from_is_err_and c.from_residual-in_err-other.result c.from_residual-in_err-other.ensures.1 in
    rw (p.1, p.2) (else_fails (edition_of c.args.self.version) c.args.self.depth (reader.stmt_at (edition_of c.args.self.version) c.args.self.depth) c.args.tokens.now c.in_ok-at.ensures c.in_ok-test.ensures c.in_ok-body.ensures c.in_err-other.field-0.0 c.in_err-other.ensures)

pub if_stmt-returns : goal.if_stmt-returns
if_stmt-returns t c = if_gives (edition_of c.args.self.version) c.args.self.depth (reader.stmt_at (edition_of c.args.self.version) c.args.self.depth) c.args.tokens.now c.in_ok-at.ensures c.in_ok-test.ensures c.in_ok-body.ensures c.in_ok-other.ensures ∙ ap (λ s. Ok (s, c.in_ok-other.rest.now)) (sym c.if_else.ensures)

pub while_stmt-returns-in_err-body : goal.while_stmt-returns-in_err-body
while_stmt-returns-in_err-body t c =
    let p = err_from_is_err_and c.from_residual-in_err-body.result c.from_residual-in_err-body.ensures.1 in
    rw (p.1, p.2) (while_fails (edition_of c.args.self.version) c.args.self.depth (reader.stmt_at (edition_of c.args.self.version) c.args.self.depth) c.args.tokens.now c.in_ok-at.ensures c.in_ok-test.ensures c.in_err-body.field-0.0 c.in_err-body.ensures)

pub while_stmt-returns : goal.while_stmt-returns
while_stmt-returns t c = while_gives (edition_of c.args.self.version) c.args.self.depth (reader.stmt_at (edition_of c.args.self.version) c.args.self.depth) c.args.tokens.now c.in_ok-at.ensures c.in_ok-test.ensures c.in_ok-body.ensures ∙ ap (λ s. Ok (s, c.in_ok-body.rest.now)) (sym c.while_do.ensures)

pub for_stmt-returns-in_err-body : goal.for_stmt-returns-in_err-body
for_stmt-returns-in_err-body t c =
    let p = err_from_is_err_and c.from_residual-in_err-body.result c.from_residual-in_err-body.ensures.1 in
    rw (p.1, p.2) (for_fails (edition_of c.args.self.version) c.args.self.depth (reader.stmt_at (edition_of c.args.self.version) c.args.self.depth) c.args.tokens.now c.in_ok-at.ensures c.in_ok-x.ensures c.in_ok-rest.ensures c.in_ok-low.ensures c.in_ok-rest-2.ensures c.in_ok-high.ensures c.in_err-body.field-0.0 c.in_err-body.ensures)

pub for_stmt-returns : goal.for_stmt-returns
for_stmt-returns t c = for_gives (edition_of c.args.self.version) c.args.self.depth (reader.stmt_at (edition_of c.args.self.version) c.args.self.depth) c.args.tokens.now c.in_ok-at.ensures c.in_ok-x.ensures c.in_ok-rest.ensures c.in_ok-low.ensures c.in_ok-rest-2.ensures c.in_ok-high.ensures c.in_ok-body.ensures ∙ ap (λ s. Ok (s, c.in_ok-body.rest.now)) (sym c.for_in.ensures)
