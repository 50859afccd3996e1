use Rattle.std.proofs.Common.{◌≡◌, ◌-◌, true, Ok, sym, ◌∙◌, ap, map}
use Rattle.std.proofs.lemmas.Result.{err_from_is_err_and}
use Rattle.std.proofs.lemmas.List.{map_push}
use Rattle.mace_lexer.specs.declared.sign.Sign.TheVariants as sign
use Rattle.mace_ast.specs.Exprs.{expr_tree}
use Rattle.mace_grammar.specs.Levels.{tighter_ones, levels_from}
use Rattle.mace_grammar.specs.Words.{edition_of}
use Rattle.mace_grammar.specs.inner.Classes.{kind}
use Rattle.mace_grammar.specs.inner.Run.{sees}
use Rattle.mace_grammar.specs.inner.Readers as reader
use Rattle.mace_parser.proofs.Progress.{takes_next_expr}
use Rattle.mace_parser.proofs.Turns.{list_goes_on, list_ends, list_done, chain_start, chain_stuck, chain_goes_on, chain_ends}
use Rattle.mace_parser.proofs.Steps.{keyed_gives, keyed_fails}
use Rattle.mace_parser.proofs.reader.Reader.+expr.Goals as goal

pub expr_list-returns-in_err-next : goal.expr_list-returns-in_err-next
expr_list-returns-in_err-next t c =
    let p = err_from_is_err_and c.from_residual-in_err-next.result c.from_residual-in_err-next.ensures.1 in
    let s : sees (kind (edition_of c.args.self.version)) (reader.if_sign sign.Comma) c.turns.rest.now ≡ true = sym c.sees_sign.ensures ∙ c.turns-test.true in
    rw (p.1, p.2) (list_ends (edition_of c.args.self.version) (reader.if_sign sign.Comma) (reader.next_at (edition_of c.args.self.version) (reader.expr_at (edition_of c.args.self.version) (reader.unary_at (edition_of c.args.self.version) c.args.self.depth))) c.in_err-next.field-0.0 (map expr_tree c.turns.found.items) c.turns.rest.now (reader.list_at (edition_of c.args.self.version) (reader.expr_at (edition_of c.args.self.version) (reader.unary_at (edition_of c.args.self.version) c.args.self.depth)) c.args.tokens.now) s c.in_err-next.ensures c.turns.invariant)

pub expr_list-turns-preserved : goal.expr_list-turns-preserved
expr_list-turns-preserved t c =
    let s : sees (kind (edition_of c.args.self.version)) (reader.if_sign sign.Comma) c.turns.rest.now ≡ true = sym c.sees_sign.ensures ∙ c.turns-test.true in
    list_goes_on (edition_of c.args.self.version) (reader.if_sign sign.Comma) (reader.next_at (edition_of c.args.self.version) (reader.expr_at (edition_of c.args.self.version) (reader.unary_at (edition_of c.args.self.version) c.args.self.depth))) (takes_next_expr c.args.self.version c.args.self.depth) (map expr_tree c.turns.found.items) (map expr_tree c.push-in-turns.new.items.items) c.turns.rest.now c.in_ok-next.after.now (expr_tree c.in_ok-next.next) (reader.list_at (edition_of c.args.self.version) (reader.expr_at (edition_of c.args.self.version) (reader.unary_at (edition_of c.args.self.version) c.args.self.depth)) c.args.tokens.now) s c.in_ok-next.ensures (rw c.in_ok-push-2.ensures.items (map_push expr_tree c.turns.found.items c.in_ok-next.next)) c.turns.invariant

pub expr_list-turns-smaller : goal.expr_list-turns-smaller
expr_list-turns-smaller t c = (takes_next_expr c.args.self.version c.args.self.depth).fewer c.turns.rest.now c.in_ok-next.after.now (expr_tree c.in_ok-next.next) c.in_ok-next.ensures

pub expr_list-returns : goal.expr_list-returns
expr_list-returns t c = list_done (edition_of c.args.self.version) (reader.if_sign sign.Comma) (reader.next_at (edition_of c.args.self.version) (reader.expr_at (edition_of c.args.self.version) (reader.unary_at (edition_of c.args.self.version) c.args.self.depth))) (map expr_tree c.turns.found.items) c.turns.rest.now (reader.list_at (edition_of c.args.self.version) (reader.expr_at (edition_of c.args.self.version) (reader.unary_at (edition_of c.args.self.version) c.args.self.depth)) c.args.tokens.now) (sym c.sees_sign.ensures ∙ c.turns-test.false) c.turns.invariant

pub chain-returns-in_err-left : goal.chain-returns-in_err-left
chain-returns-in_err-left t c =
    let p = err_from_is_err_and c.from_residual.result c.from_residual.ensures.1 in
    rw (p.1, p.2) (chain_stuck (edition_of c.args.self.version) (reader.unary_at (edition_of c.args.self.version) c.args.self.depth) c.args.level c.in_err-left.field-0.0 c.args.tokens.now c.in_err-left.ensures)

pub chain-turns-init : goal.chain-turns-init
chain-turns-init t c = chain_start (edition_of c.args.self.version) (reader.unary_at (edition_of c.args.self.version) c.args.self.depth) c.args.level c.most_operands-end.result (expr_tree c.in_ok-left.left) c.args.tokens.now c.in_ok-left.rest.now c.most_operands-end.ensures c.in_ok-left.ensures

pub chain-returns-in_err-op : goal.chain-returns-in_err-op
chain-returns-in_err-op t c =
    let p = err_from_is_err_and c.from_residual-in_err-op.result c.from_residual-in_err-op.ensures.1 in
    let s : sees (kind (edition_of c.args.self.version)) (reader.operators_of (tighter_ones c.args.level)) c.turns.rest.now ≡ true = sym c.sees_operator.ensures ∙ c.if-not-sees_operator.false in
    rw (p.1, p.2) (chain_ends (edition_of c.args.self.version) (tighter_ones c.args.level) (reader.level_at (edition_of c.args.self.version) (reader.unary_at (edition_of c.args.self.version) c.args.self.depth) (tighter_ones c.args.level)) c.in_err-op.field-0.0 c.most_operands-end.result c.turns.counter (expr_tree c.turns.left) c.turns.rest.now (reader.level_at (edition_of c.args.self.version) (reader.unary_at (edition_of c.args.self.version) c.args.self.depth) (levels_from c.args.level) c.args.tokens.now) c.turns-test.true s c.in_err-op.ensures c.turns.invariant)

pub chain-turns-preserved : goal.chain-turns-preserved
chain-turns-preserved t c =
    let s : sees (kind (edition_of c.args.self.version)) (reader.operators_of (tighter_ones c.args.level)) c.turns.rest.now ≡ true = sym c.sees_operator.ensures ∙ c.if-not-sees_operator.false in
    chain_goes_on (edition_of c.args.self.version) (tighter_ones c.args.level) (reader.level_at (edition_of c.args.self.version) (reader.unary_at (edition_of c.args.self.version) c.args.self.depth) (tighter_ones c.args.level)) c.most_operands-end.result c.turns.counter (expr_tree c.turns.left) (expr_tree c.in_ok-left-2.left) c.turns.rest.now c.in_ok-op.after.now (c.in_ok-op.op, expr_tree c.in_ok-op.right) (reader.level_at (edition_of c.args.self.version) (reader.unary_at (edition_of c.args.self.version) c.args.self.depth) (levels_from c.args.level) c.args.tokens.now) c.turns-test.true s c.in_ok-op.ensures c.in_ok-left-2.ensures c.turns.invariant

pub above-returns-in_err-key : goal.above-returns-in_err-key
above-returns-in_err-key t c =
    let p = err_from_is_err_and c.from_residual-in_err-key.result c.from_residual-in_err-key.ensures.1 in
    rw (p.1, p.2) (keyed_fails (edition_of c.args.self.version) (reader.unary_at (edition_of c.args.self.version) c.args.self.depth) c.args.class c.in_ok-field.field c.in_err-key.field-0.0 c.args.tokens.now c.in_ok-field.rest.now c.in_ok-field.ensures (sym c.sees_sign.ensures ∙ c.if-not-sees_sign.false) c.in_err-key.ensures)

pub above-returns : goal.above-returns
above-returns t c =
    keyed_gives (edition_of c.args.self.version) (reader.unary_at (edition_of c.args.self.version) c.args.self.depth) c.args.class c.in_ok-field.field c.args.tokens.now c.in_ok-field.rest.now c.in_ok-key.rest.now (expr_tree c.in_ok-key.key) c.in_ok-field.ensures (sym c.sees_sign.ensures ∙ c.if-not-sees_sign.false) c.in_ok-key.ensures
    ∙ ap (λ e. Ok (e, c.in_ok-key.rest.now)) (sym c.in_ok-above_index.ensures)
