use Rattle.std.proofs.Common.{◌≡◌, ◌+◌, ◌*◌, ◌-◌, map, length}
use Rattle.mace_lexer.specs.declared.sign.Sign.TheVariants as s
use Rattle.mace_ast.specs.Exprs.{expr_tree}
use Rattle.mace_grammar.specs.Levels.{tighter_ones, levels_from}
use Rattle.mace_grammar.specs.Words.{edition_of}
use Rattle.mace_grammar.specs.inner.Readers as reader
use Rattle.mace_parser.proofs.Turns.{list_from}
use Rattle.mace_parser.proofs.reader.Reader.+expr.Given as goal

abbrev pub decreases-unary : goal.decreases-unary
decreases-unary l = 40 * l.self.depth + 8

abbrev pub decreases-expr : goal.decreases-expr
decreases-expr l = 40 * l.self.depth + 24

abbrev pub decreases-parenthesized_expr : goal.decreases-parenthesized_expr
decreases-parenthesized_expr l = 40 * l.self.depth + 25

abbrev pub decreases-bracketed_expr : goal.decreases-bracketed_expr
decreases-bracketed_expr l = 40 * l.self.depth + 25

abbrev pub decreases-next_expr : goal.decreases-next_expr
decreases-next_expr l = 40 * l.self.depth + 25

abbrev pub decreases-expr_list : goal.decreases-expr_list
decreases-expr_list l = 40 * l.self.depth + 26

abbrev pub decreases-arguments : goal.decreases-arguments
decreases-arguments l = 40 * l.self.depth + 27

abbrev pub decreases-call : goal.decreases-call
decreases-call l = 40 * l.self.depth + 28

abbrev pub decreases-above : goal.decreases-above
decreases-above l = 40 * l.self.depth + 28

abbrev pub decreases-index : goal.decreases-index
decreases-index l = 40 * l.self.depth + 28

abbrev pub decreases-named_expr : goal.decreases-named_expr
decreases-named_expr l = 40 * l.self.depth + 29

abbrev pub decreases-primary : goal.decreases-primary
decreases-primary l = 40 * l.self.depth + 30

abbrev pub decreases-signed_expr : goal.decreases-signed_expr
decreases-signed_expr l = 40 * l.self.depth + 30

abbrev pub decreases-operand : goal.decreases-operand
decreases-operand l = 40 * l.self.depth + 9 + 3 * tighter_ones l.level

abbrev pub decreases-next_operand : goal.decreases-next_operand
decreases-next_operand l = 40 * l.self.depth + 10 + 3 * tighter_ones l.level

abbrev pub decreases-chain : goal.decreases-chain
decreases-chain l = 40 * l.self.depth + 8 + 3 * levels_from l.level

abbrev pub invariant-expr_list-turns : goal.invariant-expr_list-turns
invariant-expr_list-turns l = list_from (edition_of l.self.version) (reader.if_sign s.Comma) (reader.next_at (edition_of l.self.version) (reader.expr_at (edition_of l.self.version) (reader.unary_at (edition_of l.self.version) l.self.depth))) (map expr_tree l.found.items) l.rest ≡ reader.list_at (edition_of l.self.version) (reader.expr_at (edition_of l.self.version) (reader.unary_at (edition_of l.self.version) l.self.depth)) l.tokens

abbrev pub invariant-chain-turns : goal.invariant-chain-turns
invariant-chain-turns l = reader.operands_at (edition_of l.self.version) (tighter_ones l.level) (reader.level_at (edition_of l.self.version) (reader.unary_at (edition_of l.self.version) l.self.depth) (tighter_ones l.level)) (l.end - l.counter) (expr_tree l.left) l.rest ≡ reader.level_at (edition_of l.self.version) (reader.unary_at (edition_of l.self.version) l.self.depth) (levels_from l.level) l.tokens

abbrev pub decreases-expr_list-turns : goal.decreases-expr_list-turns
decreases-expr_list-turns l = length l.rest
