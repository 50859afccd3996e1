use Rattle.std.proofs.Common.{Err, refl, sym, subst}
use Rattle.mace_parser.specs.inner.Gives.{TakesAll}
use Rattle.mace_parser.specs.Parsed.{TellsFault}
use Rattle.mace_grammar.proofs.Judge.{judge, judge_tree, judge_spelled, judge_shorter}
use Rattle.mace_parser.proofs.Judged.{judge_expected}
use Rattle.mace_ast.specs.Decls.{service_tree}
use Rattle.mace_parser.proofs.whole.shallow.Goals as goal

pub overflow_sub-tokens : goal.overflow_sub-tokens
overflow_sub-tokens c = let k = subst (λ f. TakesAll service_tree (Err f) (judge c.args.tokens.now c.args.tokens.now)) c.in-Err-Stuck.field-0-is c.in-Err-Stuck.ensures in
    judge_shorter c.args.tokens.now c.in-Err-Stuck.rest.now k.0

pub returns-in-Ok-clause-tree : goal.returns-in-Ok-clause-tree
returns-in-Ok-clause-tree c = judge_tree c.args.tokens.now (service_tree c.in-Ok.s) c.in-Ok.ensures

pub returns-in-Ok-clause-spelled : goal.returns-in-Ok-clause-spelled
returns-in-Ok-clause-spelled c = judge_spelled c.args.tokens.now (service_tree c.in-Ok.s) c.in-Ok.ensures

pub returns-in-Err-Stuck-clause-error : goal.returns-in-Err-Stuck-clause-error
returns-in-Err-Stuck-clause-error c =
    let k = subst (λ f. TakesAll service_tree (Err f) (judge c.args.tokens.now c.args.tokens.now)) c.in-Err-Stuck.field-0-is c.in-Err-Stuck.ensures in
    subst (λ e. TellsFault c.args.text.now c.args.tokens.now e) (sym c.expected_error.ensures)
    (judge_expected c.args.tokens.now c.in-Err-Stuck.rest.now k.0 k.1 c.requires.nest, refl)
