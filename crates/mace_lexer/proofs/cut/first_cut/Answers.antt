use Rattle.std.proofs.Common.{arith}
use Rattle.mace_lexer.proofs.Longest.{blank_cut, line_end_cut}
use Rattle.mace_lexer.proofs.Found.{found_comment}
use Rattle.mace_lexer.proofs.cut.first_cut.Goals as goal

pub returns-in-Blank : goal.returns-in-Blank
returns-in-Blank c = (omega arith, blank_cut c.args.text.now c.requires (cc))

pub returns-in-LineEnd : goal.returns-in-LineEnd
returns-in-LineEnd c = (omega arith, line_end_cut c.args.text.now (cc))

pub returns-in-Comment : goal.returns-in-Comment
returns-in-Comment c = found_comment c.args.text.now c.run.result (cc) c.run.ensures.value
