use Rattle.mace_lexer.proofs.CutLemmas.{answers_tokens, answers_fault, found_places, found_order}
use Rattle.mace_lexer.proofs.reading.lex.Goals as goal

pub returns-clause-places : goal.returns-clause-places
returns-clause-places c = found_places c.args.text.now c.read.result c.read.ensures.found

pub returns-clause-order : goal.returns-clause-order
returns-clause-order c = found_order c.args.text.now c.read.result c.read.ensures.found

pub returns-clause-only : goal.returns-clause-only
returns-clause-only c = answers_tokens c.args.text.now c.read.result c.read.ensures.found c.read.ensures.fault

pub returns-clause-refused : goal.returns-clause-refused
returns-clause-refused c = answers_fault c.args.text.now c.read.result c.read.ensures.found c.read.ensures.fault
