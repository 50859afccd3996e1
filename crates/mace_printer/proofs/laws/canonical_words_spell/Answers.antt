use Rattle.mace_grammar.proofs.Judge.{one_tree}
use Rattle.mace_printer.specs.Canon.{service_words}
use Rattle.mace_printer.proofs.DeclSays.{service_says}
use Rattle.mace_printer.proofs.Shortest.{shortest, pairs_needed}
use Rattle.mace_lexer.specs.declared.token.Word.TheVariants as word
use Rattle.mace_lexer.specs.declared.sign.Sign.TheVariants as s
use Rattle.mace_printer.proofs.laws.canonical_words_spell.Goals as goal

pub returns-clause-itself : goal.returns-clause-itself
returns-clause-itself c = service_says

pub returns-clause-only : goal.returns-clause-only
returns-clause-only c = λ t s f h. one_tree (service_words t) s t h (service_says t f)

pub returns-clause-shortest : goal.returns-clause-shortest
returns-clause-shortest c = shortest

pub returns-clause-parentheses : goal.returns-clause-parentheses
returns-clause-parentheses c = λ t front inner back q h. pairs_needed t front inner back (word.Sign s.LeftParen) (word.Sign s.RightParen) q h
