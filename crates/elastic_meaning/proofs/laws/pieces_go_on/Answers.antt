use Rattle.elastic_meaning.proofs.Walking.{at_first, untold, is_piece, is_done}
use Rattle.elastic_meaning.proofs.laws.pieces_go_on.Goals as goal

pub returns-clause-first : goal.returns-clause-first
returns-clause-first c = λ service program elastic code fits. at_first service program elastic code fits

pub returns-clause-nothing : goal.returns-clause-nothing
returns-clause-nothing c = λ service program elastic. untold service program elastic

pub returns-clause-piece : goal.returns-clause-piece
returns-clause-piece c = λ service program elastic done s script at e. is_piece service program elastic done s at script e

pub returns-clause-end : goal.returns-clause-end
returns-clause-end c = λ service program elastic done s at e. is_done service program elastic done s at e
