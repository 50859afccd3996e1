use Rattle.due_stages.proofs.PieceLemmas.{is_first, is_front, is_piece, is_whole, is_within}
use Rattle.due_stages.proofs.laws.pieces_are_listed.Goals as goal

pub returns-clause-first : goal.returns-clause-first
returns-clause-first c = λ elastic work can. is_first c.pieces_go_on.ensures.first c.pieces_go_on.ensures.nothing elastic work can

pub returns-clause-piece : goal.returns-clause-piece
returns-clause-piece c = λ service program elastic s text trapped script l e. is_piece service program elastic s text trapped c.pieces_go_on.ensures.piece script l e

pub returns-clause-front : goal.returns-clause-front
returns-clause-front c = λ service program elastic s text trapped l. is_front service program elastic s text trapped c.pieces_are_fronts.ensures l

pub returns-clause-end : goal.returns-clause-end
returns-clause-end c = λ service program elastic s text trapped l e. is_whole service program elastic s text trapped c.pieces_go_on.ensures.end l e

pub returns-clause-within : goal.returns-clause-within
returns-clause-within c = λ service program elastic s text trapped script n p. is_within c.pieces_are_fronts.ensures service program elastic s text trapped script n p
