use Rattle.elastic_meaning.proofs.Plain.{plain_same, plain_fits, plain_piece, plain_one, plain_none}
use Rattle.elastic_meaning.proofs.laws.plain_scripts_expand_to_themselves.Goals as goal

pub returns-clause-same : goal.returns-clause-same
returns-clause-same c = plain_same

pub returns-clause-fits : goal.returns-clause-fits
returns-clause-fits c = plain_fits

pub returns-clause-piece : goal.returns-clause-piece
returns-clause-piece c = plain_piece

pub returns-clause-one : goal.returns-clause-one
returns-clause-one c = plain_one

pub returns-clause-none : goal.returns-clause-none
returns-clause-none c = plain_none
