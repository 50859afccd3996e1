use Rattle.elastic_meaning.proofs.Walking.{ends}
use Rattle.elastic_meaning.proofs.laws.pieces_are_fronts.Goals as goal

pub returns : goal.returns
returns c = λ service program elastic done s at. (ends service program elastic done s at).front
