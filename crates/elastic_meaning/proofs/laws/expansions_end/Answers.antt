use Rattle.elastic_meaning.proofs.Walking.{ends_from_first}
use Rattle.elastic_meaning.proofs.laws.expansions_end.Goals as goal

pub returns-clause-over : goal.returns-clause-over
returns-clause-over c = λ service program elastic code fits. (ends_from_first service program elastic code fits).over

pub returns-clause-few : goal.returns-clause-few
returns-clause-few c = λ service program elastic code fits. (ends_from_first service program elastic code fits).few
