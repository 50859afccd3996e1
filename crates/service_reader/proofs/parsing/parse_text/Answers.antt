use Rattle.service_reader.proofs.Few.{few}
use Rattle.service_reader.proofs.parsing.parse_text.Goals as goal

pub returns-clause-few : goal.returns-clause-few
returns-clause-few c = few c.declarations_take_words.ensures c.args.text.now c.read.result c.read.ensures
