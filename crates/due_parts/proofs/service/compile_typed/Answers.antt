use Rattle.due_parts.proofs.NameLemmas.{code_typed}
use Rattle.due_parts.proofs.service.compile_typed.Goals as goal

pub code_of-requires-clause-typed : goal.code_of-requires-clause-typed
code_of-requires-clause-typed c = code_typed c.requires.typed.0 c.args.typed c.requires.typed.1

pub code_of-requires-clause-fits : goal.code_of-requires-clause-fits
code_of-requires-clause-fits c = c.requires.typed.1.fits
