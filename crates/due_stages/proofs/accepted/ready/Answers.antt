use Rattle.due_stages.proofs.ReadyLemmas as lemma
use Rattle.due_stages.proofs.accepted.ready.Goals as goal

pub returns : goal.returns
returns c = λ tree elastic t coded fits first.
    lemma.ready tree c.args.typed c.args.program c.args.stages elastic t coded fits first c.requires c.expansions_end.ensures.over
