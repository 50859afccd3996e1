use Rattle.due_parts.proofs.WorkLemmas as work
use Rattle.due_parts.proofs.script.ready.Goals as goal

pub returns-clause-ready : goal.returns-clause-ready
returns-clause-ready c = λ tree t coded begun fits.
    work.ready tree c.args.typed c.args.program c.args.start c.args.script t coded begun fits c.rules_pick.ensures c.plans_drive.ensures c.runs_are_measured.ensures.finished c.drives_are_measured.ensures c.finished_states_mean.ensures
    c.plans_stay_few.ensures c.scripts_are_few.ensures.saved c.code_runs_are_cut.ensures.first
