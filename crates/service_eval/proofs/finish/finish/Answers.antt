use Rattle.std.proofs.Common.{sym, subst}
use Rattle.service_eval.specs.inner.Items as i
use Rattle.service_eval.specs.inner.Items.{end_of}
use Rattle.service_eval.specs.inner.Turns.{Goes}
use Rattle.service_eval.specs.inner.Wants.{WhereWanting, MayWantAtEnd}
use Rattle.service_eval.proofs.WantLemmas.{said_of, wanting, set_ended, put_ended, cut_ended}
use Rattle.service_eval.proofs.finish.finish.Goals as goal

pub returns-in-Branch-clause-goes : goal.returns-in-Branch-clause-goes
returns-in-Branch-clause-goes c =
    subst (λ e. Goes c.args.code c.args.contexts.now c.args.m.now (i.Finish c.args.at (end_of e) c.args.base) c.branch-code.result c.args.contexts.now c.branch-code.new.m) (sym c.in-Branch.is) c.branch-code.ensures

pub returns-in-Set-clause-memory : goal.returns-in-Set-clause-memory
returns-in-Set-clause-memory c =
    subst (λ e. WhereWanting c.set.result (MayWantAtEnd c.args.code c.args.contexts.now c.args.m.now c.args.base (end_of e))) (sym c.in-Set.is) (said_of c.set.result (set_ended c.args.code c.args.contexts.now c.args.m.now c.args.base c.in-Set.variable) c.set.ensures.memory)

pub returns-in-Put-clause-memory : goal.returns-in-Put-clause-memory
returns-in-Put-clause-memory c =
    subst (λ e. WhereWanting c.put.result (MayWantAtEnd c.args.code c.args.contexts.now c.args.m.now c.args.base (end_of e))) (sym c.in-Put.is) (said_of c.put.result (put_ended c.args.code c.args.contexts.now c.args.m.now c.args.base c.in-Put.variable) c.put.ensures.memory)

pub returns-in-Cut-clause-memory : goal.returns-in-Cut-clause-memory
returns-in-Cut-clause-memory c =
    subst (λ e. WhereWanting c.cut.result (MayWantAtEnd c.args.code c.args.contexts.now c.args.m.now c.args.base (end_of e))) (sym c.in-Cut.is) (said_of c.cut.result (cut_ended c.args.code c.args.contexts.now c.args.m.now c.args.base c.in-Cut.variable) c.cut.ensures.memory)

pub returns-in-Branch-clause-memory : goal.returns-in-Branch-clause-memory
returns-in-Branch-clause-memory c =
    subst (λ e. WhereWanting c.branch-code.result (MayWantAtEnd c.args.code c.args.contexts.now c.args.m.now c.args.base (end_of e))) (sym c.in-Branch.is) (wanting c.branch-code.result tt)

pub returns-in-Send-clause-memory : goal.returns-in-Send-clause-memory
returns-in-Send-clause-memory c =
    subst (λ e. WhereWanting c.send.result (MayWantAtEnd c.args.code c.args.contexts.now c.args.m.now c.args.base (end_of e))) (sym c.in-Send.is) (wanting c.send.result tt)

pub returns-in-Spawn-clause-memory : goal.returns-in-Spawn-clause-memory
returns-in-Spawn-clause-memory c =
    subst (λ e. WhereWanting c.spawn.result (MayWantAtEnd c.args.code c.args.contexts.now c.args.m.now c.args.base (end_of e))) (sym c.in-Spawn.is) (wanting c.spawn.result tt)

pub returns-in-Return-clause-memory : goal.returns-in-Return-clause-memory
returns-in-Return-clause-memory c =
    subst (λ e. WhereWanting c.return_with.result (MayWantAtEnd c.args.code c.args.contexts.now c.args.m.now c.args.base (end_of e))) (sym c.in-Return.is) (wanting c.return_with.result tt)
