use Rattle.wave_labels.specs.declared.label.Act.TheVariants.{Admit, Queue, Grant, Visit, Free, Pass, Land, Commit}
use Rattle.wave_effects.specs.Keeping.{kept_of}
use Rattle.wave_effects.proofs.Labelled.{moves_it, takes_it}
use Rattle.wave_effects.proofs.engine.Engine.act.Goals as goal

pub returns-in-Admit-clause-takes : goal.returns-in-Admit-clause-takes
returns-in-Admit-clause-takes c = takes_it (kept_of c.args.self.now) (kept_of c.admit.new.self) c.args.label.now (Admit c.in-Admit.field-0) c.in-Admit.is (c.admit.ensures.takes c.args.label.now.worker.0 c.args.label.now.host.0 c.in-Admit.field-0.0)

pub returns-in-Queue-clause-takes : goal.returns-in-Queue-clause-takes
returns-in-Queue-clause-takes c = takes_it (kept_of c.args.self.now) (kept_of c.queue.new.self) c.args.label.now (Queue c.in-Queue.mail c.in-Queue.path) c.in-Queue.is (c.queue.ensures.takes c.args.label.now.worker.0)

pub returns-in-Grant-clause-takes : goal.returns-in-Grant-clause-takes
returns-in-Grant-clause-takes c = takes_it (kept_of c.args.self.now) (kept_of c.grant.new.self) c.args.label.now (Grant c.in-Grant.ticket c.in-Grant.path) c.in-Grant.is (c.grant.ensures.takes c.args.label.now.worker.0)

pub returns-in-Visit-clause-takes : goal.returns-in-Visit-clause-takes
returns-in-Visit-clause-takes c = takes_it (kept_of c.args.self.now) (kept_of c.visit.new.self) c.args.label.now (Visit c.in-Visit.mail c.in-Visit.path) c.in-Visit.is (c.visit.ensures.takes c.args.label.now.worker.0 c.args.label.now.host.0)

pub returns-in-Free-clause-takes : goal.returns-in-Free-clause-takes
returns-in-Free-clause-takes c = takes_it (kept_of c.args.self.now) (kept_of c.free.new.self) c.args.label.now (Free c.in-Free.mail c.in-Free.path) c.in-Free.is (c.free.ensures.takes c.args.label.now.worker.0)

pub returns-in-Pass-clause-takes : goal.returns-in-Pass-clause-takes
returns-in-Pass-clause-takes c = takes_it (kept_of c.args.self.now) (kept_of c.pass.new.self) c.args.label.now (Pass c.in-Pass.mail c.in-Pass.path c.in-Pass.to) c.in-Pass.is (c.pass.ensures.takes c.args.label.now.worker.0)

pub returns-in-Land-clause-takes : goal.returns-in-Land-clause-takes
returns-in-Land-clause-takes c = takes_it (kept_of c.args.self.now) (kept_of c.land.new.self) c.args.label.now (Land c.in-Land.mail c.in-Land.path) c.in-Land.is (c.land.ensures.takes c.args.label.now.worker.0)

pub returns-in-Commit-clause-takes : goal.returns-in-Commit-clause-takes
returns-in-Commit-clause-takes c = takes_it (kept_of c.args.self.now) (kept_of c.commit.new.self) c.args.label.now (Commit c.in-Commit.field-0) c.in-Commit.is (c.commit.ensures.takes c.args.label.now.worker.0 c.args.label.now.host.0 c.in-Commit.field-0.0)

pub returns-in-Admit-clause-moves : goal.returns-in-Admit-clause-moves
returns-in-Admit-clause-moves c = moves_it (kept_of c.args.self.now) (kept_of c.admit.new.self) c.args.label.now (Admit c.in-Admit.field-0) c.in-Admit.is 0 (c.admit.ensures.moves c.args.label.now.worker.0 c.args.label.now.host.0 c.in-Admit.field-0.0)

pub returns-in-Queue-clause-moves : goal.returns-in-Queue-clause-moves
returns-in-Queue-clause-moves c = moves_it (kept_of c.args.self.now) (kept_of c.queue.new.self) c.args.label.now (Queue c.in-Queue.mail c.in-Queue.path) c.in-Queue.is 0 (c.queue.ensures.moves c.args.label.now.worker.0)

pub returns-in-Grant-clause-moves : goal.returns-in-Grant-clause-moves
returns-in-Grant-clause-moves c = moves_it (kept_of c.args.self.now) (kept_of c.grant.new.self) c.args.label.now (Grant c.in-Grant.ticket c.in-Grant.path) c.in-Grant.is 0 (c.grant.ensures.moves c.args.label.now.worker.0)

pub returns-in-Visit-clause-moves : goal.returns-in-Visit-clause-moves
returns-in-Visit-clause-moves c = moves_it (kept_of c.args.self.now) (kept_of c.visit.new.self) c.args.label.now (Visit c.in-Visit.mail c.in-Visit.path) c.in-Visit.is 0 (c.visit.ensures.moves c.args.label.now.worker.0 c.args.label.now.host.0)

pub returns-in-Free-clause-moves : goal.returns-in-Free-clause-moves
returns-in-Free-clause-moves c = moves_it (kept_of c.args.self.now) (kept_of c.free.new.self) c.args.label.now (Free c.in-Free.mail c.in-Free.path) c.in-Free.is 0 (c.free.ensures.moves c.args.label.now.worker.0)

pub returns-in-Pass-clause-moves : goal.returns-in-Pass-clause-moves
returns-in-Pass-clause-moves c = moves_it (kept_of c.args.self.now) (kept_of c.pass.new.self) c.args.label.now (Pass c.in-Pass.mail c.in-Pass.path c.in-Pass.to) c.in-Pass.is 0 (c.pass.ensures.moves c.args.label.now.worker.0)

pub returns-in-Land-clause-moves : goal.returns-in-Land-clause-moves
returns-in-Land-clause-moves c = moves_it (kept_of c.args.self.now) (kept_of c.land.new.self) c.args.label.now (Land c.in-Land.mail c.in-Land.path) c.in-Land.is 0 (c.land.ensures.moves c.args.label.now.worker.0)

pub returns-in-Commit-clause-moves : goal.returns-in-Commit-clause-moves
returns-in-Commit-clause-moves c = moves_it (kept_of c.args.self.now) (kept_of c.commit.new.self) c.args.label.now (Commit c.in-Commit.field-0) c.in-Commit.is 0 (c.commit.ensures.moves c.args.label.now.worker.0 c.args.label.now.host.0 c.in-Commit.field-0.0)

pub returns-in-Admit-clause-plan : goal.returns-in-Admit-clause-plan
returns-in-Admit-clause-plan c = c.admit.ensures.plan

pub returns-in-Queue-clause-plan : goal.returns-in-Queue-clause-plan
returns-in-Queue-clause-plan c = c.queue.ensures.plan

pub returns-in-Grant-clause-plan : goal.returns-in-Grant-clause-plan
returns-in-Grant-clause-plan c = c.grant.ensures.plan

pub returns-in-Visit-clause-plan : goal.returns-in-Visit-clause-plan
returns-in-Visit-clause-plan c = c.visit.ensures.plan

pub returns-in-Free-clause-plan : goal.returns-in-Free-clause-plan
returns-in-Free-clause-plan c = c.free.ensures.plan

pub returns-in-Pass-clause-plan : goal.returns-in-Pass-clause-plan
returns-in-Pass-clause-plan c = c.pass.ensures.plan

pub returns-in-Land-clause-plan : goal.returns-in-Land-clause-plan
returns-in-Land-clause-plan c = c.land.ensures.plan

pub returns-in-Commit-clause-plan : goal.returns-in-Commit-clause-plan
returns-in-Commit-clause-plan c = c.commit.ensures.plan
