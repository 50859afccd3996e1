use Rattle.wave_labels.specs.declared.label.Act.TheVariants.{Start}
use Rattle.wave_effects.specs.Keeping.{kept_of}
use Rattle.wave_effects.proofs.Labelled.{leases_it, moves_it, takes_it}
use Rattle.wave_effects.proofs.engine.Engine.act_start.Goals as goal

pub returns-clause-takes : goal.returns-clause-takes
returns-clause-takes c = takes_it (kept_of c.args.self.now) (kept_of c.start.new.self) c.args.label.now (Start c.in-Start.ticket c.in-Start.path) c.in-Start.is c.start.ensures.takes

pub returns-clause-moves : goal.returns-clause-moves
returns-clause-moves c = moves_it (kept_of c.args.self.now) (kept_of c.start.new.self) c.args.label.now (Start c.in-Start.ticket c.in-Start.path) c.in-Start.is 0 c.start.ensures.moves

pub returns-clause-leases : goal.returns-clause-leases
returns-clause-leases c = leases_it (kept_of c.args.self.now) (kept_of c.start.new.self) c.args.label.now (Start c.in-Start.ticket c.in-Start.path) c.in-Start.is c.start.result c.start.ensures.leases

pub returns-clause-may_run : goal.returns-clause-may_run
returns-clause-may_run c = c.start.ensures.may_run
