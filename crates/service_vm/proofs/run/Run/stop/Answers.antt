use Rattle.std.proofs.Common.{ap, subst, ◌∙◌}
use Rattle.wave_base.specs.declared.outcome.Outcome.TheVariants.{Reply as Replied}
use Rattle.service_verify.specs.Steps.{on_top, end_move}
use Rattle.service_vm.specs.Boxes.{box_of}
use Rattle.service_vm.specs.inner.Acts.{Flows}
use Rattle.service_vm.specs.Frames.{Frames}
use Rattle.service_vm.proofs.run.Run.stop.Goals as goal

pub returns-in-Traps-clause-stopped : goal.returns-in-Traps-clause-stopped
returns-in-Traps-clause-stopped c m fields h = subst (λ f. Flows m c.args.at f c.args.self.now fields) c.in-Traps.is h ∙ c.trap.ensures.trapped fields

pub returns-in-Go-clause-stopped : goal.returns-in-Go-clause-stopped
returns-in-Go-clause-stopped c m fields h = subst (λ f. Flows m c.args.at f c.args.self.now fields) c.in-Go.is h

pub returns-in-Down-clause-stopped : goal.returns-in-Down-clause-stopped
returns-in-Down-clause-stopped c m fields h = subst (λ f. Flows m c.args.at f c.args.self.now fields) c.in-Down.is h

pub returns-in-Back-clause-stopped : goal.returns-in-Back-clause-stopped
returns-in-Back-clause-stopped c m fields h = subst (λ f. Flows m c.args.at f c.args.self.now fields) c.in-Back.is h

pub returns-in-Reply-clause-stopped : goal.returns-in-Reply-clause-stopped
returns-in-Reply-clause-stopped c m fields h =
    (subst (λ f. Flows m c.args.at f c.args.self.now fields) c.in-Reply.is h).1
    ∙ ap (λ (s : Frames). on_top s.top.stack (λ x rest. end_move (Replied x) (box_of c.args.self.now) fields)) c.pop-value.ensures
    ∙ c.finish.ensures.finished fields

pub returns-in-End-clause-stopped : goal.returns-in-End-clause-stopped
returns-in-End-clause-stopped c m fields h = subst (λ f. Flows m c.args.at f c.args.self.now fields) c.in-End.is h ∙ c.finish-in-End.ensures.finished fields
