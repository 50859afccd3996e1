use Rattle.std.proofs.Common.{◌≡◌, map, take, None}
use Rattle.type_rules.specs.Demands.{first_wrong}
use Rattle.type_rules.specs.Views.{phase_view}
use Rattle.context_types.specs.inner.Judged.{AllFew}
use Rattle.context_types.specs.inner.Places.{here_of}
use Rattle.context_types.proofs.Lists.{next_phase, phase_asks, phase_made}
use Rattle.context_types.proofs.Walking.{walk, ends, makes}
use Rattle.context_types.proofs.here.Here.phases.Given as goal

abbrev pub invariant-loop-phase : goal.invariant-loop-phase
invariant-loop-phase l = record {
  holds : first_wrong (walk next_phase phase_asks (here_of l.initial.self, l.initial.ended) (take l.phase-index l.phases)) ≡ None;
  place : ends next_phase (here_of l.initial.self, l.initial.ended) (take l.phase-index l.phases) ≡ (here_of l.self, l.past);
  made : makes next_phase phase_made (here_of l.initial.self, l.initial.ended) (take l.phase-index l.phases) ≡ map phase_view l.made.items;
  few : AllFew l.self.known.now;
}
