use Rattle.std.proofs.Common.{◌≡◌, take, None}
use Rattle.type_rules.specs.Demands.{first_wrong}
use Rattle.type_rules.specs.Functions.{param_asks}
use Rattle.context_types.specs.inner.Places.{here_of}
use Rattle.context_types.proofs.Lists.{next_param}
use Rattle.context_types.proofs.Walking.{walk, ends}
use Rattle.context_types.proofs.here.Here.method_params.Given as goal

abbrev pub invariant-loop-param : goal.invariant-loop-param
invariant-loop-param l = record {
  holds : first_wrong (walk next_param param_asks (here_of l.initial.self) (take l.param-index l.params)) ≡ None;
  place : ends next_param (here_of l.initial.self) (take l.param-index l.params) ≡ here_of l.self;
}
