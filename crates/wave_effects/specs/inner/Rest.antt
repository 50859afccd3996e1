-- What a finished run gives: of its committed tickets, and the rest.
use Rattle.std.specs.Prelude.{List, map}
use Rattle.wave_base.specs.declared.finished.Finished.{Finished}
use Rattle.wave_effects.specs.declared.finish.Rest.{Rest}
use Rattle.wave_effects.specs.declared.kept.Settled.{Settled}

abbrev pub finished_with : List Settled → Rest → Finished
finished_with settled rest = record {
  results = map (λ x. x.result) settled;
  made = map (λ x. x.made) settled;
  names = rest.names;
  places = rest.places;
  shots = rest.shots;
  loads = rest.loads;
}
