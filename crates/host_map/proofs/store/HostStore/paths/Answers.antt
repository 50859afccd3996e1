use Rattle.std.proofs.Common.{ap, ◌∙◌}
use Rattle.std.specs.FinMap as table
use Rattle.std.specs.List.{list_any}
use Rattle.wave_base.specs.Paths.{path_eq}
use Rattle.host_map.proofs.StoreMaps.{among_keys}
use Rattle.host_map.proofs.store.HostStore.paths.Goals as goal

pub returns-clause-here : goal.returns-clause-here
returns-clause-here c = λ p. ap (list_any (path_eq p)) c.in_ok-paths.ensures.keys ∙ among_keys p c.self.inside.store.entries ∙ ap (λ v. table.contains_key v.store p) c.self.view_is
