-- What an event comes to, as it is kept.
use Rattle.std.specs.Prelude.{◌≡◌, List}
use Rattle.wave_base.specs.declared.value.Value.{Value}
use Rattle.wave_base.specs.Tree.{Tree}
use Rattle.resolved_service.specs.Jobs.{Meant}
use Rattle.service_eval.specs.declared.event.EventRan.{EventRan}

-- the result, the tree and the contexts that were entered
abbrev pub Means : Meant → EventRan → Tree (List Value) → Type 0
Means meant ran tree = (meant.ran.tree ≡ tree) × (meant.ran.result ≡ ran.result) × (meant.ran.entered ≡ ran.entered)
