use Rattle.std.proofs.Common.{ap, ◌∙◌}
use Rattle.migration_core.specs.inner.Next.{without_first}
use Rattle.migration_core.proofs.Advancing.{rest_left}
use Rattle.migration_core.proofs.mover.Mover.go_on.Goals as goal

pub returns-clause-rest : goal.returns-clause-rest
returns-clause-rest c = rest_left c.self.inside.gone c.self.inside.path ∙ ap (λ v. without_first v.mover.rest) c.self.view_is
