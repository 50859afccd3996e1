use Rattle.std.proofs.Common.{◌+◌, ◌∙◌, refl, ap, sym}
use Rattle.std.specs.Prelude.{nat_eq}
use Rattle.std.specs.Map.{lookup}
use Rattle.commit_order.specs.Commits.{ready_result}
use Rattle.commit_order.proofs.ResultMaps.{get_is_lookup, none_in}
use Rattle.commit_order.proofs.commits.Commits.ready.Goals as goal

pub returns-then-is_empty : goal.returns-then-is_empty
returns-then-is_empty c =
    none_in (c.self.inside.committed + 1) c.self.inside.results.entries (c.if-is_empty.ensures.0 refl)
    ∙ sym (get_is_lookup (c.self.inside.committed + 1) c.self.inside.results.entries) ∙ ap ready_result c.self.view_is

pub returns : goal.returns
returns c =
    c.get.ensures.value ∙ ap (λ n. lookup (nat_eq (n + 1)) c.self.inside.results.entries) c.from.ensures
    ∙ sym (get_is_lookup (c.self.inside.committed + 1) c.self.inside.results.entries) ∙ ap ready_result c.self.view_is
