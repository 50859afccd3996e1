use Rattle.std.proofs.Common.{ap, ◌∙◌}
use Rattle.name_table.specs.Numbers.{first_number}
use Rattle.name_table.proofs.NameLemmas.{lookup_first}
use Rattle.name_table.proofs.names.Names.first.Goals as goal

pub returns : goal.returns
returns c =
    c.copied.ensures ∙ c.get.ensures.value ∙ lookup_first c.self.inside.numbers.entries c.args.name.now ∙ ap (λ ps. first_number ps c.args.name.now) c.self.view_is
