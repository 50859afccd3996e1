use Rattle.std.proofs.Common.{ap, ◌∙◌}
use Rattle.code_scheme.specs.Texts.{place_of_text}
use Rattle.service_compiler.proofs.TextLemmas.{found_place, lost_place}
use Rattle.service_compiler.proofs.texts.Texts.place.Goals as goal

pub returns-in-Some : goal.returns-in-Some
returns-in-Some c =
    found_place c.self.inside.set.keys c.args.text.now c.get_index_of.result c.in-Some.place c.get_index_of.ensures.index c.in-Some.is
    ∙ ap (λ ts. place_of_text ts c.args.text.now) c.self.view_is

pub returns-in-None : goal.returns-in-None
returns-in-None c =
    lost_place c.self.inside.set.keys c.args.text.now c.get_index_of.result c.len.result c.get_index_of.ensures.index c.in-None.is c.len.ensures.len
    ∙ ap (λ ts. place_of_text ts c.args.text.now) c.self.view_is
