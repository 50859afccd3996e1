use Rattle.std.proofs.Common.{Ok, ◌∙◌, rules}
use Rattle.std.proofs.lemmas.Iterator.{items_from_collect, YieldsList-from_map, YieldsList-from_slice}
use Rattle.code_scheme.specs.declared.line.Line.{Line}
use Rattle.service_compiler.proofs.whole.places_of.Goals as goal

pub returns : goal.returns
returns c =
    c.from_vec.ensures
    ∙ items_from_collect {E = Unit {0}} (Ok c.in_ok-places.places) c.in_ok-places.ensures.ran
    (YieldsList-from_map _ (λ (l : Line). l.place) (YieldsList-from_slice c.args.lines.now cc) c.map.ensures.closure (λ x r q k. search rules))
