use Rattle.std.proofs.Common.{[], ◌∷◌, ◌++◌, ◌∙◌, ap}
use Rattle.mace_printer.specs.Layout.{layout}
use Rattle.mace_hints.specs.Hints.{word_of}
use Rattle.mace_hints.proofs.Short.{front_short}
use Rattle.mace_hints.proofs.Trying.{can_follow_by}
use Rattle.mace_hints.proofs.telling.can_follow.Goals as goal

pub returns : goal.returns
returns c = can_follow_by c.args.front.now c.as_slice.result.now c.args.hint c.goes_on.result (c.as_slice.ensures.value ∙ c.in_ok-put_hint.ensures ∙ ap (λ z. z ++ layout (word_of c.args.hint ∷ [])) c.in_ok-text.ensures.items) c.goes_on.ensures

pub goes_on-requires : goal.goes_on-requires
goes_on-requires c = front_short c.args.front.now c.as_slice.result.now c.args.hint (c.as_slice.ensures.value ∙ c.in_ok-put_hint.ensures ∙ ap (λ z. z ++ layout (word_of c.args.hint ∷ [])) c.in_ok-text.ensures.items) c.requires
