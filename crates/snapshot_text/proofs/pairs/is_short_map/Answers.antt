use Rattle.std.proofs.Common.{length, refl, sym, ap, ◌∙◌}
use Rattle.std.specs.Prelude.{◌==◌}
use Rattle.path_text.proofs.StepLemmas.{is_nil}
use Rattle.snapshot_text.proofs.PairLemmas.{map_one, map_none, one_map}
use Rattle.snapshot_text.proofs.pairs.is_short_map.Goals as goal

pub returns-in-Some : goal.returns-in-Some
returns-in-Some c = (λ h. map_one c.args.text.now c.in-Some.field-0.now c.in-Some.ensures.some, λ m. refl)

pub returns-in-None : goal.returns-in-None
returns-in-None c = (
  λ h. map_none c.args.text.now (is_nil c.args.text.now (sym (sym c.is_empty.ensures ∙ h))),
  λ m. c.is_empty.ensures ∙ ap (λ t. length t == 0) (one_map c.args.text.now c.requires c.in-None.ensures.none m),
)
