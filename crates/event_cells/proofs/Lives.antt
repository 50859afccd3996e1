-- What a cell shows while its event is not done.
use Rattle.std.proofs.Common.{◌≡◌, ◌∙◌, List, sym, ap, subst}
use Rattle.std.specs.Global.{Box}
use Rattle.wave_base.specs.declared.value.Value.{Value}
use Rattle.wave_states.specs.Desks.{Desk}
use Rattle.event_cells.specs.declared.cell.Life.{Life}
use Rattle.event_cells.specs.declared.cell.Life.TheVariants as life
use Rattle.event_cells.specs.declared.live.Live.{Live}
use Rattle.event_cells.specs.Cards.{Card}
use Rattle.event_cells.specs.Cells.{StandsFor}
use Rattle.event_cells.specs.inner.Lives.{card_of, live_card}

module _ {A : Type 0} where
  pub opened : (x : Life A) (b : Box (Live A)) (l : Live A) (v : Card A) → card_of x ≡ v → x ≡ life.Live b → l ≡ b.value → live_card l ≡ v
  opened x b l v view is at = ap live_card at ∙ ap card_of (sym is) ∙ view

  pub stands_so : (l : Live A) (v : Card A) (d : Desk A (List Value)) → live_card l ≡ v → StandsFor v d → StandsFor (live_card l) d
  stands_so l v d e h = subst (λ c. StandsFor c d) (sym e) h
