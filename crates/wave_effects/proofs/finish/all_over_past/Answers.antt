use Rattle.std.proofs.Common.{◌≡◌, ◌-◌, ℕ, List, true, drop, length, take, sym, arith}
use Rattle.std.proofs.lemmas.List.{length-drop, take_all}
use Rattle.std.proofs.lemmas.List.Elements.{All-drop, All-same}
use Rattle.event_cells.specs.declared.cell.Cell.{Cell}
use Rattle.wave_effects.specs.declared.actor.Actor.{Actor}
use Rattle.wave_effects.specs.Ending.{is_done}
use Rattle.wave_effects.proofs.Ending.{all_past}
use Rattle.wave_effects.proofs.finish.all_over_past.Goals as goal

abbrev rest : ℕ → List (Cell Actor) → List (Cell Actor)
rest n cells = take (length cells - n) (drop n cells)

rest_is : (n : ℕ) (cells : List (Cell Actor)) → rest n cells ≡ drop n cells
rest_is n cells = take_all (length cells - n) (drop n cells) (let many = length-drop n cells in omega (arith, many))

pub returns : goal.returns
returns c =
    let done = λ (x : Cell Actor). is_done x ≡ true in
    let n = c.args.done in
    let cells = c.args.cells.now in (
      λ over. all_past done n cells c.requires.each (All-same done (drop n cells) (rest n cells) (sym (rest_is n cells)) (c.all_over.ensures.0 over)),
      λ all. c.all_over.ensures.1 (All-same done (rest n cells) (drop n cells) (rest_is n cells) (All-drop done n cells all)),
    )
