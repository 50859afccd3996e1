use Rattle.std.proofs.Common.{◌≡◌, ◌∙◌, ◌≤◌, List, [], ◌∷◌, ◌++◌, length, map, sym, ap, arith}
use Rattle.std.specs.Prelude.{flat_map}
use Rattle.wave_base.specs.Fold.{tickets_from}
use Rattle.event_cells.specs.declared.cell.Cell.{Cell}
use Rattle.wave_effects.specs.declared.actor.Actor.{Actor}
use Rattle.wave_effects.specs.Keeping.{kept_of}
use Rattle.wave_machine.specs.inner.Asking.{in_order}
use Rattle.wave_machine.specs.inner.Index.{asked_at, by_none, by_part, head_in, weight_of}
use Rattle.wave_machine.proofs.Heads.{no_head}
use Rattle.wave_machine.proofs.Skipping.{none_done}
use Rattle.wave_machine.proofs.listed.Listed.new_at.Goals as goal

light : (cs : List (Cell Actor)) → length cs ≡ 0 → weight_of cs ≤ 0
light [] e = omega arith
light (c ∷ cs) e = absurd (omega (arith, e))

pub returns-clause-listed : goal.returns-clause-listed
returns-clause-listed c =
    let m = kept_of c.in_ok-engine.engine in
    let shows = c.in_ok-engine.ensures.stands.shows in
    let zero : 0 ≡ m.head.admitted = shows.head.admitted in
    let none : length m.cells ≡ 0 = shows.cells.as_many ∙ sym zero in
    let empty : by_part m (asked_at m) ≡ [] = ap (λ n. flat_map (asked_at m) (tickets_from m.first n)) none in
    record {
      index = c.relist_head.ensures.parts [] [] no_head tt (ap (map by_none) (c.reserve.ensures.items ∙ c.new-index.ensures.items)) ∙ ap (λ r. in_order (head_in m ++ r)) (sym empty);
      done = none_done m;
      weight = light m.cells none;
    }
