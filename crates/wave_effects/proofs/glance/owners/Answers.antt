use Rattle.std.proofs.Common.{◌≡◌, ◌∙◌, ◌⊎◌, ◌<◌, ◌≤◌, ◌+◌, inl, inr, ℕ, true, Some, map, ap, refl, sym, subst, arith}
use Rattle.std.specs.BTreeMap.{keys}
use Rattle.std.specs.List.{list_any}
use Rattle.std.specs.List.Sorted.{IsStrictlySortedBy}
use Rattle.std.specs.Prelude.{slice_get, All}
use Rattle.std.proofs.lemmas.Bool.{cases_lt}
use Rattle.std.proofs.lemmas.List.Elements.{All-from_recursion}
use Rattle.std.proofs.lemmas.Option.{slice_get_read, slice_get_within}
use Rattle.wave_base.specs.declared.numbers.Host.{Host}
use Rattle.wave_base.specs.declared.path.Path.{Path}
use Rattle.wave_base.specs.Paths.{path_cmp, path_eq}
use Rattle.wave_theory.proofs.Basics.{some_same}
use Rattle.event_cells.specs.declared.cell.Cell.{Cell}
use Rattle.plan_actors.specs.Finishing.{path_of}
use Rattle.wave_effects.specs.declared.actor.Actor.{Actor}
use Rattle.wave_effects.specs.inner.Endings.{IsThere, placed_at}
use Rattle.wave_effects.specs.inner.Owned.{IsCarried, IsKeptAt, IsOldOr, IsOwnPlace}
use Rattle.wave_effects.proofs.Glancing.{all_weaker, of_all}
use Rattle.wave_effects.proofs.Mapped.{all_mapped, same_keys}
use Rattle.wave_effects.proofs.glance.owners.Goals as goal

pub loop-cell-init : goal.loop-cell-init
loop-cell-init c = record {
  owned = all_weaker (λ (e : Path × Host). IsThere c.args.stores.now e.0 e.1) (λ (e : Path × Host). IsKeptAt c.args.stores.now c.args.cells.now e.0 e.1) (λ e h. inl h) c.in_ok-hosts.hosts.entries c.in_ok-hosts.ensures.there;
  stored = λ p e. e;
  sent = λ j x p h l. absurd (omega (arith, l));
}

pub loop-cell-preserved : goal.loop-cell-preserved
loop-cell-preserved c = record {
  owned = all_weaker (λ (e : Path × Host). IsOldOr c.loop-cell.hosts.entries c.cell-item.result.outbox.mails e.0 e.1) (λ (e : Path × Host). IsKeptAt c.args.stores.now c.args.cells.now e.0 e.1) by c.add_carried.new.hosts.entries c.in_ok-add_carried.ensures.there;
  stored = λ p e. c.in_ok-add_carried.ensures.kept p (c.loop-cell.invariant.stored p e);
  sent = λ j x p h l e k. by_place j x p h l e k (cases_lt j c.loop-cell.cell-index);
}
  where
    at : slice_get c.args.cells.now c.loop-cell.cell-index ≡ Some c.cell-item.result
    at = slice_get_read c.args.cells.now _ c.loop-cell.cell-index c.cell-item.result refl c.loop-cell-test.true c.cell-item.is

    by : (e : Path × Host) → IsOldOr c.loop-cell.hosts.entries c.cell-item.result.outbox.mails e.0 e.1 → IsKeptAt c.args.stores.now c.args.cells.now e.0 e.1
    by e (inl i) = of_all (λ (e : Path × Host). IsKeptAt c.args.stores.now c.args.cells.now e.0 e.1) c.loop-cell.hosts.entries e c.loop-cell.invariant.owned i
    by e (inr k) = inr (record { place = c.loop-cell.cell-index; cell = c.cell-item.result; at = at; carried = k })

    by_place : (j : ℕ) (x : Cell Actor) (p : Path) (h : Host) → j < c.loop-cell.cell-index + 1 → slice_get c.args.cells.now j ≡ Some x → IsCarried x.outbox.mails p h → (j < c.loop-cell.cell-index) ⊎ (c.loop-cell.cell-index ≤ j) → list_any (path_eq p) (keys c.add_carried.new.hosts) ≡ true
    by_place j x p h l e k (inl less) = c.in_ok-add_carried.ensures.kept p (c.loop-cell.invariant.sent j x p h less e k)
    by_place j x p h l e k (inr most) =
        let here : j ≡ c.loop-cell.cell-index = omega (arith, l, most) in
        let same : x ≡ c.cell-item.result = some_same x c.cell-item.result (sym e ∙ ap (slice_get c.args.cells.now) here ∙ at) in
        c.in_ok-add_carried.ensures.more p h (subst (λ (y : Cell Actor). IsCarried y.outbox.mails p h) same k)

pub returns-clause-ordered : goal.returns-clause-ordered
returns-clause-ordered c = subst (IsStrictlySortedBy path_cmp) (sym (ap (map path_of) c.in_ok-owners.ensures.places ∙ same_keys c.loop-cell.hosts.entries)) c.in_ok-owners.ensures.ordered

pub returns-clause-owned : goal.returns-clause-owned
returns-clause-owned c =
    subst (All (IsOwnPlace c.args.stores.now c.args.cells.now)) (sym c.in_ok-owners.ensures.places)
    (All-from_recursion (IsOwnPlace c.args.stores.now c.args.cells.now) (map placed_at c.loop-cell.hosts.entries) (all_mapped (IsOwnPlace c.args.stores.now c.args.cells.now) c.loop-cell.hosts.entries c.loop-cell.invariant.owned))

pub returns-clause-stored : goal.returns-clause-stored
returns-clause-stored c = λ h x p at e.
    ap (list_any (path_eq p)) (ap (map path_of) c.in_ok-owners.ensures.places ∙ same_keys c.loop-cell.hosts.entries) ∙ c.loop-cell.invariant.stored p (c.in_ok-hosts.ensures.all h x p at e)

pub returns-clause-sent : goal.returns-clause-sent
returns-clause-sent c = λ p h is.
    ap (list_any (path_eq p)) (ap (map path_of) c.in_ok-owners.ensures.places ∙ same_keys c.loop-cell.hosts.entries)
    ∙ c.loop-cell.invariant.sent is.place is.cell p h (omega (arith, slice_get_within c.args.cells.now is.place is.cell is.at, c.loop-cell-test.false)) is.at is.carried
