use Rattle.std.proofs.Common.{◌∙◌, map, ap, sym, subst}
use Rattle.std.specs.List.{list_any}
use Rattle.std.specs.List.Sorted.{IsStrictlySortedBy}
use Rattle.std.specs.Prelude.{All}
use Rattle.std.proofs.lemmas.List.Elements.{All-from_recursion}
use Rattle.plan_actors.specs.Finishing.{path_of}
use Rattle.wave_base.specs.Paths.{path_cmp, path_eq}
use Rattle.wave_effects.specs.inner.Endings.{IsPlace, placed_at}
use Rattle.wave_effects.proofs.Mapped.{all_mapped, same_keys}
use Rattle.wave_effects.proofs.places.places.Goals as goal

pub returns-clause-ordered : goal.returns-clause-ordered
returns-clause-ordered c = subst (IsStrictlySortedBy path_cmp) (sym (ap (map path_of) c.in_ok-places.ensures.places ∙ same_keys c.in_ok-hosts.hosts.entries)) c.in_ok-places.ensures.ordered

pub returns-clause-there : goal.returns-clause-there
returns-clause-there c =
    subst (All (IsPlace c.args.stores.now)) (sym c.in_ok-places.ensures.places) (All-from_recursion (IsPlace c.args.stores.now) (map placed_at c.in_ok-hosts.hosts.entries) (all_mapped (IsPlace c.args.stores.now) c.in_ok-hosts.hosts.entries c.in_ok-hosts.ensures.there))

pub returns-clause-all : goal.returns-clause-all
returns-clause-all c = λ h x p at e. ap (λ xs. list_any (path_eq p) (map path_of xs)) c.in_ok-places.ensures.places ∙ ap (list_any (path_eq p)) (same_keys c.in_ok-hosts.hosts.entries) ∙ c.in_ok-hosts.ensures.all h x p at e
