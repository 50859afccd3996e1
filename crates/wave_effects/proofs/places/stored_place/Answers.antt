use Rattle.std.proofs.Common.{◌≡◌, ◌≤◌, ◌<◌, ◌+◌, ◌⊎◌, inl, inr, ℕ, true, Some, subst, arith}
use Rattle.std.specs.BTreeMap.{keys}
use Rattle.std.specs.List.{list_any}
use Rattle.std.specs.Prelude.{slice_get}
use Rattle.std.proofs.lemmas.Bool.{cases_lt}
use Rattle.std.proofs.lemmas.Option.{slice_get_within}
use Rattle.wave_base.specs.declared.path.Path.{Path}
use Rattle.wave_base.specs.Paths.{path_eq}
use Rattle.host_map.specs.Stores.{Stores, has}
use Rattle.wave_effects.proofs.places.stored_place.Goals as goal

pub loop-host-preserved : goal.loop-host-preserved
loop-host-preserved c = record {
  there = c.in_ok-add_all.ensures.there c.loop-host.invariant.there;
  all = λ h x p l at e. by_host h x p l at e (cases_lt h c.loop-host.host);
}
  where
    by_host : (h : ℕ) (x : Stores) (p : Path) → h < c.loop-host.host + 1 → slice_get c.args.stores.now h ≡ Some x → has p x ≡ true → (h < c.loop-host.host) ⊎ (c.loop-host.host ≤ h) → list_any (path_eq p) (keys c.add_all.new.hosts) ≡ true
    by_host h x p l at e (inl less) = c.in_ok-add_all.ensures.kept p (c.loop-host.invariant.all h x p less at e)
    by_host h x p l at e (inr most) = c.in_ok-add_all.ensures.more x p (subst (λ n. slice_get c.args.stores.now n ≡ Some x) (omega (arith, l, most)) at) e

pub returns-clause-all : goal.returns-clause-all
returns-clause-all c = λ h x p at e. c.loop-host.invariant.all h x p (omega (arith, slice_get_within c.args.stores.now h x at, c.loop-host-test.false)) at e
