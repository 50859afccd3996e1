use Rattle.std.proofs.Common.{◌≡◌, ◌∙◌, ◌||◌, ◌⊎◌, inl, inr, true, Some, take, ap, refl, sym, subst, arith}
use Rattle.std.specs.List.{list_any}
use Rattle.std.specs.Map.{keys_of}
use Rattle.std.specs.Prelude.{slice_get}
use Rattle.std.proofs.lemmas.Option.{slice_get_read}
use Rattle.std.proofs.Math.Seq.{take-length}
use Rattle.wave_base.specs.declared.path.Path.{Path}
use Rattle.wave_base.specs.Paths.{path_eq}
use Rattle.host_map.specs.Stores.{Stores, has}
use Rattle.wave_theory.proofs.Paths.{has_append, or_is, or_left, or_right}
use Rattle.wave_effects.specs.inner.Endings.{AllThere, IsThere}
use Rattle.wave_effects.proofs.Collecting.{all_inserted, in_list, insert_keys}
use Rattle.wave_effects.proofs.Placing.{take_next}
use Rattle.wave_effects.proofs.places.add_all.Goals as goal

pub loop-path-preserved : goal.loop-path-preserved
loop-path-preserved c =
    let paths = c.deref-path-items.result.now in
    let i = c.loop-path.path-index in
    let q = c.path-item.result in
    let old = c.loop-path.hosts.entries in
    let entries = c.in_ok-insert.ensures.entries in
    let at : slice_get paths i ≡ Some q = slice_get_read paths _ i q refl c.loop-path-test.true c.path-item.is in
    let stored : slice_get c.args.stores.now c.args.host.0 ≡ Some c.index-stores-host.result = slice_get_read c.args.stores.now _ c.args.host.0 c.index-stores-host.result refl c.requires.within c.index-stores-host.is in
    let there : IsThere c.args.stores.now q c.args.host = record {
      store = c.index-stores-host.result;
      stored = stored;
      has_it = sym (c.in_ok-paths.ensures.here q) ∙ ap (list_any (path_eq q)) (sym c.deref-path-items.ensures.value) ∙ in_list paths i q at;
    } in
    record {
      there = λ h. subst (AllThere c.args.stores.now) (sym entries) (all_inserted (IsThere c.args.stores.now) q c.args.host old (c.loop-path.invariant.there h) there);
      added = λ p e. ap (λ es. list_any (path_eq p) (keys_of es)) entries ∙ insert_keys p q c.args.host old ∙ joined p (or_is (list_any (path_eq p) (take i paths)) (path_eq p q) (sym (has_append (take i paths) q p) ∙ ap (list_any (path_eq p)) (sym (take_next paths i q at)) ∙ e));
      kept = λ p e. ap (λ es. list_any (path_eq p) (keys_of es)) entries ∙ insert_keys p q c.args.host old ∙ or_right (path_eq p q) (list_any (path_eq p) (keys_of old)) (c.loop-path.invariant.kept p e);
    }
  where
    joined : (p : Path) → (list_any (path_eq p) (take c.loop-path.path-index c.deref-path-items.result.now) ≡ true) ⊎ (path_eq p c.path-item.result ≡ true) → (path_eq p c.path-item.result || list_any (path_eq p) (keys_of c.loop-path.hosts.entries)) ≡ true
    joined p (inl e) = or_right (path_eq p c.path-item.result) (list_any (path_eq p) (keys_of c.loop-path.hosts.entries)) (c.loop-path.invariant.added p e)
    joined p (inr e) = or_left (path_eq p c.path-item.result) (list_any (path_eq p) (keys_of c.loop-path.hosts.entries)) e

same_some : (a b : Stores) → Some a ≡ Some b → a ≡ b
same_some a b e = cc

pub returns-clause-more : goal.returns-clause-more
returns-clause-more c = λ x p at e.
    let paths = c.deref-path-items.result.now in
    let stored : slice_get c.args.stores.now c.args.host.0 ≡ Some c.index-stores-host.result = slice_get_read c.args.stores.now _ c.args.host.0 c.index-stores-host.result refl c.requires.within c.index-stores-host.is in
    let same : c.index-stores-host.result ≡ x = same_some c.index-stores-host.result x (sym stored ∙ at) in
    let all : take c.loop-path.path-index paths ≡ paths = ap (λ n. take n paths) (omega (arith, c.loop-path-test.false, c.loop-path.auto.path-index-end)) ∙ take-length paths in
    c.loop-path.invariant.added p (ap (list_any (path_eq p)) (all ∙ c.deref-path-items.ensures.value) ∙ c.in_ok-paths.ensures.here p ∙ ap (has p) same ∙ e)
