use Rattle.std.proofs.Common.{rules, ◌≡◌, ℕ, Option, Some, None, IsSome, IfSome, is_some, true, refl, sym, ap, subst, ◌∙◌, List, get_or, slice_get}
use Rattle.std.specs.FinMap as table
use Rattle.std.specs.HashMap.{get_by, spare}
use Rattle.indexmap.specs.IndexMap.{keys, values}
use Rattle.context_queue.specs.declared.entry.Entry.{Entry}
use Rattle.wave_base.specs.declared.path.Path.{Path}
use Rattle.wave_base.specs.Paths.{path_eq}
use Rattle.host_map.specs.Stores.{with_entry}
use Rattle.host_map.proofs.StoreMaps.{get_is_lookup, written}
use Rattle.host_map.proofs.store.HostStore.entry_mut.Goals as goal

there_is : {A : Type 0} (o : Option A) → is_some o ≡ true → IsSome o
there_is None e = cc
there_is (Some x) e = search rules

looked_up : (c : goal.After-place_in) → table.get c.args.self.now.store c.args.path.now ≡ get_by (path_eq c.args.path.now) c.self.inside.store
looked_up c = ap (λ v. table.get v.store c.args.path.now) (sym c.self.view_is) ∙ get_is_lookup c.args.path.now c.self.inside.store.entries

pub unwrap-place-requires : goal.unwrap-place-requires
unwrap-place-requires c = there_is c.place_in.result (c.place_in.ensures.found ∙ ap is_some (sym (looked_up c)) ∙ c.requires)

value_at : (o : Option ℕ) (i : ℕ) (vs : ℕ → Option Entry) (v : Option Entry) → o ≡ Some i → IfSome o (λ j. vs j ≡ v) → vs i ≡ v
value_at o i vs v e h = subst (λ r. IfSome r (λ j. vs j ≡ v)) e h

key_at : (o : Option ℕ) (i : ℕ) (ks : List Path) (p : Path) → o ≡ Some i → IfSome o (λ j. get_or ks j p ≡ p) → get_or ks i p ≡ p
key_at o i ks p e h = subst (λ r. IfSome r (λ j. get_or ks j p ≡ p)) e h

pub returns : goal.returns
returns c =
    let key : get_or (keys c.self.inside.store) c.unwrap-place.result c.args.path.now ≡ c.args.path.now =
    key_at c.place_in.result c.unwrap-place.result (keys c.self.inside.store) c.args.path.now c.unwrap-place.ensures c.place_in.ensures.key in
    let there : get_by (path_eq c.args.path.now) c.self.inside.store ≡ Some c.index_mut.result.now =
    sym (value_at c.place_in.result c.unwrap-place.result (slice_get (values c.self.inside.store)) (get_by (path_eq c.args.path.now) c.self.inside.store) c.unwrap-place.ensures c.place_in.ensures.value) ∙ c.index_mut.ensures.value in (
      (
        refl,
        λ w. (λ i. record {
          store = written c.self.inside.store c.args.path.now c.unwrap-place.result c.index_mut.result.now c.place_in.ensures.unique key c.index_mut.ensures.value w i;
          gone = table.from_entries c.self.inside.gone.entries;
          path_room = spare c.self.inside.store;
          mark_room = spare c.self.inside.gone;
        }) ∙ ap (λ v. with_entry v c.args.path.now w) c.self.view_is,
      ),
      record { writes_back = tt; value = ap (λ v. table.get v.store c.args.path.now) (sym c.self.view_is) ∙ get_is_lookup c.args.path.now c.self.inside.store.entries ∙ there },
    )
