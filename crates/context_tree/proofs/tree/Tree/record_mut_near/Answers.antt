use borrow.Follows.Closed.{read_of}
use Rattle.std.proofs.Common.{◌≡◌, ◌<◌, ◌≤◌, true, false, List, length, Option, Some, None, MutBor, IsNone, IfSome, ◌↔◌, is_some, slice_get, map, refl, subst, sym, ap, ◌∙◌}
use Rattle.std.proofs.lemmas.Map.Entries.{lookup_from_place}
use Rattle.std.specs.Option.{ghost_name_of, option_copied_mut}
use Rattle.std.specs.Map.{lookup, keys_of}
use Rattle.indexmap.specs.IndexMap.{with_value_at}
use Rattle.indexmap.proofs.CallerLemmas.{updates-with_value_at, keys-with_value_at}
use Rattle.wave_base.specs.declared.path.Path.{Path}
use Rattle.wave_base.specs.declared.record.Record.{Record}
use Rattle.wave_base.specs.declared.shape.Shape.{Shape}
use Rattle.wave_base.specs.declared.value.Value.{Value}
use Rattle.wave_base.specs.Paths.{path_eq}
use Rattle.wave_base.specs.PathLaws.{path_eq_equiv}
use Rattle.wave_base.specs.Starts.{shown_fields}
use Rattle.wave_base.specs.Tree.{put}
use Rattle.context_tree.specs.Contexts.{Contexts, contexts_of, tree_of, is_there, with_fields}
use Rattle.context_tree.proofs.KeptLemmas.{shown_record, kept_with, put_fields}
use Rattle.context_tree.proofs.SlotLemmas.{entry_at, there_below, none_past}
use Rattle.context_tree.proofs.tree.Tree.record_mut_near.Goals as goal

-- what is lent is the same where the lender's last value is
same_lent : (o : Option (MutBor Record)) (f g : Record → Contexts) (x y : Contexts) → ((r : MutBor Record) → o ≡ Some r → (w : Record) → f w ≡ g w) → x ≡ y → read_of (ghost_name_of o) f x ≡ read_of (ghost_name_of o) g y
same_lent None f g x y h e = let o : Option (MutBor Record) = None in λ i. read_of (ghost_name_of o) g (e i)
same_lent (Some r) f g x y h e = λ i. read_of (ghost_name_of (Some r)) (λ w. h r refl w i) (e i)

if_found : (o : Option (MutBor Record)) (Q : MutBor Record → Type 0) → ((r : MutBor Record) → o ≡ Some r → Q r) → IfSome o Q
if_found None Q h = tt
if_found (Some r) Q h = h r refl

pub returns : goal.returns
returns c =
    let m = c.self.inside.contexts in
    let es = m.entries in
    let p = c.args.path.now in
    let o = c.get_index_mut.result in
    let place = c.place_near-place.result in
    let at : is_there (contexts_of es) p ≡ true → slice_get (keys_of es) place ≡ Some p = c.place_near-place.ensures.place in
    let past : is_there (contexts_of es) p ≡ false → length (keys_of es) ≤ place = c.place_near-place.ensures.past in
    let found = c.get_index_mut.ensures.found in
    let there : (r : MutBor Record) → o ≡ Some r → is_there (contexts_of es) p ≡ true = λ r e. there_below es p place at past (found.0 (ap is_some e)) in
    let entry : (r : MutBor Record) → o ≡ Some r → slice_get es place ≡ Some (p, r.now) =
    λ r e. entry_at es place p (at (there r e)) r.now (sym (ap option_copied_mut e) ∙ c.get_index_mut.ensures.value) in
    let written : (r : MutBor Record) → o ≡ Some r → (w : Record) → contexts_of (with_value_at m place w).entries ≡ with_fields c.args.self.now p w.fields =
    λ r e w. kept_with es (with_value_at m place w).entries p w (updates-with_value_at m place w path_eq_equiv c.get_index_mut.ensures.unique p r.now (entry r e)).0 (keys-with_value_at m place w)
    ∙ ap (λ t. with_fields t p w.fields) c.self.view_is in (
      same_lent o _ _ _ _ written c.self.view_is,
      record {
        writes_back = tt;
        none = subst (λ (t : Contexts). IsNone o ↔ (is_there t p ≡ false)) c.self.view_is (none_past es p place at past o found);
        some = λ shape. subst (λ (t : Contexts). IfSome o (λ r. r.now.fields ≡ shown_fields shape t.shots p)) c.self.view_is
            (if_found o (λ r. r.now.fields ≡ shown_fields shape (contexts_of es).shots p) (λ r e. sym (shown_record es p r.now (lookup_from_place path_eq_equiv es place p r.now c.get_index_mut.ensures.unique (entry r e)) shape)));
        put = λ shape fields. subst (λ (t : Contexts). is_there t p ≡ true → tree_of shape (with_fields t p fields) ≡ put (tree_of shape t) p fields) c.self.view_is (put_fields shape es p fields);
      },
    )
