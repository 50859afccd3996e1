-- The stores while the contexts of a Start are placed.
use Rattle.std.proofs.Common.{◌≡◌, ◌∙◌, ◌⊎◌, inl, inr, ℕ, ◌&&◌, true, false, not, List, [], ◌∷◌, ◌++◌, length, Some, None, sym, ap, subst, cond}
use Rattle.std.specs.FinMap as table
use Rattle.std.specs.Prelude.{if◌then◌else◌, nat_eq, option_map, slice_get, slice_set}
use Rattle.wave_base.specs.declared.finished.Place.{Place}
use Rattle.wave_base.specs.declared.path.Path.{Path}
use Rattle.wave_base.specs.Paths.{path_cmp, path_eq}
use Rattle.context_queue.specs.declared.entry.Entry.{Entry}
use Rattle.context_queue.specs.Entries.{StandsFor}
use Rattle.host_map.specs.declared.store.Mark.{Mark}
use Rattle.host_map.specs.Stores.{Stores, IsAt, Matches, mark_of}
use Rattle.wave_states.specs.Begins.{is_root}
use Rattle.wave_states.specs.States.{Column, set}
use Rattle.wave_theory.proofs.Basics.{differ, number_self, set_at_path, set_twice_path}
use Rattle.code_actor.specs.CodeActors.{Fields}
use Rattle.wave_effects.specs.inner.Beginnings.{AreAt, first_column, no_column}
use Rattle.wave_effects.proofs.Parts.{each_store}
use Rattle.wave_effects.proofs.Pushing.{at_push}
use Rattle.wave_effects.proofs.StoreParts.{TheEntry, get_here, get_there}

-- a host without contexts
empty_at : (x : Stores) → x.store ≡ table.empty → x.gone ≡ table.empty → (p : Path) (h : ℕ) → IsAt x p no_column h
empty_at x s g p h = record {
  entry = subst (λ o. Matches o None) (sym (ap (λ m. table.get m p) s ∙ table.get-empty path_cmp p)) tt;
  mark = sym (ap (λ m. option_map mark_of (table.get m p)) g ∙ ap (option_map mark_of) (table.get-empty path_cmp p));
}

pub empty_pushed : (xs : List Stores) (x : Stores) → AreAt xs (λ p. no_column) → x.store ≡ table.empty → x.gone ≡ table.empty → AreAt (xs ++ x ∷ []) (λ p. no_column)
empty_pushed xs x all s g h y e p = by_place (at_push xs x h y e)
  where
    by_place : (slice_get xs h ≡ Some y) ⊎ ((h ≡ length xs) × (y ≡ x)) → IsAt y p no_column h
    by_place (inl old) = all h y old p
    by_place (inr new) = subst (λ z. IsAt z p no_column h) (sym new.1) (empty_at x s g p h)

-- an entry is put where nothing was, and the marks are as they were
pub record Puts (x x' : Stores) (p : Path) (e : Entry) : Type 0 where
  pub store : x'.store ≡ table.insert x.store p e
  pub gone : x'.gone ≡ x.gone

-- a mark is left where none was, and the entries are as they were
pub record Leaves (x x' : Stores) (p : Path) (mark : Mark) : Type 0 where
  pub store : x'.store ≡ x.store
  pub gone : x'.gone ≡ table.insert x.gone p mark

-- the column of a context at one host alone, without marks
abbrev pub alone_column : ℕ → TheEntry → Column Fields
alone_column g en = record { store = set nat_eq (λ h. None) g (Some en); gone = λ h. None }

abbrev pub moved_column : ℕ → TheEntry → Column Fields
moved_column g en = record { store = set nat_eq (λ h. None) g (Some en); gone = set nat_eq (λ h. None) 0 (Some (record { to = g; number = 1 })) }

module _ (xs : List Stores) (f : Path → Column Fields) (p : Path) (en : TheEntry) (all : AreAt xs f) where
  pub put_alone : (g : ℕ) (x x' : Stores) (e : Entry) → f p ≡ no_column → slice_get xs g ≡ Some x → Puts x x' p e → StandsFor e en → AreAt (slice_set xs g x') (set path_eq f p (alone_column g en))
  put_alone g x x' e none there puts stands =
      each_store xs f g x' p (alone_column g en) all
      (record {
        entry = subst (λ o. Matches o (set nat_eq (λ h. None) g (Some en) g)) (sym (ap (λ m. table.get m p) puts.store ∙ get_here x.store p e)) (subst (Matches (Some e)) (ap (λ b. cond b (Some en) None) (sym (number_self g))) stands);
        mark = ap (λ (c : Column Fields). c.gone g) (sym none) ∙ (all g x there p).mark ∙ ap (λ m. option_map mark_of (table.get m p)) (sym puts.gone);
      })
      (λ q n. record {
        entry = subst (λ o. Matches o ((f q).store g)) (sym (ap (λ m. table.get m q) puts.store ∙ get_there x.store p e q n)) (all g x there q).entry;
        mark = (all g x there q).mark ∙ ap (λ m. option_map mark_of (table.get m q)) (sym puts.gone);
      })
      (λ h n. (ap (λ (c : Column Fields). c.store h) none ∙ ap (λ b. cond b (Some en) None) (sym (differ g h (λ k. n (sym k)))), ap (λ (c : Column Fields). c.gone h) none))

  pub put_moved : (g : ℕ) (y y' : Stores) (mark : Mark) → f p ≡ alone_column g en → slice_get xs 0 ≡ Some y → Leaves y y' p mark → mark_of mark ≡ record { to = g; number = 1 } → AreAt (slice_set xs 0 y') (set path_eq f p (moved_column g en))
  put_moved g y y' mark alone there leaves says =
      each_store xs f 0 y' p (moved_column g en) all
      (record {
        entry = subst (λ o. Matches o (set nat_eq (λ h. None) g (Some en) 0)) (ap (λ m. table.get m p) (sym leaves.store)) (subst (λ (c : Column Fields). Matches (table.get y.store p) (c.store 0)) alone (all 0 y there p).entry);
        mark = ap Some (sym says) ∙ sym (ap (λ m. option_map mark_of (table.get m p)) leaves.gone ∙ ap (option_map mark_of) (mark_here y.gone p mark));
      })
      (λ q n. record {
        entry = subst (λ o. Matches o ((f q).store 0)) (ap (λ m. table.get m q) (sym leaves.store)) (all 0 y there q).entry;
        mark = (all 0 y there q).mark ∙ sym (ap (λ m. option_map mark_of (table.get m q)) leaves.gone ∙ ap (option_map mark_of) (get_there y.gone p mark q n));
      })
      (λ h n. (ap (λ (c : Column Fields). c.store h) alone, ap (λ (c : Column Fields). c.gone h) alone ∙ ap (λ b. cond b (Some (record { to = g; number = 1 })) None) (sym (differ 0 h (λ k. n (sym k))))))
    where
      mark_here : (m : table.FinMap path_cmp Mark) (q : Path) (v : Mark) → table.get (table.insert m q v) q ≡ Some v
      mark_here m q v = get_here m q v

-- a context that was nowhere begins at its place
module _ (xs : List Stores) (f : Path → Column Fields) (place : Place) (en : TheEntry) (all : AreAt xs f) (none : f place.path ≡ no_column) where
  pub placed_here : (x x' : Stores) (e : Entry) → (is_root place.path && not (nat_eq place.host.0 0)) ≡ false → slice_get xs place.host.0 ≡ Some x → Puts x x' place.path e → StandsFor e en
      → AreAt (slice_set xs place.host.0 x') (set path_eq f place.path (first_column place en))
  placed_here x x' e stays there puts stands =
      subst (λ b. AreAt (slice_set xs place.host.0 x') (set path_eq f place.path (record { store = set nat_eq (λ h. None) place.host.0 (Some en); gone = if b then set nat_eq (λ h. None) 0 (Some (record { to = place.host.0; number = 1 })) else (λ h. None) }))) (sym stays)
      (put_alone xs f place.path en all place.host.0 x x' e none there puts stands)

  pub placed_moved : (x x' y y' : Stores) (e : Entry) (mark : Mark) → (is_root place.path && not (nat_eq place.host.0 0)) ≡ true → slice_get xs place.host.0 ≡ Some x → Puts x x' place.path e → StandsFor e en
      → slice_get (slice_set xs place.host.0 x') 0 ≡ Some y → Leaves y y' place.path mark → mark_of mark ≡ record { to = place.host.0; number = 1 } → AreAt (slice_set (slice_set xs place.host.0 x') 0 y') (set path_eq f place.path (first_column place en))
  placed_moved x x' y y' e mark moves there puts stands first leaves says =
      let g = place.host.0 in
      let p = place.path in
      let ys = slice_set xs g x' in
      let half : AreAt ys (set path_eq f p (alone_column g en)) = put_alone xs f p en all g x x' e none there puts stands in
      let whole : AreAt (slice_set ys 0 y') (set path_eq (set path_eq f p (alone_column g en)) p (moved_column g en)) =
      put_moved ys (set path_eq f p (alone_column g en)) p en half g y y' mark (set_at_path f p (alone_column g en)) first leaves says in
      subst (λ b. AreAt (slice_set ys 0 y') (set path_eq f p (record { store = set nat_eq (λ h. None) g (Some en); gone = if b then set nat_eq (λ h. None) 0 (Some (record { to = g; number = 1 })) else (λ h. None) }))) (sym moves)
      (subst (AreAt (slice_set ys 0 y')) (set_twice_path f p (alone_column g en) (moved_column g en)) whole)
