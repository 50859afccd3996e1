use Rattle.std.proofs.Common.{◌≡◌, ◌∙◌, ◌<◌, ◌+◌, ◌-◌, ◌&&◌, not, ℕ, Bool, true, false, List, Option, Some, length, map, drop, take, suc, ap, refl, sym, subst, add-one, arith}
use mir.Val.{bool_byte}
use Rattle.std.specs.Prelude.{filter_map, if◌then◌else◌, nat_eq, slice_get, All}
use Rattle.std.specs.List.Sorted.{IsStrictlySortedBy}
use Rattle.std.specs.declared.cmp.Ordering.TheVariants.{Less}
use Rattle.std.proofs.lemmas.List.{length-drop, length-map}
use Rattle.std.proofs.lemmas.List.Elements.{All-from_recursion}
use Rattle.std.proofs.lemmas.Option.{slice_get_read}
use Rattle.std.proofs.Math.Seq.{take-length}
use Rattle.wave_base.specs.declared.finished.Place.{Place}
use Rattle.wave_base.specs.declared.shot.Shot.{Shot}
use Rattle.wave_base.specs.Paths.{path_cmp}
use Rattle.context_queue.specs.declared.entry.Entry.{Entry}
use Rattle.context_queue.specs.Entries.{StandsFor}
use Rattle.wave_states.specs.Begins.{begin_of, entry_at_start, is_root}
use Rattle.wave_effects.specs.inner.Beginnings.{kid_of}
use Rattle.wave_effects.proofs.Begun.{entry_stands, sorted}
use Rattle.wave_effects.proofs.Placing.{behind_all, path_of, sorted_drop}
use Rattle.wave_effects.proofs.begin.entry_at_start.Goals as goal

-- the part behind the i-th
behind : {X : Type 0} (xs : List X) (i : ℕ) → take (length xs - (i + 1)) (drop (i + 1) xs) ≡ drop (suc i) xs
behind xs i = ap (λ n. take n (drop (i + 1) xs)) (sym (length-drop (i + 1) xs)) ∙ take-length (drop (i + 1) xs) ∙ ap (λ n. drop n xs) (add-one i)

pub children_at_start-requires-clause-above : goal.children_at_start-requires-clause-above
children_at_start-requires-clause-above c =
    let xs = c.as_slice-places.result.now in
    let places = c.as_slice-places.ensures in
    let x = c.index-places-i.result in
    let within : c.args.i < length xs = omega (arith, c.requires.within, ap length places) in
    let at : slice_get xs c.args.i ≡ Some x = slice_get_read xs _ c.args.i x refl within c.index-places-i.is in
    let order : IsStrictlySortedBy path_cmp (map path_of xs) = subst (λ ys. IsStrictlySortedBy path_cmp (map path_of ys)) (sym places) (sorted c.requires.begins.0 c.requires.begins.1 c.args.start.now c.requires.begins.2) in
    subst (All (λ (y : Place). path_cmp x.path y.path ≡ Less)) (sym (behind xs c.args.i)) (All-from_recursion (λ (y : Place). path_cmp x.path y.path ≡ Less) (drop (suc c.args.i) xs) (behind_all xs c.args.i x order at))

pub children_at_start-requires-clause-ordered : goal.children_at_start-requires-clause-ordered
children_at_start-requires-clause-ordered c =
    let xs = c.as_slice-places.result.now in
    let order : IsStrictlySortedBy path_cmp (map path_of xs) = subst (λ ys. IsStrictlySortedBy path_cmp (map path_of ys)) (sym c.as_slice-places.ensures) (sorted c.requires.begins.0 c.requires.begins.1 c.args.start.now c.requires.begins.2) in
    subst (λ ys. IsStrictlySortedBy path_cmp (map path_of ys)) (sym (behind xs c.args.i)) (sorted_drop xs (suc c.args.i) order)

byte_is : (b : Bool) → bool_byte b ≡ (if b then 1 else 0)
byte_is true = refl
byte_is false = refl

same_some : {X : Type 0} (a b : X) (o : Option X) → o ≡ Some a → o ≡ Some b → a ≡ b
same_some a b o e f = cc

pub returns : goal.returns
returns c = λ shape hosts place begins at.
    let start = c.args.start.now in
    let i = c.args.i in
    let xs = c.as_slice-places.result.now in
    let x = c.index-places-i.result in
    let shot = c.index-as_slice-i.result in
    let within : i < length xs = omega (arith, c.requires.within, ap length c.as_slice-places.ensures) in
    let here : slice_get start.places i ≡ Some x = ap (λ ys. slice_get ys i) (sym c.as_slice-places.ensures) ∙ slice_get_read xs _ i x refl within c.index-places-i.is in
    let many : length start.places ≡ length start.shots = sym (length-map start.places path_of) ∙ ap length begins.places ∙ length-map start.shots (λ (z : Shot). z.path) in
    let within' : i < length c.as_slice.result.now = omega (arith, c.requires.within, many, ap length c.as_slice.ensures) in
    let there : slice_get start.shots i ≡ Some shot = ap (λ ys. slice_get ys i) (sym c.as_slice.ensures) ∙ slice_get_read c.as_slice.result.now _ i shot refl within' c.index-as_slice-i.is in
    let children : c.in_ok-children.children ≡ filter_map (kid_of x.path) (drop (suc i) start.places) =
    c.in_ok-children.ensures ∙ ap (filter_map (kid_of x.path)) (behind xs i) ∙ ap (λ ys. filter_map (kid_of x.path) (drop (suc i) ys)) c.as_slice-places.ensures in
    let e : Entry = record {
      body = c.new-entry.result.body;
      holder = c.new-entry.result.holder;
      peeks = c.new-entry.result.peeks;
      served = c.served_before.result;
      waiting = c.new-entry.result.waiting;
      moves = c.from.result;
      either = c.new-entry.result.either;
    } in
    let fields : c.in_ok-fields.fields ≡ shot.fields = c.in_ok-fields.ensures ∙ ap (λ (z : Shot). z.fields) (sym c.index-as_slice-i.is) in
    let h : StandsFor e (entry_at_start (begin_of shape start) place.path) = subst (λ (z : Place). StandsFor e (entry_at_start (begin_of shape start) z.path)) (same_some x place (slice_get start.places i) here at)
    (entry_stands shape hosts start begins i x here e (record { fields = c.in_ok-fields.fields; children = c.in_ok-children.children }) shot there c.new-entry.ensures.body fields children c.new-entry.ensures.holder c.new-entry.ensures.peeks
    c.served_before.ensures c.new-entry.ensures.waiting (c.from.ensures ∙ ap bool_byte c.has_moved.ensures ∙ byte_is (is_root x.path && not (nat_eq x.host.0 0)))) in
    record { body = h.body; alone = h.alone; beside = h.beside; served = h.served; waiting = h.waiting; moves = h.moves }
