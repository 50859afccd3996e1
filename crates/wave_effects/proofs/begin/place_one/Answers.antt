use Rattle.std.proofs.Common.{◌≡◌, ◌∙◌, ◌<◌, length, ap, refl, sym, Some, arith}
use Rattle.std.specs.FinMap as table
use Rattle.std.specs.Prelude.{slice_get, slice_set}
use Rattle.std.proofs.lemmas.List.{length-set}
use Rattle.std.proofs.lemmas.Option.{slice_get_read}
use Rattle.wave_effects.proofs.Stocking.{Leaves, Puts, placed_here, placed_moved}
use Rattle.wave_effects.proofs.begin.place_one.Goals as goal

pub returns-in_ok-reserve-2-clause-placed : goal.returns-in_ok-reserve-2-clause-placed
returns-in_ok-reserve-2-clause-placed c = λ f en all none stands.
    let xs = c.args.stores.now.items in
    let g = c.args.place.host.0 in
    let x = c.index_mut-store.result.now in
    let there : slice_get xs g ≡ Some x = slice_get_read xs _ g x refl c.requires.host c.index_mut-store.ensures.value in
    let puts : Puts x c.birth.new.self c.args.place.path c.args.entry = record {
      store = c.birth.ensures.store ∙ ap (λ m. table.insert m c.args.place.path c.args.entry) c.reserve.ensures.store;
      gone = c.birth.ensures.gone ∙ c.reserve.ensures.gone;
    } in
    let ys = slice_set xs g c.birth.new.self in
    let y = c.index_mut-first.result.now in
    let within : 0 < length ys = omega (arith, length-set xs g c.birth.new.self, c.requires.host) in
    let first : slice_get ys 0 ≡ Some y = slice_get_read ys _ 0 y refl within c.index_mut-first.ensures.value in
    let leaves : Leaves y c.mark.new.self c.args.place.path (record { to = c.args.place.host; number = 1 }) = record {
      store = c.mark.ensures.store ∙ c.reserve-then-has_moved.ensures.store;
      gone = c.mark.ensures.gone ∙ ap (λ m. table.insert m c.args.place.path (record { to = c.args.place.host; number = 1 })) c.reserve-then-has_moved.ensures.gone;
    } in
    placed_moved xs f c.args.place en all none x c.birth.new.self y c.mark.new.self c.args.entry (record { to = c.args.place.host; number = 1 }) (sym c.has_moved.ensures ∙ c.if-has_moved.true) there puts stands first leaves refl

pub returns-else-has_moved-clause-placed : goal.returns-else-has_moved-clause-placed
returns-else-has_moved-clause-placed c = λ f en all none stands.
    let xs = c.args.stores.now.items in
    let g = c.args.place.host.0 in
    let x = c.index_mut-store.result.now in
    let there : slice_get xs g ≡ Some x = slice_get_read xs _ g x refl c.requires.host c.index_mut-store.ensures.value in
    let puts : Puts x c.birth.new.self c.args.place.path c.args.entry = record {
      store = c.birth.ensures.store ∙ ap (λ m. table.insert m c.args.place.path c.args.entry) c.reserve.ensures.store;
      gone = c.birth.ensures.gone ∙ c.reserve.ensures.gone;
    } in
    placed_here xs f c.args.place en all none x c.birth.new.self c.args.entry (sym c.has_moved.ensures ∙ c.if-has_moved.false) there puts stands
