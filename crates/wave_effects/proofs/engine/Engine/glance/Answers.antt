use Rattle.std.proofs.Common.{◌≡◌, ◌∙◌, ◌-◌, ◌+◌, length, refl, sym, ap, subst, arith}
use Rattle.std.specs.Prelude.{slice_get, All}
use Rattle.wave_effects.specs.declared.glance.Glance.{Glance}
use Rattle.wave_effects.specs.Keeping.{kept_of}
use Rattle.wave_effects.specs.inner.Owned.{IsOwnPlace, IsSent}
use Rattle.wave_effects.proofs.Glancing.{Sizes, glances, sizes_of}
use Rattle.wave_effects.proofs.engine.Engine.glance.Goals as goal

pub overflow_cast-result : goal.overflow_cast-result
overflow_cast-result c =
    let r = c.requires in
    let sizes : Sizes (kept_of c.args.self.now) = sizes_of c.states_are_known.ensures c.heads_are_known.ensures (kept_of c.args.self.now) r.0 r.1 r.2 in
    omega (arith, c.len.ensures)

pub overflow_add-result : goal.overflow_add-result
overflow_add-result c =
    let r = c.requires in
    let sizes : Sizes (kept_of c.args.self.now) = sizes_of c.states_are_known.ensures c.heads_are_known.ensures (kept_of c.args.self.now) r.0 r.1 r.2 in
    omega (arith, c.len.ensures)

pub overflow_cast-result-2 : goal.overflow_cast-result-2
overflow_cast-result-2 c =
    let r = c.requires in
    let sizes : Sizes (kept_of c.args.self.now) = sizes_of c.states_are_known.ensures c.heads_are_known.ensures (kept_of c.args.self.now) r.0 r.1 r.2 in
    omega (arith, c.len-2.ensures)

pub overflow_add-result-2 : goal.overflow_add-result-2
overflow_add-result-2 c =
    let r = c.requires in
    let sizes : Sizes (kept_of c.args.self.now) = sizes_of c.states_are_known.ensures c.heads_are_known.ensures (kept_of c.args.self.now) r.0 r.1 r.2 in
    omega (arith, c.len-2.ensures)

pub returns : goal.returns
returns c = λ start s stands.
    let m = kept_of c.args.self.now in
    let owners = c.in_ok-owners.owners.items in
    let stores : c.deref.result.now ≡ m.stores = c.deref.ensures.value in
    let cells : c.deref-2.result.now ≡ m.cells = c.deref-2.ensures.value in
    let g : Glance = record { admitted = c.args.self.now.first - 1 + c.len.result; committed = c.args.self.now.first - 1 + c.len-2.result; owners = c.from_vec.result } in
    glances c.states_are_known.ensures m start s stands owners (λ host x p at e. c.in_ok-owners.ensures.stored host x p (ap (λ xs. slice_get xs host) stores ∙ at) e)
    (λ p h is. c.in_ok-owners.ensures.sent p h (subst (λ xs. IsSent xs p h) (sym cells) is)) g c.from_vec.ensures (omega (arith, c.len.ensures)) (omega (arith, c.len-2.ensures)) c.in_ok-owners.ensures.ordered
    (subst (λ xs. All (IsOwnPlace xs m.cells) owners) stores (subst (λ ys. All (IsOwnPlace c.deref.result.now ys) owners) cells c.in_ok-owners.ensures.owned))
