use Rattle.std.proofs.Common.{◌≡◌, ◌∙◌, ◌<◌, ◌++◌, length, map, sym, ap, subst}
use Rattle.std.specs.Prelude.{slice_get}
use Rattle.wave_machine.specs.inner.Index.{Parted, by_none, is_of}
use Rattle.wave_machine.proofs.Parting.{cut_hit, cut_miss, hit_some, is_within}
use Rattle.wave_machine.proofs.Relisted.{cuts_kind, cuts_slot}
use Rattle.wave_machine.proofs.index.cut_kind.Goals as goal

pub remove-requires : goal.remove-requires
remove-requires c =
    subst (λ n. c.place-at.result < n) c.deref-2.ensures.len
    (is_within c.args.kind c.args.ticket.0 c.args.number c.deref-2.result.now c.place-at.result (sym c.is_at.ensures ∙ c.if-is_at.true))

pub returns-then-is_at-clause-cuts : goal.returns-then-is_at-clause-cuts
returns-then-is_at-clause-cuts c = λ above under.
    let old = c.args.index.now.items in
    let kind = c.args.kind in
    let t = c.args.ticket.0 in
    let k = c.args.number in
    cuts_kind kind t k above under old c.remove.new.self.items (λ low own high p few yes no.
    let at : c.place-at.result ≡ length low = c.place-at.ensures.place low (own ++ high) (subst (λ xs. Parted (map by_none xs) kind t k low (own ++ high)) (sym c.deref.ensures.value) p) in
    ap (map by_none) c.remove.ensures.by_index.2
    ∙ cut_hit kind t k old c.place-at.result low own high at p.all few no
    (ap (λ xs. is_of kind t k (slice_get xs c.place-at.result)) (sym c.deref-2.ensures.value) ∙ sym c.is_at.ensures ∙ c.if-is_at.true))

pub returns-else-is_at-clause-cuts : goal.returns-else-is_at-clause-cuts
returns-else-is_at-clause-cuts c = λ above under.
    let old = c.args.index.now.items in
    let kind = c.args.kind in
    let t = c.args.ticket.0 in
    let k = c.args.number in
    cuts_kind kind t k above under old old (λ low own high p few yes no.
    let at : c.place-at.result ≡ length low = c.place-at.ensures.place low (own ++ high) (subst (λ xs. Parted (map by_none xs) kind t k low (own ++ high)) (sym c.deref.ensures.value) p) in
    cut_miss kind t k old c.place-at.result low own high at p.all yes
    (ap (λ xs. is_of kind t k (slice_get xs c.place-at.result)) (sym c.deref-2.ensures.value) ∙ sym c.is_at.ensures ∙ c.if-is_at.false))

pub returns-then-is_at-clause-found : goal.returns-then-is_at-clause-found
returns-then-is_at-clause-found c = λ yes above under.
    let old = c.args.index.now.items in
    let kind = c.args.kind in
    let t = c.args.ticket.0 in
    let k = c.args.number in
    cuts_slot kind t k above under old c.remove.new.self.items (returns-then-is_at-clause-cuts c above under) (λ low own high p none.
    let at : c.place-at.result ≡ length low = c.place-at.ensures.place low (own ++ high) (subst (λ xs. Parted (map by_none xs) kind t k low (own ++ high)) (sym c.deref.ensures.value) p) in
    hit_some kind t k old c.place-at.result low own high at p.all none
    (ap (λ xs. is_of kind t k (slice_get xs c.place-at.result)) (sym c.deref-2.ensures.value) ∙ sym c.is_at.ensures ∙ c.if-is_at.true))
