use Rattle.std.proofs.Common.{◌≡◌, ◌∙◌, ◌<◌, ◌≤◌, length, get_or, take, refl, sym, ap, subst, arith}
use Rattle.std.proofs.lemmas.List.{take_all, take_more}
use Rattle.wave_machine.specs.inner.Index.{CutsKind, kinds_at}
use Rattle.wave_machine.proofs.Relisted.{Outs, kind_few, outs_first, outs_last, outs_more}
use Rattle.wave_machine.proofs.index.cut_each.Goals as goal

pub loop-kind-init : goal.loop-kind-init
loop-kind-init c = record { outs = outs_first c.args.ticket.0 c.args.number c.args.index.now.items; len = omega arith; capacity = refl }

pub loop-kind-preserved : goal.loop-kind-preserved
loop-kind-preserved c =
    let t = c.args.ticket.0 in
    let k = c.args.number in
    let i = c.loop-kind.kind-index in
    let kinds = kinds_at k in
    let are = c.kinds_at-kind-items.ensures in
    let kind = get_or kinds i 0 in
    let old = c.args.index.now.items in
    let mid = c.loop-kind.index.items in
    let new = c.cut_kind.new.index.items in
    let within : i < length kinds = subst (λ xs. i < length xs) are c.loop-kind-test.true in
    let read : get_or c.kinds_at-kind-items.result.now i 0 ≡ kind = ap (λ xs. get_or xs i 0) are in
    let few = kind_few k i within in
    let cuts : CutsKind kind t k mid new = subst (λ n. CutsKind n t k mid new) read (c.cut_kind.ensures.cuts (subst (λ n. 1 ≤ n) (sym read) few.0) (subst (λ n. n ≤ 8) (sym read) few.1)) in
    record {
      outs = subst (λ ks. Outs ks t k old new) (sym (take_more kinds i 0 within)) (outs_more (take i kinds) kind t k old mid new c.loop-kind.invariant.outs cuts);
      len = omega (arith, c.cut_kind.ensures.len, c.loop-kind.invariant.len);
      capacity = c.cut_kind.ensures.capacity ∙ c.loop-kind.invariant.capacity;
    }

pub returns-clause-cuts : goal.returns-clause-cuts
returns-clause-cuts c =
    let t = c.args.ticket.0 in
    let k = c.args.number in
    let old = c.args.index.now.items in
    let new = c.loop-kind.index.items in
    let all : length (kinds_at k) ≤ c.loop-kind.kind-index = subst (λ xs. length xs ≤ c.loop-kind.kind-index) c.kinds_at-kind-items.ensures c.loop-kind-test.false in
    outs_last t k old new (subst (λ ks. Outs ks t k old new) (take_all c.loop-kind.kind-index (kinds_at k) all) c.loop-kind.invariant.outs)
