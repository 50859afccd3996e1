use Rattle.std.proofs.Common.{◌≡◌, ◌∙◌, [], length, map, drop, ap, sym, subst}
use Rattle.wave_machine.specs.inner.Index.{Parted, by_none}
use Rattle.wave_machine.proofs.Parting.{dropped}
use Rattle.wave_machine.proofs.Relisted.{first_out, first_parted, high_first, low_first}
use Rattle.wave_machine.proofs.index.cut_admit.Goals as goal

pub returns-clause-parts : goal.returns-clause-parts
returns-clause-parts c = λ a b firsts inner was.
    let old = c.args.index.now.items in
    let low = low_first a [] b firsts tt inner in
    let rest = high_first a [] b firsts tt inner in
    let p : Parted (map by_none old) 1 0 0 low rest = first_parted a [] b firsts tt inner (map by_none old) was in
    let at : c.place-first.result ≡ length low = c.place-first.ensures.place low rest (subst (λ xs. Parted (map by_none xs) 1 0 0 low rest) (sym c.deref.ensures.value) p) in
    first_out a [] b firsts tt inner (map by_none c.cut_first.new.index.items)
    (ap (map by_none) c.cut_first.ensures.items ∙ ap (λ n. map by_none (drop n old)) at ∙ dropped by_none old low rest p.all)
