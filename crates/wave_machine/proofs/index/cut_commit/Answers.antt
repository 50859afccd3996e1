use Rattle.std.proofs.Common.{◌≡◌, ◌∙◌, length, map, take, ap, sym, subst, append-nil}
use Rattle.wave_machine.specs.inner.Index.{Parted, by_none}
use Rattle.wave_machine.proofs.Parting.{taken}
use Rattle.wave_machine.proofs.Relisted.{last_out, last_parted, low_last, own_last}
use Rattle.wave_machine.proofs.index.cut_commit.Goals as goal

pub returns-clause-parts : goal.returns-clause-parts
returns-clause-parts c = λ a d b firsts lasts inner was.
    let old = c.args.index.now.items in
    let mid = c.truncate.new.self.items in
    let low = low_last a d b firsts lasts inner in
    let own = own_last a d b firsts lasts inner in
    let p : Parted (map by_none old) 9 0 0 low own = last_parted a d b firsts lasts inner (map by_none old) was in
    let at : c.first_commit-last.result ≡ length low = c.first_commit-last.ensures.place low own (subst (λ xs. Parted (map by_none xs) 9 0 0 low own) (sym c.deref.ensures.value) p) in
    last_out a d b firsts lasts inner (map by_none mid)
    (ap (map by_none) c.truncate.ensures.items ∙ ap (λ n. map by_none (take n old)) at ∙ taken by_none old low own p.all ∙ sym (append-nil low))
