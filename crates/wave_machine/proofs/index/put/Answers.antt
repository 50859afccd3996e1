use Rattle.std.proofs.Common.{◌≡◌, ◌∙◌, length, map, ap, sym, subst}
use Rattle.std.specs.List.{insert}
use Rattle.wave_labels.specs.Labels.{act_of}
use Rattle.wave_states.specs.Labels.{ticket_of}
use Rattle.wave_theory.specs.Listed.{kind_rank}
use Rattle.wave_machine.specs.inner.Index.{Parted, by_none, act_number}
use Rattle.wave_machine.proofs.Parting.{done_by, put_in}
use Rattle.wave_machine.proofs.index.put.Goals as goal

pub returns-clause-parts : goal.returns-clause-parts
returns-clause-parts c = λ low high p.
    let old = c.args.index.now.items in
    let act = act_of c.args.ready.act in
    let at : c.place-at.result ≡ length low =
    c.place-at.ensures.place low high
    (subst (λ n. Parted (map by_none c.deref.result.now) n c.ticket_of-ticket.result.0 c.act_number-number.result low high) (sym c.kind_rank-kind.ensures)
    (subst (λ n. Parted (map by_none c.deref.result.now) (kind_rank act) n c.act_number-number.result low high) (sym c.ticket_of-ticket.ensures)
    (subst (λ n. Parted (map by_none c.deref.result.now) (kind_rank act) (ticket_of act) n low high) (sym c.act_number-number.ensures)
    (subst (λ xs. Parted (map by_none xs) (kind_rank act) (ticket_of act) (act_number act) low high) (sym c.deref.ensures.value) p)))) in
    ap (map by_none) (c.insert.ensures.items ∙ done_by c.insert.result (insert old c.place-at.result c.args.ready) old (c.insert.ensures.succeeds c.requires))
    ∙ put_in old (kind_rank act) (ticket_of act) (act_number act) c.place-at.result c.args.ready low high at p
