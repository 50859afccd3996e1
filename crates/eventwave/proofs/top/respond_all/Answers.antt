use Rattle.std.proofs.Common.{◌≡◌, ◌∙◌, ap, subst, true}
use Rattle.eventwave.specs.Ends.{change, crewed_by, crewed_where}
use Rattle.eventwave.specs.inner.Parts.{Did}
use Rattle.eventwave.proofs.top.respond_all.Goals as goal

pub returns-in-Crewed : goal.returns-in-Crewed
returns-in-Crewed g c =
    let words = c.args.words.now in
    let input = c.perform_together.new.input in
    let out = c.perform_together.new.out in
    let e = c.perform_together.result in
    let asked = c.in-Crewed.ensures.did in
    let crewed : crewed_by words ≡ true = ap crewed_where asked.0 ∙ asked.1 in
    let did = c.perform_together.ensures words asked.0 in
    subst (λ x. Did words (change (g.S.Source.faults x) (g.S.Source.faults input) (g.S.Source.left x) (g.S.Source.left input)) (change (g.K.Sink.faults c.args.out.now) (g.K.Sink.faults out) (g.K.Sink.written c.args.out.now) (g.K.Sink.written out)) e)
    (c.respond.ensures.unread crewed)
    (subst (λ y. Did words (change (g.S.Source.faults c.respond.new.input) (g.S.Source.faults input) (g.S.Source.left c.respond.new.input) (g.S.Source.left input)) (change (g.K.Sink.faults y) (g.K.Sink.faults out) (g.K.Sink.written y) (g.K.Sink.written out)) e)
    (c.respond.ensures.unwritten crewed) did)
