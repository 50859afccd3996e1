use Rattle.std.proofs.Common.{sym, subst}
use Rattle.eventwave.specs.Ends.{Change, Ends, change}
use Rattle.eventwave.proofs.EndLemmas.{ends_of}
use Rattle.eventwave.proofs.top.eventwave_alone.Goals as goal

pub returns-in-Done-clause-ends : goal.returns-in-Done-clause-ends
returns-in-Done-clause-ends g c =
    let input : Change = change (g.S.Source.faults c.args.input.now) (g.S.Source.faults c.respond.new.input) (g.S.Source.left c.args.input.now) (g.S.Source.left c.respond.new.input) in
    let out : Change = change (g.K.Sink.faults c.args.out.now) (g.K.Sink.faults c.respond.new.out) (g.K.Sink.written c.args.out.now) (g.K.Sink.written c.respond.new.out) in
    let notes : Change = change (g.N.Sink.faults c.args.notes.now) (g.N.Sink.faults c.finish.new.notes) (g.N.Sink.written c.args.notes.now) (g.N.Sink.written c.finish.new.notes) in
    subst (Ends c.args.words.now input out notes) (sym c.finish.ensures.status)
    (ends_of c.args.words.now input out notes c.in-Done.ending c.in-Done.ensures.did c.finish.ensures.told)
