use Rattle.std.proofs.Common.{sym, subst}
use Rattle.eventwave.specs.Ends.{Change, Ends, change}
use Rattle.eventwave.proofs.EndLemmas.{ends_of}
use Rattle.eventwave.proofs.top.eventwave.Goals as goal

pub returns : goal.returns
returns g c =
    let input : Change = change (g.S.Source.faults c.args.input.now) (g.S.Source.faults c.respond_all-ending.new.input) (g.S.Source.left c.args.input.now) (g.S.Source.left c.respond_all-ending.new.input) in
    let out : Change = change (g.K.Sink.faults c.args.out.now) (g.K.Sink.faults c.respond_all-ending.new.out) (g.K.Sink.written c.args.out.now) (g.K.Sink.written c.respond_all-ending.new.out) in
    let notes : Change = change (g.N.Sink.faults c.args.notes.now) (g.N.Sink.faults c.finish.new.notes) (g.N.Sink.written c.args.notes.now) (g.N.Sink.written c.finish.new.notes) in
    subst (Ends c.args.words.now input out notes) (sym c.finish.ensures.status)
    (ends_of c.args.words.now input out notes c.respond_all-ending.result c.respond_all-ending.ensures c.finish.ensures.told)
