use Rattle.std.proofs.Common.{[], subst}
use Rattle.wave_io.specs.Held.{Takes}
use Rattle.wave_io.proofs.HeldLemmas.{flushed_written, flushed_front, ok_by, err_by}
use Rattle.wave_io.proofs.held.HeldBytes.write_all.Goals as goal

pub returns-clause-ok : goal.returns-clause-ok
returns-clause-ok g c =
    let flushed =
    subst (λ h. Takes h c.flush.new.self (g.K.Sink.written c.args.sink.now) (g.K.Sink.written c.flush.new.sink) []) (c.hold.ensures.not_held c.if-hold.false) c.flush.ensures.bytes in
    let kept = c.hold-2.ensures.not_held c.if-hold-2.false in
    ok_by c.write_all.result (λ a. flushed_written _ _ _ _ _ _ _ flushed c.in_ok-flush.ensures.ok kept a) c.write_all.ensures.ok

pub returns-clause-err : goal.returns-clause-err
returns-clause-err g c =
    let flushed =
    subst (λ h. Takes h c.flush.new.self (g.K.Sink.written c.args.sink.now) (g.K.Sink.written c.flush.new.sink) []) (c.hold.ensures.not_held c.if-hold.false) c.flush.ensures.bytes in
    let kept = c.hold-2.ensures.not_held c.if-hold-2.false in
    err_by c.write_all.result (λ a. flushed_front _ _ _ _ _ _ _ flushed c.in_ok-flush.ensures.ok kept a) c.write_all.ensures.err
