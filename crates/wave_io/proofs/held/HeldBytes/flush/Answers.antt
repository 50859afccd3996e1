use Rattle.std.proofs.Common.{◌≡◌, ◌+◌, [], take, drop, subst}
use Rattle.std.proofs.lemmas.List.{take_rest}
use Rattle.std.specs.Io.KnownBytes.{Appends}
use Rattle.wave_io.specs.Held.{Takes}
use Rattle.wave_io.proofs.HeldLemmas.{takes_some}
use Rattle.wave_io.proofs.held.HeldBytes.flush.Goals as goal

pub returns-in-Err-clause-bytes : goal.returns-in-Err-clause-bytes
returns-in-Err-clause-bytes g c =
    let items = c.self.inside.bytes.items in
    let sent = c.self.inside.sent in
    let n = c.in-Err.n in
    let old = g.K.Sink.written c.args.sink.now in
    let new = g.K.Sink.written c.write_front.new.sink in
    let same : c.as_slice.result.now ≡ items = cc (c.as_slice.ensures.value) in
    let front = subst (λ z. Appends old new (take n (drop sent z))) same (rw take_rest at c.in-Err.ensures.err) in
    subst (λ h. Takes h (drop (sent + n) items) old new []) c.self.view_is (takes_some items sent n old new front)
