use Rattle.service_compiler.proofs.Drafts.{emits_then}
use Rattle.service_compiler.proofs.Notes.{on_ok}
use Rattle.service_compiler.proofs.loops.emit_test.Goals as goal

pub returns : goal.returns
returns c = on_ok _ _ c.put-3.result (λ g. emits_then c.in_ok-put.ensures (emits_then c.in_ok-put-2.ensures g)) c.put-3.ensures
