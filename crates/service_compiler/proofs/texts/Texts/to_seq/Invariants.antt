use Rattle.std.proofs.Common.{◌≡◌, take}
use Rattle.service_compiler.specs.Kept.{texts_of}
use Rattle.service_compiler.proofs.texts.Texts.to_seq.Given as goal

abbrev pub invariant-loop-bytes : goal.invariant-loop-bytes
invariant-loop-bytes l = l.texts.items ≡ texts_of (take l.bytes-index l.bytes-items)
