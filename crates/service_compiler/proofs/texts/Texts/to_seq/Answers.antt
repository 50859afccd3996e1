use Rattle.std.proofs.Common.{sym, subst}
use Rattle.wave_base.specs.Text.{IsText}
use Rattle.service_compiler.specs.Kept.{AreTexts}
use Rattle.service_compiler.proofs.TextLemmas.{item_text}
use Rattle.service_compiler.proofs.texts.Texts.to_seq.Goals as goal

pub from_bytes-requires : goal.from_bytes-requires
from_bytes-requires c =
    subst IsText (sym c.as_slice.ensures.value)
    (item_text c.as_slice-bytes-items.result.now c.loop-bytes.bytes-index c.bytes-item.result (subst AreTexts (sym c.as_slice-bytes-items.ensures.keys) c.self.invariant) c.loop-bytes-test.true c.bytes-item.is)
