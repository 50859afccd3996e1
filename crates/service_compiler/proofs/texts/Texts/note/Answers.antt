use Rattle.std.proofs.Common.{sym, ap, ◌∙◌, subst}
use Rattle.wave_base.specs.Text.{IsText}
use Rattle.code_scheme.specs.Texts.{with_text}
use Rattle.service_compiler.specs.Kept.{texts_of, AreTexts}
use Rattle.service_compiler.proofs.TextLemmas.{noted_texts, texts_more}
use Rattle.service_compiler.proofs.texts.Texts.note.Goals as goal

pub returns-clause-noted : goal.returns-clause-noted
returns-clause-noted c =
    ap texts_of (c.in_ok-insert.ensures.keys) ∙ noted_texts c.self.inside.set.keys c.in_ok-bytes.bytes
    ∙ (λ i. with_text (c.self.view_is i) ((c.in_ok-bytes.ensures.items ∙ c.bytes.ensures.bytes) i))

pub invariant_of-self-2 : goal.invariant_of-self-2
invariant_of-self-2 c =
    subst AreTexts (sym c.in_ok-insert.ensures.keys)
    (texts_more c.self.inside.set.keys c.in_ok-bytes.bytes c.self.invariant (subst IsText (sym c.in_ok-bytes.ensures.items) c.bytes.ensures.text))
