use Rattle.std.proofs.Common.{◌≡◌, Option, None, Some}
use Rattle.wave_labels.specs.declared.label.Act.{Act}
use Rattle.wave_labels.specs.declared.label.Act.TheVariants.{Pass}
use Rattle.journal_text.specs.Fits.{HasPath, HasNumbers}
use Rattle.journal_text.specs.LabelTexts.{words_text}
use Rattle.journal_text.specs.inner.Verbs.{operands}
use Rattle.journal_text.proofs.PassLemmas.{only_pass, pass_words, pass_found}
use Rattle.journal_text.proofs.operands.pass_in.Goals as goal

pub returns-in_default-clause-only : goal.returns-in_default-clause-only
returns-in_default-clause-only c a v =
    only_pass a (λ (b : Act). HasPath c.args.classes.now b → HasNumbers b → c.args.text.now ≡ words_text (operands c.args.classes.now b) → ◌≡◌ {A = Option Act} None (Some b)) v
    (λ m p g hp h e.
    let words = pass_words c.args.classes.now c.requires.names c.args.text.now c.word_of.result.0.now c.word_of.result.1.now c.word_of-2.result.0.now c.word_of-2.result.1.now c.word_of-3.result.0.now c.word_of-3.result.1.now
    c.word_of.ensures c.word_of-2.ensures c.word_of-3.ensures m p g hp h.0 h.1 e in
    let found = c.mail_of.ensures m h.0 words.mail in
    cc (found, c.in_default.is))

pub returns-in_default-byte_of-clause-only : goal.returns-in_default-byte_of-clause-only
returns-in_default-byte_of-clause-only c a v =
    only_pass a (λ (b : Act). HasPath c.args.classes.now b → HasNumbers b → c.args.text.now ≡ words_text (operands c.args.classes.now b) → ◌≡◌ {A = Option Act} None (Some b)) v
    (λ m p g hp h e.
    let words = pass_words c.args.classes.now c.requires.names c.args.text.now c.word_of.result.0.now c.word_of.result.1.now c.word_of-2.result.0.now c.word_of-2.result.1.now c.word_of-3.result.0.now c.word_of-3.result.1.now
    c.word_of.ensures c.word_of-2.ensures c.word_of-3.ensures m p g hp h.0 h.1 e in
    let found = c.byte_of.ensures g.0 h.2 words.host in
    cc (found, c.in_default-byte_of.is))

pub returns-in-None-clause-only : goal.returns-in-None-clause-only
returns-in-None-clause-only c a v =
    only_pass a (λ (b : Act). HasPath c.args.classes.now b → HasNumbers b → c.args.text.now ≡ words_text (operands c.args.classes.now b) → ◌≡◌ {A = Option Act} None (Some b)) v
    (λ m p g hp h e.
    let words = pass_words c.args.classes.now c.requires.names c.args.text.now c.word_of.result.0.now c.word_of.result.1.now c.word_of-2.result.0.now c.word_of-2.result.1.now c.word_of-3.result.0.now c.word_of-3.result.1.now
    c.word_of.ensures c.word_of-2.ensures c.word_of-3.ensures m p g hp h.0 h.1 e in
    let found = c.in_ok-path.ensures.only p (record { path = hp; keys = h.1 }) words.path in
    cc (found, c.in-None.is))

pub returns-in-Some-2-clause-only : goal.returns-in-Some-2-clause-only
returns-in-Some-2-clause-only c a v =
    only_pass a (λ (b : Act). HasPath c.args.classes.now b → HasNumbers b → c.args.text.now ≡ words_text (operands c.args.classes.now b) → ◌≡◌ {A = Option Act} (Some (Pass c.in-Some.mail c.in-Some-2.path (record { 0 = c.in-Some-byte_of.host }))) (Some b)) v
    (λ m p g hp h e.
    let words = pass_words c.args.classes.now c.requires.names c.args.text.now c.word_of.result.0.now c.word_of.result.1.now c.word_of-2.result.0.now c.word_of-2.result.1.now c.word_of-3.result.0.now c.word_of-3.result.1.now
    c.word_of.ensures c.word_of-2.ensures c.word_of-3.ensures m p g hp h.0 h.1 e in
    let mail : c.in-Some.mail ≡ m = cc (c.mail_of.ensures m h.0 words.mail, c.in-Some.is) in
    let path : c.in-Some-2.path ≡ p = cc (c.in_ok-path.ensures.only p (record { path = hp; keys = h.1 }) words.path, c.in-Some-2.is) in
    let host : c.in-Some-byte_of.host ≡ g.0 = cc (c.byte_of.ensures g.0 h.2 words.host, c.in-Some-byte_of.is) in
    pass_found c.in-Some.mail m c.in-Some-2.path p (record { 0 = c.in-Some-byte_of.host }) g mail path (λ i. record { 0 = host i }))
