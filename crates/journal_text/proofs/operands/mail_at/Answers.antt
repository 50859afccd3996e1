use Rattle.std.proofs.Common.{[], lit<}
use Rattle.path_text.specs.PathTexts.{path_text}
use Rattle.journal_text.specs.LabelTexts.{mail_text}
use Rattle.journal_text.proofs.SolidLemmas.{solid_has_none, mail_solid, path_solid}
use Rattle.journal_text.proofs.WordLemmas.{two_words, both_found}
use Rattle.journal_text.proofs.operands.mail_at.Goals as goal

pub returns-in_default-clause-only : goal.returns-in_default-clause-only
returns-in_default-clause-only c x p hx hp hk e =
    let words = two_words c.args.text.now c.word_of.result.0.now c.word_of.result.1.now c.word_of-2.result.0.now c.word_of-2.result.1.now c.word_of.ensures c.word_of-2.ensures
    (mail_text x) (path_text c.args.classes.now p) [] (solid_has_none 32 (lit< tt) (mail_text x) (mail_solid x hx)) (solid_has_none 32 (lit< tt) (path_text c.args.classes.now p) (path_solid c.args.classes.now c.requires.names p hp hk)) e in
    let found = c.mail_of.ensures x hx words.0 in
    cc (found, c.in_default.is)

pub returns-in-Some-2-clause-only : goal.returns-in-Some-2-clause-only
returns-in-Some-2-clause-only c x p hx hp hk e =
    let words = two_words c.args.text.now c.word_of.result.0.now c.word_of.result.1.now c.word_of-2.result.0.now c.word_of-2.result.1.now c.word_of.ensures c.word_of-2.ensures
    (mail_text x) (path_text c.args.classes.now p) [] (solid_has_none 32 (lit< tt) (mail_text x) (mail_solid x hx)) (solid_has_none 32 (lit< tt) (path_text c.args.classes.now p) (path_solid c.args.classes.now c.requires.names p hp hk)) e in
    both_found c.mail_of.result c.in_ok-path.field-0 c.in-Some.mail x c.in-Some-2.path p c.in-Some.is (c.mail_of.ensures x hx words.0) c.in-Some-2.is (c.in_ok-path.ensures.only p (record { path = hp; keys = hk }) words.2)

pub returns-in-None-clause-only : goal.returns-in-None-clause-only
returns-in-None-clause-only c x p hx hp hk e =
    let words = two_words c.args.text.now c.word_of.result.0.now c.word_of.result.1.now c.word_of-2.result.0.now c.word_of-2.result.1.now c.word_of.ensures c.word_of-2.ensures
    (mail_text x) (path_text c.args.classes.now p) [] (solid_has_none 32 (lit< tt) (mail_text x) (mail_solid x hx)) (solid_has_none 32 (lit< tt) (path_text c.args.classes.now p) (path_solid c.args.classes.now c.requires.names p hp hk)) e in
    let found = c.in_ok-path.ensures.only p (record { path = hp; keys = hk }) words.2 in
    cc (found, c.in-None.is)
