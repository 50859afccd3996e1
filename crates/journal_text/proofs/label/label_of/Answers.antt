use Rattle.std.proofs.Common.{◌≡◌}
use Rattle.journal_text.proofs.LabelLemmas.{label_parts, label_found}
use Rattle.journal_text.proofs.label.label_of.Goals as goal

pub returns-in_default-clause-only : goal.returns-in_default-clause-only
returns-in_default-clause-only c i l below h e =
    let words = label_parts c.args.classes.now c.args.line.now c.word_of.result.0.now c.word_of.result.1.now c.word_of-2.result.0.now c.word_of-2.result.1.now c.word_of-3.result.0.now c.word_of-3.result.1.now
    c.word_of.ensures c.word_of-2.ensures c.word_of-3.ensures i l below h e in
    let found = c.marked_byte.ensures 119 l.worker.0 h.worker words.worker in
    cc (found, c.in_default.is)

pub returns-in_default-marked_byte-clause-only : goal.returns-in_default-marked_byte-clause-only
returns-in_default-marked_byte-clause-only c i l below h e =
    let words = label_parts c.args.classes.now c.args.line.now c.word_of.result.0.now c.word_of.result.1.now c.word_of-2.result.0.now c.word_of-2.result.1.now c.word_of-3.result.0.now c.word_of-3.result.1.now
    c.word_of.ensures c.word_of-2.ensures c.word_of-3.ensures i l below h e in
    let found = c.marked_byte-2.ensures 104 l.host.0 h.host words.host in
    cc (found, c.in_default-marked_byte.is)

pub returns-in-None-clause-only : goal.returns-in-None-clause-only
returns-in-None-clause-only c i l below h e =
    let words = label_parts c.args.classes.now c.args.line.now c.word_of.result.0.now c.word_of.result.1.now c.word_of-2.result.0.now c.word_of-2.result.1.now c.word_of-3.result.0.now c.word_of-3.result.1.now
    c.word_of.ensures c.word_of-2.ensures c.word_of-3.ensures i l below h e in
    let found = c.in_ok-act.ensures.only l.act h.path h.numbers words.act in
    cc (found, c.in-None.is)

pub returns-in-Some-2-clause-only : goal.returns-in-Some-2-clause-only
returns-in-Some-2-clause-only c i l below h e =
    let words = label_parts c.args.classes.now c.args.line.now c.word_of.result.0.now c.word_of.result.1.now c.word_of-2.result.0.now c.word_of-2.result.1.now c.word_of-3.result.0.now c.word_of-3.result.1.now
    c.word_of.ensures c.word_of-2.ensures c.word_of-3.ensures i l below h e in
    let worker : c.in-Some.worker ≡ l.worker.0 = cc (c.marked_byte.ensures 119 l.worker.0 h.worker words.worker, c.in-Some.is) in
    let host : c.in-Some-marked_byte.host ≡ l.host.0 = cc (c.marked_byte-2.ensures 104 l.host.0 h.host words.host, c.in-Some-marked_byte.is) in
    let act : c.in-Some-2.act ≡ l.act = cc (c.in_ok-act.ensures.only l.act h.path h.numbers words.act, c.in-Some-2.is) in
    label_found c.in-Some.worker c.in-Some-marked_byte.host c.in-Some-2.act l worker host act
