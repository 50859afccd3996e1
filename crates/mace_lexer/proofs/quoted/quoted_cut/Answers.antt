use Rattle.std.proofs.Common.{sym, ◌∙◌, ap, arith}
use Rattle.std.proofs.lemmas.List.{take_rest}
use Rattle.mace_lexer.specs.Texts.{inside_of}
use Rattle.mace_lexer.proofs.Found.{closed_text, long_text}
use Rattle.mace_lexer.proofs.quoted.quoted_cut.Goals as goal

pub returns-in-Close : goal.returns-in-Close
returns-in-Close c = closed_text c.args.text.now c.in_ok-bytes.n c.in_ok-bytes.bytes.items c.in_ok-bytes.ensures c.in_ok-text-in-Close.text (c.in_ok-text-in-Close.ensures ∙ c.as_slice.ensures.value) (ap inside_of (sym (take_rest c.args.text.now c.in_ok-bytes.n)) ∙ sym c.in-Close.ensures) (omega (arith, c.len.ensures, c.if-len-le-LITERAL_BYTES.true, c.in_ok-bytes.bytes.ok.0))

pub returns-in-Close-2 : goal.returns-in-Close-2
returns-in-Close-2 c = long_text c.args.text.now c.in_ok-bytes.n c.in_ok-bytes.bytes.items c.in_ok-bytes.ensures (ap inside_of (sym (take_rest c.args.text.now c.in_ok-bytes.n)) ∙ sym c.in-Close-2.ensures) (omega (arith, c.len.ensures, c.if-len-le-LITERAL_BYTES.false, c.in_ok-bytes.bytes.ok.0))
