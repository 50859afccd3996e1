use Rattle.std.proofs.Common.{sym, ◌∙◌}
use Rattle.mace_lexer.proofs.Found.{long_name, keyword_name, plain_name, name_text}
use Rattle.mace_lexer.proofs.cut.name.Goals as goal

pub returns-then-n-gt-NAME_BYTES : goal.returns-then-n-gt-NAME_BYTES
returns-then-n-gt-NAME_BYTES c = long_name c.args.text.now c.run-n.result c.requires.some c.requires.form c.run-n.ensures.value c.if-n-gt-NAME_BYTES.true

pub from_bytes-requires : goal.from_bytes-requires
from_bytes-requires c = name_text c.args.text.now c.run-n.result c.requires.some c.requires.form c.run-n.ensures.value c.if-n-gt-NAME_BYTES.false

pub returns-in-Some : goal.returns-in-Some
returns-in-Some c = keyword_name c.args.text.now c.run-n.result c.requires.some c.requires.form c.run-n.ensures.value c.in-Some.k (sym c.keyword.ensures ∙ c.in-Some.is)

pub returns-in_ok-from_bytes-in-None : goal.returns-in_ok-from_bytes-in-None
returns-in_ok-from_bytes-in-None c = plain_name c.args.text.now c.run-n.result c.requires.some c.requires.form c.run-n.ensures.value c.in_ok-from_bytes-in-None.field-0 c.in_ok-from_bytes-in-None.ensures c.if-n-gt-NAME_BYTES.false (sym c.keyword.ensures ∙ c.in-None.is)
