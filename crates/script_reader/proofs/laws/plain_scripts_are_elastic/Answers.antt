use Rattle.std.proofs.Common.{[], Ok, sym}
use Rattle.wave_text.specs.Lines.{lines_of}
use Rattle.script_reader.specs.Elastics.{plain_elastic}
use Rattle.script_reader.proofs.PlainLemmas.{read_plain}
use Rattle.script_reader.proofs.laws.plain_scripts_are_elastic.Goals as goal

pub returns : goal.returns
returns c = λ shape text script r s e. sym (e.only (Ok (plain_elastic script)) (read_plain shape [] (lines_of text) script s.read))
