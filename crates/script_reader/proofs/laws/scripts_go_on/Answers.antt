use Rattle.std.proofs.Common.{Ok, sym}
use Rattle.script_reader.specs.Laws.{joint_script}
use Rattle.script_reader.proofs.JoinLemmas.{read_joined}
use Rattle.script_reader.proofs.laws.scripts_go_on.Goals as goal

pub returns : goal.returns
returns c = λ shape first second a b r h k m. sym (m.only (Ok (joint_script a b)) (read_joined shape first second a b h.read k.read))
