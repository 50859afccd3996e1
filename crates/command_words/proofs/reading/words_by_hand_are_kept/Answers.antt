use Rattle.std.proofs.Common.{refl}
use Rattle.clap.proofs.OnLiterals.{clap_on_literals}
use Rattle.command_words.specs.Reading.{command_line, command_of}
use Rattle.command_words.proofs.reading.words_by_hand_are_kept.Goals as goal

pub returns : goal.returns
unfolding command_of command_line clap_on_literals
returns c = (refl, (refl, (refl, (refl, (refl, (refl, (refl, tt)))))))
