use Rattle.wave_text.proofs.ReadBack.{whole_again}
use Rattle.wave_text.proofs.numbers.written_numbers_are_read.Goals as goal

pub returns : goal.returns
returns c = record { form = λ z h. (whole_again z h).0; same = λ z h. (whole_again z h).1; short = λ z h. (whole_again z h).2 }
