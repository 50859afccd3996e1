-- What is drawn from 7, computed.
use Rattle.std.proofs.Common.{◌≡◌, refl}
use Rattle.wave_gen.specs.declared.line.Line.TheVariants.{Buy}
use Rattle.wave_base.specs.Draws.{after}
use Rattle.wave_gen.specs.Lines.{choice, line_from}

first_choice : choice 7 ≡ 18
first_choice = refl

first_line : line_from 7 ≡ Buy 23 3 6
first_line = refl

second_line : line_from (after 4 7) ≡ Buy 11 14 1
second_line = refl
