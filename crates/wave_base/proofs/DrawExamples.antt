-- What is drawn from 7, computed.
use Rattle.std.proofs.Common.{◌≡◌, refl}
use Rattle.wave_base.specs.Draws.{next_draw, draw_from, after}

behind_seven : next_draw 7 ≡ 9098160460397411210
behind_seven = refl

first_draw : draw_from 7 ≡ 1059165278
first_draw = refl

behind_two : after 2 7 ≡ next_draw 9098160460397411210
behind_two = refl
