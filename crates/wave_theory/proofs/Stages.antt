-- No stage is another one.
use Rattle.std.proofs.Common.{◌≡◌, arith}
use Rattle.wave_theory.proofs.Order.{Entering, Lined, Coming, There, Done}

pub entering_lined : Entering ≡ Lined → ⊥
entering_lined e = grind arith

pub entering_coming : Entering ≡ Coming → ⊥
entering_coming e = grind arith

pub entering_there : Entering ≡ There → ⊥
entering_there e = grind arith

pub entering_done : Entering ≡ Done → ⊥
entering_done e = grind arith

pub lined_entering : Lined ≡ Entering → ⊥
lined_entering e = grind arith

pub lined_coming : Lined ≡ Coming → ⊥
lined_coming e = grind arith

pub lined_there : Lined ≡ There → ⊥
lined_there e = grind arith

pub lined_done : Lined ≡ Done → ⊥
lined_done e = grind arith

pub coming_entering : Coming ≡ Entering → ⊥
coming_entering e = grind arith

pub coming_lined : Coming ≡ Lined → ⊥
coming_lined e = grind arith

pub coming_there : Coming ≡ There → ⊥
coming_there e = grind arith

pub coming_done : Coming ≡ Done → ⊥
coming_done e = grind arith

pub there_entering : There ≡ Entering → ⊥
there_entering e = grind arith

pub there_lined : There ≡ Lined → ⊥
there_lined e = grind arith

pub there_coming : There ≡ Coming → ⊥
there_coming e = grind arith

pub there_done : There ≡ Done → ⊥
there_done e = grind arith

pub done_entering : Done ≡ Entering → ⊥
done_entering e = grind arith

pub done_lined : Done ≡ Lined → ⊥
done_lined e = grind arith

pub done_coming : Done ≡ Coming → ⊥
done_coming e = grind arith
