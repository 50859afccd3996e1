-- The lines of a generated script: what is drawn for one, and how it is written.
use Rattle.std.specs.Prelude.{ℕ, ◌+◌, ◌%◌, ◌==◌, nat_lt, if◌then◌else◌, List, ◌++◌, codes}
use Rattle.std.specs.Fmt.{decimal}
use Rattle.wave_gen.specs.declared.line.Line.{Line}
use Rattle.wave_gen.specs.declared.line.Line.TheVariants.{Move, Pair, Settle, Buy}
use Rattle.wave_base.specs.Draws.{after, draw_from}

-- the first draw, of 20, chooses what line it is
abbrev pub choice : ℕ → ℕ
choice x = draw_from x % 20

-- a hall of 24, a host of 4, a stall of 25, and 1 to 9 of what is sold there
abbrev pub hall : ℕ → ℕ
hall x = draw_from x % 24

abbrev pub host : ℕ → ℕ
host x = draw_from x % 4

abbrev pub stall : ℕ → ℕ
stall x = draw_from x % 25

abbrev pub count : ℕ → ℕ
count x = draw_from x % 9 + 1

-- the line that is drawn from x: three of twenty are moves, one a pair, one ends the batch, and all others buy
abbrev pub line_from : ℕ → Line
line_from x =
    if nat_lt (choice x) 3 then Move (hall (after 1 x)) (host (after 2 x))
    else if choice x == 3 then Pair (hall (after 1 x))
    else if choice x == 4 then Settle
    else Buy (hall (after 1 x)) (stall (after 2 x)) (count (after 3 x))

-- how many draws it takes
abbrev pub draws_for : ℕ → ℕ
draws_for d = if nat_lt d 3 then 3 else if d == 3 then 2 else if d == 4 then 1 else 4

-- a line as it is written
abbrev pub line_text : Line → List ℕ
line_text (Move hall host) = codes "move /Hall[" ++ decimal hall ++ codes "] to " ++ decimal host ++ codes "\n"
line_text (Pair hall) = codes "request pair(" ++ decimal hall ++ codes ")\n"
line_text Settle = codes "settle\n"
line_text (Buy hall stall count) = codes "request buy(" ++ decimal hall ++ codes "," ++ decimal stall ++ codes "," ++ decimal count ++ codes ")\n"
