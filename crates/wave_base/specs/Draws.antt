-- Numbers that are drawn, each from what stands before it.
use Rattle.std.specs.Prelude.{ℕ, ◌+◌, ◌*◌, ◌/◌, ◌%◌, ◌^◌, zero, suc}

-- what stands behind a draw from x
abbrev pub next_draw : ℕ → ℕ
next_draw x = (6364136223846793005 * x + 1442695040888963407) % 2 ^ 64

-- the number that a draw from x gives
abbrev pub draw_from : ℕ → ℕ
draw_from x = next_draw x / 2 ^ 33

-- what stands behind so many draws from x
abbrev pub after : ℕ → ℕ → ℕ
after zero x = x
after (suc k) x = after k (next_draw x)
