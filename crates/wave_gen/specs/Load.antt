-- The generated load of a number: a service, and a script whose lines are drawn one after the other.
use Rattle.std.specs.Prelude.{ℕ, zero, suc, List, [], ◌∷◌, ◌++◌, map, codes}
use Rattle.std.specs.List.{concat}
use Rattle.wave_base.specs.Draws.{after}
use Rattle.wave_gen.specs.Lines.{choice, draws_for, line_from, line_text}

-- a line of the service
abbrev pub with_end : List ℕ → List ℕ
with_end line = line ++ codes "\n"

-- the text of the service
unfoldable pub market : List ℕ
market = concat (map with_end (
    codes "service Market {"
    ∷ codes "  var seen: int = 0;"
    ∷ codes "  context Hall[int] {"
    ∷ codes "    var count: int = 0;"
    ∷ codes "    context Stall[int] {"
    ∷ codes "      var stock: int = 10;"
    ∷ codes "      method take(n: int): int { stock = stock - n; return stock; }"
    ∷ codes "    }"
    ∷ codes "    method both(a: int, b: int): int { return Stall[a].take(1) + Stall[b].take(1); }"
    ∷ codes "  }"
    ∷ codes "  event buy(h: int, s: int, n: int): int {"
    ∷ codes "    here { seen = seen + 1; }"
    ∷ codes "    down Hall[h] { count = count + n; }"
    ∷ codes "    down Stall[s] { let left = take(n); send \"till\", Hall.count; }"
    ∷ codes "    reply left;"
    ∷ codes "  }"
    ∷ codes "  event pair(h: int): int { down Hall[h] { let t = both(1, 2); } reply t; }"
    ∷ codes "  event same(h: int): int { down Hall[h] { let t = both(1, 1); } reply t; }"
    ∷ codes "}"
    ∷ []))

-- so many lines, drawn from x
unfoldable pub drawn_text : ℕ → ℕ → List ℕ
drawn_text zero x = []
drawn_text (suc k) x = line_text (line_from x) ++ drawn_text k (after (draws_for (choice x)) x)

-- the load of number n: 2,300 lines drawn from n, between the number of hosts and a snapshot
unfoldable pub load_text : ℕ → List ℕ
load_text n = market ++ codes "----\n" ++ codes "hosts 4\n" ++ drawn_text 2300 n ++ codes "snapshot\n"
