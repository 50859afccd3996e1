-- A word of a hint is short.
use Rattle.std.proofs.Common.{◌≡◌, ℕ, ◌+◌, ◌≤◌, true, List, [], ◌∷◌, ◌++◌, length, refl, ap, arith, length-append}
use Rattle.std.specs.Prelude.{nat_le}
use Rattle.std.proofs.lemmas.Bool.Decides.{nat_tests}
use Rattle.mace_lexer.specs.declared.keyword.Keyword.{Keyword}
use Rattle.mace_lexer.specs.declared.sign.Sign.{Sign}
use Rattle.mace_lexer.specs.Words.{keyword_bytes, sign_bytes}
use Rattle.std.proofs.lemmas.Fmt.{decimal_digit}
use Rattle.mace_printer.specs.Layout.{layout, gap_of}
use Rattle.mace_hints.specs.declared.hint.Hint.{Hint}
use Rattle.mace_hints.specs.declared.hint.Hint.TheVariants as h
use Rattle.mace_hints.specs.Hints.{word_of}
use Rattle.mace_lexer.proofs.Tables.{keyword_again, sign_again}
use Rattle.mace_lexer.proofs.Forms.{keyword_passes, sign_passes}

key_short : (k : Keyword) → length (keyword_bytes k) ≤ 8
key_short k =
    let t : nat_le (length (keyword_bytes k)) 8 ≡ true = keyword_passes (λ bs. nat_le (length bs) 8) (keyword_bytes k) k refl (keyword_again k) in
    grind (arith, nat_tests)

sign_short : (j : Sign) → length (sign_bytes j) ≤ 8
sign_short j =
    let t : nat_le (length (sign_bytes j)) 8 ≡ true = sign_passes (λ bs. nat_le (length bs) 8) (sign_bytes j) j refl (sign_again j) in
    grind (arith, nat_tests)

line_short : (bs : List ℕ) (b : ℕ) → length bs ≤ 8 → length ((bs ++ b ∷ []) ++ []) ≤ 16
line_short bs b l = omega (arith, l, length-append (bs ++ b ∷ []) [], length-append bs (b ∷ []))

hint_short : (x : Hint) → length (layout (word_of x ∷ [])) ≤ 16
unfolding layout
hint_short h.Name = omega arith
hint_short h.Finish = omega arith
hint_short h.Number = rw (decimal_digit 1 (omega arith)) (omega arith)
hint_short h.Two = rw (decimal_digit 2 (omega arith)) (omega arith)
hint_short h.Text = omega arith
hint_short (h.Key j) = line_short (keyword_bytes j) 32 (key_short j)
hint_short (h.Sign j) = line_short (sign_bytes j) (gap_of j) (sign_short j)

pub front_short : (front text : List ℕ) (x : Hint) → text ≡ front ++ layout (word_of x ∷ []) → length front + 16 ≤ 67108864 → length text ≤ 67108864
front_short front text x e l = omega (arith, hint_short x, length-append front (layout (word_of x ∷ [])), ap length e, l)
