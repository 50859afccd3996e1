-- A text whose first line, its head, tells how many lines stand behind it.
use Rattle.std.specs.Prelude.{◌≡◌, ℕ, ◌+◌, ◌==◌, if◌then◌else◌, List, [], ◌∷◌, ◌++◌, count_by}
use Rattle.std.specs.Fmt.{decimal}

-- one where something stands behind the last line feed
abbrev pub left_over : List ℕ → ℕ
left_over [] = 0
left_over (b ∷ []) = if b == 10 then 0 else 1
left_over (b ∷ c ∷ bs) = left_over (c ∷ bs)

-- what stands behind the last line feed is a line too
abbrev pub line_count : List ℕ → ℕ
line_count text = count_by (λ b. b == 10) text + left_over text

-- a word, and how many lines this is
abbrev pub counted_lines : List ℕ → List ℕ → List ℕ
counted_lines word rest = (word ++ decimal (line_count rest)) ++ 10 ∷ rest

-- this stands behind a head of that word
pub record IsBehindHead (word text rest : List ℕ) : Type 0 where
  pub spelled : text ≡ counted_lines word rest
  pub only : (other : List ℕ) → text ≡ counted_lines word other → other ≡ rest

-- no head of that word begins the text
abbrev pub HasNoHead : List ℕ → List ℕ → Type 0
HasNoHead word text = (rest : List ℕ) → text ≡ counted_lines word rest → ⊥
