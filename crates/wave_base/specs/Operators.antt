-- The operators' names.
use Rattle.std.specs.Prelude.{ℕ, List, [], ◌∷◌, ◌++◌, codes, get_or}

-- of both versions of the language
abbrev pub first_names : List (List ℕ)
first_names =
    codes "add" ∷ codes "sub" ∷ codes "mul" ∷ codes "div" ∷ codes "rem" ∷ codes "neg" ∷ codes "not"
    ∷ codes "eq" ∷ codes "ne" ∷ codes "lt" ∷ codes "le" ∷ codes "gt" ∷ codes "ge"
    ∷ codes "beq" ∷ codes "bne" ∷ codes "teq" ∷ codes "tne" ∷ codes "tlt" ∷ codes "cat"
    ∷ codes "at" ∷ codes "put" ∷ codes "cut" ∷ codes "has" ∷ codes "size" ∷ codes "key"
    ∷ codes "len" ∷ codes "str" ∷ codes "part" ∷ []

-- of version 2 alone
abbrev pub later_names : List (List ℕ)
later_names = codes "min" ∷ codes "max" ∷ codes "abs" ∷ codes "sum" ∷ codes "starts" ∷ codes "num" ∷ []

-- row by row
abbrev pub operator_names : List (List ℕ)
operator_names = first_names ++ later_names

abbrev pub name_of_operator : ℕ → List ℕ
name_of_operator row = get_or operator_names row []
