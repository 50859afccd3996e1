-- The grammar of lists with commas.
use Rattle.std.specs.Prelude.{List, [], ◌∷◌, unwrap_or}
use Rattle.mace_lexer.specs.declared.sign.Sign.TheVariants as s
use Rattle.mace_grammar.specs.Part.{Part, pure, ◌>>=◌, ◌>>◌, many, maybe}
use Rattle.mace_grammar.specs.Words.{sign}

-- Item ("," Item)*
abbrev pub comma_list : {A : Type 0} → Part A → Part (List A)
comma_list item = do
  first ← item
  others ← many (sign s.Comma >> item)
  pure (first ∷ others)

-- "(" [Item ("," Item)*] ")"
abbrev pub in_parens : {A : Type 0} → Part A → Part (List A)
in_parens item = do
  sign s.LeftParen
  found ← maybe (comma_list item)
  sign s.RightParen
  pure (unwrap_or found [])
