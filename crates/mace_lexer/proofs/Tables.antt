-- What is written for a keyword or a sign is read as it.
use Rattle.std.proofs.Common.{◌≡◌, Some, refl}
use Rattle.mace_lexer.specs.declared.keyword.Keyword.{Keyword}
use Rattle.mace_lexer.specs.declared.keyword.Keyword.TheVariants as k
use Rattle.mace_lexer.specs.declared.sign.Sign.{Sign}
use Rattle.mace_lexer.specs.declared.sign.Sign.TheVariants as s
use Rattle.mace_lexer.specs.Words.{keyword, keyword_bytes, sign, sign_bytes}

pub keyword_again : (key : Keyword) → keyword (keyword_bytes key) ≡ Some key
unfolding keyword keyword_bytes
keyword_again k.Service = refl
keyword_again k.Context = refl
keyword_again k.Var = refl
keyword_again k.Method = refl
keyword_again k.Event = refl
keyword_again k.Here = refl
keyword_again k.Down = refl
keyword_again k.Reply = refl
keyword_again k.Let = refl
keyword_again k.If = refl
keyword_again k.Else = refl
keyword_again k.While = refl
keyword_again k.For = refl
keyword_again k.In = refl
keyword_again k.To = refl
keyword_again k.Require = refl
keyword_again k.Send = refl
keyword_again k.Spawn = refl
keyword_again k.Drop = refl
keyword_again k.Return = refl
keyword_again k.True = refl
keyword_again k.False = refl
keyword_again k.Empty = refl
keyword_again k.Int = refl
keyword_again k.Bool = refl
keyword_again k.Text = refl
keyword_again k.Map = refl

pub sign_again : (sign' : Sign) → sign (sign_bytes sign') ≡ Some sign'
unfolding sign sign_bytes
sign_again s.LeftBrace = refl
sign_again s.RightBrace = refl
sign_again s.LeftParen = refl
sign_again s.RightParen = refl
sign_again s.LeftBracket = refl
sign_again s.RightBracket = refl
sign_again s.Comma = refl
sign_again s.Semicolon = refl
sign_again s.Colon = refl
sign_again s.Dot = refl
sign_again s.Equals = refl
sign_again s.EqualsEquals = refl
sign_again s.BangEquals = refl
sign_again s.Less = refl
sign_again s.LessEquals = refl
sign_again s.Greater = refl
sign_again s.GreaterEquals = refl
sign_again s.Plus = refl
sign_again s.Minus = refl
sign_again s.Star = refl
sign_again s.Slash = refl
sign_again s.Percent = refl
sign_again s.AndAnd = refl
sign_again s.OrOr = refl
sign_again s.Bang = refl
