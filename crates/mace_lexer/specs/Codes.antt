-- The place of each keyword and each sign in its list.
use Rattle.std.specs.Prelude.{ℕ}
use Rattle.mace_lexer.specs.declared.keyword.Keyword.{Keyword}
use Rattle.mace_lexer.specs.declared.keyword.Keyword.TheVariants as k
use Rattle.mace_lexer.specs.declared.sign.Sign.{Sign}
use Rattle.mace_lexer.specs.declared.sign.Sign.TheVariants as s

abbrev pub key_code : Keyword → ℕ
key_code k.Service = 0
key_code k.Context = 1
key_code k.Var = 2
key_code k.Method = 3
key_code k.Event = 4
key_code k.Here = 5
key_code k.Down = 6
key_code k.Reply = 7
key_code k.Let = 8
key_code k.If = 9
key_code k.Else = 10
key_code k.While = 11
key_code k.For = 12
key_code k.In = 13
key_code k.To = 14
key_code k.Require = 15
key_code k.Send = 16
key_code k.Spawn = 17
key_code k.Drop = 18
key_code k.Return = 19
key_code k.True = 20
key_code k.False = 21
key_code k.Empty = 22
key_code k.Int = 23
key_code k.Bool = 24
key_code k.Text = 25
key_code k.Map = 26

abbrev pub sign_code : Sign → ℕ
sign_code s.LeftBrace = 0
sign_code s.RightBrace = 1
sign_code s.LeftParen = 2
sign_code s.RightParen = 3
sign_code s.LeftBracket = 4
sign_code s.RightBracket = 5
sign_code s.Comma = 6
sign_code s.Semicolon = 7
sign_code s.Colon = 8
sign_code s.Dot = 9
sign_code s.Equals = 10
sign_code s.EqualsEquals = 11
sign_code s.BangEquals = 12
sign_code s.Less = 13
sign_code s.LessEquals = 14
sign_code s.Greater = 15
sign_code s.GreaterEquals = 16
sign_code s.Plus = 17
sign_code s.Minus = 18
sign_code s.Star = 19
sign_code s.Slash = 20
sign_code s.Percent = 21
sign_code s.AndAnd = 22
sign_code s.OrOr = 23
sign_code s.Bang = 24
