-- When two classes are the same, and the class of a word.
use Rattle.std.specs.Prelude.{Bool, true, false, ◌==◌, ◌&&◌, if◌then◌else◌}
use Rattle.mace_lexer.specs.declared.token.Token.{Token}
use Rattle.mace_lexer.specs.declared.token.Word.{Word}
use Rattle.mace_lexer.specs.declared.token.Word.TheVariants as word
use Rattle.mace_lexer.specs.declared.keyword.Keyword.TheVariants as k
use Rattle.mace_lexer.specs.Codes.{key_code, sign_code}
use Rattle.mace_grammar.specs.declared.class.Class.{Class}
use Rattle.mace_grammar.specs.declared.class.Class.TheVariants.{Name, Number, Text, Leave, Finish, Key, Sign}
use Rattle.mace_grammar.specs.Words.{Edition}

abbrev pub class_eq : Class → Class → Bool
class_eq Name Name = true
class_eq Number Number = true
class_eq Text Text = true
class_eq Leave Leave = true
class_eq Finish Finish = true
class_eq (Key j) (Key j') = key_code j == key_code j'
class_eq (Sign j) (Sign j') = sign_code j == sign_code j'
class_eq _ _ = false

-- in version 2, `return` and `finish` have classes of their own
module _ (edition : Edition) where
  abbrev pub class_of : Word → Class
  class_of (word.Name t) = if edition.is_name t then Name else Finish
  class_of (word.Number n) = Number
  class_of (word.Text t) = Text
  class_of (word.Key j) = if key_code j == key_code k.Return && edition.early then Leave else Key j
  class_of (word.Sign j) = Sign j

  abbrev pub kind : Token → Class
  kind t = class_of t.word
