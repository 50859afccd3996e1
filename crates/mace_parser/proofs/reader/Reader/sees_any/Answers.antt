use Rattle.std.proofs.Common.{◌≡◌, List, [], ◌∷◌, Some, ap, ◌∙◌}
use Rattle.std.specs.Prelude.{slice_get}
use Rattle.mace_lexer.specs.declared.token.Token.{Token}
use Rattle.mace_grammar.specs.declared.class.Class.{Class}
use Rattle.mace_grammar.specs.Words.{edition_of}
use Rattle.mace_grammar.specs.inner.Classes.{kind}
use Rattle.mace_grammar.specs.inner.Run.{has, sees}
use Rattle.mace_grammar.proofs.Classes.{contains_is}
use Rattle.mace_parser.proofs.reader.Reader.sees_any.Goals as goal

-- the class of the first token counts
of_first : (class : Token → Class) (set : List Class) (tokens : List Token) (t : Token) → Some t ≡ slice_get tokens 0 → has set (class t) ≡ sees class set tokens
of_first class set [] t e = cc
of_first class set (u ∷ others) t e = let same : t ≡ u = cc in ap (λ x. has set (class x)) same

pub returns-in-Some : goal.returns-in-Some
returns-in-Some c =
    c.contains.ensures.value
    ∙ contains_is c.args.set.now c.class_of.result
    ∙ ap (has c.args.set.now) c.class_of.ensures
    ∙ of_first (kind (edition_of c.args.self.version)) c.args.set.now c.args.tokens.now c.in-Some.t.now c.in-Some.ensures.value
