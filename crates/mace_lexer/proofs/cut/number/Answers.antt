use Rattle.std.proofs.Common.{pos, ap, ◌∙◌, take, arith}
use mir.Syntax.{w64}
use Rattle.std.proofs.lemmas.Int.{to_z_pos}
use Rattle.std.proofs.lemmas.List.Sums.{AllPass-from_list_all}
use Rattle.std.specs.Char.{is_ascii_digit}
use Rattle.mace_lexer.proofs.Longest.{number_all}
use Rattle.mace_lexer.proofs.Found.{whole_number, large_number, plain_number}
use Rattle.mace_lexer.proofs.cut.number.Goals as goal

pub value-requires : goal.value-requires
value-requires c =
    let bs = take c.run-n.result c.args.text.now in
    AllPass-from_list_all is_ascii_digit bs (number_all bs (whole_number c.args.text.now c.run-n.result c.requires.some c.requires.form c.run-n.ensures.value))

pub returns-in-Some : goal.returns-in-Some
returns-in-Some c = plain_number c.args.text.now c.run-n.result c.requires.some c.requires.form c.run-n.ensures.value _ (omega (arith, c.in-Some.ensures.some.0, c.in-Some.ensures.some.1)) (to_z_pos w64 c.in-Some.v (omega (arith, c.in-Some.ensures.some.1)) ∙ ap pos c.in-Some.ensures.some.0)

pub returns-in-None : goal.returns-in-None
returns-in-None c = large_number c.args.text.now c.run-n.result c.requires.some c.requires.form c.run-n.ensures.value c.in-None.ensures.none
