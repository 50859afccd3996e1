use Rattle.std.proofs.Common.{◌∙◌, ap, take, length, arith}
use Rattle.mace_grammar.specs.Spelled.{words}
use Rattle.mace_hints.proofs.Turns.{told_exact}
use Rattle.mace_hints.proofs.Whole.{front_laid, front_is}
use Rattle.mace_hints.proofs.telling.hints.Goals as goal

pub returns-then-len-clause-large : goal.returns-then-len-clause-large
returns-then-len-clause-large c =
    let laid = front_laid c.args.tokens.now c.args.fault c.new-front.result.items c.put_words.new.out.items c.new-front.ensures.items c.in_ok-put_words.ensures in
    λ _. omega (arith, c.if-len.true, c.len.ensures, c.put_words.new.out.ok.0, ap length laid)

pub returns-clause-exact : goal.returns-clause-exact
returns-clause-exact c =
    let ws = take c.args.fault (words c.args.tokens.now) in
    let laid = front_laid c.args.tokens.now c.args.fault c.new-front.result.items c.put_words.new.out.items c.new-front.ensures.items c.in_ok-put_words.ensures in
    told_exact ws c.in_ok-following.field-0.items (c.in_ok-following.ensures ws (front_is c.args.tokens.now c.args.fault c.as_slice.result.now c.requires.read (c.as_slice.ensures.value ∙ laid)))

pub returns-clause-small : goal.returns-clause-small
returns-clause-small c =
    let laid = front_laid c.args.tokens.now c.args.fault c.new-front.result.items c.put_words.new.out.items c.new-front.ensures.items c.in_ok-put_words.ensures in
    omega (arith, c.if-len.false, c.len.ensures, c.put_words.new.out.ok.0, ap length laid)
