use Rattle.std.proofs.Common.{sym, subst}
use Rattle.script_reader.proofs.LiteralLemmas.{AreCopied, copied_none, next_spells, copied_more, copied_all, two_of}
use Rattle.script_reader.proofs.spelling.literals_of.Goals as goal

pub loop-rest-init : goal.loop-rest-init
loop-rest-init c =
    subst (λ ls. AreCopied c.args.pieces.now ls c.args.pieces.now) (sym c.new-literals.ensures) (copied_none c.args.pieces.now c.requires.0 c.requires.1)

pub literal_of-requires : goal.literal_of-requires
literal_of-requires c =
    let two = two_of c.loop-rest.rest.now c.piece-item.result c.in-len2-up.len_at_least c.piece-item.is in
    next_spells c.args.pieces.now c.loop-rest.rest.now c.loop-rest.literals c.requires.0 c.requires.1 c.piece-item.result two.0 _ c.loop-rest.invariant two.1

pub loop-rest-preserved : goal.loop-rest-preserved
loop-rest-preserved c =
    let two = two_of c.loop-rest.rest.now c.piece-item.result c.in-len2-up.len_at_least c.piece-item.is in
    copied_more c.args.pieces.now c.loop-rest.rest.now c.loop-rest.literals c.requires.0 c.requires.1 c.piece-item.result two.0 _ c.add.new.self c.in_ok-literal_of.field-0 c.loop-rest.invariant two.1
    c.in_ok-literal_of.ensures c.in_ok-add.ensures.ok

pub returns : goal.returns
returns c = copied_all c.args.pieces.now c.loop-rest.rest.now c.loop-rest.literals c.requires.0 c.requires.1 c.loop-rest.invariant c.in_default.len_below
