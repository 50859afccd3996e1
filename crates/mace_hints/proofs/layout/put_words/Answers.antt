use Rattle.std.proofs.Common.{arith}
use Rattle.mace_hints.proofs.Turns.{words_begin, words_turn, words_end}
use Rattle.mace_hints.proofs.layout.put_words.Goals as goal

pub loop-token-init : goal.loop-token-init
loop-token-init c = words_begin _

pub loop-token-preserved : goal.loop-token-preserved
loop-token-preserved c = words_turn _ _ _ c.args.tokens.now c.loop-token.token-index c.token-item.result c.loop-token-test.true c.token-item.is c.loop-token.invariant c.in_ok-put_word.ensures

pub returns : goal.returns
returns c = words_end _ _ c.args.tokens.now c.loop-token.token-index (omega arith) c.loop-token.invariant
