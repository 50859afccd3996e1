use Rattle.wave_board.proofs.Choosing.{chosen, kept_idle}
use Rattle.wave_board.proofs.board.Board.choice.Goals as goal

pub some_for-requires : goal.some_for-requires
some_for-requires c = kept_idle c.args.self.now c.args.worker c.requires.stands c.requires.may.is_worker (λ o s h. c.idle_hands_are_empty.ensures c.args.self.now o s c.args.worker.0 h c.requires.may.gave)

pub returns : goal.returns
returns c = chosen c.lists_are_known.ensures c.args.self.now c.args.worker c.requires.stands (λ o s h. c.idle_hands_are_empty.ensures c.args.self.now o s c.args.worker.0 h c.requires.may.gave) c.some_for.result c.some_for.ensures
