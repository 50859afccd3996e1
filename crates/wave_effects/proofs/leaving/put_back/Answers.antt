use Rattle.std.proofs.Common.{refl, ap, is_some}
use Rattle.wave_effects.proofs.Ways.{put_here, put_moves}
use Rattle.wave_effects.proofs.StoreParts.{get_here, get_there}
use Rattle.wave_effects.proofs.leaving.put_back.Goals as goal

pub returns-clause-here : goal.returns-clause-here
returns-clause-here c = put_here c.args.store.now _ c.args.path.now c.entry_mut-entry.result.now _ c.args.body c.entry_mut-entry.ensures.value refl refl (record { body = refl; holder = refl; peeks = refl; served = refl; waiting = refl; moves = refl })

pub returns-clause-has : goal.returns-clause-has
returns-clause-has c = ap is_some (get_here c.args.store.now.store c.args.path.now _)

pub returns-clause-moves : goal.returns-clause-moves
returns-clause-moves c = put_moves c.args.store.now c.args.path.now c.entry_mut-entry.result.now _ c.entry_mut-entry.ensures.value refl

pub returns-clause-store : goal.returns-clause-store
returns-clause-store c = λ q n. get_there c.args.store.now.store c.args.path.now _ q n
