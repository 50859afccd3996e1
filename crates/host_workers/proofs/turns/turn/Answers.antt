use Rattle.std.proofs.Common.{inl, inr, refl}
use Rattle.host_workers.proofs.turns.turn.Goals as goal

pub bring-requires : goal.bring-requires
bring-requires c = c.requires.brings

pub find-offer-requires-clause-stands : goal.find-offer-requires-clause-stands
find-offer-requires-clause-stands c = (c.requires.then _ c.in-Ok.ensures.brought).stands

pub find-offer-requires-clause-may : goal.find-offer-requires-clause-may
find-offer-requires-clause-may c = (c.requires.then _ c.in-Ok.ensures.brought).may

pub find-offer-requires-clause-can : goal.find-offer-requires-clause-can
find-offer-requires-clause-can c = (c.requires.then _ c.in-Ok.ensures.brought).can

pub returns-in-Ok : goal.returns-in-Ok
returns-in-Ok c = inl (record { given = _; left = _; brought = c.in-Ok.ensures.brought; stands = c.find-offer.ensures.stands; found = c.find-offer.ensures.found; noted = c.leave-wakes.ensures.noted })

pub returns-in-Err : goal.returns-in-Err
returns-in-Err c = inr (record { error = c.in-Err.refused; told_is = refl; stands = c.in-Err.ensures.stands; same = c.in-Err.ensures.same })
