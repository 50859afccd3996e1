use Rattle.machine_laws.proofs.Orders.{either}
use Rattle.machine_laws.proofs.laws.machines_take_either_order.Goals as goal

pub returns : goal.returns
returns c = λ start s m t t' stands apart may may'.
    either start s m t t' stands apart may may'
    (c.labels_are_apart.ensures.hands m.plan.program stands.fits.fit stands.fits.verified)
    (c.plans_take_either_order.ensures m.plan start stands.fits stands.begins stands.labels s stands.reached)
