use Rattle.machine_laws.proofs.laws.machines_have_owners.Goals as goal

pub returns : goal.returns
returns c = λ m start s stands. c.plans_have_owners.ensures m.plan start stands.fits stands.begins stands.labels s stands.reached
