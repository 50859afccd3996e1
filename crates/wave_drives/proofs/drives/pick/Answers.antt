use Rattle.std.proofs.Common.{◌≡◌, ◌∙◌, map, sym, ap, subst}
use Rattle.std.specs.Prelude.{option_map}
use Rattle.wave_labels.specs.Labels.{label_of}
use Rattle.wave_drives.specs.declared.rules.PickRule.{PickRule}
use Rattle.wave_drives.specs.Rules.{rule_of}
use Rattle.wave_drives.proofs.JobKinds.{movers_is}
use Rattle.wave_drives.proofs.drives.pick.Goals as goal

pub returns-in-Seed : goal.returns-in-Seed
returns-in-Seed c = λ start s stands same. subst (λ (r : PickRule). rule_of r c.args.draw.now s (map label_of c.args.labels.now) ≡ (c.by_seed.new.draw, option_map label_of c.by_seed.result)) (sym c.in-Seed.is) (c.by_seed.ensures s)

pub returns-in-Oldest : goal.returns-in-Oldest
returns-in-Oldest c = λ start s stands same. subst (λ (r : PickRule). rule_of r c.args.draw.now s (map label_of c.args.labels.now) ≡ (c.args.draw.now, option_map label_of c.by_oldest.result)) (sym c.in-Oldest.is) (c.by_oldest.ensures c.args.draw.now s)

pub returns-in-Newest : goal.returns-in-Newest
returns-in-Newest c = λ start s stands same. subst (λ (r : PickRule). rule_of r c.args.draw.now s (map label_of c.args.labels.now) ≡ (c.args.draw.now, option_map label_of c.by_newest.result)) (sym c.in-Newest.is) (c.by_newest.ensures c.args.draw.now s)

pub returns-in-MailLast : goal.returns-in-MailLast
returns-in-MailLast c = λ start s stands same. subst (λ (r : PickRule). rule_of r c.args.draw.now s (map label_of c.args.labels.now) ≡ (c.args.draw.now, option_map label_of c.by_mail_last.result)) (sym c.in-MailLast.is) (c.by_mail_last.ensures c.args.draw.now s)

pub returns-in-Movers : goal.returns-in-Movers
returns-in-Movers c = λ start s stands same.
    let m = c.args.machine.now.kept in
    let draw = c.args.draw.now in
    let listed = (c.states_drive.ensures m.plan start stands.labels s stands.fits stands.begins stands.reached).listed in
    subst (λ (r : PickRule). rule_of r draw s (map label_of c.args.labels.now) ≡ (draw, option_map label_of c.by_movers.result)) (sym c.in-Movers.is)
    (movers_is c.states_are_known.ensures m start s stands listed (map label_of c.args.labels.now) same draw ∙ ap (λ o. (draw, o)) (sym c.by_movers.ensures))
