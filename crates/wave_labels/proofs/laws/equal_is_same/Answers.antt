use Rattle.wave_labels.specs.LabelLaws.{mail_decides, act_decides, label_decides}
use Rattle.wave_labels.proofs.laws.equal_is_same.Goals as goal

pub returns-clause-mails : goal.returns-clause-mails
returns-clause-mails c = mail_decides

pub returns-clause-acts : goal.returns-clause-acts
returns-clause-acts c = act_decides

pub returns-clause-labels : goal.returns-clause-labels
returns-clause-labels c = label_decides
