-- Labels as programs have them: when two are the same, and the labels of the machine's theory that they stand for.
use Rattle.std.specs.Prelude.{Bool, false, ◌&&◌, ◌==◌}
use Rattle.wave_base.specs.Paths.{path_eq}
use Rattle.wave_labels.specs.declared.label.Act.{Act}
use Rattle.wave_labels.specs.declared.label.Act.TheVariants.{Admit, Queue, Grant, Visit, Start, Stop, Free, Pass, Land, Commit}
use Rattle.wave_labels.specs.declared.label.Label.{Label}
use Rattle.wave_labels.specs.declared.label.MailId.{MailId}
use Rattle.wave_states.specs.Labels as theory

abbrev pub mail_eq : MailId → MailId → Bool
mail_eq m n = (m.ticket.0 == n.ticket.0) && (m.number == n.number)

abbrev pub act_eq : Act → Act → Bool
act_eq (Admit t) (Admit u) = t.0 == u.0
act_eq (Queue m p) (Queue n q) = mail_eq m n && path_eq p q
act_eq (Grant t p) (Grant u q) = (t.0 == u.0) && path_eq p q
act_eq (Visit m p) (Visit n q) = mail_eq m n && path_eq p q
act_eq (Start t p) (Start u q) = (t.0 == u.0) && path_eq p q
act_eq (Stop t p) (Stop u q) = (t.0 == u.0) && path_eq p q
act_eq (Free m p) (Free n q) = mail_eq m n && path_eq p q
act_eq (Pass m p g) (Pass n q h) = mail_eq m n && (path_eq p q && (g.0 == h.0))
act_eq (Land m p) (Land n q) = mail_eq m n && path_eq p q
act_eq (Commit t) (Commit u) = t.0 == u.0
act_eq _ _ = false

abbrev pub label_eq : Label → Label → Bool
label_eq a b = (a.worker.0 == b.worker.0) && ((a.host.0 == b.host.0) && act_eq a.act b.act)

abbrev pub act_of : Act → theory.Act
act_of (Admit t) = theory.Admit t.0
act_of (Queue m p) = theory.Queue m.ticket.0 m.number p
act_of (Grant t p) = theory.Grant t.0 p
act_of (Visit m p) = theory.Visit m.ticket.0 m.number p
act_of (Start t p) = theory.Start t.0 p
act_of (Stop t p) = theory.Stop t.0 p
act_of (Free m p) = theory.Free m.ticket.0 m.number p
act_of (Pass m p g) = theory.Pass m.ticket.0 m.number p g.0
act_of (Land m p) = theory.Land m.ticket.0 m.number p
act_of (Commit t) = theory.Commit t.0

abbrev pub label_of : Label → theory.Label
label_of l = record { worker = l.worker.0; host = l.host.0; act = act_of l.act }
