-- What a label may be: its numbers lie in their types, and its path is one of the shape.
use Rattle.std.specs.Prelude.{◌≡◌, ◌<◌, ◌^◌, true}
use Rattle.wave_base.specs.declared.numbers.Ticket.{Ticket}
use Rattle.wave_base.specs.declared.shape.Shape.{Shape}
use Rattle.wave_base.specs.Shapes.{is_path}
use Rattle.path_text.specs.Found.{HasKeys}
use Rattle.wave_labels.specs.declared.label.Act.{Act}
use Rattle.wave_labels.specs.declared.label.Act.TheVariants.{Admit, Queue, Grant, Visit, Start, Stop, Free, Pass, Land, Commit}
use Rattle.wave_labels.specs.declared.label.Label.{Label}
use Rattle.wave_labels.specs.declared.label.MailId.{MailId}

-- the path of an act is the shape's
abbrev pub HasPath : Shape → Act → Type 0
HasPath shape (Admit t) = Unit {0}
HasPath shape (Queue m p) = is_path shape p ≡ true
HasPath shape (Grant t p) = is_path shape p ≡ true
HasPath shape (Visit m p) = is_path shape p ≡ true
HasPath shape (Start t p) = is_path shape p ≡ true
HasPath shape (Stop t p) = is_path shape p ≡ true
HasPath shape (Free m p) = is_path shape p ≡ true
HasPath shape (Pass m p g) = is_path shape p ≡ true
HasPath shape (Land m p) = is_path shape p ≡ true
HasPath shape (Commit t) = Unit {0}

-- ---- what the types of the program say of the numbers

abbrev pub IsTicket : Ticket → Type 0
IsTicket t = t.0 < 2 ^ 32

pub record IsMail (m : MailId) : Type 0 where
  pub ticket : IsTicket m.ticket
  pub number : m.number < 2 ^ 32

abbrev pub HasNumbers : Act → Type 0
HasNumbers (Admit t) = IsTicket t
HasNumbers (Queue m p) = IsMail m × HasKeys p
HasNumbers (Grant t p) = IsTicket t × HasKeys p
HasNumbers (Visit m p) = IsMail m × HasKeys p
HasNumbers (Start t p) = IsTicket t × HasKeys p
HasNumbers (Stop t p) = IsTicket t × HasKeys p
HasNumbers (Free m p) = IsMail m × HasKeys p
HasNumbers (Pass m p g) = IsMail m × HasKeys p × (g.0 < 2 ^ 8)
HasNumbers (Land m p) = IsMail m × HasKeys p
HasNumbers (Commit t) = IsTicket t

pub record IsLabel (shape : Shape) (l : Label) : Type 0 where
  pub worker : l.worker.0 < 2 ^ 8
  pub host : l.host.0 < 2 ^ 8
  pub path : HasPath shape l.act
  pub numbers : HasNumbers l.act
