-- The ten kinds of labels.
use Rattle.std.specs.Prelude.{ℕ, Bool, true, false, []}
use Rattle.wave_base.specs.declared.path.Path.{Path}

-- by ticket; by ticket and number of a mail, and its path; by ticket and path. A Pass names the host to which the mail goes on
pub data Act : Type 0 where
  Admit : ℕ → Act
  Queue : ℕ → ℕ → Path → Act
  Grant : ℕ → Path → Act
  Visit : ℕ → ℕ → Path → Act
  Start Stop : ℕ → Path → Act
  Free : ℕ → ℕ → Path → Act
  Pass : ℕ → ℕ → Path → ℕ → Act
  Land : ℕ → ℕ → Path → Act
  Commit : ℕ → Act

-- a label without its worker
pub record Choice : Type 0 where
  pub host : ℕ
  pub act : Act

pub record Label : Type 0 where
  pub worker : ℕ
  pub host : ℕ
  pub act : Act

-- the ticket of a label: that of its mail, where it has one
abbrev pub ticket_of : Act → ℕ
ticket_of (Admit t) = t
ticket_of (Queue t k p) = t
ticket_of (Grant t p) = t
ticket_of (Visit t k p) = t
ticket_of (Start t p) = t
ticket_of (Stop t p) = t
ticket_of (Free t k p) = t
ticket_of (Pass t k p g) = t
ticket_of (Land t k p) = t
ticket_of (Commit t) = t

-- the context that a label is on; Admit and Commit are on none
abbrev pub path_of : Act → Path
path_of (Admit t) = []
path_of (Queue t k p) = p
path_of (Grant t p) = p
path_of (Visit t k p) = p
path_of (Start t p) = p
path_of (Stop t p) = p
path_of (Free t k p) = p
path_of (Pass t k p g) = p
path_of (Land t k p) = p
path_of (Commit t) = []

-- it is on one context
abbrev pub is_local : Act → Bool
is_local (Admit t) = false
is_local (Commit t) = false
is_local _ = true

abbrev pub is_start : Act → Bool
is_start (Start t p) = true
is_start _ = false

abbrev pub is_stop : Act → Bool
is_stop (Stop t p) = true
is_stop _ = false

abbrev pub is_pass : Act → Bool
is_pass (Pass t k p g) = true
is_pass _ = false

-- it takes a mail
abbrev pub takes_mail : Act → Bool
takes_mail (Queue t k p) = true
takes_mail (Visit t k p) = true
takes_mail (Free t k p) = true
takes_mail (Pass t k p g) = true
takes_mail (Land t k p) = true
takes_mail _ = false
