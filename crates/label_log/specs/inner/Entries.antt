-- Labels whose paths are named by numbers.
use Rattle.std.specs.Prelude.{◌≡◌, ◌<◌, ◌++◌, ℕ, List, [], Some, get_or, length, map, slice_get}
use Rattle.wave_base.specs.declared.path.Path.{Path}
use Rattle.wave_labels.specs.declared.label.Act.{Act}
use Rattle.wave_labels.specs.declared.label.Act.TheVariants as act
use Rattle.wave_labels.specs.declared.label.Label.{Label}
use Rattle.wave_labels.specs.declared.label.MailId.{MailId}
use Rattle.label_log.specs.declared.entry.Entry.{Entry}
use Rattle.label_log.specs.declared.entry.Kind.{Kind}
use Rattle.label_log.specs.declared.entry.Kind.TheVariants.{Admit, Queue, Grant, Visit, Start, Stop, Free, Pass, Land, Commit}

-- the act of a kind, with its mail and its path
abbrev pub act_at : Kind → MailId → Path → Act
act_at Admit m p = act.Admit m.ticket
act_at Queue m p = act.Queue m p
act_at Grant m p = act.Grant m.ticket p
act_at Visit m p = act.Visit m p
act_at Start m p = act.Start m.ticket p
act_at Stop m p = act.Stop m.ticket p
act_at Free m p = act.Free m p
act_at (Pass to) m p = act.Pass m p to
act_at Land m p = act.Land m p
act_at Commit m p = act.Commit m.ticket

-- the label of an entry whose path is this one
abbrev pub label_at : Entry → Path → Label
label_at e p = record { worker = e.worker; host = e.host; act = act_at e.kind e.mail p }

-- the path of a number, and the root's where no path has it
abbrev pub path_in : List Path → ℕ → Path
path_in paths n = get_or paths n []

-- the labels of entries
abbrev pub labels_in : List Path → List Entry → List Label
labels_in paths entries = map (λ e. label_at e (path_in paths e.path)) entries

-- those of entries that have their paths beside them
abbrev pub whole_labels : List (Entry × Path) → List Label
whole_labels whole = map (λ w. label_at w.0 w.1) whole

-- each entry names a path that has a number
abbrev pub AreNumbered : List Path → List Entry → Type 0
AreNumbered paths entries = (i : ℕ) (e : Entry) → slice_get entries i ≡ Some e → e.path < length paths

-- further paths come behind those that have numbers
abbrev pub Grows : List Path → List Path → Type 0
Grows before after = (more : List Path) × (after ≡ before ++ more)
