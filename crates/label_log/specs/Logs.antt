-- What is written into logs.
use Rattle.std.specs.Prelude.{List, [], Option, refl}
use Rattle.std.specs.Coded.{Coded, code_by, coded×, coded_list, coded_option}
use Rattle.wave_base.specs.declared.path.Path.{Path}
use Rattle.wave_base.specs.contracts.path.Path as path
use Rattle.wave_labels.specs.declared.label.Act.{Act}
use Rattle.wave_labels.specs.declared.label.Act.TheVariants.{Admit, Queue, Grant, Visit, Start, Stop, Free, Pass, Land, Commit}
use Rattle.wave_labels.specs.declared.label.Label.{Label}
use Rattle.wave_labels.specs.contracts.label.Label as label

-- a log that is being written: its labels in their order, and the path for whose label there is room
pub record Recording : Type 0 where
  pub labels : List Label
  pub ready : Option Path

-- it is stored as its parts
abbrev pub recording_code : Coded Recording
recording_code =
    code_by (List Label × Option Path) (coded× (coded_list label.the_row.coded) (coded_option path.the_row.coded))
    (λ r. (r.labels, r.ready)) (λ p. record { labels = p.0; ready = p.1 }) (λ _. refl)

-- the path of the context that an act is done to; the root's where it is done to none
abbrev pub path_of : Act → Path
path_of (Admit t) = []
path_of (Queue m p) = p
path_of (Grant t p) = p
path_of (Visit m p) = p
path_of (Start t p) = p
path_of (Stop t p) = p
path_of (Free m p) = p
path_of (Pass m p g) = p
path_of (Land m p) = p
path_of (Commit t) = []
