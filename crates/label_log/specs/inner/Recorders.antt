-- A log that is being written.
use Rattle.label_log.specs.declared.recorder.Recorder.TheInside.{Inside}
use Rattle.label_log.specs.Logs.{Recording}
use Rattle.label_log.specs.inner.Keeping.{HasRoom, IsKept, kept_labels, ready_in}

abbrev pub recording_of : Inside → Recording
recording_of a = record { labels = kept_labels a.kept; ready = ready_in a.kept a.room }

pub record IsRecorder (a : Inside) : Type 0 where
  pub kept : IsKept a.kept
  pub room : HasRoom a.kept a.room
