-- What is bounded: all its values are within the limits, numbers and the keys of paths of 64 bits, texts and maps as long as they may be.
use Rattle.std.specs.Prelude.{List, All, FitsSigned}
use Rattle.std.specs.Int.{w64}
use Rattle.wave_base.specs.declared.call.Call.{Call}
use Rattle.wave_base.specs.declared.call.Message.{Message}
use Rattle.wave_base.specs.declared.finished.Finished.{Finished}
use Rattle.wave_base.specs.declared.finished.Place.{Place}
use Rattle.wave_base.specs.declared.outcome.EventResult.{EventResult}
use Rattle.wave_base.specs.declared.outcome.Outcome.{Outcome}
use Rattle.wave_base.specs.declared.outcome.Outcome.TheVariants as out
use Rattle.wave_base.specs.declared.path.Path.{Path}
use Rattle.wave_base.specs.declared.path.Step.{Step}
use Rattle.wave_base.specs.declared.script.Line.{Line}
use Rattle.wave_base.specs.declared.script.Line.TheVariants.{Request, Move, Snapshot}
use Rattle.wave_base.specs.declared.script.Script.{Script}
use Rattle.wave_base.specs.declared.shape.ClassInfo.{ClassInfo}
use Rattle.wave_base.specs.declared.shape.FieldInfo.{FieldInfo}
use Rattle.wave_base.specs.declared.shape.Shape.{Shape}
use Rattle.wave_base.specs.declared.shot.Shot.{Shot}
use Rattle.wave_base.specs.declared.start.Start.{Start}
use Rattle.wave_base.specs.declared.value.Value.{Value}
use Rattle.wave_base.specs.Fold.{Ran}
use Rattle.wave_base.specs.Text.{IsText}
use Rattle.wave_base.specs.Tree.{Tree}
use Rattle.snapshot_text.specs.Shots.{IsValue}

-- ---- contexts

-- its keys are of 64 bits
abbrev pub IsKeyed : Path → Type 0
IsKeyed p = All (λ (s : Step). FitsSigned w64 s.key) p

abbrev pub AreValues : List Value → Type 0
AreValues values = All IsValue values

-- all contexts, and what those begin with that are not there
pub record BoundedContexts (tree : Tree (List Value)) : Type 0 where
  pub fields : (p : Path) → AreValues (tree.fields p)
  pub paths : All IsKeyed tree.paths

pub record BoundedShot (s : Shot) : Type 0 where
  pub path : IsKeyed s.path
  pub fields : AreValues s.fields

abbrev pub BoundedPlace : Place → Type 0
BoundedPlace x = IsKeyed x.path

-- what fields begin with
abbrev pub BoundedClass : ClassInfo → Type 0
BoundedClass c = All (λ (f : FieldInfo). IsValue f.initial) c.fields

abbrev pub BoundedShape : Shape → Type 0
BoundedShape shape = All BoundedClass shape.classes

-- ---- calls, and what they do

abbrev pub BoundedCall : Call → Type 0
BoundedCall call = AreValues call.args

pub record BoundedMessage (m : Message) : Type 0 where
  pub label : IsText m.label
  pub value : IsValue m.value

abbrev pub BoundedOutcome : Outcome → Type 0
BoundedOutcome out.Done = Unit {0}
BoundedOutcome (out.Reply value) = IsValue value
BoundedOutcome (out.Trapped trap) = Unit {0}
BoundedOutcome (out.Moved path host) = IsKeyed path
BoundedOutcome (out.Absent path) = IsKeyed path
BoundedOutcome (out.Shots shots) = All BoundedShot shots

-- what it tells, sends and creates
pub record BoundedResult (r : EventResult) : Type 0 where
  pub outcome : BoundedOutcome r.outcome
  pub messages : All BoundedMessage r.messages
  pub created : All BoundedCall r.created

-- the tree that a job leaves, its result, and the contexts that it entered
pub record BoundedRan (ran : Ran (List Value) EventResult) : Type 0 where
  pub tree : BoundedContexts ran.tree
  pub result : BoundedResult ran.result
  pub entered : All IsKeyed ran.entered

-- ---- scripts, what they begin with, and what they give

abbrev pub BoundedLine : Line → Type 0
BoundedLine (Request call) = BoundedCall call
BoundedLine (Move path host) = IsKeyed path
BoundedLine Snapshot = Unit {0}

abbrev pub BoundedScript : Script → Type 0
BoundedScript script = All (All BoundedLine) script.batches

pub record BoundedStart (start : Start) : Type 0 where
  pub shots : All BoundedShot start.shots
  pub places : All BoundedPlace start.places

pub record BoundedFinished (f : Finished) : Type 0 where
  pub results : All BoundedResult f.results
  pub shots : All BoundedShot f.shots
  pub places : All BoundedPlace f.places
