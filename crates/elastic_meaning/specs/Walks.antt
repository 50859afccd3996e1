-- Scripts with policies that are run piece by piece: where such a run has come, what its next piece is, and what the whole then tells.
use Rattle.std.specs.Prelude.{◌≡◌, ◌≤◌, ◌+◌, ◌-◌, ◌*◌, ◌^◌, ℕ, List, [], ◌++◌, length, sum_by, All}
use Rattle.std.specs.List.{zip}
use Rattle.wave_base.specs.declared.finished.Finished.{Finished}
use Rattle.wave_base.specs.declared.path.Path.{Path}
use Rattle.wave_base.specs.declared.script.Line.{Line}
use Rattle.wave_base.specs.declared.script.Script.{Script}
use Rattle.wave_base.specs.declared.shape.Shape.{Shape}
use Rattle.wave_base.specs.declared.start.Start.{Start}
use Rattle.wave_base.specs.Scripts.{IsScript}
use Rattle.wave_base.specs.Starts.{IsStart, first_start}
use Rattle.resolved_service.specs.declared.service.Resolved.{Resolved}
use Rattle.script_fold.specs.Lines.{most_jobs}
use Rattle.script_reader.specs.declared.elastic.Elastic.{Elastic}
use Rattle.script_reader.specs.Elastics.{IsElastic, IsPart, lines_in}
use Rattle.service_code.specs.declared.program.Program.{Program}
use Rattle.wave_meaning.specs.Meaning.{call_ran, results_at, results_of, IsWhole}
use Rattle.code_runner.specs.Coded.{IsCode}
use Rattle.fold_laws.specs.Cuts.{AreJoined, start_behind, IsCut, Comes}
use Rattle.fold_laws.specs.Growth.{most_contexts, StaysFew}
use Rattle.elastic_policy.specs.Expansions.{script_of, loads_of, expand, expansion}
use Rattle.elastic_policy.specs.Stages.{Staged, stages_left, staged_after, MayFollow}

-- the script that it stands for, where calls do what the service says
abbrev pub expanded_script : Shape → Resolved → Elastic → Script
expanded_script shape service elastic = expansion (call_ran service) shape (first_start shape) elastic

-- nothing ran, and the contexts are those of a Start
pub record IsUntold (start : Start) (f : Finished) : Type 0 where
  pub results : f.results ≡ []
  pub made : f.made ≡ []
  pub names : f.names ≡ []
  pub places : f.places ≡ start.places
  pub shots : f.shots ≡ start.shots

module _ (service : Resolved) (program : Program) (elastic : Elastic) where
  -- what these batches tell that ran
  abbrev pub told_of : List (List Line) → Finished
  told_of done = results_of program.shape service (script_of elastic.hosts done)

  -- The batches that are done are a front of all of them, and what they tell is a front of what all tell.
  pub record IsFront (done : List (List Line)) : Type 0 where
    pub rest : List (List Line)
    pub batches : (expanded_script program.shape service elastic).batches ≡ done ++ rest
    pub more : Finished
    pub joined : AreJoined (told_of done) more (results_of program.shape service (expanded_script program.shape service elastic))

  -- So far it has come: these batches ran, from the first Start, and this is how it goes on.
  pub record AreAt (done : List (List Line)) (s : Staged) : Type 0 where
    -- the program is the code of the service, and the script with policies fits its shape
    pub code : IsCode service program
    pub fits : IsElastic program.shape elastic
    -- another script can be run behind the batches, from what they leave
    pub comes : Comes (call_ran service) program.shape (first_start program.shape) (script_of elastic.hosts done)
    pub hosts : s.hosts ≡ elastic.hosts
    pub start : s.start ≡ start_behind (call_ran service) program.shape (first_start program.shape) (script_of elastic.hosts done)
    -- the batches that are left are those of the parts that are left, with these loads
    pub load : Path → ℕ
    pub paired : length s.start.places ≡ length s.loads
    pub loads : zip s.start.places s.loads ≡ loads_of load s.start.places
    pub rest : (expanded_script program.shape service elastic).batches ≡ done ++ expand (call_ran service) program.shape (first_start program.shape) elastic.hosts s.left done load
    pub left : All (IsPart program.shape elastic.hosts) s.left
    -- Few tickets were given, and few contexts joined; and with the lines that are left they stay few: of each line come at most 4,000
    -- jobs, and 87,296 contexts.
    pub few : StaysFew (first_start program.shape) done (told_of done)
    pub jobs : most_jobs done + 4000 * sum_by lines_in s.left ≤ 16000000
    pub contexts : most_contexts done + 87296 * sum_by lines_in s.left ≤ 349184000

  -- A script that may be run next, from there; and where it has come then.
  pub record IsPiece (done : List (List Line)) (s : Staged) (script : Script) : Type 0 where
    pub hosts : script.hosts ≡ elastic.hosts
    pub fits : IsScript program.shape script
    pub start : IsStart program.shape script.hosts s.start
    -- there is a ticket for each of its results, and the next piece may begin where it ends
    pub few : s.start.next.0 + length (results_at program.shape service s.start script).results ≤ 2 ^ 32
    pub follows : MayFollow (stages_left s) (results_at program.shape service s.start script)
    pub next : AreAt (done ++ script.batches) (staged_after (stages_left s) (results_at program.shape service s.start script))
    -- what it tells stands behind what was told before
    pub cut : IsCut (call_ran service) program.shape (first_start program.shape) (script_of elastic.hosts done) script
    pub joined : AreJoined (told_of done) (results_at program.shape service s.start script) (told_of (done ++ script.batches))

  -- All is done: these batches are those of the script that it stands for. Its run comes to its end, and there is a ticket for each result.
  pub record IsDone (done : List (List Line)) : Type 0 where
    pub all : expanded_script program.shape service elastic ≡ script_of elastic.hosts done
    pub over : IsWhole program.shape service (expanded_script program.shape service elastic)
    pub few : length (told_of done).results ≤ 2 ^ 32 - 1
