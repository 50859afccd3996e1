-- The statuses of what may be due: none is one of those that the call itself tells.
use Rattle.std.proofs.Common.{◌≡◌, inl, inr, ◌∙◌, ap, refl, ℕ, Bool, true, false, cond, List, Option, None, Some, Result, Ok, Err}
use Rattle.std.specs.Prelude.{◌==◌, ◌||◌}
use Rattle.wave_base.specs.declared.limits.TheConstants.{INPUT_BYTES, LONG_INPUT_BYTES}
use Rattle.wave_base.specs.declared.script.Script.{Script}
use Rattle.wave_base.specs.declared.shape.Shape.{Shape}
use Rattle.wave_base.specs.declared.start.Start.{Start}
use Rattle.wave_base.specs.Starts.{first_start}
use Rattle.mace_ast.specs.Decls.{ServiceTree}
use Rattle.input_parts.specs.Parts.{service_of, script_of}
use Rattle.service_reader.specs.declared.fault.TextFault.{TextFault}
use Rattle.script_reader.specs.declared.earlier.Earlier.{Earlier}
use Rattle.script_reader.specs.declared.elastic.Elastic.{Elastic}
use Rattle.script_reader.specs.declared.error.ScriptError.{ScriptError}
use Rattle.script_reader.specs.Judged.{nothing_earlier, script_earlier}
use Rattle.type_rules.specs.declared.error.TypeError.{TypeError}
use Rattle.type_rules.specs.Demands.{first_wrong}
use Rattle.type_rules.specs.Services.{service_demands}
use Rattle.type_rules.specs.Known.{shape_of}
use Rattle.wave_meaning.specs.Meaning.{results_at, results_of}
use Rattle.elastic_meaning.specs.Walks.{expanded_script}
use Rattle.wave_labels.specs.declared.label.Label.{Label}
use Rattle.wave_gen.specs.Load.{load_text}
use Rattle.checkpoint_store.specs.declared.error.CheckError.{CheckError}
use Rattle.checkpoint_store.specs.declared.point.Checkpoint.{Checkpoint}
use Rattle.journal_text.specs.declared.error.JournalError.{JournalError}
use Rattle.journal_replay.specs.declared.error.ReplayError.{ReplayError}
use Rattle.journal_replay.specs.declared.error.ReplayError.TheVariants as replay
use Rattle.journal_replay.specs.declared.replaying.Replayed.{Replayed}
use Rattle.command_words.specs.declared.command.Command.{Command}
use Rattle.command_words.specs.declared.command.Command.TheVariants.{Run, Seq, Trace, Save, Resume, Replay, Check, Print, Code, Gen, Load}
use Rattle.command_words.specs.declared.command.Crew.{Crew}
use Rattle.command_words.specs.declared.command.Places.{Places}
use Rattle.due_parts.specs.declared.answer.Answer.{Answer}
use Rattle.due_parts.specs.declared.report.Report.TheVariants.{Listing, Summary, Point}
use Rattle.due_parts.specs.declared.telling.Telling.{Telling}
use Rattle.due_parts.specs.declared.telling.Telling.TheVariants.{Reports, Traces}
use Rattle.due_parts.specs.Scripts.{IsDueBehind, IsDueBehindBoth, IsDueLines, IsDueRead, IsDueScript, IsDueScripted, IsDueShort, IsDueSized, two_parts}
use Rattle.due_parts.specs.Services.{IsDueOf, IsDueService, IsDueTyped}
use Rattle.due_parts.specs.Told.{IsDueFirst, IsDueTold, any_trap}
use Rattle.due_points.specs.Resumed.{IsDueChecked, IsDueFrom, IsDuePoint, IsDueResumed}
use Rattle.due_stages.specs.Elastic.{IsDueElastic, IsDueElasticLines, IsDueElasticRead, IsDueElasticScript, IsDueExpansion}
use Rattle.due_replay.specs.Replayed.{IsDueJournal, IsDueOutcome, IsDueReplay, IsDueReplayed}
use Rattle.due_replay.specs.Replayed.{IsDueRead as IsDueJournalRead}
use Rattle.due_answer.specs.Due.{IsDue, IsListedCode, IsPrinted, approval}

abbrev pub own_status : ℕ → Bool
own_status n = n == 0 || n == 1 || n == 3 || n == 4 || n == 8 || n == 10 || n == 11

abbrev pub HasOwn : Answer → Type 0
HasOwn due = own_status due.status ≡ true

of_answer : (due a : Answer) → due ≡ a → HasOwn a → HasOwn due
of_answer due a e h = ap (λ (x : Answer). own_status x.status) e ∙ h

sized : (most : ℕ) (P : List ℕ → Answer → Type 0) (bytes : List ℕ) (due : Answer) → (P bytes due → HasOwn due) → IsDueSized most P bytes due → HasOwn due
sized most P bytes due f (inl h) = of_answer due _ h.1 refl
sized most P bytes due f (inr h) = f h.1

typed : (P : ServiceTree → Answer → Type 0) (tree : ServiceTree) (o : Option TypeError) (due : Answer) → (P tree due → HasOwn due) → IsDueTyped P tree o due → HasOwn due
typed P tree (Some e) due f h = of_answer due _ h refl
typed P tree None due f h = elim h.due_is [
  | inl long ↦ of_answer due _ long.due_is refl
  | inr fine ↦ f fine.1
]

of_text : (P : ServiceTree → Answer → Type 0) (read : Result ServiceTree TextFault) (due : Answer) → ((tree : ServiceTree) → P tree due → HasOwn due) → IsDueOf P read due → HasOwn due
of_text P (Err e) due f h = of_answer due _ h refl
of_text P (Ok tree) due f h = typed P tree (first_wrong (service_demands tree)) due (f tree) h

service : (P : ServiceTree → Answer → Type 0) (text : List ℕ) (due : Answer) → ((tree : ServiceTree) → P tree due → HasOwn due) → IsDueService P text due → HasOwn due
service P text due f h = of_text P h.read due f h.due_is

by_traps : (b : Bool) → own_status (cond b 1 0) ≡ true
by_traps true = refl
by_traps false = refl

told : (telling : Telling) (tree : ServiceTree) (start : Start) (script : Script) (due : Answer) → IsDueTold telling tree start script due → HasOwn due
told (Reports report) tree start script due h = of_answer due _ h.due_is (by_traps (any_trap (results_at (shape_of tree) h.service start script).results))
told (Traces places crew) tree start script due h = of_answer due _ h.due_is (by_traps (any_trap (results_at (shape_of tree) h.service start script).results))

-- ---- scripts

read : (P : Script → Answer → Type 0) (r : Result Script ScriptError) (due : Answer) → ((script : Script) → P script due → HasOwn due) → IsDueRead P r due → HasOwn due
read P (Err e) due f h = of_answer due _ h refl
read P (Ok script) due f h = f script h

lines : (P : Script → Answer → Type 0) (shape : Shape) (earlier : Earlier) (text : List ℕ) (due : Answer) → ((script : Script) → P script due → HasOwn due) → IsDueLines P shape earlier text due → HasOwn due
lines P shape earlier text due f h = read P h.read due f h.due_is

short : (P : List ℕ → Answer → Type 0) (text : List ℕ) (due : Answer) → (P text due → HasOwn due) → IsDueShort P text due → HasOwn due
short P text due f (inl h) = of_answer due _ h.1 refl
short P text due f (inr h) = f h.1

behind : (P : List ℕ → ServiceTree → Answer → Type 0) (text : List ℕ) (found : Option (List ℕ)) (due : Answer) → ((rest : List ℕ) (tree : ServiceTree) → P rest tree due → HasOwn due) → IsDueBehind P text found due → HasOwn due
behind P text None due f h = of_answer due _ h refl
behind P text (Some rest) due f h = service (P rest) text due (f rest) h

behind_both : (P : List ℕ → List ℕ → ServiceTree → Answer → Type 0) (text : List ℕ) (found : Option (List ℕ × List ℕ)) (due : Answer) → ((second third : List ℕ) (tree : ServiceTree) → P second third tree due → HasOwn due)
    → IsDueBehindBoth P text found due → HasOwn due
behind_both P text None due f h = of_answer due _ h refl
behind_both P text (Some parts) due f h = service (P parts.0 parts.1) text due (f parts.0 parts.1) h

scripted : (telling : Telling) (bytes : List ℕ) (due : Answer) → IsDueScripted telling bytes due → HasOwn due
scripted telling bytes due =
    behind (IsDueScript (IsDueFirst telling)) (service_of bytes) (script_of bytes) due
    (λ rest tree. short (IsDueLines (IsDueFirst telling tree) (shape_of tree) nothing_earlier) rest due (lines (IsDueFirst telling tree) (shape_of tree) nothing_earlier rest due (λ s. told telling tree (first_start (shape_of tree)) s due)))

-- ---- scripts with policies

expansion : (places : Places) (tree : ServiceTree) (e : Elastic) (due : Answer) → IsDueExpansion places tree e due → HasOwn due
expansion places tree e due h = of_answer due _ h.due_is (by_traps (any_trap (results_of (shape_of tree) h.service (expanded_script (shape_of tree) h.service e)).results))

elastic_read : (P : Elastic → Answer → Type 0) (r : Result Elastic ScriptError) (due : Answer) → ((e : Elastic) → P e due → HasOwn due) → IsDueElasticRead P r due → HasOwn due
elastic_read P (Err e) due f h = of_answer due _ h refl
elastic_read P (Ok e) due f h = f e h

elastic : (places : Places) (bytes : List ℕ) (due : Answer) → IsDueElastic places bytes due → HasOwn due
elastic places bytes due =
    behind (IsDueElasticScript places) (service_of bytes) (script_of bytes) due
    (λ rest tree. short (IsDueElasticLines (IsDueExpansion places tree) (shape_of tree)) rest due (λ h. elastic_read (IsDueExpansion places tree) h.read due (λ e. expansion places tree e due) h.due_is))

-- ---- checkpoints

checked : (P : Checkpoint → Answer → Type 0) (r : Result Checkpoint CheckError) (due : Answer) → ((point : Checkpoint) → P point due → HasOwn due) → IsDueChecked P r due → HasOwn due
checked P (Err e) due f h = of_answer due _ h refl
checked P (Ok point) due f h = f point h

resumed : (telling : Telling) (bytes : List ℕ) (due : Answer) → IsDueResumed telling bytes due → HasOwn due
resumed telling bytes due =
    behind_both (λ point script tree. IsDuePoint (IsDueFrom telling tree script) (shape_of tree) point) (service_of bytes) (two_parts (script_of bytes)) due
    (λ point script tree h. checked (IsDueFrom telling tree script) h.read due
    (λ p. short (IsDueLines (IsDueTold telling tree p.start) (shape_of tree) (script_earlier p.hosts p.lines)) script due (lines (IsDueTold telling tree p.start) (shape_of tree) (script_earlier p.hosts p.lines) script due (λ s. told telling tree p.start s due))) h.due_is)

-- ---- journals

outcome : (shape : Shape) (r : Result Replayed ReplayError) (due : Answer) → IsDueOutcome shape r due → HasOwn due
outcome shape (Ok r) due h = of_answer due _ h refl
outcome shape (Err (replay.Refused step label enabled)) due h = of_answer due _ h refl
outcome shape (Err (replay.OutOfMemory _)) due h = absurd h

journal : (P : List Label → Answer → Type 0) (r : Result (List Label) JournalError) (due : Answer) → ((labels : List Label) → P labels due → HasOwn due) → IsDueJournalRead P r due → HasOwn due
journal P (Err e) due f h = of_answer due _ h refl
journal P (Ok labels) due f h = f labels h

replayed : (show : ℕ) (crew : Crew) (bytes : List ℕ) (due : Answer) → IsDueReplayed show crew bytes due → HasOwn due
replayed show crew bytes due =
    behind_both (λ script text. IsDueScript (λ tree s. IsDueJournal (IsDueReplay show crew tree s) (shape_of tree) text) script) (service_of bytes) (two_parts (script_of bytes)) due
    (λ script text tree. short (IsDueLines (λ s. IsDueJournal (IsDueReplay show crew tree s) (shape_of tree) text) (shape_of tree) nothing_earlier) script due
    (lines (λ s. IsDueJournal (IsDueReplay show crew tree s) (shape_of tree) text) (shape_of tree) nothing_earlier script due
    (λ s h. journal (IsDueReplay show crew tree s) h.read due (λ labels k. outcome (shape_of tree) k.outcome due k.due_is) h.due_is)))

-- ---- commands

approves : (due : Answer) → due ≡ approval → HasOwn due
approves due h = of_answer due approval h refl

pub statuses : (c : Command) (bytes : List ℕ) (due : Answer) → IsDue c bytes due → HasOwn due
unfolding IsDue
statuses (Run places crew) bytes due h = sized INPUT_BYTES (IsDueElastic places) bytes due (elastic places bytes due) h
statuses (Seq places) bytes due h = sized INPUT_BYTES (IsDueElastic places) bytes due (elastic places bytes due) h
statuses (Trace places crew) bytes due h = sized INPUT_BYTES (IsDueScripted (Traces places crew)) bytes due (scripted (Traces places crew) bytes due) h
statuses (Save crew) bytes due h = sized INPUT_BYTES (IsDueScripted (Reports Point)) bytes due (scripted (Reports Point) bytes due) h
statuses (Resume places crew) bytes due h = sized LONG_INPUT_BYTES (IsDueResumed (Reports (Listing places))) bytes due (resumed (Reports (Listing places)) bytes due) h
statuses (Replay show crew) bytes due h = sized LONG_INPUT_BYTES (IsDueReplayed show crew) bytes due (replayed show crew bytes due) h
statuses Check bytes due h = sized INPUT_BYTES (λ b. IsDueService (λ tree a. a ≡ approval) (service_of b)) bytes due (service (λ tree a. a ≡ approval) (service_of bytes) due (λ tree k. approves due k)) h
statuses Code bytes due h = sized INPUT_BYTES (λ b. IsDueService IsListedCode (service_of b)) bytes due (service IsListedCode (service_of bytes) due (λ tree k. of_answer due _ k.due_is refl)) h
statuses Print bytes due h = sized INPUT_BYTES (λ b. IsDueService IsPrinted (service_of b)) bytes due (service IsPrinted (service_of bytes) due (λ tree k. of_answer due _ k.due_is refl)) h
statuses (Gen n) bytes due h = of_answer due _ h refl
statuses (Load n crew) bytes due h = sized INPUT_BYTES (IsDueScripted (Reports Summary)) (load_text n) due (scripted (Reports Summary) (load_text n) due) h
