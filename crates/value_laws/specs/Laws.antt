-- What stays within the limits: what operators give, what calls and scripts do, and what is read from texts.
use Rattle.std.specs.Prelude.{◌≡◌, ℕ, List, Ok}
use Rattle.wave_base.specs.declared.call.Call.{Call}
use Rattle.wave_base.specs.declared.script.Script.{Script}
use Rattle.wave_base.specs.declared.shape.Shape.{Shape}
use Rattle.wave_base.specs.declared.start.Start.{Start}
use Rattle.wave_base.specs.declared.value.Value.{Value}
use Rattle.wave_base.specs.Tree.{Tree}
use Rattle.mace_ast.specs.Decls.{ServiceTree}
use Rattle.service_reader.specs.Parsing.{Parses}
use Rattle.script_reader.specs.declared.earlier.Earlier.{Earlier}
use Rattle.script_reader.specs.Scripts.{IsScriptOf}
use Rattle.value_ops.specs.Operators.{apply_row}
use Rattle.resolved_service.specs.declared.service.Resolved.{Resolved}
use Rattle.type_rules.specs.Known.{shape_of}
use Rattle.type_rules.specs.Services.{resolve_service}
use Rattle.type_rules.specs.Views.{resolved_view}
use Rattle.snapshot_text.specs.Shots.{IsValue}
use Rattle.wave_meaning.specs.Meaning.{call_ran, results_at}
use Rattle.value_laws.specs.Services.{BoundedService}
use Rattle.value_laws.specs.Values.{AreValues, BoundedCall, BoundedContexts, BoundedFinished, BoundedRan, BoundedScript, BoundedShape, BoundedStart}

-- what a row gives of values is a value
abbrev pub OperatorsAreBounded : Type 0
OperatorsAreBounded = (row : ℕ) (operands : List Value) (given : Value) → AreValues operands → apply_row row operands ≡ Ok given → IsValue given

-- a call on bounded contexts leaves such contexts, and tells, sends and creates nothing else
abbrev pub CallsAreBounded : Resolved → Type 0
CallsAreBounded service = (tree : Tree (List Value)) (call : Call) → BoundedContexts tree → BoundedCall call → BoundedRan (call_ran service tree call)

-- and so does a script
abbrev pub ScriptsAreBounded : Shape → Resolved → Type 0
ScriptsAreBounded shape service = (start : Start) (script : Script) → BoundedStart start → BoundedScript script → BoundedFinished (results_at shape service start script)

-- ---- what is read

-- a service that was read from a text, with each name resolved, is bounded, and so is what its contexts begin with
abbrev pub ReadServicesAreBounded : Type 0
ReadServicesAreBounded = (text : List ℕ) (tree : ServiceTree) (service : Resolved) → Parses text (Ok tree) → resolved_view service ≡ resolve_service tree → BoundedShape (shape_of tree) × BoundedService service

-- and so is a script, whatever stands before it
abbrev pub ReadScriptsAreBounded : Type 0
ReadScriptsAreBounded = (shape : Shape) (earlier : Earlier) (text : List ℕ) (script : Script) → IsScriptOf shape earlier text (Ok script) → BoundedScript script
