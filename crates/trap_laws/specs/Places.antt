-- Where the traps of a service that was read from a text stand.
use Rattle.std.specs.Prelude.{◌≡◌, ◌≢◌, ℕ, List, Ok, Contains}
use Rattle.wave_base.specs.declared.call.Call.{Call}
use Rattle.wave_base.specs.declared.outcome.EventResult.{EventResult}
use Rattle.wave_base.specs.declared.outcome.Outcome.TheVariants.{Trapped}
use Rattle.wave_base.specs.declared.script.Script.{Script}
use Rattle.wave_base.specs.declared.shape.Shape.{Shape}
use Rattle.wave_base.specs.declared.span.Span.{Span}
use Rattle.wave_base.specs.declared.start.Start.{Start}
use Rattle.wave_base.specs.declared.trap.Trap.{Trap}
use Rattle.wave_base.specs.declared.value.Value.{Value}
use Rattle.wave_base.specs.Tree.{Tree}
use Rattle.mace_lexer.specs.declared.token.Token.{Token}
use Rattle.mace_lexer.specs.Lexed.{AreTokens}
use Rattle.mace_ast.specs.Decls.{ServiceTree}
use Rattle.service_reader.specs.Parsing.{Parses}
use Rattle.resolved_service.specs.declared.service.Resolved.{Resolved}
use Rattle.resolved_service.specs.Meaning.{nowhere}
use Rattle.type_rules.specs.Services.{resolve_service}
use Rattle.type_rules.specs.Views.{resolved_view}
use Rattle.trap_laws.specs.Traps.{TrapsBy}
use Rattle.wave_meaning.specs.Meaning.{results_at}

-- the text is read as a tree, of which the service is what it is with each name resolved
pub record IsReadFrom (text : List ℕ) (service : Resolved) : Type 0 where
  pub tree : ServiceTree
  pub parses : Parses text (Ok tree)
  pub resolved : resolved_view service ≡ resolve_service tree

-- a token of the text begins there
pub record BeginsToken (text : List ℕ) (at : Span) : Type 0 where
  pub tokens : List Token
  pub cut : AreTokens text tokens
  pub token : Token
  pub there : Contains tokens token
  pub begins : token.span ≡ at

abbrev pub IsSomewhere : List ℕ → Span → Type 0
IsSomewhere text at = at ≢ nowhere

-- It holds of where each trap of a call stands, of each service that was read from a text.
abbrev pub OfCalls : (List ℕ → Span → Type 0) → Type 0
OfCalls Holds = (text : List ℕ) (service : Resolved) → IsReadFrom text service → (before : Tree (List Value)) (call : Call) (trap : Trap) → TrapsBy service before call trap → Holds text trap.at

-- And of each trap that a script is told to meet, from whatever Start.
abbrev pub OfScripts : (List ℕ → Span → Type 0) → Type 0
OfScripts Holds = (text : List ℕ) (service : Resolved) → IsReadFrom text service → (shape : Shape) (start : Start) (script : Script) (r : EventResult) (trap : Trap)
    → Contains (results_at shape service start script).results r → r.outcome ≡ Trapped trap → Holds text trap.at
