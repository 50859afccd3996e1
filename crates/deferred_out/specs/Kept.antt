-- What an event sent and created so far.
use Rattle.std.specs.Prelude.{◌≤◌, List, [], ◌∷◌, ◌++◌, length}
use Rattle.wave_base.specs.declared.call.Call.{Call}
use Rattle.wave_base.specs.declared.call.Message.{Message}
use Rattle.wave_base.specs.declared.limits.TheConstants.{MESSAGES, SPAWNS}

pub record Kept : Type 0 where
  pub messages : List Message
  pub created : List Call

abbrev pub nothing : Kept
nothing = record { messages = []; created = [] }

abbrev pub with_message : Kept → Message → Kept
with_message k m = record { messages = k.messages ++ m ∷ []; created = k.created }

abbrev pub with_call : Kept → Call → Kept
with_call k c = record { messages = k.messages; created = k.created ++ c ∷ [] }

-- at most 64 messages and 4 created calls
pub record IsKept (k : Kept) : Type 0 where
  pub few_messages : length k.messages ≤ MESSAGES
  pub few_created : length k.created ≤ SPAWNS
