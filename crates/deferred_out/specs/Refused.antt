-- What a refusal hands back.
use Rattle.wave_base.specs.declared.call.Call.{Call}
use Rattle.wave_base.specs.declared.call.Message.{Message}
use Rattle.deferred_out.specs.declared.outputs.SendError.{SendError}
use Rattle.deferred_out.specs.declared.outputs.SendError.TheVariants as s
use Rattle.deferred_out.specs.declared.outputs.SpawnError.{SpawnError}
use Rattle.deferred_out.specs.declared.outputs.SpawnError.TheVariants as c

abbrev pub message_of : SendError → Message
message_of (s.Sends m) = m
message_of (s.OutOfMemory m refused) = m

abbrev pub call_of : SpawnError → Call
call_of (c.Generation x) = x
call_of (c.Spawns x) = x
call_of (c.OutOfMemory x refused) = x
