-- Want of memory: there is one value that says it.
use Rattle.std.specs.Prelude.{}
use Rattle.wave_base.specs.declared.memory.OutOfMemory.{OutOfMemory}

abbrev pub the_refusal : OutOfMemory
the_refusal = record { refused = tt }
