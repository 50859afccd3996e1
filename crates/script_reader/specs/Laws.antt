-- Two scripts, one behind the other.
use Rattle.std.specs.Prelude.{ℕ, List, ◌∷◌, ◌++◌, codes}
use Rattle.wave_base.specs.declared.script.Script.{Script}

-- the first text, a line `settle`, and the second text
abbrev pub joined_text : List ℕ → List ℕ → List ℕ
joined_text first second = first ++ 10 ∷ (codes "settle" ++ 10 ∷ second)

-- the batches of both; the second says no number of hosts, and has that of the first
abbrev pub joint_script : Script → Script → Script
joint_script first second = record { hosts = second.hosts; batches = first.batches ++ second.batches }
