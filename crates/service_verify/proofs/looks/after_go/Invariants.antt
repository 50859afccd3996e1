use Rattle.std.proofs.Common.{◌≡◌, ◌≤◌, ◌+◌, if◌then◌else◌, drop}
use Rattle.std.specs.List.{list_any}
use Rattle.service_verify.specs.Looks.{is_go, after_go}
use Rattle.service_verify.proofs.looks.after_go.Given as goal

-- the place after the last Go so far, where no other one comes
abbrev pub invariant-loop-n : goal.invariant-loop-n
invariant-loop-n l = (l.after ≤ l.n) × (after_go l.fn.code ≡ (if list_any is_go (drop l.n l.fn.code) then l.n + after_go (drop l.n l.fn.code) else l.after))
