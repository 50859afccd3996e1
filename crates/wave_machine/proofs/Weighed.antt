-- The weight after a label: the list is never longer, and there is room.
use Rattle.std.proofs.Common.{◌≡◌, ℕ, ◌+◌, ◌-◌, ◌≤◌, arith}
use Rattle.wave_states.specs.Labels.{Label, ticket_of}
use Rattle.wave_machine.specs.declared.listed.Listed.{Listed}
use Rattle.wave_machine.specs.declared.listed.Seen.{Seen}
use Rattle.wave_effects.specs.Keeping.{kept_of}
use Rattle.wave_effects.specs.Machines.{Kept}
use Rattle.wave_machine.specs.inner.Index.{share_at, weight_of}
use Rattle.wave_machine.specs.inner.Updating.{Updating}
use Rattle.wave_machine.proofs.Weighing.{share_grows, share_within, weight_moves}

pub record Weighed (x : Listed) (seen : Seen) (share more : ℕ) : Type 0 where
  pub part : seen.share ≤ x.weight
  pub bound : x.weight - seen.share + share ≤ x.weight + more + 2
  pub keeps : weight_of (kept_of x.engine).cells ≤ x.weight - seen.share + share
  pub small : weight_of (kept_of x.engine).cells ≤ x.weight + more + 2

pub weighed : (m : Kept) (x : Listed) (l : Label) (seen : Seen) (more share : ℕ) → Updating m x l seen more → share ≡ share_at (kept_of x.engine) (ticket_of l.act) → Weighed x seen share more
weighed m x l seen more share up e =
    let m' = kept_of x.engine in
    let t = ticket_of l.act in
    let whole : weight_of m'.cells + share_at m t ≡ weight_of m.cells + share_at m' t = weight_moves m m' l more up.taken.moves up.taken.grows in
    let grows : share_at m' t ≤ share_at m t + more + 2 = share_grows m m' l more up.taken.moves up.taken.grows in
    let within : share_at m t ≤ weight_of m.cells = share_within m t in
    let saw : seen.share ≡ share_at m t = up.taken.sees.share in
    let weight : weight_of m.cells ≤ x.weight = up.weight in
    let part : seen.share ≤ x.weight = omega (arith, within, saw, weight) in
    record {
      part = part;
      bound = omega (arith, part, grows, saw, e);
      keeps = omega (arith, part, whole, saw, e, weight, within);
      small = omega (arith, whole, grows, saw, e, weight, within);
    }
