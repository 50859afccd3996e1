-- What the passes know that a team begins with.
use Rattle.std.proofs.Common.{◌≡◌, ◌∙◌, ◌+◌, ◌<◌, ℕ, refl, sym, ap, subst}
use Rattle.wave_base.specs.declared.numbers.Worker.{Worker}
use Rattle.kept_lock.specs.declared.view.Known.{Known}
use Rattle.kept_lock.specs.Knowing.{counted_on, next_pass}
use Rattle.wave_board.specs.declared.origin.Origin.{Origin}
use Rattle.wave_board.specs.declared.trail.Trail.{Trail}
use Rattle.wave_board.specs.Taking.{AreEven}
use Rattle.host_workers.specs.Passes.{IsReady, NoHalts}
use Rattle.host_workers.proofs.Entries.{no_halts_yet}

module _ (o : Origin) (k k' : Known Trail) where
  -- the first pass, when it was split
  pub split_ready : IsReady o k (record { 0 = 0 }) → k' ≡ counted_on k → IsReady o k' (record { 0 = 0 })
  split_ready r e = record {
    number = ap (λ (x : Known Trail). x.number) e ∙ r.number;
    is_worker = r.is_worker;
    even = subst AreEven (sym (ap (λ (x : Known Trail). x.made) e)) r.even;
    no_halts = subst NoHalts (sym (ap (λ (x : Known Trail). x.made) e)) r.no_halts;
  }

  -- and the new one
  pub next_ready : (w : Worker) → k' ≡ next_pass k → k.passes ≡ w.0 → w.0 < o.plan.now.workers → IsReady o k' w
  next_ready w e count is_worker = record {
    number = ap (λ (x : Known Trail). x.number) e ∙ count;
    is_worker = is_worker;
    even = subst AreEven (sym (ap (λ (x : Known Trail). x.made) e)) refl;
    no_halts = subst NoHalts (sym (ap (λ (x : Known Trail). x.made) e)) no_halts_yet;
  }

pub split_counts : (k k' : Known Trail) (n : ℕ) → k' ≡ counted_on k → k.passes ≡ n → k'.passes ≡ n + 1
split_counts k k' n e count = ap (λ (x : Known Trail). x.passes) e ∙ ap (λ (m : ℕ). m + 1) count
