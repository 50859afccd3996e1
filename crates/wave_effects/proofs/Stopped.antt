-- What is known of a Stop that was taken.
use Rattle.std.proofs.Common.{◌≡◌, ◌∙◌, ℕ, ◌&&◌, ◌==◌, Option, Some, None, refl, sym, ap}
use Rattle.wave_base.specs.declared.path.Path.{Path}
use Rattle.wave_base.specs.Paths.{path_eq}
use Rattle.wave_states.specs.Actors.{Actors}
use Rattle.wave_states.specs.Labels.{Stop}
use Rattle.wave_states.specs.States.{Hand, State}
use Rattle.wave_states.specs.Steps.{Bench, Part, act_bench, part_of, step, stop, with_hand}
use Rattle.wave_theory.proofs.Basics.{and_first, and_second, if_some, none_not, number_is, path_is, set_at, some_same}
use Rattle.wave_effects.proofs.Opening.{Left, left_by}

module _ {A F R J : Type 0} (sys : Actors A F R J) (workers : ℕ) (s v : State A F R J) where
  -- what a Stop found in its worker's hand, and that it leaves nothing there
  pub record Stopped (w t : ℕ) (p : Path) : Type 0 where
    pub hand : Hand A F
    pub there : s.hands w ≡ Some hand
    pub ticket : hand.ticket ≡ t
    pub path : hand.path ≡ p
    pub empty : v.hands w ≡ None

  pub stopped_by : (w host t : ℕ) (p : Path) → step sys workers s (record { worker = w; host = host; act = Stop t p }) ≡ Some v → Stopped w t p
  stopped_by w host t p e = by_hand (s.hands w) refl left.found
    where
      left : Left sys workers s v (record { worker = w; host = host; act = Stop t p })
      left = left_by sys workers s v (record { worker = w; host = host; act = Stop t p }) refl e

      none_left : (o : Option (Part A F R)) (y : Bench A F R) → with_hand None o ≡ Some y → y.hand ≡ None
      none_left None y k = absurd (none_not k)
      none_left (Some x) y k = ap (λ (b : Bench A F R). b.hand) (sym (some_same (record { part = x; hand = None }) y k))

      by_hand : (o : Option (Hand A F)) → s.hands w ≡ o → act_bench sys (Stop t p) host (part_of s t p) o ≡ Some left.bench → Stopped w t p
      by_hand None at k = absurd (none_not k)
      by_hand (Some g) at k =
          let r = if_some ((g.ticket == t) && path_eq g.path p) (with_hand None (stop sys p host g (part_of s t p))) left.bench k in
          record {
            hand = g;
            there = at;
            ticket = number_is g.ticket t (and_first (g.ticket == t) (path_eq g.path p) r.0);
            path = path_is g.path p (and_second (g.ticket == t) (path_eq g.path p) r.0);
            empty = ap (λ (x : State A F R J). x.hands w) (sym left.gives) ∙ set_at s.hands w left.bench.hand ∙ none_left (stop sys p host g (part_of s t p)) left.bench r.1;
          }
