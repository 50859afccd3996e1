-- What a label of one context found and left.
use Rattle.std.proofs.Common.{◌≡◌, ◌∙◌, ℕ, true, Option, Some, None, refl, sym, ap}
use Rattle.std.specs.Prelude.{option_map, nat_lt}
use Rattle.wave_base.specs.declared.path.Path.{Path}
use Rattle.wave_states.specs.Actors.{Actors}
use Rattle.wave_states.specs.Labels.{Label, Queue, Grant, Visit, Free, Pass, Land, ticket_of, path_of, is_local}
use Rattle.wave_states.specs.States.{State, Hand}
use Rattle.wave_states.specs.Steps.{Bench, Part, act_bench, part_of, with_bench, with_hand, calm, step}
use Rattle.wave_theory.proofs.Basics.{none_not, if_some}
use Rattle.wave_theory.proofs.Reading.{step_local}

map_some : {X Y : Type 0} (f : X → Y) (o : Option X) (y : Y) → option_map f o ≡ Some y → (x : X) × (o ≡ Some x) × (f x ≡ y)
map_some f None y e = absurd (none_not e)
map_some f (Some x) y e = (x, refl, same (f x) y e)
  where
    same : {Y : Type 0} (a b : Y) → Some a ≡ Some b → a ≡ b
    same a b h = cc

module _ {A F R J : Type 0} (sys : Actors A F R J) (workers : ℕ) (s s' : State A F R J) where
  pub record Left (l : Label) : Type 0 where
    pub worker : nat_lt l.worker workers ≡ true
    pub bench : Bench A F R
    pub found : act_bench sys l.act l.host (part_of s (ticket_of l.act) (path_of l.act)) (s.hands l.worker) ≡ Some bench
    pub gives : with_bench s (ticket_of l.act) (path_of l.act) l.worker bench ≡ s'

  pub left_by : (l : Label) → is_local l.act ≡ true → step sys workers s l ≡ Some s' → Left l
  left_by l z e =
      let i = if_some (nat_lt l.worker workers) _ s' (sym (step_local sys workers s l z) ∙ e) in
      let m = map_some (λ y. with_bench s (ticket_of l.act) (path_of l.act) l.worker y) (act_bench sys l.act l.host (part_of s (ticket_of l.act) (path_of l.act)) (s.hands l.worker)) s' i.1 in
      record { worker = i.0; bench = m.0; found = m.1; gives = m.2 }

module _ {A F R J : Type 0} (sys : Actors A F R J) (host : ℕ) (x : Part A F R) (y : Bench A F R) where
  -- a label that leaves the hand: it was empty, and is
  pub record Calm (o : Option (Hand A F)) (found : Option (Part A F R)) : Type 0 where
    pub idle : o ≡ None
    pub part : found ≡ Some y.part
    pub hand : y.hand ≡ None

  calm_by : (found : Option (Part A F R)) → with_hand None found ≡ Some y → Calm None found
  calm_by found e =
      let m = map_some {X = Part A F R} {Y = Bench A F R} (λ z. record { part = z; hand = None }) found y e in
      record { idle = refl; part = m.1 ∙ ap (λ (b : Bench A F R). Some b.part) m.2; hand = ap (λ (b : Bench A F R). b.hand) (sym m.2) }

  module _ (t k : ℕ) (p : Path) where
    pub visit_found : (o : Option (Hand A F)) → act_bench sys (Visit t k p) host x o ≡ Some y → Calm o (calm sys (Visit t k p) host x)
    visit_found None e = calm_by (calm sys (Visit t k p) host x) e
    visit_found (Some g) e = absurd (none_not e)

    pub free_found : (o : Option (Hand A F)) → act_bench sys (Free t k p) host x o ≡ Some y → Calm o (calm sys (Free t k p) host x)
    free_found None e = calm_by (calm sys (Free t k p) host x) e
    free_found (Some g) e = absurd (none_not e)

    pub queue_found : (o : Option (Hand A F)) → act_bench sys (Queue t k p) host x o ≡ Some y → Calm o (calm sys (Queue t k p) host x)
    queue_found None e = calm_by (calm sys (Queue t k p) host x) e
    queue_found (Some g) e = absurd (none_not e)

    pub land_found : (o : Option (Hand A F)) → act_bench sys (Land t k p) host x o ≡ Some y → Calm o (calm sys (Land t k p) host x)
    land_found None e = calm_by (calm sys (Land t k p) host x) e
    land_found (Some g) e = absurd (none_not e)

    pub pass_found : (g : ℕ) (o : Option (Hand A F)) → act_bench sys (Pass t k p g) host x o ≡ Some y → Calm o (calm sys (Pass t k p g) host x)
    pass_found g None e = calm_by (calm sys (Pass t k p g) host x) e
    pass_found g (Some h) e = absurd (none_not e)

    pub grant_found : (o : Option (Hand A F)) → act_bench sys (Grant t p) host x o ≡ Some y → Calm o (calm sys (Grant t p) host x)
    grant_found None e = calm_by (calm sys (Grant t p) host x) e
    grant_found (Some g) e = absurd (none_not e)
