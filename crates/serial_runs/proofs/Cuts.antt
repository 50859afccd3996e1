-- A journal is cut at a label, and each label is taken by its context's owner.
use Rattle.std.proofs.Common.{◌≡◌, ℕ, inl, inr, Option, Some, None, List, [], ◌∷◌, ◌++◌, refl, ◌∙◌, ap}
use Rattle.std.specs.Prelude.{nat_lt, option_and_then}
use Rattle.wave_base.specs.declared.path.Path.{Path}
use Rattle.wave_states.specs.Actors.{Actors}
use Rattle.wave_states.specs.States.{State, Hand, Mark}
use Rattle.wave_states.specs.Labels.{Act, Label, Admit, Queue, Grant, Start, Stop, Free, Pass, Land, Commit}
use Rattle.wave_states.specs.Labels
use Rattle.wave_states.specs.Steps.{Bench, Part, act_bench, pass, part_of, step, step_by}
use Rattle.wave_states.specs.Runs.{run}
use Rattle.wave_states.specs.Kinds.{Kind}
use Rattle.wave_states.specs.Begins.{Begin, start_state}
use Rattle.wave_theory.specs.Owners.{OwnerTakes}
use Rattle.wave_theory.proofs.Basics.{if_some, map_some, none_not, then_some}
use Rattle.wave_theory.proofs.Opened.{passes}
use Rattle.serial_runs.specs.Journals.{OwnsBeside, IsTakenBy}

module _ {A F R J : Type 0} (sys : Actors A F R J) (workers : ℕ) where
  -- the states just before a label of a run, and just after it
  pub record Cut (s : State A F R J) (before : List Label) (l : Label) (after : List Label) (v : State A F R J) : Type 0 where
    pub found : State A F R J
    pub left : State A F R J
    pub reached : run sys workers s before ≡ Some found
    pub taken : step sys workers found l ≡ Some left
    pub goes_on : run sys workers left after ≡ Some v

  pub cut : (s : State A F R J) (before : List Label) (l : Label) (after : List Label) (v : State A F R J) → run sys workers s (before ++ l ∷ after) ≡ Some v → Cut s before l after v
  unfolding run
  cut s [] l after v e = (let u = then_some (λ u. run sys workers u after) (step sys workers s l) v e in record { found = s; left = u.0; reached = refl; taken = u.1; goes_on = u.2 })
  cut s (m ∷ ms) l after v e =
      let u = then_some (λ u. run sys workers u (ms ++ l ∷ after)) (step sys workers s m) v e in
      let c = cut u.0 ms l after v u.2 in
      record { found = c.found; left = c.left; reached = ap (option_and_then (λ u. run sys workers u ms)) u.1 ∙ c.reached; taken = c.taken; goes_on = c.goes_on }

  -- a Pass finds a mark at its host
  pass_in : (host t k : ℕ) (p : Path) (g : ℕ) (x : Part A F R) (o : Option (Hand A F)) (y : Bench A F R) → act_bench sys (Pass t k p g) host x o ≡ Some y → (z : Part A F R) × (pass k p g host x ≡ Some z)
  pass_in host t k p g x None y e = (let m = map_some _ (pass k p g host x) y e in (m.0, m.1))
  pass_in host t k p g x (Some h) y e = absurd (none_not e)

  pass_mark : (s v : State A F R J) (w host t k : ℕ) (p : Path) (g : ℕ) → step_by sys s w host (Pass t k p g) ≡ Some v → (m : Mark) × ((s.columns p).gone host ≡ Some m)
  pass_mark s v w host t k p g e =
      let y = map_some _ (act_bench sys (Pass t k p g) host (part_of s t p) (s.hands w)) v e in
      let z = pass_in host t k p g (part_of s t p) (s.hands w) y.0 y.1 in
      let m = passes k g p host (part_of s t p) z.0 z.1 in (m.mark, m.mark_is)

module _ {A F R J : Type 0} (kind : Kind A F R J) (workers : ℕ) where
  beside : (s v : State A F R J) (w host : ℕ) (a : Act) → step_by kind.system s w host a ≡ Some v → OwnerTakes kind s v a host → OwnsBeside s v a host
  beside s v w host (Admit t) e o = tt
  beside s v w host (Commit t) e o = tt
  beside s v w host (Pass t k p g) e o = pass_mark kind.system workers s v w host t k p g e
  beside s v w host (Stop t p) e o = inl o.0
  beside s v w host (Queue t k p) e o = inr o
  beside s v w host (Grant t p) e o = inr o
  beside s v w host (Labels.Visit t k p) e o = inr o
  beside s v w host (Start t p) e o = inr o
  beside s v w host (Free t k p) e o = inr o
  beside s v w host (Land t k p) e o = inr o

  pub taken_by : (b : Begin F) (batches : List (List J)) (before : List Label) (l : Label) (after : List Label) (s : State A F R J) → (c : Cut kind.system workers (start_state b batches) before l after s) → OwnerTakes kind c.found c.left l.act l.host → IsTakenBy kind workers b batches before l after s
  unfolding step
  taken_by b batches before l after s c o = record {
    found = c.found;
    left = c.left;
    reached = c.reached;
    taken = c.taken;
    goes_on = c.goes_on;
    owned = beside c.found c.left l.worker l.host l.act (if_some (nat_lt l.worker workers) (step_by kind.system c.found l.worker l.host l.act) c.left c.taken).1 o;
  }
